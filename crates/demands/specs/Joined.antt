-- Input by input and timer by timer (demand 2): the run as the public calls by value, joined in order: the fresh state of the file's
-- parameters, a start record, a single input for each eight octets, and a clock move to the end time.
use Rattle.std.specs.Prelude.{ℕ, List, [], ◌∷◌, ◌≡◌, take}
use Rattle.rules.specs.declared.state.State.{State}
use Rattle.rules.specs.declared.call.Move.{Move}
use Rattle.rules.specs.Status.{record_of, by_itself}
use Rattle.rules.specs.Lists.{Cue, Played, and_then, plays}
use Rattle.rules.specs.Calls.{fresh_call, move_call}
use Rattle.rules.specs.Files.{end_time, parameters_in, inputs_in}
use Rattle.rules.specs.Runs.{play_file}
use Rattle.rules.specs.Changes.{groups_in, singles}
use Rattle.demands.specs.Changes.{Part, in_parts, NoPartRefused}

-- what a clock move gave: the records it counts
abbrev pub move_played : Move → Played
move_played r = record { state = r.state; answers = []; records = take r.count r.records }

-- single inputs one after the other, each handed the state that the one before gave, then a clock move
unfoldable pub calls : ℕ → List (List ℕ) → State → Played
calls end octets s = and_then (singles 0 octets s).played (λ x. move_played (move_call x end))

-- none of them is refused
pub record NoneRefused (end : ℕ) (octets : List (List ℕ)) (s : State) : Type 0 where
  pub inputs : (singles 0 octets s).code ≡ 0
  pub move : (move_call (singles 0 octets s).played.state end).code ≡ 0

-- the calls of a whole file
unfoldable pub start_of : List ℕ → State
start_of file = (fresh_call (parameters_in file)).state

unfoldable pub calls_of : List ℕ → Played
calls_of file =
    and_then (record { state = start_of file; answers = []; records = record_of by_itself (start_of file) ∷ [] })
    (calls (end_time file) (groups_in (inputs_in file)))

-- what the run of an accepted file has to do with the public calls
pub record Joined (file : List ℕ) (list : List Cue) : Type 0 where
  pub fresh : (fresh_call (parameters_in file)).code ≡ 0
  pub accepted : NoneRefused (end_time file) (groups_in (inputs_in file)) (start_of file)
  pub joined : play_file file list ≡ calls_of file

-- the same with changes in the place of the single inputs
unfoldable pub changes_of : List ℕ → List Part → Played
changes_of file parts =
    and_then (record { state = start_of file; answers = []; records = record_of by_itself (start_of file) ∷ [] })
    (λ s. and_then (in_parts parts s) (λ x. move_played (move_call x (end_time file))))

-- what the run of an accepted file has to do with its inputs cut into changes: none is refused; all that is played between the start record and the
-- move to the end is theirs; and so the run is the start record, these changes, and that move
pub record InChanges (file : List ℕ) (list : List Cue) (parts : List Part) : Type 0 where
  pub accepted : NoPartRefused parts (start_of file)
  pub played : in_parts parts (start_of file) ≡ plays list (start_of file)
  pub joined : play_file file list ≡ changes_of file parts
