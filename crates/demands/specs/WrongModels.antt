-- Models that document 01 shuts out by name (01, "What may be believed of each call"). Each judges a file as the table does and plays
-- it in a way of its own. What each breaks is proved in proofs/WrongModels.antt.
use Rattle.std.specs.Prelude.{ℕ, List, [], ◌∷◌, ◌++◌, ◌≡◌, length, replicate}
use Rattle.rules.specs.declared.state.State.{State}
use Rattle.rules.specs.Status.{record_of, by_itself}
use Rattle.rules.specs.Steps.{fresh}
use Rattle.rules.specs.Lists.{Cue, Played}
use Rattle.rules.specs.Readings.{Reading, cues, bad}
use Rattle.rules.specs.Files.{read_call, params_in, scenes_in}
use Rattle.rules.specs.Runs.{Whole, play_file, accepted, refused, run_call}
use Rattle.demands.specs.Demands.{Model, OfEveryAccepted, records_of}

unfoldable pub played_by : (List ℕ → List Cue → Played) → Reading Cue → List ℕ → List ℕ → List ℕ → Whole
played_by play (cues list) file records answers = accepted (play file list) records answers
played_by play (bad why place) file records answers = refused why place records answers

unfoldable pub model_by : (List ℕ → List Cue → Played) → Model
model_by play file records answers = played_by play (read_call file records answers) file records answers

-- ---- "A step that changes nothing falls to the Light half of demand 3"

-- where a step changes nothing, the start record is the only one; end state and answers may be any
abbrev pub StartRecordOnly : Model → Type 0
StartRecordOnly m =
    OfEveryAccepted read_call (λ file records answers list. records_of (m file records answers) ≡ record_of by_itself (fresh (params_in file) (scenes_in file)) ∷ [])

-- as when each input leaves the fresh state as it is and is answered 1
unfoldable pub plays_nothing : List ℕ → List Cue → Played
plays_nothing file list =
    let start : State = fresh (params_in file) (scenes_in file) in
    record { state = start; answers = replicate (length list) 1; records = record_of by_itself start ∷ [] }

-- ---- "one fixed trace [falls] to its two halves together"

-- whatever the file, the same records, answers and end state
unfoldable pub fixed_trace : Played → Model
fixed_trace trace = model_by (λ file list. trace)

-- ---- "One that plays the first input and ignores the rest falls to demand 2 over the whole list"

abbrev first_cue : List Cue → List Cue
first_cue [] = []
first_cue (c ∷ later) = c ∷ []

abbrev ones_for : List Cue → List ℕ
ones_for [] = []
ones_for (c ∷ later) = replicate (length later) 1

-- the first input, then the move to the end; the other inputs are answered 1
unfoldable pub plays_first : List ℕ → List Cue → Played
plays_first file list =
    let first : Played = play_file file (first_cue list) in
    record { state = first.state; answers = first.answers ++ ones_for list; records = first.records }

unfoldable pub first_input_only : Model
first_input_only = model_by plays_first

-- ---- "and so does an invented record count"

abbrev counted : Whole → ℕ → Whole
counted w n = record { report = record { state = w.report.state; code = w.report.code; place = w.report.place; count = n }; records = w.records; answers = w.answers }

-- our run, but for its count
unfoldable pub invented_count : (ℕ → ℕ) → Model
invented_count f file records answers = let w : Whole = run_call file records answers in counted w (f w.report.count)
