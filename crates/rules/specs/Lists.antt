-- A list of stamped inputs, played (01, "Phases" and "Records and the printout").
use Rattle.std.specs.Prelude.{ℕ, List, [], ◌∷◌, ◌++◌}
use Rattle.rules.specs.declared.parameters.Params.{Params}
use Rattle.rules.specs.declared.parameters.Scene.{Scene}
use Rattle.rules.specs.declared.input.Input.{Input}
use Rattle.rules.specs.declared.state.State.{State}
use Rattle.rules.specs.declared.record.Record.{Record}
use Rattle.rules.specs.Status.{record_of, by_itself}
use Rattle.rules.specs.Steps.{Moved, Stepped, fresh, clock_move, act, step}

-- an input and its stamp
pub data Cue : Type 0 where
  cue : ℕ → Input → Cue

-- the state that playing ends in, with the answers and the records that were given on the way, in order
pub record Played : Type 0 where
  pub state : State
  pub answers : List ℕ
  pub records : List Record

-- what was played so far, and then what is played from its state
abbrev pub and_then : Played → (State → Played) → Played
and_then a next =
    let b : Played = next a.state in
    record { state = b.state; answers = a.answers ++ b.answers; records = a.records ++ b.records }

-- nothing was played
abbrev pub unplayed : State → Played
unplayed s = record { state = s; answers = []; records = [] }

-- a clock move alone
abbrev pub moved : Moved → Played
moved m = record { state = m.state; answers = []; records = m.records }

-- one input
abbrev pub stepped : Stepped → Played
stepped d = record { state = d.state; answers = d.answer ∷ []; records = d.records }

-- "Equal stamps keep list order."
unfoldable pub plays : List Cue → State → Played
plays [] s = unplayed s
plays (cue t i ∷ later) s = and_then (stepped (step s i t)) (plays later)

-- "After the last input the clock moves to the end time."
unfoldable pub plays_to : ℕ → List Cue → State → Played
plays_to end cues s = and_then (plays cues s) (λ x. moved (clock_move x end))

-- "One record is written at the start"
abbrev pub start : Params → List Scene → Played
start p scenes = record { state = fresh p scenes; answers = []; records = record_of by_itself (fresh p scenes) ∷ [] }

-- the whole run: the start record, then the cues are played to the end time
unfoldable pub play_list : Params → List Scene → List Cue → ℕ → Played
play_list p scenes cues end = and_then (start p scenes) (plays_to end cues)

-- ---- while the clock stands

-- a state that no timer has led to
abbrev pub still : State → Moved
still s = record { state = s; records = [] }

-- inputs that act one after the other while the clock stands
unfoldable pub acts : List Input → State → Played
acts [] s = unplayed s
acts (i ∷ is) s = and_then (stepped (act (still s) i)) (acts is)
