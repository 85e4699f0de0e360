-- Sentences of 02, [4], that can be read in two ways. In the table are lists from the start that tell the readings apart, with every answer and
-- record up to 1000 by the reading that is taken. (Checked: proofs/NoteReadings.antt, where the sound states are too.)
use Rattle.std.specs.Prelude.{ℕ, false, List, [], ◌∷◌}
use Rattle.rules.specs.declared.parameters.Params.{Params}
use Rattle.rules.specs.declared.input.Force.TheVariants.{On}
use Rattle.rules.specs.declared.input.Event.TheVariants.{Failure, Return}
use Rattle.rules.specs.declared.input.Input.TheVariants.{SwitchOnOffForced, NightMode, Bus, Power}
use Rattle.rules.specs.declared.record.Record.{Record}
use Rattle.rules.specs.Calls.{no_scenes}
use Rattle.rules.specs.Lists.{Cue, cue, Played, play_list}
use Rattle.rules.specs.Worked.{Shown, rec, on_at, force_off_at, release_at, lock_at, unlock_at, night_at}

-- TimedOn 600, Prewarning 100, no other delay; BehaviourAtLocking and BehaviourAtUnlocking; the other modes are 0
abbrev pub holding : ℕ → ℕ → Params
holding locking unlocking =
    record { version = 1; ondelay = 0; offdelay = 0; timedon = 600; prewarning = 100; locking = locking; unlocking = unlocking; busfailure = 0; busreturn = 0; powerreturn = 0; learning = false }

abbrev pub keeps : Params
keeps = holding 0 0

abbrev pub force_on_at : ℕ → Cue
force_on_at t = cue t (SwitchOnOffForced On)

abbrev day_at : ℕ → Cue
day_at t = cue t (NightMode false)

-- a case: the parameters, the cues, and what they show
pub record NoteCase : Type 0 where
  pub params : Params
  pub cues : List Cue
  pub shows : Shown

abbrev case : Params → List Cue → List ℕ → List Record → NoteCase
case params cues answers records = record { params = params; cues = cues; shows = record { answers = answers; records = records } }

-- what the rules show of them
unfoldable pub note_played : NoteCase → Shown
note_played c =
    let run : Played = play_list c.params no_scenes c.cues 1000 in
    record { answers = run.answers; records = run.records }

unfoldable pub note_cases : List NoteCase
note_cases =
    -- "must hold at its release": the time runs from the release. Force On 10, night 20 (answer 6), release 30: dark at 730
    case keeps (force_on_at 10 ∷ night_at 20 ∷ release_at 30 ∷ [])
    (0 ∷ 6 ∷ 0 ∷ []) (rec 0 0 1 0 ∷ rec 10 255 5 4 ∷ rec 20 255 13 6 ∷ rec 30 255 25 4 ∷ rec 730 0 9 0 ∷ []) ∷
    -- "a force value under lock": no control is one too. Force On 0, lock 10, force 0 at 20 (answer 6), unlock 30 with unlocking off: dark at 30
    case (holding 0 1) (force_on_at 0 ∷ lock_at 10 ∷ release_at 20 ∷ unlock_at 30 ∷ [])
    (0 ∷ 0 ∷ 6 ∷ 0 ∷ []) (rec 0 0 1 0 ∷ rec 0 255 5 4 ∷ rec 10 255 7 5 ∷ rec 20 255 3 4 ∷ rec 30 0 1 5 ∷ []) ∷
    -- "act by 01's rules on the noted values": no force stands at the unlock, so BehaviourAtUnlocking decides, as before locking: on
    case (holding 1 3) (force_on_at 0 ∷ lock_at 10 ∷ release_at 20 ∷ unlock_at 30 ∷ [])
    (0 ∷ 0 ∷ 6 ∷ 0 ∷ []) (rec 0 0 1 0 ∷ rec 0 255 5 4 ∷ rec 10 0 7 5 ∷ rec 20 0 3 4 ∷ rec 30 255 1 5 ∷ []) ∷
    -- "keeps its last value": the newest force decides at the unlock. Force On 0, lock 10, force Off 20 (answer 6, and no bit changes), unlock 30: dark
    case keeps (force_on_at 0 ∷ lock_at 10 ∷ force_off_at 20 ∷ unlock_at 30 ∷ [])
    (0 ∷ 0 ∷ 6 ∷ 0 ∷ []) (rec 0 0 1 0 ∷ rec 0 255 5 4 ∷ rec 10 255 7 5 ∷ rec 30 0 5 5 ∷ []) ∷
    -- "a force value under lock" alone: under another force it is taken. Force Off 0, force On 5: lit at 5
    case keeps (force_off_at 0 ∷ force_on_at 5 ∷ [])
    (0 ∷ 0 ∷ []) (rec 0 0 1 0 ∷ rec 0 0 5 4 ∷ rec 5 255 5 4 ∷ []) ∷
    -- "noted and different; a noted equal value answers 1": against the value held, not by whether a record is written
    case keeps (lock_at 0 ∷ force_on_at 5 ∷ force_on_at 6 ∷ force_off_at 7 ∷ release_at 8 ∷ release_at 9 ∷ day_at 10 ∷ night_at 11 ∷ night_at 12 ∷ [])
    (0 ∷ 6 ∷ 1 ∷ 6 ∷ 6 ∷ 1 ∷ 1 ∷ 6 ∷ 1 ∷ []) (rec 0 0 1 0 ∷ rec 0 0 3 5 ∷ rec 5 0 7 4 ∷ rec 8 0 3 4 ∷ rec 11 0 11 6 ∷ []) ∷
    -- "Bus and power down still drop", and come first: lock 0, bus failure 10, night 20 (answer 4), return 25, unlock 30: no night
    case keeps (lock_at 0 ∷ cue 10 (Bus Failure) ∷ night_at 20 ∷ cue 25 (Bus Return) ∷ unlock_at 30 ∷ [])
    (0 ∷ 0 ∷ 4 ∷ 0 ∷ 0 ∷ []) (rec 0 0 1 0 ∷ rec 0 0 3 5 ∷ rec 30 0 1 5 ∷ []) ∷
    -- "under lock or force": whichever stands, one after the other. Force On 0, night 5, lock 10, force 0 at 20, unlock 30: dark at 730
    case keeps (force_on_at 0 ∷ night_at 5 ∷ lock_at 10 ∷ release_at 20 ∷ unlock_at 30 ∷ [])
    (0 ∷ 6 ∷ 0 ∷ 6 ∷ 0 ∷ []) (rec 0 0 1 0 ∷ rec 0 255 5 4 ∷ rec 5 255 13 6 ∷ rec 10 255 15 5 ∷ rec 20 255 11 4 ∷ rec 30 255 25 5 ∷ rec 730 0 9 0 ∷ []) ∷
    -- "From now on": in version 1 too. On 0, lock 10, night 20, unlock 30: dark at 730
    case keeps (on_at 0 ∷ lock_at 10 ∷ night_at 20 ∷ unlock_at 30 ∷ [])
    (0 ∷ 0 ∷ 6 ∷ 0 ∷ []) (rec 0 0 1 0 ∷ rec 0 255 1 1 ∷ rec 10 255 3 5 ∷ rec 20 255 11 6 ∷ rec 30 255 25 5 ∷ rec 730 0 9 0 ∷ []) ∷
    -- the other kinds are dropped as before. Lock 0, On 5 (answer 3), unlock 6: dark
    case keeps (lock_at 0 ∷ on_at 5 ∷ unlock_at 6 ∷ [])
    (0 ∷ 3 ∷ 0 ∷ []) (rec 0 0 1 0 ∷ rec 0 0 3 5 ∷ rec 6 0 1 5 ∷ []) ∷
    -- a power failure clears what was noted, as it clears all else
    case keeps (lock_at 0 ∷ force_on_at 5 ∷ night_at 6 ∷ cue 10 (Power Failure) ∷ cue 20 (Power Return) ∷ [])
    (0 ∷ 6 ∷ 6 ∷ 0 ∷ 0 ∷ []) (rec 0 0 1 0 ∷ rec 0 0 3 5 ∷ rec 5 0 7 4 ∷ rec 6 0 15 6 ∷ rec 10 0 0 8 ∷ rec 20 0 1 8 ∷ []) ∷
    []
