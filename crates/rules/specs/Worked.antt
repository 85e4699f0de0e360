-- The ten cases that 01 works on paper, as one table: the cues of each case, its answers, and every record of its run, so that
-- "never on" and "on throughout" are said of all moments up to the end, 1000. (Checked: proofs/Promises/Worked.antt.)
use Rattle.std.specs.Prelude.{ℕ, true, false, List, [], ◌∷◌}
use Rattle.rules.specs.declared.parameters.Params.{Params}
use Rattle.rules.specs.declared.input.Force.TheVariants as force
use Rattle.rules.specs.declared.input.Input.TheVariants.{SwitchOnOff, TimedStartStop, SwitchOnOffForced, LockDevice, NightMode}
use Rattle.rules.specs.declared.record.Record.{Record}
use Rattle.base.specs.Time.{tenths}
use Rattle.rules.specs.Calls.{no_scenes}
use Rattle.rules.specs.Lists.{Cue, cue, play_list}

-- "OnDelay 2, OffDelay 5, TimedOn 60, Prewarning 10, unlocking 3, other modes 0."
abbrev pub paper : Params
paper =
    record {
      version = 1;
      ondelay = tenths 2;
      offdelay = tenths 5;
      timedon = tenths 60;
      prewarning = tenths 10;
      locking = 0;
      unlocking = 3;
      busfailure = 0;
      busreturn = 0;
      powerreturn = 0;
      learning = false;
    }

-- stamp, value, attributes, cause
abbrev pub rec : ℕ → ℕ → ℕ → ℕ → Record
rec stamp value attributes cause = record { stamp = stamp; value = value; attributes = attributes; cause = cause }

-- what a run shows
pub record Shown : Type 0 where
  pub answers : List ℕ
  pub records : List Record

-- a case: its cues, and what they show from the start to 1000
pub record Case : Type 0 where
  pub cues : List Cue
  pub shows : Shown

abbrev case : List Cue → List ℕ → List Record → Case
case cues answers records = record { cues = cues; shows = record { answers = answers; records = records } }

-- what the rules show of these cues
unfoldable pub played : List Cue → Shown
played cues =
    let run = play_list paper no_scenes cues 1000 in
    record { answers = run.answers; records = run.records }

-- "On 0" is On at stamp 0, and so for the others
abbrev pub on_at : ℕ → Cue
on_at t = cue t (SwitchOnOff true)

abbrev pub off_at : ℕ → Cue
off_at t = cue t (SwitchOnOff false)

abbrev pub timed_at : ℕ → Cue
timed_at t = cue t (TimedStartStop true)

abbrev pub force_off_at : ℕ → Cue
force_off_at t = cue t (SwitchOnOffForced force.Off)

abbrev pub release_at : ℕ → Cue
release_at t = cue t (SwitchOnOffForced force.Free)

abbrev pub lock_at : ℕ → Cue
lock_at t = cue t (LockDevice true)

abbrev pub unlock_at : ℕ → Cue
unlock_at t = cue t (LockDevice false)

abbrev pub night_at : ℕ → Cue
night_at t = cue t (NightMode true)

unfoldable pub cases : List Case
cases =
    -- (a) On 0: off at 19, on at 20
    case (on_at 0 ∷ []) (0 ∷ []) (rec 0 0 1 0 ∷ rec 20 255 1 0 ∷ []) ∷
    -- (b) On 0, On 15: on at 20
    case (on_at 0 ∷ on_at 15 ∷ []) (0 ∷ 1 ∷ []) (rec 0 0 1 0 ∷ rec 20 255 1 0 ∷ []) ∷
    -- (c) On 0, Off 19: never on
    case (on_at 0 ∷ off_at 19 ∷ []) (0 ∷ 0 ∷ []) (rec 0 0 1 0 ∷ []) ∷
    -- (d) On 0, Off 20: on 20, off 70
    case (on_at 0 ∷ off_at 20 ∷ []) (0 ∷ 0 ∷ []) (rec 0 0 1 0 ∷ rec 20 255 1 0 ∷ rec 70 0 1 0 ∷ []) ∷
    -- (e) On 0, Off 100, Off 140: off 150
    case (on_at 0 ∷ off_at 100 ∷ off_at 140 ∷ []) (0 ∷ 0 ∷ 1 ∷ []) (rec 0 0 1 0 ∷ rec 20 255 1 0 ∷ rec 150 0 1 0 ∷ []) ∷
    -- (f) Timed 0: on 20, off 720
    case (timed_at 0 ∷ []) (0 ∷ []) (rec 0 0 1 0 ∷ rec 20 255 17 0 ∷ rec 720 0 1 0 ∷ []) ∷
    -- (g) Timed 0, Off 700: off 720
    case (timed_at 0 ∷ off_at 700 ∷ []) (0 ∷ 0 ∷ []) (rec 0 0 1 0 ∷ rec 20 255 17 0 ∷ rec 700 255 1 1 ∷ rec 720 0 1 0 ∷ []) ∷
    -- (h) On 0, force Off 50, On 60 (answer 2), release 80: dark from 50
    case (on_at 0 ∷ force_off_at 50 ∷ on_at 60 ∷ release_at 80 ∷ []) (0 ∷ 0 ∷ 2 ∷ 0 ∷ []) (rec 0 0 1 0 ∷ rec 20 255 1 0 ∷ rec 50 0 5 4 ∷ rec 80 0 1 4 ∷ []) ∷
    -- (i) On 0, lock 100, Off 120 (answer 3), unlock 200: on throughout from 20
    case (on_at 0 ∷ lock_at 100 ∷ off_at 120 ∷ unlock_at 200 ∷ []) (0 ∷ 0 ∷ 3 ∷ 0 ∷ []) (rec 0 0 1 0 ∷ rec 20 255 1 0 ∷ rec 100 255 3 5 ∷ rec 200 255 1 5 ∷ []) ∷
    -- (j) On 0, night 100: off 800
    case (on_at 0 ∷ night_at 100 ∷ []) (0 ∷ 0 ∷ []) (rec 0 0 1 0 ∷ rec 20 255 1 0 ∷ rec 100 255 25 6 ∷ rec 800 0 9 0 ∷ []) ∷
    []
