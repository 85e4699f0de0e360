-- Every list of the table of readings shows what the rules show of it; which states are sound; and the theorems of what is noted, used.
use mathlib.Core.Bool.{true, false}
use mathlib.Core.Path.{◌≡◌, refl}
use mathlib.Core.List.{[], ◌∷◌, map}
use native.Mathlib.Omega.{arith}
use Rattle.rules.specs.declared.input.Force.TheVariants.{On}
use Rattle.rules.specs.declared.input.Event.TheVariants.{Failure, Return}
use Rattle.rules.specs.declared.input.Input.TheVariants.{SwitchOnOff, TimedStartStop, NumberedSceneControl, Bus, Power}
use Rattle.rules.specs.declared.state.State.{State}
use Rattle.rules.specs.Calls.{no_scenes}
use Rattle.rules.specs.Orders.{power_fails, power_returns, power, forced, locked, unlocking_output, unlocked, lock_device, noted}
use Rattle.rules.specs.Lists.{cue, plays, plays_to, play_list}
use Rattle.rules.specs.Phases.{output}
use Rattle.rules.specs.Promises.{state_at, turns}
use Rattle.rules.specs.Steps.{fresh}
use Rattle.rules.specs.Soundness.{sound}
use Rattle.rules.specs.Worked.{force_off_at, release_at, lock_at, unlock_at, night_at}
use Rattle.demands.specs.Notes.{unnoted, forces_unlocked, SameFromThenOn}
use Rattle.demands.specs.NoteReadings.{keeps, force_on_at, NoteCase, note_played, note_cases}
use Rattle.demands.proofs.Computing.{playing_pairs, calling_pairs}
use Rattle.demands.proofs.Noting.{night_holds_at_the_release, night_holds_at_the_unlock}
use Rattle.demands.proofs.Newest.{only_the_newest_count}

-- what else is opened to play such a list
unfoldable playing_notes : Unit {0}
unfolding playing_pairs play_list plays_to plays forced locked unlocking_output unlocked lock_device power power_fails power_returns noted
playing_notes = tt

pub noted_as_decided : map note_played note_cases ≡ map (λ (c : NoteCase). c.shows) note_cases
unfolding note_cases note_played playing_notes
noted_as_decided = refl

-- ---- sound states: "no rule changes"

abbrev forced_on : State → State
forced_on s = record { params = s.params; scenes = s.scenes; clock = s.clock; night = s.night; lock = s.lock; force = On; link = s.link; atlocking = s.atlocking; atfailure = s.atfailure; phase = s.phase }

abbrev locked_in : State → State
locked_in s = record { params = s.params; scenes = s.scenes; clock = s.clock; night = s.night; lock = true; force = s.force; link = s.link; atlocking = s.atlocking; atfailure = s.atfailure; phase = s.phase }

-- a force that was noted under a lock need not agree with the phase
pub a_noted_force_is_sound_under_a_lock : sound (locked_in (forced_on (fresh keeps no_scenes))) ≡ true
unfolding calling_pairs
a_noted_force_is_sound_under_a_lock = refl

-- and without the lock it must
pub a_force_without_a_lock_agrees_with_the_phase : sound (forced_on (fresh keeps no_scenes)) ≡ false
unfolding calling_pairs
a_force_without_a_lock_agrees_with_the_phase = refl

-- ---- the theorems, used

-- force On 10, night 20, Off 21 and a timed start 22 (dropped), lock 23, force Off 24 and night 25 (noted), unlock 26, release 30: dark from 730 on
pub release_used :
    output (state_at 730 (force_on_at 10 ∷ night_at 20 ∷ cue 21 (SwitchOnOff false) ∷ cue 22 (TimedStartStop true) ∷ lock_at 23 ∷ force_off_at 24 ∷ night_at 25 ∷ unlock_at 26 ∷ release_at 30 ∷ []) (fresh keeps no_scenes)).phase ≡ false
unfolding playing_notes turns
release_used =
    night_holds_at_the_release keeps no_scenes (force_on_at 10 ∷ []) 20 (cue 21 (SwitchOnOff false) ∷ cue 22 (TimedStartStop true) ∷ lock_at 23 ∷ force_off_at 24 ∷ night_at 25 ∷ unlock_at 26 ∷ []) 30 (omega arith)
    record { linked = refl; held = refl } (refl, (refl, (refl, (refl, (refl, (refl, tt)))))) record { linked = refl; unlocked = refl; stands = refl } 730 (omega arith)

-- lock 10, night 20, a scene 21 (dropped), bus failure 22 and return 23, power return 24, unlock 30
pub unlock_used :
    output (state_at 730 (lock_at 10 ∷ night_at 20 ∷ cue 21 (NumberedSceneControl false 5) ∷ cue 22 (Bus Failure) ∷ cue 23 (Bus Return) ∷ cue 24 (Power Return) ∷ unlock_at 30 ∷ []) (fresh keeps no_scenes)).phase ≡ false
unfolding playing_notes turns
unlock_used =
    night_holds_at_the_unlock keeps no_scenes (lock_at 10 ∷ []) 20 (cue 21 (NumberedSceneControl false 5) ∷ cue 22 (Bus Failure) ∷ cue 23 (Bus Return) ∷ cue 24 (Power Return) ∷ []) 30 (omega arith)
    record { linked = refl; held = refl } (refl, (refl, (refl, (refl, tt)))) record { linked = refl; stands = refl; unforced = refl } 730 (omega arith)

-- under a lock, force On 5, night 6, release 7 against night 8: the newest values are night and no force
pub newest_used : let s : State = (plays (lock_at 0 ∷ []) (fresh keeps no_scenes)).state in
    SameFromThenOn (plays (force_on_at 5 ∷ night_at 6 ∷ release_at 7 ∷ []) s).state (plays (night_at 8 ∷ []) s).state
unfolding playing_notes turns unnoted forces_unlocked
newest_used =
    let same =
    only_the_newest_count keeps no_scenes (lock_at 0 ∷ []) (force_on_at 5 ∷ night_at 6 ∷ release_at 7 ∷ []) (night_at 8 ∷ [])
    record { holds = refl; same = refl; within = (refl, (refl, (refl, tt))); unlocked = refl; night = refl; force = refl } in
    same.0
