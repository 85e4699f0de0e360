-- What the code hands out is what the definitions of the pair say, by value.
use Rattle.std.specs.Prelude.{Some, None}
use Prim.Native.Nat.{ℕ, ◌≤◌}
use mathlib.Core.Bool.{Bool, true}
use mathlib.Core.List.{List}
use mathlib.Core.Path.{◌≡◌, refl, ◌∙◌}
use native.Mathlib.Omega.{arith}
use lib.ListN.{length, take}
use Rattle.base.specs.Time.{last_stamp}
use Rattle.base.specs.Refusals.{stamp_in_range}
use Rattle.base.proofs.Codes.{timely_exactly_when}
use Rattle.base.proofs.Tests.{and_left}
use Rattle.rules.specs.declared.input.Input.{Input}
use Rattle.rules.specs.declared.input.Input.TheVariants.{SwitchOnOff}
use Rattle.rules.specs.declared.state.State.{State}
use Rattle.rules.specs.declared.record.Record.{Record}
use Rattle.rules.specs.Steps.{clock_move, act, step}
use Rattle.rules.specs.Lists.{still}
use Rattle.rules.specs.Soundness.{sound}
use Rattle.rules.proofs.Laws.Soundness.{move_clock, move_params}
use Rattle.rules.proofs.Laws.Records.{a_move_writes_at_most_two, an_input_writes_at_most_three, used_places, two_of_three}
use Rattle.sensor.specs.declared.signal.Signal.{Signal}
use Rattle.sensor.specs.declared.state.Sensor.{Sensor}
use Rattle.sensor.specs.declared.react.Reaction.{Reaction}
use Rattle.sensor.specs.Reactions.{react}
use Rattle.phases.specs.Room.{Room, Roomy}
use Rattle.phases.proofs.Rooms.{sound_room, moved_roomy}
use Rattle.records.specs.declared.notes.Notes.{Notes}
use Rattle.records.specs.Notes.{notes, added, listed}
use Rattle.records.proofs.Written.{added_first, listed_first, notes_count, used_notes}
use Rattle.timers.specs.declared.clock.Clocked.{Clocked}
use Rattle.timers.specs.Ticks.{clocked}
use Rattle.timers.proofs.Moves.{moved_state, moved_notes, moved_records}
use Rattle.actuator.specs.declared.step.Acted.{Acted}
use Rattle.actuator.specs.declared.step.Acting.{Acting}
use Rattle.actuator.specs.Acts.{acted, acting}
use Rattle.actuator.proofs.Taken.{acting_keeps}
use Rattle.pairs.specs.declared.item.Item.TheVariants.{Plain}
use Rattle.pairs.specs.Pairs.{Pair, pair_of, hears, pair_move, PairStepped, tell, told, pressed, pair_step}
use Rattle.pairs.specs.Calls.{pair_sound, joint_done, joint_move_done}
use Rattle.joined.specs.declared.step.JointStep.{JointStep}
use Rattle.joined.specs.Joints.{joint_step, switched_from, joint_by, move_by}

-- ---- an input of the actuator

pub acted_few : (s : State) (i : Input) (t : ℕ) (d : Acted) → d ≡ acted (step s i t) → d.notes.count ≤ 3
unfolding acted notes
acted_few s i t d e = rw e (an_input_writes_at_most_three s i t)

pub plain_step : (p : Pair) (i : Input) (t : ℕ) (d : Acted) → d ≡ acted (step p.actuator i t) → (after : Sensor) → after ≡ hears (take d.notes.count d.notes.records) p.sensor →
    record { pair = pair_of d.state after; answer = d.answer; notes = d.notes; telegram = None } ≡ joint_step (pair_step p (Plain i) t)
unfolding acted joint_step pair_step
plain_step p i t d e after heard = rw (heard, e, used_notes (step p.actuator i t).records (an_input_writes_at_most_three p.actuator i t)) refl

-- ---- a telegram, where timers wrote these records before it

pub switched_step : (s : State) (z : Sensor) (value : Bool) (d : Acting) → d ≡ acting (act (still s) (SwitchOnOff value)) →
    (timers : Notes) → timers.count ≤ 2 → (l : List Record) → timers ≡ notes l →
    record { pair = pair_of d.state (hears (listed d.note) z); answer = d.answer; notes = added timers d.note; telegram = Some value } ≡ joint_step (switched_from s z l value)
unfolding acting joint_step switched_from tell
switched_step s z value d e timers room l f =
    let x : List Record = (act (still s) (SwitchOnOff value)).records in
    let few = (acting_keeps s (SwitchOnOff value)).1 in
    let fits : length l ≤ 2 = rw (← notes_count l, ← f) room in
    rw (e, f, listed_first x few, added_first l x fits few) refl

-- ---- an edge

module _ (p : Pair) (t : ℕ) (m : Clocked) (e : m ≡ clocked (clock_move p.actuator t)) where
  pub moved_has_room : sound p.actuator ≡ true → p.actuator.clock ≤ t → t ≤ last_stamp → Roomy m.state.params m.state.clock m.state.phase
  unfolding clocked
  moved_has_room h risen timely = rw (e, move_params p.actuator t, move_clock p.actuator t) (moved_roomy p.actuator t h risen timely)

  module _ (h : Sensor) (g : h ≡ hears (take m.notes.count m.notes.records) p.sensor) (x : Signal) (r : Reaction) (f : r ≡ react h x t) where
    -- by a sensor that has heard the timers
    decided : r ≡ react (pair_move p t).pair.sensor x t
    unfolding pair_move
    decided = f ∙ rw (g, moved_records p.actuator t m e) refl

    pub silent_step : r.telegram ≡ None →
        record { pair = pair_of m.state r.sensor; answer = 1; notes = m.notes; telegram = None } ≡ joint_step (pressed p x t)
    unfolding joint_step pressed told tell
    silent_step q = rw (← decided, q, moved_state p.actuator t m e, moved_notes p.actuator t m e) (unfold pair_move in refl)

    pub telling_step : (value : Bool) → r.telegram ≡ Some value → (d : JointStep) →
        ((l : List Record) → m.notes ≡ notes l → d ≡ joint_step (switched_from m.state r.sensor l value)) → d ≡ joint_step (pressed p x t)
    unfolding switched_from pressed told tell
    telling_step value q d switched =
        switched (clock_move p.actuator t).records (moved_notes p.actuator t m e) ∙
        rw (← decided, q, moved_state p.actuator t m e) (unfold pair_move in refl)

-- ---- the calls

pub sound_actuator : (s : State) (z : Sensor) → pair_sound (pair_of s z) ≡ true → sound s ≡ true
unfolding pair_sound
sound_actuator s z h = and_left _ _ (and_left _ _ h)

pub timely_room : (s : State) (z : Sensor) (stamp : ℕ) → pair_sound (pair_of s z) ≡ true → stamp_in_range s.clock stamp ≡ true → Room s.params stamp
timely_room s z stamp h timely = sound_room s stamp (sound_actuator s z h) ((timely_exactly_when s.clock stamp).0 timely).1

pub step_is_done : (t : ℕ) (d : PairStepped) → joint_by 0 t (joint_step d) ≡ joint_done t d
unfolding joint_by joint_step notes joint_done
step_is_done t d = refl

pub move_is_done : (s : State) (z : Sensor) (t : ℕ) → move_by 0 z (clocked (clock_move s t)) ≡ joint_move_done (pair_move (pair_of s z) t)
unfolding move_by clocked notes joint_move_done pair_move
move_is_done s z t =
    let l : List Record = (clock_move s t).records in
    rw (used_places 3 l (omega (arith, a_move_writes_at_most_two s t)), two_of_three l) refl
