-- Where the room for the code's sums comes from: a sound state has it, and a timer leaves it.
use Rattle.std.specs.Prelude.{Some}
use Prim.Native.Nat.{ℕ, ◌≤◌}
use mathlib.Core.Bool.{true}
use mathlib.Core.Path.{◌≡◌}
use native.Mathlib.Omega.{arith}
use Rattle.rules.specs.declared.parameters.Params.{Params}
use Rattle.rules.specs.declared.phase.Phase.{Phase}
use Rattle.rules.specs.declared.state.State.{State}
use Rattle.base.specs.Time.{last_stamp}
use Rattle.rules.specs.Phases.{deadline}
use Rattle.rules.specs.Answers.{due}
use Rattle.rules.specs.Steps.{clock_move}
use Rattle.rules.specs.Soundness.{sound}
use Rattle.rules.proofs.Laws.Deadlines.{times_bounded, due_is}
use Rattle.rules.proofs.Laws.Soundness.{sound_view, due_bounded, move_is_sound}
use Rattle.phases.specs.Room.{Room, Roomy}

-- at an earlier moment
pub room_sooner : (p : Params) (t d : ℕ) → d ≤ t → Room p t → Room p d
room_sooner p t d sooner r =
    record {
      moment = omega (arith, r.moment);
      ondelay = r.ondelay;
      offdelay = r.offdelay;
      timedon = r.timedon;
      prewarning = r.prewarning;
    }

-- at a deadline that is due
pub due_room : (p : Params) (phase : Phase) (t d : ℕ) → deadline phase ≡ Some d → d ≤ t → Room p t → Room p (due phase)
due_room p phase t d at sooner r = rw (due_is phase d at) (room_sooner p t d sooner r)

pub sound_room : (s : State) (t : ℕ) → sound s ≡ true → t ≤ last_stamp → Room s.params t
sound_room s t h b =
    let times = times_bounded s.params (sound_view s h).params in
    record {
      moment = b;
      ondelay = times.ondelay;
      offdelay = times.offdelay;
      timedon = times.timedon;
      prewarning = times.prewarning;
    }

pub sound_roomy : (s : State) → sound s ≡ true → Roomy s.params s.clock s.phase
sound_roomy s h = record { room = sound_room s s.clock h (sound_view s h).clock; deadline = due_bounded s h }

-- and so has the phase after a clock move
pub moved_roomy : (s : State) (t : ℕ) → sound s ≡ true → s.clock ≤ t → t ≤ last_stamp → Roomy s.params t (clock_move s t).state.phase
moved_roomy s t h later b =
    let there = sound_roomy (clock_move s t).state (move_is_sound s t h later b) in
    record { room = sound_room s t h b; deadline = there.deadline }
