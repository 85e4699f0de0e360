-- The timers of a clock move, one after the other: their records stand in the lent buffer after those before.
use Prim.Native.Nat.{ℕ, ◌+◌, ◌≤◌}
use mathlib.Core.Bool.{true, false}
use mathlib.Core.List.{List, [], ◌++◌}
use mathlib.Core.Path.{◌≡◌, refl, ap, ◌∙◌}
use lib.ListN.{length, length-append}
use native.Mathlib.Omega.{arith}
use Rattle.rules.specs.declared.parameters.Params.{Params}
use Rattle.rules.specs.declared.parameters.Scene.{Scene}
use Rattle.rules.specs.declared.phase.Phase.{Phase}
use Rattle.rules.specs.declared.state.State.{State}
use Rattle.rules.specs.declared.record.Record.{Record}
use Rattle.rules.specs.Phases.{deadline}
use Rattle.rules.specs.Layout.{record_place}
use Rattle.rules.specs.Steps.{at_moment, clock_move}
use Rattle.rules.specs.Runs.{records_octets}
use Rattle.lamps.specs.declared.lamp.Lamp.{Lamp}
use Rattle.lamps.specs.Lamps.{lamp_of, state_of, alone}
use Rattle.octets.specs.Splice.{splice}
use Rattle.records.specs.Notes.{listed}
use Rattle.timers.specs.Ticks.{timer_of, due_by}
use Rattle.timers.proofs.Moves.{moved_lamp, Running, running_first, running_on, running_last, running_few}
use Rattle.buffers.proofs.Splices.{records_none, records_more}
use Rattle.player.specs.Playing.{MovedBy}

pub record Into (p : Params) (l : Lamp) (t before : ℕ) (records₀ : List ℕ) (now : Phase) (n : ℕ) (records₁ : List ℕ) : Type 0 where
  pub wrote : List Record
  pub running : Running p l t now wrote
  pub count : n ≡ before + length wrote
  pub records : records₁ ≡ splice records₀ (record_place before) (records_octets wrote)
  pub room : length records₁ ≡ length records₀

module _ (p : Params) (l : Lamp) (t before : ℕ) (r₀ : List ℕ) where
  pub into_first : Into p l t before r₀ l.phase before r₀
  into_first = record { wrote = []; running = running_first p l t; count = omega arith; records = records_none r₀ (record_place before); room = refl }

  module _ (now : Phase) (n : ℕ) (r₁ : List ℕ) (i : Into p l t before r₀ now n r₁) where
    -- a move writes two records at most, the next one too
    pub into_room : due_by (deadline now) t ≡ true → n + length (listed (timer_of p l now).note) ≤ before + 2
    into_room e =
        let next = running_few p l t (timer_of p l now).phase (i.wrote ++ listed (timer_of p l now).note) (running_on p l t now i.wrote i.running e) in
        omega (arith, i.count, rw length-append at next)

    pub into_on : due_by (deadline now) t ≡ true → record_place before ≤ length r₀ → (n₂ : ℕ) → n₂ ≡ n + length (listed (timer_of p l now).note)
        → (r₂ : List ℕ) → r₂ ≡ splice r₁ (record_place n) (records_octets (listed (timer_of p l now).note)) → length r₂ ≡ length r₁
        → Into p l t before r₀ (timer_of p l now).phase n₂ r₂
    into_on e within n₂ counts r₂ writes long =
        record {
          wrote = i.wrote ++ listed (timer_of p l now).note;
          running = running_on p l t now i.wrote i.running e;
          count = rw length-append (omega (arith, counts, i.count));
          records = writes ∙ records_more r₀ r₁ (record_place before) (record_place n) i.wrote (listed (timer_of p l now).note) within (omega (arith, i.count)) i.records;
          room = long ∙ i.room;
        }

    pub into_last : due_by (deadline now) t ≡ false → (k : List Scene) → MovedBy (clock_move (state_of p k l) t) before r₀ (record { lamp = lamp_of (at_moment (alone l) t now); count = n }) r₁
    into_last e k =
        let whole = running_last p l t now i.wrote i.running e k in
        record { lamp = rw (← whole.0) (ap (λ (u : State). lamp_of u) (moved_lamp p k l t)); count = rw whole.1 i.count; records = rw whole.1 i.records }
