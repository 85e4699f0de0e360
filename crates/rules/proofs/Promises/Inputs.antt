-- Which inputs light, dim or have the mode On, in the words of the promises.
use Rattle.std.specs.Prelude.{Option, Some, None, Bool}
use mathlib.Core.Bool.{true, false}
use mathlib.Core.Logic.{◌↔◌, ◌⊎◌, inl, inr, ⊎_elim}
use mathlib.Core.Path.{◌≡◌, refl}
use native.Mathlib.Omega.{arith}
use borrow.Author.Tests.{eqb-true, eq-eqb}
use Prim.Native.Nat.{ℕ, ◌≤◌}
use Rattle.rules.specs.declared.input.Event.{Event}
use Rattle.rules.specs.declared.input.Event.TheVariants.{Failure, Return}
use Rattle.rules.specs.declared.input.Input.{Input}
use Rattle.rules.specs.declared.input.Input.TheVariants.{SwitchOnOff, TimedStartStop, NumberedSceneControl, SwitchOnOffForced, LockDevice, NightMode, Bus, Power}
use Rattle.rules.specs.declared.state.Link.{Link}
use Rattle.rules.specs.declared.state.Link.TheVariants.{Up, BusDown, PowerDown}
use Rattle.rules.specs.declared.state.State.{State}
use Rattle.rules.specs.Inputs.{kind}
use Rattle.rules.specs.Scenes.{recalled}
use Rattle.rules.specs.Promises.{recalls_on, recalls_off, lights, dims, mode_on, bus_on}
use Rattle.rules.specs.Facts.{Lights, Dims, BusOn}
use Rattle.base.proofs.Tests.{no}

recalls_on_lem : (r : Option Bool) → recalls_on r ≡ true → r ≡ Some true
recalls_on_lem None h = no h
recalls_on_lem (Some true) h = refl
recalls_on_lem (Some false) h = no h

recalls_off_lem : (r : Option Bool) → recalls_off r ≡ true → r ≡ Some false
recalls_off_lem None h = no h
recalls_off_lem (Some true) h = no h
recalls_off_lem (Some false) h = refl

-- ---- "On, timed start or scene-on"

lights_view : (s : State) (i : Input) → lights s i ≡ true → Lights s i
lights_view s (SwitchOnOff true) h = inl refl
lights_view s (SwitchOnOff false) h = no h
lights_view s (TimedStartStop true) h = inr (inl refl)
lights_view s (TimedStartStop false) h = no h
lights_view s (NumberedSceneControl true number) h = no h
lights_view s (NumberedSceneControl false number) h = inr (inr (record { number = number; recall = refl; found = recalls_on_lem (recalled s.scenes number) h }))
lights_view s (SwitchOnOffForced force) h = no h
lights_view s (LockDevice value) h = no h
lights_view s (NightMode value) h = no h
lights_view s (Bus event) h = no h
lights_view s (Power event) h = no h

lights_whole : (s : State) (i : Input) → Lights s i → lights s i ≡ true
lights_whole s i h = ⊎_elim (λ e. rw e) (⊎_elim (λ e. rw e) (λ r. rw (r.recall, r.found))) h

pub lights_exactly_when : (s : State) (i : Input) → (lights s i ≡ true) ↔ Lights s i
lights_exactly_when s i = (lights_view s i, lights_whole s i)

-- ---- "Off, timed stop, scene-off, force, lock, bus or power input"

dims_view : (s : State) (i : Input) → dims s i ≡ true → Dims s i
dims_view s (SwitchOnOff true) h = no h
dims_view s (SwitchOnOff false) h = inl refl
dims_view s (TimedStartStop true) h = no h
dims_view s (TimedStartStop false) h = inr (inl refl)
dims_view s (NumberedSceneControl true number) h = no h
dims_view s (NumberedSceneControl false number) h = inr (inr (inl (record { number = number; recall = refl; found = recalls_off_lem (recalled s.scenes number) h })))
dims_view s (SwitchOnOffForced force) h = inr (inr (inr (inl refl)))
dims_view s (LockDevice value) h = inr (inr (inr (inr (inl refl))))
dims_view s (NightMode value) h = no h
dims_view s (Bus event) h = inr (inr (inr (inr (inr (inl refl)))))
dims_view s (Power event) h = inr (inr (inr (inr (inr (inr (refl))))))

-- the kinds 4, 5, 7 and 8: none of them is below 4, or 6
of_these_kinds : (k : ℕ) → (k ≡ 4) ⊎ (k ≡ 5) ⊎ (k ≡ 7) ⊎ (k ≡ 8) → (4 ≤ k) × (k ≡ 6 → ⊥)
of_these_kinds k h =
    ⊎_elim (λ e. (omega arith, λ six. omega arith)) (⊎_elim (λ e. (omega arith, λ six. omega arith)) (⊎_elim (λ e. (omega arith, λ six. omega arith)) (λ e. (omega arith, λ six. omega arith)))) h

kind_dims : (s : State) (i : Input) → (kind i ≡ 4) ⊎ (kind i ≡ 5) ⊎ (kind i ≡ 7) ⊎ (kind i ≡ 8) → dims s i ≡ true
kind_dims s (SwitchOnOff value) h = absurd (omega (arith, (of_these_kinds 1 h).0))
kind_dims s (TimedStartStop value) h = absurd (omega (arith, (of_these_kinds 2 h).0))
kind_dims s (NumberedSceneControl learns number) h = absurd (omega (arith, (of_these_kinds 3 h).0))
kind_dims s (SwitchOnOffForced force) h = refl
kind_dims s (LockDevice value) h = refl
kind_dims s (NightMode value) h = absurd ((of_these_kinds 6 h).1 refl)
kind_dims s (Bus event) h = refl
kind_dims s (Power event) h = refl

dims_whole : (s : State) (i : Input) → Dims s i → dims s i ≡ true
dims_whole s i h = ⊎_elim (λ e. rw e) (⊎_elim (λ e. rw e) (⊎_elim (λ r. rw (r.recall, r.found)) (kind_dims s i))) h

pub dims_exactly_when : (s : State) (i : Input) → (dims s i ≡ true) ↔ Dims s i
dims_exactly_when s i = (dims_view s i, dims_whole s i)

-- ---- "bus event [that] has mode On"

bus_on_view : (s : State) (i : Input) → bus_on s i ≡ true → BusOn s i
bus_on_view s (SwitchOnOff value) h = no h
bus_on_view s (TimedStartStop value) h = no h
bus_on_view s (NumberedSceneControl learns number) h = no h
bus_on_view s (SwitchOnOffForced force) h = no h
bus_on_view s (LockDevice value) h = no h
bus_on_view s (NightMode value) h = no h
bus_on_view s (Bus event) h = by s.link event refl h
  where
    by : (link : Link) (event : Event) → s.link ≡ link → mode_on s.params link event ≡ true → BusOn s (Bus event)
    by Up Failure e h = inl (refl, e, eqb-true _ _ h)
    by Up Return e h = no h
    by BusDown Failure e h = no h
    by BusDown Return e h = inr (refl, e, eqb-true _ _ h)
    by PowerDown event e h = no h
bus_on_view s (Power event) h = no h

pub bus_on_exactly_when : (s : State) (i : Input) → (bus_on s i ≡ true) ↔ BusOn s i
bus_on_exactly_when s i = (
  bus_on_view s i,
  ⊎_elim
      (λ f. rw (f.0, f.1) (eq-eqb s.params.busfailure 2 f.2))
      (λ f. rw (f.0, f.1) (eq-eqb s.params.busreturn 2 f.2)),
)
