-- Proof by cases, where each case has much the same proof.
use Prim.Native.Nat.{ℕ}
use mathlib.Core.Bool.{Bool}
use Rattle.rules.specs.declared.phase.Phase.{Phase}
use Rattle.rules.specs.declared.phase.Phase.TheVariants.{Dark, Lit, Starting, Timed, Warning, Ending}
use Rattle.rules.specs.declared.input.Force.{Force}
use Rattle.rules.specs.declared.input.Event.{Event}
use Rattle.rules.specs.declared.input.Input.{Input}
use Rattle.rules.specs.declared.input.Input.TheVariants.{SwitchOnOff, TimedStartStop, NumberedSceneControl, SwitchOnOffForced, LockDevice, NightMode, Bus, Power}

-- what holds of each phase holds of every phase
pub each_phase : (P : Phase → Type 0) → P Dark → P Lit → ((timed : Bool) (d : ℕ) → P (Starting timed d)) → ((d : ℕ) → P (Timed d)) → ((d : ℕ) → P (Warning d)) → ((d : ℕ) → P (Ending d)) →
    (phase : Phase) → P phase
each_phase P dark lit starting timed warning ending Dark = dark
each_phase P dark lit starting timed warning ending Lit = lit
each_phase P dark lit starting timed warning ending (Starting is-timed d) = starting is-timed d
each_phase P dark lit starting timed warning ending (Timed d) = timed d
each_phase P dark lit starting timed warning ending (Warning d) = warning d
each_phase P dark lit starting timed warning ending (Ending d) = ending d

-- and of each kind of input
pub each_input : (P : Input → Type 0) → ((value : Bool) → P (SwitchOnOff value)) → ((value : Bool) → P (TimedStartStop value)) → ((learns : Bool) (number : ℕ) → P (NumberedSceneControl learns number)) →
    ((force : Force) → P (SwitchOnOffForced force)) → ((value : Bool) → P (LockDevice value)) → ((value : Bool) → P (NightMode value)) → ((event : Event) → P (Bus event)) → ((event : Event) → P (Power event)) →
    (i : Input) → P i
each_input P switch timed scene forced lock night bus power (SwitchOnOff value) = switch value
each_input P switch timed scene forced lock night bus power (TimedStartStop value) = timed value
each_input P switch timed scene forced lock night bus power (NumberedSceneControl learns number) = scene learns number
each_input P switch timed scene forced lock night bus power (SwitchOnOffForced force) = forced force
each_input P switch timed scene forced lock night bus power (LockDevice value) = lock value
each_input P switch timed scene forced lock night bus power (NightMode value) = night value
each_input P switch timed scene forced lock night bus power (Bus event) = bus event
each_input P switch timed scene forced lock night bus power (Power event) = power event
