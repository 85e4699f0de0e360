-- An order to the light changes the phase alone, and the scene table where it is a lesson: what it asks for is granted.
use Rattle.std.specs.Prelude.{Option, Some, None, Bool}
use mathlib.Core.Bool.{true, false}
use mathlib.Core.List.{List}
use mathlib.Core.Path.{◌≡◌, refl, sym}
use Rattle.rules.specs.declared.parameters.Params.{Params}
use Rattle.rules.specs.declared.parameters.Scene.{Scene}
use Rattle.rules.specs.declared.phase.Phase.{Phase}
use Rattle.rules.specs.declared.phase.Phase.TheVariants.{Dark, Lit, Starting, Timed, Warning, Ending}
use Rattle.rules.specs.declared.input.Input.{Input}
use Rattle.rules.specs.declared.input.Input.TheVariants.{SwitchOnOff, TimedStartStop, NumberedSceneControl, SwitchOnOffForced, LockDevice, NightMode, Bus, Power}
use Rattle.rules.specs.declared.state.State.{State}
use Rattle.rules.specs.Scenes.{recalled}
use Rattle.rules.specs.Orders.{with_phase, timed_stop, held, switch, timed, recall, scene, order}
use Rattle.base.proofs.Tests.{no}
use Rattle.lamps.specs.declared.lamp.Lamp.{Lamp}
use Rattle.lamps.specs.Lamps.{lamp_of, state_of, alone}
use Rattle.inputs.specs.Values.{teaches}
use Rattle.switching.specs.declared.wish.Wish.{Wish}
use Rattle.switching.specs.Wishes.{stop_asks, recall_asks, scene_asks, granted}
use Rattle.switching.proofs.Scenes.{learning_keeps_the_lamp}
use Rattle.orders.specs.Lights.{is_light, asks, light_phase}
use Rattle.orders.proofs.Lessons.{only_a_lesson_teaches}
use Rattle.rules.proofs.Laws.Cases.{each_input}

module _ (p : Params) (k : List Scene) (l : Lamp) where
  -- the lamp in the phase that a wish leaves
  abbrev grants : Wish → Lamp
  grants w = lamp_of (with_phase (alone l) (granted p l.night (held (alone l)) l.clock l.phase w))

  stop_is_granted : (phase : Phase) → timed_stop p l.clock phase ≡ granted p l.night (held (alone l)) l.clock phase (stop_asks phase)
  unfolding timed_stop granted
  stop_is_granted Dark = refl
  stop_is_granted Lit = refl
  stop_is_granted (Starting true d) = refl
  stop_is_granted (Starting false d) = refl
  stop_is_granted (Timed d) = refl
  stop_is_granted (Warning d) = refl
  stop_is_granted (Ending d) = refl

  recall_is_granted : (found : Option Bool) → lamp_of (recall (state_of p k l) found) ≡ grants (recall_asks found)
  unfolding recall switch granted held
  recall_is_granted None = refl
  recall_is_granted (Some true) = refl
  recall_is_granted (Some false) = refl

  pub light_is_granted : (i : Input) → is_light i ≡ true → lamp_of (order (state_of p k l) i) ≡ lamp_of (with_phase (alone l) (light_phase p k l i))
  unfolding light_phase asks order switch timed scene scene_asks granted held
  light_is_granted (SwitchOnOff true) e = refl
  light_is_granted (SwitchOnOff false) e = refl
  light_is_granted (TimedStartStop true) e = refl
  light_is_granted (TimedStartStop false) e = rw (stop_is_granted l.phase) refl
  light_is_granted (NumberedSceneControl true number) e = sym (learning_keeps_the_lamp p k l number)
  light_is_granted (NumberedSceneControl false number) e = recall_is_granted (recalled k number)
  light_is_granted (SwitchOnOffForced force) e = no e
  light_is_granted (LockDevice value) e = no e
  light_is_granted (NightMode value) e = no e
  light_is_granted (Bus event) e = no e
  light_is_granted (Power event) e = no e

-- an order that is not to the light keeps the table
pub other_orders_keep_the_table : (s : State) (i : Input) → is_light i ≡ false → (order s i).scenes ≡ s.scenes
other_orders_keep_the_table s i e =
    only_a_lesson_teaches s i (each_input (λ i. is_light i ≡ false → teaches i ≡ false)
    (λ value e. refl) (λ value e. refl) (λ learns number e. no (sym e)) (λ force e. refl) (λ value e. refl) (λ value e. refl) (λ event e. refl) (λ event e. refl) i e)
