-- The scene table that only a lesson changes.
use Prim.Native.Nat.{ℕ}
use mathlib.Core.Bool.{false}
use mathlib.Core.Path.{◌≡◌, refl, sym, ◌∙◌}
use Rattle.rules.specs.declared.input.Input.{Input}
use Rattle.rules.specs.declared.input.Input.TheVariants.{SwitchOnOff, TimedStartStop, NumberedSceneControl, SwitchOnOffForced, LockDevice, NightMode, Bus, Power}
use Rattle.rules.specs.declared.state.State.{State}
use Rattle.rules.specs.Inputs.{scene_number}
use Rattle.rules.specs.Scenes.{recalled}
use Rattle.rules.specs.Orders.{scene, order}
use Rattle.rules.proofs.Laws.Orders.{recall_leaves, order_leaves}
use Rattle.inputs.specs.Values.{teaches}

module _ (s : State) where
  -- a scene that is not to be learnt keeps the table
  unlearnt : (number : ℕ) → (scene s false number).scenes ≡ s.scenes
  unfolding scene
  unlearnt number = (recall_leaves s (recalled s.scenes number)).scenes

  -- and so does every other kind: the table after an input is what its scene leaves
  pub the_table_of_its_scene : (i : Input) → (scene s (teaches i) (scene_number i)).scenes ≡ (order s i).scenes
  the_table_of_its_scene (SwitchOnOff value) = unlearnt 0 ∙ sym (order_leaves s _).scenes
  the_table_of_its_scene (TimedStartStop value) = unlearnt 0 ∙ sym (order_leaves s _).scenes
  the_table_of_its_scene (NumberedSceneControl learns number) = unfold order in refl
  the_table_of_its_scene (SwitchOnOffForced force) = unlearnt 0 ∙ sym (order_leaves s _).scenes
  the_table_of_its_scene (LockDevice value) = unlearnt 0 ∙ sym (order_leaves s _).scenes
  the_table_of_its_scene (NightMode value) = unlearnt 0 ∙ sym (order_leaves s _).scenes
  the_table_of_its_scene (Bus event) = unlearnt 0 ∙ sym (order_leaves s _).scenes
  the_table_of_its_scene (Power event) = unlearnt 0 ∙ sym (order_leaves s _).scenes

  -- an input that is not to learn keeps the table
  pub only_a_lesson_teaches : (i : Input) → teaches i ≡ false → (order s i).scenes ≡ s.scenes
  only_a_lesson_teaches i e = sym (rw e at (the_table_of_its_scene i)) ∙ unlearnt (scene_number i)
