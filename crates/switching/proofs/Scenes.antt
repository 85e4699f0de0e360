-- A lesson changes the scene table alone.
use Prim.Native.Nat.{ℕ}
use mathlib.Core.Bool.{Bool, true, false, cond}
use mathlib.Core.List.{List}
use mathlib.Core.Path.{◌≡◌, refl}
use Rattle.rules.specs.declared.parameters.Params.{Params}
use Rattle.rules.specs.declared.parameters.Scene.{Scene}
use Rattle.rules.specs.Phases.{output}
use Rattle.rules.specs.Scenes.{learnt}
use Rattle.rules.specs.Orders.{with_scenes, learn}
use Rattle.lamps.specs.declared.lamp.Lamp.{Lamp}
use Rattle.lamps.specs.Lamps.{lamp_of, state_of}

-- learning writes into the table alone
pub learning_keeps_the_lamp : (p : Params) (k : List Scene) (l : Lamp) (number : ℕ) → l ≡ lamp_of (learn (state_of p k l) number)
unfolding learn
learning_keeps_the_lamp p k l number = go p.learning
  where
    go : (enabled : Bool) → l ≡ lamp_of (cond enabled (with_scenes (state_of p k l) (learnt k number (output l.phase))) (state_of p k l))
    go true = refl
    go false = refl
