-- Which inputs are orders to the light, and what they ask of it.
use Rattle.std.specs.Prelude.{Bool, cond, List, eqb, leb}
use Rattle.rules.specs.declared.parameters.Params.{Params}
use Rattle.rules.specs.declared.parameters.Scene.{Scene}
use Rattle.rules.specs.declared.phase.Phase.{Phase}
use Rattle.rules.specs.declared.input.Input.{Input}
use Rattle.rules.specs.Inputs.{kind, scene_number}
use Rattle.rules.specs.Orders.{held}
use Rattle.lamps.specs.declared.lamp.Lamp.{Lamp}
use Rattle.lamps.specs.Lamps.{alone}
use Rattle.inputs.specs.Values.{switch_in, teaches}
use Rattle.switching.specs.declared.wish.Wish.{Wish}
use Rattle.switching.specs.Wishes.{switch_asks, timed_asks, scene_asks, granted}

-- kinds 1 to 3: switch, timed and scene
abbrev pub is_light : Input → Bool
is_light i = leb (kind i) 3

-- what they ask of the light, by the number of the kind
unfoldable pub asks : List Scene → Phase → Input → Wish
asks k phase i =
    cond (eqb (kind i) 1) (switch_asks (switch_in i))
    (cond (eqb (kind i) 2) (timed_asks phase (switch_in i))
    (scene_asks k (teaches i) (scene_number i)))

-- the phase that it leaves
unfoldable pub light_phase : Params → List Scene → Lamp → Input → Phase
light_phase p k l i = granted p l.night (held (alone l)) l.clock l.phase (asks k l.phase i)
