-- The items of a joined list: the actuator's inputs (kinds 1 to 8) and edges (kinds 11 and 12), each as its own device takes it.
use Rattle.pairs.specs.declared.item.Item.{Item}
use Rattle.sensor.specs.declared.signal.Signal.{Signal}
use Rattle.rules.specs.declared.input.Input.{Input}
use Rattle.std.specs.Prelude.{ℕ, List, Option, Some, None}
use Rattle.sensor.specs.declared.signal.Signal.TheVariants as signal
use Rattle.pairs.specs.declared.item.Item.TheVariants.{Plain, Button1, Button2}
use Rattle.rules.specs.Inputs.{input_at}
use Rattle.sensor.specs.Signals.{signal_at}

-- What means nothing to the actuator may be an edge. A status (kind 13) has no place here: "each record is a status", and no other is named.
abbrev pub item_of : Option Input → Option Signal → Option Item
item_of (Some i) s = Some (Plain i)
item_of None (Some (signal.Button1 edge)) = Some (Button1 edge)
item_of None (Some (signal.Button2 edge)) = Some (Button2 edge)
item_of None (Some (signal.Status value)) = None
item_of None None = None

unfoldable pub item_at : List ℕ → ℕ → Option Item
item_at octets at = item_of (input_at octets at) (signal_at octets at)
