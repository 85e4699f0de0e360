-- An item's turn, as the code has it: what the sensor has heard by then, and what the item asks of the actuator.
use Rattle.turns.specs.declared.turn.Order.{Order}
use Rattle.std.specs.Prelude.{ℕ, ◌+◌, ◌-◌, ◌≤◌, cond, List, ◌≡◌, eqb, Some, None, Option, Bool}
use Rattle.octets.specs.BigEndian.{octet, be32}
use Rattle.rules.specs.declared.input.Input.{Input}
use Rattle.rules.specs.Inputs.{decoded}
use Rattle.rules.specs.Layout.{record_place}
use Rattle.sensor.specs.declared.signal.Signal.TheVariants as signal
use Rattle.sensor.specs.declared.state.Sensor.{Sensor}
use Rattle.sensor.specs.declared.react.Reaction.{Reaction}
use Rattle.sensor.specs.Reactions.{hear, react}
use Rattle.pairs.specs.declared.item.Item.{Item}
use Rattle.pairs.specs.declared.item.Item.TheVariants.{Plain, Button1, Button2}
use Rattle.pairs.specs.Halves.{given_of}
use Rattle.turns.specs.declared.turn.Turn.{Turn}

-- ---- what the sensor has heard

-- `z` has heard the first `heard` of the `count` records in a buffer; this is the sensor once it has heard the rest. Each is a status, so the
-- last one decides.
unfoldable pub listened : List ℕ → ℕ → Sensor → ℕ → Sensor
listened records count z heard =
    let last : ℕ = record_place (count - 1) in
    cond (eqb heard count) z (hear z (be32 records last) (eqb (octet records (last + 4)) 255))

-- what the sensor makes of an item: of an input nothing, so that it stays as it is
abbrev pub decides : Sensor → Item → ℕ → Reaction
decides z (Plain i) t = record { sensor = z; telegram = None }
decides z (Button1 edge) t = react z (signal.Button1 edge) t
decides z (Button2 edge) t = react z (signal.Button2 edge) t

-- ---- a turn, as the code comes to it

abbrev pub asked_by : Option Bool → Option Order
asked_by None = None
asked_by (Some value) = Some (record { kind = 1; value = cond value 1 0 })

-- of an edge: the sensor has heard all records there are
unfoldable pub edge_turn : Reaction → ℕ → Turn
edge_turn r count = record { asked = asked_by r.telegram; sensor = r.sensor; heard = count }

-- of an item whose octets have this kind and value, at t: an input asks for itself, and the sensor takes no part
unfoldable pub turn_of : Item → ℕ → ℕ → ℕ → List ℕ → ℕ → Sensor → ℕ → Turn
turn_of (Plain i) kind value t records count z heard = record { asked = Some (record { kind = kind; value = value }); sensor = z; heard = heard }
turn_of (Button1 edge) kind value t records count z heard = edge_turn (decides (listened records count z heard) (Button1 edge) t) count
turn_of (Button2 edge) kind value t records count z heard = edge_turn (decides (listened records count z heard) (Button2 edge) t) count

-- ---- what it comes to

-- what is asked of the actuator, by kind and value, is what it is to be given
abbrev pub Asks : Option Order → Option Input → Type 0
Asks None given = given ≡ None
Asks (Some order) given = (x : Input) × (given ≡ Some x) × (decoded order.kind order.value ≡ Some x)

pub record Turned (i : Item) (t : ℕ) (records : List ℕ) (count : ℕ) (z : Sensor) (heard : ℕ) (r : Turn) : Type 0 where
  pub asks : Asks r.asked (given_of i (decides (listened records count z heard) i t).telegram)
  pub sensor : listened records count r.sensor r.heard ≡ (decides (listened records count z heard) i t).sensor
  pub behind : r.heard ≤ count
