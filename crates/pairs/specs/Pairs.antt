-- The actuator and the sensor, joined. 02, [1]: "Joined, the actuator's clock first moves to an edge's stamp, and each record is a status at
-- its stamp, heard before the next edge".
use Rattle.std.specs.Prelude.{ℕ, Bool, List, [], ◌∷◌, ◌++◌, eqb, Option, Some, None}
use Rattle.rules.specs.declared.input.Input.TheVariants.{SwitchOnOff}
use Rattle.rules.specs.declared.state.State.{State}
use Rattle.rules.specs.declared.record.Record.{Record}
use Rattle.rules.specs.Steps.{Moved, Stepped, clock_move, act, step}
use Rattle.rules.specs.Lists.{still}
use Rattle.sensor.specs.declared.signal.Signal.{Signal}
use Rattle.sensor.specs.declared.signal.Signal.TheVariants as signal
use Rattle.sensor.specs.declared.state.Sensor.{Sensor}
use Rattle.sensor.specs.declared.react.Reaction.{Reaction}
use Rattle.sensor.specs.Reactions.{hear, react}
use Rattle.pairs.specs.declared.item.Item.{Item}
use Rattle.pairs.specs.declared.item.Item.TheVariants.{Plain, Button1, Button2}
use Rattle.pairs.specs.declared.pair.Pair as declared

abbrev pub Pair : Type 0
Pair = declared.Pair

abbrev pub pair_of : State → Sensor → Pair
pair_of s z = record { actuator = s; sensor = z }

-- "each record is a status at its stamp": heard once, in the order in which they were written. Its value is 0 or 255.
abbrev pub shows : Record → Bool
shows r = eqb r.value 255

unfoldable pub hears : List Record → Sensor → Sensor
hears [] z = z
hears (r ∷ later) z = hears later (hear z r.stamp (shows r))

-- ---- the clock of the pair moves: the actuator's timers run, and their records are heard

pub record PairMoved : Type 0 where
  pub pair : Pair
  pub records : List Record

abbrev pub heard_move : Moved → Sensor → PairMoved
heard_move m z = record { pair = pair_of m.state (hears m.records z); records = m.records }

unfoldable pub pair_move : Pair → ℕ → PairMoved
pair_move p t = heard_move (clock_move p.actuator t) p.sensor

-- ---- one item at t

pub record PairStepped : Type 0 where
  pub pair : Pair
  pub answer : ℕ
  pub records : List Record
  pub telegram : Option Bool

-- an input of the actuator: its records are heard
abbrev pub heard_step : Stepped → Sensor → PairStepped
heard_step d z = record { pair = pair_of d.state (hears d.records z); answer = d.answer; records = d.records; telegram = None }

-- An edge that sends nothing changes nothing at the actuator but its clock, once the due timers have run, and so it is answered 1. A telegram is played right away, while the
-- clock stands; it was sent, whatever becomes of it; then its record is heard, and its answer is the edge's.
unfoldable pub tell : Option Bool → PairMoved → Sensor → PairStepped
tell None m z = record { pair = pair_of m.pair.actuator z; answer = 1; records = m.records; telegram = None }
tell (Some value) m z =
    let d : Stepped = act (still m.pair.actuator) (SwitchOnOff value) in
    record { pair = pair_of d.state (hears d.records z); answer = d.answer; records = m.records ++ d.records; telegram = Some value }

unfoldable pub told : PairMoved → Reaction → PairStepped
told m r = tell r.telegram m r.sensor

-- "the actuator's clock first moves to an edge's stamp": then the edge is decided
unfoldable pub pressed : Pair → Signal → ℕ → PairStepped
pressed p s t = told (pair_move p t) (react (pair_move p t).pair.sensor s t)

unfoldable pub pair_step : Pair → Item → ℕ → PairStepped
pair_step p (Plain i) t = heard_step (step p.actuator i t) p.sensor
pair_step p (Button1 edge) t = pressed p (signal.Button1 edge) t
pair_step p (Button2 edge) t = pressed p (signal.Button2 edge) t
