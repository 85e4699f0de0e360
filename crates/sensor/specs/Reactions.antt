-- What the sensor does (02, [1]; 000, 1.1.2.3, toggle rules 1 and 2).
use Rattle.std.specs.Prelude.{ℕ, Bool, true, false, not, List, [], ◌∷◌, Option, Some, None}
use Rattle.sensor.specs.declared.action.Action.{Action}
use Rattle.sensor.specs.declared.action.Action.TheVariants.{Nothing, SendOff, SendOn, SendInverse}
use Rattle.sensor.specs.declared.signal.Edge.{Edge}
use Rattle.sensor.specs.declared.signal.Edge.TheVariants.{Falling, Rising}
use Rattle.sensor.specs.declared.signal.Signal.{Signal}
use Rattle.sensor.specs.declared.signal.Signal.TheVariants.{Button1, Button2, Status}
use Rattle.sensor.specs.declared.state.Sensor.{Sensor}
use Rattle.sensor.specs.declared.react.Reaction.{Reaction}

-- "0 nothing, 1 send Off, 2 send On, 3 send the inverse of InfoOnOff": what an action sends, where `last` is the last value sent or received.
-- "Action 3 .. sends the inverse of the last value sent or received as InfoOnOff, whichever is later."
abbrev pub sends : Action → Bool → Option Bool
sends Nothing last = None
sends SendOff last = Some false
sends SendOn last = Some true
sends SendInverse last = Some (not last)

-- 000, rule 1: "Each subsequent transmission .. will have an inverted value compared to the previous transmission"; rule 2: "on each
-- reception of IOO, SOO becomes the value of IOO". So a value that is sent or received at t is the last one from then on.
unfoldable pub hear : Sensor → ℕ → Bool → Sensor
hear z t value =
    record { rising1 = z.rising1; falling1 = z.falling1; rising2 = z.rising2; falling2 = z.falling2; clock = t; value = value }

-- the last value once this was sent
abbrev pub last_after : Option Bool → Bool → Bool
last_after None last = last
last_after (Some value) last = value

-- an edge with this action, at t
unfoldable pub press : Sensor → Action → ℕ → Reaction
press z action t = let telegram : Option Bool = sends action z.value in record { sensor = hear z t (last_after telegram z.value); telegram = telegram }

-- "two buttons, four edges, each edge with a PBAction"
abbrev pub action_of_edge1 : Sensor → Edge → Action
action_of_edge1 z Falling = z.falling1
action_of_edge1 z Rising = z.rising1

abbrev pub action_of_edge2 : Sensor → Edge → Action
action_of_edge2 z Falling = z.falling2
action_of_edge2 z Rising = z.rising2

-- "The sensor takes stamped edges and status values and yields stamped switch inputs."
unfoldable pub react : Sensor → Signal → ℕ → Reaction
react z (Button1 edge) t = press z (action_of_edge1 z edge) t
react z (Button2 edge) t = press z (action_of_edge2 z edge) t
react z (Status value) t = record { sensor = hear z t value; telegram = None }

-- ---- a list of them: "Equal stamps keep list order."

-- a signal and its stamp
pub data Stamped : Type 0 where
  at : ℕ → Signal → Stamped

-- the sensor that a list ends in, and what it sent, signal by signal
pub record Heard : Type 0 where
  pub sensor : Sensor
  pub telegrams : List (Option Bool)

unfoldable pub reacts : List Stamped → Sensor → Heard
reacts [] z = record { sensor = z; telegrams = [] }
reacts (at t s ∷ later) z =
    let r : Reaction = react z s t in
    let rest : Heard = reacts later r.sensor in
    record { sensor = rest.sensor; telegrams = r.telegram ∷ rest.telegrams }
