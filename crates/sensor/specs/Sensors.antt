-- The state of a sensor: the actions of its four edges, its clock, and the last value that it sent or received.
use Rattle.std.specs.Prelude.{ℕ, Bool, false, List, leb}
use Rattle.octets.specs.BigEndian.{octet}
use Rattle.base.specs.Time.{last_stamp}
use Rattle.sensor.specs.declared.action.Action.TheVariants.{Nothing}
use Rattle.sensor.specs.declared.state.Sensor.{Sensor}
use Rattle.sensor.specs.Actions.{action_of}

-- Fresh: "the value before any is off", the clock is 0. The four octets are the actions in the order of their PIDs: button 1 rising
-- (ModePB1RisingEdge, 121), button 1 falling (122), button 2 rising (123), button 2 falling (124).
unfoldable pub fresh_sensor : List ℕ → Sensor
fresh_sensor octets =
    record {
      rising1 = action_of (octet octets 0);
      falling1 = action_of (octet octets 1);
      rising2 = action_of (octet octets 2);
      falling2 = action_of (octet octets 3);
      clock = 0;
      value = false;
    }

-- a refusal's own sensor, where none was handed in: fresh, and no edge does anything
unfoldable pub own_sensor : Sensor
own_sensor = record { rising1 = Nothing; falling1 = Nothing; rising2 = Nothing; falling2 = Nothing; clock = 0; value = false }

-- "9 as for the actuator": a handed-in sensor is sound when its clock is at most 864,000 (an action above 3 cannot be handed in)
unfoldable pub sound_sensor : Sensor → Bool
sound_sensor z = leb z.clock last_stamp
