-- The public calls of the sensor: their whole results, for every input.
use Rattle.sensor.specs.declared.signal.Signal.{Signal}
use Rattle.std.specs.Prelude.{ℕ, cond, List, [], ◌∷◌, ◌++◌, Option, Some, None, Ok, Err, Bool}
use Rattle.octets.specs.BigEndian.{octets32}
use Rattle.octets.specs.Groups.{stamp_at}
use Rattle.base.specs.declared.refusal.Refusal.{Refusal}
use Rattle.base.specs.declared.refusal.Refusal.TheVariants.{BadInput, BadStamp, UnsoundState}
use Rattle.base.specs.Refusals.{number, code_of, place_of, stamp_in_range, Check}
use Rattle.sensor.specs.declared.state.Sensor.{Sensor}
use Rattle.sensor.specs.declared.react.Reaction.{Reaction}
use Rattle.sensor.specs.declared.call.FreshSensor.{FreshSensor}
use Rattle.sensor.specs.declared.call.Sensed.{Sensed}
use Rattle.sensor.specs.Actions.{check_actions}
use Rattle.sensor.specs.Signals.{signal_at}
use Rattle.sensor.specs.Sensors.{fresh_sensor, own_sensor, sound_sensor}
use Rattle.sensor.specs.Reactions.{react}

-- ---- parameters alone

abbrev pub sensor_by : List ℕ → Check → Sensor
sensor_by octets (Ok _) = fresh_sensor octets
sensor_by octets (Err fault) = own_sensor

unfoldable pub fresh_sensor_by : List ℕ → Check → FreshSensor
fresh_sensor_by octets found = record { sensor = sensor_by octets found; code = code_of found; place = place_of found }

unfoldable pub fresh_sensor_call : List ℕ → FreshSensor
fresh_sensor_call octets = fresh_sensor_by octets (check_actions octets)

-- ---- one input

-- "yields stamped switch inputs": kind 1 of 01, at the moment t; eight zeros where nothing is sent
unfoldable pub telegram_octets : ℕ → Option Bool → List ℕ
telegram_octets t None = 0 ∷ 0 ∷ 0 ∷ 0 ∷ 0 ∷ 0 ∷ 0 ∷ 0 ∷ []
telegram_octets t (Some on) = octets32 t ++ (1 ∷ cond on 1 0 ∷ 0 ∷ 0 ∷ [])

unfoldable pub sensed : ℕ → Reaction → Sensed
sensed t r = record { sensor = r.sensor; code = 0; place = 0; sent = telegram_octets t r.telegram }

-- a refused call hands back the sensor it was given, and sends nothing
unfoldable pub sensor_refused : Sensor → Refusal → Sensed
sensor_refused z why = record { sensor = z; code = number why; place = 0; sent = telegram_octets 0 None }

-- 6, then 7, then taken
unfoldable pub sensor_meant : Sensor → ℕ → Option Signal → Sensed
sensor_meant z stamp None = sensor_refused z BadInput
sensor_meant z stamp (Some s) = cond (stamp_in_range z.clock stamp) (sensed stamp (react z s stamp)) (sensor_refused z BadStamp)

-- "6, 7 and 9 as for the actuator": "For a single input 9, 6, 7, place 0."
unfoldable pub sensor_call : Sensor → List ℕ → Sensed
sensor_call z octets = cond (sound_sensor z) (sensor_meant z (stamp_at octets 0) (signal_at octets 0)) (sensor_refused z UnsoundState)
