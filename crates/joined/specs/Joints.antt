-- What the pair came to, as the code has it.
use Rattle.pairs.specs.declared.item.Item.{Item}
use Rattle.sensor.specs.declared.signal.Signal.{Signal}
use Rattle.std.specs.Prelude.{ℕ, Bool, List, [], ◌∷◌, get_or, take, Option, Some, None}
use Rattle.rules.specs.declared.record.Record.{Record}
use Rattle.rules.specs.declared.state.State.{State}
use Rattle.rules.specs.Calls.{blank}
use Rattle.sensor.specs.declared.signal.Signal.TheVariants as signal
use Rattle.sensor.specs.declared.state.Sensor.{Sensor}
use Rattle.sensor.specs.Reactions.{hear}
use Rattle.sensor.specs.Calls.{telegram_octets}
use Rattle.records.specs.Notes.{notes}
use Rattle.timers.specs.declared.clock.Clocked.{Clocked}
use Rattle.pairs.specs.declared.item.Item.TheVariants.{Button1, Button2}
use Rattle.pairs.specs.declared.call.Joint.{Joint}
use Rattle.pairs.specs.declared.call.JointMove.{JointMove}
use Rattle.pairs.specs.Pairs.{pair_of, shows, hears, PairStepped, tell}
use Rattle.joined.specs.declared.step.JointStep.{JointStep}

-- one record
unfoldable pub heard : Record → Sensor → Sensor
heard r z = hear z r.stamp (shows r)

-- what means nothing to the actuator
abbrev pub edge_in : Option Signal → Option Item
edge_in (Some (signal.Button1 edge)) = Some (Button1 edge)
edge_in (Some (signal.Button2 edge)) = Some (Button2 edge)
edge_in (Some (signal.Status value)) = None
edge_in None = None

-- a whole step
unfoldable pub joint_step : PairStepped → JointStep
joint_step d = record { pair = d.pair; answer = d.answer; notes = notes d.records; telegram = d.telegram }

-- a telegram that is played where timers wrote these records before it
unfoldable pub switched_from : State → Sensor → List Record → Bool → PairStepped
switched_from s z written value = tell (Some value) (record { pair = pair_of s z; records = written }) z

-- what the calls hand out, with a code
unfoldable pub joint_by : ℕ → ℕ → JointStep → Joint
joint_by code t d =
    record {
      state = d.pair.actuator;
      sensor = d.pair.sensor;
      code = code;
      place = 0;
      answer = d.answer;
      count = d.notes.count;
      records = d.notes.records;
      sent = telegram_octets t d.telegram;
    }

unfoldable pub move_by : ℕ → Sensor → Clocked → JointMove
move_by code z m =
    record { state = m.state; sensor = hears (take m.notes.count m.notes.records) z; code = code; place = 0; count = m.notes.count; records = get_or m.notes.records 0 blank ∷ get_or m.notes.records 1 blank ∷ [] }
