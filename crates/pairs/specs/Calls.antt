-- The public calls of the pair, by value: their whole results, for every input (02, [1]: "6, 7 and 9 as for the actuator").
use Rattle.pairs.specs.declared.item.Item.{Item}
use Rattle.std.specs.Prelude.{ℕ, Bool, cond, ◌&&◌, List, [], length, leb, Option, Some, None}
use Rattle.octets.specs.Groups.{stamp_at}
use Rattle.base.specs.declared.refusal.Refusal.{Refusal}
use Rattle.base.specs.declared.refusal.Refusal.TheVariants.{BadInput, BadStamp, UnsoundState}
use Rattle.base.specs.Refusals.{number, stamp_in_range}
use Rattle.rules.specs.Calls.{places}
use Rattle.rules.specs.Soundness.{sound}
use Rattle.sensor.specs.Sensors.{sound_sensor}
use Rattle.sensor.specs.Calls.{telegram_octets}
use Rattle.pairs.specs.declared.call.Joint.{Joint}
use Rattle.pairs.specs.declared.call.JointMove.{JointMove}
use Rattle.pairs.specs.Items.{item_at}
use Rattle.pairs.specs.Pairs.{Pair, PairMoved, pair_move, PairStepped, pair_step}

-- both are sound, and the sensor's clock is not after the actuator's: what is recorded from then on can be heard
unfoldable pub pair_sound : Pair → Bool
pair_sound p = sound p.actuator && sound_sensor p.sensor && leb p.sensor.clock p.actuator.clock

-- ---- one input

unfoldable pub joint_done : ℕ → PairStepped → Joint
joint_done t d =
    record {
      state = d.pair.actuator;
      sensor = d.pair.sensor;
      code = 0;
      place = 0;
      answer = d.answer;
      count = length d.records;
      records = places 3 d.records;
      sent = telegram_octets t d.telegram;
    }

-- a refused call hands back both states, and sends nothing
unfoldable pub joint_refused : Pair → Refusal → Joint
joint_refused p why =
    record { state = p.actuator; sensor = p.sensor; code = number why; place = 0; answer = 0; count = 0; records = places 3 []; sent = telegram_octets 0 None }

-- 6, then 7 by the actuator's clock, then played
unfoldable pub joint_meant : Pair → ℕ → Option Item → Joint
joint_meant p stamp None = joint_refused p BadInput
joint_meant p stamp (Some i) = cond (stamp_in_range p.actuator.clock stamp) (joint_done stamp (pair_step p i stamp)) (joint_refused p BadStamp)

-- "For a single input 9, 6, 7, place 0."
unfoldable pub joint_call : Pair → List ℕ → Joint
joint_call p octets = cond (pair_sound p) (joint_meant p (stamp_at octets 0) (item_at octets 0)) (joint_refused p UnsoundState)

-- ---- a clock move

unfoldable pub joint_move_done : PairMoved → JointMove
joint_move_done m =
    record { state = m.pair.actuator; sensor = m.pair.sensor; code = 0; place = 0; count = length m.records; records = places 2 m.records }

unfoldable pub joint_move_refused : Pair → Refusal → JointMove
joint_move_refused p why = record { state = p.actuator; sensor = p.sensor; code = number why; place = 0; count = 0; records = places 2 [] }

-- "A clock move: 9, 7."
unfoldable pub joint_move_call : Pair → ℕ → JointMove
joint_move_call p stamp =
    cond (pair_sound p) (cond (stamp_in_range p.actuator.clock stamp) (joint_move_done (pair_move p stamp)) (joint_move_refused p BadStamp)) (joint_move_refused p UnsoundState)
