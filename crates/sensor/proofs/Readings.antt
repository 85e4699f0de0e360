-- Sentences of 02, [1], that can be read in two ways: each as computed, by the reading that is taken.
use Prim.Native.Nat.{ℕ}
use mathlib.Core.Bool.{false}
use mathlib.Core.List.{List, [], ◌∷◌}
use mathlib.Core.Path.{◌≡◌, refl}
use Rattle.base.specs.Refusals.{stamp_in_range}
use Rattle.octets.specs.BigEndian.{octets32}
use Rattle.octets.specs.Groups.{stamp_at}
use Rattle.sensor.specs.declared.action.Action.TheVariants.{Nothing, SendInverse}
use Rattle.sensor.specs.declared.state.Sensor.{Sensor}
use Rattle.sensor.specs.declared.call.Sensed.{Sensed}
use Rattle.sensor.specs.Actions.{action_of, bad_action, check_actions}
use Rattle.sensor.specs.Signals.{zero_or_one, signalled, signal_at}
use Rattle.sensor.specs.Sensors.{fresh_sensor, own_sensor, sound_sensor}
use Rattle.sensor.specs.Reactions.{hear, press, react}
use Rattle.sensor.specs.Calls.{fresh_sensor_by, fresh_sensor_call, telegram_octets, sensed, sensor_refused, sensor_meant, sensor_call}
use Rattle.sensor.specs.Claims.{silence}

-- what is opened to compute them
computing : Unit {0}
unfolding fresh_sensor_call fresh_sensor_by check_actions bad_action action_of fresh_sensor own_sensor sensor_call sensor_meant sensor_refused sensed telegram_octets octets32 sound_sensor stamp_in_range stamp_at signal_at signalled zero_or_one react press hear
computing = tt

-- the sensor with these actions, and after each of these inputs; an input has a stamp of one octet
abbrev with_actions : List ℕ → Sensor
with_actions octets = (fresh_sensor_call octets).sensor

abbrev input : ℕ → ℕ → ℕ → List ℕ
input stamp kind value = 0 ∷ 0 ∷ 0 ∷ stamp ∷ kind ∷ value ∷ 0 ∷ 0 ∷ []

abbrev after : Sensor → List ℕ → Sensor
after z octets = (sensor_call z octets).sensor

-- "two buttons, four edges": four octets, in the order of their PIDs, and no other parameter
pub four_actions_are_all : fresh_sensor_call (3 ∷ 0 ∷ 3 ∷ 0 ∷ []) ≡
    record { sensor = record { rising1 = SendInverse; falling1 = Nothing; rising2 = SendInverse; falling2 = Nothing; clock = 0; value = false }; code = 0; place = 0 }
unfolding computing
four_actions_are_all = refl

-- "11, an action above 3, where 5 stands": with the place that 5 would have, the lowest bad octet
pub the_lowest_bad_action_is_blamed : fresh_sensor_call (0 ∷ 4 ∷ 9 ∷ 0 ∷ []) ≡ record { sensor = own_sensor; code = 11; place = 1 }
unfolding computing
the_lowest_bad_action_is_blamed = refl

-- each edge has its own: button 1 rising On, falling Off; button 2 rising nothing, falling a toggle
pub each_edge_has_its_own_action : let z : Sensor = with_actions (2 ∷ 1 ∷ 0 ∷ 3 ∷ []) in
    ((sensor_call z (input 5 11 1)).sent ≡ input 5 1 1) × ((sensor_call z (input 5 11 0)).sent ≡ input 5 1 0) × ((sensor_call z (input 5 12 1)).sent ≡ silence) × ((sensor_call z (input 5 12 0)).sent ≡ input 5 1 1)
unfolding computing
each_edge_has_its_own_action = (refl, refl, refl, refl)

-- "takes .. status values": InfoOnOff is 0 or 1, not the 255 of a record
pub a_status_of_255_is_refused : sensor_call own_sensor (input 0 13 255) ≡ record { sensor = own_sensor; code = 6; place = 0; sent = silence }
unfolding computing
a_status_of_255_is_refused = refl

-- "6, 7 and 9 as for the actuator": a status moves the clock, so an edge before it is refused
pub an_edge_before_a_status_is_refused : let heard : Sensor = after (with_actions (3 ∷ 0 ∷ 0 ∷ 0 ∷ [])) (input 10 13 1) in
    sensor_call heard (input 9 11 1) ≡ record { sensor = heard; code = 7; place = 0; sent = silence }
unfolding computing
an_edge_before_a_status_is_refused = refl

-- "For a single input 9, 6, 7": a clock past the last stamp before a kind that is none, and that before a stamp below the clock
abbrev at_clock : ℕ → Sensor
at_clock clock = record { rising1 = SendInverse; falling1 = Nothing; rising2 = Nothing; falling2 = Nothing; clock = clock; value = false }

pub nine_then_six_then_seven :
    ((sensor_call (at_clock 864_001) (input 0 1 1)).code ≡ 9) × ((sensor_call (at_clock 864_000) (input 0 1 1)).code ≡ 6) × ((sensor_call (at_clock 864_000) (input 0 11 1)).code ≡ 7)
unfolding computing
nine_then_six_then_seven = (refl, refl, refl)

-- "the last value sent": every send counts, not toggles alone. On by button 1, then a toggle by button 2: Off.
pub a_toggle_inverts_what_another_button_sent : let on : Sensed = sensor_call (with_actions (2 ∷ 0 ∷ 3 ∷ 0 ∷ [])) (input 0 11 1) in
    (on.sent ≡ input 0 1 1) × ((sensor_call on.sensor (input 5 12 1)).sent ≡ input 5 1 0)
unfolding computing
a_toggle_inverts_what_another_button_sent = (refl, refl)

-- edges are not paired: two rising edges in a row both act, On and Off
pub two_rising_edges_both_act : let once : Sensed = sensor_call (with_actions (3 ∷ 0 ∷ 0 ∷ 0 ∷ [])) (input 0 11 1) in
    (once.sent ≡ input 0 1 1) × ((sensor_call once.sensor (input 5 11 1)).sent ≡ input 5 1 0)
unfolding computing
two_rising_edges_both_act = (refl, refl)

-- "stamped edges": octets 6 and 7 are zero, as of every input
pub an_edge_with_a_track_is_refused : sensor_call own_sensor (0 ∷ 0 ∷ 0 ∷ 0 ∷ 11 ∷ 1 ∷ 5 ∷ 0 ∷ []) ≡ record { sensor = own_sensor; code = 6; place = 0; sent = silence }
unfolding computing
an_edge_with_a_track_is_refused = refl
