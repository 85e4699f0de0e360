-- Every list of the table of readings shows what the pair shows of it; and the readings that are not about a list from the start.
use Rattle.std.specs.Prelude.{Some}
use Prim.Native.Nat.{ℕ}
use mathlib.Core.Bool.{true, false}
use mathlib.Core.Path.{◌≡◌, refl}
use mathlib.Core.List.{[], ◌∷◌, ◌++◌, map}
use Rattle.base.specs.declared.refusal.Refusal.TheVariants.{BadInput, BadStamp}
use Rattle.rules.specs.declared.input.Input.TheVariants.{SwitchOnOff, TimedStartStop}
use Rattle.rules.specs.declared.phase.Phase.{Phase}
use Rattle.rules.specs.declared.phase.Phase.TheVariants.{Lit, Starting}
use Rattle.rules.specs.declared.state.State.{State}
use Rattle.rules.specs.Steps.{at_moment, fresh}
use Rattle.rules.specs.Lists.{cue}
use Rattle.rules.specs.Calls.{no_scenes}
use Rattle.rules.specs.Readings.{bad}
use Rattle.rules.specs.Files.{cue_at, read_file}
use Rattle.sensor.specs.declared.action.Action.TheVariants.{Nothing, SendInverse}
use Rattle.sensor.specs.declared.state.Sensor.{Sensor}
use Rattle.sensor.specs.Sensors.{fresh_sensor}
use Rattle.pairs.specs.Pairs.{pair_of}
use Rattle.pairs.specs.Lists.{PairPlayed, pair_plays_to, play_items}
use Rattle.pairs.specs.Halves.{cues_for, given}
use Rattle.pairs.specs.Calls.{joint_call}
use Rattle.pairs.specs.Walls.{read_wall}
use Rattle.demands.specs.Walls.{cues_given}
use Rattle.demands.specs.Readings.{times, toggles, press_at, release_at, timed_at, PairCase, pair_played, pair_cases}
use Rattle.demands.proofs.Computing.{playing_pairs, reading_walls, playing_walls, calling_pairs}
use Rattle.demands.proofs.WrongModels.{octets_of, file_of}

pub read_as_decided : map pair_played pair_cases ≡ map (λ (c : PairCase). c.shows) pair_cases
unfolding pair_cases pair_played playing_pairs
read_as_decided = refl

-- ---- a pair that is handed in

-- the sensor that toggles, with this clock and value
abbrev sensor_at : ℕ → Sensor
sensor_at clock = record { rising1 = SendInverse; falling1 = Nothing; rising2 = Nothing; falling2 = Nothing; clock = clock; value = false }

abbrev actuator_at : ℕ → Phase → State
actuator_at clock phase = at_moment (fresh (times 2 5 60 10) no_scenes) clock phase

-- "the value before any is off", though the actuator that is handed in is lit: press 10 is On, answered 1
pub a_fresh_sensor_beside_a_lit_actuator_sends_on : let run : PairPlayed = pair_plays_to 20 (press_at 10 ∷ []) (pair_of (actuator_at 0 Lit) (fresh_sensor toggles)) in
    (run.telegrams ≡ Some true ∷ []) × (run.answers ≡ 1 ∷ []) × (run.records ≡ [])
unfolding playing_pairs
a_fresh_sensor_beside_a_lit_actuator_sends_on = (refl, refl, refl)

-- 9 of the pair: both are sound, but what the actuator records at 200 could not be heard by a sensor whose clock is 500
pub a_sensor_ahead_of_its_actuator_is_refused : (joint_call (pair_of (actuator_at 100 (Starting false 200)) (sensor_at 500)) (0 ∷ 0 ∷ 2 ∷ 88 ∷ 11 ∷ 1 ∷ 0 ∷ 0 ∷ [])).code ≡ 9
unfolding calling_pairs
a_sensor_ahead_of_its_actuator_is_refused = refl

-- where its clock is not after the actuator's, the same press is taken
pub a_sensor_behind_its_actuator_is_taken : (joint_call (pair_of (actuator_at 100 (Starting false 200)) (sensor_at 50)) (0 ∷ 0 ∷ 2 ∷ 88 ∷ 11 ∷ 1 ∷ 0 ∷ 0 ∷ [])).code ≡ 0
unfolding calling_pairs
a_sensor_behind_its_actuator_is_taken = refl

-- ---- stamps, kinds and the end of a list

-- "Stamps never fall" over the whole list, edges and cues: On 5, press 4 has 7 at its second input
pub an_edge_before_a_cue_is_refused : read_wall (file_of 2 (octets_of 5 1 1 ++ octets_of 4 11 1) ++ toggles) ≡ bad BadStamp 1
unfolding file_of reading_walls
an_edge_before_a_cue_is_refused = refl

-- by value it is the actuator's clock that a stamp must not be below
pub an_edge_before_the_actuators_clock_is_refused : (joint_call (pair_of (actuator_at 5 Lit) (sensor_at 0)) (octets_of 4 11 1)).code ≡ 7
unfolding calling_pairs
an_edge_before_the_actuators_clock_is_refused = refl

-- "each record is a status", and no other is named: kind 13 is refused in a list and by value
pub a_status_is_no_item_of_a_list : read_wall (file_of 1 (octets_of 5 13 1) ++ toggles) ≡ bad BadInput 0
unfolding file_of reading_walls
a_status_is_no_item_of_a_list = refl

pub a_status_is_no_item_by_value : (joint_call (pair_of (actuator_at 0 Lit) (sensor_at 0)) (octets_of 5 13 1)).code ≡ 6
unfolding calling_pairs
a_status_is_no_item_by_value = refl

-- a cue file has no edges
pub an_edge_is_no_input_of_a_cue_file : read_file (file_of 1 (octets_of 5 11 1)) ≡ bad BadInput 0
unfolding file_of reading_walls read_file cue_at
an_edge_is_no_input_of_a_cue_file = refl

-- "After the last input the clock moves to the end time.", and what is recorded then is heard: a timed start at 0 is over at 70
pub the_end_of_a_list_is_heard : (play_items (times 0 0 6 1) no_scenes (fresh_sensor toggles) (timed_at 0 ∷ []) 70).pair.sensor ≡ sensor_at 70
unfolding playing_pairs
the_end_of_a_list_is_heard = refl

-- "the demands read over the pair": what an edge sends is among the cues that the promises speak of, at the edge's stamp; an edge that sends
-- nothing gives none
pub what_an_edge_sends_counts_as_a_cue :
    cues_given (file_of 3 (octets_of 0 2 1 ++ octets_of 5 11 0 ++ octets_of 10 11 1) ++ toggles) (timed_at 0 ∷ release_at 5 ∷ press_at 10 ∷ []) ≡ cue 0 (TimedStartStop true) ∷ cue 10 (SwitchOnOff true) ∷ []
unfolding file_of playing_walls cues_for given
what_an_edge_sends_counts_as_a_cue = refl
