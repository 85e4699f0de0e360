-- What holds of every octet string that is accepted as a wall list: its stamps rise, its run is the actuator's over the cues and telegrams and the
-- sensor's over the records and edges, and so the promises of the actuator are the pair's.
use Prim.Native.Nat.{ℕ, zero, suc, ◌+◌, ◌≤◌}
use mathlib.Core.Bool.{true}
use mathlib.Core.List.{List, [], ◌∷◌, ◌++◌}
use mathlib.Core.Path.{◌≡◌, sym, ◌∙◌}
use native.Mathlib.Omega.{arith}
use Rattle.octets.specs.Groups.{stamp_at}
use Rattle.rules.specs.Forms.{form_in}
use Rattle.rules.specs.Layout.{input_place}
use Rattle.rules.specs.Steps.{fresh}
use Rattle.rules.specs.Lists.{Cue, play_list}
use Rattle.rules.specs.Readings.{cues, read_inputs}
use Rattle.rules.specs.Runs.{play_file}
use Rattle.rules.specs.Files.{input_count, end_time, parameters_in, read_file, inputs_in}
use Rattle.rules.specs.Promises.{Rises, DarkPromise, LightPromise, StrongLightPromise}
use Rattle.rules.proofs.Laws.Forms.{file_row}
use Rattle.rules.proofs.Laws.Parameters.{passed_has_some_time, passed_is_in_range}
use Rattle.rules.proofs.Refusals.Files.{good_file, good_start}
use Rattle.rules.proofs.Promises.Dark.{dark}
use Rattle.rules.proofs.Promises.Light.{strong_light, light}
use Rattle.sensor.specs.Sensors.{fresh_sensor}
use Rattle.sensor.specs.Reactions.{reacts}
use Rattle.sensor.specs.Refusals.{GoodActions}
use Rattle.pairs.specs.Pairs.{Pair, pair_step}
use Rattle.pairs.specs.Lists.{Listed, listed, PairPlayed, actuator_part, pair_plays_to, pair_start, play_items}
use Rattle.pairs.specs.Calls.{pair_sound}
use Rattle.pairs.specs.Halves.{ItemsRise, cues_for, ActuatorHalf, statuses, signals_for, SensorHalf}
use Rattle.pairs.specs.Refusals.{GoodWall}
use Rattle.pairs.specs.Walls.{file_in, actions_in, item_in, read_wall, play_wall}
use Rattle.demands.specs.Walls.{wall_params, wall_scenes, wall_end, begun, cues_given}
use Rattle.pairs.proofs.Playing.{pair_plays_to_next, pair_plays_to_end}
use Rattle.pairs.proofs.Halves.{plain_items, cues_rise, the_run_is_the_actuators, the_run_is_the_sensors}
use Rattle.pairs.proofs.Ties.{item_clock}
use Rattle.pairs.proofs.Soundness.{SceneFits, pair_move_keeps_sound, pair_step_keeps_sound, pair_start_is_sound}
use Rattle.pairs.proofs.Items.{item_fits}
use Rattle.pairs.proofs.Reading.{first_item, reads_plain, a_plain_list_is_the_actuators}
use Rattle.pairs.proofs.Refusals.Walls.{file_length, good_wall, a_good_start_is_read, good_wall_is_read}

-- ---- items that are read without fault

-- scenes have numbers up to 63
abbrev pub AllFit : List Listed → Type 0
AllFit [] = Unit {0}
AllFit (listed t i ∷ later) = SceneFits i × AllFit later

read_in_order : (inputs : List ℕ) (left j last end : ℕ) (items : List Listed) → last ≤ end → read_inputs (item_in inputs) inputs left j last end ≡ cues items → ItemsRise last items end × AllFit items
read_in_order inputs zero j last end items early read = let none : items ≡ [] = unfold read_inputs in cc in rw none (early, tt)
read_in_order inputs (suc left) j last end items early read =
    let f = first_item inputs left j last end items read in
    let rest = read_in_order inputs left (j + 1) (stamp_at inputs (input_place j)) end f.later f.timely f.reads in
    rw f.starts ((f.risen, rest.0), (item_fits inputs (input_place j) f.input f.meant, rest.1))

-- ---- soundness over a list

items_end : (last : ℕ) (items : List Listed) (end : ℕ) → ItemsRise last items end → last ≤ end
items_end last [] end r = r
items_end last (listed t i ∷ later) end r = omega (arith, r.0, items_end t later end r.1)

pub plays_keep_sound : (items : List Listed) (p : Pair) (last end : ℕ) → pair_sound p ≡ true → p.actuator.clock ≤ last → ItemsRise last items end → AllFit items → end ≤ 864_000 →
    pair_sound (pair_plays_to end items p).pair ≡ true
plays_keep_sound [] p last end safe early rise fit whole = rw (pair_plays_to_end end p) (pair_move_keeps_sound p end safe (omega arith) whole)
plays_keep_sound (listed t i ∷ later) p last end safe early rise fit whole =
    let next : Pair = (pair_step p i t).pair in
    let there = items_end t later end rise.1 in
    rw (pair_plays_to_next end t i later p)
    (plays_keep_sound later next t end (pair_step_keeps_sound p i t safe (omega (arith, rise.0)) (omega arith) fit.0) (omega (arith, item_clock p i t)) rise.1 fit.1 whole)

-- ---- every accepted wall list

module _ (wall : List ℕ) (items : List Listed) (read : read_wall wall ≡ cues items) where
  abbrev file : List ℕ
  file = file_in wall

  good : GoodWall wall
  good = good_wall wall items read

  in_order : ItemsRise 0 items (end_time file) × AllFit items
  in_order = read_in_order (inputs_in file) (input_count file) 0 0 (end_time file) items (omega arith) (sym (good_wall_is_read wall good) ∙ read)

  pub items_rise : ItemsRise 0 items (end_time file)
  items_rise = in_order.0

  pub cues_given_rise : Rises 0 (cues_given wall items) (wall_end wall)
  cues_given_rise = cues_rise 0 (wall_end wall) items (begun wall) items_rise

  pub a_wall_has_some_time : 1 ≤ (wall_params wall).timedon
  a_wall_has_some_time = passed_has_some_time (form_in file) (parameters_in file) good.start.passed

  -- demand 2 over the pair: state, records and answers are the actuator's, over what it is given
  pub a_wall_run_is_the_actuators : ActuatorHalf (cues_for items (begun wall)) (play_wall wall items) (play_list (wall_params wall) (wall_scenes wall) (cues_given wall items) (wall_end wall))
  unfolding play_wall
  a_wall_run_is_the_actuators = the_run_is_the_actuators (wall_params wall) (wall_scenes wall) (fresh_sensor (actions_in wall)) items (wall_end wall) items_rise

  -- demand 3 over the pair: an edge's On or Off counts as On or Off
  pub dark_of_every_accepted_wall : DarkPromise (wall_params wall) (wall_scenes wall) (cues_given wall items) (wall_end wall)
  dark_of_every_accepted_wall = dark _ _ (cues_given wall items) (wall_end wall) cues_given_rise

  pub strong_light_of_every_accepted_wall : StrongLightPromise (wall_params wall) (wall_scenes wall) (cues_given wall items) (wall_end wall)
  strong_light_of_every_accepted_wall = strong_light _ _ (cues_given wall items) (wall_end wall) cues_given_rise a_wall_has_some_time

  pub light_of_every_accepted_wall : LightPromise (wall_params wall) (wall_scenes wall) (cues_given wall items) (wall_end wall)
  light_of_every_accepted_wall = light _ _ (cues_given wall items) (wall_end wall) cues_given_rise a_wall_has_some_time

  -- a sound pair from the start to the end
  pub a_wall_starts_sound : pair_sound (begun wall) ≡ true
  a_wall_starts_sound =
      let ranges = passed_is_in_range (form_in file) (parameters_in file) (file_row file) good.start.passed in
      pair_start_is_sound (wall_params wall) (wall_scenes wall) (fresh_sensor (actions_in wall)) ranges.0 ranges.1

  pub a_wall_ends_sound : pair_sound (play_wall wall items).pair ≡ true
  unfolding play_wall play_items
  a_wall_ends_sound = plays_keep_sound items (begun wall) 0 (wall_end wall) a_wall_starts_sound (unfold fresh in omega arith) items_rise in_order.1 good.start.header.layout.end

-- and the sensor's half of demand 2: what it sends and ends in is its own, over the records and the edges. The start record is heard first.
pub a_wall_run_is_the_sensors : (wall : List ℕ) (items : List Listed) →
    let start : PairPlayed = pair_start (wall_params wall) (wall_scenes wall) (fresh_sensor (actions_in wall)) in
    SensorHalf (play_wall wall items) (reacts (statuses start.records ++ signals_for (wall_end wall) items start.pair) (fresh_sensor (actions_in wall)))
unfolding play_wall
a_wall_run_is_the_sensors wall items = the_run_is_the_sensors (wall_params wall) (wall_scenes wall) (fresh_sensor (actions_in wall)) items (wall_end wall)

-- ---- a cue file and four actions

-- so a cue file with four actions is a wall list, and its run is the file's own
pub a_cue_file_is_a_wall_list : (wall : List ℕ) (list : List Cue) → GoodActions (actions_in wall) → read_file (file_in wall) ≡ cues list → read_wall wall ≡ cues (plain_items list)
a_cue_file_is_a_wall_list wall list actions read =
    let file : List ℕ = file_in wall in
    let start = (good_file file list read).start in
    a_good_start_is_read wall (omega (arith, file_length wall, start.header.enough.least)) start actions
    ∙ reads_plain (inputs_in file) (input_count file) 0 0 (end_time file) list (sym (good_start file start) ∙ read)

pub its_run_is_the_files : (wall : List ℕ) (list : List Cue) → actuator_part (play_wall wall (plain_items list)) ≡ play_file (file_in wall) list
unfolding play_wall play_file
its_run_is_the_files wall list = a_plain_list_is_the_actuators (wall_params wall) (wall_scenes wall) (fresh_sensor (actions_in wall)) list (wall_end wall)
