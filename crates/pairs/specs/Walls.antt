-- The wall list: a cue file of 01 in which an input may also be an edge, followed by the four octets of the sensor's parameters; and the run over
-- it, whole, for every octet string and every pair of lent buffers.
use Rattle.pairs.specs.declared.item.Item.{Item}
use Rattle.std.specs.Prelude.{ℕ, ◌+◌, ◌-◌, cond, List, length, take, drop, leb, Some, None, Option}
use Rattle.octets.specs.Groups.{stamp_at}
use Rattle.base.specs.declared.refusal.Refusal.{Refusal}
use Rattle.base.specs.declared.refusal.Refusal.TheVariants.{WrongLength}
use Rattle.base.specs.Refusals.{number, or_else, Check, refused_with}
use Rattle.rules.specs.declared.call.Ran.{Ran}
use Rattle.rules.specs.Layout.{least_file, input_place}
use Rattle.rules.specs.Calls.{own_state}
use Rattle.rules.specs.Readings.{Reading, cues, bad, read_inputs, after_check, if_lent_enough}
use Rattle.rules.specs.Files.{input_count, end_time, inputs_in, check_start, lent_enough, params_in, scenes_in}
use Rattle.rules.specs.Runs.{records_octets, over, Whole, Answered, answered_by}
use Rattle.sensor.specs.declared.state.Sensor.{Sensor}
use Rattle.sensor.specs.Actions.{check_actions}
use Rattle.sensor.specs.Sensors.{fresh_sensor, own_sensor}
use Rattle.pairs.specs.declared.call.WallRan.{WallRan}
use Rattle.pairs.specs.Items.{item_at}
use Rattle.pairs.specs.Lists.{Listed, listed, PairPlayed, play_items}

-- "two buttons, four edges": an octet for each
abbrev pub actions_size : ℕ
actions_size = 4

-- the cue file, and the actions after it
unfoldable pub file_in : List ℕ → List ℕ
file_in wall = take (length wall - actions_size) wall

unfoldable pub actions_in : List ℕ → List ℕ
actions_in wall = drop (length wall - actions_size) wall

-- the least length: the shortest file, and the actions
abbrev pub least_wall : ℕ
least_wall = least_file + actions_size

-- "Order 1, 2, 3, 4, 5"; "11 .. where 5 stands for the sensor's parameters": after 5
unfoldable pub check_wall : List ℕ → Check
check_wall wall = cond (leb least_wall (length wall)) (or_else (check_start (file_in wall)) (check_actions (actions_in wall))) (refused_with WrongLength 0)

-- what input i of a list says: an item with its stamp, or nothing
abbrev pub stamped_item : ℕ → Option Item → Option Listed
stamped_item stamp (Some i) = Some (listed stamp i)
stamped_item stamp None = None

unfoldable pub item_in : List ℕ → ℕ → Option Listed
item_in inputs i = stamped_item (stamp_at inputs (input_place i)) (item_at inputs (input_place i))

-- "then the first bad input, 6 before 7": those of a file, edges among them or not
abbrev pub items_read : List ℕ → Reading Listed
items_read file = read_inputs (item_in (inputs_in file)) (inputs_in file) (input_count file) 0 0 (end_time file)

unfoldable pub read_wall : List ℕ → Reading Listed
read_wall wall = after_check (check_wall wall) (items_read (file_in wall))

-- "then 8": room as the run asks for
unfoldable pub read_wall_call : List ℕ → List ℕ → List ℕ → Reading Listed
read_wall_call wall records answers = if_lent_enough (lent_enough (file_in wall) records answers) (read_wall wall)

-- ---- the run

-- what a run comes to: the report, and the whole contents of both buffers
pub record WallWhole : Type 0 where
  pub report : WallRan
  pub records : List ℕ
  pub answers : List ℕ

-- as the code hands them out
abbrev pub wall_whole : WallRan → List ℕ → List ℕ → WallWhole
wall_whole r records answers = record { report = r; records = records; answers = answers }

-- what items give: the file's own parameters and scenes, with this sensor beside the actuator, played to its end time
abbrev pub play_over : List ℕ → Sensor → List Listed → PairPlayed
play_over file z items = play_items (params_in file) (scenes_in file) z items (end_time file)

unfoldable pub play_wall : List ℕ → List Listed → PairPlayed
play_wall wall items = play_over (file_in wall) (fresh_sensor (actions_in wall)) items

unfoldable pub wall_accepted : PairPlayed → List ℕ → List ℕ → WallWhole
wall_accepted p records answers =
    record {
      report = record { state = p.pair.actuator; sensor = p.pair.sensor; code = 0; place = 0; count = length p.records };
      records = over (records_octets p.records) records;
      answers = over p.answers answers;
    }

-- a refused run writes nothing, and has the refusal's own state and sensor
abbrev pub wall_refusal : Refusal → ℕ → WallRan
wall_refusal why place = record { state = own_state; sensor = own_sensor; code = number why; place = place; count = 0 }

unfoldable pub wall_refused : Refusal → ℕ → List ℕ → List ℕ → WallWhole
wall_refused why place records answers = record { report = wall_refusal why place; records = records; answers = answers }

unfoldable pub wall_by : Reading Listed → List ℕ → List ℕ → List ℕ → WallWhole
wall_by (cues items) wall records answers = wall_accepted (play_wall wall items) records answers
wall_by (bad why place) wall records answers = wall_refused why place records answers

unfoldable pub wall_call : List ℕ → List ℕ → List ℕ → WallWhole
wall_call wall records answers = wall_by (read_wall_call wall records answers) wall records answers

-- the same without its sensor
abbrev pub ran_of : WallRan → Ran
ran_of r = record { state = r.state; code = r.code; place = r.place; count = r.count }

abbrev pub without_sensor : WallWhole → Whole
without_sensor w = record { report = ran_of w.report; records = w.records; answers = w.answers }

-- to C: the same packed number
unfoldable pub house_wall_run : List ℕ → List ℕ → List ℕ → Answered
house_wall_run wall records answers = answered_by (without_sensor (wall_call wall records answers))
