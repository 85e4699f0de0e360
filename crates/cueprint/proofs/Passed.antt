-- What is known of a list that its check passed, and of the inputs of a file that is as long as its header says.
use Rattle.std.proofs.Common.{arith, ◌*◌, ◌≤◌, ◌≡◌, ◌∙◌, List, ℕ, length, length-drop, Ok}
use Rattle.rules.specs.Files.{read_file, check_start, input_count, inputs_in}
use Rattle.rules.specs.Forms.{form_in}
use Rattle.rules.specs.Layout.{least_file, file_size, inputs_at, most_inputs}
use Rattle.rules.specs.Readings.{verdict}
use Rattle.rules.specs.Refusals.{GoodHeader}
use Rattle.rules.proofs.Refusals.Files.{start_decides}
use Rattle.cues.proofs.Passed.{passed_start_is_good, passed_is_good}
use Rattle.pairs.specs.Walls.{actions_size, file_in, read_wall}
use Rattle.pairs.proofs.Refusals.Walls.{wall_decides}

-- ---- a cue file whose start passed

module _ (file : List ℕ) (passed : check_start file ≡ Ok tt) where
  header : GoodHeader file
  header = (passed_start_is_good file passed).header

  pub passed_least : least_file ≤ length file
  passed_least = header.enough.least

  pub passed_few : input_count file ≤ most_inputs
  passed_few = header.layout.few

  pub passed_whole : length file ≡ file_size (form_in file) (input_count file)
  passed_whole = header.layout.whole

-- ---- the start of what passed as a whole: of a cue file its own, of a wall list that of the file in it

pub passed_file_good : (file : List ℕ) → verdict (read_file file) ≡ Ok tt → check_start file ≡ Ok tt
passed_file_good file passed = (start_decides file).passed.1 (passed_is_good file passed).start

pub passed_wall_good : (wall : List ℕ) → verdict (read_wall wall) ≡ Ok tt → check_start (file_in wall) ≡ Ok tt
passed_wall_good wall passed = (start_decides (file_in wall)).passed.1 ((wall_decides wall).passed.0 passed).start

-- and it has the actions behind it
pub passed_wall_long : (wall : List ℕ) → verdict (read_wall wall) ≡ Ok tt → actions_size ≤ length wall
passed_wall_long wall passed = let long = ((wall_decides wall).passed.0 passed).long in omega arith

pub ruleset passed_file = (passed_file_good, passed_least, passed_few, passed_whole)

pub ruleset passed_wall = (passed_wall_long, passed_wall_good, passed_least, passed_few, passed_whole)

-- ---- the inputs

pub inputs_as_counted : (file : List ℕ) → length file ≡ file_size (form_in file) (input_count file) → length (inputs_in file) ≡ 8 * input_count file
unfolding inputs_in
inputs_as_counted file whole = length-drop (inputs_at (form_in file)) file ∙ omega (arith, whole)
