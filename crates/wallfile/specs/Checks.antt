-- A wall list as the code checks it.
use Rattle.std.specs.Prelude.{ℕ, List}
use Rattle.base.specs.Refusals.{or_else, Check}
use Rattle.rules.specs.Readings.{verdict}
use Rattle.rules.specs.Files.{check_start}
use Rattle.sensor.specs.Actions.{check_actions}
use Rattle.pairs.specs.Walls.{items_read}

-- the file's start, the actions, the inputs
unfoldable pub check_parts : List ℕ → List ℕ → Check
check_parts file actions = or_else (check_start file) (or_else (check_actions actions) (verdict (items_read file)))
