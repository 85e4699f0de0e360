-- What the code of the run knows of a checked file.
use Rattle.std.specs.Prelude.{ℕ, cond, List, ◌≡◌}
use Rattle.base.specs.declared.refusal.Refusal.TheVariants.{ShortBuffer}
use Rattle.rules.specs.declared.state.State.{State}
use Rattle.rules.specs.Steps.{fresh}
use Rattle.rules.specs.Readings.{cues, found}
use Rattle.rules.specs.Files.{lent_enough, params_in, scenes_in}
use Rattle.rules.specs.Refusals.{GoodStart}
use Rattle.sensor.specs.declared.state.Sensor.{Sensor}
use Rattle.pairs.specs.Lists.{Listed, PairPlayed}
use Rattle.pairs.specs.Walls.{items_read, WallWhole, play_over, wall_accepted, wall_refused}

-- the items that a reading of a file has found
unfoldable pub items_in : List ℕ → List Listed
items_in file = found (items_read file)

-- the fresh state of its own parameters and scenes
unfoldable pub fresh_in : List ℕ → State
fresh_in file = fresh (params_in file) (scenes_in file)

-- the run over it, with this sensor beside the actuator
unfoldable pub play_in : List ℕ → Sensor → PairPlayed
play_in file z = play_over file z (items_in file)

-- "then 8": refused where a buffer is too short, and played where none is
unfoldable pub ran_in : List ℕ → Sensor → List ℕ → List ℕ → WallWhole
ran_in file z records answers = cond (lent_enough file records answers) (wall_accepted (play_in file z) records answers) (wall_refused ShortBuffer 0 records answers)

-- nothing is wrong with the file
pub record Fit (file : List ℕ) : Type 0 where
  pub start : GoodStart file
  pub reads : items_read file ≡ cues (items_in file)
