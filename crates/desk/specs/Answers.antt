-- What the live calls hand out: the number, and what stands in the lent memory then.
use Rattle.base.specs.Refusals.{Check}
use Rattle.std.specs.Prelude.{ℕ, List, Ok, Err}
use Rattle.base.specs.declared.refusal.Refusal.TheVariants.{ShortBuffer}
use Rattle.rules.specs.Readings.{verdict}
use Rattle.rules.specs.Files.{read_file}
use Rattle.rules.specs.Live.{refused_number, Imaged, ImagedMove, ImagedRun}

abbrev pub imaged_by : ℕ → List ℕ → Imaged
imaged_by n state = record { number = n; state = state }

abbrev pub imaged_move_by : ℕ → List ℕ → List ℕ → ImagedMove
imaged_move_by n state records = record { number = n; state = state; records = records }

abbrev pub imaged_run_by : ℕ → List ℕ → List ℕ → List ℕ → ImagedRun
imaged_run_by n state records answers = record { number = n; state = state; records = records; answers = answers }

-- what a file is refused for where the lent state is no room for an image: its own row, then 8
abbrev pub short_by : Check → ℕ
short_by (Ok _) = refused_number ShortBuffer 0
short_by (Err fault) = refused_number fault.why fault.place

unfoldable pub short_number : List ℕ → ℕ
short_number file = short_by (verdict (read_file file))
