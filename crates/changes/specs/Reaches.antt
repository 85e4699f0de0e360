-- How far a change goes, as the code has it.
use Rattle.std.specs.Prelude.{ℕ, Ok, Err}
use Rattle.base.specs.Refusals.{number, Check}
use Rattle.changes.specs.declared.play.Reach.{Reach}

-- all n inputs, or those before the one that is refused
unfoldable pub reach_of : Check → ℕ → Reach
reach_of (Ok _) n = record { count = n; code = 0; place = 0 }
reach_of (Err fault) n = record { count = fault.place; code = number fault.why; place = fault.place }
