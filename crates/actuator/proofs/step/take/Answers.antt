use mathlib.Core.Path.{◌∙◌}
use Rattle.actuator.proofs.Taken.{counts_is_done}
use Rattle.actuator.proofs.step.take.Goals as goal

pub returns-in_default : goal.returns-in_default
returns-in_default c = c.take_other.ensures _ ∙ counts_is_done _ _ _ c.requires.1
