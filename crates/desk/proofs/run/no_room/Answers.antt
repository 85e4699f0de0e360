use mathlib.Core.Path.{sym, ◌∙◌}
use Rattle.desk.specs.Answers.{short_number}
use Rattle.desk.proofs.run.no_room.Goals as goal

pub returns-in-Err : goal.returns-in-Err
unfolding short_number
returns-in-Err c = rw (c.refused.ensures, sym c.check_file.ensures ∙ c.in-Err.is)

pub returns-in-Ok : goal.returns-in-Ok
unfolding short_number
returns-in-Ok c = rw (c.refused-in-Ok.ensures, sym c.check_file.ensures ∙ c.in-Ok.is)
