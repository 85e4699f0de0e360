use mathlib.Core.Path.{sym, ◌∙◌}
use Rattle.desk.proofs.Lives.{no_image, move_no_image}
use Rattle.desk.proofs.clock.house_move.Goals as goal

pub returns-in_default : goal.returns-in_default
returns-in_default c = rw c.refused.ensures (move_no_image _ _ _ (no_image _ c.in_default.ensures.cases))

pub returns-else-is_image_of : goal.returns-else-is_image_of
returns-else-is_image_of c =
    rw (c.refused-else-is_image_of.ensures, ← c.in-Some.ensures.cases.same) (move_no_image _ _ _ (sym c.is_image_of.ensures ∙ c.if-is_image_of.false))
