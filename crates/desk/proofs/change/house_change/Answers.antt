use mathlib.Core.Path.{sym, ◌∙◌}
use Rattle.desk.proofs.Lives.{no_image, change_lent_badly, change_no_image}
use Rattle.desk.proofs.change.house_change.Goals as goal

pub returns-in_default : goal.returns-in_default
returns-in_default c = rw c.refused.ensures (change_no_image _ _ _ _ (no_image _ c.in_default.ensures.cases))

pub returns-in-Err : goal.returns-in-Err
returns-in-Err c =
    rw (c.refused-in-Err.ensures, ← c.in-Some.ensures.cases.same)
    (change_lent_badly _ _ _ _ (sym c.is_image_of.ensures ∙ c.if-is_image_of.true) _ _ (sym c.check_lent.ensures ∙ c.in-Err.is))

pub returns-else-is_image_of : goal.returns-else-is_image_of
returns-else-is_image_of c =
    rw (c.refused-else-is_image_of.ensures, ← c.in-Some.ensures.cases.same) (change_no_image _ _ _ _ (sym c.is_image_of.ensures ∙ c.if-is_image_of.false))
