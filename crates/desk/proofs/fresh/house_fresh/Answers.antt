use Rattle.desk.proofs.Lives.{fresh_refused, fresh_made, fresh_short}
use Rattle.desk.proofs.fresh.house_fresh.Goals as goal

pub returns-then-f-ne0 : goal.returns-then-f-ne0
returns-then-f-ne0 c = rw c.pack.ensures (fresh_refused _ _ _ c.fresh_state-f.ensures.whole c.if-f-ne0.true)

pub returns : goal.returns
returns c = rw (c.pack-2.ensures, c.put_image.ensures) (fresh_made _ _ _ c.fresh_state-f.ensures.whole c.if-f-ne0.false c.in-Some.ensures.cases.long)

pub returns-in_default : goal.returns-in_default
returns-in_default c = rw c.refused.ensures (fresh_short _ _ _ c.fresh_state-f.ensures.whole c.if-f-ne0.false c.in_default.ensures.cases)
