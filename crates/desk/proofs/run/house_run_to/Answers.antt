use Rattle.rules.specs.Runs.{packed}
use Rattle.desk.proofs.Lives.{run_to_short, run_to_refused, run_to_done}
use Rattle.desk.proofs.run.house_run_to.Goals as goal

pub returns-in_default : goal.returns-in_default
returns-in_default c = rw c.no_room.ensures (run_to_short _ _ _ _ c.in_default.ensures.cases)

pub returns-then-stopped : goal.returns-then-stopped
unfolding packed
returns-then-stopped c =
    let lent = c.in-Some.ensures.cases in
    rw (c.pack.ensures, lent.same) (run_to_refused _ _ _ _ lent.long _ c.run-r.ensures c.if-stopped.true)

pub returns : goal.returns
unfolding packed
returns c = rw (c.pack-2.ensures, c.put_image.ensures) (run_to_done _ _ _ _ c.in-Some.ensures.cases.long _ c.run-r.ensures c.if-stopped.false)
