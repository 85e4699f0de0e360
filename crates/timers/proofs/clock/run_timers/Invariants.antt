use Rattle.rules.proofs.Laws.Steps.{rank}
use Rattle.timers.proofs.Moves.{Noted}
use Rattle.timers.proofs.clock.run_timers.Given as goal

abbrev pub invariant-loop-p : goal.invariant-loop-p
invariant-loop-p l = Noted l.p l.l l.t l.ticked.phase l.ticked.notes

abbrev pub decreases-loop-p : goal.decreases-loop-p
decreases-loop-p l = rank l.ticked.phase
