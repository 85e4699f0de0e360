use Rattle.player.proofs.Timers.{Into}
use Rattle.rules.proofs.Laws.Steps.{rank}
use Rattle.player.proofs.items.advance.Given as goal

abbrev pub invariant-loop-p : goal.invariant-loop-p
invariant-loop-p l = Into l.p l.l l.t l.count l.initial.records l.ph l.n l.records

abbrev pub decreases-loop-p : goal.decreases-loop-p
decreases-loop-p l = rank l.ph
