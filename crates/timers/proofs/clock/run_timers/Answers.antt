use mathlib.Core.Path.{sym, ◌∙◌}
use Rattle.timers.proofs.Moves.{noted_few, noted_last}
use Rattle.timers.proofs.clock.run_timers.Goals as goal

pub add-ticked-requires : goal.add-ticked-requires
add-ticked-requires c = noted_few _ _ _ _ _ c.loop-p.invariant

pub returns : goal.returns
returns c = λ k. noted_last _ _ _ _ _ c.loop-p.invariant (sym c.is_due.ensures ∙ c.loop-p-test.false) k
