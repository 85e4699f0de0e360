use Rattle.player.proofs.Timers.{into_first, into_room, into_on, into_last}
use Rattle.timers.proofs.Moves.{due_has_room, due_lowers_the_rank}
use native.Mathlib.Omega.{arith}
use mathlib.Core.Path.{sym, ◌∙◌}
use Rattle.player.proofs.items.advance.Goals as goal

pub loop-p-init : goal.loop-p-init
loop-p-init c = into_first _ _ _ _ _

pub run_timer-timer-requires : goal.run_timer-timer-requires
run_timer-timer-requires c =
    due_has_room c.args.p c.loop-p.ph c.args.t (sym c.is_due.ensures ∙ c.loop-p-test.true) c.requires.0

pub put_note-n-requires : goal.put_note-n-requires
put_note-n-requires c =
    let i = c.loop-p.invariant in
    let room = into_room _ _ _ _ _ _ _ _ i (sym c.is_due.ensures ∙ c.loop-p-test.true) in
    rw c.run_timer-timer.ensures (omega (arith, room, c.requires.1), omega (arith, room, i.room, c.requires.2))

pub loop-p-smaller : goal.loop-p-smaller
loop-p-smaller c =
    let a = c.args in
    rw c.run_timer-timer.ensures (due_lowers_the_rank a.p a.l c.loop-p.ph a.t (sym c.is_due.ensures ∙ c.loop-p-test.true))

pub loop-p-preserved : goal.loop-p-preserved
loop-p-preserved c =
    let timer = c.run_timer-timer.ensures in
    let put = c.put_note-n in
    rw timer (into_on c.args.p c.args.l c.args.t c.args.count _ _ _ _ c.loop-p.invariant (sym c.is_due.ensures ∙ c.loop-p-test.true) (omega (arith, c.requires.2)) _ (rw timer at put.ensures.0) _ (rw timer at put.ensures.1) put.auto.buf)

pub shape_of-records : goal.shape_of-records
shape_of-records c = c.loop-p.invariant.room

pub returns : goal.returns
returns c = λ k. rw c.at_moment.ensures (into_last _ _ _ _ _ _ _ _ c.loop-p.invariant (sym c.is_due.ensures ∙ c.loop-p-test.false) k)
