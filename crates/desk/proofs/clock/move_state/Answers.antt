use mathlib.Core.Path.{sym, ◌∙◌}
use native.Mathlib.Omega.{arith}
use Rattle.base.proofs.Codes.{timely_exactly_when}
use Rattle.phases.proofs.Rooms.{sound_room}
use Rattle.rules.proofs.Laws.Images.{accepted_is_sound}
use Rattle.timers.proofs.Moves.{moved_few}
use Rattle.desk.proofs.Lives.{move_late, move_short, move_made}
use Rattle.desk.proofs.clock.move_state.Goals as goal

pub returns-then-records-lt-MOVE_ROOM : goal.returns-then-records-lt-MOVE_ROOM
returns-then-records-lt-MOVE_ROOM c =
    let pre = c.requires in
    rw c.refused.ensures (move_short _ _ _ pre.0 (rw pre.1 at (sym c.stamp_in_range.ensures ∙ c.if-stamp_in_range.true)) (omega (arith, c.if-records-lt-MOVE_ROOM.true)))

pub move_clock-m-requires : goal.move_clock-m-requires
move_clock-m-requires c =
    sound_room c.args.s _ (rw c.requires.1 (accepted_is_sound _ c.requires.0)) ((timely_exactly_when _ _).0 (sym c.stamp_in_range.ensures ∙ c.if-stamp_in_range.true)).1

pub put_notes-requires : goal.put_notes-requires
put_notes-requires c =
    let few = moved_few _ _ _ c.move_clock-m.ensures in
    (omega arith, omega (arith, few), omega (arith, few, c.if-records-lt-MOVE_ROOM.false))

pub returns-else-records-lt-MOVE_ROOM : goal.returns-else-records-lt-MOVE_ROOM
returns-else-records-lt-MOVE_ROOM c =
    let pre = c.requires in
    rw (c.pack.ensures, c.put_image.ensures)
    (move_made _ _ _ pre.0 (rw pre.1 at (sym c.stamp_in_range.ensures ∙ c.if-stamp_in_range.true)) c.if-records-lt-MOVE_ROOM.false _ (rw pre.1 at c.move_clock-m.ensures) _ c.put_notes.ensures)

pub returns-else-stamp_in_range : goal.returns-else-stamp_in_range
returns-else-stamp_in_range c = let pre = c.requires in rw c.refused-else-stamp_in_range.ensures (move_late _ _ _ pre.0 (rw pre.1 at (sym c.stamp_in_range.ensures ∙ c.if-stamp_in_range.false)))
