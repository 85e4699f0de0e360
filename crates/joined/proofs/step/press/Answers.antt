use Rattle.phases.proofs.Rooms.{sound_room}
use Rattle.timers.proofs.Moves.{moved_few}
use Rattle.joined.proofs.ByValue.{moved_has_room, telling_step}
use Rattle.joined.proofs.step.press.Goals as goal

pub move_clock-m-requires : goal.move_clock-m-requires
move_clock-m-requires c = sound_room _ _ c.args.at.sound c.args.at.timely

pub switched-requires : goal.switched-requires
switched-requires c =
    let e = c.move_clock-m.ensures in
    (moved_has_room c.args.at.pair _ _ e c.args.at.sound c.args.at.risen c.args.at.timely, moved_few _ _ _ e)

pub returns-in-Some : goal.returns-in-Some
returns-in-Some c = telling_step _ _ _ c.move_clock-m.ensures _ c.hear_notes-heard.ensures _ _ c.react-r.ensures _ c.in-Some.is _ c.switched.ensures
