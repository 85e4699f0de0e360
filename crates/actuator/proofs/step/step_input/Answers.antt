use Rattle.timers.specs.Ticks.{clocked}
use Rattle.phases.proofs.Rooms.{sound_room, moved_roomy}
use Rattle.rules.proofs.Laws.Soundness.{move_clock, move_params}
use Rattle.actuator.proofs.step.step_input.Goals as goal

pub move_clock-m-requires : goal.move_clock-m-requires
move_clock-m-requires c = sound_room c.args.s c.args.t c.requires.0 c.requires.2

pub act_input-d-requires : goal.act_input-d-requires
unfolding clocked
act_input-d-requires c =
    rw (c.move_clock-m.ensures, move_params c.args.s c.args.t, move_clock c.args.s c.args.t)
    (moved_roomy c.args.s c.args.t c.requires.0 c.requires.1 c.requires.2)
