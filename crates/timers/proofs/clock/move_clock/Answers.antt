use Rattle.timers.specs.Ticks.{timers_of, clocked}
use Rattle.lamps.specs.Lamps.{lamp_of}
use Rattle.timers.proofs.Moves.{moved_lamp}
use Rattle.timers.proofs.clock.move_clock.Goals as goal

pub returns : goal.returns
unfolding timers_of clocked
returns c =
    let a = c.args in
    let l = c.from-l.ensures in
    let m = rw l at (c.run_timers-ticked.ensures a.s.scenes) in
    simp (c.in_state.ensures, c.at_moment.ensures, m, l, moved_lamp a.s.params a.s.scenes (lamp_of a.s) a.t)
