use native.Mathlib.Omega.{arith}
use Rattle.rules.proofs.Refusals.Changes.{looked_at_exactly_when}
use Rattle.changes.proofs.Reaching.{Upto, upto, found_before, ready, room_for_them, change_played_lem}
use Rattle.changes.proofs.play.play_inputs.Goals as goal
use Rattle.changes.proofs.play.play_inputs.Goals.{After-reach_of-reach}

-- how far the change goes is what the check has found
up : (c : After-reach_of-reach) → let a = c.args in Upto a.s a.inputs.now c.reach_of-reach.result
up c =
    rw (c.reach_of-reach.ensures, c.check_inputs-met.ensures, found_before c.args.s c.args.inputs.now) (upto _ _ ((looked_at_exactly_when _ _ _ _).0 c.requires).0)

pub play_items-played-requires : goal.play_items-played-requires
play_items-played-requires c =
    let passed = c.requires in
    let far = up (goal.at.play_items-played-requires c).After-reach_of-reach in
    let room = room_for_them _ _ _ _ passed _ far in
    rw c.own_sensor.ensures (ready _ _ _ _ passed _ far, omega arith, omega (arith, room.0), room.1)

pub returns : goal.returns
returns c =
    change_played_lem _ _ _ _ c.requires _ (up (goal.at.returns c).After-reach_of-reach) _ _ _ (rw c.own_sensor.ensures at c.play_items-played.ensures)
