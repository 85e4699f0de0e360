use Rattle.std.proofs.Common.{◌*◌, ◌≤◌}
use Rattle.cueprint.proofs.play.Player.play_inputs.Given as goal

abbrev pub invariant-loop-i : goal.invariant-loop-i
invariant-loop-i g l = l.count ≤ 1020 * l.i
