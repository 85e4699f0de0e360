use Rattle.std.proofs.Common.{◌≡◌, drop}
use Rattle.rules.specs.Scenes.{scenes_in_range}
use Rattle.scenes.proofs.range.scenes_in_range.Given as goal

-- the entries so far are in range
abbrev pub invariant-loop-i : goal.invariant-loop-i
invariant-loop-i l = scenes_in_range l.fn.k ≡ scenes_in_range (drop l.i l.fn.k)
