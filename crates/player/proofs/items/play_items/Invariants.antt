use Prim.Native.Nat.{◌≤◌}
use Rattle.lamps.specs.Lamps.{state_of}
use Rattle.pairs.specs.Pairs.{pair_of}
use Rattle.turns.specs.Turns.{listened}
use Rattle.player.proofs.Turns.{Going}
use Rattle.player.proofs.items.play_items.Given as goal

abbrev pub invariant-loop-i : goal.invariant-loop-i
invariant-loop-i l = Going l.inputs l.n (pair_of (state_of l.p l.initial.k l.initial.l) (listened l.initial.records l.initial.count l.initial.z 0)) l.initial.count l.initial.records l.initial.answers l.records l.answers (pair_of (state_of l.p l.k l.l) (listened l.records l.count l.z l.heard)) l.count l.i × (l.heard ≤ l.count)
