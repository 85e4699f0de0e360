use mathlib.Core.Path.{◌≡◌}
use lib.ListN.{take}
use Rattle.octets.specs.Splice.{splice}
use Rattle.rules.specs.Written.{scenes_octets}
use Rattle.images.proofs.put.put_scenes.Given as goal

-- the first n entries stand in the buffer
abbrev pub invariant-loop-n : goal.invariant-loop-n
invariant-loop-n l = l.buf ≡ splice l.initial.buf 24 (scenes_octets (take l.n l.fn.k))
