use mathlib.Core.Path.{refl, ◌∙◌}
use native.Mathlib.Omega.{arith}
use Rattle.octets.specs.BigEndian.{octets32}
use Rattle.rules.specs.Images.{moment_octets}
use Rattle.images.proofs.Parts.{put_after}
use Rattle.images.proofs.put.put_moments.Goals as goal

-- the deadline right after the clock
pub returns : goal.returns
unfolding moment_octets octets32
returns c =
    let a = c.args in
    rw c.due_at.ensures at
    (c.write32-2.ensures ∙ put_after a.buf.now _ 48 52 (octets32 a.s.clock) _ c.write32.ensures (omega arith) refl)
