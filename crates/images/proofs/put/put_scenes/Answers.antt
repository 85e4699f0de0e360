use native.Mathlib.Omega.{arith}
use mathlib.Core.Path.{◌∙◌}
use lib.Seq.{take_all}
use Rattle.octets.proofs.Splices.{splice_none, write_splices}
use Rattle.images.proofs.Parts.{put_next_scene}
use Rattle.images.proofs.put.put_scenes.Goals as goal

pub loop-n-init : goal.loop-n-init
loop-n-init c = splice_none _ _

pub loop-n-preserved : goal.loop-n-preserved
loop-n-preserved c =
    let l = c.loop-n in
    write_splices l.buf _ _ _ _ (rw c.flags_of.ensures at c.copy_from_slice.ensures.after) (omega arith) ∙ put_next_scene c.args.buf.now l.buf 24 l.n c.args.k _ (omega arith) (omega arith) l.invariant

pub returns : goal.returns
returns c =
    let l = c.loop-n in
    let all = take_all l.n c.args.k (omega arith) in
    (rw all at l.invariant, omega arith)
