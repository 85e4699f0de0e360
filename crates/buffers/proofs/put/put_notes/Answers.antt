use mathlib.Core.Path.{◌∙◌}
use native.Mathlib.Omega.{arith}
use lib.ListN.{take}
use lib.Seq.{take_all}
use Rattle.buffers.proofs.Splices.{records_none, next_record}
use Rattle.buffers.proofs.put.put_notes.Goals as goal

pub loop-j-init : goal.loop-j-init
loop-j-init c = records_none _ _

pub loop-j-preserved : goal.loop-j-preserved
loop-j-preserved c =
    let l = c.loop-j in
    c.put_record.ensures ∙ next_record _ _ _ l.j _ _ (omega arith) (omega arith) l.invariant

pub returns : goal.returns
returns c =
    let l = c.loop-j in
    let all = take_all l.j (take c.args.n.count c.args.n.records) (omega arith) in
    rw all at l.invariant
