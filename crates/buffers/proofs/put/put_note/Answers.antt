use Rattle.buffers.proofs.Splices.{records_none, records_one}
use Rattle.octets.specs.Splice.{splice}
use native.Mathlib.Omega.{arith}
use mathlib.Core.Path.{sym, ◌∙◌, ap}
use Rattle.buffers.proofs.put.put_note.Goals as goal

pub returns-in-None : goal.returns-in-None
returns-in-None c = rw c.in-None.is (omega arith, records_none _ _)

pub returns-in-Some : goal.returns-in-Some
returns-in-Some c = rw c.in-Some.is (omega arith, c.put_record.ensures ∙ ap (splice _ _) (sym (records_one _)))
