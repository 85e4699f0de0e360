use mathlib.Core.Path.{◌≡◌}
use lib.ListN.{take}
use Rattle.rules.specs.Layout.{record_place}
use Rattle.rules.specs.Runs.{records_octets}
use Rattle.octets.specs.Splice.{splice}
use Rattle.buffers.proofs.put.put_notes.Given as goal

-- the first j records stand in the buffer
abbrev pub invariant-loop-j : goal.invariant-loop-j
invariant-loop-j l = l.buf ≡ splice l.initial.buf (record_place l.before) (records_octets (take l.j l.r-items))
