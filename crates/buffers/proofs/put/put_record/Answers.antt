use Prim.Native.Nat.{ℕ}
use mathlib.Core.List.{List, [], ◌∷◌}
use lib.ListN.{length}
use mathlib.Core.Path.{◌≡◌, refl, ◌∙◌}
use native.Mathlib.Omega.{arith}
use Rattle.octets.specs.BigEndian.{be32, octets32}
use Rattle.octets.proofs.Splices.{splice_splice}
use Rattle.rules.specs.Runs.{record_octets}
use Rattle.buffers.proofs.Splices.{four_octets}
use Rattle.buffers.proofs.put.put_record.Goals as goal

-- the stamp's octets, and right after them the other four
pub returns : goal.returns
unfolding record_octets
returns c =
    let r = c.args.r in
    let at = c.record_place-at in
    let number : c.from_be_bytes-rest.result ≡ be32 (r.value ∷ r.attributes ∷ r.cause ∷ 0 ∷ []) 0 = omega (arith, c.from_be_bytes-rest.ensures) in
    let last = rw (← number) at (four_octets r.value r.attributes r.cause 0 (omega (arith, c.well_formed)) (omega (arith, c.well_formed)) (omega (arith, c.well_formed)) (omega arith)) in
    let four : length (octets32 r.stamp) ≡ 4 = unfold octets32 in refl in
    rw (← at.ensures, ← last) ((rw c.write32.ensures at c.write32-2.ensures) ∙ splice_splice _ at.result _ _ _ (omega (arith, at.ensures, c.requires)) (omega (arith, four)))
