-- The laws of records that are put into a lent buffer, one after the other.
use Prim.Native.Nat.{ℕ, zero, suc, ◌+◌, ◌*◌, ◌≤◌, ◌<◌}
use mathlib.Core.List.{List, [], ◌∷◌, ◌++◌, append-nil}
use mathlib.Core.Path.{◌≡◌, sym, ap, ◌∙◌}
use native.Mathlib.Nat.{add-zero, zero-add}
use native.Mathlib.Numerals.{add-one}
use native.Mathlib.Omega.{arith}
use lib.ListN.{length, take, get_or}
use lib.Seq.{take-suc, length-take-le}
use Rattle.octets.specs.BigEndian.{octet, be32, octets32}
use Rattle.octets.specs.Splice.{splice}
use Rattle.octets.proofs.Splices.{splice_none, splice_octet, splice_splice}
use Rattle.octets.proofs.BothWays.{what_is_written_is_read}
use Rattle.rules.specs.declared.record.Record.{Record}
use Rattle.rules.specs.declared.form.Scale.TheVariants.{Tenths}
use Rattle.rules.specs.Layout.{record_place}
use Rattle.rules.specs.Parameters.{time_at}
use Rattle.rules.specs.Runs.{record_octets, records_octets, over}
use Rattle.rules.proofs.Laws.Written.{from, time_octets}
use Rattle.rules.proofs.Refusals.Runs.{records_length, records_append}

-- four octets, put as the number that they say
pub four_octets : (a b c d : ℕ) → a < 256 → b < 256 → c < 256 → d < 256 → let octets : List ℕ = a ∷ b ∷ c ∷ d ∷ [] in octets32 (be32 octets 0) ≡ octets
four_octets a b c d fa fb fc fd = unfold time_at from in time_octets (a ∷ b ∷ c ∷ d ∷ []) small Tenths 0
  where
    small : (i : ℕ) → octet (a ∷ b ∷ c ∷ d ∷ []) i < 256
    small zero = fa
    small (suc zero) = fb
    small (suc (suc zero)) = fc
    small (suc (suc (suc zero))) = fd
    small (suc (suc (suc (suc i)))) = omega arith

-- from the start on, the front is replaced
pub splice_front : (b xs : List ℕ) → splice b 0 xs ≡ over xs b
unfolding splice over
splice_front b xs = rw zero-add

pub records_one : (r : Record) → records_octets (r ∷ []) ≡ record_octets r
unfolding records_octets
records_one r = append-nil (record_octets r)

pub records_none : (b : List ℕ) (at : ℕ) → b ≡ splice b at (records_octets [])
unfolding records_octets
records_none b at = splice_none b at

-- the stamp and the value of a record that stands in a buffer are read back
pub a_record_is_read_back : (b : List ℕ) (at : ℕ) (r : Record) → at ≤ length b → let s : List ℕ = splice b at (record_octets r) in (be32 s at ≡ r.stamp) × (octet s (at + 4) ≡ r.value)
unfolding record_octets octets32
a_record_is_read_back b at r within =
    let xs : List ℕ = octets32 r.stamp ++ (r.value ∷ r.attributes ∷ r.cause ∷ 0 ∷ []) in
    let s : List ℕ = splice b at xs in
    let first : octet s at ≡ octet xs 0 = ap (octet s) (sym (add-zero at)) ∙ splice_octet b at xs 0 within (omega arith) in
    let last : octet s (at + 2 + 1) ≡ octet xs 3 = ap (octet s) (omega arith) ∙ splice_octet b at xs 3 within (omega arith) in (
      rw (first, splice_octet b at xs 1 within (omega arith), splice_octet b at xs 2 within (omega arith), last) (what_is_written_is_read r.stamp (r.value ∷ r.attributes ∷ r.cause ∷ 0 ∷ [])),
      splice_octet b at xs 4 within (omega arith),
    )

-- more records right after others
pub records_more : (b c : List ℕ) (at to : ℕ) (k l : List Record) → at ≤ length b → to ≡ at + 8 * length k
    → c ≡ splice b at (records_octets k) → splice c to (records_octets l) ≡ splice b at (records_octets (k ++ l))
records_more b c at to k l h e p =
    let place : to ≡ at + length (records_octets k) = e ∙ ap (λ (n : ℕ). at + n) (sym (records_length k)) in
    rw (records_append, p) (splice_splice b at to (records_octets k) (records_octets l) h place)

-- one more of a row
pub next_record : (b c : List ℕ) (before j : ℕ) (row : List Record) (z : Record) → record_place before ≤ length b → j < length row
    → c ≡ splice b (record_place before) (records_octets (take j row))
    → splice c (record_place (before + j)) (record_octets (get_or row j z)) ≡ splice b (record_place before) (records_octets (take (j + 1) row))
next_record b c before j row z within inside p =
    let m : length (take j row) ≡ j = length-take-le j row (omega arith) in
    rw (add-one, take-suc row j z, ← records_one (get_or row j z))
    (records_more b c (record_place before) (record_place (before + j)) (take j row) (get_or row j z ∷ []) within (omega (arith, m)) p)
