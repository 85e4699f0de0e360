-- The sensor that listens to a lent buffer hears every record, in order: what was put there since it last listened is what it hears.
use Prim.Native.Nat.{ℕ, ◌+◌, ◌-◌, ◌*◌, ◌≤◌}
use mathlib.Core.List.{List, [], ◌∷◌}
use mathlib.Core.Path.{◌≡◌, refl, sym, ap, ◌∙◌}
use native.Mathlib.Nat.{add-zero}
use native.Mathlib.Omega.{arith}
use lib.ListN.{length, length-append}
use lib.Dec.{eqb}
use lib.Seq.{length-take-le}
use borrow.Author.Tests.{ne_eqb}
use Rattle.octets.specs.Splice.{splice}
use Rattle.base.proofs.Tests.{either_way}
use Rattle.rules.specs.declared.record.Record.{Record}
use Rattle.rules.specs.Runs.{record_octets, records_octets}
use Rattle.rules.proofs.Refusals.Runs.{records_length}
use Rattle.sensor.specs.declared.state.Sensor.{Sensor}
use Rattle.sensor.specs.Reactions.{hear}
use Rattle.pairs.specs.Pairs.{shows, hears}
use Rattle.buffers.proofs.Splices.{records_none, records_one, records_more, a_record_is_read_back}
use Rattle.turns.specs.Turns.{listened}

-- the last record tells, and what was heard before it leaves no trace
last_heard : (b c : List ℕ) (count : ℕ) (z : Sensor) (heard : ℕ) (r : Record) → heard ≤ count → 8 * count ≤ length b → c ≡ splice b (8 * count) (record_octets r) →
    listened c (count + 1) z heard ≡ hear z r.stamp (shows r)
unfolding listened
last_heard b c count z heard r behind within put =
    let place : count + 1 - 1 ≡ count = omega arith in
    let back = a_record_is_read_back b (8 * count) r within in
    rw (ne_eqb heard (count + 1) (λ e. omega arith), place, put, back.0, back.1) refl

heard_anew : (records : List ℕ) (count : ℕ) (z : Sensor) (heard : ℕ) (r : Record) → hear (listened records count z heard) r.stamp (shows r) ≡ hear z r.stamp (shows r)
unfolding listened hear
heard_anew records count z heard r = either_way (λ (y : Sensor). hear y r.stamp (shows r) ≡ hear z r.stamp (shows r)) (eqb heard count) _ _ refl refl

-- the room that is left
put_length : (b : List ℕ) (at : ℕ) (xs : List ℕ) → at ≤ length b → at + length xs ≤ length (splice b at xs)
unfolding splice
put_length b at xs within = rw (length-append, length-append) (omega (arith, length-take-le at b within))

-- all that is put into the buffer, one after the other, is heard
pub put_is_heard : (l : List Record) (b c : List ℕ) (count : ℕ) (z : Sensor) (heard : ℕ) → heard ≤ count → 8 * count ≤ length b → c ≡ splice b (8 * count) (records_octets l) →
    listened c (count + length l) z heard ≡ hears l (listened b count z heard)
unfolding hears
put_is_heard [] b c count z heard behind within put = rw (put, ← records_none b (8 * count), add-zero) refl
put_is_heard (r ∷ later) b c count z heard behind within put =
    let d : List ℕ = splice b (8 * count) (record_octets r) in
    let one : d ≡ splice b (8 * count) (records_octets (r ∷ [])) = ap (splice b (8 * count)) (sym (records_one r)) in
    let then : splice d (8 * (count + 1)) (records_octets later) ≡ splice b (8 * count) (records_octets (r ∷ later)) = records_more b d (8 * count) (8 * (count + 1)) (r ∷ []) later within (omega arith) one in
    let long : length (record_octets r) ≡ 8 = ap (λ (xs : List ℕ). length xs) (sym (records_one r)) ∙ records_length (r ∷ []) in
    let room : 8 * (count + 1) ≤ length d = omega (arith, put_length b (8 * count) (record_octets r) within, long) in
    let rest = put_is_heard later d c (count + 1) z heard (omega arith) room (put ∙ sym then) in
    let places : count + length (r ∷ later) ≡ count + 1 + length later = omega arith in
    rw places (rest ∙ ap (λ (y : Sensor). hears later y) (last_heard b d count z heard r behind within refl ∙ sym (heard_anew b count z heard r)))
