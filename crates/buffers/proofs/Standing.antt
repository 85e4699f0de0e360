-- A list so far: what was written and said stands in the lent buffers, the records after those before, the answers from the front on.
use Prim.Native.Nat.{ℕ, ◌+◌, ◌*◌, ◌≤◌, ◌<◌}
use mathlib.Core.Bool.{true, ◌&&◌}
use mathlib.Core.List.{List, [], ◌∷◌, ◌++◌}
use mathlib.Core.Path.{◌≡◌, refl, ◌∙◌}
use native.Mathlib.Omega.{arith}
use lib.ListN.{length, set, length-set, length-append}
use lib.Dec.{leb}
use borrow.Author.Tests.{leb-true}
use Rattle.base.proofs.Tests.{both}
use Rattle.octets.specs.Splice.{splice}
use Rattle.octets.proofs.Splices.{splice_none, octet_more}
use Rattle.rules.specs.declared.record.Record.{Record}
use Rattle.rules.specs.Layout.{records_room}
use Rattle.rules.specs.Runs.{records_octets}
use Rattle.buffers.proofs.Splices.{records_none, records_more}

-- the room that the buffers are tested for
pub enough_room : (n r a : ℕ) → (leb (records_room n) r && leb n a) ≡ true → (records_room n ≤ r) × (n ≤ a)
enough_room n r a e = let t = both (leb (records_room n) r) (leb n a) e in (leb-true (records_room n) r t.0, leb-true n a t.1)

-- after i inputs, with k records in all, where so many stood before
pub record Standing (before : ℕ) (records₀ answers₀ records₁ answers₁ : List ℕ) (wrote : List Record) (said : List ℕ) (k i : ℕ) : Type 0 where
  pub count : k ≡ before + length wrote
  pub few : k ≤ before + 3 * i
  pub asked : length said ≡ i
  pub records : records₁ ≡ splice records₀ (8 * before) (records_octets wrote)
  pub answers : answers₁ ≡ splice answers₀ 0 said
  pub room : length records₁ ≡ length records₀
  pub places : length answers₁ ≡ length answers₀

module _ (before : ℕ) (r₀ a₀ : List ℕ) where
  pub standing_first : Standing before r₀ a₀ r₀ a₀ [] [] before 0
  standing_first = record { count = omega arith; few = omega arith; asked = refl; records = records_none r₀ (8 * before); answers = splice_none a₀ 0; room = refl; places = refl }

  -- one input more: its records come after those that were written, its answer after those that were given
  pub standing_more : (r a : List ℕ) (wrote more : List Record) (said : List ℕ) (answer k i : ℕ) → Standing before r₀ a₀ r a wrote said k i → length more ≤ 3 → 8 * before ≤ length r₀ → i < length a₀
      → (r₁ : List ℕ) → r₁ ≡ splice r (8 * k) (records_octets more) → length r₁ ≡ length r → Standing before r₀ a₀ r₁ (set a i answer) (wrote ++ more) (said ++ (answer ∷ [])) (k + length more) (i + 1)
  standing_more r a wrote more said answer k i g three some within r₁ p l =
      record {
        count = rw length-append (omega (arith, g.count));
        few = omega (arith, g.few, three);
        asked = rw (length-append, g.asked);
        records = p ∙ records_more r₀ r (8 * before) (8 * k) wrote more some (omega (arith, g.count)) g.records;
        answers = octet_more a₀ a i answer said g.answers g.asked (omega (arith, g.places));
        room = l ∙ g.room;
        places = length-set a i answer ∙ g.places;
      }
