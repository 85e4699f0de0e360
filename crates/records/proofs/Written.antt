-- A record that is added to the records by value is a record at the end of their list.
use Rattle.std.specs.Prelude.{Option, Some, None}
use Prim.Native.Nat.{ℕ, ◌≤◌}
use mathlib.Core.Bool.{Bool, true, false, cond}
use mathlib.Core.List.{List, [], ◌∷◌, ◌++◌, append-nil}
use mathlib.Core.Path.{◌≡◌, refl, sym, ap, ◌∙◌}
use lib.ListN.{length, take}
use native.Mathlib.Omega.{arith}
use Rattle.rules.specs.declared.state.State.{State}
use Rattle.rules.specs.declared.record.Record.{Record}
use Rattle.rules.specs.Status.{same_status, record_of, written}
use Rattle.rules.specs.Calls.{places}
use Rattle.rules.proofs.Laws.Records.{used_places}
use Rattle.records.specs.Notes.{notes, note_of, added, first_of, listed}

wrote : (l : List Record) (r : Record) → length l ≤ 2 → added (notes l) (Some r) ≡ notes (l ++ (r ∷ []))
unfolding added notes places
wrote [] r room = refl
wrote (a ∷ []) r room = refl
wrote (a ∷ b ∷ []) r room = refl
wrote (a ∷ b ∷ c ∷ l) r room = absurd (omega arith)

silent : (l : List Record) → added (notes l) None ≡ notes (l ++ [])
unfolding added
silent l = rw (append-nil l)

-- ---- a note and the list that it stands for

pub listed_few : (x : Option Record) → length (listed x) ≤ 1
listed_few None = omega arith
listed_few (Some r) = omega arith

pub listed_first : (l : List Record) → length l ≤ 1 → listed (first_of l) ≡ l
listed_first [] few = refl
listed_first (r ∷ []) few = refl
listed_first (r ∷ q ∷ l) few = absurd (omega arith)

first_listed : (x : Option Record) → first_of (listed x) ≡ x
first_listed None = refl
first_listed (Some r) = refl

-- what a change wrote
pub listed_written : (cause : ℕ) (before after : State) → listed (note_of cause before after) ≡ written cause before after
unfolding note_of written
listed_written cause before after = by (same_status before after)
  where
    by : (same : Bool) → listed (cond same None (Some (record_of cause after))) ≡ cond same [] (record_of cause after ∷ [])
    by true = refl
    by false = refl

pub first_written : (cause : ℕ) (before after : State) → note_of cause before after ≡ first_of (written cause before after)
first_written cause before after = sym (first_listed (note_of cause before after)) ∙ ap first_of (listed_written cause before after)

-- ---- one more, at the end of the list

pub added_listed : (l : List Record) (x : Option Record) → length l ≤ 2 → added (notes l) x ≡ notes (l ++ listed x)
added_listed l None room = silent l
added_listed l (Some r) room = wrote l r room

pub added_first : (l d : List Record) → length l ≤ 2 → length d ≤ 1 → added (notes l) (first_of d) ≡ notes (l ++ d)
added_first l d room few = rw (listed_first d few) at (added_listed l (first_of d) room)

pub notes_count : (l : List Record) → (notes l).count ≡ length l
unfolding notes
notes_count l = refl

-- the used records are the list
pub used_notes : (l : List Record) → length l ≤ 3 → take (notes l).count (notes l).records ≡ l
unfolding notes
used_notes l few = used_places 3 l few
