-- When a table is in range, exactly; and it stays so when an entry is taught.
use Rattle.std.specs.Prelude.{Some, None}
use Prim.Native.Nat.{ℕ, zero, suc, ◌≤◌, ◌<◌}
use mathlib.Core.Bool.{Bool, true, false, cond, not, ◌||◌}
use mathlib.Core.List.{List, [], ◌∷◌}
use mathlib.Core.Logic.{◌↔◌, ◌⊎◌, inl, inr, ⊎_elim}
use mathlib.Core.Path.{◌≡◌, refl, sym, ◌∙◌}
use native.Mathlib.Nat.{le_of_suc-le-suc}
use native.Mathlib.Omega.{arith}
use lib.Dec.{eqb, leb}
use borrow.Author.Tests.{leb-true, eqb-true, eqb-false, not-true, le-leb, eq-eqb, ne_eqb}
use Rattle.rules.specs.declared.parameters.Scene.{Scene}
use Rattle.rules.specs.Scenes.{recalled, learnt, entry_in_range, absent, scenes_in_range}
use Rattle.rules.specs.Calls.{unused}
use Rattle.rules.specs.Facts.{EntryFits, entry, ScenesFit, Recalls, Learns}
use Rattle.base.proofs.Tests.{no, both, either, or_else, cond_case, either_way}

-- learning changes no number
learnt_absent : (k : List Scene) (number other : ℕ) (output : Bool) → absent (learnt k number output) other ≡ absent k other
unfolding learnt absent
learnt_absent [] number other output = refl
learnt_absent (e ∷ rest) number other output =
    cond_case (λ (x : List Scene). absent x other ≡ absent (e ∷ rest) other) (eqb e.number number) _ _
    (λ same. refl)
    (λ differs. rw (learnt_absent rest number other output))

-- the entry taught has a number up to 63, so it is used and its flags are free
pub learnt_in_range : (k : List Scene) (number : ℕ) (output : Bool) → number ≤ 63 → scenes_in_range (learnt k number output) ≡ scenes_in_range k
unfolding learnt scenes_in_range entry_in_range
learnt_in_range [] number output small = refl
learnt_in_range (e ∷ rest) number output small =
    cond_case (λ (x : List Scene). scenes_in_range x ≡ scenes_in_range (e ∷ rest)) (eqb e.number number) _ _
    (λ same. rw (ne_eqb e.number 255 (λ unused. omega (arith, eqb-true e.number number same))))
    (λ differs. rw (learnt_absent rest number e.number output, learnt_in_range rest number output small))

-- ---- in range, exactly

-- an entry is in range exactly when it is as 01 says
entry_exactly_when : (e : Scene) → (entry_in_range e ≡ true) ↔ EntryFits e
unfolding entry_in_range
entry_exactly_when e = (view, whole)
  where
    flags_clear : (value taught : Bool) → not (value || taught) ≡ true → (value ≡ false) × (taught ≡ false)
    flags_clear true taught h = no h
    flags_clear false true h = no h
    flags_clear false false h = (refl, refl)

    view : entry_in_range e ≡ true → EntryFits e
    view h =
        cond_case (λ (b : Bool). b ≡ true → EntryFits e) (eqb e.number 255) (not (e.value || e.taught)) (leb e.number 63)
        (λ unused clear. inr (eqb-true _ _ unused, (flags_clear e.value e.taught clear).0, (flags_clear e.value e.taught clear).1))
        (λ used few. inl (leb-true _ _ few))
        h

    whole : EntryFits e → entry_in_range e ≡ true
    whole (inl few) = simp (ne_eqb e.number 255 (λ unused. omega arith), le-leb e.number 63 few)
    whole (inr unused) = simp (eq-eqb e.number 255 unused.0, unused.1, unused.2)

-- no entry has the number: a place that seems to have it lies past the table, where the number is 255
absent_view : (k : List Scene) (number : ℕ) → absent k number ≡ true → (n : ℕ) → (entry k n).number ≡ number → number ≡ 255
unfolding absent unused
absent_view [] number h n e = sym e
absent_view (x ∷ rest) number h zero e = absurd (eqb-false _ _ (not-true _ (both (not (eqb x.number number)) _ h).0) e)
absent_view (x ∷ rest) number h (suc n) e = absent_view rest number (both (not (eqb x.number number)) _ h).1 n e

absent_whole : (k : List Scene) (number : ℕ) → ((n : ℕ) → (entry k n).number ≡ number → ⊥) → absent k number ≡ true
unfolding absent
absent_whole [] number none = refl
absent_whole (x ∷ rest) number none = simp (ne_eqb x.number number (none 0), absent_whole rest number (λ n. none (suc n)))

-- an entry before a table that fits
one_more_fits : (x : Scene) (rest : List Scene) → EntryFits x → (x.number ≡ 255) ⊎ (absent rest x.number ≡ true) → ScenesFit rest → ScenesFit (x ∷ rest)
one_more_fits x rest fits new later = record { entries = entries; distinct = distinct }
  where
    entries : (n : ℕ) → EntryFits (entry (x ∷ rest) n)
    entries zero = fits
    entries (suc n) = later.entries n

    distinct : (m n : ℕ) → m < n → (entry (x ∷ rest) m).number ≡ (entry (x ∷ rest) n).number → (entry (x ∷ rest) n).number ≡ 255
    distinct m zero before e = absurd (omega arith)
    distinct zero (suc n) before e = sym e ∙ ⊎_elim (λ unused. unused) (λ absent. absent_view rest x.number absent n (sym e)) new
    distinct (suc m) (suc n) before e = later.distinct m n (le_of_suc-le-suc before) e

fits_view : (k : List Scene) → scenes_in_range k ≡ true → ScenesFit k
unfolding scenes_in_range unused
fits_view [] h = record { entries = λ n. inr (refl, refl, refl); distinct = λ m n before e. refl }
fits_view (x ∷ rest) h =
    let parts = both _ _ h in
    let here = both _ _ parts.0 in
    one_more_fits x rest ((entry_exactly_when x).0 here.0) (⊎_elim (λ unused. inl (eqb-true _ _ unused)) inr (either _ _ here.1)) (fits_view rest parts.1)

later_fits : (x : Scene) (rest : List Scene) → ScenesFit (x ∷ rest) → ScenesFit rest
later_fits x rest f = record { entries = λ n. f.entries (suc n); distinct = λ m n before e. f.distinct (suc m) (suc n) (omega arith) e }

fits_whole : (k : List Scene) → ScenesFit k → scenes_in_range k ≡ true
unfolding scenes_in_range
fits_whole [] f = refl
fits_whole (x ∷ rest) f =
    let new : (eqb x.number 255 || absent rest x.number) ≡ true =
    or_else (eqb x.number 255) (absent rest x.number)
    (λ used. absent_whole rest x.number (λ n e. eqb-false _ _ used (sym e ∙ f.distinct 0 (suc n) (omega arith) (sym e))))
    in
    simp ((entry_exactly_when x).1 (f.entries 0), new, fits_whole rest (later_fits x rest f))

pub scenes_exactly_when : (k : List Scene) → (scenes_in_range k ≡ true) ↔ ScenesFit k
scenes_exactly_when k = (fits_view k, fits_whole k)

-- ---- recalling and learning, entry by entry

-- a used number that a later entry has is not the first one's
first_differs : (x : Scene) (rest : List Scene) (number n : ℕ) → ScenesFit (x ∷ rest) → number ≤ 63 → (entry rest n).number ≡ number → eqb x.number number ≡ false
first_differs x rest number n f small e = ne_eqb x.number number (λ same. omega (arith, f.distinct 0 (suc n) (omega arith) (same ∙ sym e)))

recalled_found : (k : List Scene) (number n : ℕ) → ScenesFit k → number ≤ 63 → (entry k n).number ≡ number → recalled k number ≡ cond (entry k n).taught (Some (entry k n).value) None
unfolding recalled unused
recalled_found [] number n f small e = absurd (omega arith)
recalled_found (x ∷ rest) number zero f small e = simp (eq-eqb x.number number e)
recalled_found (x ∷ rest) number (suc n) f small e = rw (first_differs x rest number n f small e) (recalled_found rest number n (later_fits x rest f) small e)

recalled_other : (k : List Scene) (number : ℕ) → ((n : ℕ) → (entry k n).number ≡ number → ⊥) → recalled k number ≡ None
unfolding recalled
recalled_other [] number none = refl
recalled_other (x ∷ rest) number none = rw (ne_eqb x.number number (none 0)) (recalled_other rest number (λ n. none (suc n)))

pub recalls_the_entry : (k : List Scene) (number : ℕ) → ScenesFit k → number ≤ 63 → Recalls k number
recalls_the_entry k number f small =
    record {
      taught = λ n e taught. recalled_found k number n f small e ∙ rw taught;
      untaught = λ n e untaught. recalled_found k number n f small e ∙ rw untaught;
      other = recalled_other k number;
    }

-- what learning makes of entry n
unfoldable after : Scene → ℕ → Bool → Scene
after x number present = cond (eqb x.number number) (record { number = x.number; value = present; taught = true }) x

learnt_entry : (k : List Scene) (number : ℕ) (present : Bool) (n : ℕ) → ScenesFit k → number ≤ 63 → entry (learnt k number present) n ≡ after (entry k n) number present
unfolding learnt unused after
learnt_entry [] number present n f small = rw (ne_eqb 255 number (λ e. omega arith))
learnt_entry (x ∷ rest) number present zero f small =
    cond_case (λ (k : List Scene). entry k 0 ≡ after x number present) (eqb x.number number) _ _ (λ same. rw same) (λ differs. rw differs)
learnt_entry (x ∷ rest) number present (suc n) f small =
    cond_case (λ (k : List Scene). entry k (suc n) ≡ after (entry rest n) number present) (eqb x.number number) _ _
    (λ same. rw (ne_eqb (entry rest n).number number (λ e. eqb-false x.number number (first_differs x rest number n f small e) (eqb-true _ _ same))))
    (λ differs. learnt_entry rest number present n (later_fits x rest f) small)

pub learns_the_entry : (k : List Scene) (number : ℕ) (present : Bool) → ScenesFit k → number ≤ 63 → Learns k number present
unfolding after
learns_the_entry k number present f small =
    let learnt-at : (n : ℕ) → entry (learnt k number present) n ≡ after (entry k n) number present = λ n. learnt_entry k number present n f small in
    record {
      value = λ n e. rw (learnt-at n, eq-eqb (entry k n).number number e);
      taught = λ n e. rw (learnt-at n, eq-eqb (entry k n).number number e);
      numbers = λ n. rw (learnt-at n) (either_way (λ (x : Scene). x.number ≡ (entry k n).number) (eqb (entry k n).number number) _ _ refl refl);
      others = λ n none. rw (learnt-at n, ne_eqb (entry k n).number number none);
    }
