-- The scene table as a list: what its definitions are of the list functions that the code calls.
use Rattle.std.specs.Prelude.{Some, None, Option}
use Prim.Native.Nat.{ℕ, suc, ◌+◌, ◌<◌, ◌≤◌}
use mathlib.Core.Bool.{Bool, true, false, not, cond}
use mathlib.Core.List.{List, [], ◌∷◌}
use mathlib.Core.Path.{◌≡◌, refl, ap, ◌∙◌}
use native.Mathlib.Omega.{arith}
use lib.ListN.{length, set, get_or}
use lib.Dec.{eqb, ltb}
use borrow.Author.Tests.{ltb-true, ltb-false}
use lib.Pointwise.{pointwise}
use Rattle.std.specs.List.{find, list_all, position, position_or_len}
use Rattle.rules.specs.declared.parameters.Scene.{Scene}
use Rattle.rules.specs.Scenes.{absent, recalled, learnt}
use Rattle.rules.specs.Answers.{same_scene, same_scenes}

-- what an array of scenes is read with past its end
abbrev pub past : Scene
past = record { number = 0; value = false; taught = false }

-- tables are the same where their entries are, pair by pair
pub same_by_pairs : (E : Scene → Scene → Bool) → ((x y : Scene) → E x y ≡ same_scene x y) → (a b : List Scene) → pointwise E a b ≡ same_scenes a b
unfolding same_scenes
same_by_pairs E each [] [] = refl
same_by_pairs E each [] (y ∷ b) = refl
same_by_pairs E each (x ∷ a) [] = refl
same_by_pairs E each (x ∷ a) (y ∷ b) = rw (each x y, same_by_pairs E each a b)

-- no entry has the number where each has another
pub absent_is_all : (k : List Scene) (number : ℕ) → list_all (λ e. not (eqb e.number number)) k ≡ absent k number
unfolding absent
absent_is_all [] number = refl
absent_is_all (e ∷ k) number = rw (absent_is_all k number)

-- what the entry that is found tells
abbrev pub told : Option Scene → Option Bool
told None = None
told (Some e) = cond e.taught (Some e.value) None

abbrev pub has : ℕ → Scene → Bool
has number e = eqb e.number number

recalled_is_found : (k : List Scene) (number : ℕ) → told (find (has number) k) ≡ recalled k number
unfolding recalled
recalled_is_found [] number = refl
recalled_is_found (e ∷ k) number =
    elim (eqb e.number number) as (λ b. told (cond b (Some e) (find (has number) k)) ≡ cond b (cond e.taught (Some e.value) None) (recalled k number))
    [ true ↦ refl | false ↦ recalled_is_found k number ]

pub recalled_if_found : (k : List Scene) (number : ℕ) (found : Option Scene) → found ≡ find (has number) k → told found ≡ recalled k number
recalled_if_found k number found is = ap told is ∙ recalled_is_found k number

abbrev knows : Scene → Bool → Scene
knows e on = record { number = e.number; value = on; taught = true }

-- the first entry of the number learns
learnt_at_first : (k : List Scene) (number i : ℕ) (on : Bool) → i ≡ position_or_len (has number) k → i < length k → set k i (knows (get_or k i past) on) ≡ learnt k number on
unfolding learnt
learnt_at_first [] number i on first within = absurd (omega arith)
learnt_at_first (e ∷ k) number i on first within =
    elim (eqb e.number number)
    as (λ b. i ≡ cond (not b) (1 + position_or_len (has number) k) 0 → set (e ∷ k) i (knows (get_or (e ∷ k) i past) on) ≡ cond b (knows e on ∷ k) (e ∷ learnt k number on)) [
      | true ↦ λ here. rw here
      | false ↦ λ later. let next : i ≡ suc (position_or_len (has number) k) = omega arith in
          rw next (ap (λ (l : List Scene). e ∷ l) (learnt_at_first k number (position_or_len (has number) k) on refl (omega arith)))
    ] first

-- an entry learns only where one has the number
learnt_nowhere : (k : List Scene) (number : ℕ) (on : Bool) → length k ≤ position_or_len (has number) k → k ≡ learnt k number on
unfolding learnt
learnt_nowhere [] number on none = refl
learnt_nowhere (e ∷ k) number on none =
    elim (eqb e.number number)
    as (λ b. suc (length k) ≤ cond (not b) (1 + position_or_len (has number) k) 0 → e ∷ k ≡ cond b (knows e on ∷ k) (e ∷ learnt k number on))
    [ true ↦ λ here. absurd (omega arith) | false ↦ λ later. ap (λ (l : List Scene). e ∷ l) (learnt_nowhere k number on (omega arith)) ] none

-- where an entry is placed, it is the first; where none is, no entry has the number
first_place : (here : Bool) (p i : ℕ) → cond here (Some p) None ≡ Some i → (i ≡ p) × (here ≡ true)
first_place true p i is = (cc, refl)
first_place false p i is = cc

no_place : (here : Bool) (p : ℕ) → cond here (Some p) None ≡ None → here ≡ false
no_place true p is = cc
no_place false p is = refl

pub learnt_at : (k : List Scene) (number i : ℕ) (on : Bool) → position (has number) k ≡ Some i → set k i (knows (get_or k i past) on) ≡ learnt k number on
learnt_at k number i on is =
    let found = first_place (ltb (position_or_len (has number) k) (length k)) _ i is in
    learnt_at_first k number i on found.0 (omega (arith, ltb-true _ _ found.1))

pub learnt_by_none : (k : List Scene) (number : ℕ) (on : Bool) → position (has number) k ≡ None → k ≡ learnt k number on
learnt_by_none k number on is = learnt_nowhere k number on (ltb-false _ _ (no_place (ltb (position_or_len (has number) k) (length k)) _ is))
