-- The version of the calls for C tells the truth about the files that they read, and no second number fits it.
use Prim.Native.Nat.{ℕ, ◌≤◌}
use mathlib.Core.List.{List}
use mathlib.Core.Logic.{◌↔◌, inl, inr}
use mathlib.Core.Path.{◌≡◌, refl, sym, ap, ◌∙◌}
use native.Mathlib.Nat.{eq-or-lt_of_le}
use native.Mathlib.Omega.{arith}
use lib.ListN.{length}
use Rattle.base.specs.declared.refusal.Refusal.TheVariants.{WrongVersion, ShortBuffer}
use Rattle.base.specs.Refusals.{number, Then, Only}
use Rattle.rules.specs.Forms.{HasVersion, version}
use Rattle.rules.specs.Files.{input_count}
use Rattle.rules.specs.Runs.{run_call}
use Rattle.rules.specs.Refusals.{GivenWhen, GoodFile, RoomFor}
use Rattle.rules.proofs.Refusals.Runs.{run_refused_exactly_when}
use Rattle.version.specs.Versions.{IsRead, house_version}

-- a version that has a row lies from the oldest to the newest, and the reverse
pub read_exactly_when : (v : ℕ) → HasVersion v ↔ IsRead v
read_exactly_when v = (there, back)
  where
    there : HasVersion v → IsRead v
    there (inl one) = (omega (arith, one), omega (arith, one))
    there (inr two) = (omega (arith, two), omega (arith, two))

    back : IsRead v → HasVersion v
    back r =
        elim (eq-or-lt_of_le r.0) [
          | inl one ↦ inl (sym one)
          | inr more ↦ inr (omega (arith, r, more))
        ]

-- the run refuses a file with 2 exactly when it is long enough to have a version and that is not read
pub another_version_is_refused : (file records answers : List ℕ) →
    let r = (run_call file records answers).report in
    ((r.code ≡ 2) × (r.place ≡ 0)) ↔ ((52 ≤ length file) × (IsRead (version file) → ⊥))
another_version_is_refused file records answers =
    let row = (run_refused_exactly_when file records answers).refused WrongVersion 0 in
    (λ e. there (row.0 e), λ u. row.1 (inl (inl (refl, u.0, λ h. u.1 ((read_exactly_when (version file)).0 h)))))
  where
    there : Then (GivenWhen file) (GoodFile file) (Only ShortBuffer 0 (RoomFor (input_count file) records answers → ⊥)) WrongVersion 0 → (52 ≤ length file) × (IsRead (version file) → ⊥)
    there (inl (inl given)) = (given.1, λ r. given.2 ((read_exactly_when (version file)).1 r))
    there (inl (inr later)) = absurd later.1
    there (inr last) = absurd (omega (arith, ap number last.1.0))

pub no_second_version : (one other : ℕ) → one ≡ house_version → other ≡ house_version → one ≡ other
no_second_version one other p q = p ∙ sym q
