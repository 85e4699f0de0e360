-- The rows of the versions: which there are, their numbers, and by what parameters alone are told.
use Prim.Native.Nat.{ℕ, ◌≤◌}
use mathlib.Core.Bool.{true}
use mathlib.Core.List.{List}
use mathlib.Core.Logic.{◌↔◌, ◌⊎◌, inl, inr}
use mathlib.Core.Path.{◌≡◌, refl, sym}
use native.Mathlib.Omega.{arith}
use lib.ListN.{length}
use lib.Dec.{eqb}
use borrow.Author.Tests.{eqb-true}
use Rattle.rules.specs.declared.form.Scale.{Scale}
use Rattle.rules.specs.declared.form.Scale.TheVariants.{Seconds, Tenths}
use Rattle.rules.specs.declared.form.Form.{Form}
use Rattle.rules.specs.Forms.{width, version_one, version_two, form_of, is_version, version, form_in, HasVersion}
use Rattle.rules.specs.Layout.{parameters_size, form_alone}
use Rattle.rules.specs.Facts.{FormsInNumbers}
use Rattle.base.proofs.Tests.{cond_case, either_way}

-- what holds of every row holds of the one that a version has
pub of_every_form : (P : Form → Type 0) → P version_one → P version_two → (v : ℕ) → P (form_of v)
unfolding form_of
of_every_form P first second v = cond_case P (eqb v 2) version_two version_one (λ e. second) (λ e. first)

-- a time takes two to four octets
pub few_octets : (s : Scale) → (2 ≤ width s) × (width s ≤ 4)
few_octets Seconds = (omega arith, omega arith)
few_octets Tenths = (omega arith, omega arith)

-- a version has a row exactly when it is 1 or 2
pub has_version : (v : ℕ) → (is_version v ≡ true) ↔ HasVersion v
unfolding is_version form_of
has_version v = (
  λ h. cond_case (λ (f : Form). eqb f.version v ≡ true → HasVersion v) (eqb v 2) version_two version_one
      (λ two e. inr (eqb-true v 2 two))
      (λ other e. inl (sym (eqb-true 1 v e)))
      h,
  back,
)
  where
    back : HasVersion v → is_version v ≡ true
    back (inl one) = rw one
    back (inr two) = rw two

-- the row of a version that has one is its own
pub own_row : (v : ℕ) → HasVersion v → (form_of v).version ≡ v
unfolding form_of
own_row v (inl one) = rw one
own_row v (inr two) = rw two

-- a form that is the row of its own version
abbrev pub IsRow : Form → Type 0
IsRow f = form_of f.version ≡ f

pub version_row : (v : ℕ) → IsRow (form_of v)
unfolding form_of
version_row v = of_every_form IsRow refl refl v

pub file_row : (file : List ℕ) → IsRow (form_in file)
unfolding form_in
file_row file = version_row (version file)

pub alone_row : (octets : List ℕ) → IsRow (form_alone octets)
unfolding form_alone form_of
alone_row octets = either_way IsRow (eqb (length octets) 40) version_two version_one refl refl

-- the octets of parameters tell their row
pub told_by_size : (v : ℕ) (octets : List ℕ) → length octets ≡ parameters_size (form_of v) → form_alone octets ≡ form_of v
unfolding form_alone
told_by_size v octets =
    of_every_form (λ f. length octets ≡ parameters_size f → form_alone octets ≡ f)
    (λ size. rw size)
    (λ size. rw size)
    v

pub forms_in_numbers : FormsInNumbers
unfolding form_of form_in form_alone
forms_in_numbers =
    record {
      first = refl;
      second = refl;
      of_a_file = λ file. refl;
      told_first = λ octets size. rw size;
      told_second = λ octets size. rw size;
      told_by_no_other = λ octets. cond_case (λ (f : Form). length octets ≡ parameters_size f → (length octets ≡ 32) ⊎ (length octets ≡ 40))
          (eqb (length octets) 40) version_two version_one
          (λ e size. inr size)
          (λ e size. inl size);
    }
