-- The numbers of the table tell its rows apart; so the code and the place of a check are given exactly when its row holds.
use Rattle.std.specs.Prelude.{Ok, Err}
use Prim.Native.Nat.{ℕ, ◌≤◌}
use mathlib.Core.Bool.{Bool, true, false, cond}
use mathlib.Core.Logic.{◌↔◌, inl, inr, ⊎_elim}
use mathlib.Core.Path.{◌≡◌, refl, sym, ap, ◌∙◌}
use native.Mathlib.Omega.{arith}
use lib.Dec.{eqb, leb}
use borrow.Author.Tests.{leb-true, le-leb}
use Rattle.base.specs.declared.refusal.Refusal.{Refusal}
use Rattle.base.specs.declared.refusal.Refusal.TheVariants.{WrongLength, WrongVersion, WrongActuators, WrongLayout, BadParameter, BadInput, BadStamp, ShortBuffer, UnsoundState, BadAction, WrongGroups}
use Rattle.base.specs.declared.refusal.Refused.{Refused}
use Rattle.base.specs.Refusals.{number, code_of, place_of, stamp_in_range, check_call, or_else, Decides, Only, Then, Codes, Timely, CallWhen, CallCodes, Check, refused_with}
use Rattle.base.proofs.Tests.{both, no}

pub some_number : (why : Refusal) → 1 ≤ number why
some_number WrongLength = omega arith
some_number WrongVersion = omega arith
some_number WrongActuators = omega arith
some_number WrongLayout = omega arith
some_number BadParameter = omega arith
some_number BadInput = omega arith
some_number BadStamp = omega arith
some_number ShortBuffer = omega arith
some_number UnsoundState = omega arith
some_number BadAction = omega arith
some_number WrongGroups = omega arith

-- no two rows of the table have one number
refusal_of : ℕ → Refusal
refusal_of n =
    cond (eqb n 1) WrongLength
    (cond (eqb n 2) WrongVersion
    (cond (eqb n 3) WrongActuators
    (cond (eqb n 4) WrongLayout
    (cond (eqb n 5) BadParameter
    (cond (eqb n 6) BadInput
    (cond (eqb n 7) BadStamp
    (cond (eqb n 8) ShortBuffer
    (cond (eqb n 9) UnsoundState
    (cond (eqb n 11) BadAction WrongGroups)))))))))

number_back : (why : Refusal) → refusal_of (number why) ≡ why
unfolding refusal_of
number_back WrongLength = refl
number_back WrongVersion = refl
number_back WrongActuators = refl
number_back WrongLayout = refl
number_back BadParameter = refl
number_back BadInput = refl
number_back BadStamp = refl
number_back ShortBuffer = refl
number_back UnsoundState = refl
number_back BadAction = refl
number_back WrongGroups = refl

-- two refusals are one only if their rows and places are
pub same_row : (why other : Refusal) (p q : ℕ) → refused_with why p ≡ refused_with other q → (why ≡ other) × (p ≡ q)
same_row why other p q e =
    let same : ◌≡◌ {A = Refused} (record { why = why; place = p }) (record { why = other; place = q }) = cc in
    (ap (λ (r : Refused). r.why) same, ap (λ (r : Refused). r.place) same)

-- what a check finds is told by its code and its place
code_tells : (c : Check) (why : Refusal) (p : ℕ) → code_of c ≡ number why → place_of c ≡ p → c ≡ refused_with why p
code_tells (Ok _) why p e f = absurd (omega (arith, some_number why, e))
code_tells (Err fault) why p e f =
    let same : fault.why ≡ why = sym (number_back fault.why) ∙ ap refusal_of e ∙ number_back why in
    rw (same, f) refl

zero_tells : (c : Check) → code_of c ≡ 0 → c ≡ Ok tt
zero_tells (Ok _) e = refl
zero_tells (Err fault) e = absurd (omega (arith, some_number fault.why, e))

-- a call gives the code and the place of its check, and so each exactly when the check finds it
pub codes_of_a_check : {Given : Refusal → ℕ → Type 0} {Good : Type 0} (c : Check) → Decides Given Good c → Codes Given Good (code_of c) (place_of c)
codes_of_a_check c d =
    record {
      refused = λ why p. (λ e. (d.refused why p).0 (code_tells c why p e.0 e.1), λ g. rw ((d.refused why p).1 g) (refl, refl));
      accepted = λ p. (
        λ e. let passed = zero_tells c e.0 in (sym e.1 ∙ ap place_of passed, d.passed.0 passed),
        λ g. rw (d.passed.1 g.1) (refl, sym g.0),
      );
    }

-- ---- checks, put together

pub failed : (b : Bool) → (b ≡ true → ⊥) → b ≡ false
failed true f = absurd (f refl)
failed false f = refl

-- a single test decides a single row
pub one_test_decides : (Good : Type 0) (b : Bool) (row : Refusal) (place : ℕ) → ((b ≡ true) ↔ Good) → Decides (Only row place (Good → ⊥)) Good (cond b (Ok tt) (refused_with row place))
one_test_decides Good true row place t =
    record {
      refused = λ why p. (λ e. absurd (no_refusal why p e), λ g. absurd (g.2 (t.0 refl)));
      passed = (λ e. t.0 refl, λ g. refl);
    }
  where
    no_refusal : (why : Refusal) (p : ℕ) → (Ok tt) ≡ refused_with why p → ⊥
    no_refusal why p e = let z : ◌≡◌ {A = ℕ} 0 1 = cc in omega arith
one_test_decides Good false row place t =
    record {
      refused = λ why p. (λ e. let same = same_row row why place p e in (sym same.0, sym same.1, λ g. no (t.1 g)), λ g. rw (g.0, g.1) refl);
      passed = (λ e. let z : ◌≡◌ {A = ℕ} 0 1 = cc in absurd (omega arith), λ g. no (t.1 g));
    }

-- one check after another decides the rows of both
pub then_decides : {First Next : Refusal → ℕ → Type 0} {Good Fine : Type 0} (c d : Check) → Decides First Good c → Decides Next Fine d → Decides (Then First Good Next) (Good × Fine) (or_else c d)
then_decides (Ok _) d one two =
    record {
      refused = λ why p. (λ e. inr (one.passed.0 refl, (two.refused why p).0 e), λ g. ⊎_elim (λ f. absurd (let z : ◌≡◌ {A = ℕ} 0 1 = let e = (one.refused why p).1 f in cc in omega arith)) (λ n. (two.refused why p).1 n.1) g);
      passed = (λ e. (one.passed.0 refl, two.passed.0 e), λ g. two.passed.1 g.1);
    }
then_decides (Err fault) d one two =
    record {
      refused = λ why p. (λ e. inl ((one.refused why p).0 e), λ g. ⊎_elim (λ f. (one.refused why p).1 f) (λ n. absurd (let z : ◌≡◌ {A = ℕ} 0 1 = let e = one.passed.1 n.0 in cc in omega arith)) g);
      passed = (λ e. absurd (let z : ◌≡◌ {A = ℕ} 0 1 = cc in omega arith), λ g. absurd (let z : ◌≡◌ {A = ℕ} 0 1 = let e = one.passed.1 g.0 in cc in omega arith));
    }

-- ---- a call that is handed a state and one thing to do

-- "7": exactly when the test of a stamp fails
pub timely_exactly_when : (clock stamp : ℕ) → (stamp_in_range clock stamp ≡ true) ↔ Timely clock stamp
unfolding stamp_in_range
timely_exactly_when clock stamp = (
  λ h. let e = both (leb clock stamp) _ h in (leb-true _ _ e.0, leb-true _ _ e.1),
  λ t. simp (le-leb clock stamp t.0, le-leb stamp 864_000 t.1),
)

module _ (Sound Known InTime : Type 0) (sound known timely : Bool) (s : (sound ≡ true) ↔ Sound) (k : (known ≡ true) ↔ Known) (t : (timely ≡ true) ↔ InTime) where
  -- its check is its three tests, one after the other
  three_tests_decide : Decides (CallWhen Sound Known InTime) (Sound × (Known × InTime)) (check_call sound known timely)
  unfolding check_call
  three_tests_decide =
      let first = one_test_decides Sound sound UnsoundState 0 s in
      let second = one_test_decides Known known BadInput 0 k in
      let third = one_test_decides InTime timely BadStamp 0 t in
      then_decides _ _ first (then_decides _ _ second third)

  pub call_codes : CallCodes Sound Known InTime (code_of (check_call sound known timely)) (place_of (check_call sound known timely))
  call_codes = codes_of_a_check (check_call sound known timely) three_tests_decide
