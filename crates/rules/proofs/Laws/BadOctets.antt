-- Which octet of the parameters is out of range, exactly, in 01's words.
use Prim.Native.Nat.{ℕ, zero, suc, ◌+◌, ◌*◌, ◌<◌}
use mathlib.Core.Bool.{Bool, true}
use mathlib.Core.List.{List}
use mathlib.Core.Logic.{◌↔◌, inl, inr, ⊎_elim}
use mathlib.Core.Path.{◌≡◌}
use native.Mathlib.Omega.{arith}
use lib.ListN.{get_or}
use lib.Dec.{eqb, leb, ltb}
use borrow.Author.Tests.{ltb-true, leb-true, leb-false, eqb-true, eqb-false, not-true, lt-ltb, le-leb, lt-leb, eq-eqb, ne_eqb}
use Rattle.octets.specs.BigEndian.{octet}
use Rattle.rules.specs.declared.form.Form.{Form}
use Rattle.rules.specs.Layout.{modes_at, scenes_at}
use Rattle.rules.specs.Parameters.{delay, greatest, bad_time, number_above, bad_number, bad_flags}
use Rattle.rules.specs.Facts.{BadTime, Above, BadNumber, BadFlags, TooGreat, BadExactly}
use Rattle.base.proofs.Tests.{no, both, either, or_else, cond_case}
use Rattle.rules.proofs.Laws.Parameters.{time_octet, within_time, mode_octet, number_octet, flags_octet_lem}

-- "TimedOn 0: 4"; "a bad time: its first octet"
time_exactly : (f : Form) (octets : List ℕ) (n : ℕ) → (bad_time f octets n ≡ true) ↔ BadTime f octets n
unfolding bad_time
time_exactly f octets n = (
  λ h. ⊎_elim
      (λ long. inl (ltb-true _ _ long))
      (λ none. let parts = both (eqb n 2) _ none in inr (eqb-true _ _ parts.0, eqb-true _ _ parts.1))
      (either (ltb 655_350 (delay f octets n)) _ h),
  ⊎_elim
      (λ long. simp (lt-ltb 655_350 (delay f octets n) long))
      (λ none. or_else (ltb 655_350 (delay f octets n)) _ (λ short. simp (eq-eqb n 2 none.0, eq-eqb (delay f octets n) 0 none.1))),
)

-- ---- the numbers of the entries

above_view : (f : Form) (octets : List ℕ) (number n : ℕ) → number_above f octets number n ≡ true → Above octets (scenes_at f) number n
unfolding number_above
above_view f octets number zero h = no h
above_view f octets number (suc n) h =
    ⊎_elim
    (λ here. record { earlier = n; before = omega arith; same = eqb-true _ _ here })
    (λ above. let a = above_view f octets number n above in record { earlier = a.earlier; before = omega (arith, a.before); same = a.same })
    (either _ _ h)

above_whole : (f : Form) (octets : List ℕ) (number n : ℕ) → Above octets (scenes_at f) number n → number_above f octets number n ≡ true
unfolding number_above
above_whole f octets number zero a = absurd (omega (arith, a.before))
above_whole f octets number (suc n) a =
    or_else (eqb (octet octets (scenes_at f + 2 * n)) number) (number_above f octets number n)
    (λ differs. let other : a.earlier ≡ n → ⊥ = λ e. eqb-false _ _ differs (rw e at a.same) in
    above_whole f octets number n (record { earlier = a.earlier; before = omega (arith, a.before, other); same = a.same }))

number_exactly : (f : Form) (octets : List ℕ) (n : ℕ) → (bad_number f octets n ≡ true) ↔ BadNumber octets (scenes_at f) n
unfolding bad_number
number_exactly f octets n = (
  cond_case (λ (b : Bool). b ≡ true → BadNumber octets (scenes_at f) n) (leb (octet octets (scenes_at f + 2 * n)) 63) _ _
      (λ few above. inr (leb-true _ _ few, above_view f octets _ n above))
      (λ many other. inl (leb-false _ _ many, eqb-false _ _ (not-true _ other))),
  ⊎_elim
      (λ other. simp (lt-leb (octet octets (scenes_at f + 2 * n)) 63 other.0, ne_eqb (octet octets (scenes_at f + 2 * n)) 255 other.1))
      (λ again. simp (le-leb (octet octets (scenes_at f + 2 * n)) 63 again.0, above_whole f octets (octet octets (scenes_at f + 2 * n)) n again.1)),
)

-- ---- the flags of the entries

flags_exactly : (f : Form) (octets : List ℕ) (n : ℕ) → (bad_flags f octets n ≡ true) ↔ BadFlags octets (scenes_at f) n
unfolding bad_flags
flags_exactly f octets n = (
  cond_case (λ (b : Bool). b ≡ true → BadFlags octets (scenes_at f) n) (eqb (octet octets (scenes_at f + 2 * n)) 255) _ _
      (λ unused some. inl (eqb-true _ _ unused, omega (arith, eqb-false (octet octets (scenes_at f + 1 + 2 * n)) 0 (not-true _ some))))
      (λ used many. inr (eqb-false _ _ used, ltb-true _ _ many)),
  ⊎_elim
      (λ unused. simp (eq-eqb (octet octets (scenes_at f + 2 * n)) 255 unused.0, ne_eqb (octet octets (scenes_at f + 1 + 2 * n)) 0 (λ e. omega (arith, unused.1))))
      (λ used. simp (ne_eqb (octet octets (scenes_at f + 2 * n)) 255 used.0, lt-ltb 3 (octet octets (scenes_at f + 1 + 2 * n)) used.1)),
)

-- ---- all of them

mode_exactly : (f : Form) (octets : List ℕ) (m : ℕ) → m < 8 → TooGreat f octets (modes_at f + m) (get_or greatest m 0)
mode_exactly f octets m within = rw (mode_octet f octets m within) (ltb-true _ _, lt-ltb _ _)

pub bad_exactly : (f : Form) (octets : List ℕ) → BadExactly f octets
unfolding greatest
bad_exactly f octets =
    let first : modes_at f + 0 ≡ modes_at f = omega arith in
    record {
      times = λ n within. rw (time_octet f octets n within) (time_exactly f octets n);
      within_times = within_time f octets;
      locking = rw first at (mode_exactly f octets 0 (omega arith));
      unlocking = mode_exactly f octets 1 (omega arith);
      busfailure = mode_exactly f octets 2 (omega arith);
      busreturn = mode_exactly f octets 3 (omega arith);
      powerreturn = mode_exactly f octets 4 (omega arith);
      learning = mode_exactly f octets 5 (omega arith);
      zeros = (mode_exactly f octets 6 (omega arith), mode_exactly f octets 7 (omega arith));
      numbers = λ n. rw (number_octet f octets n) (number_exactly f octets n);
      flags = λ n. rw (flags_octet_lem f octets n) (flags_exactly f octets n);
    }
