-- What the check of parameters answers, exactly; and accepted octets are parameters and scenes in range.
use Rattle.base.specs.Refusals.{Check, refused_with}
use Rattle.std.specs.Prelude.{Ok, Err}
use Prim.Native.Nat.{ℕ, zero, suc, ◌+◌, ◌-◌, ◌*◌, ◌/◌, ◌%◌, ◌≤◌, ◌<◌}
use mathlib.Core.Bool.{Bool, true, false, cond, not, ◌&&◌, ◌||◌, and-false, or-true}
use mathlib.Core.List.{List, [], ◌∷◌}
use mathlib.Core.Logic.{◌↔◌, ◌⊎◌, inl, inr, ⊎_elim}
use mathlib.Core.Path.{◌≡◌, refl, sym, ◌∙◌, ap}
use native.Mathlib.Nat.{eq-or-lt_of_le, le_of_suc-le-suc}
use native.Mathlib.Omega.{arith}
use lib.ListN.{length, get_or}
use lib.Dec.{eqb, leb, ltb}
use borrow.Author.Count.{below_none, below_more}
use borrow.Author.Tests.{ltb-false, leb-true, eqb-true, eqb-false, not-false, le-leb, lt-ltb, le-ltb, eq-eqb, ne_eqb}
use Rattle.octets.specs.BigEndian.{octet}
use Rattle.rules.specs.declared.form.Scale.{Scale}
use Rattle.rules.specs.declared.form.Scale.TheVariants.{Seconds, Tenths}
use Rattle.rules.specs.declared.form.Form.{Form}
use Rattle.rules.specs.declared.parameters.Scene.{Scene}
use Rattle.base.specs.declared.refusal.Refusal.{Refusal}
use Rattle.base.specs.declared.refusal.Refusal.TheVariants.{WrongLength, BadParameter}
use Rattle.rules.specs.Forms.{width, unit, is_version}
use Rattle.rules.specs.Layout.{time_place, modes_at, scenes_at, parameters_size}
use Rattle.rules.specs.Parameters.{time_at, delay, params_of, scene_at, scenes_of, greatest, bad_time, number_above, bad_number, bad_flags, bad_octet, time_in_range, times_in_range, modes_in_range, params_in_range, lowest_bad, check_parameters}
use Rattle.rules.specs.Scenes.{entry_in_range, absent, scenes_in_range}
use Rattle.rules.specs.Steps.{fresh}
use Rattle.rules.specs.Soundness.{sound}
use Rattle.rules.specs.Refusals.{GoodParameters, FirstBad, FoundWhen, FoundBy}
use Rattle.base.proofs.Tests.{no, neither_left, or_else, cond_case, eqb_same, by_order}
use Rattle.rules.proofs.Laws.Forms.{IsRow}
use Rattle.rules.proofs.Laws.Soundness.{fresh_is_sound}

-- ---- exactly what is answered

-- from a place on, when every octet before it is good
lowest_given : (f : Form) (octets : List ℕ) → length octets ≡ parameters_size f → (left at : ℕ) → at + left ≡ parameters_size f → ((j : ℕ) → j < at → bad_octet f octets j ≡ false) → FoundWhen f octets (lowest_bad f octets left at)
unfolding lowest_bad
lowest_given f octets whole zero at end good = record { whole = whole; good = λ j within. good j (omega arith) }
lowest_given f octets whole (suc left) at end good =
    cond_case (FoundWhen f octets) (bad_octet f octets at) (refused_with BadParameter at) (lowest_bad f octets left (at + 1))
    (λ bad. record { whole = whole; within = omega arith; bad = bad; good = good })
    (λ fine. lowest_given f octets whole left (at + 1) (omega arith) (below_more (λ j. bad_octet f octets j ≡ false) at good fine))

-- the length first, then every octet from 0 on
check_given : (f : Form) (octets : List ℕ) → FoundWhen f octets (check_parameters f octets)
unfolding check_parameters
check_given f octets =
    cond_case (FoundWhen f octets) (eqb (length octets) (parameters_size f)) (lowest_bad f octets (parameters_size f) 0) (refused_with WrongLength 0)
    (λ whole. lowest_given f octets (eqb-true _ _ whole) (parameters_size f) 0 (omega arith) (below_none _))
    (λ other. (refl, eqb-false _ _ other))

-- an octet is not both good and bad
clash : {A : Type 0} (f : Form) (octets : List ℕ) (at : ℕ) → bad_octet f octets at ≡ true → bad_octet f octets at ≡ false → A
clash f octets at bad good = no (sym good ∙ bad)

-- neither of two first bad octets comes before the other
pub same_place : (f : Form) (octets : List ℕ) (a b : ℕ) → FirstBad f octets a → FirstBad f octets b → a ≡ b
same_place f octets a b x y =
    let not-less : a < b → ⊥ = λ less. clash f octets a x.bad (y.good a less) in
    let not_more : b < a → ⊥ = λ more. clash f octets b y.bad (x.good b more) in
    omega arith

-- parameters without a bad octet fit no refusal
good_is_not_bad : (f : Form) (octets : List ℕ) (why : Refusal) (place : ℕ) → GoodParameters f octets → FoundBy f octets why place → ⊥
good_is_not_bad f octets WrongLength place good bad = bad.1 good.whole
good_is_not_bad f octets BadParameter place good bad = clash f octets place bad.bad (good.good place bad.within)
good_is_not_bad f octets _ place good bad = elim bad [ ]

-- no two refusals fit
one_refusal : (f : Form) (octets : List ℕ) (why reason : Refusal) (place other : ℕ) → FoundBy f octets why place → FoundBy f octets reason other → refused_with why place ≡ refused_with reason other
one_refusal f octets WrongLength WrongLength place other a b = ap (refused_with WrongLength) (omega arith)
one_refusal f octets WrongLength BadParameter place other a b = absurd (a.1 b.whole)
one_refusal f octets BadParameter WrongLength place other a b = absurd (b.1 a.whole)
one_refusal f octets BadParameter BadParameter place other a b = ap (refused_with BadParameter) (same_place f octets place other a b)
one_refusal f octets WrongLength _ place other a b = elim b [ ]
one_refusal f octets BadParameter _ place other a b = elim b [ ]
one_refusal f octets _ reason place other a b = elim a [ ]

-- no two answers fit
one_answer : (f : Form) (octets : List ℕ) (x y : Check) → FoundWhen f octets x → FoundWhen f octets y → x ≡ y
one_answer f octets (Ok _) (Ok _) a b = refl
one_answer f octets (Ok _) (Err fault) a b = absurd (good_is_not_bad f octets fault.why fault.place a b)
one_answer f octets (Err fault) (Ok _) a b = absurd (good_is_not_bad f octets fault.why fault.place b a)
one_answer f octets (Err fault) (Err other) a b = one_refusal f octets fault.why other.why fault.place other.place a b

-- an answer is given exactly when it fits: the answer given fits, and no other does
pub lowest_bad_octet : (f : Form) (octets : List ℕ) (x : Check) → (check_parameters f octets ≡ x) ↔ FoundWhen f octets x
lowest_bad_octet f octets x = (λ e. rw e at (check_given f octets), λ fits. one_answer f octets (check_parameters f octets) x (check_given f octets) fits)

-- ---- the times

-- where a time starts it is tested, and nowhere behind that, up to the next
pub time_octet : (f : Form) (octets : List ℕ) (n : ℕ) → n < 4 → bad_octet f octets (time_place f n) ≡ bad_time f octets n
unfolding bad_octet
time_octet f octets n within = by f.scale _
  where
    by : (s : Scale) (rest : Bool) → cond (ltb (width s * n) (width s * 4)) (eqb (width s * n % width s) 0 && bad_time f octets (width s * n / width s)) rest ≡ bad_time f octets n
    by Seconds rest = let which : 2 * n / 2 ≡ n = omega arith in simp (lt-ltb (2 * n) 8 (omega arith), eq-eqb (2 * n % 2) 0 (omega arith), which)
    by Tenths rest = let which : 4 * n / 4 ≡ n = omega arith in simp (lt-ltb (4 * n) 16 (omega arith), eq-eqb (4 * n % 4) 0 (omega arith), which)

pub within_time : (f : Form) (octets : List ℕ) (n k : ℕ) → n < 4 → 0 < k → k < width f.scale → bad_octet f octets (time_place f n + k) ≡ false
unfolding bad_octet
within_time f octets n k within some = by f.scale _
  where
    by : (s : Scale) (rest : Bool) → k < width s → cond (ltb (width s * n + k) (width s * 4)) (eqb ((width s * n + k) % width s) 0 && bad_time f octets ((width s * n + k) / width s)) rest ≡ false
    by Seconds rest less = simp (lt-ltb (2 * n + k) 8 (omega arith), ne_eqb ((2 * n + k) % 2) 0 (λ z. omega arith))
    by Tenths rest less = simp (lt-ltb (4 * n + k) 16 (omega arith), ne_eqb ((4 * n + k) % 4) 0 (λ z. omega arith))

-- so where no time is bad, none of their octets is
pub good_times_are_good_octets : (f : Form) (octets : List ℕ) → ((n : ℕ) → n < 4 → bad_time f octets n ≡ false) → (j : ℕ) → j < modes_at f → bad_octet f octets j ≡ false
unfolding bad_octet
good_times_are_good_octets f octets good j = by f.scale _
  where
    by : (s : Scale) (rest : Bool) → j < width s * 4 → cond (ltb j (width s * 4)) (eqb (j % width s) 0 && bad_time f octets (j / width s)) rest ≡ false
    by Seconds rest within = simp (lt-ltb j 8 within, good (j / 2) (omega arith), and-false)
    by Tenths rest within = simp (lt-ltb j 16 within, good (j / 4) (omega arith), and-false)

-- none of the times of good parameters is bad
pub good_time : (f : Form) (octets : List ℕ) → GoodParameters f octets → (n : ℕ) → n < 4 → bad_time f octets n ≡ false
good_time f octets a n within = sym (time_octet f octets n within) ∙ a.good (time_place f n) (inside f.scale)
  where
    inside : (s : Scale) → width s * n < width s * 4 + 8 + 16
    inside Seconds = omega arith
    inside Tenths = omega arith

-- a time that is not bad is not too long
pub time_fits : (f : Form) (octets : List ℕ) (n : ℕ) → bad_time f octets n ≡ false → delay f octets n ≤ 655_350
unfolding bad_time
time_fits f octets n good = ltb-false 655_350 (delay f octets n) (neither_left (ltb 655_350 (delay f octets n)) _ good)

-- and TimedOn is then not 0
some_time : (f : Form) (octets : List ℕ) → bad_time f octets 2 ≡ false → delay f octets 2 ≡ 0 → ⊥
unfolding bad_time
some_time f octets good none = no (sym good ∙ or_else (ltb 655_350 (delay f octets 2)) _ (λ short. eq-eqb (delay f octets 2) 0 none))

pub passed_has_some_time : (f : Form) (octets : List ℕ) → check_parameters f octets ≡ (Ok tt) → 1 ≤ (params_of f octets).timedon
unfolding params_of
passed_has_some_time f octets passed = omega (arith, some_time f octets (good_time f octets ((lowest_bad_octet f octets (Ok tt)).0 passed) 2 (omega arith)))

-- whatever a time is, it is so many of its units
delay_in_units : (f : Form) (octets : List ℕ) (n : ℕ) → delay f octets n % unit f.scale ≡ 0
unfolding delay time_at
delay_in_units f octets n = by f.scale
  where
    by : (s : Scale) → time_at s octets (time_place f n) % unit s ≡ 0
    by Seconds = omega arith
    by Tenths = omega arith

delay_in_range : (f : Form) (octets : List ℕ) (n : ℕ) → bad_time f octets n ≡ false → time_in_range f.scale (delay f octets n) ≡ true
unfolding time_in_range
delay_in_range f octets n good = simp (le-leb (delay f octets n) 655_350 (time_fits f octets n good), delay_in_units f octets n)

-- so a TimedOn that is not 0 is one of them or more
some_units : (f : Form) (octets : List ℕ) → bad_time f octets 2 ≡ false → unit f.scale ≤ delay f octets 2
some_units f octets good = by f.scale (delay_in_units f octets 2)
  where
    by : (s : Scale) → delay f octets 2 % unit s ≡ 0 → unit s ≤ delay f octets 2
    by Seconds whole = omega (arith, some_time f octets good)
    by Tenths whole = omega (arith, some_time f octets good)

-- ---- the modes

-- an octet of the modes is tested against the table of their greatest
pub mode_octet : (f : Form) (octets : List ℕ) (m : ℕ) → m < 8 → bad_octet f octets (modes_at f + m) ≡ ltb (get_or greatest m 0) (octet octets (modes_at f + m))
unfolding bad_octet
mode_octet f octets m within =
    let which : modes_at f + m - modes_at f ≡ m = omega arith in
    simp (le-ltb (modes_at f + m) (modes_at f) (omega arith), lt-ltb (modes_at f + m) (scenes_at f) (omega arith), which)

pub mode_in_range : (f : Form) (octets : List ℕ) → GoodParameters f octets → (m : ℕ) → m < 8 → octet octets (modes_at f + m) ≤ get_or greatest m 0
mode_in_range f octets a m within = ltb-false _ _ (sym (mode_octet f octets m within) ∙ a.good (modes_at f + m) (omega arith))

-- ---- accepted octets of a row are parameters in range for its version

params_in_range_lem : (f : Form) (octets : List ℕ) → IsRow f → GoodParameters f octets → params_in_range (params_of f octets) ≡ true
unfolding params_in_range times_in_range modes_in_range params_of is_version greatest
params_in_range_lem f octets row a =
    let time : (n : ℕ) → n < 4 → time_in_range f.scale (delay f octets n) ≡ true = λ n within. delay_in_range f octets n (good_time f octets a n within) in
    let mode : (m : ℕ) → m < 8 → octet octets (modes_at f + m) ≤ get_or greatest m 0 = mode_in_range f octets a in
    let first : modes_at f + 0 ≡ modes_at f = omega arith in
    rw row
    (simp (
      eqb_same f.version,
      time 0 (omega arith),
      time 1 (omega arith),
      time 2 (omega arith),
      time 3 (omega arith),
      le-leb (unit f.scale) (delay f octets 2) (some_units f octets (good_time f octets a 2 (omega arith))),
      le-leb (octet octets (modes_at f)) 2 (rw first at (mode 0 (omega arith))),
      le-leb (octet octets (modes_at f + 1)) 3 (mode 1 (omega arith)),
      le-leb (octet octets (modes_at f + 2)) 2 (mode 2 (omega arith)),
      le-leb (octet octets (modes_at f + 3)) 2 (mode 3 (omega arith)),
      le-leb (octet octets (modes_at f + 4)) 2 (mode 4 (omega arith)),
    ))

-- ---- accepted octets are scenes in range

abbrev number_of : Form → List ℕ → ℕ → ℕ
number_of f octets n = octet octets (scenes_at f + 2 * n)

-- behind the modes numbers and flags take turns
scene_octet : (f : Form) (octets : List ℕ) (k n : ℕ) → k / 2 ≡ n → bad_octet f octets (scenes_at f + k) ≡ cond (eqb (k % 2) 0) (bad_number f octets n) (bad_flags f octets n)
unfolding bad_octet
scene_octet f octets k n entry =
    let which : scenes_at f + k - scenes_at f ≡ k = omega arith in
    simp (le-ltb (scenes_at f + k) (modes_at f) (omega arith), le-ltb (scenes_at f + k) (scenes_at f) (omega arith), which, entry)

pub number_octet : (f : Form) (octets : List ℕ) (n : ℕ) → bad_octet f octets (scenes_at f + 2 * n) ≡ bad_number f octets n
number_octet f octets n = scene_octet f octets (2 * n) n (omega arith) ∙ simp (eq-eqb (2 * n % 2) 0 (omega arith))

pub flags_octet_lem : (f : Form) (octets : List ℕ) (n : ℕ) → bad_octet f octets (scenes_at f + 1 + 2 * n) ≡ bad_flags f octets n
flags_octet_lem f octets n =
    let place : scenes_at f + 1 + 2 * n ≡ scenes_at f + (2 * n + 1) = omega arith in
    rw place (scene_octet f octets (2 * n + 1) n (omega arith) ∙ simp (ne_eqb ((2 * n + 1) % 2) 0 (λ even. omega arith)))

-- whatever the octet, of a time, a mode, a scene's number or its flags: it is good where these are
pub every_octet_good : (f : Form) (octets : List ℕ) → ((n : ℕ) → n < 4 → bad_time f octets n ≡ false) → ((m : ℕ) → m < 8 → bad_octet f octets (modes_at f + m) ≡ false) →
    ((n : ℕ) → n < 8 → bad_number f octets n ≡ false) → ((n : ℕ) → n < 8 → bad_flags f octets n ≡ false) → (j : ℕ) → j < parameters_size f → bad_octet f octets j ≡ false
every_octet_good f octets times modes numbers flags j within =
    by_order (modes_at f) j
    (λ past. by_order (scenes_at f) j
    (λ scene. scene_good (j - scenes_at f) (omega arith) (omega arith))
    (λ mode. let place : modes_at f + (j - modes_at f) ≡ j = omega arith in rw place at (modes (j - modes_at f) (omega arith))))
    (good_times_are_good_octets f octets times j)
  where
    scene_good : (m : ℕ) → scenes_at f + m ≡ j → m < 16 → bad_octet f octets j ≡ false
    scene_good m place within = by (eqb (m % 2) 0) refl
      where
        by : (b : Bool) → eqb (m % 2) 0 ≡ b → bad_octet f octets j ≡ false
        by true even =
            let number : scenes_at f + 2 * (m / 2) ≡ j = omega (arith, eqb-true (m % 2) 0 even) in
            rw number at (number_octet f octets (m / 2) ∙ numbers (m / 2) (omega arith))
        by false odd =
            let flag : scenes_at f + 1 + 2 * (m / 2) ≡ j = omega (arith, eqb-false (m % 2) 0 odd) in
            rw flag at (flags_octet_lem f octets (m / 2) ∙ flags (m / 2) (omega arith))

-- a used entry: its number is at most 63 and in no earlier entry
record Used (f : Form) (octets : List ℕ) (n : ℕ) : Type 0 where
  few : number_of f octets n ≤ 63
  new : number_above f octets (number_of f octets n) n ≡ false

-- a number that is not refused is new, or 255
used_or_unused : (f : Form) (octets : List ℕ) (n : ℕ) → GoodParameters f octets → n < 8 → Used f octets n ⊎ (number_of f octets n ≡ 255)
unfolding bad_number
used_or_unused f octets n a within =
    cond_case (λ (b : Bool). b ≡ false → Used f octets n ⊎ (number_of f octets n ≡ 255)) (leb (number_of f octets n) 63)
    (number_above f octets (number_of f octets n) n) (not (eqb (number_of f octets n) 255))
    (λ few new. inl (record { few = leb-true _ _ few; new = new }))
    (λ many unused. inr (eqb-true _ _ (not-false _ unused)))
    (sym (number_octet f octets n) ∙ a.good (scenes_at f + 2 * n) (omega arith))

-- the flags of an unused entry, if not refused, are 0
unused_flags : (f : Form) (octets : List ℕ) (n : ℕ) → GoodParameters f octets → n < 8 → number_of f octets n ≡ 255 → octet octets (scenes_at f + 2 * n + 1) ≡ 0
unfolding bad_flags
unused_flags f octets n a within unused =
    let next : scenes_at f + 2 * n + 1 ≡ scenes_at f + 1 + 2 * n = omega arith in
    rw next (eqb-true _ _ (not-false _ (simp (unused) at (sym (flags_octet_lem f octets n) ∙ a.good (scenes_at f + 1 + 2 * n) (omega arith)))))

-- a used entry needs only a number up to 63, an unused one only flags that are 0
entry_in_range_lem : (f : Form) (octets : List ℕ) (n : ℕ) → GoodParameters f octets → n < 8 → entry_in_range (scene_at octets (scenes_at f + 2 * n)) ≡ true
unfolding entry_in_range scene_at
entry_in_range_lem f octets n a within =
    ⊎_elim
    (λ used. simp (ne_eqb (number_of f octets n) 255 (λ unused. omega arith), le-leb (number_of f octets n) 63 used.few))
    (λ unused. simp (eq-eqb (number_of f octets n) 255 unused, unused_flags f octets n a within unused))
    (used_or_unused f octets n a within)

-- a number that none of the first n entries has differs from the number of each
above_differs : (f : Form) (octets : List ℕ) (number n m : ℕ) → number_above f octets number n ≡ false → m < n → eqb (number_of f octets m) number ≡ false
unfolding number_above
above_differs f octets number zero m new earlier = absurd (omega arith)
above_differs f octets number (suc n) m new earlier =
    let here = neither_left (eqb (number_of f octets n) number) _ new in
    elim (eq-or-lt_of_le (le_of_suc-le-suc earlier)) [
      | inl same ↦ rw same here
      | inr less ↦ above_differs f octets number n m (rw here at new) less
    ]

-- a used number does not come again: it would be refused at the later entry
later_differs : (f : Form) (octets : List ℕ) (m n : ℕ) → GoodParameters f octets → n < 8 → m < n → number_of f octets m ≤ 63 → eqb (number_of f octets n) (number_of f octets m) ≡ false
later_differs f octets m n a within earlier few =
    ne_eqb (number_of f octets n) (number_of f octets m)
    (λ same. ⊎_elim
    (λ used. eqb-false _ _ (above_differs f octets (number_of f octets n) n m used.new earlier) (sym same))
    (λ unused. omega arith)
    (used_or_unused f octets n a within))

-- the entries from the n-th on, this many
unfoldable pub entries : Form → List ℕ → ℕ → ℕ → List Scene
entries f octets zero n = []
entries f octets (suc left) n = scene_at octets (scenes_at f + 2 * n) ∷ entries f octets left (n + 1)

-- so no later entry has it
used_is_absent : (f : Form) (octets : List ℕ) (m left n : ℕ) → GoodParameters f octets → n + left ≡ 8 → m < n → number_of f octets m ≤ 63 → absent (entries f octets left n) (number_of f octets m) ≡ true
unfolding absent entries scene_at
used_is_absent f octets m zero n a end earlier few = refl
used_is_absent f octets m (suc left) n a end earlier few =
    simp (later_differs f octets m n a (omega arith) earlier few, used_is_absent f octets m left (n + 1) a (omega arith) (omega arith) few)

-- entry by entry: each is in range, and unused or absent from the later ones
entries_in_range : (f : Form) (octets : List ℕ) (left n : ℕ) → GoodParameters f octets → n + left ≡ 8 → scenes_in_range (entries f octets left n) ≡ true
unfolding scenes_in_range entries scene_at
entries_in_range f octets zero n a end = refl
entries_in_range f octets (suc left) n a end =
    let here : (eqb (number_of f octets n) 255 || absent (entries f octets left (n + 1)) (number_of f octets n)) ≡ true =
    ⊎_elim
    (λ used. simp (used_is_absent f octets n left (n + 1) a (omega arith) (omega arith) used.few, or-true))
    (λ unused. simp (eq-eqb (number_of f octets n) 255 unused))
    (used_or_unused f octets n a (omega arith))
    in
    simp (entry_in_range_lem f octets n a (omega arith), here, entries_in_range f octets left (n + 1) a (omega arith))

-- the eight entries are the scene table
pub passed_is_in_range : (f : Form) (octets : List ℕ) → IsRow f → check_parameters f octets ≡ (Ok tt) → (params_in_range (params_of f octets) ≡ true) × (scenes_in_range (scenes_of f octets) ≡ true)
unfolding scenes_of entries
passed_is_in_range f octets row passed =
    let a = (lowest_bad_octet f octets (Ok tt)).0 passed in
    (params_in_range_lem f octets row a, entries_in_range f octets 8 0 a refl)

-- accepted parameters start a sound state
pub passed_is_sound : (f : Form) (octets : List ℕ) → IsRow f → check_parameters f octets ≡ (Ok tt) → sound (fresh (params_of f octets) (scenes_of f octets)) ≡ true
passed_is_sound f octets row passed =
    let ranges = passed_is_in_range f octets row passed in
    fresh_is_sound (params_of f octets) (scenes_of f octets) ranges.0 ranges.1
