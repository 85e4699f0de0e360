-- Parameters and headers are read as they are written: what is written is accepted and read back, and accepted parameters are written in
-- no other way.
use Rattle.std.specs.Prelude.{Ok}
use Prim.Native.Nat.{ℕ, zero, suc, ◌+◌, ◌*◌, ◌/◌, ◌%◌, ◌≤◌, ◌<◌}
use mathlib.Core.Bool.{Bool, true, false, cond}
use mathlib.Core.List.{List, [], ◌∷◌, ◌++◌, append-nil}
use mathlib.Core.Logic.{inl, inr, ⊎_elim}
use mathlib.Core.Path.{◌≡◌, refl, sym, ◌∙◌, ap}
use native.Mathlib.Omega.{arith}
use lib.ListN.{length, get_or, drop, length-append}
use lib.Seq.{drop-length, drop-cons, get_or-append-add}
use lib.Dec.{eqb, ltb}
use borrow.Author.Tests.{ltb-false, eqb-true, eqb-false, le-leb, le-ltb, ne_eqb, not-false}
use Rattle.octets.specs.BigEndian.{octet, octets32}
use Rattle.rules.specs.declared.form.Scale.{Scale}
use Rattle.rules.specs.declared.form.Scale.TheVariants.{Seconds, Tenths}
use Rattle.rules.specs.declared.form.Form.{Form}
use Rattle.rules.specs.declared.parameters.Params.{Params}
use Rattle.rules.specs.declared.parameters.Scene.{Scene}
use Rattle.rules.specs.Forms.{width, form_of, version, HasVersion}
use Rattle.rules.specs.Layout.{modes_at, scenes_at, scene_place, flags_place, parameters_size}
use Rattle.rules.specs.Parameters.{time_at, delay, bad_time, params_of, scene_at, scenes_of, greatest, number_above, bad_number, bad_flags, bad_octet, check_parameters}
use Rattle.octets.specs.Groups.{stamp_at}
use Rattle.rules.specs.Files.{actuators, parameters_offset, input_count, inputs_offset, end_time}
use Rattle.rules.specs.Written.{delay_octets, times_octets, mode_octets, flags_octet, scenes_octets, parameters_octets, header_octets}
use Rattle.rules.specs.Facts.{Delay, ParamsFit, entry, ScenesFit}
use Rattle.rules.specs.Calls.{unused}
use Rattle.octets.proofs.BothWays.{what_is_written_is_read_16, what_is_written_is_read}
use Rattle.base.proofs.Tests.{cond_case, either_way}
use Rattle.rules.proofs.Laws.Forms.{own_row}
use Rattle.rules.proofs.Laws.Parameters.{lowest_bad_octet, mode_octet, mode_in_range, flags_octet_lem, every_octet_good, entries}

-- ---- accepted parameters are written in one way

-- the octets from a place on, this many
unfoldable pub from : List ℕ → ℕ → ℕ → List ℕ
from octets zero n = []
from octets (suc left) n = octet octets n ∷ from octets left (n + 1)

pub from_drop : (octets : List ℕ) (left n : ℕ) → n + left ≤ length octets → from octets left n ++ drop (n + left) octets ≡ drop n octets
unfolding from
from_drop octets zero n within =
    let same : n + 0 ≡ n = omega arith in
    rw same
from_drop octets (suc left) n within =
    let next : n + suc left ≡ n + 1 + left = omega arith in
    let one : suc n ≡ n + 1 = omega arith in
    rw (drop-cons octets n 0 (omega arith), one) (rw next (ap (λ (x : List ℕ). octet octets n ∷ x) (from_drop octets left (n + 1) (omega arith))))

-- octets below 256, from the time that they say
pub time_octets : (octets : List ℕ) → ((i : ℕ) → octet octets i < 256) → (s : Scale) (at : ℕ) → delay_octets s (time_at s octets at) ≡ from octets (width s) at
unfolding time_at from octets32
time_octets octets small Seconds at =
    let first : 10 * (256 * octet octets at + octet octets (at + 1)) / 10 / 256 ≡ octet octets at = omega (arith, small (at + 1)) in
    let last : 10 * (256 * octet octets at + octet octets (at + 1)) / 10 % 256 ≡ octet octets (at + 1) = omega (arith, small (at + 1)) in
    rw (first, last)
time_octets octets small Tenths at =
    let third : at + 1 + 1 ≡ at + 2 = omega arith in
    let fourth : at + 2 + 1 ≡ at + 3 = omega arith in
    rw (third, fourth)
    (four (octet octets at) (octet octets (at + 1)) (octet octets (at + 2)) (octet octets (at + 3)) (small (at + 1)) (small (at + 2)) (small (at + 3)))
  where
    four : (a b c d : ℕ) → b < 256 → c < 256 → d < 256 → octets32 (65536 * (256 * a + b) + (256 * c + d)) ≡ a ∷ b ∷ c ∷ d ∷ []
    four a b c d small_b small-c small-d =
        let n : ℕ = 65536 * (256 * a + b) + (256 * c + d) in
        let e1 : n / 16777216 ≡ a = omega arith in
        let e2 : n / 65536 % 256 ≡ b = omega arith in
        let e3 : n / 256 % 256 ≡ c = omega arith in
        let e4 : n % 256 ≡ d = omega arith in
        rw (e1, e2, e3, e4)

pub joined : {a b x y : List ℕ} → a ≡ x → b ≡ y → a ++ b ≡ x ++ y
joined first second = rw (first, second)

-- an octet that is 0 or 1
pub zero_or_one_lem : (n : ℕ) → n ≤ 1 → cond (eqb n 1) 1 0 ≡ n
zero_or_one_lem n few = cond_case (λ (x : ℕ). x ≡ n) (eqb n 1) 1 0 (λ e. sym (eqb-true _ _ e)) (λ e. omega (arith, eqb-false n 1 e))

-- flags that are at most 3 are their two bits
two_bits : (n : ℕ) → n ≤ 3 → cond (eqb (n % 2) 1) 1 0 + cond (eqb (n / 2 % 2) 1) 2 0 ≡ n
two_bits n few =
    let low : cond (eqb (n % 2) 1) 1 0 ≡ n % 2 = zero_or_one_lem (n % 2) (omega arith) in
    let high : cond (eqb (n / 2 % 2) 1) 2 0 ≡ 2 * (n / 2 % 2) =
    cond_case (λ (x : ℕ). x ≡ 2 * (n / 2 % 2)) (eqb (n / 2 % 2) 1) 2 0 (λ e. omega (arith, eqb-true (n / 2 % 2) 1 e)) (λ e. omega (arith, eqb-false (n / 2 % 2) 1 e))
    in
    rw (low, high) (omega arith)

-- octets in which nothing stands but what parameters and scenes say
pub record Plain (f : Form) (octets : List ℕ) : Type 0 where
  pub whole : length octets ≡ parameters_size f
  pub learning : octet octets (modes_at f + 5) ≤ 1
  pub zeros : (octet octets (modes_at f + 6) ≡ 0) × (octet octets (modes_at f + 7) ≡ 0)
  pub flags : (n : ℕ) → n < 8 → octet octets (flags_place f n) ≤ 3

module _ (f : Form) (octets : List ℕ) (small : (i : ℕ) → octet octets i < 256) (plain : Plain f octets) where
  times_as_written : times_octets f.scale (params_of f octets) ≡ from octets (modes_at f) 0
  unfolding params_of delay
  times_as_written = by f.scale
    where
      by : (s : Scale) → delay_octets s (time_at s octets (width s * 0)) ++ (delay_octets s (time_at s octets (width s * 1)) ++ (delay_octets s (time_at s octets (width s * 2)) ++ delay_octets s (time_at s octets (width s * 3)))) ≡ from octets (width s * 4) 0
      by Seconds = unfold from in joined (time_octets octets small Seconds 0) (joined (time_octets octets small Seconds 2) (joined (time_octets octets small Seconds 4) (time_octets octets small Seconds 6)))
      by Tenths = unfold from in joined (time_octets octets small Tenths 0) (joined (time_octets octets small Tenths 4) (joined (time_octets octets small Tenths 8) (time_octets octets small Tenths 12)))

  modes_as_written : mode_octets (params_of f octets) ≡ from octets 8 (modes_at f)
  unfolding params_of from
  modes_as_written =
      rw (zero_or_one_lem (octet octets (modes_at f + 5)) plain.learning)
      (places (modes_at f) plain.zeros.0 plain.zeros.1)
    where
      places : (at : ℕ) → octet octets (at + 6) ≡ 0 → octet octets (at + 7) ≡ 0 →
          octet octets at ∷ octet octets (at + 1) ∷ octet octets (at + 2) ∷ octet octets (at + 3) ∷ octet octets (at + 4) ∷ octet octets (at + 5) ∷ 0 ∷ 0 ∷ [] ≡ from octets 8 at
      places at first second =
          let p2 : at + 1 + 1 ≡ at + 2 = omega arith in
          let p3 : at + 2 + 1 ≡ at + 3 = omega arith in
          let p4 : at + 3 + 1 ≡ at + 4 = omega arith in
          let p5 : at + 4 + 1 ≡ at + 5 = omega arith in
          let p6 : at + 5 + 1 ≡ at + 6 = omega arith in
          let p7 : at + 6 + 1 ≡ at + 7 = omega arith in
          rw (p2, p3, p4, p5, p6, p7, first, second)

  scenes_as_written : (left n : ℕ) → n + left ≡ 8 → scenes_octets (entries f octets left n) ≡ from octets (2 * left) (scene_place f n)
  unfolding entries from scene_at
  scenes_as_written zero n end = refl
  scenes_as_written (suc left) n end =
      let two : 2 * suc left ≡ suc (suc (2 * left)) = omega arith in
      let next : scene_place f n + 1 + 1 ≡ scene_place f (n + 1) = omega arith in
      let place : scene_place f n + 1 ≡ flags_place f n = omega arith in
      let flags = two_bits (octet octets (flags_place f n)) (plain.flags n (omega arith)) in
      rw (two, next, place, flags, scenes_as_written left (n + 1) (omega arith))

  -- they are written as they stand
  pub plain_as_written : parameters_octets f (params_of f octets) (scenes_of f octets) ≡ octets
  unfolding scenes_of entries
  plain_as_written =
      let past : drop (parameters_size f) octets ≡ [] = rw (← plain.whole) (drop-length octets) in
      let first : scene_place f 0 ≡ scenes_at f = omega arith in
      let table : scenes_octets (entries f octets 8 0) ≡ from octets 16 (scenes_at f) = scenes_as_written 8 0 refl ∙ rw first in
      let scenes : scenes_octets (entries f octets 8 0) ≡ drop (scenes_at f) octets =
      table ∙
      (sym (append-nil (from octets 16 (scenes_at f))) ∙
      (ap (λ (x : List ℕ). from octets 16 (scenes_at f) ++ x) (sym past) ∙ from_drop octets 16 (scenes_at f) (omega (arith, plain.whole))))
      in
      let modes : mode_octets (params_of f octets) ++ scenes_octets (entries f octets 8 0) ≡ drop (modes_at f) octets =
      joined modes_as_written scenes ∙ from_drop octets 8 (modes_at f) (omega (arith, plain.whole))
      in
      let start : 0 + modes_at f ≡ modes_at f = omega arith in
      joined times_as_written modes ∙ rw start at (from_drop octets (modes_at f) 0 (omega (arith, plain.whole)))

-- flags that are not refused are at most 3: those of an unused entry are 0
flags_few : (f : Form) (octets : List ℕ) (n : ℕ) → bad_flags f octets n ≡ false → octet octets (flags_place f n) ≤ 3
unfolding bad_flags
flags_few f octets n good =
    cond_case (λ (b : Bool). b ≡ false → octet octets (flags_place f n) ≤ 3) (eqb (octet octets (scene_place f n)) 255) _ _
    (λ unused none. omega (arith, eqb-true (octet octets (flags_place f n)) 0 (not-false _ none)))
    (λ used few. ltb-false _ _ few)
    good

-- parameters that are accepted are the octets that 01 and 02 write for what they say, and no others
pub accepted_as_written : (f : Form) (octets : List ℕ) → ((i : ℕ) → octet octets i < 256) → check_parameters f octets ≡ (Ok tt) → parameters_octets f (params_of f octets) (scenes_of f octets) ≡ octets
unfolding greatest
accepted_as_written f octets small passed =
    let good = (lowest_bad_octet f octets (Ok tt)).0 passed in
    let mode : (m : ℕ) → m < 8 → octet octets (modes_at f + m) ≤ get_or greatest m 0 = mode_in_range f octets good in
    plain_as_written f octets small
    record {
      whole = good.whole;
      learning = mode 5 (omega arith);
      zeros = (omega (arith, mode 6 (omega arith)), omega (arith, mode 7 (omega arith)));
      flags = λ n within. flags_few f octets n (sym (flags_octet_lem f octets n) ∙ good.good (flags_place f n) (omega arith));
    }

-- ---- what is written is read back

-- the four times, whatever follows them
abbrev pub TimesBack : Form → Params → Type 0
TimesBack f p =
    (later : List ℕ) → let octets : List ℕ = times_octets f.scale p ++ later in
    (delay f octets 0 ≡ p.ondelay) × (delay f octets 1 ≡ p.offdelay) × (delay f octets 2 ≡ p.timedon) × (delay f octets 3 ≡ p.prewarning)

-- in tenths, any
pub tenths_back : (v : ℕ) (p : Params) → TimesBack (record { version = v; scale = Tenths }) p
unfolding delay time_at octets32
tenths_back v p later = (what_is_written_is_read p.ondelay [], what_is_written_is_read p.offdelay [], what_is_written_is_read p.timedon [], what_is_written_is_read p.prewarning [])

-- of version 1, whole seconds
times_back : (p : Params) → ParamsFit p → TimesBack (form_of p.version) p
unfolding form_of
times_back p f = by f.version
  where
    seconds : (t : ℕ) → Delay p.version t → p.version ≡ 1 → 10 * (256 * (t / 10 / 256) + t / 10 % 256) ≡ t
    seconds t d one = omega (arith, (d.seconds one).1)

    by : HasVersion p.version → TimesBack (form_of p.version) p
    by (inl one) = unfold delay time_at in rw one (λ later. (seconds p.ondelay f.ondelay one, seconds p.offdelay f.offdelay one, seconds p.timedon f.timedon one, seconds p.prewarning f.prewarning one))
    by (inr two) = rw two (tenths_back 2 p)

-- a bit, as octet
pub bit_back : (b : Bool) → eqb (cond b 1 0) 1 ≡ b
bit_back true = refl
bit_back false = refl

pub flags_back : (value taught : Bool) →
    (eqb ((cond value 1 0 + cond taught 2 0) % 2) 1 ≡ value) × (eqb ((cond value 1 0 + cond taught 2 0) / 2 % 2) 1 ≡ taught) × (cond value 1 0 + cond taught 2 0 ≤ 3)
flags_back true true = (refl, refl, omega arith)
flags_back true false = (refl, refl, omega arith)
flags_back false true = (refl, refl, omega arith)
flags_back false false = (refl, refl, omega arith)

-- the two octets of entry n
entry_octets : (k : List Scene) (n : ℕ) → n < length k → (octet (scenes_octets k) (2 * n) ≡ (entry k n).number) × (octet (scenes_octets k) (2 * n + 1) ≡ flags_octet (entry k n))
entry_octets [] n within = absurd (omega arith)
entry_octets (e ∷ later) zero within = (refl, refl)
entry_octets (e ∷ later) (suc n) within =
    let number : 2 * suc n ≡ suc (suc (2 * n)) = omega arith in
    let flags : 2 * suc n + 1 ≡ suc (suc (2 * n + 1)) = omega arith in
    let rest = entry_octets later n (omega arith) in
    (rw number rest.0, rw flags rest.1)

-- the four times take the octets before the modes
times_length : (s : Scale) (p : Params) → length (times_octets s p) ≡ width s * 4
unfolding octets32
times_length Seconds p = refl
times_length Tenths p = refl

-- an entry takes two
pub scenes_length : (k : List Scene) → length (scenes_octets k) ≡ 2 * length k
scenes_length [] = refl
scenes_length (e ∷ later) = rw (scenes_length later) (omega arith)

-- by any row
module _ (f : Form) (p : Params) (k : List Scene) (eight : length k ≡ 8) where
  abbrev octets : List ℕ
  octets = parameters_octets f p k

  pub parameters_length : length octets ≡ parameters_size f
  parameters_length = length-append (times_octets f.scale p) (mode_octets p ++ scenes_octets k) ∙ rw (times_length f.scale p, scenes_length k, eight) (omega arith)

  pub behind_times : (m : ℕ) → octet octets (modes_at f + m) ≡ octet (mode_octets p ++ scenes_octets k) m
  behind_times m = rw (← times_length f.scale p) (get_or-append-add (times_octets f.scale p) (mode_octets p ++ scenes_octets k) m 0)

  behind_modes : (m : ℕ) → octet octets (scenes_at f + m) ≡ octet (scenes_octets k) m
  behind_modes m =
      let place : scenes_at f + m ≡ modes_at f + (8 + m) = omega arith in
      rw place (behind_times (8 + m) ∙ get_or-append-add (mode_octets p) (scenes_octets k) m 0)

  pub number_at : (n : ℕ) → n < 8 → octet octets (scene_place f n) ≡ (entry k n).number
  number_at n within = behind_modes (2 * n) ∙ (entry_octets k n (omega arith)).0

  pub flags_at : (n : ℕ) → n < 8 → octet octets (flags_place f n) ≡ flags_octet (entry k n)
  flags_at n within =
      let place : flags_place f n ≡ scenes_at f + (2 * n + 1) = omega arith in
      rw place (behind_modes (2 * n + 1) ∙ (entry_octets k n (omega arith)).1)

  scene_back : (n : ℕ) → n < 8 → scene_at octets (scene_place f n) ≡ entry k n
  unfolding scene_at
  scene_back n within =
      let place : scene_place f n + 1 ≡ flags_place f n = omega arith in
      let flags = flags_back (entry k n).value (entry k n).taught in
      rw (place, number_at n within, flags_at n within, flags.0, flags.1)

  scenes_back : (left n : ℕ) → n + left ≡ 8 → entries f octets left n ≡ drop n k
  unfolding entries
  scenes_back zero n end =
      let all : n ≡ length k = omega arith in
      rw all (sym (drop-length k))
  scenes_back (suc left) n end =
      let next : n + 1 ≡ suc n = omega arith in
      rw (scene_back n (omega arith), scenes_back left (n + 1) (omega arith), next) (sym (drop-cons k n unused (omega arith)))

  params_back : f.version ≡ p.version → TimesBack f p → params_of f octets ≡ p
  unfolding params_of
  params_back own back =
      let first : modes_at f + 0 ≡ modes_at f = omega arith in
      let times = back (mode_octets p ++ scenes_octets k) in
      rw (times.0, times.1, times.2, times.3, rw first at (behind_times 0), behind_times 1, behind_times 2, behind_times 3, behind_times 4, behind_times 5, bit_back p.learning, own)

  pub read_back_by_a_row : f.version ≡ p.version → TimesBack f p → (params_of f octets ≡ p) × (scenes_of f octets ≡ k)
  unfolding scenes_of entries
  read_back_by_a_row own back = (params_back own back, scenes_back 8 0 refl)

-- ---- and accepted, by the row of its version

-- each mode is at most the greatest of its octet
modes_within : (p : Params) → ParamsFit p → (later : List ℕ) (m : ℕ) → m < 8 → ltb (get_or greatest m 0) (octet (mode_octets p ++ later) m) ≡ false
unfolding greatest
modes_within p f later zero within = le-ltb _ _ f.locking
modes_within p f later (suc zero) within = le-ltb _ _ f.unlocking
modes_within p f later (suc (suc zero)) within = le-ltb _ _ f.busfailure
modes_within p f later (suc (suc (suc zero))) within = le-ltb _ _ f.busreturn
modes_within p f later (suc (suc (suc (suc zero)))) within = le-ltb _ _ f.powerreturn
modes_within p f later (suc (suc (suc (suc (suc zero))))) within = either_way (λ (x : ℕ). ltb 1 x ≡ false) p.learning 1 0 refl refl
modes_within p f later (suc (suc (suc (suc (suc (suc zero)))))) within = refl
modes_within p f later (suc (suc (suc (suc (suc (suc (suc zero))))))) within = refl
modes_within p f later (suc (suc (suc (suc (suc (suc (suc (suc m)))))))) within = absurd (omega arith)

-- a number that none of the first n entries has
new_number : (f : Form) (octets : List ℕ) (number n : ℕ) → ((m : ℕ) → m < n → octet octets (scene_place f m) ≡ number → ⊥) → number_above f octets number n ≡ false
unfolding number_above
new_number f octets number zero none = refl
new_number f octets number (suc n) none = simp (ne_eqb (octet octets (scene_place f n)) number (none n (omega arith)), new_number f octets number n (λ m before. none m (omega arith)))

module _ (p : Params) (k : List Scene) (fit : ParamsFit p) (g : ScenesFit k) (eight : length k ≡ 8) where
  abbrev f : Form
  f = form_of p.version

  abbrev written : List ℕ
  written = parameters_octets f p k

  times : (delay f written 0 ≡ p.ondelay) × (delay f written 1 ≡ p.offdelay) × (delay f written 2 ≡ p.timedon) × (delay f written 3 ≡ p.prewarning)
  times = times_back p fit (mode_octets p ++ scenes_octets k)

  abbrev number : (n : ℕ) → n < 8 → octet written (scene_place f n) ≡ (entry k n).number
  number = number_at f p k eight

  number_good : (n : ℕ) → n < 8 → bad_number f written n ≡ false
  unfolding bad_number
  number_good n within =
      rw (number n within)
      (⊎_elim
      (λ few. rw (le-leb (entry k n).number 63 few) (new_number f written (entry k n).number n
      (λ m before same. omega (arith, few, g.distinct m n before (sym (number m (omega arith)) ∙ same)))))
      (λ none. rw none.0)
      (g.entries n))

  flags_good : (n : ℕ) → n < 8 → bad_flags f written n ≡ false
  unfolding bad_flags
  flags_good n within =
      rw (number n within, flags_at f p k eight n within)
      (⊎_elim
      (λ few. rw (ne_eqb (entry k n).number 255 (λ e. omega arith)) (le-ltb _ _ (flags_back (entry k n).value (entry k n).taught).2))
      (λ none. rw (none.0, none.1, none.2))
      (g.entries n))

  time_good : (n : ℕ) → n < 4 → bad_time f written n ≡ false
  unfolding bad_time
  time_good zero within = rw times.0 (rw (le-ltb 655_350 p.ondelay fit.ondelay.limit))
  time_good (suc zero) within = rw times.1 (rw (le-ltb 655_350 p.offdelay fit.offdelay.limit))
  time_good (suc (suc zero)) within = rw times.2 (rw (le-ltb 655_350 p.timedon fit.timedon.limit, ne_eqb p.timedon 0 fit.some))
  time_good (suc (suc (suc zero))) within = rw times.3 (rw (le-ltb 655_350 p.prewarning fit.prewarning.limit))
  time_good (suc (suc (suc (suc n)))) within = absurd (omega arith)

  mode_good : (m : ℕ) → m < 8 → bad_octet f written (modes_at f + m) ≡ false
  mode_good m within = mode_octet f written m within ∙ rw (behind_times f p k eight m) (modes_within p fit (scenes_octets k) m within)

  -- parameters and a table in range, written as 01 and 02 say, are accepted and read back as themselves
  pub written_is_accepted : check_parameters f written ≡ Ok tt
  written_is_accepted =
      (lowest_bad_octet f written (Ok tt)).1
      record { whole = parameters_length f p k eight; good = every_octet_good f written time_good mode_good number_good flags_good }

  pub written_is_read_back : (params_of f written ≡ p) × (scenes_of f written ≡ k)
  written_is_read_back = read_back_by_a_row f p k eight (own_row p.version fit.version) (times_back p fit)

-- ---- the header and a stamp

pub header_is_read_back : (v inputs n end : ℕ) (later : List ℕ) → let file : List ℕ = header_octets v inputs n end ++ later in
    (version file ≡ v) × (actuators file ≡ 1) × (parameters_offset file ≡ 20) × (input_count file ≡ n) × (inputs_offset file ≡ inputs) × (end_time file ≡ end)
unfolding octets32
header_is_read_back v inputs n end later =
    (what_is_written_is_read_16 v [], refl, refl, what_is_written_is_read n [], what_is_written_is_read inputs [], what_is_written_is_read end [])

-- "0-3 stamp"
pub stamp_is_read_back : (t : ℕ) (later : List ℕ) → stamp_at (octets32 t ++ later) 0 ≡ t
unfolding stamp_at
stamp_is_read_back t later = what_is_written_is_read t later
