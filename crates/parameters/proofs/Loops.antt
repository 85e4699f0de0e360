-- The loops over the octets of the parameters, one turn at a time.
use Rattle.base.specs.Refusals.{refused_with}
use Rattle.std.specs.Prelude.{Ok}
use Prim.Native.Nat.{ℕ, zero, suc, ◌+◌, ◌-◌, ◌*◌, ◌≤◌, ◌<◌}
use mathlib.Core.Bool.{Bool, true, false, cond, not, ◌||◌}
use mathlib.Core.List.{List}
use mathlib.Core.Path.{◌≡◌, refl, sym, ap, ◌∙◌}
use native.Mathlib.Numerals.{add-one}
use native.Mathlib.Omega.{arith}
use lib.ListN.{length, get_or, set, replicate, get_or-replicate, length-set}
use lib.Seq.{get_or-set_same, get_or-set_other}
use lib.Dec.{eqb, leb, ltb}
use borrow.Author.Tests.{eqb-true, eqb-false, ne_eqb, lt-ltb, leb-true, leb-false, not-false}
use Rattle.octets.specs.BigEndian.{octet}
use Rattle.rules.specs.declared.form.Scale.{Scale}
use Rattle.rules.specs.declared.form.Scale.TheVariants.{Seconds, Tenths}
use Rattle.rules.specs.declared.form.Form.{Form}
use Rattle.rules.specs.Forms.{width}
use Rattle.rules.specs.Layout.{time_place, modes_at, scene_place, flags_place}
use Rattle.base.specs.declared.refusal.Refusal.TheVariants.{BadParameter}
use Rattle.rules.specs.Parameters.{greatest, bad_time, number_above, bad_number, bad_flags, bad_octet, lowest_bad}
use Rattle.parameters.specs.Seen.{noted, bad_after}
use Rattle.rules.proofs.Laws.Forms.{few_octets}
use Rattle.rules.proofs.Laws.Parameters.{time_octet, within_time, mode_octet, number_octet, flags_octet_lem}

-- ---- the numbers seen

-- what is kept is what the first n entries have
pub record Seen (f : Form) (octets : List ℕ) (n : ℕ) (seen : List ℕ) : Type 0 where
  pub whole : length seen ≡ 64
  pub each : (j : ℕ) → j ≤ 63 → eqb (get_or seen j 0) 1 ≡ number_above f octets j n

pub none_seen : (f : Form) (octets : List ℕ) → Seen f octets 0 (replicate 64 0)
unfolding number_above
none_seen f octets = record { whole = refl; each = λ j few. rw (get_or-replicate {A = ℕ} 64 j 0 0 (omega arith)) }

-- so a number is bad exactly when the rule says so
pub bad_as_seen : (f : Form) (octets : List ℕ) (n : ℕ) (seen : List ℕ) → Seen f octets n seen → bad_after seen (octet octets (scene_place f n)) ≡ bad_number f octets n
unfolding bad_after bad_number
bad_as_seen f octets n seen s = by (leb (octet octets (scene_place f n)) 63) refl
  where
    by : (b : Bool) → leb (octet octets (scene_place f n)) 63 ≡ b → cond b (eqb (get_or seen (octet octets (scene_place f n)) 0) 1) (not (eqb (octet octets (scene_place f n)) 255)) ≡ cond b (number_above f octets (octet octets (scene_place f n)) n) (not (eqb (octet octets (scene_place f n)) 255))
    by true few = s.each (octet octets (scene_place f n)) (leb-true _ _ few)
    by false many = refl

-- and one more is noted
pub noted_is_seen : (f : Form) (octets : List ℕ) (n : ℕ) (seen : List ℕ) → Seen f octets n seen → Seen f octets (n + 1) (noted seen (octet octets (scene_place f n)))
unfolding noted number_above
noted_is_seen f octets n seen s = rw (add-one n) (by (leb number 63) refl)
  where
    number : ℕ
    number = octet octets (scene_place f n)

    -- the number itself, and any other
    one : (j : ℕ) (b : Bool) → eqb number j ≡ b → number ≤ 63 → j ≤ 63 → eqb (get_or (set seen number 1) j 0) 1 ≡ (b || number_above f octets j n)
    one j true e few within = rw (← eqb-true number j e) (rw (get_or-set_same seen number 1 0 (omega (arith, s.whole))))
    one j false e few within = rw (get_or-set_other seen number j 1 0 (λ same. eqb-false number j e (sym same))) (s.each j within)

    by : (b : Bool) → leb number 63 ≡ b → Seen f octets (suc n) (cond b (set seen number 1) seen)
    by true few = record { whole = length-set seen number 1 ∙ s.whole; each = λ j within. one j (eqb number j) refl (leb-true number 63 few) within }
    by false many = record { whole = s.whole; each = λ j within. rw (ne_eqb number j (λ same. omega (arith, leb-false number 63 many))) (s.each j within) }

-- ---- the flags of an entry whose number is in range

above_zero : (n : ℕ) → ltb 0 n ≡ not (eqb n 0)
above_zero zero = refl
above_zero (suc n) = lt-ltb 0 (suc n) (omega arith) ∙ sym (ap not (ne_eqb (suc n) 0 (λ e. omega arith)))

flags_of : (number flags : ℕ) (above : Bool) → cond (leb number 63) above (not (eqb number 255)) ≡ false → ltb (cond (leb number 63) 3 0) flags ≡ cond (eqb number 255) (not (eqb flags 0)) (ltb 3 flags)
flags_of number flags above h = go (leb number 63) refl
  where
    go : (b : Bool) → leb number 63 ≡ b → ltb (cond (leb number 63) 3 0) flags ≡ cond (eqb number 255) (not (eqb flags 0)) (ltb 3 flags)
    go true used = simp (used, ne_eqb number 255 (λ e. omega (arith, leb-true number 63 used)))
    go false other = simp (other, not-false (eqb number 255) (rw other at h), above_zero flags)

pub flags_known : (f : Form) (octets : List ℕ) (entry : ℕ) → bad_number f octets entry ≡ false → ltb (cond (leb (octet octets (scene_place f entry)) 63) 3 0) (octet octets (flags_place f entry)) ≡ bad_flags f octets entry
unfolding bad_number bad_flags
flags_known f octets entry right = flags_of (octet octets (scene_place f entry)) (octet octets (flags_place f entry)) _ right

-- ---- from the lowest octet up

-- octets that are not bad are passed over
pass_over : (f : Form) (octets : List ℕ) (k left at : ℕ) → ((j : ℕ) → j < k → bad_octet f octets (at + j) ≡ false) → lowest_bad f octets (k + left) at ≡ lowest_bad f octets left (at + k)
unfolding lowest_bad
pass_over f octets zero left at good =
    let none : 0 + left ≡ left = omega arith in
    let here : at + 0 ≡ at = omega arith in
    rw (none, here)
pass_over f octets (suc k) left at good =
    let more : suc k + left ≡ suc (k + left) = omega arith in
    let here : at + 0 ≡ at = omega arith in
    let past : at + 1 + k ≡ at + suc k = omega arith in
    rw (more, rw here at (good 0 (omega arith)))
    (pass_over f octets k left (at + 1) (λ j within. let next : at + 1 + j ≡ at + (j + 1) = omega arith in rw next (good (j + 1) (omega arith))) ∙ rw past)

-- how many octets stand from time n on
abbrev pub from_time : Form → ℕ → ℕ
from_time f n = width f.scale * (4 - n) + 24

-- a time is bad at its first octet or not at all
pub time_step : (f : Form) (octets : List ℕ) (n : ℕ) → n < 4 → lowest_bad f octets (from_time f n) (time_place f n) ≡ cond (bad_time f octets n) (refused_with BadParameter (time_place f n)) (lowest_bad f octets (from_time f (n + 1)) (time_place f (n + 1)))
unfolding lowest_bad
time_step f octets n within =
    let some = few_octets f.scale in
    let behind : time_place f n + 1 + (width f.scale - 1) ≡ time_place f n + width f.scale = omega arith in
    rw (left f.scale, time_octet f octets n within, pass_over f octets (width f.scale - 1) (from_time f (n + 1)) (time_place f n + 1) inner, behind, next f.scale)
  where
    left : (s : Scale) → width s * (4 - n) + 24 ≡ suc (width s - 1 + (width s * (4 - (n + 1)) + 24))
    left Seconds = omega arith
    left Tenths = omega arith

    next : (s : Scale) → width s * n + width s ≡ width s * (n + 1)
    next Seconds = omega arith
    next Tenths = omega arith

    inner : (j : ℕ) → j < width f.scale - 1 → bad_octet f octets (time_place f n + 1 + j) ≡ false
    inner j less =
        let place : time_place f n + 1 + j ≡ time_place f n + (j + 1) = omega arith in
        rw place (within_time f octets n (j + 1) within (omega arith) (omega arith))

-- a mode against the table
pub mode_step : (f : Form) (octets : List ℕ) (m : ℕ) → m < 8 → lowest_bad f octets (24 - m) (modes_at f + m) ≡ cond (ltb (get_or greatest m 0) (octet octets (modes_at f + m))) (refused_with BadParameter (modes_at f + m)) (lowest_bad f octets (24 - (m + 1)) (modes_at f + (m + 1)))
unfolding lowest_bad
mode_step f octets m within =
    let left : 24 - m ≡ suc (24 - (m + 1)) = omega arith in
    let next : modes_at f + m + 1 ≡ modes_at f + (m + 1) = omega arith in
    rw (left, mode_octet f octets m within, next)

-- a scene entry: its number, then its flags
pub entry_step : (f : Form) (octets : List ℕ) (entry : ℕ) → entry < 8 → lowest_bad f octets (16 - 2 * entry) (scene_place f entry) ≡ cond (bad_number f octets entry) (refused_with BadParameter (scene_place f entry)) (cond (bad_flags f octets entry) (refused_with BadParameter (flags_place f entry)) (lowest_bad f octets (16 - 2 * (entry + 1)) (scene_place f (entry + 1))))
unfolding lowest_bad
entry_step f octets entry within =
    let left : 16 - 2 * entry ≡ suc (suc (16 - 2 * (entry + 1))) = omega arith in
    let flags : scene_place f entry + 1 ≡ flags_place f entry = omega arith in
    let next : flags_place f entry + 1 ≡ scene_place f (entry + 1) = omega arith in
    rw (left, number_octet f octets entry, flags, flags_octet_lem f octets entry, next)

pub entries_end : (f : Form) (octets : List ℕ) (entry : ℕ) → 8 ≤ entry → lowest_bad f octets (16 - 2 * entry) (scene_place f entry) ≡ Ok tt
unfolding lowest_bad
entries_end f octets entry past = let left : 16 - 2 * entry ≡ 0 = omega arith in rw left
