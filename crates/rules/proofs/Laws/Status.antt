-- What the two status octets show, bit by bit.
use Prim.Native.Nat.{ℕ, ◌+◌, ◌*◌, ◌/◌, ◌%◌, ◌≤◌, ◌<◌}
use mathlib.Core.Bool.{Bool, true, false, cond, not}
use mathlib.Core.Logic.Iff
use mathlib.Core.Logic.{◌↔◌, ◌⊎◌, inl, inr, ⊎_elim}
use mathlib.Core.Path.{◌≡◌, refl, sym}
use native.Mathlib.Omega.{arith}
use Rattle.rules.specs.declared.phase.Phase.{Phase}
use Rattle.rules.specs.declared.phase.Phase.TheVariants.{Dark, Lit, Starting, Timed, Warning, Ending}
use Rattle.rules.specs.declared.state.State.{State}
use Rattle.rules.specs.Phases.{output}
use Rattle.rules.specs.Orders.{standing}
use Rattle.rules.specs.Barriers.{power_down}
use Rattle.rules.specs.Status.{value, staircase, bit, attributes}
use Rattle.rules.specs.Facts.{StatusShows}
use Rattle.base.proofs.Tests.{no}
use Rattle.rules.proofs.Laws.Orders.{none_stands_exactly_when}
use Rattle.rules.proofs.Laws.Numbers.{power_down_exactly_when}

-- a bit, as 0 or 1
abbrev pub one : Bool → ℕ
one b = cond b 1 0

one_few : (b : Bool) → one b ≤ 1
one_few true = omega arith
one_few false = omega arith

-- a number that is 0, or another one where the bit is set
shows : (b : Bool) (set n : ℕ) → 1 ≤ set → n ≡ cond b set 0 → ((n ≡ set) ↔ (b ≡ true)) × ((n ≡ 0) ↔ (b ≡ false))
shows true set n some e = ((λ h. refl, λ h. e), (λ h. absurd (omega arith), λ h. no (sym h)))
shows false set n some e = ((λ h. absurd (omega arith), λ h. no h), (λ h. refl, λ h. e))

weighed : (b : Bool) (weight : ℕ) → bit b weight ≡ weight * one b
weighed true weight = omega arith
weighed false weight = omega arith

-- the five bits of a sum of five weights
pub bits_of : (a b c d e : Bool) (n : ℕ) → n ≡ bit a 1 + bit b 2 + bit c 4 + bit d 8 + bit e 16 →
    (n % 2 ≡ one a) × (n / 2 % 2 ≡ one b) × (n / 4 % 2 ≡ one c) × (n / 8 % 2 ≡ one d) × (n / 16 % 2 ≡ one e) × (n < 32)
bits_of a b c d e n is =
    let sum : n ≡ one a + 2 * one b + 4 * one c + 8 * one d + 16 * one e = omega (arith, weighed b 2, weighed c 4, weighed d 8, weighed e 16) in
    let a1 = one_few a in
    let b1 = one_few b in
    let c1 = one_few c in
    let d1 = one_few d in
    let e1 = one_few e in
    (omega (arith, sum, a1), omega (arith, sum, a1, b1), omega (arith, sum, a1, b1, c1), omega (arith, sum, a1, b1, c1, d1), omega (arith, sum, a1, b1, c1, d1, e1), omega (arith, sum, a1, b1, c1, d1, e1))

not_exactly : (b : Bool) → (not b ≡ false) ↔ (b ≡ true)
not_exactly true = (λ h. refl, λ h. refl)
not_exactly false = (λ h. no (sym h), λ h. no h)

staircase_exactly_when : (phase : Phase) → (staircase phase ≡ true) ↔ ((d : ℕ) × ((phase ≡ Timed d) ⊎ (phase ≡ Warning d)))
staircase_exactly_when phase = (by phase, λ f. ⊎_elim (λ e. rw e) (λ e. rw e) f.1)
  where
    by : (x : Phase) → staircase x ≡ true → (d : ℕ) × ((x ≡ Timed d) ⊎ (x ≡ Warning d))
    by Dark h = no h
    by Lit h = no h
    by (Starting timed d) h = no h
    by (Timed d) h = (d, inl refl)
    by (Warning d) h = (d, inr refl)
    by (Ending d) h = no h

pub status_shows : (s : State) → StatusShows s
status_shows s =
    let bits = bits_of (not (power_down s.link)) s.lock (standing s.force) s.night (staircase s.phase) (attributes s) (unfold attributes in refl) in
    let shown = shows (output s.phase) 255 (value s) (omega arith) (unfold value in refl) in
    record {
      on = shown.0;
      off = shown.1;
      valid = Iff.trans (shows (not (power_down s.link)) 1 _ (omega arith) bits.0).1 (Iff.trans (not_exactly (power_down s.link)) (power_down_exactly_when s.link));
      locked = (shows s.lock 1 _ (omega arith) bits.1).0;
      forced = Iff.trans (shows (standing s.force) 1 _ (omega arith) bits.2).1 (none_stands_exactly_when s.force);
      night = (shows s.night 1 _ (omega arith) bits.3).0;
      staircase = Iff.trans (shows (staircase s.phase) 1 _ (omega arith) bits.4).0 (staircase_exactly_when s.phase);
      five_bits = bits.5;
    }
