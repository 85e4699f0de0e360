-- The tests of the code are enough to know an image: they are passed exactly by octets that say nothing but what a state holds.
use Prim.Native.Nat.{ℕ, zero, suc, ◌+◌, ◌*◌, ◌≤◌, ◌<◌}
use mathlib.Core.Bool.{Bool, true, false, not, ◌&&◌}
use mathlib.Core.List.{List}
use mathlib.Core.Logic.{◌↔◌}
use mathlib.Core.Path.{◌≡◌, refl, sym}
use native.Mathlib.Omega.{arith}
use lib.ListN.{length}
use lib.Dec.{eqb, leb}
use borrow.Author.Tests.{leb-true, eqb-true, eqb-false, le-leb, eq-eqb, ne_eqb, not-true}
use Rattle.base.proofs.Tests.{both, cond_case, by_order}
use Rattle.octets.specs.BigEndian.{octet}
use Rattle.rules.specs.Soundness.{sound}
use Rattle.rules.specs.Images.{state_in, is_image}
use Rattle.rules.specs.Facts.{OnlyMeant}
use Rattle.rules.proofs.Laws.Images.{only_meant_exactly_when}
use Rattle.images.specs.Plain.{plain_modes, plain_flags, plain_bits, plain_numbers, plain_deadline, is_plain}

-- ---- the flags

-- they are tested one by one
flags_exactly_when : (octets : List ℕ) (left n : ℕ) → (plain_flags octets left n ≡ true) ↔ ((m : ℕ) → n ≤ m → m < n + left → octet octets (25 + 2 * m) ≤ 3)
unfolding plain_flags
flags_exactly_when octets zero n = (λ h m after before. absurd (omega arith), λ all. refl)
flags_exactly_when octets (suc left) n =
    let later = flags_exactly_when octets left (n + 1) in (
      λ h m after before.
          let parts = both (leb (octet octets (25 + 2 * n)) 3) (plain_flags octets left (n + 1)) h in
          by_order (n + 1) m (λ past. later.0 parts.1 m past (omega arith))
          (λ first. let same : m ≡ n = omega arith in rw same (leb-true _ _ parts.0)),
      λ all. simp (le-leb (octet octets (25 + 2 * n)) 3 (all n (omega arith) (omega arith)), later.1 (λ m after before. all m (omega arith) (omega arith))),
    )

-- ---- all tests

plain_is_meant : (octets : List ℕ) → length octets ≡ 56 → is_plain octets ≡ true → OnlyMeant octets
unfolding is_plain plain_modes plain_bits plain_numbers plain_deadline
plain_is_meant octets size h =
    let all = both ((plain_modes octets && plain_flags octets 8 0) && (plain_bits octets && plain_numbers octets)) _ h in
    let four = both (plain_modes octets && plain_flags octets 8 0) _ all.0 in
    let table = both (plain_modes octets) _ four.0 in
    let modes = both (leb (octet octets 21) 1) _ table.0 in
    let zeros = both (eqb (octet octets 22) 0) _ modes.1 in
    let parts = both (plain_bits octets) _ four.1 in
    let bits = both (leb (octet octets 41) 1 && leb (octet octets 42) 1) _ parts.0 in
    let flags = both (leb (octet octets 41) 1) _ bits.0 in
    let kept = both (leb (octet octets 45) 1) _ bits.1 in
    let numbers = both (leb (octet octets 43) 3 && not (eqb (octet octets 43) 1)) _ parts.1 in
    let force = both (leb (octet octets 43) 3) _ numbers.0 in
    let others = both (leb (octet octets 44) 2) _ numbers.1 in
    record {
      size = size;
      learning = leb-true _ _ modes.0;
      zeros = (eqb-true _ _ zeros.0, eqb-true _ _ zeros.1);
      flags = λ n within. (flags_exactly_when octets 8 0).0 table.1 n (omega arith) (omega arith);
      night = leb-true _ _ flags.0;
      lock = leb-true _ _ flags.1;
      force = (leb-true _ _ force.0, eqb-false _ _ (not-true _ force.1));
      link = leb-true _ _ others.0;
      atlocking = leb-true _ _ kept.0;
      atfailure = leb-true _ _ kept.1;
      phase = leb-true _ _ others.1;
      due = λ steady. eqb-true _ _ (rw (le-leb (octet octets 47) 1 steady) at all.1);
    }

meant_is_plain : (octets : List ℕ) → OnlyMeant octets → is_plain octets ≡ true
unfolding is_plain plain_modes plain_bits plain_numbers plain_deadline
meant_is_plain octets m =
    let flags = (flags_exactly_when octets 8 0).1 (λ n after before. m.flags n (omega arith)) in
    let deadline : plain_deadline octets ≡ true = cond_case (λ (b : Bool). b ≡ true) (leb (octet octets 47) 1) _ _ (λ steady. eq-eqb _ _ (m.due (leb-true _ _ steady))) (λ ends. refl) in
    simp (le-leb _ _ m.learning, eq-eqb _ _ m.zeros.0, eq-eqb _ _ m.zeros.1, flags, le-leb _ _ m.night, le-leb _ _ m.lock, le-leb _ _ m.force.0, ne_eqb _ _ m.force.1, le-leb _ _ m.link, le-leb _ _ m.atlocking, le-leb _ _ m.atfailure, le-leb _ _ m.phase, deadline)

alike : (a b : Bool) → (a ≡ true) ↔ (b ≡ true) → a ≡ b
alike true b e = sym (e.0 refl)
alike false true e = e.1 refl
alike false false e = refl

pub known_by_tests : (octets : List ℕ) → ((i : ℕ) → octet octets i < 256) → length octets ≡ 56 → (is_plain octets && sound (state_in octets)) ≡ is_image octets
known_by_tests octets small size =
    let exact = only_meant_exactly_when octets small in
    alike _ _ (
      λ h. let parts = both (is_plain octets) (sound (state_in octets)) h in exact.1 (plain_is_meant octets size parts.0, parts.1),
      λ h. let m = exact.0 h in simp (meant_is_plain octets m.0, m.1),
    )
