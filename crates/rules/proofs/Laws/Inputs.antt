-- What an accepted kind and value mean: an input of that very kind and value, whose scene number is at most 63; and back.
use Rattle.std.specs.Prelude.{Option, Some, None}
use Prim.Native.Nat.{ℕ, zero, suc, ◌+◌, ◌/◌, ◌%◌, ◌≤◌, ◌<◌}
use mathlib.Core.Bool.{Bool, true, false, cond, ◌&&◌}
use mathlib.Core.List.{List}
use mathlib.Core.Logic.{◌↔◌, inl, inr, ⊎_elim}
use mathlib.Core.Path.{◌≡◌, refl, sym, ◌∙◌}
use native.Mathlib.Omega.{arith}
use lib.Dec.{eqb, leb}
use borrow.Author.Tests.{leb-true, eqb-true, eqb-false, eq-eqb, ne_eqb}
use Rattle.octets.specs.BigEndian.{octet}
use Rattle.rules.specs.declared.input.Force.TheVariants.{Free, Off, On}
use Rattle.rules.specs.declared.input.Event.TheVariants.{Failure, Return}
use Rattle.rules.specs.declared.input.Input.{Input}
use Rattle.rules.specs.declared.input.Input.TheVariants.{SwitchOnOff, TimedStartStop, NumberedSceneControl, SwitchOnOffForced, LockDevice, NightMode, Bus, Power}
use Rattle.rules.specs.Inputs.{kind, scene_number, input_value, zero_or_one, scene_meant, force_meant, decoded, input_at}
use Rattle.rules.specs.Written.{ValueOf, InputStands}
use Rattle.base.proofs.Tests.{both, cond_case}
use Rattle.rules.proofs.Laws.Cases.{each_input}

-- an input of the kind k, if it means one at all, with this value
abbrev OfKind : ℕ → ℕ → Option Input → Type 0
OfKind k v None = Unit {0}
OfKind k v (Some i) = (kind i ≡ k) × (scene_number i ≤ 63) × (v ≤ 255 → ValueOf i v)

zero_or_one_means : (k v : ℕ) (none one : Input) → (kind none ≡ k) × (scene_number none ≤ 63) × (input_value none ≡ 0) → (kind one ≡ k) × (scene_number one ≤ 63) × (input_value one ≡ 1)
    → OfKind k v (zero_or_one v none one)
unfolding zero_or_one
zero_or_one_means k v none one f g =
    cond_case (OfKind k v) (eqb v 0) _ _ (λ e. (f.0, f.1, λ octet. inl (eqb-true v 0 e ∙ sym f.2)))
    (λ e. cond_case (OfKind k v) (eqb v 1) (Some one) None (λ e. (g.0, g.1, λ octet. inl (eqb-true v 1 e ∙ sym g.2))) (λ e. tt))

-- bit 7 and six bits below it
scene_value : (v : ℕ) (b : Bool) → eqb (v / 128) 1 ≡ b → v / 64 % 2 ≡ 0 → v ≤ 255 → cond b 128 0 + v % 64 ≡ v
scene_value v true e f octet = let one = eqb-true (v / 128) 1 e in omega arith
scene_value v false e f octet = let other = eqb-false (v / 128) 1 e in omega arith

-- a rest of 64 is at most 63
scene_means : (v : ℕ) → OfKind 3 v (scene_meant v)
unfolding scene_meant
scene_means v =
    cond_case (OfKind 3 v) (eqb (v / 64 % 2) 0) (Some (NumberedSceneControl (eqb (v / 128) 1) (v % 64))) None
    (λ e. (refl, omega arith, λ octet. inl (sym (scene_value v _ refl (eqb-true _ _ e) octet))))
    (λ e. tt)

force_means : (v : ℕ) → OfKind 4 v (force_meant v)
unfolding force_meant
force_means v =
    cond_case (OfKind 4 v) (leb v 1) (Some (SwitchOnOffForced Free)) _ (λ e. (refl, omega arith, λ octet. free v (leb-true v 1 e)))
    (λ e. cond_case (OfKind 4 v) (eqb v 2) (Some (SwitchOnOffForced Off)) _ (λ e. (refl, omega arith, λ octet. inl (eqb-true v 2 e)))
    (λ e. cond_case (OfKind 4 v) (eqb v 3) (Some (SwitchOnOffForced On)) None (λ e. (refl, omega arith, λ octet. inl (eqb-true v 3 e))) (λ e. tt)))
  where
    free : (n : ℕ) → n ≤ 1 → ValueOf (SwitchOnOffForced Free) n
    free zero few = inl refl
    free (suc n) few = inr (refl, omega arith)

-- the choice of a kind
if_kind : (k v j : ℕ) (x y : Option Input) → OfKind j v x → OfKind k v y → OfKind k v (cond (eqb k j) x y)
if_kind k v j x y f g = cond_case (OfKind k v) (eqb k j) x y (λ e. rw (eqb-true k j e) f) (λ e. g)

decoded_means : (k v : ℕ) → OfKind k v (decoded k v)
unfolding decoded
decoded_means k v =
    if_kind k v 1 _ _ (zero_or_one_means 1 v (SwitchOnOff false) (SwitchOnOff true) (omega arith) (omega arith))
    (if_kind k v 2 _ _ (zero_or_one_means 2 v (TimedStartStop false) (TimedStartStop true) (omega arith) (omega arith))
    (if_kind k v 3 _ _ (scene_means v)
    (if_kind k v 4 _ _ (force_means v)
    (if_kind k v 5 _ _ (zero_or_one_means 5 v (LockDevice false) (LockDevice true) (omega arith) (omega arith))
    (if_kind k v 6 _ _ (zero_or_one_means 6 v (NightMode false) (NightMode true) (omega arith) (omega arith))
    (if_kind k v 7 _ _ (zero_or_one_means 7 v (Bus Failure) (Bus Return) (omega arith) (omega arith))
    (if_kind k v 8 _ _ (zero_or_one_means 8 v (Power Failure) (Power Return) (omega arith) (omega arith))
    tt)))))))

scene_back : (v : ℕ) (learn : Bool) (number : ℕ) → v / 64 % 2 ≡ 0 → eqb (v / 128) 1 ≡ learn → v % 64 ≡ number → scene_meant v ≡ Some (NumberedSceneControl learn number)
unfolding scene_meant
scene_back v learn number six seven low = rw (six, seven, low) refl

-- an input, by its kind and value, is that input (a scene's number has six bits)
pub an_input_is_what_its_octets_mean : (i : Input) → scene_number i ≤ 63 → decoded (kind i) (input_value i) ≡ Some i
unfolding decoded zero_or_one force_meant
an_input_is_what_its_octets_mean (SwitchOnOff true) small = refl
an_input_is_what_its_octets_mean (SwitchOnOff false) small = refl
an_input_is_what_its_octets_mean (TimedStartStop true) small = refl
an_input_is_what_its_octets_mean (TimedStartStop false) small = refl
an_input_is_what_its_octets_mean (NumberedSceneControl true number) small = scene_back (128 + number) true number (omega arith) (eq-eqb ((128 + number) / 128) 1 (omega (arith, small))) (omega (arith, small))
an_input_is_what_its_octets_mean (NumberedSceneControl false number) small = scene_back (0 + number) false number (omega arith) (ne_eqb ((0 + number) / 128) 1 (λ e. omega (arith, e, small))) (omega (arith, small))
an_input_is_what_its_octets_mean (SwitchOnOffForced Free) small = refl
an_input_is_what_its_octets_mean (SwitchOnOffForced Off) small = refl
an_input_is_what_its_octets_mean (SwitchOnOffForced On) small = refl
an_input_is_what_its_octets_mean (LockDevice true) small = refl
an_input_is_what_its_octets_mean (LockDevice false) small = refl
an_input_is_what_its_octets_mean (NightMode true) small = refl
an_input_is_what_its_octets_mean (NightMode false) small = refl
an_input_is_what_its_octets_mean (Bus Failure) small = refl
an_input_is_what_its_octets_mean (Bus Return) small = refl
an_input_is_what_its_octets_mean (Power Failure) small = refl
an_input_is_what_its_octets_mean (Power Return) small = refl

-- there are eight kinds
pub kind_range : (i : Input) → (1 ≤ kind i) × (kind i ≤ 8)
kind_range =
    each_input (λ i. (1 ≤ kind i) × (kind i ≤ 8))
    (λ value. omega arith) (λ value. omega arith) (λ learns number. omega arith) (λ force. omega arith) (λ value. omega arith) (λ value. omega arith) (λ event. omega arith) (λ event. omega arith)

pub meant_kind : (k value : ℕ) (i : Input) → decoded k value ≡ Some i → kind i ≡ k
meant_kind k value i e = (rw e at (decoded_means k value)).0

-- ---- an input at a place

pub not_meant : {A : Type 0} {i : Input} → None ≡ Some i → A
not_meant e = absurd (let z : ◌≡◌ {A = ℕ} 0 1 = cc in omega arith)

module _ (octets : List ℕ) (at : ℕ) where
  -- its kind and value mean it, and the last two octets are zero
  input_means : (i : Input) → input_at octets at ≡ Some i → OfKind (octet octets (at + 4)) (octet octets (at + 5)) (Some i) × ((octet octets (at + 6) ≡ 0) × (octet octets (at + 7) ≡ 0))
  unfolding input_at
  input_means i = by (eqb (octet octets (at + 6)) 0 && eqb (octet octets (at + 7)) 0) refl
    where
      by : (b : Bool) → (eqb (octet octets (at + 6)) 0 && eqb (octet octets (at + 7)) 0) ≡ b → cond b (decoded (octet octets (at + 4)) (octet octets (at + 5))) None ≡ Some i
          → OfKind (octet octets (at + 4)) (octet octets (at + 5)) (Some i) × ((octet octets (at + 6) ≡ 0) × (octet octets (at + 7) ≡ 0))
      by true zeros e = let z = both (eqb (octet octets (at + 6)) 0) _ zeros in (rw e at (decoded_means (octet octets (at + 4)) (octet octets (at + 5))), (eqb-true _ _ z.0, eqb-true _ _ z.1))
      by false others e = not_meant e

  pub input_kind : (i : Input) → input_at octets at ≡ Some i → kind i ≡ octet octets (at + 4)
  input_kind i e = (input_means i e).0.0

  pub input_number : (i : Input) → input_at octets at ≡ Some i → scene_number i ≤ 63
  input_number i e = (input_means i e).0.1

  -- octets mean an input exactly when they are written as it is
  pub input_exactly_when : octet octets (at + 5) ≤ 255 → (i : Input) → (input_at octets at ≡ Some i) ↔ InputStands octets at i
  unfolding input_at
  input_exactly_when small i = (
    λ e. let m = input_means i e in record { kind = sym m.0.0; value = m.0.2 small; zeros = m.1; six_bits = m.0.1 },
    λ g. rw (g.zeros.0, g.zeros.1, g.kind) (⊎_elim (λ e. rw e (an_input_is_what_its_octets_mean i g.six_bits)) (λ e. rw (e.0, e.1) (unfold decoded force_meant in refl)) g.value),
  )

  -- and nothing where there is no such input: "6 | kind, value or zero octet wrong"
  pub wrong_exactly_when : octet octets (at + 5) ≤ 255 → (input_at octets at ≡ None) ↔ ((i : Input) → InputStands octets at i → ⊥)
  wrong_exactly_when small = (λ wrong i g. not_meant (sym wrong ∙ (input_exactly_when small i).1 g), λ none. by (input_at octets at) refl none)
    where
      by : (d : Option Input) → input_at octets at ≡ d → ((i : Input) → InputStands octets at i → ⊥) → d ≡ None
      by None e none = refl
      by (Some i) e none = absurd (none i ((input_exactly_when small i).0 e))

-- a kind that is none of the eight means nothing
pub no_other_kind : (k value : ℕ) → (1 ≤ k → 8 < k) → decoded k value ≡ None
unfolding decoded
no_other_kind k value none =
    let differs : (j : ℕ) → 1 ≤ j → j ≤ 8 → eqb k j ≡ false = λ j some few. ne_eqb k j (λ e. omega (arith, none (omega arith))) in
    simp (
      differs 1 (omega arith) (omega arith),
      differs 2 (omega arith) (omega arith),
      differs 3 (omega arith) (omega arith),
      differs 4 (omega arith) (omega arith),
      differs 5 (omega arith) (omega arith),
      differs 6 (omega arith) (omega arith),
      differs 7 (omega arith) (omega arith),
      differs 8 (omega arith) (omega arith),
    )
