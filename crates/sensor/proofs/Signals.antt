-- What a kind and a value mean: every kind takes 0 and 1, and no more.
use Rattle.std.specs.Prelude.{Option, Some, None}
use Prim.Native.Nat.{ℕ, ◌+◌, ◌<◌}
use mathlib.Core.Bool.{Bool, true, false, cond}
use mathlib.Core.List.{List}
use mathlib.Core.Logic.{◌↔◌}
use mathlib.Core.Path.{◌≡◌, refl, sym, ◌∙◌}
use native.Mathlib.Omega.{arith}
use lib.Dec.{eqb}
use borrow.Author.Tests.{eqb-true, ne_eqb}
use Rattle.octets.specs.BigEndian.{octet}
use Rattle.octets.specs.Groups.{kind_at, value_at, ends_in_zeros}
use Rattle.base.proofs.Tests.{both, cond_case, either_way}
use Rattle.sensor.specs.declared.signal.Edge.TheVariants.{Falling, Rising}
use Rattle.sensor.specs.declared.signal.Signal.{Signal}
use Rattle.sensor.specs.declared.signal.Signal.TheVariants.{Button1, Button2, Status}
use Rattle.sensor.specs.Signals.{edge_number, edge_of, signal_kind, signal_value, zero_or_one, signalled, signal_at}
use Rattle.sensor.specs.Refusals.{SignalStands}

more_is_wrong : (value : ℕ) (zero one : Signal) → 1 < value → zero_or_one value zero one ≡ None
unfolding zero_or_one
more_is_wrong value zero one more = simp (ne_eqb value 0 (λ e. omega arith), ne_eqb value 1 (λ e. omega arith))

pub no_more_than_one : (kind value : ℕ) → 1 < value → signalled kind value ≡ None
unfolding signalled
no_more_than_one kind value more =
    either_way (λ (x : Option Signal). x ≡ None) (eqb kind 11) _ _ (more_is_wrong value _ _ more)
    (either_way (λ (x : Option Signal). x ≡ None) (eqb kind 12) _ _ (more_is_wrong value _ _ more)
    (either_way (λ (x : Option Signal). x ≡ None) (eqb kind 13) _ _ (more_is_wrong value _ _ more)
    refl))

-- ---- a signal and its octets, both ways

pub edge_of_its_number : (rising : Bool) → edge_number (edge_of rising) ≡ cond rising 1 0
edge_of_its_number true = refl
edge_of_its_number false = refl

pub signal_is_what_its_octets_mean : (s : Signal) → signalled (signal_kind s) (signal_value s) ≡ Some s
unfolding signalled zero_or_one
signal_is_what_its_octets_mean (Button1 Falling) = refl
signal_is_what_its_octets_mean (Button1 Rising) = refl
signal_is_what_its_octets_mean (Button2 Falling) = refl
signal_is_what_its_octets_mean (Button2 Rising) = refl
signal_is_what_its_octets_mean (Status false) = refl
signal_is_what_its_octets_mean (Status true) = refl

-- a signal of this kind and value, if any is meant
abbrev Of : ℕ → ℕ → Option Signal → Type 0
Of kind value None = Unit {0}
Of kind value (Some s) = (kind ≡ signal_kind s) × (value ≡ signal_value s)

bit_of_lem : (kind value : ℕ) (zero one : Signal) → (kind ≡ signal_kind zero) × (0 ≡ signal_value zero) → (kind ≡ signal_kind one) × (1 ≡ signal_value one) → Of kind value (zero_or_one value zero one)
unfolding zero_or_one
bit_of_lem kind value zero one f g =
    cond_case (Of kind value) (eqb value 0) _ _ (λ e. (f.0, eqb-true value 0 e ∙ f.1))
    (λ some. cond_case (Of kind value) (eqb value 1) (Some one) None (λ e. (g.0, eqb-true value 1 e ∙ g.1)) (λ more. tt))

signalled_of : (kind value : ℕ) → Of kind value (signalled kind value)
unfolding signalled
signalled_of kind value =
    cond_case (Of kind value) (eqb kind 11) _ _ (λ e. bit_of_lem kind value (Button1 Falling) (Button1 Rising) (eqb-true kind 11 e, refl) (eqb-true kind 11 e, refl))
    (λ other. cond_case (Of kind value) (eqb kind 12) _ _ (λ e. bit_of_lem kind value (Button2 Falling) (Button2 Rising) (eqb-true kind 12 e, refl) (eqb-true kind 12 e, refl))
    (λ another. cond_case (Of kind value) (eqb kind 13) _ None (λ e. bit_of_lem kind value (Status false) (Status true) (eqb-true kind 13 e, refl) (eqb-true kind 13 e, refl))
    (λ none. tt)))

pub meant_exactly_when : (kind value : ℕ) (s : Signal) → (signalled kind value ≡ Some s) ↔ ((kind ≡ signal_kind s) × (value ≡ signal_value s))
meant_exactly_when kind value s = (λ e. rw e at (signalled_of kind value), λ g. rw (g.0, g.1) (signal_is_what_its_octets_mean s))

pub not_meant : {A : Type 0} {s : Signal} → None ≡ Some s → A
not_meant e = absurd (let z : ◌≡◌ {A = ℕ} 0 1 = cc in omega arith)

module _ (octets : List ℕ) (at : ℕ) where
  -- octets mean a signal exactly when they are written as it is
  pub signal_exactly_when : (s : Signal) → (signal_at octets at ≡ Some s) ↔ SignalStands octets at s
  signal_exactly_when s = (by (ends_in_zeros octets at) refl, back)
    where
      read : ends_in_zeros octets at ≡ true → signal_at octets at ≡ Some s → signalled (kind_at octets at) (value_at octets at) ≡ Some s
      read zeros e = unfold signal_at in rw zeros at e

      unread : ends_in_zeros octets at ≡ false → signal_at octets at ≡ Some s → None ≡ Some s
      unread others e = unfold signal_at in rw others at e

      by : (b : Bool) → ends_in_zeros octets at ≡ b → signal_at octets at ≡ Some s → SignalStands octets at s
      by true zeros e =
          let z = both (eqb (octet octets (at + 6)) 0) _ zeros in
          let m = (meant_exactly_when (kind_at octets at) (value_at octets at) s).0 (read zeros e) in
          record { kind = m.0; value = m.1; zeros = (eqb-true _ _ z.0, eqb-true _ _ z.1) }
      by false others e = not_meant (unread others e)

      back : SignalStands octets at s → signal_at octets at ≡ Some s
      back g = unfold signal_at in rw (g.zeros.0, g.zeros.1) ((meant_exactly_when (kind_at octets at) (value_at octets at) s).1 (g.kind, g.value))

  -- and nothing where there is no such signal: "6 | kind, value or zero octet wrong"
  pub wrong_exactly_when : (signal_at octets at ≡ None) ↔ ((s : Signal) → SignalStands octets at s → ⊥)
  wrong_exactly_when = (λ wrong s g. not_meant (sym wrong ∙ (signal_exactly_when s).1 g), by (signal_at octets at) refl)
    where
      by : (d : Option Signal) → signal_at octets at ≡ d → ((s : Signal) → SignalStands octets at s → ⊥) → signal_at octets at ≡ None
      by None e none = e
      by (Some s) e none = absurd (none s ((signal_exactly_when s).0 e))
