-- What is sent, in octets: a switch input with the stamp of its edge, or eight zeros.
use Rattle.std.specs.Prelude.{Option, Some, None}
use Prim.Native.Nat.{ℕ, ◌+◌, ◌*◌, ◌/◌, ◌%◌, ◌<◌}
use mathlib.Core.Bool.{Bool, true, false, not}
use mathlib.Core.List.{List, [], ◌∷◌}
use mathlib.Core.Path.{◌≡◌, refl, sym, ap, ◌∙◌}
use native.Mathlib.Omega.{arith}
use lib.Dec.{eqb}
use borrow.Author.Tests.{eqb-true}
use Rattle.octets.specs.BigEndian.{octet, octets32}
use Rattle.octets.specs.Groups.{stamp_at}
use Rattle.octets.proofs.BothWays.{what_is_written_is_read}
use Rattle.base.proofs.Tests.{both}
use Rattle.sensor.specs.declared.action.Action.{Action}
use Rattle.sensor.specs.declared.action.Action.TheVariants.{Nothing, SendOff, SendOn, SendInverse}
use Rattle.sensor.specs.Calls.{telegram_octets}
use Rattle.sensor.specs.Claims.{SendsBy, SwitchInput, silence, told_by, SentBy}

pub what_is_sent : (t : ℕ) (value : Bool) → SwitchInput (telegram_octets t (Some value)) t value
unfolding telegram_octets
what_is_sent t value =
    record {
      whole = unfold octets32 in refl;
      stamp = unfold stamp_at in what_is_written_is_read t _;
      kind = unfold octets32 in refl;
      value = unfold octets32 in refl;
      zeros = unfold octets32 in refl;
    }

-- and no other octets, each below 256, are this switch input
same_octets_lem : (a b c d e f g h t : ℕ) (on : Bool) → a < 256 → b < 256 → c < 256 → d < 256 → SwitchInput (a ∷ b ∷ c ∷ d ∷ e ∷ f ∷ g ∷ h ∷ []) t on →
    a ∷ b ∷ c ∷ d ∷ e ∷ f ∷ g ∷ h ∷ [] ≡ telegram_octets t (Some on)
unfolding telegram_octets octets32
same_octets_lem a b c d e f g h t on ha hb hc hd s =
    let whole : 65536 * (256 * a + b) + (256 * c + d) ≡ t = unfold stamp_at in s.stamp in
    let zeros = both (eqb g 0) (eqb h 0) s.zeros in
    let first : t / 16777216 ≡ a = omega (arith, whole, ha, hb, hc, hd) in
    let second : t / 65536 % 256 ≡ b = omega (arith, whole, ha, hb, hc, hd) in
    let third : t / 256 % 256 ≡ c = omega (arith, whole, ha, hb, hc, hd) in
    let fourth : t % 256 ≡ d = omega (arith, whole, ha, hb, hc, hd) in
    rw (first, second, third, fourth, s.kind, s.value, eqb-true g 0 zeros.0, eqb-true h 0 zeros.1) refl

pub no_other_octets_are_this_switch_input : (octets : List ℕ) (t : ℕ) (on : Bool) → ((j : ℕ) → octet octets j < 256) → SwitchInput octets t on → octets ≡ telegram_octets t (Some on)
no_other_octets_are_this_switch_input (a ∷ b ∷ c ∷ d ∷ e ∷ f ∷ g ∷ h ∷ []) t on small s = same_octets_lem a b c d e f g h t on (small 0) (small 1) (small 2) (small 3) s
no_other_octets_are_this_switch_input [] t on small s = absurd (omega (arith, s.kind))
no_other_octets_are_this_switch_input (a ∷ []) t on small s = absurd (omega (arith, s.kind))
no_other_octets_are_this_switch_input (a ∷ b ∷ []) t on small s = absurd (omega (arith, s.kind))
no_other_octets_are_this_switch_input (a ∷ b ∷ c ∷ []) t on small s = absurd (omega (arith, s.kind))
no_other_octets_are_this_switch_input (a ∷ b ∷ c ∷ d ∷ []) t on small s = absurd (omega (arith, s.kind))
no_other_octets_are_this_switch_input (a ∷ b ∷ c ∷ d ∷ e ∷ []) t on small s = absurd (omega (arith, s.whole))
no_other_octets_are_this_switch_input (a ∷ b ∷ c ∷ d ∷ e ∷ f ∷ []) t on small s = absurd (omega (arith, s.whole))
no_other_octets_are_this_switch_input (a ∷ b ∷ c ∷ d ∷ e ∷ f ∷ g ∷ []) t on small s = absurd (omega (arith, s.whole))
no_other_octets_are_this_switch_input (a ∷ b ∷ c ∷ d ∷ e ∷ f ∷ g ∷ h ∷ i ∷ more) t on small s = absurd (omega (arith, s.whole))

pub silence_is_no_switch_input : (t : ℕ) (value : Bool) → SwitchInput silence t value → ⊥
silence_is_no_switch_input t value g = omega (arith, g.kind)

pub sent_in_octets : (a : Action) (last : Bool) (t : ℕ) (sent : Option Bool) → SendsBy a last sent → SentBy a last t (telegram_octets t sent)
sent_in_octets Nothing last t sent e = rw e (unfold telegram_octets in refl)
sent_in_octets SendOff last t sent e = rw e (what_is_sent t false)
sent_in_octets SendOn last t sent e = rw e (what_is_sent t true)
sent_in_octets SendInverse last t sent e = rw e (what_is_sent t (not last))

-- the octets tell what was sent
pub told_back : (t : ℕ) (sent : Option Bool) → told_by (telegram_octets t sent) ≡ sent
unfolding told_by telegram_octets octets32
told_back t None = refl
told_back t (Some true) = refl
told_back t (Some false) = refl

pub sent_is_told : (t : ℕ) (one other : Option Bool) → telegram_octets t one ≡ telegram_octets t other → one ≡ other
sent_is_told t one other e = sym (told_back t one) ∙ ap told_by e ∙ told_back t other
