-- How the eight octets of an input end.
use Prim.Native.Nat.{ℕ, ◌+◌, ◌≤◌}
use mathlib.Core.Bool.{Bool, true, false, cond, ◌&&◌}
use mathlib.Core.List.{List}
use mathlib.Core.Logic.{◌↔◌}
use mathlib.Core.Path.{◌≡◌, refl, ap}
use native.Mathlib.Omega.{arith}
use lib.Dec.{eqb, leb}
use borrow.Author.Tests.{leb-true, le-leb, eqb-true, eq-eqb}
use Rattle.octets.specs.BigEndian.{octet}
use Rattle.octets.specs.Groups.{track_at, ends_within, ends_in_zeros}

halves : (b c : Bool) → (b && c) ≡ true → (b ≡ true) × (c ≡ true)
halves true c e = (refl, e)
halves false c e = absurd (let z : ◌≡◌ {A = ℕ} 0 1 = ap (λ (b : Bool). cond b 1 0) e in omega arith)

module _ (octets : List ℕ) (at : ℕ) where
  pub ends_exactly_when : (last : ℕ) → (ends_within last octets at ≡ true) ↔ ((track_at octets at ≤ last) × (octet octets (at + 7) ≡ 0))
  ends_exactly_when last = (
    λ e. let h = halves (leb (track_at octets at) last) (eqb (octet octets (at + 7)) 0) e in (leb-true _ _ h.0, eqb-true _ _ h.1),
    λ g. simp (le-leb (track_at octets at) last g.0, eq-eqb (octet octets (at + 7)) 0 g.1),
  )

  -- "6-7 zero"
  pub zeros_exactly_when : (ends_in_zeros octets at ≡ true) ↔ ((track_at octets at ≡ 0) × (octet octets (at + 7) ≡ 0))
  zeros_exactly_when = (
    λ e. let h = halves (eqb (track_at octets at) 0) (eqb (octet octets (at + 7)) 0) e in (eqb-true _ _ h.0, eqb-true _ _ h.1),
    λ g. simp (eq-eqb (track_at octets at) 0 g.0, eq-eqb (octet octets (at + 7)) 0 g.1),
  )
