-- Whether octets mean an input, and which.
use Prim.Native.Nat.{ℕ, ◌+◌}
use mathlib.Core.Bool.{true, ◌&&◌}
use mathlib.Core.List.{List}
use mathlib.Core.Path.{◌≡◌, refl}
use lib.Dec.{eqb}
use Rattle.octets.specs.BigEndian.{octet}
use Rattle.rules.specs.Inputs.{decoded, input_at}
use Rattle.base.proofs.Tests.{cond_case, no}
use Rattle.inputs.specs.Meaning.{is_meant}

-- where an input starts, it is what its kind and its value mean
pub known_at : (octets : List ℕ) (at : ℕ) → is_meant (input_at octets at) ≡ true → input_at octets at ≡ decoded (octet octets (at + 4)) (octet octets (at + 5))
unfolding input_at
known_at octets at =
    cond_case (λ d. is_meant d ≡ true → d ≡ decoded (octet octets (at + 4)) (octet octets (at + 5))) (eqb (octet octets (at + 6)) 0 && eqb (octet octets (at + 7)) 0) _ _ (λ zeros meant. refl)
    (λ others meant. no meant)
