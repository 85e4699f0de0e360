-- Numbers in octets. 01, "Time and the cue file": "Numbers are most significant octet first."
use Rattle.std.specs.Prelude.{ℕ, ◌+◌, ◌*◌, ◌/◌, ◌%◌, List, [], ◌∷◌, get_or}

-- the octet at a place of a string (0 past its end; nothing is read there: the length is tested before, or is 8 by its type)
abbrev pub octet : List ℕ → ℕ → ℕ
octet s at = get_or s at 0

-- the number in the two octets from a place on
abbrev pub be16 : List ℕ → ℕ → ℕ
be16 s at = 256 * octet s at + octet s (at + 1)

-- the number in the four octets from a place on
abbrev pub be32 : List ℕ → ℕ → ℕ
be32 s at = 65536 * be16 s at + be16 s (at + 2)

-- the two octets of a number (of 16 bits: what does not fit is in the first)
abbrev pub octets16 : ℕ → List ℕ
octets16 n = n / 256 ∷ n % 256 ∷ []

-- the four octets of a number (of 32 bits: what does not fit is in the first)
unfoldable pub octets32 : ℕ → List ℕ
octets32 n = n / 16777216 ∷ n / 65536 % 256 ∷ n / 256 % 256 ∷ n % 256 ∷ []
