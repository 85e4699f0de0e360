-- The eight octets of one input, whoever takes it. 01, "Time and the cue file": "Input, 8 octets: 0-3 stamp; 4 kind; 5 value; 6-7 zero."
use Rattle.std.specs.Prelude.{ℕ, ◌+◌, Bool, ◌&&◌, List, eqb, leb}
use Rattle.octets.specs.BigEndian.{octet, be32}

abbrev pub group_size : ℕ
group_size = 8

unfoldable pub stamp_at : List ℕ → ℕ → ℕ
stamp_at octets at = be32 octets at

abbrev pub kind_at : List ℕ → ℕ → ℕ
kind_at octets at = octet octets (at + 4)

abbrev pub value_at : List ℕ → ℕ → ℕ
value_at octets at = octet octets (at + 5)

abbrev pub ends_in_zeros : List ℕ → ℕ → Bool
ends_in_zeros octets at = eqb (octet octets (at + 6)) 0 && eqb (octet octets (at + 7)) 0

-- the same octets where the first of them is a track, and `last` the greatest that is taken
abbrev pub track_at : List ℕ → ℕ → ℕ
track_at octets at = octet octets (at + 6)

abbrev pub ends_within : ℕ → List ℕ → ℕ → Bool
ends_within last octets at = leb (track_at octets at) last && eqb (octet octets (at + 7)) 0
