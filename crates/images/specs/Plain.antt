-- The tests by which the code knows an image without writing it again: no octet says what no state holds (proofs/Tests.antt shows that they
-- are enough). Which of these states are sound is tested apart.
use Rattle.std.specs.Prelude.{ℕ, zero, suc, ◌+◌, ◌*◌, Bool, true, cond, not, ◌&&◌, List, eqb, leb}
use Rattle.octets.specs.BigEndian.{octet, be32}

-- scene learning is 0 or 1, and two zeros follow it
unfoldable pub plain_modes : List ℕ → Bool
plain_modes octets = leb (octet octets 21) 1 && (eqb (octet octets 22) 0 && eqb (octet octets 23) 0)

-- the flags of a scene are two bits: of this many entries, from entry n on
unfoldable pub plain_flags : List ℕ → ℕ → ℕ → Bool
plain_flags octets zero n = true
plain_flags octets (suc left) n = leb (octet octets (25 + 2 * n)) 3 && plain_flags octets left (n + 1)

-- night, lock and the outputs remembered are 0 or 1
unfoldable pub plain_bits : List ℕ → Bool
plain_bits octets = (leb (octet octets 41) 1 && leb (octet octets 42) 1) && (leb (octet octets 45) 1 && leb (octet octets 46) 1)

-- force, link and phase have such a number
unfoldable pub plain_numbers : List ℕ → Bool
plain_numbers octets = (leb (octet octets 43) 3 && not (eqb (octet octets 43) 1)) && (leb (octet octets 44) 2 && leb (octet octets 47) 6)

-- a phase that does not end by itself has the deadline 0
unfoldable pub plain_deadline : List ℕ → Bool
plain_deadline octets = cond (leb (octet octets 47) 1) (eqb (be32 octets 52) 0) true

unfoldable pub is_plain : List ℕ → Bool
is_plain octets = ((plain_modes octets && plain_flags octets 8 0) && (plain_bits octets && plain_numbers octets)) && plain_deadline octets
