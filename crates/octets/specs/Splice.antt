-- A lent buffer with octets put into it.
use Rattle.std.specs.Prelude.{ℕ, ◌+◌, List, ◌++◌, length, take, drop}

-- these octets from a place on, and all others as they were
unfoldable pub splice : List ℕ → ℕ → List ℕ → List ℕ
splice buffer at octets = take at buffer ++ octets ++ drop (at + length octets) buffer
