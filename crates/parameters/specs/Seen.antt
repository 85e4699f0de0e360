-- The scene numbers that the entries so far have, as the code keeps them: an octet for each number from 0 to 63, 1 where an entry has it.
use Rattle.std.specs.Prelude.{ℕ, Bool, cond, not, List, get_or, set, eqb, leb}

-- one more number; an unused entry has none
unfoldable pub noted : List ℕ → ℕ → List ℕ
noted seen number = cond (leb number 63) (set seen number 1) seen

-- a number that is too large, or that was seen
unfoldable pub bad_after : List ℕ → ℕ → Bool
bad_after seen number = cond (leb number 63) (eqb (get_or seen number 0) 1) (not (eqb number 255))
