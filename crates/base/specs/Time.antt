-- Time. Every moment and every duration below is in tenths of a second.
use Rattle.std.specs.Prelude.{ℕ, ◌*◌, min}

-- 01, "Time and the cue file": "A stamp is in tenths of a second, 0 to 864,000."
abbrev pub last_stamp : ℕ
last_stamp = 864_000

-- "Delays are U16 seconds; a delay of s lasts 10*s tenths."
abbrev pub tenths : ℕ → ℕ
tenths seconds = 10 * seconds

-- the longest delay: 65,535 seconds; 02, [2]: "U32 tenths, 0 to 655,350"
abbrev pub longest_delay : ℕ
longest_delay = 655_350

-- "the earlier of .. and ..", of two moments
abbrev pub earlier : ℕ → ℕ → ℕ
earlier a b = min a b
