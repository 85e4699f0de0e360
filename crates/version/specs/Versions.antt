-- The version of the calls for C, as include/house.h has it: no rule of the actuator, but what header and archive must agree on.
use Rattle.std.specs.Prelude.{ℕ, ◌+◌, ◌*◌, ◌^◌, ◌≤◌}
use Rattle.rules.specs.Runs.{packing}

-- raised when something changes that a caller relies on: a name, a size, an answer
abbrev pub major : ℕ
major = 2

-- raised when something is added; 0 again with a new major
abbrev pub minor : ℕ
minor = 0

-- the versions of a cue file that are read: these two, all between them, and no other (proofs/Versions.antt, `another_version_is_refused`)
abbrev pub oldest_file : ℕ
oldest_file = 1

abbrev pub newest_file : ℕ
newest_file = 2

abbrev pub IsRead : ℕ → Type 0
IsRead v = (oldest_file ≤ v) × (v ≤ newest_file)

-- packed as a report is, with the file versions in the place of the count
unfoldable pub house_version : ℕ
house_version = packing major minor (newest_file * 2 ^ 16 + oldest_file)
