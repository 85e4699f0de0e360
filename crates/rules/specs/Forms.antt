-- The versions of the cue file (01, "Time and the cue file"; 02, [2]). What differs between them is one row, chosen by the version; all else is
-- said once, of whatever the row says.
use Rattle.std.specs.Prelude.{ℕ, Bool, cond, List, ◌⊎◌, ◌≡◌, eqb}
use Rattle.octets.specs.BigEndian.{be16}
use Rattle.base.specs.Time.{tenths}
use Rattle.rules.specs.declared.form.Scale.{Scale}
use Rattle.rules.specs.declared.form.Scale.TheVariants.{Seconds, Tenths}
use Rattle.rules.specs.declared.form.Form.{Form}

-- ---- how a time is written: 01, "Delays are U16 seconds"; 02, "Version 2 files hold the four times as U32 tenths"

-- its octets
abbrev pub width : Scale → ℕ
width Seconds = 2
width Tenths = 4

-- the tenths that 1 lasts: 01, "a delay of s lasts 10*s tenths"
abbrev pub unit : Scale → ℕ
unit Seconds = tenths 1
unit Tenths = 1

-- ---- the rows

-- 01: "0-1 version (1)"
abbrev pub version_one : Form
version_one = record { version = 1; scale = Seconds }

-- 02: "Version 2 files hold the four times as U32 tenths"
abbrev pub version_two : Form
version_two = record { version = 2; scale = Tenths }

-- the row of a version
unfoldable pub form_of : ℕ → Form
form_of v = cond (eqb v 2) version_two version_one

-- 02: "2 now means neither version": a version that has a row
unfoldable pub is_version : ℕ → Bool
is_version v = eqb (form_of v).version v

-- that is, one of these (proofs/Laws/Forms.antt, `has_version`)
abbrev pub HasVersion : ℕ → Type 0
HasVersion v = (v ≡ 1) ⊎ (v ≡ 2)

-- ---- the row of a file: "Header, 20 octets of counts and offsets: 0-1 version"

abbrev pub version : List ℕ → ℕ
version file = be16 file 0

unfoldable pub form_in : List ℕ → Form
form_in file = form_of (version file)
