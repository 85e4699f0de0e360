-- The refusal numbers (01, "Refusal numbers"): one table, whichever call gives them.
use Rattle.std.specs.Prelude.{ℕ, ◌≤◌, Bool, cond, ◌&&◌, ◌↔◌, ◌⊎◌, ◌≡◌, leb, Result, Ok, Err, ⊤}
use Rattle.base.specs.declared.refusal.Refusal.{Refusal}
use Rattle.base.specs.declared.refusal.Refusal.TheVariants.{WrongLength, WrongVersion, WrongActuators, WrongLayout, BadParameter, BadInput, BadStamp, ShortBuffer, UnsoundState, BadAction, WrongGroups}
use Rattle.base.specs.declared.refusal.Refused.{Refused}
use Rattle.base.specs.Time.{last_stamp}

-- the table's first column (01, and 02 for the numbers that its requests add)
abbrev pub number : Refusal → ℕ
number WrongLength = 1
number WrongVersion = 2
number WrongActuators = 3
number WrongLayout = 4
number BadParameter = 5
number BadInput = 6
number BadStamp = 7
number ShortBuffer = 8
number UnsoundState = 9
-- 02, [1]: "11, an action above 3, where 5 stands for the sensor's parameters"
number BadAction = 11
-- 02, [3]: "12 for more than 256 or a length not a multiple of 8"
number WrongGroups = 12

-- what a check finds: nothing wrong, or the first row that holds, and where
abbrev pub Check : Type 0
Check = Result ⊤ Refused

abbrev pub refused_with : Refusal → ℕ → Check
refused_with why place = Err (record { why = why; place = place })

-- as a code and a place: "an accepted call has code 0, place 0", a refused one the number and the place of its row
abbrev pub code_of : Check → ℕ
code_of (Ok _) = 0
code_of (Err fault) = number fault.why

abbrev pub place_of : Check → ℕ
place_of (Ok _) = 0
place_of (Err fault) = fault.place

-- one test, and its row where it fails
abbrev pub if_not : Bool → Refusal → Check
if_not test why = cond test (Ok tt) (refused_with why 0)

-- one check, then another
abbrev pub or_else : Check → Check → Check
or_else (Ok _) later = later
or_else (Err fault) later = Err fault

-- "7 | stamp below .. (or the clock), above .. (single input or clock move: 864,000)"
unfoldable pub stamp_in_range : ℕ → ℕ → Bool
stamp_in_range clock stamp = leb clock stamp && leb stamp last_stamp

-- "For a single input 9, 6, 7, place 0. A clock move: 9, 7.": of a call that is handed a state and one thing to do. It is sound, what is
-- asked for means something (a clock move always does), and its stamp is in range.
unfoldable pub check_call : Bool → Bool → Bool → Check
check_call sound known timely = or_else (if_not sound UnsoundState) (or_else (if_not known BadInput) (if_not timely BadStamp))

-- ---- "Given exactly when", of any call

-- A check finds each row exactly when it is given, and passes exactly when none is. `Given why p`: the row of this reason holds, with this
-- place; `Good`: no row holds.
pub record Decides (Given : Refusal → ℕ → Type 0) (Good : Type 0) (c : Check) : Type 0 where
  pub refused : (why : Refusal) (p : ℕ) → (c ≡ refused_with why p) ↔ Given why p
  pub passed : (c ≡ Ok tt) ↔ Good

-- one row alone
abbrev pub Only : Refusal → ℕ → Type 0 → Refusal → ℕ → Type 0
Only row place Holds why p = (why ≡ row) × (p ≡ place) × Holds

-- the rows of one check, then, where none of them holds, those of another
abbrev pub Then : (Refusal → ℕ → Type 0) → Type 0 → (Refusal → ℕ → Type 0) → Refusal → ℕ → Type 0
Then First Good Next why p = First why p ⊎ (Good × Next why p)

-- The code and the place of a call, each exactly when the table gives it.
pub record Codes (Given : Refusal → ℕ → Type 0) (Good : Type 0) (code place : ℕ) : Type 0 where
  pub refused : (why : Refusal) (p : ℕ) → ((code ≡ number why) × (place ≡ p)) ↔ Given why p
  pub accepted : (p : ℕ) → ((code ≡ 0) × (place ≡ p)) ↔ ((p ≡ 0) × Good)

-- "7 | stamp below the one before (or the clock), above the end time (single input or clock move: 864,000)"
abbrev pub Timely : ℕ → ℕ → Type 0
Timely clock stamp = (clock ≤ stamp) × (stamp ≤ 864_000)

-- "For a single input 9, 6, 7, place 0. A clock move: 9, 7.": by when its state is sound, what it asks for known, its stamp timely
abbrev pub CallWhen : (Sound Known InTime : Type 0) → Refusal → ℕ → Type 0
CallWhen Sound Known InTime =
    Then (Only UnsoundState 0 (Sound → ⊥)) Sound
    (Then (Only BadInput 0 (Known → ⊥)) Known
    (Only BadStamp 0 (InTime → ⊥)))

abbrev pub CallCodes : (Sound Known InTime : Type 0) → ℕ → ℕ → Type 0
CallCodes Sound Known InTime = Codes (CallWhen Sound Known InTime) (Sound × (Known × InTime))
