-- "Given exactly when" (01, "Refusal numbers"): the table as statements, of parameters, of files and of each public call (of the live
-- calls from C: demands/specs/Live.antt). That the calls keep to them is proved in proofs/Laws/Parameters.antt and proofs/Refusals/.
use Rattle.std.specs.Prelude.{ℕ, zero, suc, ◌+◌, ◌*◌, ◌/◌, ◌%◌, ◌^◌, ◌≤◌, ◌<◌, true, false, List, ◌⊎◌, ◌≡◌, length, Some, Ok, Option, None, Err}
use Rattle.rules.specs.declared.form.Form.{Form}
use Rattle.rules.specs.declared.input.Input.{Input}
use Rattle.rules.specs.declared.state.State.{State}
use Rattle.rules.specs.declared.call.Ran.{Ran}
use Rattle.base.specs.declared.refusal.Refusal.{Refusal}
use Rattle.base.specs.declared.refusal.Refusal.TheVariants.{WrongLength, WrongVersion, WrongActuators, WrongLayout, BadParameter, BadInput, BadStamp, ShortBuffer, UnsoundState, BadAction, WrongGroups}
use Rattle.base.specs.Refusals.{Only, Then, Codes, Timely, CallCodes, Check, refused_with}
use Rattle.rules.specs.Forms.{version, form_in, HasVersion}
use Rattle.rules.specs.Layout.{parameters_size, form_alone, inputs_at, input_place}
use Rattle.rules.specs.Parameters.{bad_octet, check_parameters}
use Rattle.rules.specs.Inputs.{input_at}
use Rattle.octets.specs.Groups.{stamp_at}
use Rattle.rules.specs.Files.{actuators, parameters_offset, input_count, inputs_offset, end_time, parameters_in, inputs_in, cue_at}
use Rattle.rules.specs.Soundness.{sound}

-- ---- parameters

-- of this row: "1, 4 and 5 use the version's sizes and places" (02, [2]; Facts.antt has the numbers)
pub record GoodParameters (f : Form) (octets : List ℕ) : Type 0 where
  pub whole : length octets ≡ parameters_size f
  pub good : (j : ℕ) → j < parameters_size f → bad_octet f octets j ≡ false

-- "lowest bad octet in 0-31"
pub record FirstBad (f : Form) (octets : List ℕ) (at : ℕ) : Type 0 where
  pub whole : length octets ≡ parameters_size f
  pub within : at < parameters_size f
  pub bad : bad_octet f octets at ≡ true
  pub good : (j : ℕ) → j < at → bad_octet f octets j ≡ false

-- the rows of the check of parameters: two of the refusals, and the others never
abbrev pub FoundBy : Form → List ℕ → Refusal → ℕ → Type 0
FoundBy f octets WrongLength place = (place ≡ 0) × (length octets ≡ parameters_size f → ⊥)
FoundBy f octets WrongVersion place = ⊥
FoundBy f octets WrongActuators place = ⊥
FoundBy f octets WrongLayout place = ⊥
FoundBy f octets BadParameter place = FirstBad f octets place
FoundBy f octets BadInput place = ⊥
FoundBy f octets BadStamp place = ⊥
FoundBy f octets ShortBuffer place = ⊥
FoundBy f octets UnsoundState place = ⊥
FoundBy f octets BadAction place = ⊥
FoundBy f octets WrongGroups place = ⊥

-- what the check of parameters finds, and when
abbrev pub FoundWhen : Form → List ℕ → Check → Type 0
FoundWhen f octets (Ok _) = GoodParameters f octets
FoundWhen f octets (Err fault) = FoundBy f octets fault.why fault.place

-- ---- a file

-- neither row 1 nor row 2 holds: "version is tested on files of at least 52 octets, and a version 2 file under 60 then gets 1" (02, [2])
pub record LongEnough (file : List ℕ) : Type 0 where
  pub least : 52 ≤ length file
  pub version : HasVersion (version file)
  pub long : inputs_at (form_in file) ≤ length file

-- "offset of parameters (20); .. count n of inputs (0 to 2,048); .. offset of inputs (52); .. end time (at most 864,000).
-- The file is exactly 52+8n octets."; 02, [2]: "inputs at offset 60"
pub record GoodLayout (file : List ℕ) : Type 0 where
  pub parameters : parameters_offset file ≡ 20
  pub few : input_count file ≤ 2048
  pub inputs : inputs_offset file ≡ inputs_at (form_in file)
  pub end : end_time file ≤ 864_000
  pub whole : length file ≡ inputs_at (form_in file) + 8 * input_count file

-- rows 1 to 4 do not hold
pub record GoodHeader (file : List ℕ) : Type 0 where
  pub enough : LongEnough file
  pub actuators : actuators file ≡ 1
  pub layout : GoodLayout file

-- nor does row 5
pub record GoodStart (file : List ℕ) : Type 0 where
  pub header : GoodHeader file
  pub passed : check_parameters (form_in file) (parameters_in file) ≡ Ok tt

-- when a file is refused for what stands before its inputs
abbrev pub StartWhen : List ℕ → Refusal → ℕ → Type 0
StartWhen file WrongLength place = (place ≡ 0) × ((length file < 52) ⊎ (HasVersion (version file) × (length file < inputs_at (form_in file))))
StartWhen file WrongVersion place = (place ≡ 0) × (52 ≤ length file) × (HasVersion (version file) → ⊥)
StartWhen file WrongActuators place = (place ≡ 0) × LongEnough file × (actuators file ≡ 1 → ⊥)
StartWhen file WrongLayout place = (place ≡ 0) × LongEnough file × (actuators file ≡ 1) × (GoodLayout file → ⊥)
StartWhen file BadParameter place = GoodHeader file × FirstBad (form_in file) (parameters_in file) place
StartWhen file BadInput place = ⊥
StartWhen file BadStamp place = ⊥
StartWhen file ShortBuffer place = ⊥
StartWhen file UnsoundState place = ⊥
StartWhen file BadAction place = ⊥
StartWhen file WrongGroups place = ⊥

-- ---- the inputs of a list, whatever they may say: `at j` is what the one at index j says, if it says anything. There are n of them; the first
-- is not stamped before `from`, none after `to`.

-- the stamp before that of an input
abbrev pub stamp_before : List ℕ → ℕ → ℕ → ℕ
stamp_before inputs from zero = from
stamp_before inputs from (suc j) = stamp_at inputs (input_place j)

-- an input that neither row 6 nor row 7 holds for
pub record GoodInput {A : Type 0} (at : ℕ → Option A) (inputs : List ℕ) (from to j : ℕ) : Type 0 where
  pub input : A
  pub means : at j ≡ Some input
  pub risen : stamp_before inputs from j ≤ stamp_at inputs (input_place j)
  pub timely : stamp_at inputs (input_place j) ≤ to

abbrev pub GoodInputs : {A : Type 0} → (ℕ → Option A) → List ℕ → ℕ → ℕ → ℕ → Type 0
GoodInputs at inputs n from to = (j : ℕ) → j < n → GoodInput at inputs from to j

-- row 6 holds for this input, and no row for any before it
pub record FirstWrong {A : Type 0} (at : ℕ → Option A) (inputs : List ℕ) (n from to place : ℕ) : Type 0 where
  pub within : place < n
  pub wrong : at place ≡ None
  pub good : (j : ℕ) → j < place → GoodInput at inputs from to j

-- row 7 holds for this input but not row 6, and no row for any before it
pub record FirstUntimely {A : Type 0} (at : ℕ → Option A) (inputs : List ℕ) (n from to place : ℕ) : Type 0 where
  pub within : place < n
  pub input : A
  pub means : at place ≡ Some input
  pub untimely : (stamp_at inputs (input_place place) < stamp_before inputs from place) ⊎ (to < stamp_at inputs (input_place place))
  pub good : (j : ℕ) → j < place → GoodInput at inputs from to j

-- when a list is refused for one of its inputs
abbrev pub InputsWhen : {A : Type 0} → (ℕ → Option A) → List ℕ → ℕ → ℕ → ℕ → Refusal → ℕ → Type 0
InputsWhen at inputs n from to WrongLength place = ⊥
InputsWhen at inputs n from to WrongVersion place = ⊥
InputsWhen at inputs n from to WrongActuators place = ⊥
InputsWhen at inputs n from to WrongLayout place = ⊥
InputsWhen at inputs n from to BadParameter place = ⊥
InputsWhen at inputs n from to BadInput place = FirstWrong at inputs n from to place
InputsWhen at inputs n from to BadStamp place = FirstUntimely at inputs n from to place
InputsWhen at inputs n from to ShortBuffer place = ⊥
InputsWhen at inputs n from to UnsoundState place = ⊥
InputsWhen at inputs n from to BadAction place = ⊥
InputsWhen at inputs n from to WrongGroups place = ⊥

-- ---- the whole file

-- "Order 1, 2, 3, 4, 5; then the first bad input"
abbrev pub GivenWhen : List ℕ → Refusal → ℕ → Type 0
GivenWhen file = Then (StartWhen file) (GoodStart file) (InputsWhen (cue_at (inputs_in file)) (inputs_in file) (input_count file) 0 (end_time file))

-- no row holds
pub record GoodFile (file : List ℕ) : Type 0 where
  pub start : GoodStart file
  pub good : GoodInputs (cue_at (inputs_in file)) (inputs_in file) (input_count file) 0 (end_time file)

-- ---- the public calls: each code with its place, exactly when the table gives it

-- 02, [2]: "parameters alone are told by 32 or 40 octets"
abbrev pub FreshCodes : List ℕ → ℕ → ℕ → Type 0
FreshCodes octets = Codes (λ why p. FoundWhen (form_alone octets) octets (refused_with why p)) (GoodParameters (form_alone octets) octets)

-- "For a single input 9, 6, 7, place 0."
abbrev pub SingleCodes : State → List ℕ → ℕ → ℕ → Type 0
SingleCodes s octets = CallCodes (sound s ≡ true) ((i : Input) × (input_at octets 0 ≡ Some i)) (Timely s.clock (stamp_at octets 0))

-- "A clock move: 9, 7." (nothing that it asks for could be unknown)
abbrev pub MoveCodes : State → ℕ → ℕ → ℕ → Type 0
MoveCodes s stamp = CallCodes (sound s ≡ true) Unit (Timely s.clock stamp)

-- "records, at least 8(3n+3) octets, and answers, at least n"
pub record RoomFor (n : ℕ) (records answers : List ℕ) : Type 0 where
  pub wide : 8 * (3 * n + 3) ≤ length records
  pub long : n ≤ length answers

-- "Order 1, 2, 3, 4, 5; then the first bad input, 6 before 7; then 8."
abbrev pub RunCodes : List ℕ → List ℕ → List ℕ → ℕ → ℕ → Type 0
RunCodes file records answers =
    let Room : Type 0 = RoomFor (input_count file) records answers in
    Codes (Then (GivenWhen file) (GoodFile file) (Only ShortBuffer 0 (Room → ⊥))) (GoodFile file × Room)

-- ---- a whole scene change

-- 02, [3]: "up to 256 input octet groups", none of them cut short
pub record GoodGroups (inputs : List ℕ) : Type 0 where
  pub whole : length inputs % 8 ≡ 0
  pub few : length inputs / 8 ≤ 256

-- "Refusals: 9, then 12 .., then 8 as for the run (with n groups), then 6 or 7 as met.": n groups, from the clock on
-- `Sound` says when 9 is not given
abbrev pub ChangeWhen : (Sound : Type 0) → ℕ → List ℕ → List ℕ → List ℕ → Refusal → ℕ → Type 0
ChangeWhen Sound clock inputs records answers =
    let n : ℕ = length inputs / 8 in
    let Room : Type 0 = RoomFor n records answers in
    Then (Only UnsoundState 0 (Sound → ⊥)) Sound
    (Then (Only WrongGroups 0 (GoodGroups inputs → ⊥)) (GoodGroups inputs)
    (Then (Only ShortBuffer 0 (Room → ⊥)) Room
    (InputsWhen (cue_at inputs) inputs n clock 864_000)))

abbrev pub GoodChange : (Sound : Type 0) → ℕ → List ℕ → List ℕ → List ℕ → Type 0
GoodChange Sound clock inputs records answers =
    let n : ℕ = length inputs / 8 in
    Sound × (GoodGroups inputs × (RoomFor n records answers × GoodInputs (cue_at inputs) inputs n clock 864_000))

abbrev pub ChangeCodes : State → List ℕ → List ℕ → List ℕ → ℕ → ℕ → Type 0
ChangeCodes s inputs records answers =
    let Sound : Type 0 = sound s ≡ true in
    Codes (ChangeWhen Sound s.clock inputs records answers) (GoodChange Sound s.clock inputs records answers)

-- ---- the number for C

-- "To C it answers one 64-bit number": what the header's macros take it apart into, by shifts and masks
pub record TakenApart (number : ℕ) (r : Ran) : Type 0 where
  pub code : number / 2 ^ 48 ≡ r.code
  pub place : number / 2 ^ 32 % 2 ^ 16 ≡ r.place
  pub count : number % 2 ^ 32 ≡ r.count
