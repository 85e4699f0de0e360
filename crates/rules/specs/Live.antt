-- The live calls from C: a state goes in and comes out as its image. "All answer the packed number .. and write nothing on refusal
-- (`house_change`: nothing from the refused input on)."
use Rattle.std.specs.Prelude.{ℕ, List, length, take, eqb, leb, Ok, Err}
use Rattle.base.specs.declared.refusal.Refusal.{Refusal}
use Rattle.base.specs.declared.refusal.Refusal.TheVariants.{BadStamp, ShortBuffer, UnsoundState}
use Rattle.base.specs.Refusals.{number, if_not, or_else, stamp_in_range, Check}
use Rattle.rules.specs.declared.call.Move.{Move}
use Rattle.rules.specs.Layout.{record_place}
use Rattle.rules.specs.Parameters.{check_alone}
use Rattle.rules.specs.Calls.{fresh_call, move_call}
use Rattle.rules.specs.Readings.{verdict}
use Rattle.rules.specs.Files.{read_call}
use Rattle.rules.specs.Runs.{records_octets, over, Whole, run_call, packing, packed}
use Rattle.rules.specs.Changes.{change_call}
use Rattle.rules.specs.Images.{image_size, image, state_in, is_image}

-- what a refusal answers
abbrev pub refused_number : Refusal → ℕ → ℕ
refused_number why place = packing (number why) place 0

-- "9": "every other string of octets is refused with 9"
abbrev pub check_image : List ℕ → Check
check_image state = if_not (is_image state) UnsoundState

-- "8 for a lent state that has not exactly that size"
abbrev pub check_image_room : List ℕ → Check
check_image_room state = if_not (eqb (length state) image_size) ShortBuffer

-- ---- house_fresh: "the fresh state's image, or 1, 5, then 8"

-- the number, and the lent state
pub record Imaged : Type 0 where
  pub number : ℕ
  pub state : List ℕ

unfoldable pub check_fresh : List ℕ → List ℕ → Check
check_fresh parameters state = or_else (check_alone parameters) (check_image_room state)

unfoldable pub fresh_imaged : Check → List ℕ → List ℕ → Imaged
fresh_imaged (Ok _) parameters state = record { number = packing 0 0 0; state = image (fresh_call parameters).state }
fresh_imaged (Err fault) parameters state = record { number = refused_number fault.why fault.place; state = state }

unfoldable pub house_fresh : List ℕ → List ℕ → Imaged
house_fresh parameters state = fresh_imaged (check_fresh parameters state) parameters state

-- ---- house_move: "a clock move; 9, 7, then 8 for room under 16 octets"

-- the number, the state, and the records
pub record ImagedMove : Type 0 where
  pub number : ℕ
  pub state : List ℕ
  pub records : List ℕ

-- "at most two" records
abbrev pub move_room : ℕ
move_room = record_place 2

unfoldable pub check_move : List ℕ → ℕ → List ℕ → Check
check_move state stamp records =
    or_else (check_image state)
    (or_else (if_not (stamp_in_range (state_in state).clock stamp) BadStamp)
    (if_not (leb move_room (length records)) ShortBuffer))

-- a clock move by value, its records put into the lent room
unfoldable pub move_imaged : Move → List ℕ → ImagedMove
move_imaged r records =
    record { number = packing r.code r.place r.count; state = image r.state; records = over (records_octets (take r.count r.records)) records }

unfoldable pub move_by : Check → List ℕ → ℕ → List ℕ → ImagedMove
move_by (Ok _) state stamp records = move_imaged (move_call (state_in state) stamp) records
move_by (Err fault) state stamp records = record { number = refused_number fault.why fault.place; state = state; records = records }

unfoldable pub house_move : List ℕ → ℕ → List ℕ → ImagedMove
house_move state stamp records = move_by (check_move state stamp records) state stamp records

-- ---- house_change: "the call above, the image replaced by the new one"; house_run_to: "play a show to its end and go on live from there"

-- the number, the state, and both buffers
pub record ImagedRun : Type 0 where
  pub number : ℕ
  pub state : List ℕ
  pub records : List ℕ
  pub answers : List ℕ

abbrev pub untouched : Refusal → ℕ → List ℕ → List ℕ → List ℕ → ImagedRun
untouched why place state records answers = record { number = refused_number why place; state = state; records = records; answers = answers }

-- a report and both buffers, with the state as its image
unfoldable pub imaged : Whole → ImagedRun
imaged w = record { number = packed w.report; state = image w.report.state; records = w.records; answers = w.answers }

unfoldable pub change_imaged : Check → List ℕ → List ℕ → List ℕ → List ℕ → ImagedRun
change_imaged (Ok _) state inputs records answers = imaged (change_call (state_in state) inputs records answers)
change_imaged (Err fault) state inputs records answers = untouched fault.why fault.place state records answers

unfoldable pub house_change : List ℕ → List ℕ → List ℕ → List ℕ → ImagedRun
house_change state inputs records answers = change_imaged (check_image state) state inputs records answers

-- the refusals of the run, then 8 for the lent state
unfoldable pub check_run_to : List ℕ → List ℕ → List ℕ → List ℕ → Check
check_run_to file state records answers = or_else (verdict (read_call file records answers)) (check_image_room state)

unfoldable pub run_imaged : Check → List ℕ → List ℕ → List ℕ → List ℕ → ImagedRun
run_imaged (Ok _) file state records answers = imaged (run_call file records answers)
run_imaged (Err fault) file state records answers = untouched fault.why fault.place state records answers

unfoldable pub house_run_to : List ℕ → List ℕ → List ℕ → List ℕ → ImagedRun
house_run_to file state records answers = run_imaged (check_run_to file state records answers) file state records answers
