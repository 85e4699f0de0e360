-- What is claimed of the live calls from C: proved in proofs/Live.antt. Code, place and count are found in the number by the shifts and masks of
-- the header.
use Rattle.std.specs.Prelude.{ℕ, ◌+◌, ◌/◌, ◌%◌, ◌^◌, ◌≤◌, true, cond, List, [], ◌∷◌, ◌++◌, ◌≡◌, length, take, drop, eqb}
use Rattle.base.specs.declared.refusal.Refusal.{Refusal}
use Rattle.base.specs.declared.refusal.Refusal.TheVariants.{BadStamp, ShortBuffer, UnsoundState}
use Rattle.base.specs.Refusals.{Only, Then, Codes, Timely, refused_with}
use Rattle.rules.specs.Files.{input_count}
use Rattle.rules.specs.Refusals.{FoundWhen, GoodParameters, GivenWhen, GoodFile, RoomFor, ChangeWhen, GoodChange}
use Rattle.rules.specs.Layout.{form_alone, input_place, record_place}
use Rattle.rules.specs.declared.call.Move.{Move}
use Rattle.rules.specs.Calls.{fresh_call, move_call}
use Rattle.rules.specs.Runs.{records_octets, over, Whole, run_call, packing}
use Rattle.rules.specs.Changes.{group_count, change_call}
use Rattle.rules.specs.Images.{state_in, is_image}
use Rattle.rules.specs.Live.{Imaged, ImagedMove, ImagedRun, house_change}
use Rattle.demands.specs.Demands.{Among}

-- a number, taken apart
abbrev pub code_in : ℕ → ℕ
code_in number = number / 2 ^ 48

abbrev pub place_in : ℕ → ℕ
place_in number = number / 2 ^ 32 % 2 ^ 16

abbrev pub count_in : ℕ → ℕ
count_in number = number % 2 ^ 32

-- ---- "Given exactly when"

abbrev pub NumberCodes : (Refusal → ℕ → Type 0) → Type 0 → ℕ → Type 0
NumberCodes Given Good number = Codes Given Good (code_in number) (place_in number)

-- house_fresh: "1, 5, then 8"
abbrev pub HouseFreshWhen : List ℕ → List ℕ → Refusal → ℕ → Type 0
HouseFreshWhen parameters state = Then (λ why p. FoundWhen (form_alone parameters) parameters (refused_with why p)) (GoodParameters (form_alone parameters) parameters) (Only ShortBuffer 0 (length state ≡ 56 → ⊥))

abbrev pub HouseFreshCodes : List ℕ → List ℕ → ℕ → Type 0
HouseFreshCodes parameters state = NumberCodes (HouseFreshWhen parameters state) (GoodParameters (form_alone parameters) parameters × (length state ≡ 56))

-- house_move: "9, 7, then 8 for room under 16 octets"
abbrev pub HouseMoveCodes : List ℕ → ℕ → List ℕ → ℕ → Type 0
HouseMoveCodes state stamp records =
    let Image : Type 0 = is_image state ≡ true in
    let InTime : Type 0 = Timely (state_in state).clock stamp in
    let Room : Type 0 = 16 ≤ length records in
    NumberCodes (Then (Only UnsoundState 0 (Image → ⊥)) Image (Then (Only BadStamp 0 (InTime → ⊥)) InTime (Only ShortBuffer 0 (Room → ⊥)))) (Image × (InTime × Room))

-- house_run_to: the rows of the run, then 8 for the lent state
abbrev pub HouseRunToWhen : List ℕ → List ℕ → List ℕ → List ℕ → Refusal → ℕ → Type 0
HouseRunToWhen file state records answers =
    let Room : Type 0 = RoomFor (input_count file) records answers in
    Then (Then (GivenWhen file) (GoodFile file) (Only ShortBuffer 0 (Room → ⊥))) (GoodFile file × Room) (Only ShortBuffer 0 (length state ≡ 56 → ⊥))

abbrev pub HouseRunToCodes : List ℕ → List ℕ → List ℕ → List ℕ → ℕ → Type 0
HouseRunToCodes file state records answers = NumberCodes (HouseRunToWhen file state records answers) ((GoodFile file × RoomFor (input_count file) records answers) × (length state ≡ 56))

-- house_change: the rows of a change, with 9 for octets that are no image: 9, 12, 8, then 6 or 7 as met, with the index of that input
abbrev pub HouseChangeCodes : List ℕ → List ℕ → List ℕ → List ℕ → ℕ → Type 0
HouseChangeCodes state inputs records answers =
    let Image : Type 0 = is_image state ≡ true in
    let clock : ℕ = (state_in state).clock in
    NumberCodes (ChangeWhen Image clock inputs records answers) (GoodChange Image clock inputs records answers)

-- ---- demand 1: "gets a numbered answer, with no condition on the caller"; "A refused call writes nothing to the lent memory"; an accepted one gives
-- what the call by value or the run gives; what is lent keeps its length, so that nothing is written past its end

-- house_fresh: 1, 5, 8
pub record FreshAnswered (parameters lent : List ℕ) (w : Imaged) : Type 0 where
  pub numbered : Among (code_in w.number) (0 ∷ 1 ∷ 5 ∷ 8 ∷ [])
  pub counted : count_in w.number ≡ 0
  pub refused : (code_in w.number ≡ 0 → ⊥) → w.state ≡ lent
  pub accepted : code_in w.number ≡ 0 → state_in w.state ≡ (fresh_call parameters).state
  pub within : length w.state ≡ length lent

-- the state, the count and the records of a clock move; what stood behind these stays
pub record MovedAs (m : Move) (r : List ℕ) (w : ImagedMove) : Type 0 where
  pub state : state_in w.state ≡ m.state
  pub count : count_in w.number ≡ m.count
  pub records : w.records ≡ over (records_octets (take m.count m.records)) r

-- house_move: 9, 7, 8
pub record MoveAnswered (lent : List ℕ) (stamp : ℕ) (r : List ℕ) (w : ImagedMove) : Type 0 where
  pub numbered : Among (code_in w.number) (0 ∷ 9 ∷ 7 ∷ 8 ∷ [])
  pub refused : (code_in w.number ≡ 0 → ⊥) → (count_in w.number ≡ 0) × (w.state ≡ lent) × (w.records ≡ r)
  pub accepted : code_in w.number ≡ 0 → MovedAs (move_call (state_in lent) stamp) r w
  pub within : (length w.state ≡ length lent) × (length w.records ≡ length r)

-- all that is lent is as it was, and no record is counted
pub record AsLent (lent r a : List ℕ) (w : ImagedRun) : Type 0 where
  pub count : count_in w.number ≡ 0
  pub state : w.state ≡ lent
  pub records : w.records ≡ r
  pub answers : w.answers ≡ a

-- all is that of a run or a change
pub record RanAs (run : Whole) (w : ImagedRun) : Type 0 where
  pub state : state_in w.state ≡ run.report.state
  pub count : count_in w.number ≡ run.report.count
  pub records : w.records ≡ run.records
  pub answers : w.answers ≡ run.answers

pub record Within (lent r a : List ℕ) (w : ImagedRun) : Type 0 where
  pub state : length w.state ≡ length lent
  pub records : length w.records ≡ length r
  pub answers : length w.answers ≡ length a

-- house_run_to: 1 to 8
pub record RunToAnswered (file lent r a : List ℕ) (w : ImagedRun) : Type 0 where
  pub numbered : code_in w.number ≤ 8
  pub refused : (code_in w.number ≡ 0 → ⊥) → AsLent lent r a w
  pub accepted : code_in w.number ≡ 0 → RanAs (run_call file r a) w
  pub within : Within lent r a w

-- "nothing from the refused input on": all but code and place is what the inputs before it give by themselves, and these are accepted
pub record HouseRefusedFrom (lent inputs r a : List ℕ) (place : ℕ) (w : ImagedRun) : Type 0 where
  pub accepted : code_in (house_change lent (take (input_place place) inputs) r a).number ≡ 0
  pub count : count_in w.number ≡ count_in (house_change lent (take (input_place place) inputs) r a).number
  pub state : w.state ≡ (house_change lent (take (input_place place) inputs) r a).state
  pub records : w.records ≡ (house_change lent (take (input_place place) inputs) r a).records
  pub answers : w.answers ≡ (house_change lent (take (input_place place) inputs) r a).answers

-- house_change: 9, 12 and 8 of the whole, 6 and 7 of an input
pub record HouseChangeAnswered (lent inputs r a : List ℕ) (w : ImagedRun) : Type 0 where
  pub numbered : Among (code_in w.number) (0 ∷ 9 ∷ 12 ∷ 8 ∷ 6 ∷ 7 ∷ [])
  pub refused : Among (code_in w.number) (9 ∷ 12 ∷ 8 ∷ []) → (place_in w.number ≡ 0) × AsLent lent r a w
  pub stopped : Among (code_in w.number) (6 ∷ 7 ∷ []) → HouseRefusedFrom lent inputs r a (place_in w.number) w
  pub played : is_image lent ≡ true → RanAs (change_call (state_in lent) inputs r a) w
  pub within : Within lent r a w

-- ---- a change from C, cut in two

-- a second change after a first one of k inputs, if none of these was refused: the index of a refused input counts from the first input of all
abbrev pub house_joined : ℕ → ImagedRun → ImagedRun → ImagedRun
house_joined k a b =
    cond (eqb (code_in a.number) 0)
    (record {
      number = packing (code_in b.number) (cond (eqb (code_in b.number) 0) 0 (k + place_in b.number)) (count_in a.number + count_in b.number);
      state = b.state;
      records = take (record_place (count_in a.number)) a.records ++ b.records;
      answers = take k a.answers ++ b.answers;
    })
    a

-- one change, and then the other on the image that came back, into what the first one left of the buffers
abbrev pub house_one_then_the_other : List ℕ → List ℕ → List ℕ → List ℕ → List ℕ → ImagedRun
house_one_then_the_other state one other records answers =
    let a : ImagedRun = house_change state one records answers in
    let k : ℕ = group_count one in
    house_joined k a (house_change a.state other (drop (record_place (count_in a.number)) a.records) (drop k a.answers))
