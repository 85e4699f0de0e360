-- What is claimed of a whole scene change (02, [3]): proved in proofs/Changes.antt.
use Rattle.std.specs.Prelude.{ℕ, ◌+◌, ◌*◌, ◌≤◌, cond, List, [], ◌∷◌, ◌++◌, ◌⊎◌, ◌≡◌, length, take, drop, eqb}
use Rattle.rules.specs.declared.state.State.{State}
use Rattle.rules.specs.declared.record.Record.{Record}
use Rattle.rules.specs.Layout.{input_place, record_place}
use Rattle.rules.specs.Lists.{Played, and_then, unplayed}
use Rattle.rules.specs.Refusals.{stamp_before, GoodGroups, RoomFor}
use Rattle.rules.specs.Runs.{records_octets, over, Whole}
use Rattle.rules.specs.Changes.{group_count, Singles, then_others, change_call}
use Rattle.demands.specs.Demands.{Among, Untouched, records_of}

-- ---- "a change cut in two anywhere is the two changes one after the other"

-- single inputs, and then, where none of them was refused, others
abbrev pub then_singles : Singles → (State → Singles) → Singles
then_singles a others = cond (eqb a.code 0) (then_others a.played others) a

-- a second change after a first one of k inputs, into what the first one left of the buffers: the index of a refused input counts from the first
-- input of all, and both write one after the other
abbrev pub joined_after : ℕ → Whole → Whole → Whole
joined_after k a b =
    record {
      report = record { state = b.report.state; code = b.report.code; place = cond (eqb b.report.code 0) 0 (k + b.report.place); count = a.report.count + b.report.count };
      records = take (record_place a.report.count) a.records ++ b.records;
      answers = take k a.answers ++ b.answers;
    }

-- what is left of the buffers after a change of k inputs
abbrev pub records_left : Whole → List ℕ
records_left a = drop (record_place a.report.count) a.records

abbrev pub answers_left : ℕ → Whole → List ℕ
answers_left k a = drop k a.answers

-- one change where none of its inputs is refused, and then the other; if one is, that ends it
abbrev pub one_then_the_other : State → List ℕ → List ℕ → List ℕ → List ℕ → Whole
one_then_the_other s one other records answers =
    let a : Whole = change_call s one records answers in
    let k : ℕ = group_count one in
    cond (eqb a.report.code 0) (joined_after k a (change_call a.report.state other (records_left a) (answers_left k a))) a

-- ---- cut into any number of changes

-- a change to be made: its inputs, and the buffers that are lent for it
pub record Part : Type 0 where
  pub inputs : List ℕ
  pub records : List ℕ
  pub answers : List ℕ

-- at most 256 whole groups, and buffers that are long enough for them
pub record GoodPart (p : Part) : Type 0 where
  pub groups : GoodGroups p.inputs
  pub room : RoomFor (group_count p.inputs) p.records p.answers

abbrev pub GoodParts : List Part → Type 0
GoodParts [] = Unit
GoodParts (p ∷ later) = GoodPart p × GoodParts later

-- the inputs of all parts, in order
abbrev pub inputs_of : List Part → List ℕ
inputs_of [] = []
inputs_of (p ∷ later) = p.inputs ++ inputs_of later

-- the change of one part
abbrev pub change_of : State → Part → Whole
change_of s p = change_call s p.inputs p.records p.answers

-- what stands in its buffers then: an answer for each input, and as many records as are counted
abbrev pub change_played : Part → Whole → Played
change_played p w = record { state = w.report.state; answers = take (group_count p.inputs) w.answers; records = records_of w }

-- one change after the other, each handed the state that the one before gave
unfoldable pub in_parts : List Part → State → Played
in_parts [] s = unplayed s
in_parts (p ∷ later) s = and_then (change_played p (change_of s p)) (in_parts later)

-- none of them is refused
abbrev pub NoPartRefused : List Part → State → Type 0
NoPartRefused [] s = Unit
NoPartRefused (p ∷ later) s = ((change_of s p).report.code ≡ 0) × NoPartRefused later (change_of s p).report.state

-- ---- demand 1 as 02, [3] restates it: "demand 1 then holds from that input on"

-- An input that is refused, at this place: it has written nothing and has handed back the state it was given. All that there is, report and both
-- buffers, is what the inputs before it give by themselves, and these are accepted; but for the code and the place.
pub record RefusedFrom (s : State) (inputs r a : List ℕ) (place : ℕ) : Type 0 where
  pub accepted : (change_call s (take (input_place place) inputs) r a).report.code ≡ 0
  pub state : (change_call s inputs r a).report.state ≡ (change_call s (take (input_place place) inputs) r a).report.state
  pub count : (change_call s inputs r a).report.count ≡ (change_call s (take (input_place place) inputs) r a).report.count
  pub records : (change_call s inputs r a).records ≡ (change_call s (take (input_place place) inputs) r a).records
  pub answers : (change_call s inputs r a).answers ≡ (change_call s (take (input_place place) inputs) r a).answers

-- A change that is refused as a whole: the state given comes back, the place is 0, and nothing is written.
pub record NothingPlayed (s : State) (r a : List ℕ) (w : Whole) : Type 0 where
  pub untouched : Untouched s r a w
  pub place : w.report.place ≡ 0

-- "gets a numbered answer": a change is accepted; or it is refused as a whole, with 9, 12 or 8; or it stops at an input, with 6 or 7
abbrev pub ChangeAnswered : State → List ℕ → List ℕ → List ℕ → Whole → Type 0
ChangeAnswered s inputs r a w =
    (w.report.code ≡ 0)
    ⊎ ((Among w.report.code (9 ∷ 12 ∷ 8 ∷ []) × NothingPlayed s r a w)
    ⊎ (Among w.report.code (6 ∷ 7 ∷ []) × RefusedFrom s inputs r a w.report.place))

-- ---- how far a change came

-- all of its inputs where it is accepted; else those before the place, which is 0 where nothing was played
abbrev pub reach : List ℕ → Whole → ℕ
reach inputs w = cond (eqb w.report.code 0) (group_count inputs) w.report.place

-- After m inputs there are m answers in their buffer, as many records as are counted in theirs, at most three for each input, and the rest of both
-- buffers is as it was lent. The clock is the stamp of the last of these inputs, or the one given where there is none.
pub record CameTo (s : State) (inputs r a : List ℕ) (w : Whole) (m : ℕ) : Type 0 where
  pub within : m ≤ group_count inputs
  pub answers : (given : List ℕ) × (length given ≡ m) × (w.answers ≡ over given a)
  pub records : (shown : List Record) × (length shown ≡ w.report.count) × (w.records ≡ over (records_octets shown) r)
  pub few : w.report.count ≤ 3 * m
  pub clock : w.report.state.clock ≡ stamp_before inputs s.clock m
