-- What is demanded of the calls of the pair by value, said of any model of them. Ours meet it and no others do (proofs/PairMeets.antt); wrong
-- ones break it (proofs/WrongPairs.antt).
use Rattle.std.specs.Prelude.{ℕ, ◌≡◌, List, [], ◌∷◌, length, Some}
use Rattle.octets.specs.Groups.{stamp_at}
use Rattle.base.specs.Refusals.{Timely}
use Rattle.rules.specs.Calls.{places}
use Rattle.sensor.specs.Calls.{telegram_octets}
use Rattle.sensor.specs.Claims.{silence}
use Rattle.pairs.specs.declared.item.Item.{Item}
use Rattle.pairs.specs.declared.call.Joint.{Joint}
use Rattle.pairs.specs.declared.call.JointMove.{JointMove}
use Rattle.pairs.specs.Items.{item_at}
use Rattle.pairs.specs.Pairs.{Pair, PairMoved, pair_move, PairStepped, pair_step}
use Rattle.pairs.specs.Refusals.{SoundPair, JointCodes, JointMoveCodes}
use Rattle.demands.specs.Demands.{Among}

-- ---- one item

abbrev pub PairModel : Type 0
PairModel = Pair → List ℕ → Joint

-- 1: "each single input to a state, gets a numbered answer": "For a single input 9, 6, 7"
abbrev pub PairAnswersAll : PairModel → Type 0
PairAnswersAll m = (p : Pair) (octets : List ℕ) → Among (m p octets).code (0 ∷ 6 ∷ 7 ∷ 9 ∷ [])

-- each exactly when the table gives it
abbrev pub PairJudges : PairModel → Type 0
PairJudges m = (p : Pair) (octets : List ℕ) → JointCodes p octets (m p octets).code (m p octets).place

-- "A refused call .. hands back the state it was given": both of them; it answers, records and sends nothing
pub record PairHandedBack (p : Pair) (r : Joint) : Type 0 where
  pub state : r.state ≡ p.actuator
  pub sensor : r.sensor ≡ p.sensor
  pub place : r.place ≡ 0
  pub answer : r.answer ≡ 0
  pub count : r.count ≡ 0
  pub records : r.records ≡ places 3 []
  pub sent : r.sent ≡ silence

abbrev pub PairRefusesCleanly : PairModel → Type 0
PairRefusesCleanly m = (p : Pair) (octets : List ℕ) → ((m p octets).code ≡ 0 → ⊥) → PairHandedBack p (m p octets)

-- an item that no row of the table refuses
pub record PairAccepted (p : Pair) (octets : List ℕ) (i : Item) : Type 0 where
  pub sound : SoundPair p
  pub known : item_at octets 0 ≡ Some i
  pub timely : Timely p.actuator.clock (stamp_at octets 0)

-- 2: what the pair does with it at t
pub record PairHolds (t : ℕ) (d : PairStepped) (r : Joint) : Type 0 where
  pub state : r.state ≡ d.pair.actuator
  pub sensor : r.sensor ≡ d.pair.sensor
  pub answer : r.answer ≡ d.answer
  pub count : r.count ≡ length d.records
  pub records : r.records ≡ places 3 d.records
  pub sent : r.sent ≡ telegram_octets t d.telegram

abbrev pub PairPlays : PairModel → Type 0
PairPlays m = (p : Pair) (octets : List ℕ) (i : Item) → PairAccepted p octets i → PairHolds (stamp_at octets 0) (pair_step p i (stamp_at octets 0)) (m p octets)

pub record PairMeets (m : PairModel) : Type 0 where
  pub answers_all : PairAnswersAll m
  pub judges : PairJudges m
  pub refuses_cleanly : PairRefusesCleanly m
  pub plays : PairPlays m

-- ---- a clock move

abbrev pub PairMoveModel : Type 0
PairMoveModel = Pair → ℕ → JointMove

-- "A clock move: 9, 7."
abbrev pub PairMoveAnswersAll : PairMoveModel → Type 0
PairMoveAnswersAll m = (p : Pair) (t : ℕ) → Among (m p t).code (0 ∷ 7 ∷ 9 ∷ [])

abbrev pub PairMoveJudges : PairMoveModel → Type 0
PairMoveJudges m = (p : Pair) (t : ℕ) → JointMoveCodes p t (m p t).code (m p t).place

pub record PairMoveHandedBack (p : Pair) (r : JointMove) : Type 0 where
  pub state : r.state ≡ p.actuator
  pub sensor : r.sensor ≡ p.sensor
  pub place : r.place ≡ 0
  pub count : r.count ≡ 0
  pub records : r.records ≡ places 2 []

abbrev pub PairMoveRefusesCleanly : PairMoveModel → Type 0
PairMoveRefusesCleanly m = (p : Pair) (t : ℕ) → ((m p t).code ≡ 0 → ⊥) → PairMoveHandedBack p (m p t)

pub record PairMoveHolds (d : PairMoved) (r : JointMove) : Type 0 where
  pub state : r.state ≡ d.pair.actuator
  pub sensor : r.sensor ≡ d.pair.sensor
  pub count : r.count ≡ length d.records
  pub records : r.records ≡ places 2 d.records

abbrev pub PairMoves : PairMoveModel → Type 0
PairMoves m = (p : Pair) (t : ℕ) → SoundPair p → Timely p.actuator.clock t → PairMoveHolds (pair_move p t) (m p t)

pub record PairMoveMeets (m : PairMoveModel) : Type 0 where
  pub answers_all : PairMoveAnswersAll m
  pub judges : PairMoveJudges m
  pub refuses_cleanly : PairMoveRefusesCleanly m
  pub moves : PairMoves m
