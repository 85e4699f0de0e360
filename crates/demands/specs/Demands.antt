-- What the customer demands of a run, said of any model of it: of ours, and of every wrong one. Ours meets all of it
-- (proofs/Meets.antt), and each wrong model that document 01 names breaks what it is to break (proofs/WrongModels.antt).
use Rattle.std.specs.Prelude.{ℕ, zero, suc, ◌+◌, ◌≤◌, cond, ◌≡◌, ◌⊎◌, List, [], ◌∷◌, length, drop}
use Rattle.octets.specs.BigEndian.{octet, be32}
use Rattle.rules.specs.declared.parameters.Params.{Params}
use Rattle.rules.specs.declared.parameters.Scene.{Scene}
use Rattle.rules.specs.declared.state.State.{State}
use Rattle.rules.specs.declared.record.Record.{Record}
use Rattle.rules.specs.declared.call.Single.{Single}
use Rattle.rules.specs.Layout.{record_size}
use Rattle.rules.specs.Status.{same_status}
use Rattle.rules.specs.Steps.{fresh, tick, clock_move, step}
use Rattle.rules.specs.Lists.{Cue, cue, Played}
use Rattle.base.specs.Refusals.{code_of, place_of}
use Rattle.rules.specs.Calls.{own_state, places}
use Rattle.rules.specs.Readings.{Reading, cues, verdict}
use Rattle.rules.specs.Files.{end_time, read_call, params_in, scenes_in}
use Rattle.rules.specs.Runs.{records_octets, over, Whole, play_file}
use Rattle.rules.specs.Promises.{DarkShown, LightStamped}

-- a run: from the octets of a file and of the two lent buffers, records and answers, to the report and both buffers at exit
abbrev pub Model : Type 0
Model = List ℕ → List ℕ → List ℕ → Whole

-- ---- 1

-- one of these numbers
abbrev pub Among : ℕ → List ℕ → Type 0
Among n [] = ⊥
Among n (one ∷ others) = (n ≡ one) ⊎ Among n others

-- "Every octet string offered as a cue file .. gets a numbered answer, with no condition on the caller."
-- (".. and each single input to a state ..": `SingleAnswers`, below)
abbrev pub AnswersAll : Model → Type 0
AnswersAll m = (file records answers : List ℕ) → (m file records answers).report.code ≤ 8

-- both buffers are as they were lent, no record is counted, and the state is this one
pub record Untouched (given : State) (lentRecords lentAnswers : List ℕ) (w : Whole) : Type 0 where
  pub records : w.records ≡ lentRecords
  pub answers : w.answers ≡ lentAnswers
  pub count : w.report.count ≡ 0
  pub state : w.report.state ≡ given

-- "A refused call writes nothing to the lent memory and hands back the state it was given."; "Where no state was handed in, a refusal's state is
-- the fresh one with TimedOn 1 second, other times and modes 0, no scenes."
abbrev pub RefusesCleanly : Model → Type 0
RefusesCleanly m = (file records answers : List ℕ) → ((m file records answers).report.code ≡ 0 → ⊥) → Untouched own_state records answers (m file records answers)

-- 01: "two lent octet buffers": what is lent keeps its length, so that nothing is written past its end
abbrev pub StaysWithin : Model → Type 0
StaysWithin m = (file records answers : List ℕ) → (length (m file records answers).records ≡ length records) × (length (m file records answers).answers ≡ length answers)

-- the state is the one given, and "Record count, a single input's answer and all by-value records are 0 on refusal"
pub record HandedBack (given : State) (r : Single) : Type 0 where
  pub state : r.state ≡ given
  pub answer : r.answer ≡ 0
  pub count : r.count ≡ 0
  pub records : r.records ≡ places 3 []

-- the same of any call that plays a single input, from a state and eight octets by value: ".. and each single input to a state,
-- gets a numbered answer" ("For a single input 9, 6, 7, place 0."), and a refused one "hands back the state it was given"
pub record SingleAnswers (call : State → List ℕ → Single) : Type 0 where
  pub numbered : (s : State) (octets : List ℕ) → Among (call s octets).code (0 ∷ 6 ∷ 7 ∷ 9 ∷ [])
  pub placed : (s : State) (octets : List ℕ) → (call s octets).place ≡ 0
  pub handed_back : (s : State) (octets : List ℕ) → ((call s octets).code ≡ 0 → ⊥) → HandedBack s (call s octets)

-- ---- 2: "Records, answers and end state are those of KNX 7/20/2 Supplement 1 .. and of document 01's rules where it is silent,
-- input by input and timer by timer."

-- 01: "demand 2, which accepts each file outside the table"; "Given exactly when", with its place. Of a cue file `read_call` says what the table
-- finds.
abbrev pub Judges : {A : Type 0} → (List ℕ → List ℕ → List ℕ → Reading A) → Model → Type 0
Judges read m =
    (file records answers : List ℕ) → ((m file records answers).report.code ≡ code_of (verdict (read file records answers))) × ((m file records answers).report.place ≡ place_of (verdict (read file records answers)))

-- so it is of every run that the table accepts
abbrev pub OfEveryAccepted : {A : Type 0} → (List ℕ → List ℕ → List ℕ → Reading A) → (List ℕ → List ℕ → List ℕ → List A → Type 0) → Type 0
OfEveryAccepted {A} read P = (file records answers : List ℕ) (list : List A) → read file records answers ≡ cues list → P file records answers list

-- what was played: the end state, and both buffers ("Octets past what is written stay.")
pub record Holds (lentRecords lentAnswers : List ℕ) (p : Played) (w : Whole) : Type 0 where
  pub state : w.report.state ≡ p.state
  pub records : w.records ≡ over (records_octets p.records) lentRecords
  pub answers : w.answers ≡ over p.answers lentAnswers

-- 01: "demand 2 over the whole list"
abbrev pub PlaysAll : Model → Type 0
PlaysAll m = OfEveryAccepted read_call (λ file records answers list. Holds records answers (play_file file list) (m file records answers))

-- 1 where value or attributes changed
unfoldable pub changed : State → State → ℕ
changed before after = cond (same_status before after) 0 1

-- the timers due up to t that changed them, "at most three"
unfoldable pub changed_by_timers : State → ℕ → ℕ
changed_by_timers s t =
    let a : State = tick s t in
    let b : State = tick a t in
    changed s a + (changed a b + changed b (tick b t))

-- the timers and inputs of a list that changed them, from a state to the end
unfoldable pub changes : ℕ → List Cue → State → ℕ
changes end [] s = changed_by_timers s end
changes end (cue t i ∷ later) s = changed_by_timers s t + (changed (clock_move s t).state (step s i t).state + changes end later (step s i t).state)

-- 01: "that count is the number of changes the phase rules give"; "One record is written at the start, then one after each timer or
-- input that changed value or attributes."
abbrev pub CountsChanges : Model → Type 0
CountsChanges m =
    OfEveryAccepted read_call (λ file records answers list. (m file records answers).report.count ≡ 1 + changes (end_time file) list (fresh (params_in file) (scenes_in file)))

-- ---- 3: "Nobody waits for ever, for any accepted list."

-- this many records, read back from a buffer: "A record is 8 octets: stamp, value, attributes, cause, zero."
unfoldable pub records_in : ℕ → List ℕ → List Record
records_in zero buffer = []
records_in (suc n) buffer =
    record { stamp = be32 buffer 0; value = octet buffer 4; attributes = octet buffer 5; cause = octet buffer 6 } ∷ records_in n (drop record_size buffer)

-- those that a model has written
abbrev pub records_of : Whole → List Record
records_of w = records_in w.report.count w.records

-- what is promised of a list, with its parameters, scenes and end time, is kept by the records that the model has written for it
abbrev pub Keeps : (Params → List Scene → List Cue → ℕ → List Record → Type 0) → Model → Type 0
Keeps Promise m = OfEveryAccepted read_call (λ file records answers list. Promise (params_in file) (scenes_in file) list (end_time file) (records_of (m file records answers)))

-- "Dark: .. the output is off at t."
abbrev pub KeepsDark : Model → Type 0
KeepsDark = Keeps DarkShown

-- "Light: an On, timed start or scene-on taken at a shows the output on at some moment from a to a plus on delay ..", as far as
-- the stamps of the records tell; of our own run all of it is proved (proofs/EveryFile.antt)
abbrev pub KeepsLight : Model → Type 0
KeepsLight = Keeps LightStamped

-- ---- "So the model has to meet three things.": those that a run is asked for

pub record Meets (m : Model) : Type 0 where
  pub answers_all : AnswersAll m
  pub refuses_cleanly : RefusesCleanly m
  pub stays_within : StaysWithin m
  pub judges : Judges read_call m
  pub plays_all : PlaysAll m
  pub counts_changes : CountsChanges m
  pub keeps_dark : KeepsDark m
  pub keeps_light : KeepsLight m
