-- The run over a cue file: what it finds, what it writes, and how much.
use Rattle.std.specs.Prelude.{Option}
use Prim.Native.Nat.{ℕ, ◌+◌, ◌*◌, ◌≤◌, ◌<◌}
use mathlib.Core.Bool.{Bool, true, false}
use mathlib.Core.List.{List, [], ◌∷◌, ◌++◌, append_assoc}
use mathlib.Core.Logic.{◌↔◌, inl, inr}
use mathlib.Core.Path.{◌≡◌, refl, ◌∙◌}
use native.Mathlib.Omega.{arith}
use lib.ListN.{length, drop, length-append}
use lib.Dec.{leb}
use borrow.Author.Tests.{leb-true, le-leb}
use Rattle.rules.specs.declared.state.State.{State}
use Rattle.rules.specs.declared.record.Record.{Record}
use Rattle.rules.specs.declared.call.Ran.{Ran}
use Rattle.base.specs.declared.refusal.Refusal.{Refusal}
use Rattle.base.specs.declared.refusal.Refusal.TheVariants.{WrongLength, WrongVersion, WrongActuators, WrongLayout, BadParameter, BadInput, BadStamp, ShortBuffer}
use Rattle.rules.specs.Steps.{fresh, step}
use Rattle.rules.specs.Lists.{Cue, cue, plays, plays_to, play_list}
use Rattle.base.specs.Refusals.{code_of, place_of, Check}
use Rattle.rules.specs.Calls.{own_state}
use Rattle.rules.specs.Readings.{Reading, cues, bad, verdict, if_lent_enough}
use Rattle.rules.specs.Forms.{form_in}
use Rattle.rules.specs.Files.{input_count, end_time, read_file, lent_for, lent_enough, read_call, params_in, scenes_in}
use Rattle.octets.specs.BigEndian.{octets32}
use Rattle.rules.specs.Layout.{records_room}
use Rattle.rules.specs.Refusals.{StartWhen, InputsWhen, GivenWhen, RoomFor, RunCodes, TakenApart}
use Rattle.rules.specs.Runs.{record_octets, records_octets, over, Whole, play_file, accepted, refused, run_by, run_call, packed, answered_by, house_run}
use Rattle.rules.proofs.Laws.Records.{a_move_writes_at_most_two, an_input_writes_at_most_three}
use Rattle.base.proofs.Tests.{both}
use Rattle.base.proofs.Codes.{codes_of_a_check, one_test_decides, then_decides}
use Rattle.rules.proofs.Laws.Forms.{few_octets}
use Rattle.rules.proofs.Refusals.Readings.{verdict_if_lent}
use Rattle.rules.proofs.Refusals.Files.{good_file, file_decides, refused_exactly_when, cues_are_the_octets}

-- ---- what a run finds

-- The first that fits: the file is at fault, a buffer is too short, or the file is played.
pub data RunFinds (file records answers : List ℕ) : Whole → Type 0 where
  at_fault : (why : Refusal) (place : ℕ) → read_file file ≡ bad why place → RunFinds file records answers (refused why place records answers)
  no_room : (list : List Cue) → read_file file ≡ cues list → lent_enough file records answers ≡ false → RunFinds file records answers (refused ShortBuffer 0 records answers)
  played : (list : List Cue) → read_file file ≡ cues list → lent_enough file records answers ≡ true → RunFinds file records answers (accepted (play_file file list) records answers)

pub run_finds : (file records answers : List ℕ) → RunFinds file records answers (run_call file records answers)
unfolding run_call read_call
run_finds file records answers = by (lent_enough file records answers) (read_file file) refl refl
  where
    by : (b : Bool) (x : Reading Cue) → lent_enough file records answers ≡ b → read_file file ≡ x → RunFinds file records answers (run_by (if_lent_enough b x) file records answers)
    by true (cues list) room read = unfold run_by in played list read room
    by false (cues list) room read = unfold run_by in no_room list read room
    by true (bad why place) room read = unfold run_by in at_fault why place read
    by false (bad why place) room read = unfold run_by in at_fault why place read

-- and the other way round: whatever fits decides the run
module _ (file records answers : List ℕ) where
  pub a_bad_file_is_refused : (why : Refusal) (place : ℕ) → read_file file ≡ bad why place → run_call file records answers ≡ refused why place records answers
  unfolding run_call read_call run_by
  a_bad_file_is_refused why place read = rw (read, either (lent_enough file records answers))
    where
      either : (b : Bool) → let file-is-bad : Reading Cue = bad why place in if_lent_enough b file-is-bad ≡ file-is-bad
      either true = refl
      either false = refl

  pub a_short_buffer_is_refused : (list : List Cue) → read_file file ≡ cues list → lent_enough file records answers ≡ false → run_call file records answers ≡ refused ShortBuffer 0 records answers
  unfolding run_call read_call run_by
  a_short_buffer_is_refused list read room = rw (read, room)

  pub a_good_file_is_played : (list : List Cue) → read_file file ≡ cues list → lent_enough file records answers ≡ true → run_call file records answers ≡ accepted (play_file file list) records answers
  unfolding run_call read_call run_by
  a_good_file_is_played list read room = rw (read, room)

-- its code and its place are those of what it reads
pub run_is_read : (file records answers : List ℕ) → let found : Check = verdict (read_call file records answers) in ((run_call file records answers).report.code ≡ code_of found) × ((run_call file records answers).report.place ≡ place_of found)
unfolding run_call
run_is_read file records answers = by (read_call file records answers)
  where
    by : (x : Reading Cue) → ((run_by x file records answers).report.code ≡ code_of (verdict x)) × ((run_by x file records answers).report.place ≡ place_of (verdict x))
    by (cues list) = unfold run_by accepted in (refl, refl)
    by (bad why place) = unfold run_by refused in (refl, refl)

-- "records, at least 8(3n+3) octets, and answers, at least n"
pub room_exactly_when : (n : ℕ) (records answers : List ℕ) → (lent_for n records answers ≡ true) ↔ RoomFor n records answers
room_exactly_when n records answers = (
  λ h. let e = both (leb (records_room n) (length records)) _ h in record { wide = leb-true _ _ e.0; long = leb-true _ _ e.1 },
  λ r. simp (le-leb (records_room n) (length records) r.wide, le-leb n (length answers) r.long),
)

module _ (file records answers : List ℕ) where
  pub lent_enough_exactly_when : (lent_enough file records answers ≡ true) ↔ RoomFor (input_count file) records answers
  unfolding lent_enough
  lent_enough_exactly_when = room_exactly_when (input_count file) records answers

  -- "Given exactly when", of the run
  pub run_refused_exactly_when : RunCodes file records answers (run_call file records answers).report.code (run_call file records answers).report.place
  unfolding read_call
  run_refused_exactly_when =
      let e = run_is_read file records answers in
      let room = one_test_decides (RoomFor (input_count file) records answers) (lent_enough file records answers) ShortBuffer 0 lent_enough_exactly_when in
      rw (e.0, e.1)
      (codes_of_a_check (verdict (read_call file records answers)) (rw (verdict_if_lent (lent_enough file records answers) (read_file file)) (then_decides _ _ (file_decides file) room)))

-- "A refused call writes nothing to the lent memory", its count is 0, and its state is the fresh one of the table
pub a_refused_run_writes_nothing : (file records answers : List ℕ) → ((run_call file records answers).report.code ≡ 0 → ⊥) →
    let r = (run_call file records answers).report in
    run_call file records answers ≡ record { report = record { state = own_state; code = r.code; place = r.place; count = 0 }; records = records; answers = answers }
a_refused_run_writes_nothing file records answers = by (run_finds file records answers)
  where
    by : {w : Whole} → RunFinds file records answers w → (w.report.code ≡ 0 → ⊥) → w ≡ record { report = record { state = own_state; code = w.report.code; place = w.report.place; count = 0 }; records = records; answers = answers }
    by (at_fault why place read) f = unfold refused in refl
    by (no_room list read room) f = unfold refused in refl
    by (played list read room) f = absurd (f (unfold accepted in refl))

-- ---- how much is written

plays_few : (list : List Cue) (s : State) → length (plays list s).records ≤ 3 * length list
unfolding plays
plays_few [] s = omega arith
plays_few (cue t i ∷ later) s = rw length-append (omega (arith, an_input_writes_at_most_three s i t, plays_few later (step s i t).state))

plays_answers : (list : List Cue) (s : State) → length (plays list s).answers ≡ length list
unfolding plays
plays_answers [] s = refl
plays_answers (cue t i ∷ later) s = rw length-append (omega (arith, plays_answers later (step s i t).state))

-- three for each input, and two for the move to the end
plays_to_few : (end : ℕ) (list : List Cue) (s : State) → length (plays_to end list s).records ≤ 3 * length list + 2
unfolding plays_to
plays_to_few end list s = rw length-append (omega (arith, plays_few list s, a_move_writes_at_most_two (plays list s).state end))

-- the start record, then those of the changes
played_count : (file : List ℕ) (list : List Cue) → length (play_file file list).records ≡ 1 + length (plays_to (end_time file) list (fresh (params_in file) (scenes_in file))).records
unfolding play_file play_list
played_count file list = rw length-append

played_answers : (file : List ℕ) (list : List Cue) → length (play_file file list).answers ≡ length list
unfolding play_file play_list plays_to
played_answers file list = rw (length-append, length-append) (omega (arith, plays_answers list (fresh (params_in file) (scenes_in file))))

pub records_length : (k : List Record) → length (records_octets k) ≡ 8 * length k
unfolding records_octets record_octets octets32
records_length [] = refl
records_length (r ∷ k) = rw length-append (omega (arith, records_length k))

pub records_append : (k l : List Record) → records_octets (k ++ l) ≡ records_octets k ++ records_octets l
unfolding records_octets
records_append [] l = refl
records_append (r ∷ k) l = rw (append_assoc, records_append k l)

-- of a run that is accepted
module _ (file records answers : List ℕ) (list : List Cue) (read : read_file file ≡ cues list) (room : lent_enough file records answers ≡ true) where
  -- one for the start, one for each change that playing shows, and never more than the buffer is asked to hold
  pub record_count_is_one_plus_changes :
      ((run_call file records answers).report.count ≡ 1 + length (plays_to (end_time file) list (fresh (params_in file) (scenes_in file))).records)
      × ((run_call file records answers).report.count ≤ 3 * input_count file + 3)
  unfolding accepted
  record_count_is_one_plus_changes =
      rw (a_good_file_is_played file records answers list read room)
      (played_count file list, omega (arith, played_count file list, plays_to_few (end_time file) list (fresh (params_in file) (scenes_in file)), (cues_are_the_octets file list read).0))

  -- an answer for each input; "Octets past what is written stay."
  pub answers_are_n : (length (play_file file list).answers ≡ input_count file) × ((run_call file records answers).answers ≡ (play_file file list).answers ++ drop (input_count file) answers)
  unfolding accepted over
  answers_are_n =
      let n : length (play_file file list).answers ≡ input_count file = played_answers file list ∙ (cues_are_the_octets file list read).0 in
      (n, rw (a_good_file_is_played file records answers list read room, n))

  -- eight octets for each record, and as many records as are counted
  pub records_are_as_counted : (run_call file records answers).records ≡ records_octets (play_file file list).records ++ drop (8 * (run_call file records answers).report.count) records
  unfolding accepted over
  records_are_as_counted = rw (a_good_file_is_played file records answers list read room, records_length (play_file file list).records)

-- ---- the number to C

-- code, place and count are found again in the number that they are packed into, where place and count have room
pub apart : (r : Ran) → r.place < 65_536 → r.count < 4_294_967_296 → TakenApart (packed r) r
unfolding packed
apart r narrow few =
    record {
      code = omega (arith, narrow, few);
      place = omega (arith, narrow, few);
      count = omega (arith, narrow, few);
    }

-- they have: a place is an octet of the parameters or the index of an input, and a count is at most 3n+3
pub narrow_start : (file : List ℕ) (why : Refusal) (p : ℕ) → StartWhen file why p → p < 65_536
narrow_start file WrongLength p g = omega (arith, g.0)
narrow_start file WrongVersion p g = omega (arith, g.0)
narrow_start file WrongActuators p g = omega (arith, g.0)
narrow_start file WrongLayout p g = omega (arith, g.0)
narrow_start file BadParameter p g = omega (arith, g.1.within, (few_octets (form_in file).scale).1)
narrow_start file _ p g = elim g [ ]

pub narrow_input : {A : Type 0} (at : ℕ → Option A) (inputs : List ℕ) (n from to : ℕ) (why : Refusal) (p : ℕ) → InputsWhen at inputs n from to why p → p < n
narrow_input at inputs n from to BadInput p g = g.within
narrow_input at inputs n from to BadStamp p g = g.within
narrow_input {A = A} at inputs n from to _ p g = elim g [ ]

pub narrow_place : (file : List ℕ) (why : Refusal) (p : ℕ) → GivenWhen file why p → p < 65_536
narrow_place file why p (inl g) = narrow_start file why p g
narrow_place file why p (inr g) = omega (arith, narrow_input _ _ _ _ _ why p g.1, g.0.header.layout.few)

pub the_number_is_taken_apart : (file records answers : List ℕ) → TakenApart (house_run file records answers).number (run_call file records answers).report
unfolding house_run answered_by
the_number_is_taken_apart file records answers = by (run_finds file records answers) refl
  where
    by : {w : Whole} → RunFinds file records answers w → run_call file records answers ≡ w → TakenApart (packed w.report) w.report
    by (at_fault why p read) e = unfold refused in apart _ (narrow_place file why p ((refused_exactly_when file why p).0 read)) (omega arith)
    by (no_room list read room) e = unfold refused in apart _ (omega arith) (omega arith)
    by (played list read room) e =
        let few = rw e at (record_count_is_one_plus_changes file records answers list read room).1 in
        unfold accepted in apart _ (omega arith) (omega (arith, few, (good_file file list read).start.header.layout.few))

-- the rest of what C is given is the run's own: both buffers
pub c_is_lent_the_same_buffers : (file records answers : List ℕ) →
    ((house_run file records answers).records ≡ (run_call file records answers).records) × ((house_run file records answers).answers ≡ (run_call file records answers).answers)
unfolding house_run answered_by
c_is_lent_the_same_buffers file records answers = (refl, refl)
