-- The live calls from C: refused exactly when the table says, answered whatever is lent, and what they leave is an image again.
use Rattle.std.specs.Prelude.{Ok, Err}
use Prim.Native.Nat.{ℕ, ◌+◌, ◌%◌, ◌≤◌, ◌<◌}
use mathlib.Core.Bool.{Bool, true, false, cond}
use mathlib.Core.List.{List, [], ◌∷◌, ◌++◌}
use mathlib.Core.Logic.{◌↔◌, inl, inr, ⊎_elim}
use mathlib.Core.Path.{◌≡◌, refl, sym, ap, ◌∙◌}
use native.Mathlib.Omega.{arith}
use lib.ListN.{length, take, drop, length-take}
use lib.Dec.{eqb, leb}
use borrow.Author.Tests.{eqb-true, eq-eqb, leb-true, le-leb}
use Rattle.base.specs.declared.refusal.Refusal.{Refusal}
use Rattle.base.specs.declared.refusal.Refusal.TheVariants.{WrongLength, BadParameter, BadStamp, ShortBuffer, UnsoundState}
use Rattle.base.specs.Refusals.{number, code_of, place_of, stamp_in_range, if_not, or_else, Only, Then, Decides, Codes, Timely, Check, refused_with}
use Rattle.base.proofs.Tests.{no}
use Rattle.base.proofs.Codes.{some_number, codes_of_a_check, one_test_decides, then_decides, timely_exactly_when, same_row}
use Rattle.rules.specs.Layout.{form_alone, input_place, record_place}
use Rattle.rules.specs.Parameters.{scenes_of, check_alone}
use Rattle.rules.specs.declared.state.State.{State}
use Rattle.rules.specs.declared.call.Move.{Move}
use Rattle.rules.specs.declared.call.Ran.{Ran}
use Rattle.rules.specs.Steps.{fresh}
use Rattle.rules.specs.Lists.{Cue}
use Rattle.rules.specs.Soundness.{sound}
use Rattle.rules.specs.Calls.{no_scenes, own_state, fresh_by, fresh_call, move_done, move_refused, move_call}
use Rattle.rules.specs.Files.{input_count, end_time, parameters_in, inputs_in, read_file, lent_enough, read_call}
use Rattle.rules.specs.Refusals.{FoundWhen, GoodParameters, GoodFile, RoomFor, GoodGroups, TakenApart}
use Rattle.rules.specs.Readings.{cues, verdict}
use Rattle.rules.specs.Changes.{group_count, groups_in, singles, change_call}
use Rattle.rules.specs.Runs.{Whole, records_octets, accepted, run_call, packing, packed}
use Rattle.rules.specs.Images.{image, state_in, is_image}
use Rattle.rules.specs.Live.{check_fresh, fresh_imaged, house_fresh, check_move, move_imaged, move_by, house_move, imaged, check_run_to, run_imaged, house_run_to, untouched, house_change, change_imaged}
use Rattle.rules.proofs.Laws.Parameters.{lowest_bad_octet}
use Rattle.rules.proofs.Laws.Forms.{few_octets}
use Rattle.rules.proofs.Laws.Images.{image_length, image_is_read_back, image_is_accepted, read_scenes_are_eight, accepted_is_the_image, accepted_is_long, accepted_is_sound}
use Rattle.rules.proofs.Laws.Records.{a_move_writes_at_most_two}
use Rattle.rules.proofs.Laws.Soundness.{move_keeps}
use Rattle.rules.proofs.Refusals.Calls.{MoveFinds, move_finds, good_is_made, fresh_call_is_sound, move_call_keeps_sound}
use Rattle.rules.proofs.Refusals.Readings.{verdict_if_lent}
use Rattle.rules.proofs.Refusals.Files.{file_decides, accepted_exactly_when}
use Rattle.rules.proofs.Refusals.Runs.{apart, run_is_read, records_length, lent_enough_exactly_when, a_good_file_is_played, record_count_is_one_plus_changes, narrow_place}
use Rattle.rules.proofs.Refusals.Changes.{change_refused_exactly_when}
use Rattle.demands.proofs.Meets.{over_length, our_model_meets_every_demand}
use Rattle.demands.proofs.Joined.{run_is_the_calls_joined}
use Rattle.demands.proofs.Changes.{singles_keep, cut_in_two, no_two_codes, every_change_is_answered, refused_as_a_whole, refused_from_that_input_on, a_change_stays_within, a_change_is_narrow, a_change_keeps}
use Rattle.demands.specs.Changes.{joined_after, records_left, answers_left, ChangeAnswered}
use Rattle.demands.specs.Joined.{calls, start_of, calls_of}
use Rattle.demands.specs.Demands.{Among}
use Rattle.demands.specs.Live.{code_in, place_in, count_in, FreshAnswered, MoveAnswered, RunToAnswered, AsLent, RanAs, Within, HouseRefusedFrom, HouseChangeAnswered, house_joined, house_one_then_the_other, NumberCodes, HouseFreshWhen, HouseFreshCodes, HouseMoveCodes, HouseRunToWhen, HouseRunToCodes, HouseChangeCodes}

-- ---- numbers

-- code, place and count are found again in a number
taken : (code place count : ℕ) → place < 65_536 → count < 4_294_967_296 → (code_in (packing code place count) ≡ code) × (place_in (packing code place count) ≡ place) × (count_in (packing code place count) ≡ count)
taken code place count narrow few =
    let t = apart (record { state = own_state; code = code; place = place; count = count }) narrow few in
    let e : packed (record { state = own_state; code = code; place = place; count = count }) ≡ packing code place count = unfold packed in refl in
    (rw e at t.code, rw e at t.place, rw e at t.count)

taken_0 : (code : ℕ) → (code_in (packing code 0 0) ≡ code) × (place_in (packing code 0 0) ≡ 0) × (count_in (packing code 0 0) ≡ 0)
taken_0 code = taken code 0 0 (omega arith) (omega arith)

-- so a call whose number is that of a check is refused as the check decides
by_its_check : {Given : Refusal → ℕ → Type 0} {Good : Type 0} (c : Check) (count n : ℕ) → Decides Given Good c → n ≡ packing (code_of c) (place_of c) count → place_of c < 65_536 → count < 4_294_967_296 → NumberCodes Given Good n
by_its_check c count n decides same narrow few = let t = taken (code_of c) (place_of c) count narrow few in rw (same, t.0, t.1) (codes_of_a_check c decides)

-- and where its code is 0, its check has passed
has_passed : {Given : Refusal → ℕ → Type 0} {Good : Type 0} {c : Check} (n : ℕ) → NumberCodes Given Good n → Decides Given Good c → code_in n ≡ 0 → c ≡ Ok tt
has_passed n codes decides good = decides.passed.1 ((codes.accepted (place_in n)).0 (good, refl)).1

-- ---- scene tables have eight entries

fresh_scenes_are_eight : (parameters : List ℕ) → length (fresh_call parameters).state.scenes ≡ 8
unfolding fresh_call
fresh_scenes_are_eight parameters = by (check_alone parameters)
  where
    by : (c : Check) → length (fresh_by parameters c).state.scenes ≡ 8
    by (Ok _) = unfold fresh_by fresh scenes_of in refl
    by (Err fault) = unfold fresh_by own_state fresh no_scenes in refl

move_keeps_scenes : (s : State) (stamp : ℕ) → length (move_call s stamp).state.scenes ≡ length s.scenes
move_keeps_scenes s stamp = by (move_finds s stamp)
  where
    by : {m : Move} → MoveFinds s stamp m → length m.state.scenes ≡ length s.scenes
    by (MoveFinds.not_sound h) = unfold move_refused in refl
    by (MoveFinds.untimely h t) = unfold move_refused in refl
    by (MoveFinds.moves h t) = unfold move_done in ap (λ (u : State). length u.scenes) (move_keeps s stamp)

-- ---- house_fresh

long_exactly_when : (octets : List ℕ) → (eqb (length octets) 56 ≡ true) ↔ (length octets ≡ 56)
long_exactly_when octets = (eqb-true (length octets) 56, eq-eqb (length octets) 56)

module _ (parameters state : List ℕ) where
  fresh_decides : Decides (HouseFreshWhen parameters state) (GoodParameters (form_alone parameters) parameters × (length state ≡ 56)) (check_fresh parameters state)
  unfolding check_fresh check_alone
  fresh_decides =
      then_decides _ _
      (record { refused = λ why p. lowest_bad_octet (form_alone parameters) parameters (refused_with why p); passed = lowest_bad_octet (form_alone parameters) parameters (Ok tt) })
      (one_test_decides (length state ≡ 56) (eqb (length state) 56) ShortBuffer 0 (long_exactly_when state))

  fresh_number : (house_fresh parameters state).number ≡ packing (code_of (check_fresh parameters state)) (place_of (check_fresh parameters state)) 0
  unfolding house_fresh
  fresh_number = by (check_fresh parameters state)
    where
      by : (c : Check) → (fresh_imaged c parameters state).number ≡ packing (code_of c) (place_of c) 0
      by (Ok _) = unfold fresh_imaged in refl
      by (Err fault) = unfold fresh_imaged in refl

  -- 1 and 5 have the place of an octet at most
  fresh_rows : (why : Refusal) (p : ℕ) → HouseFreshWhen parameters state why p → (p < 65_536) × Among (number why) (0 ∷ 1 ∷ 5 ∷ 8 ∷ [])
  fresh_rows why p (inr g) = (omega (arith, g.1.1), rw g.1.0 (inr (inr (inr (inl refl)))))
  fresh_rows why p (inl g) = found why g
    where
      found : (why : Refusal) → FoundWhen (form_alone parameters) parameters (refused_with why p) → (p < 65_536) × Among (number why) (0 ∷ 1 ∷ 5 ∷ 8 ∷ [])
      found WrongLength h = (omega (arith, h.0), inr (inl refl))
      found BadParameter h = (omega (arith, h.within, (few_octets (form_alone parameters).scale).1), inr (inr (inl refl)))
      found _ h = elim h [ ]

  fresh_narrow : place_of (check_fresh parameters state) < 65_536
  fresh_narrow = by (check_fresh parameters state) refl
    where
      by : (c : Check) → check_fresh parameters state ≡ c → place_of c < 65_536
      by (Ok _) e = omega arith
      by (Err fault) e = (fresh_rows fault.why fault.place ((fresh_decides.refused fault.why fault.place).0 e)).0

  pub house_fresh_refused_exactly_when : HouseFreshCodes parameters state (house_fresh parameters state).number
  house_fresh_refused_exactly_when = by_its_check (check_fresh parameters state) 0 (house_fresh parameters state).number fresh_decides fresh_number fresh_narrow (omega arith)

  fresh_as_checked : (c : Check) → check_fresh parameters state ≡ c → house_fresh parameters state ≡ fresh_imaged c parameters state
  unfolding house_fresh
  fresh_as_checked c e = rw e refl

  -- a numbered answer, whatever is lent: 1, 5 or 8 write nothing, no record is counted, an accepted one leaves the fresh state's image, and what is lent keeps its length
  pub house_fresh_is_answered : FreshAnswered parameters state (house_fresh parameters state)
  house_fresh_is_answered = by (check_fresh parameters state) refl
    where
      by : (c : Check) → check_fresh parameters state ≡ c → FreshAnswered parameters state (house_fresh parameters state)
      by (Ok _) e =
          rw (fresh_as_checked (Ok tt) e)
          (unfold fresh_imaged in record { numbered = inl (taken_0 0).0; counted = (taken_0 0).2; refused = λ f. absurd (f (taken_0 0).0); accepted = λ z. image_is_read_back (fresh_call parameters).state (fresh_scenes_are_eight parameters); within = image_length (fresh_call parameters).state (fresh_scenes_are_eight parameters) ∙ sym (fresh_decides.passed.0 e).1 })
      by (Err fault) e =
          let t = taken (number fault.why) fault.place 0 (rw e at fresh_narrow) (omega arith) in
          rw (fresh_as_checked (Err fault) e)
          (unfold fresh_imaged in record { numbered = rw t.0 (fresh_rows fault.why fault.place ((fresh_decides.refused fault.why fault.place).0 e)).1; counted = t.2; refused = λ f. refl; accepted = λ z. absurd (omega (arith, z, t.0, some_number fault.why)); within = refl })

  -- an accepted one leaves an image, to be played on from
  pub a_fresh_state_is_an_image : code_in (house_fresh parameters state).number ≡ 0 → is_image (house_fresh parameters state).state ≡ true
  a_fresh_state_is_an_image good =
      rw (fresh_as_checked (Ok tt) (has_passed (house_fresh parameters state).number house_fresh_refused_exactly_when fresh_decides good))
      (unfold fresh_imaged in image_is_accepted (fresh_call parameters).state (fresh_scenes_are_eight parameters) (fresh_call_is_sound parameters))

-- ---- house_move

module _ (state : List ℕ) (stamp : ℕ) (records : List ℕ) where
  move_decides : let Image : Type 0 = is_image state ≡ true in
      let InTime : Type 0 = Timely (state_in state).clock stamp in
      let Room : Type 0 = 16 ≤ length records in
      Decides (Then (Only UnsoundState 0 (Image → ⊥)) Image (Then (Only BadStamp 0 (InTime → ⊥)) InTime (Only ShortBuffer 0 (Room → ⊥)))) (Image × (InTime × Room)) (check_move state stamp records)
  unfolding check_move
  move_decides =
      then_decides _ _ (one_test_decides (is_image state ≡ true) (is_image state) UnsoundState 0 (λ h. h, λ h. h))
      (then_decides _ _ (one_test_decides (Timely (state_in state).clock stamp) (stamp_in_range (state_in state).clock stamp) BadStamp 0 (timely_exactly_when (state_in state).clock stamp))
      (one_test_decides (16 ≤ length records) (leb 16 (length records)) ShortBuffer 0 (leb-true 16 (length records), le-leb 16 (length records))))

  -- 9, 7 and 8, each with the place 0
  move_rows : let found : Check = check_move state stamp records in (place_of found ≡ 0) × Among (code_of found) (0 ∷ 9 ∷ 7 ∷ 8 ∷ [])
  unfolding check_move
  move_rows = by (is_image state) (stamp_in_range (state_in state).clock stamp) (leb 16 (length records))
    where
      by : (a b c : Bool) → let found : Check = or_else (if_not a UnsoundState) (or_else (if_not b BadStamp) (if_not c ShortBuffer)) in (place_of found ≡ 0) × Among (code_of found) (0 ∷ 9 ∷ 7 ∷ 8 ∷ [])
      by false b c = (refl, inr (inl refl))
      by true false c = (refl, inr (inr (inl refl)))
      by true true false = (refl, inr (inr (inr (inl refl))))
      by true true true = (refl, inl refl)

  move_as_checked : (c : Check) → check_move state stamp records ≡ c → house_move state stamp records ≡ move_by c state stamp records
  unfolding house_move
  move_as_checked c e = rw e refl

  -- a move that is made writes at most two records
  made : check_move state stamp records ≡ (Ok tt) → let m : Move = move_call (state_in state) stamp in (m.code ≡ 0) × (m.place ≡ 0) × (m.count ≤ 2)
  unfolding move_done
  made e =
      let good = move_decides.passed.0 e in
      rw (good_is_made (state_in state) stamp (accepted_is_sound state good.0) ((timely_exactly_when (state_in state).clock stamp).1 good.1.0)) (refl, refl, a_move_writes_at_most_two (state_in state) stamp)

  move_number : (n : ℕ) × (n ≤ 2) × ((house_move state stamp records).number ≡ packing (code_of (check_move state stamp records)) (place_of (check_move state stamp records)) n)
  move_number = by (check_move state stamp records) refl
    where
      by : (c : Check) → check_move state stamp records ≡ c → (n : ℕ) × (n ≤ 2) × ((house_move state stamp records).number ≡ packing (code_of c) (place_of c) n)
      by (Err fault) e = (0, omega arith, rw (move_as_checked (Err fault) e) (unfold move_by in refl))
      by (Ok _) e = let m = made e in ((move_call (state_in state) stamp).count, m.2, rw (move_as_checked (Ok tt) e) (unfold move_by move_imaged in rw (m.0, m.1) refl))

  pub house_move_refused_exactly_when : HouseMoveCodes state stamp records (house_move state stamp records).number
  house_move_refused_exactly_when =
      let n = move_number in
      by_its_check (check_move state stamp records) n.0 (house_move state stamp records).number move_decides n.2 (omega (arith, move_rows.0)) (omega (arith, n.1))

  -- a numbered answer, whatever is lent: 9, 7 or 8 write nothing, an accepted one gives what the clock move by value gives, and what is lent keeps its length
  pub house_move_is_answered : MoveAnswered state stamp records (house_move state stamp records)
  unfolding move_by move_imaged
  house_move_is_answered = by (check_move state stamp records) refl
    where
      by : (c : Check) → check_move state stamp records ≡ c → MoveAnswered state stamp records (house_move state stamp records)
      by (Err fault) e =
          let t = taken (number fault.why) fault.place 0 (omega (arith, rw e at move_rows.0)) (omega arith) in
          rw (move_as_checked (Err fault) e)
          (record { numbered = rw t.0 (rw e at move_rows.1); refused = λ f. (t.2, refl, refl); accepted = λ z. absurd (omega (arith, z, t.0, some_number fault.why)); within = (refl, refl) })
      by (Ok _) e =
          let good = move_decides.passed.0 e in
          let m : Move = move_call (state_in state) stamp in
          let few = made e in
          let t = taken m.code m.place m.count (omega (arith, few.1)) (omega (arith, few.2)) in
          let code = t.0 ∙ few.0 in
          let eight = move_keeps_scenes (state_in state) stamp ∙ read_scenes_are_eight state in
          let fits : length (records_octets (take m.count m.records)) ≤ length records = omega (arith, records_length (take m.count m.records), length-take m.count m.records, few.2, good.1.1) in
          rw (move_as_checked (Ok tt) e)
          (record { numbered = inl code; refused = λ f. absurd (f code); accepted = λ z. record { state = image_is_read_back m.state eight; count = t.2; records = refl }; within = (image_length m.state eight ∙ sym (accepted_is_long state good.0), over_length (records_octets (take m.count m.records)) records fits) })

  -- an accepted one leaves an image, to be played on from
  pub a_moved_state_is_an_image : code_in (house_move state stamp records).number ≡ 0 → is_image (house_move state stamp records).state ≡ true
  a_moved_state_is_an_image code =
      let passed = has_passed (house_move state stamp records).number house_move_refused_exactly_when move_decides code in
      let safe = accepted_is_sound state (move_decides.passed.0 passed).0 in
      rw (move_as_checked (Ok tt) passed)
      (unfold move_by move_imaged in image_is_accepted (move_call (state_in state) stamp).state (move_keeps_scenes (state_in state) stamp ∙ read_scenes_are_eight state) (move_call_keeps_sound (state_in state) stamp safe))

-- ---- house_run_to

-- what the calls of a file lead to is sound, and its table has eight entries
the_calls_keep : (file : List ℕ) → (sound (calls_of file).state ≡ true) × (length (calls_of file).state.scenes ≡ 8)
unfolding calls_of calls start_of
the_calls_keep file =
    let s : State = (fresh_call (parameters_in file)).state in
    let kept = singles_keep 0 (groups_in (inputs_in file)) s (fresh_call_is_sound (parameters_in file)) in
    let last : State = (singles 0 (groups_in (inputs_in file)) s).played.state in
    (move_call_keeps_sound last (end_time file) kept.0, move_keeps_scenes last (end_time file) ∙ kept.2 ∙ fresh_scenes_are_eight (parameters_in file))

module _ (file state records answers : List ℕ) where
  abbrev Room : Type 0
  Room = RoomFor (input_count file) records answers

  run_to_decides : Decides (HouseRunToWhen file state records answers) ((GoodFile file × Room) × (length state ≡ 56)) (check_run_to file state records answers)
  unfolding check_run_to read_call
  run_to_decides =
      let room = one_test_decides Room (lent_enough file records answers) ShortBuffer 0 (lent_enough_exactly_when file records answers) in
      rw (verdict_if_lent (lent_enough file records answers) (read_file file))
      (then_decides _ _ (then_decides _ _ (file_decides file) room) (one_test_decides (length state ≡ 56) (eqb (length state) 56) ShortBuffer 0 (long_exactly_when state)))

  run_to_narrow : place_of (check_run_to file state records answers) < 65_536
  run_to_narrow = by (check_run_to file state records answers) refl
    where
      by : (c : Check) → check_run_to file state records answers ≡ c → place_of c < 65_536
      by (Ok _) e = omega arith
      by (Err fault) e = given ((run_to_decides.refused fault.why fault.place).0 e)
        where
          given : HouseRunToWhen file state records answers fault.why fault.place → fault.place < 65_536
          given (inl (inl g)) = narrow_place file fault.why fault.place g
          given (inl (inr g)) = omega (arith, g.1.1)
          given (inr g) = omega (arith, g.1.1)

  run_to_as_checked : (c : Check) → check_run_to file state records answers ≡ c → house_run_to file state records answers ≡ run_imaged c file state records answers
  unfolding house_run_to
  run_to_as_checked c e = rw e refl

  abbrev run : Ran
  run = (run_call file records answers).report

  -- a run that is accepted: code, place and count, and where it ends
  module _ (passed : check_run_to file state records answers ≡ Ok tt) where
    read : (list : List Cue) × (read_file file ≡ cues list)
    read = (accepted_exactly_when file).1 (run_to_decides.passed.0 passed).0.0

    room : lent_enough file records answers ≡ true
    room = (lent_enough_exactly_when file records answers).1 (run_to_decides.passed.0 passed).0.1

    ran : ((run_call file records answers).report.code ≡ 0) × ((run_call file records answers).report.place ≡ 0) × (run.count < 4_294_967_296)
    unfolding accepted
    ran =
        let few = (record_count_is_one_plus_changes file records answers read.0 read.1 room).1 in
        let played = a_good_file_is_played file records answers read.0 read.1 room in
        (rw played refl, rw played refl, omega (arith, few, (run_to_decides.passed.0 passed).0.0.start.header.layout.few))

    ended : (sound (run_call file records answers).report.state ≡ true) × (length (run_call file records answers).report.state.scenes ≡ 8)
    unfolding accepted
    ended = rw (run_is_the_calls_joined file records answers read.0 read.1 room) (the_calls_keep file)

  run_to_number : (n : ℕ) × (n < 4_294_967_296) × ((house_run_to file state records answers).number ≡ packing (code_of (check_run_to file state records answers)) (place_of (check_run_to file state records answers)) n)
  run_to_number = by (check_run_to file state records answers) refl
    where
      by : (c : Check) → check_run_to file state records answers ≡ c → (n : ℕ) × (n < 4_294_967_296) × ((house_run_to file state records answers).number ≡ packing (code_of c) (place_of c) n)
      by (Err fault) e = (0, omega arith, rw (run_to_as_checked (Err fault) e) (unfold run_imaged in refl))
      by (Ok _) e = let m = ran e in (run.count, m.2, rw (run_to_as_checked (Ok tt) e) (unfold run_imaged imaged packed in rw (m.0, m.1) refl))

  pub house_run_to_refused_exactly_when : HouseRunToCodes file state records answers (house_run_to file state records answers).number
  house_run_to_refused_exactly_when =
      let n = run_to_number in
      by_its_check (check_run_to file state records answers) n.0 (house_run_to file state records answers).number run_to_decides n.2 run_to_narrow n.1

  -- the numbers of the run, and 8 for the lent state
  run_to_table : code_of (check_run_to file state records answers) ≤ 8
  unfolding check_run_to
  run_to_table = room_last (verdict (read_call file records answers)) (rw (run_is_read file records answers).0 at (our_model_meets_every_demand.answers_all file records answers)) (eqb (length state) 56)
    where
      room_last : (c : Check) → code_of c ≤ 8 → (b : Bool) → code_of (or_else c (cond b (Ok tt) (refused_with ShortBuffer 0))) ≤ 8
      room_last (Ok _) few true = omega arith
      room_last (Ok _) few false = omega arith
      room_last (Err fault) few b = few

  -- a numbered answer, whatever is lent: 1 to 8 write nothing, an accepted one gives what the run gives, and what is lent keeps its length
  pub house_run_to_is_answered : RunToAnswered file state records answers (house_run_to file state records answers)
  unfolding run_imaged imaged
  house_run_to_is_answered = by (check_run_to file state records answers) refl
    where
      by : (c : Check) → check_run_to file state records answers ≡ c → RunToAnswered file state records answers (house_run_to file state records answers)
      by (Err fault) e =
          let t = taken (number fault.why) fault.place 0 (rw e at run_to_narrow) (omega arith) in
          rw (run_to_as_checked (Err fault) e)
          (record {
            numbered = rw t.0 (rw e at run_to_table);
            refused = λ f. record { count = t.2; state = refl; records = refl; answers = refl };
            accepted = λ z. absurd (omega (arith, z, t.0, some_number fault.why));
            within = record { state = refl; records = refl; answers = refl };
          })
      by (Ok _) e =
          let m = ran e in
          let t = apart run (omega (arith, m.1)) m.2 in
          let code = t.code ∙ m.0 in
          let within = our_model_meets_every_demand.stays_within file records answers in
          rw (run_to_as_checked (Ok tt) e)
          (record {
            numbered = omega (arith, code);
            refused = λ f. absurd (f code);
            accepted = λ z. record { state = image_is_read_back run.state (ended e).1; count = t.count; records = refl; answers = refl };
            within = record { state = image_length run.state (ended e).1 ∙ sym (run_to_decides.passed.0 e).1; records = within.0; answers = within.1 };
          })

  -- "play a show to its end and go on live from there": an accepted one leaves an image
  pub a_show_ends_in_an_image : code_in (house_run_to file state records answers).number ≡ 0 → is_image (house_run_to file state records answers).state ≡ true
  a_show_ends_in_an_image code =
      let passed = has_passed (house_run_to file state records answers).number house_run_to_refused_exactly_when run_to_decides code in
      rw (run_to_as_checked (Ok tt) passed) (unfold run_imaged imaged in image_is_accepted run.state (ended passed).1 (ended passed).0)

-- ---- house_change

-- the first row holds: its code, whatever the others say
first_row_holds : {Good Fine : Type 0} {Next : Refusal → ℕ → Type 0} (row : Refusal) → (Good → ⊥) → Codes (Then (Only row 0 (Good → ⊥)) Good Next) (Good × Fine) (number row) 0
first_row_holds row not =
    codes_of_a_check (refused_with row 0)
    (record {
      refused = λ why p. (λ e. let same = same_row row why 0 p e in inl (sym same.0, sym same.1, not), λ g. ⊎_elim (λ f. rw (f.0, f.1) refl) (λ n. absurd (not n.0)) g);
      passed = (λ e. absurd (let z : ◌≡◌ {A = ℕ} 0 1 = cc in omega arith), λ g. absurd (not g.0));
    })

-- the first row does not hold: it may say so in other words
in_other_words : {Good Same Fine : Type 0} {Next : Refusal → ℕ → Type 0} {row : Refusal} {code place : ℕ} → Good → Same → Codes (Then (Only row 0 (Good → ⊥)) Good Next) (Good × Fine) code place → Codes (Then (Only row 0 (Same → ⊥)) Same Next) (Same × Fine) code place
in_other_words good same c =
    record {
      refused = λ why p. (
        λ e. ⊎_elim (λ f. absurd (f.2 good)) (λ n. inr (same, n.1)) ((c.refused why p).0 e),
        λ g. (c.refused why p).1 (⊎_elim (λ f. absurd (f.2 same)) (λ n. inr (good, n.1)) g),
      );
      accepted = λ p. (λ e. let g = (c.accepted p).0 e in (g.0, (same, g.1.1)), λ g. (c.accepted p).1 (g.0, (good, g.1.1)));
    }

module _ (state inputs r a : List ℕ) where
  -- octets that are no image of a sound state are refused with 9, and nothing is written
  pub no_image_is_refused : is_image state ≡ false → house_change state inputs r a ≡ untouched UnsoundState 0 state r a
  unfolding house_change change_imaged
  no_image_is_refused e = rw e refl

  -- of an image, all is the change's: code, place and count are found again in the number, and `change_refused_exactly_when` says when each is given
  module _ (is : is_image state ≡ true) where
    pub an_image_is_changed : house_change state inputs r a ≡ imaged (change_call (state_in state) inputs r a)
    unfolding house_change change_imaged
    an_image_is_changed = rw is refl

    pub the_change_number_is_taken_apart : TakenApart (house_change state inputs r a).number (change_call (state_in state) inputs r a).report
    unfolding imaged
    the_change_number_is_taken_apart = rw an_image_is_changed (apart (change_call (state_in state) inputs r a).report narrow.0 narrow.1)
      where
        narrow : ((change_call (state_in state) inputs r a).report.place < 65_536) × ((change_call (state_in state) inputs r a).report.count < 4_294_967_296)
        narrow = a_change_is_narrow (state_in state) inputs r a

    -- what comes back is an image again, whatever was refused: the house may be played on from it
    pub what_comes_back_is_an_image : is_image (house_change state inputs r a).state ≡ true
    unfolding imaged
    what_comes_back_is_an_image =
        let kept = a_change_keeps (state_in state) inputs r a (accepted_is_sound state is) in
        rw an_image_is_changed (image_is_accepted (change_call (state_in state) inputs r a).report.state (kept.2 ∙ read_scenes_are_eight state) kept.0)

  -- 9 exactly when the octets are no image, then 12, 8, and 6 or 7 of the first input that they hold for
  pub house_change_refused_exactly_when : HouseChangeCodes state inputs r a (house_change state inputs r a).number
  house_change_refused_exactly_when = by (is_image state) refl
    where
      by : (b : Bool) → is_image state ≡ b → HouseChangeCodes state inputs r a (house_change state inputs r a).number
      by true e =
          let t = the_change_number_is_taken_apart e in
          rw (t.code, t.place) (in_other_words (accepted_is_sound state e) e (change_refused_exactly_when (state_in state) inputs r a))
      by false e =
          let t = taken_0 9 in
          rw (no_image_is_refused e, t.0, t.1) (first_row_holds UnsoundState (λ is. no (sym e ∙ is)))

-- of an image: the answer of the change
module _ (state inputs r a : List ℕ) (is : is_image state ≡ true) where
  abbrev w : Whole
  w = change_call (state_in state) inputs r a

  image_numbered : Among w.report.code (0 ∷ 9 ∷ 12 ∷ 8 ∷ 6 ∷ 7 ∷ [])
  image_numbered = by (every_change_is_answered (state_in state) inputs r a)
    where
      by : ChangeAnswered (state_in state) inputs r a w → Among w.report.code (0 ∷ 9 ∷ 12 ∷ 8 ∷ 6 ∷ 7 ∷ [])
      by (inl e) = inl e
      by (inr (inl (inl e, n))) = inr (inl e)
      by (inr (inl (inr (inl e), n))) = inr (inr (inl e))
      by (inr (inl (inr (inr (inl e)), n))) = inr (inr (inr (inl e)))
      by (inr (inr (inl e, n))) = inr (inr (inr (inr (inl e))))
      by (inr (inr (inr (inl e), n))) = inr (inr (inr (inr (inr (inl e)))))
      by (inr (inl (inr (inr (inr x7)), n))) = elim x7 [ ]
      by (inr (inr (inr (inr x8), n))) = elim x8 [ ]

  image_refused : Among w.report.code (9 ∷ 12 ∷ 8 ∷ []) → (place_in (house_change state inputs r a).number ≡ 0) × AsLent state r a (house_change state inputs r a)
  unfolding imaged
  image_refused one =
      let whole = refused_as_a_whole (state_in state) inputs r a one in
      let n = whole.untouched in
      let c = an_image_is_changed state inputs r a is in
      let t = the_change_number_is_taken_apart state inputs r a is in (
        t.place ∙ whole.place,
        record { count = t.count ∙ n.count; state = rw c (ap image n.state ∙ accepted_is_the_image state is); records = rw c n.records; answers = rw c n.answers },
      )

  image_stopped : Among w.report.code (6 ∷ 7 ∷ []) → HouseRefusedFrom state inputs r a w.report.place (house_change state inputs r a)
  unfolding imaged
  image_stopped one =
      let f = refused_from_that_input_on (state_in state) inputs r a one in
      let before : List ℕ = take (input_place w.report.place) inputs in
      let c = an_image_is_changed state inputs r a is in
      let d = an_image_is_changed state before r a is in
      let t = the_change_number_is_taken_apart state before r a is in
      record {
        accepted = t.code ∙ f.accepted;
        count = (the_change_number_is_taken_apart state inputs r a is).count ∙ f.count ∙ sym t.count;
        state = rw (c, d) (ap image f.state);
        records = rw (c, d) f.records;
        answers = rw (c, d) f.answers;
      }

  image_ran : RanAs w (house_change state inputs r a)
  unfolding imaged
  image_ran =
      let c = an_image_is_changed state inputs r a is in
      let eight = (a_change_keeps (state_in state) inputs r a (accepted_is_sound state is)).2 ∙ read_scenes_are_eight state in
      record { state = rw c (image_is_read_back w.report.state eight); count = (the_change_number_is_taken_apart state inputs r a is).count; records = rw c refl; answers = rw c refl }

  image_within : Within state r a (house_change state inputs r a)
  unfolding imaged
  image_within =
      let c = an_image_is_changed state inputs r a is in
      let within = a_change_stays_within (state_in state) inputs r a in
      record { state = accepted_is_long _ (what_comes_back_is_an_image state inputs r a is) ∙ sym (accepted_is_long state is); records = rw c within.0; answers = rw c within.1 }

-- Every change from C gets a numbered answer. With 9, 12 or 8 all that is lent is as it was; with 6 or 7 it is what the inputs before give.
pub house_change_is_answered : (state inputs r a : List ℕ) → HouseChangeAnswered state inputs r a (house_change state inputs r a)
house_change_is_answered state inputs r a = by (is_image state) refl
  where
    by : (b : Bool) → is_image state ≡ b → HouseChangeAnswered state inputs r a (house_change state inputs r a)
    by false e =
        let t = taken_0 9 in
        rw (no_image_is_refused state inputs r a e)
        (record {
          numbered = inr (inl t.0);
          refused = λ one. (t.1, record { count = t.2; state = refl; records = refl; answers = refl });
          stopped = λ one. absurd (no_two_codes 9 (inl refl) (inr (rw t.0 at one)));
          played = λ is. no (sym e ∙ is);
          within = record { state = refl; records = refl; answers = refl };
        })
    by true e =
        let t = the_change_number_is_taken_apart state inputs r a e in
        record {
          numbered = rw t.code (image_numbered state inputs r a e);
          refused = λ one. image_refused state inputs r a e (rw t.code at one);
          stopped = λ one. rw t.place (image_stopped state inputs r a e (rw t.code at one));
          played = λ is. image_ran state inputs r a e;
          within = image_within state inputs r a e;
        }

-- ---- a change from C, cut in two

-- two changes one after the other, as images
joined_images : (k : ℕ) (a b : Whole) → TakenApart (packed a.report) a.report → TakenApart (packed b.report) b.report → imaged (cond (eqb a.report.code 0) (joined_after k a b) a) ≡ house_joined k (imaged a) (imaged b)
unfolding imaged
joined_images k a b s t = rw (s.code, s.count, t.code, t.place, t.count) (by (eqb a.report.code 0))
  where
    by : (c : Bool) → imaged (cond c (joined_after k a b) a) ≡
        cond c
        (record {
          number = packing b.report.code (cond (eqb b.report.code 0) 0 (k + b.report.place)) (a.report.count + b.report.count);
          state = image b.report.state;
          records = take (record_place a.report.count) a.records ++ b.records;
          answers = take k a.answers ++ b.answers;
        })
        (imaged a)
    by true = unfold packed in refl
    by false = refl

module _ (state x y r a : List ℕ) (is : is_image state ≡ true) (cut : length x % 8 ≡ 0) (good : GoodGroups (x ++ y)) (room : RoomFor (group_count (x ++ y)) r a) where
  abbrev one : Whole
  one = change_call (state_in state) x r a

  abbrev then : State
  then = one.report.state

  packed_apart : (s : State) (inputs r a : List ℕ) → TakenApart (packed (change_call s inputs r a).report) (change_call s inputs r a).report
  packed_apart s inputs r a = let narrow = a_change_is_narrow s inputs r a in apart (change_call s inputs r a).report narrow.0 narrow.1

  other : house_change (image then) y (drop (record_place (count_in (packed one.report))) one.records) (answers_left (group_count x) one) ≡ imaged (change_call then y (records_left one) (answers_left (group_count x) one))
  other =
      let kept = a_change_keeps (state_in state) x r a (accepted_is_sound state is) in
      let eight = kept.2 ∙ read_scenes_are_eight state in
      rw (packed_apart (state_in state) x r a).count
      (an_image_is_changed (image then) y (records_left one) (answers_left (group_count x) one) (image_is_accepted then eight kept.0) ∙ rw (image_is_read_back then eight) refl)

  -- A change from C cut in two anywhere is the two changes one after the other, the second on the image that came back: the same image, answers and records.
  pub house_change_cut_in_two : house_change state (x ++ y) r a ≡ house_one_then_the_other state x y r a
  unfolding imaged
  house_change_cut_in_two =
      an_image_is_changed state (x ++ y) r a is
      ∙ ap imaged (cut_in_two (state_in state) x y r a (accepted_is_sound state is) cut good room)
      ∙ joined_images (group_count x) one _ (packed_apart (state_in state) x r a) (packed_apart then y (records_left one) (answers_left (group_count x) one))
      ∙ rw (an_image_is_changed state x r a is, other) refl
