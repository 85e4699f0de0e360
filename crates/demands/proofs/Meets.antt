-- Our model of the run meets every demand, and no other model does.
use Rattle.std.specs.Prelude.{Option}
use Prim.Native.Nat.{ℕ, ◌+◌, ◌*◌, ◌≤◌}
use mathlib.Core.Bool.{Bool, true, false, cond}
use mathlib.Core.Path.{◌≡◌, refl, sym, ap, ◌∙◌}
use mathlib.Core.Logic.{inl, inr}
use mathlib.Core.List.{List, [], ◌∷◌, ◌++◌, append_assoc}
use native.Mathlib.Omega.{arith}
use lib.ListN.{length, drop, length-append, length-drop}
use Rattle.rules.specs.declared.parameters.Params.{Params}
use Rattle.rules.specs.declared.parameters.Scene.{Scene}
use Rattle.rules.specs.declared.state.State.{State}
use Rattle.rules.specs.declared.record.Record.{Record}
use Rattle.base.specs.declared.refusal.Refusal.{Refusal}
use Rattle.base.specs.declared.refusal.Refusal.TheVariants.{WrongLength, WrongVersion, WrongActuators, WrongLayout, BadParameter, BadInput, BadStamp}
use Rattle.rules.specs.declared.call.Single.{Single}
use Rattle.rules.specs.Status.{record_of, same_status, written}
use Rattle.rules.specs.Steps.{fresh, ticked, clock_move, step}
use Rattle.rules.specs.Lists.{Cue, cue, Played, plays, plays_to}
use Rattle.base.specs.Refusals.{number, code_of, place_of}
use Rattle.rules.specs.Calls.{own_state, single_done, single_refused, single_call}
use Rattle.rules.specs.Readings.{Reading, cues, bad, if_lent_enough, verdict}
use Rattle.rules.specs.Files.{input_count, end_time, read_file, lent_for, lent_enough, read_call, params_in, scenes_in}
use Rattle.octets.specs.BigEndian.{octets32}
use Rattle.octets.proofs.BothWays.{what_is_written_is_read}
use Rattle.rules.specs.Runs.{record_octets, records_octets, over, Whole, play_file, accepted, refused, run_call}
use Rattle.rules.specs.Promises.{DarkShown, LightStamped}
use Rattle.demands.specs.Demands.{Model, Among, AnswersAll, Untouched, RefusesCleanly, StaysWithin, HandedBack, SingleAnswers, Holds, PlaysAll, changed, changed_by_timers, changes, CountsChanges, records_in, records_of, Keeps, Meets}
use Rattle.base.proofs.Codes.{some_number}
use Rattle.rules.specs.Refusals.{StartWhen, InputsWhen, GivenWhen}
use Rattle.rules.proofs.Refusals.Calls.{SingleFinds, single_finds, single_refusal_changes_nothing, single_place_is_zero}
use Rattle.rules.proofs.Refusals.Files.{refused_exactly_when}
use Rattle.rules.proofs.Refusals.Runs.{RunFinds, at_fault, no_room, played, run_finds, run_is_read, room_exactly_when, a_good_file_is_played, a_refused_run_writes_nothing, records_length, record_count_is_one_plus_changes, answers_are_n}
use Rattle.rules.proofs.Laws.Lists.{plays_to_next}
use Rattle.rules.proofs.Promises.Stamps.{step_records}
use Rattle.demands.proofs.Shown.{dark_shown_in_every_accepted_file, light_stamped_in_every_accepted_file}

-- ---- records out of their octets

read_back : (l : List Record) (rest : List ℕ) → records_in (length l) (records_octets l ++ rest) ≡ l
unfolding records_in records_octets record_octets octets32
read_back [] rest = refl
read_back (r ∷ l) rest =
    let stamp = what_is_written_is_read r.stamp (r.value ∷ r.attributes ∷ r.cause ∷ 0 ∷ (records_octets l ++ rest)) in
    rw (stamp, read_back l rest)

pub records_read_back : (l : List Record) (buffer : List ℕ) → records_in (length l) (over (records_octets l) buffer) ≡ l
unfolding over
records_read_back l buffer = read_back l (drop (length (records_octets l)) buffer)

pub accepted_records : (p : Played) (records answers : List ℕ) → records_of (accepted p records answers) ≡ p.records
unfolding accepted
accepted_records p records answers = records_read_back p.records records

-- ---- 1 and the judgement of 2: of every file

-- what stands before the inputs has the numbers 1 to 5, and an input 6 and 7, whatever it may say
pub start_numbered : (file : List ℕ) (why : Refusal) (place : ℕ) → StartWhen file why place → number why ≤ 8
start_numbered file WrongLength place g = omega arith
start_numbered file WrongVersion place g = omega arith
start_numbered file WrongActuators place g = omega arith
start_numbered file WrongLayout place g = omega arith
start_numbered file BadParameter place g = omega arith
start_numbered file _ place g = elim g [ ]

pub inputs_numbered : {A : Type 0} (at : ℕ → Option A) (inputs : List ℕ) (n from to : ℕ) (why : Refusal) (place : ℕ) → InputsWhen at inputs n from to why place → number why ≤ 8
inputs_numbered at inputs n from to BadInput place g = omega arith
inputs_numbered at inputs n from to BadStamp place g = omega arith
inputs_numbered {A = A} at inputs n from to _ place g = elim g [ ]

-- a run has the numbers 1 to 8, and 9 is for a state that was handed in
numbered : (file : List ℕ) (why : Refusal) (place : ℕ) → GivenWhen file why place → number why ≤ 8
numbered file why place (inl g) = start_numbered file why place g
numbered file why place (inr g) = inputs_numbered _ _ _ _ _ why place g.1

our_run_answers_all : AnswersAll run_call
our_run_answers_all file records answers = by (run_finds file records answers)
  where
    by : {w : Whole} → RunFinds file records answers w → w.report.code ≤ 8
    by (at_fault why place read) = unfold refused in numbered file why place ((refused_exactly_when file why place).0 read)
    by (no_room list read room) = unfold refused in omega arith
    by (played list read room) = unfold accepted in omega arith

our_run_refuses_cleanly : RefusesCleanly run_call
our_run_refuses_cleanly file records answers refused =
    rw (a_refused_run_writes_nothing file records answers refused) (record { records = refl; answers = refl; count = refl; state = refl })

-- ---- 1, of every single input

our_single_input_is_numbered : (s : State) (octets : List ℕ) → Among (single_call s octets).code (0 ∷ 6 ∷ 7 ∷ 9 ∷ [])
our_single_input_is_numbered s octets = by (single_finds s octets)
  where
    by : {r : Single} → SingleFinds s octets r → Among r.code (0 ∷ 6 ∷ 7 ∷ 9 ∷ [])
    by (SingleFinds.plays i h m t) = unfold single_done in inl refl
    by (SingleFinds.wrong h m) = unfold single_refused in inr (inl refl)
    by (SingleFinds.untimely i h m t) = unfold single_refused in inr (inr (inl refl))
    by (SingleFinds.not_sound h) = unfold single_refused in inr (inr (inr (inl refl)))

our_single_input_is_handed_back : (s : State) (octets : List ℕ) → ((single_call s octets).code ≡ 0 → ⊥) → HandedBack s (single_call s octets)
our_single_input_is_handed_back s octets refused =
    let same = single_refusal_changes_nothing s octets refused in
    record { state = ap (λ (r : Single). r.state) same; answer = ap (λ (r : Single). r.answer) same; count = ap (λ (r : Single). r.count) same; records = ap (λ (r : Single). r.records) same }

pub our_single_input_meets_demand_1 : SingleAnswers single_call
our_single_input_meets_demand_1 = record { numbered = our_single_input_is_numbered; placed = single_place_is_zero; handed_back = our_single_input_is_handed_back }

-- ---- of every accepted run

-- what is read of it has a list, and there is room
pub if_accepted : {A : Type 0} (b : Bool) (x : Reading A) (list : List A) → if_lent_enough b x ≡ cues list → (x ≡ cues list) × (b ≡ true)
if_accepted true x list e = (e, refl)
if_accepted false (cues l) list e = absurd (let z : ◌≡◌ {A = ℕ} 0 1 = cc in omega arith)
if_accepted false (bad why place) list e = absurd (let z : ◌≡◌ {A = ℕ} 0 1 = cc in omega arith)

module _ (file records answers : List ℕ) (list : List Cue) (read : read_call file records answers ≡ cues list) where
  -- the file is accepted, and there is room
  call_accepted : (read_file file ≡ cues list) × (lent_enough file records answers ≡ true)
  unfolding read_call
  call_accepted = if_accepted (lent_enough file records answers) (read_file file) list read

  our_run_is_played : run_call file records answers ≡ accepted (play_file file list) records answers
  our_run_is_played = a_good_file_is_played file records answers list call_accepted.0 call_accepted.1

  -- the records in its buffer are those of the list
  our_records : records_of (run_call file records answers) ≡ (play_file file list).records
  our_records = ap records_of our_run_is_played ∙ accepted_records (play_file file list) records answers

pub over_length : (octets buffer : List ℕ) → length octets ≤ length buffer → length (over octets buffer) ≡ length buffer
unfolding over
over_length octets buffer fits = rw (length-append, length-drop (length octets) buffer) (omega arith)

-- three records for each input and three more fit into the buffer that is asked for, and so does an answer for each
pub stays_as_long : (n : ℕ) (wrote : List Record) (said records answers : List ℕ) → lent_for n records answers ≡ true → length wrote ≤ 3 * n + 3 → length said ≡ n →
    (length (over (records_octets wrote) records) ≡ length records) × (length (over said answers) ≡ length answers)
stays_as_long n wrote said records answers room few each =
    let enough = (room_exactly_when n records answers).0 room in
    (over_length _ records (omega (arith, records_length wrote, few, enough.wide)), over_length _ answers (omega (arith, each, enough.long)))

our_run_stays_within : StaysWithin run_call
our_run_stays_within file records answers = by (run_finds file records answers) refl
  where
    by : {w : Whole} → RunFinds file records answers w → run_call file records answers ≡ w → (length w.records ≡ length records) × (length w.answers ≡ length answers)
    by (at_fault why place read) e = unfold refused in (refl, refl)
    by (no_room list read room) e = unfold refused in (refl, refl)
    by (played list read room) e =
        let few = rw e at (record_count_is_one_plus_changes file records answers list read room).1 in
        unfold accepted lent_enough in stays_as_long (input_count file) _ _ records answers room few (answers_are_n file records answers list read room).0

our_run_plays_all : PlaysAll run_call
unfolding accepted
our_run_plays_all file records answers list read = rw (our_run_is_played file records answers list read) (record { state = refl; records = refl; answers = refl })

-- a record for each change
written_count : (cause : ℕ) (before after : State) → length (written cause before after) ≡ changed before after
unfolding written changed
written_count cause before after = by (same_status before after)
  where
    by : (b : Bool) → length (cond b [] (record_of cause after ∷ [])) ≡ cond b 0 1
    by true = refl
    by false = refl

move_count : (s : State) (t : ℕ) → length (clock_move s t).records ≡ changed_by_timers s t
unfolding clock_move ticked changed_by_timers
move_count s t = simp (length-append, written_count)

plays_to_count : (end : ℕ) (list : List Cue) (s : State) → length (plays_to end list s).records ≡ changes end list s
unfolding changes
plays_to_count end [] s = unfold plays_to plays in move_count s end
plays_to_count end (cue t i ∷ later) s =
    rw (plays_to_next end t i later s, step_records s i t, append_assoc, length-append, length-append, move_count, written_count, plays_to_count end later (step s i t).state)

pub our_run_counts_changes : CountsChanges run_call
our_run_counts_changes file records answers list read =
    let e = call_accepted file records answers list read in
    rw (← (plays_to_count (end_time file) list (fresh (params_in file) (scenes_in file))))
    (record_count_is_one_plus_changes file records answers list e.0 e.1).0

-- what the records of every accepted file keep
our_run_keeps : (Promise : Params → List Scene → List Cue → ℕ → List Record → Type 0) →
    ((file : List ℕ) (list : List Cue) → read_file file ≡ cues list → Promise (params_in file) (scenes_in file) list (end_time file) (play_file file list).records) →
    Keeps Promise run_call
our_run_keeps Promise kept file records answers list read = rw (our_records file records answers list read) (kept file list (call_accepted file records answers list read).0)

pub our_model_meets_every_demand : Meets run_call
our_model_meets_every_demand =
    record {
      answers_all = our_run_answers_all;
      refuses_cleanly = our_run_refuses_cleanly;
      stays_within = our_run_stays_within;
      judges = run_is_read;
      plays_all = our_run_plays_all;
      counts_changes = our_run_counts_changes;
      keeps_dark = our_run_keeps DarkShown dark_shown_in_every_accepted_file;
      keeps_light = our_run_keeps LightStamped light_stamped_in_every_accepted_file;
    }

-- ---- and no other model does

-- results that agree in every part are one
same_whole : (w x : Whole) → w.report.state ≡ x.report.state → w.report.code ≡ x.report.code → w.report.place ≡ x.report.place → w.report.count ≡ x.report.count →
    w.records ≡ x.records → w.answers ≡ x.answers → w ≡ x
same_whole w x state code place count records answers =
    λ i. record { report = record { state = state i; code = code i; place = place i; count = count i }; records = records i; answers = answers i }

-- what the table refuses has a number of its own
pub not_zero : {A : Type 0} (x : Reading A) (why : Refusal) (place code : ℕ) → x ≡ bad why place → code ≡ code_of (verdict x) → code ≡ 0 → ⊥
not_zero {A} x why place code read judged zero = let table : code ≡ number why = judged ∙ ap (λ (y : Reading A). code_of (verdict y)) read in omega (arith, table, zero, some_number why)

-- What leaves no part of a result open: the table gives code and place of what is read; a refused call leaves the rest as it was, and an accepted one
-- is played.
pub record Settled {A : Type 0} (x : Reading A) (play : List A → Played) (count : List A → ℕ) (records answers : List ℕ) (w : Whole) : Type 0 where
  pub judged : (w.report.code ≡ code_of (verdict x)) × (w.report.place ≡ place_of (verdict x))
  pub refused : (w.report.code ≡ 0 → ⊥) → Untouched own_state records answers w
  pub played : (list : List A) → x ≡ cues list → Holds records answers (play list) w
  pub counted : (list : List A) → x ≡ cues list → w.report.count ≡ count list

pub settled_is_one : {A : Type 0} {x : Reading A} {play : List A → Played} {count : List A → ℕ} {records answers : List ℕ} (w v : Whole) → Settled x play count records answers w → Settled x play count records answers v → w ≡ v
settled_is_one {A} {x} w v f g = by x refl
  where
    code : w.report.code ≡ v.report.code
    code = f.judged.0 ∙ sym g.judged.0

    place : w.report.place ≡ v.report.place
    place = f.judged.1 ∙ sym g.judged.1

    by : (y : Reading A) → x ≡ y → w ≡ v
    by (cues list) read =
        let a = f.played list read in
        let b = g.played list read in
        same_whole w v (a.state ∙ sym b.state) code place (f.counted list read ∙ sym (g.counted list read)) (a.records ∙ sym b.records) (a.answers ∙ sym b.answers)
    by (bad why p) read =
        let a = f.refused (not_zero x why p _ read f.judged.0) in
        let b = g.refused (not_zero x why p _ read g.judged.0) in
        same_whole w v (a.state ∙ sym b.state) code place (a.count ∙ sym b.count) (a.records ∙ sym b.records) (a.answers ∙ sym b.answers)

settled : (m : Model) → Meets m → (file records answers : List ℕ) →
    Settled (read_call file records answers) (play_file file) (λ list. 1 + changes (end_time file) list (fresh (params_in file) (scenes_in file))) records answers (m file records answers)
settled m f file records answers = record { judged = f.judges file records answers; refused = f.refuses_cleanly file records answers; played = f.plays_all file records answers; counted = f.counts_changes file records answers }

pub no_other_model_meets_every_demand : (m : Model) → Meets m → (file records answers : List ℕ) → m file records answers ≡ run_call file records answers
no_other_model_meets_every_demand m f file records answers =
    settled_is_one _ _ (settled m f file records answers) (settled run_call our_model_meets_every_demand file records answers)
