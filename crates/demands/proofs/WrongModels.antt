-- The wrong models that document 01 names ("What may be believed of each call"), and the demand that each of them breaks; at the
-- end, records that lose an On in a tie.
use Prim.Native.Nat.{ℕ, zero, suc, ◌+◌, ◌*◌, ◌≤◌}
use mathlib.Core.Bool.{Bool, true, false, cond, true≢false}
use mathlib.Core.Path.{◌≡◌, refl, sym, ap, ◌∙◌}
use mathlib.Core.Logic.{◌⊎◌, inl, inr}
use mathlib.Core.List.{List, [], ◌∷◌, ◌++◌}
use native.Mathlib.Omega.{arith}
use lib.ListN.{length, replicate, length-append, length-drop}
use lib.Dec.{leb, ltb}
use borrow.Author.Tests.{le-leb, leb-true, leb-false, ltb-true, ltb-false, lt-ltb, le-ltb}
use Rattle.rules.specs.declared.parameters.Params.{Params}
use Rattle.rules.specs.declared.parameters.Scene.{Scene}
use Rattle.rules.specs.declared.input.Input.TheVariants.{SwitchOnOff}
use Rattle.rules.specs.declared.state.State.{State}
use Rattle.rules.specs.declared.record.Record.{Record}
use Rattle.rules.specs.Forms.{form_of, is_version, form_in}
use Rattle.rules.specs.Parameters.{time_at, delay, params_of, scene_at, scenes_of, greatest, bad_time, number_above, bad_number, bad_flags, bad_octet, lowest_bad, check_parameters}
use Rattle.rules.specs.Inputs.{zero_or_one, decoded, input_at}
use Rattle.octets.specs.Groups.{stamp_at}
use Rattle.rules.specs.Phases.{output, lit_at, at_deadline}
use Rattle.rules.specs.Orders.{from_dark, on, off, night_falls, switch, night_mode, order}
use Rattle.rules.specs.Barriers.{rows, row_of, sets_value, outranked, first_barrier, barrier_to, barrier}
use Rattle.rules.specs.Status.{value, record_of}
use Rattle.rules.specs.Steps.{fresh, tick_at, tick, ticked, clock_move, counted, meet, act, step}
use Rattle.rules.specs.Lists.{Cue, Played, plays, plays_to, play_list}
use Rattle.rules.specs.Calls.{least_params, unused, no_scenes}
use Rattle.rules.specs.Readings.{cues, read_one, read_inputs}
use Rattle.rules.specs.Files.{end_time, parameters_in, layout_right, check_rest, check_start, cue_at, read_file, lent_enough, read_call, params_in, scenes_in, inputs_in}
use Rattle.rules.specs.Runs.{records_octets, over, play_file, accepted, run_call}
use Rattle.rules.specs.Promises.{turns, up_to, state_at, Taken, NightRules, DarkDue, LightDue, shown_at, DarkShown, LitRecord, shown_before, LightStamped}
use Rattle.demands.specs.Demands.{Model, StaysWithin, Judges, PlaysAll, CountsChanges, records_of, Keeps, KeepsDark, KeepsLight}
use Rattle.base.proofs.Tests.{either_way}
use Rattle.rules.specs.Worked.{on_at, off_at, night_at}
use Rattle.rules.proofs.Refusals.Runs.{records_length}
use Rattle.demands.specs.WrongModels.{played_by, model_by, StartRecordOnly, plays_nothing, fixed_trace, plays_first, first_input_only, invented_count}
use Rattle.demands.proofs.Shown.{at_or_before}
use Rattle.demands.proofs.Meets.{accepted_records, our_run_counts_changes}

-- ---- models that judge a file as the table does, and play it in a way of their own

is_played : (play : List ℕ → List Cue → Played) (file records answers : List ℕ) (list : List Cue) → read_call file records answers ≡ cues list →
    model_by play file records answers ≡ accepted (play file list) records answers
unfolding model_by played_by
is_played play file records answers list read = rw read

its_records : (play : List ℕ → List Cue → Played) (file records answers : List ℕ) (list : List Cue) → read_call file records answers ≡ cues list →
    records_of (model_by play file records answers) ≡ (play file list).records
its_records play file records answers list read = ap records_of (is_played play file records answers list read) ∙ accepted_records (play file list) records answers

-- ---- example files

-- OnDelay 0, OffDelay 0, TimedOn 1, Prewarning 0, modes 0, no learning, no scenes
abbrev least_octets : List ℕ
least_octets =
    0 ∷ 0 ∷ 0 ∷ 0 ∷ 0 ∷ 1 ∷ 0 ∷ 0 ∷ 0 ∷ 0 ∷ 0 ∷ 0 ∷ 0 ∷ 0 ∷ 0 ∷ 0 ∷ 255 ∷ 0 ∷ 255 ∷ 0 ∷ 255 ∷ 0 ∷ 255 ∷ 0 ∷ 255 ∷ 0 ∷ 255 ∷ 0 ∷ 255 ∷ 0 ∷ 255 ∷ 0 ∷ []

-- an input: stamp (of one octet), kind, value
abbrev pub octets_of : ℕ → ℕ → ℕ → List ℕ
octets_of stamp kind value = 0 ∷ 0 ∷ 0 ∷ stamp ∷ kind ∷ value ∷ 0 ∷ 0 ∷ []

-- a file of n inputs that ends at 20
unfoldable pub file_of : ℕ → List ℕ → List ℕ
file_of n inputs = 0 ∷ 1 ∷ 0 ∷ 1 ∷ 0 ∷ 0 ∷ 0 ∷ 20 ∷ 0 ∷ 0 ∷ 0 ∷ n ∷ 0 ∷ 0 ∷ 0 ∷ 52 ∷ 0 ∷ 0 ∷ 0 ∷ 20 ∷ (least_octets ++ inputs)

-- a buffer with room for what any of them gives
abbrev pub room : List ℕ
room = replicate 72 0

-- they all have the least parameters, no scenes and one end
least_params_lem : (n : ℕ) (inputs : List ℕ) → params_in (file_of n inputs) ≡ least_params
unfolding file_of form_in form_of parameters_in inputs_in params_of delay time_at least_params
least_params_lem n inputs = refl

no_scenes_lem : (n : ℕ) (inputs : List ℕ) → scenes_in (file_of n inputs) ≡ no_scenes
unfolding file_of form_in form_of parameters_in inputs_in scenes_of scene_at no_scenes unused
no_scenes_lem n inputs = refl

ends_at_20 : (n : ℕ) (inputs : List ℕ) → end_time (file_of n inputs) ≡ 20
unfolding file_of
ends_at_20 n inputs = refl

-- what is opened to read them
reading : Unit {0}
unfolding file_of form_in form_of is_version read_call lent_enough read_file check_start check_rest cue_at layout_right parameters_in inputs_in check_parameters lowest_bad bad_octet bad_time delay time_at greatest bad_number bad_flags number_above read_inputs read_one input_at stamp_at decoded zero_or_one
reading = tt

no_inputs : read_call (file_of 0 []) room room ≡ cues []
unfolding reading
no_inputs = refl

least_room : read_call (file_of 0 []) (replicate 24 0) [] ≡ cues []
unfolding reading
least_room = refl

one_on : (a : ℕ) → a ≤ 20 → read_call (file_of 1 (octets_of a 1 1)) room room ≡ cues (on_at a ∷ [])
unfolding reading
one_on a h =
    let stamp : 65536 * (256 * 0 + 0) + (256 * 0 + a) ≡ a = omega arith in
    rw stamp (simp (le-leb 0 a (omega arith), le-leb a 20 h))

one_night : read_call (file_of 1 (octets_of 0 6 1)) room room ≡ cues (night_at 0 ∷ [])
unfolding reading
one_night = refl

on_and_off : read_call (file_of 2 (octets_of 0 1 1 ++ octets_of 0 1 0)) room room ≡ cues (on_at 0 ∷ off_at 0 ∷ [])
unfolding reading
on_and_off = refl

-- what any model keeps, it keeps of them
kept : (Promise : Params → List Scene → List Cue → ℕ → List Record → Type 0) (m : Model) → Keeps Promise m →
    (n : ℕ) (inputs : List ℕ) (list : List Cue) → read_call (file_of n inputs) room room ≡ cues list → Promise least_params no_scenes list 20 (records_of (m (file_of n inputs) room room))
kept Promise m keeps n inputs list read = rw (least_params_lem n inputs, no_scenes_lem n inputs, ends_at_20 n inputs) at (keeps (file_of n inputs) room room list read)

-- ---- lit records at their stamps

-- how many records are stamped before n
unfoldable stamped_before : ℕ → List Record → ℕ
stamped_before n [] = 0
stamped_before n (r ∷ l) = cond (ltb r.stamp n) (suc (stamped_before n l)) (stamped_before n l)

at_most_all : (n : ℕ) (l : List Record) → stamped_before n l ≤ length l
unfolding stamped_before
at_most_all n [] = omega arith
at_most_all n (r ∷ l) = let rest = at_most_all n l in either_way (λ (x : ℕ). x ≤ suc (length l)) (ltb r.stamp n) _ _ (omega arith) (omega arith)

-- a later moment has as many, and one more for a record stamped in between
module _ (a : ℕ) (r : Record) (l : List Record) where
  one_more_record : (more : ℕ) → stamped_before a l + more ≤ stamped_before (suc a) l → stamped_before a (r ∷ l) + more ≤ stamped_before (suc a) (r ∷ l)
  unfolding stamped_before
  one_more_record more h = by (ltb r.stamp a) (ltb r.stamp (suc a)) refl refl
    where
      by : (b c : Bool) → ltb r.stamp a ≡ b → ltb r.stamp (suc a) ≡ c → cond b (suc (stamped_before a l)) (stamped_before a l) + more ≤ cond c (suc (stamped_before (suc a) l)) (stamped_before (suc a) l)
      by true true e f = omega arith
      by false true e f = omega arith
      by false false e f = omega arith
      by true false e f = absurd (omega (arith, ltb-true r.stamp a e, ltb-false r.stamp (suc a) f))

  stamped_now : r.stamp ≡ a → stamped_before a l ≤ stamped_before (suc a) l → stamped_before a (r ∷ l) + 1 ≤ stamped_before (suc a) (r ∷ l)
  unfolding stamped_before
  stamped_now now h = simp (le-ltb r.stamp a (omega arith), lt-ltb r.stamp (suc a) (omega arith)) (omega arith)

never_less : (a : ℕ) (l : List Record) → stamped_before a l + 0 ≤ stamped_before (suc a) l
never_less a [] = unfold stamped_before in omega arith
never_less a (r ∷ l) = one_more_record a r l 0 (never_less a l)

one_among : (a : ℕ) (early : List Record) (r : Record) (late : List Record) → r.stamp ≡ a → stamped_before a (early ++ (r ∷ late)) + 1 ≤ stamped_before (suc a) (early ++ (r ∷ late))
one_among a [] r late now = stamped_now a r late now (omega (arith, never_less a late))
one_among a (e ∷ early) r late now = one_more_record a e (early ++ (r ∷ late)) 1 (one_among a early r late now)

lit_counts : (a z : ℕ) (l : List Record) → z ≤ a → LitRecord a z l → stamped_before a l + 1 ≤ stamped_before (suc a) l
lit_counts a z l h x = rw (← x.split) (one_among a x.earlier x.lit x.later (omega (arith, x.from, x.until)))

-- ---- what the promises ask of them

-- what is opened to play them
playing : Unit {0}
unfolding plays clock_move ticked tick tick_at fresh rows row_of sets_value outranked first_barrier barrier_to barrier step act meet counted order switch from_dark on off lit_at night_mode night_falls least_params
playing = tt

-- an On at a is taken, with nothing after it
on_is_due : (a : ℕ) → a ≤ 20 → LightDue Taken least_params no_scenes [] a (SwitchOnOff true) [] 20
unfolding playing turns
on_is_due a h = record { taken = refl; lights = refl; reached = omega arith; undimmed = tt }

-- OnDelay is 0, so it shows at a: in a record stamped then, if not before
on_shows : (m : Model) → KeepsLight m → (a : ℕ) → a ≤ 20 →
    let records : List Record = records_of (m (file_of 1 (octets_of a 1 1)) room room) in
    (shown_before a 0 records ≡ 255) ⊎ (stamped_before a records + 1 ≤ stamped_before (suc a) records)
unfolding least_params
on_shows m light a h =
    let records : List Record = records_of (m (file_of 1 (octets_of a 1 1)) room room) in
    elim (kept LightStamped m light 1 (octets_of a 1 1) (on_at a ∷ []) (one_on a h) [] a (SwitchOnOff true) [] refl (on_is_due a h)) [
      | inl lit ↦ inr (lit_counts a (a + 0) records (omega arith) lit)
      | inr (inl shows) ↦ elim (at_or_before a 0 0 records (λ e. e) shows) [ inl was ↦ inl was | inr lit ↦ inr (lit_counts a a records (omega arith) lit) ]
      | inr (inr was) ↦ inl was.1
    ]

-- night at 0 leaves all dark from 10 on
night_stands : (t : ℕ) → NightRules (state_at t (night_at 0 ∷ []) (fresh least_params no_scenes))
unfolding playing state_at up_to
night_stands t = rw (le-leb 0 t (omega arith)) (record { night = refl; unlocked = refl; unforced = refl; powered = refl })

night_is_due : (t : ℕ) → 10 ≤ t → t ≤ 20 → DarkDue least_params no_scenes (night_at 0 ∷ []) 20 t
unfolding least_params turns
night_is_due t late h = record { late = omega arith; reached = h; from = night_stands _; through = (λ after upto. absurd (omega arith), tt) }

night_shows : (m : Model) → KeepsDark m → (t : ℕ) → 10 ≤ t → t ≤ 20 → shown_at t 255 (records_of (m (file_of 1 (octets_of 0 6 1)) room room)) ≡ 0
night_shows m dark t late h = kept DarkShown m dark 1 (octets_of 0 6 1) (night_at 0 ∷ []) one_night t (night_is_due t late h)

-- ---- "A model that refuses all files is shut out by demand 2, which accepts each file outside the table."

-- whatever its numbers are
pub the_model_that_refuses_all_files_breaks_demand_2 : (m : Model) → ((file records answers : List ℕ) → (m file records answers).report.code ≡ 0 → ⊥) → Judges read_call m → ⊥
the_model_that_refuses_all_files_breaks_demand_2 m refuses judges = refuses (file_of 0 []) room room (rw no_inputs at (judges (file_of 0 []) room room).0)

-- ---- "A step that changes nothing falls to the Light half of demand 3"

pub it_may_have_the_start_record_only : StartRecordOnly (model_by plays_nothing)
it_may_have_the_start_record_only file records answers list read = its_records plays_nothing file records answers list read ∙ unfold plays_nothing in refl

pub the_step_that_changes_nothing_breaks_light : (m : Model) → StartRecordOnly m → KeepsLight m → ⊥
unfolding shown_before stamped_before record_of value fresh
the_step_that_changes_nothing_breaks_light m only light =
    let shown = rw (only (file_of 1 (octets_of 11 1 1)) room room (on_at 11 ∷ []) (one_on 11 (omega arith))) at (on_shows m light 11 (omega arith)) in
    elim shown [ inl was ↦ omega (arith, was) | inr more ↦ omega (arith, more) ]

-- ---- "one fixed trace [falls] to its two halves together"

-- 255 was not shown before a where 0 is shown just before it
not_shown : (t v w : ℕ) (l : List Record) → (v ≡ 255 → w ≡ 0 → ⊥) → shown_before (suc t) v l ≡ 255 → shown_at t w l ≡ 0 → ⊥
unfolding shown_before shown_at
not_shown t v w [] differ lit dark = differ lit dark
not_shown t v w (r ∷ l) differ lit dark = not_shown t (cond (leb (suc t) r.stamp) v r.value) (cond (leb r.stamp t) r.value w) l (by (leb (suc t) r.stamp) (leb r.stamp t) refl refl) lit dark
  where
    by : (b c : Bool) → leb (suc t) r.stamp ≡ b → leb r.stamp t ≡ c → cond b v r.value ≡ 255 → cond c r.value w ≡ 0 → ⊥
    by true false e f x y = differ x y
    by false true e f x y = omega arith
    by true true e f x y = omega (arith, leb-true (suc t) r.stamp e, leb-true r.stamp t f)
    by false false e f x y = omega (arith, leb-false (suc t) r.stamp e, leb-false r.stamp t f)

-- an On at each of these moments is shown by a record of its own
fixed_trace_grows : (trace : Played) → KeepsDark (fixed_trace trace) → KeepsLight (fixed_trace trace) → (k : ℕ) → k ≤ 10 → k ≤ stamped_before (11 + k) trace.records
unfolding fixed_trace
fixed_trace_grows trace dark light zero h = omega arith
fixed_trace_grows trace dark light (suc k) h =
    let fewer = fixed_trace_grows trace dark light k (omega arith) in
    let next : 11 + suc k ≡ suc (11 + k) = omega arith in
    let here : 11 + k ≡ suc (10 + k) = omega arith in
    let lit = rw (its_records (λ file list. trace) (file_of 1 (octets_of (11 + k) 1 1)) room room (on_at (11 + k) ∷ []) (one_on (11 + k) (omega arith))) at (on_shows (fixed_trace trace) light (11 + k) (omega arith)) in
    let unlit = rw (its_records (λ file list. trace) (file_of 1 (octets_of 0 6 1)) room room (night_at 0 ∷ []) one_night) at (night_shows (fixed_trace trace) dark (10 + k) (omega arith) (omega arith)) in
    elim lit [
      | inl was ↦ absurd (not_shown (10 + k) 0 255 trace.records (λ x y. omega arith) (rw here at was) unlit)
      | inr more ↦ rw next (omega arith)
    ]

pub one_short_fixed_trace_breaks_dark_or_light : (trace : Played) → length trace.records ≤ 3 → KeepsDark (fixed_trace trace) → KeepsLight (fixed_trace trace) → ⊥
one_short_fixed_trace_breaks_dark_or_light trace few dark light = omega (arith, fixed_trace_grows trace dark light 4 (omega arith), at_most_all 15 trace.records)

-- a file without inputs may be lent 24 octets, which three records fill
three_records_fill : (trace : Played) → StaysWithin (fixed_trace trace) → length trace.records ≤ 3
unfolding fixed_trace accepted over
three_records_fill trace within =
    let lent : List ℕ = replicate 24 0 in
    let kept = rw (is_played (λ file list. trace) (file_of 0 []) lent [] [] least_room) at (within (file_of 0 []) lent []).0 in
    omega (arith, rw (length-append, length-drop (length (records_octets trace.records)) lent, records_length trace.records) at kept)

pub one_fixed_trace_breaks_dark_or_light : (trace : Played) → StaysWithin (fixed_trace trace) → KeepsDark (fixed_trace trace) → KeepsLight (fixed_trace trace) → ⊥
one_fixed_trace_breaks_dark_or_light trace within = one_short_fixed_trace_breaks_dark_or_light trace (three_records_fill trace within)

-- ---- "One that plays the first input and ignores the rest falls to demand 2 over the whole list"

-- an On lights the lamp, and an Off after it puts it out
lit_at_the_end : output (play_list least_params no_scenes (on_at 0 ∷ []) 20).state.phase ≡ true
unfolding playing play_list plays_to
lit_at_the_end = refl

dark_at_the_end : output (play_list least_params no_scenes (on_at 0 ∷ off_at 0 ∷ []) 20).state.phase ≡ false
unfolding playing play_list plays_to
dark_at_the_end = refl

pub the_model_that_plays_the_first_input_only_breaks_demand_2 : PlaysAll first_input_only → ⊥
unfolding first_input_only accepted plays_first play_file
the_model_that_plays_the_first_input_only_breaks_demand_2 plays_all =
    let inputs : List ℕ = octets_of 0 1 1 ++ octets_of 0 1 0 in
    let file : List ℕ = file_of 2 inputs in
    let list : List Cue = on_at 0 ∷ off_at 0 ∷ [] in
    let same = rw (is_played plays_first file room room list on_and_off, least_params_lem 2 inputs, no_scenes_lem 2 inputs, ends_at_20 2 inputs) at (plays_all file room room list on_and_off).state in
    true≢false (sym lit_at_the_end ∙ ap (λ (s : State). output s.phase) same ∙ dark_at_the_end)

-- ---- "and so does an invented record count, since that count is the number of changes the phase rules give"

-- any other number for the count of any accepted run
pub an_invented_record_count_breaks_demand_2 : (f : ℕ → ℕ) (file records answers : List ℕ) (list : List Cue) → read_call file records answers ≡ cues list →
    (f (run_call file records answers).report.count ≡ (run_call file records answers).report.count → ⊥) → CountsChanges (invented_count f) → ⊥
unfolding invented_count
an_invented_record_count_breaks_demand_2 f file records answers list read other counts =
    other (counts file records answers list read ∙ sym (our_run_counts_changes file records answers list read))

-- one too many
pub one_record_too_many_breaks_demand_2 : CountsChanges (invented_count suc) → ⊥
one_record_too_many_breaks_demand_2 = an_invented_record_count_breaks_demand_2 suc (file_of 0 []) room room [] no_inputs (λ same. omega arith)

-- ---- an On that is lost after an Off of its own stamp, though the lamp was lit before both

-- OnDelay 2 seconds, OffDelay 0
abbrev slow_on : Params
slow_on = record { version = 1; ondelay = 20; offdelay = 0; timedon = 10; prewarning = 0; locking = 0; unlocking = 0; busfailure = 0; busreturn = 0; powerreturn = 0; learning = false }

-- each record from a on is dark
abbrev DarkFrom : ℕ → List Record → Type 0
DarkFrom a [] = Unit {0}
DarkFrom a (r ∷ later) = (a ≤ r.stamp → r.value ≡ 0) × DarkFrom a later

dark_among : (a : ℕ) (early : List Record) (r : Record) (late : List Record) → DarkFrom a (early ++ (r ∷ late)) → a ≤ r.stamp → r.value ≡ 0
dark_among a [] r late d h = d.0 h
dark_among a (e ∷ early) r late d h = dark_among a early r late d.1 h

none_lit : (a z : ℕ) (l : List Record) → DarkFrom a l → LitRecord a z l → ⊥
none_lit a z l d x = omega (arith, x.shines, dark_among a x.earlier x.lit x.later (rw (← x.split) at d) x.from)

-- On 0, Off 100, On 100: on at 20, off at 100, and nothing more
abbrev lost : List Record
lost =
    record { stamp = 0; value = 0; attributes = 1; cause = 0 }
    ∷ record { stamp = 20; value = 255; attributes = 1; cause = 0 }
    ∷ record { stamp = 100; value = 0; attributes = 1; cause = 1 }
    ∷ []

second_on_is_due : LightDue Taken slow_on no_scenes (on_at 0 ∷ off_at 100 ∷ []) 100 (SwitchOnOff true) [] 200
unfolding playing at_deadline turns
second_on_is_due = record { taken = refl; lights = refl; reached = omega arith; undimmed = tt }

pub a_lost_on_breaks_light : LightStamped slow_on no_scenes (on_at 0 ∷ off_at 100 ∷ on_at 100 ∷ []) 200 lost → ⊥
a_lost_on_breaks_light light =
    elim (light (on_at 0 ∷ off_at 100 ∷ []) 100 (SwitchOnOff true) [] refl second_on_is_due) [
      | inl lit ↦ none_lit 100 120 lost (λ h. absurd (omega arith), (λ h. absurd (omega arith), (λ h. refl, tt))) lit
      | inr (inl shows) ↦ unfold shown_at in omega (arith, shows)
      | inr (inr none) ↦ omega (arith, none.0)
    ]
