-- The run is the public calls, joined in order: single inputs, or changes.
use Rattle.std.specs.Prelude.{Ok}
use Prim.Native.Nat.{ℕ, ◌≤◌}
use mathlib.Core.Bool.{true}
use mathlib.Core.List.{List, [], ◌∷◌}
use mathlib.Core.Path.{◌≡◌, refl, sym, ap, ◌∙◌}
use native.Mathlib.Omega.{arith}
use Rattle.rules.specs.declared.state.State.{State}
use Rattle.rules.specs.declared.call.Fresh.{Fresh}
use Rattle.base.specs.Time.{last_stamp}
use Rattle.rules.specs.Parameters.{check_alone}
use Rattle.rules.specs.Steps.{fresh, clock_move}
use Rattle.rules.specs.Soundness.{sound}
use Rattle.rules.specs.Status.{record_of, by_itself}
use Rattle.rules.specs.Lists.{Played, and_then, Cue, moved, plays, plays_to, play_list}
use Rattle.rules.specs.Calls.{fresh_by, fresh_call, move_done, move_call}
use Rattle.rules.specs.Forms.{form_in}
use Rattle.rules.specs.Readings.{cues}
use Rattle.rules.specs.Files.{input_count, end_time, parameters_in, inputs_in, cue_at, read_file, lent_enough, params_in, scenes_in}
use Rattle.rules.specs.Refusals.{GoodStart, RoomFor}
use Rattle.rules.specs.Runs.{play_file, accepted, run_call}
use Rattle.rules.specs.Changes.{group_count, groups_in, Singles, singles, changed, change_call}
use Rattle.base.proofs.Codes.{timely_exactly_when}
use Rattle.rules.proofs.Refusals.Calls.{good_is_made, fresh_call_is_sound}
use Rattle.rules.proofs.Laws.Records.{a_move_writes_at_most_two, used_places}
use Rattle.rules.proofs.Laws.Lists.{and_then_from}
use Rattle.rules.proofs.Laws.Forms.{file_row}
use Rattle.rules.proofs.Laws.Parameters.{passed_is_sound}
use Rattle.rules.proofs.Refusals.Readings.{read_for_longer}
use Rattle.rules.proofs.Refusals.Files.{good_file, good_start, told_in_a_file, inputs_whole}
use Rattle.rules.proofs.Refusals.Runs.{a_good_file_is_played}
use Rattle.rules.proofs.Refusals.Changes.{ends, change_read, all_are_played, read_leads_on}
use Rattle.demands.specs.Joined.{move_played, calls, start_of, calls_of, Joined, changes_of, InChanges}
use Rattle.demands.specs.Changes.{Part, GoodParts, inputs_of, in_parts}
use Rattle.demands.proofs.Changes.{a_change_is_the_single_inputs, in_parts_lem}

-- the move to the end is a clock move that is not refused
move_played_lem : (s : State) (end : ℕ) → sound s ≡ true → s.clock ≤ end → end ≤ last_stamp → (move_played (move_call s end) ≡ moved (clock_move s end)) × ((move_call s end).code ≡ 0)
unfolding move_done
move_played_lem s end safe later timely =
    let made = good_is_made s end safe ((timely_exactly_when s.clock end).1 (later, timely)) in
    let all = used_places 2 (clock_move s end).records (a_move_writes_at_most_two s end) in
    (rw (made, all) refl, rw made refl)

-- a change is read as the inputs of an accepted file are, where the clock stands at 0
read_as_a_change : (file : List ℕ) (s : State) (list : List Cue) → s.clock ≡ 0 → read_file file ≡ cues list → change_read s (inputs_in file) (group_count (inputs_in file)) ≡ cues list
unfolding change_read
read_as_a_change file s list at-0 read =
    let start = (good_file file list read).start in
    let n : group_count (inputs_in file) ≡ input_count file = omega (arith, inputs_whole file start.header.layout) in
    rw (n, at-0) (read_for_longer (cue_at (inputs_in file)) (inputs_in file) (input_count file) 0 0 (end_time file) last_stamp list start.header.layout.end (sym (good_start file start) ∙ read))

-- the inputs of an accepted file are single inputs to its fresh state, none of them refused: these play what the run plays before its last clock move
pub inputs_are_single_inputs : (file : List ℕ) (list : List Cue) → read_file file ≡ cues list → let s : State = fresh (params_in file) (scenes_in file) in
    singles 0 (groups_in (inputs_in file)) s ≡ ends (plays list s) 0 0
inputs_are_single_inputs file list read =
    let s : State = fresh (params_in file) (scenes_in file) in
    all_are_played s (inputs_in file) (passed_is_sound (form_in file) (parameters_in file) (file_row file) (good_file file list read).start.passed) list (read_as_a_change file s list (unfold fresh in refl) read)

-- accepted parameters give the fresh state
pub fresh_played : (file : List ℕ) → GoodStart file → fresh_call (parameters_in file) ≡ record { state = fresh (params_in file) (scenes_in file); code = 0; place = 0 }
unfolding fresh_call fresh_by
fresh_played file start =
    let told = told_in_a_file file start.header.enough.long in
    let passed : check_alone (parameters_in file) ≡ (Ok tt) = unfold check_alone in rw told start.passed in
    rw (passed, told)

pub start_is_fresh : (file : List ℕ) → GoodStart file → start_of file ≡ fresh (params_in file) (scenes_in file)
unfolding start_of
start_is_fresh file start = ap (λ (r : Fresh). r.state) (fresh_played file start)

-- a list that is played to an end, as the calls
calls_joined : (end : ℕ) (octets : List (List ℕ)) (s : State) (list : List Cue) → singles 0 octets s ≡ ends (plays list s) 0 0 → move_played (move_call (plays list s).state end) ≡ moved (clock_move (plays list s).state end) →
    plays_to end list s ≡ calls end octets s
unfolding plays_to calls
calls_joined end octets s list change last =
    and_then_from (plays list s) (λ x. moved (clock_move x end)) (λ x. move_played (move_call x end)) (sym last) ∙ sym (ap (λ (c : Singles). and_then c.played (λ x. move_played (move_call x end))) change)

pub file_is_the_calls_joined : (file : List ℕ) (list : List Cue) → read_file file ≡ cues list → Joined file list
unfolding calls_of play_file play_list
file_is_the_calls_joined file list read =
    let start = (good_file file list read).start in
    let s : State = fresh (params_in file) (scenes_in file) in
    let first = start_is_fresh file start in
    let safe = passed_is_sound (form_in file) (parameters_in file) (file_row file) start.passed in
    let change = inputs_are_single_inputs file list read in
    let there = read_leads_on (inputs_in file) (input_count file) 0 (end_time file) s list start.header.layout.end safe (unfold fresh in omega arith) (unfold fresh in sym (good_start file start) ∙ read) in
    let last = move_played_lem (plays list s).state (end_time file) there.0 there.1 start.header.layout.end in
    record {
      fresh = rw (fresh_played file start);
      accepted = record { inputs = rw (first, change) refl; move = rw (first, change) last.1 };
      joined = rw first (and_then_from (record { state = s; answers = []; records = record_of by_itself s ∷ [] }) (plays_to (end_time file) list) (calls (end_time file) (groups_in (inputs_in file))) (calls_joined (end_time file) (groups_in (inputs_in file)) s list change last.0));
    }

-- the accepted run, whole: report and both buffers are those of the calls
pub run_is_the_calls_joined : (file records answers : List ℕ) (list : List Cue) → read_file file ≡ cues list → lent_enough file records answers ≡ true →
    run_call file records answers ≡ accepted (calls_of file) records answers
run_is_the_calls_joined file records answers list read room =
    a_good_file_is_played file records answers list read room ∙ ap (λ p. accepted p records answers) (file_is_the_calls_joined file list read).joined

-- ---- the inputs cut into changes

-- what single inputs play of an accepted file, by the state that its parameters give
played_singly : (file : List ℕ) (list : List Cue) → read_file file ≡ cues list → singles 0 (groups_in (inputs_in file)) (start_of file) ≡ ends (plays list (start_of file)) 0 0
played_singly file list read = rw (start_is_fresh file (good_file file list read).start) (inputs_are_single_inputs file list read)

start_is_sound : (file : List ℕ) → sound (start_of file) ≡ true
unfolding start_of
start_is_sound file = fresh_call_is_sound (parameters_in file)

-- "the run's inputs from the fresh state are such changes": cut anywhere into parts of at most 256, each with any buffers that are long enough for it
pub inputs_are_changes : (file : List ℕ) (list : List Cue) → read_file file ≡ cues list → (parts : List Part) → GoodParts parts → inputs_of parts ≡ inputs_in file → InChanges file list parts
unfolding calls_of calls changes_of
inputs_are_changes file list read parts good whole =
    let s : State = start_of file in
    let singly = played_singly file list read in
    let each = in_parts_lem parts s good (start_is_sound file) (rw (whole, singly) refl) in
    let last : Played → Played = λ p. and_then p (λ x. move_played (move_call x (end_time file))) in
    let same : in_parts parts s ≡ (singles 0 (groups_in (inputs_in file)) s).played = each.1 ∙ ap (λ (octets : List ℕ). (singles 0 (groups_in octets) s).played) whole in
    record {
      accepted = each.0;
      played = same ∙ ap (λ (c : Singles). c.played) singly;
      joined = (file_is_the_calls_joined file list read).joined ∙ and_then_from (record { state = s; answers = []; records = record_of by_itself s ∷ [] }) (calls (end_time file) (groups_in (inputs_in file))) (λ u. last (in_parts parts u)) (ap last (sym same));
    }

-- the accepted run, whole: report and both buffers are those of the changes
pub run_is_the_changes_joined : (file records answers : List ℕ) (list : List Cue) → read_file file ≡ cues list → lent_enough file records answers ≡ true → (parts : List Part) → GoodParts parts → inputs_of parts ≡ inputs_in file →
    run_call file records answers ≡ accepted (changes_of file parts) records answers
run_is_the_changes_joined file records answers list read room parts good whole =
    a_good_file_is_played file records answers list read room ∙ ap (λ p. accepted p records answers) (inputs_are_changes file list read parts good whole).joined

-- a file of at most 256 inputs is one such change of its fresh state, accepted, and plays what the run plays between start record and last clock move
pub few_inputs_are_one_change : (file : List ℕ) (list : List Cue) → read_file file ≡ cues list → input_count file ≤ 256 → (r a : List ℕ) → RoomFor (input_count file) r a →
    change_call (start_of file) (inputs_in file) r a ≡ accepted (plays list (start_of file)) r a
unfolding changed accepted
few_inputs_are_one_change file list read few r a room =
    let whole = inputs_whole file (good_file file list read).start.header.layout in
    let n : group_count (inputs_in file) ≡ input_count file = omega (arith, whole) in
    a_change_is_the_single_inputs (start_of file) (inputs_in file) r a (start_is_sound file) (record { whole = omega (arith, whole); few = omega (arith, whole, few) }) (rw n room)
    ∙ ap (λ (c : Singles). changed c r a) (played_singly file list read)
