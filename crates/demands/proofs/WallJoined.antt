-- The run over a wall list is the public calls by value, joined in order.
use Rattle.std.specs.Prelude.{Some}
use Prim.Native.Nat.{ℕ, zero, suc, ◌+◌, ◌≤◌}
use lib.ListN.{drop}
use mathlib.Core.Bool.{true}
use mathlib.Core.List.{List, [], ◌∷◌}
use mathlib.Core.Path.{◌≡◌, refl, sym, ap, ◌∙◌}
use native.Mathlib.Omega.{arith}
use Rattle.octets.specs.Groups.{stamp_at}
use Rattle.base.specs.Time.{last_stamp}
use Rattle.base.specs.Refusals.{Timely}
use Rattle.base.proofs.Codes.{timely_exactly_when}
use Rattle.rules.specs.declared.parameters.Params.{Params}
use Rattle.rules.specs.declared.parameters.Scene.{Scene}
use Rattle.rules.specs.Status.{value, record_of, by_itself}
use Rattle.rules.specs.Steps.{fresh}
use Rattle.rules.specs.Layout.{input_place}
use Rattle.rules.specs.Readings.{cues, read_inputs}
use Rattle.rules.specs.Files.{input_count, end_time, lent_enough, inputs_in}
use Rattle.rules.proofs.Laws.Records.{used_places}
use Rattle.sensor.specs.Reactions.{hear}
use Rattle.sensor.specs.Signals.{signal_at}
use Rattle.sensor.specs.Sensors.{fresh_sensor}
use Rattle.sensor.specs.Calls.{fresh_sensor_by, fresh_sensor_call}
use Rattle.sensor.specs.Refusals.{GoodActions}
use Rattle.sensor.proofs.Actions.{good_is_passed}
use Rattle.sensor.proofs.Telegrams.{told_back}
use Rattle.pairs.specs.declared.item.Item.{Item}
use Rattle.pairs.specs.declared.call.JointMove.{JointMove}
use Rattle.pairs.specs.Items.{item_at}
use Rattle.pairs.specs.Pairs.{Pair, hears, pair_move, pair_step}
use Rattle.pairs.specs.Lists.{Listed, PairPlayed, pair_then, pair_moved, pair_stepped, pair_plays_to, pair_start, play_items}
use Rattle.pairs.specs.Calls.{pair_sound, joint_done, joint_call, joint_move_done, joint_move_call}
use Rattle.pairs.specs.Walls.{file_in, actions_in, item_in, read_wall, play_wall, wall_accepted, wall_call}
use Rattle.pairs.proofs.Ties.{item_clock}
use Rattle.pairs.proofs.Soundness.{pair_step_keeps_sound}
use Rattle.pairs.proofs.Items.{item_fits}
use Rattle.pairs.proofs.Playing.{pair_then_from, pair_plays_to_next, pair_plays_to_end}
use Rattle.pairs.proofs.Refusals.Calls.{an_item_writes_at_most_three, a_pair_move_writes_at_most_two, a_good_item_is_played, a_good_move_is_made}
use Rattle.rules.proofs.Refusals.Files.{inputs_whole}
use Rattle.pairs.proofs.Refusals.Walls.{good_wall, good_wall_is_read, a_good_wall_is_played}
use Rattle.rules.specs.Changes.{groups, group_count, groups_in}
use Rattle.rules.proofs.Refusals.Changes.{group_at, groups_next, group_octet, group_stamp, group_input}
use Rattle.demands.specs.Walls.{wall_params, wall_scenes, wall_end, begun}
use Rattle.demands.specs.WallJoined.{joint_played, joint_move_played, joint_calls, NoJointRefused, wall_start_of, wall_inputs_in, wall_calls_of, WallJoined}
use Rattle.demands.proofs.Joined.{fresh_played, start_is_fresh}
use Rattle.pairs.proofs.Reading.{first_item}
use Rattle.demands.proofs.EveryWall.{a_wall_starts_sound}

-- ---- one call

-- the eight octets say what the list says at their place
same_signal : (inputs : List ℕ) (i : ℕ) → signal_at (group_at inputs i) 0 ≡ signal_at inputs (input_place i)
unfolding signal_at
same_signal inputs i =
    rw (group_octet inputs i 4 (omega arith), group_octet inputs i 5 (omega arith), group_octet inputs i 6 (omega arith), group_octet inputs i 7 (omega arith))

same_item : (inputs : List ℕ) (i : ℕ) → item_at (group_at inputs i) 0 ≡ item_at inputs (input_place i)
unfolding item_at
same_item inputs i = rw (group_input inputs i, same_signal inputs i)

-- an item that is read without fault is a joined input that is not refused
an_item_is_a_call : (inputs : List ℕ) (i : ℕ) (p : Pair) (x : Item) → pair_sound p ≡ true → item_at inputs (input_place i) ≡ Some x → Timely p.actuator.clock (stamp_at inputs (input_place i)) →
    joint_call p (group_at inputs i) ≡ joint_done (stamp_at inputs (input_place i)) (pair_step p x (stamp_at inputs (input_place i)))
an_item_is_a_call inputs i p x safe known timely =
    a_good_item_is_played p (group_at inputs i) x safe (same_item inputs i ∙ known) (rw (group_stamp inputs i) ((timely_exactly_when p.actuator.clock (stamp_at inputs (input_place i))).1 timely)) ∙ rw (group_stamp inputs i)

-- what it gives by value is what the step gives
item_played : (p : Pair) (x : Item) (t : ℕ) → joint_played (joint_done t (pair_step p x t)) ≡ pair_stepped (pair_step p x t)
unfolding joint_done
item_played p x t = rw (used_places 3 (pair_step p x t).records (an_item_writes_at_most_three p x t), told_back t (pair_step p x t).telegram)

-- the move to the end is a clock move that is not refused
pair_move_played : (p : Pair) (end : ℕ) → joint_move_played (joint_move_done (pair_move p end)) ≡ pair_moved (pair_move p end)
unfolding joint_move_done
pair_move_played p end = rw (used_places 2 (pair_move p end).records (a_pair_move_writes_at_most_two p end))

the_end_is_a_call : (p : Pair) (end : ℕ) → pair_sound p ≡ true → Timely p.actuator.clock end → joint_move_call p end ≡ joint_move_done (pair_move p end)
the_end_is_a_call p end safe timely = a_good_move_is_made p end safe ((timely_exactly_when p.actuator.clock end).1 timely)

-- ---- all of them

no_groups : (octets : List ℕ) → groups zero octets ≡ []
unfolding groups
no_groups octets = refl

wall_joins : (inputs : List ℕ) (left i end : ℕ) (p : Pair) (items : List Listed) → end ≤ last_stamp → pair_sound p ≡ true → p.actuator.clock ≤ end →
    read_inputs (item_in inputs) inputs left i p.actuator.clock end ≡ cues items →
    (pair_plays_to end items p ≡ joint_calls end (groups left (drop (input_place i) inputs)) p) × NoJointRefused end (groups left (drop (input_place i) inputs)) p
unfolding joint_calls joint_done
wall_joins inputs zero i end p items timely safe early read =
    let none : items ≡ [] = unfold read_inputs in cc in
    let call = the_end_is_a_call p end safe (early, timely) in
    rw (no_groups (drop (input_place i) inputs)) (
      ap (λ l. pair_plays_to end l p) none ∙ pair_plays_to_end end p ∙ sym (ap joint_move_played call ∙ pair_move_played p end),
      ap (λ (r : JointMove). r.code) call ∙ unfold joint_move_done in refl,
    )
wall_joins inputs (suc left) i end p items timely safe early read =
    let f = first_item inputs left i p.actuator.clock end items read in
    let t : ℕ = stamp_at inputs (input_place i) in
    let d = pair_step p f.input t in
    let call = an_item_is_a_call inputs i p f.input safe f.meant (f.risen, omega (arith, f.timely, timely)) in
    let clock = item_clock p f.input t in
    let safely = pair_step_keeps_sound p f.input t safe f.risen (omega (arith, f.timely, timely)) (item_fits inputs (input_place i) f.input f.meant) in
    let rest = wall_joins inputs left (i + 1) end d.pair f.later timely safely (rw clock f.timely) (rw clock f.reads) in
    let same : joint_played (joint_call p (group_at inputs i)) ≡ pair_stepped d = ap joint_played call ∙ item_played p f.input t in
    rw (groups_next inputs left i) (
      ap (λ l. pair_plays_to end l p) f.starts
          ∙ pair_plays_to_next end t f.input f.later p
          ∙ pair_then_from (pair_stepped d) (pair_plays_to end f.later) (joint_calls end (groups left (drop (input_place (i + 1)) inputs))) rest.0
          ∙ sym (ap (λ (a : PairPlayed). pair_then a (joint_calls end (groups left (drop (input_place (i + 1)) inputs)))) same),
      (rw call, rw call rest.1),
    )

-- ---- the start

-- the start record says off at 0: the fresh sensor knows it
pub the_start_record_is_known : (k : Params) (scenes : List Scene) (octets : List ℕ) → hears (record_of by_itself (fresh k scenes) ∷ []) (fresh_sensor octets) ≡ fresh_sensor octets
unfolding hears hear fresh_sensor record_of fresh value
the_start_record_is_known k scenes octets = refl

fresh_sensor_made : (octets : List ℕ) → GoodActions octets → fresh_sensor_call octets ≡ record { sensor = fresh_sensor octets; code = 0; place = 0 }
unfolding fresh_sensor_call fresh_sensor_by
fresh_sensor_made octets g = rw (good_is_passed octets g)

pub wall_is_the_calls_joined : (wall : List ℕ) (items : List Listed) → read_wall wall ≡ cues items → WallJoined wall items
unfolding wall_calls_of wall_inputs_in groups_in play_wall play_items
wall_is_the_calls_joined wall items read =
    let good = good_wall wall items read in
    let file : List ℕ = file_in wall in
    let made = fresh_sensor_made (actions_in wall) good.actions in
    let state = start_is_fresh file good.start in
    let known = the_start_record_is_known (wall_params wall) (wall_scenes wall) (actions_in wall) in
    let first : wall_start_of wall ≡ begun wall = unfold wall_start_of in rw (state, made, known) refl in
    let n : group_count (inputs_in file) ≡ input_count file = omega (arith, inputs_whole file good.start.header.layout) in
    let all = rw (← n) at (wall_joins (inputs_in file) (input_count file) 0 (end_time file) (begun wall) items good.start.header.layout.end (a_wall_starts_sound wall items read) (unfold fresh in omega arith) (unfold fresh in sym (good_wall_is_read wall good) ∙ read)) in
    record {
      fresh = rw (fresh_played file good.start);
      fresh_sensor = rw made;
      accepted = rw first all.1;
      joined =
          rw (first, state)
          (pair_then_from (pair_start (wall_params wall) (wall_scenes wall) (fresh_sensor (actions_in wall))) (pair_plays_to (wall_end wall) items) (joint_calls (wall_end wall) (groups_in (inputs_in file))) all.0);
    }

-- the accepted run, whole: report and both buffers are those of the calls
pub wall_run_is_the_calls_joined : (wall records answers : List ℕ) (items : List Listed) → read_wall wall ≡ cues items → lent_enough (file_in wall) records answers ≡ true →
    wall_call wall records answers ≡ wall_accepted (wall_calls_of wall) records answers
wall_run_is_the_calls_joined wall records answers items read room =
    a_good_wall_is_played wall records answers items read room ∙ ap (λ (p : PairPlayed). wall_accepted p records answers) (wall_is_the_calls_joined wall items read).joined
