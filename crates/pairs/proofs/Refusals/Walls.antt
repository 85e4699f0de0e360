-- The run over a wall list: what it is refused for, exactly; what it finds, what it writes, and how much.
use Rattle.std.specs.Prelude.{Ok, Err, slice_get}
use Prim.Native.Nat.{ℕ, ◌+◌, ◌-◌, ◌*◌, ◌≤◌, ◌<◌}
use mathlib.Core.Bool.{Bool, true, false, cond}
use mathlib.Core.List.{List, [], ◌∷◌, ◌++◌}
use mathlib.Core.Logic.{◌↔◌}
use mathlib.Core.Path.{◌≡◌, refl, sym, ap, ◌∙◌}
use native.Mathlib.Omega.{arith}
use lib.Dec.{leb}
use lib.ListN.{length, drop, length-append, length-take, length-drop, take-append-drop}
use lib.Seq.{get_or-take, get_or-drop}
use borrow.Author.Tests.{leb-true, le-leb}
use Rattle.octets.specs.BigEndian.{octet}
use Rattle.base.specs.declared.refusal.Refusal.{Refusal}
use Rattle.base.specs.declared.refusal.Refusal.TheVariants.{WrongLength, ShortBuffer}
use Rattle.base.specs.Refusals.{code_of, place_of, or_else, Decides, Check, refused_with}
use Rattle.base.proofs.Codes.{codes_of_a_check, one_test_decides, then_decides}
use Rattle.rules.specs.Files.{input_count, end_time, check_start, lent_enough, params_in, scenes_in, inputs_in}
use Rattle.rules.specs.Calls.{own_state}
use Rattle.rules.specs.Readings.{Reading, cues, bad, verdict, if_lent_enough}
use Rattle.rules.specs.Refusals.{GoodStart, RoomFor}
use Rattle.rules.specs.Runs.{records_octets, over}
use Rattle.rules.proofs.Refusals.Readings.{verdict_after, verdict_if_lent, inputs_decide, list_is_the_inputs}
use Rattle.rules.proofs.Refusals.Files.{start_decides, good_start_passes}
use Rattle.rules.proofs.Refusals.Runs.{lent_enough_exactly_when, records_length}
use Rattle.sensor.specs.Actions.{check_actions}
use Rattle.sensor.specs.Sensors.{fresh_sensor, own_sensor}
use Rattle.sensor.specs.Refusals.{GoodActions}
use Rattle.sensor.proofs.Actions.{actions_decide}
use Rattle.pairs.specs.Pairs.{Pair, pair_step}
use Rattle.pairs.specs.Lists.{Listed, listed, pair_plays, pair_plays_to, pair_start, play_items}
use Rattle.pairs.specs.Walls.{file_in, actions_in, check_wall, item_in, read_wall, read_wall_call, WallWhole, play_wall, wall_accepted, wall_refused, wall_by, wall_call, items_read}
use Rattle.pairs.specs.Refusals.{WallWhen, GoodWall, WallCodes}
use Rattle.pairs.proofs.Refusals.Calls.{an_item_writes_at_most_three, a_pair_move_writes_at_most_two}

-- ---- the two parts of a wall list

module _ (wall : List ℕ) where
  pub file_then_actions : file_in wall ++ actions_in wall ≡ wall
  unfolding file_in actions_in
  file_then_actions = take-append-drop (length wall - 4) wall

  pub file_length : length (file_in wall) ≡ length wall - 4
  unfolding file_in
  file_length = length-take (length wall - 4) wall ∙ omega arith

  pub actions_length : 4 ≤ length wall → length (actions_in wall) ≡ 4
  unfolding actions_in
  actions_length long = length-drop (length wall - 4) wall ∙ omega arith

  pub file_octet : (j : ℕ) → j < length wall - 4 → octet (file_in wall) j ≡ octet wall j
  unfolding file_in
  file_octet j within = get_or-take (length wall - 4) wall j 0 within

  pub action_octet : (j : ℕ) → octet (actions_in wall) j ≡ octet wall (length wall - 4 + j)
  unfolding actions_in
  action_octet j = get_or-drop (length wall - 4) wall j 0

-- ---- what it is refused for

-- one check after the other
wall_is_its_checks : (b : Bool) (start actions inputs : Check) →
    or_else (cond b (or_else start actions) (refused_with WrongLength 0)) inputs ≡ or_else (cond b (Ok tt) (refused_with WrongLength 0)) (or_else start (or_else actions inputs))
wall_is_its_checks true (Ok _) actions inputs = refl
wall_is_its_checks true (Err fault) actions inputs = refl
wall_is_its_checks false start actions inputs = refl

long_exactly_when : (n : ℕ) → (leb 56 n ≡ true) ↔ (56 ≤ n)
long_exactly_when n = (leb-true 56 n, le-leb 56 n)

pub wall_decides : (wall : List ℕ) → Decides (WallWhen wall) (GoodWall wall) (verdict (read_wall wall))
unfolding read_wall check_wall
wall_decides wall =
    let file : List ℕ = file_in wall in
    let long = one_test_decides (56 ≤ length wall) (leb 56 (length wall)) WrongLength 0 (long_exactly_when (length wall)) in
    let rest = then_decides _ _ (start_decides file) (then_decides _ _ (actions_decide (actions_in wall)) (inputs_decide (item_in (inputs_in file)) (inputs_in file) (input_count file) 0 (end_time file))) in
    let whole = then_decides _ _ long rest in
    rw (verdict_after (check_wall wall) (items_read file), wall_is_its_checks (leb 56 (length wall)) (check_start file) (check_actions (actions_in wall)) _)
    (record {
      refused = whole.refused;
      passed = (
        λ e. let g = whole.passed.0 e in record { long = g.0; start = g.1.0; actions = g.1.1.0; good = g.1.1.1 },
        λ g. whole.passed.1 (g.long, (g.start, (g.actions, g.good))),
      );
    })

-- a wall list is accepted exactly when no row of the table holds
pub good_wall : (wall : List ℕ) (items : List Listed) → read_wall wall ≡ cues items → GoodWall wall
good_wall wall items e = (wall_decides wall).passed.0 (ap verdict e)

-- where nothing is wrong before its inputs, they are read
pub a_good_start_is_read : (wall : List ℕ) → 56 ≤ length wall → GoodStart (file_in wall) → GoodActions (actions_in wall) →
    read_wall wall ≡ items_read (file_in wall)
unfolding read_wall check_wall
a_good_start_is_read wall long start actions = rw (le-leb 56 (length wall) long, good_start_passes (file_in wall) start, (actions_decide (actions_in wall)).passed.1 actions)

pub good_wall_is_read : (wall : List ℕ) → GoodWall wall →
    read_wall wall ≡ items_read (file_in wall)
good_wall_is_read wall g = a_good_start_is_read wall g.long g.start g.actions

-- as many items as inputs, in their order
pub items_are_the_octets : (wall : List ℕ) (items : List Listed) → read_wall wall ≡ cues items →
    let file : List ℕ = file_in wall in
    (length items ≡ input_count file) × ((j : ℕ) → j < input_count file → slice_get items j ≡ item_in (inputs_in file) j)
items_are_the_octets wall items e =
    let file : List ℕ = file_in wall in
    list_is_the_inputs (item_in (inputs_in file)) (inputs_in file) (input_count file) 0 (end_time file) items (sym (good_wall_is_read wall (good_wall wall items e)) ∙ e)

-- ---- what a run finds

-- The first that fits: the list is at fault, a buffer is too short, or the list is played.
pub data WallFinds (wall records answers : List ℕ) : WallWhole → Type 0 where
  at_fault : (why : Refusal) (place : ℕ) → read_wall wall ≡ bad why place → WallFinds wall records answers (wall_refused why place records answers)
  no_room : (items : List Listed) → read_wall wall ≡ cues items → lent_enough (file_in wall) records answers ≡ false → WallFinds wall records answers (wall_refused ShortBuffer 0 records answers)
  played : (items : List Listed) → read_wall wall ≡ cues items → lent_enough (file_in wall) records answers ≡ true → WallFinds wall records answers (wall_accepted (play_wall wall items) records answers)

module _ (wall records answers : List ℕ) where
  pub wall_finds : WallFinds wall records answers (wall_call wall records answers)
  unfolding wall_call read_wall_call
  wall_finds = by (lent_enough (file_in wall) records answers) (read_wall wall) refl refl
    where
      by : (b : Bool) (x : Reading Listed) → lent_enough (file_in wall) records answers ≡ b → read_wall wall ≡ x → WallFinds wall records answers (wall_by (if_lent_enough b x) wall records answers)
      by true (cues items) room read = unfold wall_by in played items read room
      by false (cues items) room read = unfold wall_by in no_room items read room
      by true (bad why place) room read = unfold wall_by in at_fault why place read
      by false (bad why place) room read = unfold wall_by in at_fault why place read

  -- and the other way round: whatever fits decides the run
  pub a_bad_wall_is_refused : (why : Refusal) (place : ℕ) → read_wall wall ≡ bad why place → wall_call wall records answers ≡ wall_refused why place records answers
  unfolding wall_call read_wall_call wall_by
  a_bad_wall_is_refused why place read = rw (read, either (lent_enough (file_in wall) records answers))
    where
      either : (b : Bool) → let wall-is-bad : Reading Listed = bad why place in if_lent_enough b wall-is-bad ≡ wall-is-bad
      either true = refl
      either false = refl

  pub a_short_wall_buffer_is_refused : (items : List Listed) → read_wall wall ≡ cues items → lent_enough (file_in wall) records answers ≡ false → wall_call wall records answers ≡ wall_refused ShortBuffer 0 records answers
  unfolding wall_call read_wall_call wall_by
  a_short_wall_buffer_is_refused items read room = rw (read, room)

  pub a_good_wall_is_played : (items : List Listed) → read_wall wall ≡ cues items → lent_enough (file_in wall) records answers ≡ true → wall_call wall records answers ≡ wall_accepted (play_wall wall items) records answers
  unfolding wall_call read_wall_call wall_by
  a_good_wall_is_played items read room = rw (read, room)

  -- its code and its place are those of what it reads
  pub wall_is_read : let found : Check = verdict (read_wall_call wall records answers) in ((wall_call wall records answers).report.code ≡ code_of found) × ((wall_call wall records answers).report.place ≡ place_of found)
  unfolding wall_call
  wall_is_read = by (read_wall_call wall records answers)
    where
      by : (x : Reading Listed) → ((wall_by x wall records answers).report.code ≡ code_of (verdict x)) × ((wall_by x wall records answers).report.place ≡ place_of (verdict x))
      by (cues items) = unfold wall_by wall_accepted in (refl, refl)
      by (bad why place) = unfold wall_by wall_refused in (refl, refl)

  pub wall_refused_exactly_when : WallCodes wall records answers (wall_call wall records answers).report.code (wall_call wall records answers).report.place
  unfolding read_wall_call
  wall_refused_exactly_when =
      let file : List ℕ = file_in wall in
      let room = one_test_decides (RoomFor (input_count file) records answers) (lent_enough file records answers) ShortBuffer 0 (lent_enough_exactly_when file records answers) in
      rw (wall_is_read.0, wall_is_read.1)
      (codes_of_a_check (verdict (read_wall_call wall records answers)) (rw (verdict_if_lent (lent_enough file records answers) (read_wall wall)) (then_decides _ _ (wall_decides wall) room)))

  -- "A refused call writes nothing to the lent memory", its count is 0, and it has the refusal's own state and sensor
  pub a_refused_wall_writes_nothing : ((wall_call wall records answers).report.code ≡ 0 → ⊥) →
      let r = (wall_call wall records answers).report in
      wall_call wall records answers ≡ record { report = record { state = own_state; sensor = own_sensor; code = r.code; place = r.place; count = 0 }; records = records; answers = answers }
  a_refused_wall_writes_nothing = by wall_finds
    where
      by : {w : WallWhole} → WallFinds wall records answers w → (w.report.code ≡ 0 → ⊥) →
          w ≡ record { report = record { state = own_state; sensor = own_sensor; code = w.report.code; place = w.report.place; count = 0 }; records = records; answers = answers }
      by (at_fault why place read) f = unfold wall_refused in refl
      by (no_room items read room) f = unfold wall_refused in refl
      by (played items read room) f = absurd (f (unfold wall_accepted in refl))

-- ---- how much is written

items_write_few : (items : List Listed) (p : Pair) → length (pair_plays items p).records ≤ 3 * length items
unfolding pair_plays
items_write_few [] p = omega arith
items_write_few (listed t i ∷ later) p = rw length-append (omega (arith, an_item_writes_at_most_three p i t, items_write_few later (pair_step p i t).pair))

items_answer : (items : List Listed) (p : Pair) → length (pair_plays items p).answers ≡ length items
unfolding pair_plays
items_answer [] p = refl
items_answer (listed t i ∷ later) p = rw length-append (omega (arith, items_answer later (pair_step p i t).pair))

-- three for each item, two for the move to the end, and the start record
pub played_wall_count : (wall : List ℕ) (items : List Listed) → length (play_wall wall items).records ≤ 3 * length items + 3
unfolding play_wall play_items pair_plays_to
played_wall_count wall items =
    let begun : Pair = (pair_start (params_in (file_in wall)) (scenes_in (file_in wall)) (fresh_sensor (actions_in wall))).pair in
    rw (length-append, length-append) (omega (arith, items_write_few items begun, a_pair_move_writes_at_most_two (pair_plays items begun).pair (end_time (file_in wall))))

pub played_wall_answers : (wall : List ℕ) (items : List Listed) → length (play_wall wall items).answers ≡ length items
unfolding play_wall play_items pair_plays_to
played_wall_answers wall items =
    let begun : Pair = (pair_start (params_in (file_in wall)) (scenes_in (file_in wall)) (fresh_sensor (actions_in wall))).pair in
    rw (length-append, length-append) (omega (arith, items_answer items begun))

-- of a run that is accepted
module _ (wall records answers : List ℕ) (items : List Listed) (read : read_wall wall ≡ cues items) (room : lent_enough (file_in wall) records answers ≡ true) where
  -- as many records as are counted, and never more than the buffer is asked to hold
  pub wall_count : let n : ℕ = (wall_call wall records answers).report.count in (n ≡ length (play_wall wall items).records) × (n ≤ 3 * input_count (file_in wall) + 3)
  unfolding wall_accepted
  wall_count =
      rw (a_good_wall_is_played wall records answers items read room) (refl, omega (arith, played_wall_count wall items, (items_are_the_octets wall items read).0))

  -- an answer for each input; "Octets past what is written stay."
  pub wall_answers_are_n : (length (play_wall wall items).answers ≡ input_count (file_in wall)) × ((wall_call wall records answers).answers ≡ (play_wall wall items).answers ++ drop (input_count (file_in wall)) answers)
  unfolding wall_accepted over
  wall_answers_are_n =
      let n : length (play_wall wall items).answers ≡ input_count (file_in wall) = played_wall_answers wall items ∙ (items_are_the_octets wall items read).0 in
      (n, rw (a_good_wall_is_played wall records answers items read room, n))

  pub wall_records_are_as_counted : (wall_call wall records answers).records ≡ records_octets (play_wall wall items).records ++ drop (8 * (wall_call wall records answers).report.count) records
  unfolding wall_accepted over
  wall_records_are_as_counted = rw (a_good_wall_is_played wall records answers items read room, records_length (play_wall wall items).records)
