-- What the code finds before it plays decides how far the change goes, and what is played then is the change.
use Rattle.std.specs.Prelude.{Ok}
use Prim.Native.Nat.{ℕ, ◌*◌, ◌/◌, ◌≤◌, ◌<◌}
use mathlib.Core.Bool.{true, false}
use mathlib.Core.List.{List}
use mathlib.Core.Path.{◌≡◌, refl, ap}
use native.Mathlib.Nat.{zero-add}
use native.Mathlib.Omega.{arith}
use lib.ListN.{length}
use Rattle.base.specs.declared.refusal.Refusal.{Refusal}
use Rattle.base.specs.Time.{last_stamp}
use Rattle.rules.specs.declared.state.State.{State}
use Rattle.rules.specs.Lists.{Cue, Played, plays}
use Rattle.rules.specs.Readings.{Reading, cues, bad, found, verdict, read_inputs}
use Rattle.rules.specs.Files.{cue_at}
use Rattle.rules.specs.Runs.{whole}
use Rattle.rules.specs.Soundness.{sound}
use Rattle.rules.specs.Changes.{group_count, groups_in, singles, check_change, changed, change_by, change_call}
use Rattle.rules.proofs.Refusals.Readings.{inputs_decide}
use Rattle.rules.proofs.Refusals.Runs.{narrow_input}
use Rattle.rules.proofs.Refusals.Changes.{ends, change_read, all_are_played, played_up_to, looked_at_exactly_when}
use Rattle.sensor.specs.Sensors.{own_sensor}
use Rattle.pairs.specs.Pairs.{Pair, pair_of}
use Rattle.pairs.specs.Lists.{actuator_part, pair_plays}
use Rattle.pairs.specs.Calls.{pair_sound}
use Rattle.pairs.specs.Walls.{item_in}
use Rattle.pairs.proofs.Halves.{plain_items, plain_plays}
use Rattle.pairs.proofs.Reading.{reads_plain}
use Rattle.pairs.proofs.Soundness.{sound_pair_exactly_when}
use Rattle.buffers.proofs.Splices.{splice_front}
use Rattle.cues.specs.Checks.{check_inputs, known_at}
use Rattle.cues.proofs.Inputs.{checked_as_read, known_says}
use Rattle.turns.specs.Turns.{listened}
use Rattle.turns.proofs.Turning.{all_heard}
use Rattle.player.specs.declared.items.Reached.{Reached}
use Rattle.player.specs.Playing.{items_from, Ready, ItemsPlayed}
use Rattle.changes.specs.declared.play.Reach.{Reach}
use Rattle.changes.specs.Reaches.{reach_of}

-- ---- before any input is looked at

-- where nothing is wrong there, the groups are few
pub looked_few : (s : State) (inputs r a : List ℕ) → check_change s inputs r a ≡ (Ok tt) → length inputs / 8 ≤ 256
looked_few s inputs r a passed = ((looked_at_exactly_when s inputs r a).0 passed).1.0.few

-- ---- how far it goes

-- the inputs that are played are read without fault, and what they give is all that the single inputs would give
pub record Upto (s : State) (inputs : List ℕ) (r : Reach) : Type 0 where
  pub list : List Cue
  pub few : r.count ≤ group_count inputs
  pub reads : change_read s inputs r.count ≡ cues list
  pub gives : singles 0 (groups_in inputs) s ≡ ends (plays list s) r.code r.place

pub upto : (s : State) (inputs : List ℕ) → sound s ≡ true → Upto s inputs (reach_of (verdict (change_read s inputs (group_count inputs))) (group_count inputs))
upto s inputs safe = by (change_read s inputs (group_count inputs)) refl
  where
    within : (why : Refusal) (place : ℕ) → change_read s inputs (group_count inputs) ≡ bad why place → place < group_count inputs
    within why place e =
        narrow_input (cue_at inputs) inputs (group_count inputs) s.clock last_stamp why place (((inputs_decide (cue_at inputs) inputs (group_count inputs) s.clock last_stamp).refused why place).0 (unfold change_read in ap verdict e))

    by : (x : Reading Cue) → change_read s inputs (group_count inputs) ≡ x → Upto s inputs (reach_of (verdict x) (group_count inputs))
    by (cues list) e = unfold reach_of in record { list = list; few = omega arith; reads = e; gives = all_are_played s inputs safe list e }
    by (bad why place) e = let g = played_up_to s inputs safe why place e in unfold reach_of in record { list = g.0; few = omega (arith, within why place e); reads = g.1; gives = g.2 }

-- the check of the inputs finds what reading them finds
pub found_before : (s : State) (inputs : List ℕ) → check_inputs (known_at false inputs) inputs (group_count inputs) 0 s.clock last_stamp ≡ verdict (change_read s inputs (group_count inputs))
unfolding change_read
found_before s inputs = checked_as_read (cue_at inputs) (known_at false inputs) (known_says inputs) inputs (group_count inputs) 0 s.clock last_stamp

-- ---- what is played

module _ (s : State) (inputs r a : List ℕ) (passed : check_change s inputs r a ≡ Ok tt) (reach : Reach) (up : Upto s inputs reach) where
  -- the items are the cues that were read
  items_read_lem : read_inputs (item_in inputs) inputs reach.count 0 s.clock last_stamp ≡ cues (plain_items up.list)
  unfolding change_read
  items_read_lem = reads_plain inputs reach.count 0 s.clock last_stamp up.list up.reads

  the_items : items_from inputs reach.count s.clock ≡ plain_items up.list
  unfolding items_from
  the_items = ap found items_read_lem

  abbrev start : Pair
  start = pair_of s (listened r 0 own_sensor 0)

  start_is_sound : pair_sound start ≡ true
  start_is_sound =
      rw (all_heard r 0 own_sensor)
      ((sound_pair_exactly_when (pair_of s own_sensor)).1 (record { actuator = ((looked_at_exactly_when s inputs r a).0 passed).0; sensor = unfold own_sensor in omega arith; behind = unfold own_sensor in omega arith }))

  pub ready : Ready inputs reach.count start
  ready =
      record {
        few = omega (arith, ((looked_at_exactly_when s inputs r a).0 passed).1.0.few, up.few);
        whole = omega (arith, up.few);
        reads = rw the_items items_read_lem;
        sound = start_is_sound;
      }

  pub room_for_them : (8 * (3 * reach.count) ≤ length r) × (reach.count ≤ length a)
  room_for_them = let room = ((looked_at_exactly_when s inputs r a).0 passed).1.1 in (omega (arith, room.wide, up.few), omega (arith, room.long, up.few))

  -- and what playing leaves is the change
  pub change_played_lem : (d : Reached) (r₁ a₁ : List ℕ) → ItemsPlayed inputs reach.count s own_sensor 0 r a d r₁ a₁ →
      whole (record { state = d.state; code = reach.code; place = reach.place; count = d.count }) r₁ a₁ ≡ change_call s inputs r a
  unfolding change_call change_by changed
  change_played_lem d r₁ a₁ played =
      let f = rw the_items at played.filled in
      let alone : actuator_part (pair_plays (plain_items up.list) start) ≡ plays up.list s = plain_plays up.list start in
      rw (passed, up.gives, f.state, f.count, f.records, f.answers, splice_front r, splice_front a, zero-add)
      (ap (λ (p : Played). changed (ends p reach.code reach.place) r a) alone)
