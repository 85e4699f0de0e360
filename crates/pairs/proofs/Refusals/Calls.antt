-- One item to a pair and a clock move of a pair: refused exactly when the table says, a refusal changes nothing, and a sound pair stays sound.
use Rattle.std.specs.Prelude.{Option, Some, None}
use Prim.Native.Nat.{ℕ, ◌-◌, ◌≤◌}
use mathlib.Core.Bool.{Bool, true, false, cond}
use mathlib.Core.List.{List, [], ◌++◌}
use mathlib.Core.Path.{◌≡◌, refl}
use native.Mathlib.Omega.{arith}
use lib.ListN.{length}
use Rattle.octets.specs.Groups.{stamp_at}
use Rattle.base.specs.declared.refusal.Refusal.TheVariants.{BadInput, BadStamp, UnsoundState}
use Rattle.base.specs.Refusals.{code_of, place_of, stamp_in_range, check_call, Timely, Check}
use Rattle.base.proofs.Codes.{timely_exactly_when, call_codes}
use Rattle.rules.specs.Steps.{Stepped}
use Rattle.rules.specs.Calls.{places}
use Rattle.rules.proofs.Laws.Records.{a_move_writes_at_most_two, an_input_writes_at_most_three, places_hold_all}
use Rattle.sensor.specs.Calls.{telegram_octets}
use Rattle.sensor.specs.Claims.{silence}
use Rattle.pairs.specs.declared.item.Item.{Item}
use Rattle.pairs.specs.declared.call.Joint.{Joint}
use Rattle.pairs.specs.declared.call.JointMove.{JointMove}
use Rattle.pairs.specs.Items.{item_at}
use Rattle.pairs.specs.Pairs.{Pair, pair_of, PairMoved, pair_move, PairStepped, pair_step}
use Rattle.pairs.specs.Calls.{pair_sound, joint_done, joint_refused, joint_meant, joint_call, joint_move_done, joint_move_refused, joint_move_call}
use Rattle.pairs.specs.Refusals.{SoundPair, JointCodes, JointMoveCodes}
use Rattle.pairs.proofs.Halves.{item_gives}
use Rattle.pairs.proofs.Soundness.{sound_pair_exactly_when, pair_move_keeps_sound, pair_step_keeps_sound}
use Rattle.pairs.proofs.Items.{is_known, known_exactly_when, item_fits}

-- ---- how much is recorded

pub an_item_writes_at_most_three : (p : Pair) (i : Item) (t : ℕ) → length (pair_step p i t).records ≤ 3
an_item_writes_at_most_three p i t =
    item_gives (λ (d : Stepped). length d.records ≤ 3) p i t (omega (arith, a_move_writes_at_most_two p.actuator t)) (λ j given. an_input_writes_at_most_three p.actuator j t)

pub a_pair_move_writes_at_most_two : (p : Pair) (t : ℕ) → length (pair_move p t).records ≤ 2
unfolding pair_move
a_pair_move_writes_at_most_two p t = a_move_writes_at_most_two p.actuator t

-- ---- one item

-- What one item finds: the first of the table's rows 9, 6, 7 that fits, or an item that is played.
pub data JointFinds (p : Pair) (octets : List ℕ) : Joint → Type 0 where
  not_sound : pair_sound p ≡ false → JointFinds p octets (joint_refused p UnsoundState)
  unknown : pair_sound p ≡ true → item_at octets 0 ≡ None → JointFinds p octets (joint_refused p BadInput)
  untimely : (i : Item) → pair_sound p ≡ true → item_at octets 0 ≡ Some i → stamp_in_range p.actuator.clock (stamp_at octets 0) ≡ false → JointFinds p octets (joint_refused p BadStamp)
  plays : (i : Item) → pair_sound p ≡ true → item_at octets 0 ≡ Some i → stamp_in_range p.actuator.clock (stamp_at octets 0) ≡ true → JointFinds p octets (joint_done (stamp_at octets 0) (pair_step p i (stamp_at octets 0)))

module _ (p : Pair) (octets : List ℕ) where
  abbrev t : ℕ
  t = stamp_at octets 0

  abbrev timely : Bool
  timely = stamp_in_range p.actuator.clock t

  -- each test of the call decides one row
  pub joint_finds : JointFinds p octets (joint_call p octets)
  unfolding joint_call
  joint_finds = by (pair_sound p) refl
    where
      in_time : (i : Item) (b : Bool) → pair_sound p ≡ true → item_at octets 0 ≡ Some i → timely ≡ b → JointFinds p octets (cond b (joint_done t (pair_step p i t)) (joint_refused p BadStamp))
      in_time i true h m e = plays i h m e
      in_time i false h m e = untimely i h m e

      known : (r : Option Item) → pair_sound p ≡ true → item_at octets 0 ≡ r → JointFinds p octets (joint_meant p t r)
      known None h m = unfold joint_meant in unknown h m
      known (Some i) h m = unfold joint_meant in in_time i timely h m refl

      by : (b : Bool) → pair_sound p ≡ b → JointFinds p octets (cond b (joint_meant p t (item_at octets 0)) (joint_refused p UnsoundState))
      by true h = known (item_at octets 0) h refl
      by false h = not_sound h

  -- and the other way round: where no row fits, the item is played
  pub a_good_item_is_played : (i : Item) → pair_sound p ≡ true → item_at octets 0 ≡ Some i → timely ≡ true → joint_call p octets ≡ joint_done t (pair_step p i t)
  unfolding joint_call joint_meant
  a_good_item_is_played i h m e = rw (h, m, e)

  abbrev tested : Check
  tested = check_call (pair_sound p) (is_known (item_at octets 0)) timely

  -- its code and its place are those of its three tests
  joint_is_tested : ((joint_call p octets).code ≡ code_of tested) × ((joint_call p octets).place ≡ place_of tested)
  joint_is_tested = by joint_finds
    where
      by : {r : Joint} → JointFinds p octets r → (r.code ≡ code_of tested) × (r.place ≡ place_of tested)
      by (not_sound h) = unfold joint_refused check_call in rw h (refl, refl)
      by (unknown h m) = unfold joint_refused check_call in rw (h, m) (refl, refl)
      by (untimely i h m e) = unfold joint_refused check_call in rw (h, m, e) (refl, refl)
      by (plays i h m e) = unfold joint_done check_call in rw (h, m, e) (refl, refl)

  pub joint_refused_exactly_when : JointCodes p octets (joint_call p octets).code (joint_call p octets).place
  joint_refused_exactly_when =
      rw (joint_is_tested.0, joint_is_tested.1)
      (call_codes (SoundPair p) ((i : Item) × (item_at octets 0 ≡ Some i)) (Timely p.actuator.clock t) _ _ _ (sound_pair_exactly_when p) (known_exactly_when (item_at octets 0)) (timely_exactly_when p.actuator.clock t))

  -- "A refused call .. hands back the state it was given"; it records nothing and sends nothing
  pub joint_refusal_changes_nothing : ((joint_call p octets).code ≡ 0 → ⊥) →
      joint_call p octets ≡ record { state = p.actuator; sensor = p.sensor; code = (joint_call p octets).code; place = 0; answer = 0; count = 0; records = places 3 []; sent = silence }
  joint_refusal_changes_nothing refused = by joint_finds refused
    where
      by : {r : Joint} → JointFinds p octets r → (r.code ≡ 0 → ⊥) →
          r ≡ record { state = p.actuator; sensor = p.sensor; code = r.code; place = 0; answer = 0; count = 0; records = places 3 []; sent = silence }
      by (not_sound h) f = unfold joint_refused telegram_octets in refl
      by (unknown h m) f = unfold joint_refused telegram_octets in refl
      by (untimely i h m e) f = unfold joint_refused telegram_octets in refl
      by (plays i h m e) f = absurd (f (unfold joint_done in refl))

  pub joint_call_keeps_sound : pair_sound p ≡ true → pair_sound (pair_of (joint_call p octets).state (joint_call p octets).sensor) ≡ true
  joint_call_keeps_sound safe = by joint_finds
    where
      by : {r : Joint} → JointFinds p octets r → pair_sound (pair_of r.state r.sensor) ≡ true
      by (not_sound h) = unfold joint_refused in safe
      by (unknown h m) = unfold joint_refused in safe
      by (untimely i h m e) = unfold joint_refused in safe
      by (plays i h m e) =
          let when = (timely_exactly_when p.actuator.clock t).0 e in
          unfold joint_done in
          pair_step_keeps_sound p i t safe when.0 when.1 (item_fits octets 0 i m)

-- the records by value are the whole list, then blank ones, and the count is their number
pub joint_records_are_all : (p : Pair) (i : Item) (t : ℕ) →
    let d : PairStepped = pair_step p i t in
    ((joint_done t d).count ≡ length d.records) × ((joint_done t d).records ≡ d.records ++ places (3 - length d.records) [])
unfolding joint_done
joint_records_are_all p i t = (refl, places_hold_all 3 (pair_step p i t).records (an_item_writes_at_most_three p i t))

-- ---- a clock move

-- What a clock move finds: 9, 7, or it is made.
pub data JointMoveFinds (p : Pair) (stamp : ℕ) : JointMove → Type 0 where
  not_sound : pair_sound p ≡ false → JointMoveFinds p stamp (joint_move_refused p UnsoundState)
  untimely : pair_sound p ≡ true → stamp_in_range p.actuator.clock stamp ≡ false → JointMoveFinds p stamp (joint_move_refused p BadStamp)
  moves : pair_sound p ≡ true → stamp_in_range p.actuator.clock stamp ≡ true → JointMoveFinds p stamp (joint_move_done (pair_move p stamp))

module _ (p : Pair) (stamp : ℕ) where
  pub joint_move_finds : JointMoveFinds p stamp (joint_move_call p stamp)
  unfolding joint_move_call
  joint_move_finds = by (pair_sound p) (stamp_in_range p.actuator.clock stamp) refl refl
    where
      by : (b c : Bool) → pair_sound p ≡ b → stamp_in_range p.actuator.clock stamp ≡ c →
          JointMoveFinds p stamp (cond b (cond c (joint_move_done (pair_move p stamp)) (joint_move_refused p BadStamp)) (joint_move_refused p UnsoundState))
      by false c h e = JointMoveFinds.not_sound h
      by true false h e = JointMoveFinds.untimely h e
      by true true h e = moves h e

  pub a_good_move_is_made : pair_sound p ≡ true → stamp_in_range p.actuator.clock stamp ≡ true → joint_move_call p stamp ≡ joint_move_done (pair_move p stamp)
  unfolding joint_move_call
  a_good_move_is_made h e = rw (h, e)

  abbrev move-tested : Check
  move-tested = check_call (pair_sound p) true (stamp_in_range p.actuator.clock stamp)

  joint_move_is_tested : ((joint_move_call p stamp).code ≡ code_of move-tested) × ((joint_move_call p stamp).place ≡ place_of move-tested)
  joint_move_is_tested = by joint_move_finds
    where
      by : {r : JointMove} → JointMoveFinds p stamp r → (r.code ≡ code_of move-tested) × (r.place ≡ place_of move-tested)
      by (JointMoveFinds.not_sound h) = unfold joint_move_refused check_call in rw h (refl, refl)
      by (JointMoveFinds.untimely h e) = unfold joint_move_refused check_call in rw (h, e) (refl, refl)
      by (moves h e) = unfold joint_move_done check_call in rw (h, e) (refl, refl)

  pub joint_move_refused_exactly_when : JointMoveCodes p stamp (joint_move_call p stamp).code (joint_move_call p stamp).place
  joint_move_refused_exactly_when =
      rw (joint_move_is_tested.0, joint_move_is_tested.1)
      (call_codes _ _ _ (pair_sound p) true (stamp_in_range p.actuator.clock stamp) (sound_pair_exactly_when p) (λ h. tt, λ h. refl) (timely_exactly_when p.actuator.clock stamp))

  pub joint_move_refusal_changes_nothing : ((joint_move_call p stamp).code ≡ 0 → ⊥) →
      joint_move_call p stamp ≡ record { state = p.actuator; sensor = p.sensor; code = (joint_move_call p stamp).code; place = 0; count = 0; records = places 2 [] }
  joint_move_refusal_changes_nothing refused = by joint_move_finds refused
    where
      by : {r : JointMove} → JointMoveFinds p stamp r → (r.code ≡ 0 → ⊥) → r ≡ record { state = p.actuator; sensor = p.sensor; code = r.code; place = 0; count = 0; records = places 2 [] }
      by (JointMoveFinds.not_sound h) f = unfold joint_move_refused in refl
      by (JointMoveFinds.untimely h e) f = unfold joint_move_refused in refl
      by (moves h e) f = absurd (f (unfold joint_move_done in refl))

  pub joint_move_call_keeps_sound : pair_sound p ≡ true → pair_sound (pair_of (joint_move_call p stamp).state (joint_move_call p stamp).sensor) ≡ true
  joint_move_call_keeps_sound safe = by joint_move_finds
    where
      by : {r : JointMove} → JointMoveFinds p stamp r → pair_sound (pair_of r.state r.sensor) ≡ true
      by (JointMoveFinds.not_sound h) = unfold joint_move_refused in safe
      by (JointMoveFinds.untimely h e) = unfold joint_move_refused in safe
      by (moves h e) = let when = (timely_exactly_when p.actuator.clock stamp).0 e in unfold joint_move_done in pair_move_keeps_sound p stamp safe when.0 when.1

pub joint_move_records_are_all : (p : Pair) (t : ℕ) →
    let m : PairMoved = pair_move p t in
    ((joint_move_done m).count ≡ length m.records) × ((joint_move_done m).records ≡ m.records ++ places (2 - length m.records) [])
unfolding joint_move_done
joint_move_records_are_all p t = (refl, places_hold_all 2 (pair_move p t).records (a_pair_move_writes_at_most_two p t))
