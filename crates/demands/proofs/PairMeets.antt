-- Our calls of the pair by value meet what is demanded of them, and no others do.
use Rattle.std.specs.Prelude.{Some}
use Prim.Native.Nat.{ℕ}
use mathlib.Core.Path.{◌≡◌, refl}
use mathlib.Core.Logic.{inl, inr}
use mathlib.Core.List.{List, [], ◌∷◌}
use native.Mathlib.Omega.{arith}
use Rattle.octets.specs.Groups.{stamp_at}
use Rattle.base.specs.declared.refusal.Refusal.{Refusal}
use Rattle.base.specs.declared.refusal.Refusal.TheVariants.{BadInput, BadStamp, UnsoundState}
use Rattle.base.specs.Refusals.{Timely, CallWhen}
use Rattle.base.proofs.Codes.{some_number, timely_exactly_when}
use Rattle.sensor.specs.Calls.{telegram_octets}
use Rattle.pairs.specs.declared.item.Item.{Item}
use Rattle.pairs.specs.declared.call.Joint.{Joint}
use Rattle.pairs.specs.declared.call.JointMove.{JointMove}
use Rattle.pairs.specs.Items.{item_at}
use Rattle.pairs.specs.Pairs.{Pair}
use Rattle.pairs.specs.Calls.{joint_done, joint_refused, joint_call, joint_move_done, joint_move_refused, joint_move_call}
use Rattle.pairs.specs.Refusals.{SoundPair, JointCodes, JointMoveCodes}
use Rattle.pairs.proofs.Soundness.{sound_pair_exactly_when}
use Rattle.pairs.proofs.Refusals.Calls.{JointFinds, joint_finds, a_good_item_is_played, joint_refused_exactly_when, joint_refusal_changes_nothing, JointMoveFinds, joint_move_finds, a_good_move_is_made, joint_move_refused_exactly_when, joint_move_refusal_changes_nothing}
use Rattle.demands.specs.Demands.{Among}
use Rattle.demands.specs.Pairs.{PairModel, PairAnswersAll, PairRefusesCleanly, PairPlays, PairMeets, PairMoveModel, PairMoveAnswersAll, PairMoveRefusesCleanly, PairMoves, PairMoveMeets}

-- ---- one item

our_pair_answers_all : PairAnswersAll joint_call
our_pair_answers_all p octets = by (joint_finds p octets)
  where
    by : {r : Joint} → JointFinds p octets r → Among r.code (0 ∷ 6 ∷ 7 ∷ 9 ∷ [])
    by (JointFinds.plays i h k e) = unfold joint_done in inl refl
    by (JointFinds.unknown h k) = unfold joint_refused in inr (inl refl)
    by (JointFinds.untimely i h k e) = unfold joint_refused in inr (inr (inl refl))
    by (JointFinds.not_sound h) = unfold joint_refused in inr (inr (inr (inl refl)))

our_pair_refuses_cleanly : PairRefusesCleanly joint_call
our_pair_refuses_cleanly p octets refused =
    rw (joint_refusal_changes_nothing p octets refused) (record { state = refl; sensor = refl; place = refl; answer = refl; count = refl; records = refl; sent = refl })

our_pair_plays : PairPlays joint_call
unfolding joint_done
our_pair_plays p octets i a =
    rw (a_good_item_is_played p octets i ((sound_pair_exactly_when p).1 a.sound) a.known ((timely_exactly_when p.actuator.clock (stamp_at octets 0)).1 a.timely))
    (record { state = refl; sensor = refl; answer = refl; count = refl; records = refl; sent = refl })

pub our_pair_meets_every_demand : PairMeets joint_call
our_pair_meets_every_demand = record { answers_all = our_pair_answers_all; judges = joint_refused_exactly_when; refuses_cleanly = our_pair_refuses_cleanly; plays = our_pair_plays }

-- results that agree in every part are one
same_joint : (r x : Joint) → r.state ≡ x.state → r.sensor ≡ x.sensor → r.code ≡ x.code → r.place ≡ x.place → r.answer ≡ x.answer → r.count ≡ x.count → r.records ≡ x.records → r.sent ≡ x.sent → r ≡ x
same_joint r x state sensor code place answer count records sent =
    λ i. record { state = state i; sensor = sensor i; code = code i; place = place i; answer = answer i; count = count i; records = records i; sent = sent i }

-- the table gives code and place; a refused call leaves the rest as it was, and an accepted one is played
pub no_other_pair_meets_every_demand : (m : PairModel) → PairMeets m → (p : Pair) (octets : List ℕ) → m p octets ≡ joint_call p octets
no_other_pair_meets_every_demand m f p octets = by (joint_finds p octets) (joint_refused_exactly_when p octets)
  where
    t : ℕ
    t = stamp_at octets 0

    refused : (why : Refusal) → CallWhen (SoundPair p) ((i : Item) × (item_at octets 0 ≡ Some i)) (Timely p.actuator.clock t) why 0 → m p octets ≡ joint_refused p why
    refused why given =
        let table = ((f.judges p octets).refused why 0).1 given in
        let h = f.refuses_cleanly p octets (λ zero. omega (arith, table.0, zero, some_number why)) in
        unfold joint_refused telegram_octets in same_joint (m p octets) _ h.state h.sensor table.0 h.place h.answer h.count h.records h.sent

    by : {r : Joint} → JointFinds p octets r → JointCodes p octets r.code r.place → m p octets ≡ r
    by (JointFinds.not_sound h) ours = refused UnsoundState ((ours.refused UnsoundState 0).0 (unfold joint_refused in (refl, refl)))
    by (JointFinds.unknown h k) ours = refused BadInput ((ours.refused BadInput 0).0 (unfold joint_refused in (refl, refl)))
    by (JointFinds.untimely i h k e) ours = refused BadStamp ((ours.refused BadStamp 0).0 (unfold joint_refused in (refl, refl)))
    by (JointFinds.plays i h k e) ours =
        let good = (ours.accepted 0).0 (unfold joint_done in (refl, refl)) in
        let table = ((f.judges p octets).accepted 0).1 good in
        let d = f.plays p octets i (record { sound = (sound_pair_exactly_when p).0 h; known = k; timely = (timely_exactly_when p.actuator.clock t).0 e }) in
        unfold joint_done in same_joint (m p octets) _ d.state d.sensor table.0 table.1 d.answer d.count d.records d.sent

-- ---- a clock move

our_pair_move_answers_all : PairMoveAnswersAll joint_move_call
our_pair_move_answers_all p t = by (joint_move_finds p t)
  where
    by : {r : JointMove} → JointMoveFinds p t r → Among r.code (0 ∷ 7 ∷ 9 ∷ [])
    by (JointMoveFinds.moves h e) = unfold joint_move_done in inl refl
    by (JointMoveFinds.untimely h e) = unfold joint_move_refused in inr (inl refl)
    by (JointMoveFinds.not_sound h) = unfold joint_move_refused in inr (inr (inl refl))

our_pair_move_refuses_cleanly : PairMoveRefusesCleanly joint_move_call
our_pair_move_refuses_cleanly p t refused = rw (joint_move_refusal_changes_nothing p t refused) (record { state = refl; sensor = refl; place = refl; count = refl; records = refl })

our_pair_moves : PairMoves joint_move_call
unfolding joint_move_done
our_pair_moves p t safe timely =
    rw (a_good_move_is_made p t ((sound_pair_exactly_when p).1 safe) ((timely_exactly_when p.actuator.clock t).1 timely)) (record { state = refl; sensor = refl; count = refl; records = refl })

pub our_pair_move_meets_every_demand : PairMoveMeets joint_move_call
our_pair_move_meets_every_demand = record { answers_all = our_pair_move_answers_all; judges = joint_move_refused_exactly_when; refuses_cleanly = our_pair_move_refuses_cleanly; moves = our_pair_moves }

same_joint_move : (r x : JointMove) → r.state ≡ x.state → r.sensor ≡ x.sensor → r.code ≡ x.code → r.place ≡ x.place → r.count ≡ x.count → r.records ≡ x.records → r ≡ x
same_joint_move r x state sensor code place count records = λ i. record { state = state i; sensor = sensor i; code = code i; place = place i; count = count i; records = records i }

pub no_other_pair_move_meets_every_demand : (m : PairMoveModel) → PairMoveMeets m → (p : Pair) (t : ℕ) → m p t ≡ joint_move_call p t
no_other_pair_move_meets_every_demand m f p t = by (joint_move_finds p t) (joint_move_refused_exactly_when p t)
  where
    refused : (why : Refusal) → CallWhen (SoundPair p) Unit (Timely p.actuator.clock t) why 0 → m p t ≡ joint_move_refused p why
    refused why given =
        let table = ((f.judges p t).refused why 0).1 given in
        let h = f.refuses_cleanly p t (λ zero. omega (arith, table.0, zero, some_number why)) in
        unfold joint_move_refused in same_joint_move (m p t) _ h.state h.sensor table.0 h.place h.count h.records

    by : {r : JointMove} → JointMoveFinds p t r → JointMoveCodes p t r.code r.place → m p t ≡ r
    by (JointMoveFinds.not_sound h) ours = refused UnsoundState ((ours.refused UnsoundState 0).0 (unfold joint_move_refused in (refl, refl)))
    by (JointMoveFinds.untimely h e) ours = refused BadStamp ((ours.refused BadStamp 0).0 (unfold joint_move_refused in (refl, refl)))
    by (JointMoveFinds.moves h e) ours =
        let good = (ours.accepted 0).0 (unfold joint_move_done in (refl, refl)) in
        let table = ((f.judges p t).accepted 0).1 good in
        let d = f.moves p t ((sound_pair_exactly_when p).0 h) ((timely_exactly_when p.actuator.clock t).0 e) in
        unfold joint_move_done in same_joint_move (m p t) _ d.state d.sensor table.0 table.1 d.count d.records
