-- The calls meet all that is asked of a sensor, and no others do.
use Rattle.std.specs.Prelude.{Some, Ok, Err}
use Prim.Native.Nat.{ℕ, ◌≤◌}
use mathlib.Core.Bool.{Bool, true, false, not}
use mathlib.Core.List.{List, [], ◌∷◌}
use mathlib.Core.Path.{◌≡◌, refl, sym, ap, ◌∙◌}
use native.Mathlib.Omega.{arith}
use Rattle.octets.specs.Groups.{stamp_at}
use Rattle.base.specs.declared.refusal.Refusal.{Refusal}
use Rattle.base.specs.declared.refusal.Refusal.TheVariants.{BadInput, BadStamp, UnsoundState}
use Rattle.base.specs.Refusals.{code_of, Timely, CallWhen, Check}
use Rattle.base.proofs.Codes.{some_number, timely_exactly_when}
use Rattle.sensor.specs.declared.action.Action.{Action}
use Rattle.sensor.specs.declared.action.Action.TheVariants.{Nothing, SendOff, SendOn, SendInverse}
use Rattle.sensor.specs.declared.signal.Edge.TheVariants.{Falling, Rising}
use Rattle.sensor.specs.declared.signal.Signal.{Signal}
use Rattle.sensor.specs.declared.signal.Signal.TheVariants.{Button1, Button2, Status}
use Rattle.sensor.specs.declared.state.Sensor.{Sensor}
use Rattle.sensor.specs.declared.call.FreshSensor.{FreshSensor}
use Rattle.sensor.specs.declared.call.Sensed.{Sensed}
use Rattle.sensor.specs.Actions.{action_number, action_of, check_actions}
use Rattle.sensor.specs.Signals.{signal_at}
use Rattle.sensor.specs.Sensors.{fresh_sensor, own_sensor}
use Rattle.sensor.specs.Reactions.{hear, press, react}
use Rattle.sensor.specs.Calls.{sensor_by, fresh_sensor_by, fresh_sensor_call, telegram_octets, sensed, sensor_refused, sensor_call}
use Rattle.sensor.specs.Refusals.{SensorCodes}
use Rattle.sensor.specs.Claims.{EdgeWith, first_rises, first_falls, second_rises, second_falls, SwitchInput, SentBy}
use Rattle.sensor.specs.Asked.{Maker, JudgesActions, FreshWith, StartsFresh, RefusesIdle, MakerMeets, Taker, JudgesInputs, Accepted, OfEveryAccepted, EdgesSend, StatusesSendNothing, KeepsSent, KeepsReceived, KeepsActions, RefusesCleanly, TakerMeets}
use Rattle.sensor.proofs.Actions.{action_of_its_number, number_of_its_action, good_is_passed, actions_decide, fresh_sensor_refused_exactly_when}
use Rattle.sensor.proofs.Sends.{sends_by, a_status_sends_nothing, an_edge_is_a_press, a_reaction_hears}
use Rattle.sensor.proofs.Telegrams.{sent_in_octets}
use Rattle.sensor.proofs.Calls.{sound_exactly_when, SensorFinds, sensor_finds, good_is_taken, sensor_refused_exactly_when, sensor_refusal_changes_nothing}

-- ---- four octets

pub our_fresh_sensor_judges_actions : JudgesActions fresh_sensor_call
our_fresh_sensor_judges_actions = fresh_sensor_refused_exactly_when

pub our_fresh_sensor_starts_fresh : StartsFresh fresh_sensor_call
unfolding fresh_sensor_call fresh_sensor_by
our_fresh_sensor_starts_fresh octets g =
    rw (good_is_passed octets g)
    (unfold fresh_sensor in
    record {
      rising1 = number_of_its_action _ (g.good 0 (omega arith));
      falling1 = number_of_its_action _ (g.good 1 (omega arith));
      rising2 = number_of_its_action _ (g.good 2 (omega arith));
      falling2 = number_of_its_action _ (g.good 3 (omega arith));
      clock = refl;
      value = refl;
    })

pub our_fresh_sensor_refuses_idle : RefusesIdle fresh_sensor_call
unfolding fresh_sensor_call fresh_sensor_by
our_fresh_sensor_refuses_idle octets = by (check_actions octets)
  where
    by : (c : Check) → (code_of c ≡ 0 → ⊥) → FreshWith (0 ∷ 0 ∷ 0 ∷ 0 ∷ []) (sensor_by octets c)
    by (Ok _) refused = absurd (refused refl)
    by (Err fault) refused = unfold own_sensor in record { rising1 = refl; falling1 = refl; rising2 = refl; falling2 = refl; clock = refl; value = refl }

-- ---- one input

pub our_sensor_judges_inputs : JudgesInputs sensor_call
our_sensor_judges_inputs = sensor_refused_exactly_when

module _ (z : Sensor) (octets : List ℕ) (s : Signal) (a : Accepted z octets s) where
  pub accepted_is_taken : sensor_call z octets ≡ sensed (stamp_at octets 0) (react z s (stamp_at octets 0))
  accepted_is_taken = good_is_taken z octets s ((sound_exactly_when z).1 a.sound) a.meant ((timely_exactly_when _ _).1 a.timely)

  sensor_after : (sensor_call z octets).sensor ≡ (react z s (stamp_at octets 0)).sensor
  sensor_after = ap (λ (r : Sensed). r.sensor) accepted_is_taken ∙ unfold sensed in refl

  sent_then : (sensor_call z octets).sent ≡ telegram_octets (stamp_at octets 0) (react z s (stamp_at octets 0)).telegram
  sent_then = ap (λ (r : Sensed). r.sent) accepted_is_taken ∙ unfold sensed in refl

pub our_sensor_sends_by_the_action : EdgesSend sensor_call
our_sensor_sends_by_the_action z octets s a action e = rw (sent_then z octets s a, an_edge_is_a_press z action s (stamp_at octets 0) e) (unfold press in refl)

-- so an edge whose action is not 0 sends exactly one switch input, whichever sensor meets this
pub an_acting_edge_sends_one_switch_input : (m : Taker) → EdgesSend m → OfEveryAccepted (λ z octets s. (a : Action) → EdgeWith z a s → (action_number a ≡ 0 → ⊥) → (value : Bool) × SwitchInput (m z octets).sent (stamp_at octets 0) value)
an_acting_edge_sends_one_switch_input m edges z octets s accepted a e acting =
    by a acting (rw (edges z octets s accepted a e) (sent_in_octets a z.value (stamp_at octets 0) _ (sends_by a z.value)))
  where
    by : (a : Action) → (action_number a ≡ 0 → ⊥) → SentBy a z.value (stamp_at octets 0) (m z octets).sent → (value : Bool) × SwitchInput (m z octets).sent (stamp_at octets 0) value
    by Nothing acting g = absurd (acting refl)
    by SendOff acting g = (false, g)
    by SendOn acting g = (true, g)
    by SendInverse acting g = (not z.value, g)

pub our_sensor_sends_nothing_for_a_status : StatusesSendNothing sensor_call
our_sensor_sends_nothing_for_a_status z octets s a value e = rw (sent_then z octets s a, e, a_status_sends_nothing z value (stamp_at octets 0)) (unfold telegram_octets in refl)

pub our_sensor_keeps_what_it_sends : KeepsSent sensor_call
our_sensor_keeps_what_it_sends z octets s a action e = rw (sensor_after z octets s a, an_edge_is_a_press z action s (stamp_at octets 0) e) (unfold press hear in refl)

pub our_sensor_keeps_what_it_receives : KeepsReceived sensor_call
our_sensor_keeps_what_it_receives z octets s a value e = rw (sensor_after z octets s a, e) (unfold react hear in refl)

pub our_sensor_keeps_its_actions : KeepsActions sensor_call
our_sensor_keeps_its_actions z octets s a =
    rw (sensor_after z octets s a, a_reaction_hears z s (stamp_at octets 0))
    (unfold hear in record { clock = refl; rising1 = refl; falling1 = refl; rising2 = refl; falling2 = refl })

pub our_sensor_refuses_cleanly : RefusesCleanly sensor_call
our_sensor_refuses_cleanly z octets refused =
    let same = sensor_refusal_changes_nothing z octets refused in
    (ap (λ (r : Sensed). r.sensor) same, ap (λ (r : Sensed). r.place) same, ap (λ (r : Sensed). r.sent) same)

pub our_fresh_sensor_meets_what_is_asked : MakerMeets fresh_sensor_call
our_fresh_sensor_meets_what_is_asked = record { judges = our_fresh_sensor_judges_actions; starts_fresh = our_fresh_sensor_starts_fresh; refuses_idle = our_fresh_sensor_refuses_idle }

pub our_sensor_meets_what_is_asked : TakerMeets sensor_call
our_sensor_meets_what_is_asked =
    record {
      judges = our_sensor_judges_inputs;
      edges_send = our_sensor_sends_by_the_action;
      statuses_send_nothing = our_sensor_sends_nothing_for_a_status;
      keeps_sent = our_sensor_keeps_what_it_sends;
      keeps_received = our_sensor_keeps_what_it_receives;
      keeps_actions = our_sensor_keeps_its_actions;
      refuses_cleanly = our_sensor_refuses_cleanly;
    }

-- ---- no other meets it: results that agree in every part are one

same_sensor : (x y : Sensor) → x.rising1 ≡ y.rising1 → x.falling1 ≡ y.falling1 → x.rising2 ≡ y.rising2 → x.falling2 ≡ y.falling2 → x.clock ≡ y.clock → x.value ≡ y.value → x ≡ y
same_sensor x y rising1 falling1 rising2 falling2 clock value =
    λ i. record { rising1 = rising1 i; falling1 = falling1 i; rising2 = rising2 i; falling2 = falling2 i; clock = clock i; value = value i }

same_fresh : (r x : FreshSensor) → r.sensor ≡ x.sensor → r.code ≡ x.code → r.place ≡ x.place → r ≡ x
same_fresh r x sensor code place = λ i. record { sensor = sensor i; code = code i; place = place i }

same_sensed : (r x : Sensed) → r.sensor ≡ x.sensor → r.code ≡ x.code → r.place ≡ x.place → r.sent ≡ x.sent → r ≡ x
same_sensed r x sensor code place sent = λ i. record { sensor = sensor i; code = code i; place = place i; sent = sent i }

-- an action is told by its number
action_by_number : (a : Action) (n : ℕ) → action_number a ≡ n → a ≡ action_of n
action_by_number a n e = sym (action_of_its_number a) ∙ ap action_of e

-- four octets say all of a fresh sensor
fresh_is_told : (octets : List ℕ) (z : Sensor) → FreshWith octets z → z ≡ fresh_sensor octets
unfolding fresh_sensor
fresh_is_told octets z f =
    same_sensor z _ (action_by_number _ _ f.rising1) (action_by_number _ _ f.falling1) (action_by_number _ _ f.rising2) (action_by_number _ _ f.falling2) f.clock f.value

-- four zeros are the actions of a refusal's own sensor
own_is_idle : fresh_sensor (0 ∷ 0 ∷ 0 ∷ 0 ∷ []) ≡ own_sensor
unfolding fresh_sensor own_sensor action_of
own_is_idle = refl

-- the table gives code and place, and either list of octets the sensor
pub no_other_fresh_sensor_meets_what_is_asked : (m : Maker) → MakerMeets m → (octets : List ℕ) → m octets ≡ fresh_sensor_call octets
unfolding fresh_sensor_call fresh_sensor_by
no_other_fresh_sensor_meets_what_is_asked m f octets = by (check_actions octets) refl
  where
    by : (c : Check) → check_actions octets ≡ c → m octets ≡ fresh_sensor_by octets c
    by (Ok _) e =
        let good = (actions_decide octets).passed.0 e in
        let table = ((f.judges octets).accepted 0).1 (refl, good) in
        same_fresh (m octets) _ (fresh_is_told octets _ (f.starts_fresh octets good)) table.0 table.1
    by (Err fault) e =
        let table = ((f.judges octets).refused fault.why fault.place).1 (((actions_decide octets).refused fault.why fault.place).0 e) in
        let idle = f.refuses_idle octets (λ zero. omega (arith, table.0, zero, some_number fault.why)) in
        same_fresh (m octets) _ (fresh_is_told _ _ idle ∙ own_is_idle) table.0 table.1

-- the table gives code and place; a refused call leaves the rest as it was; an edge's action, or the status, says what is sent and kept
pub no_other_sensor_meets_what_is_asked : (m : Taker) → TakerMeets m → (z : Sensor) (octets : List ℕ) → m z octets ≡ sensor_call z octets
no_other_sensor_meets_what_is_asked m f z octets = by (sensor_finds z octets) (sensor_refused_exactly_when z octets)
  where
    t : ℕ
    t = stamp_at octets 0

    refused : (why : Refusal) → CallWhen (z.clock ≤ 864_000) ((s : Signal) × (signal_at octets 0 ≡ Some s)) (Timely z.clock t) why 0 → m z octets ≡ sensor_refused z why
    refused why given =
        let table = ((f.judges z octets).refused why 0).1 given in
        let h = f.refuses_cleanly z octets (λ zero. omega (arith, table.0, zero, some_number why)) in
        unfold sensor_refused telegram_octets in same_sensed (m z octets) _ h.0 table.0 h.1 h.2

    -- the sensor after it, by the value kept
    heard : (s : Signal) (value : Bool) → Accepted z octets s → (m z octets).sensor.value ≡ value → (m z octets).sensor ≡ hear z t value
    heard s value a kept =
        let moved = f.keeps_actions z octets s a in
        unfold hear in same_sensor _ _ moved.rising1 moved.falling1 moved.rising2 moved.falling2 moved.clock kept

    edge : (action : Action) (s : Signal) → EdgeWith z action s → Accepted z octets s → ((m z octets).code ≡ 0) × ((m z octets).place ≡ 0) → m z octets ≡ sensed t (react z s t)
    edge action s e a table =
        rw (an_edge_is_a_press z action s t e)
        (unfold sensed press in same_sensed (m z octets) _ (heard s _ a (f.keeps_sent z octets s a action e)) table.0 table.1 (f.edges_send z octets s a action e))

    taken : (s : Signal) → Accepted z octets s → ((m z octets).code ≡ 0) × ((m z octets).place ≡ 0) → m z octets ≡ sensed t (react z s t)
    taken (Button1 Rising) a table = edge z.rising1 _ first_rises a table
    taken (Button1 Falling) a table = edge z.falling1 _ first_falls a table
    taken (Button2 Rising) a table = edge z.rising2 _ second_rises a table
    taken (Button2 Falling) a table = edge z.falling2 _ second_falls a table
    taken (Status value) a table =
        unfold sensed react telegram_octets in
        same_sensed (m z octets) _ (heard _ value a (f.keeps_received z octets _ a value refl)) table.0 table.1 (f.statuses_send_nothing z octets _ a value refl)

    by : {r : Sensed} → SensorFinds z octets r → SensorCodes z octets r.code r.place → m z octets ≡ r
    by (SensorFinds.not_sound h) ours = refused UnsoundState ((ours.refused UnsoundState 0).0 (unfold sensor_refused in (refl, refl)))
    by (SensorFinds.wrong h k) ours = refused BadInput ((ours.refused BadInput 0).0 (unfold sensor_refused in (refl, refl)))
    by (SensorFinds.untimely s h k e) ours = refused BadStamp ((ours.refused BadStamp 0).0 (unfold sensor_refused in (refl, refl)))
    by (SensorFinds.takes s h k e) ours =
        let good = (ours.accepted 0).0 (unfold sensed in (refl, refl)) in
        taken s (record { sound = (sound_exactly_when z).0 h; meant = k; timely = (timely_exactly_when z.clock t).0 e }) (((f.judges z octets).accepted 0).1 good)

-- so any two that meet it are equal at every input
pub two_fresh_sensors_that_meet_it_are_equal : (one other : Maker) → MakerMeets one → MakerMeets other → (octets : List ℕ) → one octets ≡ other octets
two_fresh_sensors_that_meet_it_are_equal one other f g octets = no_other_fresh_sensor_meets_what_is_asked one f octets ∙ sym (no_other_fresh_sensor_meets_what_is_asked other g octets)

pub two_sensors_that_meet_it_are_equal : (one other : Taker) → TakerMeets one → TakerMeets other → (z : Sensor) (octets : List ℕ) → one z octets ≡ other z octets
two_sensors_that_meet_it_are_equal one other f g z octets = no_other_sensor_meets_what_is_asked one f z octets ∙ sym (no_other_sensor_meets_what_is_asked other g z octets)

-- ---- the contract of each call is one equation for its whole result, so two results that meet it are equal

pub no_second_fresh_sensor : (octets : List ℕ) (one other : FreshSensor) → one ≡ fresh_sensor_call octets → other ≡ fresh_sensor_call octets → one ≡ other
no_second_fresh_sensor octets one other p q = p ∙ sym q

pub no_second_sensor_input : (z : Sensor) (octets : List ℕ) (one other : Sensed) → one ≡ sensor_call z octets → other ≡ sensor_call z octets → one ≡ other
no_second_sensor_input z octets one other p q = p ∙ sym q
