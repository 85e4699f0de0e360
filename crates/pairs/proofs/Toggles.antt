-- A toggle sends the inverse of the last record heard, or of what was sent after it, though that was dropped.
use Rattle.std.specs.Prelude.{Option, Some}
use Prim.Native.Nat.{ℕ}
use mathlib.Core.Bool.{Bool, true, not}
use mathlib.Core.List.{List, [], ◌∷◌, ◌++◌}
use mathlib.Core.Path.{◌≡◌, refl, sym, ap, ◌∙◌}
use Rattle.rules.specs.declared.input.Input.TheVariants.{SwitchOnOff}
use Rattle.rules.specs.declared.barrier.Barrier.TheVariants.{Stopped}
use Rattle.rules.specs.declared.barrier.Why.{Why}
use Rattle.rules.specs.declared.record.Record.{Record}
use Rattle.rules.specs.Barriers.{barrier}
use Rattle.rules.specs.Steps.{clock_move, meet, act}
use Rattle.sensor.specs.declared.signal.Edge.TheVariants.{Falling, Rising}
use Rattle.sensor.specs.declared.signal.Signal.{Signal}
use Rattle.sensor.specs.declared.signal.Signal.TheVariants as signal
use Rattle.sensor.specs.declared.state.Sensor.{Sensor}
use Rattle.sensor.specs.declared.react.Reaction.{Reaction}
use Rattle.sensor.specs.Reactions.{hear, press, react}
use Rattle.sensor.specs.Claims.{value_of, last_of}
use Rattle.sensor.proofs.Sends.{a_reaction_hears, reaction_keeps_the_last}
use Rattle.pairs.specs.declared.item.Item.{Item}
use Rattle.pairs.specs.declared.item.Item.TheVariants.{Button1, Button2}
use Rattle.pairs.specs.Pairs.{Pair, shows, hears, PairMoved, pair_move, tell, told, pressed, pair_step}
use Rattle.pairs.specs.Claims.{Toggles, DroppedStillToggles}
use Rattle.pairs.proofs.Playing.{hears_one_more}
use Rattle.pairs.proofs.Halves.{pressed_sends}

-- ---- no action changes

heard_toggles : (z : Sensor) (t : ℕ) (value : Bool) (i : Item) → Toggles z i → Toggles (hear z t value) i
unfolding hear
heard_toggles z t value (Button1 Falling) e = e
heard_toggles z t value (Button1 Rising) e = e
heard_toggles z t value (Button2 Falling) e = e
heard_toggles z t value (Button2 Rising) e = e
heard_toggles z t value _ e = elim e [ ]

hears_toggle : (l : List Record) (z : Sensor) (i : Item) → Toggles z i → Toggles (hears l z) i
unfolding hears
hears_toggle [] z i e = e
hears_toggle (r ∷ later) z i e = hears_toggle later (hear z r.stamp (shows r)) i (heard_toggles z r.stamp (shows r) i e)

moved_toggles : (p : Pair) (t : ℕ) (i : Item) → Toggles p.sensor i → Toggles (pair_move p t).pair.sensor i
unfolding pair_move
moved_toggles p t i e = hears_toggle _ p.sensor i e

-- ---- a toggle

-- a press of a toggle sends the inverse of what is known once the clock has moved
pub a_toggle_inverts : (p : Pair) (i : Item) (t : ℕ) → Toggles p.sensor i → (pair_step p i t).telegram ≡ Some (not (pair_move p t).pair.sensor.value)
unfolding pair_step
a_toggle_inverts p (Button1 edge) t e = pressed_sends p (signal.Button1 edge) t ∙ unfold react press in rw (moved_toggles p t (Button1 edge) e) refl
a_toggle_inverts p (Button2 edge) t e = pressed_sends p (signal.Button2 edge) t ∙ unfold react press in rw (moved_toggles p t (Button2 edge) e) refl
a_toggle_inverts p _ t e = elim e [ ]

last_heard : (earlier : List Record) (r : Record) (z : Sensor) → (hears (earlier ++ (r ∷ [])) z).value ≡ shows r
last_heard earlier r z = ap (λ (x : Sensor). x.value) (hears_one_more earlier r z) ∙ unfold hear in refl

-- where the timers have written anything, the last of it decides, also what they wrote at the very stamp of the press
pub a_toggle_inverts_the_last_record : (p : Pair) (i : Item) (t : ℕ) (earlier : List Record) (r : Record) → Toggles p.sensor i → (pair_move p t).records ≡ earlier ++ (r ∷ []) →
    (pair_step p i t).telegram ≡ Some (not (shows r))
a_toggle_inverts_the_last_record p i t earlier r e wrote =
    a_toggle_inverts p i t e ∙ ap (λ (last : Bool). Some (not last)) (ap (λ (x : Sensor). x.value) heard ∙ last_heard earlier r p.sensor)
  where
    heard : (pair_move p t).pair.sensor ≡ hears (earlier ++ (r ∷ [])) p.sensor
    heard = unfold pair_move in ap (λ (l : List Record). hears l p.sensor) (unfold pair_move in wrote)

-- so a press at the stamp at which a timer puts the light out sends On
pub a_toggle_after_the_light_went_out_sends_on : (p : Pair) (i : Item) (t : ℕ) (earlier : List Record) (r : Record) → Toggles p.sensor i → (pair_move p t).records ≡ earlier ++ (r ∷ []) → r.value ≡ 0 →
    (pair_step p i t).telegram ≡ Some true
a_toggle_after_the_light_went_out_sends_on p i t earlier r e wrote dark = a_toggle_inverts_the_last_record p i t earlier r e wrote ∙ rw dark refl

-- ---- a telegram that is dropped

-- where nothing is recorded, nothing is heard
pub nothing_recorded_nothing_heard : (p : Pair) (t : ℕ) → (pair_move p t).records ≡ [] → (pair_move p t).pair.sensor ≡ p.sensor
unfolding pair_move
nothing_recorded_nothing_heard p t none = rw none (unfold hears in refl)

-- a dropped telegram records nothing, so the sensor is as the send has left it
dropped_records_nothing : (m : PairMoved) (z : Sensor) (value : Bool) (why : Why) → barrier m.pair.actuator (SwitchOnOff value) ≡ Stopped why → (tell (Some value) m z).pair.sensor ≡ z
unfolding tell act meet hears
dropped_records_nothing m z value why stops = rw stops refl

dropped_is_not_heard : (p : Pair) (s : Signal) (t : ℕ) (value : Bool) (why : Why) → (pressed p s t).telegram ≡ Some value → barrier (clock_move p.actuator t).state (SwitchOnOff value) ≡ Stopped why →
    (pressed p s t).pair.sensor ≡ (react (pair_move p t).pair.sensor s t).sensor
unfolding pressed told
dropped_is_not_heard p s t value why sent stops =
    let r : Reaction = react (pair_move p t).pair.sensor s t in
    let e : r.telegram ≡ Some value = sym (pressed_sends p s t) ∙ sent in
    let there : barrier (pair_move p t).pair.actuator (SwitchOnOff value) ≡ Stopped why = unfold pair_move in stops in
    ap (λ (x : Option Bool). (tell x (pair_move p t) r.sensor).pair.sensor) e ∙ dropped_records_nothing (pair_move p t) r.sensor value why there

-- it was sent all the same
sent_all_the_same : (p : Pair) (s : Signal) (t u : ℕ) (value : Bool) (why : Why) (j : Item) → value_of s (Some value) ≡ value ∷ [] → Toggles p.sensor j →
    (pressed p s t).telegram ≡ Some value → barrier (clock_move p.actuator t).state (SwitchOnOff value) ≡ Stopped why →
    (pair_move (pressed p s t).pair u).records ≡ [] → (pair_step (pressed p s t).pair j u).telegram ≡ Some (not value)
sent_all_the_same p s t u value why j edge toggles sent stops none =
    let z : Sensor = (pair_move p t).pair.sensor in
    let same = dropped_is_not_heard p s t value why sent stops in
    let telegram : (react z s t).telegram ≡ Some value = sym (pressed_sends p s t) ∙ sent in
    let last : (react z s t).sensor.value ≡ value = reaction_keeps_the_last z s t ∙ rw telegram (rw edge (unfold last_of in refl)) in
    let still-toggles : Toggles (pressed p s t).pair.sensor j = rw (same, a_reaction_hears z s t) (heard_toggles z t _ j (moved_toggles p t j toggles)) in
    a_toggle_inverts (pressed p s t).pair j u still-toggles
    ∙ ap (λ (last : Bool). Some (not last)) (ap (λ (x : Sensor). x.value) (nothing_recorded_nothing_heard (pressed p s t).pair u none ∙ same) ∙ last)

pub dropped_still_toggles : (p : Pair) → DroppedStillToggles p
dropped_still_toggles p (Button1 edge) j t u why first second value sent stops none =
    unfold pair_step in sent_all_the_same p (signal.Button1 edge) t u value why j refl second (unfold pair_step in sent) stops (unfold pair_step in none)
dropped_still_toggles p (Button2 edge) j t u why first second value sent stops none =
    unfold pair_step in sent_all_the_same p (signal.Button2 edge) t u value why j refl second (unfold pair_step in sent) stops (unfold pair_step in none)
dropped_still_toggles p _ j t u why first second value sent stops none = elim first [ ]
