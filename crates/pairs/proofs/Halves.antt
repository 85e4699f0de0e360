-- The pair brings in no rule of its own: its actuator is the actuator over the cues and telegrams, its sensor the sensor over the records and
-- edges.
use Rattle.std.specs.Prelude.{Some, None, Option}
use Prim.Native.Nat.{ℕ, ◌≤◌}
use mathlib.Core.Bool.{Bool}
use mathlib.Core.List.{List, [], ◌∷◌, ◌++◌}
use mathlib.Core.Path.{◌≡◌, refl, sym, ap, ◌∙◌}
use native.Mathlib.Omega.{arith}
use Rattle.rules.specs.declared.parameters.Params.{Params}
use Rattle.rules.specs.declared.parameters.Scene.{Scene}
use Rattle.rules.specs.declared.input.Input.{Input}
use Rattle.rules.specs.declared.input.Input.TheVariants.{SwitchOnOff}
use Rattle.rules.specs.declared.state.State.{State}
use Rattle.rules.specs.declared.record.Record.{Record}
use Rattle.rules.specs.Steps.{Moved, Stepped, clock_move, act, step}
use Rattle.rules.specs.Lists.{Cue, cue, Played, and_then, moved, stepped, plays, plays_to, play_list, still}
use Rattle.rules.specs.Promises.{Rises}
use Rattle.rules.proofs.Laws.Lists.{acts_after_the_move, plays_to_next}
use Rattle.sensor.specs.declared.signal.Signal.{Signal}
use Rattle.sensor.specs.declared.signal.Signal.TheVariants as signal
use Rattle.sensor.specs.declared.state.Sensor.{Sensor}
use Rattle.sensor.specs.declared.react.Reaction.{Reaction}
use Rattle.sensor.specs.Reactions.{hear, react, Stamped, at, reacts}
use Rattle.sensor.proofs.LastValue.{one_part_then_the_other}
use Rattle.pairs.specs.declared.item.Item.{Item}
use Rattle.pairs.specs.declared.item.Item.TheVariants.{Plain, Button1, Button2}
use Rattle.pairs.specs.Pairs.{Pair, shows, hears, PairMoved, pair_move, PairStepped, tell, told, pressed, pair_step}
use Rattle.pairs.specs.Lists.{Listed, listed, PairPlayed, actuator_part, pair_then, pair_moved, pair_stepped, pair_plays, pair_plays_to, pair_start, play_items}
use Rattle.pairs.specs.Halves.{ItemsRise, sent_as, cue_of, given_at, cues_for, given, answered, ActuatorHalf, ActuatorAlone, statuses, recorded_by, around_edge, signals_of, signals_for, spoken, SensorHalf, SensorAlone}
use Rattle.pairs.proofs.Playing.{pair_plays_to_end, pair_plays_to_next}
use Rattle.rules.proofs.Laws.Moments.{next_is_later}
use Rattle.rules.proofs.Mistakes.Rank.{plays_by_way_of}

-- ---- a list without edges

abbrev pub actuator_step : PairStepped → Stepped
actuator_step d = record { state = d.pair.actuator; answer = d.answer; records = d.records }

unfoldable pub plain_items : List Cue → List Listed
plain_items [] = []
plain_items (cue t i ∷ later) = listed t (Plain i) ∷ plain_items later

pub a_plain_step_is_the_actuators : (p : Pair) (i : Input) (t : ℕ) → actuator_step (pair_step p (Plain i) t) ≡ step p.actuator i t
unfolding pair_step
a_plain_step_is_the_actuators p i t = refl

-- then the pair is the plain actuator
pub plain_plays : (cues : List Cue) (p : Pair) → actuator_part (pair_plays (plain_items cues) p) ≡ plays cues p.actuator
unfolding plain_items pair_plays plays
plain_plays [] p = refl
plain_plays (cue t i ∷ later) p =
    ap (λ (b : Played). and_then (stepped (actuator_step (pair_step p (Plain i) t))) (λ x. b)) (plain_plays later (pair_step p (Plain i) t).pair)
    ∙ ap (λ (d : Stepped). and_then (stepped d) (plays later)) (a_plain_step_is_the_actuators p i t)

pub plain_items_lem : (end : ℕ) (cues : List Cue) (p : Pair) → actuator_part (pair_plays_to end (plain_items cues) p) ≡ plays_to end cues p.actuator
unfolding pair_plays_to pair_move plays_to
plain_items_lem end cues p = ap (λ (a : Played). and_then a (λ x. moved (clock_move x end))) (plain_plays cues p)

-- and what it is given are the cues themselves
pub plain_items_give_the_cues : (cues : List Cue) (p : Pair) → given (cues_for (plain_items cues) p) ≡ cues
unfolding plain_items cues_for given
plain_items_give_the_cues [] p = refl
plain_items_give_the_cues (cue t i ∷ later) p = rw (plain_items_give_the_cues later (pair_step p (Plain i) t).pair) refl

-- ---- the actuator's half: one item

-- the clock has moved, and nothing else is asked for
abbrev pub moved_by : Moved → Stepped
moved_by m = record { state = m.state; answer = 1; records = m.records }

-- an item gives the actuator nothing but the time, or a cue at its own stamp
abbrev StepGiven : State → ℕ → Stepped → Option Cue → Type 0
StepGiven s t d None = d ≡ moved_by (clock_move s t)
StepGiven s t d (Some (cue u i)) = (u ≡ t) × (d ≡ step s i t)

-- the one step of what was played
abbrev only_answer : List ℕ → ℕ
only_answer [] = 0
only_answer (a ∷ later) = a

abbrev only_step : Played → Stepped
only_step a = record { state = a.state; answer = only_answer a.answers; records = a.records }

-- a telegram's step after the clock move is the step of its cue
tell_given : (p : Pair) (t : ℕ) (z : Sensor) (sent : Option Bool) →
    let d : PairStepped = tell sent (pair_move p t) z in
    StepGiven p.actuator t (actuator_step d) (cue_of t (sent_as d.telegram))
unfolding tell pair_move
tell_given p t z None = refl
tell_given p t z (Some value) = (refl, unfold step in sym (ap only_step (acts_after_the_move (clock_move p.actuator t) (SwitchOnOff value))))

pressed_given : (p : Pair) (t : ℕ) (s : Signal) → StepGiven p.actuator t (actuator_step (pressed p s t)) (cue_of t (sent_as (pressed p s t).telegram))
unfolding pressed told
pressed_given p t s = let r : Reaction = react (pair_move p t).pair.sensor s t in tell_given p t r.sensor r.telegram

-- so an edge gives the actuator the clock move alone, or the step of a switch order
pressed_gives : (P : Stepped → Type 0) (p : Pair) (t : ℕ) (s : Signal) → P (moved_by (clock_move p.actuator t)) → ((value : Bool) → P (step p.actuator (SwitchOnOff value) t)) → P (actuator_step (pressed p s t))
unfolding pressed told tell
pressed_gives P p t s f g = by r.telegram
  where
    r : Reaction
    r = react (pair_move p t).pair.sensor s t

    by : (sent : Option Bool) → P (actuator_step (tell sent (pair_move p t) r.sensor))
    by None = unfold pair_move in f
    by (Some value) = rw (tell_given p t r.sensor (Some value)).1 (g value)

-- the inputs that an item may give the actuator
abbrev pub MayGive : Item → Input → Type 0
MayGive (Plain i) j = i ≡ j
MayGive (Button1 edge) j = (value : Bool) × (SwitchOnOff value ≡ j)
MayGive (Button2 edge) j = (value : Bool) × (SwitchOnOff value ≡ j)

-- what holds of the clock move alone, and of every step that the item may give, holds of the item
pub item_gives : (P : Stepped → Type 0) (p : Pair) (i : Item) (t : ℕ) → P (moved_by (clock_move p.actuator t)) → ((j : Input) → MayGive i j → P (step p.actuator j t)) → P (actuator_step (pair_step p i t))
unfolding pair_step
item_gives P p (Plain i) t f g = g i refl
item_gives P p (Button1 edge) t f g = pressed_gives P p t (signal.Button1 edge) f (λ value. g (SwitchOnOff value) (value, refl))
item_gives P p (Button2 edge) t f g = pressed_gives P p t (signal.Button2 edge) f (λ value. g (SwitchOnOff value) (value, refl))

pub item_leaves : (P : State → Type 0) (p : Pair) (i : Item) (t : ℕ) → P (clock_move p.actuator t).state → ((j : Input) → MayGive i j → P (step p.actuator j t).state) → P (pair_step p i t).pair.actuator
item_leaves P p i t f g = item_gives (λ (d : Stepped). P d.state) p i t f g

step_given : (p : Pair) (t : ℕ) (i : Item) → StepGiven p.actuator t (actuator_step (pair_step p i t)) (given_at t i (pair_step p i t).telegram)
step_given p t (Plain i) = (refl, a_plain_step_is_the_actuators p i t)
step_given p t (Button1 edge) = unfold pair_step in pressed_given p t (signal.Button1 edge)
step_given p t (Button2 edge) = unfold pair_step in pressed_given p t (signal.Button2 edge)

-- ---- the actuator's half: the list

rises_earlier : (last t : ℕ) (cues : List Cue) (end : ℕ) → last ≤ t → Rises t cues end → Rises last cues end
rises_earlier last t [] end h r = omega arith
rises_earlier last t (cue u i ∷ later) end h r = (omega (arith, r.0), r.1)

next_rises : (last t end : ℕ) (s : State) (d : Stepped) (x : Option Cue) (later : List (Option Cue)) → StepGiven s t d x → last ≤ t → Rises t (given later) end → Rises last (given (x ∷ later)) end
unfolding given
next_rises last t end s d None later g h r = rises_earlier last t (given later) end h r
next_rises last t end s d (Some (cue u i)) later g h r = rw g.0 (h, r)

-- what the actuator is given rises as the list does
pub cues_rise : (last end : ℕ) (items : List Listed) (p : Pair) → ItemsRise last items end → Rises last (given (cues_for items p)) end
unfolding cues_for
cues_rise last end [] p r = unfold given in r
cues_rise last end (listed t i ∷ later) p r =
    let next : Pair = (pair_step p i t).pair in
    next_rises last t end p.actuator (actuator_step (pair_step p i t)) _ (cues_for later next) (step_given p t i) r.0 (cues_rise t end later next r.1)

next_half : (t end : ℕ) (p : Pair) (d : PairStepped) (x : Option Cue) (cues : List (Option Cue)) (b : PairPlayed) → StepGiven p.actuator t (actuator_step d) x → Rises t (given cues) end →
    ActuatorHalf cues b (plays_to end (given cues) d.pair.actuator) → ActuatorHalf (x ∷ cues) (pair_then (pair_stepped d) (λ _. b)) (plays_to end (given (x ∷ cues)) p.actuator)
unfolding given answered
next_half t end p d None cues b g r h =
    let s : d.pair.actuator ≡ (clock_move p.actuator t).state = ap (λ (x : Stepped). x.state) g in
    let l : d.records ≡ (clock_move p.actuator t).records = ap (λ (x : Stepped). x.records) g in
    let a : d.answer ≡ 1 = ap (λ (x : Stepped). x.answer) g in
    let h = rw s at h in
    rw (← plays_by_way_of t end (given cues) p.actuator (next_is_later t (given cues) end r)) (record { state = h.state; records = rw (l, h.records) refl; answers = rw (a, h.answers) refl })
next_half t end p d (Some (cue u i)) cues b g r h =
    let s : d.pair.actuator ≡ (step p.actuator i t).state = ap (λ (x : Stepped). x.state) g.1 in
    let l : d.records ≡ (step p.actuator i t).records = ap (λ (x : Stepped). x.records) g.1 in
    let a : d.answer ≡ (step p.actuator i t).answer = ap (λ (x : Stepped). x.answer) g.1 in
    let h = rw s at h in
    rw (g.0, plays_to_next end t i (given cues) p.actuator) (record { state = h.state; records = rw (l, h.records) refl; answers = rw (a, h.answers) refl })

pub the_actuator_is_itself : (end last : ℕ) (items : List Listed) (p : Pair) → ItemsRise last items end → ActuatorAlone end items p
unfolding cues_for
the_actuator_is_itself end last [] p r = unfold pair_plays_to pair_plays pair_move plays_to plays given answered in record { state = refl; records = refl; answers = refl }
the_actuator_is_itself end last (listed t i ∷ later) p r =
    let next : Pair = (pair_step p i t).pair in
    rw (pair_plays_to_next end t i later p)
    (next_half t end p (pair_step p i t) _ (cues_for later next) (pair_plays_to end later next) (step_given p t i) (cues_rise t end later next r.1) (the_actuator_is_itself end t later next r.1))

-- the whole run, from the start record on
pub the_run_is_the_actuators : (k : Params) (scenes : List Scene) (z : Sensor) (items : List Listed) (end : ℕ) → ItemsRise 0 items end →
    let begun : Pair = (pair_start k scenes z).pair in
    ActuatorHalf (cues_for items begun) (play_items k scenes z items end) (play_list k scenes (given (cues_for items begun)) end)
unfolding play_items play_list
the_run_is_the_actuators k scenes z items end r =
    let h = the_actuator_is_itself end 0 items (pair_start k scenes z).pair r in
    record { state = h.state; records = rw h.records refl; answers = h.answers }

-- ---- the sensor's half

spoken_append : (a b : List (Option Bool)) → spoken (a ++ b) ≡ spoken a ++ spoken b
unfolding spoken
spoken_append [] b = refl
spoken_append (None ∷ a) b = spoken_append a b
spoken_append (Some value ∷ a) b = rw (spoken_append a b) refl

-- a record heard is a status taken, and nothing is sent
pub records_are_statuses : (l : List Record) (z : Sensor) → ((reacts (statuses l) z).sensor ≡ hears l z) × (spoken (reacts (statuses l) z).telegrams ≡ [])
unfolding statuses reacts react hears spoken
records_are_statuses [] z = (refl, refl)
records_are_statuses (r ∷ later) z = records_are_statuses later (hear z r.stamp (shows r))

move_heard : (p : Pair) (t : ℕ) → SensorHalf (pair_moved (pair_move p t)) (reacts (statuses (pair_move p t).records) p.sensor)
unfolding pair_move spoken
move_heard p t = let e = records_are_statuses (clock_move p.actuator t).records p.sensor in record { sensor = sym e.0; sent = sym e.1 }

-- what is heard first, then what is heard after it
halves_join : (a b : PairPlayed) (early late : List Stamped) (z : Sensor) → SensorHalf a (reacts early z) → SensorHalf b (reacts late a.pair.sensor) → SensorHalf (pair_then a (λ _. b)) (reacts (early ++ late) z)
halves_join a b early late z h k =
    let k = rw h.sensor at k in
    rw (one_part_then_the_other early late z)
    (record { sensor = k.sensor; sent = spoken_append a.telegrams b.telegrams ∙ rw (h.sent, k.sent) refl ∙ sym (spoken_append (reacts early z).telegrams _) })

-- an edge, then the record of its telegram
tell_heard : (sent : Option Bool) (m : PairMoved) (y z : Sensor) (s : Signal) (t : ℕ) → react y s t ≡ record { sensor = z; telegram = sent } →
    SensorHalf (pair_stepped (tell sent m z)) (reacts (at t s ∷ statuses (recorded_by sent m)) y)
unfolding tell reacts spoken
tell_heard None m y z s t e = unfold statuses in rw e (record { sensor = refl; sent = refl })
tell_heard (Some value) m y z s t e =
    let h = records_are_statuses (act (still m.pair.actuator) (SwitchOnOff value)).records z in
    rw e (record { sensor = sym h.0; sent = rw h.1 refl })

tell_sends : (sent : Option Bool) (m : PairMoved) (z : Sensor) → (tell sent m z).telegram ≡ sent
unfolding tell
tell_sends None m z = refl
tell_sends (Some value) m z = refl

-- it sends what the sensor sends
pub pressed_sends : (p : Pair) (s : Signal) (t : ℕ) → (pressed p s t).telegram ≡ (react (pair_move p t).pair.sensor s t).telegram
unfolding pressed told
pressed_sends p s t = tell_sends _ _ _

pressed_heard : (p : Pair) (s : Signal) (t : ℕ) → SensorHalf (pair_stepped (pressed p s t)) (reacts (around_edge s t (pair_move p t) (pressed p s t).telegram) p.sensor)
unfolding pressed told
pressed_heard p s t =
    let m : PairMoved = pair_move p t in
    let r : Reaction = react m.pair.sensor s t in
    let h = halves_join (pair_moved m) (pair_stepped (tell r.telegram m r.sensor)) (statuses m.records) _ p.sensor (move_heard p t) (tell_heard r.telegram m m.pair.sensor r.sensor s t refl) in
    let e = tell_sends r.telegram m r.sensor in
    rw e (record { sensor = h.sensor; sent = rw e at h.sent })

step_heard : (p : Pair) (t : ℕ) (i : Item) → SensorHalf (pair_stepped (pair_step p i t)) (reacts (signals_of p t i) p.sensor)
unfolding pair_step
step_heard p t (Plain i) = let e = records_are_statuses (step p.actuator i t).records p.sensor in record { sensor = sym e.0; sent = unfold spoken in sym e.1 }
step_heard p t (Button1 edge) = pressed_heard p (signal.Button1 edge) t
step_heard p t (Button2 edge) = pressed_heard p (signal.Button2 edge) t

pub the_sensor_is_itself : (end : ℕ) (items : List Listed) (p : Pair) → SensorAlone end items p
unfolding signals_for
the_sensor_is_itself end [] p = rw (pair_plays_to_end end p) (move_heard p end)
the_sensor_is_itself end (listed t i ∷ later) p =
    rw (pair_plays_to_next end t i later p)
    (halves_join (pair_stepped (pair_step p i t)) (pair_plays_to end later (pair_step p i t).pair) (signals_of p t i) _ p.sensor (step_heard p t i) (the_sensor_is_itself end later (pair_step p i t).pair))

-- the whole run: the start record is heard first
pub the_run_is_the_sensors : (k : Params) (scenes : List Scene) (z : Sensor) (items : List Listed) (end : ℕ) →
    let begun : PairPlayed = pair_start k scenes z in
    SensorHalf (play_items k scenes z items end) (reacts (statuses begun.records ++ signals_for end items begun.pair) z)
unfolding play_items
the_run_is_the_sensors k scenes z items end =
    let begun : PairPlayed = pair_start k scenes z in
    let e = records_are_statuses begun.records z in
    halves_join begun (pair_plays_to end items begun.pair) (statuses begun.records) (signals_for end items begun.pair) z
    (record { sensor = sym e.0; sent = unfold spoken in sym e.1 }) (the_sensor_is_itself end items begun.pair)
