-- No rule looks at the version: over any parameters and any list the same answers, records and telegrams, and the same end state but for its version.
use Rattle.std.specs.Prelude.{Option, Some, None}
use Prim.Native.Nat.{ℕ}
use mathlib.Core.Bool.{Bool, true, false, cond, ◌||◌}
use mathlib.Core.List.{List, [], ◌∷◌}
use mathlib.Core.Path.{◌≡◌, refl, sym, ap, ◌∙◌, subst}
use lib.Dec.{eqb, leb}
use Rattle.rules.specs.declared.parameters.Params.{Params}
use Rattle.rules.specs.declared.parameters.Scene.{Scene}
use Rattle.rules.specs.declared.phase.Phase.{Phase}
use Rattle.rules.specs.declared.phase.Phase.TheVariants.{Dark, Lit, Starting, Timed, Warning, Ending}
use Rattle.rules.specs.declared.input.Force.{Force}
use Rattle.rules.specs.declared.input.Force.TheVariants.{Free, Off, On}
use Rattle.rules.specs.declared.input.Event.{Event}
use Rattle.rules.specs.declared.input.Event.TheVariants.{Failure, Return}
use Rattle.rules.specs.declared.input.Input.{Input}
use Rattle.rules.specs.declared.input.Input.TheVariants.{SwitchOnOff, TimedStartStop, NumberedSceneControl, SwitchOnOffForced, LockDevice, NightMode, Bus, Power}
use Rattle.rules.specs.declared.state.Link.{Link}
use Rattle.rules.specs.declared.state.Link.TheVariants.{Up, BusDown, PowerDown}
use Rattle.rules.specs.declared.state.State.{State}
use Rattle.rules.specs.declared.barrier.Barrier.{Barrier}
use Rattle.rules.specs.declared.barrier.Barrier.TheVariants.{Open, Notes, Stopped}
use Rattle.rules.specs.Phases.{output, deadline, lit_at, at_deadline, set_on}
use Rattle.rules.specs.Scenes.{recalled}
use Rattle.rules.specs.Orders.{from_dark, on, timed_start, off, timed_stop, night_falls, with_phase, with_force, held, standing, settle, switch, timed, recall, learn, scene, night_mode, forced, locked, unlocking_output, unlocked, lock_device, bus_mode, bus, power_fails, power_returns, power, order, noted}
use Rattle.rules.specs.Barriers.{barrier}
use Rattle.rules.specs.Inputs.{kind}
use Rattle.rules.specs.Status.{value, attributes, record_of, by_itself, same_status, written}
use Rattle.rules.specs.Answers.{same_flags, same_but_clock}
use Rattle.rules.specs.Steps.{Moved, Stepped, fresh, tick_at, tick, ticked, clock_move, counted, meet, act, step}
use Rattle.rules.specs.Lists.{Cue, play_list, still}
use Rattle.rules.proofs.Laws.Cases.{each_phase}
use Rattle.rules.proofs.Laws.Orders.{noted_both}
use Rattle.sensor.specs.declared.signal.Signal.{Signal}
use Rattle.sensor.specs.declared.signal.Signal.TheVariants as signal
use Rattle.sensor.specs.declared.state.Sensor.{Sensor}
use Rattle.sensor.specs.Reactions.{react}
use Rattle.sensor.specs.Sensors.{fresh_sensor}
use Rattle.pairs.specs.declared.item.Item.{Item}
use Rattle.pairs.specs.declared.item.Item.TheVariants.{Plain, Button1, Button2}
use Rattle.pairs.specs.Pairs.{Pair, PairMoved, pair_move, PairStepped, tell, told, pressed, pair_step}
use Rattle.pairs.specs.Lists.{Listed, listed, PairPlayed, pair_then, pair_moved, pair_stepped, pair_plays, pair_plays_to, pair_start, play_items}
use Rattle.pairs.proofs.Halves.{plain_items}
use Rattle.pairs.proofs.Reading.{a_plain_list_is_the_actuators}
use Rattle.demands.specs.Versions.{of_version, in_version, PlayedAlike, pair_in_version, PairPlayedAlike}

module _ (v : ℕ) where
  abbrev like : State → State
  like s = in_version v s

  -- ---- the phases

  alike_on : (p : Params) (night held : Bool) (t : ℕ) (ph : Phase) → on (of_version v p) night held t ph ≡ on p night held t ph
  unfolding from_dark on set_on lit_at
  alike_on p night held t = each_phase (λ ph. on (of_version v p) night held t ph ≡ on p night held t ph) refl refl (λ timed d. refl) (λ d. refl) (λ d. refl) (λ d. refl)

  alike_start : (p : Params) (t : ℕ) (ph : Phase) → timed_start (of_version v p) t ph ≡ timed_start p t ph
  unfolding from_dark timed_start lit_at
  alike_start p t = each_phase (λ ph. timed_start (of_version v p) t ph ≡ timed_start p t ph) refl refl (λ timed d. refl) (λ d. refl) (λ d. refl) (λ d. refl)

  alike_off : (p : Params) (t : ℕ) (ph : Phase) → off (of_version v p) t ph ≡ off p t ph
  unfolding off
  alike_off p t = each_phase (λ ph. off (of_version v p) t ph ≡ off p t ph) refl refl (λ timed d. refl) (λ d. refl) (λ d. refl) (λ d. refl)

  alike_stop : (p : Params) (t : ℕ) (ph : Phase) → timed_stop (of_version v p) t ph ≡ timed_stop p t ph
  unfolding timed_stop
  alike_stop p t Dark = refl
  alike_stop p t Lit = refl
  alike_stop p t (Starting timed d) = rw (alike_off p t (Starting timed d))
  alike_stop p t (Timed d) = alike_off p t (Timed d)
  alike_stop p t (Warning d) = alike_off p t (Warning d)
  alike_stop p t (Ending d) = refl

  alike_nightfall : (p : Params) (t : ℕ) (ph : Phase) → night_falls (of_version v p) t ph ≡ night_falls p t ph
  unfolding night_falls
  alike_nightfall p t = each_phase (λ ph. night_falls (of_version v p) t ph ≡ night_falls p t ph) refl refl (λ timed d. refl) (λ d. refl) (λ d. refl) (λ d. refl)

  alike_deadline : (p : Params) (night : Bool) (ph : Phase) → at_deadline (of_version v p) night ph ≡ at_deadline p night ph
  unfolding at_deadline lit_at
  alike_deadline p night = each_phase (λ ph. at_deadline (of_version v p) night ph ≡ at_deadline p night ph) refl refl (λ timed d. refl) (λ d. refl) (λ d. refl) (λ d. refl)

  -- ---- the orders

  alike_either : (b : Bool) (x y : State) → cond b (like x) (like y) ≡ like (cond b x y)
  alike_either true x y = refl
  alike_either false x y = refl

  alike_settled : (s : State) (b : Bool) → settle (like s) b ≡ like (settle s b)
  unfolding settle set_on lit_at held
  alike_settled s true = refl
  alike_settled s false = refl

  alike_switch : (s : State) (b : Bool) → switch (like s) b ≡ like (switch s b)
  unfolding switch held
  alike_switch s true = ap (with_phase (like s)) (alike_on s.params s.night (s.lock || standing s.force) s.clock s.phase)
  alike_switch s false = ap (with_phase (like s)) (alike_off s.params s.clock s.phase)

  alike_timed : (s : State) (b : Bool) → timed (like s) b ≡ like (timed s b)
  unfolding timed
  alike_timed s true = ap (with_phase (like s)) (alike_start s.params s.clock s.phase)
  alike_timed s false = ap (with_phase (like s)) (alike_stop s.params s.clock s.phase)

  alike_recall : (s : State) (r : Option Bool) → recall (like s) r ≡ like (recall s r)
  unfolding recall
  alike_recall s None = refl
  alike_recall s (Some value) = alike_switch s value

  alike_scene : (s : State) (learns : Bool) (number : ℕ) → scene (like s) learns number ≡ like (scene s learns number)
  unfolding scene learn
  alike_scene s true number = alike_either s.params.learning _ s
  alike_scene s false number = alike_recall s (recalled s.scenes number)

  alike_night : (s : State) (b : Bool) → night_mode (like s) b ≡ like (night_mode s b)
  unfolding night_mode
  alike_night s true = rw (alike_nightfall s.params s.clock s.phase) (alike_either s.night s _)
  alike_night s false = refl

  alike_forced : (s : State) (f : Force) → forced (like s) f ≡ like (forced s f)
  unfolding forced
  alike_forced s Off = refl
  alike_forced s On = refl
  alike_forced s Free = rw (alike_settled (with_force s Free) (output s.phase)) (alike_either (standing s.force) _ s)

  alike_unlocked : (s : State) (f : Force) → unlocked (like s) f ≡ like (unlocked s f)
  unfolding unlocked unlocking_output
  alike_unlocked s Off = refl
  alike_unlocked s On = refl
  alike_unlocked s Free = alike_settled _ _

  alike_lock : (s : State) (b : Bool) → lock_device (like s) b ≡ like (lock_device s b)
  unfolding lock_device locked
  alike_lock s true = alike_either s.lock s _
  alike_lock s false = rw (alike_unlocked s s.force) (alike_either s.lock _ s)

  alike_mode : (s : State) (mode : ℕ) → bus_mode (like s) mode ≡ like (bus_mode s mode)
  unfolding bus_mode held
  alike_mode s mode = rw (alike_settled s (eqb mode 2)) (alike_either (held s || eqb mode 0) s (settle s (eqb mode 2)))

  alike_bus : (s : State) (l : Link) (e : Event) → bus (like s) l e ≡ like (bus s l e)
  unfolding bus
  alike_bus s Up Failure = alike_mode _ _
  alike_bus s Up Return = refl
  alike_bus s BusDown Failure = refl
  alike_bus s BusDown Return = alike_mode _ _
  alike_bus s PowerDown e = refl

  alike_power : (s : State) (l : Link) (e : Event) → power (like s) l e ≡ like (power s l e)
  unfolding power power_fails power_returns
  alike_power s Up Failure = refl
  alike_power s Up Return = refl
  alike_power s BusDown Failure = refl
  alike_power s BusDown Return = refl
  alike_power s PowerDown Failure = refl
  alike_power s PowerDown Return = alike_settled _ _

  alike_order : (s : State) (i : Input) → order (like s) i ≡ like (order s i)
  unfolding order
  alike_order s (SwitchOnOff value) = alike_switch s value
  alike_order s (TimedStartStop value) = alike_timed s value
  alike_order s (NumberedSceneControl learns number) = alike_scene s learns number
  alike_order s (SwitchOnOffForced force) = alike_forced s force
  alike_order s (LockDevice value) = alike_lock s value
  alike_order s (NightMode value) = alike_night s value
  alike_order s (Bus event) = alike_bus s s.link event
  alike_order s (Power event) = alike_power s s.link event

  alike_noted : (s : State) (i : Input) → noted (like s) i ≡ like (noted s i)
  alike_noted s i = noted_both (λ (u v : State). u ≡ like v) (like s) s i refl (λ force. refl) (λ night. refl)

  -- ---- timers, records, steps

  alike_tick : (s : State) (t : ℕ) → tick (like s) t ≡ like (tick s t)
  unfolding tick tick_at
  alike_tick s t = by (deadline s.phase)
    where
      by : (d : Option ℕ) → tick_at (like s) t d ≡ like (tick_at s t d)
      by None = refl
      by (Some d) = rw (alike_deadline s.params s.night s.phase) (alike_either (leb d t) _ s)

  alike_written : (cause : ℕ) (a b : State) → written cause (like a) (like b) ≡ written cause a b
  unfolding written same_status value attributes record_of
  alike_written cause a b = refl

  alike_move : (s : State) (t : ℕ) → ((clock_move (like s) t).state ≡ like (clock_move s t).state) × ((clock_move (like s) t).records ≡ (clock_move s t).records)
  unfolding clock_move ticked
  alike_move s t =
      let one = alike_tick s t in
      let two : tick (tick (like s) t) t ≡ like (tick (tick s t) t) = ap (λ (x : State). tick x t) one ∙ alike_tick (tick s t) t in
      let three : tick (tick (tick (like s) t) t) t ≡ like (tick (tick (tick s t) t) t) = ap (λ (x : State). tick x t) two ∙ alike_tick (tick (tick s t) t) t in
      (rw three, rw (three, two, one, alike_written by_itself s (tick s t), alike_written by_itself (tick s t) (tick (tick s t) t), alike_written by_itself (tick (tick s t) t) (tick (tick (tick s t) t) t)))

  -- a step of one, and the same step of the other
  abbrev StepsAlike : Stepped → Stepped → Type 0
  StepsAlike old new = (new.state ≡ like old.state) × (new.answer ≡ old.answer) × (new.records ≡ old.records)

  alike_counted : (b : Barrier) (m n : Moved) (i : Input) (old new : State) → n.state ≡ like m.state → n.records ≡ m.records → new ≡ like old → StepsAlike (counted b m i old) (counted b n i new)
  unfolding counted
  alike_counted b m n i old new state records after =
      (after, rw (after, state) (unfold same_but_clock same_flags in refl), rw (after, state, records, alike_written (kind i) m.state old))

  alike_meet : (b : Barrier) (m n : Moved) (i : Input) → n.state ≡ like m.state → n.records ≡ m.records → StepsAlike (meet b m i) (meet b n i)
  unfolding meet
  alike_meet (Stopped why) m n i state records = (state, refl, records)
  alike_meet Open m n i state records = alike_counted Open m n i _ _ state records (ap (λ (x : State). order x i) state ∙ alike_order m.state i)
  alike_meet Notes m n i state records = alike_counted Notes m n i _ _ state records (ap (λ (x : State). noted x i) state ∙ alike_noted m.state i)

  alike_step : (s : State) (i : Input) (t : ℕ) → StepsAlike (step s i t) (step (like s) i t)
  unfolding step act
  alike_step s i t =
      let m = alike_move s t in
      let same : barrier (clock_move (like s) t).state i ≡ barrier (clock_move s t).state i = rw m.0 (unfold barrier in refl) in
      rw same (alike_meet (barrier (clock_move s t).state i) (clock_move s t) (clock_move (like s) t) i m.0 m.1)

  -- ---- the pair: the clock, and one item

  abbrev PairMovesAlike : PairMoved → PairMoved → Type 0
  PairMovesAlike old new = (new.pair ≡ pair_in_version v old.pair) × (new.records ≡ old.records)

  alike_pair_move : (p : Pair) (t : ℕ) → PairMovesAlike (pair_move p t) (pair_move (pair_in_version v p) t)
  unfolding pair_move
  alike_pair_move p t = let m = alike_move p.actuator t in (rw (m.0, m.1), m.1)

  -- an input while the clock stands
  alike_act : (s : State) (i : Input) → StepsAlike (act (still s) i) (act (still (like s)) i)
  unfolding act
  alike_act s i =
      let same : barrier (like s) i ≡ barrier s i = unfold barrier in refl in
      rw same (alike_meet (barrier s i) (still s) (still (like s)) i refl refl)

  record ItemsAlike (old new : PairStepped) : Type 0 where
    pair : new.pair ≡ pair_in_version v old.pair
    answer : new.answer ≡ old.answer
    records : new.records ≡ old.records
    telegram : new.telegram ≡ old.telegram

  alike_tell : (r : Option Bool) (m n : PairMoved) (z : Sensor) → PairMovesAlike m n → ItemsAlike (tell r m z) (tell r n z)
  unfolding tell
  alike_tell None m n z e = record { pair = rw e.0; answer = refl; records = e.1; telegram = refl }
  alike_tell (Some value) m n z e =
      let d = alike_act m.pair.actuator (SwitchOnOff value) in
      rw e.0 (record { pair = rw (d.0, d.2); answer = d.1; records = rw (e.1, d.2); telegram = refl })

  alike_pressed : (p : Pair) (s : Signal) (t : ℕ) → ItemsAlike (pressed p s t) (pressed (pair_in_version v p) s t)
  unfolding pressed told
  alike_pressed p s t =
      let m = alike_pair_move p t in
      let same : (pair_move (pair_in_version v p) t).pair.sensor ≡ (pair_move p t).pair.sensor = ap (λ (x : Pair). x.sensor) m.0 in
      subst (λ (z : Sensor). ItemsAlike (pressed p s t) (tell (react z s t).telegram (pair_move (pair_in_version v p) t) (react z s t).sensor)) (sym same)
      (alike_tell (react (pair_move p t).pair.sensor s t).telegram (pair_move p t) (pair_move (pair_in_version v p) t) (react (pair_move p t).pair.sensor s t).sensor m)

  alike_item : (p : Pair) (i : Item) (t : ℕ) → ItemsAlike (pair_step p i t) (pair_step (pair_in_version v p) i t)
  unfolding pair_step
  alike_item p (Plain i) t =
      let d = alike_step p.actuator i t in
      record { pair = rw (d.0, d.2); answer = d.1; records = d.2; telegram = refl }
  alike_item p (Button1 edge) t = alike_pressed p (signal.Button1 edge) t
  alike_item p (Button2 edge) t = alike_pressed p (signal.Button2 edge) t

  -- ---- a list

  alike_then : (old new : PairPlayed) (f g : Pair → PairPlayed) → PairPlayedAlike v old new → PairPlayedAlike v (f old.pair) (g (pair_in_version v old.pair)) → PairPlayedAlike v (pair_then old f) (pair_then new g)
  alike_then old new f g a b =
      record {
        pair = rw a.pair b.pair;
        answers = rw (a.pair, a.answers, b.answers);
        records = rw (a.pair, a.records, b.records);
        telegrams = rw (a.pair, a.telegrams, b.telegrams);
      }

  alike_items : (items : List Listed) (p : Pair) → PairPlayedAlike v (pair_plays items p) (pair_plays items (pair_in_version v p))
  unfolding pair_plays
  alike_items [] p = record { pair = refl; answers = refl; records = refl; telegrams = refl }
  alike_items (listed t i ∷ later) p =
      let d = alike_item p i t in
      alike_then (pair_stepped (pair_step p i t)) (pair_stepped (pair_step (pair_in_version v p) i t)) (pair_plays later) (pair_plays later)
      (record { pair = d.pair; answers = rw d.answer; records = d.records; telegrams = rw d.telegram })
      (alike_items later (pair_step p i t).pair)

  alike_items_to_end : (end : ℕ) (items : List Listed) (p : Pair) → PairPlayedAlike v (pair_plays_to end items p) (pair_plays_to end items (pair_in_version v p))
  unfolding pair_plays_to
  alike_items_to_end end items p =
      let last = alike_pair_move (pair_plays items p).pair end in
      alike_then (pair_plays items p) (pair_plays items (pair_in_version v p)) (λ x. pair_moved (pair_move x end)) (λ x. pair_moved (pair_move x end)) (alike_items items p)
      (record { pair = last.0; answers = refl; records = last.1; telegrams = refl })

  -- no rule looks at the version
  pub no_rule_of_the_pair_looks_at_the_version : (p : Params) (k : List Scene) (z : Sensor) (items : List Listed) (end : ℕ) →
      PairPlayedAlike v (play_items p k z items end) (play_items (of_version v p) k z items end)
  unfolding play_items fresh
  no_rule_of_the_pair_looks_at_the_version p k z items end =
      alike_then (pair_start p k z) (pair_start (of_version v p) k z) (pair_plays_to end items) (pair_plays_to end items)
      (record { pair = unfold record_of value attributes in refl; answers = refl; records = unfold record_of value attributes in refl; telegrams = refl })
      (alike_items_to_end end items (pair_start p k z).pair)

  -- so neither does an actuator alone, which is a pair whose sensor is never touched
  pub no_rule_looks_at_the_version : (p : Params) (k : List Scene) (list : List Cue) (end : ℕ) → PlayedAlike v (play_list p k list end) (play_list (of_version v p) k list end)
  no_rule_looks_at_the_version p k list end =
      let z : Sensor = fresh_sensor [] in
      let both = no_rule_of_the_pair_looks_at_the_version p k z (plain_items list) end in
      rw (← a_plain_list_is_the_actuators p k z list end, ← a_plain_list_is_the_actuators (of_version v p) k z list end)
      (record { state = ap (λ (x : Pair). x.actuator) both.pair; answers = both.answers; records = both.records })
