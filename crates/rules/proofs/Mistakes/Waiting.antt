-- 01, "Slips we have seen": "A repeated On or Off that starts its delay again." The On: an order that lights leaves light, or a wait,
-- and without it the lamp is dark and waits at least as long. No input lets it catch up: each keeps that so, or makes the two alike.
use Rattle.std.specs.Prelude.{Option, Some, None}
use Prim.Native.Nat.{ℕ, ◌+◌, ◌≤◌, ◌<◌}
use mathlib.Core.Bool.{Bool, true, false, cond, not, ◌&&◌, ◌||◌}
use mathlib.Core.Path.{◌≡◌, refl, sym, ap, subst, ◌∙◌}
use mathlib.Core.List.{List, [], ◌∷◌, ◌++◌}
use mathlib.Core.Logic.{◌⊎◌, inl, inr, ⊎_elim}
use native.Mathlib.Omega.{arith}
use lib.Dec.{eqb}
use borrow.Author.Tests.{ne_eqb}
use Rattle.rules.specs.declared.parameters.Params.{Params}
use Rattle.rules.specs.declared.parameters.Scene.{Scene}
use Rattle.rules.specs.declared.phase.Phase.{Phase}
use Rattle.rules.specs.declared.phase.Phase.TheVariants.{Dark, Lit, Starting, Timed, Warning, Ending}
use Rattle.rules.specs.declared.input.Force.{Force}
use Rattle.rules.specs.declared.input.Force.TheVariants.{Free, Off, On}
use Rattle.rules.specs.declared.input.Event.{Event}
use Rattle.rules.specs.declared.input.Event.TheVariants.{Failure, Return}
use Rattle.rules.specs.declared.input.Input.{Input}
use Rattle.rules.specs.declared.input.Input.TheVariants.{SwitchOnOff, TimedStartStop, NumberedSceneControl, SwitchOnOffForced, LockDevice, NightMode, Bus, Power}
use Rattle.rules.specs.declared.state.Link.{Link}
use Rattle.rules.specs.declared.state.Link.TheVariants.{Up, BusDown, PowerDown}
use Rattle.rules.specs.declared.state.State.{State}
use Rattle.rules.specs.declared.barrier.Barrier.{Barrier}
use Rattle.rules.specs.declared.barrier.Barrier.TheVariants.{Open, Notes, Stopped}
use Rattle.rules.specs.Scenes.{recalled, learnt}
use Rattle.rules.specs.Phases.{output, deadline, lit_at, set_on}
use Rattle.rules.specs.Orders.{from_dark, on, timed_start, off, timed_stop, night_falls, with_phase, with_night, with_force, with_link, with_lock, with_scenes, standing, held, settle, plain, by_mode, switch, timed, recall, learn, scene, night_mode, forced, locked, unlocking_output, unlocked, lock_device, bus_mode, bus, power_fails, power_returns, power, order, noted}
use Rattle.rules.specs.Barriers.{barrier}
use Rattle.rules.specs.Steps.{fresh, at_moment, Moved, clock_move, step, Quiet}
use Rattle.rules.specs.Lists.{Cue, cue, plays}
use Rattle.rules.specs.Promises.{Rises, Turn, turn, turns, Each, state_at, Taken, recalls_on, lights, NotBefore, ShowsLight}
use Rattle.rules.specs.Mistakes.{LeavesNoTrace, asks_for, OnIsIdleWhileItWaits, OnIsNeverLater}
use Rattle.base.proofs.Codes.{failed}
use Rattle.base.proofs.Tests.{no, cond_case, by_order}
use Rattle.rules.proofs.Laws.Orders.{noted_both}
use Rattle.rules.proofs.Laws.Soundness.{taken_is_the_order, noted_is_the_note, step_clock, step_params}
use Rattle.rules.proofs.Laws.Timers.{no_timer_due_no_move}
use Rattle.rules.proofs.Laws.Moments.{at_case, at_the_end, next_is_later, rises_from, at_past}
use Rattle.rules.proofs.Promises.Light.{lit_now, Waits, comes_on, Shines, taken_shines, shows_here, shows_later, reached}
use Rattle.rules.proofs.Mistakes.Delays.{asking_switches, asking_is_not_noted}
use Rattle.rules.proofs.Mistakes.Rank.{unchanged_leaves_no_trace, dropped_leaves_no_trace, at_by_way_of, no_trace_may_be_struck}

-- ---- an On or scene-on that meets a steady wait

-- "Starting keeps its deadline and becomes steady": it is so already
waiting_is_kept : (p : Params) (night held : Bool) (t d : ℕ) (phase : Phase) → phase ≡ Starting false d → on p night held t phase ≡ phase
unfolding on
waiting_is_kept p night held t d phase e = rw e refl

repeated_on_leaves_no_trace : (s : State) (i : Input) (u d : ℕ) → (clock_move s u).state.phase ≡ Starting false d → asks_for (clock_move s u).state i ≡ Some true → LeavesNoTrace s i u
unfolding switch
repeated_on_leaves_no_trace s i u d e lit =
    let met : State = (clock_move s u).state in
    unchanged_leaves_no_trace s i u (λ _. asking_switches met i true lit ∙ ap (with_phase met) (waiting_is_kept _ _ _ _ d _ e)) (λ way. absurd (asking_is_not_noted met i true lit way))

pub an_on_is_idle_while_it_waits : (p : Params) (scenes : List Scene) (list : List Cue) (end : ℕ) → Rises 0 list end → OnIsIdleWhileItWaits p scenes list end
an_on_is_idle_while_it_waits p scenes list end r before t i later d e waits lit =
    no_trace_may_be_struck p scenes before t i later end (rw e r) (repeated_on_leaves_no_trace _ i t d waits lit)

-- ---- the phase without the order

-- With the order a wait for d stands, timed or not. Without it the lamp is dark, and its light does not come before d. A timed stop ends
-- a timed wait and spares a steady one: so the wait without the order has to be timed where the one with it is, unless no timed stop
-- follows (`unstopped`).
abbrev Behind : Bool → ℕ → Bool → Phase → Type 0
Behind unstopped d timed Dark = Unit
Behind unstopped d timed Lit = ⊥
Behind unstopped d timed (Starting other e) = (d ≤ e) × (unstopped ≡ false → timed ≡ true → other ≡ true)
Behind unstopped d timed (Timed e) = ⊥
Behind unstopped d timed (Warning e) = ⊥
Behind unstopped d timed (Ending e) = ⊥

module _ (unstopped : Bool) (d : ℕ) (timed : Bool) where
  behind_is_dark : (phase : Phase) → Behind unstopped d timed phase → output phase ≡ false
  behind_is_dark Dark h = refl
  behind_is_dark (Starting other e) h = refl
  behind_is_dark _ h = elim h [ ]

  behind_is_quiet : (t : ℕ) (phase : Phase) → t < d → Behind unstopped d timed phase → Quiet t (deadline phase)
  behind_is_quiet t Dark early h = tt
  behind_is_quiet t (Starting other e) early h = omega (arith, h.0)
  behind_is_quiet t _ early h = elim h [ ]

  night_falls_behind : (p : Params) (t : ℕ) (phase : Phase) → Behind unstopped d timed phase → Behind unstopped d timed (night_falls p t phase)
  unfolding night_falls
  night_falls_behind p t Dark h = tt
  night_falls_behind p t (Starting other e) h = h
  night_falls_behind p t _ h = elim h [ ]

  -- an order that finds it so at t waits for the whole on delay, and d is within that
  module _ (p : Params) (t : ℕ) (early : t < d) (within : d ≤ t + p.ondelay) where
    on_behind : (night held : Bool) (phase : Phase) → Behind unstopped d timed phase → Behind unstopped d false (on p night held t phase)
    unfolding from_dark on
    on_behind night held Dark h = rw (ne_eqb p.ondelay 0 (λ none. omega arith)) (within, λ stops e. no e)
    on_behind night held (Starting other e) h = (h.0, λ stops e. no e)
    on_behind night held _ h = elim h [ ]

    timed_start_behind : (phase : Phase) → Behind unstopped d timed phase → Behind unstopped d true (timed_start p t phase)
    unfolding from_dark timed_start
    timed_start_behind Dark h = rw (ne_eqb p.ondelay 0 (λ none. omega arith)) (within, λ stops e. refl)
    timed_start_behind (Starting other e) h = (h.0, λ stops e. refl)
    timed_start_behind _ h = elim h [ ]

-- an Off leaves it Dark at once
off_in_the_dark : (p : Params) (t : ℕ) (phase : Phase) → output phase ≡ false → off p t phase ≡ Dark
unfolding off
off_in_the_dark p t phase dark = rw dark

-- a timed stop spares a steady wait
steady_stop_behind : (unstopped : Bool) (p : Params) (t d : ℕ) (phase : Phase) → Behind unstopped d false phase → Behind unstopped d false (timed_stop p t phase)
unfolding timed_stop
steady_stop_behind unstopped p t d Dark h = tt
steady_stop_behind unstopped p t d (Starting true e) h = rw (off_in_the_dark p t (Starting true e) refl) tt
steady_stop_behind unstopped p t d (Starting false e) h = h
steady_stop_behind unstopped p t d _ h = elim h [ ]

-- and ends a timed one, and what is behind it
timed_stop_behind : (unstopped : Bool) (p : Params) (t d : ℕ) (phase : Phase) → unstopped ≡ false → Behind unstopped d true phase → timed_stop p t phase ≡ Dark
unfolding timed_stop
timed_stop_behind unstopped p t d Dark stops h = refl
timed_stop_behind unstopped p t d (Starting true e) stops h = off_in_the_dark p t (Starting true e) refl
timed_stop_behind unstopped p t d (Starting false e) stops h = no (h.1 stops refl)
timed_stop_behind unstopped p t d _ stops h = elim h [ ]

-- ---- the state without the order

-- a wait for d stands with the order; without it all is the same but for the phase, which is behind
record Trails (unstopped : Bool) (d : ℕ) (s without : State) : Type 0 where
  timed : Bool
  phase : Phase
  waits : s.phase ≡ Starting timed d
  behind : Behind unstopped d timed phase
  same : without ≡ with_phase s phase

-- or the two are alike
abbrev Follows : Bool → ℕ → State → State → Type 0
Follows unstopped d s without = Trails unstopped d s without ⊎ (without ≡ s)

-- what an order sets by an output does not ask for the phase
settle_alike : (s : State) (phase : Phase) (value : Bool) → settle (with_phase s phase) value ≡ settle s value
unfolding settle held
settle_alike s phase true = refl
settle_alike s phase false = refl

module _ (unstopped : Bool) (d : ℕ) (s : State) (is-timed : Bool) (phase : Phase) (waits : s.phase ≡ Starting is-timed d) (behind : Behind unstopped d is-timed phase) where
  -- both are dark
  dark_with : output s.phase ≡ false
  dark_with = ap output waits

  dark_without : output phase ≡ false
  dark_without = behind_is_dark unstopped d is-timed phase behind

  -- an order that leaves the two phases and changes both states alike
  stays : Follows unstopped d s (with_phase s phase)
  stays = inl (record { timed = is-timed; phase = phase; waits = waits; behind = behind; same = refl })

  module _ (early : s.clock < d) (within : d ≤ s.clock + s.params.ondelay) where
    switch_follows : (value : Bool) → Follows unstopped d (switch s value) (switch (with_phase s phase) value)
    unfolding switch held
    switch_follows true =
        inl (record {
          timed = false;
          phase = on s.params s.night (held s) s.clock phase;
          waits = unfold on in rw waits refl;
          behind = on_behind unstopped d is-timed s.params s.clock early within s.night (held s) phase behind;
          same = refl;
        })
    switch_follows false =
        inr (ap (with_phase s) (off_in_the_dark s.params s.clock phase dark_without ∙ sym (off_in_the_dark s.params s.clock s.phase dark_with)))

    timed_follows : (value : Bool) → (unstopped ≡ true → value ≡ false → ⊥) → Follows unstopped d (timed s value) (timed (with_phase s phase) value)
    unfolding timed
    timed_follows true unless =
        inl (record {
          timed = true;
          phase = timed_start s.params s.clock phase;
          waits = unfold timed_start in rw waits refl;
          behind = timed_start_behind unstopped d is-timed s.params s.clock early within phase behind;
          same = refl;
        })
    timed_follows false unless = by is-timed waits behind
      where
        by : (b : Bool) → s.phase ≡ Starting b d → Behind unstopped d b phase →
            Follows unstopped d (with_phase s (timed_stop s.params s.clock s.phase)) (with_phase s (timed_stop s.params s.clock phase))
        by false e h =
            inl (record {
              timed = false;
              phase = timed_stop s.params s.clock phase;
              waits = unfold timed_stop in rw e refl;
              behind = steady_stop_behind unstopped s.params s.clock d phase h;
              same = refl;
            })
        by true e h =
            inr (ap (with_phase s)
            (timed_stop_behind unstopped s.params s.clock d phase (failed unstopped (λ so. unless so refl)) h
            ∙ sym (rw e (timed_stop_behind false s.params s.clock d (Starting true d) refl (omega arith, λ _ _. refl)))))

    recall_follows : (found : Option Bool) → Follows unstopped d (recall s found) (recall (with_phase s phase) found)
    unfolding recall
    recall_follows None = stays
    recall_follows (Some value) = switch_follows value

  -- both teach the same
  learn_follows : (number : ℕ) → Follows unstopped d (learn s number) (learn (with_phase s phase) number)
  unfolding learn
  learn_follows number = rw (dark_without, dark_with) (either s.params.learning)
    where
      taught : List Scene
      taught = learnt s.scenes number false

      either : (enabled : Bool) → Follows unstopped d (cond enabled (with_scenes s taught) s) (cond enabled (with_scenes (with_phase s phase) taught) (with_phase s phase))
      either true = inl (record { timed = is-timed; phase = phase; waits = waits; behind = behind; same = refl })
      either false = stays

  night_follows : (value : Bool) → Follows unstopped d (night_mode s value) (night_mode (with_phase s phase) value)
  unfolding night_mode
  night_follows true = either s.night
    where
      fallen : Phase → Phase
      fallen x = night_falls s.params s.clock x

      either : (already : Bool) →
          Follows unstopped d (cond already s (with_phase (with_night s true) (fallen s.phase))) (cond already (with_phase s phase) (with_phase (with_night s true) (fallen phase)))
      either true = stays
      either false =
          inl (record {
            timed = is-timed;
            phase = fallen phase;
            waits = unfold night_falls in rw waits refl;
            behind = night_falls_behind unstopped d is-timed s.params s.clock phase behind;
            same = refl;
          })
  night_follows false = inl (record { timed = is-timed; phase = phase; waits = waits; behind = behind; same = refl })

  forced_follows : (force : Force) → Follows unstopped d (forced s force) (forced (with_phase s phase) force)
  unfolding forced
  forced_follows Off = inr refl
  forced_follows On = inr refl
  forced_follows Free = rw (dark_without, dark_with) (either (standing s.force))
    where
      either : (stood : Bool) → Follows unstopped d (cond stood (settle (with_force s Free) false) s) (cond stood (settle (with_force (with_phase s phase) Free) false) (with_phase s phase))
      either true = inr (settle_alike (with_force s Free) phase false)
      either false = stays

  unlocked_alike : (force : Force) → unlocked (with_phase s phase) force ≡ unlocked s force
  unfolding unlocked unlocking_output
  unlocked_alike Off = refl
  unlocked_alike On = refl
  unlocked_alike Free = rw (dark_without, dark_with) (settle_alike (with_lock s false s.atlocking) phase _)

  lock_follows : (value : Bool) → Follows unstopped d (lock_device s value) (lock_device (with_phase s phase) value)
  unfolding lock_device locked
  lock_follows true = rw (dark_without, dark_with) (either s.lock)
    where
      either : (already : Bool) →
          Follows unstopped d (cond already s (with_phase (with_lock s true false) (plain (by_mode s.params.locking false))))
          (cond already (with_phase s phase) (with_phase (with_lock s true false) (plain (by_mode s.params.locking false))))
      either true = stays
      either false = inr refl
  lock_follows false = either s.lock
    where
      either : (stood : Bool) → Follows unstopped d (cond stood (unlocked s s.force) s) (cond stood (unlocked (with_phase s phase) s.force) (with_phase s phase))
      either true = inr (unlocked_alike s.force)
      either false = stays

  bus_mode_follows : (link : Link) (mode : ℕ) → Follows unstopped d (bus_mode (with_link s link) mode) (bus_mode (with_link (with_phase s phase) link) mode)
  unfolding bus_mode held
  bus_mode_follows link mode = either (held s || eqb mode 0)
    where
      either : (keeps : Bool) →
          Follows unstopped d (cond keeps (with_link s link) (settle (with_link s link) (eqb mode 2)))
          (cond keeps (with_link (with_phase s phase) link) (settle (with_link (with_phase s phase) link) (eqb mode 2)))
      either true = inl (record { timed = is-timed; phase = phase; waits = waits; behind = behind; same = refl })
      either false = inr (settle_alike (with_link s link) phase (eqb mode 2))

  bus_follows : (link : Link) (event : Event) → Follows unstopped d (bus s link event) (bus (with_phase s phase) link event)
  unfolding bus
  bus_follows Up Failure = bus_mode_follows BusDown _
  bus_follows Up Return = stays
  bus_follows BusDown Failure = stays
  bus_follows BusDown Return = bus_mode_follows Up _
  bus_follows PowerDown event = stays

  power_fails_alike : power_fails (with_phase s phase) ≡ power_fails s
  unfolding power_fails
  power_fails_alike = rw (dark_without, dark_with) refl

  power_follows : (link : Link) (event : Event) → Follows unstopped d (power s link event) (power (with_phase s phase) link event)
  unfolding power power_returns
  power_follows Up Failure = inr power_fails_alike
  power_follows Up Return = stays
  power_follows BusDown Failure = inr power_fails_alike
  power_follows BusDown Return = stays
  power_follows PowerDown Failure = stays
  power_follows PowerDown Return = inr (settle_alike (with_link s Up) phase _)

  order_follows : s.clock < d → d ≤ s.clock + s.params.ondelay → (i : Input) → (unstopped ≡ true → i ≡ TimedStartStop false → ⊥) →
      Follows unstopped d (order s i) (order (with_phase s phase) i)
  unfolding order scene
  order_follows early within (SwitchOnOff value) unless = switch_follows early within value
  order_follows early within (TimedStartStop value) unless = timed_follows early within value (λ so e. unless so (ap TimedStartStop e))
  order_follows early within (NumberedSceneControl true number) unless = learn_follows number
  order_follows early within (NumberedSceneControl false number) unless = recall_follows early within (recalled s.scenes number)
  order_follows early within (SwitchOnOffForced force) unless = forced_follows force
  order_follows early within (LockDevice value) unless = lock_follows value
  order_follows early within (NightMode value) unless = night_follows value
  order_follows early within (Bus event) unless = bus_follows s.link event
  order_follows early within (Power event) unless = power_follows s.link event

  -- a value that is noted is noted in both
  noted_follows : (i : Input) → Follows unstopped d (noted s i) (noted (with_phase s phase) i)
  noted_follows i =
      noted_both (Follows unstopped d) s (with_phase s phase) i stays
      (λ force. inl (record { timed = is-timed; phase = phase; waits = waits; behind = behind; same = refl }))
      (λ night. inl (record { timed = is-timed; phase = phase; waits = waits; behind = behind; same = refl }))

-- up to d the clock moves alike, and the same barriers stand
module _ (unstopped : Bool) (d : ℕ) (s : State) (is-timed : Bool) (phase : Phase) (waits : s.phase ≡ Starting is-timed d) (behind : Behind unstopped d is-timed phase) (t : ℕ) (early : t < d) where
  moves_with : (clock_move s t).state ≡ at_moment s t s.phase
  moves_with = ap (λ (m : Moved). m.state) (no_timer_due_no_move s t (subst (λ (x : Phase). Quiet t (deadline x)) (sym waits) early))

  moves_without : (clock_move (with_phase s phase) t).state ≡ at_moment s t phase
  moves_without = ap (λ (m : Moved). m.state) (no_timer_due_no_move (with_phase s phase) t (behind_is_quiet unstopped d is-timed t phase early behind))

  barred_alike : (i : Input) → barrier (clock_move (with_phase s phase) t).state i ≡ barrier (clock_move s t).state i
  unfolding barrier
  barred_alike i = rw (moves_with, moves_without) refl

  step_follows : d ≤ t + s.params.ondelay → (i : Input) → (Taken (turn s t i) → unstopped ≡ true → i ≡ TimedStartStop false → ⊥) →
      Follows unstopped d (step s i t).state (step (with_phase s phase) i t).state
  step_follows within i unless = by (barrier (clock_move s t).state i) refl
    where
      by : (b : Barrier) → barrier (clock_move s t).state i ≡ b → Follows unstopped d (step s i t).state (step (with_phase s phase) i t).state
      by Open way =
          rw (taken_is_the_order s i t way, taken_is_the_order (with_phase s phase) i t (barred_alike i ∙ way), moves_with, moves_without)
          (order_follows unstopped d (at_moment s t s.phase) is-timed phase waits behind early within i (unless way))
      by Notes way =
          rw (noted_is_the_note s i t way, noted_is_the_note (with_phase s phase) i t (barred_alike i ∙ way), moves_with, moves_without)
          (noted_follows unstopped d (at_moment s t s.phase) is-timed phase waits behind i)
      by (Stopped why) stop =
          rw ((dropped_leaves_no_trace s i t why stop).0, (dropped_leaves_no_trace (with_phase s phase) i t why (barred_alike i ∙ stop)).0, moves_with, moves_without)
          (inl (record { timed = is-timed; phase = phase; waits = waits; behind = behind; same = refl }))

-- ---- the inputs that follow

module _ (a u end : ℕ) (begun : a ≤ u) (inside : u ≤ end) where
  -- a lamp that is lit at u shows it
  lit_at_shows : (later : List Cue) (s : State) → s.clock ≤ u → output (state_at u later s).phase ≡ true → ShowsLight a u end later s
  lit_at_shows [] s clock lit = shows_here a u end [] s u begun (omega arith) clock inside (rw (at_the_end u s) at lit)
  lit_at_shows (cue t i ∷ later) s clock lit =
      at_case (λ (x : State). output x.phase ≡ true → ShowsLight a u end (cue t i ∷ later) s) u t i later s
      (λ past then. shows_later a u end t i later s (lit_at_shows later (step s i t).state (rw (step_clock s i t) past) then))
      (λ ahead then. shows_here a u end (cue t i ∷ later) s u begun (omega arith) clock (omega arith) then)
      lit

  module _ (unstopped : Bool) (d : ℕ) (from : a ≤ d) where
    -- no timed stop is taken up to u, where that has to be
    abbrev NoTimedStop : List Turn → Type 0
    NoTimedStop list = unstopped ≡ true → Each (λ y. y.stamp ≤ u → Taken y → y.input ≡ TimedStartStop false → ⊥) list

    -- where it is lit at u without the order, d has come, and the light with it
    light_has_come : (cues : List Cue) (s without : State) → 1 ≤ s.params.timedon → s.clock ≤ d → (d ≤ u → NotBefore d cues end) → Trails unstopped d s without →
        output (clock_move without u).state.phase ≡ true → ShowsLight a u end cues s
    light_has_come cues s without some clock next trail lit =
        by_order d u
        (λ due. shows_here a u end cues s d from due clock (next due) (comes_on s d some (subst (Waits d) (sym trail.waits) refl)))
        (λ early. no (sym (behind_is_dark unstopped d trail.timed trail.phase trail.behind)
        ∙ rw (trail.same, moves_without unstopped d s trail.timed trail.phase trail.waits trail.behind u early) at lit))

    no_later : (later : List Cue) (s without : State) (last : ℕ) → Rises last later end → 1 ≤ s.params.timedon → s.clock ≤ d → s.clock ≤ u → d ≤ last + s.params.ondelay →
        NoTimedStop (turns later s) → Follows unstopped d s without → output (state_at u later without).phase ≡ true → ShowsLight a u end later s
    unfolding turns
    no_later [] s without last r some clock so_far within unless follows lit =
        ⊎_elim
        (λ (trail : Trails unstopped d s without). light_has_come [] s without some clock (λ due. omega arith) trail (rw (at_the_end u without) at lit))
        (λ alike. lit_at_shows [] s so_far (rw alike at lit))
        follows
    no_later (cue t i ∷ later) s without last r some clock so_far within unless follows lit =
        ⊎_elim
        (λ (trail : Trails unstopped d s without). at_case (λ (x : State). output x.phase ≡ true → ShowsLight a u end (cue t i ∷ later) s) u t i later without
        (λ past then. by_order d t
        (λ due. shows_here a u end (cue t i ∷ later) s d from (omega arith) clock due (comes_on s d some (subst (Waits d) (sym trail.waits) refl)))
        (λ early. shows_later a u end t i later s
        (no_later later (step s i t).state (step without i t).state t r.1 (rw (step_params s i t) some) (rw (step_clock s i t) (omega arith)) (rw (step_clock s i t) past)
        (rw (step_params s i t) (omega (arith, r.0))) (λ so. (unless so).1)
        (rw trail.same (step_follows unstopped d s trail.timed trail.phase trail.waits trail.behind t early (omega (arith, r.0)) i (λ way so. (unless so).0 past way))) then)))
        (λ ahead then. light_has_come (cue t i ∷ later) s without some clock (λ due. omega arith) trail then)
        lit)
        (λ alike. lit_at_shows (cue t i ∷ later) s so_far (rw alike at lit))
        follows

-- ---- what an order that lights has found

lit_waits_for_nothing : (p : Params) (timed : Bool) (t d : ℕ) → Waits d (lit_at p timed t) → ⊥
unfolding lit_at
lit_waits_for_nothing p true t d h = h
lit_waits_for_nothing p false t d h = h

-- an On that leaves a wait leaves a steady one, and has found a wait for the same moment, or Dark
module _ (p : Params) (night held : Bool) (t d : ℕ) where
  on_leaves : (phase : Phase) → Waits d (on p night held t phase) → on p night held t phase ≡ Starting false d
  unfolding from_dark on set_on
  on_leaves Dark h =
      cond_case (λ (x : Phase). Waits d x → x ≡ Starting false d) (eqb p.ondelay 0) (lit_at p night t) (Starting false (t + p.ondelay))
      (λ none w. absurd (lit_waits_for_nothing p night t d w)) (λ some w. ap (Starting false) w) h
  on_leaves (Starting timed e) h = ap (Starting false) h
  on_leaves (Timed e) h = absurd (lit_waits_for_nothing p (night && not held) t d h)
  on_leaves (Warning e) h = absurd (lit_waits_for_nothing p (night && not held) t d h)
  on_leaves (Ending e) h = absurd (lit_waits_for_nothing p (night && not held) t d h)
  on_leaves Lit h = elim h [ ]

  on_found : (phase : Phase) → Waits d (on p night held t phase) → Behind false d false phase
  unfolding from_dark on set_on
  on_found Dark h = tt
  on_found (Starting timed e) h = (omega arith, λ stops lit. no lit)
  on_found (Timed e) h = absurd (lit_waits_for_nothing p (night && not held) t d h)
  on_found (Warning e) h = absurd (lit_waits_for_nothing p (night && not held) t d h)
  on_found (Ending e) h = absurd (lit_waits_for_nothing p (night && not held) t d h)
  on_found Lit h = elim h [ ]

-- a timed start leaves a timed one
timed_start_leaves : (p : Params) (t d : ℕ) (phase : Phase) → Waits d (timed_start p t phase) → timed_start p t phase ≡ Starting true d
unfolding from_dark timed_start lit_at
timed_start_leaves p t d Dark h =
    cond_case (λ (x : Phase). Waits d x → x ≡ Starting true d) (eqb p.ondelay 0) (Timed (t + p.timedon)) (Starting true (t + p.ondelay))
    (λ none w. absurd w) (λ some w. ap (Starting true) w) h
timed_start_leaves p t d (Starting timed e) h = ap (Starting true) h
timed_start_leaves p t d _ h = elim h [ ]

timed_start_found : (p : Params) (t d : ℕ) (phase : Phase) → Waits d (timed_start p t phase) → Behind true d true phase
unfolding from_dark timed_start
timed_start_found p t d Dark h = tt
timed_start_found p t d (Starting timed e) h = (omega arith, λ stops. no (sym stops))
timed_start_found p t d _ h = elim h [ ]

-- only for a timed start it matters that no timed stop follows
abbrev is_timed : Input → Bool
is_timed (SwitchOnOff value) = false
is_timed (TimedStartStop value) = true
is_timed (NumberedSceneControl learns number) = false
is_timed (SwitchOnOffForced force) = false
is_timed (LockDevice value) = false
is_timed (NightMode value) = false
is_timed (Bus event) = false
is_timed (Power event) = false

timed_lights : (s : State) (i : Input) → lights s i ≡ true → is_timed i ≡ true → i ≡ TimedStartStop true
timed_lights s (SwitchOnOff value) lit so = no so
timed_lights s (TimedStartStop value) lit so = ap TimedStartStop lit
timed_lights s (NumberedSceneControl learns number) lit so = no so
timed_lights s (SwitchOnOffForced force) lit so = no so
timed_lights s (LockDevice value) lit so = no so
timed_lights s (NightMode value) lit so = no so
timed_lights s (Bus event) lit so = no so
timed_lights s (Power event) lit so = no so

-- all else is as it was found
module _ (s : State) (d : ℕ) where
  switch_found : (value : Bool) → value ≡ true → Waits d (switch s value).phase → Trails false d (switch s value) s
  unfolding switch
  switch_found true e waits =
      record {
        timed = false;
        phase = s.phase;
        waits = on_leaves s.params s.night (held s) s.clock d s.phase waits;
        behind = on_found s.params s.night (held s) s.clock d s.phase waits;
        same = refl;
      }
  switch_found false e waits = no e

  timed_found : (value : Bool) → value ≡ true → Waits d (timed s value).phase → Trails true d (timed s value) s
  unfolding timed
  timed_found true e waits =
      record {
        timed = true;
        phase = s.phase;
        waits = timed_start_leaves s.params s.clock d s.phase waits;
        behind = timed_start_found s.params s.clock d s.phase waits;
        same = refl;
      }
  timed_found false e waits = no e

  recall_found : (found : Option Bool) → recalls_on found ≡ true → Waits d (recall s found).phase → Trails false d (recall s found) s
  unfolding recall
  recall_found None e waits = no e
  recall_found (Some value) e waits = switch_found value e waits

  order_found : (i : Input) → lights s i ≡ true → Waits d (order s i).phase → Trails (is_timed i) d (order s i) s
  unfolding order scene
  order_found (SwitchOnOff value) e waits = switch_found value e waits
  order_found (TimedStartStop value) e waits = timed_found value e waits
  order_found (NumberedSceneControl true number) e waits = no e
  order_found (NumberedSceneControl false number) e waits = recall_found (recalled s.scenes number) e waits
  order_found (SwitchOnOffForced force) e waits = no e
  order_found (LockDevice value) e waits = no e
  order_found (NightMode value) e waits = no e
  order_found (Bus event) e waits = no e
  order_found (Power event) e waits = no e

-- ---- over the whole list

module _ (t u end : ℕ) (i : Input) (later : List Cue) (s : State) (past : t ≤ u) (inside : u ≤ end) (r : Rises t later end) (some : 1 ≤ s.params.timedon)
    (way : Taken (turn s t i)) (lit : lights (clock_move s t).state i ≡ true)
    (unless : i ≡ TimedStartStop true → Each (λ y. y.stamp ≤ u → Taken y → y.input ≡ TimedStartStop false → ⊥) (turns later (step s i t).state))
    (without : output (state_at u later s).phase ≡ true) where
  shows_no_later : Shines s.params t (step s i t).state.phase → ShowsLight t u end later (step s i t).state
  shows_no_later (inl now) =
      shows_here t u end later (step s i t).state t (omega arith) past (rw (step_clock s i t) (omega arith)) (next_is_later t later end r) (lit_now (step s i t).state t now)
  shows_no_later (inr (d, waits, after, within)) =
      let met : State = (clock_move s t).state in
      let same : (step s i t).state ≡ order met i = taken_is_the_order s i t way in
      let found : Trails (is_timed i) d (step s i t).state met = rw same (order_found met d i lit (rw same at waits)) in
      no_later t u end past inside (is_timed i) d (omega arith) later (step s i t).state met t r (rw (step_params s i t) some) (rw (step_clock s i t) (omega arith)) (rw (step_clock s i t) past)
      (rw (step_params s i t) within) (λ so. unless (timed_lights met i lit so)) (inl found) (rw (at_by_way_of u t end later s past (next_is_later t later end r)) without)

-- TimedOn is not 0 in accepted parameters.
pub a_repeated_on_is_never_later : (p : Params) (scenes : List Scene) (list : List Cue) (end : ℕ) → Rises 0 list end → 1 ≤ p.timedon → OnIsNeverLater p scenes list end
unfolding fresh
a_repeated_on_is_never_later p scenes list end rises some before t i later e way lit u past inside unless without =
    let r : Rises 0 (before ++ (cue t i ∷ later)) end = rw e rises in
    let s : State = (plays before (fresh p scenes)).state in
    let w = reached p t i later end before (fresh p scenes) 0 r refl tt in
    let shines = taken_shines s i t (rw w.0 some) (rw w.0 (rw w.0 at w.1)) way lit in
    shows_no_later t u end i later s past inside (rises_from t i later end before 0 r) (rw w.0 some) way lit unless
    (rw (at_past t i later end before 0 r u past later (fresh p scenes)) at without) shines
