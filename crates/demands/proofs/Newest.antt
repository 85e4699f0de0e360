-- Only the newest values count: two lists that differ in noted inputs alone while lock or force stands, and agree in the values that count, lead to
-- states from which all goes on alike.
use Prim.Native.Nat.{ℕ}
use mathlib.Core.Bool.{Bool, true, false, cond, not, ◌&&◌, ◌||◌, or-true, or-false}
use mathlib.Core.Path.{◌≡◌, refl, sym, ap, subst, ◌∙◌}
use mathlib.Core.Logic.{◌⊎◌, inl, inr}
use mathlib.Core.List.{List, [], ◌∷◌, ◌++◌}
use Rattle.base.proofs.Tests.{no}
use Rattle.rules.specs.declared.parameters.Params.{Params}
use Rattle.rules.specs.declared.parameters.Scene.{Scene}
use Rattle.rules.specs.declared.input.Force.{Force}
use Rattle.rules.specs.declared.input.Force.TheVariants.{Free, Off, On}
use Rattle.rules.specs.declared.input.Event.{Event}
use Rattle.rules.specs.declared.input.Event.TheVariants.{Failure, Return}
use Rattle.rules.specs.declared.input.Input.{Input}
use Rattle.rules.specs.declared.input.Input.TheVariants.{SwitchOnOff, TimedStartStop, NumberedSceneControl, SwitchOnOffForced, LockDevice, NightMode, Bus, Power}
use Rattle.rules.specs.declared.barrier.Barrier.{Barrier}
use Rattle.rules.specs.declared.barrier.Barrier.TheVariants.{Open, Notes, Stopped}
use Rattle.rules.specs.declared.state.Link.{Link}
use Rattle.rules.specs.declared.state.Link.TheVariants.{Up, BusDown, PowerDown}
use Rattle.rules.specs.declared.state.State.{State}
use Rattle.rules.specs.Inputs.{kind}
use Rattle.rules.specs.Phases.{output}
use Rattle.rules.specs.Orders.{with_link, standing, held, by_mode, forced, locked, unlocked, lock_device, bus, power_fails, power_returns, power, order, noted}
use Rattle.rules.specs.Barriers.{rows, row_of, first_barrier, barrier_to, barrier}
use Rattle.rules.specs.Soundness.{sound}
use Rattle.rules.specs.Steps.{Moved, Stepped, fresh, at_moment, clock_move, act, step}
use Rattle.rules.specs.Lists.{Cue, cue, Played, and_then, moved, stepped, plays, plays_to, start, play_list}
use Rattle.rules.specs.Files.{end_time, params_in, scenes_in}
use Rattle.rules.specs.Runs.{play_file}
use Rattle.rules.specs.Said.{NotedWhere, Flags, flags_after_power, flags_after}
use Rattle.rules.specs.Promises.{turns, Each, up_to, state_at}
use Rattle.rules.proofs.Laws.Cases.{each_input}
use Rattle.rules.proofs.Laws.Facts.{sound_exactly_when, held_exactly_when}
use Rattle.rules.proofs.Laws.Holding.{loose_stands}
use Rattle.rules.proofs.Laws.Barriers.{open_is_unstopped, noted_where}
use Rattle.rules.proofs.Laws.Orders.{order_leaves}
use Rattle.rules.proofs.Laws.Soundness.{noted_is_the_note, taken_is_the_order}
use Rattle.rules.proofs.Laws.Lists.{and_then_assoc, and_then_from, plays_append, plays_to_append, plays_to_next}
use Rattle.rules.proofs.Mistakes.Rank.{dropped_leaves_no_trace}
use Rattle.demands.specs.Notes.{is_noted, unnoted, forces_unlocked, DifferInNotes, SameFromThenOn, OnlyTheNewestCount, OnlyTheNewestCountInFiles}
use Rattle.demands.proofs.Held.{Steady, plain_is_steady, steady_moves, order_held, low_is_free, settle_held, mode_held, HeldIsSteady, plays_steady}

-- ---- two states that agree in all but the clock and what may be noted

-- a state with this clock, night and force
abbrev noting : State → ℕ → Bool → Force → State
noting s clock night force =
    record { params = s.params; scenes = s.scenes; clock = clock; night = night; lock = s.lock; force = force; link = s.link; atlocking = s.atlocking; atfailure = s.atfailure; phase = s.phase }

-- lock or force holds the phase of both; without a lock the forces agree, for then they are no notes
record Likewise (a b : State) : Type 0 where
  clock : ℕ
  night : Bool
  force : Force
  same : b ≡ noting a clock night force
  holds : held a ≡ true
  agree : (a.lock ≡ true) ⊎ (force ≡ a.force)
  steady : Steady a.phase

-- an order that changes both alike
module _ (s : State) (clock : ℕ) (night : Bool) (force : Force) (holds : held s ≡ true) (agree : (s.lock ≡ true) ⊎ (force ≡ s.force)) (steady : Steady s.phase) where
  alike : Likewise s (noting s clock night force)
  alike = record { clock = clock; night = night; force = force; same = refl; holds = holds; agree = agree; steady = steady }

  both_held : held (noting s clock night force) ≡ true
  unfolding held
  both_held = by agree
    where
      by : (s.lock ≡ true) ⊎ (force ≡ s.force) → (s.lock || standing force) ≡ true
      by (inl lock) = rw lock
      by (inr e) = rw e holds

-- lock stops whatever force would stop
locked_alike : (i : Input) (link : Link) (f g : Force) → barrier_to (kind i) link true f ≡ barrier_to (kind i) link true g
unfolding barrier_to first_barrier row_of rows
locked_alike =
    each_input (λ i. (link : Link) (f g : Force) → barrier_to (kind i) link true f ≡ barrier_to (kind i) link true g)
    (λ value link f g. refl) (λ value link f g. refl) (λ learns number link f g. refl) (λ force link f g. refl) (λ value link f g. refl) (λ value link f g. refl) (λ event link f g. refl) (λ event link f g. refl)

-- at one moment: this state, and the same with another night and force
module _ (s : State) (night : Bool) (force : Force) (holds : held s ≡ true) (agree : (s.lock ≡ true) ⊎ (force ≡ s.force)) (steady : Steady s.phase) where
  abbrev twin : State
  twin = noting s s.clock night force

  twin_held : held twin ≡ true
  twin_held = both_held s s.clock night force holds agree steady

  twins : Likewise s twin
  twins = alike s s.clock night force holds agree steady

  barred_alike : (i : Input) → barrier twin i ≡ barrier s i
  unfolding barrier
  barred_alike i = by agree
    where
      by : (s.lock ≡ true) ⊎ (force ≡ s.force) → barrier_to (kind i) s.link s.lock force ≡ barrier_to (kind i) s.link s.lock s.force
      by (inl lock) = subst (λ (x : Bool). barrier_to (kind i) s.link x force ≡ barrier_to (kind i) s.link x s.force) (sym lock) (locked_alike i s.link force s.force)
      by (inr e) = ap (barrier_to (kind i) s.link s.lock) e

  -- what lock and force would have stopped does not come here
  not_low : {A : Type 0} → (s.lock ≡ false) × (standing s.force ≡ false) → A
  not_low free = no (sym (low_is_free s free.0 free.1) ∙ holds)

  lock_alike : (lock : Bool) → s.lock ≡ lock → Likewise (cond lock s (locked s)) (cond lock twin (locked twin))
  unfolding locked held
  lock_alike true e = twins
  lock_alike false e = record { clock = s.clock; night = night; force = force; same = refl; holds = refl; agree = inl refl; steady = plain_is_steady (by_mode s.params.locking (output s.phase)) }

  -- an unlocking: the force decides, and there is one
  unlocked_alike : (f : Force) → s.force ≡ f → force ≡ s.force → standing s.force ≡ true → Likewise (unlocked s f) (unlocked twin f)
  unfolding unlocked held
  unlocked_alike Off e agrees stands = record { clock = s.clock; night = night; force = force; same = refl; holds = stands; agree = inr agrees; steady = inl refl }
  unlocked_alike On e agrees stands = record { clock = s.clock; night = night; force = force; same = refl; holds = stands; agree = inr agrees; steady = inr refl }
  unlocked_alike Free e agrees stands = no (rw e at stands)

  unlock_alike : (lock : Bool) → s.lock ≡ lock → (lock ≡ true → force ≡ s.force) → standing s.force ≡ true → Likewise (cond lock (unlocked s s.force) s) (cond lock (unlocked twin force) twin)
  unlock_alike true e agrees stands = subst (λ (f : Force). Likewise (unlocked s s.force) (unlocked twin f)) (sym (agrees refl)) (unlocked_alike s.force refl (agrees refl) stands)
  unlock_alike false e agrees stands = twins

  link_alike : (link : Link) → Likewise (with_link s link) (with_link twin link)
  unfolding held
  link_alike link = record { clock = s.clock; night = night; force = force; same = refl; holds = holds; agree = agree; steady = steady }

  bus_alike : (link : Link) (event : Event) → Likewise (bus s link event) (bus twin link event)
  unfolding bus held
  bus_alike Up Failure = rw (mode_held (with_link s BusDown) s.params.busfailure holds, mode_held (with_link twin BusDown) s.params.busfailure twin_held) (link_alike BusDown)
  bus_alike Up Return = twins
  bus_alike BusDown Failure = twins
  bus_alike BusDown Return = rw (mode_held (with_link s Up) s.params.busreturn holds, mode_held (with_link twin Up) s.params.busreturn twin_held) (link_alike Up)
  bus_alike PowerDown event = twins

  power_alike : (link : Link) (event : Event) → held (power s link event) ≡ true → Likewise (power s link event) (power twin link event)
  unfolding power power_fails power_returns held
  power_alike Up Failure after = no after
  power_alike Up Return after = twins
  power_alike BusDown Failure after = no after
  power_alike BusDown Return after = twins
  power_alike PowerDown Failure after = twins
  power_alike PowerDown Return after =
      let on : Bool = by_mode s.params.powerreturn s.atfailure in
      rw (settle_held (with_link s Up) on holds, settle_held (with_link twin Up) on twin_held)
      (record { clock = s.clock; night = night; force = force; same = refl; holds = holds; agree = agree; steady = plain_is_steady on })

  order_alike : (i : Input) → barrier s i ≡ Open → held (order s i) ≡ true → (s.lock ≡ true → (order s i).lock ≡ false → force ≡ s.force) → Likewise (order s i) (order twin i)
  unfolding order forced lock_device row_of rows held
  order_alike (SwitchOnOff value) way after agrees = let c = open_is_unstopped s (SwitchOnOff value) way in not_low (c.unlocked, c.unforced)
  order_alike (TimedStartStop value) way after agrees = let c = open_is_unstopped s (TimedStartStop value) way in not_low (c.unlocked, c.unforced)
  order_alike (NumberedSceneControl learns number) way after agrees = let c = open_is_unstopped s (NumberedSceneControl learns number) way in not_low (c.unlocked, c.unforced)
  order_alike (SwitchOnOffForced Off) way after agrees = record { clock = s.clock; night = night; force = Off; same = refl; holds = or-true s.lock; agree = inr refl; steady = inl refl }
  order_alike (SwitchOnOffForced On) way after agrees = record { clock = s.clock; night = night; force = On; same = refl; holds = or-true s.lock; agree = inr refl; steady = inr refl }
  order_alike (SwitchOnOffForced Free) way after agrees = no (sym (open_is_unstopped s (SwitchOnOffForced Free) way).unlocked ∙ sym (or-false s.lock) ∙ sym (order_held s (SwitchOnOffForced Free)) ∙ after)
  order_alike (LockDevice true) way after agrees = lock_alike s.lock refl
  order_alike (LockDevice false) way after agrees =
      unlock_alike s.lock refl (λ stood. agrees stood (ap (λ (f : Flags). f.lock) (order_leaves s (LockDevice false)).flags)) (sym (order_held s (LockDevice false)) ∙ after)
  order_alike (NightMode value) way after agrees = let c = open_is_unstopped s (NightMode value) way in not_low (c.unlocked, c.unforced)
  order_alike (Bus event) way after agrees = bus_alike s.link event
  order_alike (Power event) way after agrees = power_alike s.link event after

-- ---- an input of one list or of both

-- the clock moves without a timer
moves_to : (s : State) (t : ℕ) → Steady s.phase → (clock_move s t).state ≡ at_moment s t s.phase
moves_to s t steady = ap (λ (m : Moved). m.state) (steady_moves s t steady)

-- what is noted in the first of two states
note_first : (s : State) (clock : ℕ) (night : Bool) (force : Force) → held s ≡ true → (s.lock ≡ true) ⊎ (force ≡ s.force) → Steady s.phase →
    (i : Input) → NotedWhere s i → Likewise (noted s i) (noting s clock night force)
unfolding noted held
note_first s clock night force holds agree steady (SwitchOnOffForced f) w = record { clock = clock; night = night; force = force; same = refl; holds = rw w.locked; agree = inl w.locked; steady = steady }
note_first s clock night force holds agree steady (NightMode n) w = record { clock = clock; night = night; force = force; same = refl; holds = holds; agree = agree; steady = steady }
note_first s clock night force holds agree steady _ w = elim w [ ]

-- and in the second
note_second : (s : State) (clock : ℕ) (night : Bool) (force : Force) → held s ≡ true → (s.lock ≡ true) ⊎ (force ≡ s.force) → Steady s.phase →
    (i : Input) → NotedWhere (noting s clock night force) i → Likewise s (noted (noting s clock night force) i)
unfolding noted held
note_second s clock night force holds agree steady (SwitchOnOffForced f) w = record { clock = clock; night = night; force = f; same = refl; holds = holds; agree = inl w.locked; steady = steady }
note_second s clock night force holds agree steady (NightMode n) w = record { clock = clock; night = n; force = force; same = refl; holds = holds; agree = agree; steady = steady }
note_second s clock night force holds agree steady _ w = elim w [ ]

-- the lock after an order does not ask for night or force
lock_by_flags : (s : State) (night : Bool) (force : Force) (i : Input) → (flags_after (noting s s.clock night force) i).lock ≡ (flags_after s i).lock
lock_by_flags s night force (SwitchOnOff value) = refl
lock_by_flags s night force (TimedStartStop value) = refl
lock_by_flags s night force (NumberedSceneControl learns number) = refl
lock_by_flags s night force (SwitchOnOffForced f) = refl
lock_by_flags s night force (LockDevice true) = refl
lock_by_flags s night force (LockDevice false) = refl
lock_by_flags s night force (NightMode value) = refl
lock_by_flags s night force (Bus event) = refl
lock_by_flags s night force (Power event) = by s.link event
  where
    by : (link : Link) (event : Event) → (flags_after_power (noting s s.clock night force) link event).lock ≡ (flags_after_power s link event).lock
    by Up Failure = refl
    by Up Return = refl
    by BusDown Failure = refl
    by BusDown Return = refl
    by PowerDown Failure = refl
    by PowerDown Return = refl

noted_is : (b : Barrier) → is_noted b ≡ true → b ≡ Notes
noted_is Open e = no e
noted_is Notes e = refl
noted_is (Stopped why) e = no e

module _ (a b : State) (l : Likewise a b) (t : ℕ) (i : Input) where
  first_moves : (clock_move a t).state ≡ at_moment a t a.phase
  first_moves = moves_to a t l.steady

  second_moves : (clock_move b t).state ≡ noting a t l.night l.force
  second_moves = subst (λ (x : State). (clock_move x t).state ≡ noting a t l.night l.force) (sym l.same) (moves_to (noting a l.clock l.night l.force) t l.steady)

  first_notes : is_noted (barrier (clock_move a t).state i) ≡ true → Likewise (step a i t).state b
  unfolding held
  first_notes e =
      let way = noted_is _ e in
      let met : State = at_moment a t a.phase in
      subst (λ (x : State). Likewise x b) (sym (noted_is_the_note a i t way ∙ ap (λ (x : State). noted x i) first_moves))
      (subst (Likewise (noted met i)) (sym l.same)
      (note_first met l.clock l.night l.force l.holds l.agree l.steady i (noted_where met i (subst (λ (x : State). barrier x i ≡ Notes) first_moves way))))

  second_notes : is_noted (barrier (clock_move b t).state i) ≡ true → Likewise a (step b i t).state
  second_notes e =
      let way = noted_is _ e in
      let met : State = noting a t l.night l.force in
      subst (Likewise a) (sym (noted_is_the_note b i t way ∙ ap (λ (x : State). noted x i) second_moves))
      (note_second a t l.night l.force l.holds l.agree l.steady i (noted_where met i (subst (λ (x : State). barrier x i ≡ Notes) second_moves way)))

  same_barrier : barrier (clock_move b t).state i ≡ barrier (clock_move a t).state i
  unfolding held
  same_barrier =
      subst (λ (x : State). barrier x i ≡ barrier (clock_move a t).state i) (sym second_moves)
      (subst (λ (x : State). barrier (noting a t l.night l.force) i ≡ barrier x i) (sym first_moves)
      (barred_alike (at_moment a t a.phase) l.night l.force l.holds l.agree l.steady i))

  -- what becomes of the two moved states at one barrier
  meet_alike : (x : Barrier) → barrier (clock_move a t).state i ≡ x → is_noted x ≡ false → held (step a i t).state ≡ true →
      (a.lock ≡ true → (step a i t).state.lock ≡ false → l.force ≡ a.force) → Likewise (step a i t).state (step b i t).state
  unfolding held
  meet_alike Open way e after agrees =
      let met : State = at_moment a t a.phase in
      let one : (step a i t).state ≡ order met i = taken_is_the_order a i t way ∙ ap (λ (x : State). order x i) first_moves in
      let two : (step b i t).state ≡ order (noting a t l.night l.force) i = taken_is_the_order b i t (same_barrier ∙ way) ∙ ap (λ (x : State). order x i) second_moves in
      subst (λ (x : State). Likewise x (step b i t).state) (sym one)
      (subst (Likewise (order met i)) (sym two)
      (order_alike met l.night l.force l.holds l.agree l.steady i (subst (λ (x : State). barrier x i ≡ Open) first_moves way)
      (subst (λ (x : State). held x ≡ true) one after) (λ stood opens. agrees stood (ap (λ (x : State). x.lock) one ∙ opens))))
  meet_alike Notes way e after agrees = no (sym e)
  meet_alike (Stopped why) way e after agrees =
      let one : (step a i t).state ≡ at_moment a t a.phase = (dropped_leaves_no_trace a i t why way).0 ∙ first_moves in
      let two : (step b i t).state ≡ noting a t l.night l.force = (dropped_leaves_no_trace b i t why (same_barrier ∙ way)).0 ∙ second_moves in
      subst (λ (x : State). Likewise x (step b i t).state) (sym one)
      (subst (Likewise (at_moment a t a.phase)) (sym two) (twins (at_moment a t a.phase) l.night l.force l.holds l.agree l.steady))

  -- both are locked after it, or neither
  lock_after : (x : Barrier) → barrier (clock_move a t).state i ≡ x → is_noted x ≡ false → (step b i t).state.lock ≡ (step a i t).state.lock
  lock_after Open way e =
      let one : (step a i t).state.lock ≡ (flags_after (at_moment a t a.phase) i).lock = ap (λ (x : State). x.lock) (taken_is_the_order a i t way ∙ ap (λ (x : State). order x i) first_moves) ∙ ap (λ (f : Flags). f.lock) (order_leaves (at_moment a t a.phase) i).flags in
      let two : (step b i t).state.lock ≡ (flags_after (noting a t l.night l.force) i).lock = ap (λ (x : State). x.lock) (taken_is_the_order b i t (same_barrier ∙ way) ∙ ap (λ (x : State). order x i) second_moves) ∙ ap (λ (f : Flags). f.lock) (order_leaves (noting a t l.night l.force) i).flags in
      two ∙ (lock_by_flags (at_moment a t a.phase) l.night l.force i ∙ sym one)
  lock_after Notes way e = no (sym e)
  lock_after (Stopped why) way e =
      ap (λ (x : State). x.lock) ((dropped_leaves_no_trace b i t why (same_barrier ∙ way)).0 ∙ second_moves)
      ∙ sym (ap (λ (x : State). x.lock) ((dropped_leaves_no_trace a i t why way).0 ∙ first_moves))

-- ---- the two lists

-- a noted input is no unlocking
noted_keeps_lock : (s : State) (t : ℕ) (i : Input) → is_noted (barrier (clock_move s t).state i) ≡ true → ((clock_move s t).state.lock && not (step s i t).state.lock) ≡ false
noted_keeps_lock s t i e =
    let met : State = (clock_move s t).state in
    let way = noted_is _ e in
    rw (noted_is_the_note s i t way) (by i (noted_where met i way))
  where
    never : (b : Bool) → (b && not b) ≡ false
    never true = refl
    never false = refl

    by : (i : Input) → NotedWhere (clock_move s t).state i → ((clock_move s t).state.lock && not (noted (clock_move s t).state i).lock) ≡ false
    by (SwitchOnOffForced f) w = unfold noted in never (clock_move s t).state.lock
    by (NightMode n) w = unfold noted in never (clock_move s t).state.lock
    by _ w = elim w [ ]

-- the noted inputs of a list, before what both lists have next: this cue, or the end
module _ (a : State) (forces : List Force) (next : List Cue) (Goal : State → Type 0) where
  -- what the second list comes to, once it has come so far
  abbrev Reaches : List Cue → State → Type 0
  Reaches other b = Likewise a b → next ≡ unnoted (turns other b) → forces ≡ forces_unlocked (turns other b) → Goal (plays other b).state

  past_the_notes : ((b : State) → Reaches [] b) → ((t : ℕ) (i : Input) (other : List Cue) (b : State) → is_noted (barrier (clock_move b t).state i) ≡ false → Reaches (cue t i ∷ other) b) →
      (other : List Cue) (b : State) → Reaches other b
  past_the_notes ends goes [] b = ends b
  past_the_notes ends goes (cue t i ∷ other) b = by (is_noted (barrier (clock_move b t).state i)) refl (past_the_notes ends goes other (step b i t).state)
    where
      by : (x : Bool) → is_noted (barrier (clock_move b t).state i) ≡ x → Reaches other (step b i t).state → Reaches (cue t i ∷ other) b
      by false e further = goes t i other b e
      by true e further =
          unfold turns unnoted forces_unlocked plays in
          λ l same unlocks. further (second_notes a b l t i e) (rw e at same) (rw (noted_keeps_lock b t i e) at unlocks)

abbrev Leads : List Cue → State → Type 0
Leads one a =
    (other : List Cue) (b : State) → Likewise a b → unnoted (turns one a) ≡ unnoted (turns other b) → Each (λ x. held x.left ≡ true) (turns one a) → forces_unlocked (turns one a) ≡ forces_unlocked (turns other b) →
    Likewise (plays one a).state (plays other b).state

-- an input that both lists have
module _ (t : ℕ) (i : Input) (one : List Cue) (a : State) (further : Leads one (step a i t).state) (plain : is_noted (barrier (clock_move a t).state i) ≡ false)
    (after : held (step a i t).state ≡ true) (within : Each (λ x. held x.left ≡ true) (turns one (step a i t).state)) where
  abbrev opens : State → Bool
  opens s = (clock_move s t).state.lock && not (step s i t).state.lock

  both_play : (other : List Cue) (b : State) → Likewise a b → unnoted (turns one (step a i t).state) ≡ unnoted (turns other (step b i t).state) →
      forces_unlocked (turns (cue t i ∷ one) a) ≡ forces_unlocked (turns (cue t i ∷ other) b) → Likewise (plays one (step a i t).state).state (plays other (step b i t).state).state
  unfolding turns forces_unlocked
  both_play other b l same unlocks = by (opens a) refl
    where
      lock_a : (clock_move a t).state.lock ≡ a.lock
      lock_a = ap (λ (x : State). x.lock) (first_moves a b l t i)

      opens_alike : opens b ≡ opens a
      opens_alike = rw (ap (λ (x : State). x.lock) (second_moves a b l t i), lock_a, lock_after a b l t i (barrier (clock_move a t).state i) refl plain) refl

      force_a : (clock_move a t).state.force ≡ a.force
      force_a = ap (λ (x : State). x.force) (first_moves a b l t i)

      force_b : (clock_move b t).state.force ≡ l.force
      force_b = ap (λ (x : State). x.force) (second_moves a b l t i)

      opening : a.lock ≡ true → (step a i t).state.lock ≡ false → opens a ≡ true
      opening stood free = ap (λ (x : Bool). x && not (step a i t).state.lock) (lock_a ∙ stood) ∙ ap not free

      go : (a.lock ≡ true → (step a i t).state.lock ≡ false → l.force ≡ a.force) → forces_unlocked (turns one (step a i t).state) ≡ forces_unlocked (turns other (step b i t).state) →
          Likewise (plays one (step a i t).state).state (plays other (step b i t).state).state
      go agrees rest = further other (step b i t).state (meet_alike a b l t i (barrier (clock_move a t).state i) refl plain after agrees) same within rest

      by : (x : Bool) → opens a ≡ x → Likewise (plays one (step a i t).state).state (plays other (step b i t).state).state
      by true e =
          let both = rw (e, opens_alike ∙ e) at unlocks in
          let head : (clock_move a t).state.force ≡ (clock_move b t).state.force = cc in
          go (λ stood free. sym force_b ∙ sym head ∙ force_a) cc
      by false e =
          let both = rw (e, opens_alike ∙ e) at unlocks in
          go (λ stood free. no (sym e ∙ opening stood free)) both

-- a cue that is first in both
same_stamp : {t u : ℕ} {i j : Input} {xs ys : List Cue} → cue t i ∷ xs ≡ cue u j ∷ ys → t ≡ u
same_stamp e = cc

same_input : {t u : ℕ} {i j : Input} {xs ys : List Cue} → cue t i ∷ xs ≡ cue u j ∷ ys → i ≡ j
same_input e = cc

same_rest : {c d : Cue} {xs ys : List Cue} → c ∷ xs ≡ d ∷ ys → xs ≡ ys
same_rest e = cc

not_over : {c : Cue} {xs : List Cue} → c ∷ xs ≡ [] → ⊥
not_over e = no cc

-- where the first list is over, only noted inputs are left of the second
over : (a : State) → Leads [] a
unfolding turns unnoted forces_unlocked plays
over a other b l same within unlocks = past_the_notes a [] [] (Likewise a) (λ b l same unlocks. l) (λ t i other b e l same unlocks. absurd (not_over (sym (rw e at same)))) other b l same unlocks

-- where it has an input, that is noted, or the second has it too
step_on : (t : ℕ) (i : Input) (one : List Cue) (a : State) → Leads one (step a i t).state → Leads (cue t i ∷ one) a
step_on t i one a further = by (is_noted (barrier (clock_move a t).state i)) refl
  where
    left : State
    left = (step a i t).state

    Both : List Cue → State → ℕ → Input → Type 0
    Both other b u j =
        unnoted (turns one left) ≡ unnoted (turns other (step b j u).state) → forces_unlocked (turns (cue t i ∷ one) a) ≡ forces_unlocked (turns (cue u j ∷ other) b) →
        Likewise (plays one left).state (plays other (step b j u).state).state

    both : (other : List Cue) (b : State) (u : ℕ) (j : Input) → t ≡ u → i ≡ j → Both other b t i → Both other b u j
    both other b u j stamps inputs known = subst (λ (v : ℕ). Both other b v j) stamps (subst (λ (k : Input). Both other b t k) inputs known)

    by : (x : Bool) → is_noted (barrier (clock_move a t).state i) ≡ x → Leads (cue t i ∷ one) a
    by true e =
        unfold turns unnoted forces_unlocked plays in
        λ other b l same within unlocks. further other b (first_notes a b l t i e) (rw e at same) within.1 (rw (noted_keeps_lock a t i e) at unlocks)
    by false e =
        unfold turns unnoted forces_unlocked plays in
        λ other b l same within unlocks.
        past_the_notes a (forces_unlocked (turns (cue t i ∷ one) a)) (cue t i ∷ unnoted (turns one (step a i t).state)) (Likewise (plays one (step a i t).state).state)
        (λ b l same unlocks. absurd (not_over same))
        (λ u j other b f l same unlocks.
        let first = rw f at same in
        both other b u j (same_stamp first) (same_input first) (both_play t i one a further e within.0 within.1 other b l) (same_rest first) unlocks)
        other b l (rw e at same) unlocks

lead : (one : List Cue) (a : State) → Leads one a
lead [] a = over a
lead (cue t i ∷ one) a = step_on t i one a (lead one (step a i t).state)

-- ---- from then on

-- from states that every clock move makes one
module _ (a b : State) (moved-alike : (t : ℕ) → clock_move a t ≡ clock_move b t) where
  step_same : (i : Input) (t : ℕ) → step a i t ≡ step b i t
  unfolding step
  step_same i t = ap (λ (m : Moved). act m i) (moved-alike t)

  runs_same : (later : List Cue) (end : ℕ) → plays_to end later a ≡ plays_to end later b
  runs_same [] end = unfold plays_to plays in ap moved (moved-alike end)
  runs_same (cue t i ∷ later) end = plays_to_next end t i later a ∙ ap (λ (d : Stepped). and_then (stepped d) (plays_to end later)) (step_same i t) ∙ sym (plays_to_next end t i later b)

  moments_same : (later : List Cue) (v : ℕ) → state_at v later a ≡ state_at v later b
  unfolding state_at
  moments_same later v = by (up_to v later)
    where
      by : (list : List Cue) → (clock_move (plays list a).state v).state ≡ (clock_move (plays list b).state v).state
      by [] = unfold plays in ap (λ (m : Moved). m.state) (moved-alike v)
      by (cue t i ∷ list) = unfold plays in ap (λ (d : Stepped). (clock_move (plays list d.state).state v).state) (step_same i t)

agreed : (a b : State) → Likewise a b → a.night ≡ b.night → a.force ≡ b.force → (t : ℕ) → clock_move a t ≡ clock_move b t
agreed a b l night force t =
    let is : b ≡ at_moment a l.clock a.phase =
    l.same ∙ (ap (λ (n : Bool). noting a l.clock n l.force) (sym (ap (λ (x : State). x.night) l.same) ∙ sym night) ∙ ap (noting a l.clock a.night) (sym (ap (λ (x : State). x.force) l.same) ∙ sym force)) in
    steady_moves a t l.steady ∙ sym (subst (λ (x : State). clock_move x t ≡ record { state = at_moment a t a.phase; records = [] }) (sym is) (steady_moves (at_moment a l.clock a.phase) t l.steady))

-- from any state in which what is held is steady
newest_from : (s : State) → HeldIsSteady s → (one other : List Cue) → DifferInNotes s one other → SameFromThenOn (plays one s).state (plays other s).state
newest_from s steady one other d =
    let a : State = (plays one s).state in
    let b : State = (plays other s).state in
    let l : Likewise a b = lead one s other s (alike s s.clock s.night s.force d.holds (inr refl) (steady d.holds)) d.same d.within d.unlocked in
    record { runs = runs_same a b (agreed a b l d.night d.force); moments = moments_same a b (agreed a b l d.night d.force) }

-- a run is what comes before some cue, and then what is played from there
run_in_two : (p : Params) (scenes : List Scene) (before later : List Cue) (end : ℕ) (rest : Played) → plays_to end later (plays before (fresh p scenes)).state ≡ rest →
    play_list p scenes (before ++ later) end ≡ and_then (and_then (start p scenes) (plays before)) (λ s. rest)
unfolding play_list
run_in_two p scenes before later end rest e =
    and_then_from (start p scenes) (plays_to end (before ++ later)) (λ s. and_then (plays before s) (plays_to end later)) (plays_to_append end before later (fresh p scenes))
    ∙ sym (and_then_assoc (start p scenes) (plays before) (plays_to end later))
    ∙ and_then_from (and_then (start p scenes) (plays before)) (plays_to end later) (λ s. rest) e

-- so it is of every list from its start
pub only_the_newest_count : (p : Params) (scenes : List Scene) → OnlyTheNewestCount p scenes
only_the_newest_count p scenes before one other d =
    let s : State = (plays before (fresh p scenes)).state in
    let same = newest_from s (plays_steady before (fresh p scenes) (unfold fresh in loose_stands (fresh p scenes) record { free = refl; powered = refl })) one other d in
    let there : (list : List Cue) → (plays (before ++ list) (fresh p scenes)).state ≡ (plays list s).state = λ list. ap (λ (x : Played). x.state) (plays_append before list (fresh p scenes)) in (
      same,
      λ later end. record {
        rest = plays_to end later (plays other s).state;
        first = run_in_two p scenes (before ++ one) later end _ (ap (plays_to end later) (there one) ∙ same.runs later end);
        second = run_in_two p scenes (before ++ other) later end _ (ap (plays_to end later) (there other));
      },
    )

-- and of every two accepted files
pub only_the_newest_count_in_every_two_accepted_files : (file₁ file₂ : List ℕ) → OnlyTheNewestCountInFiles file₁ file₂
unfolding play_file
only_the_newest_count_in_every_two_accepted_files file₁ file₂ before one other later read₁ read₂ params scenes ends d =
    rw (← params, ← scenes, ← ends) ((only_the_newest_count (params_in file₁) (scenes_in file₁) before one other d).1 later (end_time file₁))

-- and of every sound state that is handed in: "lock or force leaves only Dark or Lit"
pub only_the_newest_count_from_a_sound_state : (s : State) → sound s ≡ true → (one other : List Cue) → DifferInNotes s one other → SameFromThenOn (plays one s).state (plays other s).state
only_the_newest_count_from_a_sound_state s safe one other d = newest_from s sound_is_steady one other d
  where
    sound_is_steady : HeldIsSteady s
    sound_is_steady holds = ((sound_exactly_when s).0 safe).steady ((held_exactly_when s.lock s.force).0 (unfold held in holds))
