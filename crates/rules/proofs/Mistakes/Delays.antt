-- "Newcomers let a repeated Off start the off delay again. A nervous operator then keeps the house lit by asking for dark."
-- What an Off leaves is Dark, or Ending that is over within the off delay; only what stirs undoes that, and another Off finds nothing
-- to change in it.
use Rattle.std.specs.Prelude.{Some}
use Prim.Native.Nat.{ℕ, ◌+◌, ◌≤◌}
use mathlib.Core.Bool.{Bool, true, false}
use mathlib.Core.Path.{◌≡◌, refl, sym, ap, subst, ◌∙◌}
use mathlib.Core.Logic.{⊎_elim}
use lib.Dec.{T}
use mathlib.Core.List.{List, [], ◌∷◌, ◌++◌, append_assoc}
use native.Mathlib.Omega.{arith}
use borrow.Author.Tests.{ne_eqb}
use Rattle.rules.specs.declared.parameters.Params.{Params}
use Rattle.rules.specs.declared.parameters.Scene.{Scene}
use Rattle.rules.specs.declared.phase.Phase.{Phase}
use Rattle.rules.specs.declared.phase.Phase.TheVariants.{Dark, Lit, Starting, Timed, Warning, Ending}
use Rattle.rules.specs.declared.input.Force.TheVariants.{Free, Off, On}
use Rattle.rules.specs.declared.input.Event.TheVariants.{Failure, Return}
use Rattle.rules.specs.declared.input.Input.{Input}
use Rattle.rules.specs.declared.input.Input.TheVariants.{SwitchOnOff, TimedStartStop, NumberedSceneControl, SwitchOnOffForced, LockDevice, NightMode, Bus, Power}
use Rattle.rules.specs.declared.state.Link.TheVariants.{Up}
use Rattle.rules.specs.declared.state.State.{State}
use Rattle.rules.specs.declared.barrier.Barrier.TheVariants.{Open, Notes}
use Rattle.rules.specs.Scenes.{recalled}
use Rattle.rules.specs.Phases.{output, deadline, at_deadline, own_end}
use Rattle.rules.specs.Orders.{standing, earliest_end, off, with_phase, held, switch, timed, recall, scene, order}
use Rattle.rules.specs.Barriers.{power_down, bus_down, rows, row_of, barrier}
use Rattle.rules.specs.Said.{Flags, flags_after}
use Rattle.rules.specs.Steps.{fresh, at_moment, tick_at, tick, ticked, clock_move, step, Quiet}
use Rattle.rules.specs.Lists.{Cue, cue, Played, plays}
use Rattle.rules.specs.Promises.{Rises, turn, turns, Each, state_at, Taken, lights, bus_on}
use Rattle.rules.specs.Mistakes.{LeavesNoTrace, asks_for, overrides, stirs, OffIsHeard, AskingAgainIsIdle}
use Rattle.base.proofs.Tests.{no, neither_left}
use Rattle.rules.proofs.Laws.Steps.{tick_case, three_are_enough}
use Rattle.rules.proofs.Laws.Ends.{ComesBy, earliest_within, earliest_by, ends_by_itself, off_case}
use Rattle.rules.proofs.Laws.Making.{Brightens, lighting, bus_is_on, from_lock, from_force, from_power_down, Makes, keeps, darkens, steadies, times, begins, awaits, ends, night_times, night_ends_lem, order_makes}
use Rattle.rules.proofs.Laws.Orders.{none_stands_exactly_when, order_leaves}
use Rattle.rules.proofs.Laws.Barriers.{Unstopped, open_is_unstopped, neither_down, noted_where, noted_is_held}
use Rattle.rules.proofs.Laws.Soundness.{move_clock, move_params, step_case, taken_is_the_order, step_params}
use Rattle.rules.proofs.Laws.Lists.{plays_append, plays_keep_params}
use Rattle.rules.proofs.Laws.Moments.{at_case, at_the_end, rises_from, rises_to, at_after}
use Rattle.rules.proofs.Mistakes.Rank.{unchanged_leaves_no_trace, no_trace_may_be_struck}

-- ---- Off, of a phase

-- what an Off leaves, and what further inputs keep as long as nothing stirs: Dark, or Ending that is over by m
abbrev Fades : ℕ → Phase → Type 0
Fades m Dark = Unit
Fades m Lit = ⊥
Fades m (Starting timed d) = ⊥
Fades m (Timed d) = ⊥
Fades m (Warning d) = ⊥
Fades m (Ending d) = d ≤ m

-- 01, "Slips we have seen": "Off with a long delay that keeps a timed lamp lit beyond its own end."
pub off_is_never_later : (p : Params) (t m : ℕ) (phase : Phase) → ComesBy m (own_end p phase) → Fades m (off p t phase)
off_is_never_later p t m phase h = off_case (Fades m) p t phase tt (λ lit some. earliest_by _ m (own_end p phase) h)

-- an Off is heard within its delay
off_within_its_delay : (p : Params) (t : ℕ) (phase : Phase) → Fades (t + p.offdelay) (off p t phase)
off_within_its_delay p t phase = off_case (Fades (t + p.offdelay)) p t phase tt (λ lit some. earliest_within _ (own_end p phase))

-- a later Off finds nothing to change: its own moment is never the earlier one
repeated_off_changes_nothing : (p : Params) (m u : ℕ) (phase : Phase) → m ≤ u + p.offdelay → Fades m phase → Quiet u (deadline phase) → off p u phase ≡ phase
unfolding off earliest_end
repeated_off_changes_nothing p m u Dark later h quiet = refl
repeated_off_changes_nothing p m u (Ending d) later h quiet = rw (ne_eqb p.offdelay 0 (λ none. omega arith)) (ap Ending (omega arith))
repeated_off_changes_nothing p m u _ later h quiet = elim h [ ]

-- a timer keeps it so
timer_fades : (p : Params) (night : Bool) (m : ℕ) (phase : Phase) → Fades m phase → Fades m (at_deadline p night phase)
unfolding at_deadline
timer_fades p night m Dark h = tt
timer_fades p night m (Ending d) h = tt
timer_fades p night m _ h = elim h [ ]

-- and so does an order that neither brings light nor overrides: what fades has no light left to wait for, and ends by itself
fading_ends : (p : Params) (m : ℕ) (phase : Phase) → output phase ≡ true → Fades m phase → ComesBy m (own_end p phase)
fading_ends p m Dark lit h = no lit
fading_ends p m (Ending d) lit h = h
fading_ends p m _ lit h = elim h [ ]

made_fades : {p : Params} {t : ℕ} {night before now : Bool} {Bright Holds Dims : Type 0} {phase after : Phase} (m : ℕ) → (Bright → ⊥) → (Holds → ⊥) → Fades m phase →
    Makes p t night before now Bright Holds Dims phase after → Fades m after
made_fades m unlit free h (keeps e) = h
made_fades m unlit free h (darkens x) = tt
made_fades m unlit free h (steadies e b x) = ⊎_elim unlit free b
made_fades m unlit free h (times b x) = unlit b
made_fades m unlit free h (begins timed dark b some) = absurd (unlit b)
made_fades m unlit free h (awaits was timed d e) = rw e at h
made_fades {p} {phase = phase} m unlit free h (ends same lit some) = earliest_by _ m (own_end p phase) (fading_ends p m phase lit h)
made_fades m unlit free h (night_times e day) = rw e at h
made_fades m unlit free h (night_ends_lem d e day) = omega (arith, rw e at h)

-- ---- Off, of a state

-- an Off has been heard: the light is over by m, and nothing stands that could bring another phase
record Heard (m : ℕ) (s : State) : Type 0 where
  fades : Fades m s.phase
  unlocked : s.lock ≡ false
  unforced : s.force ≡ Free
  linked : s.link ≡ Up

tick_heard : (s : State) (t m : ℕ) → Heard m s → Heard m (tick s t)
tick_heard s t m h =
    tick_case (Heard m) s t
    (λ d e past. record { fades = timer_fades s.params s.night m s.phase h.fades; unlocked = h.unlocked; unforced = h.unforced; linked = h.linked })
    (λ quiet. h)

at_heard : (s : State) (t m : ℕ) → Heard m s → Heard m (at_moment s t s.phase)
at_heard s t m h = record { fades = h.fades; unlocked = h.unlocked; unforced = h.unforced; linked = h.linked }

move_heard : (s : State) (t m : ℕ) → Heard m s → Heard m (clock_move s t).state
unfolding clock_move ticked
move_heard s t m h = at_heard _ t m (tick_heard _ t m (tick_heard _ t m (tick_heard s t m h)))

fading_is_dark : (s : State) (m u : ℕ) (phase : Phase) → m ≤ u → Fades m phase → (clock_move (at_moment s s.clock phase) u).state.phase ≡ Dark
unfolding clock_move ticked tick tick_at
fading_is_dark s m u Dark later h = refl
fading_is_dark s m u (Ending d) later h = (ends_by_itself (at_moment s s.clock (Ending d))).after u d (refl) (omega arith)
fading_is_dark s m u _ later h = elim h [ ]

heard_is_dark : (s : State) (m u : ℕ) → m ≤ u → Heard m s → output (clock_move s u).state.phase ≡ false
heard_is_dark s m u later h = ap output (fading_is_dark s m u s.phase later h.fades)

-- every order that does not stir keeps it so
module _ (s : State) (m : ℕ) (h : Heard m s) where
  -- a bus that returns finds it up
  bus_is_up : (i : Input) → overrides i ≡ false → T (bus_on s i) → ⊥
  bus_is_up (Bus Failure) calm on = no (sym calm)
  bus_is_up (Bus Return) calm on = rw h.linked at on
  bus_is_up _ calm on = elim on [ ]

  unlit : (i : Input) → overrides i ≡ false → lights s i ≡ false → Brightens s i → ⊥
  unlit i calm dark (lighting e) = no (sym dark ∙ e)
  unlit i calm dark (bus_is_on e) = bus_is_up i calm (subst T (sym e) tt)
  unlit i calm dark (from_lock e) = no (sym h.unlocked ∙ e)
  unlit i calm dark (from_force e) = no (rw h.unforced at e)
  unlit i calm dark (from_power_down e) = no (rw h.linked at e)

  -- it leaves lock, force and link as they are
  calm_flags : (i : Input) → overrides i ≡ false → ((flags_after s i).lock ≡ false) × ((flags_after s i).force ≡ Free) × ((flags_after s i).link ≡ Up)
  calm_flags (SwitchOnOff value) calm = (h.unlocked, h.unforced, h.linked)
  calm_flags (TimedStartStop value) calm = (h.unlocked, h.unforced, h.linked)
  calm_flags (NumberedSceneControl learns number) calm = (h.unlocked, h.unforced, h.linked)
  calm_flags (SwitchOnOffForced Free) calm = (h.unlocked, refl, h.linked)
  calm_flags (SwitchOnOffForced Off) calm = no (sym calm)
  calm_flags (SwitchOnOffForced On) calm = no (sym calm)
  calm_flags (LockDevice true) calm = no (sym calm)
  calm_flags (LockDevice false) calm = (refl, h.unforced, h.linked)
  calm_flags (NightMode value) calm = (h.unlocked, h.unforced, h.linked)
  calm_flags (Bus Failure) calm = no (sym calm)
  calm_flags (Bus Return) calm = (h.unlocked, h.unforced, rw h.linked refl)
  calm_flags (Power Failure) calm = no (sym calm)
  calm_flags (Power Return) calm = rw h.linked (h.unlocked, h.unforced, refl)

  order_heard : (i : Input) → stirs s i ≡ false → Heard m (order s i)
  order_heard i calm =
      let free = neither_left (overrides i) (lights s i) calm in
      let flags = calm_flags i free in
      let same = (order_leaves s i).flags in
      record {
        fades = made_fades m (unlit i free (rw free at calm)) (λ holds. no (sym free ∙ holds)) h.fades (order_makes s i);
        unlocked = ap (λ (f : Flags). f.lock) same ∙ flags.0;
        unforced = ap (λ (f : Flags). f.force) same ∙ flags.1;
        linked = ap (λ (f : Flags). f.link) same ∙ flags.2;
      }

-- with neither lock nor force, nothing is noted
heard_notes_nothing : (s : State) (m : ℕ) → Heard m s → (i : Input) → barrier s i ≡ Notes → ⊥
unfolding held
heard_notes_nothing s m h i way = no (rw (h.unlocked, h.unforced) at (noted_is_held s i way).0)

step_heard : (s : State) (i : Input) (t m : ℕ) → Heard m s → stirs (clock_move s t).state i ≡ false → Heard m (step s i t).state
step_heard s i t m h calm =
    let there = move_heard s t m h in
    step_case (Heard m) s i t (λ way. order_heard (clock_move s t).state m there i calm) (λ way. absurd (heard_notes_nothing (clock_move s t).state m there i way)) there

-- ---- an Off or scene-off

-- On or Off asks for an output, or a scene that is recalled
asking_case : (P : Input → Type 0) (s : State) (i : Input) (value : Bool) → asks_for s i ≡ Some value → P (SwitchOnOff value) →
    ((number : ℕ) → recalled s.scenes number ≡ Some value → P (NumberedSceneControl false number)) → P i
asking_case P s (SwitchOnOff on) value asks switched found = let same : on ≡ value = cc in rw same switched
asking_case P s (TimedStartStop start) value asks switched found = no cc
asking_case P s (NumberedSceneControl true number) value asks switched found = no cc
asking_case P s (NumberedSceneControl false number) value asks switched found = found number asks
asking_case P s (SwitchOnOffForced force) value asks switched found = no cc
asking_case P s (LockDevice lock) value asks switched found = no cc
asking_case P s (NightMode night) value asks switched found = no cc
asking_case P s (Bus event) value asks switched found = no cc
asking_case P s (Power event) value asks switched found = no cc

-- which switches, On or Off
pub asking_switches : (s : State) (i : Input) (value : Bool) → asks_for s i ≡ Some value → order s i ≡ switch s value
unfolding order scene recall
asking_switches s i value asks = asking_case (λ (i : Input). order s i ≡ switch s value) s i value asks refl (λ number found. rw found)

-- and sets no value, so that it is not noted
pub asking_is_not_noted : (s : State) (i : Input) (value : Bool) → asks_for s i ≡ Some value → barrier s i ≡ Notes → ⊥
asking_is_not_noted s i value asks = asking_case (λ (i : Input). barrier s i ≡ Notes → ⊥) s i value asks (noted_where s (SwitchOnOff value)) (λ number found. noted_where s (NumberedSceneControl false number))

-- where one is taken no lock and no force stands, and the link is up
nothing_stands : (s : State) → Unstopped (power_down s.link) (bus_down s.link) s.lock (standing s.force) → (s.lock ≡ false) × (s.force ≡ Free) × (s.link ≡ Up)
nothing_stands s c = (c.unlocked, (none_stands_exactly_when s.force).0 c.unforced, neither_down s.link c.powered c.connected)

taken_finds_nothing : (s : State) (i : Input) (value : Bool) → asks_for s i ≡ Some value → barrier s i ≡ Open → (s.lock ≡ false) × (s.force ≡ Free) × (s.link ≡ Up)
unfolding row_of rows
taken_finds_nothing s i value asks =
    asking_case (λ (i : Input). barrier s i ≡ Open → (s.lock ≡ false) × (s.force ≡ Free) × (s.link ≡ Up)) s i value asks
    (λ way. nothing_stands s (open_is_unstopped s (SwitchOnOff value) way)) (λ number found way. nothing_stands s (open_is_unstopped s (NumberedSceneControl false number) way))

-- it is heard
off_heard : (s : State) → (s.lock ≡ false) × (s.force ≡ Free) × (s.link ≡ Up) → Heard (s.clock + s.params.offdelay) (switch s false)
unfolding switch
off_heard s free = record { fades = off_within_its_delay s.params s.clock s.phase; unlocked = free.0; unforced = free.1; linked = free.2 }

taken_is_heard : (s : State) (i : Input) (t : ℕ) → Taken (turn s t i) → asks_for (clock_move s t).state i ≡ Some false → Heard (t + s.params.offdelay) (step s i t).state
taken_is_heard s i t way off =
    let met : State = (clock_move s t).state in
    rw (taken_is_the_order s i t way ∙ asking_switches met i false off) (rw (move_clock s t, move_params s t) at (off_heard met (taken_finds_nothing met i false off way)))

-- and a later one, taken or not, leaves what the clock move alone leaves
asking_again_leaves_no_trace : (s : State) (i : Input) (m u : ℕ) → Heard m s → m ≤ u + s.params.offdelay → asks_for (clock_move s u).state i ≡ Some false → LeavesNoTrace s i u
unfolding switch
asking_again_leaves_no_trace s i m u h later off =
    let met : State = (clock_move s u).state in
    let quiet : Quiet u (deadline met.phase) = unfold clock_move ticked in three_are_enough s u in
    let same = repeated_off_changes_nothing met.params m met.clock met.phase (rw (move_params s u, move_clock s u) later) (move_heard s u m h).fades (rw (move_clock s u) quiet) in
    unchanged_leaves_no_trace s i u (λ _. asking_switches met i false off ∙ ap (with_phase met) same) (λ way. absurd (asking_is_not_noted met i false off way))

-- ---- the inputs that follow

-- as long as nothing stirs
still_heard : (m : ℕ) (between : List Cue) (s : State) → Heard m s → Each (λ x. stirs x.met x.input ≡ false) (turns between s) → Heard m (plays between s).state
unfolding turns plays
still_heard m [] s h calm = h
still_heard m (cue t i ∷ later) s h calm = still_heard m later (step s i t).state (step_heard s i t m h calm.0) calm.1

dark_at : (m u : ℕ) → m ≤ u → (later : List Cue) (s : State) → Heard m s → Each (λ x. x.stamp ≤ u → stirs x.met x.input ≡ false) (turns later s) →
    output (state_at u later s).phase ≡ false
unfolding turns
dark_at m u past [] s h calm = rw (at_the_end u s) (heard_is_dark s m u past h)
dark_at m u past (cue t i ∷ later) s h calm =
    at_case (λ (x : State). output x.phase ≡ false) u t i later s
    (λ early. dark_at m u past later (step s i t).state (step_heard s i t m h (calm.0 early)) calm.1)
    (λ ahead. heard_is_dark s m u past h)

pub an_off_is_heard : (p : Params) (scenes : List Scene) (list : List Cue) (end : ℕ) → Rises 0 list end → OffIsHeard p scenes list
an_off_is_heard p scenes list end r before t i later e way off u past calm =
    let s : State = (plays before (fresh p scenes)).state in
    let same : s.params ≡ p = unfold fresh in plays_keep_params before (fresh p scenes) in
    rw (← e, at_after t i later end before 0 (rw e r) u (omega arith) later (fresh p scenes))
    (dark_at (t + s.params.offdelay) u (rw same past) later (step s i t).state (taken_is_heard s i t way off) calm)

pub asking_again_never_keeps_the_house_lit : (p : Params) (scenes : List Scene) (list : List Cue) (end : ℕ) → Rises 0 list end → AskingAgainIsIdle p scenes list end
unfolding plays
asking_again_never_keeps_the_house_lit p scenes list end r before t i between u j later e way off calm again =
    let s : State = (plays before (fresh p scenes)).state in
    let asked : State = (plays between (step s i t).state).state in
    let there : (plays (before ++ (cue t i ∷ between)) (fresh p scenes)).state ≡ asked = ap (λ (x : Played). x.state) (plays_append before (cue t i ∷ between) (fresh p scenes)) in
    let same : asked.params ≡ s.params = plays_keep_params between (step s i t).state ∙ step_params s i t in
    let rises : Rises 0 ((before ++ (cue t i ∷ between)) ++ (cue u j ∷ later)) end = rw e r in
    let after = rises_to u j later end between t (rises_from t i (between ++ (cue u j ∷ later)) end before 0 (rw append_assoc at rises)) in
    let heard = still_heard (t + s.params.offdelay) between (step s i t).state (taken_is_heard s i t way off) calm in
    no_trace_may_be_struck p scenes (before ++ (cue t i ∷ between)) u j later end rises
    (rw there (asking_again_leaves_no_trace asked j (t + s.params.offdelay) u heard (rw same (omega arith)) (rw there at again)))
