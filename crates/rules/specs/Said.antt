-- Orders said a second time, from another side: what each leaves of every field, where an input is noted and what that changes, what each mode
-- sets, when the light of a phase ends by itself, and what On, timed orders, Off and nightfall make of a phase, where Orders.antt goes order by
-- order. That both sides say the same is proved (proofs/Laws/Orders.antt, Said.antt, Ends.antt), so that a slip in one of them does not pass.
use Rattle.std.specs.Prelude.{ℕ, ◌+◌, ◌≤◌, Bool, true, false, cond, ◌≡◌, ◌⊎◌, List, [], ◌∷◌, get_or, Some}
use Rattle.rules.specs.declared.parameters.Params.{Params}
use Rattle.rules.specs.declared.parameters.Scene.{Scene}
use Rattle.rules.specs.declared.phase.Phase.{Phase}
use Rattle.rules.specs.declared.phase.Phase.TheVariants.{Dark, Lit, Starting, Timed, Warning, Ending}
use Rattle.rules.specs.declared.input.Force.{Force}
use Rattle.rules.specs.declared.input.Force.TheVariants.{Free}
use Rattle.rules.specs.declared.input.Event.{Event}
use Rattle.rules.specs.declared.input.Event.TheVariants.{Failure, Return}
use Rattle.rules.specs.declared.input.Input.{Input}
use Rattle.rules.specs.declared.input.Input.TheVariants.{SwitchOnOff, TimedStartStop, NumberedSceneControl, SwitchOnOffForced, LockDevice, NightMode, Bus, Power}
use Rattle.rules.specs.declared.state.Link.{Link}
use Rattle.rules.specs.declared.state.Link.TheVariants.{Up, BusDown, PowerDown}
use Rattle.rules.specs.declared.state.State.{State}
use Rattle.rules.specs.Scenes.{learnt}
use Rattle.rules.specs.Phases.{output, own_end}
use Rattle.rules.specs.Orders.{on, timed_start, off, timed_stop, night_falls, held, order}
use Rattle.rules.specs.Steps.{clock_move, Quiet}

-- ---- what an order leaves of each field but the phase (01, "What each order does, at t")

-- all that a state holds but parameters, scenes, clock and phase
pub record Flags : Type 0 where
  pub night : Bool
  pub lock : Bool
  pub force : Force
  pub link : Link
  pub atlocking : Bool
  pub atfailure : Bool

abbrev pub flags : Bool → Bool → Force → Link → Bool → Bool → Flags
flags night lock force link atlocking atfailure =
    record { night = night; lock = lock; force = force; link = link; atlocking = atlocking; atfailure = atfailure }

abbrev pub flags_of : State → Flags
flags_of s = flags s.night s.lock s.force s.link s.atlocking s.atfailure

-- "Bus failure from up, return from bus down: the link changes", and then alone
abbrev pub link_after_bus : Link → Event → Link
link_after_bus Up Failure = BusDown
link_after_bus Up Return = Up
link_after_bus BusDown Failure = BusDown
link_after_bus BusDown Return = Up
link_after_bus PowerDown event = PowerDown

-- "Power failure, link up or bus down: the output is remembered, .. night, lock and force clear, link power down. Power return from
-- power down: link up .. Else nothing."
abbrev pub flags_after_power : State → Link → Event → Flags
flags_after_power s Up Failure = flags false false Free PowerDown s.atlocking (output s.phase)
flags_after_power s BusDown Failure = flags false false Free PowerDown s.atlocking (output s.phase)
flags_after_power s PowerDown Failure = flags_of s
flags_after_power s Up Return = flags_of s
flags_after_power s BusDown Return = flags_of s
flags_after_power s PowerDown Return = flags s.night s.lock s.force Up s.atlocking s.atfailure

-- On, Off, timed orders and scenes change the phase and the scenes alone; "Force Off or On: force stands", and its release ends it;
-- "Lock, when unlocked: the output is remembered"; "Night 1, when off: night on; .. Night 0 clears the flag only."
abbrev pub flags_after : State → Input → Flags
flags_after s (SwitchOnOff value) = flags_of s
flags_after s (TimedStartStop value) = flags_of s
flags_after s (NumberedSceneControl learns number) = flags_of s
flags_after s (SwitchOnOffForced force) = flags s.night s.lock force s.link s.atlocking s.atfailure
flags_after s (LockDevice true) = flags s.night true s.force s.link (cond s.lock s.atlocking (output s.phase)) s.atfailure
flags_after s (LockDevice false) = flags s.night false s.force s.link s.atlocking s.atfailure
flags_after s (NightMode value) = flags value s.lock s.force s.link s.atlocking s.atfailure
flags_after s (Bus event) = flags s.night s.lock s.force (link_after_bus s.link event) s.atlocking s.atfailure
flags_after s (Power event) = flags_after_power s s.link event

-- "Learn, if enabled and the number is in the table": nothing else changes the scenes ("Scenes outlive it.")
abbrev pub scenes_after : State → Input → List Scene
scenes_after s (SwitchOnOff value) = s.scenes
scenes_after s (TimedStartStop value) = s.scenes
scenes_after s (NumberedSceneControl true number) = cond s.params.learning (learnt s.scenes number (output s.phase)) s.scenes
scenes_after s (NumberedSceneControl false number) = s.scenes
scenes_after s (SwitchOnOffForced force) = s.scenes
scenes_after s (LockDevice value) = s.scenes
scenes_after s (NightMode value) = s.scenes
scenes_after s (Bus event) = s.scenes
scenes_after s (Power event) = s.scenes

-- a state with these parameters, this clock, these scenes and flags
pub record MadeOf (p : Params) (t : ℕ) (k : List Scene) (f : Flags) (u : State) : Type 0 where
  pub params : u.params ≡ p
  pub clock : u.clock ≡ t
  pub scenes : u.scenes ≡ k
  pub flags : flags_of u ≡ f

-- no order changes the parameters or the clock
abbrev pub Leaves : State → Input → State → Type 0
Leaves s i u = MadeOf s.params s.clock (scenes_after s i) (flags_after s i) u

-- ---- what is noted (02, [4])

-- "a force value under lock": 0 and 1 too. "Bus and power down still drop."
pub record UnderLock (s : State) : Type 0 where
  pub linked : s.link ≡ Up
  pub locked : s.lock ≡ true

-- "a night value under lock or force"
pub record UnderHold (s : State) : Type 0 where
  pub linked : s.link ≡ Up
  pub held : held s ≡ true

-- an input is noted exactly here (proofs/Laws/Barriers.antt, `noted_exactly_where`)
abbrev pub NotedWhere : State → Input → Type 0
NotedWhere s (SwitchOnOff value) = ⊥
NotedWhere s (TimedStartStop value) = ⊥
NotedWhere s (NumberedSceneControl learns number) = ⊥
NotedWhere s (SwitchOnOffForced force) = UnderLock s
NotedWhere s (LockDevice value) = ⊥
NotedWhere s (NightMode value) = UnderHold s
NotedWhere s (Bus event) = ⊥
NotedWhere s (Power event) = ⊥

-- "is noted: the flag or force changes, the phase does not": every field but the phase is what its order leaves
pub record OnlyItsValue (s : State) (i : Input) (u : State) : Type 0 where
  pub leaves : Leaves s i u
  pub phase : u.phase ≡ s.phase

-- ---- what the modes set: what stands in a mode's place of its row, from 0 on; no other mode is in range (01, "Time and the cue file": "0 keep, 1 off, 2 on", "3 as before locking", "0 as before the failure, 1 off, 2 on")

-- "set on" or "set off" where neither lock nor force stands
abbrev pub set_to : State → Bool → Phase
set_to s on = cond on (cond s.night (Timed (s.clock + s.params.timedon)) Lit) Dark

-- lock or force stands
abbrev pub Held : Bool → Force → Type 0
Held lock force = (lock ≡ true) ⊎ (force ≡ Free → ⊥)

-- neither does
pub record NothingHolds (s : State) : Type 0 where
  pub unlocked : s.lock ≡ false
  pub unforced : s.force ≡ Free

-- the phase that each order with a mode leaves
pub record ModesSet (s : State) : Type 0 where
  -- "Lock, when unlocked: .. the phase becomes Dark or Lit by BehaviourAtLocking (keep: by the present output)"
  pub locking : s.lock ≡ false → (order s (LockDevice true)).phase ≡ cond (get_or (output s.phase ∷ false ∷ true ∷ []) s.params.locking false) Lit Dark
  -- "Unlock, when locked: a standing force decides the phase; otherwise BehaviourAtUnlocking, by set on or set off ("keep" sets the present
  -- output)"
  pub unlocking : s.lock ≡ true → s.force ≡ Free →
      (order s (LockDevice false)).phase ≡ set_to s (get_or (output s.phase ∷ false ∷ true ∷ s.atlocking ∷ []) s.params.unlocking false)
  -- "Bus failure from up, return from bus down: the link changes; then the mode, unless lock or force stands. Keep leaves phase and timers
  -- running."
  pub busfailure : s.link ≡ Up → NothingHolds s → (order s (Bus Failure)).phase ≡ get_or (s.phase ∷ Dark ∷ set_to s true ∷ []) s.params.busfailure Dark
  pub busreturn : s.link ≡ BusDown → NothingHolds s → (order s (Bus Return)).phase ≡ get_or (s.phase ∷ Dark ∷ set_to s true ∷ []) s.params.busreturn Dark
  pub busheld : (event : Event) → Held s.lock s.force → (order s (Bus event)).phase ≡ s.phase
  -- "Power return from power down: link up, set on or set off by mode."
  pub powerreturn : s.link ≡ PowerDown → NothingHolds s → (order s (Power Return)).phase ≡ set_to s (get_or (s.atfailure ∷ false ∷ true ∷ []) s.params.powerreturn false)

-- ---- what the other orders make of the phase

-- "Ending until the earlier of .. and .."
pub record EndsAtEarlier (a b : ℕ) (phase : Phase) : Type 0 where
  pub until : ℕ
  pub ending : phase ≡ Ending until
  pub not_after_a : until ≤ a
  pub not_after_b : until ≤ b
  pub one_of_them : (until ≡ a) ⊎ (until ≡ b)

-- when a lit phase goes dark by itself (02, [5]), as the timers run: it is lit until then and dark from then on, or lit for good
pub record EndsByItself (s : State) : Type 0 where
  pub until : (t : ℕ) → output s.phase ≡ true → Quiet t (own_end s.params s.phase) → output (clock_move s t).state.phase ≡ true
  pub after : (t d : ℕ) → own_end s.params s.phase ≡ Some d → d ≤ t → (clock_move s t).state.phase ≡ Dark

-- "Off: Dark stays; Starting becomes Dark. Lit: Ending until t+OffDelay. Timed with deadline d: Ending until the earlier of t+OffDelay and
-- d+Prewarning. Warning or Ending: Ending until the earlier of t+OffDelay and d. With OffDelay 0 the result is Dark."
pub record OffOrders (p : Params) (t : ℕ) : Type 0 where
  pub at_once : p.offdelay ≡ 0 → (phase : Phase) → off p t phase ≡ Dark
  pub dark : off p t Dark ≡ Dark
  pub starting : (timed : Bool) (d : ℕ) → off p t (Starting timed d) ≡ Dark
  pub lit : (p.offdelay ≡ 0 → ⊥) → off p t Lit ≡ Ending (t + p.offdelay)
  pub timed : (p.offdelay ≡ 0 → ⊥) → (d : ℕ) → EndsAtEarlier (t + p.offdelay) (d + p.prewarning) (off p t (Timed d))
  pub warning : (p.offdelay ≡ 0 → ⊥) → (d : ℕ) → EndsAtEarlier (t + p.offdelay) d (off p t (Warning d))
  pub ending : (p.offdelay ≡ 0 → ⊥) → (d : ℕ) → EndsAtEarlier (t + p.offdelay) d (off p t (Ending d))

-- "Timed, Warning and timed Starting"
abbrev pub runs_timed : Phase → Bool
runs_timed Dark = false
runs_timed Lit = false
runs_timed (Starting timed d) = timed
runs_timed (Timed d) = true
runs_timed (Warning d) = true
runs_timed (Ending d) = false

-- "On: Dark becomes lit at once when OnDelay is 0 (Timed if night, else Lit), otherwise Starting, steady, until t+OnDelay. Starting keeps its
-- deadline and becomes steady. Lit stays. Timed, Warning, Ending: set on."
pub record OnOrders (p : Params) (night held : Bool) (t : ℕ) : Type 0 where
  pub at_once_by_night : p.ondelay ≡ 0 → night ≡ true → on p night held t Dark ≡ Timed (t + p.timedon)
  pub at_once_by_day : p.ondelay ≡ 0 → night ≡ false → on p night held t Dark ≡ Lit
  pub after_delay : (p.ondelay ≡ 0 → ⊥) → on p night held t Dark ≡ Starting false (t + p.ondelay)
  pub waiting : (timed : Bool) (d : ℕ) → on p night held t (Starting timed d) ≡ Starting false d
  pub lit : on p night held t Lit ≡ Lit
  pub ends_in_night : (phase : Phase) (d : ℕ) → own_end p phase ≡ Some d → night ≡ true → held ≡ false → on p night held t phase ≡ Timed (t + p.timedon)
  pub stays_by_day : (phase : Phase) (d : ℕ) → own_end p phase ≡ Some d → night ≡ false → on p night held t phase ≡ Lit
  pub stays_held : (phase : Phase) (d : ℕ) → own_end p phase ≡ Some d → held ≡ true → on p night held t phase ≡ Lit

-- "Timed start: the same from Dark and Starting but timed; every lit phase becomes Timed until t+TimedOn."; "Timed stop: as Off in Timed,
-- Warning and timed Starting; otherwise nothing."
pub record TimedOrders (p : Params) (t : ℕ) : Type 0 where
  pub at_once : p.ondelay ≡ 0 → timed_start p t Dark ≡ Timed (t + p.timedon)
  pub after_delay : (p.ondelay ≡ 0 → ⊥) → timed_start p t Dark ≡ Starting true (t + p.ondelay)
  pub waiting : (timed : Bool) (d : ℕ) → timed_start p t (Starting timed d) ≡ Starting true d
  pub lit : (phase : Phase) → output phase ≡ true → timed_start p t phase ≡ Timed (t + p.timedon)
  pub stop : (phase : Phase) → runs_timed phase ≡ true → timed_stop p t phase ≡ off p t phase
  pub no_stop : (phase : Phase) → runs_timed phase ≡ false → timed_stop p t phase ≡ phase

-- "Lit becomes Timed until t+TimedOn; Ending until the earlier of d and t+TimedOn+Prewarning", and nothing else changes
pub record NightFalls (p : Params) (t : ℕ) : Type 0 where
  pub lit : night_falls p t Lit ≡ Timed (t + p.timedon)
  pub ending : (d : ℕ) → EndsAtEarlier d (t + p.timedon + p.prewarning) (night_falls p t (Ending d))
  pub dark : night_falls p t Dark ≡ Dark
  pub starting : (timed : Bool) (d : ℕ) → night_falls p t (Starting timed d) ≡ Starting timed d
  pub timed : (d : ℕ) → night_falls p t (Timed d) ≡ Timed d
  pub warning : (d : ℕ) → night_falls p t (Warning d) ≡ Warning d
