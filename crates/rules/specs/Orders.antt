-- What each order does, at t (01, "What each order does, at t"). First what the orders make of a phase, then what they make of
-- the state. An order is asked only of a state whose clock has moved to t, and only where nothing stops it (Barriers.antt). Last, what a
-- value changes that is only noted.
use Rattle.std.specs.Prelude.{ℕ, ◌+◌, Bool, true, false, cond, not, ◌&&◌, ◌||◌, List, eqb, Option, Some, None}
use Rattle.rules.specs.declared.parameters.Params.{Params}
use Rattle.rules.specs.declared.parameters.Scene.{Scene}
use Rattle.rules.specs.declared.phase.Phase.{Phase}
use Rattle.rules.specs.declared.phase.Phase.TheVariants.{Dark, Lit, Starting, Timed, Warning, Ending}
use Rattle.rules.specs.declared.input.Force.{Force}
use Rattle.rules.specs.declared.input.Force.TheVariants.{Free, Off, On}
use Rattle.rules.specs.declared.input.Event.{Event}
use Rattle.rules.specs.declared.input.Event.TheVariants.{Failure, Return}
use Rattle.rules.specs.declared.input.Input.{Input}
use Rattle.rules.specs.declared.input.Input.TheVariants.{SwitchOnOff, TimedStartStop, NumberedSceneControl, SwitchOnOffForced, LockDevice, NightMode, Bus, Power}
use Rattle.rules.specs.declared.state.Link.{Link}
use Rattle.rules.specs.declared.state.Link.TheVariants.{Up, BusDown, PowerDown}
use Rattle.rules.specs.declared.state.State.{State}
use Rattle.base.specs.Time.{earlier}
use Rattle.rules.specs.Scenes.{recalled, learnt}
use Rattle.rules.specs.Phases.{output, own_end, lit_at, set_on, set_off}

-- ---- orders to the phase

-- "Dark becomes lit at once when OnDelay is 0 .., otherwise Starting .. until t+OnDelay": the light at once, timed or to stay
-- (`timed`), or the wait for it, timed or steady (`waitTimed`)
unfoldable pub from_dark : Params → Bool → Bool → ℕ → Phase
from_dark p timed waitTimed t = cond (eqb p.ondelay 0) (lit_at p timed t) (Starting waitTimed (t + p.ondelay))

-- "On: Dark becomes lit at once when OnDelay is 0 (Timed if night, else Lit), otherwise Starting, steady, until t+OnDelay.
-- Starting keeps its deadline and becomes steady. Lit stays. Timed, Warning, Ending: set on."
unfoldable pub on : Params → Bool → Bool → ℕ → Phase → Phase
on p night held t Dark = from_dark p night false t
on p night held t (Starting timed d) = Starting false d
on p night held t Lit = Lit
on p night held t (Timed d) = set_on p night held t
on p night held t (Warning d) = set_on p night held t
on p night held t (Ending d) = set_on p night held t

-- "Timed start: the same from Dark and Starting but timed; every lit phase becomes Timed until t+TimedOn."
unfoldable pub timed_start : Params → ℕ → Phase → Phase
timed_start p t Dark = from_dark p true true t
timed_start p t (Starting timed d) = Starting true d
timed_start p t Lit = Timed (t + p.timedon)
timed_start p t (Timed d) = Timed (t + p.timedon)
timed_start p t (Warning d) = Timed (t + p.timedon)
timed_start p t (Ending d) = Timed (t + p.timedon)

-- 02, [5]: "one choice of the earlier of two moments, read from one place": t+OffDelay, and the phase's own end where it has one
unfoldable pub earliest_end : ℕ → Option ℕ → ℕ
earliest_end delayed None = delayed
earliest_end delayed (Some own) = earlier delayed own

-- "Off: Dark stays; Starting becomes Dark." Every lit phase: Ending until the earliest end. "With OffDelay 0 the result is Dark."
-- (Phase by phase, in 01's words: Said.antt, `OffOrders`.)
unfoldable pub off : Params → ℕ → Phase → Phase
off p t phase = cond (output phase && not (eqb p.offdelay 0)) (Ending (earliest_end (t + p.offdelay) (own_end p phase))) Dark

-- "Timed stop: as Off in Timed, Warning and timed Starting; otherwise nothing."
unfoldable pub timed_stop : Params → ℕ → Phase → Phase
timed_stop p t Dark = Dark
timed_stop p t Lit = Lit
timed_stop p t (Starting timed d) = cond timed (off p t (Starting timed d)) (Starting timed d)
timed_stop p t (Timed d) = off p t (Timed d)
timed_stop p t (Warning d) = off p t (Warning d)
timed_stop p t (Ending d) = Ending d

-- "Night 1, when off: night on; Lit becomes Timed until t+TimedOn; Ending until the earlier of d and t+TimedOn+Prewarning."
unfoldable pub night_falls : Params → ℕ → Phase → Phase
night_falls p t Dark = Dark
night_falls p t Lit = Timed (t + p.timedon)
night_falls p t (Starting timed d) = Starting timed d
night_falls p t (Timed d) = Timed d
night_falls p t (Warning d) = Warning d
night_falls p t (Ending d) = Ending (earlier d (t + p.timedon + p.prewarning))

-- ---- a state with one thing changed

abbrev pub with_phase : State → Phase → State
with_phase s phase =
    record { params = s.params; scenes = s.scenes; clock = s.clock; night = s.night; lock = s.lock; force = s.force; link = s.link; atlocking = s.atlocking; atfailure = s.atfailure; phase = phase }

abbrev pub with_night : State → Bool → State
with_night s night =
    record { params = s.params; scenes = s.scenes; clock = s.clock; night = night; lock = s.lock; force = s.force; link = s.link; atlocking = s.atlocking; atfailure = s.atfailure; phase = s.phase }

abbrev pub with_force : State → Force → State
with_force s force =
    record { params = s.params; scenes = s.scenes; clock = s.clock; night = s.night; lock = s.lock; force = force; link = s.link; atlocking = s.atlocking; atfailure = s.atfailure; phase = s.phase }

abbrev pub with_link : State → Link → State
with_link s link =
    record { params = s.params; scenes = s.scenes; clock = s.clock; night = s.night; lock = s.lock; force = s.force; link = link; atlocking = s.atlocking; atfailure = s.atfailure; phase = s.phase }

-- locked or unlocked, with the output that is remembered at locking
abbrev pub with_lock : State → Bool → Bool → State
with_lock s lock remembered =
    record { params = s.params; scenes = s.scenes; clock = s.clock; night = s.night; lock = lock; force = s.force; link = s.link; atlocking = remembered; atfailure = s.atfailure; phase = s.phase }

abbrev pub with_scenes : State → List Scene → State
with_scenes s scenes =
    record { params = s.params; scenes = scenes; clock = s.clock; night = s.night; lock = s.lock; force = s.force; link = s.link; atlocking = s.atlocking; atfailure = s.atfailure; phase = s.phase }

-- ---- orders to the state, at its clock

-- force stands
abbrev pub standing : Force → Bool
standing Free = false
standing Off = true
standing On = true

-- lock or force stands
unfoldable pub held : State → Bool
held s = s.lock || standing s.force

-- "set on" or "set off", once the order's own flags are changed
unfoldable pub settle : State → Bool → State
settle s true = with_phase s (set_on s.params s.night (held s) s.clock)
settle s false = with_phase s set_off

-- Dark or Lit by an output
abbrev pub plain : Bool → Phase
plain true = Lit
plain false = Dark

-- "0 keep, 1 off, 2 on", where keep is the output given (no other mode is in range)
unfoldable pub by_mode : ℕ → Bool → Bool
by_mode mode kept = cond (eqb mode 1) false (cond (eqb mode 2) true kept)

-- On and Off
unfoldable pub switch : State → Bool → State
switch s true = with_phase s (on s.params s.night (held s) s.clock s.phase)
switch s false = with_phase s (off s.params s.clock s.phase)

-- Timed start and Timed stop
unfoldable pub timed : State → Bool → State
timed s true = with_phase s (timed_start s.params s.clock s.phase)
timed s false = with_phase s (timed_stop s.params s.clock s.phase)

-- "Scene recall: a used, taught entry acts as On or Off by its value; any other number does nothing."
unfoldable pub recall : State → Option Bool → State
recall s None = s
recall s (Some value) = switch s value

-- "Learn, if enabled and the number is in the table: the entry's value becomes the present output and it is taught."
unfoldable pub learn : State → ℕ → State
learn s number = cond s.params.learning (with_scenes s (learnt s.scenes number (output s.phase))) s

unfoldable pub scene : State → Bool → ℕ → State
scene s true number = learn s number
scene s false number = recall s (recalled s.scenes number)

-- "Night 1, when off: night on; .." "Night 0 clears the flag only."
unfoldable pub night_mode : State → Bool → State
night_mode s true = cond s.night s (with_phase (with_night s true) (night_falls s.params s.clock s.phase))
night_mode s false = with_night s false

-- "Force Off or On: force stands, phase Dark or Lit. Release of a standing force: set on if the output is on, else set off."
unfoldable pub forced : State → Force → State
forced s Off = with_phase (with_force s Off) Dark
forced s On = with_phase (with_force s On) Lit
forced s Free = cond (standing s.force) (settle (with_force s Free) (output s.phase)) s

-- "Lock, when unlocked: the output is remembered, the phase becomes Dark or Lit by BehaviourAtLocking (keep: by the present output)."
unfoldable pub locked : State → State
locked s = with_phase (with_lock s true (output s.phase)) (plain (by_mode s.params.locking (output s.phase)))

-- BehaviourAtUnlocking: "0 to 2 alike, 3 as before locking"; ("keep" sets the present output)
unfoldable pub unlocking_output : State → Bool
unlocking_output s = cond (eqb s.params.unlocking 3) s.atlocking (by_mode s.params.unlocking (output s.phase))

-- "Unlock, when locked: a standing force decides the phase; otherwise BehaviourAtUnlocking, by set on or set off"
unfoldable pub unlocked : State → Force → State
unlocked s Off = with_phase (with_lock s false s.atlocking) Dark
unlocked s On = with_phase (with_lock s false s.atlocking) Lit
unlocked s Free = settle (with_lock s false s.atlocking) (unlocking_output s)

unfoldable pub lock_device : State → Bool → State
lock_device s true = cond s.lock s (locked s)
lock_device s false = cond s.lock (unlocked s s.force) s

-- "then the mode, unless lock or force stands. Keep leaves phase and timers running." ("0 keep, 1 off, 2 on"; no other mode is in range)
unfoldable pub bus_mode : State → ℕ → State
bus_mode s mode = cond (held s || eqb mode 0) s (settle s (eqb mode 2))

-- "Bus failure from up, return from bus down: the link changes; then the mode, .. Other bus events do nothing."
unfoldable pub bus : State → Link → Event → State
bus s Up Failure = bus_mode (with_link s BusDown) s.params.busfailure
bus s Up Return = s
bus s BusDown Failure = s
bus s BusDown Return = bus_mode (with_link s Up) s.params.busreturn
bus s PowerDown event = s

-- "Power failure, link up or bus down: the output is remembered, the phase is Dark, night, lock and force clear, link power
-- down. .. Scenes outlive it."
unfoldable pub power_fails : State → State
power_fails s =
    record {
      params = s.params;
      scenes = s.scenes;
      clock = s.clock;
      night = false;
      lock = false;
      force = Free;
      link = PowerDown;
      atlocking = s.atlocking;
      atfailure = output s.phase;
      phase = Dark;
    }

-- "Power return from power down: link up, set on or set off by mode." ("0 as before the failure, 1 off, 2 on")
unfoldable pub power_returns : State → State
power_returns s = settle (with_link s Up) (by_mode s.params.powerreturn s.atfailure)

-- "Else nothing."
unfoldable pub power : State → Link → Event → State
power s Up Failure = power_fails s
power s Up Return = s
power s BusDown Failure = power_fails s
power s BusDown Return = s
power s PowerDown Failure = s
power s PowerDown Return = power_returns s

-- "What an order does depends on its kind and on the phase it meets."
unfoldable pub order : State → Input → State
order s (SwitchOnOff value) = switch s value
order s (TimedStartStop value) = timed s value
order s (NumberedSceneControl learns number) = scene s learns number
order s (SwitchOnOffForced force) = forced s force
order s (LockDevice value) = lock_device s value
order s (NightMode value) = night_mode s value
order s (Bus event) = bus s s.link event
order s (Power event) = power s s.link event

-- ---- a value that is noted (02, [4]: "A group object keeps its last value even while something stronger stands")

-- "the flag or force changes, the phase does not." No other input is noted (Barriers.antt).
unfoldable pub noted : State → Input → State
noted s (SwitchOnOff value) = s
noted s (TimedStartStop value) = s
noted s (NumberedSceneControl learns number) = s
noted s (SwitchOnOffForced force) = with_force s force
noted s (LockDevice value) = s
noted s (NightMode value) = with_night s value
noted s (Bus event) = s
noted s (Power event) = s
