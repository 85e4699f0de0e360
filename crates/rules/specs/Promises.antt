-- Demand 3: "Nobody waits for ever, for any accepted list." The two promises, Dark and Light, in the customer's words, and what a
-- reader of the records sees of them. They are proved in proofs/Promises/, and for every accepted cue file and as the records show
-- them in the crate demands (EveryFile, Shown). 02, [2]: "Timers and demand 3 are proved once, in tenths, over both": times are tenths here, whatever
-- the version.
use Rattle.std.specs.Prelude.{ℕ, ◌+◌, ◌-◌, ◌≤◌, ◌<◌, Bool, true, false, cond, not, ◌≡◌, ◌⊎◌, List, [], ◌∷◌, ◌++◌, eqb, leb, Option, Some, None}
use Rattle.rules.specs.declared.parameters.Params.{Params}
use Rattle.rules.specs.declared.parameters.Scene.{Scene}
use Rattle.rules.specs.declared.input.Force.TheVariants.{Free}
use Rattle.rules.specs.declared.input.Event.{Event}
use Rattle.rules.specs.declared.input.Event.TheVariants.{Failure, Return}
use Rattle.rules.specs.declared.input.Input.{Input}
use Rattle.rules.specs.declared.input.Input.TheVariants.{SwitchOnOff, TimedStartStop, NumberedSceneControl, SwitchOnOffForced, LockDevice, NightMode, Bus, Power}
use Rattle.rules.specs.declared.state.Link.{Link}
use Rattle.rules.specs.declared.state.Link.TheVariants.{Up, BusDown, PowerDown}
use Rattle.rules.specs.declared.state.State.{State}
use Rattle.rules.specs.declared.barrier.Why.{Why}
use Rattle.rules.specs.declared.barrier.Barrier.TheVariants.{Open, Notes, Stopped}
use Rattle.rules.specs.declared.record.Record.{Record}
use Rattle.rules.specs.Inputs.{kind}
use Rattle.rules.specs.Phases.{output}
use Rattle.rules.specs.Steps.{fresh, clock_move, step}
use Rattle.rules.specs.Lists.{Cue, cue, Played, plays, plays_to}
use Rattle.rules.specs.Barriers.{power_down, barrier}
use Rattle.rules.specs.Scenes.{recalled}
use Rattle.rules.specs.Status.{record_of, by_itself, written}

-- ---- a list, and the moments of its run

-- 01: "Stamps never fall, and none passes the end time." (from `last` on)
abbrev pub Rises : ℕ → List Cue → ℕ → Type 0
Rises last [] end = last ≤ end
Rises last (cue t i ∷ later) end = (last ≤ t) × Rises t later end

-- an input of a run: its stamp, the state it meets (the clock moved to the stamp, every timer due run), the state it leaves
pub record Turn : Type 0 where
  pub stamp : ℕ
  pub input : Input
  pub met : State
  pub left : State

abbrev pub turn : State → ℕ → Input → Turn
turn s t i = record { stamp = t; input = i; met = (clock_move s t).state; left = (step s i t).state }

unfoldable pub turns : List Cue → State → List Turn
turns [] s = []
turns (cue t i ∷ later) s = turn s t i ∷ turns later (step s i t).state

-- so it is of each of them
abbrev pub Each : (Turn → Type 0) → List Turn → Type 0
Each P [] = Unit
Each P (x ∷ later) = P x × Each P later

-- the inputs stamped at most t, in a list whose stamps never fall
unfoldable pub up_to : ℕ → List Cue → List Cue
up_to t [] = []
up_to t (cue u i ∷ later) = cond (leb u t) (cue u i ∷ up_to t later) []

-- "at t": after all inputs stamped at most t and all timers due by then
unfoldable pub state_at : ℕ → List Cue → State → State
state_at t cues s = (clock_move (plays (up_to t cues) s).state t).state

-- ---- the inputs that the promises speak of

-- "A stopped input is dropped for good; every other is taken"; 02, [4]: "is noted"
abbrev pub Taken : Turn → Type 0
Taken x = barrier x.met x.input ≡ Open

abbrev pub Noted : Turn → Type 0
Noted x = barrier x.met x.input ≡ Notes

abbrev pub Dropped : Turn → Type 0
Dropped x = (why : Why) × (barrier x.met x.input ≡ Stopped why)

abbrev pub recalls_on : Option Bool → Bool
recalls_on None = false
recalls_on (Some value) = value

abbrev pub recalls_off : Option Bool → Bool
recalls_off None = false
recalls_off (Some value) = not value

-- "On, timed start or scene-on", by the scene table that the input meets
abbrev pub lights : State → Input → Bool
lights s (SwitchOnOff value) = value
lights s (TimedStartStop value) = value
lights s (NumberedSceneControl true number) = false
lights s (NumberedSceneControl false number) = recalls_on (recalled s.scenes number)
lights s (SwitchOnOffForced force) = false
lights s (LockDevice value) = false
lights s (NightMode value) = false
lights s (Bus event) = false
lights s (Power event) = false

-- "Off, timed stop, scene-off, force, lock, bus or power input", by the scene table that the input meets
abbrev pub dims : State → Input → Bool
dims s (SwitchOnOff value) = not value
dims s (TimedStartStop value) = not value
dims s (NumberedSceneControl true number) = false
dims s (NumberedSceneControl false number) = recalls_off (recalled s.scenes number)
dims s (SwitchOnOffForced force) = true
dims s (LockDevice value) = true
dims s (NightMode value) = false
dims s (Bus event) = true
dims s (Power event) = true

-- the mode of a bus event is On ("BusFailureMode .. BusReturnMode (0 keep, 1 off, 2 on)"). An event that does nothing has no mode:
-- "Bus failure from up, return from bus down: the link changes; then the mode, .. Other bus events do nothing."
abbrev pub mode_on : Params → Link → Event → Bool
mode_on p Up Failure = eqb p.busfailure 2
mode_on p Up Return = false
mode_on p BusDown Failure = false
mode_on p BusDown Return = eqb p.busreturn 2
mode_on p PowerDown event = false

-- a "bus event [that] has mode On", by the link that the input meets
abbrev pub bus_on : State → Input → Bool
bus_on s (SwitchOnOff value) = false
bus_on s (TimedStartStop value) = false
bus_on s (NumberedSceneControl learns number) = false
bus_on s (SwitchOnOffForced force) = false
bus_on s (LockDevice value) = false
bus_on s (NightMode value) = false
bus_on s (Bus event) = mode_on s.params s.link event
bus_on s (Power event) = false

-- ---- Dark

-- "let L be on delay plus timed-on duration plus prewarning"
abbrev pub longest_light : Params → ℕ
longest_light p = p.ondelay + p.timedon + p.prewarning

-- "night mode [is] on, lock and force [are] clear and power [is] up"; 02, [4]: "Demand 3 reads night and force as these values.", noted or not
pub record NightRules (s : State) : Type 0 where
  pub night : s.night ≡ true
  pub unlocked : s.lock ≡ false
  pub unforced : s.force ≡ Free
  pub powered : power_down s.link ≡ false

-- an input among those "after t-L and up to t": "no On, timed start or scene-on is taken and no bus event has mode On", and
-- what "stays" before it stays after it
pub record LeavesNight (x : Turn) : Type 0 where
  pub no_light : Taken x → lights x.met x.input ≡ false
  pub no_bus_on : bus_on x.met x.input ≡ false
  pub stays : NightRules x.left

-- "If t is at least L and the list reaches t, night mode stays on, lock and force stay clear and power stays up from after the
-- inputs stamped t-L through t, and after t-L and up to t no On, timed start or scene-on is taken and no bus event has mode On"
pub record DarkDue (p : Params) (scenes : List Scene) (cues : List Cue) (end t : ℕ) : Type 0 where
  pub late : longest_light p ≤ t
  pub reached : t ≤ end
  pub from : NightRules (state_at (t - longest_light p) cues (fresh p scenes))
  pub through : Each (λ x. t - longest_light p < x.stamp → x.stamp ≤ t → LeavesNight x) (turns cues (fresh p scenes))

-- "the output is off at t"
abbrev pub DarkPromise : Params → List Scene → List Cue → ℕ → Type 0
DarkPromise p scenes cues end = (t : ℕ) → DarkDue p scenes cues end t → output (state_at t cues (fresh p scenes)).phase ≡ false

-- ---- Light

-- what comes next, an input or the end, is not before t
abbrev pub NotBefore : ℕ → List Cue → ℕ → Type 0
NotBefore t [] end = t ≤ end
NotBefore t (cue u i ∷ later) end = t ≤ u

-- "shows the output on at some moment from a to [z]", where these cues are played from s: some have acted, the clock stands at
-- the moment, every timer due by then has run, and the next input has not acted
pub record ShowsLight (a z end : ℕ) (cues : List Cue) (s : State) : Type 0 where
  pub acted : List Cue
  pub next : List Cue
  pub split : acted ++ next ≡ cues
  pub moment : ℕ
  pub from : a ≤ moment
  pub until : moment ≤ z
  pub reached : (plays acted s).state.clock ≤ moment
  pub waiting : NotBefore moment next end
  pub lit : output (clock_move (plays acted s).state moment).state.phase ≡ true

-- the list is `before`, then this input at a, then `later`: the input, with the state it meets and the state it leaves
abbrev pub turn_after : Params → List Scene → List Cue → ℕ → Input → Turn
turn_after p scenes before a i = turn (plays before (fresh p scenes)).state a i

-- "an On, timed start or scene-on taken at a .. if the list reaches that far and no Off, timed stop, scene-off, force, lock, bus
-- or power input follows it with a stamp before that end". `Counts` says which of those that follow count at all.
pub record LightDue (Counts : Turn → Type 0) (p : Params) (scenes : List Scene) (before : List Cue) (a : ℕ) (i : Input) (later : List Cue) (end : ℕ) : Type 0 where
  pub taken : Taken (turn_after p scenes before a i)
  pub lights : lights (turn_after p scenes before a i).met i ≡ true
  pub reached : a + p.ondelay ≤ end
  pub undimmed : Each (λ x. x.stamp < a + p.ondelay → Counts x → dims x.met x.input ≡ false) (turns later (turn_after p scenes before a i).left)

-- "shows the output on at some moment from a to a plus on delay"
abbrev pub LightBy : (Turn → Type 0) → Params → List Scene → List Cue → ℕ → Type 0
LightBy Counts p scenes cues end =
    (before : List Cue) (a : ℕ) (i : Input) (later : List Cue) → before ++ (cue a i ∷ later) ≡ cues → LightDue Counts p scenes before a i later end →
    ShowsLight a (a + p.ondelay) end later (turn_after p scenes before a i).left

-- the promise to the letter: every input that follows counts, taken, noted or dropped
abbrev pub LightPromise : Params → List Scene → List Cue → ℕ → Type 0
LightPromise = LightBy (λ x. Unit)

-- and on less: only those that are taken count. (No list tells the two apart: where an order was taken that lights, only a taken
-- input that dims raises a barrier, so that none is dropped or noted before it.)
abbrev pub StrongLightPromise : Params → List Scene → List Cue → ℕ → Type 0
StrongLightPromise = LightBy Taken

-- ---- as the records show it

-- the value of the last record stamped at most t; `before` where there is none
unfoldable pub shown_at : ℕ → ℕ → List Record → ℕ
shown_at t before [] = before
shown_at t before (r ∷ later) = shown_at t (cond (leb r.stamp t) r.value before) later

-- Dark: the last record stamped at most t has value 0 (and there is one: before it, 255 stands for what has not been shown)
abbrev pub DarkShown : Params → List Scene → List Cue → ℕ → List Record → Type 0
DarkShown p scenes cues end records = (t : ℕ) → DarkDue p scenes cues end t → shown_at t 255 records ≡ 0

-- Light: some record from a to z has value 255
pub record LitRecord (a z : ℕ) (records : List Record) : Type 0 where
  pub earlier : List Record
  pub lit : Record
  pub later : List Record
  pub split : earlier ++ (lit ∷ later) ≡ records
  pub from : a ≤ lit.stamp
  pub until : lit.stamp ≤ z
  pub shines : lit.value ≡ 255

-- the records of a run before an input acts, and those that it writes itself and that follow
-- (demands, Shown.antt `records_split`: the run's records are the former and then the latter)
unfoldable pub records_before : Params → List Scene → List Cue → ℕ → List Record
records_before p scenes before a =
    let reached : Played = plays before (fresh p scenes) in
    record_of by_itself (fresh p scenes) ∷ (reached.records ++ (clock_move reached.state a).records)

unfoldable pub records_from : ℕ → Turn → List Cue → List Record
records_from end x later = written (kind x.input) x.met x.left ++ (plays_to end later x.left).records

-- Light: the value is 255 in some record from the moment the order is taken to a plus on delay, or was 255 when it was taken
-- (which is said of the state that the order meets; `ShowsLight` speaks of what it leaves)
abbrev pub LightShown : Params → List Scene → List Cue → ℕ → Type 0
LightShown p scenes cues end =
    (before : List Cue) (a : ℕ) (i : Input) (later : List Cue) → before ++ (cue a i ∷ later) ≡ cues → LightDue Taken p scenes before a i later end →
    (shown_at a 0 (records_before p scenes before a) ≡ 255) ⊎ LitRecord a (a + p.ondelay) (records_from end (turn_after p scenes before a i) later)

-- by the stamps alone: among the records of the whole run one from a to a plus on delay has value 255, or the last one stamped at
-- most a has it. Where there is no delay at all it may have been the last one before a that had it, for then inputs stamped a may
-- dim at once a lamp that was lit when the order was taken. This says less than Light, for stamps do not tell what came first at a:
-- after an Off at a that puts out a lamp that came on at a, or before a where there is no delay, an On at a that is lost would pass.
unfoldable pub shown_before : ℕ → ℕ → List Record → ℕ
shown_before a before [] = before
shown_before a before (r ∷ later) = shown_before a (cond (leb a r.stamp) before r.value) later

abbrev pub LightStamped : Params → List Scene → List Cue → ℕ → List Record → Type 0
LightStamped p scenes cues end records =
    (before : List Cue) (a : ℕ) (i : Input) (later : List Cue) → before ++ (cue a i ∷ later) ≡ cues → LightDue Taken p scenes before a i later end →
    LitRecord a (a + p.ondelay) records ⊎ (shown_at a 0 records ≡ 255) ⊎ ((p.ondelay ≡ 0) × (shown_before a 0 records ≡ 255))
