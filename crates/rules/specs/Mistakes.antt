-- "take this as a list of what the other two got wrong": the customer's three mistakes, ties, delays and rank, each as what holds
-- instead, of any list of cues that is played to an end time. It is proved of every list that rises in proofs/Mistakes/, and of every
-- accepted cue file in the crate demands (ThreeMistakes).
use Rattle.std.specs.Prelude.{ℕ, ◌+◌, ◌≤◌, Bool, true, false, ◌||◌, ◌≡◌, List, [], ◌∷◌, ◌++◌, Option, Some, None}
use Rattle.rules.specs.declared.parameters.Params.{Params}
use Rattle.rules.specs.declared.parameters.Scene.{Scene}
use Rattle.rules.specs.declared.phase.Phase.TheVariants.{Starting}
use Rattle.rules.specs.declared.input.Event.{Event}
use Rattle.rules.specs.declared.input.Event.TheVariants.{Failure, Return}
use Rattle.rules.specs.declared.input.Input.{Input}
use Rattle.rules.specs.declared.input.Input.TheVariants.{SwitchOnOff, TimedStartStop, NumberedSceneControl, SwitchOnOffForced, LockDevice, NightMode, Bus, Power}
use Rattle.rules.specs.declared.state.State.{State}
use Rattle.rules.specs.Scenes.{recalled}
use Rattle.rules.specs.Phases.{output}
use Rattle.rules.specs.Orders.{standing}
use Rattle.rules.specs.Steps.{fresh, clock_move, step}
use Rattle.rules.specs.Lists.{Cue, cue, Played, and_then, moved, plays, plays_to, start, play_list, acts}
use Rattle.rules.specs.Promises.{Turn, turns, Each, state_at, Taken, Dropped, lights, ShowsLight, turn_after}

-- ---- ties

-- these inputs, all at the one stamp
abbrev pub ties : ℕ → List Input → List Cue
ties t [] = []
ties t (i ∷ is) = cue t i ∷ ties t is

-- the clock moves to t, by every timer due up to then and at t itself, each at its own moment (`clock_moves`, proofs/Laws/Timers.antt);
-- then the inputs act one after the other while the clock stands
abbrev pub at_one_stamp : ℕ → List Input → State → Played
at_one_stamp t is s = and_then (moved (clock_move s t)) (acts is)

-- "Two cues at one stamp are not a set. They run in list order, and a timer due at that stamp runs before both."
abbrev pub TiesKeepListOrder : Params → List Scene → List Cue → ℕ → Type 0
TiesKeepListOrder p scenes list end =
    (before : List Cue) (t : ℕ) (i : Input) (is : List Input) (later : List Cue) → before ++ (ties t (i ∷ is) ++ later) ≡ list →
    (plays (before ++ ties t (i ∷ is)) (fresh p scenes) ≡ and_then (plays before (fresh p scenes)) (at_one_stamp t (i ∷ is)))
    × (play_list p scenes list end ≡ and_then (and_then (and_then (start p scenes) (plays before)) (at_one_stamp t (i ∷ is))) (plays_to end later))

-- ---- a cue that may be struck

-- an input leaves what the clock move alone leaves
abbrev pub LeavesNoTrace : State → Input → ℕ → Type 0
LeavesNoTrace s i t = ((step s i t).state ≡ (clock_move s t).state) × ((step s i t).records ≡ (clock_move s t).records)

-- the same, but for one answer between the early and the late ones
pub record SameBut (early : List ℕ) (own : ℕ) (late : List ℕ) (full without : Played) : Type 0 where
  pub state : full.state ≡ without.state
  pub records : full.records ≡ without.records
  pub answers : full.answers ≡ early ++ (own ∷ late)
  pub other_answers : without.answers ≡ early ++ late

-- the list is `before`, then this cue, then `later`: without the cue the run has the same records, the same end state and the same
-- other answers, and the state is the same at every moment
pub record MayBeStruck (p : Params) (scenes : List Scene) (before : List Cue) (t : ℕ) (i : Input) (later : List Cue) (end : ℕ) : Type 0 where
  pub run : let reached : State = (plays before (fresh p scenes)).state in
      SameBut (plays before (fresh p scenes)).answers (step reached i t).answer (plays_to end later reached).answers
      (play_list p scenes (before ++ (cue t i ∷ later)) end) (play_list p scenes (before ++ later) end)
  pub moments : (v : ℕ) → state_at v (before ++ (cue t i ∷ later)) (fresh p scenes) ≡ state_at v (before ++ later) (fresh p scenes)

-- ---- delays

-- the output that an On, Off, scene-on or scene-off asks for, by the scene table that the input meets; no other input asks so
abbrev pub asks_for : State → Input → Option Bool
asks_for s (SwitchOnOff value) = Some value
asks_for s (TimedStartStop value) = None
asks_for s (NumberedSceneControl true number) = None
asks_for s (NumberedSceneControl false number) = recalled s.scenes number
asks_for s (SwitchOnOffForced force) = None
asks_for s (LockDevice value) = None
asks_for s (NightMode value) = None
asks_for s (Bus event) = None
asks_for s (Power event) = None

-- ---- Off

abbrev pub fails : Event → Bool
fails Failure = true
fails Return = false

-- a force Off or On, a lock, a bus or power failure. (A release, an unlock, a return of bus or power change nothing where an Off
-- was taken and none of those followed: no force stands, no lock, and the link is up.)
abbrev pub overrides : Input → Bool
overrides (SwitchOnOff value) = false
overrides (TimedStartStop value) = false
overrides (NumberedSceneControl learns number) = false
overrides (SwitchOnOffForced force) = standing force
overrides (LockDevice value) = value
overrides (NightMode value) = false
overrides (Bus event) = fails event
overrides (Power event) = fails event

-- an input that lights, forces, locks, or changes bus or power. Night orders, lessons, Offs, scene-offs and timed stops do not.
abbrev pub stirs : State → Input → Bool
stirs s i = overrides i || lights s i

-- "Newcomers let a repeated Off start the off delay again. A nervous operator then keeps the house lit by asking for dark."
-- An Off or scene-off that is taken at t: from t plus the off delay on, as long as nothing stirs, the house is dark, however
-- often it is asked for again.
abbrev pub OffIsHeard : Params → List Scene → List Cue → Type 0
OffIsHeard p scenes list =
    (before : List Cue) (t : ℕ) (i : Input) (later : List Cue) → before ++ (cue t i ∷ later) ≡ list →
    let first : Turn = turn_after p scenes before t i in
    Taken first → asks_for first.met i ≡ Some false →
    (u : ℕ) → t + p.offdelay ≤ u → Each (λ x. x.stamp ≤ u → stirs x.met x.input ≡ false) (turns later first.left) →
    output (state_at u list (fresh p scenes)).phase ≡ false

-- And every later Off or scene-off, taken or not, may be struck, as long as nothing between the two stirs, and whatever follows.
abbrev pub AskingAgainIsIdle : Params → List Scene → List Cue → ℕ → Type 0
AskingAgainIsIdle p scenes list end =
    (before : List Cue) (t : ℕ) (i : Input) (between : List Cue) (u : ℕ) (j : Input) (later : List Cue) →
    let first : Turn = turn_after p scenes before t i in
    let asked : List Cue = before ++ (cue t i ∷ between) in
    asked ++ (cue u j ∷ later) ≡ list →
    Taken first → asks_for first.met i ≡ Some false → Each (λ x. stirs x.met x.input ≡ false) (turns between first.left) →
    asks_for (turn_after p scenes asked u j).met j ≡ Some false →
    MayBeStruck p scenes asked u j later end

-- ---- On

-- 01, "Slips we have seen": "A repeated On or Off that starts its delay again."
-- An On or scene-on that meets a wait for steady light may be struck.
abbrev pub OnIsIdleWhileItWaits : Params → List Scene → List Cue → ℕ → Type 0
OnIsIdleWhileItWaits p scenes list end =
    (before : List Cue) (t : ℕ) (i : Input) (later : List Cue) (d : ℕ) → before ++ (cue t i ∷ later) ≡ list →
    let x : Turn = turn_after p scenes before t i in
    x.met.phase ≡ Starting false d → asks_for x.met i ≡ Some true → MayBeStruck p scenes before t i later end

-- And no On, timed start or scene-on makes the light later, whatever it meets and whatever follows: where one is taken at t, and the
-- output is on at u without it, there with it the house shows light at some moment from t to u. (Only for a timed start, no timed stop
-- may be taken up to u. It ends a timed wait alone, and without the start the wait may be a steady one.)
abbrev pub OnIsNeverLater : Params → List Scene → List Cue → ℕ → Type 0
OnIsNeverLater p scenes list end =
    (before : List Cue) (t : ℕ) (i : Input) (later : List Cue) → before ++ (cue t i ∷ later) ≡ list →
    let x : Turn = turn_after p scenes before t i in
    Taken x → lights x.met i ≡ true → (u : ℕ) → t ≤ u → u ≤ end →
    (i ≡ TimedStartStop true → Each (λ y. y.stamp ≤ u → Taken y → y.input ≡ TimedStartStop false → ⊥) (turns later x.left)) →
    output (state_at u (before ++ later) (fresh p scenes)).phase ≡ true → ShowsLight t u end later x.left

-- ---- rank

-- "They hold a cue back while the lock is set and play it afterwards. An outranked cue is dropped."
-- A cue that a barrier stops (answers 2 to 5) may be struck. What is only noted is told apart: Notes.antt.
abbrev pub OutrankedIsDropped : Params → List Scene → List Cue → ℕ → Type 0
OutrankedIsDropped p scenes list end =
    (before : List Cue) (t : ℕ) (i : Input) (later : List Cue) → before ++ (cue t i ∷ later) ≡ list →
    Dropped (turn_after p scenes before t i) → MayBeStruck p scenes before t i later end
