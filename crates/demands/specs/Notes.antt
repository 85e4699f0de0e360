-- What is noted (02, [4]: "Night and force are values, not events."): that it changes its own value alone, that only the newest values
-- count, and the customer's example. The third mistake is not made again: what is dropped leaves no trace (rules, Mistakes.antt), and of
-- what is noted nothing is played later but the value that stands then. (Proved of every list: proofs/Noting.antt, Newest.antt.)
use Rattle.std.specs.Prelude.{ℕ, ◌+◌, ◌*◌, ◌/◌, ◌%◌, ◌≤◌, Bool, true, false, cond, not, ◌&&◌, ◌≡◌, List, [], ◌∷◌, ◌++◌, eqb}
use Rattle.rules.specs.declared.parameters.Params.{Params}
use Rattle.rules.specs.declared.parameters.Scene.{Scene}
use Rattle.rules.specs.declared.input.Force.{Force}
use Rattle.rules.specs.declared.input.Force.TheVariants.{Free}
use Rattle.rules.specs.declared.input.Event.TheVariants.{Failure, Return}
use Rattle.rules.specs.declared.input.Input.{Input}
use Rattle.rules.specs.declared.input.Input.TheVariants.{SwitchOnOff, TimedStartStop, NumberedSceneControl, SwitchOnOffForced, LockDevice, NightMode, Bus, Power}
use Rattle.rules.specs.declared.barrier.Barrier.{Barrier}
use Rattle.rules.specs.declared.barrier.Barrier.TheVariants.{Open, Notes, Stopped}
use Rattle.rules.specs.declared.state.Link.TheVariants.{Up}
use Rattle.rules.specs.declared.state.State.{State}
use Rattle.rules.specs.Inputs.{kind}
use Rattle.rules.specs.Phases.{output}
use Rattle.rules.specs.Orders.{standing, held}
use Rattle.rules.specs.Barriers.{barrier}
use Rattle.rules.specs.Status.{value, attributes}
use Rattle.rules.specs.Steps.{fresh}
use Rattle.rules.specs.Lists.{Cue, cue, Played, and_then, plays, plays_to, start, play_list}
use Rattle.rules.specs.Readings.{cues}
use Rattle.rules.specs.Files.{end_time, read_file, params_in, scenes_in}
use Rattle.rules.specs.Runs.{play_file}
use Rattle.rules.specs.Said.{UnderHold, OnlyItsValue}
use Rattle.rules.specs.Promises.{Rises, Turn, turn, turns, Each, state_at, Noted, turn_after}

-- ---- "is noted: the flag or force changes, the phase does not"

-- the weight of the status bit that shows a value: "2 forced, 3 night"
abbrev pub bit_of : Input → ℕ
bit_of i = cond (eqb (kind i) 4) 4 8

-- all bits but the one of this weight
pub record OtherBitsStay (weight before after : ℕ) : Type 0 where
  pub lower : after % weight ≡ before % weight
  pub higher : after / (2 * weight) ≡ before / (2 * weight)

-- what a noted input changes: that one value, and the status bit that shows it
pub record ChangesItsValueAlone (x : Turn) : Type 0 where
  pub state : OnlyItsValue x.met x.input x.left
  pub light : value x.left ≡ value x.met
  pub bits : OtherBitsStay (bit_of x.input) (attributes x.met) (attributes x.left)

-- so it is of every noted input of a list
abbrev pub NotesChangeTheirValueAlone : Params → List Scene → List Cue → Type 0
NotesChangeTheirValueAlone p scenes list = Each (λ x. Noted x → ChangesItsValueAlone x) (turns list (fresh p scenes))

-- ---- "A group object keeps its last value even while something stronger stands"

abbrev pub is_noted : Barrier → Bool
is_noted Open = false
is_noted Notes = true
is_noted (Stopped why) = false

-- the cues that are not noted
unfoldable pub unnoted : List Turn → List Cue
unnoted [] = []
unnoted (x ∷ later) = cond (is_noted (barrier x.met x.input)) (unnoted later) (cue x.stamp x.input ∷ unnoted later)

-- the force that each unlocking meets: "a standing force decides the phase"
unfoldable pub forces_unlocked : List Turn → List Force
forces_unlocked [] = []
forces_unlocked (x ∷ later) = cond (x.met.lock && not x.left.lock) (x.met.force ∷ forces_unlocked later) (forces_unlocked later)

-- two lists, played from a state in which lock or force stands, that differ in noted inputs only, while one or the other stands, and agree
-- in the newest values wherever these count: in the force at each unlocking on the way, and in both at the end
pub record DifferInNotes (s : State) (one other : List Cue) : Type 0 where
  pub holds : held s ≡ true
  pub same : unnoted (turns one s) ≡ unnoted (turns other s)
  pub within : Each (λ x. held x.left ≡ true) (turns one s)
  pub unlocked : forces_unlocked (turns one s) ≡ forces_unlocked (turns other s)
  pub night : (plays one s).state.night ≡ (plays other s).state.night
  pub force : (plays one s).state.force ≡ (plays other s).state.force

-- whatever comes next, the release or the unlock first of all, and whatever follows: the states, the answers and the records are the same
pub record SameFromThenOn (a b : State) : Type 0 where
  pub runs : (later : List Cue) (end : ℕ) → plays_to end later a ≡ plays_to end later b
  pub moments : (later : List Cue) (v : ℕ) → state_at v later a ≡ state_at v later b

-- two whole runs: what each has come to by then, and then the same answers, records and end state
pub record GoOnAlike (one other early₁ early₂ : Played) : Type 0 where
  pub rest : Played
  pub first : one ≡ and_then early₁ (λ s. rest)
  pub second : other ≡ and_then early₂ (λ s. rest)

-- the start record, and then these cues
abbrev pub up_to_then : Params → List Scene → List Cue → Played
up_to_then p scenes list = and_then (start p scenes) (plays list)

-- of every list: it is `before`, then one of the two, and then `later`
abbrev pub OnlyTheNewestCount : Params → List Scene → Type 0
OnlyTheNewestCount p scenes =
    (before one other : List Cue) → let s : State = (plays before (fresh p scenes)).state in
    DifferInNotes s one other → SameFromThenOn (plays one s).state (plays other s).state
    × ((later : List Cue) (end : ℕ) →
    GoOnAlike (play_list p scenes ((before ++ one) ++ later) end) (play_list p scenes ((before ++ other) ++ later) end) (up_to_then p scenes (before ++ one)) (up_to_then p scenes (before ++ other)))

-- of every two accepted cue files with one set of parameters, one scene table and one end time: what was played of each is then the same
abbrev pub OnlyTheNewestCountInFiles : List ℕ → List ℕ → Type 0
OnlyTheNewestCountInFiles file₁ file₂ =
    (before one other later : List Cue) → read_file file₁ ≡ cues ((before ++ one) ++ later) → read_file file₂ ≡ cues ((before ++ other) ++ later) →
    params_in file₁ ≡ params_in file₂ → scenes_in file₁ ≡ scenes_in file₂ → end_time file₁ ≡ end_time file₂ →
    let p : Params = params_in file₁ in
    let scenes : List Scene = scenes_in file₁ in
    DifferInNotes (plays before (fresh p scenes)).state one other →
    GoOnAlike (play_file file₁ ((before ++ one) ++ later)) (play_file file₂ ((before ++ other) ++ later)) (up_to_then p scenes (before ++ one)) (up_to_then p scenes (before ++ other))

-- ---- "so a night order sent during a force must hold at its release"

-- "Night 0 clears the flag"; "Power failure ..: .. night .. clear"
abbrev pub ends_night : Input → Bool
ends_night (SwitchOnOff value) = false
ends_night (TimedStartStop value) = false
ends_night (NumberedSceneControl learns number) = false
ends_night (SwitchOnOffForced force) = false
ends_night (LockDevice value) = false
ends_night (NightMode value) = not value
ends_night (Bus event) = false
ends_night (Power Failure) = true
ends_night (Power Return) = false

-- the list: night is sent at t under lock or force, inputs follow that do not end it, and at u comes `ending`, which meets a state of this
-- sort; nothing follows. Then "the house is dark by TimedOn plus Prewarning after" u. (That the night is noted, and `ending` taken, is not asked
-- for: it is so.)
abbrev pub DarkAfterHold : Input → (State → Type 0) → Params → List Scene → Type 0
DarkAfterHold ending Meets p scenes =
    (before : List Cue) (t : ℕ) (between : List Cue) (u : ℕ) →
    let list : List Cue = before ++ (cue t (NightMode true) ∷ (between ++ (cue u ending ∷ []))) in
    let sent : Turn = turn_after p scenes before t (NightMode true) in
    let last : Turn = turn (plays between sent.left).state u ending in
    Rises 0 list u → UnderHold sent.met → Each (λ x. ends_night x.input ≡ false) (turns between sent.left) → Meets last.met →
    (v : ℕ) → u + p.timedon + p.prewarning ≤ v → output (state_at v list (fresh p scenes)).phase ≡ false

-- a force stands, and no lock over it: it is released
pub record Forced (s : State) : Type 0 where
  pub linked : s.link ≡ Up
  pub unlocked : s.lock ≡ false
  pub stands : standing s.force ≡ true

abbrev pub NightHoldsAtTheRelease : Params → List Scene → Type 0
NightHoldsAtTheRelease = DarkAfterHold (SwitchOnOffForced Free) Forced

-- a lock stands, and no force under it: the house is unlocked
pub record Locked (s : State) : Type 0 where
  pub linked : s.link ≡ Up
  pub stands : s.lock ≡ true
  pub unforced : s.force ≡ Free

abbrev pub NightHoldsAtTheUnlock : Params → List Scene → Type 0
NightHoldsAtTheUnlock = DarkAfterHold (LockDevice false) Locked
