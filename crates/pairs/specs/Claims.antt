-- What else is claimed of the pair: timers before presses, ties in list order, dropped telegrams that still toggle, silent edges that may be
-- struck. Proved in proofs/Ties.antt, Toggles.antt and Strike.antt.
use Rattle.std.specs.Prelude.{ℕ, Bool, not, List, [], ◌∷◌, ◌++◌, ◌≡◌, Option, Some, None}
use Rattle.rules.specs.declared.barrier.Why.{Why}
use Rattle.rules.specs.declared.barrier.Barrier.TheVariants.{Stopped}
use Rattle.rules.specs.declared.input.Input.TheVariants.{SwitchOnOff}
use Rattle.rules.specs.Barriers.{barrier}
use Rattle.rules.specs.Steps.{clock_move, act}
use Rattle.rules.specs.Lists.{still}
use Rattle.sensor.specs.declared.action.Action.TheVariants.{SendInverse}
use Rattle.sensor.specs.declared.signal.Signal.TheVariants as signal
use Rattle.sensor.specs.declared.state.Sensor.{Sensor}
use Rattle.sensor.specs.Reactions.{hear, action_of_edge1, action_of_edge2, react}
use Rattle.pairs.specs.declared.item.Item.{Item}
use Rattle.pairs.specs.declared.item.Item.TheVariants.{Plain, Button1, Button2}
use Rattle.pairs.specs.Pairs.{Pair, PairMoved, pair_move, PairStepped, heard_step, told, pair_step}
use Rattle.pairs.specs.Lists.{Listed, listed, PairPlayed, pair_then, pair_unplayed, pair_moved, pair_stepped, pair_plays, pair_plays_to}

-- ---- items at one stamp

-- the pair as it stands
abbrev pub pair_still : Pair → PairMoved
pair_still p = record { pair = p; records = [] }

-- an item that acts while the clock stands at t
abbrev pub pair_act : ℕ → Pair → Item → PairStepped
pair_act t p (Plain i) = heard_step (act (still p.actuator) i) p.sensor
pair_act t p (Button1 edge) = told (pair_still p) (react p.sensor (signal.Button1 edge) t)
pair_act t p (Button2 edge) = told (pair_still p) (react p.sensor (signal.Button2 edge) t)

-- one after the other
unfoldable pub pair_acts : ℕ → List Item → Pair → PairPlayed
pair_acts t [] p = pair_unplayed p
pair_acts t (i ∷ is) p = pair_then (pair_stepped (pair_act t p i)) (pair_acts t is)

unfoldable pub item_ties : ℕ → List Item → List Listed
item_ties t [] = []
item_ties t (i ∷ is) = listed t i ∷ item_ties t is

-- a press at the very stamp of a timer comes after it; ties keep list order: the clock of the pair moves to t, by every timer due at or before it,
-- each record heard; then the items act in list order, while the clock stands
abbrev pub TiesAfterTimers : Pair → ℕ → Item → List Item → Type 0
TiesAfterTimers p t i is = pair_plays (item_ties t (i ∷ is)) p ≡ pair_then (pair_moved (pair_move p t)) (pair_acts t (i ∷ is))

-- ---- a toggle

-- an edge whose action is to send the inverse
abbrev pub Toggles : Sensor → Item → Type 0
Toggles z (Plain i) = ⊥
Toggles z (Button1 edge) = action_of_edge1 z edge ≡ SendInverse
Toggles z (Button2 edge) = action_of_edge2 z edge ≡ SendInverse

-- a dropped telegram still toggles the next press: where nothing is recorded between the two
abbrev pub DroppedStillToggles : Pair → Type 0
DroppedStillToggles p =
    (i j : Item) (t u : ℕ) (why : Why) → Toggles p.sensor i → Toggles p.sensor j →
    (value : Bool) → (pair_step p i t).telegram ≡ Some value → barrier (clock_move p.actuator t).state (SwitchOnOff value) ≡ Stopped why →
    (pair_move (pair_step p i t).pair u).records ≡ [] → (pair_step (pair_step p i t).pair j u).telegram ≡ Some (not value)

-- ---- a silent edge

-- an edge that sends nothing
abbrev pub IsSilent : Pair → ℕ → Item → Type 0
IsSilent p t (Plain i) = ⊥
IsSilent p t (Button1 edge) = (pair_step p (Button1 edge) t).telegram ≡ None
IsSilent p t (Button2 edge) = (pair_step p (Button2 edge) t).telegram ≡ None

-- two sensors that differ in nothing but the clock, which shows when each last took something
pub record SameButClock (y z : Sensor) : Type 0 where
  pub same : hear y 0 y.value ≡ hear z 0 z.value

-- A run with one item and the same without it: nothing else changes but the sensor's clock. The item's own answer is 1, and it sent nothing.
pub record Struck (before whole struck : PairPlayed) : Type 0 where
  pub actuator : whole.pair.actuator ≡ struck.pair.actuator
  pub sensor : SameButClock whole.pair.sensor struck.pair.sensor
  pub records : whole.records ≡ struck.records
  pub answers_later : List ℕ
  pub whole_answers : whole.answers ≡ before.answers ++ (1 ∷ answers_later)
  pub struck_answers : struck.answers ≡ before.answers ++ answers_later
  pub telegrams_later : List (Option Bool)
  pub whole_telegrams : whole.telegrams ≡ before.telegrams ++ (None ∷ telegrams_later)
  pub struck_telegrams : struck.telegrams ≡ before.telegrams ++ telegrams_later

-- a silent edge (action 0) may be struck, and nothing else changes but the sensor's clock
abbrev pub SilentMayBeStruck : ℕ → List Listed → Pair → Type 0
SilentMayBeStruck end items p =
    (before : List Listed) (t : ℕ) (i : Item) (later : List Listed) → before ++ (listed t i ∷ later) ≡ items → IsSilent (pair_plays before p).pair t i →
    Struck (pair_plays before p) (pair_plays_to end items p) (pair_plays_to end (before ++ later) p)
