-- Runs over a wall list that are shut out. Two judge a list as the table does, and each plays it by a step of its own; the third judges
-- otherwise: it refuses lists that the table accepts. What each breaks is proved in proofs/WrongWalls.antt.
use Rattle.std.specs.Prelude.{ℕ, List, [], ◌∷◌, ◌⊎◌, ◌≡◌, Option, Some, None, Bool}
use Rattle.rules.specs.declared.input.Input.TheVariants.{SwitchOnOff}
use Rattle.rules.specs.declared.state.State.{State}
use Rattle.rules.specs.Steps.{clock_move, step}
use Rattle.rules.specs.Readings.{Reading, cues, bad}
use Rattle.sensor.specs.declared.signal.Signal.{Signal}
use Rattle.sensor.specs.declared.signal.Signal.TheVariants as signal
use Rattle.sensor.specs.declared.state.Sensor.{Sensor}
use Rattle.sensor.specs.declared.react.Reaction.{Reaction}
use Rattle.sensor.specs.Sensors.{fresh_sensor}
use Rattle.sensor.specs.Reactions.{react}
use Rattle.pairs.specs.declared.item.Item.{Item}
use Rattle.pairs.specs.declared.item.Item.TheVariants.{Plain, Button1, Button2}
use Rattle.pairs.specs.Pairs.{Pair, pair_of, PairMoved, heard_move, pair_move, PairStepped, heard_step, told, pair_step}
use Rattle.pairs.specs.Lists.{Listed, listed, PairPlayed, pair_then, pair_moved, pair_stepped, pair_start}
use Rattle.pairs.specs.Walls.{actions_in, read_wall_call, WallWhole, wall_accepted, wall_refused}
use Rattle.demands.specs.Walls.{wall_params, wall_scenes, wall_end, WallModel}
use Rattle.demands.specs.Demands.{OfEveryAccepted}

-- ---- a run by other rules for an item and for a clock move

abbrev pub ItemRule : Type 0
ItemRule = Pair → Item → ℕ → PairStepped

abbrev pub MoveRule : Type 0
MoveRule = Pair → ℕ → PairMoved

unfoldable pub items_by : ItemRule → MoveRule → ℕ → List Listed → Pair → PairPlayed
items_by item move end [] p = pair_moved (move p end)
items_by item move end (listed t i ∷ later) p = pair_then (pair_stepped (item p i t)) (items_by item move end later)

unfoldable pub wall_played_by : ItemRule → MoveRule → List ℕ → List Listed → PairPlayed
wall_played_by item move wall items = pair_then (pair_start (wall_params wall) (wall_scenes wall) (fresh_sensor (actions_in wall))) (items_by item move (wall_end wall) items)

unfoldable pub wall_read_by : ItemRule → MoveRule → Reading Listed → List ℕ → List ℕ → List ℕ → WallWhole
wall_read_by item move (cues items) wall records answers = wall_accepted (wall_played_by item move wall items) records answers
wall_read_by item move (bad why place) wall records answers = wall_refused why place records answers

unfoldable pub wall_run_by : ItemRule → MoveRule → WallModel
wall_run_by item move wall records answers = wall_read_by item move (read_wall_call wall records answers) wall records answers

-- ---- one whose sensor hears no record: its toggles go by what was sent alone

abbrev with_sensor : PairStepped → Sensor → PairStepped
with_sensor d z = record { pair = pair_of d.pair.actuator z; answer = d.answer; records = d.records; telegram = d.telegram }

abbrev deaf_press : Pair → Signal → ℕ → PairStepped
deaf_press p s t = let r : Reaction = react p.sensor s t in with_sensor (told (pair_move p t) r) r.sensor

unfoldable pub deaf_item : ItemRule
deaf_item p (Plain i) t = with_sensor (pair_step p (Plain i) t) p.sensor
deaf_item p (Button1 edge) t = deaf_press p (signal.Button1 edge) t
deaf_item p (Button2 edge) t = deaf_press p (signal.Button2 edge) t

unfoldable pub deaf_move : MoveRule
deaf_move p t = let m : PairMoved = pair_move p t in record { pair = pair_of m.pair.actuator p.sensor; records = m.records }

unfoldable pub deaf_wall_run : WallModel
deaf_wall_run = wall_run_by deaf_item deaf_move

-- ---- one that decides an edge before the clock moves: the timers due by then run with the telegram, and are heard after it

abbrev sent_after : ℕ → State → Sensor → Option Bool → PairStepped
sent_after t s z None = let m : PairMoved = heard_move (clock_move s t) z in record { pair = m.pair; answer = 1; records = m.records; telegram = None }
sent_after t s z (Some value) =
    let d : PairStepped = heard_step (step s (SwitchOnOff value) t) z in
    record { pair = d.pair; answer = d.answer; records = d.records; telegram = Some value }

abbrev hasty_press : Pair → Signal → ℕ → PairStepped
hasty_press p s t = let r : Reaction = react p.sensor s t in sent_after t p.actuator r.sensor r.telegram

unfoldable pub hasty_item : ItemRule
hasty_item p (Plain i) t = pair_step p (Plain i) t
hasty_item p (Button1 edge) t = hasty_press p (signal.Button1 edge) t
hasty_item p (Button2 edge) t = hasty_press p (signal.Button2 edge) t

unfoldable pub hasty_wall_run : WallModel
hasty_wall_run = wall_run_by hasty_item pair_move

-- ---- one that refuses every edge

abbrev pub IsEdge : Item → Type 0
IsEdge (Plain i) = ⊥
IsEdge (Button1 edge) = Unit {0}
IsEdge (Button2 edge) = Unit {0}

-- there is one in the list
abbrev pub HasEdge : List Listed → Type 0
HasEdge [] = ⊥
HasEdge (listed t i ∷ later) = IsEdge i ⊎ HasEdge later

abbrev pub RefusesEdges : WallModel → Type 0
RefusesEdges m = OfEveryAccepted read_wall_call (λ wall records answers items. HasEdge items → (m wall records answers).report.code ≡ 0 → ⊥)
