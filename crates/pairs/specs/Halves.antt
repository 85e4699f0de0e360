-- "the demands read over the pair": the pair brings in no rule of its own. It is the actuator over the cues and telegrams, and the sensor over the
-- records and edges. Proved in proofs/Halves.antt, for every list whose stamps never fall.
use Rattle.std.specs.Prelude.{ℕ, ◌≤◌, Bool, List, [], ◌∷◌, ◌++◌, ◌≡◌, Some, None, Option}
use Rattle.rules.specs.declared.input.Input.{Input}
use Rattle.rules.specs.declared.input.Input.TheVariants.{SwitchOnOff}
use Rattle.rules.specs.declared.record.Record.{Record}
use Rattle.rules.specs.Steps.{act}
use Rattle.rules.specs.Lists.{Cue, cue, Played, plays_to, still}
use Rattle.sensor.specs.declared.signal.Signal.{Signal}
use Rattle.sensor.specs.declared.signal.Signal.TheVariants as signal
use Rattle.sensor.specs.Reactions.{Stamped, at, Heard, reacts}
use Rattle.pairs.specs.declared.item.Item.{Item}
use Rattle.pairs.specs.declared.item.Item.TheVariants.{Plain, Button1, Button2}
use Rattle.pairs.specs.Pairs.{Pair, shows, PairMoved, pair_move, pair_step}
use Rattle.pairs.specs.Lists.{Listed, listed, PairPlayed, pair_plays_to}

-- 01: "Stamps never fall, and none passes the end time." (from `last` on)
abbrev pub ItemsRise : ℕ → List Listed → ℕ → Type 0
ItemsRise last [] end = last ≤ end
ItemsRise last (listed t i ∷ later) end = (last ≤ t) × ItemsRise t later end

-- ---- the actuator's half

-- what a telegram is to the actuator
abbrev pub sent_as : Option Bool → Option Input
sent_as None = None
sent_as (Some value) = Some (SwitchOnOff value)

-- what the actuator is given of an item: an input of its own, the telegram of an edge, or nothing
abbrev pub given_of : Item → Option Bool → Option Input
given_of (Plain i) sent = Some i
given_of (Button1 edge) sent = sent_as sent
given_of (Button2 edge) sent = sent_as sent

-- the same at the item's stamp
abbrev pub cue_of : ℕ → Option Input → Option Cue
cue_of t None = None
cue_of t (Some i) = Some (cue t i)

abbrev pub given_at : ℕ → Item → Option Bool → Option Cue
given_at t i sent = cue_of t (given_of i sent)

-- item by item
unfoldable pub cues_for : List Listed → Pair → List (Option Cue)
cues_for [] p = []
cues_for (listed t i ∷ later) p = given_at t i (pair_step p i t).telegram ∷ cues_for later (pair_step p i t).pair

-- those that there are
unfoldable pub given : List (Option Cue) → List Cue
given [] = []
given (None ∷ later) = given later
given (Some c ∷ later) = c ∷ given later

-- the actuator's answers, and 1 for each edge that sends nothing
unfoldable pub answered : List (Option Cue) → List ℕ → List ℕ
answered [] answers = []
answered (None ∷ later) answers = 1 ∷ answered later answers
answered (Some c ∷ later) [] = []
answered (Some c ∷ later) (a ∷ answers) = a ∷ answered later answers

-- the half, by what was given item by item
pub record ActuatorHalf (cues : List (Option Cue)) (pair : PairPlayed) (alone : Played) : Type 0 where
  pub state : pair.pair.actuator ≡ alone.state
  pub records : pair.records ≡ alone.records
  pub answers : pair.answers ≡ answered cues alone.answers

abbrev pub ActuatorAlone : ℕ → List Listed → Pair → Type 0
ActuatorAlone end items p = ActuatorHalf (cues_for items p) (pair_plays_to end items p) (plays_to end (given (cues_for items p)) p.actuator)

-- ---- the sensor's half

-- records, as it hears them
unfoldable pub statuses : List Record → List Stamped
statuses [] = []
statuses (r ∷ later) = at r.stamp (signal.Status (shows r)) ∷ statuses later

-- what a telegram's own step records
abbrev pub recorded_by : Option Bool → PairMoved → List Record
recorded_by None m = []
recorded_by (Some value) m = (act (still m.pair.actuator) (SwitchOnOff value)).records

-- an edge: the records of the clock move, the edge itself, the record of its telegram
abbrev pub around_edge : Signal → ℕ → PairMoved → Option Bool → List Stamped
around_edge s t m sent = statuses m.records ++ (at t s ∷ statuses (recorded_by sent m))

abbrev pub signals_of : Pair → ℕ → Item → List Stamped
signals_of p t (Plain i) = statuses (pair_step p (Plain i) t).records
signals_of p t (Button1 edge) = around_edge (signal.Button1 edge) t (pair_move p t) (pair_step p (Button1 edge) t).telegram
signals_of p t (Button2 edge) = around_edge (signal.Button2 edge) t (pair_move p t) (pair_step p (Button2 edge) t).telegram

-- the whole list, to the end time
unfoldable pub signals_for : ℕ → List Listed → Pair → List Stamped
signals_for end [] p = statuses (pair_move p end).records
signals_for end (listed t i ∷ later) p = signals_of p t i ++ signals_for end later (pair_step p i t).pair

-- The values that were sent, compared in the order in which they were sent. Where and when each was sent is the actuator's half, whose cues have
-- the stamps.
unfoldable pub spoken : List (Option Bool) → List Bool
spoken [] = []
spoken (None ∷ later) = spoken later
spoken (Some value ∷ later) = value ∷ spoken later

pub record SensorHalf (pair : PairPlayed) (alone : Heard) : Type 0 where
  pub sensor : pair.pair.sensor ≡ alone.sensor
  pub sent : spoken pair.telegrams ≡ spoken alone.telegrams

abbrev pub SensorAlone : ℕ → List Listed → Pair → Type 0
SensorAlone end items p = SensorHalf (pair_plays_to end items p) (reacts (signals_for end items p) p.sensor)
