-- What the code knows of a checked list, and what playing leaves in the lent buffers.
use Rattle.std.specs.Prelude.{ℕ, ◌+◌, ◌*◌, ◌≤◌, true, List, ◌≡◌, length}
use Rattle.rules.specs.declared.parameters.Params.{Params}
use Rattle.rules.specs.declared.parameters.Scene.{Scene}
use Rattle.rules.specs.declared.state.State.{State}
use Rattle.base.specs.Time.{last_stamp}
use Rattle.rules.specs.Layout.{most_inputs, input_place, record_place}
use Rattle.rules.specs.Steps.{Moved, clock_move}
use Rattle.rules.specs.Readings.{cues, found, read_inputs}
use Rattle.rules.specs.Soundness.{sound}
use Rattle.rules.specs.Runs.{records_octets}
use Rattle.sensor.specs.declared.state.Sensor.{Sensor}
use Rattle.pairs.specs.Pairs.{Pair, pair_of}
use Rattle.pairs.specs.Lists.{Listed, PairPlayed, pair_plays}
use Rattle.pairs.specs.Calls.{pair_sound}
use Rattle.pairs.specs.Walls.{item_in}
use Rattle.lamps.specs.declared.lamp.Lamp.{Lamp}
use Rattle.lamps.specs.Lamps.{lamp_of, state_of}
use Rattle.octets.specs.Splice.{splice}
use Rattle.turns.specs.Turns.{listened}
use Rattle.player.specs.declared.items.Moment.{Moment}
use Rattle.player.specs.declared.items.Reached.{Reached}

-- the items that a reading of the first n inputs finds, where the clock stands at `from`
unfoldable pub items_from : List ℕ → ℕ → ℕ → List Listed
items_from inputs n from = found (read_inputs (item_in inputs) inputs n 0 from last_stamp)

-- n items can be played from this pair on
pub record Ready (inputs : List ℕ) (n : ℕ) (p : Pair) : Type 0 where
  pub few : n ≤ most_inputs
  pub whole : input_place n ≤ length inputs
  pub reads : read_inputs (item_in inputs) inputs n 0 p.actuator.clock last_stamp ≡ cues (items_from inputs n p.actuator.clock)
  pub sound : pair_sound p ≡ true

-- both states are those that playing leads to, the records of what was played stand after the first so many, the answers from the start of
-- their buffer on, and the count is of all records
pub record Filled (from : ℕ) (p : PairPlayed) (records₀ answers₀ : List ℕ) (s : State) (z : Sensor) (k : ℕ) (records₁ answers₁ : List ℕ) : Type 0 where
  pub state : s ≡ p.pair.actuator
  pub sensor : z ≡ p.pair.sensor
  pub count : k ≡ from + length p.records
  pub records : records₁ ≡ splice records₀ (record_place from) (records_octets p.records)
  pub answers : answers₁ ≡ splice answers₀ 0 p.answers

-- the items were played, after so many records, which `first` had not heard yet; the sensor that playing leads to is the one reached, once it has
-- heard all records that stand there
pub record ItemsPlayed (inputs : List ℕ) (n : ℕ) (start : State) (first : Sensor) (before : ℕ) (records₀ answers₀ : List ℕ) (r : Reached) (records₁ answers₁ : List ℕ) : Type 0 where
  pub filled : Filled before (pair_plays (items_from inputs n start.clock) (pair_of start (listened records₀ before first 0))) records₀ answers₀ r.state (listened records₁ r.count r.sensor r.heard) r.count records₁ answers₁
  pub safe : sound r.state ≡ true
  pub few : r.count ≤ before + 3 * n
  pub behind : r.heard ≤ r.count

-- a clock move, where so many records stand before it: the lamp that it leaves, and the records of its timers after those
pub record MovedBy (m : Moved) (before : ℕ) (records₀ : List ℕ) (r : Moment) (records₁ : List ℕ) : Type 0 where
  pub lamp : r.lamp ≡ lamp_of m.state
  pub count : r.count ≡ before + length m.records
  pub records : records₁ ≡ splice records₀ (record_place before) (records_octets m.records)

-- the clock of a lamp moves to t, whatever the scenes
abbrev pub Advanced : Params → Lamp → ℕ → ℕ → List ℕ → Moment → List ℕ → Type 0
Advanced p l t before records₀ r records₁ = (k : List Scene) → MovedBy (clock_move (state_of p k l) t) before records₀ r records₁
