-- A list of stamped items, played (02, [1]; 01, "Phases" and "Records and the printout").
use Rattle.std.specs.Prelude.{ℕ, List, [], ◌∷◌, ◌++◌, Option, Bool}
use Rattle.rules.specs.declared.parameters.Params.{Params}
use Rattle.rules.specs.declared.parameters.Scene.{Scene}
use Rattle.rules.specs.declared.record.Record.{Record}
use Rattle.rules.specs.Status.{record_of, by_itself}
use Rattle.rules.specs.Steps.{fresh}
use Rattle.rules.specs.Lists.{Played}
use Rattle.sensor.specs.declared.state.Sensor.{Sensor}
use Rattle.pairs.specs.declared.item.Item.{Item}
use Rattle.pairs.specs.Pairs.{Pair, pair_of, hears, PairMoved, pair_move, PairStepped, pair_step}

-- an item and its stamp
pub data Listed : Type 0 where
  listed : ℕ → Item → Listed

-- the pair that playing ends in, with the answers, the records and the telegrams on the way, in order; an answer and a telegram for each item
pub record PairPlayed : Type 0 where
  pub pair : Pair
  pub answers : List ℕ
  pub records : List Record
  pub telegrams : List (Option Bool)

-- what the actuator has of it all
abbrev pub actuator_part : PairPlayed → Played
actuator_part a = record { state = a.pair.actuator; answers = a.answers; records = a.records }

-- what was played so far, and then what is played from its pair
abbrev pub pair_then : PairPlayed → (Pair → PairPlayed) → PairPlayed
pair_then a next =
    let b : PairPlayed = next a.pair in
    record { pair = b.pair; answers = a.answers ++ b.answers; records = a.records ++ b.records; telegrams = a.telegrams ++ b.telegrams }

abbrev pub pair_unplayed : Pair → PairPlayed
pair_unplayed p = record { pair = p; answers = []; records = []; telegrams = [] }

abbrev pub pair_moved : PairMoved → PairPlayed
pair_moved m = record { pair = m.pair; answers = []; records = m.records; telegrams = [] }

abbrev pub pair_stepped : PairStepped → PairPlayed
pair_stepped d = record { pair = d.pair; answers = d.answer ∷ []; records = d.records; telegrams = d.telegram ∷ [] }

-- "Equal stamps keep list order"
unfoldable pub pair_plays : List Listed → Pair → PairPlayed
pair_plays [] p = pair_unplayed p
pair_plays (listed t i ∷ later) p = pair_then (pair_stepped (pair_step p i t)) (pair_plays later)

-- 01: "After the last input the clock moves to the end time." (its records are heard)
unfoldable pub pair_plays_to : ℕ → List Listed → Pair → PairPlayed
pair_plays_to end items p = pair_then (pair_plays items p) (λ x. pair_moved (pair_move x end))

-- 01: "One record is written at the start" (it is heard)
abbrev pub pair_start : Params → List Scene → Sensor → PairPlayed
pair_start p scenes z =
    let first : List Record = record_of by_itself (fresh p scenes) ∷ [] in
    record { pair = pair_of (fresh p scenes) (hears first z); answers = []; records = first; telegrams = [] }

-- the whole run
unfoldable pub play_items : Params → List Scene → Sensor → List Listed → ℕ → PairPlayed
play_items p scenes z items end = pair_then (pair_start p scenes z) (pair_plays_to end items)
