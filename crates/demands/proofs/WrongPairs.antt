-- Pairs by value that are shut out, and what each of them breaks.
use Rattle.std.specs.Prelude.{Some}
use Prim.Native.Nat.{ℕ, ◌≤◌}
use mathlib.Core.Bool.{true, false, true≢false}
use mathlib.Core.Path.{◌≡◌, refl, sym, ap, ◌∙◌}
use mathlib.Core.List.{List, [], ◌∷◌}
use native.Mathlib.Omega.{arith}
use lib.ListN.{length}
use Rattle.octets.specs.Groups.{stamp_at}
use Rattle.rules.specs.declared.input.Input.{Input}
use Rattle.rules.specs.declared.input.Input.TheVariants.{SwitchOnOff, TimedStartStop}
use Rattle.rules.specs.Steps.{fresh}
use Rattle.rules.specs.Calls.{least_params, no_scenes}
use Rattle.sensor.specs.declared.signal.Edge.TheVariants.{Rising}
use Rattle.sensor.specs.declared.state.Sensor.{Sensor}
use Rattle.sensor.specs.Sensors.{fresh_sensor}
use Rattle.pairs.specs.declared.item.Item.{Item}
use Rattle.pairs.specs.declared.item.Item.TheVariants.{Plain, Button1}
use Rattle.pairs.specs.Items.{item_at}
use Rattle.pairs.specs.Pairs.{Pair, pair_of, pair_move, pair_step}
use Rattle.pairs.specs.Refusals.{SoundPair}
use Rattle.demands.specs.WrongWalls.{IsEdge}
use Rattle.demands.specs.Pairs.{PairModel, PairJudges, PairAccepted, PairPlays, PairMoveModel, PairMoves}
use Rattle.demands.proofs.Computing.{calling_pairs}
use Rattle.demands.proofs.WrongModels.{octets_of}

-- a fresh pair with the least parameters; the rising edge of button 1 toggles
abbrev fresh_pair : Pair
fresh_pair = pair_of (fresh least_params no_scenes) (fresh_sensor (3 ∷ 0 ∷ 0 ∷ 0 ∷ []))

-- ---- one item

fresh_is_sound : SoundPair fresh_pair
unfolding calling_pairs
fresh_is_sound = record { actuator = refl; sensor = omega arith; behind = omega arith }

-- a cue On at 5, and a press at 5
on_is_accepted : PairAccepted fresh_pair (octets_of 5 1 1) (Plain (SwitchOnOff true))
unfolding calling_pairs
on_is_accepted = record { sound = fresh_is_sound; known = refl; timely = (omega arith, omega arith) }

press_is_accepted : PairAccepted fresh_pair (octets_of 5 11 1) (Button1 Rising)
unfolding calling_pairs
press_is_accepted = record { sound = fresh_is_sound; known = refl; timely = (omega arith, omega arith) }

-- the lamp comes on, and the sensor hears of it
on_is_heard : (pair_step fresh_pair (Plain (SwitchOnOff true)) 5).pair.sensor.value ≡ true
unfolding calling_pairs
on_is_heard = refl

not_before : fresh_pair.sensor.value ≡ false
unfolding calling_pairs
not_before = refl

-- one that never tells its sensor of a record
pub the_pair_that_tells_its_sensor_of_no_record_breaks_demand_2 : (m : PairModel) →
    ((p : Pair) (octets : List ℕ) (i : Input) → item_at octets 0 ≡ Some (Plain i) → (m p octets).sensor ≡ p.sensor) → PairPlays m → ⊥
unfolding stamp_at
the_pair_that_tells_its_sensor_of_no_record_breaks_demand_2 m tells-nothing plays =
    let heard = (plays fresh_pair (octets_of 5 1 1) (Plain (SwitchOnOff true)) on_is_accepted).sensor in
    let kept = tells-nothing fresh_pair (octets_of 5 1 1) (SwitchOnOff true) on_is_accepted.known in
    true≢false (sym on_is_heard ∙ ap (λ (z : Sensor). z.value) (sym heard ∙ kept) ∙ not_before)

-- one that refuses every edge, whatever its numbers are
pub the_pair_that_refuses_every_edge_breaks_demand_1 : (m : PairModel) →
    ((p : Pair) (octets : List ℕ) (i : Item) → item_at octets 0 ≡ Some i → IsEdge i → (m p octets).code ≡ 0 → ⊥) → PairJudges m → ⊥
the_pair_that_refuses_every_edge_breaks_demand_1 m refuses judges =
    let a = press_is_accepted in
    refuses fresh_pair (octets_of 5 11 1) (Button1 Rising) a.known tt (((judges fresh_pair (octets_of 5 11 1)).accepted 0).1 (refl, (a.sound, ((Button1 Rising, a.known), a.timely)))).0

-- ---- a clock move

-- after a timed start at 0: lit until 10
abbrev timed_pair : Pair
timed_pair = (pair_step fresh_pair (Plain (TimedStartStop true)) 0).pair

timed_is_sound : SoundPair timed_pair
unfolding calling_pairs
timed_is_sound = record { actuator = refl; sensor = omega arith; behind = omega arith }

-- the sensor knows of the light, and of its end once the clock has moved; which is one record
light_is_known : timed_pair.sensor.value ≡ true
unfolding calling_pairs
light_is_known = refl

its_end_is_heard : (pair_move timed_pair 10).pair.sensor.value ≡ false
unfolding calling_pairs
its_end_is_heard = refl

one_record : length (pair_move timed_pair 10).records ≡ 1
unfolding calling_pairs
one_record = refl

in_time : timed_pair.actuator.clock ≤ 10
unfolding calling_pairs
in_time = omega arith

-- one that does not let the sensor hear
pub the_move_that_is_not_heard_breaks_demand_2 : (m : PairMoveModel) → ((p : Pair) (t : ℕ) → (m p t).sensor ≡ p.sensor) → PairMoves m → ⊥
the_move_that_is_not_heard_breaks_demand_2 m unheard moves =
    let heard = (moves timed_pair 10 timed_is_sound (in_time, omega arith)).sensor in
    true≢false (sym light_is_known ∙ ap (λ (z : Sensor). z.value) (sym (unheard timed_pair 10) ∙ heard) ∙ its_end_is_heard)

-- one that runs the timers and hands out no record of them
pub the_move_that_hands_out_no_record_breaks_demand_2 : (m : PairMoveModel) → ((p : Pair) (t : ℕ) → (m p t).count ≡ 0) → PairMoves m → ⊥
the_move_that_hands_out_no_record_breaks_demand_2 m none moves = omega (arith, none timed_pair 10, (moves timed_pair 10 timed_is_sound (in_time, omega arith)).count, one_record)
