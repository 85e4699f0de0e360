-- Runs over a wall list that are shut out, and what each of them breaks.
use Prim.Native.Nat.{ℕ}
use mathlib.Core.Bool.{true, false, true≢false}
use mathlib.Core.Path.{◌≡◌, refl, sym, ap, ◌∙◌}
use mathlib.Core.List.{List, [], ◌∷◌, ◌++◌}
use mathlib.Core.Logic.{inl, inr}
use Rattle.rules.specs.declared.input.Input.TheVariants.{TimedStartStop}
use Rattle.rules.specs.declared.state.State.{State}
use Rattle.rules.specs.Phases.{output}
use Rattle.rules.specs.Readings.{cues}
use Rattle.sensor.specs.declared.signal.Edge.TheVariants.{Rising}
use Rattle.pairs.specs.declared.item.Item.TheVariants.{Plain, Button1}
use Rattle.pairs.specs.Pairs.{pair_move}
use Rattle.pairs.specs.Lists.{Listed, listed}
use Rattle.pairs.specs.Walls.{read_wall_call, play_wall, wall_accepted}
use Rattle.demands.specs.Demands.{Judges}
use Rattle.demands.specs.Walls.{WallModel, actuators_run, WallPlaysAll}
use Rattle.demands.specs.WrongWalls.{ItemRule, MoveRule, items_by, wall_played_by, wall_read_by, wall_run_by, deaf_item, deaf_move, deaf_wall_run, hasty_item, hasty_wall_run, RefusesEdges}
use Rattle.demands.proofs.Computing.{reading_walls, playing_walls}
use Rattle.demands.proofs.WrongModels.{octets_of, file_of, room}

-- ---- two example lists

-- with the least parameters (TimedOn 1 second, no delays): a timed start at 0, then a press of button 1, which toggles
abbrev press_at : ℕ → List ℕ
press_at t = file_of 2 (octets_of 0 2 1 ++ octets_of t 11 1) ++ (3 ∷ 0 ∷ 0 ∷ 0 ∷ [])

abbrev items_at : ℕ → List Listed
items_at t = listed 0 (Plain (TimedStartStop true)) ∷ listed t (Button1 Rising) ∷ []

early_press : read_wall_call (press_at 5) room room ≡ cues (items_at 5)
unfolding file_of reading_walls
early_press = refl

late_press : read_wall_call (press_at 10) room room ≡ cues (items_at 10)
unfolding file_of reading_walls
late_press = refl

-- ---- what our run and each of the others shows at the end

-- what is opened to play them
playing : Unit {0}
unfolding file_of playing_walls wall_played_by items_by deaf_item deaf_move hasty_item
playing = tt

-- the press at 5 meets a lit lamp, of which the sensor has heard, and puts it out; the deaf one has sent nothing yet, and so it sends On
ours_puts_it_out : output (play_wall (press_at 5) (items_at 5)).pair.actuator.phase ≡ false
unfolding playing
ours_puts_it_out = refl

deaf_keeps_it_lit : output (wall_played_by deaf_item deaf_move (press_at 5) (items_at 5)).pair.actuator.phase ≡ true
unfolding playing
deaf_keeps_it_lit = refl

-- the press at 10 comes after the timer that puts the lamp out, and lights it again; the hasty one sends Off to a dark lamp
ours_lights_it_again : output (play_wall (press_at 10) (items_at 10)).pair.actuator.phase ≡ true
unfolding playing
ours_lights_it_again = refl

hasty_leaves_it_dark : output (wall_played_by hasty_item pair_move (press_at 10) (items_at 10)).pair.actuator.phase ≡ false
unfolding playing
hasty_leaves_it_dark = refl

-- ---- what they break

-- what plays all as the pair does ends as the pair does
its_end : (item : ItemRule) (move : MoveRule) → WallPlaysAll (wall_run_by item move) → (t : ℕ) → read_wall_call (press_at t) room room ≡ cues (items_at t) →
    output (wall_played_by item move (press_at t) (items_at t)).pair.actuator.phase ≡ output (play_wall (press_at t) (items_at t)).pair.actuator.phase
unfolding wall_run_by wall_read_by wall_accepted
its_end item move plays t read = ap (λ (s : State). output s.phase) (rw read at (plays (press_at t) room room (items_at t) read).actuator.state)

pub the_run_that_hears_no_record_breaks_demand_2 : WallPlaysAll deaf_wall_run → ⊥
unfolding deaf_wall_run
the_run_that_hears_no_record_breaks_demand_2 plays = true≢false (sym deaf_keeps_it_lit ∙ its_end deaf_item deaf_move plays 5 early_press ∙ ours_puts_it_out)

pub the_run_that_decides_before_the_clock_moves_breaks_demand_2 : WallPlaysAll hasty_wall_run → ⊥
unfolding hasty_wall_run
the_run_that_decides_before_the_clock_moves_breaks_demand_2 plays = true≢false (sym ours_lights_it_again ∙ sym (its_end hasty_item pair_move plays 10 late_press) ∙ hasty_leaves_it_dark)

-- whatever its numbers are
pub the_run_that_refuses_every_edge_breaks_demand_2 : (m : WallModel) → RefusesEdges m → Judges read_wall_call (actuators_run m) → ⊥
the_run_that_refuses_every_edge_breaks_demand_2 m refuses judges = refuses (press_at 5) room room (items_at 5) early_press (inr (inl tt)) (rw early_press at (judges (press_at 5) room room).0)
