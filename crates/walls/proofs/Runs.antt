-- The whole run over a wall list, one law for each way out.
use Rattle.base.specs.Refusals.{refused_with}
use Rattle.std.specs.Prelude.{Ok}
use Prim.Native.Nat.{ℕ, ◌≤◌}
use mathlib.Core.List.{List}
use mathlib.Core.Path.{◌≡◌, sym, ap, ◌∙◌}
use native.Mathlib.Omega.{arith}
use lib.ListN.{length}
use Rattle.base.specs.declared.refusal.Refusal.{Refusal}
use Rattle.base.proofs.Tests.{cond_case}
use Rattle.rules.specs.Readings.{Reading, cues, found, verdict}
use Rattle.rules.specs.Files.{lent_enough}
use Rattle.rules.proofs.Refusals.Readings.{bad_read, good_read}
use Rattle.sensor.specs.Sensors.{fresh_sensor}
use Rattle.pairs.specs.Lists.{Listed}
use Rattle.pairs.specs.Walls.{file_in, actions_in, read_wall, WallWhole, wall_whole, play_wall, wall_refusal, wall_refused, wall_call}
use Rattle.pairs.proofs.Refusals.Walls.{good_wall, good_wall_is_read, a_bad_wall_is_refused, a_short_wall_buffer_is_refused, a_good_wall_is_played}
use Rattle.runs.specs.Runs.{items_in, play_in, ran_in, Fit}

-- the items that the check of a list has found are those of its file
pub wall_passed : (wall : List ℕ) → verdict (read_wall wall) ≡ (Ok tt) → read_wall wall ≡ cues (items_in (file_in wall))
unfolding items_in
wall_passed wall e =
    let read = good_read (read_wall wall) e in
    read ∙ ap (λ (x : Reading Listed). cues (found x)) (good_wall_is_read wall (good_wall wall _ read))

-- so it is long enough for its actions
pub wall_long : (wall : List ℕ) → verdict (read_wall wall) ≡ (Ok tt) → 4 ≤ length wall
wall_long wall e = omega (arith, (good_wall wall _ (wall_passed wall e)).long)

pub wall_fits : (wall : List ℕ) → read_wall wall ≡ cues (items_in (file_in wall)) → Fit (file_in wall)
wall_fits wall read = let good = good_wall wall _ read in record { start = good.start; reads = sym (good_wall_is_read wall good) ∙ read }

module _ (wall r a : List ℕ) where
  pub run_refused : (why : Refusal) (place : ℕ) → verdict (read_wall wall) ≡ refused_with why place → wall_whole (wall_refusal why place) r a ≡ wall_call wall r a
  unfolding wall_refused
  run_refused why place e = sym (a_bad_wall_is_refused wall r a why place (bad_read (read_wall wall) why place e))

  pub run_passed : read_wall wall ≡ cues (items_in (file_in wall)) → ran_in (file_in wall) (fresh_sensor (actions_in wall)) r a ≡ wall_call wall r a
  unfolding ran_in play_in play_wall
  run_passed read =
      cond_case (λ (w : WallWhole). w ≡ wall_call wall r a) (lent_enough (file_in wall) r a) _ _
      (λ room. sym (a_good_wall_is_played wall r a _ read room))
      (λ short. sym (a_short_wall_buffer_is_refused wall r a _ read short))
