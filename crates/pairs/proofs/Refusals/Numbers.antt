-- The number that C is given for a wall list: code, place and count are found again in it.
use Prim.Native.Nat.{ℕ, ◌<◌}
use mathlib.Core.List.{List}
use mathlib.Core.Logic.{inl, inr}
use mathlib.Core.Path.{◌≡◌, refl}
use native.Mathlib.Omega.{arith}
use Rattle.base.specs.declared.refusal.Refusal.{Refusal}
use Rattle.rules.specs.Refusals.{TakenApart}
use Rattle.rules.specs.Runs.{packed, answered_by}
use Rattle.rules.proofs.Refusals.Runs.{apart, narrow_start, narrow_input}
use Rattle.pairs.specs.declared.call.WallRan.{WallRan}
use Rattle.pairs.specs.Walls.{file_in, WallWhole, wall_accepted, wall_refused, wall_call, ran_of, house_wall_run}
use Rattle.pairs.specs.Refusals.{WallWhen}
use Rattle.pairs.proofs.Refusals.Walls.{wall_decides, good_wall, WallFinds, at_fault, no_room, played, wall_finds, wall_count}

-- a place is an octet of the parameters or of the actions, or the index of an input
narrow_place : (wall : List ℕ) (why : Refusal) (place : ℕ) → WallWhen wall why place → place < 65_536
narrow_place wall why place (inl only) = omega (arith, only.1)
narrow_place wall why place (inr (long, inl start)) = narrow_start (file_in wall) why place start
narrow_place wall why place (inr (long, inr (start, inl (inl only)))) = omega (arith, only.1)
narrow_place wall why place (inr (long, inr (start, inl (inr bad)))) = omega (arith, bad.1.within)
narrow_place wall why place (inr (long, inr (start, inr (actions, input)))) = omega (arith, narrow_input _ _ _ _ _ why place input, start.header.layout.few)

-- what is packed for C is the report's own: code, place and count
pub what_is_packed_is_the_report : (r : WallRan) → ((ran_of r).code ≡ r.code) × ((ran_of r).place ≡ r.place) × ((ran_of r).count ≡ r.count)
what_is_packed_is_the_report r = (refl, refl, refl)

module _ (wall records answers : List ℕ) where
  pub the_wall_number_is_taken_apart : TakenApart (house_wall_run wall records answers).number (ran_of (wall_call wall records answers).report)
  unfolding house_wall_run answered_by
  the_wall_number_is_taken_apart = by (wall_finds wall records answers) refl
    where
      by : {w : WallWhole} → WallFinds wall records answers w → wall_call wall records answers ≡ w → TakenApart (packed (ran_of w.report)) (ran_of w.report)
      by (at_fault why place read) e = unfold wall_refused in apart _ (narrow_place wall why place (((wall_decides wall).refused why place).0 (rw read refl))) (omega arith)
      by (no_room items read room) e = unfold wall_refused in apart _ (omega arith) (omega arith)
      by (played items read room) e =
          let few = rw e at (wall_count wall records answers items read room).1 in
          unfold wall_accepted in apart _ (omega arith) (omega (arith, few, (good_wall wall items read).start.header.layout.few))

  -- the rest of what C is given is the run's own: both buffers
  pub c_is_lent_the_same_buffers : ((house_wall_run wall records answers).records ≡ (wall_call wall records answers).records) × ((house_wall_run wall records answers).answers ≡ (wall_call wall records answers).answers)
  unfolding house_wall_run answered_by
  c_is_lent_the_same_buffers = (refl, refl)
