-- Two versions of one wall list are accepted alike and run alike.
use Prim.Native.Nat.{ℕ}
use mathlib.Core.Bool.{true}
use mathlib.Core.List.{List}
use mathlib.Core.Logic.{◌↔◌}
use mathlib.Core.Path.{◌≡◌, refl, sym, ap, ◌∙◌}
use native.Mathlib.Omega.{arith}
use Rattle.rules.specs.Readings.{cues}
use Rattle.rules.specs.Files.{end_time, params_in, scenes_in, lent_enough}
use Rattle.rules.specs.Runs.{accepted}
use Rattle.sensor.specs.Sensors.{fresh_sensor}
use Rattle.pairs.specs.Pairs.{Pair}
use Rattle.pairs.specs.Lists.{Listed, actuator_part}
use Rattle.pairs.specs.Walls.{file_in, actions_in, items_read, read_wall, play_wall, wall_accepted, wall_call}
use Rattle.pairs.proofs.Refusals.Walls.{file_length, a_good_start_is_read, good_wall, good_wall_is_read, a_good_wall_is_played}
use Rattle.demands.specs.Versions.{PairPlayedAlike, SameShow, WallRanAlike}
use Rattle.demands.proofs.Versions.{handed_out_alike, same_inputs, good_start_of_new, good_start_of_old, same_params, same_scenes_lem}
use Rattle.demands.proofs.Alike.{no_rule_of_the_pair_looks_at_the_version}

module _ (old new : List ℕ) (same : SameShow (file_in old) (file_in new)) (actions : actions_in new ≡ actions_in old) where
  all_items : items_read (file_in new) ≡ items_read (file_in old)
  all_items = rw (same_inputs (file_in old) (file_in new) same, same.count, same.end) refl

  -- a wall list is accepted in one version exactly when it is in the other, with the same items
  pub walls_accepted_alike : (items : List Listed) → (read_wall old ≡ cues items) ↔ (read_wall new ≡ cues items)
  walls_accepted_alike items = (up, down)
    where
      up : read_wall old ≡ cues items → read_wall new ≡ cues items
      up read =
          let g = good_wall old items read in
          a_good_start_is_read new (omega (arith, file_length old, file_length new, same.size, g.long)) (good_start_of_new (file_in old) (file_in new) same g.start) (rw actions g.actions)
          ∙ (all_items ∙ (sym (good_wall_is_read old g) ∙ read))

      down : read_wall new ≡ cues items → read_wall old ≡ cues items
      down read =
          let g = good_wall new items read in
          let start = good_start_of_old (file_in old) (file_in new) same g.start in
          a_good_start_is_read old (omega (arith, file_length old, start.header.enough.least)) start (rw (← actions) g.actions)
          ∙ (sym all_items ∙ (sym (good_wall_is_read new g) ∙ read))

  pub walls_played_alike : (items : List Listed) → PairPlayedAlike 2 (play_wall old items) (play_wall new items)
  unfolding play_wall
  walls_played_alike items =
      rw (same_params (file_in old) (file_in new) same, same_scenes_lem (file_in old) (file_in new) same, actions, same.end)
      (no_rule_of_the_pair_looks_at_the_version 2 (params_in (file_in old)) (scenes_in (file_in old)) (fresh_sensor (actions_in old)) items (end_time (file_in old)))

  -- and it runs alike, whole
  pub two_versions_of_one_wall_run_alike : (records answers : List ℕ) (items : List Listed) → read_wall old ≡ cues items → lent_enough (file_in old) records answers ≡ true →
      WallRanAlike 2 (wall_call old records answers) (wall_call new records answers)
  two_versions_of_one_wall_run_alike records answers items read room =
      let enough : lent_enough (file_in new) records answers ≡ true = unfold lent_enough in rw same.count room in
      let p = walls_played_alike items in
      rw (a_good_wall_is_played old records answers items read room, a_good_wall_is_played new records answers items ((walls_accepted_alike items).0 read) enough)
      (unfold wall_accepted in record {
        actuator = unfold accepted in handed_out_alike 2 (actuator_part (play_wall old items)) (actuator_part (play_wall new items)) records answers (record { state = ap (λ (x : Pair). x.actuator) p.pair; answers = p.answers; records = p.records });
        sensor = ap (λ (x : Pair). x.sensor) p.pair;
      })
