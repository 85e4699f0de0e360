-- What a reader of the records of a wall run sees: they are the actuator's, over what it is given, and so they show what those of a cue file show.
use Prim.Native.Nat.{ℕ, ◌≤◌}
use mathlib.Core.Path.{◌≡◌, sym, ap, ◌∙◌}
use mathlib.Core.List.{List, ◌∷◌, ◌++◌}
use Rattle.rules.specs.declared.input.Input.{Input}
use Rattle.rules.specs.Status.{value}
use Rattle.rules.specs.Steps.{fresh}
use Rattle.rules.specs.Lists.{Cue, cue, play_list}
use Rattle.rules.specs.Readings.{cues}
use Rattle.rules.specs.Promises.{state_at, turn_after, shown_at, DarkShown, records_before, records_from, LightShown, LightStamped}
use Rattle.pairs.specs.Lists.{Listed}
use Rattle.pairs.specs.Walls.{read_wall, play_wall}
use Rattle.demands.specs.Walls.{wall_params, wall_scenes, wall_end, cues_given}
use Rattle.demands.proofs.EveryWall.{cues_given_rise, a_wall_has_some_time, a_wall_run_is_the_actuators, dark_of_every_accepted_wall, strong_light_of_every_accepted_wall}
use Rattle.demands.proofs.Shown.{the_last_record_shows_the_output, dark_shown, records_split, light_shown, light_stamped}

module _ (wall : List ℕ) (items : List Listed) (read : read_wall wall ≡ cues items) where
  abbrev list : List Cue
  list = cues_given wall items

  -- the records that the pair wrote
  its_records : (play_wall wall items).records ≡ (play_list (wall_params wall) (wall_scenes wall) list (wall_end wall)).records
  its_records = (a_wall_run_is_the_actuators wall items read).records

  pub the_last_record_of_every_accepted_wall_shows_the_output : (t v : ℕ) → t ≤ wall_end wall →
      shown_at t v (play_wall wall items).records ≡ value (state_at t list (fresh (wall_params wall) (wall_scenes wall)))
  the_last_record_of_every_accepted_wall_shows_the_output t v h = rw its_records (the_last_record_shows_the_output _ _ list (wall_end wall) t v (cues_given_rise wall items read) h)

  pub dark_shown_in_every_accepted_wall : DarkShown (wall_params wall) (wall_scenes wall) list (wall_end wall) (play_wall wall items).records
  dark_shown_in_every_accepted_wall = rw its_records (dark_shown _ _ list (wall_end wall) (cues_given_rise wall items read) (dark_of_every_accepted_wall wall items read))

  pub light_stamped_in_every_accepted_wall : LightStamped (wall_params wall) (wall_scenes wall) list (wall_end wall) (play_wall wall items).records
  light_stamped_in_every_accepted_wall =
      rw its_records (light_stamped _ _ list (wall_end wall) (cues_given_rise wall items read) (a_wall_has_some_time wall items read) (strong_light_of_every_accepted_wall wall items read))

  -- Light, by the records on both sides of the order; these are all that the pair wrote
  pub light_shown_in_every_accepted_wall : LightShown (wall_params wall) (wall_scenes wall) list (wall_end wall)
  light_shown_in_every_accepted_wall = light_shown _ _ list (wall_end wall) (cues_given_rise wall items read) (strong_light_of_every_accepted_wall wall items read)

  pub wall_records_split : (before : List Cue) (a : ℕ) (i : Input) (later : List Cue) → before ++ (cue a i ∷ later) ≡ list →
      (play_wall wall items).records ≡ records_before (wall_params wall) (wall_scenes wall) before a ++ records_from (wall_end wall) (turn_after (wall_params wall) (wall_scenes wall) before a i) later
  wall_records_split before a i later split =
      its_records ∙ ap (λ (l : List Cue). (play_list (wall_params wall) (wall_scenes wall) l (wall_end wall)).records) (sym split) ∙ records_split _ _ before a i later (wall_end wall)
