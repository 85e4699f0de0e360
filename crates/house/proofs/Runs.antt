-- The whole run, one law for each way out.
use Rattle.base.specs.Refusals.{refused_with}
use Rattle.std.specs.Prelude.{Ok}
use Prim.Native.Nat.{ℕ}
use mathlib.Core.List.{List}
use mathlib.Core.Path.{◌≡◌, sym, ap, ◌∙◌}
use Rattle.base.specs.declared.refusal.Refusal.{Refusal}
use Rattle.base.specs.declared.refusal.Refusal.TheVariants.{ShortBuffer}
use Rattle.base.proofs.Tests.{cond_case}
use Rattle.rules.specs.Lists.{Cue, Played}
use Rattle.rules.specs.Readings.{Reading, cues, found, verdict}
use Rattle.rules.specs.Files.{input_count, end_time, inputs_in, read_file, lent_enough}
use Rattle.rules.specs.Runs.{whole, play_file, accepted, refusal, refused, run_call}
use Rattle.rules.proofs.Refusals.Readings.{bad_read, good_read}
use Rattle.rules.proofs.Refusals.Files.{good_file, good_start}
use Rattle.rules.proofs.Refusals.Runs.{a_bad_file_is_refused, a_short_buffer_is_refused, a_good_file_is_played}
use Rattle.sensor.specs.declared.state.Sensor.{Sensor}
use Rattle.pairs.specs.Lists.{Listed, actuator_part}
use Rattle.pairs.specs.Walls.{items_read, WallWhole, wall_accepted, wall_refused, without_sensor}
use Rattle.pairs.proofs.Halves.{plain_items}
use Rattle.pairs.proofs.Reading.{reads_plain, a_plain_list_is_the_actuators}
use Rattle.runs.specs.Runs.{items_in, play_in, ran_in, Fit}

-- what the check of a file has found
unfoldable pub list_in : List ℕ → List Cue
list_in file = found (read_file file)

pub file_passed : (file : List ℕ) → verdict (read_file file) ≡ (Ok tt) → read_file file ≡ cues (list_in file)
unfolding list_in
file_passed file e = good_read (read_file file) e

-- ---- a cue file is a list of items, without edges

module _ (file : List ℕ) (read : read_file file ≡ cues (list_in file)) where
  items_read_lem : items_read file ≡ cues (plain_items (list_in file))
  items_read_lem = reads_plain (inputs_in file) (input_count file) 0 0 (end_time file) (list_in file) (sym (good_start file (good_file file (list_in file) read).start) ∙ read)

  items_are_cues : items_in file ≡ plain_items (list_in file)
  unfolding items_in
  items_are_cues = ap (λ (x : Reading Listed). found x) items_read_lem

  pub file_fits : Fit file
  file_fits = record { start = (good_file file (list_in file) read).start; reads = items_read_lem ∙ ap (λ (l : List Listed). cues l) (sym items_are_cues) }

  -- and its run is the actuator's, whatever sensor stands beside it
  pub played_alone : (z : Sensor) → play_file file (list_in file) ≡ actuator_part (play_in file z)
  unfolding play_in play_file
  played_alone z = rw items_are_cues (sym (a_plain_list_is_the_actuators _ _ z (list_in file) (end_time file)))

-- ---- the run

module _ (file r a : List ℕ) where
  pub run_refused : (why : Refusal) (place : ℕ) → verdict (read_file file) ≡ refused_with why place → whole (refusal why place) r a ≡ run_call file r a
  unfolding refused
  run_refused why place e = sym (a_bad_file_is_refused file r a why place (bad_read (read_file file) why place e))

  -- a checked file is run as a list of items, and the sensor is left out
  pub run_passed : read_file file ≡ cues (list_in file) → (z : Sensor) → without_sensor (ran_in file z r a) ≡ run_call file r a
  unfolding ran_in wall_accepted wall_refused accepted refused
  run_passed read z =
      cond_case (λ (w : WallWhole). without_sensor w ≡ run_call file r a) (lent_enough file r a) (wall_accepted (play_in file z) r a) (wall_refused ShortBuffer 0 r a)
      (λ room. sym (a_good_file_is_played file r a (list_in file) read room ∙ ap (λ (p : Played). accepted p r a) (played_alone file read z)))
      (λ short. sym (a_short_buffer_is_refused file r a (list_in file) read short))
