-- Our run over a wall list meets what is demanded of it, and no other does.
use Prim.Native.Nat.{ℕ, ◌≤◌}
use mathlib.Core.Bool.{true}
use mathlib.Core.Path.{◌≡◌, refl, sym, ap, ◌∙◌}
use mathlib.Core.Logic.{◌⊎◌, inl, inr}
use mathlib.Core.List.{List}
use native.Mathlib.Omega.{arith}
use lib.ListN.{length}
use Rattle.base.specs.declared.refusal.Refusal.{Refusal}
use Rattle.base.specs.Refusals.{number}
use Rattle.rules.specs.declared.parameters.Params.{Params}
use Rattle.rules.specs.declared.parameters.Scene.{Scene}
use Rattle.rules.specs.declared.record.Record.{Record}
use Rattle.rules.specs.Lists.{Cue}
use Rattle.rules.specs.Readings.{Reading, cues, bad, verdict}
use Rattle.rules.specs.Files.{input_count, lent_enough}
use Rattle.rules.specs.Promises.{DarkShown, LightStamped}
use Rattle.pairs.specs.Lists.{Listed, actuator_part}
use Rattle.pairs.specs.Walls.{file_in, read_wall, read_wall_call, WallWhole, play_wall, wall_accepted, wall_refused, wall_call, without_sensor}
use Rattle.pairs.specs.Refusals.{WallWhen}
use Rattle.pairs.proofs.Refusals.Walls.{wall_decides, WallFinds, at_fault, no_room, played, wall_finds, wall_is_read, a_good_wall_is_played, a_refused_wall_writes_nothing, wall_count, wall_answers_are_n}
use Rattle.demands.specs.Demands.{RefusesCleanly, StaysWithin, records_of}
use Rattle.demands.specs.Walls.{wall_params, wall_scenes, wall_end, cues_given, WallModel, actuators_run, WallAnswersAll, WallRefusesIdle, WallPlaysAll, WallKeeps, WallMeets}
use Rattle.demands.proofs.WallShown.{dark_shown_in_every_accepted_wall, light_stamped_in_every_accepted_wall}
use Rattle.demands.proofs.Meets.{start_numbered, inputs_numbered, records_read_back, stays_as_long, if_accepted, not_zero, Settled, settled_is_one}

-- ---- of every octet string

wall_numbered : (wall : List ℕ) (why : Refusal) (place : ℕ) → WallWhen wall why place → (number why ≤ 8) ⊎ (number why ≡ 11)
wall_numbered wall why place (inl short) = inl (rw short.0 (omega arith))
wall_numbered wall why place (inr (long, inl start)) = inl (start_numbered (file_in wall) why place start)
wall_numbered wall why place (inr (long, inr (start, inl (inl short)))) = inl (rw short.0 (omega arith))
wall_numbered wall why place (inr (long, inr (start, inl (inr action)))) = inr (rw action.0 refl)
wall_numbered wall why place (inr (long, inr (start, inr (actions, input)))) = inl (inputs_numbered _ _ _ _ _ why place input)

our_wall_run_answers_all : WallAnswersAll wall_call
our_wall_run_answers_all wall records answers = by (wall_finds wall records answers)
  where
    by : {w : WallWhole} → WallFinds wall records answers w → (w.report.code ≤ 8) ⊎ (w.report.code ≡ 11)
    by (at_fault why place read) = unfold wall_refused in wall_numbered wall why place (((wall_decides wall).refused why place).0 (ap verdict read))
    by (no_room items read room) = unfold wall_refused in inl (omega arith)
    by (played items read room) = unfold wall_accepted in inl (omega arith)

-- state and sensor of a refused one are a refusal's own
our_wall_run_refuses_cleanly : RefusesCleanly (actuators_run wall_call)
our_wall_run_refuses_cleanly wall records answers refused =
    rw (a_refused_wall_writes_nothing wall records answers refused) (record { records = refl; answers = refl; count = refl; state = refl })

our_wall_run_refuses_idle : WallRefusesIdle wall_call
our_wall_run_refuses_idle wall records answers refused = rw (a_refused_wall_writes_nothing wall records answers refused)

our_wall_run_stays_within : StaysWithin (actuators_run wall_call)
our_wall_run_stays_within wall records answers = by (wall_finds wall records answers) refl
  where
    by : {w : WallWhole} → WallFinds wall records answers w → wall_call wall records answers ≡ w → (length w.records ≡ length records) × (length w.answers ≡ length answers)
    by (at_fault why place read) e = unfold wall_refused in (refl, refl)
    by (no_room items read room) e = unfold wall_refused in (refl, refl)
    by (played items read room) e =
        let few = rw e at (wall_count wall records answers items read room).1 in
        unfold wall_accepted lent_enough in stays_as_long (input_count (file_in wall)) _ _ records answers room few (wall_answers_are_n wall records answers items read room).0

-- ---- of every accepted run

module _ (wall records answers : List ℕ) (items : List Listed) (read : read_wall_call wall records answers ≡ cues items) where
  -- the list is accepted, and there is room
  wall_accepted_lem : (read_wall wall ≡ cues items) × (lent_enough (file_in wall) records answers ≡ true)
  unfolding read_wall_call
  wall_accepted_lem = if_accepted (lent_enough (file_in wall) records answers) (read_wall wall) items read

  our_wall_run_is_played : wall_call wall records answers ≡ wall_accepted (play_wall wall items) records answers
  our_wall_run_is_played = a_good_wall_is_played wall records answers items wall_accepted_lem.0 wall_accepted_lem.1

  pub our_wall_records : records_of (actuators_run wall_call wall records answers) ≡ (play_wall wall items).records
  unfolding wall_accepted
  our_wall_records = ap (λ (w : WallWhole). records_of (without_sensor w)) our_wall_run_is_played ∙ records_read_back (play_wall wall items).records records

our_wall_run_plays_all : WallPlaysAll wall_call
unfolding wall_accepted
our_wall_run_plays_all wall records answers items read =
    rw (our_wall_run_is_played wall records answers items read) (record { actuator = record { state = refl; records = refl; answers = refl }; sensor = refl; count = refl })

-- what the records of every accepted list keep
our_wall_run_keeps : (Promise : Params → List Scene → List Cue → ℕ → List Record → Type 0) →
    ((wall : List ℕ) (items : List Listed) → read_wall wall ≡ cues items → Promise (wall_params wall) (wall_scenes wall) (cues_given wall items) (wall_end wall) (play_wall wall items).records) →
    WallKeeps Promise wall_call
our_wall_run_keeps Promise kept wall records answers items read = rw (our_wall_records wall records answers items read) (kept wall items (wall_accepted_lem wall records answers items read).0)

pub our_wall_run_meets_every_demand : WallMeets wall_call
our_wall_run_meets_every_demand =
    record {
      answers_all = our_wall_run_answers_all;
      refuses_cleanly = our_wall_run_refuses_cleanly;
      refuses_idle = our_wall_run_refuses_idle;
      stays_within = our_wall_run_stays_within;
      judges = wall_is_read;
      plays_all = our_wall_run_plays_all;
      keeps_dark = our_wall_run_keeps DarkShown dark_shown_in_every_accepted_wall;
      keeps_light = our_wall_run_keeps LightStamped light_stamped_in_every_accepted_wall;
    }

-- ---- and no other does

with_its_sensor : (w x : WallWhole) → without_sensor w ≡ without_sensor x → w.report.sensor ≡ x.report.sensor → w ≡ x
with_its_sensor w x same sensor =
    λ i. record { report = record { state = (same i).report.state; sensor = sensor i; code = (same i).report.code; place = (same i).report.place; count = (same i).report.count }; records = (same i).records; answers = (same i).answers }

-- any two that meet it are equal at every input
module _ (wall records answers : List ℕ) where
  settled : (m : WallModel) → WallMeets m →
      Settled (read_wall_call wall records answers) (λ items. actuator_part (play_wall wall items)) (λ items. length (play_wall wall items).records) records answers (actuators_run m wall records answers)
  settled m f = record { judged = f.judges wall records answers; refused = f.refuses_cleanly wall records answers; played = λ items read. (f.plays_all wall records answers items read).actuator; counted = λ items read. (f.plays_all wall records answers items read).count }

  one_sensor : (m n : WallModel) → WallMeets m → WallMeets n → (m wall records answers).report.sensor ≡ (n wall records answers).report.sensor
  one_sensor m n f g = by (read_wall_call wall records answers) refl
    where
      by : (x : Reading Listed) → read_wall_call wall records answers ≡ x → (m wall records answers).report.sensor ≡ (n wall records answers).report.sensor
      by (cues items) read = (f.plays_all wall records answers items read).sensor ∙ sym (g.plays_all wall records answers items read).sensor
      by (bad why place) read =
          f.refuses_idle wall records answers (not_zero _ why place _ read (f.judges wall records answers).0) ∙ sym (g.refuses_idle wall records answers (not_zero _ why place _ read (g.judges wall records answers).0))

pub no_second_wall_run_meets_every_demand : (m n : WallModel) → WallMeets m → WallMeets n → (wall records answers : List ℕ) → m wall records answers ≡ n wall records answers
no_second_wall_run_meets_every_demand m n f g wall records answers =
    with_its_sensor _ _ (settled_is_one _ _ (settled wall records answers m f) (settled wall records answers n g)) (one_sensor wall records answers m n f g)

pub no_other_wall_run_meets_every_demand : (m : WallModel) → WallMeets m → (wall records answers : List ℕ) → m wall records answers ≡ wall_call wall records answers
no_other_wall_run_meets_every_demand m meets = no_second_wall_run_meets_every_demand m wall_call meets our_wall_run_meets_every_demand
