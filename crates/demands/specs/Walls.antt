-- What is demanded of a run over a wall list, said of any model of it, as specs/Demands.antt says it of a run over a cue file. Ours meets it
-- and no other does (proofs/WallMeets.antt); wrong ones break it (proofs/WrongWalls.antt).
use Rattle.std.specs.Prelude.{ℕ, ◌≤◌, ◌≡◌, ◌⊎◌, List, length}
use Rattle.rules.specs.declared.parameters.Params.{Params}
use Rattle.rules.specs.declared.parameters.Scene.{Scene}
use Rattle.rules.specs.declared.record.Record.{Record}
use Rattle.rules.specs.Lists.{Cue}
use Rattle.rules.specs.Files.{end_time, params_in, scenes_in}
use Rattle.rules.specs.Promises.{DarkShown, LightStamped}
use Rattle.sensor.specs.Sensors.{fresh_sensor, own_sensor}
use Rattle.pairs.specs.Pairs.{Pair}
use Rattle.pairs.specs.Lists.{Listed, PairPlayed, actuator_part, pair_start}
use Rattle.pairs.specs.Halves.{cues_for, given}
use Rattle.pairs.specs.Walls.{file_in, actions_in, read_wall_call, WallWhole, play_wall, without_sensor}
use Rattle.demands.specs.Demands.{Model, RefusesCleanly, StaysWithin, Judges, OfEveryAccepted, Holds, records_of}

-- ---- what a wall list holds

abbrev pub wall_params : List ℕ → Params
wall_params wall = params_in (file_in wall)

abbrev pub wall_scenes : List ℕ → List Scene
wall_scenes wall = scenes_in (file_in wall)

abbrev pub wall_end : List ℕ → ℕ
wall_end wall = end_time (file_in wall)

-- the pair that its parameters start with; it has heard the start record
abbrev pub begun : List ℕ → Pair
begun wall = (pair_start (wall_params wall) (wall_scenes wall) (fresh_sensor (actions_in wall))).pair

-- what its actuator is given, cues and telegrams
abbrev pub cues_given : List ℕ → List Listed → List Cue
cues_given wall items = given (cues_for items (begun wall))

-- ---- a run: from the octets of a wall list and of the two lent buffers to the report and both buffers at exit

abbrev pub WallModel : Type 0
WallModel = List ℕ → List ℕ → List ℕ → WallWhole

-- the same without its sensor, of which the demands of a run over a cue file are asked
abbrev pub actuators_run : WallModel → Model
actuators_run m wall records answers = without_sensor (m wall records answers)

-- 1: "Every octet string .. gets a numbered answer": 0 where it is accepted, 1 to 8, or 11 for an action above 3 (9 is for a state that was
-- handed in)
abbrev pub WallAnswersAll : WallModel → Type 0
WallAnswersAll m = (wall records answers : List ℕ) → ((m wall records answers).report.code ≤ 8) ⊎ ((m wall records answers).report.code ≡ 11)

-- the sensor of a refused call is a refusal's own too
abbrev pub WallRefusesIdle : WallModel → Type 0
WallRefusesIdle m = (wall records answers : List ℕ) → ((m wall records answers).report.code ≡ 0 → ⊥) → (m wall records answers).report.sensor ≡ own_sensor

-- 2: what the pair played: both end states, how much was recorded, and both buffers
pub record WallHolds (lentRecords lentAnswers : List ℕ) (p : PairPlayed) (w : WallWhole) : Type 0 where
  pub actuator : Holds lentRecords lentAnswers (actuator_part p) (without_sensor w)
  pub sensor : w.report.sensor ≡ p.pair.sensor
  pub count : w.report.count ≡ length p.records

abbrev pub WallPlaysAll : WallModel → Type 0
WallPlaysAll m = OfEveryAccepted read_wall_call (λ wall records answers items. WallHolds records answers (play_wall wall items) (m wall records answers))

-- 3: the promises are kept by the records that the model has written, over what the actuator was given: an edge's On or Off counts as On or Off
-- where it is taken
abbrev pub WallKeeps : (Params → List Scene → List Cue → ℕ → List Record → Type 0) → WallModel → Type 0
WallKeeps Promise m =
    OfEveryAccepted read_wall_call (λ wall records answers items. Promise (wall_params wall) (wall_scenes wall) (cues_given wall items) (wall_end wall) (records_of (actuators_run m wall records answers)))

pub record WallMeets (m : WallModel) : Type 0 where
  pub answers_all : WallAnswersAll m
  pub refuses_cleanly : RefusesCleanly (actuators_run m)
  pub refuses_idle : WallRefusesIdle m
  pub stays_within : StaysWithin (actuators_run m)
  pub judges : Judges read_wall_call (actuators_run m)
  pub plays_all : WallPlaysAll m
  pub keeps_dark : WallKeeps DarkShown m
  pub keeps_light : WallKeeps LightStamped m
