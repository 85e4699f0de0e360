-- Two versions of one show (02, [2]): a file of version 1, and the file of version 2 that says the same, its times in tenths. What is claimed
-- of them is proved in proofs/Alike.antt, proofs/Versions.antt and proofs/WallVersions.antt.
use Rattle.std.specs.Prelude.{ℕ, ◌+◌, ◌<◌, List, ◌≡◌, length, drop}
use Rattle.rules.specs.declared.parameters.Params.{Params}
use Rattle.rules.specs.declared.state.State.{State}
use Rattle.rules.specs.Forms.{version_one, version_two, version}
use Rattle.rules.specs.Parameters.{delay}
use Rattle.rules.specs.Lists.{Played}
use Rattle.rules.specs.Files.{actuators, parameters_offset, input_count, inputs_offset, end_time, parameters_in}
use Rattle.rules.specs.Runs.{Whole}
use Rattle.pairs.specs.Pairs.{Pair, pair_of}
use Rattle.pairs.specs.Lists.{PairPlayed}
use Rattle.pairs.specs.Walls.{WallWhole, without_sensor}

-- ---- all but the version

abbrev pub of_version : ℕ → Params → Params
of_version v p =
    record { version = v; ondelay = p.ondelay; offdelay = p.offdelay; timedon = p.timedon; prewarning = p.prewarning; locking = p.locking; unlocking = p.unlocking; busfailure = p.busfailure; busreturn = p.busreturn; powerreturn = p.powerreturn; learning = p.learning }

abbrev pub in_version : ℕ → State → State
in_version v s =
    record { params = of_version v s.params; scenes = s.scenes; clock = s.clock; night = s.night; lock = s.lock; force = s.force; link = s.link; atlocking = s.atlocking; atfailure = s.atfailure; phase = s.phase }

-- what was played of one version, and the same of another
pub record PlayedAlike (v : ℕ) (old new : Played) : Type 0 where
  pub state : new.state ≡ in_version v old.state
  pub answers : new.answers ≡ old.answers
  pub records : new.records ≡ old.records

-- the same of an actuator with a sensor beside it
abbrev pub pair_in_version : ℕ → Pair → Pair
pair_in_version v p = pair_of (in_version v p.actuator) p.sensor

pub record PairPlayedAlike (v : ℕ) (old new : PairPlayed) : Type 0 where
  pub pair : new.pair ≡ pair_in_version v old.pair
  pub answers : new.answers ≡ old.answers
  pub records : new.records ≡ old.records
  pub telegrams : new.telegrams ≡ old.telegrams

-- ---- files

-- A file of version 1 and one of version 2 whose times are the same tenths: "Version 2 files hold the four times as U32 tenths .. in parameter
-- octets 0-15; the rest follows, 40 octets in all, inputs at offset 60".
pub record SameShow (old new : List ℕ) : Type 0 where
  pub first : version old ≡ 1
  pub second : version new ≡ 2
  pub actuators : actuators new ≡ actuators old
  pub parameters : parameters_offset new ≡ parameters_offset old
  pub count : input_count new ≡ input_count old
  pub inputs : inputs_offset new ≡ inputs_offset old + 8
  pub end : end_time new ≡ end_time old
  pub size : length new ≡ length old + 8
  pub times : (n : ℕ) → n < 4 → delay version_two (parameters_in new) n ≡ delay version_one (parameters_in old) n
  -- modes and scenes, from octet 28 of the one and 36 of the other; then the inputs
  pub rest : drop 36 new ≡ drop 28 old

-- the same run but for the version of its state: code, place, record count, and both buffers
pub record RanAlike (v : ℕ) (old new : Whole) : Type 0 where
  pub state : new.report.state ≡ in_version v old.report.state
  pub code : new.report.code ≡ old.report.code
  pub place : new.report.place ≡ old.report.place
  pub count : new.report.count ≡ old.report.count
  pub records : new.records ≡ old.records
  pub answers : new.answers ≡ old.answers

-- and with the same sensor beside it
pub record WallRanAlike (v : ℕ) (old new : WallWhole) : Type 0 where
  pub actuator : RanAlike v (without_sensor old) (without_sensor new)
  pub sensor : new.report.sensor ≡ old.report.sensor
