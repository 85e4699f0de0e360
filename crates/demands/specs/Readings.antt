-- Sentences of 02, [1], that can be read in two ways over the pair. In the table here are those that a short list from the start tells apart:
-- what was sent and what is heard, in which order, and what an edge is answered; with every answer, record and telegram of its run by the
-- reading that is taken. (Checked: proofs/Readings.antt.) In proofs/Readings.antt alone: a pair that is handed in, the stamps, kinds and end
-- of a list, and what counts as a cue. In crates/sensor/proofs/Readings.antt: those of the sensor alone, its octets, codes and edges.
use Rattle.std.specs.Prelude.{ℕ, true, false, List, [], ◌∷◌, Option, Some, None, Bool}
use Rattle.base.specs.Time.{tenths}
use Rattle.rules.specs.declared.parameters.Params.{Params}
use Rattle.rules.specs.declared.input.Event.TheVariants.{Failure, Return}
use Rattle.rules.specs.declared.input.Input.{Input}
use Rattle.rules.specs.declared.input.Input.TheVariants.{SwitchOnOff, TimedStartStop, NightMode, Bus}
use Rattle.rules.specs.declared.record.Record.{Record}
use Rattle.rules.specs.Calls.{no_scenes}
use Rattle.sensor.specs.declared.signal.Edge.TheVariants.{Rising, Falling}
use Rattle.sensor.specs.Sensors.{fresh_sensor}
use Rattle.pairs.specs.declared.item.Item.TheVariants.{Plain, Button1}
use Rattle.pairs.specs.Lists.{Listed, listed, PairPlayed, play_items}

-- OnDelay, OffDelay, TimedOn and Prewarning in seconds, and BusFailureMode; the other modes are 0
abbrev pub times_and_bus : ℕ → ℕ → ℕ → ℕ → ℕ → Params
times_and_bus on off timed warn busfailure =
    record {
      version = 1;
      ondelay = tenths on;
      offdelay = tenths off;
      timedon = tenths timed;
      prewarning = tenths warn;
      locking = 0;
      unlocking = 0;
      busfailure = busfailure;
      busreturn = 0;
      powerreturn = 0;
      learning = false;
    }

abbrev pub times : ℕ → ℕ → ℕ → ℕ → Params
times on off timed warn = times_and_bus on off timed warn 0

-- the rising edge of button 1 toggles, no other edge does anything
abbrev pub toggles : List ℕ
toggles = 3 ∷ 0 ∷ 0 ∷ 0 ∷ []

abbrev pub press_at : ℕ → Listed
press_at t = listed t (Button1 Rising)

abbrev pub release_at : ℕ → Listed
release_at t = listed t (Button1 Falling)

-- an input of the actuator
abbrev given_at : ℕ → Input → Listed
given_at t i = listed t (Plain i)

abbrev pub on_at : ℕ → Listed
on_at t = given_at t (SwitchOnOff true)

abbrev pub timed_at : ℕ → Listed
timed_at t = given_at t (TimedStartStop true)

abbrev pub night_at : ℕ → Listed
night_at t = given_at t (NightMode true)

abbrev pub failure_at : ℕ → Listed
failure_at t = given_at t (Bus Failure)

abbrev pub return_at : ℕ → Listed
return_at t = given_at t (Bus Return)

-- stamp, value, attributes, cause
abbrev rec : ℕ → ℕ → ℕ → ℕ → Record
rec stamp value attributes cause = record { stamp = stamp; value = value; attributes = attributes; cause = cause }

abbrev sends_on : Option Bool
sends_on = Some true

abbrev sends_off : Option Bool
sends_off = Some false

-- what a run shows: an answer and a telegram for each item, and every record
pub record PairShown : Type 0 where
  pub telegrams : List (Option Bool)
  pub answers : List ℕ
  pub records : List Record

-- a case: the parameters, the items, and what they show from the start to 1000
pub record PairCase : Type 0 where
  pub params : Params
  pub items : List Listed
  pub shows : PairShown

abbrev case : Params → List Listed → List (Option Bool) → List ℕ → List Record → PairCase
case params items telegrams answers records = record { params = params; items = items; shows = record { telegrams = telegrams; answers = answers; records = records } }

-- what the pair shows of them
unfoldable pub pair_played : PairCase → PairShown
pair_played c =
    let run : PairPlayed = play_items c.params no_scenes (fresh_sensor toggles) c.items 1000 in
    record { telegrams = run.telegrams; answers = run.answers; records = run.records }

unfoldable pub pair_cases : List PairCase
pair_cases =
    -- "the last value sent": a telegram that the actuator drops was sent. Bus failure 0, press 10 (answer 4), bus return 20, press 30: Off
    case (times 0 0 1 0) (failure_at 0 ∷ press_at 10 ∷ return_at 20 ∷ press_at 30 ∷ [])
    (None ∷ sends_on ∷ None ∷ sends_off ∷ []) (0 ∷ 4 ∷ 0 ∷ 1 ∷ []) (rec 0 0 1 0 ∷ []) ∷
    -- "received as InfoOnOff": a switch input from elsewhere is not heard, only what is recorded. On 0, press 5: On
    case (times 2 0 1 0) (on_at 0 ∷ press_at 5 ∷ [])
    (None ∷ sends_on ∷ []) (0 ∷ 1 ∷ []) (rec 0 0 1 0 ∷ rec 20 255 1 0 ∷ []) ∷
    -- "each record is a status": one in which only attributes changed, too. Press 0, night 5, press 10: On, so that it is lit at 20
    case (times 2 0 60 0) (press_at 0 ∷ night_at 5 ∷ press_at 10 ∷ [])
    (sends_on ∷ None ∷ sends_on ∷ []) (0 ∷ 0 ∷ 1 ∷ []) (rec 0 0 1 0 ∷ rec 5 0 9 6 ∷ rec 20 255 25 0 ∷ rec 620 0 9 0 ∷ []) ∷
    -- the same in night with an off delay: the record of an Off, which ends the staircase, still says 255. Press 10, 100, 120: On Off Off
    case (times 0 5 60 10) (night_at 0 ∷ press_at 10 ∷ press_at 100 ∷ press_at 120 ∷ [])
    (None ∷ sends_on ∷ sends_off ∷ sends_off ∷ []) (0 ∷ 0 ∷ 0 ∷ 1 ∷ []) (rec 0 0 1 0 ∷ rec 0 0 9 6 ∷ rec 10 255 25 1 ∷ rec 100 255 9 1 ∷ rec 150 0 9 0 ∷ []) ∷
    -- "whichever is later", at one stamp: in the order of happening, so that the record of an Off is later than the Off. Press 10, 100, 100: On Off Off
    case (times 0 5 60 10) (night_at 0 ∷ press_at 10 ∷ press_at 100 ∷ press_at 100 ∷ [])
    (None ∷ sends_on ∷ sends_off ∷ sends_off ∷ []) (0 ∷ 0 ∷ 0 ∷ 1 ∷ []) (rec 0 0 1 0 ∷ rec 0 0 9 6 ∷ rec 10 255 25 1 ∷ rec 100 255 9 1 ∷ rec 150 0 9 0 ∷ []) ∷
    -- "the actuator's clock first moves to an edge's stamp": a timer due then is heard before the edge is decided. Timed start 0, press 10: On
    case (times 0 0 1 0) (timed_at 0 ∷ press_at 10 ∷ [])
    (None ∷ sends_on ∷ []) (0 ∷ 0 ∷ []) (rec 0 0 1 0 ∷ rec 0 255 17 2 ∷ rec 10 0 1 0 ∷ rec 10 255 1 1 ∷ []) ∷
    -- also before an edge that does nothing
    case (times 0 0 1 0) (timed_at 0 ∷ release_at 10 ∷ press_at 10 ∷ [])
    (None ∷ None ∷ sends_on ∷ []) (0 ∷ 1 ∷ 0 ∷ []) (rec 0 0 1 0 ∷ rec 0 255 17 2 ∷ rec 10 0 1 0 ∷ rec 10 255 1 1 ∷ []) ∷
    -- "heard before the next edge": each record once, where it was written. Press 0, 20, 30: the light of 20 comes before the Off of 20, so that 30 is On
    case (times 2 5 1 0) (press_at 0 ∷ press_at 20 ∷ press_at 30 ∷ [])
    (sends_on ∷ sends_off ∷ sends_on ∷ []) (0 ∷ 0 ∷ 0 ∷ []) (rec 0 0 1 0 ∷ rec 20 255 1 0 ∷ []) ∷
    -- however many timers there were between two edges: dark since 80, and so press 100 is On
    case (times 0 0 6 1) (night_at 0 ∷ press_at 10 ∷ press_at 100 ∷ [])
    (None ∷ sends_on ∷ sends_on ∷ []) (0 ∷ 0 ∷ 0 ∷ []) (rec 0 0 1 0 ∷ rec 0 0 9 6 ∷ rec 10 255 25 1 ∷ rec 80 0 9 0 ∷ rec 100 255 25 1 ∷ rec 170 0 9 0 ∷ []) ∷
    -- "each record", with the bus down too: BusFailureMode on, failure 10, press 20: Off, answered 4
    case (times_and_bus 0 0 1 0 2) (failure_at 10 ∷ press_at 20 ∷ [])
    (None ∷ sends_off ∷ []) (0 ∷ 4 ∷ []) (rec 0 0 1 0 ∷ rec 10 255 1 7 ∷ []) ∷
    -- an answer for each item: 1 for an edge that sends nothing
    case (times 0 0 1 0) (release_at 5 ∷ [])
    (None ∷ []) (1 ∷ []) (rec 0 0 1 0 ∷ []) ∷
    []
