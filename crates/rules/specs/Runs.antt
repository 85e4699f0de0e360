-- The run over a cue file: its whole result, for every octet string and every pair of lent buffers (01, "Records and the printout").
use Rattle.std.specs.Prelude.{ℕ, ◌+◌, ◌*◌, ◌^◌, List, [], ◌∷◌, ◌++◌, length, drop}
use Rattle.octets.specs.BigEndian.{octets32}
use Rattle.rules.specs.declared.record.Record.{Record}
use Rattle.base.specs.declared.refusal.Refusal.{Refusal}
use Rattle.rules.specs.declared.call.Ran.{Ran}
use Rattle.rules.specs.Lists.{Cue, Played, play_list}
use Rattle.base.specs.Refusals.{number}
use Rattle.rules.specs.Calls.{own_state}
use Rattle.rules.specs.Readings.{Reading, cues, bad}
use Rattle.rules.specs.Files.{end_time, read_call, params_in, scenes_in}

-- "A record is 8 octets: stamp, value, attributes, cause, zero." "Numbers are most significant octet first."
unfoldable pub record_octets : Record → List ℕ
record_octets r =
    octets32 r.stamp ++ (r.value ∷ r.attributes ∷ r.cause ∷ 0 ∷ [])

unfoldable pub records_octets : List Record → List ℕ
records_octets [] = []
records_octets (r ∷ later) = record_octets r ++ records_octets later

-- "Octets past what is written stay."
unfoldable pub over : List ℕ → List ℕ → List ℕ
over written buffer = written ++ drop (length written) buffer

-- what a run comes to: the report, and the whole contents of both buffers
pub record Whole : Type 0 where
  pub report : Ran
  pub records : List ℕ
  pub answers : List ℕ

-- as the code hands them out
abbrev pub whole : Ran → List ℕ → List ℕ → Whole
whole r records answers = record { report = r; records = records; answers = answers }

-- what the cues of a file give: its own parameters and scenes, played to its end time
unfoldable pub play_file : List ℕ → List Cue → Played
play_file file list = play_list (params_in file) (scenes_in file) list (end_time file)

-- what was played stands at the front of the buffers, and the count tells how many records do
abbrev pub handed_out : Played → ℕ → ℕ → List ℕ → List ℕ → Whole
handed_out p code place records answers =
    record {
      report = record { state = p.state; code = code; place = place; count = length p.records };
      records = over (records_octets p.records) records;
      answers = over p.answers answers;
    }

unfoldable pub accepted : Played → List ℕ → List ℕ → Whole
accepted p records answers = handed_out p 0 0 records answers

-- "Where no state was handed in, a refusal's state is the fresh one .."
abbrev pub refusal : Refusal → ℕ → Ran
refusal why place = record { state = own_state; code = number why; place = place; count = 0 }

-- "A refused call writes nothing to the lent memory"
unfoldable pub refused : Refusal → ℕ → List ℕ → List ℕ → Whole
refused why place records answers = record { report = refusal why place; records = records; answers = answers }

unfoldable pub run_by : Reading Cue → List ℕ → List ℕ → List ℕ → Whole
run_by (cues list) file records answers = accepted (play_file file list) records answers
run_by (bad why place) file records answers = refused why place records answers

unfoldable pub run_call : List ℕ → List ℕ → List ℕ → Whole
run_call file records answers = run_by (read_call file records answers) file records answers

-- "To C it answers one 64-bit number, code*2^48 + place*2^32 + record count"
abbrev pub packing : ℕ → ℕ → ℕ → ℕ
packing code place count = code * 2 ^ 48 + place * 2 ^ 32 + count

unfoldable pub packed : Ran → ℕ
packed r = packing r.code r.place r.count

-- the number, and both buffers
pub record Answered : Type 0 where
  pub number : ℕ
  pub records : List ℕ
  pub answers : List ℕ

-- as the code hands them out
abbrev pub answered : ℕ → List ℕ → List ℕ → Answered
answered n records answers = record { number = n; records = records; answers = answers }

unfoldable pub answered_by : Whole → Answered
answered_by w = record { number = packed w.report; records = w.records; answers = w.answers }

unfoldable pub house_run : List ℕ → List ℕ → List ℕ → Answered
house_run file records answers = answered_by (run_call file records answers)
