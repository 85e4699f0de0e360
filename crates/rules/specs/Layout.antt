-- Where the parts of a cue file and of the buffer of records stand, and how long they are (01, "Time and the cue file"; 02, [2]), by the row
-- of the file's version: proofs/Laws/Forms.antt has the numbers of each. The places inside the header, an input and a record stand with
-- their readings.
use Rattle.std.specs.Prelude.{ℕ, ◌+◌, ◌*◌, cond, List, length, eqb}
use Rattle.octets.specs.Groups.{group_size}
use Rattle.rules.specs.declared.form.Form.{Form}
use Rattle.rules.specs.Forms.{width, version_one, version_two}

-- "Header, 20 octets of counts and offsets"; "offset of parameters (20)"
abbrev pub parameters_at : ℕ
parameters_at = 20

-- ---- the parameters

-- where time n stands: "0-1 OnDelay; 2-3 OffDelay; 4-5 TimedOnDuration ..; 6-7 PrewarningDuration"; 02: "the four times .. in parameter
-- octets 0-15"
abbrev pub time_place : Form → ℕ → ℕ
time_place f n = width f.scale * n

-- behind the four times: "8 BehaviourAtLocking .." to "14-15 zero"; 02: "the rest follows"
abbrev pub modes_at : Form → ℕ
modes_at f = width f.scale * 4

-- "then eight scene entries of two octets: number .. and flags"
abbrev pub scenes_at : Form → ℕ
scenes_at f = modes_at f + 8

-- where the number and the flags of entry n stand
abbrev pub scene_place : Form → ℕ → ℕ
scene_place f n = scenes_at f + 2 * n

abbrev pub flags_place : Form → ℕ → ℕ
flags_place f n = scenes_at f + 1 + 2 * n

-- "Parameters, 32 octets"; 02: "40 octets in all"
abbrev pub parameters_size : Form → ℕ
parameters_size f = scenes_at f + 16

-- the row of parameters that are offered alone: 02, "parameters alone are told by 32 or 40 octets"
unfoldable pub form_alone : List ℕ → Form
form_alone octets = cond (eqb (length octets) (parameters_size version_two)) version_two version_one

-- ---- the inputs

-- "offset of inputs (52)"; 02: "inputs at offset 60": they follow the parameters, and a file without any ends there (02: "least length 60")
abbrev pub inputs_at : Form → ℕ
inputs_at f = parameters_at + parameters_size f

-- "Refusal numbers": "file under 52 octets"; 02: "version is tested on files of at least 52 octets"
abbrev pub least_file : ℕ
least_file = inputs_at version_one

-- "Input, 8 octets"
abbrev pub input_size : ℕ
input_size = group_size

-- "count n of inputs (0 to 2,048)"
abbrev pub most_inputs : ℕ
most_inputs = 2048

-- where input i stands among the inputs, and so, for the count of all inputs, where they end
abbrev pub input_place : ℕ → ℕ
input_place i = input_size * i

-- "The file is exactly 52+8n octets."
abbrev pub file_size : Form → ℕ → ℕ
file_size f n = inputs_at f + input_place n

-- ---- the records

-- 01, "Records and the printout": "A record is 8 octets"
abbrev pub record_size : ℕ
record_size = 8

-- where record k stands in its buffer
abbrev pub record_place : ℕ → ℕ
record_place k = record_size * k

-- "records, at least 8(3n+3) octets"
abbrev pub records_room : ℕ → ℕ
records_room n = record_place (3 * n + 3)
