-- The cue file (01, "Time and the cue file"; 02, [2]), and what it is refused for (01, "Refusal numbers").
use Rattle.rules.specs.declared.input.Input.{Input}
use Rattle.base.specs.Refusals.{Check, refused_with}
use Rattle.std.specs.Prelude.{ℕ, Bool, cond, ◌&&◌, List, length, take, drop, eqb, leb, Some, None, Option}
use Rattle.octets.specs.BigEndian.{be16, be32}
use Rattle.rules.specs.declared.parameters.Params.{Params}
use Rattle.rules.specs.declared.parameters.Scene.{Scene}
use Rattle.base.specs.declared.refusal.Refusal.TheVariants.{WrongLength, WrongVersion, WrongActuators, WrongLayout}
use Rattle.base.specs.Time.{last_stamp}
use Rattle.rules.specs.Forms.{is_version, version, form_in}
use Rattle.rules.specs.Layout.{parameters_at, parameters_size, least_file, inputs_at, most_inputs, input_place, file_size, records_room}
use Rattle.rules.specs.Parameters.{params_of, scenes_of, check_parameters}
use Rattle.rules.specs.Inputs.{input_at}
use Rattle.octets.specs.Groups.{stamp_at}
use Rattle.rules.specs.Lists.{Cue, cue}
use Rattle.rules.specs.Readings.{Reading, read_inputs, after_check, if_lent_enough}

-- ---- "Header, 20 octets of counts and offsets"

-- "0-1 version (1)": Forms.antt. "2-3 count of actuators (1); 4-7 offset of parameters (20); 8-11 count n of inputs (0 to 2,048);
-- 12-15 offset of inputs (52); 16-19 end time (at most 864,000)."
abbrev pub actuators : List ℕ → ℕ
actuators file = be16 file 2

abbrev pub parameters_offset : List ℕ → ℕ
parameters_offset file = be32 file 4

abbrev pub input_count : List ℕ → ℕ
input_count file = be32 file 8

abbrev pub inputs_offset : List ℕ → ℕ
inputs_offset file = be32 file 12

abbrev pub end_time : List ℕ → ℕ
end_time file = be32 file 16

-- the octets of the parameters
unfoldable pub parameters_in : List ℕ → List ℕ
parameters_in file = take (parameters_size (form_in file)) (drop parameters_at file)

-- the octets of the inputs
unfoldable pub inputs_in : List ℕ → List ℕ
inputs_in file = drop (inputs_at (form_in file)) file

-- the parameters and the scene table that the octets say
abbrev pub params_in : List ℕ → Params
params_in file = params_of (form_in file) (parameters_in file)

abbrev pub scenes_in : List ℕ → List Scene
scenes_in file = scenes_of (form_in file) (parameters_in file)

-- "4 | an offset, n, the length or the end time is not as above" ("The file is exactly 52+8n octets."); 02, [2]: "inputs at offset 60"
unfoldable pub layout_right : List ℕ → Bool
layout_right file =
    (eqb (parameters_offset file) parameters_at && leb (input_count file) most_inputs) &&
    (eqb (inputs_offset file) (inputs_at (form_in file)) && leb (end_time file) last_stamp) &&
    eqb (length file) (file_size (form_in file) (input_count file))

-- ---- the whole file: "Order 1, 2, 3, 4, 5; then the first bad input"

-- of a file whose version has a row: "a version 2 file under 60 then gets 1" (02, [2]), then 3, 4 and 5
unfoldable pub check_rest : List ℕ → Check
check_rest file =
    cond (leb (inputs_at (form_in file)) (length file))
    (cond (eqb (actuators file) 1)
    (cond (layout_right file) (check_parameters (form_in file) (parameters_in file))
    (refused_with WrongLayout 0))
    (refused_with WrongActuators 0))
    (refused_with WrongLength 0)

-- 1 to 5, what stands before the inputs: "version is tested on files of at least 52 octets" (02, [2])
unfoldable pub check_start : List ℕ → Check
check_start file =
    cond (leb least_file (length file))
    (cond (is_version (version file)) (check_rest file)
    (refused_with WrongVersion 0))
    (refused_with WrongLength 0)

-- what input i of a list says: an input with its stamp, or nothing
abbrev pub stamped : ℕ → Option Input → Option Cue
stamped stamp (Some x) = Some (cue stamp x)
stamped stamp None = None

unfoldable pub cue_at : List ℕ → ℕ → Option Cue
cue_at inputs i = stamped (stamp_at inputs (input_place i)) (input_at inputs (input_place i))

-- those of a file
abbrev pub cues_read : List ℕ → Reading Cue
cues_read file = read_inputs (cue_at (inputs_in file)) (inputs_in file) (input_count file) 0 0 (end_time file)

unfoldable pub read_file : List ℕ → Reading Cue
read_file file = after_check (check_start file) (cues_read file)

-- ---- the lent buffers: "records, at least 8(3n+3) octets, and answers, at least n"

abbrev pub lent_for : ℕ → List ℕ → List ℕ → Bool
lent_for n records answers = leb (records_room n) (length records) && leb n (length answers)

unfoldable pub lent_enough : List ℕ → List ℕ → List ℕ → Bool
lent_enough file records answers = lent_for (input_count file) records answers

unfoldable pub read_call : List ℕ → List ℕ → List ℕ → Reading Cue
read_call file records answers = if_lent_enough (lent_enough file records answers) (read_file file)
