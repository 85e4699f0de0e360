-- The eight kinds of input, each with its own value (01, "Time and the cue file").
use Rattle.std.specs.Prelude.{ℕ, ◌+◌, ◌/◌, ◌%◌, true, false, cond, List, eqb, leb, Option, Some, None}
use Rattle.octets.specs.Groups.{kind_at, value_at, ends_in_zeros}
use Rattle.rules.specs.declared.input.Force.{Force}
use Rattle.rules.specs.declared.input.Force.TheVariants.{Free, Off, On}
use Rattle.rules.specs.declared.input.Event.{Event}
use Rattle.rules.specs.declared.input.Event.TheVariants.{Failure, Return}
use Rattle.rules.specs.declared.input.Input.{Input}
use Rattle.rules.specs.declared.input.Input.TheVariants.{SwitchOnOff, TimedStartStop, NumberedSceneControl, SwitchOnOffForced, LockDevice, NightMode, Bus, Power}

-- "1 SwitchOnOff, 2 TimedStartStop, 5 LockDevice (1 locks), 6 NightMode: 0 or 1. 3 scene: .. 4 forced: .. 7 bus and 8 power:
-- 0 failure, 1 return."
abbrev pub kind : Input → ℕ
kind (SwitchOnOff on) = 1
kind (TimedStartStop start) = 2
kind (NumberedSceneControl learn number) = 3
kind (SwitchOnOffForced force) = 4
kind (LockDevice lock) = 5
kind (NightMode night) = 6
kind (Bus event) = 7
kind (Power event) = 8

-- "4 forced: 0 and 1 no control, 2 Off, 3 On." (no control is written as 0)
abbrev pub force_number : Force → ℕ
force_number Free = 0
force_number Off = 2
force_number On = 3

-- the force of this number (proofs/Laws/Answers.antt, `force_back`)
unfoldable pub force_of : ℕ → Force
force_of n = cond (eqb n 2) Off (cond (eqb n 3) On Free)

-- "7 bus and 8 power: 0 failure, 1 return."
abbrev pub event_number : Event → ℕ
event_number Failure = 0
event_number Return = 1

-- "3 scene: .. low six bits the number" (an input of another kind has none)
abbrev pub scene_number : Input → ℕ
scene_number (SwitchOnOff on) = 0
scene_number (TimedStartStop start) = 0
scene_number (NumberedSceneControl learn number) = number
scene_number (SwitchOnOffForced force) = 0
scene_number (LockDevice lock) = 0
scene_number (NightMode night) = 0
scene_number (Bus event) = 0
scene_number (Power event) = 0

-- "each with its own value": the value octet of an input. With the kind it is decoded to that input (proofs/Laws/Inputs.antt
-- `an_input_is_what_its_octets_mean`), where a scene's number is at most 63.
abbrev pub input_value : Input → ℕ
input_value (SwitchOnOff on) = cond on 1 0
input_value (TimedStartStop start) = cond start 1 0
input_value (NumberedSceneControl learn number) = cond learn 128 0 + number
input_value (SwitchOnOffForced force) = force_number force
input_value (LockDevice lock) = cond lock 1 0
input_value (NightMode night) = cond night 1 0
input_value (Bus event) = event_number event
input_value (Power event) = event_number event

-- "0 or 1"
unfoldable pub zero_or_one : ℕ → Input → Input → Option Input
zero_or_one value zero one = cond (eqb value 0) (Some zero) (cond (eqb value 1) (Some one) None)

-- "3 scene: bit 7 set is learn, bit 6 zero, low six bits the number." (DPT 18.001)
unfoldable pub scene_meant : ℕ → Option Input
scene_meant value = cond (eqb (value / 64 % 2) 0) (Some (NumberedSceneControl (eqb (value / 128) 1) (value % 64))) None

-- "4 forced: 0 and 1 no control, 2 Off, 3 On." (DPT 2.001)
unfoldable pub force_meant : ℕ → Option Input
force_meant value =
    cond (leb value 1) (Some (SwitchOnOffForced Free))
    (cond (eqb value 2) (Some (SwitchOnOffForced Off))
    (cond (eqb value 3) (Some (SwitchOnOffForced On)) None))

-- what a kind and a value mean; DPT 1.001 for kind 1, 1.010 for kind 2, 1.003 for kinds 5 and 6; kinds 7 and 8 are ours
unfoldable pub decoded : ℕ → ℕ → Option Input
decoded kind value =
    cond (eqb kind 1) (zero_or_one value (SwitchOnOff false) (SwitchOnOff true))
    (cond (eqb kind 2) (zero_or_one value (TimedStartStop false) (TimedStartStop true))
    (cond (eqb kind 3) (scene_meant value)
    (cond (eqb kind 4) (force_meant value)
    (cond (eqb kind 5) (zero_or_one value (LockDevice false) (LockDevice true))
    (cond (eqb kind 6) (zero_or_one value (NightMode false) (NightMode true))
    (cond (eqb kind 7) (zero_or_one value (Bus Failure) (Bus Return))
    (cond (eqb kind 8) (zero_or_one value (Power Failure) (Power Return))
    None)))))))

-- "Input, 8 octets: 0-3 stamp; 4 kind; 5 value; 6-7 zero." (where they stand: octets, specs/Groups.antt)
unfoldable pub input_at : List ℕ → ℕ → Option Input
input_at octets at = cond (ends_in_zeros octets at) (decoded (kind_at octets at) (value_at octets at)) None
