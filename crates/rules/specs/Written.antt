-- How parameters, a header and an input are written (01, "Time and the cue file"; 02, [2]): the other way round than Parameters.antt, Inputs.antt and
-- Files.antt read them. proofs/Laws/Written.antt proves that what is written so is accepted and read back as itself, and that accepted
-- parameters and inputs are written in no other way.
use Rattle.std.specs.Prelude.{ℕ, ◌+◌, ◌/◌, ◌≤◌, cond, List, [], ◌∷◌, ◌++◌, ◌⊎◌, ◌≡◌}
use Rattle.octets.specs.BigEndian.{octet, octets16, octets32}
use Rattle.rules.specs.declared.form.Scale.{Scale}
use Rattle.rules.specs.declared.form.Scale.TheVariants.{Seconds, Tenths}
use Rattle.rules.specs.declared.form.Form.{Form}
use Rattle.rules.specs.declared.parameters.Params.{Params}
use Rattle.rules.specs.declared.parameters.Scene.{Scene}
use Rattle.rules.specs.declared.input.Force.TheVariants.{Free}
use Rattle.rules.specs.declared.input.Input.{Input}
use Rattle.rules.specs.declared.input.Input.TheVariants.{SwitchOnOffForced}
use Rattle.rules.specs.Inputs.{kind, scene_number, input_value}
use Rattle.rules.specs.Status.{bit}

-- "Delays are U16 seconds; a delay of s lasts 10*s tenths."; 02, [2]: "the four times as U32 tenths"
abbrev pub delay_octets : Scale → ℕ → List ℕ
delay_octets Seconds t = octets16 (t / 10)
delay_octets Tenths t = octets32 t

-- "0-1 OnDelay; 2-3 OffDelay; 4-5 TimedOnDuration, 1 or more; 6-7 PrewarningDuration"; 02, [2]: "in parameter octets 0-15"
abbrev pub times_octets : Scale → Params → List ℕ
times_octets s p = delay_octets s p.ondelay ++ (delay_octets s p.offdelay ++ (delay_octets s p.timedon ++ delay_octets s p.prewarning))

-- "8 BehaviourAtLocking ..; 9 BehaviourAtUnlocking ..; 10 BusFailureMode, 11 BusReturnMode ..; 12 PowerReturnMode ..; 13 SceneLearningModeEnable
-- (0, 1); 14-15 zero"; 02, [2]: "the rest follows"
abbrev pub mode_octets : Params → List ℕ
mode_octets p = p.locking ∷ p.unlocking ∷ p.busfailure ∷ p.busreturn ∷ p.powerreturn ∷ cond p.learning 1 0 ∷ 0 ∷ 0 ∷ []

-- "number (0 to 63, or 255 for unused) and flags (bit 0 value, bit 1 taught in, others zero)"
abbrev pub flags_octet : Scene → ℕ
flags_octet e = bit e.value 1 + bit e.taught 2

abbrev pub scenes_octets : List Scene → List ℕ
scenes_octets [] = []
scenes_octets (e ∷ later) = e.number ∷ flags_octet e ∷ scenes_octets later

-- "Parameters, 32 octets: .. then eight scene entries of two octets"; 02, [2]: "40 octets in all"
abbrev pub parameters_octets : Form → Params → List Scene → List ℕ
parameters_octets f p k = times_octets f.scale p ++ (mode_octets p ++ scenes_octets k)

-- "Header, 20 octets of counts and offsets: 0-1 version (1); 2-3 count of actuators (1); 4-7 offset of parameters (20); 8-11 count n of
-- inputs (0 to 2,048); 12-15 offset of inputs (52); 16-19 end time (at most 864,000)."; 02, [2]: "inputs at offset 60"
abbrev pub header_octets : ℕ → ℕ → ℕ → ℕ → List ℕ
header_octets version inputs n end = octets16 version ++ (octets16 1 ++ (octets32 20 ++ (octets32 n ++ (octets32 inputs ++ octets32 end))))

-- "each with its own value": a value octet of an input ("4 forced: 0 and 1 no control")
abbrev pub ValueOf : Input → ℕ → Type 0
ValueOf i v = (v ≡ input_value i) ⊎ ((i ≡ SwitchOnOffForced Free) × (v ≡ 1))

-- "Input, 8 octets: 0-3 stamp; 4 kind; 5 value; 6-7 zero."; "3 scene: .. low six bits the number"
pub record InputStands (octets : List ℕ) (at : ℕ) (i : Input) : Type 0 where
  pub kind : octet octets (at + 4) ≡ kind i
  pub value : ValueOf i (octet octets (at + 5))
  pub zeros : (octet octets (at + 6) ≡ 0) × (octet octets (at + 7) ≡ 0)
  pub six_bits : scene_number i ≤ 63
