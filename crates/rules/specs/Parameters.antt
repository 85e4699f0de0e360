-- The parameters (01, "Time and the cue file"; 02, [2]): what their octets say, which of them are in range, and what they are refused for.
use Rattle.base.specs.Refusals.{Check, refused_with}
use Rattle.std.specs.Prelude.{ℕ, zero, suc, ◌+◌, ◌-◌, ◌/◌, ◌%◌, Bool, false, cond, not, ◌&&◌, ◌||◌, List, [], ◌∷◌, length, get_or, eqb, leb, ltb, Ok}
use Rattle.octets.specs.BigEndian.{octet, be16, be32}
use Rattle.rules.specs.declared.form.Scale.{Scale}
use Rattle.rules.specs.declared.form.Scale.TheVariants.{Seconds, Tenths}
use Rattle.rules.specs.declared.form.Form.{Form}
use Rattle.rules.specs.declared.parameters.Params.{Params}
use Rattle.rules.specs.declared.parameters.Scene.{Scene}
use Rattle.base.specs.declared.refusal.Refusal.TheVariants.{WrongLength, BadParameter}
use Rattle.base.specs.Time.{tenths, longest_delay}
use Rattle.rules.specs.Forms.{width, unit, form_of, is_version}
use Rattle.rules.specs.Layout.{time_place, parameters_size, modes_at, scenes_at, scene_place, flags_place, form_alone}

-- "Delays are U16 seconds"; 02, [2]: "Version 2 files hold the four times as U32 tenths". "Reading a delay now promises tenths for either
-- version": the time that stands at a place. Seconds become tenths here and nowhere else.
unfoldable pub time_at : Scale → List ℕ → ℕ → ℕ
time_at Seconds octets at = tenths (be16 octets at)
time_at Tenths octets at = be32 octets at

-- time n: 0 OnDelay, 1 OffDelay, 2 TimedOnDuration, 3 PrewarningDuration
unfoldable pub delay : Form → List ℕ → ℕ → ℕ
delay f octets n = time_at f.scale octets (time_place f n)

-- "0-1 OnDelay; 2-3 OffDelay; 4-5 TimedOnDuration, 1 or more; 6-7 PrewarningDuration; 8 BehaviourAtLocking ..; 9 BehaviourAtUnlocking ..;
-- 10 BusFailureMode, 11 BusReturnMode ..; 12 PowerReturnMode ..; 13 SceneLearningModeEnable (0, 1)"; 02, [2]: "the four times .. in parameter
-- octets 0-15; the rest follows"; "A state keeps its version"
unfoldable pub params_of : Form → List ℕ → Params
params_of f octets =
    record {
      version = f.version;
      ondelay = delay f octets 0;
      offdelay = delay f octets 1;
      timedon = delay f octets 2;
      prewarning = delay f octets 3;
      locking = octet octets (modes_at f);
      unlocking = octet octets (modes_at f + 1);
      busfailure = octet octets (modes_at f + 2);
      busreturn = octet octets (modes_at f + 3);
      powerreturn = octet octets (modes_at f + 4);
      learning = eqb (octet octets (modes_at f + 5)) 1;
    }

-- "then eight scene entries of two octets: number (0 to 63, or 255 for unused) and flags (bit 0 value, bit 1 taught in ..)"
unfoldable pub scene_at : List ℕ → ℕ → Scene
scene_at octets at =
    record {
      number = octet octets at;
      value = eqb (octet octets (at + 1) % 2) 1;
      taught = eqb (octet octets (at + 1) / 2 % 2) 1;
    }

unfoldable pub scenes_of : Form → List ℕ → List Scene
scenes_of f octets =
    scene_at octets (scene_place f 0) ∷
    scene_at octets (scene_place f 1) ∷
    scene_at octets (scene_place f 2) ∷
    scene_at octets (scene_place f 3) ∷
    scene_at octets (scene_place f 4) ∷
    scene_at octets (scene_place f 5) ∷
    scene_at octets (scene_place f 6) ∷
    scene_at octets (scene_place f 7) ∷
    []

-- ---- which octets are out of range

-- the greatest value of each of the eight octets behind the times: BehaviourAtLocking "0 keep, 1 off, 2 on", BehaviourAtUnlocking
-- "0 to 2 alike, 3 as before locking", BusFailureMode, BusReturnMode "0 keep, 1 off, 2 on", PowerReturnMode "0 as before
-- the failure, 1 off, 2 on", SceneLearningModeEnable "0, 1", "14-15 zero"
unfoldable pub greatest : List ℕ
greatest = 2 ∷ 3 ∷ 2 ∷ 2 ∷ 2 ∷ 1 ∷ 0 ∷ 0 ∷ []

-- a time that is too long, or TimedOn 0: "TimedOnDuration, 1 or more"; 02, [2]: "0 to 655,350, timed-on at least 1" (U16 seconds are never
-- too long)
unfoldable pub bad_time : Form → List ℕ → ℕ → Bool
bad_time f octets n = ltb longest_delay (delay f octets n) || (eqb n 2 && eqb (delay f octets n) 0)

-- a scene number stands in one of the first n entries
unfoldable pub number_above : Form → List ℕ → ℕ → ℕ → Bool
number_above f octets number zero = false
number_above f octets number (suc n) = eqb (octet octets (scene_place f n)) number || number_above f octets number n

-- the number of entry n: "0 to 63, or 255 for unused", and "Used numbers are distinct" ("a repeated scene: the later entry's number")
unfoldable pub bad_number : Form → List ℕ → ℕ → Bool
bad_number f octets n =
    let number = octet octets (scene_place f n) in
    cond (leb number 63) (number_above f octets number n) (not (eqb number 255))

-- the flags of entry n: "bit 0 value, bit 1 taught in, others zero"; "Unused entries have flags 0"
unfoldable pub bad_flags : Form → List ℕ → ℕ → Bool
bad_flags f octets n =
    let flags = octet octets (flags_place f n) in
    cond (eqb (octet octets (scene_place f n)) 255) (not (eqb flags 0)) (ltb 3 flags)

-- the octet at a place is out of range ("TimedOn 0: 4"; 02, [2]: "a bad time: its first octet")
unfoldable pub bad_octet : Form → List ℕ → ℕ → Bool
bad_octet f octets at =
    cond (ltb at (modes_at f)) (eqb (at % width f.scale) 0 && bad_time f octets (at / width f.scale))
    (cond (ltb at (scenes_at f)) (ltb (get_or greatest (at - modes_at f) 0) (octet octets at))
    (cond (eqb ((at - scenes_at f) % 2) 0) (bad_number f octets ((at - scenes_at f) / 2))
    (bad_flags f octets ((at - scenes_at f) / 2))))

-- ---- what parameters are refused for: 1, then 5 (01, "Refusal numbers")

-- "lowest bad octet": of this many octets, from this place on
unfoldable pub lowest_bad : Form → List ℕ → ℕ → ℕ → Check
lowest_bad f octets zero at = (Ok tt)
lowest_bad f octets (suc left) at = cond (bad_octet f octets at) (refused_with BadParameter at) (lowest_bad f octets left (at + 1))

-- "5 | parameter out of range | lowest bad octet in 0-31"; 02, [2]: "1, 4 and 5 use the version's sizes and places"
unfoldable pub check_parameters : Form → List ℕ → Check
check_parameters f octets = cond (eqb (length octets) (parameters_size f)) (lowest_bad f octets (parameters_size f) 0) (refused_with WrongLength 0)

-- "1 | .. parameters offered alone not 32 | 0"; 02, [2]: "parameters alone are told by 32 or 40 octets"
unfoldable pub check_alone : List ℕ → Check
check_alone octets = check_parameters (form_alone octets) octets

-- ---- the same ranges, of parameters that a state holds, by the version that it keeps

-- a time that this scale can write: whole seconds, U16; 02, [2]: "U32 tenths, 0 to 655,350"
unfoldable pub time_in_range : Scale → ℕ → Bool
time_in_range scale t = leb t longest_delay && eqb (t % unit scale) 0

-- "TimedOnDuration, 1 or more"; 02, [2]: "timed-on at least 1"
unfoldable pub times_in_range : Scale → Params → Bool
times_in_range scale p =
    (time_in_range scale p.ondelay && time_in_range scale p.offdelay) &&
    (time_in_range scale p.timedon && time_in_range scale p.prewarning) &&
    leb (unit scale) p.timedon

-- BehaviourAtLocking "0 keep, 1 off, 2 on", BehaviourAtUnlocking "0 to 2 alike, 3 as before locking", BusFailureMode, BusReturnMode, PowerReturnMode
unfoldable pub modes_in_range : Params → Bool
modes_in_range p =
    (leb p.locking 2 && leb p.unlocking 3) &&
    (leb p.busfailure 2 && leb p.busreturn 2) &&
    leb p.powerreturn 2

-- 02, [2]: "A state keeps its version": no other version is in range, and the times are in range for this one
unfoldable pub params_in_range : Params → Bool
params_in_range p = is_version p.version && times_in_range (form_of p.version).scale p && modes_in_range p
