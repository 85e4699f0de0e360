-- What the definitions test or compute, said a second time as facts: the rows of the versions, ranges, the scene table, which octet is out of
-- range, a sound state, its image, the status octets, the inputs of the promises. That both say the same is proved (proofs/Laws/Forms.antt,
-- Deadlines.antt, Scenes.antt, BadOctets.antt, Facts.antt, Images.antt, Status.antt, proofs/Promises/Inputs.antt), so that a slip in one of them does not
-- pass.
use Rattle.std.specs.Prelude.{ℕ, ◌+◌, ◌*◌, ◌/◌, ◌%◌, ◌≤◌, ◌<◌, Bool, true, false, ◌≡◌, ◌↔◌, ◌⊎◌, List, length, get_or, Some, None}
use Rattle.octets.specs.BigEndian.{octet, be32}
use Rattle.rules.specs.declared.form.Form.{Form}
use Rattle.rules.specs.declared.parameters.Params.{Params}
use Rattle.rules.specs.declared.parameters.Scene.{Scene}
use Rattle.rules.specs.declared.phase.Phase.TheVariants.{Dark, Lit, Starting, Timed, Warning, Ending}
use Rattle.rules.specs.declared.input.Force.TheVariants.{Free, Off, On}
use Rattle.rules.specs.declared.input.Event.TheVariants.{Failure, Return}
use Rattle.rules.specs.declared.input.Input.{Input}
use Rattle.rules.specs.declared.input.Input.TheVariants.{SwitchOnOff, TimedStartStop, NumberedSceneControl, Bus}
use Rattle.rules.specs.declared.state.Link.TheVariants.{Up, BusDown, PowerDown}
use Rattle.rules.specs.declared.state.State.{State}
use Rattle.rules.specs.Inputs.{kind}
use Rattle.rules.specs.Forms.{width, form_of, HasVersion, version, form_in}
use Rattle.rules.specs.Layout.{time_place, modes_at, scenes_at, parameters_size, inputs_at, form_alone}
use Rattle.rules.specs.Parameters.{delay, bad_octet}
use Rattle.rules.specs.Said.{Held}
use Rattle.rules.specs.Scenes.{recalled, learnt}
use Rattle.rules.specs.Phases.{output, deadline}
use Rattle.rules.specs.Status.{value, attributes}
use Rattle.rules.specs.Calls.{unused}
use Rattle.rules.specs.Images.{image}

-- ---- ranges (01, "Time and the cue file")

-- a row in numbers: the version, where the four times, the modes and the scenes stand in the parameters, how many octets these are, and
-- where the inputs stand in a file
pub record Numbers : Type 0 where
  pub version : ℕ
  pub ondelay : ℕ
  pub offdelay : ℕ
  pub timedon : ℕ
  pub prewarning : ℕ
  pub modes : ℕ
  pub scenes : ℕ
  pub size : ℕ
  pub inputs : ℕ

abbrev pub in_numbers : Form → Numbers
in_numbers f =
    record { version = f.version; ondelay = time_place f 0; offdelay = time_place f 1; timedon = time_place f 2; prewarning = time_place f 3; modes = modes_at f; scenes = scenes_at f; size = parameters_size f; inputs = inputs_at f }

-- "version (1)"; "0-1 OnDelay; 2-3 OffDelay; 4-5 TimedOnDuration ..; 6-7 PrewarningDuration; 8 BehaviourAtLocking ..; then eight scene
-- entries"; "Parameters, 32 octets"; "offset of inputs (52)". 02, [2]: "Version 2 files hold the four times as U32 tenths .. in parameter
-- octets 0-15; the rest follows, 40 octets in all, inputs at offset 60"; "parameters alone are told by 32 or 40 octets"
pub record FormsInNumbers : Type 0 where
  pub first : in_numbers (form_of 1) ≡ record { version = 1; ondelay = 0; offdelay = 2; timedon = 4; prewarning = 6; modes = 8; scenes = 16; size = 32; inputs = 52 }
  pub second : in_numbers (form_of 2) ≡ record { version = 2; ondelay = 0; offdelay = 4; timedon = 8; prewarning = 12; modes = 16; scenes = 24; size = 40; inputs = 60 }
  pub of_a_file : (file : List ℕ) → form_in file ≡ form_of (version file)
  pub told_first : (octets : List ℕ) → length octets ≡ 32 → form_alone octets ≡ form_of 1
  pub told_second : (octets : List ℕ) → length octets ≡ 40 → form_alone octets ≡ form_of 2
  pub told_by_no_other : (octets : List ℕ) → length octets ≡ parameters_size (form_alone octets) → (length octets ≡ 32) ⊎ (length octets ≡ 40)

-- "Delays are U16 seconds; a delay of s lasts 10*s tenths."; 02, [2]: "U32 tenths, 0 to 655,350"
pub record Delay (version t : ℕ) : Type 0 where
  pub limit : t ≤ 655_350
  pub seconds : version ≡ 1 → (s : ℕ) × (t ≡ 10 * s)

-- 02, [2]: "A state keeps its version"; "TimedOnDuration, 1 or more"; "8 BehaviourAtLocking (0 keep, 1 off, 2 on); 9 BehaviourAtUnlocking (0 to 2 alike, 3 as before
-- locking); 10 BusFailureMode, 11 BusReturnMode (0 keep, 1 off, 2 on); 12 PowerReturnMode (0 as before the failure, 1 off, 2 on)"
pub record ParamsFit (p : Params) : Type 0 where
  pub version : HasVersion p.version
  pub ondelay : Delay p.version p.ondelay
  pub offdelay : Delay p.version p.offdelay
  pub timedon : Delay p.version p.timedon
  pub prewarning : Delay p.version p.prewarning
  pub some : p.timedon ≡ 0 → ⊥
  pub locking : p.locking ≤ 2
  pub unlocking : p.unlocking ≤ 3
  pub busfailure : p.busfailure ≤ 2
  pub busreturn : p.busreturn ≤ 2
  pub powerreturn : p.powerreturn ≤ 2

-- "number (0 to 63, or 255 for unused) .. Unused entries have flags 0."
abbrev pub EntryFits : Scene → Type 0
EntryFits e = (e.number ≤ 63) ⊎ ((e.number ≡ 255) × (e.value ≡ false) × (e.taught ≡ false))

-- entry n of a table (past its end an unused one)
abbrev pub entry : List Scene → ℕ → Scene
entry k n = get_or k n unused

-- "Used numbers are distinct."
pub record ScenesFit (k : List Scene) : Type 0 where
  pub entries : (n : ℕ) → EntryFits (entry k n)
  pub distinct : (m n : ℕ) → m < n → (entry k m).number ≡ (entry k n).number → (entry k n).number ≡ 255

-- ---- the scene table, entry by entry (01, "What each order does, at t"), for a table in range and a number that an input can have

-- "Scene recall: a used, taught entry acts as On or Off by its value; any other number does nothing."
pub record Recalls (k : List Scene) (number : ℕ) : Type 0 where
  pub taught : (n : ℕ) → (entry k n).number ≡ number → (entry k n).taught ≡ true → recalled k number ≡ Some (entry k n).value
  pub untaught : (n : ℕ) → (entry k n).number ≡ number → (entry k n).taught ≡ false → recalled k number ≡ None
  pub other : ((n : ℕ) → (entry k n).number ≡ number → ⊥) → recalled k number ≡ None

-- "Learn, if enabled and the number is in the table: the entry's value becomes the present output and it is taught."
pub record Learns (k : List Scene) (number : ℕ) (present : Bool) : Type 0 where
  pub value : (n : ℕ) → (entry k n).number ≡ number → (entry (learnt k number present) n).value ≡ present
  pub taught : (n : ℕ) → (entry k n).number ≡ number → (entry (learnt k number present) n).taught ≡ true
  pub numbers : (n : ℕ) → (entry (learnt k number present) n).number ≡ (entry k n).number
  pub others : (n : ℕ) → ((entry k n).number ≡ number → ⊥) → entry (learnt k number present) n ≡ entry k n

-- ---- which octet is out of range

-- a time that is too long, or TimedOn 0
abbrev pub BadTime : Form → List ℕ → ℕ → Type 0
BadTime f octets n = (655_350 < delay f octets n) ⊎ ((n ≡ 2) × (delay f octets n ≡ 0))

-- a number that one of the first n entries has; the table starts at this place
pub record Above (octets : List ℕ) (scenes number n : ℕ) : Type 0 where
  pub earlier : ℕ
  pub before : earlier < n
  pub same : octet octets (scenes + 2 * earlier) ≡ number

-- a number that is neither 0 to 63 nor 255, or that an earlier entry has
abbrev pub BadNumber : List ℕ → ℕ → ℕ → Type 0
BadNumber octets scenes n =
    let number : ℕ = octet octets (scenes + 2 * n) in
    ((63 < number) × (number ≡ 255 → ⊥)) ⊎ ((number ≤ 63) × Above octets scenes number n)

-- flags of an unused entry that are not 0, or of a used one with more than two bits
abbrev pub BadFlags : List ℕ → ℕ → ℕ → Type 0
BadFlags octets scenes n =
    let number : ℕ = octet octets (scenes + 2 * n) in
    let flags : ℕ = octet octets (scenes + 1 + 2 * n) in
    ((number ≡ 255) × (0 < flags)) ⊎ ((number ≡ 255 → ⊥) × (3 < flags))

-- an octet that is out of range exactly when it is greater than this
abbrev pub TooGreat : Form → List ℕ → ℕ → ℕ → Type 0
TooGreat f octets at limit = (bad_octet f octets at ≡ true) ↔ (limit < octet octets at)

-- which octet is out of range, and so the place of refusal 5: "lowest bad octet in 0-31 (TimedOn 0: 4; a repeated scene: the later
-- entry's number)"; 02, [2]: "1, 4 and 5 use the version's sizes and places (a bad time: its first octet; ..)"
pub record BadExactly (f : Form) (octets : List ℕ) : Type 0 where
  pub times : (n : ℕ) → n < 4 → (bad_octet f octets (time_place f n) ≡ true) ↔ BadTime f octets n
  pub within_times : (n k : ℕ) → n < 4 → 0 < k → k < width f.scale → bad_octet f octets (time_place f n + k) ≡ false
  pub locking : TooGreat f octets (modes_at f) 2
  pub unlocking : TooGreat f octets (modes_at f + 1) 3
  pub busfailure : TooGreat f octets (modes_at f + 2) 2
  pub busreturn : TooGreat f octets (modes_at f + 3) 2
  pub powerreturn : TooGreat f octets (modes_at f + 4) 2
  pub learning : TooGreat f octets (modes_at f + 5) 1
  pub zeros : TooGreat f octets (modes_at f + 6) 0 × TooGreat f octets (modes_at f + 7) 0
  pub numbers : (n : ℕ) → (bad_octet f octets (scenes_at f + 2 * n) ≡ true) ↔ BadNumber octets (scenes_at f) n
  pub flags : (n : ℕ) → (bad_octet f octets (scenes_at f + 1 + 2 * n) ≡ true) ↔ BadFlags octets (scenes_at f) n

-- ---- a sound state (01, "Refusal numbers")

-- "A state is sound when its parameters and scenes are in range, the clock is at most 864,000, a deadline lies 1 to 655,350 after the
-- clock, lock or force leaves only Dark or Lit, force without lock agrees with the phase, Lit in night needs lock or force, and power
-- down means Dark with night, lock and force clear."
pub record SoundState (s : State) : Type 0 where
  pub params : ParamsFit s.params
  pub scenes : ScenesFit s.scenes
  pub clock : s.clock ≤ 864_000
  pub soon : (d : ℕ) → deadline s.phase ≡ Some d → (s.clock + 1 ≤ d) × (d ≤ s.clock + 655_350)
  pub steady : Held s.lock s.force → (s.phase ≡ Dark) ⊎ (s.phase ≡ Lit)
  pub decided : s.lock ≡ false → (s.force ≡ Off → s.phase ≡ Dark) × (s.force ≡ On → s.phase ≡ Lit)
  pub ends : s.night ≡ true → s.phase ≡ Lit → Held s.lock s.force
  pub clear : s.link ≡ PowerDown → (s.phase ≡ Dark) × (s.night ≡ false) × (s.lock ≡ false) × (s.force ≡ Free)

-- ---- the image of a state, octet by octet: "every octet with a meaning .., numbers most significant octet first, no padding that may differ"

-- an octet that is 1 where this holds, and 0 where it does not
abbrev pub Tells : ℕ → Bool → Type 0
Tells n b = (b ≡ true → n ≡ 1) × (b ≡ false → n ≡ 0)

pub record ImageInNumbers (s : State) : Type 0 where
  pub size : length (image s) ≡ 56
  pub ondelay : be32 (image s) 0 ≡ s.params.ondelay
  pub offdelay : be32 (image s) 4 ≡ s.params.offdelay
  pub timedon : be32 (image s) 8 ≡ s.params.timedon
  pub prewarning : be32 (image s) 12 ≡ s.params.prewarning
  pub locking : octet (image s) 16 ≡ s.params.locking
  pub unlocking : octet (image s) 17 ≡ s.params.unlocking
  pub busfailure : octet (image s) 18 ≡ s.params.busfailure
  pub busreturn : octet (image s) 19 ≡ s.params.busreturn
  pub powerreturn : octet (image s) 20 ≡ s.params.powerreturn
  pub learning : Tells (octet (image s) 21) s.params.learning
  pub zeros : (octet (image s) 22 ≡ 0) × (octet (image s) 23 ≡ 0)
  pub numbers : (n : ℕ) → n < 8 → octet (image s) (24 + 2 * n) ≡ (entry s.scenes n).number
  pub values : (n : ℕ) → n < 8 → Tells (octet (image s) (25 + 2 * n) % 2) (entry s.scenes n).value
  pub taught : (n : ℕ) → n < 8 → Tells (octet (image s) (25 + 2 * n) / 2) (entry s.scenes n).taught
  pub version : octet (image s) 40 ≡ s.params.version
  pub night : Tells (octet (image s) 41) s.night
  pub lock : Tells (octet (image s) 42) s.lock
  pub free : s.force ≡ Free → octet (image s) 43 ≡ 0
  pub off : s.force ≡ Off → octet (image s) 43 ≡ 2
  pub on : s.force ≡ On → octet (image s) 43 ≡ 3
  pub up : s.link ≡ Up → octet (image s) 44 ≡ 0
  pub busdown : s.link ≡ BusDown → octet (image s) 44 ≡ 1
  pub powerdown : s.link ≡ PowerDown → octet (image s) 44 ≡ 2
  pub atlocking : Tells (octet (image s) 45) s.atlocking
  pub atfailure : Tells (octet (image s) 46) s.atfailure
  pub dark : s.phase ≡ Dark → octet (image s) 47 ≡ 0
  pub lit : s.phase ≡ Lit → octet (image s) 47 ≡ 1
  pub starting : (d : ℕ) → s.phase ≡ Starting false d → octet (image s) 47 ≡ 2
  pub starting_timed : (d : ℕ) → s.phase ≡ Starting true d → octet (image s) 47 ≡ 3
  pub timed : (d : ℕ) → s.phase ≡ Timed d → octet (image s) 47 ≡ 4
  pub warning : (d : ℕ) → s.phase ≡ Warning d → octet (image s) 47 ≡ 5
  pub ending : (d : ℕ) → s.phase ≡ Ending d → octet (image s) 47 ≡ 6
  pub clock : be32 (image s) 48 ≡ s.clock
  pub ends : (d : ℕ) → deadline s.phase ≡ Some d → be32 (image s) 52 ≡ d
  pub lasts : deadline s.phase ≡ None → be32 (image s) 52 ≡ 0

-- octets as many as an image has, none of which says what no state holds
pub record OnlyMeant (octets : List ℕ) : Type 0 where
  pub size : length octets ≡ 56
  pub learning : octet octets 21 ≤ 1
  pub zeros : (octet octets 22 ≡ 0) × (octet octets 23 ≡ 0)
  pub flags : (n : ℕ) → n < 8 → octet octets (25 + 2 * n) ≤ 3
  pub night : octet octets 41 ≤ 1
  pub lock : octet octets 42 ≤ 1
  pub force : (octet octets 43 ≤ 3) × (octet octets 43 ≡ 1 → ⊥)
  pub link : octet octets 44 ≤ 2
  pub atlocking : octet octets 45 ≤ 1
  pub atfailure : octet octets 46 ≤ 1
  pub phase : octet octets 47 ≤ 6
  pub due : octet octets 47 ≤ 1 → be32 octets 52 ≡ 0

-- ---- the status (01, "Records and the printout")

-- "value 0 or 255"; "attributes bit 0 valid (power not down), bit 1 locked, 2 forced, 3 night, 4 staircase (our reading, which decides: Timed
-- or Warning, however entered), 5 to 7 zero"
pub record StatusShows (s : State) : Type 0 where
  pub on : (value s ≡ 255) ↔ (output s.phase ≡ true)
  pub off : (value s ≡ 0) ↔ (output s.phase ≡ false)
  pub valid : (attributes s % 2 ≡ 0) ↔ (s.link ≡ PowerDown)
  pub locked : (attributes s / 2 % 2 ≡ 1) ↔ (s.lock ≡ true)
  pub forced : (attributes s / 4 % 2 ≡ 0) ↔ (s.force ≡ Free)
  pub night : (attributes s / 8 % 2 ≡ 1) ↔ (s.night ≡ true)
  pub staircase : (attributes s / 16 % 2 ≡ 1) ↔ ((d : ℕ) × ((s.phase ≡ Timed d) ⊎ (s.phase ≡ Warning d)))
  pub five_bits : attributes s < 32

-- ---- the inputs that the promises speak of (00, demand 3), by the scene table and the link that they meet

-- a recall of a taught entry of this value
pub record RecallsTo (s : State) (value : Bool) (i : Input) : Type 0 where
  pub number : ℕ
  pub recall : i ≡ NumberedSceneControl false number
  pub found : recalled s.scenes number ≡ Some value

-- "On, timed start or scene-on"
abbrev pub Lights : State → Input → Type 0
Lights s i = (i ≡ SwitchOnOff true) ⊎ (i ≡ TimedStartStop true) ⊎ RecallsTo s true i

-- "Off, timed stop, scene-off, force, lock, bus or power input"
abbrev pub Dims : State → Input → Type 0
Dims s i = (i ≡ SwitchOnOff false) ⊎ (i ≡ TimedStartStop false) ⊎ RecallsTo s false i ⊎ (kind i ≡ 4) ⊎ (kind i ≡ 5) ⊎ (kind i ≡ 7) ⊎ (kind i ≡ 8)

-- "bus event [that] has mode On": "Bus failure from up, return from bus down: the link changes; then the mode"
abbrev pub BusOn : State → Input → Type 0
BusOn s i =
    ((i ≡ Bus Failure) × (s.link ≡ Up) × (s.params.busfailure ≡ 2)) ⊎ ((i ≡ Bus Return) × (s.link ≡ BusDown) × (s.params.busreturn ≡ 2))
