-- What is asked of any sensor, of the call with four octets and of the call with one input. Ours meets it and no
-- other does (proofs/Meets.antt); wrong ones break it (proofs/WrongSensors.antt).
use Rattle.std.specs.Prelude.{ℕ, ◌≤◌, Bool, false, List, [], ◌∷◌, ◌≡◌, Some}
use Rattle.octets.specs.BigEndian.{octet}
use Rattle.octets.specs.Groups.{stamp_at}
use Rattle.base.specs.Refusals.{Timely}
use Rattle.sensor.specs.declared.action.Action.{Action}
use Rattle.sensor.specs.declared.signal.Signal.{Signal}
use Rattle.sensor.specs.declared.signal.Signal.TheVariants.{Status}
use Rattle.sensor.specs.declared.state.Sensor.{Sensor}
use Rattle.sensor.specs.declared.call.FreshSensor.{FreshSensor}
use Rattle.sensor.specs.declared.call.Sensed.{Sensed}
use Rattle.sensor.specs.Actions.{action_number}
use Rattle.sensor.specs.Signals.{signal_at}
use Rattle.sensor.specs.Reactions.{sends, last_after}
use Rattle.sensor.specs.Calls.{telegram_octets}
use Rattle.sensor.specs.Refusals.{GoodActions, FreshSensorCodes, SensorCodes}
use Rattle.sensor.specs.Claims.{EdgeWith, silence}

-- ---- four octets

abbrev pub Maker : Type 0
Maker = List ℕ → FreshSensor

-- it refuses exactly by the table
abbrev pub JudgesActions : Maker → Type 0
JudgesActions m = (octets : List ℕ) → FreshSensorCodes octets (m octets).code (m octets).place

-- a fresh sensor has the actions of the four octets, its clock is 0 and "the value before any is off"
pub record FreshWith (octets : List ℕ) (z : Sensor) : Type 0 where
  pub rising1 : action_number z.rising1 ≡ octet octets 0
  pub falling1 : action_number z.falling1 ≡ octet octets 1
  pub rising2 : action_number z.rising2 ≡ octet octets 2
  pub falling2 : action_number z.falling2 ≡ octet octets 3
  pub clock : z.clock ≡ 0
  pub value : z.value ≡ false

abbrev pub StartsFresh : Maker → Type 0
StartsFresh m = (octets : List ℕ) → GoodActions octets → FreshWith octets (m octets).sensor

-- a refusal's own sensor is fresh, and no edge does anything
abbrev pub RefusesIdle : Maker → Type 0
RefusesIdle m = (octets : List ℕ) → ((m octets).code ≡ 0 → ⊥) → FreshWith (0 ∷ 0 ∷ 0 ∷ 0 ∷ []) (m octets).sensor

-- all of it
pub record MakerMeets (m : Maker) : Type 0 where
  pub judges : JudgesActions m
  pub starts_fresh : StartsFresh m
  pub refuses_idle : RefusesIdle m

-- ---- one input

abbrev pub Taker : Type 0
Taker = Sensor → List ℕ → Sensed

-- it refuses exactly by the table
abbrev pub JudgesInputs : Taker → Type 0
JudgesInputs m = (z : Sensor) (octets : List ℕ) → SensorCodes z octets (m z octets).code (m z octets).place

-- an input that no row of the table refuses
pub record Accepted (z : Sensor) (octets : List ℕ) (s : Signal) : Type 0 where
  pub sound : z.clock ≤ 864_000
  pub meant : signal_at octets 0 ≡ Some s
  pub timely : Timely z.clock (stamp_at octets 0)

abbrev pub OfEveryAccepted : (Sensor → List ℕ → Signal → Type 0) → Type 0
OfEveryAccepted Claim = (z : Sensor) (octets : List ℕ) (s : Signal) → Accepted z octets s → Claim z octets s

-- an edge sends exactly by its action, with its own stamp, in these octets and no others; a status sends nothing
abbrev pub EdgesSend : Taker → Type 0
EdgesSend m = OfEveryAccepted (λ z octets s. (a : Action) → EdgeWith z a s → (m z octets).sent ≡ telegram_octets (stamp_at octets 0) (sends a z.value))

abbrev pub StatusesSendNothing : Taker → Type 0
StatusesSendNothing m = OfEveryAccepted (λ z octets s. (value : Bool) → s ≡ Status value → (m z octets).sent ≡ silence)

-- what is sent or received is the value from then on; an edge that sends nothing leaves it
abbrev pub KeepsSent : Taker → Type 0
KeepsSent m = OfEveryAccepted (λ z octets s. (a : Action) → EdgeWith z a s → (m z octets).sensor.value ≡ last_after (sends a z.value) z.value)

abbrev pub KeepsReceived : Taker → Type 0
KeepsReceived m = OfEveryAccepted (λ z octets s. (value : Bool) → s ≡ Status value → (m z octets).sensor.value ≡ value)

-- the clock is the stamp, and no action changes
pub record MovedTo (t : ℕ) (z later : Sensor) : Type 0 where
  pub clock : later.clock ≡ t
  pub rising1 : later.rising1 ≡ z.rising1
  pub falling1 : later.falling1 ≡ z.falling1
  pub rising2 : later.rising2 ≡ z.rising2
  pub falling2 : later.falling2 ≡ z.falling2

abbrev pub KeepsActions : Taker → Type 0
KeepsActions m = OfEveryAccepted (λ z octets s. MovedTo (stamp_at octets 0) z (m z octets).sensor)

-- "A refused call .. hands back the state it was given", and sends nothing
abbrev pub RefusesCleanly : Taker → Type 0
RefusesCleanly m = (z : Sensor) (octets : List ℕ) → ((m z octets).code ≡ 0 → ⊥) → ((m z octets).sensor ≡ z) × ((m z octets).place ≡ 0) × ((m z octets).sent ≡ silence)

-- all of it
pub record TakerMeets (m : Taker) : Type 0 where
  pub judges : JudgesInputs m
  pub edges_send : EdgesSend m
  pub statuses_send_nothing : StatusesSendNothing m
  pub keeps_sent : KeepsSent m
  pub keeps_received : KeepsReceived m
  pub keeps_actions : KeepsActions m
  pub refuses_cleanly : RefusesCleanly m
