-- "Given exactly when" (01, "Refusal numbers"), of the sensor's calls. Proved in proofs/Actions.antt, Signals.antt and Calls.antt.
use Rattle.std.specs.Prelude.{ℕ, ◌+◌, ◌≤◌, ◌<◌, List, ◌⊎◌, ◌≡◌, length, Some}
use Rattle.octets.specs.BigEndian.{octet}
use Rattle.octets.specs.Groups.{stamp_at, kind_at, value_at}
use Rattle.base.specs.declared.refusal.Refusal.{Refusal}
use Rattle.base.specs.declared.refusal.Refusal.TheVariants.{WrongLength, BadAction}
use Rattle.base.specs.Refusals.{Only, Codes, Timely, CallCodes}
use Rattle.sensor.specs.declared.signal.Signal.{Signal}
use Rattle.sensor.specs.declared.state.Sensor.{Sensor}
use Rattle.sensor.specs.Signals.{signal_kind, signal_value, signal_at}

-- four actions, none above 3
pub record GoodActions (octets : List ℕ) : Type 0 where
  pub whole : length octets ≡ 4
  pub good : (j : ℕ) → j < 4 → octet octets j ≤ 3

-- the lowest octet above 3
pub record FirstBadAction (octets : List ℕ) (at : ℕ) : Type 0 where
  pub whole : length octets ≡ 4
  pub within : at < 4
  pub bad : 3 < octet octets at
  pub good : (j : ℕ) → j < at → octet octets j ≤ 3

-- 1, then 11; no other row
abbrev pub ActionsWhen : List ℕ → Refusal → ℕ → Type 0
ActionsWhen octets why p = Only WrongLength 0 (length octets ≡ 4 → ⊥) why p ⊎ ((why ≡ BadAction) × FirstBadAction octets p)

abbrev pub FreshSensorCodes : List ℕ → ℕ → ℕ → Type 0
FreshSensorCodes octets = Codes (ActionsWhen octets) (GoodActions octets)

-- "6 | kind, value or zero octet wrong": the octets from a place on are written as this signal is
pub record SignalStands (octets : List ℕ) (at : ℕ) (s : Signal) : Type 0 where
  pub kind : kind_at octets at ≡ signal_kind s
  pub value : value_at octets at ≡ signal_value s
  pub zeros : (octet octets (at + 6) ≡ 0) × (octet octets (at + 7) ≡ 0)

-- "9, 6, 7, place 0"
abbrev pub SensorCodes : Sensor → List ℕ → ℕ → ℕ → Type 0
SensorCodes z octets = CallCodes (z.clock ≤ 864_000) ((s : Signal) × (signal_at octets 0 ≡ Some s)) (Timely z.clock (stamp_at octets 0))
