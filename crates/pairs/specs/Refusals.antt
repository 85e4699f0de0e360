-- "Given exactly when" (01, "Refusal numbers"), of the calls of the pair. Proved in proofs/Refusals/.
use Rattle.std.specs.Prelude.{ℕ, ◌≤◌, true, List, ◌≡◌, length, Some}
use Rattle.octets.specs.Groups.{stamp_at}
use Rattle.base.specs.declared.refusal.Refusal.{Refusal}
use Rattle.base.specs.declared.refusal.Refusal.TheVariants.{WrongLength, ShortBuffer}
use Rattle.base.specs.Refusals.{Only, Then, Codes, Timely, CallCodes}
use Rattle.rules.specs.Soundness.{sound}
use Rattle.rules.specs.Files.{input_count, end_time, inputs_in}
use Rattle.rules.specs.Refusals.{StartWhen, GoodStart, InputsWhen, GoodInputs, RoomFor}
use Rattle.sensor.specs.Refusals.{ActionsWhen, GoodActions}
use Rattle.pairs.specs.declared.item.Item.{Item}
use Rattle.pairs.specs.Items.{item_at}
use Rattle.pairs.specs.Pairs.{Pair}
use Rattle.pairs.specs.Walls.{file_in, actions_in, item_in}

-- not "9": both are sound, and the sensor's clock is not after the actuator's
pub record SoundPair (p : Pair) : Type 0 where
  pub actuator : sound p.actuator ≡ true
  pub sensor : p.sensor.clock ≤ 864_000
  pub behind : p.sensor.clock ≤ p.actuator.clock

-- "9, 6, 7, place 0"
abbrev pub JointCodes : Pair → List ℕ → ℕ → ℕ → Type 0
JointCodes p octets = CallCodes (SoundPair p) ((i : Item) × (item_at octets 0 ≡ Some i)) (Timely p.actuator.clock (stamp_at octets 0))

-- "9, 7"
abbrev pub JointMoveCodes : Pair → ℕ → ℕ → ℕ → Type 0
JointMoveCodes p stamp = CallCodes (SoundPair p) Unit (Timely p.actuator.clock stamp)

-- ---- the wall list

abbrev wall_inputs : List ℕ → List ℕ
wall_inputs wall = inputs_in (file_in wall)

-- 1 for one under 56 octets; then the rows of its cue file, 11 after 5

abbrev pub WallWhen : List ℕ → Refusal → ℕ → Type 0
WallWhen wall =
    Then (Only WrongLength 0 (56 ≤ length wall → ⊥)) (56 ≤ length wall)
    (Then (StartWhen (file_in wall)) (GoodStart (file_in wall))
    (Then (ActionsWhen (actions_in wall)) (GoodActions (actions_in wall))
    (InputsWhen (item_in (wall_inputs wall)) (wall_inputs wall) (input_count (file_in wall)) 0 (end_time (file_in wall)))))

-- no row holds
pub record GoodWall (wall : List ℕ) : Type 0 where
  pub long : 56 ≤ length wall
  pub start : GoodStart (file_in wall)
  pub actions : GoodActions (actions_in wall)
  pub good : GoodInputs (item_in (wall_inputs wall)) (wall_inputs wall) (input_count (file_in wall)) 0 (end_time (file_in wall))

-- "then 8"
abbrev pub WallCodes : List ℕ → List ℕ → List ℕ → ℕ → ℕ → Type 0
WallCodes wall records answers =
    let Room : Type 0 = RoomFor (input_count (file_in wall)) records answers in
    Codes (Then (WallWhen wall) (GoodWall wall) (Only ShortBuffer 0 (Room → ⊥))) (GoodWall wall × Room)
