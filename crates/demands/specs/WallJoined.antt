-- Item by item (demand 2 over the pair): the run over a wall list as the public calls by value, joined in order: the fresh state and the fresh
-- sensor of the list's parameters, a start record, a joined input for each eight octets, and a clock move of the pair to the end time.
use Rattle.std.specs.Prelude.{ℕ, List, [], ◌∷◌, ◌≡◌, take}
use Rattle.rules.specs.Status.{record_of, by_itself}
use Rattle.rules.specs.Calls.{fresh_call}
use Rattle.rules.specs.Files.{parameters_in, inputs_in}
use Rattle.rules.specs.Changes.{groups_in}
use Rattle.sensor.specs.Calls.{fresh_sensor_call}
use Rattle.sensor.specs.Claims.{told_by}
use Rattle.pairs.specs.declared.call.Joint.{Joint}
use Rattle.pairs.specs.declared.call.JointMove.{JointMove}
use Rattle.pairs.specs.Pairs.{Pair, pair_of}
use Rattle.pairs.specs.Lists.{Listed, PairPlayed, pair_then}
use Rattle.pairs.specs.Calls.{joint_call, joint_move_call}
use Rattle.pairs.specs.Walls.{file_in, actions_in, play_wall}
use Rattle.demands.specs.Joined.{start_of}
use Rattle.demands.specs.Walls.{wall_end}

-- the pair that a call hands back
abbrev pub joint_pair : Joint → Pair
joint_pair r = pair_of r.state r.sensor

-- what a call gave: the records it counts, the answer of an item, and what its eight octets tell that was sent
abbrev pub joint_played : Joint → PairPlayed
joint_played r = record { pair = joint_pair r; answers = r.answer ∷ []; records = take r.count r.records; telegrams = told_by r.sent ∷ [] }

abbrev pub joint_move_played : JointMove → PairPlayed
joint_move_played r = record { pair = pair_of r.state r.sensor; answers = []; records = take r.count r.records; telegrams = [] }

-- joined inputs one after the other, each handed the pair that the one before gave, then a clock move
unfoldable pub joint_calls : ℕ → List (List ℕ) → Pair → PairPlayed
joint_calls end [] p = joint_move_played (joint_move_call p end)
joint_calls end (octets ∷ later) p = pair_then (joint_played (joint_call p octets)) (joint_calls end later)

-- none of them is refused
abbrev pub NoJointRefused : ℕ → List (List ℕ) → Pair → Type 0
NoJointRefused end [] p = (joint_move_call p end).code ≡ 0
NoJointRefused end (octets ∷ later) p = ((joint_call p octets).code ≡ 0) × NoJointRefused end later (joint_pair (joint_call p octets))

-- the calls of a whole wall list. The fresh sensor is handed on as it is: the start record says off at 0, which it knows.
unfoldable pub wall_start_of : List ℕ → Pair
wall_start_of wall = pair_of (start_of (file_in wall)) (fresh_sensor_call (actions_in wall)).sensor

unfoldable pub wall_inputs_in : List ℕ → List (List ℕ)
wall_inputs_in wall = groups_in (inputs_in (file_in wall))

unfoldable pub wall_calls_of : List ℕ → PairPlayed
wall_calls_of wall =
    pair_then (record { pair = wall_start_of wall; answers = []; records = record_of by_itself (start_of (file_in wall)) ∷ []; telegrams = [] })
    (joint_calls (wall_end wall) (wall_inputs_in wall))

-- what the run of an accepted wall list has to do with the public calls
pub record WallJoined (wall : List ℕ) (items : List Listed) : Type 0 where
  pub fresh : (fresh_call (parameters_in (file_in wall))).code ≡ 0
  pub fresh_sensor : (fresh_sensor_call (actions_in wall)).code ≡ 0
  pub accepted : NoJointRefused (wall_end wall) (wall_inputs_in wall) (wall_start_of wall)
  pub joined : play_wall wall items ≡ wall_calls_of wall
