-- No second result fits a public call: its contract is one equation for its whole result, so two results that meet it are equal.
use Prim.Native.Nat.{ℕ}
use mathlib.Core.List.{List}
use mathlib.Core.Path.{◌≡◌, sym, ◌∙◌}
use Rattle.rules.specs.declared.state.State.{State}
use Rattle.rules.specs.declared.call.Fresh.{Fresh}
use Rattle.rules.specs.declared.call.Single.{Single}
use Rattle.rules.specs.declared.call.Move.{Move}
use Rattle.rules.specs.Calls.{fresh_call, single_call, move_call}
use Rattle.rules.specs.Runs.{Whole, Answered, run_call, house_run}
use Rattle.rules.specs.Changes.{change_call}
use Rattle.rules.specs.Live.{Imaged, ImagedMove, ImagedRun, house_fresh, house_change, house_move, house_run_to}
use Rattle.pairs.specs.declared.call.Joint.{Joint}
use Rattle.pairs.specs.declared.call.JointMove.{JointMove}
use Rattle.pairs.specs.Pairs.{Pair}
use Rattle.pairs.specs.Calls.{joint_call, joint_move_call}
use Rattle.pairs.specs.Walls.{WallWhole, wall_call, house_wall_run}

pub no_second_fresh_state : (octets : List ℕ) (one other : Fresh) → one ≡ fresh_call octets → other ≡ fresh_call octets → one ≡ other
no_second_fresh_state octets one other p q = p ∙ sym q

pub no_second_single_input : (s : State) (octets : List ℕ) (one other : Single) → one ≡ single_call s octets → other ≡ single_call s octets → one ≡ other
no_second_single_input s octets one other p q = p ∙ sym q

pub no_second_clock_move : (s : State) (stamp : ℕ) (one other : Move) → one ≡ move_call s stamp → other ≡ move_call s stamp → one ≡ other
no_second_clock_move s stamp one other p q = p ∙ sym q

pub no_second_run : (file records answers : List ℕ) (one other : Whole) → one ≡ run_call file records answers → other ≡ run_call file records answers → one ≡ other
no_second_run file records answers one other p q = p ∙ sym q

pub no_second_house_run : (file records answers : List ℕ) (one other : Answered) → one ≡ house_run file records answers → other ≡ house_run file records answers → one ≡ other
no_second_house_run file records answers one other p q = p ∙ sym q

pub no_second_change : (s : State) (inputs records answers : List ℕ) (one other : Whole) → one ≡ change_call s inputs records answers → other ≡ change_call s inputs records answers → one ≡ other
no_second_change s inputs records answers one other p q = p ∙ sym q

-- ---- the live calls from C

pub no_second_house_fresh : (parameters state : List ℕ) (one other : Imaged) → one ≡ house_fresh parameters state → other ≡ house_fresh parameters state → one ≡ other
no_second_house_fresh parameters state one other p q = p ∙ sym q

pub no_second_house_change : (state inputs records answers : List ℕ) (one other : ImagedRun) → one ≡ house_change state inputs records answers → other ≡ house_change state inputs records answers → one ≡ other
no_second_house_change state inputs records answers one other p q = p ∙ sym q

pub no_second_house_move : (state : List ℕ) (stamp : ℕ) (records : List ℕ) (one other : ImagedMove) → one ≡ house_move state stamp records → other ≡ house_move state stamp records → one ≡ other
no_second_house_move state stamp records one other p q = p ∙ sym q

pub no_second_house_run_to : (file state records answers : List ℕ) (one other : ImagedRun) → one ≡ house_run_to file state records answers → other ≡ house_run_to file state records answers → one ≡ other
no_second_house_run_to file state records answers one other p q = p ∙ sym q

-- ---- with a sensor beside the actuator

pub no_second_pair_input : (p : Pair) (octets : List ℕ) (one other : Joint) → one ≡ joint_call p octets → other ≡ joint_call p octets → one ≡ other
no_second_pair_input p octets one other e f = e ∙ sym f

pub no_second_pair_move : (p : Pair) (stamp : ℕ) (one other : JointMove) → one ≡ joint_move_call p stamp → other ≡ joint_move_call p stamp → one ≡ other
no_second_pair_move p stamp one other e f = e ∙ sym f

pub no_second_wall_run : (wall records answers : List ℕ) (one other : WallWhole) → one ≡ wall_call wall records answers → other ≡ wall_call wall records answers → one ≡ other
no_second_wall_run wall records answers one other p q = p ∙ sym q

pub no_second_house_wall_run : (wall records answers : List ℕ) (one other : Answered) → one ≡ house_wall_run wall records answers → other ≡ house_wall_run wall records answers → one ≡ other
no_second_house_wall_run wall records answers one other p q = p ∙ sym q
