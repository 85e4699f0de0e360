-- A whole scene change in one call (02, [3]): its whole result, for every state, every octet string and every pair of lent buffers.
use Rattle.std.specs.Prelude.{ℕ, zero, suc, ◌+◌, ◌/◌, ◌%◌, Bool, cond, ◌&&◌, List, [], ◌∷◌, length, take, drop, eqb, leb, Ok, Err}
use Rattle.base.specs.declared.refusal.Refusal.{Refusal}
use Rattle.base.specs.declared.refusal.Refusal.TheVariants.{ShortBuffer, UnsoundState, WrongGroups}
use Rattle.base.specs.Refusals.{number, if_not, or_else, Check}
use Rattle.rules.specs.declared.state.State.{State}
use Rattle.rules.specs.declared.call.Single.{Single}
use Rattle.rules.specs.declared.call.Ran.{Ran}
use Rattle.rules.specs.Layout.{input_size}
use Rattle.rules.specs.Lists.{Played, and_then, unplayed}
use Rattle.rules.specs.Calls.{single_call}
use Rattle.rules.specs.Files.{lent_for}
use Rattle.rules.specs.Runs.{Whole, handed_out}
use Rattle.rules.specs.Soundness.{sound}

-- ---- "up to 256 input octet groups"

abbrev pub most_groups : ℕ
most_groups = 256

-- the first n of them, eight octets each
unfoldable pub groups : ℕ → List ℕ → List (List ℕ)
groups zero octets = []
groups (suc n) octets = take input_size octets ∷ groups n (drop input_size octets)

abbrev pub group_count : List ℕ → ℕ
group_count inputs = length inputs / input_size

unfoldable pub groups_in : List ℕ → List (List ℕ)
groups_in inputs = groups (group_count inputs) inputs

-- ---- "gives the state, answers and records that single inputs would give, joined in order"

-- what they gave, and the code and the place of the one that was refused; 0 where none was
pub record Singles : Type 0 where
  pub played : Played
  pub code : ℕ
  pub place : ℕ

-- what one of them gave: its answer, and the records that it counts
abbrev pub single_played : Single → Played
single_played r = record { state = r.state; answers = r.answer ∷ []; records = take r.count r.records }

-- one of them was played, and then the others
abbrev pub then_others : Played → (State → Singles) → Singles
then_others a others =
    let b : Singles = others a.state in
    record { played = and_then a (λ s. (others s).played); code = b.code; place = b.place }

-- "At a refused input it stops: what went before stands .., and the place is that input's index"
abbrev pub stopped : State → ℕ → ℕ → Singles
stopped s code i = record { played = unplayed s; code = code; place = i }

unfoldable pub goes_on : Single → ℕ → (State → Singles) → Singles
goes_on r i others = cond (eqb r.code 0) (then_others (single_played r) others) (stopped r.state r.code i)

-- the first of these has index i
unfoldable pub singles : ℕ → List (List ℕ) → State → Singles
singles i [] s = record { played = unplayed s; code = 0; place = 0 }
singles i (octets ∷ later) s = goes_on (single_call s octets) i (singles (i + 1) later)

-- ---- "Refusals: 9, then 12 for more than 256 or a length not a multiple of 8, then 8 as for the run (with n groups), then 6 or 7 as met."

unfoldable pub groups_fit : List ℕ → Bool
groups_fit inputs = eqb (length inputs % input_size) 0 && leb (group_count inputs) most_groups

-- what is lent, whatever the state: 12, then 8
unfoldable pub check_lent : List ℕ → List ℕ → List ℕ → Check
check_lent inputs records answers =
    or_else (if_not (groups_fit inputs) WrongGroups) (if_not (lent_for (group_count inputs) records answers) ShortBuffer)

unfoldable pub check_change : State → List ℕ → List ℕ → List ℕ → Check
check_change s inputs records answers = or_else (if_not (sound s) UnsoundState) (check_lent inputs records answers)

-- ---- the whole: report and both buffers

-- "what went before stands in state and buffers .., the record count tells what stands"
unfoldable pub changed : Singles → List ℕ → List ℕ → Whole
changed c records answers = handed_out c.played c.code c.place records answers

-- the report where nothing was played
abbrev pub handed_back : State → Refusal → ℕ → Ran
handed_back s why place = record { state = s; code = number why; place = place; count = 0 }

-- 9, 12 and 8 write nothing and hand back the state
unfoldable pub change_by : Check → State → List ℕ → List ℕ → List ℕ → Whole
change_by (Ok _) s inputs records answers = changed (singles 0 (groups_in inputs) s) records answers
change_by (Err fault) s inputs records answers =
    record { report = handed_back s fault.why fault.place; records = records; answers = answers }

unfoldable pub change_call : State → List ℕ → List ℕ → List ℕ → Whole
change_call s inputs records answers = change_by (check_change s inputs records answers) s inputs records answers
