-- The inputs as the code checks them: no list is built, and all that is asked of an input is whether it means something.
use Rattle.sensor.specs.declared.signal.Signal.{Signal}
use Rattle.std.specs.Prelude.{ℕ, zero, suc, ◌+◌, Bool, true, false, cond, ◌&&◌, ◌||◌, List, leb, Option, Some, None, Ok}
use Rattle.octets.specs.Groups.{stamp_at}
use Rattle.base.specs.declared.refusal.Refusal.TheVariants.{BadInput, BadStamp}
use Rattle.base.specs.Refusals.{or_else, Check, refused_with}
use Rattle.rules.specs.Inputs.{input_at}
use Rattle.rules.specs.Layout.{input_place}
use Rattle.inputs.specs.Meaning.{is_meant}
use Rattle.sensor.specs.declared.signal.Signal.TheVariants.{Button1, Button2, Status}
use Rattle.sensor.specs.Signals.{signal_at}

-- one input, known to mean something or not, whatever comes after it
unfoldable pub check_one : Bool → ℕ → ℕ → ℕ → ℕ → Check
check_one known stamp last end i = cond known (cond (leb last stamp && leb stamp end) (Ok tt) (refused_with BadStamp i)) (refused_with BadInput i)

-- these many of the inputs from index i on, where the stamp before them is `last`
unfoldable pub check_inputs : (ℕ → Bool) → List ℕ → ℕ → ℕ → ℕ → ℕ → Check
check_inputs known inputs zero i last end = (Ok tt)
check_inputs known inputs (suc left) i last end =
    or_else (check_one (known i) (stamp_at inputs (input_place i)) last end i) (check_inputs known inputs left (i + 1) (stamp_at inputs (input_place i)) end)

-- an edge of a push button
abbrev pub is_edge : Option Signal → Bool
is_edge (Some (Button1 edge)) = true
is_edge (Some (Button2 edge)) = true
is_edge (Some (Status value)) = false
is_edge None = false

-- what is known at a place: the actuator's inputs, and, in a list that takes edges too, these
unfoldable pub is_known : Bool → List ℕ → ℕ → Bool
is_known edges inputs at = is_meant (input_at inputs at) || (edges && is_edge (signal_at inputs at))

abbrev pub known_at : Bool → List ℕ → ℕ → Bool
known_at edges inputs i = is_known edges inputs (input_place i)
