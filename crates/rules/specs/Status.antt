-- The status octets and the records (01, "Records and the printout"; 004, 1.5.2 and 2.5.3, DPT 207.600).
use Rattle.std.specs.Prelude.{ℕ, ◌+◌, Bool, true, false, cond, not, ◌&&◌, List, [], ◌∷◌, eqb}
use Rattle.rules.specs.declared.phase.Phase.{Phase}
use Rattle.rules.specs.declared.phase.Phase.TheVariants.{Dark, Lit, Starting, Timed, Warning, Ending}
use Rattle.rules.specs.declared.state.State.{State}
use Rattle.rules.specs.declared.record.Record.{Record}
use Rattle.rules.specs.Phases.{output}
use Rattle.rules.specs.Orders.{standing}
use Rattle.rules.specs.Barriers.{power_down}

-- "value 0 or 255"
unfoldable pub value : State → ℕ
value s = cond (output s.phase) 255 0

-- "4 staircase (our reading, which decides: Timed or Warning, however entered)"
abbrev pub staircase : Phase → Bool
staircase Dark = false
staircase Lit = false
staircase (Starting timed d) = false
staircase (Timed d) = true
staircase (Warning d) = true
staircase (Ending d) = false

-- a bit of this weight
abbrev pub bit : Bool → ℕ → ℕ
bit set weight = cond set weight 0

-- "attributes bit 0 valid (power not down), bit 1 locked, 2 forced, 3 night, 4 staircase .., 5 to 7 zero"
unfoldable pub attributes : State → ℕ
attributes s =
    bit (not (power_down s.link)) 1 +
    bit s.lock 2 +
    bit (standing s.force) 4 +
    bit s.night 8 +
    bit (staircase s.phase) 16

-- "A record is 8 octets: stamp, value, attributes, cause, zero. Cause is the input's kind, 0 for a timer and for the start."
-- A record is written at the moment that the clock of its state shows. (Its eight octets, with the zero: Runs.antt.)
unfoldable pub record_of : ℕ → State → Record
record_of cause s = record { stamp = s.clock; value = value s; attributes = attributes s; cause = cause }

-- the cause of a timer and of the start
abbrev pub by_itself : ℕ
by_itself = 0

unfoldable pub same_status : State → State → Bool
same_status before after = eqb (value before) (value after) && eqb (attributes before) (attributes after)

-- "then one after each timer or input that changed value or attributes"
unfoldable pub written : ℕ → State → State → List Record
written cause before after = cond (same_status before after) [] (record_of cause after ∷ [])
