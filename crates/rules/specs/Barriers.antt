-- Which input counts (01, "Which input counts"; 02, [4]; 004, 1.2.2.3 "Input priority handling").
use Rattle.std.specs.Prelude.{ℕ, ◌-◌, Bool, true, false, cond, not, ◌&&◌, ◌||◌, List, [], ◌∷◌, get_or, eqb}
use Rattle.rules.specs.declared.input.Force.{Force}
use Rattle.rules.specs.declared.input.Input.{Input}
use Rattle.rules.specs.declared.state.Link.{Link}
use Rattle.rules.specs.declared.state.Link.TheVariants.{Up, BusDown, PowerDown}
use Rattle.rules.specs.declared.state.State.{State}
use Rattle.rules.specs.declared.barrier.Row.{Row}
use Rattle.rules.specs.declared.barrier.Why.{Why}
use Rattle.rules.specs.declared.barrier.Why.TheVariants.{NoPower, NoBus, Locked, Forced}
use Rattle.rules.specs.declared.barrier.Barrier.{Barrier}
use Rattle.rules.specs.declared.barrier.Barrier.TheVariants.{Open, Notes, Stopped}
use Rattle.rules.specs.Inputs.{kind}
use Rattle.rules.specs.Orders.{standing}

-- its barriers: power down, bus down, lock, force
abbrev pub row : Bool → Bool → Bool → Bool → Row
row power bus lock force = record { power = power; bus = bus; lock = lock; force = force }

-- "Document 004 lets SwitchOnOffForced override the low inputs: switch, timed, scene, night. Lock stands above force (our
-- reading). What stops each kind is kept as one table of eight rows that names the barriers of that kind: power down stops 1 to 7;
-- bus down stops 1 to 6; lock stops 1 to 4 and 6; force stops 1 to 3 and 6."
unfoldable pub rows : List Row
rows =
    row true true true true ∷
    row true true true true ∷
    row true true true true ∷
    row true true true false ∷
    row true true false false ∷
    row true true true true ∷
    row true false false false ∷
    row false false false false ∷
    []

-- Beside the table, 02, [4]: "Night and force are values, not events.": what lock or force would stop is noted if it is of kind 4 or 6, and else
-- dropped.
unfoldable pub sets_value : ℕ → Bool
sets_value kind = eqb kind 4 || eqb kind 6

-- the row of a kind, 1 to 8 (there is no other kind, so nothing is read past the table)
unfoldable pub row_of : ℕ → Row
row_of kind = get_or rows (kind - 1) (row false false false false)

-- "link (up, bus down, power down)"
abbrev pub power_down : Link → Bool
power_down Up = false
power_down BusDown = false
power_down PowerDown = true

abbrev pub bus_down : Link → Bool
bus_down Up = false
bus_down BusDown = true
bus_down PowerDown = false

-- what lock and force do to an input that they outrank. 02, [4]: "From now on a night value under lock or force, and a force value under lock, is
-- noted"
unfoldable pub outranked : Bool → Why → Barrier
outranked value why = cond value Notes (Stopped why)

-- the first of these barriers that stands: "Answer octet, first that fits: 5 power down, 4 bus down, 3 lock, 2 force"; 02, [4]: "Bus and
-- power down still drop."
unfoldable pub first_barrier : Row → Bool → Link → Bool → Force → Barrier
first_barrier r value link lock force =
    cond (r.power && power_down link) (Stopped NoPower)
    (cond (r.bus && bus_down link) (Stopped NoBus)
    (cond (r.lock && lock) (outranked value Locked)
    (cond (r.force && standing force) (outranked value Forced) Open)))

-- what an input of a kind meets
unfoldable pub barrier_to : ℕ → Link → Bool → Force → Barrier
barrier_to kind link lock force = first_barrier (row_of kind) (sets_value kind) link lock force

-- what an input meets in a state
unfoldable pub barrier : State → Input → Barrier
barrier s i = barrier_to (kind i) s.link s.lock s.force

-- ---- the first barrier, said of each of the four (proofs/Laws/Barriers.antt, `first_that_fits`)

-- the barrier stands, and the row of the input's kind names it (lock and force may note it)
abbrev pub power_stops : State → Input → Bool
power_stops s i = (row_of (kind i)).power && power_down s.link

abbrev pub bus_stops : State → Input → Bool
bus_stops s i = (row_of (kind i)).bus && bus_down s.link

abbrev pub lock_stops : State → Input → Bool
lock_stops s i = (row_of (kind i)).lock && s.lock

abbrev pub force_stops : State → Input → Bool
force_stops s i = (row_of (kind i)).force && standing s.force

-- the input sets a value
abbrev pub is_value : Input → Bool
is_value i = sets_value (kind i)

-- a barrier fits where it stops the input and none before it does; an input is noted where lock or force would stop it and it sets a value;
-- it is free where none does
abbrev pub fits : Barrier → Bool → Bool → Bool → Bool → Bool → Bool
fits (Stopped NoPower) power bus lock force value = power
fits (Stopped NoBus) power bus lock force value = not power && bus
fits (Stopped Locked) power bus lock force value = not power && not bus && lock && not value
fits (Stopped Forced) power bus lock force value = not power && not bus && not lock && force && not value
fits Notes power bus lock force value = not power && not bus && (lock || force) && value
fits Open power bus lock force value = not power && not bus && not lock && not force
