-- The table of barriers says what 01 says in words, and the barrier that an input meets is the first that stands (its answer: Answers.antt).
use mathlib.Core.Bool.{Bool, true, false, cond, not, ◌&&◌, ◌||◌, or-false}
use mathlib.Core.Path.{◌≡◌, refl, subst}
use mathlib.Core.Logic.{◌↔◌}
use lib.ListN.{length}
use lib.Dec.{T, eqb, leb}
use Rattle.rules.specs.declared.input.Input.{Input}
use Rattle.rules.specs.declared.input.Input.TheVariants.{SwitchOnOff, TimedStartStop, NumberedSceneControl, SwitchOnOffForced, LockDevice, NightMode, Bus, Power}
use Rattle.rules.specs.declared.state.Link.{Link}
use Rattle.rules.specs.declared.state.Link.TheVariants.{Up, BusDown, PowerDown}
use Rattle.rules.specs.declared.state.State.{State}
use Rattle.rules.specs.declared.barrier.Why.TheVariants.{NoPower, NoBus, Locked, Forced}
use Rattle.rules.specs.declared.barrier.Barrier.{Barrier}
use Rattle.rules.specs.declared.barrier.Barrier.TheVariants.{Open, Notes, Stopped}
use Rattle.rules.specs.Inputs.{kind}
use Rattle.rules.specs.Orders.{standing, held, noted}
use Rattle.rules.specs.Barriers.{row, rows, row_of, sets_value, power_down, bus_down, outranked, first_barrier, barrier_to, barrier, power_stops, bus_stops, lock_stops, force_stops, is_value, fits}
use Rattle.rules.specs.Answers.{answer}
use Rattle.rules.specs.Said.{NotedWhere}
use Rattle.base.proofs.Tests.{no}
use Rattle.rules.proofs.Laws.Cases.{each_input}

-- ---- the table

-- "power down stops 1 to 7; bus down stops 1 to 6; lock stops 1 to 4 and 6; force stops 1 to 3 and 6"
pub rows_say_exactly : (i : Input) →
    row_of (kind i) ≡ row (leb (kind i) 7) (leb (kind i) 6) (leb (kind i) 4 || eqb (kind i) 6) (leb (kind i) 3 || eqb (kind i) 6)
unfolding row_of rows
rows_say_exactly =
    each_input (λ i. row_of (kind i) ≡ row (leb (kind i) 7) (leb (kind i) 6) (leb (kind i) 4 || eqb (kind i) 6) (leb (kind i) 3 || eqb (kind i) 6))
    (λ value. refl) (λ value. refl) (λ learns number. refl) (λ force. refl) (λ value. refl) (λ value. refl) (λ event. refl) (λ event. refl)

-- "one table of eight rows"
pub eight_rows : length rows ≡ 8
unfolding rows
eight_rows = refl

-- ---- "Answer octet, first that fits: 5 power down, 4 bus down, 3 lock, 2 force; then 0 .., else 1"; 02, [4]: "Answer 6 means noted and different;
-- a noted equal value answers 1."

pub answer_numbers : (same : Bool) →
    (answer (Stopped NoPower) same ≡ 5) × (answer (Stopped NoBus) same ≡ 4) × (answer (Stopped Locked) same ≡ 3) × (answer (Stopped Forced) same ≡ 2) × (answer Open false ≡ 0) × (answer Open true ≡ 1) × (answer Notes false ≡ 6) × (answer Notes true ≡ 1)
answer_numbers same = (refl, refl, refl, refl, refl, refl, refl, refl)

-- the first of the four, as `first_barrier` chooses it; the last two note a value
abbrev first : Bool → Bool → Bool → Bool → Bool → Barrier
first power bus lock force value = cond power (Stopped NoPower) (cond bus (Stopped NoBus) (cond lock (outranked value Locked) (cond force (outranked value Forced) Open)))

first_fits : (power bus lock force value : Bool) → T (fits (first power bus lock force value) power bus lock force value)
unfolding outranked
first_fits true bus lock force value = tt
first_fits false true lock force value = tt
first_fits false false true force true = tt
first_fits false false true force false = tt
first_fits false false false true true = tt
first_fits false false false true false = tt
first_fits false false false false value = tt

what_fits_is_first : (b : Barrier) (power bus lock force value : Bool) → T (fits b power bus lock force value) → first power bus lock force value ≡ b
unfolding outranked
what_fits_is_first (Stopped NoPower) true bus lock force value h = refl
what_fits_is_first (Stopped NoBus) false true lock force value h = refl
what_fits_is_first (Stopped Locked) false false true force false h = refl
what_fits_is_first (Stopped Forced) false false false true false h = refl
what_fits_is_first Notes false false true force true h = refl
what_fits_is_first Notes false false false true true h = refl
what_fits_is_first Open false false false false value h = refl
what_fits_is_first _ _ _ _ _ _ h = elim h [ ]

exactly_one_fits : (b : Barrier) (power bus lock force value : Bool) → (first power bus lock force value ≡ b) ↔ T (fits b power bus lock force value)
exactly_one_fits b power bus lock force value =
    (λ e. subst (λ (x : Barrier). T (fits x power bus lock force value)) e (first_fits power bus lock force value), what_fits_is_first b power bus lock force value)

pub first_that_fits : (s : State) (i : Input) (b : Barrier) →
    (barrier s i ≡ b) ↔ T (fits b (power_stops s i) (bus_stops s i) (lock_stops s i) (force_stops s i) (is_value i))
unfolding barrier barrier_to first_barrier
first_that_fits s i b = exactly_one_fits b (power_stops s i) (bus_stops s i) (lock_stops s i) (force_stops s i) (is_value i)

-- an input is taken exactly when none of the barriers that its row names stands
pub taken_exactly_when : (s : State) (i : Input) →
    (barrier s i ≡ Open) ↔ T (not (power_stops s i) && not (bus_stops s i) && not (lock_stops s i) && not (force_stops s i))
taken_exactly_when s i = first_that_fits s i Open

-- and it is noted exactly when it sets a value, neither power nor bus stops it, and lock or force would (in the words of 02: `noted_exactly_where`)
pub noted_exactly_when : (s : State) (i : Input) →
    (barrier s i ≡ Notes) ↔ T (not (power_stops s i) && not (bus_stops s i) && (lock_stops s i || force_stops s i) && is_value i)
noted_exactly_when s i = first_that_fits s i Notes

-- ---- what an open way says of the flags

-- none of the four stands, as far as the row names it
pub record Unstopped (power bus lock force : Bool) : Type 0 where
  pub powered : power ≡ false
  pub connected : bus ≡ false
  pub unlocked : lock ≡ false
  pub unforced : force ≡ false

unstopped_view : (power bus lock force value : Bool) → T (fits Open power bus lock force value) → Unstopped power bus lock force
unstopped_view false false false false value h = record { powered = refl; connected = refl; unlocked = refl; unforced = refl }
unstopped_view _ _ _ _ value h = elim h [ ]

pub open_is_unstopped : (s : State) (i : Input) → barrier s i ≡ Open → Unstopped (power_stops s i) (bus_stops s i) (lock_stops s i) (force_stops s i)
open_is_unstopped s i way = unstopped_view _ _ _ _ (is_value i) ((taken_exactly_when s i).0 way)

-- ---- and a way on which an input is only noted

pub record HeldBack (power bus hold value : Bool) : Type 0 where
  pub powered : power ≡ false
  pub connected : bus ≡ false
  pub held : hold ≡ true
  pub valued : value ≡ true

held_back_view : (power bus lock force value : Bool) → T (fits Notes power bus lock force value) → HeldBack power bus (lock || force) value
held_back_view false false true force true h = record { powered = refl; connected = refl; held = refl; valued = refl }
held_back_view false false false true true h = record { powered = refl; connected = refl; held = refl; valued = refl }
held_back_view _ _ _ _ _ h = elim h [ ]

pub noted_is_held_back : (s : State) (i : Input) → barrier s i ≡ Notes → HeldBack (power_stops s i) (bus_stops s i) (lock_stops s i || force_stops s i) (is_value i)
noted_is_held_back s i way = held_back_view _ _ (lock_stops s i) (force_stops s i) _ ((noted_exactly_when s i).0 way)

pub neither_down : (link : Link) → power_down link ≡ false → bus_down link ≡ false → link ≡ Up
neither_down Up power bus = refl
neither_down BusDown power bus = cc
neither_down PowerDown power bus = cc

pub noted_where : (s : State) (i : Input) → barrier s i ≡ Notes → NotedWhere s i
unfolding row_of rows sets_value held
noted_where s (SwitchOnOff value) way = no (noted_is_held_back s (SwitchOnOff value) way).valued
noted_where s (TimedStartStop value) way = no (noted_is_held_back s (TimedStartStop value) way).valued
noted_where s (NumberedSceneControl learns number) way = no (noted_is_held_back s (NumberedSceneControl learns number) way).valued
noted_where s (SwitchOnOffForced force) way =
    let c = noted_is_held_back s (SwitchOnOffForced force) way in
    record { linked = neither_down s.link c.powered c.connected; locked = rw (or-false s.lock) at c.held }
noted_where s (LockDevice value) way = no (noted_is_held_back s (LockDevice value) way).valued
noted_where s (NightMode value) way =
    let c = noted_is_held_back s (NightMode value) way in
    record { linked = neither_down s.link c.powered c.connected; held = c.held }
noted_where s (Bus event) way = no (noted_is_held_back s (Bus event) way).valued
noted_where s (Power event) way = no (noted_is_held_back s (Power event) way).valued

-- and wherever it is so, it is noted
night_is_noted : (link : Link) (lock force : Bool) → link ≡ Up → (lock || force) ≡ true → first (power_down link) (bus_down link) lock force true ≡ Notes
unfolding outranked
night_is_noted link true force up holds = rw up refl
night_is_noted link false true up holds = rw up refl
night_is_noted link false false up holds = no holds

pub noted_there : (s : State) (i : Input) → NotedWhere s i → barrier s i ≡ Notes
unfolding barrier barrier_to first_barrier row_of rows sets_value held outranked
noted_there s (SwitchOnOffForced force) w = rw (w.linked, w.locked) refl
noted_there s (NightMode value) w = night_is_noted s.link s.lock (standing s.force) w.linked w.held
noted_there s _ w = elim w [ ]

pub noted_exactly_where : (s : State) (i : Input) → (barrier s i ≡ Notes) ↔ NotedWhere s i
noted_exactly_where s i = (noted_where s i, noted_there s i)

-- lock or force stands in any case, before and after
pub noted_is_held : (s : State) (i : Input) → barrier s i ≡ Notes → (held s ≡ true) × (held (noted s i) ≡ true)
unfolding held noted
noted_is_held s i way = go i (noted_where s i way)
  where
    go : (i : Input) → NotedWhere s i → (held s ≡ true) × (held (noted s i) ≡ true)
    go (SwitchOnOffForced force) w = rw w.locked (refl, refl)
    go (NightMode value) w = (w.held, w.held)
    go _ w = elim w [ ]
