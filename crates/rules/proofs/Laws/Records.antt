-- How many records are written: at most one by a timer or an order, two by a clock move, three by an input; and their places by value.
use Rattle.std.specs.Prelude.{Option, Some, None}
use Prim.Native.Nat.{ℕ, zero, suc, ◌+◌, ◌-◌, ◌≤◌}
use mathlib.Core.Bool.{cond, ◌||◌}
use mathlib.Core.List.{List, [], ◌∷◌, ◌++◌}
use mathlib.Core.Path.{◌≡◌, refl, ap}
use native.Mathlib.Nat.{sub-zero, suc-sub-suc}
use native.Mathlib.Omega.{arith}
use lib.ListN.{length, take, get_or, length-append}
use Rattle.rules.specs.declared.parameters.Params.{Params}
use Rattle.rules.specs.declared.phase.Phase.{Phase}
use Rattle.rules.specs.declared.phase.Phase.TheVariants.{Dark, Lit, Starting, Timed, Warning, Ending}
use Rattle.rules.specs.declared.input.Input.{Input}
use Rattle.rules.specs.declared.state.State.{State}
use Rattle.rules.specs.declared.barrier.Barrier.{Barrier}
use Rattle.rules.specs.declared.barrier.Barrier.TheVariants.{Open, Notes, Stopped}
use Rattle.rules.specs.declared.record.Record.{Record}
use Rattle.rules.specs.Inputs.{kind}
use Rattle.rules.specs.Phases.{output, lit_at, at_deadline, own_end}
use Rattle.rules.specs.Orders.{with_phase, order, noted}
use Rattle.rules.specs.Barriers.{barrier}
use Rattle.rules.specs.Status.{value, staircase, attributes, same_status, written, by_itself}
use Rattle.rules.specs.Steps.{at_moment, Moved, clock_move, counted, meet, act, step, Moves, rest, fire}
use Rattle.rules.specs.Calls.{blank, places}
use Rattle.base.proofs.Tests.{cond_case, cond_zero}
use Rattle.rules.proofs.Laws.Cases.{each_phase}
use Rattle.rules.proofs.Laws.Making.{awaited}
use Rattle.rules.proofs.Laws.Timers.{alike_writes_nothing, clock_moves}

-- none where nothing shows, else one
pub one_record_at_most : (cause : ℕ) (before after : State) → length (written cause before after) ≤ 1
unfolding written
one_record_at_most cause before after = cond_case (λ (l : List Record). length l ≤ 1) (same_status before after) _ _ (λ same. omega arith) (λ differs. omega arith)

-- how often the timers of a phase can still show: that its light ends by itself, and before that a light that is awaited
abbrev ending : Option ℕ → ℕ
ending None = 0
ending (Some d) = 1

abbrev shows : Params → Phase → ℕ
shows p phase = cond (awaited phase) 2 (ending (own_end p phase))

-- the record of a timer that leads from a phase to the next, if it writes one, is taken from those of the phase
abbrev Spends : State → ℕ → Phase → Phase → Type 0
Spends s d phase next = length (written by_itself (with_phase s phase) (at_moment s d next)) + shows s.params next ≤ shows s.params phase

may_write : (s : State) (d : ℕ) (phase next : Phase) → shows s.params next + 1 ≤ shows s.params phase → Spends s d phase next
may_write s d phase next less = omega (arith, one_record_at_most by_itself (with_phase s phase) (at_moment s d next))

writes_nothing : (s : State) (d : ℕ) (phase next : Phase) → output phase ≡ output next → staircase phase ≡ staircase next → shows s.params next ≤ shows s.params phase → Spends s d phase next
unfolding value attributes
writes_nothing s d phase next lit timed less = rw (alike_writes_nothing by_itself (with_phase s phase) (at_moment s d next) (rw lit) (rw timed)) (omega arith)

-- Timed and Warning show alike, so of three timers only two write
timer_spends : (s : State) (d : ℕ) (phase : Phase) → Spends s d phase (at_deadline s.params s.night phase)
unfolding at_deadline lit_at
timer_spends s d Dark = writes_nothing s d Dark Dark refl refl (omega arith)
timer_spends s d Lit = writes_nothing s d Lit Lit refl refl (omega arith)
timer_spends s d (Starting timed x) =
    cond_case (Spends s d (Starting timed x)) (timed || s.night) _ _
    (λ is-timed. may_write s d (Starting timed x) (Timed (x + s.params.timedon)) (omega arith))
    (λ steady. may_write s d (Starting timed x) Lit (omega arith))
timer_spends s d (Timed x) =
    cond_zero (Spends s d (Timed x)) s.params.prewarning _ _
    (may_write s d (Timed x) Dark (omega arith))
    (λ some. writes_nothing s d (Timed x) (Warning (x + s.params.prewarning)) refl refl (omega arith))
timer_spends s d (Warning x) = may_write s d (Warning x) Dark (omega arith)
timer_spends s d (Ending x) = may_write s d (Ending x) Dark (omega arith)

moves_show : {t : ℕ} {s u : State} {l : List Record} → Moves t s u l → length l ≤ shows s.params s.phase
moves_show (rest q) = omega arith
moves_show {s} (fire d e past x) = rw length-append (omega (arith, timer_spends s d s.phase, moves_show x))

two_show : (p : Params) (phase : Phase) → shows p phase ≤ 2
two_show p = each_phase (λ phase. shows p phase ≤ 2) (omega arith) (omega arith) (λ timed d. omega arith) (λ d. omega arith) (λ d. omega arith) (λ d. omega arith)

pub a_move_writes_at_most_two : (s : State) (t : ℕ) → length (clock_move s t).records ≤ 2
a_move_writes_at_most_two s t = omega (arith, moves_show (clock_moves s t), two_show s.params s.phase)

meet_writes : (x : Barrier) (m : Moved) (i : Input) → length (meet x m i).records ≤ length m.records + 1
unfolding meet counted
meet_writes Open m i = rw length-append (omega (arith, one_record_at_most (kind i) m.state (order m.state i)))
meet_writes Notes m i = rw length-append (omega (arith, one_record_at_most (kind i) m.state (noted m.state i)))
meet_writes (Stopped why) m i = omega arith

-- two of the clock move, and one of the order
pub an_input_writes_at_most_three : (s : State) (i : Input) (t : ℕ) → length (step s i t).records ≤ 3
unfolding step act
an_input_writes_at_most_three s i t = omega (arith, meet_writes (barrier (clock_move s t).state i) (clock_move s t) i, a_move_writes_at_most_two s t)

-- ---- records by value

pub places_length : (n : ℕ) (l : List Record) → length (places n l) ≡ n
unfolding places
places_length zero l = refl
places_length (suc n) [] = ap suc (places_length n [])
places_length (suc n) (r ∷ l) = ap suc (places_length n l)

-- the places hold the whole list, then blank records
pub places_hold_all : (n : ℕ) (l : List Record) → length l ≤ n → places n l ≡ l ++ places (n - length l) []
unfolding places
places_hold_all zero [] fits = refl
places_hold_all zero (r ∷ l) fits = absurd (omega arith)
places_hold_all (suc n) [] fits = rw sub-zero
places_hold_all (suc n) (r ∷ l) fits = rw (places_hold_all n l (omega arith), suc-sub-suc n (length l))

-- so the used ones are the list
pub used_places : (n : ℕ) (l : List Record) → length l ≤ n → take (length l) (places n l) ≡ l
unfolding places
used_places zero [] h = refl
used_places zero (r ∷ l) h = absurd (omega arith)
used_places (suc n) [] h = refl
used_places (suc n) (r ∷ l) h = rw (used_places n l (omega arith))

-- the first two of three places are the two places
pub two_of_three : (l : List Record) → get_or (places 3 l) 0 blank ∷ get_or (places 3 l) 1 blank ∷ [] ≡ places 2 l
unfolding places
two_of_three [] = refl
two_of_three (a ∷ []) = refl
two_of_three (a ∷ b ∷ l) = refl
