-- The timers of a clock move: each runs at its own moment, three are enough, and two moves are one.
use Rattle.std.specs.Prelude.{Some}
use Prim.Native.Nat.{ℕ, ◌≤◌}
use mathlib.Core.List.{List, [], ◌++◌, append-nil, append_assoc}
use mathlib.Core.Path.{◌≡◌, refl, sym}
use native.Mathlib.Omega.{arith}
use borrow.Author.Tests.{le-leb, eq-eqb}
use Rattle.rules.specs.declared.state.State.{State}
use Rattle.rules.specs.declared.record.Record.{Record}
use Rattle.rules.specs.Phases.{deadline, at_deadline}
use Rattle.rules.specs.Status.{value, attributes, same_status, written, by_itself}
use Rattle.rules.specs.Steps.{at_moment, tick_at, tick, ticked, clock_move, Quiet, fired, Moves, rest, fire}
use Rattle.rules.proofs.Laws.Steps.{tick_case, tick_rests, three_are_enough}

-- ---- one timer

-- a due timer takes the state to its own moment and the phase to the next, and changes nothing else
pub each_timer_at_its_own_moment : (s : State) (t d : ℕ) → deadline s.phase ≡ Some d → d ≤ t → tick s t ≡ at_moment s d (at_deadline s.params s.night s.phase)
unfolding tick tick_at
each_timer_at_its_own_moment s t d e past = rw (e, le-leb d t past)

-- three timers are always enough
pub nothing_due_after_a_move : (s : State) (t : ℕ) → tick (clock_move s t).state t ≡ (clock_move s t).state
unfolding clock_move ticked
nothing_due_after_a_move s t = tick_rests (clock_move s t).state t (three_are_enough s t)

-- ---- a clock move

-- no two ways lead to one moment: at each state a timer is due or not, at one moment
moves_once : {t : ℕ} {s a b : State} {l m : List Record} → Moves t s a l → Moves t s b m → (a ≡ b) × (l ≡ m)
moves_once (rest q) (rest r) = (refl, refl)
moves_once (rest q) (fire d e past y) = absurd (omega (arith, rw e at q))
moves_once (fire d e past x) (rest q) = absurd (omega (arith, rw e at q))
moves_once {s} (fire d e past x) (fire f g other y) =
    let same : f ≡ d = cc in
    let r = moves_once x (rw same at y) in
    (r.0, rw (same, r.1))

-- only a change of value or attributes is recorded
pub alike_writes_nothing : (cause : ℕ) (before after : State) → value before ≡ value after → attributes before ≡ attributes after → written cause before after ≡ []
unfolding written same_status
alike_writes_nothing cause before after v a = simp (eq-eqb (value before) (value after) v, eq-eqb (attributes before) (attributes after) a)

-- a tick is the first step of a move, or none
tick_moves : (t : ℕ) (s u : State) (l : List Record) → Moves t (tick s t) u l → Moves t s u (written by_itself s (tick s t) ++ l)
tick_moves t s u l =
    tick_case (λ (a : State). Moves t a u l → Moves t s u (written by_itself s a ++ l)) s t fire
    (λ quiet m. rw (alike_writes_nothing by_itself s s refl refl) m)

-- a clock move is such a move, since three ticks leave nothing due
pub clock_moves : (s : State) (t : ℕ) → Moves t s (clock_move s t).state (clock_move s t).records
unfolding clock_move ticked
clock_moves s t = rw append-nil at (tick_moves t s _ _ (tick_moves t _ _ _ (tick_moves t _ _ _ (rest (three_are_enough s t)))))

-- its first due timer, then the others
pub the_first_timer_first : (s : State) (t d : ℕ) → deadline s.phase ≡ Some d → d ≤ t →
    ((clock_move s t).state ≡ (clock_move (fired s d) t).state) × ((clock_move s t).records ≡ written by_itself s (fired s d) ++ (clock_move (fired s d) t).records)
the_first_timer_first s t d e past = moves_once (clock_moves s t) (fire d e past (clock_moves (fired s d) t))

-- and there is no other
the_clock_move : {t : ℕ} {s u : State} {l : List Record} → Moves t s u l → clock_move s t ≡ record { state = u; records = l }
the_clock_move {t} {s} m = let r = moves_once (clock_moves s t) m in rw (← r.0, ← r.1)

-- where no timer is due, nothing but the clock moves
pub no_timer_due_no_move : (s : State) (t : ℕ) → Quiet t (deadline s.phase) → clock_move s t ≡ record { state = at_moment s t s.phase; records = [] }
no_timer_due_no_move s t q = the_clock_move (rest q)

-- ---- two clock moves

-- the clock of a state does not tell which timers are due, nor what they show
moves_from_earlier : (t u : ℕ) (s b : State) (m : List Record) → Moves u (at_moment s t s.phase) b m → Moves u s b m
unfolding written same_status value attributes
moves_from_earlier t u s b m (rest r) = rest r
moves_from_earlier t u s b m (fire d e past x) = fire d e past x

-- the timers due up to t, then those due up to u
moves_join : {t u : ℕ} {s a b : State} {l m : List Record} → t ≤ u → Moves t s a l → Moves u a b m → Moves u s b (l ++ m)
moves_join later (rest q) y = moves_from_earlier _ _ _ _ _ y
moves_join later (fire d e past x) y = rw append_assoc (fire d e (omega arith) (moves_join later x y))

-- a move by way of an earlier moment is the same move
pub moves_compose : (s : State) (t u : ℕ) → t ≤ u → ((clock_move (clock_move s t).state u).state ≡ (clock_move s u).state) × ((clock_move s u).records ≡ (clock_move s t).records ++ (clock_move (clock_move s t).state u).records)
moves_compose s t u later =
    let whole = moves_once (clock_moves s u) (moves_join later (clock_moves s t) (clock_moves (clock_move s t).state u)) in
    (sym whole.0, whole.1)
