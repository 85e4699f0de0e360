-- A phase that lock or force holds is Dark or Lit, in every state that a list leads to, and so no timer runs while one of them stands.
use Prim.Native.Nat.{ℕ}
use mathlib.Core.Bool.{Bool, true, false, ◌||◌, and-false}
use mathlib.Core.Path.{◌≡◌, refl, ap}
use mathlib.Core.Logic.{◌⊎◌, inl, inr}
use mathlib.Core.List.{List, [], ◌∷◌}
use Rattle.rules.specs.declared.phase.Phase.{Phase}
use Rattle.rules.specs.declared.phase.Phase.TheVariants.{Dark, Lit}
use Rattle.rules.specs.declared.input.Input.{Input}
use Rattle.rules.specs.declared.state.State.{State}
use Rattle.rules.specs.Phases.{deadline, lit_at, set_on}
use Rattle.rules.specs.Orders.{with_phase, standing, held, settle, plain, unlocked, bus_mode, order}
use Rattle.rules.specs.Steps.{at_moment, clock_move, step, Quiet}
use Rattle.rules.specs.Lists.{Cue, cue, plays}
use Rattle.rules.specs.Said.{Flags, flags_after}
use Rattle.rules.proofs.Laws.Orders.{order_leaves}
use Rattle.rules.proofs.Laws.Holding.{Stands}
use Rattle.rules.proofs.Laws.Soundness.{step_stands}
use Rattle.rules.proofs.Laws.Facts.{held_exactly_when, steady_exactly_when}
use Rattle.rules.proofs.Laws.Timers.{no_timer_due_no_move}

-- ---- a phase that is held is steady, and no timer runs

abbrev pub Steady : Phase → Type 0
Steady phase = (phase ≡ Dark) ⊎ (phase ≡ Lit)

pub plain_is_steady : (on : Bool) → Steady (plain on)
plain_is_steady true = inr refl
plain_is_steady false = inl refl

steady_is_quiet : (t : ℕ) (phase : Phase) → Steady phase → Quiet t (deadline phase)
steady_is_quiet t phase (inl e) = rw e tt
steady_is_quiet t phase (inr e) = rw e tt

pub steady_moves : (s : State) (t : ℕ) → Steady s.phase → clock_move s t ≡ record { state = at_moment s t s.phase; records = [] }
steady_moves s t steady = no_timer_due_no_move s t (steady_is_quiet t s.phase steady)

-- lock or force stands, by the flags
abbrev pub held_by : Flags → Bool
held_by f = f.lock || standing f.force

pub order_held : (s : State) (i : Input) → held (order s i) ≡ held_by (flags_after s i)
unfolding held
order_held s i = ap held_by (order_leaves s i).flags

-- where neither lock nor force would have stopped the input, nothing is held
pub low_is_free : (s : State) → (s.lock ≡ false) → (standing s.force ≡ false) → held s ≡ false
unfolding held
low_is_free s unlocked unforced = rw (unlocked, unforced)

-- where lock or force stands "set on" is Lit, in night too
pub settle_held : (s : State) (on : Bool) → held s ≡ true → settle s on ≡ with_phase s (plain on)
unfolding settle set_on lit_at
settle_held s true holds = rw (holds, and-false s.night) refl
settle_held s false holds = refl

-- and no mode acts
pub mode_held : (s : State) (mode : ℕ) → held s ≡ true → bus_mode s mode ≡ s
unfolding bus_mode
mode_held s mode holds = rw holds refl

abbrev pub HeldIsSteady : State → Type 0
HeldIsSteady s = held s ≡ true → Steady s.phase

-- it holds from the start on
stands_steady : (s : State) → Stands s → HeldIsSteady s
unfolding held
stands_steady s h holds = (steady_exactly_when s.lock s.force s.phase).0 h.steady ((held_exactly_when s.lock s.force).0 holds)

plays_stand : (list : List Cue) (s : State) → Stands s → Stands (plays list s).state
unfolding plays
plays_stand [] s h = h
plays_stand (cue t i ∷ later) s h = plays_stand later (step s i t).state (step_stands s i t h)

pub plays_steady : (list : List Cue) (s : State) → Stands s → HeldIsSteady (plays list s).state
plays_steady list s h = stands_steady _ (plays_stand list s h)
