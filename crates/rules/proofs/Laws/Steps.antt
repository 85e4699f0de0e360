-- One timer: it runs at its own moment or not at all, and three of them leave nothing due.
use Rattle.std.specs.Prelude.{Option, Some, None}
use Prim.Native.Nat.{ℕ, zero, suc, ◌-◌, ◌≤◌, ◌<◌}
use mathlib.Core.Bool.{Bool, ◌||◌}
use mathlib.Core.Logic.{◌⊎◌, inl, inr}
use mathlib.Core.Path.{◌≡◌, refl}
use native.Mathlib.Omega.{arith}
use lib.Dec.{leb}
use borrow.Author.Tests.{leb-true, leb-false}
use Rattle.rules.specs.declared.parameters.Params.{Params}
use Rattle.rules.specs.declared.phase.Phase.{Phase}
use Rattle.rules.specs.declared.phase.Phase.TheVariants.{Dark, Lit, Starting, Timed, Warning, Ending}
use Rattle.rules.specs.declared.state.State.{State}
use Rattle.rules.specs.Phases.{deadline, lit_at, at_deadline}
use Rattle.rules.specs.Steps.{at_moment, tick_at, tick, Quiet, fired}
use Rattle.base.proofs.Tests.{cond_case, cond_zero}
use Rattle.rules.proofs.Laws.Cases.{each_phase}

-- what holds after a due timer, and where none is due, holds after a tick
pub tick_case : (P : State → Type 0) (s : State) (t : ℕ) → ((d : ℕ) → deadline s.phase ≡ Some d → d ≤ t → P (fired s d)) → (Quiet t (deadline s.phase) → P s) → P (tick s t)
unfolding tick tick_at
tick_case P s t f g = go (deadline s.phase) refl
  where
    go : (x : Option ℕ) → deadline s.phase ≡ x → P (tick_at s t x)
    go None e = g (rw e tt)
    go (Some d) e = cond_case P (leb d t) _ _ (λ past. f d e (leb-true d t past)) (λ later. g (rw e (leb-false d t later)))

pub tick_rests : (s : State) (t : ℕ) → Quiet t (deadline s.phase) → tick s t ≡ s
tick_rests s t q = tick_case (λ (u : State). u ≡ s) s t (λ d e past. absurd (omega (arith, rw e at q))) (λ q. refl)

-- a timer changes nothing but the clock and the phase
pub tick_keeps : (s : State) (t clock : ℕ) (phase : Phase) → at_moment (tick s t) clock phase ≡ at_moment s clock phase
tick_keeps s t clock phase = tick_case (λ (u : State). at_moment u clock phase ≡ at_moment s clock phase) s t (λ d e past. refl) (λ quiet. refl)

-- how many timers a phase can still run
abbrev pub rank : Phase → ℕ
rank Dark = 0
rank Lit = 0
rank (Starting timed d) = 3
rank (Timed d) = 2
rank (Warning d) = 1
rank (Ending d) = 1

-- each timer that runs leaves one less
timer_rank : (p : Params) (night : Bool) (phase : Phase) → rank (at_deadline p night phase) ≤ rank phase - 1
unfolding at_deadline lit_at
timer_rank p night Dark = omega arith
timer_rank p night Lit = omega arith
timer_rank p night (Starting timed d) = cond_case (λ (x : Phase). rank x ≤ 2) (timed || night) _ _ (λ e. omega arith) (λ e. omega arith)
timer_rank p night (Timed d) = cond_zero (λ (x : Phase). rank x ≤ 1) p.prewarning _ _ (omega arith) (λ some. omega arith)
timer_rank p night (Warning d) = omega arith
timer_rank p night (Ending d) = omega arith

-- nothing is due at t, or at most n timers are left
abbrev Left : ℕ → ℕ → Phase → Type 0
Left n t phase = Quiet t (deadline phase) ⊎ (rank phase ≤ n)

-- a tick runs one of them, or nothing is due any more
tick_left : (s : State) (n t : ℕ) → Left (suc n) t s.phase → Left n t (tick s t).phase
tick_left s n t (inl q) = rw (tick_rests s t q) (inl q)
tick_left s n t (inr few) = tick_case (λ (u : State). Left n t u.phase) s t (λ d e past. inr (omega (arith, timer_rank s.params s.night s.phase))) inl

none_left : (t : ℕ) (phase : Phase) → Left 0 t phase → Quiet t (deadline phase)
none_left t phase (inl q) = q
none_left t phase (inr few) =
    each_phase (λ phase. rank phase ≤ 0 → Quiet t (deadline phase)) (λ few. tt) (λ few. tt) (λ timed d few. omega arith) (λ d few. omega arith) (λ d few. omega arith) (λ d few. omega arith) phase few

-- so a timer that runs always leaves fewer
pub a_timer_lowers_the_rank : (p : Params) (night : Bool) (phase : Phase) (d : ℕ) → deadline phase ≡ Some d → rank (at_deadline p night phase) < rank phase
a_timer_lowers_the_rank p night phase d e = go (rank phase) refl
  where
    go : (n : ℕ) → rank phase ≡ n → rank (at_deadline p night phase) < rank phase
    go zero none = absurd (omega (arith, rw e at (none_left d phase (inr (omega (arith, none))))))
    go (suc n) some = omega (arith, timer_rank p night phase, some)

most_left : (t : ℕ) (phase : Phase) → Left 3 t phase
most_left t = each_phase (Left 3 t) (inl tt) (inl tt) (λ timed d. inr (omega arith)) (λ d. inr (omega arith)) (λ d. inr (omega arith)) (λ d. inr (omega arith))

-- a phase has at most three timers to run, and each tick leaves one less
pub three_are_enough : (s : State) (t : ℕ) → Quiet t (deadline (tick (tick (tick s t) t) t).phase)
three_are_enough s t =
    let a = tick s t in
    let b = tick a t in
    none_left t (tick b t).phase (tick_left b 0 t (tick_left a 1 t (tick_left s 2 t (most_left t s.phase))))
