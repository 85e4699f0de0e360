-- When light ends: a phase's own end (`own_end`), as the timers bear it out, the one choice of the earlier of two moments, and what any Off
-- leaves.
use Rattle.std.specs.Prelude.{Option, Some, None}
use Prim.Native.Nat.{ℕ, ◌+◌, ◌≤◌}
use mathlib.Core.Bool.{Bool, true, false, not, ◌&&◌}
use mathlib.Core.Path.{◌≡◌, refl}
use native.Mathlib.Omega.{arith}
use lib.Dec.{eqb}
use borrow.Author.Tests.{not-true, le-leb, lt-leb, ne_eqb, eqb-false}
use Rattle.rules.specs.declared.parameters.Params.{Params}
use Rattle.rules.specs.declared.phase.Phase.{Phase}
use Rattle.rules.specs.declared.phase.Phase.TheVariants.{Dark, Lit, Starting, Timed, Warning, Ending}
use Rattle.rules.specs.declared.state.State.{State}
use Rattle.rules.specs.Phases.{output, deadline, at_deadline, own_end}
use Rattle.rules.specs.Orders.{earliest_end, off}
use Rattle.rules.specs.Steps.{at_moment, tick_at, tick, ticked, clock_move, Quiet}
use Rattle.rules.specs.Said.{EndsByItself}
use Rattle.base.proofs.Tests.{no, both, cond_case, by_order}

-- ---- moments that may never come

-- it does not come before t
abbrev pub DueFrom : ℕ → Option ℕ → Type 0
DueFrom t None = Unit {0}
DueFrom t (Some d) = t ≤ d

-- it comes, by m
abbrev pub ComesBy : ℕ → Option ℕ → Type 0
ComesBy m None = ⊥
ComesBy m (Some d) = d ≤ m

-- ---- the earlier of two moments

module _ (delayed : ℕ) where
  pub earliest_within : (own : Option ℕ) → earliest_end delayed own ≤ delayed
  unfolding earliest_end
  earliest_within None = omega arith
  earliest_within (Some d) = omega arith

  pub earliest_by : (m : ℕ) (own : Option ℕ) → ComesBy m own → earliest_end delayed own ≤ m
  unfolding earliest_end
  earliest_by m (Some d) h = omega arith
  earliest_by m None h = elim h [ ]

  pub earliest_from : (f : ℕ) (own : Option ℕ) → f ≤ delayed → DueFrom f own → f ≤ earliest_end delayed own
  unfolding earliest_end
  earliest_from f None near h = near
  earliest_from f (Some d) near h = omega arith

-- ---- a phase's own end

-- it is its deadline, or comes after it
pub own_end_from : (p : Params) (f : ℕ) (phase : Phase) → DueFrom f (deadline phase) → DueFrom f (own_end p phase)
own_end_from p f Dark h = tt
own_end_from p f Lit h = tt
own_end_from p f (Starting timed d) h = tt
own_end_from p f (Timed d) h = omega arith
own_end_from p f (Warning d) h = h
own_end_from p f (Ending d) h = h

-- so while its timer is not due at t, it has not come by t
pub still_ahead : (p : Params) (t : ℕ) (phase : Phase) → Quiet t (deadline phase) → ComesBy t (own_end p phase) → ⊥
still_ahead p t (Timed d) quiet h = omega arith
still_ahead p t (Warning d) quiet h = omega arith
still_ahead p t (Ending d) quiet h = omega arith
still_ahead p t _ quiet h = elim h [ ]

-- from then on the timers leave Dark
dark_after : (s : State) (c m : ℕ) (phase : Phase) (none : Bool) → eqb s.params.prewarning 0 ≡ none → ComesBy m (own_end s.params phase) → (clock_move (at_moment s c phase) m).state.phase ≡ Dark
unfolding clock_move ticked tick tick_at at_deadline
dark_after s c m (Timed d) true e h = simp (le-leb d m (omega arith), e)
dark_after s c m (Timed d) false e h = simp (le-leb d m (omega arith), e, le-leb (d + s.params.prewarning) m h)
dark_after s c m (Warning d) none e h = rw (le-leb d m h)
dark_after s c m (Ending d) none e h = rw (le-leb d m h)
dark_after s c m _ none e h = elim h [ ]

-- and until then light
lit_before : (s : State) (c t : ℕ) (phase : Phase) → output phase ≡ true → Quiet t (own_end s.params phase) → output (clock_move (at_moment s c phase) t).state.phase ≡ true
unfolding clock_move ticked tick tick_at at_deadline
lit_before s c t Dark lit early = no lit
lit_before s c t (Starting timed d) lit early = no lit
lit_before s c t Lit lit early = refl
lit_before s c t (Timed d) lit early =
    by_order d t
    (λ due. simp (le-leb d t due, ne_eqb s.params.prewarning 0 (λ none. omega arith), lt-leb (d + s.params.prewarning) t early))
    (λ ahead. simp (lt-leb d t ahead))
lit_before s c t (Warning d) lit early = simp (lt-leb d t early)
lit_before s c t (Ending d) lit early = simp (lt-leb d t early)

pub ends_by_itself : (s : State) → EndsByItself s
ends_by_itself s =
    record {
      until = λ t. lit_before s s.clock t s.phase;
      after = λ t d e past. dark_after s s.clock t s.phase (eqb s.params.prewarning 0) refl (rw e past);
    }

-- ---- Off

-- it leaves Dark, or Ending until the earliest end
pub off_case : (P : Phase → Type 0) (p : Params) (t : ℕ) (phase : Phase) → P Dark →
    (output phase ≡ true → 1 ≤ p.offdelay → P (Ending (earliest_end (t + p.offdelay) (own_end p phase)))) → P (off p t phase)
unfolding off
off_case P p t phase dark ends =
    cond_case P (output phase && not (eqb p.offdelay 0)) _ _
    (λ e. let h = both _ _ e in ends h.0 (omega (arith, eqb-false p.offdelay 0 (not-true _ h.1))))
    (λ e. dark)
