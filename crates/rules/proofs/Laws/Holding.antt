-- The rules on deadline, flags and phase: what they ask where nothing holds the phase, and where lock or force does.
use Rattle.std.specs.Prelude.{Some}
use Prim.Native.Nat.{ℕ}
use mathlib.Core.Bool.{Bool, true, false, cond, not, ◌&&◌, ◌||◌}
use mathlib.Core.Logic.{◌↔◌}
use mathlib.Core.Path.{◌≡◌, refl, sym, ◌∙◌}
use borrow.Author.Tests.{not-true}
use Rattle.rules.specs.declared.phase.Phase.{Phase}
use Rattle.rules.specs.declared.input.Force.{Force}
use Rattle.rules.specs.declared.input.Force.TheVariants.{Free, Off, On}
use Rattle.rules.specs.declared.state.Link.{Link}
use Rattle.rules.specs.declared.state.Link.TheVariants.{PowerDown}
use Rattle.rules.specs.declared.state.State.{State}
use Rattle.rules.specs.Phases.{deadline}
use Rattle.rules.specs.Orders.{with_phase, standing, held, plain}
use Rattle.rules.specs.Barriers.{power_down}
use Rattle.rules.specs.Soundness.{soon, is_dark, is_lit, held_is_steady, force_decides, night_ends, power_down_is_clear, consistent}
use Rattle.base.proofs.Tests.{no, both}
use Rattle.rules.proofs.Laws.Cases.{each_phase}
use Rattle.rules.proofs.Laws.Deadlines.{soon_near, near_soon}
use Rattle.rules.proofs.Laws.Making.{ruled}
use Rattle.rules.proofs.Laws.Phases.{Sits}

-- what lock, force and power ask of the phase
pub record Stands (s : State) : Type 0 where
  pub steady : held_is_steady s.lock s.force s.phase ≡ true
  pub decided : force_decides s.lock s.force s.phase ≡ true
  pub clear : power_down_is_clear s.link s.night s.lock s.force s.phase ≡ true

-- the phase of a state fits its clock and its flags
pub record Fits (s : State) : Type 0 where
  pub soon : soon s.clock (deadline s.phase) ≡ true
  pub ends : night_ends s.night s.lock s.force s.phase ≡ true
  pub stands : Stands s

pub fits_view : (s : State) → soon s.clock (deadline s.phase) ≡ true → consistent s.night s.lock s.force s.link s.phase ≡ true → Fits s
unfolding consistent
fits_view s near h =
    let parts = both _ _ h in
    let held = both _ _ parts.0 in
    let rest = both _ _ parts.1 in
    record { soon = near; ends = rest.0; stands = record { steady = held.0; decided = held.1; clear = rest.1 } }

pub fits_consistent : (s : State) → Fits s → consistent s.night s.lock s.force s.link s.phase ≡ true
unfolding consistent
fits_consistent s f = simp (f.stands.steady, f.stands.decided, f.ends, f.stands.clear)

-- "Lit in night needs lock or force": where night rules there is none
lit_needs_a_hold : (night holds lit : Bool) → (cond (night && lit) holds true ≡ true) ↔ (lit ≡ true → (night && not holds) ≡ false)
lit_needs_a_hold false holds lit = (λ h e. refl, λ h. refl)
lit_needs_a_hold true true true = (λ h e. refl, λ h. refl)
lit_needs_a_hold true false true = (λ h e. no h, λ h. no (sym (h refl)))
lit_needs_a_hold true holds false = (λ h e. no e, λ h. refl)

pub fits_sits : (s : State) → Fits s → Sits (ruled s) s.clock s.phase
unfolding night_ends held
fits_sits s f = (soon_near _ _ f.soon, (lit_needs_a_hold s.night (s.lock || standing s.force) (is_lit s.phase)).0 f.ends)

pub sits_fits : (s : State) → Sits (ruled s) s.clock s.phase → Stands s → Fits s
unfolding night_ends held
sits_fits s h stands = record { soon = near_soon _ _ h.0; ends = (lit_needs_a_hold s.night (s.lock || standing s.force) (is_lit s.phase)).1 h.1; stands = stands }

-- ---- where nothing holds the phase

-- neither lock nor force stands, and power is not down
pub record Loose (lock : Bool) (force : Force) (link : Link) : Type 0 where
  pub free : (lock || standing force) ≡ false
  pub powered : power_down link ≡ false

abbrev pub LooseIn : State → Type 0
LooseIn s = Loose s.lock s.force s.link

-- a guard does not stand where what it asks for fails
unguarded : (guard rule : Bool) → cond guard rule true ≡ true → rule ≡ false → guard ≡ false
unguarded true rule h e = no (sym e ∙ h)
unguarded false rule h e = refl

-- only Dark and Lit have no deadline
waiting_is_not_steady : (phase : Phase) (d : ℕ) → deadline phase ≡ Some d → (is_dark phase ≡ false) × (is_lit phase ≡ false)
waiting_is_not_steady =
    each_phase (λ phase. (d : ℕ) → deadline phase ≡ Some d → (is_dark phase ≡ false) × (is_lit phase ≡ false))
    (λ d e. (cc, cc)) (λ d e. (cc, cc)) (λ timed x d e. (refl, refl)) (λ x d e. (refl, refl)) (λ x d e. (refl, refl)) (λ x d e. (refl, refl))

-- lock, force and power down leave only Dark or Lit
pub waiting_is_loose : (s : State) (d : ℕ) → deadline s.phase ≡ Some d → Stands s → LooseIn s
unfolding held_is_steady power_down_is_clear
waiting_is_loose s d e h =
    let n = waiting_is_not_steady s.phase d e in
    record { free = unguarded _ _ h.steady (rw (n.0, n.1)); powered = unguarded _ _ h.clear (rw n.0) }

free_is_decided : (lock : Bool) (force : Force) (phase : Phase) → (lock || standing force) ≡ false → force_decides lock force phase ≡ true
unfolding force_decides
free_is_decided true force phase h = refl
free_is_decided false Free phase h = refl
free_is_decided false Off phase h = no (sym h)
free_is_decided false On phase h = no (sym h)

-- then any phase will do
pub loose_stands : (s : State) → LooseIn s → Stands s
unfolding held_is_steady power_down_is_clear
loose_stands s l = record { steady = rw l.free; decided = free_is_decided s.lock s.force s.phase l.free; clear = rw l.powered }

none_of : (a b c : Bool) → not (a || b || c) ≡ true → (b || c) ≡ false
none_of true b c h = no h
none_of false b c h = not-true (b || c) h

-- power down has cleared lock and force
pub power_down_is_free : (s : State) → s.link ≡ PowerDown → Stands s → (s.lock || standing s.force) ≡ false
unfolding power_down_is_clear
power_down_is_free s e h = none_of s.night s.lock (standing s.force) (both (is_dark s.phase) _ (rw e at h.clear)).1

-- ---- where lock or force holds it

plain_is_steady : (output : Bool) → (is_dark (plain output) || is_lit (plain output)) ≡ true
plain_is_steady true = refl
plain_is_steady false = refl

-- it is Dark or Lit, and a force without lock is obeyed
pub held_stands : (s : State) (output : Bool) → held s ≡ true → force_decides s.lock s.force (plain output) ≡ true → power_down s.link ≡ false → Stands (with_phase s (plain output))
unfolding held held_is_steady power_down_is_clear
held_stands s output holds decided powered = record { steady = rw holds (plain_is_steady output); decided = decided; clear = rw powered }
