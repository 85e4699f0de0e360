-- What the timers and the orders make of a phase: its deadline stays soon, and a night that rules leaves no Lit.
use Rattle.std.specs.Prelude.{Option, Some, None}
use Prim.Native.Nat.{ℕ, ◌+◌}
use mathlib.Core.Bool.{Bool, true, false}
use mathlib.Core.Path.{◌≡◌, refl, sym, ◌∙◌}
use native.Mathlib.Omega.{arith}
use Rattle.rules.specs.declared.parameters.Params.{Params}
use Rattle.rules.specs.declared.phase.Phase.{Phase}
use Rattle.rules.specs.declared.phase.Phase.TheVariants.{Dark, Lit, Starting, Timed, Warning, Ending}
use Rattle.rules.specs.Phases.{deadline, lit_at, at_deadline, own_end}
use Rattle.rules.specs.Answers.{due}
use Rattle.rules.specs.Soundness.{is_lit}
use Rattle.base.proofs.Tests.{no, cond_zero}
use Rattle.base.proofs.Codes.{failed}
use Rattle.rules.proofs.Laws.Cases.{each_phase}
use Rattle.rules.proofs.Laws.Deadlines.{Times, Near}
use Rattle.rules.proofs.Laws.Ends.{DueFrom, earliest_within, earliest_from, own_end_from}
use Rattle.rules.proofs.Laws.Making.{may_last, Makes, keeps, darkens, steadies, times, begins, awaits, ends, night_times, night_ends_lem}

lit_may_last : (phase : Phase) → is_lit phase ≡ true → may_last phase ≡ true
lit_may_last = each_phase (λ phase. is_lit phase ≡ true → may_last phase ≡ true) (λ e. e) (λ e. e) (λ timed d e. e) (λ d e. e) (λ d e. e) (λ d e. refl)

near_from : (t : ℕ) (x : Option ℕ) → Near t x → DueFrom (t + 1) x
near_from t None h = tt
near_from t (Some d) h = omega arith

-- What a sound state asks of its phase, where night rules or not: its deadline, if it has one, is soon, and it is not Lit in a night that rules.
abbrev pub Sits : Bool → ℕ → Phase → Type 0
Sits ruled t phase = Near t (deadline phase) × (is_lit phase ≡ true → ruled ≡ false)

module _ (p : Params) (n : Times p) where
  lit_sits : (ruled timed : Bool) (t : ℕ) → (timed ≡ false → ruled ≡ false) → Sits ruled t (lit_at p timed t)
  unfolding lit_at
  lit_sits ruled true t steady = (omega arith, no)
  lit_sits ruled false t steady = (tt, λ lit. steady refl)

  -- a timer sets its next deadline from its own moment (a phase without a deadline stays as it was)
  pub timer_sits : (ruled night : Bool) (t : ℕ) (phase : Phase) → (night ≡ false → ruled ≡ false) → Sits ruled t phase → Sits ruled (due phase) (at_deadline p night phase)
  unfolding at_deadline
  timer_sits ruled night t Dark day h = (tt, no)
  timer_sits ruled night t Lit day h = (tt, h.1)
  timer_sits ruled night t (Starting true d) day h = lit_sits ruled true d (λ e. cc)
  timer_sits ruled night t (Starting false d) day h = lit_sits ruled night d day
  timer_sits ruled night t (Timed d) day h = cond_zero (Sits ruled d) p.prewarning _ _ (tt, no) (λ some. (omega arith, no))
  timer_sits ruled night t (Warning d) day h = (tt, no)
  timer_sits ruled night t (Ending d) day h = (tt, no)

  -- an order keeps a deadline or sets one that is soon, and leaves Lit only where night does not rule
  pub made_sits : {t : ℕ} {night before now : Bool} {Bright Holds Dims : Type 0} {phase after : Phase} → Sits before t phase → Makes p t night before now Bright Holds Dims phase after → Sits now t after
  made_sits {now = now} {phase = phase} h (keeps e) = (h.0, λ lit. failed now (λ on. no (sym (h.1 lit) ∙ e (lit_may_last phase lit) on)))
  made_sits h (darkens x) = (tt, no)
  made_sits h (steadies e b x) = (tt, λ lit. e)
  made_sits h (times b x) = (omega arith, no)
  made_sits h (begins timed dark b some) = (omega arith, no)
  made_sits h (awaits was timed d e) = (rw e at h.0, no)
  made_sits {t} {phase = phase} h (ends same lit some) =
      (omega (arith, earliest_within (t + p.offdelay) (own_end p phase), earliest_from (t + p.offdelay) (t + 1) (own_end p phase) (omega arith) (own_end_from p (t + 1) phase (near_from t (deadline phase) h.0))), no)
  made_sits h (night_times e day) = (omega arith, no)
  made_sits h (night_ends_lem d e day) = (omega (arith, rw e at h.0), no)
