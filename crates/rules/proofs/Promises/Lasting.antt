-- How long the light of a phase lasts: where night rules it is over by m, the timers hand that moment on, and only orders that
-- light, and nightfall, need room for more.
use Prim.Native.Nat.{ℕ, ◌+◌, ◌≤◌}
use mathlib.Core.Bool.{Bool, true, false}
use mathlib.Core.Logic.{◌⊎◌, inl, inr}
use mathlib.Core.Path.{◌≡◌, refl, sym, ◌∙◌}
use native.Mathlib.Omega.{arith}
use lib.Dec.{eqb}
use Rattle.rules.specs.declared.parameters.Params.{Params}
use Rattle.rules.specs.declared.phase.Phase.{Phase}
use Rattle.rules.specs.declared.phase.Phase.TheVariants.{Dark, Lit, Starting, Timed, Warning, Ending}
use Rattle.rules.specs.Phases.{output, lit_at, at_deadline, own_end}
use Rattle.rules.specs.Promises.{longest_light}
use Rattle.base.proofs.Tests.{no, either_way}
use Rattle.base.proofs.Codes.{failed}
use Rattle.rules.proofs.Laws.Ends.{ComesBy, earliest_by}
use Rattle.rules.proofs.Laws.Making.{may_last, Makes, keeps, darkens, steadies, times, begins, awaits, ends, night_times, night_ends_lem}

module _ (p : Params) where
  -- left to itself, the light of a phase is over by m where night rules; where it does not, Lit and Ending may last. Light that is awaited
  -- is taken to be timed.
  abbrev pub OverBy : Bool → ℕ → Phase → Type 0
  OverBy ruled m Dark = Unit
  OverBy ruled m Lit = ruled ≡ false
  OverBy ruled m (Starting timed d) = ComesBy m (own_end p (Timed (d + p.timedon)))
  OverBy ruled m (Timed d) = ComesBy m (own_end p (Timed d))
  OverBy ruled m (Warning d) = ComesBy m (own_end p (Warning d))
  OverBy ruled m (Ending d) = ruled ≡ true → ComesBy m (own_end p (Ending d))

  -- where night rules, light has an own end by then
  pub over_ends : (ruled : Bool) (m : ℕ) (phase : Phase) → ruled ≡ true → output phase ≡ true → OverBy ruled m phase → ComesBy m (own_end p phase)
  over_ends ruled m Dark night lit h = no lit
  over_ends ruled m Lit night lit h = no (sym h ∙ night)
  over_ends ruled m (Starting timed d) night lit h = no lit
  over_ends ruled m (Timed d) night lit h = h
  over_ends ruled m (Warning d) night lit h = h
  over_ends ruled m (Ending d) night lit h = h night

  -- steady light comes on only where night does not rule
  lit_over : (ruled timed : Bool) (t m : ℕ) → (timed ≡ false → ruled ≡ false) → t + p.timedon + p.prewarning ≤ m → OverBy ruled m (lit_at p timed t)
  unfolding lit_at
  lit_over ruled true t m steady room = room
  lit_over ruled false t m steady room = steady refl

  -- each timer hands on the moment that it was given
  pub timer_over : (ruled night : Bool) (m : ℕ) (phase : Phase) → (night ≡ false → ruled ≡ false) → OverBy ruled m phase → OverBy ruled m (at_deadline p night phase)
  unfolding at_deadline
  timer_over ruled night m Dark day h = tt
  timer_over ruled night m Lit day h = h
  timer_over ruled night m (Starting true d) day h = lit_over ruled true d m (λ e. cc) h
  timer_over ruled night m (Starting false d) day h = lit_over ruled night d m day h
  timer_over ruled night m (Timed d) day h = either_way (OverBy ruled m) (eqb p.prewarning 0) Dark (Warning (d + p.prewarning)) tt h
  timer_over ruled night m (Warning d) day h = tt
  timer_over ruled night m (Ending d) day h = tt

  -- what is kept is over as soon as it was, where night ruled already or finds nothing that lasts
  kept_over : (before now : Bool) (m : ℕ) (phase : Phase) → (may_last phase ≡ true → now ≡ true → before ≡ true) → OverBy before m phase → OverBy now m phase
  kept_over before now m Dark e h = tt
  kept_over before now m Lit e h = failed now (λ on. no (sym h ∙ e refl on))
  kept_over before now m (Starting timed d) e h = h
  kept_over before now m (Timed d) e h = h
  kept_over before now m (Warning d) e h = h
  kept_over before now m (Ending d) e h = λ on. h (e refl on)

  -- an order leaves light as long as it was, or shorter, but for what brings light and nightfall: these have room for the longest light
  pub made_over : {t : ℕ} {night before now : Bool} {Bright Holds Dims : Type 0} {phase after : Phase} (m : ℕ) → (Bright ⊎ (night ≡ false) → t + longest_light p ≤ m) → OverBy before m phase →
      Makes p t night before now Bright Holds Dims phase after → OverBy now m after
  made_over {before = before} {now = now} {phase = phase} m room h (keeps e) = kept_over before now m phase e h
  made_over m room h (darkens x) = tt
  made_over m room h (steadies e b x) = e
  made_over m room h (times b x) = omega (arith, room (inl b))
  made_over m room h (begins timed dark b some) = omega (arith, room (inl b))
  made_over m room h (awaits was timed d e) = rw e at h
  made_over {before = before} {phase = phase} m room h (ends same lit some) = λ on. earliest_by _ m (own_end p phase) (over_ends before m phase (same on) lit h)
  made_over m room h (night_times e day) = omega (arith, room (inr day))
  made_over m room h (night_ends_lem d e day) = λ on. omega (arith, room (inr day))
