-- Times in range, and deadlines that lie 1 to 655,350 after the clock: what keeps every sum within its type.
use Rattle.std.specs.Prelude.{Option, Some, None}
use Prim.Native.Nat.{ℕ, ◌+◌, ◌-◌, ◌/◌, ◌%◌, ◌≤◌, ◌<◌}
use mathlib.Core.Bool.{Bool, true, false}
use mathlib.Core.Path.{◌≡◌, refl, ap}
use mathlib.Core.Logic.{◌↔◌, inl, inr}
use native.Mathlib.Omega.{arith}
use lib.Dec.{leb, ltb}
use borrow.Author.Tests.{leb-true, ltb-true, eqb-true, le-leb, lt-ltb, eq-eqb}
use Rattle.rules.specs.declared.form.Scale.TheVariants.{Seconds, Tenths}
use Rattle.rules.specs.declared.parameters.Params.{Params}
use Rattle.rules.specs.declared.phase.Phase.{Phase}
use Rattle.base.specs.Time.{longest_delay}
use Rattle.rules.specs.Forms.{unit, form_of, HasVersion}
use Rattle.rules.specs.Parameters.{time_in_range, times_in_range, modes_in_range, params_in_range}
use Rattle.rules.specs.Phases.{deadline}
use Rattle.rules.specs.Answers.{moment, due}
use Rattle.rules.specs.Soundness.{soon}
use Rattle.rules.specs.Facts.{Delay, ParamsFit}
use Rattle.base.proofs.Tests.{no, both, cond_case}
use Rattle.rules.proofs.Laws.Forms.{has_version}

-- ---- parameters in range

-- of version 1: whole seconds, as a time that is divisible by 10
seconds_exactly_when : (t : ℕ) → (time_in_range Seconds t ≡ true) ↔ Delay 1 t
unfolding time_in_range
seconds_exactly_when t = (
  λ h. let parts = both _ _ h in record { limit = leb-true t longest_delay parts.0; seconds = λ first. (t / 10, omega (arith, eqb-true (t % 10) 0 parts.1)) },
  λ d. simp (le-leb t longest_delay d.limit, eq-eqb (t % 10) 0 (omega (arith, (d.seconds refl).1))),
)

-- of version 2: any tenths
tenths_exactly_when : (t : ℕ) → (time_in_range Tenths t ≡ true) ↔ Delay 2 t
unfolding time_in_range
tenths_exactly_when t = (
  λ h. record { limit = leb-true t longest_delay (both (leb t longest_delay) _ h).0; seconds = λ first. absurd (let z : ◌≡◌ {A = ℕ} 2 1 = first in omega arith) },
  λ d. simp (le-leb t longest_delay d.limit, eq-eqb (t % 1) 0 (omega arith)),
)

-- a time is in range exactly when the version can write it
delay_exactly_when : (v : ℕ) → HasVersion v → (t : ℕ) → (time_in_range (form_of v).scale t ≡ true) ↔ Delay v t
unfolding form_of
delay_exactly_when v (inl one) t = rw one (seconds_exactly_when t)
delay_exactly_when v (inr two) t = rw two (tenths_exactly_when t)

-- and one that is not 0 is at least one of its units
unit_exactly_when : (v t : ℕ) → HasVersion v → Delay v t → (leb (unit (form_of v).scale) t ≡ true) ↔ (t ≡ 0 → ⊥)
unfolding form_of
unit_exactly_when v t (inl one) d = rw one (λ h none. omega (arith, leb-true 10 t h), λ some. le-leb 10 t (omega (arith, some, (d.seconds one).1)))
unit_exactly_when v t (inr two) d = rw two (λ h none. omega (arith, leb-true 1 t h), λ some. le-leb 1 t (omega (arith, some)))

-- parameters are in range exactly when each of them is as 01 says
pub params_exactly_when : (p : Params) → (params_in_range p ≡ true) ↔ ParamsFit p
unfolding params_in_range times_in_range modes_in_range
params_exactly_when p = (view, whole)
  where
    view : params_in_range p ≡ true → ParamsFit p
    view h =
        let parts = both _ _ h in
        let first = both _ _ parts.0 in
        let known : HasVersion p.version = (has_version p.version).0 first.0 in
        let times = both _ _ first.1 in
        let delays = both _ _ times.0 in
        let switched = both _ _ delays.0 in
        let staged = both _ _ delays.1 in
        let modes = both _ _ parts.1 in
        let others = both _ _ modes.0 in
        let locks = both _ _ others.0 in
        let buses = both _ _ others.1 in
        let timedon = (delay_exactly_when _ known p.timedon).0 staged.0 in
        record {
          version = known;
          ondelay = (delay_exactly_when _ known p.ondelay).0 switched.0;
          offdelay = (delay_exactly_when _ known p.offdelay).0 switched.1;
          timedon = timedon;
          prewarning = (delay_exactly_when _ known p.prewarning).0 staged.1;
          some = (unit_exactly_when _ p.timedon known timedon).0 times.1;
          locking = leb-true _ _ locks.0;
          unlocking = leb-true _ _ locks.1;
          busfailure = leb-true _ _ buses.0;
          busreturn = leb-true _ _ buses.1;
          powerreturn = leb-true _ _ modes.1;
        }

    whole : ParamsFit p → params_in_range p ≡ true
    whole f =
        simp (
          (has_version p.version).1 f.version,
          (delay_exactly_when p.version f.version p.ondelay).1 f.ondelay,
          (delay_exactly_when p.version f.version p.offdelay).1 f.offdelay,
          (delay_exactly_when p.version f.version p.timedon).1 f.timedon,
          (delay_exactly_when p.version f.version p.prewarning).1 f.prewarning,
          (unit_exactly_when p.version p.timedon f.version f.timedon).1 f.some,
          le-leb _ _ f.locking,
          le-leb _ _ f.unlocking,
          le-leb _ _ f.busfailure,
          le-leb _ _ f.busreturn,
          le-leb _ _ f.powerreturn,
        )

-- how long the times are at most
pub record Times (p : Params) : Type 0 where
  pub ondelay : p.ondelay ≤ 655_350
  pub offdelay : p.offdelay ≤ 655_350
  pub timedon : p.timedon ≤ 655_350
  pub prewarning : p.prewarning ≤ 655_350
  pub some : 1 ≤ p.timedon

pub times_bounded : (p : Params) → params_in_range p ≡ true → Times p
times_bounded p h =
    let f = (params_exactly_when p).0 h in
    record {
      ondelay = f.ondelay.limit;
      offdelay = f.offdelay.limit;
      timedon = f.timedon.limit;
      prewarning = f.prewarning.limit;
      some = omega (arith, f.some);
    }

-- ---- deadlines

-- d lies 1 to 655,350 after t
pub record Within (t d : ℕ) : Type 0 where
  pub after : t < d
  pub near : d ≤ t + longest_delay

pub soon_within : (t d : ℕ) → soon t (Some d) ≡ true → Within t d
unfolding soon
soon_within t d h =
    cond_case (λ (b : Bool). b ≡ true → Within t d) (ltb t d) (leb (d - t) longest_delay) false
    (λ e g. omega (arith, ltb-true t d e, leb-true (d - t) longest_delay g)) (λ e g. no g) h

pub within_soon : (t d : ℕ) → Within t d → soon t (Some d) ≡ true
unfolding soon
within_soon t d w = simp (lt-ltb t d w.after, le-leb (d - t) longest_delay (omega arith))

-- if it ever comes
abbrev pub Near : ℕ → Option ℕ → Type 0
Near t None = Unit {0}
Near t (Some d) = Within t d

pub soon_near : (t : ℕ) (x : Option ℕ) → soon t x ≡ true → Near t x
soon_near t None h = tt
soon_near t (Some d) h = soon_within t d h

pub near_soon : (t : ℕ) (x : Option ℕ) → Near t x → soon t x ≡ true
near_soon t None h = unfold soon in refl
near_soon t (Some d) h = within_soon t d h

-- (a phase without a deadline has the number 0 for it)
pub near_due : (t : ℕ) (x : Option ℕ) → Near t x → moment x ≤ t + longest_delay
near_due t None h = omega arith
near_due t (Some d) h = h.near

-- the number of a deadline is the deadline
pub due_is : (phase : Phase) (d : ℕ) → deadline phase ≡ Some d → due phase ≡ d
due_is phase d e = ap moment e

-- and 0 where there is none
pub due_none : (phase : Phase) → deadline phase ≡ None → due phase ≡ 0
due_none phase e = ap moment e
