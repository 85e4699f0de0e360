-- What each mode sets, and what Off, timed orders and nightfall make of a phase, in 01's words; and what a noted value changes, in those of 02.
use Rattle.std.specs.Prelude.{Some}
use Prim.Native.Nat.{ℕ, zero, suc, ◌+◌, ◌≤◌}
use mathlib.Core.Bool.{Bool, true, false, cond, not, ◌&&◌, and-false}
use mathlib.Core.List.{[], ◌∷◌}
use mathlib.Core.Logic.{◌⊎◌, inl, inr}
use mathlib.Core.Path.{◌≡◌, refl, ◌∙◌, ap}
use native.Mathlib.Omega.{arith}
use lib.ListN.{get_or}
use lib.Dec.{eqb}
use borrow.Author.Tests.{eq-eqb, ne_eqb}
use Rattle.rules.specs.declared.parameters.Params.{Params}
use Rattle.rules.specs.declared.phase.Phase.{Phase}
use Rattle.rules.specs.declared.phase.Phase.TheVariants.{Dark, Lit, Timed, Warning, Ending}
use Rattle.rules.specs.declared.input.Force.{Force}
use Rattle.rules.specs.declared.input.Force.TheVariants.{Free, Off, On}
use Rattle.rules.specs.declared.input.Event.{Event}
use Rattle.rules.specs.declared.input.Event.TheVariants.{Failure, Return}
use Rattle.rules.specs.declared.input.Input.{Input}
use Rattle.rules.specs.declared.input.Input.TheVariants.{SwitchOnOffForced, NightMode}
use Rattle.rules.specs.declared.barrier.Barrier.TheVariants.{Notes}
use Rattle.rules.specs.declared.state.Link.{Link}
use Rattle.rules.specs.declared.state.Link.TheVariants.{Up, BusDown, PowerDown}
use Rattle.rules.specs.declared.state.State.{State}
use Rattle.rules.specs.Phases.{output, own_end, lit_at, set_on}
use Rattle.rules.specs.Orders.{from_dark, on, timed_start, earliest_end, off, timed_stop, night_falls, with_lock, with_link, held, settle, plain, by_mode, locked, unlocking_output, unlocked, lock_device, bus_mode, bus, power_returns, power, order, noted}
use Rattle.rules.specs.Barriers.{barrier}
use Rattle.rules.specs.Said.{NotedWhere, OnlyItsValue, set_to, NothingHolds, ModesSet, runs_timed, EndsAtEarlier, OnOrders, OffOrders, TimedOrders, NightFalls}
use Rattle.rules.specs.Facts.{ParamsFit}
use Rattle.base.specs.Time.{earlier}
use Rattle.base.proofs.Tests.{no, by_order}
use Rattle.rules.proofs.Laws.Cases.{each_phase}
use Rattle.rules.proofs.Laws.Facts.{held_exactly_when}
use Rattle.rules.proofs.Laws.Barriers.{noted_where}

-- ---- modes

-- "0 keep, 1 off, 2 on"
by_mode_lem : (mode : ℕ) (kept : Bool) → mode ≤ 2 → by_mode mode kept ≡ get_or (kept ∷ false ∷ true ∷ []) mode false
unfolding by_mode
by_mode_lem zero kept few = refl
by_mode_lem (suc zero) kept few = refl
by_mode_lem (suc (suc zero)) kept few = refl
by_mode_lem (suc (suc (suc mode))) kept few = absurd (omega arith)

settle_sets : (s : State) (on : Bool) → NothingHolds s → (settle s on).phase ≡ set_to s on
unfolding settle set_on lit_at held
settle_sets s true l = rw (l.unlocked, l.unforced) (by s.night)
  where
    by : (night : Bool) → cond (night && true) (Timed (s.clock + s.params.timedon)) Lit ≡ cond night (Timed (s.clock + s.params.timedon)) Lit
    by true = refl
    by false = refl
settle_sets s false l = refl

plain_is : (on : Bool) → plain on ≡ cond on Lit Dark
plain_is true = refl
plain_is false = refl

unlocking_sets : (mode : ℕ) (kept before : Bool) → mode ≤ 3 → cond (eqb mode 3) before (by_mode mode kept) ≡ get_or (kept ∷ false ∷ true ∷ before ∷ []) mode false
unfolding by_mode
unlocking_sets zero kept before few = refl
unlocking_sets (suc zero) kept before few = refl
unlocking_sets (suc (suc zero)) kept before few = refl
unlocking_sets (suc (suc (suc zero))) kept before few = refl
unlocking_sets (suc (suc (suc (suc mode)))) kept before few = absurd (omega arith)

unlock_sets : (s : State) (lock : Bool) (force : Force) → s.params.unlocking ≤ 3 → s.force ≡ force → lock ≡ true → force ≡ Free →
    (cond lock (unlocked s force) s).phase ≡ set_to s (get_or (output s.phase ∷ false ∷ true ∷ s.atlocking ∷ []) s.params.unlocking false)
unfolding unlocked unlocking_output
unlock_sets s false force few same stood free = no stood
unlock_sets s true Off few same stood free = no cc
unlock_sets s true On few same stood free = no cc
unlock_sets s true Free few same stood free =
    settle_sets (with_lock s false s.atlocking) _ (record { unlocked = refl; unforced = same }) ∙
    ap (set_to s) (unlocking_sets s.params.unlocking (output s.phase) s.atlocking few)

nothing_is_unheld : (s : State) → NothingHolds s → held s ≡ false
unfolding held
nothing_is_unheld s l = rw (l.unlocked, l.unforced)

bus_sets : (s : State) (mode : ℕ) → mode ≤ 2 → NothingHolds s → (bus_mode s mode).phase ≡ get_or (s.phase ∷ Dark ∷ set_to s true ∷ []) mode Dark
unfolding bus_mode
bus_sets s zero few l = rw (nothing_is_unheld s l)
bus_sets s (suc zero) few l = rw (nothing_is_unheld s l) (settle_sets s false l)
bus_sets s (suc (suc zero)) few l = rw (nothing_is_unheld s l) (settle_sets s true l)
bus_sets s (suc (suc (suc mode))) few l = absurd (omega arith)

held_bus : (s : State) (link : Link) (event : Event) → (s.lock ≡ true) ⊎ (s.force ≡ Free → ⊥) → (bus s link event).phase ≡ s.phase
unfolding bus bus_mode held
held_bus s Up Failure h = rw ((held_exactly_when s.lock s.force).1 h)
held_bus s Up Return h = refl
held_bus s BusDown Failure h = refl
held_bus s BusDown Return h = rw ((held_exactly_when s.lock s.force).1 h)
held_bus s PowerDown event h = refl

pub modes_set : (s : State) → ParamsFit s.params → ModesSet s
unfolding order lock_device locked bus power power_returns
modes_set s f =
    record {
      locking = λ free. rw (free, by_mode_lem s.params.locking (output s.phase) f.locking) (plain_is (get_or (output s.phase ∷ false ∷ true ∷ []) s.params.locking false));
      unlocking = λ stood free. unlock_sets s s.lock s.force f.unlocking refl stood free;
      busfailure = λ up l. rw up (bus_sets (with_link s BusDown) s.params.busfailure f.busfailure (record { unlocked = l.unlocked; unforced = l.unforced }));
      busreturn = λ down l. rw down (bus_sets (with_link s Up) s.params.busreturn f.busreturn (record { unlocked = l.unlocked; unforced = l.unforced }));
      busheld = λ event h. held_bus s s.link event h;
      powerreturn = λ down l. rw down (settle_sets (with_link s Up) _ (record { unlocked = l.unlocked; unforced = l.unforced }) ∙ ap (set_to s) (by_mode_lem s.params.powerreturn s.atfailure f.powerreturn));
    }

-- ---- timed orders

lit_is_timed : (p : Params) (t : ℕ) (phase : Phase) → output phase ≡ true → timed_start p t phase ≡ Timed (t + p.timedon)
unfolding timed_start
lit_is_timed p t = each_phase (λ phase. output phase ≡ true → timed_start p t phase ≡ Timed (t + p.timedon)) no (λ lit. refl) (λ timed d. no) (λ d lit. refl) (λ d lit. refl) (λ d lit. refl)

stop_is_off : (p : Params) (t : ℕ) (phase : Phase) → timed_stop p t phase ≡ cond (runs_timed phase) (off p t phase) phase
unfolding timed_stop
stop_is_off p t = each_phase (λ phase. timed_stop p t phase ≡ cond (runs_timed phase) (off p t phase) phase) refl refl (λ timed d. refl) (λ d. refl) (λ d. refl) (λ d. refl)

-- ---- On

ending_is_set_on : (p : Params) (night held : Bool) (t : ℕ) (phase : Phase) (d : ℕ) → own_end p phase ≡ Some d → on p night held t phase ≡ lit_at p (night && not held) t
unfolding on set_on
ending_is_set_on p night held t =
    each_phase (λ phase. (d : ℕ) → own_end p phase ≡ Some d → on p night held t phase ≡ lit_at p (night && not held) t)
    (λ d e. no cc) (λ d e. no cc) (λ timed x d e. no cc) (λ x d e. refl) (λ x d e. refl) (λ x d e. refl)

pub on_orders : (p : Params) (night held : Bool) (t : ℕ) → OnOrders p night held t
unfolding from_dark on lit_at
on_orders p night held t =
    record {
      at_once_by_night = λ none dark. rw (eq-eqb p.ondelay 0 none, dark);
      at_once_by_day = λ none day. rw (eq-eqb p.ondelay 0 none, day);
      after_delay = λ some. rw (ne_eqb p.ondelay 0 some);
      waiting = λ timed d. refl;
      lit = refl;
      ends_in_night = λ phase d e dark free. ending_is_set_on p night held t phase d e ∙ rw (dark, free);
      stays_by_day = λ phase d e day. ending_is_set_on p night held t phase d e ∙ rw day;
      stays_held = λ phase d e holds. ending_is_set_on p night held t phase d e ∙ rw (holds, and-false night);
    }

pub timed_orders : (p : Params) (t : ℕ) → TimedOrders p t
unfolding from_dark timed_start lit_at
timed_orders p t =
    record {
      at_once = λ none. rw (eq-eqb p.ondelay 0 none);
      after_delay = λ some. rw (ne_eqb p.ondelay 0 some);
      waiting = λ timed d. refl;
      lit = lit_is_timed p t;
      stop = λ phase runs. stop_is_off p t phase ∙ rw runs;
      no_stop = λ phase idle. stop_is_off p t phase ∙ rw idle;
    }

-- ---- Off and nightfall: "the earlier of"

ends_at_earlier : (a b : ℕ) → EndsAtEarlier a b (Ending (earlier a b))
ends_at_earlier a b =
    by_order a b
    (λ first. record { until = earlier a b; ending = refl; not_after_a = omega arith; not_after_b = omega arith; one_of_them = inl (omega arith) })
    (λ second. record { until = earlier a b; ending = refl; not_after_a = omega arith; not_after_b = omega arith; one_of_them = inr (omega arith) })

module _ (p : Params) (t : ℕ) (some : p.offdelay ≡ 0 → ⊥) (d : ℕ) where
  off_timed : EndsAtEarlier (t + p.offdelay) (d + p.prewarning) (off p t (Timed d))
  unfolding off earliest_end
  off_timed = rw (ne_eqb p.offdelay 0 some) (ends_at_earlier (t + p.offdelay) (d + p.prewarning))

  off_warning : EndsAtEarlier (t + p.offdelay) d (off p t (Warning d))
  unfolding off earliest_end
  off_warning = rw (ne_eqb p.offdelay 0 some) (ends_at_earlier (t + p.offdelay) d)

  off_ending : EndsAtEarlier (t + p.offdelay) d (off p t (Ending d))
  unfolding off earliest_end
  off_ending = rw (ne_eqb p.offdelay 0 some) (ends_at_earlier (t + p.offdelay) d)

pub off_orders : (p : Params) (t : ℕ) → OffOrders p t
unfolding off earliest_end
off_orders p t =
    record {
      at_once = λ none phase. rw (eq-eqb p.offdelay 0 none, and-false (output phase));
      dark = refl;
      starting = λ timed d. refl;
      lit = λ some. rw (ne_eqb p.offdelay 0 some);
      timed = off_timed p t;
      warning = off_warning p t;
      ending = off_ending p t;
    }

pub night_falls_lem : (p : Params) (t : ℕ) → NightFalls p t
unfolding night_falls
night_falls_lem p t =
    record {
      lit = refl;
      ending = λ d. ends_at_earlier d (t + p.timedon + p.prewarning);
      dark = refl;
      starting = λ timed d. refl;
      timed = λ d. refl;
      warning = λ d. refl;
    }

-- ---- a value that is noted

pub a_noted_value_changes_nothing_else : (s : State) (i : Input) → barrier s i ≡ Notes → OnlyItsValue s i (noted s i)
unfolding noted
a_noted_value_changes_nothing_else s i way = go i (noted_where s i way)
  where
    go : (i : Input) → NotedWhere s i → OnlyItsValue s i (noted s i)
    go (SwitchOnOffForced force) w = record { leaves = record { params = refl; clock = refl; scenes = refl; flags = refl }; phase = refl }
    go (NightMode value) w = record { leaves = record { params = refl; clock = refl; scenes = refl; flags = refl }; phase = refl }
    go _ w = elim w [ ]
