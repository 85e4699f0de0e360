-- An order that nothing stops leaves a phase that fits the clock and the flags, and a value that is noted leaves one that fits still.
use Prim.Native.Nat.{ℕ}
use mathlib.Core.Bool.{Bool, true, false, ◌||◌, and-false}
use mathlib.Core.Path.{◌≡◌, refl, sym, subst}
use lib.Dec.{eqb}
use Rattle.rules.specs.declared.input.Force.{Force}
use Rattle.rules.specs.declared.input.Force.TheVariants.{Free, Off, On}
use Rattle.rules.specs.declared.input.Event.{Event}
use Rattle.rules.specs.declared.input.Event.TheVariants.{Failure, Return}
use Rattle.rules.specs.declared.input.Input.{Input}
use Rattle.rules.specs.declared.input.Input.TheVariants.{SwitchOnOff, TimedStartStop, NumberedSceneControl, SwitchOnOffForced, LockDevice, NightMode, Bus, Power}
use Rattle.rules.specs.declared.state.Link.{Link}
use Rattle.rules.specs.declared.state.Link.TheVariants.{Up, BusDown, PowerDown}
use Rattle.rules.specs.declared.state.State.{State}
use Rattle.rules.specs.declared.barrier.Barrier.TheVariants.{Open, Notes}
use Rattle.rules.specs.Phases.{output}
use Rattle.rules.specs.Orders.{with_phase, with_force, with_link, with_lock, standing, held, settle, by_mode, forced, locked, unlocked, lock_device, bus_mode, bus, power_fails, power_returns, power, order, noted}
use Rattle.rules.specs.Barriers.{power_down, bus_down, rows, row_of, barrier}
use Rattle.rules.specs.Said.{Flags, flags_after, NotedWhere}
use Rattle.rules.specs.Soundness.{held_is_steady, force_decides, power_down_is_clear}
use Rattle.base.proofs.Tests.{neither_left, cond_case}
use Rattle.rules.proofs.Laws.Deadlines.{Times}
use Rattle.rules.proofs.Laws.Making.{ruled, order_makes}
use Rattle.rules.proofs.Laws.Phases.{Sits, made_sits}
use Rattle.rules.proofs.Laws.Orders.{order_leaves, noted_leaves, noted_phase}
use Rattle.rules.proofs.Laws.Holding.{Stands, Fits, fits_sits, sits_fits, Loose, LooseIn, loose_stands, held_stands, power_down_is_free}
use Rattle.rules.proofs.Laws.Barriers.{Unstopped, open_is_unstopped, noted_where, noted_is_held}

-- set on or set off, where nothing holds the phase
settle_stands : (s : State) (output : Bool) → LooseIn s → Stands (settle s output)
unfolding settle
settle_stands s true l = loose_stands (with_phase s _) l
settle_stands s false l = loose_stands (with_phase s _) l

module _ (s : State) (h : Stands s) where
  -- an order that leaves neither lock nor force, nor power down, may leave any phase
  loosely : (i : Input) → Loose (flags_after s i).lock (flags_after s i).force (flags_after s i).link → Stands (order s i)
  loosely i l = loose_stands (order s i) (subst (λ (x : Flags). Loose x.lock x.force x.link) (sym (order_leaves s i).flags) l)

  -- neither stands where both would have stopped the input
  freely : Unstopped (power_down s.link) (bus_down s.link) s.lock (standing s.force) → LooseIn s
  freely c = record { free = rw c.unlocked c.unforced; powered = c.powered }

  forced_stands : s.lock ≡ false → power_down s.link ≡ false → (force : Force) → Stands (order s (SwitchOnOffForced force))
  unfolding order forced held force_decides
  forced_stands free powered Off = held_stands (with_force s Off) false (rw free) (rw free) powered
  forced_stands free powered On = held_stands (with_force s On) true (rw free) (rw free) powered
  forced_stands free powered Free = loosely (SwitchOnOffForced Free) record { free = rw free; powered = powered }

  -- the force that stands decides, or else nothing holds the phase any longer
  unlocked_stands : power_down s.link ≡ false → (force : Force) → s.force ≡ force → Stands (unlocked s force)
  unfolding unlocked held force_decides
  unlocked_stands powered Off e = held_stands (with_lock s false s.atlocking) false (rw e) (rw e) powered
  unlocked_stands powered On e = held_stands (with_lock s false s.atlocking) true (rw e) (rw e) powered
  unlocked_stands powered Free e = settle_stands (with_lock s false s.atlocking) _ record { free = rw e; powered = powered }

  lock_stands : power_down s.link ≡ false → (value : Bool) → Stands (lock_device s value)
  unfolding lock_device locked held force_decides
  lock_stands powered true = cond_case Stands s.lock _ _ (λ already. h) (λ free. held_stands (with_lock s true (output s.phase)) (by_mode s.params.locking (output s.phase)) refl refl powered)
  lock_stands powered false = cond_case Stands s.lock _ _ (λ stood. unlocked_stands powered s.force refl) (λ free. h)

  -- the link changes, then the mode acts unless lock or force stands
  bus_mode_stands : (link : Link) (mode : ℕ) → power_down link ≡ false → Stands (bus_mode (with_link s link) mode)
  unfolding bus_mode held power_down_is_clear
  bus_mode_stands link mode powered =
      cond_case Stands (held s || eqb mode 0) (with_link s link) (settle (with_link s link) (eqb mode 2))
      (λ keep. record { steady = h.steady; decided = h.decided; clear = rw powered })
      (λ acts. settle_stands (with_link s link) (eqb mode 2) record { free = neither_left (held s) (eqb mode 0) acts; powered = powered })

  bus_stands : (link : Link) (event : Event) → Stands (bus s link event)
  unfolding bus
  bus_stands Up Failure = bus_mode_stands BusDown _ refl
  bus_stands Up Return = h
  bus_stands BusDown Failure = h
  bus_stands BusDown Return = bus_mode_stands Up _ refl
  bus_stands PowerDown event = h

  -- Dark with nothing standing fits every rule
  fails_stands : Stands (power_fails s)
  unfolding power_fails held_is_steady force_decides power_down_is_clear
  fails_stands = record { steady = refl; decided = refl; clear = refl }

  power_stands : (link : Link) → s.link ≡ link → (event : Event) → Stands (power s link event)
  unfolding power power_returns
  power_stands Up e Failure = fails_stands
  power_stands Up e Return = h
  power_stands BusDown e Failure = fails_stands
  power_stands BusDown e Return = h
  power_stands PowerDown e Failure = h
  power_stands PowerDown e Return = settle_stands (with_link s Up) _ record { free = power_down_is_free s e h; powered = refl }

  -- each kind of input by what its row of barriers has left standing
  pub order_stands : (i : Input) → barrier s i ≡ Open → Stands (order s i)
  unfolding row_of rows
  order_stands (SwitchOnOff value) way = loosely (SwitchOnOff value) (freely (open_is_unstopped s (SwitchOnOff value) way))
  order_stands (TimedStartStop value) way = loosely (TimedStartStop value) (freely (open_is_unstopped s (TimedStartStop value) way))
  order_stands (NumberedSceneControl learns number) way = loosely (NumberedSceneControl learns number) (freely (open_is_unstopped s (NumberedSceneControl learns number) way))
  order_stands (SwitchOnOffForced force) way = let c = open_is_unstopped s (SwitchOnOffForced force) way in forced_stands c.unlocked c.powered force
  order_stands (LockDevice value) way = unfold order in lock_stands (open_is_unstopped s (LockDevice value) way).powered value
  order_stands (NightMode value) way = loosely (NightMode value) (freely (open_is_unstopped s (NightMode value) way))
  order_stands (Bus event) way = unfold order in bus_stands s.link event
  order_stands (Power event) way = unfold order in power_stands s.link refl event

  -- a value that is noted leaves the phase, and lock or force holds it still: the lock stands where a force is noted
  pub noted_stands : (i : Input) → barrier s i ≡ Notes → Stands (noted s i)
  unfolding noted held_is_steady force_decides power_down_is_clear
  noted_stands i way = go i (noted_where s i way)
    where
      go : (i : Input) → NotedWhere s i → Stands (noted s i)
      go (SwitchOnOffForced force) w = record { steady = rw w.locked (rw w.locked at h.steady); decided = rw w.locked; clear = rw w.linked }
      go (NightMode value) w = record { steady = h.steady; decided = h.decided; clear = rw w.linked }
      go _ w = elim w [ ]

pub order_fits : (s : State) → Times s.params → Fits s → (i : Input) → barrier s i ≡ Open → Fits (order s i)
order_fits s n f i way =
    sits_fits (order s i)
    (subst (λ (t : ℕ). Sits (ruled (order s i)) t (order s i).phase) (sym (order_leaves s i).clock) (made_sits s.params n (fits_sits s f) (order_makes s i)))
    (order_stands s f.stands i way)

pub noted_fits : (s : State) → Fits s → (i : Input) → barrier s i ≡ Notes → Fits (noted s i)
noted_fits s f i way =
    sits_fits (noted s i)
    (rw ((noted_leaves s i).clock, noted_phase s i) (fits_sits s f).0, λ lit. rw (noted_is_held s i way).1 (and-false (noted s i).night))
    (noted_stands s f.stands i way)
