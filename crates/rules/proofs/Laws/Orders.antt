-- What an order leaves: the parameters and the clock, the scenes but for one that it teaches, and each flag that is not its own.
use Rattle.std.specs.Prelude.{Option, Some, None}
use Prim.Native.Nat.{ℕ}
use mathlib.Core.Bool.{Bool, true, false, cond, ◌||◌}
use mathlib.Core.List.{List}
use mathlib.Core.Logic.{◌↔◌}
use mathlib.Core.Path.{◌≡◌, refl, sym}
use lib.Dec.{eqb}
use Rattle.rules.specs.declared.parameters.Scene.{Scene}
use Rattle.rules.specs.declared.input.Force.{Force}
use Rattle.rules.specs.declared.input.Force.TheVariants.{Free, Off, On}
use Rattle.rules.specs.declared.input.Event.{Event}
use Rattle.rules.specs.declared.input.Event.TheVariants.{Failure, Return}
use Rattle.rules.specs.declared.input.Input.{Input}
use Rattle.rules.specs.declared.input.Input.TheVariants.{SwitchOnOff, TimedStartStop, NumberedSceneControl, SwitchOnOffForced, LockDevice, NightMode, Bus, Power}
use Rattle.rules.specs.declared.state.Link.{Link}
use Rattle.rules.specs.declared.state.Link.TheVariants.{Up, BusDown, PowerDown}
use Rattle.rules.specs.declared.state.State.{State}
use Rattle.rules.specs.Scenes.{recalled, learnt}
use Rattle.rules.specs.Phases.{output}
use Rattle.rules.specs.declared.phase.Phase.TheVariants.{Dark, Lit}
use Rattle.rules.specs.Orders.{with_night, with_force, with_link, with_lock, with_scenes, standing, held, settle, switch, timed, recall, learn, scene, night_mode, forced, locked, unlocked, lock_device, bus_mode, bus, power_fails, power_returns, power, order, noted}
use Rattle.rules.specs.Said.{Flags, flags_of, flags_after_power, MadeOf, Leaves}
use Rattle.base.proofs.Tests.{no, cond_case}

-- what s has, u has too, with these flags
abbrev pub With : State → Flags → State → Type 0
With s f u = MadeOf s.params s.clock s.scenes f u

-- nothing but the phase, if that, is changed
same : {u : State} → With u (flags_of u) u
same = record { params = refl; clock = refl; scenes = refl; flags = refl }

settle_leaves : (s : State) (output : Bool) → With s (flags_of s) (settle s output)
unfolding settle
settle_leaves s true = same
settle_leaves s false = same

switch_leaves : (s : State) (value : Bool) → With s (flags_of s) (switch s value)
unfolding switch
switch_leaves s true = same
switch_leaves s false = same

timed_leaves : (s : State) (value : Bool) → With s (flags_of s) (timed s value)
unfolding timed
timed_leaves s true = same
timed_leaves s false = same

pub recall_leaves : (s : State) (found : Option Bool) → With s (flags_of s) (recall s found)
unfolding recall
recall_leaves s None = same
recall_leaves s (Some value) = switch_leaves s value

learn_leaves : (s : State) (number : ℕ) → Leaves s (NumberedSceneControl true number) (learn s number)
unfolding learn
learn_leaves s number = by s.params.learning
  where
    taught : List Scene
    taught = learnt s.scenes number (output s.phase)

    by : (b : Bool) → MadeOf s.params s.clock (cond b taught s.scenes) (flags_of s) (cond b (with_scenes s taught) s)
    by true = same
    by false = same

night_leaves : (s : State) (value : Bool) → Leaves s (NightMode value) (night_mode s value)
unfolding night_mode
night_leaves s true = cond_case (Leaves s (NightMode true)) s.night _ _ (λ on. rw (← on) same) (λ off. same)
night_leaves s false = same

-- "force (none, off, on)": none is the one that does not stand
pub none_stands_exactly_when : (force : Force) → (standing force ≡ false) ↔ (force ≡ Free)
none_stands_exactly_when Free = (λ h. refl, λ e. refl)
none_stands_exactly_when Off = (λ h. no (sym h), λ e. cc)
none_stands_exactly_when On = (λ h. no (sym h), λ e. cc)

forced_leaves : (s : State) (force : Force) → Leaves s (SwitchOnOffForced force) (forced s force)
unfolding forced
forced_leaves s Off = same
forced_leaves s On = same
forced_leaves s Free =
    cond_case (Leaves s (SwitchOnOffForced Free)) (standing s.force) _ _
    (λ stood. settle_leaves (with_force s Free) _)
    (λ free. rw (← (none_stands_exactly_when s.force).0 free) same)

unlocked_leaves : (s : State) (force : Force) → Leaves s (LockDevice false) (unlocked s force)
unfolding unlocked
unlocked_leaves s Off = same
unlocked_leaves s On = same
unlocked_leaves s Free = settle_leaves (with_lock s false s.atlocking) _

lock_leaves : (s : State) (value : Bool) → Leaves s (LockDevice value) (lock_device s value)
unfolding lock_device locked
lock_leaves s true = cond_case (Leaves s (LockDevice true)) s.lock _ _ (λ already. rw already (rw (← already) same)) (λ free. rw free same)
lock_leaves s false = cond_case (Leaves s (LockDevice false)) s.lock _ _ (λ stood. unlocked_leaves s s.force) (λ free. rw (← free) same)

bus_mode_leaves : (s : State) (mode : ℕ) → With s (flags_of s) (bus_mode s mode)
unfolding bus_mode
bus_mode_leaves s mode = cond_case (With s (flags_of s)) (held s || eqb mode 0) _ _ (λ keep. same) (λ acts. settle_leaves s _)

bus_leaves : (s : State) (link : Link) (event : Event) → s.link ≡ link → Leaves s (Bus event) (bus s link event)
unfolding bus
bus_leaves s Up Failure e = rw e (bus_mode_leaves (with_link s BusDown) _)
bus_leaves s Up Return e = rw e (rw (← e) same)
bus_leaves s BusDown Failure e = rw e (rw (← e) same)
bus_leaves s BusDown Return e = rw e (bus_mode_leaves (with_link s Up) _)
bus_leaves s PowerDown event e = rw e (rw (← e) same)

power_leaves : (s : State) (link : Link) (event : Event) → With s (flags_after_power s link event) (power s link event)
unfolding power power_fails power_returns
power_leaves s Up Failure = same
power_leaves s Up Return = same
power_leaves s BusDown Failure = same
power_leaves s BusDown Return = same
power_leaves s PowerDown Failure = same
power_leaves s PowerDown Return = settle_leaves (with_link s Up) _

-- each order changes what 01 says that it changes, and nothing else; what it makes of the phase: Said.antt
pub order_leaves : (s : State) (i : Input) → Leaves s i (order s i)
unfolding order scene
order_leaves s (SwitchOnOff value) = switch_leaves s value
order_leaves s (TimedStartStop value) = timed_leaves s value
order_leaves s (NumberedSceneControl true number) = learn_leaves s number
order_leaves s (NumberedSceneControl false number) = recall_leaves s (recalled s.scenes number)
order_leaves s (SwitchOnOffForced force) = forced_leaves s force
order_leaves s (LockDevice value) = lock_leaves s value
order_leaves s (NightMode value) = night_leaves s value
order_leaves s (Bus event) = bus_leaves s s.link event refl
order_leaves s (Power event) = power_leaves s s.link event

-- what is noted in two states at once: what holds of both as they are, and of both with another force or another night, holds after the note
pub noted_both : (P : State → State → Type 0) (s u : State) (i : Input) → P s u → ((force : Force) → P (with_force s force) (with_force u force)) → ((night : Bool) → P (with_night s night) (with_night u night)) →
    P (noted s i) (noted u i)
unfolding noted
noted_both P s u (SwitchOnOff value) stays forces nights = stays
noted_both P s u (TimedStartStop value) stays forces nights = stays
noted_both P s u (NumberedSceneControl learns number) stays forces nights = stays
noted_both P s u (SwitchOnOffForced force) stays forces nights = forces force
noted_both P s u (LockDevice value) stays forces nights = stays
noted_both P s u (NightMode value) stays forces nights = nights value
noted_both P s u (Bus event) stays forces nights = stays
noted_both P s u (Power event) stays forces nights = stays

-- so it leaves the parameters, the clock and the scenes (and of the flags all but its own: Said.antt), and the phase
pub noted_leaves : (s : State) (i : Input) → With s (flags_of (noted s i)) (noted s i)
noted_leaves s i = noted_both (λ (u v : State). With s (flags_of u) u) s s i same (λ force. same) (λ night. same)

pub noted_phase : (s : State) (i : Input) → (noted s i).phase ≡ s.phase
noted_phase s i = noted_both (λ (u v : State). u.phase ≡ s.phase) s s i refl (λ force. refl) (λ night. refl)

-- 01, "Slips we have seen": "An unlock that forgets a standing force."
pub unlock_obeys_a_standing_force : (s : State) → s.lock ≡ true →
    (s.force ≡ Off → (order s (LockDevice false)).phase ≡ Dark) × (s.force ≡ On → (order s (LockDevice false)).phase ≡ Lit)
unfolding order lock_device unlocked
unlock_obeys_a_standing_force s h = (λ e. rw (h, e), λ e. rw (h, e))
