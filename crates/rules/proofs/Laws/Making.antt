-- What an order may make of the phase, and by what, said once of every order. By its cases follows that no deadline is set too early or too
-- far off, that night leaves no light that lasts, how long light lasts, that a wait and a lit lamp stay, and that an Off is heard.
use Rattle.std.specs.Prelude.{Option, Some, None}
use Prim.Native.Nat.{ℕ, ◌+◌, ◌≤◌}
use mathlib.Core.Bool.{Bool, true, false, not, ◌&&◌, ◌||◌, or-true, and-false}
use mathlib.Core.Path.{◌≡◌, refl, sym}
use mathlib.Core.Logic.{◌⊎◌, inl, inr}
use lib.Dec.{eqb}
use Rattle.rules.specs.declared.parameters.Params.{Params}
use Rattle.rules.specs.declared.phase.Phase.{Phase}
use Rattle.rules.specs.declared.phase.Phase.TheVariants.{Dark, Lit, Starting, Timed, Warning, Ending}
use Rattle.rules.specs.declared.input.Force.{Force}
use Rattle.rules.specs.declared.input.Force.TheVariants.{Free, Off, On}
use Rattle.rules.specs.declared.input.Event.{Event}
use Rattle.rules.specs.declared.input.Event.TheVariants.{Failure, Return}
use Rattle.rules.specs.declared.input.Input.{Input}
use Rattle.rules.specs.declared.input.Input.TheVariants.{SwitchOnOff, TimedStartStop, NumberedSceneControl, SwitchOnOffForced, LockDevice, NightMode, Bus, Power}
use Rattle.rules.specs.declared.state.Link.{Link}
use Rattle.rules.specs.declared.state.Link.TheVariants.{Up, BusDown, PowerDown}
use Rattle.rules.specs.declared.state.State.{State}
use Rattle.base.specs.Time.{earlier}
use Rattle.rules.specs.Scenes.{recalled}
use Rattle.rules.specs.Phases.{output, own_end, lit_at, set_on}
use Rattle.rules.specs.Orders.{from_dark, on, timed_start, earliest_end, off, timed_stop, night_falls, with_force, with_link, with_lock, standing, held, settle, plain, by_mode, switch, timed, recall, learn, scene, night_mode, forced, locked, unlocked, lock_device, bus_mode, bus, power_fails, power_returns, power, order}
use Rattle.rules.specs.Barriers.{power_down}
use Rattle.rules.specs.Status.{staircase}
use Rattle.rules.specs.Soundness.{is_dark}
use Rattle.rules.specs.Promises.{recalls_on, recalls_off, lights, dims, mode_on, bus_on}
use Rattle.rules.specs.Mistakes.{overrides}
use Rattle.base.proofs.Tests.{no, cond_case, cond_zero, either_way}
use Rattle.rules.proofs.Laws.Ends.{off_case}

-- night is on, and neither lock nor force stands: light must end
abbrev pub ruled : State → Bool
ruled s = s.night && not (held s)

-- what an order must be, or meet, to bring light
pub data Brightens (s : State) (i : Input) : Type 0 where
  lighting : lights s i ≡ true → Brightens s i
  bus_is_on : bus_on s i ≡ true → Brightens s i
  from_lock : s.lock ≡ true → Brightens s i
  from_force : standing s.force ≡ true → Brightens s i
  from_power_down : power_down s.link ≡ true → Brightens s i

-- this phase waits for its light: it is off, and not Dark
abbrev pub awaited : Phase → Bool
awaited phase = not (output phase) && not (is_dark phase)

-- the light of this phase may last where night does not rule: it is on, and no staircase light
abbrev pub may_last : Phase → Bool
may_last phase = output phase && not (staircase phase)

-- An order at t, in this night, makes this of a phase. Night ruled `before` or not, and rules `now`; `Bright` is what brings light, `Holds`
-- what overrides, `Dims` what takes light away or the wait for it.
pub data Makes (p : Params) (t : ℕ) (night before now : Bool) (Bright Holds Dims : Type 0) (phase : Phase) : Phase → Type 0 where
  -- nothing; but a night that begins to rule finds no light that may last
  keeps : (may_last phase ≡ true → now ≡ true → before ≡ true) → Makes p t night before now Bright Holds Dims phase phase
  -- an Off that finds no light or has no delay, set off, and what puts the light out
  darkens : Dims → Makes p t night before now Bright Holds Dims phase Dark
  -- an On, set on, or a hold, where night does not rule
  steadies : now ≡ false → Bright ⊎ Holds → (awaited phase ≡ true → Dims) → Makes p t night before now Bright Holds Dims phase Lit
  -- a timed start, or an On or set on in night
  times : Bright → (awaited phase ≡ true → Dims) → Makes p t night before now Bright Holds Dims phase (Timed (t + p.timedon))
  -- the wait for either, and one that goes on
  begins : (timed : Bool) → phase ≡ Dark → Bright → 1 ≤ p.ondelay → Makes p t night before now Bright Holds Dims phase (Starting timed (t + p.ondelay))
  awaits : (was timed : Bool) (d : ℕ) → phase ≡ Starting was d → Makes p t night before now Bright Holds Dims phase (Starting timed d)
  -- an Off that finds light
  ends : (now ≡ true → before ≡ true) → output phase ≡ true → 1 ≤ p.offdelay → Makes p t night before now Bright Holds Dims phase (Ending (earliest_end (t + p.offdelay) (own_end p phase)))
  -- nightfall
  night_times : phase ≡ Lit → night ≡ false → Makes p t night before now Bright Holds Dims phase (Timed (t + p.timedon))
  night_ends_lem : (d : ℕ) → phase ≡ Ending d → night ≡ false → Makes p t night before now Bright Holds Dims phase (Ending (earlier d (t + p.timedon + p.prewarning)))

-- ---- orders to the phase

module _ {p : Params} {t : ℕ} {night before : Bool} {Bright Holds Dims : Type 0} where
  lit_makes : (now timed : Bool) (phase : Phase) → Bright → (awaited phase ≡ true → Dims) → (timed ≡ false → now ≡ false) → Makes p t night before now Bright Holds Dims phase (lit_at p timed t)
  unfolding lit_at
  lit_makes now true phase b d steady = times b d
  lit_makes now false phase b d steady = steadies (steady refl) (inl b) d

  night_falls_makes : (now : Bool) (phase : Phase) → night ≡ false → Makes p t night before now Bright Holds Dims phase (night_falls p t phase)
  unfolding night_falls
  night_falls_makes now Dark day = keeps no
  night_falls_makes now Lit day = night_times refl day
  night_falls_makes now (Starting timed d) day = keeps no
  night_falls_makes now (Timed d) day = keeps no
  night_falls_makes now (Warning d) day = keeps no
  night_falls_makes now (Ending d) day = night_ends_lem d refl day

  -- the others leave it to night whether it rules
  from_dark_makes : (timed waits : Bool) → Bright → (timed ≡ false → before ≡ false) → Makes p t night before before Bright Holds Dims Dark (from_dark p timed waits t)
  unfolding from_dark
  from_dark_makes timed waits b steady = cond_zero (Makes p t night before before Bright Holds Dims Dark) p.ondelay _ _ (lit_makes before timed Dark b no steady) (begins waits refl b)

  on_makes : (is_held : Bool) (phase : Phase) → Bright → before ≡ (night && not is_held) → Makes p t night before before Bright Holds Dims phase (on p night is_held t phase)
  unfolding on set_on
  on_makes is_held Dark b e = from_dark_makes night false b (λ day. rw (e, day))
  on_makes is_held Lit b e = keeps (λ lasts on. on)
  on_makes is_held (Starting timed d) b e = awaits timed false d refl
  on_makes is_held (Timed d) b e = rw (← e) (lit_makes before before (Timed d) b no (λ same. same))
  on_makes is_held (Warning d) b e = rw (← e) (lit_makes before before (Warning d) b no (λ same. same))
  on_makes is_held (Ending d) b e = rw (← e) (lit_makes before before (Ending d) b no (λ same. same))

  timed_start_makes : (phase : Phase) → Bright → Makes p t night before before Bright Holds Dims phase (timed_start p t phase)
  unfolding timed_start
  timed_start_makes Dark b = from_dark_makes true true b (λ never. no (sym never))
  timed_start_makes Lit b = times b no
  timed_start_makes (Starting timed d) b = awaits timed true d refl
  timed_start_makes (Timed d) b = times b no
  timed_start_makes (Warning d) b = times b no
  timed_start_makes (Ending d) b = times b no

  off_makes : (phase : Phase) → Dims → Makes p t night before before Bright Holds Dims phase (off p t phase)
  off_makes phase d = off_case (Makes p t night before before Bright Holds Dims phase) p t phase (darkens d) (ends (λ on. on))

  timed_stop_makes : (phase : Phase) → Dims → Makes p t night before before Bright Holds Dims phase (timed_stop p t phase)
  unfolding timed_stop
  timed_stop_makes Dark d = keeps (λ lasts on. on)
  timed_stop_makes Lit d = keeps (λ lasts on. on)
  timed_stop_makes (Starting timed x) d = either_way (Makes p t night before before Bright Holds Dims (Starting timed x)) timed _ _ (off_makes (Starting timed x) d) (keeps (λ lasts on. on))
  timed_stop_makes (Timed x) d = off_makes (Timed x) d
  timed_stop_makes (Warning x) d = off_makes (Warning x) d
  timed_stop_makes (Ending x) d = keeps (λ lasts on. on)

-- ---- orders to the state

module _ (s : State) (Bright Holds Dims : Type 0) where
  -- an order that leads to this state
  abbrev pub Leads : State → Type 0
  Leads u = Makes s.params s.clock s.night (ruled s) (ruled u) Bright Holds Dims s.phase u.phase

  stays : Leads s
  stays = keeps (λ lasts on. on)

  settle_makes : (u : State) (value : Bool) → (value ≡ true → Bright) → Dims → Makes u.params u.clock s.night (ruled s) (ruled (settle u value)) Bright Holds Dims s.phase (settle u value).phase
  unfolding settle set_on held
  settle_makes u true b d = lit_makes (ruled u) (ruled u) s.phase (b refl) (λ waits. d) (λ same. same)
  settle_makes u false b d = darkens d

  switch_leads : (value : Bool) → (value ≡ true → Bright) → (not value ≡ true → Dims) → Leads (switch s value)
  unfolding switch held
  switch_leads true b d = on_makes (held s) s.phase (b refl) refl
  switch_leads false b d = off_makes s.phase (d refl)

  timed_leads : (value : Bool) → (value ≡ true → Bright) → (not value ≡ true → Dims) → Leads (timed s value)
  unfolding timed held
  timed_leads true b d = timed_start_makes s.phase (b refl)
  timed_leads false b d = timed_stop_makes s.phase (d refl)

  recall_leads : (found : Option Bool) → (recalls_on found ≡ true → Bright) → (recalls_off found ≡ true → Dims) → Leads (recall s found)
  unfolding recall
  recall_leads None b d = stays
  recall_leads (Some value) b d = switch_leads value b d

  learn_leads : (number : ℕ) → Leads (learn s number)
  unfolding learn held
  learn_leads number = either_way Leads s.params.learning _ _ (keeps (λ lasts on. on)) stays

  night_leads : (value : Bool) → Leads (night_mode s value)
  unfolding night_mode held
  night_leads true = cond_case Leads s.night _ _ (λ already. stays) (night_falls_makes (not (held s)) s.phase)
  night_leads false = keeps (λ lasts. no)

  forced_leads : (force : Force) → (standing force ≡ true → Holds) → (standing s.force ≡ true → Bright) → Dims → Leads (forced s force)
  unfolding forced held
  forced_leads Off h b d = darkens d
  forced_leads On h b d = steadies (rw (or-true s.lock) (and-false s.night)) (inr (h refl)) (λ waits. d)
  forced_leads Free h b d = cond_case Leads (standing s.force) _ _ (λ stood. settle_makes (with_force s Free) _ (λ on. b stood) d) (λ never. stays)

  unlocked_leads : (force : Force) → s.force ≡ force → Bright → Dims → Leads (unlocked s force)
  unfolding unlocked held
  unlocked_leads Off e b d = darkens d
  unlocked_leads On e b d = steadies (rw e (and-false s.night)) (inl b) (λ waits. d)
  unlocked_leads Free e b d = settle_makes (with_lock s false s.atlocking) _ (λ on. b) d

  plain_makes : (now output : Bool) → now ≡ false → Holds → Dims → Makes s.params s.clock s.night (ruled s) now Bright Holds Dims s.phase (plain output)
  plain_makes now true e h d = steadies e (inr h) (λ waits. d)
  plain_makes now false e h d = darkens d

  lock_leads : (value : Bool) → (value ≡ true → Holds) → (s.lock ≡ true → Bright) → Dims → Leads (lock_device s value)
  unfolding lock_device locked held
  lock_leads true h b d = either_way Leads s.lock _ _ stays (plain_makes _ (by_mode s.params.locking (output s.phase)) (and-false s.night) (h refl) d)
  lock_leads false h b d = cond_case Leads s.lock _ _ (λ stood. unlocked_leads s.force refl (b stood) d) (λ free. stays)

  bus_mode_leads : (link : Link) (mode : ℕ) → (eqb mode 2 ≡ true → Bright) → Dims → Leads (bus_mode (with_link s link) mode)
  unfolding bus_mode held
  bus_mode_leads link mode b d = either_way Leads (held s || eqb mode 0) _ _ (keeps (λ lasts on. on)) (settle_makes (with_link s link) (eqb mode 2) b d)

  bus_leads : (link : Link) (event : Event) → (mode_on s.params link event ≡ true → Bright) → Dims → Leads (bus s link event)
  unfolding bus
  bus_leads Up Failure b d = bus_mode_leads BusDown _ b d
  bus_leads Up Return b d = stays
  bus_leads BusDown Failure b d = stays
  bus_leads BusDown Return b d = bus_mode_leads Up _ b d
  bus_leads PowerDown event b d = stays

  power_leads : (link : Link) (event : Event) → (power_down link ≡ true → Bright) → Dims → Leads (power s link event)
  unfolding power power_fails power_returns
  power_leads Up Failure b d = darkens d
  power_leads Up Return b d = stays
  power_leads BusDown Failure b d = darkens d
  power_leads BusDown Return b d = stays
  power_leads PowerDown Failure b d = stays
  power_leads PowerDown Return b d = settle_makes (with_link s Up) _ (λ on. b refl) d

pub order_makes : (s : State) (i : Input) → Leads s (Brightens s i) (overrides i ≡ true) (dims s i ≡ true) (order s i)
unfolding order scene
order_makes s (SwitchOnOff value) = switch_leads s _ _ _ value lighting (λ dims. dims)
order_makes s (TimedStartStop value) = timed_leads s _ _ _ value lighting (λ dims. dims)
order_makes s (NumberedSceneControl true number) = learn_leads s _ _ _ number
order_makes s (NumberedSceneControl false number) = recall_leads s _ _ _ (recalled s.scenes number) lighting (λ dims. dims)
order_makes s (SwitchOnOffForced force) = forced_leads s _ _ _ force (λ holds. holds) from_force refl
order_makes s (LockDevice value) = lock_leads s _ _ _ value (λ holds. holds) from_lock refl
order_makes s (NightMode value) = night_leads s _ _ _ value
order_makes s (Bus event) = bus_leads s _ _ _ s.link event bus_is_on refl
order_makes s (Power event) = power_leads s _ _ _ s.link event from_power_down refl
