-- "Nobody waits for ever", Light: an order that lights leaves light, or a wait that ends within the on delay, and no order but one
-- that dims disturbs the wait.
use Rattle.std.specs.Prelude.{Option, Some, None}
use Prim.Native.Nat.{ℕ, ◌+◌, ◌≤◌, ◌<◌}
use mathlib.Core.Bool.{Bool, true, false, not, ◌&&◌, ◌||◌}
use mathlib.Core.Path.{◌≡◌, refl, sym, ap, subst, ◌∙◌}
use mathlib.Core.List.{List, [], ◌∷◌, ◌++◌}
use mathlib.Core.Logic.{◌⊎◌, inl, inr}
use native.Mathlib.Omega.{arith}
use Rattle.rules.specs.declared.parameters.Params.{Params}
use Rattle.rules.specs.declared.parameters.Scene.{Scene}
use Rattle.rules.specs.declared.phase.Phase.{Phase}
use Rattle.rules.specs.declared.phase.Phase.TheVariants.{Dark, Lit, Starting, Timed, Warning, Ending}
use Rattle.rules.specs.declared.input.Input.{Input}
use Rattle.rules.specs.declared.input.Input.TheVariants.{SwitchOnOff, TimedStartStop, NumberedSceneControl, SwitchOnOffForced, LockDevice, NightMode, Bus, Power}
use Rattle.rules.specs.declared.state.State.{State}
use Rattle.rules.specs.Scenes.{recalled}
use Rattle.rules.specs.Phases.{output, deadline, lit_at, at_deadline, set_on}
use Rattle.rules.specs.Orders.{from_dark, on, timed_start, held, switch, timed, recall, scene, order}
use Rattle.rules.specs.Steps.{fresh, ticked, clock_move, step, Quiet, fired}
use Rattle.rules.specs.Lists.{Cue, cue, plays}
use Rattle.rules.specs.Promises.{Rises, Turn, turn, turns, Each, state_at, Taken, recalls_on, recalls_off, lights, dims, longest_light, NotBefore, ShowsLight, turn_after, LightDue, LightPromise, StrongLightPromise}
use Rattle.base.proofs.Tests.{no, cond_zero, by_order}
use Rattle.rules.proofs.Promises.Lasting.{OverBy}
use Rattle.rules.proofs.Laws.Making.{awaited, Makes, keeps, darkens, steadies, times, begins, awaits, ends, night_times, night_ends_lem, order_makes}
use Rattle.rules.proofs.Laws.Steps.{three_are_enough}
use Rattle.rules.proofs.Laws.Soundness.{move_clock, move_params, step_phase_case, taken_is_the_order, step_clock, step_params}
use Rattle.rules.proofs.Laws.Timers.{the_first_timer_first, no_timer_due_no_move}
use Rattle.rules.proofs.Promises.Prolonging.{Over, move_over, step_over}
use Rattle.rules.proofs.Laws.Lists.{plays_keep_params}
use Rattle.rules.proofs.Laws.Moments.{at_case, at_the_end, next_is_later, rises_to, rises_from, at_after}
use Rattle.rules.proofs.Promises.Stamps.{nothing_due_after_a_step}

-- ---- a moment of light

-- lit, and no timer is due at t
abbrev pub LitAt : ℕ → Phase → Type 0
LitAt t phase = (output phase ≡ true) × Quiet t (deadline phase)

pub lit_now : (s : State) (t : ℕ) → LitAt t s.phase → output (clock_move s t).state.phase ≡ true
lit_now s t h = rw (no_timer_due_no_move s t h.1) h.0

-- light that comes on lasts: a lamp that is timed for no time at all would not be on at any moment
lit_lasts : (p : Params) (timed : Bool) (t : ℕ) → 1 ≤ p.timedon → LitAt t (lit_at p timed t)
unfolding lit_at
lit_lasts p true t some = (refl, omega arith)
lit_lasts p false t some = (refl, tt)

-- ---- a wait that no order dims

-- the light comes on at d
abbrev pub Waits : ℕ → Phase → Type 0
Waits d Dark = ⊥
Waits d Lit = ⊥
Waits d (Starting timed e) = e ≡ d
Waits d (Timed e) = ⊥
Waits d (Warning e) = ⊥
Waits d (Ending e) = ⊥

waits_awaited : (d : ℕ) (phase : Phase) → Waits d phase → (awaited phase ≡ true) × (output phase ≡ false)
waits_awaited d (Starting timed e) h = (refl, refl)
waits_awaited d _ h = elim h [ ]

made_waits : {p : Params} {t : ℕ} {night before now : Bool} {Bright Holds Dims : Type 0} {phase after : Phase} (d : ℕ) → (Dims → ⊥) → Waits d phase →
    Makes p t night before now Bright Holds Dims phase after → Waits d after
made_waits d undimmed h (keeps e) = h
made_waits d undimmed h (darkens x) = undimmed x
made_waits {phase = phase} d undimmed h (steadies e b x) = undimmed (x (waits_awaited d phase h).0)
made_waits {phase = phase} d undimmed h (times b x) = undimmed (x (waits_awaited d phase h).0)
made_waits d undimmed h (begins timed dark b some) = absurd (rw dark at h)
made_waits d undimmed h (awaits was timed x e) = rw e at h
made_waits {phase = phase} d undimmed h (ends same lit some) = no (sym (waits_awaited d phase h).1 ∙ lit)
made_waits d undimmed h (night_times e day) = rw e at h
made_waits d undimmed h (night_ends_lem x e day) = rw e at h

not_yet_due : (t d : ℕ) (phase : Phase) → t < d → Waits d phase → Quiet t (deadline phase)
not_yet_due t d (Starting timed e) early h = omega arith
not_yet_due t d _ early h = elim h [ ]

step_waits : (s : State) (i : Input) (t d : ℕ) → t < d → Waits d s.phase → (Taken (turn s t i) → dims (clock_move s t).state i ≡ false) → Waits d (step s i t).state.phase
step_waits s i t d early waits undimmed =
    let there : Waits d (clock_move s t).state.phase = rw (no_timer_due_no_move s t (not_yet_due t d s.phase early waits)) waits in
    step_phase_case (Waits d) s i t (λ way. made_waits d (λ dims. no (sym (undimmed way) ∙ dims)) there (order_makes (clock_move s t).state i)) there

-- it ends in light

waits_until : (d : ℕ) (phase : Phase) → Waits d phase → deadline phase ≡ Some d
waits_until d (Starting timed e) h = ap Some h
waits_until d _ h = elim h [ ]

ends_in_light : (p : Params) (night : Bool) (d : ℕ) (phase : Phase) → 1 ≤ p.timedon → Waits d phase → LitAt d (at_deadline p night phase)
unfolding at_deadline
ends_in_light p night d (Starting timed e) some h = rw h (lit_lasts p (timed || night) d some)
ends_in_light p night d _ some h = elim h [ ]

pub comes_on : (s : State) (d : ℕ) → 1 ≤ s.params.timedon → Waits d s.phase → output (clock_move s d).state.phase ≡ true
comes_on s d some waits =
    rw (the_first_timer_first s d d (waits_until d s.phase waits) (omega arith)).0
    (lit_now (fired s d) d (ends_in_light s.params s.night d s.phase some waits))

-- ---- what an order that lights leaves

-- light at a, or a wait for it that has not ended at a and ends within the on delay
abbrev pub Shines : Params → ℕ → Phase → Type 0
Shines p a phase = LitAt a phase ⊎ ((d : ℕ) × Waits d phase × (a < d) × (d ≤ a + p.ondelay))

module _ (p : Params) (some : 1 ≤ p.timedon) (a : ℕ) where
  lit_shines : (timed : Bool) → Shines p a (lit_at p timed a)
  lit_shines timed = inl (lit_lasts p timed a some)

  wait_shines : (timed : Bool) (d : ℕ) → a < d → d ≤ a + p.ondelay → Shines p a (Starting timed d)
  wait_shines timed d after within = inr (d, refl, after, within)

  from_dark_shines : (timed waits : Bool) → Shines p a (from_dark p timed waits a)
  unfolding from_dark
  from_dark_shines timed waits = cond_zero (Shines p a) p.ondelay _ _ (lit_shines timed) (λ delayed. wait_shines waits _ (omega arith) (omega arith))

  -- a wait that an earlier order began is still within that order's own delay
  on_shines : (night held ruled : Bool) (phase : Phase) → OverBy p ruled (a + longest_light p) phase → Quiet a (deadline phase) → Shines p a (on p night held a phase)
  unfolding on set_on
  on_shines night held ruled Dark over quiet = from_dark_shines night false
  on_shines night held ruled (Starting timed d) over quiet = wait_shines false d quiet (omega arith)
  on_shines night held ruled Lit over quiet = inl (refl, tt)
  on_shines night held ruled (Timed d) over quiet = lit_shines (night && not held)
  on_shines night held ruled (Warning d) over quiet = lit_shines (night && not held)
  on_shines night held ruled (Ending d) over quiet = lit_shines (night && not held)

  timed_start_shines : (ruled : Bool) (phase : Phase) → OverBy p ruled (a + longest_light p) phase → Quiet a (deadline phase) → Shines p a (timed_start p a phase)
  unfolding timed_start lit_at
  timed_start_shines ruled Dark over quiet = from_dark_shines true true
  timed_start_shines ruled (Starting timed d) over quiet = wait_shines true d quiet (omega arith)
  timed_start_shines ruled Lit over quiet = lit_shines true
  timed_start_shines ruled (Timed d) over quiet = lit_shines true
  timed_start_shines ruled (Warning d) over quiet = lit_shines true
  timed_start_shines ruled (Ending d) over quiet = lit_shines true

module _ (s : State) (some : 1 ≤ s.params.timedon) (over : Over (s.clock + longest_light s.params) s) (quiet : Quiet s.clock (deadline s.phase)) where
  switch_shines : (value : Bool) → value ≡ true → Shines s.params s.clock (switch s value).phase
  unfolding switch
  switch_shines true e = on_shines s.params some s.clock s.night (held s) (s.night && not (held s)) s.phase over quiet
  switch_shines false e = no e

  timed_shines : (value : Bool) → value ≡ true → Shines s.params s.clock (timed s value).phase
  unfolding timed
  timed_shines true e = timed_start_shines s.params some s.clock (s.night && not (held s)) s.phase over quiet
  timed_shines false e = no e

  recall_shines : (found : Option Bool) → recalls_on found ≡ true → Shines s.params s.clock (recall s found).phase
  unfolding recall
  recall_shines None e = no e
  recall_shines (Some value) e = switch_shines value e

  order_shines : (i : Input) → lights s i ≡ true → Shines s.params s.clock (order s i).phase
  unfolding order scene
  order_shines (SwitchOnOff value) e = switch_shines value e
  order_shines (TimedStartStop value) e = timed_shines value e
  order_shines (NumberedSceneControl true number) e = no e
  order_shines (NumberedSceneControl false number) e = recall_shines (recalled s.scenes number) e
  order_shines (SwitchOnOffForced force) e = no e
  order_shines (LockDevice value) e = no e
  order_shines (NightMode value) e = no e
  order_shines (Bus event) e = no e
  order_shines (Power event) e = no e

pub taken_shines : (s : State) (i : Input) (a : ℕ) → 1 ≤ s.params.timedon → Over (a + longest_light s.params) s → Taken (turn s a i) → lights (clock_move s a).state i ≡ true →
    Shines s.params a (step s i a).state.phase
taken_shines s i a some over way lit =
    let met : State = (clock_move s a).state in
    let same = move_params s a in
    let clock = move_clock s a in
    let quiet : Quiet a (deadline met.phase) = unfold clock_move ticked in three_are_enough s a in
    rw (taken_is_the_order s i a way) (rw (same, clock) at (order_shines met (rw same some) (rw (same, clock) (rw same at (move_over s a _ over))) (rw clock quiet) i lit))

-- ---- as it is promised

-- of the inputs before z none that counts dims
abbrev Undimmed : (Turn → Type 0) → ℕ → List Turn → Type 0
Undimmed Counts z = Each (λ x. x.stamp < z → Counts x → dims x.met x.input ≡ false)

module _ (a z end : ℕ) where
  -- before the next input acts
  pub shows_here : (cues : List Cue) (s : State) (m : ℕ) → a ≤ m → m ≤ z → s.clock ≤ m → NotBefore m cues end → output (clock_move s m).state.phase ≡ true → ShowsLight a z end cues s
  unfolding plays
  shows_here cues s m from until reached waiting lit =
      record { acted = []; next = cues; split = refl; moment = m; from = from; until = until; reached = reached; waiting = waiting; lit = lit }

  pub shows_later : (t : ℕ) (i : Input) (later : List Cue) (s : State) → ShowsLight a z end later (step s i t).state → ShowsLight a z end (cue t i ∷ later) s
  unfolding plays
  shows_later t i later s w =
      record {
        acted = cue t i ∷ w.acted;
        next = w.next;
        split = ap (λ l. cue t i ∷ l) w.split;
        moment = w.moment;
        from = w.from;
        until = w.until;
        reached = w.reached;
        waiting = w.waiting;
        lit = w.lit;
      }

  -- a wait for d ends in light at d, between the inputs before d and those from d on
  wait_shows : (d : ℕ) → a ≤ d → d ≤ z → z ≤ end → (later : List Cue) (s : State) → 1 ≤ s.params.timedon → s.clock ≤ d → Waits d s.phase →
      Undimmed Taken z (turns later s) → ShowsLight a z end later s
  unfolding turns
  wait_shows d from until reached [] s some clock waits undimmed =
      shows_here [] s d from until clock (omega arith) (comes_on s d some waits)
  wait_shows d from until reached (cue t i ∷ later) s some clock waits undimmed =
      by_order d t
      (λ due. shows_here (cue t i ∷ later) s d from until clock due (comes_on s d some waits))
      (λ early. shows_later t i later s
      (wait_shows d from until reached later (step s i t).state (rw (step_params s i t) some) (rw (step_clock s i t) (omega arith))
      (step_waits s i t d early waits (undimmed.0 (omega arith))) undimmed.1))

-- what an order that lights leaves shows light, at once or where its wait ends
shines_shows : (a end : ℕ) (later : List Cue) (s : State) → s.clock ≡ a → 1 ≤ s.params.timedon → a + s.params.ondelay ≤ end → Rises a later end → Shines s.params a s.phase →
    Undimmed Taken (a + s.params.ondelay) (turns later s) → ShowsLight a (a + s.params.ondelay) end later s
shines_shows a end later s clock some until r (inl lit) undimmed = shows_here a _ end later s a (omega arith) (omega arith) (omega arith) (next_is_later a later end r) (lit_now s a lit)
shines_shows a end later s clock some until r (inr (d, waits, after, within)) undimmed = wait_shows a _ end d (omega arith) within until later s some (omega arith) waits undimmed

-- every order before a has room for the longest light by a plus that
module _ (p : Params) (a : ℕ) (i : Input) (later : List Cue) (end : ℕ) where
  pub reached : (before : List Cue) (s : State) (last : ℕ) → Rises last (before ++ (cue a i ∷ later)) end → s.params ≡ p → Over (a + longest_light p) s →
      ((plays before s).state.params ≡ p) × Over (a + longest_light p) (plays before s).state
  unfolding plays
  reached [] s last r e over = (e, over)
  reached (cue u j ∷ before) s last r e over =
      let early = rises_to a i later end before u r.1 in
      reached before (step s j u).state u r.1 (step_params s j u ∙ e) (step_over s j u (a + longest_light p) over (λ way prolongs. rw e (omega arith)))

-- TimedOn is not 0 in accepted parameters.
pub strong_light : (p : Params) (scenes : List Scene) (cues : List Cue) (end : ℕ) → Rises 0 cues end → 1 ≤ p.timedon → StrongLightPromise p scenes cues end
unfolding fresh
strong_light p scenes cues end rises some before a i later whole due =
    let r = rw (← whole) at rises in
    let s : State = (plays before (fresh p scenes)).state in
    let w = reached p a i later end before (fresh p scenes) 0 r refl tt in
    let same : (step s i a).state.params ≡ p = step_params s i a ∙ w.0 in
    let shines = taken_shines s i a (rw w.0 some) (rw w.0 (rw w.0 at w.1)) due.taken due.lights in
    rw same at (shines_shows a end later (step s i a).state (step_clock s i a) (rw same some) (rw same due.reached) (rises_from a i later end before 0 r) (rw (step_params s i a) shines) (rw same due.undimmed))

counted_or_not : (z : ℕ) (list : List Turn) → Undimmed (λ x. Unit) z list → Undimmed Taken z list
counted_or_not z [] h = tt
counted_or_not z (x ∷ later) h = (λ early way. h.0 early tt, counted_or_not z later h.1)

-- the promise to the letter
pub light : (p : Params) (scenes : List Scene) (cues : List Cue) (end : ℕ) → Rises 0 cues end → 1 ≤ p.timedon → LightPromise p scenes cues end
light p scenes cues end rises some before a i later whole due =
    strong_light p scenes cues end rises some before a i later whole
    (record { taken = due.taken; lights = due.lights; reached = due.reached; undimmed = counted_or_not (a + p.ondelay) (turns later (turn_after p scenes before a i).left) due.undimmed })

-- ---- a lamp that is lit when the order is taken

-- no order but one that dims puts it out
made_stays_lit : {p : Params} {t : ℕ} {night before now : Bool} {Bright Holds Dims : Type 0} {phase after : Phase} → (Dims → ⊥) → output phase ≡ true →
    Makes p t night before now Bright Holds Dims phase after → output after ≡ true
made_stays_lit undimmed lit (keeps e) = lit
made_stays_lit undimmed lit (darkens x) = absurd (undimmed x)
made_stays_lit undimmed lit (steadies e b x) = refl
made_stays_lit undimmed lit (times b x) = refl
made_stays_lit undimmed lit (begins timed dark b some) = no (sym (ap output dark) ∙ lit)
made_stays_lit undimmed lit (awaits was timed d e) = no (sym (ap output e) ∙ lit)
made_stays_lit undimmed lit (ends same was some) = refl
made_stays_lit undimmed lit (night_times e day) = refl
made_stays_lit undimmed lit (night_ends_lem d e day) = refl

-- and no step leaves a timer due at its own stamp, so that it stays lit while the clock stands
step_stays_lit : (s : State) (i : Input) (t : ℕ) → 1 ≤ s.params.timedon → output (clock_move s t).state.phase ≡ true → (Taken (turn s t i) → dims (clock_move s t).state i ≡ false) →
    LitAt t (step s i t).state.phase
step_stays_lit s i t some lit undimmed =
    (step_phase_case (λ (x : Phase). output x ≡ true) s i t (λ way. made_stays_lit (λ dims. no (sym (undimmed way) ∙ dims)) lit (order_makes (clock_move s t).state i)) lit, nothing_due_after_a_step s i t some)

-- an order that lights does not dim
recalls_one_way : (found : Option Bool) → recalls_on found ≡ true → recalls_off found ≡ false
recalls_one_way None e = no e
recalls_one_way (Some value) e = rw e

lights_dims_not : (s : State) (i : Input) → lights s i ≡ true → dims s i ≡ false
lights_dims_not s (SwitchOnOff value) e = rw e
lights_dims_not s (TimedStartStop value) e = rw e
lights_dims_not s (NumberedSceneControl true number) e = no e
lights_dims_not s (NumberedSceneControl false number) e = recalls_one_way (recalled s.scenes number) e
lights_dims_not s (SwitchOnOffForced force) e = no e
lights_dims_not s (LockDevice value) e = no e
lights_dims_not s (NightMode value) e = no e
lights_dims_not s (Bus event) e = no e
lights_dims_not s (Power event) e = no e

-- of the inputs that follow, those stamped a too
ties_stay_lit : (a z end : ℕ) → a < z → (later : List Cue) (s : State) → 1 ≤ s.params.timedon → Rises a later end → LitAt a s.phase → Undimmed Taken z (turns later s) →
    output (state_at a later s).phase ≡ true
unfolding turns
ties_stay_lit a z end some-delay [] s some r lit undimmed = rw (at_the_end a s) (lit_now s a lit)
ties_stay_lit a z end some-delay (cue u j ∷ later) s some r lit undimmed =
    at_case (λ (x : State). output x.phase ≡ true) a u j later s
    (λ past. let now : u ≡ a = omega (arith, r.0) in
    let met : output (clock_move s u).state.phase ≡ true = rw now (lit_now s a lit) in
    let left = step_stays_lit s j u some met (undimmed.0 (omega arith)) in
    ties_stay_lit a z end some-delay later (step s j u).state (rw (step_params s j u) some) (rw now at r.1) (subst (λ (t : ℕ). LitAt t (step s j u).state.phase) now left) undimmed.1)
    (λ ahead. lit_now s a lit)

-- Where the on delay is not 0, no input stamped a may dim: a lamp that is lit when the order is taken is lit at a.
pub a_lit_lamp_stays_lit : (p : Params) (scenes : List Scene) (cues : List Cue) (end : ℕ) → Rises 0 cues end → 1 ≤ p.timedon → 1 ≤ p.ondelay →
    (before : List Cue) (a : ℕ) (i : Input) (later : List Cue) → before ++ (cue a i ∷ later) ≡ cues → LightDue Taken p scenes before a i later end →
    output (turn_after p scenes before a i).met.phase ≡ true → output (state_at a cues (fresh p scenes)).phase ≡ true
a_lit_lamp_stays_lit p scenes cues end rises some delay before a i later whole due lit =
    let r = rw (← whole) at rises in
    let s : State = (plays before (fresh p scenes)).state in
    let same : s.params ≡ p = unfold fresh in plays_keep_params before (fresh p scenes) in
    let here = step_stays_lit s i a (rw same some) lit (λ way. lights_dims_not (clock_move s a).state i due.lights) in
    rw (← whole, at_after a i later end before 0 r a (omega arith) later (fresh p scenes))
    (ties_stay_lit a (a + p.ondelay) end (omega arith) later (step s i a).state (rw (step_params s i a, same) some) (rises_from a i later end before 0 r) here due.undimmed)
