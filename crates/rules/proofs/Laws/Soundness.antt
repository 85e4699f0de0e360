-- A sound state stays sound: from its start, by a timer, by a clock move, by an order that nothing stops, by a value that is noted, by a step.
use Rattle.std.specs.Prelude.{Option, Some, None}
use Prim.Native.Nat.{ℕ, ◌+◌, ◌≤◌}
use mathlib.Core.Bool.{true, false}
use mathlib.Core.List.{List}
use mathlib.Core.Path.{◌≡◌, refl, sym, ◌∙◌, ap, subst}
use native.Mathlib.Omega.{arith}
use borrow.Author.Tests.{leb-true, le-leb}
use Rattle.rules.specs.declared.parameters.Params.{Params}
use Rattle.rules.specs.declared.parameters.Scene.{Scene}
use Rattle.rules.specs.declared.phase.Phase.{Phase}
use Rattle.rules.specs.declared.input.Input.{Input}
use Rattle.rules.specs.declared.input.Input.TheVariants.{SwitchOnOff, TimedStartStop, NumberedSceneControl, SwitchOnOffForced, LockDevice, NightMode, Bus, Power}
use Rattle.rules.specs.declared.state.State.{State}
use Rattle.rules.specs.declared.barrier.Barrier.{Barrier}
use Rattle.rules.specs.declared.barrier.Barrier.TheVariants.{Open, Notes, Stopped}
use Rattle.base.specs.Time.{last_stamp, longest_delay}
use Rattle.rules.specs.Inputs.{scene_number}
use Rattle.rules.specs.Forms.{form_of, is_version}
use Rattle.rules.specs.Parameters.{time_in_range, times_in_range, modes_in_range, params_in_range}
use Rattle.rules.specs.Scenes.{entry_in_range, scenes_in_range}
use Rattle.rules.specs.Phases.{output, deadline}
use Rattle.rules.specs.Orders.{held, order, noted}
use Rattle.rules.specs.Barriers.{barrier}
use Rattle.rules.specs.Answers.{due}
use Rattle.rules.specs.Steps.{fresh, at_moment, tick, Moved, ticked, clock_move, counted, meet, act, step, Quiet, fired}
use Rattle.rules.specs.Soundness.{soon, consistent, sound}
use Rattle.rules.specs.Calls.{least_params, unused, no_scenes, own_state}
use Rattle.rules.specs.Said.{scenes_after}
use Rattle.base.proofs.Tests.{no, both, either_way}
use Rattle.rules.proofs.Laws.Deadlines.{times_bounded, soon_near, soon_within, within_soon, near_due, due_is}
use Rattle.rules.proofs.Laws.Making.{ruled}
use Rattle.rules.proofs.Laws.Phases.{timer_sits}
use Rattle.rules.proofs.Laws.Holding.{Stands, Fits, fits_view, fits_consistent, fits_sits, sits_fits, waiting_is_loose, loose_stands}
use Rattle.rules.proofs.Laws.Steps.{tick_case, tick_keeps, three_are_enough}
use Rattle.rules.proofs.Laws.Scenes.{learnt_in_range}
use Rattle.rules.proofs.Laws.Fitting.{order_stands, noted_stands, order_fits, noted_fits}
use Rattle.rules.proofs.Laws.Orders.{order_leaves, noted_leaves, noted_phase}

-- ---- the rules of a sound state by name

pub record Sound (s : State) : Type 0 where
  pub params : params_in_range s.params ≡ true
  pub scenes : scenes_in_range s.scenes ≡ true
  pub clock : s.clock ≤ last_stamp
  pub soon : soon s.clock (deadline s.phase) ≡ true
  pub consistent : consistent s.night s.lock s.force s.link s.phase ≡ true

pub sound_view : (s : State) → sound s ≡ true → Sound s
unfolding sound
sound_view s h =
    let rules = both _ _ h in
    let parts = both _ _ rules.0 in
    let ranges = both _ _ parts.0 in
    let moments = both _ _ parts.1 in
    record { params = ranges.0; scenes = ranges.1; clock = leb-true s.clock last_stamp moments.0; soon = moments.1; consistent = rules.1 }

pub sound_whole : (s : State) → Sound s → sound s ≡ true
unfolding sound
sound_whole s h = simp (h.params, h.scenes, le-leb s.clock last_stamp h.clock, h.soon, h.consistent)

fits : (s : State) → Sound s → Fits s
fits s h = fits_view s h.soon h.consistent

-- a deadline lies at most 655,350 after the clock, and where there is none its number is 0
pub due_near : (s : State) → sound s ≡ true → due s.phase ≤ s.clock + 655_350
due_near s h = near_due s.clock (deadline s.phase) (soon_near _ _ (sound_view s h).soon)

-- the clock is at most 864,000
pub due_bounded : (s : State) → sound s ≡ true → due s.phase ≤ last_stamp + longest_delay
due_bounded s h = omega (arith, due_near s h, (sound_view s h).clock)

-- ---- the start

-- Dark with nothing standing asks for parameters and scenes in range alone
pub fresh_is_sound : (p : Params) (k : List Scene) → params_in_range p ≡ true → scenes_in_range k ≡ true → sound (fresh p k) ≡ true
unfolding fresh
fresh_is_sound p k params scenes =
    let f = sits_fits (fresh p k) (tt, no) (loose_stands (fresh p k) record { free = refl; powered = refl }) in
    sound_whole (fresh p k) record { params = params; scenes = scenes; clock = omega arith; soon = f.soon; consistent = fits_consistent _ f }

pub own_state_is_sound : sound own_state ≡ true
unfolding own_state least_params no_scenes unused params_in_range times_in_range modes_in_range time_in_range is_version form_of scenes_in_range entry_in_range
own_state_is_sound = fresh_is_sound least_params no_scenes refl refl

-- ---- a timer

-- a phase with a deadline is one that nothing holds, and its timer leads to another that may stand so
fired_is_sound : (s : State) (t d : ℕ) → t ≤ last_stamp → Sound s → deadline s.phase ≡ Some d → d ≤ t → Sound (fired s d)
fired_is_sound s t d end h e past =
    let l = waiting_is_loose s d e (fits s h).stands in
    let next = timer_sits s.params (times_bounded s.params h.params) (ruled s) s.night s.clock s.phase (λ day. rw day) (fits_sits s (fits s h)) in
    let f = sits_fits (fired s d) (unfold held in rw (due_is s.phase d e) at next) (loose_stands (fired s d) l) in
    record { params = h.params; scenes = h.scenes; clock = omega arith; soon = f.soon; consistent = fits_consistent _ f }

pub tick_is_sound : (s : State) (t : ℕ) → sound s ≡ true → t ≤ 864_000 → sound (tick s t) ≡ true
tick_is_sound s t h end =
    let view = sound_view s h in
    sound_whole (tick s t) (tick_case Sound s t (λ d e past. fired_is_sound s t d end view e past) (λ quiet. view))

-- no timer runs after t
pub tick_clock : (s : State) (t : ℕ) → s.clock ≤ t → (tick s t).clock ≤ t
tick_clock s t h = tick_case (λ (u : State). u.clock ≤ t) s t (λ d e past. past) (λ quiet. h)

-- ---- a clock move

-- a deadline that is not yet due comes nearer
soon_later : (clock t : ℕ) (x : Option ℕ) → clock ≤ t → Quiet t x → soon clock x ≡ true → soon t x ≡ true
unfolding soon
soon_later clock t None later quiet h = refl
soon_later clock t (Some d) later quiet h = within_soon t d (omega (arith, soon_within clock d h))

-- the timers keep the state sound, and leave no deadline at or before t
pub move_is_sound : (s : State) (t : ℕ) → sound s ≡ true → s.clock ≤ t → t ≤ 864_000 → sound (clock_move s t).state ≡ true
unfolding clock_move ticked
move_is_sound s t h later end =
    let a = tick s t in
    let b = tick a t in
    let c = tick b t in
    let view = sound_view c (tick_is_sound b t (tick_is_sound a t (tick_is_sound s t h end) end) end) in
    let past = tick_clock b t (tick_clock a t (tick_clock s t later)) in
    sound_whole (at_moment c t c.phase)
    record {
      params = view.params;
      scenes = view.scenes;
      clock = end;
      soon = soon_later c.clock t (deadline c.phase) past (three_are_enough s t) view.soon;
      consistent = view.consistent;
    }

-- a clock move changes nothing but the clock and the phase
pub move_keeps : (s : State) (t : ℕ) → (clock_move s t).state ≡ at_moment s t (clock_move s t).state.phase
unfolding clock_move ticked
move_keeps s t =
    let a = tick s t in
    let b = tick a t in
    let phase = (tick b t).phase in
    tick_keeps b t t phase ∙ (tick_keeps a t t phase ∙ tick_keeps s t t phase)

pub move_clock : (s : State) (t : ℕ) → (clock_move s t).state.clock ≡ t
unfolding clock_move ticked
move_clock s t = refl

pub move_params : (s : State) (t : ℕ) → (clock_move s t).state.params ≡ s.params
move_params s t = ap (λ (u : State). u.params) (move_keeps s t)

-- ---- an order and a step

-- an entry that is taught has a number up to 63
taught_in_range : (s : State) (i : Input) → scene_number i ≤ 63 → scenes_in_range (scenes_after s i) ≡ scenes_in_range s.scenes
taught_in_range s (SwitchOnOff value) small = refl
taught_in_range s (TimedStartStop value) small = refl
taught_in_range s (NumberedSceneControl true number) small =
    either_way (λ (k : List Scene). scenes_in_range k ≡ scenes_in_range s.scenes) s.params.learning _ _
    (learnt_in_range s.scenes number (output s.phase) small)
    refl
taught_in_range s (NumberedSceneControl false number) small = refl
taught_in_range s (SwitchOnOffForced force) small = refl
taught_in_range s (LockDevice value) small = refl
taught_in_range s (NightMode value) small = refl
taught_in_range s (Bus event) small = refl
taught_in_range s (Power event) small = refl

-- an order keeps clock and parameters, teaches a used entry at most, and sets a phase that fits
pub order_is_sound : (s : State) (i : Input) → scene_number i ≤ 63 → sound s ≡ true → barrier s i ≡ Open → sound (order s i) ≡ true
order_is_sound s i small h way =
    let view = sound_view s h in
    let k = order_leaves s i in
    let f = order_fits s (times_bounded s.params view.params) (fits s view) i way in
    sound_whole (order s i)
    record {
      params = rw k.params view.params;
      scenes = ap scenes_in_range k.scenes ∙ (taught_in_range s i small ∙ view.scenes);
      clock = rw k.clock view.clock;
      soon = f.soon;
      consistent = fits_consistent _ f;
    }

-- a value that is noted keeps all that an order keeps, and the phase
pub noted_is_sound : (s : State) (i : Input) → sound s ≡ true → barrier s i ≡ Notes → sound (noted s i) ≡ true
noted_is_sound s i h way =
    let view = sound_view s h in
    let k = noted_leaves s i in
    let f = noted_fits s (fits s view) i way in
    sound_whole (noted s i)
    record { params = rw k.params view.params; scenes = rw k.scenes view.scenes; clock = rw k.clock view.clock; soon = f.soon; consistent = fits_consistent _ f }

meet_case : (P : State → Type 0) (b : Barrier) (m : Moved) (i : Input) → (b ≡ Open → P (order m.state i)) → (b ≡ Notes → P (noted m.state i)) → P m.state → P (meet b m i).state
unfolding meet counted
meet_case P Open m i f n g = f refl
meet_case P Notes m i f n g = n refl
meet_case P (Stopped why) m i f n g = g

-- what holds after the clock move, after the order where nothing stops it, and after the value where it is noted, holds after the step
pub step_case : (P : State → Type 0) (s : State) (i : Input) (t : ℕ) →
    (barrier (clock_move s t).state i ≡ Open → P (order (clock_move s t).state i)) → (barrier (clock_move s t).state i ≡ Notes → P (noted (clock_move s t).state i)) → P (clock_move s t).state → P (step s i t).state
unfolding step act
step_case P s i t f n g = meet_case P _ (clock_move s t) i f n g

-- of a phase that is what the clock move and the order leave: a value that is noted changes no phase
pub step_phase_case : (P : Phase → Type 0) (s : State) (i : Input) (t : ℕ) →
    (barrier (clock_move s t).state i ≡ Open → P (order (clock_move s t).state i).phase) → P (clock_move s t).state.phase → P (step s i t).state.phase
step_phase_case P s i t f g = step_case (λ (u : State). P u.phase) s i t f (λ way. subst P (sym (noted_phase (clock_move s t).state i)) g) g

pub noted_is_the_note : (s : State) (i : Input) (t : ℕ) → barrier (clock_move s t).state i ≡ Notes → (step s i t).state ≡ noted (clock_move s t).state i
unfolding step act meet counted
noted_is_the_note s i t way = rw way

pub taken_is_the_order : (s : State) (i : Input) (t : ℕ) → barrier (clock_move s t).state i ≡ Open → (step s i t).state ≡ order (clock_move s t).state i
unfolding step act meet counted
taken_is_the_order s i t way = rw way

-- what lock, force and power ask of a phase needs no more of a state than that they were asked it before
tick_stands : (s : State) (t : ℕ) → Stands s → Stands (tick s t)
tick_stands s t h = tick_case Stands s t (λ d e past. loose_stands (fired s d) (waiting_is_loose s d e h)) (λ quiet. h)

pub step_stands : (s : State) (i : Input) (t : ℕ) → Stands s → Stands (step s i t).state
step_stands s i t h = step_case Stands s i t (order_stands (clock_move s t).state there i) (noted_stands (clock_move s t).state there i) there
  where
    there : Stands (clock_move s t).state
    there = let c = tick_stands _ t (tick_stands _ t (tick_stands s t h)) in unfold clock_move ticked in record { steady = c.steady; decided = c.decided; clear = c.clear }

pub step_is_sound : (s : State) (i : Input) (t : ℕ) → scene_number i ≤ 63 → sound s ≡ true → s.clock ≤ t → t ≤ 864_000 → sound (step s i t).state ≡ true
step_is_sound s i t small h later end =
    let safe = move_is_sound s t h later end in
    step_case (λ (u : State). sound u ≡ true) s i t (order_is_sound (clock_move s t).state i small safe) (noted_is_sound (clock_move s t).state i safe) safe

pub step_clock : (s : State) (i : Input) (t : ℕ) → (step s i t).state.clock ≡ t
step_clock s i t =
    let there = move_clock s t in
    step_case (λ (u : State). u.clock ≡ t) s i t (λ way. (order_leaves (clock_move s t).state i).clock ∙ there) (λ way. (noted_leaves (clock_move s t).state i).clock ∙ there) there

pub step_params : (s : State) (i : Input) (t : ℕ) → (step s i t).state.params ≡ s.params
step_params s i t =
    let same = move_params s t in
    step_case (λ (u : State). u.params ≡ s.params) s i t (λ way. (order_leaves (clock_move s t).state i).params ∙ same) (λ way. (noted_leaves (clock_move s t).state i).params ∙ same) same
