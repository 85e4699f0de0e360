-- "Nobody waits for ever", Dark: every order up to t-L leaves light that is over by t, and after t-L no order prolongs it.
use Prim.Native.Nat.{ℕ, ◌+◌, ◌-◌, ◌≤◌, ◌<◌}
use mathlib.Core.Bool.{Bool, true, false}
use mathlib.Core.Path.{◌≡◌, refl, sym, subst, ◌∙◌}
use mathlib.Core.Logic.{inl, inr}
use mathlib.Core.List.{List, [], ◌∷◌}
use native.Mathlib.Omega.{arith}
use Rattle.rules.specs.declared.parameters.Params.{Params}
use Rattle.rules.specs.declared.parameters.Scene.{Scene}
use Rattle.rules.specs.declared.phase.Phase.{Phase}
use Rattle.rules.specs.declared.input.Input.{Input}
use Rattle.rules.specs.declared.state.State.{State}
use Rattle.rules.specs.Phases.{output, deadline}
use Rattle.rules.specs.Orders.{held}
use Rattle.rules.specs.Steps.{fresh, ticked, clock_move, step, Quiet}
use Rattle.rules.specs.Lists.{Cue, cue}
use Rattle.rules.specs.Promises.{Rises, turn, turns, Each, state_at, lights, bus_on, longest_light, NightRules, LeavesNight, DarkPromise}
use Rattle.base.proofs.Tests.{no}
use Rattle.base.proofs.Codes.{failed}
use Rattle.rules.proofs.Laws.Ends.{still_ahead}
use Rattle.rules.proofs.Laws.Making.{ruled, lighting, bus_is_on, from_lock, from_force, from_power_down}
use Rattle.rules.proofs.Promises.Lasting.{OverBy, over_ends}
use Rattle.rules.proofs.Laws.Steps.{three_are_enough}
use Rattle.rules.proofs.Laws.Soundness.{move_keeps, step_params}
use Rattle.rules.proofs.Promises.Prolonging.{Over, move_over, Prolongs, step_over}
use Rattle.rules.proofs.Laws.Moments.{at_case, at_the_end}

-- ---- night rules

-- a clock move changes none of what night rules need
moved_night : (s : State) (t : ℕ) → NightRules s → NightRules (clock_move s t).state
moved_night s t n = subst NightRules (sym (move_keeps s t)) (record { night = n.night; unlocked = n.unlocked; unforced = n.unforced; powered = n.powered })

night_before : (s : State) (t : ℕ) → NightRules (clock_move s t).state → NightRules s
night_before s t =
    subst (λ (u : State). NightRules u → NightRules s) (sym (move_keeps s t))
    (λ n. record { night = n.night; unlocked = n.unlocked; unforced = n.unforced; powered = n.powered })

-- where night rules, only an order that lights and a bus event with mode On prolong the light
night_prolongs_nothing : (s : State) (i : Input) → NightRules s → lights s i ≡ false → bus_on s i ≡ false → Prolongs s i → ⊥
night_prolongs_nothing s i n unlit keeps (inl (lighting e)) = no (sym unlit ∙ e)
night_prolongs_nothing s i n unlit keeps (inl (bus_is_on e)) = no (sym keeps ∙ e)
night_prolongs_nothing s i n unlit keeps (inr e) = no (sym e ∙ n.night)
night_prolongs_nothing s i n unlit keeps (inl (from_lock e)) = no (sym n.unlocked ∙ e)
night_prolongs_nothing s i n unlit keeps (inl (from_force e)) = no (rw n.unforced at e)
night_prolongs_nothing s i n unlit keeps (inl (from_power_down e)) = no (sym n.powered ∙ e)

-- light that is over by t, with no timer due at t any more, is off
over_is_off : (p : Params) (ruled : Bool) (t : ℕ) (phase : Phase) → ruled ≡ true → OverBy p ruled t phase → Quiet t (deadline phase) → output phase ≡ false
over_is_off p ruled t phase night h quiet = failed (output phase) (λ lit. still_ahead p t phase quiet (over_ends p ruled t phase night lit h))

night_rules : (s : State) → NightRules s → ruled s ≡ true
unfolding held
night_rules s n = rw (n.night, n.unlocked, n.unforced)

pub night_is_dark : (s : State) (t : ℕ) → NightRules s → Over t s → output (clock_move s t).state.phase ≡ false
unfolding clock_move ticked
night_is_dark s t n over = let m = (clock_move s t).state in over_is_off m.params _ t m.phase (night_rules m (moved_night s t n)) (move_over s t t over) (three_are_enough s t)

-- ---- the inputs, one after the other

module _ (p : Params) (end start t : ℕ) (long : start + longest_light p ≤ t) where
  -- inputs stamped after the start have no part in the state at the start
  night_from : (later : List Cue) (s : State) (u : ℕ) → start < u → Rises u later end → NightRules s → NightRules (state_at start later s)
  night_from [] s u after r n = rw (at_the_end start s) (moved_night s start n)
  night_from (cue v j ∷ later) s u after r n = at_case NightRules start v j later s (λ early. absurd (omega (arith, r.0))) (λ ahead. moved_night s start n)

  -- an order up to the start has room for the longest light, a later one prolongs nothing
  next : (s : State) (u : ℕ) (i : Input) (later : List Cue) → u ≤ t → Rises u later end → s.params ≡ p → Over t s → (start < u → LeavesNight (turn s u i)) →
      NightRules (state_at start (cue u i ∷ later) s) → Over t (step s i u).state × NightRules (state_at start later (step s i u).state)
  next s u i later within r e over leaves =
      at_case (λ (x : State). NightRules x → Over t (step s i u).state × NightRules (state_at start later (step s i u).state)) start u i later s
      (λ early n. (step_over s i u t over (λ way prolongs. rw e (omega arith)), n))
      (λ after n. let x = leaves after in
      let calm = moved_night s u (night_before s start n) in (
        step_over s i u t over (λ way prolongs. absurd (night_prolongs_nothing _ i calm (x.no_light way) x.no_bus_on prolongs)),
        night_from later _ u after r x.stays,
      ))

  dark_from : (cues : List Cue) (s : State) (last : ℕ) → Rises last cues end → s.params ≡ p → Over t s → NightRules (state_at start cues s) →
      Each (λ x. start < x.stamp → x.stamp ≤ t → LeavesNight x) (turns cues s) → output (state_at t cues s).phase ≡ false
  unfolding turns
  dark_from [] s last r e over n w = rw (at_the_end t s) (night_is_dark s t (night_before s start (rw (at_the_end start s) at n)) over)
  dark_from (cue u i ∷ later) s last r e over n w =
      at_case (λ (x : State). output x.phase ≡ false) t u i later s
      (λ within. let k = next s u i later within r.1 e over (λ after. w.0 after within) n in
      dark_from later (step s i u).state u r.1 (step_params s i u ∙ e) k.0 k.1 w.1)
      (λ ahead. let calm = at_case (λ (x : State). NightRules x → NightRules s) start u i later s (λ early. absurd (omega arith)) (λ after. night_before s start) n in
      night_is_dark s t calm over)

-- Fresh is Dark, so that its light is over by any moment.
pub dark : (p : Params) (scenes : List Scene) (cues : List Cue) (end : ℕ) → Rises 0 cues end → DarkPromise p scenes cues end
unfolding fresh
dark p scenes cues end rises t due =
    dark_from p end (t - longest_light p) t (omega (arith, due.late)) cues (fresh p scenes) 0 rises refl tt due.from due.through
