-- "Two cues at one stamp are not a set. They run in list order, and a timer due at that stamp runs before both."
use Prim.Native.Nat.{ℕ, ◌≤◌}
use mathlib.Core.Path.{◌≡◌, sym, ap, ◌∙◌}
use mathlib.Core.List.{List, [], ◌∷◌, ◌++◌, append_assoc}
use Rattle.rules.specs.declared.parameters.Params.{Params}
use Rattle.rules.specs.declared.parameters.Scene.{Scene}
use Rattle.rules.specs.declared.input.Input.{Input}
use Rattle.rules.specs.declared.state.State.{State}
use Rattle.rules.specs.Steps.{fresh, at_moment, Moved, clock_move, act, step}
use Rattle.rules.specs.Lists.{Cue, Played, and_then, moved, stepped, plays, plays_to, start, play_list, still, acts}
use Rattle.rules.specs.Mistakes.{ties, at_one_stamp, TiesKeepListOrder}
use Rattle.rules.proofs.Laws.Soundness.{step_clock, step_params}
use Rattle.rules.proofs.Laws.Timers.{no_timer_due_no_move}
use Rattle.rules.proofs.Laws.Lists.{and_then_assoc, and_then_from, plays_append, plays_keep_params, plays_to_append, acts_after_the_move}
use Rattle.rules.proofs.Promises.Stamps.{nothing_due_after_a_step}

-- what acts after a step acts after that step's clock move and its input
after_the_move : (s : State) (i : Input) (t : ℕ) (is : List Input) → and_then (stepped (step s i t)) (acts is) ≡ and_then (moved (clock_move s t)) (acts (i ∷ is))
unfolding acts step
after_the_move s i t is =
    ap (λ (a : Played). and_then a (acts is)) (acts_after_the_move (clock_move s t) i)
    ∙ and_then_assoc (moved (clock_move s t)) (λ x. stepped (act (still x) i)) (acts is)

-- The first of them brings the clock to t, by all timers due up to then. The others find it there, and no step leaves a timer
-- due at its own stamp. (With TimedOn 0 one would: a timed start at t would be over at t, before the next input.)
pub ties_run_in_list_order_after_the_timers : (s : State) (t : ℕ) (i : Input) (is : List Input) → 1 ≤ s.params.timedon → plays (ties t (i ∷ is)) s ≡ at_one_stamp t (i ∷ is) s
unfolding plays acts
ties_run_in_list_order_after_the_timers s t i [] some = after_the_move s i t []
ties_run_in_list_order_after_the_timers s t i (j ∷ is) some =
    let next : State = (step s i t).state in
    let quiet : clock_move next t ≡ still next = no_timer_due_no_move next t (nothing_due_after_a_step s i t some) ∙ ap (λ (u : ℕ). still (at_moment next u next.phase)) (sym (step_clock s i t)) in
    let rest = ties_run_in_list_order_after_the_timers next t j is (rw (step_params s i t) some) in
    and_then_from (stepped (step s i t)) (plays (ties t (j ∷ is))) (acts (j ∷ is)) (rest ∙ ap (λ (m : Moved). and_then (moved m) (acts (j ∷ is))) quiet)
    ∙ after_the_move s i t (j ∷ is)

-- TimedOn must not be 0, as in every accepted file; that the stamps rise is not asked for.
pub ties_keep_list_order_over_the_run : (p : Params) (scenes : List Scene) (list : List Cue) (end : ℕ) → 1 ≤ p.timedon → TiesKeepListOrder p scenes list end
unfolding fresh play_list
ties_keep_list_order_over_the_run p scenes list end some before t i is later e =
    let s : State = fresh p scenes in
    let tied = ties_run_in_list_order_after_the_timers (plays before s).state t i is (rw (plays_keep_params before s) some) in
    let so_far = plays_append before (ties t (i ∷ is)) s ∙ and_then_from (plays before s) (plays (ties t (i ∷ is))) (at_one_stamp t (i ∷ is)) tied in
    let split = ap (λ (l : List Cue). plays_to end l s) (sym e ∙ sym (append_assoc before (ties t (i ∷ is)) later)) ∙ plays_to_append end (before ++ ties t (i ∷ is)) later s in
    (so_far, ap (λ (a : Played). and_then (start p scenes) (λ _. a)) (split ∙ ap (λ (a : Played). and_then a (plays_to end later)) so_far))
