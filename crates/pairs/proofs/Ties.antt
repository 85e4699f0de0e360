-- "a press at the very stamp of a timer comes after it; ties keep list order".
use Prim.Native.Nat.{ℕ, ◌≤◌}
use mathlib.Core.List.{List, [], ◌∷◌}
use mathlib.Core.Path.{◌≡◌, refl, sym, ap, ◌∙◌}
use Rattle.rules.specs.declared.state.State.{State}
use Rattle.rules.specs.Phases.{deadline}
use Rattle.rules.specs.Steps.{at_moment, Moved, ticked, clock_move, Quiet}
use Rattle.rules.specs.Lists.{still}
use Rattle.rules.proofs.Laws.Steps.{three_are_enough}
use Rattle.rules.proofs.Laws.Soundness.{move_clock, move_params, step_clock, step_params}
use Rattle.rules.proofs.Laws.Timers.{no_timer_due_no_move}
use Rattle.rules.proofs.Promises.Stamps.{nothing_due_after_a_step}
use Rattle.pairs.specs.declared.item.Item.{Item}
use Rattle.pairs.specs.Pairs.{Pair, hears, PairMoved, heard_move, pair_move, pair_step}
use Rattle.pairs.specs.Lists.{PairPlayed, pair_then, pair_moved, pair_stepped, pair_plays}
use Rattle.pairs.specs.Claims.{pair_still, pair_act, pair_acts, item_ties, TiesAfterTimers}
use Rattle.pairs.proofs.Playing.{pair_then_assoc, pair_then_from, an_item_comes_after_the_timers}
use Rattle.pairs.proofs.Halves.{item_leaves}

-- ---- after an item

pub item_clock : (p : Pair) (i : Item) (t : ℕ) → (pair_step p i t).pair.actuator.clock ≡ t
item_clock p i t = item_leaves (λ (s : State). s.clock ≡ t) p i t (move_clock p.actuator t) (λ j given. step_clock p.actuator j t)

pub item_params : (p : Pair) (i : Item) (t : ℕ) → (pair_step p i t).pair.actuator.params ≡ p.actuator.params
item_params p i t = item_leaves (λ (s : State). s.params ≡ p.actuator.params) p i t (move_params p.actuator t) (λ j given. step_params p.actuator j t)

-- no item leaves a timer due at its own stamp, where TimedOn is not 0
nothing_due_after_an_item : (p : Pair) (i : Item) (t : ℕ) → 1 ≤ p.actuator.params.timedon → Quiet t (deadline (pair_step p i t).pair.actuator.phase)
nothing_due_after_an_item p i t some =
    item_leaves (λ (s : State). Quiet t (deadline s.phase)) p i t (unfold clock_move ticked in three_are_enough p.actuator t) (λ j given. nothing_due_after_a_step p.actuator j t some)

-- so the clock of the pair has nowhere to move to
pub pair_stands : (p : Pair) (i : Item) (t : ℕ) → 1 ≤ p.actuator.params.timedon → pair_move (pair_step p i t).pair t ≡ pair_still (pair_step p i t).pair
unfolding pair_move
pair_stands p i t some =
    let next : Pair = (pair_step p i t).pair in
    let s : State = next.actuator in
    let quiet : clock_move s t ≡ still s = no_timer_due_no_move s t (nothing_due_after_an_item p i t some) ∙ ap (λ (u : ℕ). still (at_moment s u s.phase)) (sym (item_clock p i t)) in
    ap (λ (m : Moved). heard_move m next.sensor) quiet ∙ unfold hears in refl

-- ---- ties

-- what acts after an item acts after that item's clock move and the item
after_the_move : (p : Pair) (i : Item) (t : ℕ) (is : List Item) → pair_then (pair_stepped (pair_step p i t)) (pair_acts t is) ≡ pair_then (pair_moved (pair_move p t)) (pair_acts t (i ∷ is))
unfolding pair_acts
after_the_move p i t is =
    ap (λ (a : PairPlayed). pair_then a (pair_acts t is)) (an_item_comes_after_the_timers p i t)
    ∙ pair_then_assoc (pair_moved (pair_move p t)) (λ x. pair_stepped (pair_act t x i)) (pair_acts t is)

-- The first item brings the clock to t, by every timer due up to then, and each record is heard. The others find it there.
pub ties_after_timers : (p : Pair) (t : ℕ) (i : Item) (is : List Item) → 1 ≤ p.actuator.params.timedon → TiesAfterTimers p t i is
unfolding pair_plays item_ties
ties_after_timers p t i [] some = unfold pair_acts in after_the_move p i t []
ties_after_timers p t i (j ∷ is) some =
    let next : Pair = (pair_step p i t).pair in
    let rest = ties_after_timers next t j is (rw (item_params p i t) some) in
    pair_then_from (pair_stepped (pair_step p i t)) (pair_plays (item_ties t (j ∷ is))) (pair_acts t (j ∷ is)) (rest ∙ ap (λ (m : PairMoved). pair_then (pair_moved m) (pair_acts t (j ∷ is))) (pair_stands p i t some))
    ∙ after_the_move p i t (j ∷ is)
