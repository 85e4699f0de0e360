-- Laws of the pair: what it hears, an item after the clock move, lists in two parts, and a way by an earlier moment.
use Rattle.std.specs.Prelude.{Option, Some, None, Bool}
use Prim.Native.Nat.{ℕ, ◌≤◌}
use mathlib.Core.List.{List, [], ◌∷◌, ◌++◌, append_assoc, append-nil}
use mathlib.Core.Path.{◌≡◌, refl, sym, ap, ◌∙◌}
use Rattle.rules.specs.declared.input.Input.{Input}
use Rattle.rules.specs.declared.state.State.{State}
use Rattle.rules.specs.declared.record.Record.{Record}
use Rattle.rules.specs.Steps.{at_moment, Moved, ticked, clock_move, act, step}
use Rattle.rules.specs.Lists.{Played, still}
use Rattle.rules.proofs.Laws.Steps.{three_are_enough}
use Rattle.rules.proofs.Laws.Soundness.{move_clock}
use Rattle.rules.proofs.Laws.Timers.{no_timer_due_no_move, moves_compose}
use Rattle.rules.proofs.Laws.Lists.{acts_after_the_move}
use Rattle.sensor.specs.declared.signal.Signal.TheVariants as signal
use Rattle.sensor.specs.declared.state.Sensor.{Sensor}
use Rattle.sensor.specs.declared.react.Reaction.{Reaction}
use Rattle.sensor.specs.Reactions.{hear, react}
use Rattle.pairs.specs.declared.item.Item.{Item}
use Rattle.pairs.specs.declared.item.Item.TheVariants.{Plain, Button1, Button2}
use Rattle.pairs.specs.Pairs.{Pair, pair_of, shows, hears, PairMoved, heard_move, pair_move, heard_step, tell, told, pressed, pair_step}
use Rattle.pairs.specs.Lists.{Listed, listed, PairPlayed, pair_then, pair_moved, pair_stepped, pair_plays, pair_plays_to}
use Rattle.pairs.specs.Halves.{ItemsRise}
use Rattle.pairs.specs.Claims.{pair_still, pair_act}

-- ---- hearing

pub hears_append : (a b : List Record) (z : Sensor) → hears (a ++ b) z ≡ hears b (hears a z)
unfolding hears
hears_append [] b z = refl
hears_append (r ∷ a) b z = hears_append a b (hear z r.stamp (shows r))

pub hears_one_more : (l : List Record) (r : Record) (z : Sensor) → hears (l ++ (r ∷ [])) z ≡ hear (hears l z) r.stamp (shows r)
hears_one_more l r z = hears_append l (r ∷ []) z ∙ unfold hears in refl

-- ---- while the clock stands

-- a move that was made leaves nothing to move
pub a_moved_state_stands : (s : State) (t : ℕ) → clock_move (clock_move s t).state t ≡ still (clock_move s t).state
a_moved_state_stands s t =
    let x : State = (clock_move s t).state in
    no_timer_due_no_move x t (unfold clock_move ticked in three_are_enough s t) ∙ ap (λ (u : ℕ). still (at_moment x u x.phase)) (sym (move_clock s t))

-- so to play a telegram right after the clock move is to step at the same stamp
pub a_telegram_is_a_step : (s : State) (i : Input) (t : ℕ) → act (still (clock_move s t).state) i ≡ step (clock_move s t).state i t
unfolding step
a_telegram_is_a_step s i t = ap (λ (m : Moved). act m i) (sym (a_moved_state_stands s t))

-- ---- one after the other

pub pair_then_assoc : (a : PairPlayed) (f g : Pair → PairPlayed) → pair_then (pair_then a f) g ≡ pair_then a (λ x. pair_then (f x) g)
pair_then_assoc a f g = simp append_assoc

-- only what is played from the pair reached counts
pub pair_then_from : (a : PairPlayed) (f g : Pair → PairPlayed) → f a.pair ≡ g a.pair → pair_then a f ≡ pair_then a g
pair_then_from a f g e = rw e refl

pub pair_plays_append : (before later : List Listed) (p : Pair) → pair_plays (before ++ later) p ≡ pair_then (pair_plays before p) (pair_plays later)
unfolding pair_plays
pair_plays_append [] later p = refl
pair_plays_append (listed t i ∷ before) later p = rw (pair_plays_append before later (pair_step p i t).pair) (simp append_assoc)

pub pair_plays_to_append : (end : ℕ) (before later : List Listed) (p : Pair) → pair_plays_to end (before ++ later) p ≡ pair_then (pair_plays before p) (pair_plays_to end later)
unfolding pair_plays_to
pair_plays_to_append end before later p = rw (pair_plays_append before later p) (simp append_assoc)

-- a list is its first item, then the rest
pub pair_plays_to_next : (end t : ℕ) (i : Item) (later : List Listed) (p : Pair) → pair_plays_to end (listed t i ∷ later) p ≡ pair_then (pair_stepped (pair_step p i t)) (pair_plays_to end later)
unfolding pair_plays_to pair_plays
pair_plays_to_next end t i later p = pair_then_assoc (pair_stepped (pair_step p i t)) (pair_plays later) (λ x. pair_moved (pair_move x end))

pub pair_plays_to_end : (end : ℕ) (p : Pair) → pair_plays_to end [] p ≡ pair_moved (pair_move p end)
unfolding pair_plays_to pair_plays
pair_plays_to_end end p = refl

-- ---- an item after the clock move

-- a step heard is the move heard, then what follows it heard
heard_after_the_move : (m : Moved) (i : Input) (z : Sensor) →
    pair_stepped (heard_step (act m i) z) ≡ pair_then (pair_moved (heard_move m z)) (λ x. pair_stepped (heard_step (act (still x.actuator) i) x.sensor))
heard_after_the_move m i z =
    let heard : Played → PairPlayed = λ a. record { pair = pair_of a.state (hears a.records z); answers = a.answers; records = a.records; telegrams = None ∷ [] } in
    ap heard (acts_after_the_move m i) ∙ rw (hears_append m.records (act (still m.state) i).records z) refl

told_after_the_move : (m : PairMoved) (r : Reaction) → pair_stepped (told m r) ≡ pair_then (pair_moved m) (λ x. pair_stepped (told (pair_still x) r))
unfolding told
told_after_the_move m r = by r.telegram
  where
    by : (sent : Option Bool) → pair_stepped (tell sent m r.sensor) ≡ pair_then (pair_moved m) (λ x. pair_stepped (tell sent (pair_still x) r.sensor))
    by None = unfold tell in simp append-nil
    by (Some value) = unfold tell in refl

-- "the actuator's clock first moves": all that the item adds comes after the records of the move
pub an_item_comes_after_the_timers : (p : Pair) (i : Item) (t : ℕ) → pair_stepped (pair_step p i t) ≡ pair_then (pair_moved (pair_move p t)) (λ x. pair_stepped (pair_act t x i))
unfolding pair_step
an_item_comes_after_the_timers p (Plain i) t = unfold pair_move step in heard_after_the_move (clock_move p.actuator t) i p.sensor
an_item_comes_after_the_timers p (Button1 edge) t = unfold pressed in told_after_the_move (pair_move p t) (react (pair_move p t).pair.sensor (signal.Button1 edge) t)
an_item_comes_after_the_timers p (Button2 edge) t = unfold pressed in told_after_the_move (pair_move p t) (react (pair_move p t).pair.sensor (signal.Button2 edge) t)

-- ---- by way of an earlier moment

-- to move the clock of the pair by way of t is to move it at once
pub pair_by_way_of : (p : Pair) (t u : ℕ) → t ≤ u → pair_then (pair_moved (pair_move p t)) (λ x. pair_moved (pair_move x u)) ≡ pair_moved (pair_move p u)
unfolding pair_move
pair_by_way_of p t u h =
    let e = moves_compose p.actuator t u h in
    rw (e.0, e.1, hears_append (clock_move p.actuator t).records (clock_move (clock_move p.actuator t).state u).records p.sensor) refl

-- then an item by way of t is the item at once
pub pair_step_by_way_of : (p : Pair) (i : Item) (t u : ℕ) → t ≤ u → pair_then (pair_moved (pair_move p t)) (λ x. pair_stepped (pair_step x i u)) ≡ pair_stepped (pair_step p i u)
pair_step_by_way_of p i t u h =
    let early : PairPlayed = pair_moved (pair_move p t) in
    let moving : Pair → PairPlayed = λ x. pair_moved (pair_move x u) in
    let acting : Pair → PairPlayed = λ x. pair_stepped (pair_act u x i) in
    pair_then_from early (λ x. pair_stepped (pair_step x i u)) (λ x. pair_then (moving x) acting) (an_item_comes_after_the_timers early.pair i u)
    ∙ sym (pair_then_assoc early moving acting)
    ∙ ap (λ (a : PairPlayed). pair_then a acting) (pair_by_way_of p t u h)
    ∙ sym (an_item_comes_after_the_timers p i u)

-- and so is whatever is played from then on
pub pair_plays_by_way_of : (t end : ℕ) (later : List Listed) (p : Pair) → ItemsRise t later end → pair_then (pair_moved (pair_move p t)) (pair_plays_to end later) ≡ pair_plays_to end later p
pair_plays_by_way_of t end [] p h = rw (pair_plays_to_end end p, pair_plays_to_end end (pair_move p t).pair) (pair_by_way_of p t end h)
pair_plays_by_way_of t end (listed u i ∷ later) p h =
    let early : PairPlayed = pair_moved (pair_move p t) in
    let next : Pair → PairPlayed = λ x. pair_stepped (pair_step x i u) in
    pair_then_from early (pair_plays_to end (listed u i ∷ later)) (λ x. pair_then (next x) (pair_plays_to end later)) (pair_plays_to_next end u i later early.pair)
    ∙ sym (pair_then_assoc early next (pair_plays_to end later))
    ∙ ap (λ (a : PairPlayed). pair_then a (pair_plays_to end later)) (pair_step_by_way_of p i t u h.0)
    ∙ sym (pair_plays_to_next end u i later p)
