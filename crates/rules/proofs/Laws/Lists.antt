-- Laws of playing lists.
use mathlib.Core.Path.{◌≡◌, refl, ◌∙◌}
use mathlib.Core.List.{List, [], ◌∷◌, ◌++◌, append_assoc, append-nil}
use Prim.Native.Nat.{ℕ}
use Rattle.rules.specs.declared.input.Input.{Input}
use Rattle.rules.specs.declared.state.State.{State}
use Rattle.rules.specs.declared.barrier.Barrier.{Barrier}
use Rattle.rules.specs.declared.barrier.Barrier.TheVariants.{Open, Notes, Stopped}
use Rattle.rules.specs.Barriers.{barrier}
use Rattle.rules.specs.Steps.{Moved, clock_move, counted, meet, act, step}
use Rattle.rules.specs.Lists.{Cue, cue, Played, and_then, moved, stepped, plays, plays_to, still}
use Rattle.rules.proofs.Laws.Soundness.{step_params}

pub and_then_assoc : (a : Played) (f g : State → Played) → and_then (and_then a f) g ≡ and_then a (λ x. and_then (f x) g)
and_then_assoc a f g = simp append_assoc

-- only what is played from the state reached counts
pub and_then_from : (a : Played) (f g : State → Played) → f a.state ≡ g a.state → and_then a f ≡ and_then a g
and_then_from a f g e = rw e refl

pub plays_append : (before later : List Cue) (s : State) → plays (before ++ later) s ≡ and_then (plays before s) (plays later)
unfolding plays
plays_append [] later s = refl
plays_append (cue t i ∷ before) later s = rw (plays_append before later (step s i t).state) (simp append_assoc)

pub plays_keep_params : (list : List Cue) (s : State) → (plays list s).state.params ≡ s.params
unfolding plays
plays_keep_params [] s = refl
plays_keep_params (cue t i ∷ later) s = plays_keep_params later (step s i t).state ∙ step_params s i t

pub plays_to_append : (end : ℕ) (before later : List Cue) (s : State) → plays_to end (before ++ later) s ≡ and_then (plays before s) (plays_to end later)
unfolding plays_to
plays_to_append end before later s = rw (plays_append before later s) (simp append_assoc)

-- a list is its first cue, then the rest
pub plays_to_next : (end t : ℕ) (i : Input) (later : List Cue) (s : State) → plays_to end (cue t i ∷ later) s ≡ and_then (stepped (step s i t)) (plays_to end later)
unfolding plays_to plays
plays_to_next end t i later s = and_then_assoc (stepped (step s i t)) (plays later) (λ x. moved (clock_move x end))

-- an input's own records come after those of the clock move, and nothing else of that move reaches it but the state
pub acts_after_the_move : (m : Moved) (i : Input) → stepped (act m i) ≡ and_then (moved m) (λ x. stepped (act (still x) i))
unfolding act
acts_after_the_move m i = go (barrier m.state i)
  where
    go : (b : Barrier) → stepped (meet b m i) ≡ and_then (moved m) (λ x. stepped (meet b (still x) i))
    go Open = unfold meet counted in refl
    go Notes = unfold meet counted in refl
    go (Stopped why) = unfold meet in simp append-nil
