-- The state of a run at a moment.
use Prim.Native.Nat.{ℕ, ◌≤◌, ◌<◌}
use mathlib.Core.Bool.{Bool, true, false, cond}
use mathlib.Core.Path.{◌≡◌, refl, ◌∙◌}
use mathlib.Core.List.{List, [], ◌∷◌, ◌++◌}
use native.Mathlib.Omega.{arith}
use lib.Dec.{leb}
use borrow.Author.Tests.{leb-true, leb-false}
use Rattle.rules.specs.declared.input.Input.{Input}
use Rattle.rules.specs.declared.state.State.{State}
use Rattle.rules.specs.Steps.{clock_move, step}
use Rattle.rules.specs.Lists.{Cue, cue, plays}
use Rattle.rules.specs.Promises.{Rises, up_to, state_at, NotBefore}
use Rattle.base.proofs.Tests.{cond_case, either_way}

-- at t the first input has acted, or the clock alone has moved
pub at_case : (P : State → Type 0) (t u : ℕ) (i : Input) (later : List Cue) (s : State) →
    (u ≤ t → P (state_at t later (step s i u).state)) → (t < u → P (clock_move s t).state) → P (state_at t (cue u i ∷ later) s)
unfolding state_at up_to plays
at_case P t u i later s f g =
    cond_case (λ (l : List Cue). P (clock_move (plays l s).state t).state) (leb u t) (cue u i ∷ up_to t later) [] (λ past. f (leb-true u t past)) (λ ahead. g (leb-false u t ahead))

-- two lists that go on alike after the same input are alike with it
pub at_next : (t u : ℕ) (i : Input) (a b : List Cue) (s : State) → state_at t a (step s i u).state ≡ state_at t b (step s i u).state → state_at t (cue u i ∷ a) s ≡ state_at t (cue u i ∷ b) s
unfolding state_at up_to plays
at_next t u i a b s e = by (leb u t)
  where
    by : (past : Bool) →
        (clock_move (plays (cond past (cue u i ∷ up_to t a) []) s).state t).state ≡ (clock_move (plays (cond past (cue u i ∷ up_to t b) []) s).state t).state
    by true = e
    by false = refl

pub at_the_end : (t : ℕ) (s : State) → state_at t [] s ≡ (clock_move s t).state
unfolding state_at up_to plays
at_the_end t s = refl

-- ---- a list that rises

-- what comes next is not before the last
pub next_is_later : (last : ℕ) (later : List Cue) (end : ℕ) → Rises last later end → NotBefore last later end
next_is_later last [] end r = r
next_is_later last (cue t i ∷ later) end r = r.0

-- so it is among those up to u, or u comes first
pub next_up_to_is_later : (last u : ℕ) (later : List Cue) (end : ℕ) → last ≤ u → NotBefore last later end → NotBefore last (up_to u later) u
unfolding up_to
next_up_to_is_later last u [] end past h = past
next_up_to_is_later last u (cue t i ∷ later) end past h = either_way (λ (l : List Cue). NotBefore last l u) (leb t u) (cue t i ∷ up_to u later) [] h past

-- and before the last the clock alone has moved
pub at_before : (last t : ℕ) (later : List Cue) (end : ℕ) (s : State) → t < last → NotBefore last later end → state_at t later s ≡ (clock_move s t).state
at_before last t [] end s early h = at_the_end t s
at_before last t (cue u i ∷ later) end s early h = at_case (λ (x : State). x ≡ (clock_move s t).state) t u i later s (λ past. absurd (omega arith)) (λ ahead. refl)

-- an input somewhere in the list: the list comes to it from before, and goes on rising from it
module _ (t : ℕ) (i : Input) (later : List Cue) (end : ℕ) where
  pub rises_to : (before : List Cue) (last : ℕ) → Rises last (before ++ (cue t i ∷ later)) end → last ≤ t
  rises_to [] last r = r.0
  rises_to (cue u j ∷ before) last r = omega (arith, r.0, rises_to before u r.1)

  pub rises_from : (before : List Cue) (last : ℕ) → Rises last (before ++ (cue t i ∷ later)) end → Rises t later end
  rises_from [] last r = r.1
  rises_from (cue u j ∷ before) last r = rises_from before u r.1

  -- from t on all that came before it has acted, whatever follows
  pub at_past : (before : List Cue) (last : ℕ) → Rises last (before ++ (cue t i ∷ later)) end → (u : ℕ) → t ≤ u → (next : List Cue) (s : State) →
      state_at u (before ++ next) s ≡ state_at u next (plays before s).state
  unfolding plays
  at_past [] last r u past next s = refl
  at_past (cue v j ∷ before) last r u past next s =
      at_case (λ (x : State). x ≡ state_at u next (plays (cue v j ∷ before) s).state) u v j (before ++ next) s
      (λ _. at_past before v r.1 u past next (step s j v).state)
      (λ ahead. absurd (omega (arith, rises_to before v r.1)))

  -- and it has acted itself
  pub at_after : (before : List Cue) (last : ℕ) → Rises last (before ++ (cue t i ∷ later)) end → (u : ℕ) → t ≤ u → (next : List Cue) (s : State) →
      state_at u (before ++ (cue t i ∷ next)) s ≡ state_at u next (step (plays before s).state i t).state
  at_after before last r u past next s =
      let reached : State = (plays before s).state in
      at_past before last r u past (cue t i ∷ next) s
      ∙ at_case (λ (x : State). x ≡ state_at u next (step reached i t).state) u t i next reached (λ _. refl) (λ ahead. absurd (omega arith))
