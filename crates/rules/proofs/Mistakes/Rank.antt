-- "They hold a cue back while the lock is set and play it afterwards. An outranked cue is dropped."
-- A stopped input leaves what the clock move alone leaves, so that nothing of it can come back.
use Prim.Native.Nat.{ℕ, ◌≤◌}
use mathlib.Core.Path.{◌≡◌, refl, sym, ap, ◌∙◌}
use mathlib.Core.List.{List, [], ◌∷◌, ◌++◌, append_assoc, append-nil}
use Rattle.rules.specs.declared.parameters.Params.{Params}
use Rattle.rules.specs.declared.parameters.Scene.{Scene}
use Rattle.rules.specs.declared.input.Input.{Input}
use Rattle.rules.specs.declared.state.State.{State}
use Rattle.rules.specs.declared.barrier.Why.{Why}
use Rattle.rules.specs.declared.barrier.Barrier.{Barrier}
use Rattle.rules.specs.declared.barrier.Barrier.TheVariants.{Open, Notes, Stopped}
use Rattle.rules.specs.Orders.{order, noted}
use Rattle.rules.specs.Barriers.{barrier}
use Rattle.rules.specs.Status.{written}
use Rattle.rules.specs.Steps.{fresh, Moved, counted, meet, clock_move, act, step}
use Rattle.rules.proofs.Laws.Timers.{moves_compose, alike_writes_nothing}
use Rattle.rules.specs.Lists.{Cue, cue, Played, and_then, moved, stepped, plays, plays_to, play_list, still}
use Rattle.rules.specs.Promises.{Rises, up_to, state_at, NotBefore}
use Rattle.rules.specs.Mistakes.{LeavesNoTrace, MayBeStruck, OutrankedIsDropped}
use Rattle.rules.proofs.Laws.Moments.{at_case, at_next, next_is_later, next_up_to_is_later, at_before, rises_from}
use Rattle.rules.proofs.Laws.Lists.{and_then_assoc, and_then_from, plays_to_append, acts_after_the_move}

nothing_written : (cause : ℕ) (s : State) → written cause s s ≡ []
nothing_written cause s = alike_writes_nothing cause s s refl refl

-- so does every input that, if it is taken or noted at all, changes nothing
no_trace : (b : Barrier) (m : Moved) (i : Input) → (b ≡ Open → order m.state i ≡ m.state) → (b ≡ Notes → noted m.state i ≡ m.state) →
    ((meet b m i).state ≡ m.state) × ((meet b m i).records ≡ m.records)
unfolding meet counted
no_trace Open m i same equal = rw (same refl) (refl, simp (nothing_written, append-nil))
no_trace Notes m i same equal = rw (equal refl) (refl, simp (nothing_written, append-nil))
no_trace (Stopped why) m i same equal = (refl, refl)

pub unchanged_leaves_no_trace : (s : State) (i : Input) (t : ℕ) → let m : State = (clock_move s t).state in
    (barrier m i ≡ Open → order m i ≡ m) → (barrier m i ≡ Notes → noted m i ≡ m) → LeavesNoTrace s i t
unfolding step act
unchanged_leaves_no_trace s i t same equal = no_trace _ (clock_move s t) i same equal

-- a stopped input is neither taken nor noted
pub dropped_leaves_no_trace : (s : State) (i : Input) (t : ℕ) (why : Why) → barrier (clock_move s t).state i ≡ Stopped why → LeavesNoTrace s i t
dropped_leaves_no_trace s i t why stops = unchanged_leaves_no_trace s i t (λ e. cc) (λ e. cc)

-- ---- struck from the list altogether

-- to move the clock by way of t is to move it at once
by_way_of : (s : State) (t u : ℕ) → t ≤ u → and_then (moved (clock_move s t)) (λ x. moved (clock_move x u)) ≡ moved (clock_move s u)
by_way_of s t u h = let e = moves_compose s t u h in rw (e.0, e.1) refl

-- then a step by way of t is the step at once
step_by_way_of : (s : State) (i : Input) (t u : ℕ) → t ≤ u → and_then (moved (clock_move s t)) (λ x. stepped (step x i u)) ≡ stepped (step s i u)
unfolding step
step_by_way_of s i t u h =
    let early : Played = moved (clock_move s t) in
    let moving : State → Played = λ x. moved (clock_move x u) in
    let acting : State → Played = λ x. stepped (act (still x) i) in
    and_then_from early (λ x. stepped (step x i u)) (λ x. and_then (moving x) acting) (acts_after_the_move (clock_move early.state u) i)
    ∙ sym (and_then_assoc early moving acting)
    ∙ ap (λ (a : Played). and_then a acting) (by_way_of s t u h)
    ∙ sym (acts_after_the_move (clock_move s u) i)

-- and so is whatever is played from then on
pub plays_by_way_of : (t end : ℕ) (later : List Cue) (s : State) → NotBefore t later end → and_then (moved (clock_move s t)) (plays_to end later) ≡ plays_to end later s
unfolding plays_to plays
plays_by_way_of t end [] s h = by_way_of s t end h
plays_by_way_of t end (cue u i ∷ later) s h =
    let rest : Played → Played = λ a. and_then (and_then a (plays later)) (λ x. moved (clock_move x end)) in
    simp append_assoc (simp append_assoc at (ap rest (step_by_way_of s i t u h)))

-- an answer before all others
abbrev answered_first : ℕ → Played → Played
answered_first a p = record { state = p.state; answers = a ∷ p.answers; records = p.records }

struck_at_the_front : (t end : ℕ) (i : Input) (later : List Cue) (s : State) → NotBefore t later end → LeavesNoTrace s i t →
    plays_to end (cue t i ∷ later) s ≡ answered_first (step s i t).answer (plays_to end later s)
unfolding plays_to plays
struck_at_the_front t end i later s h trace =
    rw (trace.0, trace.1) (simp append_assoc (ap (answered_first (step s i t).answer) (plays_by_way_of t end later s h)))

-- so at a moment from t on the state is the same by way of t
pub at_by_way_of : (u t end : ℕ) (later : List Cue) (s : State) → t ≤ u → NotBefore t later end → state_at u later (clock_move s t).state ≡ state_at u later s
unfolding state_at plays_to
at_by_way_of u t end later s past h = ap (λ (a : Played). a.state) (plays_by_way_of t u (up_to u later) s (next_up_to_is_later t u later end past h))

-- and at every moment it is the one without the cue
struck_first : (u t end : ℕ) (i : Input) (later : List Cue) (s : State) → NotBefore t later end → LeavesNoTrace s i t → state_at u (cue t i ∷ later) s ≡ state_at u later s
struck_first u t end i later s h trace =
    at_case (λ (x : State). x ≡ state_at u later s) u t i later s
    (λ past. ap (state_at u later) trace.0 ∙ at_by_way_of u t end later s past h)
    (λ ahead. sym (at_before t u later end s ahead h))

-- wherever the cue stands
module _ (v t end : ℕ) (i : Input) (later : List Cue) where
  struck_at_every_moment : (before : List Cue) (s : State) → NotBefore t later end → LeavesNoTrace (plays before s).state i t → state_at v (before ++ (cue t i ∷ later)) s ≡ state_at v (before ++ later) s
  unfolding plays
  struck_at_every_moment [] s h trace = struck_first v t end i later s h trace
  struck_at_every_moment (cue w j ∷ before) s h trace = at_next v w j (before ++ (cue t i ∷ later)) (before ++ later) s (struck_at_every_moment before (step s j w).state h trace)

-- the clock stops at t on its way to what comes next, and that is all the cue has brought
pub no_trace_may_be_struck : (p : Params) (scenes : List Scene) (before : List Cue) (t : ℕ) (i : Input) (later : List Cue) (end : ℕ) →
    Rises 0 (before ++ (cue t i ∷ later)) end → LeavesNoTrace (plays before (fresh p scenes)).state i t → MayBeStruck p scenes before t i later end
unfolding play_list
no_trace_may_be_struck p scenes before t i later end r trace =
    let s : State = fresh p scenes in
    let next = next_is_later t later end (rises_from t i later end before 0 r) in
    record {
      run =
          rw (plays_to_append end before (cue t i ∷ later) s, plays_to_append end before later s, struck_at_the_front t end i later (plays before s).state next trace)
          (record { state = refl; records = refl; answers = refl; other_answers = refl });
      moments = λ v. struck_at_every_moment v t end i later before s next trace;
    }

-- a dropped cue leaves no trace
pub an_outranked_cue_may_be_struck : (p : Params) (scenes : List Scene) (list : List Cue) (end : ℕ) → Rises 0 list end → OutrankedIsDropped p scenes list end
an_outranked_cue_may_be_struck p scenes list end r before t i later e stops =
    no_trace_may_be_struck p scenes before t i later end (rw e r) (dropped_leaves_no_trace _ i t stops.0 stops.1)
