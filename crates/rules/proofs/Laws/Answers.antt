-- The answer octet tells exactly whether an input that is taken, or noted, changed anything but the clock.
use Prim.Native.Nat.{ℕ}
use mathlib.Core.Bool.{Bool, true, false, cond, true≢false}
use mathlib.Core.Path.{◌≡◌, refl, sym}
use mathlib.Core.Logic.Iff
use mathlib.Core.Logic.{◌↔◌, eq_comm}
use mathlib.Core.List.{List, [], ◌∷◌}
use native.Mathlib.Omega.{arith}
use borrow.Author.Tests.{eqb-true}
use Rattle.rules.specs.declared.parameters.Scene.{Scene}
use Rattle.rules.specs.declared.phase.Phase.{Phase}
use Rattle.rules.specs.declared.phase.Phase.TheVariants.{Dark, Lit, Starting, Timed, Warning, Ending}
use Rattle.rules.specs.declared.input.Force.{Force}
use Rattle.rules.specs.declared.input.Force.TheVariants.{Free, Off, On}
use Rattle.rules.specs.declared.input.Input.{Input}
use Rattle.rules.specs.declared.state.Link.{Link}
use Rattle.rules.specs.declared.state.Link.TheVariants.{Up, BusDown, PowerDown}
use Rattle.rules.specs.declared.state.State.{State}
use Rattle.rules.specs.declared.barrier.Barrier.{Barrier}
use Rattle.rules.specs.declared.barrier.Barrier.TheVariants.{Open, Notes, Stopped}
use Rattle.rules.specs.Orders.{order, noted}
use Rattle.rules.specs.Barriers.{barrier}
use Rattle.rules.specs.Inputs.{force_number, force_of}
use Rattle.rules.specs.Answers.{answer, phase_number, due, phase_of, link_number, link_of, same_phase, same_scene, same_scenes, same_flags, same_but_clock}
use Rattle.rules.specs.Steps.{at_moment, Moved, counted, meet, act}
use Rattle.base.proofs.Tests.{and_left, and_right, beq_true, beq_same, eqb_same}
use Rattle.rules.proofs.Laws.Orders.{order_leaves, noted_leaves}

-- a phase, a force and a link can be read back from their numbers, so equal numbers mean equal things

pub phase_back : (p : Phase) → phase_of (phase_number p) (due p) ≡ p
unfolding phase_of
phase_back Dark = refl
phase_back Lit = refl
phase_back (Starting true d) = refl
phase_back (Starting false d) = refl
phase_back (Timed d) = refl
phase_back (Warning d) = refl
phase_back (Ending d) = refl

pub force_back : (f : Force) → force_of (force_number f) ≡ f
unfolding force_of
force_back Free = refl
force_back Off = refl
force_back On = refl

pub link_back : (l : Link) → link_of (link_number l) ≡ l
unfolding link_of
link_back Up = refl
link_back BusDown = refl
link_back PowerDown = refl

-- a test that passes means equality

force_equal : (a b : Force) → force_number a ≡ force_number b → a ≡ b
force_equal a b h = cc (force_back a, force_back b)

link_equal : (a b : Link) → link_number a ≡ link_number b → a ≡ b
link_equal a b h = cc (link_back a, link_back b)

phase_equal : (a b : Phase) → same_phase a b ≡ true → a ≡ b
unfolding same_phase
phase_equal a b h =
    let n : phase_number a ≡ phase_number b = eqb-true _ _ (search and_left) in
    let d : due a ≡ due b = eqb-true _ _ (search (and_left, and_right)) in
    cc (phase_back a, phase_back b)

scenes_equal : (a b : List Scene) → same_scenes a b ≡ true → a ≡ b
unfolding same_scenes same_scene
scenes_equal [] [] h = refl
scenes_equal [] (y ∷ ys) h = cc
scenes_equal (x ∷ xs) [] h = cc
scenes_equal (x ∷ xs) (y ∷ ys) h =
    let n : x.number ≡ y.number = eqb-true _ _ (search (and_left, and_right)) in
    let v : x.value ≡ y.value = beq_true _ _ (search (and_left, and_right)) in
    let t : x.taught ≡ y.taught = beq_true _ _ (search (and_left, and_right)) in
    let rest : xs ≡ ys = scenes_equal xs ys (search (and_left, and_right)) in
    rw (n, v, t, rest) refl

states_equal : (a b : State) → a.clock ≡ b.clock → a.params ≡ b.params → same_but_clock a b ≡ true → a ≡ b
unfolding same_but_clock same_flags
states_equal a b clock params h =
    let phase : a.phase ≡ b.phase = phase_equal _ _ (search (and_left, and_right) depth 9) in
    let scenes : a.scenes ≡ b.scenes = scenes_equal _ _ (search (and_left, and_right) depth 9) in
    let night : a.night ≡ b.night = beq_true _ _ (search (and_left, and_right) depth 9) in
    let lock : a.lock ≡ b.lock = beq_true _ _ (search (and_left, and_right) depth 9) in
    let force : a.force ≡ b.force = force_equal _ _ (eqb-true _ _ (search (and_left, and_right) depth 9)) in
    let link : a.link ≡ b.link = link_equal _ _ (eqb-true _ _ (search (and_left, and_right) depth 9)) in
    let atlocking : a.atlocking ≡ b.atlocking = beq_true _ _ (search (and_left, and_right) depth 9) in
    let atfailure : a.atfailure ≡ b.atfailure = beq_true _ _ (search (and_left, and_right) depth 9) in
    rw (clock, params, phase, scenes, night, lock, force, link, atlocking, atfailure) refl

-- a test passes at equal things

pub scenes_same : (l : List Scene) → same_scenes l l ≡ true
unfolding same_scenes same_scene
scenes_same [] = refl
scenes_same (x ∷ xs) = simp (eqb_same, beq_same, scenes_same xs)

state_same : (s : State) → same_but_clock s s ≡ true
unfolding same_but_clock same_flags same_phase
state_same s = simp (eqb_same, beq_same, scenes_same)

-- `same_but_clock` is equality of all but the clock and the parameters
pub same_but_clock_is_exact : (a b : State) → a.clock ≡ b.clock → a.params ≡ b.params → (same_but_clock a b ≡ true) ↔ (a ≡ b)
same_but_clock_is_exact a b c p = (states_equal a b c p, λ e. rw e (state_same b))

-- ---- the answer of an input that is taken or noted: 1 exactly when it changed nothing, 0 or 6 exactly when it changed something

one_or_other : {Same : Type 0} (other : ℕ) → (other ≡ 1 → ⊥) → (b : Bool) → (b ≡ true) ↔ Same → ((cond b 1 other ≡ 1) ↔ Same) × ((cond b 1 other ≡ other) ↔ (Same → ⊥))
one_or_other other differs true e = ((λ _. e.0 refl, λ _. refl), (λ h _. differs (sym h), λ no. absurd (no (e.0 refl))))
one_or_other other differs false e = ((λ h. absurd (differs h), λ same. cc (e.1 same)), (λ _ same. true≢false (sym (e.1 same)), λ _. refl))

-- the test behind the answer is exact, since an order keeps what the test leaves out
pub answer_one_means_nothing_changed : (s : State) (i : Input) →
    ((answer Open (same_but_clock s (order s i)) ≡ 1) ↔ (order s i ≡ s)) × ((answer Open (same_but_clock s (order s i)) ≡ 0) ↔ (order s i ≡ s → ⊥))
answer_one_means_nothing_changed s i =
    let kept = order_leaves s i in
    one_or_other 0 (λ e. omega arith) (same_but_clock s (order s i)) (Iff.trans (same_but_clock_is_exact s (order s i) (sym kept.clock) (sym kept.params)) eq_comm)

-- the same of the answer and the state that an input gives, after the due timers had run
pub taken_is_answered_by_its_change : (m : Moved) (i : Input) → barrier m.state i ≡ Open →
    (((act m i).answer ≡ 1) ↔ ((act m i).state ≡ m.state)) × (((act m i).answer ≡ 0) ↔ ((act m i).state ≡ m.state → ⊥))
unfolding act meet counted
taken_is_answered_by_its_change m i free = rw free (answer_one_means_nothing_changed m.state i)

-- "Answer 6 means noted and different; a noted equal value answers 1."
pub noted_is_answered_by_its_change : (m : Moved) (i : Input) → barrier m.state i ≡ Notes →
    (((act m i).answer ≡ 1) ↔ ((act m i).state ≡ m.state)) × (((act m i).answer ≡ 6) ↔ ((act m i).state ≡ m.state → ⊥))
unfolding act meet counted
noted_is_answered_by_its_change m i way =
    let s = m.state in
    let kept = noted_leaves s i in
    rw way (one_or_other 6 (λ e. omega arith) (same_but_clock s (noted s i)) (Iff.trans (same_but_clock_is_exact s (noted s i) (sym kept.clock) (sym kept.params)) eq_comm))

-- the answer that an input gives: that of the first barrier that it meets, and of whether anything but the clock changed
pub answered_by_its_barrier : (m : Moved) (i : Input) → (act m i).answer ≡ answer (barrier m.state i) (same_but_clock m.state (act m i).state)
unfolding act
answered_by_its_barrier m i = go (barrier m.state i)
  where
    go : (b : Barrier) → (meet b m i).answer ≡ answer b (same_but_clock m.state (meet b m i).state)
    go Open = unfold meet counted in refl
    go Notes = unfold meet counted in refl
    go (Stopped why) = unfold meet in refl

-- whatever the two clocks show
pub same_but_clock_is_all_but_the_clock : (a b : State) → a.params ≡ b.params → (same_but_clock a b ≡ true) ↔ (at_moment a b.clock a.phase ≡ b)
unfolding same_but_clock same_flags
same_but_clock_is_all_but_the_clock a b p = same_but_clock_is_exact (at_moment a b.clock a.phase) b refl p
