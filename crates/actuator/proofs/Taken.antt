-- An input at the moved clock does what the rules say: it is dropped, or counts, taken or noted. A step is the clock move, and then that.
use Rattle.std.specs.Prelude.{None, Result, Ok, Err}
use Prim.Native.Nat.{ℕ, ◌≤◌}
use mathlib.Core.Bool.{Bool, true, false, ◌&&◌}
use mathlib.Core.List.{List, [], ◌∷◌, ◌++◌}
use mathlib.Core.Path.{◌≡◌, refl, sym, ap, ◌∙◌}
use lib.ListN.{length}
use native.Mathlib.Omega.{arith}
use Rattle.rules.specs.declared.parameters.Params.{Params}
use Rattle.rules.specs.declared.parameters.Scene.{Scene}
use Rattle.rules.specs.declared.phase.Phase.{Phase}
use Rattle.rules.specs.declared.input.Input.{Input}
use Rattle.rules.specs.declared.input.Input.TheVariants.{SwitchOnOffForced, NightMode}
use Rattle.rules.specs.declared.state.State.{State}
use Rattle.rules.specs.declared.barrier.Barrier.{Barrier}
use Rattle.rules.specs.declared.barrier.Barrier.TheVariants.{Open, Notes, Stopped}
use Rattle.rules.specs.Inputs.{kind}
use Rattle.rules.specs.Orders.{with_phase, order, noted}
use Rattle.rules.specs.Barriers.{barrier}
use Rattle.rules.specs.Status.{value, attributes, same_status, record_of}
use Rattle.rules.specs.Answers.{answer, same_phase, same_flags, same_scenes, same_but_clock}
use Rattle.rules.specs.Steps.{Stepped, clock_move, counted, meet, act, step}
use Rattle.rules.specs.Lists.{Played, still}
use Rattle.rules.specs.Said.{NotedWhere, scenes_after}
use Rattle.base.proofs.Tests.{no, eqb_same, beq_same}
use Rattle.rules.proofs.Laws.Orders.{order_leaves, noted_both, noted_leaves}
use Rattle.rules.proofs.Laws.Barriers.{noted_where}
use Rattle.rules.proofs.Laws.Answers.{same_but_clock_is_exact, scenes_same}
use Rattle.rules.proofs.Laws.Soundness.{move_keeps}
use Rattle.rules.proofs.Laws.Records.{a_move_writes_at_most_two, one_record_at_most}
use Rattle.rules.proofs.Laws.Lists.{acts_after_the_move}
use Rattle.lamps.specs.declared.lamp.Lamp.{Lamp}
use Rattle.lamps.specs.Lamps.{lamp_of, state_of, alone}
use Rattle.orders.specs.Lights.{is_light, light_phase}
use Rattle.orders.proofs.Lights.{light_is_granted, other_orders_keep_the_table}
use Rattle.timers.specs.declared.clock.Clocked.{Clocked}
use Rattle.actuator.specs.declared.step.Acting.{Acting}
use Rattle.actuator.specs.declared.step.Done.{Done}
use Rattle.records.specs.Notes.{note_of, added}
use Rattle.timers.specs.Ticks.{clocked}
use Rattle.actuator.specs.Acts.{fate, meeting, after, acting, done, done_by, dropped_by, acted}
use Rattle.timers.proofs.Moves.{joined}
use Rattle.records.proofs.Written.{first_written, added_first}

-- ---- taken

-- lamps that agree in all but the clock, at one moment, are one lamp
same_lamp : (a b : Lamp) → a.clock ≡ b.clock → (same_phase a.phase b.phase && same_flags (alone a) (alone b)) ≡ true → a ≡ b
unfolding same_but_clock same_scenes
same_lamp a b clock e = ap (λ (u : State). lamp_of u) ((same_but_clock_is_exact (alone a) (alone b) clock refl).0 (simp e))

module _ (p : Params) (k : List Scene) (l : Lamp) (i : Input) where
  abbrev met : State
  met = state_of p k l

  abbrev table : List Scene
  table = (order met i).scenes

  -- the state after an order is its parts
  order_joined : (after : Lamp) → lamp_of (order met i) ≡ after → state_of p table after ≡ order met i
  order_joined after e = rw (← e) (joined (order met i) p table (order_leaves met i).params refl)

  -- a lamp that stays: only the table can have changed, and nothing is shown
  stays : (b : Barrier) (k₁ : List Scene) → record { lamp = l; answer = answer b (same_scenes k k₁); note = None } ≡ done_by b met i (state_of p k₁ l)
  unfolding done_by same_but_clock same_phase same_flags note_of same_status value attributes
  stays b k₁ = simp (eqb_same, beq_same)

  pub lamp_stays : lamp_of (order met i) ≡ l → record { lamp = l; answer = answer Open (same_scenes k table); note = None } ≡ done_by Open met i (order met i)
  lamp_stays e = stays Open table ∙ ap (done_by Open met i) (order_joined l e)

  -- a lamp that does not
  changes : (b : Barrier) (k₁ : List Scene) (after : Lamp) → (same_phase l.phase after.phase && same_flags (alone l) (alone after)) ≡ false
      → record { lamp = after; answer = answer b false; note = note_of (kind i) (alone l) (alone after) } ≡ done_by b met i (state_of p k₁ after)
  unfolding done_by same_but_clock same_flags note_of same_status value attributes record_of
  changes b k₁ after e = simp e

  pub lamp_changes : (after : Lamp) → lamp_of (order met i) ≡ after → (same_phase l.phase after.phase && same_flags (alone l) (alone after)) ≡ false
      → record { lamp = after; answer = 0; note = note_of (kind i) (alone l) (alone after) } ≡ done_by Open met i (order met i)
  lamp_changes after e differs = changes Open table after differs ∙ ap (done_by Open met i) (order_joined after e)

  -- an order to the light leaves all but the phase
  module _ (light : is_light i ≡ true) (next : Phase) (grants : next ≡ light_phase p k l i) where
    pub light_lamp : lamp_of (order met i) ≡ lamp_of (with_phase (alone l) next)
    light_lamp = rw grants (light_is_granted p k l i light)

    same_flags_then : same_flags (alone l) (with_phase (alone l) next) ≡ true
    unfolding same_flags
    same_flags_then = simp (eqb_same, beq_same)

    pub light_stays : same_phase l.phase next ≡ true → lamp_of (order met i) ≡ l
    light_stays e = light_lamp ∙ sym (same_lamp l (lamp_of (with_phase (alone l) next)) refl (rw (e, same_flags_then) refl))

    pub light_changes : same_phase l.phase next ≡ false → (same_phase l.phase next && same_flags (alone l) (with_phase (alone l) next)) ≡ false
    light_changes e = rw e refl

-- ---- what is no order to the light, taken or noted

-- it leaves the parameters, the scene table and the clock
other_keeps : (b : Bool) (s : State) (i : Input) → is_light i ≡ false → ((after (meeting b) s i).params ≡ s.params) × ((after (meeting b) s i).scenes ≡ s.scenes) × ((after (meeting b) s i).clock ≡ s.clock)
unfolding meeting after
other_keeps false s i other = ((order_leaves s i).params, other_orders_keep_the_table s i other, (order_leaves s i).clock)
other_keeps true s i other = let k = noted_leaves s i in (k.params, k.scenes, k.clock)

unchanged_is_1 : (b : Bool) → answer (meeting b) true ≡ 1
unfolding meeting
unchanged_is_1 false = refl
unchanged_is_1 true = refl

module _ (p : Params) (k : List Scene) (l : Lamp) (i : Input) (b : Bool) (other : is_light i ≡ false) (next : Lamp) (leads : next ≡ lamp_of (after (meeting b) (state_of p k l) i)) where
  abbrev reached : State
  reached = after (meeting b) (state_of p k l) i

  parts : state_of p k next ≡ reached
  parts = let kept = other_keeps b (state_of p k l) i other in rw leads (joined reached p k kept.0 kept.1)

  pub other_stays : (same_phase l.phase next.phase && same_flags (alone l) (alone next)) ≡ true → record { lamp = l; answer = 1; note = None } ≡ done_by (meeting b) (state_of p k l) i reached
  other_stays same =
      let clock : l.clock ≡ next.clock = sym (ap (λ (x : Lamp). x.clock) leads ∙ (other_keeps b (state_of p k l) i other).2) in
      let here : state_of p k l ≡ reached = ap (state_of p k) (same_lamp l next clock same) ∙ parts in
      rw (scenes_same k, unchanged_is_1 b) at (stays p k l i (meeting b) k) ∙ ap (done_by (meeting b) (state_of p k l) i) here

  pub other_changes : (same_phase l.phase next.phase && same_flags (alone l) (alone next)) ≡ false →
      record { lamp = next; answer = answer (meeting b) false; note = note_of (kind i) (alone l) (alone next) } ≡ done_by (meeting b) (state_of p k l) i reached
  other_changes differs = changes p k l i (meeting b) k next differs ∙ ap (done_by (meeting b) (state_of p k l) i) parts

-- a value that is noted, whatever the parameters and the table
pub noted_alone : (p : Params) (k : List Scene) (l : Lamp) (i : Input) → lamp_of (noted (alone l) i) ≡ lamp_of (noted (state_of p k l) i)
noted_alone p k l i = noted_both (λ (u v : State). lamp_of u ≡ lamp_of v) (alone l) (state_of p k l) i refl (λ force. refl) (λ night. refl)

-- ---- at the moved clock

-- the answer that a dropped input gets
abbrev answer_in : Result Bool ℕ → ℕ
answer_in (Err answer) = answer
answer_in (Ok noted) = 0

dropped_or_counts : {A : Type 0} {answer : ℕ} {noted : Bool} → Err answer ≡ Ok noted → A
dropped_or_counts e = absurd (let z : ◌≡◌ {A = ℕ} 0 1 = cc in omega arith)

-- an input that counts is taken where it is free, and else noted
counts_when_open : (b : Barrier) → fate b ≡ Ok false → b ≡ Open
unfolding fate
counts_when_open Open e = refl
counts_when_open Notes e = no cc
counts_when_open (Stopped why) e = dropped_or_counts e

counts_when_noted : (b : Barrier) → fate b ≡ Ok true → b ≡ Notes
unfolding fate
counts_when_noted Open e = no cc
counts_when_noted Notes e = refl
counts_when_noted (Stopped why) e = dropped_or_counts e

module _ (s : State) (i : Input) where
  pub counts_is_done : (noted : Bool) → fate (barrier s i) ≡ Ok noted → done_by (meeting noted) s i (after (meeting noted) s i) ≡ done (act (still s) i)
  unfolding meeting after done_by done act meet counted
  counts_is_done false e = rw (counts_when_open (barrier s i) e, first_written (kind i) s (order s i)) refl
  counts_is_done true e = rw (counts_when_noted (barrier s i) e, first_written (kind i) s (noted s i)) refl

  -- an order to the light is not noted
  pub light_is_done : (noted : Bool) → is_light i ≡ true → fate (barrier s i) ≡ Ok noted → done_by Open s i (order s i) ≡ done (act (still s) i)
  unfolding meeting after
  light_is_done false light e = counts_is_done false e
  light_is_done true light e = absurd (go i light (noted_where s i (counts_when_noted (barrier s i) e)))
    where
      go : (i : Input) → is_light i ≡ true → NotedWhere s i → ⊥
      go (SwitchOnOffForced force) light w = no light
      go (NightMode value) light w = no light
      go _ light w = elim w [ ]

  -- the scene table is that of the order: what is noted teaches nothing, and neither would its order
  pub counts_teaches : (noted : Bool) → fate (barrier s i) ≡ Ok noted → (order s i).scenes ≡ (act (still s) i).state.scenes
  unfolding act meet counted
  counts_teaches false e = rw (counts_when_open (barrier s i) e) refl
  counts_teaches true e =
      let way = counts_when_noted (barrier s i) e in
      rw way ((order_leaves s i).scenes ∙ untaught i (noted_where s i way) ∙ sym (noted_leaves s i).scenes)
    where
      untaught : (i : Input) → NotedWhere s i → scenes_after s i ≡ s.scenes
      untaught (SwitchOnOffForced force) w = refl
      untaught (NightMode value) w = refl
      untaught _ w = elim w [ ]

  -- nothing is left of a dropped input but its answer
  pub dropped_leaves : (answer : ℕ) → fate (barrier s i) ≡ Err answer → (dropped_by s answer ≡ done (act (still s) i)) × (s.scenes ≡ (act (still s) i).state.scenes)
  unfolding act
  dropped_leaves answer = go (barrier s i)
    where
      go : (b : Barrier) → fate b ≡ Err answer → (dropped_by s answer ≡ done (meet b (still s) i)) × (s.scenes ≡ (meet b (still s) i).state.scenes)
      go Open e = unfold fate in dropped_or_counts (sym e)
      go Notes e = unfold fate in dropped_or_counts (sym e)
      go (Stopped why) e = unfold fate dropped_by done meet in (rw (sym (ap answer_in e)) refl, refl)

  -- the parameters stay in any case, and one record is written at most
  pub acting_keeps : ((act (still s) i).state.params ≡ s.params) × (length (act (still s) i).records ≤ 1)
  unfolding act
  acting_keeps = go (barrier s i)
    where
      go : (b : Barrier) → ((meet b (still s) i).state.params ≡ s.params) × (length (meet b (still s) i).records ≤ 1)
      go Open = unfold meet counted in ((order_leaves s i).params, one_record_at_most (kind i) s (order s i))
      go Notes = unfold meet counted in ((noted_leaves s i).params, one_record_at_most (kind i) s (noted s i))
      go (Stopped why) = unfold meet in (refl, omega arith)

  -- by value: its lamp and its table
  pub acting_by_parts : (d : Done) (table : List Scene) → d ≡ done (act (still s) i) → table ≡ (act (still s) i).state.scenes →
      record { state = state_of s.params table d.lamp; answer = d.answer; note = d.note } ≡ acting (act (still s) i)
  unfolding done acting
  acting_by_parts d table e f = rw (e, f) (rw (joined (act (still s) i).state s.params (act (still s) i).state.scenes acting_keeps.0 refl) refl)

-- ---- the whole step

module _ (s : State) (i : Input) (t : ℕ) where
  -- what acts after the move, as the code has it
  abbrev pub later : Stepped
  later = act (still (clock_move s t).state) i

  pub step_splits : ((step s i t).state ≡ later.state) × ((step s i t).answer ≡ later.answer) × ((step s i t).records ≡ (clock_move s t).records ++ later.records)
  unfolding step
  step_splits =
      let e = acts_after_the_move (clock_move s t) i in
      (ap (λ (x : Played). x.state) e, ap (λ (x : Played). head x.answers) e, ap (λ (x : Played). x.records) e)
    where
      head : List ℕ → ℕ
      head [] = 0
      head (a ∷ _) = a

  -- its state is its parts: the parameters stay
  pub later_joined : state_of s.params later.state.scenes (lamp_of later.state) ≡ later.state
  later_joined =
      let k = acting_keeps (clock_move s t).state i in
      joined later.state s.params later.state.scenes (k.0 ∙ ap (λ (u : State). u.params) (move_keeps s t)) refl

  -- by value: the move, and then what acted
  pub step_is_the_move_and_the_act : (m : Clocked) (d : Acting) → m ≡ clocked (clock_move s t) → d ≡ acting later → record { state = d.state; answer = d.answer; notes = added m.notes d.note } ≡ acted (step s i t)
  unfolding clocked acting acted
  step_is_the_move_and_the_act m d e f =
      let x = step_splits in
      let k = acting_keeps (clock_move s t).state i in
      rw (e, f, x.0, x.1, x.2, added_first (clock_move s t).records later.records (a_move_writes_at_most_two s t) k.1) refl
