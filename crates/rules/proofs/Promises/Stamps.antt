-- No record is stamped before its time: an order sets no deadline before the clock, a timer none before its own, so whatever is
-- played from a state on is stamped at its clock or later.
use Rattle.std.specs.Prelude.{Option, Some, None}
use Prim.Native.Nat.{ℕ, ◌+◌, ◌≤◌}
use mathlib.Core.Bool.{Bool, ◌||◌}
use mathlib.Core.Path.{◌≡◌, refl}
use mathlib.Core.List.{List, [], ◌∷◌, ◌++◌, append-nil}
use native.Mathlib.Omega.{arith}
use lib.Dec.{eqb}
use Rattle.rules.specs.declared.parameters.Params.{Params}
use Rattle.rules.specs.declared.phase.Phase.{Phase}
use Rattle.rules.specs.declared.phase.Phase.TheVariants.{Dark, Lit, Starting, Timed, Warning, Ending}
use Rattle.rules.specs.declared.input.Input.{Input}
use Rattle.rules.specs.declared.state.State.{State}
use Rattle.rules.specs.declared.barrier.Barrier.{Barrier}
use Rattle.rules.specs.declared.barrier.Barrier.TheVariants.{Open, Notes, Stopped}
use Rattle.rules.specs.declared.record.Record.{Record}
use Rattle.rules.specs.Inputs.{kind}
use Rattle.rules.specs.Phases.{deadline, lit_at, at_deadline, own_end}
use Rattle.rules.specs.Status.{record_of, by_itself, same_status, written}
use Rattle.rules.specs.Steps.{Moved, ticked, clock_move, counted, meet, act, step, Quiet, fired, Moves, rest, fire}
use Rattle.rules.specs.Lists.{Cue, cue, plays, plays_to}
use Rattle.rules.specs.Promises.{Rises}
use Rattle.base.proofs.Tests.{either_way}
use Rattle.rules.proofs.Laws.Steps.{three_are_enough}
use Rattle.rules.proofs.Laws.Ends.{DueFrom, earliest_from, own_end_from}
use Rattle.rules.proofs.Laws.Making.{Makes, keeps, darkens, steadies, times, begins, awaits, ends, night_times, night_ends_lem, order_makes}
use Rattle.rules.proofs.Laws.Soundness.{move_clock, move_params, step_phase_case, step_clock}
use Rattle.rules.proofs.Laws.Timers.{alike_writes_nothing, clock_moves}
use Rattle.rules.proofs.Laws.Lists.{plays_to_next}

-- ---- deadlines

due_from_earlier : (t u : ℕ) (x : Option ℕ) → t ≤ u → DueFrom u x → DueFrom t x
due_from_earlier t u None earlier h = tt
due_from_earlier t u (Some d) earlier h = omega arith

quiet_is_later : (t : ℕ) (x : Option ℕ) → Quiet t x → DueFrom (t + 1) x
quiet_is_later t None h = tt
quiet_is_later t (Some d) h = omega arith

later_is_quiet : (t : ℕ) (x : Option ℕ) → DueFrom (t + 1) x → Quiet t x
later_is_quiet t None h = tt
later_is_quiet t (Some d) h = omega arith

-- a phase whose timer is not due before t
abbrev Ahead : ℕ → Phase → Type 0
Ahead t phase = DueFrom t (deadline phase)

-- a timer leads to a later one or to none
timer_ahead : (p : Params) (t : ℕ) (night : Bool) (phase : Phase) → Ahead t phase → Ahead t (at_deadline p night phase)
unfolding at_deadline lit_at
timer_ahead p t night Dark h = tt
timer_ahead p t night Lit h = tt
timer_ahead p t night (Starting timed d) h = either_way (Ahead t) (timed || night) _ _ (omega arith) tt
timer_ahead p t night (Timed d) h = either_way (Ahead t) (eqb p.prewarning 0) _ _ tt (omega arith)
timer_ahead p t night (Warning d) h = tt
timer_ahead p t night (Ending d) h = tt

-- An order at t keeps a deadline, or sets one from t on; one after t, where TimedOn is not 0. (The other delays are taken only
-- where they are not 0.) Both are said at once, of an f that is t or t + 1.
made_ahead : {p : Params} {t : ℕ} {night before now : Bool} {Bright Holds Dims : Type 0} {phase after : Phase} (f : ℕ) → f ≤ t + 1 → f ≤ t + p.timedon → Ahead f phase →
    Makes p t night before now Bright Holds Dims phase after → Ahead f after
made_ahead f near by-timed-on h (keeps e) = h
made_ahead f near by-timed-on h (darkens x) = tt
made_ahead f near by-timed-on h (steadies e b x) = tt
made_ahead f near by-timed-on h (times b x) = by-timed-on
made_ahead f near by-timed-on h (begins timed dark b some) = omega (arith, near)
made_ahead f near by-timed-on h (awaits was timed d e) = rw e at h
made_ahead {p} {phase = phase} f near by-timed-on h (ends same lit some) = earliest_from _ f (own_end p phase) (omega (arith, near)) (own_end_from p f phase h)
made_ahead f near by-timed-on h (night_times e day) = by-timed-on
made_ahead f near by-timed-on h (night_ends_lem d e day) = omega (arith, by-timed-on, rw e at h)

-- a clock move leaves nothing due
pub moved_on_time : (s : State) (t : ℕ) → DueFrom (t + 1) (deadline (clock_move s t).state.phase)
unfolding clock_move ticked
moved_on_time s t = quiet_is_later t (deadline (clock_move s t).state.phase) (three_are_enough s t)

-- and an order sets nothing before that, whatever state a step starts from
step_ahead : (s : State) (i : Input) (t f : ℕ) → f ≤ t + 1 → f ≤ t + s.params.timedon → Ahead f (step s i t).state.phase
step_ahead s i t f near by-timed-on =
    let met : State = (clock_move s t).state in
    let early = due_from_earlier f (t + 1) (deadline met.phase) near (moved_on_time s t) in
    step_phase_case (Ahead f) s i t (λ way. made_ahead f (rw (move_clock s t) near) (rw (move_clock s t, move_params s t) by-timed-on) early (order_makes met i)) early

-- so nothing is due before its stamp
step_on_time : (s : State) (i : Input) (t : ℕ) → DueFrom t (deadline (step s i t).state.phase)
step_on_time s i t = step_ahead s i t t (omega arith) (omega arith)

-- nor at it, where TimedOn is not 0: whatever comes at the same stamp finds no timer to run
pub nothing_due_after_a_step : (s : State) (i : Input) (t : ℕ) → 1 ≤ s.params.timedon → Quiet t (deadline (step s i t).state.phase)
nothing_due_after_a_step s i t some = later_is_quiet t (deadline (step s i t).state.phase) (step_ahead s i t (t + 1) (omega arith) (omega arith))

-- ---- records

-- each of them is stamped t or later
abbrev pub StampedFrom : ℕ → List Record → Type 0
StampedFrom t [] = Unit {0}
StampedFrom t (r ∷ later) = (t ≤ r.stamp) × StampedFrom t later

stamped_append : (t : ℕ) (k l : List Record) → StampedFrom t k → StampedFrom t l → StampedFrom t (k ++ l)
stamped_append t [] l f g = g
stamped_append t (r ∷ k) l f g = (f.0, stamped_append t k l f.1 g)

pub stamped_first : (t : ℕ) (k l : List Record) → StampedFrom t (k ++ l) → StampedFrom t k
stamped_first t [] l f = tt
stamped_first t (r ∷ k) l f = (f.0, stamped_first t k l f.1)

written_from : (t cause : ℕ) (before after : State) → t ≤ after.clock → StampedFrom t (written cause before after)
unfolding written record_of
written_from t cause before after h = either_way (StampedFrom t) (same_status before after) _ _ tt (h, tt)

moves_from : (t : ℕ) {u : ℕ} {s x : State} {l : List Record} → Moves u s x l → DueFrom t (deadline s.phase) → StampedFrom t l
moves_from t (rest q) h = tt
moves_from t {s = s} (fire {l = l} d e past m) h =
    stamped_append t (written by_itself s (fired s d)) l
    (written_from t by_itself s (fired s d) (rw e at h)) (moves_from t m (timer_ahead s.params t s.night s.phase h))

pub move_from : (t u : ℕ) (s : State) → DueFrom t (deadline s.phase) → StampedFrom t (clock_move s u).records
move_from t u s h = moves_from t (clock_moves s u) h

-- a stopped input writes nothing of its own
none_of_its_own : (m : Moved) (i : Input) → m.records ≡ m.records ++ written (kind i) m.state m.state
none_of_its_own m i = simp (alike_writes_nothing (kind i) m.state m.state refl refl, append-nil)

-- the records of a step: those of its clock move, then its own
meet_records : (b : Barrier) (m : Moved) (i : Input) → (meet b m i).records ≡ m.records ++ written (kind i) m.state (meet b m i).state
unfolding meet counted
meet_records Open m i = refl
meet_records Notes m i = refl
meet_records (Stopped why) m i = none_of_its_own m i

pub step_records : (s : State) (i : Input) (t : ℕ) → (step s i t).records ≡ (clock_move s t).records ++ written (kind i) (clock_move s t).state (step s i t).state
unfolding step act
step_records s i t = meet_records _ (clock_move s t) i

step_from : (t u : ℕ) (s : State) (i : Input) → t ≤ u → DueFrom t (deadline s.phase) → StampedFrom t (step s i u).records
step_from t u s i h d =
    let met : State = (clock_move s u).state in
    let left : State = (step s i u).state in
    rw (step_records s i u)
    (stamped_append t (clock_move s u).records (written (kind i) met left) (move_from t u s d) (written_from t (kind i) met left (rw (step_clock s i u) h)))

-- whatever is played from a moment on, in stamps that never fall, is stamped then or later
plays_to_from : (t last end : ℕ) (list : List Cue) (s : State) → t ≤ last → Rises last list end → DueFrom t (deadline s.phase) → StampedFrom t (plays_to end list s).records
plays_to_from t last end [] s h r d = unfold plays_to plays in move_from t end s d
plays_to_from t last end (cue u i ∷ later) s h r d =
    let next : State = (step s i u).state in
    let early : t ≤ u = omega (arith, r.0) in
    let due = due_from_earlier t u (deadline next.phase) early (step_on_time s i u) in
    rw (plays_to_next end u i later s)
    (stamped_append t (step s i u).records (plays_to end later next).records (step_from t u s i early d) (plays_to_from t u end later next early r.1 due))

-- so are an input's own records, and those of all that is played after it
pub from_an_input_on : (u end : ℕ) (i : Input) (later : List Cue) (s : State) → Rises u later end →
    let left : State = (step s i u).state in
    StampedFrom u (written (kind i) (clock_move s u).state left ++ (plays_to end later left).records)
from_an_input_on u end i later s r =
    let met : State = (clock_move s u).state in
    let left : State = (step s i u).state in
    stamped_append u (written (kind i) met left) (plays_to end later left).records
    (written_from u (kind i) met left (rw (step_clock s i u) (omega arith))) (plays_to_from u u end later left (omega arith) r (step_on_time s i u))
