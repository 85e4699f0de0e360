-- Timers and clock moves, of the lamp alone: parameters and scenes stay, so a lamp can be handed on in their place.
use Rattle.std.specs.Prelude.{Option, Some, None}
use Prim.Native.Nat.{ℕ, ◌+◌, ◌≤◌, ◌<◌}
use mathlib.Core.Bool.{true, false}
use mathlib.Core.List.{List, [], ◌++◌, append-nil, append_assoc}
use mathlib.Core.Path.{◌≡◌, refl, sym, ap, ◌∙◌}
use lib.ListN.{length, take, length-append}
use borrow.Author.Tests.{leb-true, leb-false}
use native.Mathlib.Omega.{arith}
use Rattle.rules.specs.declared.parameters.Params.{Params}
use Rattle.rules.specs.declared.parameters.Scene.{Scene}
use Rattle.rules.specs.declared.phase.Phase.{Phase}
use Rattle.rules.specs.declared.record.Record.{Record}
use Rattle.rules.specs.declared.state.State.{State}
use Rattle.rules.specs.Phases.{deadline, at_deadline}
use Rattle.rules.specs.Status.{by_itself, value, attributes, same_status, record_of, written}
use Rattle.rules.specs.Answers.{due}
use Rattle.rules.specs.Steps.{at_moment, clock_move, Quiet}
use Rattle.base.proofs.Tests.{no}
use Rattle.rules.proofs.Laws.Steps.{rank, a_timer_lowers_the_rank}
use Rattle.rules.proofs.Laws.Timers.{the_first_timer_first, no_timer_due_no_move}
use Rattle.rules.proofs.Laws.Records.{a_move_writes_at_most_two}
use Rattle.rules.proofs.Laws.Deadlines.{due_is}
use Rattle.rules.proofs.Laws.Soundness.{move_keeps}
use Rattle.phases.specs.Room.{Room}
use Rattle.phases.proofs.Rooms.{due_room}
use Rattle.lamps.specs.declared.lamp.Lamp.{Lamp}
use Rattle.lamps.specs.Lamps.{lamp_of, state_of, alone}
use Rattle.records.specs.Notes.{listed, notes, no_notes, added}
use Rattle.records.specs.declared.notes.Notes.{Notes}
use Rattle.records.proofs.Written.{listed_written, added_listed, notes_count, used_notes}
use Rattle.timers.specs.declared.clock.Clocked.{Clocked}
use Rattle.timers.specs.Ticks.{timer_of, timers_of, due_by, clocked}

-- a state is its parameters, its scenes and its lamp
pub joined : (s : State) (p : Params) (k : List Scene) → s.params ≡ p → s.scenes ≡ k → state_of p k (lamp_of s) ≡ s
joined s p k e f = rw (← e, ← f) refl

-- the timers change nothing but the phase
pub moved_lamp : (p : Params) (k : List Scene) (l : Lamp) (t : ℕ) → state_of p k (lamp_of (at_moment (alone l) t (clock_move (state_of p k l) t).state.phase)) ≡ (clock_move (state_of p k l) t).state
moved_lamp p k l t = sym (move_keeps (state_of p k l) t)

-- ---- is a timer due?

due_case : (P : Type 0) (x : Option ℕ) (t : ℕ) → due_by x t ≡ true → ((d : ℕ) → x ≡ Some d → d ≤ t → P) → P
due_case P None t e f = no e
due_case P (Some d) t e f = f d refl (leb-true d t e)

-- its own moment has room
pub due_has_room : (p : Params) (phase : Phase) (t : ℕ) → due_by (deadline phase) t ≡ true → Room p t → Room p (due phase)
due_has_room p phase t e room = due_case (Room p (due phase)) (deadline phase) t e (λ d at past. due_room p phase t d at past room)

-- and there are not many
pub due_lowers_the_rank : (p : Params) (l : Lamp) (phase : Phase) (t : ℕ) → due_by (deadline phase) t ≡ true → rank (timer_of p l phase).phase < rank phase
unfolding timer_of
due_lowers_the_rank p l phase t e = due_case (rank (at_deadline p l.night phase) < rank phase) (deadline phase) t e (λ d at past. a_timer_lowers_the_rank p l.night phase d at)

-- where no timer is due, only the clock moves
quiet : (x : Option ℕ) (t : ℕ) → due_by x t ≡ false → Quiet t x
quiet None t e = tt
quiet (Some d) t e = leb-false d t e

-- ---- one timer after the other

-- so far these records were written and the lamp has come to this phase: what is left of the move is the move from there
pub record Running (p : Params) (l : Lamp) (t : ℕ) (now : Phase) (wrote : List Record) : Type 0 where
  pub clock : ℕ
  pub phases : (k : List Scene) → (clock_move (state_of p k l) t).state.phase ≡ (clock_move (at_moment (state_of p k l) clock now) t).state.phase
  pub records : (k : List Scene) → (clock_move (state_of p k l) t).records ≡ wrote ++ (clock_move (at_moment (state_of p k l) clock now) t).records

module _ (p : Params) (l : Lamp) (t : ℕ) where
  pub running_first : Running p l t l.phase []
  running_first = record { clock = l.clock; phases = λ k. refl; records = λ k. refl }

  -- the record of a timer, whatever the clock showed before it
  timer_written : (k : List Scene) (now : Phase) (clock d : ℕ) → due now ≡ d → listed (timer_of p l now).note ≡ written by_itself (at_moment (state_of p k l) clock now) (at_moment (state_of p k l) d (at_deadline p l.night now))
  unfolding timer_of written same_status value attributes record_of
  timer_written k now clock d e = rw (← e) (listed_written by_itself _ _)

  module _ (now : Phase) (wrote : List Record) (r : Running p l t now wrote) where
    runs_at : (d : ℕ) → deadline now ≡ Some d → d ≤ t → Running p l t (at_deadline p l.night now) (wrote ++ listed (timer_of p l now).note)
    runs_at d at past =
        record {
          clock = d;
          phases = λ k. r.phases k ∙ ap (λ (u : State). u.phase) (the_first_timer_first (at_moment (state_of p k l) r.clock now) t d at past).0;
          records = λ k. r.records k ∙ rw ((the_first_timer_first (at_moment (state_of p k l) r.clock now) t d at past).1, timer_written k now r.clock d (due_is now d at), append_assoc) refl;
        }

    -- a due timer runs: its record comes after those before it
    pub running_on : due_by (deadline now) t ≡ true → Running p l t (timer_of p l now).phase (wrote ++ listed (timer_of p l now).note)
    unfolding timer_of
    running_on e = due_case (Running p l t (at_deadline p l.night now) (wrote ++ listed (timer_of p l now).note)) (deadline now) t e runs_at

    -- when none is due, this is the whole move
    pub running_last : due_by (deadline now) t ≡ false → (k : List Scene) → ((clock_move (state_of p k l) t).state.phase ≡ now) × ((clock_move (state_of p k l) t).records ≡ wrote)
    running_last e k =
        let rests = no_timer_due_no_move (at_moment (state_of p k l) r.clock now) t (quiet (deadline now) t e) in
        (r.phases k ∙ rw rests refl, r.records k ∙ rw (rests, append-nil) refl)

    -- a move writes two records at most
    pub running_few : length wrote ≤ 2
    running_few =
        let long : length (clock_move (state_of p [] l) t).records ≡ length wrote + length (clock_move (at_moment (state_of p [] l) r.clock now) t).records = rw (r.records []) (length-append wrote _) in
        omega (arith, long, a_move_writes_at_most_two (state_of p [] l) t)

-- ---- by value

-- a clock move as it is handed out: its state, its records, at most two
module _ (s : State) (t : ℕ) (m : Clocked) (e : m ≡ clocked (clock_move s t)) where
  pub moved_state : m.state ≡ (clock_move s t).state
  unfolding clocked
  moved_state = rw e refl

  pub moved_notes : m.notes ≡ notes (clock_move s t).records
  unfolding clocked
  moved_notes = rw e refl

  pub moved_count : m.notes.count ≡ length (clock_move s t).records
  moved_count = rw (moved_notes, notes_count (clock_move s t).records) refl

  pub moved_few : m.notes.count ≤ 2
  moved_few = rw moved_count (a_move_writes_at_most_two s t)

  pub moved_records : take m.notes.count m.notes.records ≡ (clock_move s t).records
  moved_records = rw moved_notes (used_notes (clock_move s t).records (omega (arith, a_move_writes_at_most_two s t)))

-- the timers' records
pub record Noted (p : Params) (l : Lamp) (t : ℕ) (now : Phase) (n : Notes) : Type 0 where
  pub wrote : List Record
  pub noted : n ≡ notes wrote
  pub running : Running p l t now wrote

module _ (p : Params) (l : Lamp) (t : ℕ) where
  pub noted_first : Noted p l t l.phase no_notes
  unfolding no_notes
  noted_first = record { wrote = []; noted = refl; running = running_first p l t }

  module _ (now : Phase) (n : Notes) (o : Noted p l t now n) where
    pub noted_few : n.count ≤ 2
    noted_few = rw (o.noted, notes_count o.wrote) (running_few p l t now o.wrote o.running)

    pub noted_on : due_by (deadline now) t ≡ true → Noted p l t (timer_of p l now).phase (added n (timer_of p l now).note)
    noted_on e =
        record {
          wrote = o.wrote ++ listed (timer_of p l now).note;
          noted = rw o.noted (added_listed o.wrote (timer_of p l now).note (running_few p l t now o.wrote o.running));
          running = running_on p l t now o.wrote o.running e;
        }

    pub noted_last : due_by (deadline now) t ≡ false → (k : List Scene) → record { phase = now; notes = n } ≡ timers_of (clock_move (state_of p k l) t)
    unfolding timers_of
    noted_last e k = let whole = running_last p l t now o.wrote o.running e k in rw (whole.0, whole.1, o.noted) refl
