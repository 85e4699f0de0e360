-- The clock move and the step of one input (01, "Phases" and "Which input counts"; 02, [4]).
use Rattle.std.specs.Prelude.{ℕ, ◌≤◌, ◌<◌, true, false, cond, List, [], ◌++◌, ◌≡◌, leb, Option, Some, None}
use Rattle.rules.specs.declared.parameters.Params.{Params}
use Rattle.rules.specs.declared.parameters.Scene.{Scene}
use Rattle.rules.specs.declared.phase.Phase.{Phase}
use Rattle.rules.specs.declared.phase.Phase.TheVariants.{Dark}
use Rattle.rules.specs.declared.input.Force.TheVariants.{Free}
use Rattle.rules.specs.declared.input.Input.{Input}
use Rattle.rules.specs.declared.state.Link.TheVariants.{Up}
use Rattle.rules.specs.declared.state.State.{State}
use Rattle.rules.specs.declared.barrier.Barrier.{Barrier}
use Rattle.rules.specs.declared.barrier.Barrier.TheVariants.{Open, Notes, Stopped}
use Rattle.rules.specs.declared.record.Record.{Record}
use Rattle.rules.specs.Inputs.{kind}
use Rattle.rules.specs.Phases.{deadline, at_deadline}
use Rattle.rules.specs.Orders.{order, noted}
use Rattle.rules.specs.Barriers.{barrier}
use Rattle.rules.specs.Status.{written, by_itself}
use Rattle.rules.specs.Answers.{answer, same_but_clock}

-- "Fresh: clock 0, Dark, link up, night off, no lock, no force, both remembered outputs off."
unfoldable pub fresh : Params → List Scene → State
fresh p scenes =
    record {
      params = p;
      scenes = scenes;
      clock = 0;
      night = false;
      lock = false;
      force = Free;
      link = Up;
      atlocking = false;
      atfailure = false;
      phase = Dark;
    }

-- the state at another moment, in this phase
abbrev pub at_moment : State → ℕ → Phase → State
at_moment s t phase =
    record { params = s.params; scenes = s.scenes; clock = t; night = s.night; lock = s.lock; force = s.force; link = s.link; atlocking = s.atlocking; atfailure = s.atfailure; phase = phase }

-- the state right after its timer ran at d
abbrev pub fired : State → ℕ → State
fired s d = at_moment s d (at_deadline s.params s.night s.phase)

-- "every deadline at or before t is run, each at its own moment": one of them, where there is one
unfoldable pub tick_at : State → ℕ → Option ℕ → State
tick_at s t None = s
tick_at s t (Some d) = cond (leb d t) (fired s d) s

unfoldable pub tick : State → ℕ → State
tick s t = tick_at s t (deadline s.phase)

-- a state, and the records that were written on the way to it
pub record Moved : Type 0 where
  pub state : State
  pub records : List Record

-- "at most three": from s by a, b and c; then the clock stands at t
unfoldable pub ticked : State → State → State → State → ℕ → Moved
ticked s a b c t =
    record {
      state = at_moment c t c.phase;
      records = written by_itself s a ++ (written by_itself a b ++ written by_itself b c);
    }

unfoldable pub clock_move : State → ℕ → Moved
clock_move s t = ticked s (tick s t) (tick (tick s t) t) (tick (tick (tick s t) t) t) t

-- the same as a chain of timers, however many (proofs/Laws/Timers.antt, `clock_moves`)

-- it has not come by t: no timer is due
abbrev pub Quiet : ℕ → Option ℕ → Type 0
Quiet t None = Unit {0}
Quiet t (Some d) = t < d

-- the timers due from s up to t, one after the other, and their records; then the clock stands at t
pub data Moves (t : ℕ) : State → State → List Record → Type 0 where
  rest : {s : State} → Quiet t (deadline s.phase) → Moves t s (at_moment s t s.phase) []
  fire : {s u : State} {l : List Record} (d : ℕ) → deadline s.phase ≡ Some d → d ≤ t → Moves t (fired s d) u l → Moves t s u (written by_itself s (fired s d) ++ l)

-- what an input gives
pub record Stepped : Type 0 where
  pub state : State
  pub answer : ℕ
  pub records : List Record

-- from the moved state to the one after an input that counts, by what it meets
unfoldable pub counted : Barrier → Moved → Input → State → Stepped
counted b m i after =
    record {
      state = after;
      answer = answer b (same_but_clock m.state after);
      records = m.records ++ written (kind i) m.state after;
    }

-- "A stopped input is dropped for good; every other is taken, though it may change nothing."
-- 02, [4]: "is noted: the flag or force changes, the phase does not. Release and unlocking then act by 01's rules on the noted values."
unfoldable pub meet : Barrier → Moved → Input → Stepped
meet Open m i = counted Open m i (order m.state i)
meet Notes m i = counted Notes m i (noted m.state i)
meet (Stopped why) m i = record { state = m.state; answer = answer (Stopped why) true; records = m.records }

unfoldable pub act : Moved → Input → Stepped
act m i = meet (barrier m.state i) m i

-- "An input at stamp t first moves the clock: every deadline at or before t is run .. Then the input acts."
unfoldable pub step : State → Input → ℕ → Stepped
step s i t = act (clock_move s t) i
