-- What a timer and the timers of a clock move leave, and the whole move, as the code has them.
use Rattle.std.specs.Prelude.{ℕ, Bool, false, leb, Option, Some, None}
use Rattle.rules.specs.declared.parameters.Params.{Params}
use Rattle.rules.specs.declared.phase.Phase.{Phase}
use Rattle.rules.specs.Phases.{at_deadline}
use Rattle.rules.specs.Orders.{with_phase}
use Rattle.rules.specs.Status.{by_itself}
use Rattle.rules.specs.Answers.{due}
use Rattle.rules.specs.Steps.{Moved, at_moment}
use Rattle.lamps.specs.declared.lamp.Lamp.{Lamp}
use Rattle.lamps.specs.Lamps.{alone}
use Rattle.records.specs.Notes.{notes, note_of}
use Rattle.timers.specs.declared.clock.Timer.{Timer}
use Rattle.timers.specs.declared.clock.Ticked.{Ticked}
use Rattle.timers.specs.declared.clock.Clocked.{Clocked}

-- a deadline at or before t
abbrev pub due_by : Option ℕ → ℕ → Bool
due_by None t = false
due_by (Some d) t = leb d t

-- the timer of a lamp in this phase, at its own moment
unfoldable pub timer_of : Params → Lamp → Phase → Timer
timer_of p l phase =
    record {
      phase = at_deadline p l.night phase;
      note = note_of by_itself (with_phase (alone l) phase) (at_moment (alone l) (due phase) (at_deadline p l.night phase));
    }

-- the timers of a clock move, and the whole move
unfoldable pub timers_of : Moved → Ticked
timers_of m = record { phase = m.state.phase; notes = notes m.records }

unfoldable pub clocked : Moved → Clocked
clocked m = record { state = m.state; notes = notes m.records }
