-- What an input came to, as the code has it.
use Rattle.std.specs.Prelude.{ℕ, Bool, true, false, None, Result, Ok, Err}
use Rattle.rules.specs.declared.input.Input.{Input}
use Rattle.rules.specs.declared.state.State.{State}
use Rattle.rules.specs.declared.barrier.Barrier.{Barrier}
use Rattle.rules.specs.declared.barrier.Barrier.TheVariants.{Open, Notes, Stopped}
use Rattle.rules.specs.Inputs.{kind}
use Rattle.rules.specs.Orders.{order, noted}
use Rattle.rules.specs.Answers.{stopped_number, answer, same_but_clock}
use Rattle.rules.specs.Steps.{Stepped}
use Rattle.lamps.specs.Lamps.{lamp_of}
use Rattle.actuator.specs.declared.step.Acted.{Acted}
use Rattle.actuator.specs.declared.step.Acting.{Acting}
use Rattle.actuator.specs.declared.step.Done.{Done}
use Rattle.records.specs.Notes.{notes, note_of, first_of}

-- what becomes of an input, by what it meets
unfoldable pub fate : Barrier → Result Bool ℕ
fate Open = Ok false
fate Notes = Ok true
fate (Stopped why) = Err (stopped_number why)

-- what an input meets that counts, and what it then leaves
unfoldable pub meeting : Bool → Barrier
meeting false = Open
meeting true = Notes

unfoldable pub after : Barrier → State → Input → State
after Open s i = order s i
after Notes s i = noted s i
after (Stopped why) s i = s

-- a whole step
unfoldable pub acted : Stepped → Acted
acted d = record { state = d.state; answer = d.answer; notes = notes d.records }

-- an input while the clock stands: it writes at most one record
unfoldable pub acting : Stepped → Acting
acting d = record { state = d.state; answer = d.answer; note = first_of d.records }

-- the same at the moved clock, but for the scene table
unfoldable pub done : Stepped → Done
done d = record { lamp = lamp_of d.state; answer = d.answer; note = first_of d.records }

-- one that counts, by what it meets, and one that is dropped with this answer
unfoldable pub done_by : Barrier → State → Input → State → Done
done_by b s i after = record { lamp = lamp_of after; answer = answer b (same_but_clock s after); note = note_of (kind i) s after }

unfoldable pub dropped_by : State → ℕ → Done
dropped_by s answer = record { lamp = lamp_of s; answer = answer; note = None }
