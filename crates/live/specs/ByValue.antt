-- What the actuator's code came to, as the public calls hand it out with a code.
use Rattle.std.specs.Prelude.{ℕ, [], ◌∷◌, get_or}
use Rattle.rules.specs.declared.call.Single.{Single}
use Rattle.rules.specs.declared.call.Move.{Move}
use Rattle.rules.specs.Calls.{blank}
use Rattle.actuator.specs.declared.step.Acted.{Acted}
use Rattle.timers.specs.declared.clock.Clocked.{Clocked}

unfoldable pub single_of : ℕ → Acted → Single
single_of code d =
    record { state = d.state; code = code; place = 0; answer = d.answer; count = d.notes.count; records = d.notes.records }

unfoldable pub move_of : ℕ → Clocked → Move
move_of code m =
    record { state = m.state; code = code; place = 0; count = m.notes.count; records = get_or m.notes.records 0 blank ∷ get_or m.notes.records 1 blank ∷ [] }
