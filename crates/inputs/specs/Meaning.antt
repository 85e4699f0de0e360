-- Whether octets mean an input, whichever it is; and the event that a value means where it means one.
use Rattle.rules.specs.declared.input.Input.{Input}
use Rattle.std.specs.Prelude.{Bool, true, false, Option, Some, None}
use Rattle.rules.specs.declared.input.Event.{Event}
use Rattle.rules.specs.declared.input.Event.TheVariants.{Failure, Return}

abbrev pub is_meant : Option Input → Bool
is_meant (Some i) = true
is_meant None = false

abbrev pub event_of : Bool → Event
event_of true = Return
event_of false = Failure
