-- The code's form of a list of at most three records. The rules speak of lists.
use Rattle.std.specs.Prelude.{ℕ, ◌+◌, cond, List, [], ◌∷◌, length, set, Option, Some, None}
use Rattle.rules.specs.declared.state.State.{State}
use Rattle.rules.specs.declared.record.Record.{Record}
use Rattle.rules.specs.Status.{same_status, record_of}
use Rattle.rules.specs.Calls.{places}
use Rattle.records.specs.declared.notes.Notes.{Notes}

-- a list of at most three records, by value
unfoldable pub notes : List Record → Notes
notes records = record { count = length records; records = places 3 records }

unfoldable pub no_notes : Notes
no_notes = notes []

unfoldable pub note_of : ℕ → State → State → Option Record
note_of cause before after = cond (same_status before after) None (Some (record_of cause after))

-- the records with one more, where something was written
unfoldable pub added : Notes → Option Record → Notes
added n None = n
added n (Some r) = record { count = n.count + 1; records = set n.records n.count r }

-- of a list of at most one record
abbrev pub first_of : List Record → Option Record
first_of [] = None
first_of (r ∷ later) = Some r

-- and the list that was written
abbrev pub listed : Option Record → List Record
listed None = []
listed (Some r) = r ∷ []
