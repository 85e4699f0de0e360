-- What the code hands out is what the rules say, by value.
use Rattle.std.specs.Prelude.{Ok}
use Prim.Native.Nat.{ℕ}
use mathlib.Core.List.{List}
use mathlib.Core.Path.{◌≡◌, refl}
use lib.ListN.{length}
use mathlib.Core.Bool.{true}
use Rattle.base.specs.Refusals.{stamp_in_range}
use Rattle.base.proofs.Codes.{timely_exactly_when}
use Rattle.rules.specs.declared.form.Form.{Form}
use Rattle.rules.specs.declared.state.State.{State}
use Rattle.rules.specs.Soundness.{sound}
use Rattle.rules.specs.Layout.{parameters_size}
use Rattle.rules.specs.Steps.{Moved, Stepped}
use Rattle.rules.specs.Parameters.{check_parameters}
use Rattle.rules.specs.Calls.{single_done, move_done}
use Rattle.rules.proofs.Laws.Parameters.{lowest_bad_octet}
use Rattle.rules.proofs.Laws.Records.{two_of_three}
use Rattle.phases.specs.Room.{Room}
use Rattle.phases.proofs.Rooms.{sound_room}
use Rattle.records.specs.Notes.{notes}
use Rattle.timers.specs.Ticks.{clocked}
use Rattle.actuator.specs.Acts.{acted}
use Rattle.live.specs.ByValue.{single_of, move_of}

pub acted_is_done : (d : Stepped) → single_of 0 (acted d) ≡ single_done d
unfolding single_of acted notes single_done
acted_is_done d = refl

pub clocked_is_done : (m : Moved) → move_of 0 (clocked m) ≡ move_done m
unfolding move_of clocked notes move_done
clocked_is_done m = rw (two_of_three m.records)

-- accepted parameters have the octets of their row
pub passed_length : (f : Form) (octets : List ℕ) → check_parameters f octets ≡ (Ok tt) → length octets ≡ parameters_size f
passed_length f octets h = ((lowest_bad_octet f octets (Ok tt)).0 h).whole

-- a sound state has room for a stamp in range
pub timely_room : (s : State) (stamp : ℕ) → sound s ≡ true → stamp_in_range s.clock stamp ≡ true → Room s.params stamp
timely_room s stamp h timely = sound_room s stamp h ((timely_exactly_when s.clock stamp).0 timely).1
