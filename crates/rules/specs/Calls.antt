-- The public calls by value: their whole results, for every input (01, "Records and the printout" and "Refusal numbers").
use Rattle.rules.specs.declared.input.Input.{Input}
use Rattle.std.specs.Prelude.{ℕ, zero, suc, false, cond, List, [], ◌∷◌, length, Option, Some, None, Ok, Err}
use Rattle.rules.specs.declared.parameters.Params.{Params}
use Rattle.rules.specs.declared.parameters.Scene.{Scene}
use Rattle.rules.specs.declared.state.State.{State}
use Rattle.rules.specs.declared.record.Record.{Record}
use Rattle.base.specs.declared.refusal.Refusal.{Refusal}
use Rattle.base.specs.declared.refusal.Refusal.TheVariants.{BadInput, BadStamp, UnsoundState}
use Rattle.rules.specs.declared.call.Fresh.{Fresh}
use Rattle.rules.specs.declared.call.Single.{Single}
use Rattle.rules.specs.declared.call.Move.{Move}
use Rattle.base.specs.Time.{tenths}
use Rattle.rules.specs.Layout.{form_alone}
use Rattle.rules.specs.Parameters.{params_of, scenes_of, check_alone}
use Rattle.rules.specs.Inputs.{input_at}
use Rattle.octets.specs.Groups.{stamp_at}
use Rattle.rules.specs.Steps.{Moved, Stepped, fresh, clock_move, step}
use Rattle.rules.specs.Soundness.{sound}
use Rattle.base.specs.Refusals.{number, code_of, place_of, stamp_in_range, Check}

-- ---- the fresh state from parameters alone

-- "Where no state was handed in, a refusal's state is the fresh one with TimedOn 1 second, other times and modes 0, no scenes."; 02, [2]:
-- "A state keeps its version (1 in a refusal's own state)"
unfoldable pub least_params : Params
least_params =
    record {
      version = 1;
      ondelay = 0;
      offdelay = 0;
      timedon = tenths 1;
      prewarning = 0;
      locking = 0;
      unlocking = 0;
      busfailure = 0;
      busreturn = 0;
      powerreturn = 0;
      learning = false;
    }

-- "number (.. 255 for unused)"; "Unused entries have flags 0."
unfoldable pub unused : Scene
unused = record { number = 255; value = false; taught = false }

unfoldable pub no_scenes : List Scene
no_scenes = unused ∷ unused ∷ unused ∷ unused ∷ unused ∷ unused ∷ unused ∷ unused ∷ []

unfoldable pub own_state : State
own_state = fresh least_params no_scenes

-- "Parameters alone give the fresh state."
abbrev pub fresh_state : List ℕ → Check → State
fresh_state octets (Ok _) = fresh (params_of (form_alone octets) octets) (scenes_of (form_alone octets) octets)
fresh_state octets (Err fault) = own_state

unfoldable pub fresh_by : List ℕ → Check → Fresh
fresh_by octets found = record { state = fresh_state octets found; code = code_of found; place = place_of found }

unfoldable pub fresh_call : List ℕ → Fresh
fresh_call octets = fresh_by octets (check_alone octets)

-- ---- records by value

-- "by-value records not used are 0"
unfoldable pub blank : Record
blank = record { stamp = 0; value = 0; attributes = 0; cause = 0 }

-- n places: the records of a list, then blank ones (proofs/Laws/Records.antt shows that a list never has more than its places)
unfoldable pub places : ℕ → List Record → List Record
places zero records = []
places (suc n) [] = blank ∷ places n []
places (suc n) (r ∷ records) = r ∷ places n records

-- ---- a single input

-- "A single input, eight octets by value, returns state, answer and at most three records by value .. neither writes a start record."
unfoldable pub single_done : Stepped → Single
single_done d =
    record { state = d.state; code = 0; place = 0; answer = d.answer; count = length d.records; records = places 3 d.records }

-- a refused call "hands back the state it was given"; "Record count, a single input's answer and all by-value records are 0
-- on refusal"; "place 0"
unfoldable pub single_refused : State → Refusal → Single
single_refused s why = record { state = s; code = number why; place = 0; answer = 0; count = 0; records = places 3 [] }

-- 6, then 7, then played
unfoldable pub single_meant : State → ℕ → Option Input → Single
single_meant s stamp None = single_refused s BadInput
single_meant s stamp (Some i) = cond (stamp_in_range s.clock stamp) (single_done (step s i stamp)) (single_refused s BadStamp)

-- "For a single input 9, 6, 7, place 0."; 02, [2]: "A state keeps its version .., and single inputs follow it" (proofs/Refusals/Calls.antt,
-- `single_call_keeps_version`; the eight octets are the same in either)
unfoldable pub single_call : State → List ℕ → Single
single_call s octets = cond (sound s) (single_meant s (stamp_at octets 0) (input_at octets 0)) (single_refused s UnsoundState)

-- ---- a clock move

-- "a clock move the state and at most two"
unfoldable pub move_done : Moved → Move
move_done m = record { state = m.state; code = 0; place = 0; count = length m.records; records = places 2 m.records }

unfoldable pub move_refused : State → Refusal → Move
move_refused s why = record { state = s; code = number why; place = 0; count = 0; records = places 2 [] }

-- "A clock move: 9, 7."
unfoldable pub move_call : State → ℕ → Move
move_call s stamp =
    cond (sound s) (cond (stamp_in_range s.clock stamp) (move_done (clock_move s stamp)) (move_refused s BadStamp)) (move_refused s UnsoundState)
