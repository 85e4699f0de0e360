-- The public calls: from a sound state they return a sound one, they refuse exactly when the table says, and a refusal changes nothing.
use Rattle.std.specs.Prelude.{Option, Some, None, Ok, Err}
use Prim.Native.Nat.{ℕ, ◌-◌}
use mathlib.Core.Bool.{Bool, true, false, cond}
use mathlib.Core.List.{List, [], ◌++◌}
use mathlib.Core.Logic.{◌↔◌}
use mathlib.Core.Path.{◌≡◌, refl}
use lib.ListN.{length}
use Rattle.rules.specs.declared.form.Form.{Form}
use Rattle.rules.specs.declared.input.Input.{Input}
use Rattle.rules.specs.declared.state.State.{State}
use Rattle.base.specs.declared.refusal.Refusal.TheVariants.{BadInput, BadStamp, UnsoundState}
use Rattle.rules.specs.declared.call.Single.{Single}
use Rattle.rules.specs.declared.call.Move.{Move}
use Rattle.rules.specs.Inputs.{input_at}
use Rattle.octets.specs.Groups.{stamp_at}
use Rattle.rules.specs.Steps.{clock_move, step}
use Rattle.rules.specs.Soundness.{sound}
use Rattle.base.specs.Refusals.{code_of, place_of, stamp_in_range, check_call, Check, refused_with}
use Rattle.rules.specs.Layout.{form_alone}
use Rattle.rules.specs.Parameters.{check_parameters, check_alone}
use Rattle.rules.specs.Calls.{fresh_by, fresh_call, places, single_done, single_refused, single_meant, single_call, move_done, move_refused, move_call}
use Rattle.rules.specs.Refusals.{FoundWhen, FreshCodes, SingleCodes, MoveCodes}
use Rattle.base.proofs.Tests.{no}
use Rattle.base.proofs.Codes.{codes_of_a_check, timely_exactly_when, call_codes}
use Rattle.rules.proofs.Laws.Soundness.{own_state_is_sound, move_is_sound, move_params, step_is_sound, step_params}
use Rattle.rules.proofs.Laws.Inputs.{not_meant, input_number}
use Rattle.rules.proofs.Laws.Forms.{alone_row}
use Rattle.rules.proofs.Laws.Parameters.{lowest_bad_octet, passed_is_sound}
use Rattle.rules.proofs.Laws.Records.{a_move_writes_at_most_two, an_input_writes_at_most_three, places_hold_all}

-- ---- a single input

-- What a single input finds: the first of the table's rows 9, 6, 7 that fits, or an input that is played.
pub data SingleFinds (s : State) (octets : List ℕ) : Single → Type 0 where
  not_sound : sound s ≡ false → SingleFinds s octets (single_refused s UnsoundState)
  wrong : sound s ≡ true → input_at octets 0 ≡ None → SingleFinds s octets (single_refused s BadInput)
  untimely : (i : Input) → sound s ≡ true → input_at octets 0 ≡ Some i → stamp_in_range s.clock (stamp_at octets 0) ≡ false → SingleFinds s octets (single_refused s BadStamp)
  plays : (i : Input) → sound s ≡ true → input_at octets 0 ≡ Some i → stamp_in_range s.clock (stamp_at octets 0) ≡ true → SingleFinds s octets (single_done (step s i (stamp_at octets 0)))

-- each test of the call decides one row
pub single_finds : (s : State) (octets : List ℕ) → SingleFinds s octets (single_call s octets)
unfolding single_call
single_finds s octets = by (sound s) refl
  where
    timely : (i : Input) (b : Bool) → sound s ≡ true → input_at octets 0 ≡ Some i → stamp_in_range s.clock (stamp_at octets 0) ≡ b → SingleFinds s octets (cond b (single_done (step s i (stamp_at octets 0))) (single_refused s BadStamp))
    timely i true h m e = plays i h m e
    timely i false h m e = untimely i h m e

    meant : (d : Option Input) → sound s ≡ true → input_at octets 0 ≡ d → SingleFinds s octets (single_meant s (stamp_at octets 0) d)
    meant None h m = unfold single_meant in wrong h m
    meant (Some i) h m = unfold single_meant in timely i (stamp_in_range s.clock (stamp_at octets 0)) h m refl

    by : (b : Bool) → sound s ≡ b → SingleFinds s octets (cond b (single_meant s (stamp_at octets 0) (input_at octets 0)) (single_refused s UnsoundState))
    by true h = meant (input_at octets 0) h refl
    by false h = not_sound h

-- and the other way round: where no row fits, the input is played
module _ (s : State) (octets : List ℕ) where
  pub good_is_played : (i : Input) → sound s ≡ true → input_at octets 0 ≡ Some i → stamp_in_range s.clock (stamp_at octets 0) ≡ true → single_call s octets ≡ single_done (step s i (stamp_at octets 0))
  unfolding single_call single_meant
  good_is_played i h m e = rw (h, m, e)

-- whether eight octets mean an input
abbrev known : Option Input → Bool
known (Some i) = true
known None = false

known_exactly_when : (d : Option Input) → (known d ≡ true) ↔ ((i : Input) × (d ≡ Some i))
known_exactly_when (Some i) = (λ h. (i, refl), λ g. refl)
known_exactly_when None = (λ h. no h, λ g. not_meant g.1)

-- its code and its place are those of its three tests
module _ (s : State) (octets : List ℕ) where
  abbrev tested : Check
  tested = check_call (sound s) (known (input_at octets 0)) (stamp_in_range s.clock (stamp_at octets 0))

  single_is_tested : ((single_call s octets).code ≡ code_of tested) × ((single_call s octets).place ≡ place_of tested)
  single_is_tested = by (single_finds s octets)
    where
      by : {r : Single} → SingleFinds s octets r → (r.code ≡ code_of tested) × (r.place ≡ place_of tested)
      by (not_sound h) = unfold single_refused check_call in rw h (refl, refl)
      by (wrong h m) = unfold single_refused check_call in rw (h, m) (refl, refl)
      by (untimely i h m t) = unfold single_refused check_call in rw (h, m, t) (refl, refl)
      by (plays i h m t) = unfold single_done check_call in rw (h, m, t) (refl, refl)

  pub single_refused_exactly_when : SingleCodes s octets (single_call s octets).code (single_call s octets).place
  single_refused_exactly_when =
      let e = single_is_tested in
      rw (e.0, e.1)
      (call_codes _ _ _ (sound s) (known (input_at octets 0)) (stamp_in_range s.clock (stamp_at octets 0)) (λ h. h, λ h. h) (known_exactly_when (input_at octets 0)) (timely_exactly_when s.clock (stamp_at octets 0)))

-- "A refused call .. hands back the state it was given"; answer, count and records are 0, and so is the place
pub single_refusal_changes_nothing : (s : State) (octets : List ℕ) → ((single_call s octets).code ≡ 0 → ⊥) →
    single_call s octets ≡ record { state = s; code = (single_call s octets).code; place = 0; answer = 0; count = 0; records = places 3 [] }
single_refusal_changes_nothing s octets refused = by (single_finds s octets) refused
  where
    by : {r : Single} → SingleFinds s octets r → (r.code ≡ 0 → ⊥) → r ≡ record { state = s; code = r.code; place = 0; answer = 0; count = 0; records = places 3 [] }
    by (not_sound h) f = unfold single_refused in refl
    by (wrong h m) f = unfold single_refused in refl
    by (untimely i h m t) f = unfold single_refused in refl
    by (plays i h m t) f = absurd (f (unfold single_done in refl))

-- the records by value are the whole list of the step's records, then blank ones, and the count is their number
pub single_records_are_all : (s : State) (i : Input) (t : ℕ) →
    ((single_done (step s i t)).count ≡ length (step s i t).records) × ((single_done (step s i t)).records ≡ (step s i t).records ++ places (3 - length (step s i t).records) [])
unfolding single_done
single_records_are_all s i t = (refl, places_hold_all 3 (step s i t).records (an_input_writes_at_most_three s i t))

-- ---- a clock move

-- What a clock move finds: 9, 7, or it is made.
pub data MoveFinds (s : State) (stamp : ℕ) : Move → Type 0 where
  not_sound : sound s ≡ false → MoveFinds s stamp (move_refused s UnsoundState)
  untimely : sound s ≡ true → stamp_in_range s.clock stamp ≡ false → MoveFinds s stamp (move_refused s BadStamp)
  moves : sound s ≡ true → stamp_in_range s.clock stamp ≡ true → MoveFinds s stamp (move_done (clock_move s stamp))

pub move_finds : (s : State) (stamp : ℕ) → MoveFinds s stamp (move_call s stamp)
unfolding move_call
move_finds s stamp = by (sound s) (stamp_in_range s.clock stamp) refl refl
  where
    by : (b c : Bool) → sound s ≡ b → stamp_in_range s.clock stamp ≡ c → MoveFinds s stamp (cond b (cond c (move_done (clock_move s stamp)) (move_refused s BadStamp)) (move_refused s UnsoundState))
    by false c h e = MoveFinds.not_sound h
    by true false h e = MoveFinds.untimely h e
    by true true h e = moves h e

-- and the other way round: where no row fits, it is made
pub good_is_made : (s : State) (stamp : ℕ) → sound s ≡ true → stamp_in_range s.clock stamp ≡ true → move_call s stamp ≡ move_done (clock_move s stamp)
unfolding move_call
good_is_made s stamp h e = rw (h, e)

module _ (s : State) (stamp : ℕ) where
  move_is_tested : let tested : Check = check_call (sound s) true (stamp_in_range s.clock stamp) in ((move_call s stamp).code ≡ code_of tested) × ((move_call s stamp).place ≡ place_of tested)
  move_is_tested = by (move_finds s stamp)
    where
      by : {r : Move} → MoveFinds s stamp r → let tested : Check = check_call (sound s) true (stamp_in_range s.clock stamp) in (r.code ≡ code_of tested) × (r.place ≡ place_of tested)
      by (MoveFinds.not_sound h) = unfold move_refused check_call in rw h (refl, refl)
      by (MoveFinds.untimely h t) = unfold move_refused check_call in rw (h, t) (refl, refl)
      by (moves h t) = unfold move_done check_call in rw (h, t) (refl, refl)

  pub move_refused_exactly_when : MoveCodes s stamp (move_call s stamp).code (move_call s stamp).place
  move_refused_exactly_when =
      let e = move_is_tested in
      rw (e.0, e.1) (call_codes _ _ _ (sound s) true (stamp_in_range s.clock stamp) (λ h. h, λ h. h) (λ h. tt, λ h. refl) (timely_exactly_when s.clock stamp))

pub move_refusal_changes_nothing : (s : State) (stamp : ℕ) → ((move_call s stamp).code ≡ 0 → ⊥) →
    move_call s stamp ≡ record { state = s; code = (move_call s stamp).code; place = 0; count = 0; records = places 2 [] }
move_refusal_changes_nothing s stamp refused = by (move_finds s stamp) refused
  where
    by : {r : Move} → MoveFinds s stamp r → (r.code ≡ 0 → ⊥) → r ≡ record { state = s; code = r.code; place = 0; count = 0; records = places 2 [] }
    by (MoveFinds.not_sound h) f = unfold move_refused in refl
    by (MoveFinds.untimely h t) f = unfold move_refused in refl
    by (moves h t) f = absurd (f (unfold move_done in refl))

pub move_records_are_all : (s : State) (t : ℕ) →
    ((move_done (clock_move s t)).count ≡ length (clock_move s t).records) × ((move_done (clock_move s t)).records ≡ (clock_move s t).records ++ places (2 - length (clock_move s t).records) [])
unfolding move_done
move_records_are_all s t = (refl, places_hold_all 2 (clock_move s t).records (a_move_writes_at_most_two s t))

pub move_call_keeps_sound : (s : State) (stamp : ℕ) → sound s ≡ true → sound (move_call s stamp).state ≡ true
move_call_keeps_sound s stamp safe = by (move_finds s stamp)
  where
    by : {r : Move} → MoveFinds s stamp r → sound r.state ≡ true
    by (MoveFinds.not_sound h) = unfold move_refused in safe
    by (MoveFinds.untimely h t) = unfold move_refused in safe
    by (moves h t) = let e = (timely_exactly_when s.clock stamp).0 t in unfold move_done in move_is_sound s stamp safe e.0 e.1

pub single_call_keeps_sound : (s : State) (octets : List ℕ) → sound s ≡ true → sound (single_call s octets).state ≡ true
single_call_keeps_sound s octets safe = by (single_finds s octets)
  where
    by : {r : Single} → SingleFinds s octets r → sound r.state ≡ true
    by (SingleFinds.not_sound h) = unfold single_refused in safe
    by (wrong h m) = unfold single_refused in safe
    by (SingleFinds.untimely i h m t) = unfold single_refused in safe
    by (plays i h m t) =
        let e = (timely_exactly_when s.clock (stamp_at octets 0)).0 t in
        unfold single_done in
        step_is_sound s i (stamp_at octets 0) (input_number octets 0 i m) safe e.0 e.1

-- ---- the fresh state from parameters alone

-- accepted parameters give a sound state, and so does a refusal
pub fresh_call_is_sound : (octets : List ℕ) → sound (fresh_call octets).state ≡ true
unfolding fresh_call check_alone
fresh_call_is_sound octets = by (check_alone octets) refl
  where
    by : (c : Check) → check_alone octets ≡ c → sound (fresh_by octets c).state ≡ true
    by (Ok _) h = unfold fresh_by in passed_is_sound (form_alone octets) octets (alone_row octets) h
    by (Err fault) h = unfold fresh_by in own_state_is_sound

pub fresh_refused_exactly_when : (octets : List ℕ) → FreshCodes octets (fresh_call octets).code (fresh_call octets).place
unfolding fresh_call fresh_by check_alone
fresh_refused_exactly_when octets =
    let f : Form = form_alone octets in
    codes_of_a_check {Given = λ why p. FoundWhen f octets (refused_with why p)} (check_parameters f octets) (record { refused = λ why p. lowest_bad_octet f octets (refused_with why p); passed = lowest_bad_octet f octets (Ok tt) })

-- 02, [2]: "A state keeps its version .., and single inputs follow it": no call changes the parameters, and so the version, accepted or refused
pub single_call_keeps_version : (s : State) (octets : List ℕ) → (single_call s octets).state.params ≡ s.params
single_call_keeps_version s octets = by (single_finds s octets)
  where
    by : {r : Single} → SingleFinds s octets r → r.state.params ≡ s.params
    by (SingleFinds.not_sound h) = unfold single_refused in refl
    by (wrong h m) = unfold single_refused in refl
    by (SingleFinds.untimely i h m t) = unfold single_refused in refl
    by (plays i h m t) = unfold single_done in step_params s i (stamp_at octets 0)

pub move_call_keeps_version : (s : State) (stamp : ℕ) → (move_call s stamp).state.params ≡ s.params
move_call_keeps_version s stamp = by (move_finds s stamp)
  where
    by : {r : Move} → MoveFinds s stamp r → r.state.params ≡ s.params
    by (MoveFinds.not_sound h) = unfold move_refused in refl
    by (MoveFinds.untimely h t) = unfold move_refused in refl
    by (moves h t) = unfold move_done in move_params s stamp

-- "place 0", accepted or refused
pub single_place_is_zero : (s : State) (octets : List ℕ) → (single_call s octets).place ≡ 0
single_place_is_zero s octets = by (single_finds s octets)
  where
    by : {r : Single} → SingleFinds s octets r → r.place ≡ 0
    by (SingleFinds.not_sound h) = unfold single_refused in refl
    by (wrong h m) = unfold single_refused in refl
    by (SingleFinds.untimely i h m t) = unfold single_refused in refl
    by (plays i h m t) = unfold single_done in refl

pub move_place_is_zero : (s : State) (stamp : ℕ) → (move_call s stamp).place ≡ 0
move_place_is_zero s stamp = by (move_finds s stamp)
  where
    by : {r : Move} → MoveFinds s stamp r → r.place ≡ 0
    by (MoveFinds.not_sound h) = unfold move_refused in refl
    by (MoveFinds.untimely h t) = unfold move_refused in refl
    by (moves h t) = unfold move_done in refl
