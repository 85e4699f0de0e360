-- A whole scene change: what reading its inputs finds decides what it plays, and what it is refused for.
use Rattle.std.specs.Prelude.{Option, Some, None, Ok, Err}
use Prim.Native.Nat.{ℕ, zero, suc, ◌+◌, ◌*◌, ◌/◌, ◌%◌, ◌<◌, ◌≤◌}
use mathlib.Core.Bool.{Bool, true, false, cond, ◌&&◌}
use mathlib.Core.List.{List, [], ◌∷◌}
use mathlib.Core.Logic.{◌↔◌}
use mathlib.Core.Path.{◌≡◌, refl, ap, ◌∙◌}
use native.Mathlib.Omega.{arith}
use lib.ListN.{length, take, drop}
use lib.Seq.{get_or-take, get_or-drop, drop-drop}
use lib.Dec.{eqb, leb}
use borrow.Author.Tests.{eqb-true, leb-true, eq-eqb, le-leb, ne_eqb}
use Rattle.octets.specs.BigEndian.{octet}
use Rattle.octets.specs.Groups.{stamp_at}
use Rattle.base.specs.declared.refusal.Refusal.{Refusal}
use Rattle.base.specs.declared.refusal.Refusal.TheVariants.{BadInput, BadStamp, ShortBuffer, UnsoundState, WrongGroups}
use Rattle.base.specs.Time.{last_stamp}
use Rattle.base.specs.Refusals.{number, code_of, place_of, stamp_in_range, if_not, or_else, Decides, Only, Check}
use Rattle.base.proofs.Tests.{both}
use Rattle.base.proofs.Codes.{some_number, codes_of_a_check, one_test_decides, then_decides}
use Rattle.rules.specs.declared.input.Input.{Input}
use Rattle.rules.specs.declared.state.State.{State}
use Rattle.rules.specs.declared.call.Single.{Single}
use Rattle.rules.specs.Layout.{input_place}
use Rattle.rules.specs.Inputs.{input_at}
use Rattle.rules.specs.Steps.{Stepped, step}
use Rattle.rules.specs.Lists.{Cue, cue, Played, stepped, plays}
use Rattle.rules.specs.Calls.{single_done, single_refused, single_meant, single_call}
use Rattle.rules.specs.Readings as readings
use Rattle.rules.specs.Readings.{Reading, cues, bad, verdict, read_one, read_inputs}
use Rattle.rules.specs.Files.{stamped, cue_at, lent_for}
use Rattle.rules.specs.Runs.{Whole}
use Rattle.rules.specs.Soundness.{sound}
use Rattle.rules.specs.Changes.{groups, group_count, groups_in, Singles, single_played, then_others, stopped, goes_on, singles, groups_fit, check_lent, check_change, changed, change_by, change_call}
use Rattle.rules.specs.Refusals.{GoodGroups, RoomFor, ChangeCodes}
use Rattle.rules.proofs.Laws.Inputs.{input_number}
use Rattle.rules.proofs.Laws.Soundness.{step_is_sound, step_clock}
use Rattle.rules.proofs.Laws.Records.{an_input_writes_at_most_three, used_places}
use Rattle.rules.proofs.Refusals.Calls.{good_is_played}
use Rattle.rules.proofs.Refusals.Readings.{inputs_decide}
use Rattle.rules.proofs.Refusals.Files.{first_cue_lem}
use Rattle.rules.proofs.Refusals.Runs.{room_exactly_when}

-- ---- one group

-- the eight octets of the group at index i
abbrev pub group_at : List ℕ → ℕ → List ℕ
group_at inputs i = take 8 (drop (input_place i) inputs)

-- the groups from there on: this one, then the others
pub groups_next : (inputs : List ℕ) (n i : ℕ) → groups (suc n) (drop (input_place i) inputs) ≡ group_at inputs i ∷ groups n (drop (input_place (i + 1)) inputs)
unfolding groups
groups_next inputs n i = let e : 8 * i + 8 ≡ 8 * (i + 1) = omega arith in rw (drop-drop 8 (input_place i) inputs, e) refl

module _ (inputs : List ℕ) (i : ℕ) where
  -- it says what the inputs say at its place
  pub group_octet : (j : ℕ) → j < 8 → octet (group_at inputs i) j ≡ octet inputs (input_place i + j)
  group_octet j h = get_or-take 8 (drop (input_place i) inputs) j 0 h ∙ get_or-drop (input_place i) inputs j 0

  pub group_stamp : stamp_at (group_at inputs i) 0 ≡ stamp_at inputs (input_place i)
  unfolding stamp_at
  group_stamp =
      let e3 : input_place i + 3 ≡ input_place i + 2 + 1 = omega arith in
      let e0 : input_place i + 0 ≡ input_place i = omega arith in
      rw (group_octet 0 (omega arith), group_octet 1 (omega arith), group_octet 2 (omega arith), group_octet 3 (omega arith), e3, e0)

  pub group_input : input_at (group_at inputs i) 0 ≡ input_at inputs (input_place i)
  unfolding input_at
  group_input = rw (group_octet 4 (omega arith), group_octet 5 (omega arith), group_octet 6 (omega arith), group_octet 7 (omega arith))

  -- as a single input to a sound state: 6, 7, or it is played
  module _ (s : State) (safe : sound s ≡ true) where
    abbrev t : ℕ
    t = stamp_at inputs (input_place i)

    a_wrong_group : input_at inputs (input_place i) ≡ None → single_call s (group_at inputs i) ≡ single_refused s BadInput
    unfolding single_call single_meant
    a_wrong_group e = rw (safe, group_input, e)

    an_untimely_group : (x : Input) → input_at inputs (input_place i) ≡ Some x → stamp_in_range s.clock t ≡ false → single_call s (group_at inputs i) ≡ single_refused s BadStamp
    unfolding single_call single_meant
    an_untimely_group x e late = rw (safe, group_input, e, group_stamp, late)

    pub a_good_group : (x : Input) → input_at inputs (input_place i) ≡ Some x → stamp_in_range s.clock t ≡ true → single_call s (group_at inputs i) ≡ single_done (step s x t)
    a_good_group x e timely = good_is_played s (group_at inputs i) x safe (group_input ∙ e) (rw group_stamp timely) ∙ rw group_stamp

-- a refused one ends the change
refused_ends : (s : State) (why : Refusal) (i : ℕ) (others : State → Singles) → goes_on (single_refused s why) i others ≡ stopped s (number why) i
unfolding goes_on single_refused
refused_ends s why i others = simp (ne_eqb (number why) 0 (λ e. omega (arith, some_number why, e)))

-- what one gives by value is what its step gives
pub step_played : (s : State) (x : Input) (t : ℕ) → single_played (single_done (step s x t)) ≡ stepped (step s x t)
unfolding single_done
step_played s x t = rw (used_places 3 (step s x t).records (an_input_writes_at_most_three s x t))

accepted_goes_on : (r : Single) (i : ℕ) (others : State → Singles) → r.code ≡ 0 → goes_on r i others ≡ then_others (single_played r) others
unfolding goes_on
accepted_goes_on r i others e = simp e

done_goes_on : (s : State) (x : Input) (u i : ℕ) (others : State → Singles) → goes_on (single_done (step s x u)) i others ≡ then_others (stepped (step s x u)) others
done_goes_on s x u i others =
    accepted_goes_on (single_done (step s x u)) i others (unfold single_done in refl) ∙ ap (λ (a : Played). then_others a others) (step_played s x u)

-- ---- all of them

-- a list was played, and then one was refused, or none
abbrev pub ends : Played → ℕ → ℕ → Singles
ends a code place = record { played = a; code = code; place = place }

-- what a reading from index i on says of the singles: they are all played, or those before the bad one are, and it is refused
abbrev As : List ℕ → ℕ → State → Reading Cue → Singles → Type 0
As inputs i s (cues list) c = c ≡ ends (plays list s) 0 0
As inputs i s (bad why place) c =
    (m : ℕ) × (list : List Cue) × (place ≡ i + m) × (read_inputs (cue_at inputs) inputs m i s.clock last_stamp ≡ cues list) × (c ≡ ends (plays list s) (number why) place)

in_range : (clock t : ℕ) → stamp_in_range clock t ≡ true → (leb clock t && leb t last_stamp) ≡ true
unfolding stamp_in_range
in_range clock t e = e

-- a good input is read before those after it
read_more : (inputs : List ℕ) (m i clock : ℕ) (x : Input) (list : List Cue) → let u : ℕ = stamp_at inputs (input_place i) in
    input_at inputs (input_place i) ≡ Some x → stamp_in_range clock u ≡ true → read_inputs (cue_at inputs) inputs m (i + 1) u last_stamp ≡ cues list →
    read_inputs (cue_at inputs) inputs (suc m) i clock last_stamp ≡ cues (cue u x ∷ list)
unfolding read_inputs read_one cue_at
read_more inputs m i clock x list means timely read = rw (means, in_range clock (stamp_at inputs (input_place i)) timely, read) refl

-- an input that is played comes before what is said of the others
one_more : (inputs : List ℕ) (i : ℕ) (s : State) (x : Input) → let u : ℕ = stamp_at inputs (input_place i) in let d : Stepped = step s x u in
    input_at inputs (input_place i) ≡ Some x → stamp_in_range s.clock u ≡ true → (r : Reading Cue) (others : State → Singles) → As inputs (i + 1) d.state r (others d.state) →
    As inputs i s (readings.before (cue u x) r) (then_others (stepped d) others)
unfolding plays
one_more inputs i s x means timely (cues list) others said = rw said refl
one_more inputs i s x means timely (bad why place) others (m, list, at, read, said) =
    let u : ℕ = stamp_at inputs (input_place i) in
    (suc m, cue u x ∷ list, omega (arith, at), read_more inputs m i s.clock x list means timely (rw (step_clock s x u) at read), rw said refl)

-- the input at index i, where the others are known to come to what reading finds
module _ (inputs : List ℕ) (left i : ℕ) (s : State) (safe : sound s ≡ true) where
  abbrev stamp : ℕ
  stamp = stamp_at inputs (input_place i)

  abbrev others : State → Singles
  others = singles (i + 1) (groups left (drop (input_place (i + 1)) inputs))

  abbrev later : Reading Cue
  later = read_inputs (cue_at inputs) inputs left (i + 1) stamp last_stamp

  abbrev Next : Type 0
  Next = (u : State) → sound u ≡ true → As inputs (i + 1) u (read_inputs (cue_at inputs) inputs left (i + 1) u.clock last_stamp) (others u)

  refused : (why : Refusal) → single_call s (group_at inputs i) ≡ single_refused s why → As inputs i s (bad why i) (goes_on (single_call s (group_at inputs i)) i others)
  unfolding read_inputs plays
  refused why e = (0, [], omega arith, refl, rw e (refused_ends s why i others))

  timed : Next → (x : Input) (b : Bool) → input_at inputs (input_place i) ≡ Some x → stamp_in_range s.clock stamp ≡ b →
      As inputs i s (cond b (readings.before (cue stamp x) later) (bad BadStamp i)) (goes_on (single_call s (group_at inputs i)) i others)
  timed next x false m e = refused BadStamp (an_untimely_group inputs i s safe x m e)
  timed next x true m e =
      let in_time = both (leb s.clock stamp) (leb stamp last_stamp) (in_range s.clock stamp e) in
      let safely = step_is_sound s x stamp (input_number inputs (input_place i) x m) safe (leb-true _ _ in_time.0) (leb-true _ _ in_time.1) in
      let rest = rw (step_clock s x stamp) at (next (step s x stamp).state safely) in
      rw (a_good_group inputs i s safe x m e, done_goes_on s x stamp i others) (one_more inputs i s x m e later others rest)

  known : Next → (d : Option Input) → input_at inputs (input_place i) ≡ d → As inputs i s (read_one (stamped stamp d) stamp s.clock last_stamp i later) (goes_on (single_call s (group_at inputs i)) i others)
  unfolding read_one stamp_in_range
  known next None m = refused BadInput (a_wrong_group inputs i s safe m)
  known next (Some x) m = timed next x (stamp_in_range s.clock stamp) m refl

  one_as_read : Next → As inputs i s (read_inputs (cue_at inputs) inputs (suc left) i s.clock last_stamp) (singles i (groups (suc left) (drop (input_place i) inputs)) s)
  unfolding read_inputs cue_at singles
  one_as_read next = rw (groups_next inputs left i) (known next (input_at inputs (input_place i)) refl)

-- what reading finds, from index i on, the single inputs come to
singles_as_read : (inputs : List ℕ) (left i : ℕ) (s : State) → sound s ≡ true →
    As inputs i s (read_inputs (cue_at inputs) inputs left i s.clock last_stamp) (singles i (groups left (drop (input_place i) inputs)) s)
unfolding read_inputs groups singles plays
singles_as_read inputs zero i s safe = refl
singles_as_read inputs (suc left) i s safe = one_as_read inputs left i s safe (λ u h. singles_as_read inputs left (i + 1) u h)

-- ---- where playing leads

-- a list that is read without fault up to an end leads from a sound state to a sound one, whose clock is not after that end
pub read_leads_on : (inputs : List ℕ) (left i end : ℕ) (s : State) (list : List Cue) → end ≤ last_stamp → sound s ≡ true → s.clock ≤ end → read_inputs (cue_at inputs) inputs left i s.clock end ≡ cues list →
    (sound (plays list s).state ≡ true) × ((plays list s).state.clock ≤ end)
unfolding plays
read_leads_on inputs zero i end s list timely safe early read = let none : list ≡ [] = unfold read_inputs in cc in rw none (safe, early)
read_leads_on inputs (suc left) i end s list timely safe early read =
    let f = first_cue_lem inputs left i s.clock end list read in
    let u : ℕ = stamp_at inputs (input_place i) in
    let clock = step_clock s f.input u in
    let safely = step_is_sound s f.input u (input_number inputs (input_place i) f.input f.meant) safe f.risen (omega (arith, f.timely, timely)) in
    rw f.starts (read_leads_on inputs left (i + 1) end (step s f.input u).state f.later timely safely (rw clock f.timely) (rw clock f.reads))

-- ---- the call

-- what reading the first n of its groups finds
unfoldable pub change_read : State → List ℕ → ℕ → Reading Cue
change_read s inputs n = read_inputs (cue_at inputs) inputs n 0 s.clock last_stamp

-- all of them are played, or those before the refused one
module _ (s : State) (inputs : List ℕ) (safe : sound s ≡ true) where
  pub all_are_played : (list : List Cue) → change_read s inputs (group_count inputs) ≡ cues list → singles 0 (groups_in inputs) s ≡ ends (plays list s) 0 0
  unfolding change_read groups_in
  all_are_played list e = rw e at (singles_as_read inputs (group_count inputs) 0 s safe)

  pub played_up_to : (why : Refusal) (place : ℕ) → change_read s inputs (group_count inputs) ≡ bad why place →
      (list : List Cue) × (change_read s inputs place ≡ cues list) × (singles 0 (groups_in inputs) s ≡ ends (plays list s) (number why) place)
  unfolding change_read groups_in
  played_up_to why place e =
      let (m, list, at, read, said) = rw e at (singles_as_read inputs (group_count inputs) 0 s safe) in
      let same : m ≡ place = omega (arith, at) in
      (list, rw same at read, said)

pub groups_exactly_when : (inputs : List ℕ) → (groups_fit inputs ≡ true) ↔ GoodGroups inputs
unfolding groups_fit
groups_exactly_when inputs = (
  λ h. let e = both (eqb (length inputs % 8) 0) _ h in record { whole = eqb-true _ _ e.0; few = leb-true _ _ e.1 },
  λ g. simp (eq-eqb (length inputs % 8) 0 g.whole, le-leb (length inputs / 8) 256 g.few),
)

module _ (s : State) (inputs records answers : List ℕ) where
  -- what it is refused for: 9, 12 and 8, then what is met
  abbrev met : Check
  met = or_else (check_change s inputs records answers) (verdict (change_read s inputs (group_count inputs)))

  abbrev n : ℕ
  n = group_count inputs

  safe_decides : Decides (Only UnsoundState 0 (sound s ≡ true → ⊥)) (sound s ≡ true) (if_not (sound s) UnsoundState)
  safe_decides = one_test_decides (sound s ≡ true) (sound s) UnsoundState 0 (λ h. h, λ h. h)

  groups_decide : Decides (Only WrongGroups 0 (GoodGroups inputs → ⊥)) (GoodGroups inputs) (if_not (groups_fit inputs) WrongGroups)
  groups_decide = one_test_decides (GoodGroups inputs) (groups_fit inputs) WrongGroups 0 (groups_exactly_when inputs)

  room_decides : Decides (Only ShortBuffer 0 (RoomFor n records answers → ⊥)) (RoomFor n records answers) (if_not (lent_for n records answers) ShortBuffer)
  room_decides = one_test_decides (RoomFor n records answers) (lent_for n records answers) ShortBuffer 0 (room_exactly_when n records answers)

  -- inputs are looked at exactly where none of the three is given
  pub looked_at_exactly_when : (check_change s inputs records answers ≡ Ok tt) ↔ ((sound s ≡ true) × (GoodGroups inputs × RoomFor n records answers))
  unfolding check_change check_lent
  looked_at_exactly_when = (then_decides _ _ safe_decides (then_decides _ _ groups_decide room_decides)).passed

  change_is_met : ((change_call s inputs records answers).report.code ≡ code_of met) × ((change_call s inputs records answers).report.place ≡ place_of met)
  unfolding change_call changed
  change_is_met = by (check_change s inputs records answers) (change_read s inputs (group_count inputs)) refl refl
    where
      by : (c : Check) (r : Reading Cue) → check_change s inputs records answers ≡ c → change_read s inputs (group_count inputs) ≡ r →
          let w : Whole = change_by c s inputs records answers in
          (w.report.code ≡ code_of (or_else c (verdict r))) × (w.report.place ≡ place_of (or_else c (verdict r)))
      by (Err fault) r h e = unfold change_by in (refl, refl)
      by (Ok _) (cues list) h e = unfold change_by changed in rw (all_are_played s inputs (looked_at_exactly_when.0 h).0 list e) (refl, refl)
      by (Ok _) (bad why place) h e = unfold change_by changed in rw (played_up_to s inputs (looked_at_exactly_when.0 h).0 why place e).2 (refl, refl)

  -- "Given exactly when", of a change
  pub change_refused_exactly_when : ChangeCodes s inputs records answers (change_call s inputs records answers).report.code (change_call s inputs records answers).report.place
  unfolding change_read check_change check_lent
  change_refused_exactly_when =
      let e = change_is_met in
      let each = inputs_decide (cue_at inputs) inputs n s.clock last_stamp in
      rw (e.0, e.1) (codes_of_a_check met (rw (in_turn _ _ _ _) (then_decides _ _ safe_decides (then_decides _ _ groups_decide (then_decides _ _ room_decides each)))))
    where
      in_turn : (a b c d : Check) → or_else (or_else a (or_else b c)) d ≡ or_else a (or_else b (or_else c d))
      in_turn (Err fault) b c d = refl
      in_turn (Ok _) (Err fault) c d = refl
      in_turn (Ok _) (Ok _) c d = refl
