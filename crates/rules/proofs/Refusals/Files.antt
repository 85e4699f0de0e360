-- What a cue file is refused for, exactly; and what an accepted one says.
use Rattle.std.specs.Prelude.{Option, Some, None, Ok, Err, slice_get}
use Prim.Native.Nat.{ℕ, suc, ◌+◌, ◌*◌, ◌≤◌, ◌<◌}
use mathlib.Core.Bool.{Bool, true, false, cond, ◌&&◌}
use mathlib.Core.List.{List}
use mathlib.Core.Logic.{◌↔◌, inl, inr, ⊎_elim}
use mathlib.Core.Path.{◌≡◌, refl, sym, ◌∙◌, ap}
use native.Mathlib.Omega.{arith}
use lib.ListN.{length, drop, length-take, length-drop}
use lib.Seq.{get_or-take, get_or-drop}
use Rattle.octets.specs.BigEndian.{octet}
use lib.Dec.{eqb, leb}
use borrow.Author.Tests.{leb-true, leb-false, eqb-true, eqb-false, le-leb, lt-leb, eq-eqb, ne_eqb}
use Rattle.rules.specs.declared.input.Input.{Input}
use Rattle.base.specs.declared.refusal.Refusal.{Refusal}
use Rattle.base.specs.declared.refusal.Refusal.TheVariants.{WrongLength, WrongVersion, WrongActuators, WrongLayout, BadParameter}
use Rattle.base.specs.Time.{last_stamp}
use Rattle.base.specs.Refusals.{Decides, Check, refused_with}
use Rattle.rules.specs.Inputs.{input_at}
use Rattle.octets.specs.Groups.{stamp_at}
use Rattle.rules.specs.Lists.{Cue, cue}
use Rattle.rules.specs.Parameters.{check_parameters}
use Rattle.rules.specs.Layout.{parameters_size, form_alone, inputs_at, input_place, file_size}
use Rattle.rules.specs.Readings.{cues, bad, verdict, found, read_inputs}
use Rattle.rules.specs.Forms.{is_version, version, form_in, HasVersion}
use Rattle.rules.specs.Files.{actuators, parameters_offset, input_count, inputs_offset, end_time, parameters_in, layout_right, check_rest, check_start, inputs_in, stamped, cue_at, cues_read, read_file}
use Rattle.rules.specs.Refusals.{LongEnough, FoundBy, FoundWhen, GoodLayout, GoodHeader, GoodStart, StartWhen, GivenWhen, GoodFile}
use Rattle.base.proofs.Tests.{no, both, cond_case, either_way}
use Rattle.base.proofs.Codes.{then_decides}
use Rattle.rules.proofs.Refusals.Readings.{verdict_after, bad_read, good_read, FirstOf, first_of, inputs_decide, list_is_the_inputs}
use Rattle.rules.proofs.Laws.Forms.{has_version, told_by_size}
use Rattle.rules.proofs.Laws.Parameters.{lowest_bad_octet}

-- ---- the tests of the header

-- the test of the layout holds exactly when the layout is good
pub layout_true : (file : List ℕ) → layout_right file ≡ true → GoodLayout file
unfolding layout_right
layout_true file h =
    let e = both ((eqb (parameters_offset file) 20 && leb (input_count file) 2048) && (eqb (inputs_offset file) (inputs_at (form_in file)) && leb (end_time file) last_stamp)) _ h in
    let f = both (eqb (parameters_offset file) 20 && leb (input_count file) 2048) _ e.0 in
    let g = both (eqb (parameters_offset file) 20) _ f.0 in
    let k = both (eqb (inputs_offset file) (inputs_at (form_in file))) _ f.1 in
    record {
      parameters = eqb-true _ _ g.0;
      few = leb-true _ _ g.1;
      inputs = eqb-true _ _ k.0;
      end = leb-true _ _ k.1;
      whole = eqb-true _ _ e.1;
    }

pub layout_good : (file : List ℕ) → GoodLayout file → layout_right file ≡ true
unfolding layout_right
layout_good file g =
    simp (
      eq-eqb (parameters_offset file) 20 g.parameters,
      le-leb (input_count file) 2048 g.few,
      eq-eqb (inputs_offset file) (inputs_at (form_in file)) g.inputs,
      le-leb (end_time file) 864_000 g.end,
      eq-eqb (length file) (file_size (form_in file) (input_count file)) g.whole,
    )

-- and fails exactly when it is not
pub layout_false : (file : List ℕ) → (GoodLayout file → ⊥) → layout_right file ≡ false
layout_false file other = by (layout_right file) refl
  where
    by : (b : Bool) → layout_right file ≡ b → b ≡ false
    by true e = absurd (other (layout_true file e))
    by false e = refl

-- each test of the header decides one row
module _ (file : List ℕ) where
  pub short_file : length file < 52 → check_start file ≡ refused_with WrongLength 0
  unfolding check_start
  short_file short = simp (lt-leb 52 (length file) short)

  no_version : (HasVersion (version file) → ⊥) → is_version (version file) ≡ false
  no_version other = by (is_version (version file)) refl
    where
      by : (b : Bool) → is_version (version file) ≡ b → b ≡ false
      by true e = absurd (other ((has_version (version file)).0 e))
      by false e = refl

  pub other_version : 52 ≤ length file → (HasVersion (version file) → ⊥) → check_start file ≡ refused_with WrongVersion 0
  unfolding check_start
  other_version least other = simp (le-leb 52 (length file) least, no_version other)

  -- a file of either version that is shorter than its own parameters
  pub short_of_version : HasVersion (version file) → length file < inputs_at (form_in file) → check_start file ≡ refused_with WrongLength 0
  unfolding check_start check_rest
  short_of_version known short =
      either_way (λ (c : Check). c ≡ refused_with WrongLength 0) (leb 52 (length file)) _ (refused_with WrongLength 0)
      (simp ((has_version (version file)).1 known, lt-leb (inputs_at (form_in file)) (length file) short))
      refl

  -- from there on
  past_length : LongEnough file → check_start file ≡ cond (eqb (actuators file) 1) (cond (layout_right file) (check_parameters (form_in file) (parameters_in file)) (refused_with WrongLayout 0)) (refused_with WrongActuators 0)
  unfolding check_start check_rest
  past_length e = simp (le-leb 52 (length file) e.least, (has_version (version file)).1 e.version, le-leb (inputs_at (form_in file)) (length file) e.long)

  pub other_actuators : LongEnough file → (actuators file ≡ 1 → ⊥) → check_start file ≡ refused_with WrongActuators 0
  other_actuators enough other = past_length enough ∙ simp (ne_eqb (actuators file) 1 other)

  pub other_layout : LongEnough file → actuators file ≡ 1 → layout_right file ≡ false → check_start file ≡ refused_with WrongLayout 0
  other_layout enough single other = past_length enough ∙ simp (eq-eqb (actuators file) 1 single, other)

  pub good_header : GoodHeader file → check_start file ≡ check_parameters (form_in file) (parameters_in file)
  good_header h = past_length h.enough ∙ simp (eq-eqb (actuators file) 1 h.actuators, layout_good file h.layout)

  pub good_start_passes : GoodStart file → check_start file ≡ Ok tt
  good_start_passes s = good_header s.header ∙ s.passed

  pub good_start : GoodStart file → read_file file ≡ cues_read file
  unfolding read_file
  good_start s = rw (good_start_passes s)

  -- a good start leaves the verdict to the inputs, a bad one decides it
  pub file_passes : GoodStart file → verdict (read_file file) ≡ verdict (cues_read file)
  file_passes s = ap verdict (good_start s)

  pub file_stops : (why : Refusal) (place : ℕ) → check_start file ≡ refused_with why place → verdict (read_file file) ≡ refused_with why place
  unfolding read_file
  file_stops why place e = rw e

-- in a file that is long enough the parameters are never of a wrong length
pub parameters_whole : (file : List ℕ) → inputs_at (form_in file) ≤ length file → length (parameters_in file) ≡ parameters_size (form_in file)
unfolding parameters_in
parameters_whole file long = length-take (parameters_size (form_in file)) (drop 20 file) ∙ omega (arith, length-drop 20 file)

-- and told by their octets alone they have the file's own row
pub told_in_a_file : (file : List ℕ) → inputs_at (form_in file) ≤ length file → form_alone (parameters_in file) ≡ form_in file
told_in_a_file file long = unfold form_in in told_by_size (version file) (parameters_in file) (parameters_whole file long)

-- "The file is exactly 52+8n octets.": its inputs are 8n of them
pub inputs_whole : (file : List ℕ) → GoodLayout file → length (inputs_in file) ≡ 8 * input_count file
unfolding inputs_in
inputs_whole file layout = length-drop (inputs_at (form_in file)) file ∙ omega (arith, layout.whole)

-- ---- what stands before the inputs

-- what its check says about a file
abbrev Begins : List ℕ → Check → Type 0
Begins file (Ok _) = GoodStart file
Begins file (Err fault) = StartWhen file fault.why fault.place

-- the tests of the header in their order, then the parameters
begins : (file : List ℕ) → Begins file (check_start file)
unfolding check_start check_rest
begins file =
    cond_case (Begins file) (leb 52 (length file)) _ (refused_with WrongLength 0)
    (λ least. cond_case (Begins file) (is_version (version file)) _ (refused_with WrongVersion 0)
    (λ known. cond_case (Begins file) (leb (inputs_at (form_in file)) (length file)) _ (refused_with WrongLength 0)
    (λ long. from (record { least = leb-true _ _ least; version = (has_version (version file)).0 known; long = leb-true _ _ long }))
    (λ short. (refl, inr ((has_version (version file)).0 known, leb-false _ _ short))))
    (λ other. (refl, leb-true _ _ least, λ known. no (sym other ∙ (has_version (version file)).1 known))))
    (λ short. (refl, inl (leb-false _ _ short)))
  where
    by : GoodHeader file → (c : Check) → check_parameters (form_in file) (parameters_in file) ≡ c → Begins file c
    by header (Ok _) e = record { header = header; passed = e }
    by header (Err fault) e = refused fault.why ((lowest_bad_octet (form_in file) (parameters_in file) (Err fault)).0 e)
      where
        refused : (why : Refusal) → FoundBy (form_in file) (parameters_in file) why fault.place → StartWhen file why fault.place
        refused WrongLength g = absurd (g.1 (parameters_whole file header.enough.long))
        refused BadParameter g = (header, g)
        refused _ g = elim g [ ]

    from : LongEnough file → Begins file (cond (eqb (actuators file) 1) (cond (layout_right file) (check_parameters (form_in file) (parameters_in file)) (refused_with WrongLayout 0)) (refused_with WrongActuators 0))
    from enough =
        cond_case (Begins file) (eqb (actuators file) 1) _ (refused_with WrongActuators 0)
        (λ single. cond_case (Begins file) (layout_right file) _ (refused_with WrongLayout 0)
        (λ right. by (record { enough = enough; actuators = eqb-true _ _ single; layout = layout_true file right }) (check_parameters (form_in file) (parameters_in file)) refl)
        (λ other. (refl, enough, eqb-true _ _ single, λ good. no (sym other ∙ layout_good file good))))
        (λ other. (refl, enough, eqb-false _ _ other))

pub start_decides : (file : List ℕ) → Decides (StartWhen file) (GoodStart file) (check_start file)
start_decides file =
    record {
      refused = λ why p. (λ e. rw e at (begins file), by why p);
      passed = (λ e. rw e at (begins file), good_start_passes file);
    }
  where
    by : (why : Refusal) (p : ℕ) → StartWhen file why p → check_start file ≡ refused_with why p
    by WrongLength p g = ⊎_elim (short_file file) (λ own. short_of_version file own.0 own.1) g.1 ∙ rw g.0
    by WrongVersion p g = other_version file g.1 g.2 ∙ rw g.0
    by WrongActuators p g = other_actuators file g.1 g.2 ∙ rw g.0
    by WrongLayout p g = other_layout file g.1 g.2 (layout_false file g.3) ∙ rw g.0
    by BadParameter p g = good_header file g.0 ∙ (lowest_bad_octet (form_in file) (parameters_in file) (refused_with BadParameter p)).1 g.1
    by _ p g = elim g [ ]

-- ---- the whole file

-- Refusal numbers 1 to 7: given exactly when the table says, for every octet string, and no other is ever given.
pub file_decides : (file : List ℕ) → Decides (GivenWhen file) (GoodFile file) (verdict (read_file file))
unfolding read_file
file_decides file =
    let parts = then_decides _ _ (start_decides file) (inputs_decide (cue_at (inputs_in file)) (inputs_in file) (input_count file) 0 (end_time file)) in
    let both_parts = rw (← verdict_after (check_start file) (cues_read file)) at parts in
    record {
      refused = both_parts.refused;
      passed = (λ e. let g = both_parts.passed.0 e in record { start = g.0; good = g.1 }, λ g. both_parts.passed.1 (g.start, g.good));
    }

pub refused_exactly_when : (file : List ℕ) (why : Refusal) (place : ℕ) → (read_file file ≡ bad why place) ↔ GivenWhen file why place
refused_exactly_when file why place = (
  λ e. ((file_decides file).refused why place).0 (ap verdict e),
  λ g. bad_read (read_file file) why place (((file_decides file).refused why place).1 g),
)

-- a file is accepted exactly when no row of the table holds
pub good_file : (file : List ℕ) (list : List Cue) → read_file file ≡ cues list → GoodFile file
good_file file list e = (file_decides file).passed.0 (ap verdict e)

pub accepted_exactly_when : (file : List ℕ) → ((list : List Cue) × (read_file file ≡ cues list)) ↔ GoodFile file
accepted_exactly_when file = (λ r. good_file file r.0 r.1, λ g. let e = (file_decides file).passed.1 g in (found (read_file file), good_read (read_file file) e))

-- the cues are the inputs of the file, as many and in their order, each with its own stamp
pub cues_are_the_octets : (file : List ℕ) (list : List Cue) → read_file file ≡ cues list → (length list ≡ input_count file) × ((j : ℕ) → j < input_count file → slice_get list j ≡ cue_at (inputs_in file) j)
cues_are_the_octets file list e = list_is_the_inputs (cue_at (inputs_in file)) (inputs_in file) (input_count file) 0 (end_time file) list (sym (good_start file (good_file file list e).start) ∙ e)

-- what a cue of a list is made of
cue_said : (inputs : List ℕ) (i : ℕ) (c : Cue) → cue_at inputs i ≡ Some c → (x : Input) × (input_at inputs (input_place i) ≡ Some x) × (c ≡ cue (stamp_at inputs (input_place i)) x)
unfolding cue_at
cue_said inputs i c e = by (input_at inputs (input_place i)) refl e
  where
    by : (d : Option Input) → input_at inputs (input_place i) ≡ d → stamped (stamp_at inputs (input_place i)) d ≡ Some c → (x : Input) × (input_at inputs (input_place i) ≡ Some x) × (c ≡ cue (stamp_at inputs (input_place i)) x)
    by (Some x) m e = (x, m, cc)
    by None m e = absurd (let z : ◌≡◌ {A = ℕ} 0 1 = cc in omega arith)

-- the first cue of a list that is read without fault
pub first_cue_lem : (inputs : List ℕ) (left i last end : ℕ) (list : List Cue) → read_inputs (cue_at inputs) inputs (suc left) i last end ≡ cues list →
    FirstOf (cue_at inputs) (λ x. input_at inputs (input_place i) ≡ Some x) (λ x. cue (stamp_at inputs (input_place i)) x) inputs left i last end list
first_cue_lem inputs left i last end list e = first_of (cue_at inputs) _ _ inputs left i last end list (cue_said inputs i) e

-- "offset of parameters (20)": they are the octets from there on
pub parameters_stand_at_20 : (file : List ℕ) (j : ℕ) → j < parameters_size (form_in file) → octet (parameters_in file) j ≡ octet file (20 + j)
unfolding parameters_in
parameters_stand_at_20 file j within = get_or-take (parameters_size (form_in file)) (drop 20 file) j 0 within ∙ get_or-drop 20 file j 0
