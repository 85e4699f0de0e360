-- One input of a list at a time: what the check's loop needs, and that it finds what reading the list finds.
use Rattle.rules.specs.declared.input.Input.{Input}
use Rattle.std.specs.Prelude.{Some, None, Ok, Option}
use Prim.Native.Nat.{ℕ, zero, suc, ◌+◌, ◌-◌, ◌≤◌, ◌<◌}
use mathlib.Core.Bool.{Bool, true, false, cond, ◌&&◌, ◌||◌}
use mathlib.Core.List.{List}
use mathlib.Core.Path.{◌≡◌, refl, sym, ap, ◌∙◌}
use native.Mathlib.Omega.{arith}
use lib.Dec.{leb}
use Rattle.octets.specs.Groups.{stamp_at}
use Rattle.base.specs.declared.refusal.Refusal.TheVariants.{BadStamp}
use Rattle.base.specs.Refusals.{or_else, refused_with}
use Rattle.rules.specs.Inputs.{input_at}
use Rattle.rules.specs.Layout.{input_place}
use Rattle.rules.specs.Readings.{Reading, cues, bad, verdict, before, read_one, read_inputs}
use Rattle.rules.specs.Files.{input_count, end_time, inputs_in, check_start, stamped, cue_at, cues_read, read_file}
use Rattle.rules.proofs.Refusals.Readings.{verdict_after}
use Rattle.inputs.specs.Meaning.{is_meant}
use Rattle.sensor.specs.Signals.{signal_at}
use Rattle.cues.specs.Checks.{check_one, check_inputs, is_edge, is_known, known_at}

-- ---- reading and checking

-- whether an input says anything
abbrev pub says : {A : Type 0} → Option A → Bool
says (Some x) = true
says None = false

-- an input decides by itself, or leaves it to those after it
one_decides : {A : Type 0} (said : Option A) (stamp last end i : ℕ) (later : Reading A) → verdict (read_one said stamp last end i later) ≡ or_else (check_one (says said) stamp last end i) (verdict later)
unfolding check_one read_one
one_decides None stamp last end i later = refl
one_decides (Some x) stamp last end i later = by (leb last stamp && leb stamp end) later
  where
    by : (b : Bool) (later : Reading _) → verdict (cond b (before x later) (bad BadStamp i)) ≡ or_else (cond b (Ok tt) (refused_with BadStamp i)) (verdict later)
    by true (cues list) = refl
    by true (bad why place) = refl
    by false later = refl

-- so the check finds what reading finds, where it knows what says something
pub checked_as_read : {A : Type 0} (at : ℕ → Option A) (known : ℕ → Bool) → ((i : ℕ) → known i ≡ says (at i)) → (inputs : List ℕ) (left i last end : ℕ) →
    check_inputs known inputs left i last end ≡ verdict (read_inputs at inputs left i last end)
unfolding check_inputs read_inputs
checked_as_read at known same inputs zero i last end = refl
checked_as_read at known same inputs (suc left) i last end =
    ap (λ (b : Bool). or_else (check_one b (stamp_at inputs (input_place i)) last end i) (check_inputs known inputs left (i + 1) (stamp_at inputs (input_place i)) end)) (same i)
    ∙ ap (or_else (check_one (says (at i)) (stamp_at inputs (input_place i)) last end i)) (checked_as_read at known same inputs left (i + 1) (stamp_at inputs (input_place i)) end)
    ∙ sym (one_decides (at i) (stamp_at inputs (input_place i)) last end i (read_inputs at inputs left (i + 1) (stamp_at inputs (input_place i)) end))

-- a list of cues takes no edges
pub known_says : (inputs : List ℕ) (i : ℕ) → known_at false inputs i ≡ says (cue_at inputs i)
unfolding is_known cue_at
known_says inputs i = by (input_at inputs (input_place i))
  where
    by : (d : Option Input) → (is_meant d || (false && is_edge (signal_at inputs (input_place i)))) ≡ says (stamped (stamp_at inputs (input_place i)) d)
    by (Some x) = refl
    by None = refl

-- so the check of a file finds what reading it finds
pub file_checked : (file : List ℕ) → verdict (read_file file) ≡ or_else (check_start file) (check_inputs (known_at false (inputs_in file)) (inputs_in file) (input_count file) 0 0 (end_time file))
unfolding read_file
file_checked file =
    let inputs = inputs_in file in
    verdict_after (check_start file) (cues_read file)
    ∙ ap (or_else (check_start file)) (sym (checked_as_read (cue_at inputs) (known_at false inputs) (known_says inputs) inputs (input_count file) 0 0 (end_time file)))

-- ---- the loop

pub none_left : (known : ℕ → Bool) (inputs : List ℕ) (n i last end : ℕ) → n ≤ i → check_inputs known inputs (n - i) i last end ≡ Ok tt
unfolding check_inputs
none_left known inputs n i last end h = let e : n - i ≡ 0 = omega arith in rw e

pub one_left : (known : ℕ → Bool) (inputs : List ℕ) (n i last end : ℕ) → i < n →
    check_inputs known inputs (n - i) i last end ≡ or_else (check_one (known i) (stamp_at inputs (input_place i)) last end i) (check_inputs known inputs (n - (i + 1)) (i + 1) (stamp_at inputs (input_place i)) end)
unfolding check_inputs
one_left known inputs n i last end more = let e : n - i ≡ suc (n - (i + 1)) = omega arith in rw e
