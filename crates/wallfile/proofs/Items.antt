-- What the check of a wall list knows is what its items say; and the whole check, part by part.
use Rattle.sensor.specs.declared.signal.Signal.{Signal}
use Rattle.rules.specs.declared.input.Input.{Input}
use Rattle.std.specs.Prelude.{Option, Some, None, Ok, Err}
use Prim.Native.Nat.{ℕ, ◌≤◌, ◌<◌}
use mathlib.Core.Bool.{true, ◌&&◌, ◌||◌}
use mathlib.Core.List.{List}
use mathlib.Core.Path.{◌≡◌, refl, sym, ap, ◌∙◌}
use lib.ListN.{length}
use borrow.Author.Tests.{le-leb, lt-leb}
use Rattle.octets.specs.Groups.{stamp_at}
use Rattle.base.specs.declared.refusal.Refusal.TheVariants.{WrongLength}
use Rattle.base.specs.Refusals.{or_else, Check, refused_with}
use Rattle.rules.specs.Inputs.{input_at}
use Rattle.rules.specs.Layout.{input_place}
use Rattle.rules.specs.Readings.{Reading, verdict}
use Rattle.rules.specs.Files.{input_count, end_time, inputs_in, check_start}
use Rattle.rules.proofs.Refusals.Readings.{verdict_after}
use Rattle.sensor.specs.declared.signal.Signal.TheVariants as signal
use Rattle.sensor.specs.Signals.{signal_at}
use Rattle.sensor.specs.Actions.{check_actions}
use Rattle.pairs.specs.Items.{item_of, item_at}
use Rattle.pairs.specs.Lists.{Listed}
use Rattle.pairs.specs.Walls.{file_in, actions_in, check_wall, stamped_item, item_in, items_read, read_wall}
use Rattle.inputs.specs.Meaning.{is_meant}
use Rattle.cues.specs.Checks.{check_inputs, is_edge, is_known, known_at}
use Rattle.cues.proofs.Inputs.{says, checked_as_read}
use Rattle.wallfile.specs.Checks.{check_parts}

-- a list that takes edges
pub items_say : (inputs : List ℕ) (i : ℕ) → known_at true inputs i ≡ says (item_in inputs i)
unfolding is_known item_in item_at
items_say inputs i = by (input_at inputs (input_place i)) (signal_at inputs (input_place i))
  where
    by : (d : Option Input) (s : Option Signal) → (is_meant d || (true && is_edge s)) ≡ says (stamped_item (stamp_at inputs (input_place i)) (item_of d s))
    by (Some x) s = refl
    by None (Some (signal.Button1 edge)) = refl
    by None (Some (signal.Button2 edge)) = refl
    by None (Some (signal.Status value)) = refl
    by None None = refl

-- so the check of the inputs, edges among them, finds what reading them as items finds
pub parts_checked : (file actions : List ℕ) → check_parts file actions ≡ or_else (check_start file) (or_else (check_actions actions) (check_inputs (known_at true (inputs_in file)) (inputs_in file) (input_count file) 0 0 (end_time file)))
unfolding check_parts
parts_checked file actions =
    let inputs = inputs_in file in
    ap (λ (c : Check). or_else (check_start file) (or_else (check_actions actions) c)) (sym (checked_as_read (item_in inputs) (known_at true inputs) (items_say inputs) inputs (input_count file) 0 0 (end_time file)))

-- one check after another, in either grouping
or_else_assoc : (a b c : Check) → or_else (or_else a b) c ≡ or_else a (or_else b c)
or_else_assoc (Ok _) b c = refl
or_else_assoc (Err fault) b c = refl

module _ (wall : List ℕ) where
  pub long_wall : 56 ≤ length wall → verdict (read_wall wall) ≡ check_parts (file_in wall) (actions_in wall)
  unfolding read_wall check_wall check_parts
  long_wall long = verdict_after (check_wall wall) items ∙ rw (le-leb 56 (length wall) long) (or_else_assoc (check_start (file_in wall)) (check_actions (actions_in wall)) (verdict items))
    where
      items : Reading Listed
      items = items_read (file_in wall)

  pub short_wall : length wall < 56 → verdict (read_wall wall) ≡ refused_with WrongLength 0
  unfolding read_wall check_wall
  short_wall short = rw (lt-leb 56 (length wall) short)
