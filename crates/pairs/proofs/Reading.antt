-- Items that are read without fault, one after the other; and a cue file, read as a list of items.
use Rattle.std.specs.Prelude.{Option, Some, None}
use Prim.Native.Nat.{ℕ, zero, suc, ◌+◌, ◌≤◌}
use mathlib.Core.List.{List, [], ◌∷◌}
use mathlib.Core.Path.{◌≡◌, refl, ap}
use native.Mathlib.Omega.{arith}
use borrow.Author.Tests.{le-leb}
use Rattle.octets.specs.Groups.{stamp_at}
use Rattle.rules.specs.declared.parameters.Params.{Params}
use Rattle.rules.specs.declared.parameters.Scene.{Scene}
use Rattle.rules.specs.declared.input.Input.{Input}
use Rattle.rules.specs.Inputs.{input_at}
use Rattle.rules.specs.Layout.{input_place}
use Rattle.rules.specs.Lists.{Cue, Played, and_then, start, play_list}
use Rattle.rules.specs.Readings.{cues, read_one, read_inputs}
use Rattle.rules.specs.Files.{cue_at}
use Rattle.rules.proofs.Refusals.Readings.{FirstOf, first_of}
use Rattle.rules.proofs.Refusals.Files.{first_cue_lem}
use Rattle.sensor.specs.declared.state.Sensor.{Sensor}
use Rattle.pairs.specs.declared.item.Item.{Item}
use Rattle.pairs.specs.declared.item.Item.TheVariants.{Plain}
use Rattle.pairs.specs.Items.{item_at}
use Rattle.pairs.specs.Lists.{Listed, listed, actuator_part, pair_start, play_items}
use Rattle.pairs.specs.Walls.{stamped_item, item_in}
use Rattle.pairs.proofs.Items.{plain_exactly_when}
use Rattle.pairs.proofs.Halves.{plain_items, plain_items_lem}

-- ---- one item

-- what an item of a list is made of
item_said : (inputs : List ℕ) (j : ℕ) (x : Listed) → item_in inputs j ≡ Some x → (i : Item) × (item_at inputs (input_place j) ≡ Some i) × (x ≡ listed (stamp_at inputs (input_place j)) i)
unfolding item_in
item_said inputs j x e = by (item_at inputs (input_place j)) refl e
  where
    by : (r : Option Item) → item_at inputs (input_place j) ≡ r → stamped_item (stamp_at inputs (input_place j)) r ≡ Some x → (i : Item) × (item_at inputs (input_place j) ≡ Some i) × (x ≡ listed (stamp_at inputs (input_place j)) i)
    by (Some i) m e = (i, m, cc)
    by None m e = absurd (let z : ◌≡◌ {A = ℕ} 0 1 = cc in omega arith)

-- the first item of a list that is read without fault
abbrev pub FirstItem : List ℕ → ℕ → ℕ → ℕ → ℕ → List Listed → Type 0
FirstItem inputs left i last end items = FirstOf (item_in inputs) (λ x. item_at inputs (input_place i) ≡ Some x) (λ x. listed (stamp_at inputs (input_place i)) x) inputs left i last end items

pub first_item : (inputs : List ℕ) (left i last end : ℕ) (items : List Listed) → read_inputs (item_in inputs) inputs (suc left) i last end ≡ cues items → FirstItem inputs left i last end items
first_item inputs left i last end items e = first_of (item_in inputs) _ _ inputs left i last end items (item_said inputs i) e

-- ---- a list without edges

one_more : (inputs : List ℕ) (left j last end : ℕ) (i : Input) (later : List Cue) → input_at inputs (input_place j) ≡ Some i → last ≤ stamp_at inputs (input_place j) → stamp_at inputs (input_place j) ≤ end →
    read_inputs (item_in inputs) inputs left (j + 1) (stamp_at inputs (input_place j)) end ≡ cues (plain_items later) →
    read_inputs (item_in inputs) inputs (suc left) j last end ≡ cues (listed (stamp_at inputs (input_place j)) (Plain i) ∷ plain_items later)
unfolding read_inputs read_one item_in
one_more inputs left j last end i later meant risen timely rest =
    rw ((plain_exactly_when inputs (input_place j) i).1 meant, le-leb last (stamp_at inputs (input_place j)) risen, le-leb (stamp_at inputs (input_place j)) end timely, rest) refl

-- what the actuator reads without fault is read the same here
pub reads_plain : (inputs : List ℕ) (left j last end : ℕ) (list : List Cue) → read_inputs (cue_at inputs) inputs left j last end ≡ cues list → read_inputs (item_in inputs) inputs left j last end ≡ cues (plain_items list)
unfolding plain_items
reads_plain inputs zero j last end list read = let None : list ≡ [] = unfold read_inputs in cc in rw None (unfold read_inputs in refl)
reads_plain inputs (suc left) j last end list read =
    let f = first_cue_lem inputs left j last end list read in
    let rest = reads_plain inputs left (j + 1) (stamp_at inputs (input_place j)) end f.later f.reads in
    rw f.starts (one_more inputs left j last end f.input f.later f.meant f.risen f.timely rest)

-- and is played the same, whatever sensor stands beside it
pub a_plain_list_is_the_actuators : (p : Params) (scenes : List Scene) (z : Sensor) (list : List Cue) (end : ℕ) → actuator_part (play_items p scenes z (plain_items list) end) ≡ play_list p scenes list end
unfolding play_items play_list
a_plain_list_is_the_actuators p scenes z list end = ap (λ (a : Played). and_then (start p scenes) (λ x. a)) (plain_items_lem end list (pair_start p scenes z).pair)
