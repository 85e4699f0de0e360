-- A list of stamped inputs, eight octets each, read one after the other: what each of them says, or the first that is bad and where (01, "Refusal
-- numbers").
-- What an input may say is left open: `at i` is what the one at index i says, if it says anything.
use Rattle.base.specs.Refusals.{Check, refused_with}
use Rattle.std.specs.Prelude.{ℕ, zero, suc, ◌+◌, Bool, true, false, cond, ◌&&◌, List, [], ◌∷◌, leb, Ok, Err, Option, Some, None}
use Rattle.octets.specs.Groups.{stamp_at}
use Rattle.base.specs.declared.refusal.Refusal.{Refusal}
use Rattle.base.specs.declared.refusal.Refusal.TheVariants.{BadInput, BadStamp, ShortBuffer}
use Rattle.rules.specs.Layout.{input_place}

pub data Reading (A : Type 0) : Type 0 where
  cues : List A → Reading A
  bad : Refusal → ℕ → Reading A

-- a reading without its list: the code and the place of a call are those of its verdict
abbrev pub verdict : {A : Type 0} → Reading A → Check
verdict (cues list) = (Ok tt)
verdict (bad why place) = refused_with why place

-- the list of a reading that has one
abbrev pub found : {A : Type 0} → Reading A → List A
found (cues list) = list
found (bad why place) = []

abbrev pub before : {A : Type 0} → A → Reading A → Reading A
before x (cues later) = cues (x ∷ later)
before x (bad why place) = bad why place

-- "6 | kind, value or zero octet wrong | input index"; "7 | stamp below the one before .., above the end time .. | input index"
unfoldable pub read_one : {A : Type 0} → Option A → ℕ → ℕ → ℕ → ℕ → Reading A → Reading A
read_one None stamp last end i later = bad BadInput i
read_one (Some x) stamp last end i later = cond (leb last stamp && leb stamp end) (before x later) (bad BadStamp i)

-- "the first bad input, 6 before 7": these many of the inputs from index i on, where the stamp before them is `last`
unfoldable pub read_inputs : {A : Type 0} → (ℕ → Option A) → List ℕ → ℕ → ℕ → ℕ → ℕ → Reading A
read_inputs at inputs zero i last end = cues []
read_inputs at inputs (suc left) i last end =
    let later = read_inputs at inputs left (i + 1) (stamp_at inputs (input_place i)) end in
    read_one (at i) (stamp_at inputs (input_place i)) last end i later

-- what is wrong before them comes first
abbrev pub after_check : {A : Type 0} → Check → Reading A → Reading A
after_check (Ok _) reading = reading
after_check (Err fault) reading = bad fault.why fault.place

-- "then 8": "a lent buffer too short"
abbrev pub if_lent_enough : {A : Type 0} → Bool → Reading A → Reading A
if_lent_enough true reading = reading
if_lent_enough false (cues list) = bad ShortBuffer 0
if_lent_enough false (bad why place) = bad why place
