-- The scene table: eight entries, each with a scene number, an output, and whether it was taught in.
use Rattle.std.specs.Prelude.{ℕ, Bool, true, cond, not, ◌&&◌, ◌||◌, List, [], ◌∷◌, eqb, leb, Option, Some, None}
use Rattle.rules.specs.declared.parameters.Scene.{Scene}

-- 01, "What each order does": "Scene recall: a used, taught entry acts as On or Off by its value; any other number does nothing."
-- (An input's number is at most 63, proofs/Laws/Inputs.antt `input_number`, so an entry that has it is used.)
unfoldable pub recalled : List Scene → ℕ → Option Bool
recalled [] number = None
recalled (e ∷ rest) number = cond (eqb e.number number) (cond e.taught (Some e.value) None) (recalled rest number)

-- "Learn, if enabled and the number is in the table: the entry's value becomes the present output and it is taught."
unfoldable pub learnt : List Scene → ℕ → Bool → List Scene
learnt [] number output = []
learnt (e ∷ rest) number output =
    cond (eqb e.number number) (record { number = e.number; value = output; taught = true } ∷ rest) (e ∷ learnt rest number output)

-- ---- a table in range (01, "Time and the cue file")

-- "number (0 to 63, or 255 for unused)"; "Unused entries have flags 0."
unfoldable pub entry_in_range : Scene → Bool
entry_in_range e = cond (eqb e.number 255) (not (e.value || e.taught)) (leb e.number 63)

-- no entry has this number
unfoldable pub absent : List Scene → ℕ → Bool
absent [] number = true
absent (e ∷ rest) number = not (eqb e.number number) && absent rest number

-- "Used numbers are distinct."
unfoldable pub scenes_in_range : List Scene → Bool
scenes_in_range [] = true
scenes_in_range (e ∷ rest) = (entry_in_range e && (eqb e.number 255 || absent rest e.number)) && scenes_in_range rest
