-- The promises for every octet string that is accepted as a cue file.
use Prim.Native.Nat.{ℕ, zero, suc, ◌+◌, ◌≤◌}
use mathlib.Core.List.{List, []}
use mathlib.Core.Path.{◌≡◌, sym, ◌∙◌}
use native.Mathlib.Omega.{arith}
use Rattle.octets.specs.Groups.{stamp_at}
use Rattle.rules.specs.Lists.{Cue}
use Rattle.rules.specs.Forms.{form_in}
use Rattle.rules.specs.Layout.{input_place}
use Rattle.rules.specs.Readings.{cues, read_inputs}
use Rattle.rules.specs.Files.{input_count, end_time, parameters_in, inputs_in, cue_at, read_file, params_in, scenes_in}
use Rattle.rules.specs.Promises.{Rises, DarkPromise, LightPromise, StrongLightPromise}
use Rattle.rules.proofs.Laws.Parameters.{passed_has_some_time}
use Rattle.rules.proofs.Refusals.Files.{good_file, good_start, first_cue_lem}
use Rattle.rules.proofs.Promises.Dark.{dark}
use Rattle.rules.proofs.Promises.Light.{strong_light, light}

-- inputs that are read without fault rise
inputs_rise : (inputs : List ℕ) (left i last end : ℕ) (list : List Cue) → last ≤ end → read_inputs (cue_at inputs) inputs left i last end ≡ cues list → Rises last list end
inputs_rise inputs zero i last end list early read = let none : list ≡ [] = unfold read_inputs in cc in rw none early
inputs_rise inputs (suc left) i last end list early read =
    let f = first_cue_lem inputs left i last end list read in
    rw f.starts (f.risen, inputs_rise inputs left (i + 1) (stamp_at inputs (input_place i)) end f.later f.timely f.reads)

module _ (file : List ℕ) (list : List Cue) (read : read_file file ≡ cues list) where
  pub list_rises : Rises 0 list (end_time file)
  list_rises = inputs_rise (inputs_in file) (input_count file) 0 0 (end_time file) list (omega arith) (sym (good_start file (good_file file list read).start) ∙ read)

  pub has_some_time : 1 ≤ (params_in file).timedon
  has_some_time = passed_has_some_time (form_in file) (parameters_in file) (good_file file list read).start.passed

  pub dark_of_every_accepted_file : DarkPromise (params_in file) (scenes_in file) list (end_time file)
  dark_of_every_accepted_file = dark _ _ list (end_time file) list_rises

  pub strong_light_of_every_accepted_file : StrongLightPromise (params_in file) (scenes_in file) list (end_time file)
  strong_light_of_every_accepted_file = strong_light _ _ list (end_time file) list_rises has_some_time

  pub light_of_every_accepted_file : LightPromise (params_in file) (scenes_in file) list (end_time file)
  light_of_every_accepted_file = light _ _ list (end_time file) list_rises has_some_time
