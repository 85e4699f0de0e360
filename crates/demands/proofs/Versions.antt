-- Two versions of one show are accepted alike and have one run: the same answers and records, and the same end state but for its version.
use Rattle.std.specs.Prelude.{Ok}
use Prim.Native.Nat.{ℕ, zero, suc, ◌+◌, ◌*◌, ◌≤◌, ◌<◌}
use mathlib.Core.Bool.{true}
use mathlib.Core.List.{List, [], ◌∷◌, ◌++◌}
use mathlib.Core.Logic.{◌↔◌, inl, inr}
use mathlib.Core.Path.{◌≡◌, refl, sym, ap, ◌∙◌}
use native.Mathlib.Omega.{arith}
use lib.ListN.{length, drop}
use lib.Seq.{get_or-drop, drop-drop}
use Rattle.octets.specs.BigEndian.{octet}
use Rattle.rules.specs.Lists.{Cue, Played}
use Rattle.rules.specs.Forms.{version_one, version_two, form_of, form_in}
use Rattle.rules.specs.Layout.{modes_at, scene_place, flags_place, inputs_at}
use Rattle.rules.specs.Parameters.{time_at, delay, params_of, scene_at, scenes_of, bad_time, number_above, bad_number, bad_flags, bad_octet}
use Rattle.rules.specs.Readings.{cues}
use Rattle.rules.specs.Files.{input_count, inputs_offset, end_time, parameters_in, params_in, scenes_in, inputs_in, cues_read, read_file, lent_enough}
use Rattle.rules.specs.Refusals.{GoodParameters, GoodStart}
use Rattle.rules.specs.Runs.{play_file, accepted, run_call}
use Rattle.rules.proofs.Refusals.Files.{parameters_stand_at_20, parameters_whole, good_start, good_file}
use Rattle.rules.proofs.Refusals.Runs.{a_good_file_is_played}
use Rattle.rules.proofs.Laws.Parameters.{lowest_bad_octet, good_time, mode_octet, number_octet, flags_octet_lem, every_octet_good, entries}
use Rattle.demands.specs.Versions.{of_version, PlayedAlike, SameShow, RanAlike}
use Rattle.demands.proofs.Alike.{no_rule_looks_at_the_version}

-- what is played alike is handed out alike
pub handed_out_alike : (v : ℕ) (p q : Played) (records answers : List ℕ) → PlayedAlike v p q → RanAlike v (accepted p records answers) (accepted q records answers)
unfolding accepted
handed_out_alike v p q records answers same =
    record { state = same.state; code = refl; place = refl; count = rw same.records; records = rw same.records; answers = rw same.answers }

module _ (old new : List ℕ) (same : SameShow old new) where
  old_row : form_in old ≡ version_one
  unfolding form_in form_of
  old_row = rw same.first

  new_row : form_in new ≡ version_two
  unfolding form_in form_of
  new_row = rw same.second

  -- ---- the inputs

  -- they are the same octets
  pub same_inputs : inputs_in new ≡ inputs_in old
  unfolding inputs_in
  same_inputs = rw (old_row, new_row) (sym (drop-drop 24 36 new) ∙ ap (λ (octets : List ℕ). drop 24 octets) same.rest ∙ drop-drop 24 28 old)

  same_octet : (j : ℕ) → octet new (36 + j) ≡ octet old (28 + j)
  same_octet j = sym (get_or-drop 36 new j 0) ∙ ap (λ (octets : List ℕ). octet octets j) same.rest ∙ get_or-drop 28 old j 0

  -- ---- the parameters

  -- modes and scenes stand behind the times
  behind_times : (j : ℕ) → j < 24 → octet (parameters_in new) (16 + j) ≡ octet (parameters_in old) (8 + j)
  behind_times j within =
      let here : 20 + (16 + j) ≡ 36 + j = omega arith in
      let there : 20 + (8 + j) ≡ 28 + j = omega arith in
      parameters_stand_at_20 new (16 + j) (rw new_row (omega arith)) ∙ (rw (here, there) (same_octet j) ∙ sym (parameters_stand_at_20 old (8 + j) (rw old_row (omega arith))))

  pub same_params : params_in new ≡ of_version 2 (params_in old)
  unfolding params_of
  same_params =
      rw (old_row, new_row)
      (rw (same.times 0 (omega arith), same.times 1 (omega arith), same.times 2 (omega arith), same.times 3 (omega arith), behind_times 0 (omega arith), behind_times 1 (omega arith), behind_times 2 (omega arith), behind_times 3 (omega arith), behind_times 4 (omega arith), behind_times 5 (omega arith)))

  same_scene_number : (n : ℕ) → n < 8 → octet (parameters_in new) (scene_place version_two n) ≡ octet (parameters_in old) (scene_place version_one n)
  same_scene_number n within =
      let here : scene_place version_two n ≡ 16 + (8 + 2 * n) = omega arith in
      let there : scene_place version_one n ≡ 8 + (8 + 2 * n) = omega arith in
      rw (here, there) (behind_times (8 + 2 * n) (omega arith))

  same_scene_flags : (n : ℕ) → n < 8 → octet (parameters_in new) (scene_place version_two n + 1) ≡ octet (parameters_in old) (scene_place version_one n + 1)
  same_scene_flags n within =
      let here : scene_place version_two n + 1 ≡ 16 + (8 + 2 * n + 1) = omega arith in
      let there : scene_place version_one n + 1 ≡ 8 + (8 + 2 * n + 1) = omega arith in
      rw (here, there) (behind_times (8 + 2 * n + 1) (omega arith))

  same_entries : (left n : ℕ) → n + left ≡ 8 → entries version_two (parameters_in new) left n ≡ entries version_one (parameters_in old) left n
  unfolding entries scene_at
  same_entries zero n end = refl
  same_entries (suc left) n end = rw (same_scene_number n (omega arith), same_scene_flags n (omega arith), same_entries left (n + 1) (omega arith))

  pub same_scenes_lem : scenes_in new ≡ scenes_in old
  unfolding scenes_of entries
  same_scenes_lem = rw (old_row, new_row) (same_entries 8 0 refl)

  -- ---- they are accepted alike

  same_times : (n : ℕ) → n < 4 → bad_time version_two (parameters_in new) n ≡ bad_time version_one (parameters_in old) n
  unfolding bad_time
  same_times n within = rw (same.times n within)

  same_numbers_above : (number n : ℕ) → n ≤ 8 → number_above version_two (parameters_in new) number n ≡ number_above version_one (parameters_in old) number n
  unfolding number_above
  same_numbers_above number zero within = refl
  same_numbers_above number (suc n) within = rw (same_scene_number n (omega arith), same_numbers_above number n (omega arith))

  same_numbers : (n : ℕ) → n < 8 → bad_number version_two (parameters_in new) n ≡ bad_number version_one (parameters_in old) n
  unfolding bad_number
  same_numbers n within = rw (same_scene_number n within, same_numbers_above (octet (parameters_in old) (scene_place version_one n)) n (omega arith))

  same_flags : (n : ℕ) → n < 8 → bad_flags version_two (parameters_in new) n ≡ bad_flags version_one (parameters_in old) n
  unfolding bad_flags
  same_flags n within =
      let here : flags_place version_two n ≡ scene_place version_two n + 1 = omega arith in
      let there : flags_place version_one n ≡ scene_place version_one n + 1 = omega arith in
      rw (here, there, same_scene_number n within, same_scene_flags n within)

  same_modes : (m : ℕ) → m < 8 → bad_octet version_two (parameters_in new) (modes_at version_two + m) ≡ bad_octet version_one (parameters_in old) (modes_at version_one + m)
  same_modes m within = mode_octet version_two (parameters_in new) m within ∙ (rw (behind_times m (omega arith)) (sym (mode_octet version_one (parameters_in old) m within)))

  -- every octet of the one is good where those of the other are
  good_parameters : inputs_at (form_in new) ≤ length new → GoodParameters version_one (parameters_in old) → GoodParameters version_two (parameters_in new)
  good_parameters long g =
      record {
        whole = rw new_row at (parameters_whole new long);
        good =
            every_octet_good version_two (parameters_in new)
            (λ n within. same_times n within ∙ good_time version_one (parameters_in old) g n within)
            (λ m within. same_modes m within ∙ g.good (modes_at version_one + m) (omega arith))
            (λ n within. same_numbers n within ∙ (sym (number_octet version_one (parameters_in old) n) ∙ g.good (scene_place version_one n) (omega arith)))
            (λ n within. same_flags n within ∙ (sym (flags_octet_lem version_one (parameters_in old) n) ∙ g.good (flags_place version_one n) (omega arith)));
      }

  good_parameters_back : inputs_at (form_in old) ≤ length old → GoodParameters version_two (parameters_in new) → GoodParameters version_one (parameters_in old)
  good_parameters_back long g =
      record {
        whole = rw old_row at (parameters_whole old long);
        good =
            every_octet_good version_one (parameters_in old)
            (λ n within. sym (same_times n within) ∙ good_time version_two (parameters_in new) g n within)
            (λ m within. sym (same_modes m within) ∙ g.good (modes_at version_two + m) (omega arith))
            (λ n within. sym (same_numbers n within) ∙ (sym (number_octet version_two (parameters_in new) n) ∙ g.good (scene_place version_two n) (omega arith)))
            (λ n within. sym (same_flags n within) ∙ (sym (flags_octet_lem version_two (parameters_in new) n) ∙ g.good (flags_place version_two n) (omega arith)));
      }

  pub good_start_of_new : GoodStart old → GoodStart new
  good_start_of_new g =
      let layout = g.header.layout in
      let place : inputs_offset old ≡ 52 = rw old_row at layout.inputs in
      let whole : length old ≡ 52 + 8 * input_count old = rw old_row at layout.whole in
      let long : inputs_at (form_in new) ≤ length new = rw new_row (omega (arith, same.size)) in
      record {
        header = record {
          enough = record { least = omega (arith, same.size); version = inr same.second; long = long };
          actuators = same.actuators ∙ g.header.actuators;
          layout = record {
            parameters = same.parameters ∙ layout.parameters;
            few = rw same.count layout.few;
            inputs = rw new_row (omega (arith, same.inputs));
            end = rw same.end layout.end;
            whole = rw (new_row, same.count) (omega (arith, same.size));
          };
        };
        passed = rw new_row ((lowest_bad_octet version_two (parameters_in new) (Ok tt)).1 (good_parameters long ((lowest_bad_octet version_one (parameters_in old) (Ok tt)).0 (rw old_row at g.passed))));
      }

  pub good_start_of_old : GoodStart new → GoodStart old
  good_start_of_old g =
      let layout = g.header.layout in
      let place : inputs_offset new ≡ 60 = rw new_row at layout.inputs in
      let whole : length new ≡ 60 + 8 * input_count new = rw new_row at layout.whole in
      let long : inputs_at (form_in old) ≤ length old = rw old_row (omega (arith, same.size)) in
      record {
        header = record {
          enough = record { least = omega (arith, same.size); version = inl same.first; long = long };
          actuators = sym same.actuators ∙ g.header.actuators;
          layout = record {
            parameters = sym same.parameters ∙ layout.parameters;
            few = rw (← same.count) layout.few;
            inputs = rw old_row (omega (arith, same.inputs));
            end = rw (← same.end) layout.end;
            whole = rw (old_row, ← same.count) (omega (arith, same.size));
          };
        };
        passed = rw old_row ((lowest_bad_octet version_one (parameters_in old) (Ok tt)).1 (good_parameters_back long ((lowest_bad_octet version_two (parameters_in new) (Ok tt)).0 (rw new_row at g.passed))));
      }

  same_cues : cues_read new ≡ cues_read old
  same_cues = rw (same_inputs, same.count, same.end) refl

  -- a show is accepted in one version exactly when it is in the other, with the same cues
  pub accepted_alike : (list : List Cue) → (read_file old ≡ cues list) ↔ (read_file new ≡ cues list)
  accepted_alike list = (
    λ read. let start = (good_file old list read).start in good_start new (good_start_of_new start) ∙ (same_cues ∙ (sym (good_start old start) ∙ read)),
    λ read. let start = (good_file new list read).start in good_start old (good_start_of_old start) ∙ (sym same_cues ∙ (sym (good_start new start) ∙ read)),
  )

  -- what is played is the same but for the version of the end state
  pub played_alike : (list : List Cue) → PlayedAlike 2 (play_file old list) (play_file new list)
  unfolding play_file
  played_alike list = rw (same_params, same_scenes_lem, same.end) (no_rule_looks_at_the_version 2 (params_in old) (scenes_in old) list (end_time old))

  -- and so is the run, whole
  pub two_versions_of_one_show_run_alike : (records answers : List ℕ) (list : List Cue) → read_file old ≡ cues list → lent_enough old records answers ≡ true →
      RanAlike 2 (run_call old records answers) (run_call new records answers)
  two_versions_of_one_show_run_alike records answers list read room =
      let enough : lent_enough new records answers ≡ true = unfold lent_enough in rw same.count room in
      rw (a_good_file_is_played old records answers list read room, a_good_file_is_played new records answers list ((accepted_alike list).0 read) enough) (handed_out_alike 2 _ _ records answers (played_alike list))

-- ---- there are such shows

-- OnDelay 0, OffDelay 0, TimedOn 60 seconds, Prewarning 10 seconds, modes 0, no scenes; any inputs, however many the header counts
abbrev modes_and_inputs : List ℕ → List ℕ
modes_and_inputs inputs =
    0 ∷ 0 ∷ 0 ∷ 0 ∷ 0 ∷ 0 ∷ 0 ∷ 0 ∷ 255 ∷ 0 ∷ 255 ∷ 0 ∷ 255 ∷ 0 ∷ 255 ∷ 0 ∷ 255 ∷ 0 ∷ 255 ∷ 0 ∷ 255 ∷ 0 ∷ 255 ∷ 0 ∷ inputs

abbrev start_of_one : ℕ → List ℕ
start_of_one n =
    0 ∷ 1 ∷ 0 ∷ 1 ∷ 0 ∷ 0 ∷ 0 ∷ 20 ∷ 0 ∷ 0 ∷ 0 ∷ n ∷ 0 ∷ 0 ∷ 0 ∷ 52 ∷ 0 ∷ 0 ∷ 3 ∷ 232 ∷ 0 ∷ 0 ∷ 0 ∷ 0 ∷ 0 ∷ 60 ∷ 0 ∷ 10 ∷ []

abbrev start_of_two : ℕ → List ℕ
start_of_two n =
    0 ∷ 2 ∷ 0 ∷ 1 ∷ 0 ∷ 0 ∷ 0 ∷ 20 ∷ 0 ∷ 0 ∷ 0 ∷ n ∷ 0 ∷ 0 ∷ 0 ∷ 60 ∷ 0 ∷ 0 ∷ 3 ∷ 232 ∷ 0 ∷ 0 ∷ 0 ∷ 0 ∷ 0 ∷ 0 ∷ 0 ∷ 0 ∷ 0 ∷ 0 ∷ 2 ∷ 88 ∷ 0 ∷ 0 ∷ 0 ∷ 100 ∷ []

pub two_versions_used : (n : ℕ) (inputs : List ℕ) → SameShow (start_of_one n ++ modes_and_inputs inputs) (start_of_two n ++ modes_and_inputs inputs)
unfolding parameters_in form_in form_of delay time_at
two_versions_used n inputs =
    record {
      first = refl;
      second = refl;
      actuators = refl;
      parameters = refl;
      count = refl;
      inputs = refl;
      end = refl;
      size = omega arith;
      times = times;
      rest = refl;
    }
  where
    times : (m : ℕ) → m < 4 → delay version_two (parameters_in (start_of_two n ++ modes_and_inputs inputs)) m ≡ delay version_one (parameters_in (start_of_one n ++ modes_and_inputs inputs)) m
    times zero within = refl
    times (suc zero) within = refl
    times (suc (suc zero)) within = refl
    times (suc (suc (suc zero))) within = refl
    times (suc (suc (suc (suc m)))) within = absurd (omega arith)
