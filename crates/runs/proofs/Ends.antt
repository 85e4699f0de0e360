-- The start and the end of a run: what is read of a file without fault, and the whole that the start record, the items and the move to the
-- end time come to.
use Prim.Native.Nat.{ℕ, ◌+◌, ◌*◌, ◌≤◌}
use mathlib.Core.List.{List, [], ◌∷◌, ◌++◌, append-nil}
use mathlib.Core.Path.{◌≡◌, refl, sym, ap, ◌∙◌}
use native.Mathlib.Nat.{zero-add}
use native.Mathlib.Omega.{arith}
use lib.ListN.{length, take, length-append}
use Rattle.octets.specs.Splice.{splice}
use Rattle.rules.specs.declared.state.State.{State}
use Rattle.rules.specs.declared.record.Record.{Record}
use Rattle.rules.specs.Steps.{Moved, fresh, clock_move}
use Rattle.rules.specs.Status.{by_itself, value, attributes, record_of}
use Rattle.rules.specs.Forms.{form_in}
use Rattle.rules.specs.Files.{input_count, end_time, parameters_in, inputs_in}
use Rattle.rules.specs.Readings.{cues, found, read_inputs}
use Rattle.base.specs.Time.{last_stamp}
use Rattle.rules.proofs.Refusals.Files.{inputs_whole}
use Rattle.rules.proofs.Refusals.Readings.{read_for_longer}
use Rattle.rules.specs.Runs.{record_octets, records_octets}
use Rattle.rules.proofs.Laws.Forms.{file_row}
use Rattle.rules.proofs.Laws.Parameters.{passed_is_sound}
use Rattle.sensor.specs.declared.state.Sensor.{Sensor}
use Rattle.sensor.specs.Reactions.{hear}
use Rattle.pairs.specs.Pairs.{Pair, pair_of, hears, pair_move}
use Rattle.pairs.specs.Lists.{PairPlayed, pair_plays, pair_plays_to, play_items}
use Rattle.pairs.specs.Walls.{item_in, wall_whole, wall_accepted}
use Rattle.pairs.proofs.Soundness.{sound_pair_exactly_when}
use Rattle.lamps.specs.Lamps.{lamp_of, alone}
use Rattle.timers.specs.declared.clock.Clocked.{Clocked}
use Rattle.timers.specs.Ticks.{clocked}
use Rattle.timers.proofs.Moves.{moved_count, moved_records}
use Rattle.buffers.proofs.Splices.{splice_front, records_one, records_more}
use Rattle.turns.specs.Turns.{listened}
use Rattle.turns.proofs.Turning.{all_heard}
use Rattle.turns.proofs.Hearing.{put_is_heard}
use Rattle.player.specs.Playing.{items_from, Ready, Filled}
use Rattle.runs.specs.Runs.{items_in, fresh_in, play_in, Fit}

-- a record shows the lamp alone
pub record_alone : (cause : ℕ) (s : State) → record_of cause (alone (lamp_of s)) ≡ record_of cause s
unfolding record_of value attributes
record_alone cause s = refl

-- ---- the items

-- read up to the last stamp of all, the items of a file are those that it has up to its end time
module _ (file : List ℕ) (fit : Fit file) where
  read_from_the_start : read_inputs (item_in (inputs_in file)) (inputs_in file) (input_count file) 0 0 last_stamp ≡ cues (items_in file)
  read_from_the_start = read_for_longer (item_in (inputs_in file)) (inputs_in file) (input_count file) 0 0 (end_time file) last_stamp (items_in file) fit.start.header.layout.end fit.reads

  the_files_items : items_from (inputs_in file) (input_count file) 0 ≡ items_in file
  unfolding items_from
  the_files_items = ap found read_from_the_start

-- ---- the start

-- the pair that a file is played to: fresh, and the start record is heard
abbrev start_pair : List ℕ → Sensor → Pair
start_pair file z = pair_of (fresh_in file) (hears (record_of by_itself (fresh_in file) ∷ []) z)

fresh_clock : (file : List ℕ) → (fresh_in file).clock ≡ 0
unfolding fresh_in fresh
fresh_clock file = refl

module _ (file : List ℕ) (z : Sensor) (r r₁ : List ℕ) (first : r₁ ≡ splice r 0 (record_octets (record_of by_itself (fresh_in file)))) where
  start_heard : pair_of (fresh_in file) (listened r₁ 1 z 0) ≡ start_pair file z
  start_heard =
      let start : Record = record_of by_itself (fresh_in file) in
      let one : r₁ ≡ splice r 0 (records_octets (start ∷ [])) = first ∙ ap (splice r 0) (sym (records_one start)) in
      ap (λ (y : Sensor). pair_of (fresh_in file) y) (put_is_heard (start ∷ []) r r₁ 0 z 0 (omega arith) (omega arith) one ∙ ap (λ (y : Sensor). hears (start ∷ []) y) (all_heard r 0 z))

  -- its own parameters start a sound pair, and its items can be played from there on
  pub fit_ready : Fit file → Ready (inputs_in file) (input_count file) (pair_of (fresh_in file) (listened r₁ 1 z 0))
  unfolding fresh_in fresh
  fit_ready fit =
      let layout = fit.start.header.layout in
      rw start_heard
      (record {
        few = layout.few;
        whole = omega (arith, inputs_whole file layout);
        reads = rw (the_files_items file fit) (read_from_the_start file fit);
        sound = (sound_pair_exactly_when (start_pair file z)).1 (record { actuator = passed_is_sound (form_in file) (parameters_in file) (file_row file) fit.start.passed; sensor = unfold hears hear record_of in omega arith; behind = unfold hears hear record_of in omega arith });
      })

  -- ---- the end

  -- a file is played: its start record, its items from the start on, and the move to its end time
  played_whole : (p : PairPlayed) → p ≡ pair_plays (items_in file) (start_pair file z) →
      play_in file z ≡ record {
        pair = (pair_move p.pair (end_time file)).pair;
        answers = p.answers;
        records = record_of by_itself (fresh_in file) ∷ (p.records ++ (pair_move p.pair (end_time file)).records);
        telegrams = p.telegrams;
      }
  unfolding play_in play_items pair_plays_to fresh_in
  played_whole p e = rw e (simp append-nil)

  -- the three parts of the records stand one after the other, and all of them are heard
  pub ended : Fit file → (a a₂ r₂ r₃ : List ℕ) (s : State) (y : Sensor) (heard k : ℕ) → heard ≤ k → 8 * k ≤ length r₂
      → Filled 1 (pair_plays (items_from (inputs_in file) (input_count file) (fresh_in file).clock) (pair_of (fresh_in file) (listened r₁ 1 z 0))) r₁ a s (listened r₂ k y heard) k r₂ a₂
      → (m : Clocked) → m ≡ clocked (clock_move s (end_time file)) → r₃ ≡ splice r₂ (8 * k) (records_octets (take m.notes.count m.notes.records))
      → Filled 0 (play_in file z) r a m.state (listened r₃ (k + m.notes.count) y heard) (k + m.notes.count) r₃ a₂
  unfolding clocked pair_move
  ended fit a a₂ r₂ r₃ s y heard k behind room filled m g p =
      let items : items_from (inputs_in file) (input_count file) (fresh_in file).clock ≡ items_in file = rw (fresh_clock file) (the_files_items file fit) in
      let f : Filled 1 (pair_plays (items_in file) (start_pair file z)) r₁ a s (listened r₂ k y heard) k r₂ a₂ = rw (start_heard, items) at filled in
      let q : PairPlayed = pair_plays (items_in file) (start_pair file z) in
      let start : Record = record_of by_itself (fresh_in file) in
      let last : Moved = clock_move q.pair.actuator (end_time file) in
      let same : m ≡ clocked last = rw (← f.state) g in
      let wrote = moved_count q.pair.actuator (end_time file) m same in
      let whole = played_whole q refl in
      let put : r₃ ≡ splice r₂ (8 * k) (records_octets last.records) = p ∙ ap (λ (l : List Record). splice r₂ (8 * k) (records_octets l)) (moved_records q.pair.actuator (end_time file) m same) in
      let heard_all : listened r₃ (k + m.notes.count) y heard ≡ hears last.records q.pair.sensor =
      rw wrote (put_is_heard last.records r₂ r₃ k y heard behind room put ∙ ap (λ (x : Sensor). hears last.records x) f.sensor)
      in
      let one : r₁ ≡ splice r 0 (records_octets (start ∷ [])) = first ∙ ap (splice r 0) (sym (records_one start)) in
      let two : r₂ ≡ splice r 0 (records_octets (start ∷ q.records)) = f.records ∙ records_more r r₁ 0 8 (start ∷ []) q.records (omega arith) (omega arith) one in
      let three : r₃ ≡ splice r 0 (records_octets (start ∷ (q.records ++ last.records))) =
      put ∙ records_more r r₂ 0 (8 * k) (start ∷ q.records) last.records (omega arith) (omega (arith, f.count)) two
      in
      record {
        state = rw (whole, same) refl;
        sensor = rw whole heard_all;
        count = rw (whole, wrote, length-append) (omega (arith, f.count));
        records = rw whole three;
        answers = rw whole f.answers;
      }

-- what the buffers are then filled with is all that an accepted run hands out
pub filled_is_accepted : (p : PairPlayed) (r a r₁ a₁ : List ℕ) (s : State) (z : Sensor) (k : ℕ) → Filled 0 p r a s z k r₁ a₁ →
    wall_whole (record { state = s; sensor = z; code = 0; place = 0; count = k }) r₁ a₁ ≡ wall_accepted p r a
unfolding wall_accepted
filled_is_accepted p r a r₁ a₁ s z k f = rw (f.state, f.sensor, f.count, f.records, f.answers, splice_front r, splice_front a, zero-add) refl
