-- The live calls, one law for each way out.
use Rattle.std.specs.Prelude.{Ok, Err}
use Prim.Native.Nat.{ℕ, ◌≤◌, ◌<◌}
use mathlib.Core.Bool.{Bool, true, false, cond}
use mathlib.Core.List.{List}
use mathlib.Core.Path.{◌≡◌, refl}
use native.Mathlib.Omega.{arith}
use lib.ListN.{length, take}
use borrow.Author.Tests.{eq-eqb, ne_eqb, le-leb, lt-leb}
use Rattle.base.specs.declared.refusal.Refusal.{Refusal}
use Rattle.base.specs.declared.refusal.Refusal.TheVariants.{BadStamp, ShortBuffer, UnsoundState}
use Rattle.base.specs.Refusals.{number, stamp_in_range, code_of, place_of, or_else, Check, refused_with}
use Rattle.base.proofs.Codes.{some_number}
use Rattle.rules.specs.declared.state.State.{State}
use Rattle.rules.specs.declared.call.Fresh.{Fresh}
use Rattle.rules.specs.Parameters.{check_alone}
use Rattle.rules.specs.Steps.{clock_move}
use Rattle.rules.specs.Calls.{fresh_by, fresh_call, move_done}
use Rattle.rules.specs.Lists.{Cue}
use Rattle.rules.specs.Readings as readings
use Rattle.rules.specs.Readings.{Reading, cues, verdict}
use Rattle.rules.specs.Files.{read_file, lent_enough, read_call}
use Rattle.rules.specs.Runs.{records_octets, Whole, refused, run_by, run_call, packing, packed}
use Rattle.rules.specs.Changes.{check_lent, check_change, change_by, change_call}
use Rattle.rules.specs.Images.{image, state_in, is_image}
use Rattle.rules.specs.Live.{refused_number, check_fresh, fresh_imaged, house_fresh, check_move, move_imaged, move_by, house_move, imaged, change_imaged, house_change, check_run_to, run_imaged, house_run_to}
use Rattle.rules.proofs.Laws.Images.{accepted_is_the_image, accepted_is_sound}
use Rattle.rules.proofs.Laws.Records.{a_move_writes_at_most_two, used_places}
use Rattle.rules.proofs.Refusals.Calls.{good_is_made}
use Rattle.rules.proofs.Refusals.Readings.{verdict_if_lent}
use Rattle.rules.proofs.Refusals.Runs.{run_is_read}
use Rattle.octets.specs.Splice.{splice}
use Rattle.buffers.proofs.Splices.{splice_front}
use Rattle.timers.specs.declared.clock.Clocked.{Clocked}
use Rattle.timers.specs.Ticks.{clocked}
use Rattle.timers.proofs.Moves.{moved_state, moved_count, moved_records}
use Rattle.desk.specs.Answers.{imaged_by, imaged_move_by, imaged_run_by, short_by, short_number}

-- octets that are not as many as an image has are none
pub no_image : (state : List ℕ) → (length state ≡ 56 → ⊥) → is_image state ≡ false
unfolding is_image
no_image state other = simp (ne_eqb (length state) 56 other)

-- ---- fresh

module _ (parameters state : List ℕ) (f : Fresh) (given : f ≡ fresh_call parameters) where
  abbrev Ends : ℕ → List ℕ → Type 0
  Ends n octets = imaged_by n octets ≡ house_fresh parameters state

  by_check : (c : Check) → check_alone parameters ≡ c → (f.code ≡ code_of c) × (f.place ≡ place_of c)
  unfolding fresh_call fresh_by
  by_check c e = rw (given, e) (refl, refl)

  pub fresh_refused : (f.code ≡ 0 → ⊥) → Ends (packing f.code f.place 0) state
  fresh_refused bad = by (check_alone parameters) refl
    where
      by : (c : Check) → check_alone parameters ≡ c → Ends (packing f.code f.place 0) state
      by (Ok _) e = absurd (bad (by_check (Ok tt) e).0)
      by (Err fault) e = let t = by_check (Err fault) e in rw (t.0, t.1) (unfold house_fresh check_fresh fresh_imaged in rw e)

  passed : f.code ≡ 0 → check_alone parameters ≡ Ok tt
  passed good = by (check_alone parameters) refl
    where
      by : (c : Check) → check_alone parameters ≡ c → check_alone parameters ≡ Ok tt
      by (Ok _) e = e
      by (Err fault) e = absurd (omega (arith, some_number fault.why, good, (by_check (Err fault) e).0))

  pub fresh_made : f.code ≡ 0 → length state ≡ 56 → Ends (packing 0 0 0) (image f.state)
  unfolding house_fresh check_fresh fresh_imaged
  fresh_made good long = rw (passed good, eq-eqb (length state) 56 long, given) refl

  pub fresh_short : f.code ≡ 0 → (length state ≡ 56 → ⊥) → Ends (refused_number ShortBuffer 0) state
  unfolding house_fresh check_fresh fresh_imaged
  fresh_short good other = rw (passed good, ne_eqb (length state) 56 other) refl

-- ---- a change

module _ (state inputs r a : List ℕ) where
  pub change_done : is_image state ≡ true → (w : Whole) → w ≡ change_call (state_in state) inputs r a → imaged_run_by (packed w.report) (image w.report.state) w.records w.answers ≡ house_change state inputs r a
  unfolding house_change change_imaged imaged
  change_done h w e = rw (h, e) refl

  -- 12 and 8: the image of the state that comes back is the one that was lent
  pub change_lent_badly : is_image state ≡ true → (why : Refusal) (place : ℕ) → check_lent inputs r a ≡ refused_with why place → imaged_run_by (refused_number why place) state r a ≡ house_change state inputs r a
  unfolding house_change change_imaged imaged change_call change_by check_change packed
  change_lent_badly h why place e = rw (h, accepted_is_sound state h, e, accepted_is_the_image state h) refl

  pub change_no_image : is_image state ≡ false → imaged_run_by (refused_number UnsoundState 0) state r a ≡ house_change state inputs r a
  unfolding house_change change_imaged
  change_no_image h = rw h refl

-- ---- a clock move

module _ (state : List ℕ) (stamp : ℕ) (r : List ℕ) where
  pub move_no_image : is_image state ≡ false → imaged_move_by (refused_number UnsoundState 0) state r ≡ house_move state stamp r
  unfolding house_move check_move move_by
  move_no_image h = rw h refl

  module _ (is : is_image state ≡ true) where
    pub move_late : stamp_in_range (state_in state).clock stamp ≡ false → imaged_move_by (refused_number BadStamp 0) state r ≡ house_move state stamp r
    unfolding house_move check_move move_by
    move_late late = rw (is, late) refl

    module _ (timely : stamp_in_range (state_in state).clock stamp ≡ true) where
      pub move_short : length r < 16 → imaged_move_by (refused_number ShortBuffer 0) state r ≡ house_move state stamp r
      unfolding house_move check_move move_by
      move_short short = rw (is, timely, lt-leb 16 (length r) short) refl

      pub move_made : 16 ≤ length r → (m : Clocked) → m ≡ clocked (clock_move (state_in state) stamp) →
          (r₁ : List ℕ) → r₁ ≡ splice r 0 (records_octets (take m.notes.count m.notes.records)) →
          imaged_move_by (packing 0 0 m.notes.count) (image m.state) r₁ ≡ house_move state stamp r
      unfolding house_move check_move move_by move_imaged move_done
      move_made room m g r₁ put =
          let s : State = state_in state in
          rw (is, timely, le-leb 16 (length r) room, good_is_made s stamp (accepted_is_sound state is) timely, used_places 2 (clock_move s stamp).records (a_move_writes_at_most_two s stamp), put, moved_records s stamp m g, moved_count s stamp m g, moved_state s stamp m g, splice_front r) refl

-- ---- a run, with its end state as an image

module _ (file state r a : List ℕ) where
  pub run_to_short : (length state ≡ 56 → ⊥) → imaged_run_by (short_number file) state r a ≡ house_run_to file state r a
  unfolding house_run_to check_run_to short_number read_call run_imaged
  run_to_short other = rw (verdict_if_lent (lent_enough file r a) (read_file file), ne_eqb (length state) 56 other) (by (verdict (read_file file)) (lent_enough file r a))
    where
      by : (c : Check) (b : Bool) → imaged_run_by (short_by c) state r a ≡ run_imaged (or_else (or_else c (cond b (Ok tt) (refused_with ShortBuffer 0))) (refused_with ShortBuffer 0)) file state r a
      by (Err fault) b = refl
      by (Ok _) true = refl
      by (Ok _) false = refl

  module _ (long : length state ≡ 56) (w : Whole) (ran : w ≡ run_call file r a) where
    told : (x : Reading Cue) → read_call file r a ≡ x → w.report.code ≡ code_of (verdict x)
    told x e = rw (ran, ← e) (run_is_read file r a).0

    pub run_to_refused : (w.report.code ≡ 0 → ⊥) → imaged_run_by (packed w.report) state w.records w.answers ≡ house_run_to file state r a
    unfolding run_call run_by house_run_to check_run_to run_imaged refused packed
    run_to_refused bad = by (read_call file r a) refl
      where
        by : (x : Reading Cue) → read_call file r a ≡ x → imaged_run_by (packed w.report) state w.records w.answers ≡ house_run_to file state r a
        by (cues list) e = absurd (bad (told (cues list) e))
        by (readings.bad why place) e = rw (ran, e) refl

    pub run_to_done : w.report.code ≡ 0 → imaged_run_by (packed w.report) (image w.report.state) w.records w.answers ≡ house_run_to file state r a
    unfolding house_run_to check_run_to run_imaged imaged
    run_to_done good = by (read_call file r a) refl
      where
        by : (x : Reading Cue) → read_call file r a ≡ x → imaged_run_by (packed w.report) (image w.report.state) w.records w.answers ≡ house_run_to file state r a
        by (cues list) e = rw (e, eq-eqb (length state) 56 long, ran) refl
        by (readings.bad why place) e = let code : w.report.code ≡ number why = told (readings.bad why place) e in absurd (omega (arith, some_number why, good, code))
