-- A whole scene change: cut in two anywhere it is the two changes one after the other, and a refused input leaves no trace.
use Rattle.std.specs.Prelude.{Option, None}
use Prim.Native.Nat.{ℕ, zero, suc, ◌+◌, ◌*◌, ◌-◌, ◌%◌, ◌≤◌, ◌<◌}
use mathlib.Core.Bool.{Bool, true, false, cond}
use mathlib.Core.List.{List, [], ◌∷◌, ◌++◌, append_assoc, append-nil}
use mathlib.Core.Logic.{inl, inr}
use mathlib.Core.Path.{◌≡◌, refl, sym, ap, ◌∙◌}
use native.Mathlib.Omega.{arith}
use lib.ListN.{length, take, drop, length-append, length-drop, length-take, take-append-drop, replicate}
use lib.Seq.{take_at, take_all, drop_at, drop-drop}
use lib.Dec.{eqb}
use borrow.Author.Tests.{eqb-true, eqb-false, ne_eqb}
use Rattle.octets.specs.Groups.{stamp_at}
use Rattle.rules.specs.declared.state.State.{State}
use Rattle.rules.specs.declared.parameters.Scene.{Scene}
use Rattle.rules.specs.declared.input.Input.{Input}
use Rattle.rules.specs.declared.input.Input.TheVariants.{SwitchOnOff, TimedStartStop, NumberedSceneControl, SwitchOnOffForced, LockDevice, NightMode, Bus, Power}
use Rattle.base.specs.declared.refusal.Refusal.{Refusal}
use Rattle.base.specs.declared.refusal.Refusal.TheVariants.{BadInput, BadStamp, ShortBuffer, UnsoundState, WrongGroups}
use Rattle.base.specs.Time.{last_stamp}
use Rattle.base.specs.Refusals.{number, if_not, or_else}
use Rattle.base.proofs.Codes.{some_number}
use Rattle.base.proofs.Tests.{cond_case, either_way}
use Rattle.rules.specs.Phases.{output}
use Rattle.rules.specs.Scenes.{learnt}
use Rattle.rules.specs.Said.{scenes_after}
use Rattle.rules.specs.Steps.{clock_move, step}
use Rattle.rules.specs.Readings.{Reading, cues, verdict, read_inputs}
use Rattle.rules.specs.Files.{cue_at, lent_for}
use Rattle.rules.proofs.Laws.Orders.{order_leaves, noted_leaves}
use Rattle.rules.proofs.Laws.Soundness.{move_keeps, step_case, step_clock}
use Rattle.rules.specs.declared.call.Single.{Single}
use Rattle.rules.specs.Layout.{input_place}
use Rattle.rules.specs.Lists.{Cue, Played, and_then, unplayed, plays}
use Rattle.rules.specs.Calls.{single_call, single_done, single_refused}
use Rattle.rules.specs.Soundness.{sound}
use Rattle.rules.specs.Runs.{records_octets, over, Whole, whole}
use Rattle.rules.specs.Refusals.{stamp_before, InputsWhen, GoodGroups, RoomFor}
use Rattle.rules.specs.Changes.{groups, group_count, groups_in, Singles, single_played, then_others, stopped, goes_on, singles, groups_fit, check_lent, check_change, changed, handed_back, change_by, change_call}
use Rattle.rules.proofs.Laws.Lists.{and_then_from}
use Rattle.rules.proofs.Laws.Records.{an_input_writes_at_most_three}
use Rattle.rules.proofs.Refusals.Calls.{SingleFinds, single_finds, single_refusal_changes_nothing, single_call_keeps_sound, single_call_keeps_version}
use Rattle.rules.proofs.Refusals.Readings.{inputs_decide}
use Rattle.rules.proofs.Refusals.Files.{first_cue_lem}
use Rattle.rules.proofs.Refusals.Runs.{records_length, records_append, room_exactly_when}
use Rattle.rules.proofs.Refusals.Changes.{step_played, groups_exactly_when, looked_at_exactly_when, ends, change_read, all_are_played, played_up_to}
use Rattle.demands.specs.Changes.{then_singles, joined_after, records_left, answers_left, one_then_the_other, Part, GoodPart, GoodParts, inputs_of, change_of, change_played, in_parts, NoPartRefused, RefusedFrom, NothingPlayed, ChangeAnswered, reach, CameTo}
use Rattle.demands.specs.Demands.{Among}
use Rattle.demands.proofs.Meets.{over_length, records_read_back}

-- ---- single inputs, one part and then the other

-- what was played before comes first, whichever way the rest is grouped
then_in_turn : (a : Played) (b : Singles) (others : State → Singles) → then_others a (λ x. then_singles b others) ≡ then_singles (then_others a (λ x. b)) others
then_in_turn a b others = by (eqb b.code 0)
  where
    by : (test : Bool) → then_others a (λ x. cond test (then_others b.played others) b) ≡ cond test (then_others (then_others a (λ x. b)).played others) (then_others a (λ x. b))
    by true = simp append_assoc
    by false = refl

pub one_part_then_the_other : (i : ℕ) (xs ys : List (List ℕ)) (s : State) → singles i (xs ++ ys) s ≡ then_singles (singles i xs s) (singles (i + length xs) ys)
unfolding singles goes_on
one_part_then_the_other i [] ys s = let e : i + 0 ≡ i = omega arith in rw e refl
one_part_then_the_other i (octets ∷ xs) ys s =
    let next : i + 1 + length xs ≡ i + suc (length xs) = omega arith in
    by (eqb r.code 0) refl (rw next at (one_part_then_the_other (i + 1) xs ys r.state))
  where
    r : Single
    r = single_call s octets

    by : (b : Bool) → eqb r.code 0 ≡ b → singles (i + 1) (xs ++ ys) r.state ≡ then_singles (singles (i + 1) xs r.state) (singles (i + suc (length xs)) ys) →
        singles i (octets ∷ (xs ++ ys)) s ≡ then_singles (singles i (octets ∷ xs) s) (singles (i + suc (length xs)) ys)
    by true e rest = rw e (ap (λ (c : Singles). then_others (single_played r) (λ x. c)) rest ∙ then_in_turn (single_played r) (singles (i + 1) xs r.state) (singles (i + suc (length xs)) ys))
    by false e rest = rw (e, e)

-- one of them is accepted, and the others follow; or it is refused, and ends them
single_case : (P : Singles → Type 0) (i : ℕ) (octets : List ℕ) (xs : List (List ℕ)) (s : State) →
    let r : Single = single_call s octets in
    P (then_others (single_played r) (singles (i + 1) xs)) → ((r.code ≡ 0 → ⊥) → P (stopped r.state r.code i)) → P (singles i (octets ∷ xs) s)
unfolding singles goes_on
single_case P i octets xs s f g = cond_case P (eqb (single_call s octets).code 0) _ _ (λ e. f) (λ e. g (eqb-false _ 0 e))

-- ---- how far they come

single_few : (s : State) (octets : List ℕ) → length (single_played (single_call s octets)).records ≤ 3
single_few s octets = by (single_finds s octets)
  where
    by : {r : Single} → SingleFinds s octets r → length (single_played r).records ≤ 3
    by (SingleFinds.not_sound h) = unfold single_refused in omega arith
    by (SingleFinds.wrong h m) = unfold single_refused in omega arith
    by (SingleFinds.untimely x h m t) = unfold single_refused in omega arith
    by (SingleFinds.plays x h m t) = let e = ap (λ (p : Played). length p.records) (step_played s x (stamp_at octets 0)) in omega (arith, e, an_input_writes_at_most_three s x (stamp_at octets 0))

-- none was refused, and the place is 0; or one was, after m of these, and the place is its index. An answer for each that was played, and at most three records.
pub data Ended (i n : ℕ) : Singles → Type 0 where
  none_refused : (p : Played) → length p.answers ≡ n → length p.records ≤ 3 * n → Ended i n (record { played = p; code = 0; place = 0 })
  one_refused : (p : Played) (code place m : ℕ) → (code ≡ 0 → ⊥) → place ≡ i + m → m < n → length p.answers ≡ m → length p.records ≤ 3 * m → Ended i n (record { played = p; code = code; place = place })

later_ended : {i n : ℕ} {c : Singles} (r : Single) → length (single_played r).records ≤ 3 → Ended (i + 1) n c → Ended i (suc n) (then_others (single_played r) (λ x. c))
later_ended r three (none_refused p each few) = none_refused (and_then (single_played r) (λ x. p)) (ap suc each) (rw length-append (omega (arith, three, few)))
later_ended r three (one_refused p code place m bad at less each few) =
    one_refused (and_then (single_played r) (λ x. p)) code place (suc m) bad (omega arith) (omega arith) (ap suc each) (rw length-append (omega (arith, three, few)))

pub singles_end : (i : ℕ) (xs : List (List ℕ)) (s : State) → Ended i (length xs) (singles i xs s)
unfolding singles goes_on
singles_end i [] s = none_refused (unplayed s) refl (omega arith)
singles_end i (octets ∷ xs) s =
    single_case (Ended i (suc (length xs))) i octets xs s
    (later_ended (single_call s octets) (single_few s octets) (singles_end (i + 1) xs (single_call s octets).state))
    (λ bad. one_refused (unplayed _) _ i 0 bad (omega arith) (omega arith) refl (omega arith))

-- an answer for each, where none is refused
pub an_answer_for_each : (i : ℕ) (xs : List (List ℕ)) (s : State) → (singles i xs s).code ≡ 0 → length (singles i xs s).played.answers ≡ length xs
an_answer_for_each i xs s = by (singles_end i xs s)
  where
    by : {c : Singles} → Ended i (length xs) c → c.code ≡ 0 → length c.played.answers ≡ length xs
    by (none_refused p each few) good = each
    by (one_refused p code place m bad at less each few) good = absurd (bad good)

-- where one is refused, as many answers as its index says
pub as_many_answers_as_the_place : (xs : List (List ℕ)) (s : State) → ((singles 0 xs s).code ≡ 0 → ⊥) → length (singles 0 xs s).played.answers ≡ (singles 0 xs s).place
as_many_answers_as_the_place xs s = by (singles_end 0 xs s)
  where
    by : {c : Singles} → Ended 0 (length xs) c → (c.code ≡ 0 → ⊥) → length c.played.answers ≡ c.place
    by (none_refused p each few) bad = absurd (bad refl)
    by (one_refused p code place m bad at less each few) f = omega (arith, each, at)

-- at most three records for each answer, and no more answers than inputs
pub three_for_each : (i : ℕ) (xs : List (List ℕ)) (s : State) → (length (singles i xs s).played.records ≤ 3 * length (singles i xs s).played.answers) × (length (singles i xs s).played.answers ≤ length xs)
three_for_each i xs s = by (singles_end i xs s)
  where
    by : {c : Singles} → Ended i (length xs) c → (length c.played.records ≤ 3 * length c.played.answers) × (length c.played.answers ≤ length xs)
    by (none_refused p each few) = (omega (arith, each, few), omega (arith, each))
    by (one_refused p code place m bad at less each few) = (omega (arith, each, few), omega (arith, each, less))

-- counted from another index, the same but for the place
abbrev shifted : ℕ → Singles → Singles
shifted k c = record { played = c.played; code = c.code; place = cond (eqb c.code 0) 0 (k + c.place) }

counted_from : (k i : ℕ) (xs : List (List ℕ)) (s : State) → singles (k + i) xs s ≡ shifted k (singles i xs s)
unfolding singles goes_on
counted_from k i [] s = refl
counted_from k i (octets ∷ xs) s =
    let next : k + i + 1 ≡ k + (i + 1) = omega arith in
    by (eqb r.code 0) refl (rw next (counted_from k (i + 1) xs r.state))
  where
    r : Single
    r = single_call s octets

    by : (b : Bool) → eqb r.code 0 ≡ b → singles (k + i + 1) xs r.state ≡ shifted k (singles (i + 1) xs r.state) → singles (k + i) (octets ∷ xs) s ≡ shifted k (singles i (octets ∷ xs) s)
    by true e rest = rw (e, rest) refl
    by false e rest = rw (e, e) refl

-- ---- where they lead

-- eight scenes stay eight
learnt_length : (k : List Scene) (number : ℕ) (on : Bool) → length (learnt k number on) ≡ length k
unfolding learnt
learnt_length [] number on = refl
learnt_length (e ∷ rest) number on = either_way (λ (k : List Scene). length k ≡ suc (length rest)) (eqb e.number number) _ _ refl (ap suc (learnt_length rest number on))

scenes_after_length : (s : State) (i : Input) → length (scenes_after s i) ≡ length s.scenes
scenes_after_length s (SwitchOnOff value) = refl
scenes_after_length s (TimedStartStop value) = refl
scenes_after_length s (NumberedSceneControl true n) = either_way (λ (k : List Scene). length k ≡ length s.scenes) s.params.learning _ _ (learnt_length s.scenes n (output s.phase)) refl
scenes_after_length s (NumberedSceneControl false n) = refl
scenes_after_length s (SwitchOnOffForced force) = refl
scenes_after_length s (LockDevice on) = refl
scenes_after_length s (NightMode on) = refl
scenes_after_length s (Bus event) = refl
scenes_after_length s (Power event) = refl

single_scenes : (s : State) (octets : List ℕ) → length (single_call s octets).state.scenes ≡ length s.scenes
single_scenes s octets = by (single_finds s octets)
  where
    moved_scenes : (t : ℕ) → length (clock_move s t).state.scenes ≡ length s.scenes
    moved_scenes t = ap (λ (u : State). length u.scenes) (move_keeps s t)

    by : {r : Single} → SingleFinds s octets r → length r.state.scenes ≡ length s.scenes
    by (SingleFinds.not_sound h) = unfold single_refused in refl
    by (SingleFinds.wrong h m) = unfold single_refused in refl
    by (SingleFinds.untimely x h m t) = unfold single_refused in refl
    by (SingleFinds.plays x h m t) =
        let u : ℕ = stamp_at octets 0 in
        unfold single_done in
        step_case (λ (v : State). length v.scenes ≡ length s.scenes) s x u (λ way. ap (λ (k : List Scene). length k) (order_leaves (clock_move s u).state x).scenes ∙ scenes_after_length (clock_move s u).state x ∙ moved_scenes u) (λ way. ap (λ (k : List Scene). length k) (noted_leaves (clock_move s u).state x).scenes ∙ moved_scenes u) (moved_scenes u)

-- a sound state stays sound, and keeps its parameters, and so its version, and the length of its table
abbrev pub Kept : State → State → Type 0
Kept s u = (sound u ≡ true) × (u.params ≡ s.params) × (length u.scenes ≡ length s.scenes)

pub singles_keep : (i : ℕ) (xs : List (List ℕ)) (s : State) → sound s ≡ true → Kept s (singles i xs s).played.state
unfolding singles goes_on
singles_keep i [] s safe = (safe, refl, refl)
singles_keep i (octets ∷ xs) s safe =
    let here : Kept s (single_call s octets).state = (single_call_keeps_sound s octets safe, single_call_keeps_version s octets, single_scenes s octets) in
    let rest = singles_keep (i + 1) xs (single_call s octets).state here.0 in
    single_case (λ (c : Singles). Kept s c.played.state) i octets xs s (rest.0, rest.1 ∙ here.1, rest.2 ∙ here.2) (λ bad. here)

-- ---- the groups of two strings

groups_length : (n : ℕ) (octets : List ℕ) → length (groups n octets) ≡ n
unfolding groups
groups_length zero octets = refl
groups_length (suc n) octets = ap suc (groups_length n (drop 8 octets))

groups_append : (k n : ℕ) (x y : List ℕ) → length x ≡ 8 * k → groups (k + n) (x ++ y) ≡ groups k x ++ groups n y
unfolding groups
groups_append zero n [] y e = let z : 0 + n ≡ n = omega arith in rw z refl
groups_append zero n (o ∷ x) y e = absurd (omega arith)
groups_append (suc k) n x y e =
    let more : suc k + n ≡ suc (k + n) = omega arith in
    let eight : length (take 8 x) ≡ 8 = length-take 8 x ∙ omega arith in
    let parts : x ++ y ≡ take 8 x ++ (drop 8 x ++ y) = ap (λ (l : List ℕ). l ++ y) (sym (take-append-drop 8 x)) ∙ append_assoc (take 8 x) (drop 8 x) y in
    let rest = groups_append k n (drop 8 x) y (length-drop 8 x ∙ omega arith) in
    rw (more, parts, take_at (take 8 x) (drop 8 x ++ y) 8 eight, drop_at (take 8 x) (drop 8 x ++ y) 8 eight, rest) refl

module _ (x y : List ℕ) (whole : length x % 8 ≡ 0) where
  pub groups_of_both : groups_in (x ++ y) ≡ groups_in x ++ groups_in y
  unfolding groups_in
  groups_of_both =
      let n : group_count (x ++ y) ≡ group_count x + group_count y = rw length-append (omega (arith, whole)) in
      rw n (groups_append (group_count x) (group_count y) x y (omega (arith, whole)))

-- ---- two changes into the same buffers

-- octets, and then others behind them
over_in_turn : (xs ys b : List ℕ) (n : ℕ) → length xs ≡ n → over (xs ++ ys) b ≡ take n (over xs b) ++ over ys (drop n (over xs b))
unfolding over
over_in_turn xs ys b n e =
    rw (take_at xs (drop (length xs) b) n e, drop_at xs (drop (length xs) b) n e, drop-drop (length ys) (length xs) b, length-append) (append_assoc xs ys (drop (length xs + length ys) b))

-- a change that may be played is the single inputs, joined
pub a_change_is_the_single_inputs : (s : State) (inputs r a : List ℕ) → sound s ≡ true → GoodGroups inputs → RoomFor (group_count inputs) r a → change_call s inputs r a ≡ changed (singles 0 (groups_in inputs) s) r a
unfolding change_call change_by
a_change_is_the_single_inputs s inputs r a safe good room = rw ((looked_at_exactly_when s inputs r a).1 (safe, (good, room))) refl

module _ (s : State) (x y r a : List ℕ) (safe : sound s ≡ true) (cut : length x % 8 ≡ 0) (good : GoodGroups (x ++ y)) (room : RoomFor (group_count (x ++ y)) r a) where
  abbrev k : ℕ
  k = group_count x

  abbrev first : Singles
  first = singles 0 (groups_in x) s

  both_lengths : length (x ++ y) ≡ length x + length y
  both_lengths = length-append x y

  k_groups : length (groups_in x) ≡ k
  unfolding groups_in
  k_groups = groups_length k x

  few : length first.played.records ≤ 3 * k
  few = let t = three_for_each 0 (groups_in x) s in omega (arith, t.0, t.1, k_groups)

  one : change_call s x r a ≡ changed first r a
  one =
      a_change_is_the_single_inputs s x r a safe (record { whole = cut; few = omega (arith, both_lengths, good.few) })
      (record { wide = omega (arith, both_lengths, room.wide); long = omega (arith, both_lengths, room.long) })

  all : change_call s (x ++ y) r a ≡ changed (then_singles first (singles k (groups_in y))) r a
  all =
      let zeroth : 0 + length (groups_in x) ≡ k = omega (arith, k_groups) in
      a_change_is_the_single_inputs s (x ++ y) r a safe good room
      ∙ ap (λ (c : Singles). changed c r a) (ap (λ (gs : List (List ℕ)). singles 0 gs s) (groups_of_both x y cut) ∙ one_part_then_the_other 0 (groups_in x) (groups_in y) s ∙ rw zeroth refl)

  -- the first part is refused, and that ends it
  stops : eqb first.code 0 ≡ false → change_call s (x ++ y) r a ≡ one_then_the_other s x y r a
  unfolding changed
  stops e = all ∙ rw (one, e) refl

  -- the first part is accepted: what is left of the buffers has room for the other
  module _ (passed : first.code ≡ 0) where
    abbrev then : State
    then = first.played.state

    abbrev other : Singles
    other = singles 0 (groups_in y) then

    left_records : length (records_left (changed first r a)) ≡ length r - 8 * length first.played.records
    unfolding changed
    left_records =
        let n = records_length first.played.records in
        length-drop (8 * length first.played.records) _ ∙ rw (over_length (records_octets first.played.records) r (omega (arith, n, few, both_lengths, room.wide, good.whole, cut))) refl

    left_answers : length (answers_left k (changed first r a)) ≡ length a - k
    unfolding changed
    left_answers =
        let n : length first.played.answers ≡ k = an_answer_for_each 0 (groups_in x) s passed ∙ k_groups in
        length-drop k _ ∙ rw (over_length first.played.answers a (omega (arith, n, both_lengths, room.long))) refl

    two : change_call then y (records_left (changed first r a)) (answers_left k (changed first r a)) ≡ changed other (records_left (changed first r a)) (answers_left k (changed first r a))
    two =
        a_change_is_the_single_inputs then y _ _ (singles_keep 0 (groups_in x) s safe).0
        (record { whole = omega (arith, both_lengths, cut, good.whole); few = omega (arith, both_lengths, good.few) })
        (record { wide = omega (arith, left_records, few, both_lengths, cut, room.wide); long = omega (arith, left_answers, both_lengths, cut, room.long) })

    joined : changed (then_others first.played (singles k (groups_in y))) r a ≡ joined_after k (changed first r a) (changed other (records_left (changed first r a)) (answers_left k (changed first r a)))
    unfolding changed
    joined =
        let shift : singles k (groups_in y) then ≡ shifted k other = let z : k + 0 ≡ k = omega arith in rw z at (counted_from k 0 (groups_in y) then) in
        let n : length first.played.answers ≡ k = an_answer_for_each 0 (groups_in x) s passed ∙ k_groups in
        rw (shift, records_append first.played.records other.played.records, over_in_turn (records_octets first.played.records) (records_octets other.played.records) r (8 * length first.played.records) (records_length first.played.records), over_in_turn first.played.answers other.played.answers a k n, length-append)
        refl

    goes_on_there : change_call s (x ++ y) r a ≡ one_then_the_other s x y r a
    unfolding changed singles
    goes_on_there =
        let e : eqb first.code 0 ≡ true = rw passed refl in
        let f : (changed first r a).report.code ≡ 0 = unfold changed in passed in
        all ∙ rw (e, one, f) (joined ∙ ap (λ (w : Whole). joined_after k (changed first r a) w) (sym two))

  -- "a change cut in two anywhere is the two changes one after the other"
  pub cut_in_two : change_call s (x ++ y) r a ≡ one_then_the_other s x y r a
  cut_in_two = by (eqb first.code 0) refl
    where
      by : (b : Bool) → eqb first.code 0 ≡ b → change_call s (x ++ y) r a ≡ one_then_the_other s x y r a
      by true e = goes_on_there (eqb-true first.code 0 e)
      by false e = stops e

-- ---- cut into any number of changes

-- where none is refused, none of either part is, and all is the one part and then the other
both_parts : (xs ys : List (List ℕ)) (s : State) → (singles 0 (xs ++ ys) s).code ≡ 0 → let then : State = (singles 0 xs s).played.state in
    ((singles 0 xs s).code ≡ 0) × ((singles 0 ys then).code ≡ 0) × ((singles 0 (xs ++ ys) s).played ≡ and_then (singles 0 xs s).played (λ u. (singles 0 ys u).played))
both_parts xs ys s passed = by (eqb (singles 0 xs s).code 0) refl
  where
    z : length xs + 0 ≡ 0 + length xs
    z = omega arith

    counted : singles (0 + length xs) ys (singles 0 xs s).played.state ≡ shifted (length xs) (singles 0 ys (singles 0 xs s).played.state)
    counted = rw z at (counted_from (length xs) 0 ys (singles 0 xs s).played.state)

    by : (b : Bool) → eqb (singles 0 xs s).code 0 ≡ b → let then : State = (singles 0 xs s).played.state in
        ((singles 0 xs s).code ≡ 0) × ((singles 0 ys then).code ≡ 0) × ((singles 0 (xs ++ ys) s).played ≡ and_then (singles 0 xs s).played (λ u. (singles 0 ys u).played))
    by true e =
        let all : singles 0 (xs ++ ys) s ≡ then_others (singles 0 xs s).played (λ u. shifted (length xs) (singles 0 ys u)) = one_part_then_the_other 0 xs ys s ∙ rw (e, counted) refl in
        (eqb-true _ 0 e, sym (ap (λ (c : Singles). c.code) all) ∙ passed, ap (λ (c : Singles). c.played) all)
    by false e =
        let all : singles 0 (xs ++ ys) s ≡ singles 0 xs s = one_part_then_the_other 0 xs ys s ∙ rw e refl in
        absurd (eqb-false _ 0 e (sym (ap (λ (c : Singles). c.code) all) ∙ passed))

first_of_over : (xs b : List ℕ) (n : ℕ) → length xs ≡ n → take n (over xs b) ≡ xs
unfolding over
first_of_over xs b n e = take_at xs (drop (length xs) b) n e

-- a part whose single inputs are not refused is accepted, and plays them
part_played : (s : State) (p : Part) → sound s ≡ true → GoodPart p → (singles 0 (groups_in p.inputs) s).code ≡ 0 → ((change_of s p).report.code ≡ 0) × (change_played p (change_of s p) ≡ (singles 0 (groups_in p.inputs) s).played)
unfolding changed groups_in
part_played s p safe good passed =
    let c : Singles = singles 0 (groups_in p.inputs) s in
    let n : length c.played.answers ≡ group_count p.inputs = an_answer_for_each 0 (groups_in p.inputs) s passed ∙ groups_length (group_count p.inputs) p.inputs in
    rw (a_change_is_the_single_inputs s p.inputs p.records p.answers safe good.groups good.room)
    (passed, rw (first_of_over c.played.answers p.answers (group_count p.inputs) n, records_read_back c.played.records p.records) refl)

-- whole groups can be cut so: one in each part is one way
pub there_is_a_cut : (n : ℕ) (octets : List ℕ) → length octets ≡ 8 * n → (parts : List Part) × GoodParts parts × (inputs_of parts ≡ octets)
there_is_a_cut zero [] e = ([], tt, refl)
there_is_a_cut zero (x ∷ octets) e = absurd (omega arith)
there_is_a_cut (suc n) octets e =
    let (parts, good, whole) = there_is_a_cut n (drop 8 octets) (length-drop 8 octets ∙ omega arith) in
    let one : Part = record { inputs = take 8 octets; records = replicate 48 0; answers = replicate 1 0 } in
    let eight : length (take 8 octets) ≡ 8 = length-take 8 octets ∙ omega arith in
    let fits : GoodPart one = record { groups = record { whole = omega (arith, eight); few = omega (arith, eight) }; room = record { wide = omega (arith, eight); long = omega (arith, eight) } } in
    (one ∷ parts, (fits, good), rw whole (take-append-drop 8 octets))

-- Single inputs of which none is refused, cut anywhere into changes: none of these is refused, and one after the other they play the same.
pub in_parts_lem : (parts : List Part) (s : State) → GoodParts parts → sound s ≡ true → (singles 0 (groups_in (inputs_of parts)) s).code ≡ 0 →
    NoPartRefused parts s × (in_parts parts s ≡ (singles 0 (groups_in (inputs_of parts)) s).played)
unfolding in_parts
in_parts_lem [] s good safe passed = (tt, unfold groups_in groups singles in refl)
in_parts_lem (p ∷ later) s good safe passed =
    let xs : List (List ℕ) = groups_in p.inputs in
    let cut = groups_of_both p.inputs (inputs_of later) good.0.groups.whole in
    let both = both_parts xs (groups_in (inputs_of later)) s (rw cut at passed) in
    let here = part_played s p safe good.0 both.0 in
    let rest = in_parts_lem later (singles 0 xs s).played.state good.1 (singles_keep 0 xs s safe).0 both.1 in
    let next : (change_of s p).report.state ≡ (singles 0 xs s).played.state = ap (λ (q : Played). q.state) here.1 in
    let same = ap (λ (q : Played). and_then q (in_parts later)) here.1 ∙ and_then_from (singles 0 xs s).played (in_parts later) (λ u. (singles 0 (groups_in (inputs_of later)) u).played) rest.1 in
    ((here.0, rw next rest.0), same ∙ sym both.2 ∙ ap (λ (gs : List (List ℕ)). (singles 0 gs s).played) (sym cut))

-- ---- a refused input leaves no trace

-- where the very first is refused, nothing was played
first_refused : (i : ℕ) (xs : List (List ℕ)) (s : State) → ((singles i xs s).code ≡ 0 → ⊥) → (singles i xs s).place ≡ i → (singles i xs s).played ≡ unplayed s
unfolding singles goes_on
first_refused i [] s bad at = absurd (bad refl)
first_refused i (octets ∷ xs) s bad at =
    single_case (λ (c : Singles). (c.code ≡ 0 → ⊥) → c.place ≡ i → c.played ≡ unplayed s) i octets xs s
    (λ f here. absurd (after (singles_end (i + 1) xs (single_call s octets).state) f here))
    (λ refused f here. ap (λ (r : Single). unplayed r.state) (single_refusal_changes_nothing s octets refused)) bad at
  where
    after : {c : Singles} → Ended (i + 1) (length xs) c → (c.code ≡ 0 → ⊥) → c.place ≡ i → ⊥
    after (none_refused p each few) f e = f refl
    after (one_refused p code place m f at less each few) g e = omega arith

-- so all that was played, up to the refused one, the inputs before it play by themselves
up_to : (xs ys : List (List ℕ)) (s : State) → ((singles 0 (xs ++ ys) s).code ≡ 0 → ⊥) → (singles 0 (xs ++ ys) s).place ≡ length xs →
    ((singles 0 xs s).code ≡ 0) × ((singles 0 (xs ++ ys) s).played ≡ (singles 0 xs s).played)
up_to xs ys s bad at = by (singles 0 xs s) (singles_end 0 xs s) (one_part_then_the_other 0 xs ys s)
  where
    by : (a : Singles) → Ended 0 (length xs) a → singles 0 (xs ++ ys) s ≡ then_singles a (singles (0 + length xs) ys) → (a.code ≡ 0) × ((singles 0 (xs ++ ys) s).played ≡ a.played)
    by a (one_refused p code place m f here less each few) e =
        let stop = ne_eqb code 0 f in
        absurd (let there = rw (e, stop) at at in omega (arith, there, here, less))
    by a (none_refused p each few) e =
        let z : 0 + length xs ≡ length xs = omega arith in
        let f = rw (e, z) at bad in
        let there = rw (e, z) at at in
        (refl, rw (e, z, first_refused (length xs) ys p.state f there) (simp append-nil))

module _ (s : State) (inputs r a : List ℕ) (safe : sound s ≡ true) (good : GoodGroups inputs) (room : RoomFor (group_count inputs) r a) where
  abbrev given : Singles
  given = singles 0 (groups_in inputs) s

  -- the inputs before the refused one
  module _ (bad : given.code ≡ 0 → ⊥) where
    abbrev p : ℕ
    p = given.place

    abbrev before : List ℕ
    before = take (input_place p) inputs

    within : p < group_count inputs
    unfolding groups_in
    within = by (singles_end 0 (groups_in inputs) s) bad
      where
        by : {c : Singles} → Ended 0 (length (groups_in inputs)) c → (c.code ≡ 0 → ⊥) → c.place < group_count inputs
        by (none_refused q each few) f = absurd (f refl)
        by (one_refused q code place m f at less each few) g = omega (arith, at, less, groups_length (group_count inputs) inputs)

    before_length : length before ≡ 8 * p
    before_length = length-take (8 * p) inputs ∙ omega (arith, within, good.whole)

    cut_there : groups_in inputs ≡ groups_in before ++ groups_in (drop (input_place p) inputs)
    cut_there = ap groups_in (sym (take-append-drop (input_place p) inputs)) ∙ groups_of_both before (drop (input_place p) inputs) (omega (arith, before_length))

    p_groups : length (groups_in before) ≡ p
    unfolding groups_in
    p_groups = groups_length (group_count before) before ∙ omega (arith, before_length)

    same : ((singles 0 (groups_in before) s).code ≡ 0) × (given.played ≡ (singles 0 (groups_in before) s).played)
    same =
        let rest : List (List ℕ) = groups_in (drop (input_place p) inputs) in
        let e = up_to (groups_in before) rest s (λ h. bad (ap (λ (gs : List (List ℕ)). (singles 0 gs s).code) cut_there ∙ h)) (sym (ap (λ (gs : List (List ℕ)). (singles 0 gs s).place) cut_there) ∙ sym p_groups) in
        (e.0, ap (λ (gs : List (List ℕ)). (singles 0 gs s).played) cut_there ∙ e.1)

    alone : change_call s before r a ≡ changed (singles 0 (groups_in before) s) r a
    alone =
        a_change_is_the_single_inputs s before r a safe (record { whole = omega (arith, before_length); few = omega (arith, before_length, within, good.few) })
        (record { wide = omega (arith, before_length, within, room.wide); long = omega (arith, before_length, within, room.long) })

    stands : RefusedFrom s inputs r a p
    unfolding changed
    stands =
        let all = a_change_is_the_single_inputs s inputs r a safe good room in
        record {
          accepted = rw alone same.0;
          state = rw (all, alone, same.1) refl;
          count = rw (all, alone, same.1) refl;
          records = rw (all, alone, same.1) refl;
          answers = rw (all, alone, same.1) refl;
        }

-- ---- of every change, whatever it is refused for

-- the clock that playing leads to: the stamp of the last input that was read
read_clock : (inputs : List ℕ) (left i from : ℕ) (s : State) (list : List Cue) → s.clock ≡ stamp_before inputs from i → read_inputs (cue_at inputs) inputs left i s.clock last_stamp ≡ cues list →
    (plays list s).state.clock ≡ stamp_before inputs from (i + left)
unfolding plays
read_clock inputs zero i from s list here read = let None : list ≡ [] = unfold read_inputs in cc in let e : i + 0 ≡ i = omega arith in rw (None, e) here
read_clock inputs (suc left) i from s list here read =
    let f = first_cue_lem inputs left i s.clock last_stamp list read in
    let u : ℕ = stamp_at inputs (input_place i) in
    let clock = step_clock s f.input u in
    let next : u ≡ stamp_before inputs from (i + 1) = let e : i + 1 ≡ suc i = omega arith in rw e refl in
    let e : i + suc left ≡ i + 1 + left = omega arith in
    rw (f.starts, e) (read_clock inputs left (i + 1) from (step s f.input u).state f.later (clock ∙ next) (rw clock f.reads))

clock_of_the_last : (inputs : List ℕ) (n : ℕ) (s : State) (list : List Cue) → read_inputs (cue_at inputs) inputs n 0 s.clock last_stamp ≡ cues list → (plays list s).state.clock ≡ stamp_before inputs s.clock n
clock_of_the_last inputs n s list read = let z : 0 + n ≡ n = omega arith in rw z at (read_clock inputs n 0 s.clock s list refl read)

-- an input is refused with 6 or 7
met_with : {A : Type 0} (at : ℕ → Option A) (inputs : List ℕ) (n from to : ℕ) (why : Refusal) (p : ℕ) → InputsWhen at inputs n from to why p → Among (number why) (6 ∷ 7 ∷ [])
met_with at inputs n from to BadInput p g = inl refl
met_with at inputs n from to BadStamp p g = inr (inl refl)
met_with {A = A} at inputs n from to _ p g = elim g [ ]

-- the codes of a change as a whole and those of an input are apart
under_8 : (code : ℕ) → Among code (0 ∷ 6 ∷ 7 ∷ []) → code < 8
under_8 code (inl a) = omega arith
under_8 code (inr (inl a)) = omega arith
under_8 code (inr (inr (inl a))) = omega arith
under_8 code (inr (inr (inr x3))) = elim x3 [ ]

pub no_two_codes : (code : ℕ) → Among code (9 ∷ 12 ∷ 8 ∷ []) → Among code (0 ∷ 6 ∷ 7 ∷ []) → ⊥
no_two_codes code (inl a) other = omega (arith, under_8 code other)
no_two_codes code (inr (inl a)) other = omega (arith, under_8 code other)
no_two_codes code (inr (inr (inl a))) other = omega (arith, under_8 code other)
no_two_codes code (inr (inr (inr x4))) other = elim x4 [ ]

some_code : (code : ℕ) → Among code (6 ∷ 7 ∷ []) → code ≡ 0 → ⊥
some_code code (inl a) e = omega arith
some_code code (inr (inl a)) e = omega arith
some_code code (inr (inr x3)) e = elim x3 [ ]

module _ (s : State) (inputs r a : List ℕ) where
  by_check : (P : Whole → Type 0) → (sound s ≡ true → GoodGroups inputs → RoomFor (group_count inputs) r a → P (changed (singles 0 (groups_in inputs) s) r a)) →
      ((why : Refusal) → Among (number why) (9 ∷ 12 ∷ 8 ∷ []) → P (whole (handed_back s why 0) r a)) → P (change_call s inputs r a)
  unfolding change_call change_by check_change check_lent
  by_check P f g = by (sound s) (groups_fit inputs) (lent_for (group_count inputs) r a) refl refl refl
    where
      by : (b c d : Bool) → sound s ≡ b → groups_fit inputs ≡ c → lent_for (group_count inputs) r a ≡ d → P (change_by (or_else (if_not b UnsoundState) (or_else (if_not c WrongGroups) (if_not d ShortBuffer))) s inputs r a)
      by false c d safe e room = g UnsoundState (inl refl)
      by true false d safe e room = g WrongGroups (inr (inl refl))
      by true true false safe e room = g ShortBuffer (inr (inr (inl refl)))
      by true true true safe e room = f safe ((groups_exactly_when inputs).0 e) ((room_exactly_when (group_count inputs) r a).0 room)

  -- all of them are played; or one is met that 6 or 7 is given for, and those before it are played. The clock is the stamp of the last one played.
  data Met : Singles → Type 0 where
    all_played : (p : Played) → p.state.clock ≡ stamp_before inputs s.clock (group_count inputs) → Met (ends p 0 0)
    one_met : (p : Played) (why : Refusal) (place : ℕ) → Among (number why) (6 ∷ 7 ∷ []) → p.state.clock ≡ stamp_before inputs s.clock place → Met (ends p (number why) place)

  singles_met : sound s ≡ true → Met (singles 0 (groups_in inputs) s)
  unfolding change_read
  singles_met safe = by (change_read s inputs (group_count inputs)) refl
    where
      by : (x : Reading Cue) → change_read s inputs (group_count inputs) ≡ x → Met (singles 0 (groups_in inputs) s)
      by (cues list) e = rw (all_are_played s inputs safe list e) (all_played (plays list s) (clock_of_the_last inputs (group_count inputs) s list e))
      by (Reading.bad why place) e =
          let (list, read, said) = played_up_to s inputs safe why place e in
          let given = ((inputs_decide (cue_at inputs) inputs (group_count inputs) s.clock last_stamp).refused why place).0 (ap verdict e) in
          rw said (one_met (plays list s) why place (met_with _ _ _ _ _ why place given) (clock_of_the_last inputs place s list read))

  -- Every change gets a numbered answer. Refused with 9, 12 or 8 it leaves state and buffers as they were; with 6 or 7 it leaves what the inputs before give.
  pub every_change_is_answered : ChangeAnswered s inputs r a (change_call s inputs r a)
  unfolding changed
  every_change_is_answered =
      by_check (ChangeAnswered s inputs r a) (λ safe good room. played (singles_met safe) (stands s inputs r a safe good room)) (λ why one. inr (inl (one, record { untouched = record { records = refl; answers = refl; count = refl; state = refl }; place = refl })))
    where
      played : {c : Singles} → Met c → ((c.code ≡ 0 → ⊥) → RefusedFrom s inputs r a c.place) → ChangeAnswered s inputs r a (changed c r a)
      played (all_played p clock) from = inl refl
      played (one_met p why place one clock) from = inr (inr (one, from (λ e. omega (arith, some_number why, e))))

  -- by the code: 9, 12 and 8 leave all as it was
  pub refused_as_a_whole : Among (change_call s inputs r a).report.code (9 ∷ 12 ∷ 8 ∷ []) → NothingPlayed s r a (change_call s inputs r a)
  refused_as_a_whole one = by every_change_is_answered
    where
      by : ChangeAnswered s inputs r a (change_call s inputs r a) → NothingPlayed s r a (change_call s inputs r a)
      by (inl e) = absurd (no_two_codes (change_call s inputs r a).report.code one (inl e))
      by (inr (inl whole)) = whole.1
      by (inr (inr input)) = absurd (no_two_codes (change_call s inputs r a).report.code one (inr input.0))

  -- "At a refused input it stops: what went before stands in state and buffers (demand 1 then holds from that input on)": 6 and 7
  pub refused_from_that_input_on : Among (change_call s inputs r a).report.code (6 ∷ 7 ∷ []) → RefusedFrom s inputs r a (change_call s inputs r a).report.place
  refused_from_that_input_on one = by every_change_is_answered
    where
      by : ChangeAnswered s inputs r a (change_call s inputs r a) → RefusedFrom s inputs r a (change_call s inputs r a).report.place
      by (inl e) = absurd (some_code (change_call s inputs r a).report.code one e)
      by (inr (inl whole)) = absurd (no_two_codes (change_call s inputs r a).report.code whole.0 (inr one))
      by (inr (inr input)) = input.1

  -- How far it came, accepted or refused: as many answers as it played inputs, no more than three records for each of them, and the clock of the last one.
  pub how_far_a_change_came : CameTo s inputs r a (change_call s inputs r a) (reach inputs (change_call s inputs r a))
  unfolding changed groups_in
  how_far_a_change_came =
      by_check (λ w. CameTo s inputs r a w (reach inputs w))
      (λ safe good room. came (singles_met safe) (an_answer_for_each 0 (groups_in inputs) s) (as_many_answers_as_the_place (groups_in inputs) s) (three_for_each 0 (groups_in inputs) s))
      (λ why one. nothing why)
    where
      came : {c : Singles} → Met c → (c.code ≡ 0 → length c.played.answers ≡ length (groups_in inputs)) → ((c.code ≡ 0 → ⊥) → length c.played.answers ≡ c.place) → (length c.played.records ≤ 3 * length c.played.answers) × (length c.played.answers ≤ length (groups_in inputs)) →
          CameTo s inputs r a (changed c r a) (reach inputs (changed c r a))
      came (all_played p clock) each place few =
          let n : length p.answers ≡ group_count inputs = each refl ∙ groups_length (group_count inputs) inputs in
          record { within = omega arith; answers = (p.answers, n, refl); records = (p.records, refl, refl); few = omega (arith, n, few.0); clock = clock }
      came (one_met p why place one clock) each m few =
          let bad : number why ≡ 0 → ⊥ = λ e. omega (arith, some_number why, e) in
          let n = m bad in
          rw (ne_eqb (number why) 0 bad) (record { within = omega (arith, n, few.1, groups_length (group_count inputs) inputs); answers = (p.answers, n, refl); records = (p.records, refl, refl); few = omega (arith, n, few.0); clock = clock })

      nothing : (why : Refusal) → let w : Whole = record { report = record { state = s; code = number why; place = 0; count = 0 }; records = r; answers = a } in CameTo s inputs r a w (reach inputs w)
      nothing why =
          let bad : number why ≡ 0 → ⊥ = λ e. omega (arith, some_number why, e) in
          rw (ne_eqb (number why) 0 bad) (record { within = omega arith; answers = ([], refl, unfold over in refl); records = ([], refl, unfold over records_octets in refl); few = omega arith; clock = refl })

  -- what is lent keeps its length, so that nothing is written past its end
  pub a_change_stays_within : (length (change_call s inputs r a).records ≡ length r) × (length (change_call s inputs r a).answers ≡ length a)
  unfolding changed groups_in
  a_change_stays_within =
      by_check (λ w. (length w.records ≡ length r) × (length w.answers ≡ length a))
      (λ safe good room. let c : Singles = singles 0 (groups_in inputs) s in let t = three_for_each 0 (groups_in inputs) s in let n = groups_length (group_count inputs) inputs in (over_length _ r (omega (arith, records_length c.played.records, t.0, t.1, n, room.wide)), over_length _ a (omega (arith, t.1, n, room.long))))
      (λ why one. (refl, refl))

  -- the state that comes back is sound where the given one is, and has its parameters, and so its version, and its eight scenes
  pub a_change_keeps : sound s ≡ true → Kept s (change_call s inputs r a).report.state
  unfolding changed
  a_change_keeps safe = by_check (λ (w : Whole). Kept s w.report.state) (λ h good room. singles_keep 0 (groups_in inputs) s safe) (λ why one. (safe, refl, refl))

  -- place and count have room in the number for C
  pub a_change_is_narrow : ((change_call s inputs r a).report.place < 65_536) × ((change_call s inputs r a).report.count < 4_294_967_296)
  unfolding changed groups_in
  a_change_is_narrow = by_check (λ (w : Whole). (w.report.place < 65_536) × (w.report.count < 4_294_967_296)) (λ safe good room. narrow good (singles_end 0 (groups_in inputs) s)) (λ why one. (omega arith, omega arith))
    where
      narrow : GoodGroups inputs → {c : Singles} → Ended 0 (length (groups_in inputs)) c → (c.place < 65_536) × (length c.played.records < 4_294_967_296)
      narrow good (none_refused p each few) = (omega arith, omega (arith, few, groups_length (group_count inputs) inputs, good.few))
      narrow good (one_refused p code place m f at less each few) = (omega (arith, at, less, groups_length (group_count inputs) inputs, good.few), omega (arith, few, less, groups_length (group_count inputs) inputs, good.few))

-- ---- "One group is a single input."

-- a change of one group: the state and the code of the single input, its records in the buffer, and its answer where it is accepted
pub one_group_is_a_single_input : (s : State) (octets r a : List ℕ) → sound s ≡ true → length octets ≡ 8 → RoomFor 1 r a →
    change_call s octets r a ≡ changed (goes_on (single_call s octets) 0 (λ u. record { played = unplayed u; code = 0; place = 0 })) r a
unfolding groups_in groups singles
one_group_is_a_single_input s octets r a safe eight room =
    let one : group_count octets ≡ 1 = omega (arith, eight) in
    let whole : take 8 octets ≡ octets = take_all 8 octets (omega (arith, eight)) in
    a_change_is_the_single_inputs s octets r a safe (record { whole = omega (arith, eight); few = omega (arith, eight) }) (rw one room)
    ∙ rw (one, whole) refl
