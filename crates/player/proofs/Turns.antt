-- The items of a checked list, one after the other: what is known after the first of them, and how the next one keeps it.
use Rattle.std.specs.Prelude.{Option, Some, None, Err, Bool}
use Prim.Native.Nat.{ℕ, suc, ◌+◌, ◌*◌, ◌-◌, ◌≤◌, ◌<◌}
use mathlib.Core.Bool.{true}
use mathlib.Core.List.{List, [], ◌∷◌, ◌++◌, append-nil}
use mathlib.Core.Path.{◌≡◌, refl, sym, ap, ◌∙◌}
use native.Mathlib.Nat.{sub-zero}
use native.Mathlib.Omega.{arith}
use lib.ListN.{length, set, length-append}
use Rattle.octets.specs.Groups.{stamp_at}
use Rattle.octets.specs.Splice.{splice}
use Rattle.rules.specs.declared.parameters.Params.{Params}
use Rattle.rules.specs.declared.parameters.Scene.{Scene}
use Rattle.rules.specs.declared.input.Input.{Input}
use Rattle.rules.specs.declared.state.State.{State}
use Rattle.rules.specs.declared.record.Record.{Record}
use Rattle.rules.specs.Inputs.{decoded}
use Rattle.rules.specs.Barriers.{barrier}
use Rattle.rules.specs.Steps.{clock_move, act}
use Rattle.rules.specs.Lists.{still}
use Rattle.rules.specs.Layout.{input_place}
use Rattle.rules.specs.Readings.{cues, found, read_inputs}
use Rattle.base.specs.Time.{last_stamp}
use Rattle.rules.specs.Runs.{records_octets}
use Rattle.rules.proofs.Laws.Soundness.{move_keeps}
use Rattle.sensor.specs.declared.state.Sensor.{Sensor}
use Rattle.pairs.specs.declared.item.Item.{Item}
use Rattle.pairs.specs.Items.{item_at}
use Rattle.pairs.specs.Halves.{given_of}
use Rattle.pairs.specs.Pairs.{Pair, pair_of, hears, pair_move, PairStepped, pair_step}
use Rattle.pairs.specs.Lists.{Listed, listed, PairPlayed, pair_then, pair_stepped, pair_plays}
use Rattle.pairs.specs.Calls.{pair_sound}
use Rattle.pairs.specs.Walls.{item_in}
use Rattle.pairs.proofs.Playing.{pair_then_assoc}
use Rattle.pairs.proofs.Ties.{item_clock}
use Rattle.pairs.proofs.Soundness.{pair_step_keeps_sound}
use Rattle.pairs.proofs.Items.{item_fits}
use Rattle.pairs.proofs.Reading.{FirstItem, first_item}
use Rattle.pairs.proofs.Refusals.Calls.{an_item_writes_at_most_three}
use Rattle.lamps.specs.declared.lamp.Lamp.{Lamp}
use Rattle.lamps.specs.Lamps.{state_of}
use Rattle.actuator.specs.declared.step.Done.{Done}
use Rattle.actuator.specs.Acts.{fate, done, dropped_by}
use Rattle.records.specs.Notes as noted
use Rattle.records.proofs.Written.{listed_first}
use Rattle.timers.proofs.Moves.{joined}
use Rattle.actuator.proofs.Taken.{dropped_leaves, acting_keeps, later, later_joined}
use Rattle.buffers.proofs.Splices.{records_none, records_more}
use Rattle.buffers.proofs.Standing.{Standing, standing_first, standing_more}
use Rattle.turns.specs.declared.turn.Turn.{Turn}
use Rattle.turns.specs.Turns.{listened, decides, Turned}
use Rattle.turns.proofs.Hearing.{put_is_heard}
use Rattle.turns.proofs.Steps.{Rests, Performs, resting_step, acting_step}
use Rattle.player.specs.declared.items.Moment.{Moment}
use Rattle.player.specs.Playing.{items_from, Ready, Filled, Advanced}

-- ---- after the first i items

-- the answers said and the records written stand in the buffers and have led to this pair, and the items that are left can be read
pub record Going (inputs : List ℕ) (n : ℕ) (start : Pair) (before : ℕ) (records₀ answers₀ records₁ answers₁ : List ℕ) (p : Pair) (k i : ℕ) : Type 0 where
  pub upto : i ≤ n
  pub said : List ℕ
  pub wrote : List Record
  pub sent : List (Option Bool)
  pub later : List Listed
  pub played : pair_plays (items_from inputs n start.actuator.clock) start ≡ pair_then (record { pair = p; answers = said; records = wrote; telegrams = sent }) (pair_plays later)
  pub reads : read_inputs (item_in inputs) inputs (n - i) i p.actuator.clock last_stamp ≡ cues later
  pub safe : pair_sound p ≡ true
  pub stands : Standing before records₀ answers₀ records₁ answers₁ wrote said k i

-- the first item is played before the others
one_played : (done : PairPlayed) (items later : List Listed) (t : ℕ) (i : Item) → items ≡ listed t i ∷ later →
    pair_then done (pair_plays items) ≡ pair_then (pair_then done (λ u. pair_stepped (pair_step u i t))) (pair_plays later)
unfolding pair_plays
one_played done items later t i e = rw e (sym (pair_then_assoc done (λ u. pair_stepped (pair_step u i t)) (pair_plays later)))

module _ (inputs : List ℕ) (n : ℕ) (start : Pair) (before : ℕ) (r₀ a₀ : List ℕ) (ready : Ready inputs n start) where
  pub going_first : Going inputs n start before r₀ a₀ r₀ a₀ start before 0
  going_first =
      record {
        upto = omega arith;
        said = [];
        wrote = [];
        sent = [];
        later = items_from inputs n start.actuator.clock;
        played = refl;
        reads = rw (sub-zero n) ready.reads;
        safe = ready.sound;
        stands = standing_first before r₀ a₀;
      }

  module _ (r a : List ℕ) (p : Pair) (k i : ℕ) (g : Going inputs n start before r₀ a₀ r a p k i) where
    -- the next item, where there is one
    pub next_item : i < n → FirstItem inputs (n - (i + 1)) i p.actuator.clock last_stamp g.later
    next_item h = let left : n - i ≡ suc (n - (i + 1)) = omega arith in first_item inputs _ i _ _ _ (rw left at g.reads)

    -- it is played: its records come after those that were written, its answer after those that were given
    going_step : (h : i < n) → 8 * before ≤ length r₀ → n ≤ length a₀ → let d = pair_step p (next_item h).input (stamp_at inputs (input_place i)) in
        (answer : ℕ) → answer ≡ d.answer → (q : Pair) → q ≡ d.pair → (count : ℕ) → count ≡ k + length d.records
        → (r₁ : List ℕ) → r₁ ≡ splice r (8 * k) (records_octets d.records) → length r₁ ≡ length r
        → Going inputs n start before r₀ a₀ r₁ (set a i answer) q count (i + 1)
    going_step h front enough answer answers q leads count counts r₁ writes long =
        let f = next_item h in
        let t : ℕ = stamp_at inputs (input_place i) in
        let d : PairStepped = pair_step p f.input t in
        rw (answers, leads, counts)
        (record {
          upto = omega arith;
          said = g.said ++ (d.answer ∷ []);
          wrote = g.wrote ++ d.records;
          sent = g.sent ++ (d.telegram ∷ []);
          later = f.later;
          played = g.played ∙ one_played (record { pair = p; answers = g.said; records = g.wrote; telegrams = g.sent }) g.later f.later t f.input f.starts;
          reads = rw (item_clock p f.input t) f.reads;
          safe = pair_step_keeps_sound p f.input t g.safe f.risen f.timely (item_fits inputs (input_place i) f.input f.meant);
          stands = standing_more before r₀ a₀ r a g.wrote d.records g.said d.answer k i g.stands (an_item_writes_at_most_three p f.input t) front (omega arith) r₁ writes long;
        })

    -- and at the end no item is left
    pub going_last : n ≤ i → Filled before (pair_plays (items_from inputs n start.actuator.clock) start) r₀ a₀ p.actuator p.sensor k r a
    unfolding pair_plays read_inputs
    going_last h =
        let None : n - i ≡ 0 = omega (arith, g.upto) in
        let left : g.later ≡ [] = sym (ap found (rw None at g.reads)) in
        let whole : pair_plays (items_from inputs n start.actuator.clock) start ≡ record { pair = p; answers = g.said; records = g.wrote; telegrams = g.sent } = g.played ∙ rw left (simp append-nil) in
        record { state = rw whole; sensor = rw whole; count = rw whole g.stands.count; records = rw whole g.stands.records; answers = rw whole g.stands.answers }

-- ---- one item, as the code has it

-- the input that the code builds is the one that is asked for
abbrev input_in : Option Input → Input → Input
input_in (Some i) other = i
input_in None other = other

same_input : (x y : Input) (d : Option Input) → d ≡ Some x → d ≡ Some y → y ≡ x
same_input x y d e f = ap (λ (z : Option Input). input_in z x) (sym f ∙ e)

-- the clock has moved and the item has had its turn: what the code has, part by part
module _ (p : Params) (table : List Scene) (l : Lamp) (z : Sensor) (heard t before : ℕ) (r r₁ : List ℕ) (m : Moment) (moves : Advanced p l t before r m r₁)
    (behind : heard ≤ before) (room : 8 * before ≤ length r) (i : Item) (u : Turn) (took : Turned i t r₁ m.count z heard u) where
  abbrev met : Pair
  met = pair_of (state_of p table l) (listened r before z heard)

  abbrev gives : PairStepped
  gives = pair_step met i t

  at_the_move : state_of p table m.lamp ≡ (clock_move (state_of p table l) t).state
  at_the_move =
      let kept = move_keeps (state_of p table l) t in
      rw (moves table).lamp (joined (clock_move (state_of p table l) t).state p table (ap (λ (x : State). x.params) kept) (ap (λ (x : State). x.scenes) kept))

  -- the sensor has heard the timers
  heard_there : listened r₁ m.count z heard ≡ (pair_move met t).pair.sensor
  unfolding pair_move
  heard_there = rw (moves table).count (put_is_heard (clock_move (state_of p table l) t).records r r₁ before z heard behind room (moves table).records)

  sensor_there : listened r₁ m.count u.sensor u.heard ≡ (decides (pair_move met t).pair.sensor i t).sensor
  sensor_there = took.sensor ∙ ap (λ (y : Sensor). (decides y i t).sensor) heard_there

  -- nothing is asked
  module _ (silent : u.asked ≡ None) where
    rests : Rests (pair_move met t) (decides (pair_move met t).pair.sensor i t).sensor gives
    rests = resting_step met t i (rw (silent, heard_there) at took.asks)

    pub pair_rests : pair_of (state_of p table m.lamp) (listened r₁ m.count u.sensor u.heard) ≡ gives.pair
    unfolding pair_move
    pair_rests = rw (rests.pair, at_the_move, sensor_there) refl

    pub answer_rests : 1 ≡ gives.answer
    answer_rests = sym rests.answer

    pub count_rests : m.count ≡ before + length gives.records
    unfolding pair_move
    count_rests = rw rests.records (moves table).count

    pub records_rest : r₁ ≡ splice r (8 * before) (records_octets gives.records)
    unfolding pair_move
    records_rest = rw rests.records (moves table).records

  -- an input is asked for
  module _ (kind value : ℕ) (orders : u.asked ≡ Some (record { kind = kind; value = value })) where
    pub asked_for : (x : Input) × (given_of i (decides (pair_move met t).pair.sensor i t).telegram ≡ Some x) × (decoded kind value ≡ Some x)
    asked_for = rw (orders, heard_there) at took.asks

    module _ (x : Input) (means : decoded kind value ≡ Some x) where
      acts : Performs (pair_move met t) (decides (pair_move met t).pair.sensor i t).sensor x gives
      acts = acting_step met t i x (rw (same_input asked_for.0 x (decoded kind value) asked_for.2 means) asked_for.1)

      module _ (d : Done) (does : d ≡ done (act (still (state_of p table m.lamp)) x)) where
        does_there : d ≡ done (later (state_of p table l) x t)
        does_there = rw at_the_move at does

        note_there : noted.listed d.note ≡ (later (state_of p table l) x t).records
        unfolding done
        note_there = rw does_there (listed_first (later (state_of p table l) x t).records (acting_keeps (clock_move (state_of p table l) t).state x).1)

        pub answer_acts : d.answer ≡ gives.answer
        unfolding done pair_move
        answer_acts = rw does_there (sym acts.answer)

        module _ (count : ℕ) (counts : count ≡ m.count + length (noted.listed d.note)) (r₂ : List ℕ) (writes : r₂ ≡ splice r₁ (8 * m.count) (records_octets (noted.listed d.note))) where
          pub count_acts : count ≡ before + length gives.records
          unfolding pair_move
          count_acts =
              let own : length (noted.listed d.note) ≡ length (later (state_of p table l) x t).records = ap (λ (w : List Record). length w) note_there in
              rw (acts.records, length-append) (omega (arith, counts, own, (moves table).count))

          pub records_act : r₂ ≡ splice r (8 * before) (records_octets gives.records)
          unfolding pair_move
          records_act =
              writes
              ∙ rw (note_there, acts.records) (records_more r r₁ (8 * before) (8 * m.count) (clock_move (state_of p table l) t).records (later (state_of p table l) x t).records room (omega (arith, (moves table).count)) (moves table).records)

          -- its own record is heard after the turn
          sensor_acts : 8 * m.count ≤ length r₁ → listened r₂ count u.sensor u.heard ≡ hears (later (state_of p table l) x t).records (decides (pair_move met t).pair.sensor i t).sensor
          sensor_acts enough =
              rw (counts, ← note_there, ← sensor_there) (put_is_heard (noted.listed d.note) r₁ r₂ m.count u.sensor u.heard took.behind enough writes)

          pub pair_acts_lem : 8 * m.count ≤ length r₁ → (left : List Scene) → left ≡ (act (still (state_of p table m.lamp)) x).state.scenes →
              pair_of (state_of p left d.lamp) (listened r₂ count u.sensor u.heard) ≡ gives.pair
          unfolding done pair_move
          pair_acts_lem enough left teaches =
              let state : state_of p left d.lamp ≡ (later (state_of p table l) x t).state = rw (rw at_the_move at teaches, does_there) (later_joined (state_of p table l) x t) in
              rw (state, sensor_acts enough, acts.pair) refl

-- ---- the next item, of what the code has

module _ (inputs : List ℕ) (n : ℕ) (start : Pair) (before : ℕ) (r₀ a₀ : List ℕ) (ready : Ready inputs n start) (p : Params) (table : List Scene) (l : Lamp) (z : Sensor) (heard : ℕ) (r a : List ℕ) (k i : ℕ)
    (g : Going inputs n start before r₀ a₀ r a (pair_of (state_of p table l) (listened r k z heard)) k i) (behind : heard ≤ k) (h : i < n) (front : 8 * before ≤ length r₀) (enough : n ≤ length a₀) (room : 8 * k ≤ length r)
    (m : Moment) (r₁ : List ℕ) (moves : Advanced p l (stamp_at inputs (input_place i)) k r m r₁) (long : length r₁ ≡ length r) (room₁ : 8 * m.count ≤ length r₁)
    (u : Turn) (took : (j : Item) → item_at inputs (input_place i) ≡ Some j → Turned j (stamp_at inputs (input_place i)) r₁ m.count z heard u) where
  abbrev t : ℕ
  t = stamp_at inputs (input_place i)

  abbrev item : Item
  item = (next_item inputs n start before r₀ a₀ ready r a (pair_of (state_of p table l) (listened r k z heard)) k i g h).input

  turned : Turned item t r₁ m.count z heard u
  turned = took item (next_item inputs n start before r₀ a₀ ready r a (pair_of (state_of p table l) (listened r k z heard)) k i g h).meant

  -- an edge that sends nothing
  pub going_rests : u.asked ≡ None → Going inputs n start before r₀ a₀ r₁ (set a i 1) (pair_of (state_of p table m.lamp) (listened r₁ m.count u.sensor u.heard)) m.count (i + 1)
  going_rests silent =
      going_step inputs n start before r₀ a₀ ready r a _ k i g h front enough 1 (answer_rests p table l z heard t k r r₁ m moves behind room item u turned silent)
      _ (pair_rests p table l z heard t k r r₁ m moves behind room item u turned silent)
      m.count (count_rests p table l z heard t k r r₁ m moves behind room item u turned silent)
      r₁ (records_rest p table l z heard t k r r₁ m moves behind room item u turned silent) long

  module _ (kind value : ℕ) (orders : u.asked ≡ Some (record { kind = kind; value = value })) where
    -- what is asked for is an input
    pub going_asks : (x : Input) × (decoded kind value ≡ Some x)
    going_asks = let x = asked_for p table l z heard t k r r₁ m moves behind room item u turned kind value orders in (x.0, x.2)

    module _ (x : Input) (means : decoded kind value ≡ Some x) where
      pub going_acts : (d : Done) → d ≡ done (act (still (state_of p table m.lamp)) x) → (count : ℕ) → count ≡ m.count + length (noted.listed d.note)
          → (r₂ : List ℕ) → r₂ ≡ splice r₁ (8 * m.count) (records_octets (noted.listed d.note)) → length r₂ ≡ length r
          → (left : List Scene) → left ≡ (act (still (state_of p table m.lamp)) x).state.scenes
          → Going inputs n start before r₀ a₀ r₂ (set a i d.answer) (pair_of (state_of p left d.lamp) (listened r₂ count u.sensor u.heard)) count (i + 1)
      going_acts d does count counts r₂ writes same left teaches =
          going_step inputs n start before r₀ a₀ ready r a _ k i g h front enough d.answer (answer_acts p table l z heard t k r r₁ m moves behind room item u turned kind value orders x means d does)
          _ (pair_acts_lem p table l z heard t k r r₁ m moves behind room item u turned kind value orders x means d does count counts r₂ writes room₁ left teaches)
          count (count_acts p table l z heard t k r r₁ m moves behind room item u turned kind value orders x means d does count counts r₂ writes)
          r₂ (records_act p table l z heard t k r r₁ m moves behind room item u turned kind value orders x means d does count counts r₂ writes) same

      -- one that is dropped writes nothing
      pub going_dropped : (answer : ℕ) → fate (barrier (state_of p table m.lamp) x) ≡ Err answer →
          Going inputs n start before r₀ a₀ r₁ (set a i answer) (pair_of (state_of p table m.lamp) (listened r₁ m.count u.sensor u.heard)) m.count (i + 1)
      unfolding dropped_by
      going_dropped answer drops =
          let now : State = state_of p table m.lamp in
          let left = dropped_leaves now x answer drops in
          going_acts (dropped_by now answer) left.0 m.count (omega arith) r₁ (records_none r₁ (8 * m.count)) long table left.1
