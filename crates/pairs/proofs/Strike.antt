-- "a silent edge (action 0) may be struck and nothing else changes": it leaves the pair at its stamp, and the sensor's clock alone can tell.
use Rattle.std.specs.Prelude.{Option, Some, None}
use Prim.Native.Nat.{ℕ}
use mathlib.Core.Bool.{Bool}
use mathlib.Core.List.{List, [], ◌∷◌, ◌++◌}
use mathlib.Core.Path.{◌≡◌, refl, sym, ap, ◌∙◌}
use Rattle.rules.specs.declared.state.State.{State}
use Rattle.rules.specs.declared.record.Record.{Record}
use Rattle.rules.specs.Steps.{Stepped, clock_move, step}
use Rattle.sensor.specs.declared.signal.Edge.TheVariants.{Falling, Rising}
use Rattle.sensor.specs.declared.signal.Signal.{Signal}
use Rattle.sensor.specs.declared.signal.Signal.TheVariants as signal
use Rattle.sensor.specs.declared.state.Sensor.{Sensor}
use Rattle.sensor.specs.declared.react.Reaction.{Reaction}
use Rattle.sensor.specs.Reactions.{hear, press, react}
use Rattle.sensor.specs.Claims.{value_of, last_of}
use Rattle.sensor.proofs.Sends.{a_reaction_hears}
use Rattle.pairs.specs.declared.item.Item.{Item}
use Rattle.pairs.specs.declared.item.Item.TheVariants.{Plain, Button1, Button2}
use Rattle.pairs.specs.Pairs.{Pair, pair_of, shows, hears, PairMoved, pair_move, PairStepped, tell, told, pressed, pair_step}
use Rattle.pairs.specs.Lists.{Listed, listed, PairPlayed, pair_then, pair_unplayed, pair_stepped, pair_plays, pair_plays_to}
use Rattle.pairs.specs.Halves.{ItemsRise}
use Rattle.pairs.specs.Claims.{IsSilent, SameButClock, Struck, SilentMayBeStruck}
use Rattle.pairs.proofs.Playing.{pair_plays_to_append, pair_plays_to_next, pair_plays_to_end, pair_plays_by_way_of}
use Rattle.pairs.proofs.Halves.{pressed_sends}

-- ---- the sensor's clock decides nothing

-- a sensor without its clock
abbrev timeless : Sensor → Sensor
timeless z = hear z 0 z.value

reacts_timeless : (z : Sensor) (s : Signal) (t : ℕ) → react (timeless z) s t ≡ react z s t
unfolding react press hear
reacts_timeless z (signal.Button1 Falling) t = refl
reacts_timeless z (signal.Button1 Rising) t = refl
reacts_timeless z (signal.Button2 Falling) t = refl
reacts_timeless z (signal.Button2 Rising) t = refl
reacts_timeless z (signal.Status value) t = refl

module _ (y z : Sensor) (alike : SameButClock y z) where
  same_reaction : (s : Signal) (t : ℕ) → react y s t ≡ react z s t
  same_reaction s t = sym (reacts_timeless y s t) ∙ ap (λ (x : Sensor). react x s t) alike.same ∙ reacts_timeless z s t

  same_hearing : (t : ℕ) (value : Bool) → hear y t value ≡ hear z t value
  same_hearing t value = heard_timeless y ∙ ap (λ (x : Sensor). hear x t value) alike.same ∙ sym (heard_timeless z)
    where
      heard_timeless : (x : Sensor) → hear x t value ≡ hear (timeless x) t value
      heard_timeless x = unfold hear in refl

  -- two that have heard a record cannot be told apart any more
  hears_alike : (l : List Record) → SameButClock (hears l y) (hears l z)
  unfolding hears
  hears_alike [] = alike
  hears_alike (r ∷ later) = record { same = ap (λ (x : Sensor). timeless (hears later x)) (same_hearing r.stamp (shows r)) }

-- ---- so two pairs that differ in nothing else play alike

record Alike (a b : PairPlayed) : Type 0 where
  actuator : a.pair.actuator ≡ b.pair.actuator
  sensor : SameButClock a.pair.sensor b.pair.sensor
  answers : a.answers ≡ b.answers
  records : a.records ≡ b.records
  telegrams : a.telegrams ≡ b.telegrams

equal_is_alike : (a b : PairPlayed) → a ≡ b → Alike a b
equal_is_alike a b e = rw e (record { actuator = refl; sensor = record { same = refl }; answers = refl; records = refl; telegrams = refl })

-- an edge is decided by what is heard, and so it is the same
tell_asks_no_sensor : (sent : Option Bool) (s : State) (x y z : Sensor) (l : List Record) → tell sent (record { pair = pair_of s x; records = l }) z ≡ tell sent (record { pair = pair_of s y; records = l }) z
unfolding tell
tell_asks_no_sensor None s x y z l = refl
tell_asks_no_sensor (Some value) s x y z l = refl

same_press : (s : State) (y z : Sensor) → SameButClock y z → (i : Signal) (t : ℕ) → pressed (pair_of s y) i t ≡ pressed (pair_of s z) i t
unfolding pressed told pair_move
same_press s y z alike i t =
    let l : List Record = (clock_move s t).records in
    let e = same_reaction (hears l y) (hears l z) (hears_alike y z alike l) i t in
    let r : Reaction = react (hears l z) i t in
    rw e (tell_asks_no_sensor r.telegram (clock_move s t).state (hears l y) (hears l z) r.sensor l)

-- whatever is played after the same item
after_the_same : (end : ℕ) (later : List Listed) (d e : PairStepped) → d ≡ e → Alike (pair_then (pair_stepped d) (pair_plays_to end later)) (pair_then (pair_stepped e) (pair_plays_to end later))
after_the_same end later d e same = equal_is_alike _ _ (ap (λ (x : PairStepped). pair_then (pair_stepped x) (pair_plays_to end later)) same)

plays_alike : (end : ℕ) (items : List Listed) (s : State) (y z : Sensor) → SameButClock y z → Alike (pair_plays_to end items (pair_of s y)) (pair_plays_to end items (pair_of s z))
unfolding pair_step pair_move
plays_alike end [] s y z alike =
    rw (pair_plays_to_end end (pair_of s y), pair_plays_to_end end (pair_of s z))
    (record { actuator = refl; sensor = hears_alike y z alike (clock_move s end).records; answers = refl; records = refl; telegrams = refl })
plays_alike end (listed t (Plain i) ∷ later) s y z alike =
    let d : Stepped = step s i t in
    let rest = plays_alike end later d.state (hears d.records y) (hears d.records z) (hears_alike y z alike d.records) in
    rw (pair_plays_to_next end t (Plain i) later (pair_of s y), pair_plays_to_next end t (Plain i) later (pair_of s z))
    (record { actuator = rest.actuator; sensor = rest.sensor; answers = rw rest.answers refl; records = rw rest.records refl; telegrams = rw rest.telegrams refl })
plays_alike end (listed t (Button1 edge) ∷ later) s y z alike =
    rw (pair_plays_to_next end t (Button1 edge) later (pair_of s y), pair_plays_to_next end t (Button1 edge) later (pair_of s z))
    (after_the_same end later _ _ (same_press s y z alike (signal.Button1 edge) t))
plays_alike end (listed t (Button2 edge) ∷ later) s y z alike =
    rw (pair_plays_to_next end t (Button2 edge) later (pair_of s y), pair_plays_to_next end t (Button2 edge) later (pair_of s z))
    (after_the_same end later _ _ (same_press s y z alike (signal.Button2 edge) t))

-- ---- a silent edge

-- it leaves what the clock move leaves, but for the sensor's clock
silence_told : (m : PairMoved) (r : Reaction) → r.telegram ≡ None → told m r ≡ record { pair = pair_of m.pair.actuator r.sensor; answer = 1; records = m.records; telegram = None }
unfolding told tell
silence_told m r silent = rw silent refl

abbrev pub moved_only : PairMoved → ℕ → PairStepped
moved_only m t = record { pair = pair_of m.pair.actuator (hear m.pair.sensor t m.pair.sensor.value); answer = 1; records = m.records; telegram = None }

silent_press : (p : Pair) (s : Signal) (t : ℕ) → value_of s None ≡ [] → (pressed p s t).telegram ≡ None → pressed p s t ≡ moved_only (pair_move p t) t
unfolding pressed
silent_press p s t edge silent =
    let z : Sensor = (pair_move p t).pair.sensor in
    let e : (react z s t).telegram ≡ None = sym (pressed_sends p s t) ∙ silent in
    let heard : (react z s t).sensor ≡ hear z t z.value = a_reaction_hears z s t ∙ rw e (rw edge (unfold last_of in refl)) in
    silence_told (pair_move p t) (react z s t) e ∙ rw heard refl

pub a_silent_edge_moves_the_clock_only : (p : Pair) (i : Item) (t : ℕ) → IsSilent p t i → pair_step p i t ≡ moved_only (pair_move p t) t
unfolding pair_step
a_silent_edge_moves_the_clock_only p (Button1 edge) t silent = silent_press p (signal.Button1 edge) t refl silent
a_silent_edge_moves_the_clock_only p (Button2 edge) t silent = silent_press p (signal.Button2 edge) t refl silent
a_silent_edge_moves_the_clock_only p (Plain _) t silent = elim silent [ ]

-- ---- struck from the list

rises_after : (t : ℕ) (i : Item) (later : List Listed) (end : ℕ) (before : List Listed) (last : ℕ) → ItemsRise last (before ++ (listed t i ∷ later)) end → ItemsRise t later end
rises_after t i later end [] last r = r.1
rises_after t i later end (listed u j ∷ before) last r = rises_after t i later end before u r.1

-- what follows the edge is what follows the clock move, and that is what is played without it
module _ (t end : ℕ) (i : Item) (later : List Listed) (p : Pair) (r : ItemsRise t later end) (silent : IsSilent p t i) where
  abbrev by_way : PairPlayed
  by_way = pair_plays_to end later (pair_move p t).pair

  struck_at_the_front : Struck (pair_unplayed p) (pair_plays_to end (listed t i ∷ later) p) (pair_plays_to end later p)
  struck_at_the_front =
      let m : PairMoved = pair_move p t in
      let e = pair_plays_to_next end t i later p ∙ ap (λ (d : PairStepped). pair_then (pair_stepped d) (pair_plays_to end later)) (a_silent_edge_moves_the_clock_only p i t silent) in
      let rest = plays_alike end later m.pair.actuator (hear m.pair.sensor t m.pair.sensor.value) m.pair.sensor (record { same = unfold hear in refl }) in
      rw (e, ← pair_plays_by_way_of t end later p r)
      (record {
        actuator = rest.actuator;
        sensor = rest.sensor;
        records = rw rest.records refl;
        answers_later = by_way.answers;
        whole_answers = rw rest.answers refl;
        struck_answers = refl;
        telegrams_later = by_way.telegrams;
        whole_telegrams = rw rest.telegrams refl;
        struck_telegrams = refl;
      })

-- wherever the edge stands
after_what_came_before : (a whole struck : PairPlayed) → Struck (pair_unplayed a.pair) whole struck → Struck a (pair_then a (λ _. whole)) (pair_then a (λ _. struck))
after_what_came_before a whole struck s =
    record {
      actuator = s.actuator;
      sensor = s.sensor;
      records = rw s.records refl;
      answers_later = s.answers_later;
      whole_answers = rw s.whole_answers refl;
      struck_answers = rw s.struck_answers refl;
      telegrams_later = s.telegrams_later;
      whole_telegrams = rw s.whole_telegrams refl;
      struck_telegrams = rw s.struck_telegrams refl;
    }

pub a_silent_edge_may_be_struck : (end last : ℕ) (items : List Listed) (p : Pair) → ItemsRise last items end → SilentMayBeStruck end items p
a_silent_edge_may_be_struck end last items p r before t i later e silent =
    let a : PairPlayed = pair_plays before p in
    let s = struck_at_the_front t end i later a.pair (rises_after t i later end before last (rw e r)) silent in
    rw (← e, pair_plays_to_append end before (listed t i ∷ later) p, pair_plays_to_append end before later p) (after_what_came_before a _ _ s)
