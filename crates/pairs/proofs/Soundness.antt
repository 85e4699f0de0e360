-- A sound pair stays sound: what is recorded is stamped in order, from the clock of the actuator on, and so the sensor's clock follows it.
use Rattle.std.specs.Prelude.{Option, Some, None, Bool}
use Prim.Native.Nat.{ℕ, ◌≤◌}
use mathlib.Core.Bool.{true, ◌&&◌}
use mathlib.Core.List.{List, [], ◌∷◌, ◌++◌}
use mathlib.Core.Logic.{◌↔◌}
use mathlib.Core.Path.{◌≡◌, refl}
use native.Mathlib.Omega.{arith}
use borrow.Author.Tests.{leb-true, le-leb}
use Rattle.base.proofs.Tests.{both, either_way}
use Rattle.rules.specs.declared.parameters.Params.{Params}
use Rattle.rules.specs.declared.parameters.Scene.{Scene}
use Rattle.rules.specs.declared.input.Input.{Input}
use Rattle.rules.specs.declared.input.Input.TheVariants.{SwitchOnOff}
use Rattle.rules.specs.declared.barrier.Barrier.{Barrier}
use Rattle.rules.specs.declared.barrier.Barrier.TheVariants.{Open, Notes, Stopped}
use Rattle.rules.specs.declared.state.State.{State}
use Rattle.rules.specs.declared.record.Record.{Record}
use Rattle.rules.specs.Inputs.{kind, scene_number}
use Rattle.rules.specs.Parameters.{params_in_range}
use Rattle.rules.specs.Scenes.{scenes_in_range}
use Rattle.rules.specs.Orders.{order, noted}
use Rattle.rules.specs.Barriers.{barrier}
use Rattle.rules.specs.Status.{record_of, by_itself, same_status, written}
use Rattle.rules.specs.Steps.{fresh, tick, ticked, clock_move, counted, meet, act, step}
use Rattle.rules.specs.Lists.{still}
use Rattle.rules.specs.Soundness.{sound}
use Rattle.rules.proofs.Laws.Deadlines.{soon_within}
use Rattle.rules.proofs.Laws.Steps.{tick_case}
use Rattle.rules.proofs.Laws.Orders.{order_leaves, noted_leaves}
use Rattle.rules.proofs.Laws.Soundness.{sound_view, fresh_is_sound, tick_is_sound, tick_clock, move_is_sound, move_clock, step_is_sound, step_clock}
use Rattle.rules.proofs.Promises.Stamps.{step_records}
use Rattle.sensor.specs.declared.signal.Signal.{Signal}
use Rattle.sensor.specs.declared.signal.Signal.TheVariants as signal
use Rattle.sensor.specs.declared.state.Sensor.{Sensor}
use Rattle.sensor.specs.declared.react.Reaction.{Reaction}
use Rattle.sensor.specs.Sensors.{sound_sensor}
use Rattle.sensor.specs.Reactions.{hear, react}
use Rattle.sensor.proofs.Sends.{reaction_moves_the_clock}
use Rattle.sensor.proofs.Calls.{sound_exactly_when}
use Rattle.pairs.specs.declared.item.Item.{Item}
use Rattle.pairs.specs.declared.item.Item.TheVariants.{Plain, Button1, Button2}
use Rattle.pairs.specs.Pairs.{Pair, shows, hears, pair_move, tell, told, pressed, pair_step}
use Rattle.pairs.specs.Lists.{pair_start}
use Rattle.pairs.specs.Calls.{pair_sound}
use Rattle.pairs.specs.Refusals.{SoundPair}
use Rattle.pairs.proofs.Halves.{MayGive, item_leaves}
use Rattle.pairs.proofs.Ties.{item_clock}

-- ---- the rules of a sound pair by name

pub sound_pair_exactly_when : (p : Pair) → (pair_sound p ≡ true) ↔ SoundPair p
unfolding pair_sound
sound_pair_exactly_when p = (
  λ h. let e = both (sound p.actuator && sound_sensor p.sensor) _ h in let f = both (sound p.actuator) _ e.0 in
      record { actuator = f.0; sensor = (sound_exactly_when p.sensor).0 f.1; behind = leb-true _ _ e.1 },
  λ g. simp (g.actuator, (sound_exactly_when p.sensor).1 g.sensor, le-leb p.sensor.clock p.actuator.clock g.behind),
)

-- ---- stamps

-- the stamps never fall, from `first` on, and none passes `last`
abbrev pub StampsRise : ℕ → List Record → ℕ → Type 0
StampsRise first [] last = first ≤ last
StampsRise first (r ∷ later) last = (first ≤ r.stamp) × StampsRise r.stamp later last

rise_from_earlier : (first next : ℕ) (l : List Record) (last : ℕ) → first ≤ next → StampsRise next l last → StampsRise first l last
rise_from_earlier first next [] last h g = omega arith
rise_from_earlier first next (r ∷ later) last h g = (omega (arith, g.0), g.1)

rise_join : (first mid last : ℕ) (k l : List Record) → StampsRise first k mid → StampsRise mid l last → StampsRise first (k ++ l) last
rise_join first mid last [] l f g = rise_from_earlier first mid l last f g
rise_join first mid last (r ∷ k) l f g = (f.0, rise_join r.stamp mid last k l f.1 g)

-- a record has the clock of the state that it is written of
written_rises : (cause : ℕ) (before after : State) (first last : ℕ) → first ≤ after.clock → after.clock ≤ last → StampsRise first (written cause before after) last
unfolding written record_of
written_rises cause before after first last h g = either_way (λ (l : List Record). StampsRise first l last) (same_status before after) _ _ (omega arith) (h, g)

-- a timer of a sound state lies ahead
tick_forward : (s : State) (t : ℕ) → sound s ≡ true → s.clock ≤ (tick s t).clock
tick_forward s t h =
    tick_case (λ (u : State). s.clock ≤ u.clock) s t (λ d e past. omega (arith, soon_within s.clock d (rw e at (sound_view s h).soon))) (λ quiet. omega arith)

tick_rises : (s : State) (t : ℕ) → sound s ≡ true → StampsRise s.clock (written by_itself s (tick s t)) (tick s t).clock
tick_rises s t h = written_rises by_itself s (tick s t) s.clock (tick s t).clock (tick_forward s t h) (omega arith)

-- the records of a move lie between the two clocks, in order
pub a_move_records_in_order : (s : State) (t : ℕ) → sound s ≡ true → s.clock ≤ t → t ≤ 864_000 → StampsRise s.clock (clock_move s t).records t
unfolding clock_move ticked
a_move_records_in_order s t h later end =
    let a : State = tick s t in
    let b : State = tick a t in
    let c : State = tick b t in
    let sound-a = tick_is_sound s t h end in
    let sound-b = tick_is_sound a t sound-a end in
    let past = tick_clock b t (tick_clock a t (tick_clock s t later)) in
    rise_join s.clock a.clock t (written by_itself s a) (written by_itself a b ++ written by_itself b c) (tick_rises s t h)
    (rise_join a.clock b.clock t (written by_itself a b) (written by_itself b c) (tick_rises a t sound-a) (written_rises by_itself b c b.clock t (tick_forward b t sound-b) past))

-- so do those of an input
pub a_step_records_in_order : (s : State) (i : Input) (t : ℕ) → sound s ≡ true → s.clock ≤ t → t ≤ 864_000 → StampsRise s.clock (step s i t).records t
a_step_records_in_order s i t h later end =
    let met : State = (clock_move s t).state in
    let left : State = (step s i t).state in
    let here : left.clock ≡ t = step_clock s i t in
    rw (step_records s i t)
    (rise_join s.clock t t (clock_move s t).records (written (kind i) met left) (a_move_records_in_order s t h later end) (written_rises (kind i) met left t t (omega arith) (omega arith)))

-- and while the clock stands all is stamped at it
acted_in_order : (s : State) (i : Input) → StampsRise s.clock (act (still s) i).records s.clock
unfolding act meet counted
acted_in_order s i = by (barrier s i)
  where
    by : (b : Barrier) → StampsRise s.clock (meet b (still s) i).records s.clock
    by Open = let here = (order_leaves s i).clock in written_rises (kind i) s (order s i) s.clock s.clock (omega (arith, here)) (omega (arith, here))
    by Notes = let here = (noted_leaves s i).clock in written_rises (kind i) s (noted s i) s.clock s.clock (omega (arith, here)) (omega (arith, here))
    by (Stopped why) = omega arith

-- ---- what is heard

-- the sensor's clock is never put back, nor past the last of them
pub heard_in_time : (l : List Record) (z : Sensor) (last : ℕ) → StampsRise z.clock l last → (z.clock ≤ (hears l z).clock) × ((hears l z).clock ≤ last)
unfolding hears hear
heard_in_time [] z last g = (omega arith, g)
heard_in_time (r ∷ later) z last g =
    let rest = heard_in_time later (hear z r.stamp (shows r)) last g.1 in
    (omega (arith, g.0, rest.0), rest.1)

heard_from : (first : ℕ) (l : List Record) (z : Sensor) (last : ℕ) → z.clock ≤ first → StampsRise first l last → (z.clock ≤ (hears l z).clock) × ((hears l z).clock ≤ last)
heard_from first l z last h g = heard_in_time l z last (rise_from_earlier z.clock first l last h g)

module _ (p : Pair) (t : ℕ) (safe : SoundPair p) (later : p.actuator.clock ≤ t) (end : t ≤ 864_000) where
  -- the sensor's clock goes forward, to the actuator's at most
  abbrev InTime : Sensor → Type 0
  InTime z = (p.sensor.clock ≤ z.clock) × (z.clock ≤ t)

  pub a_move_is_heard_in_time : InTime (pair_move p t).pair.sensor
  unfolding pair_move
  a_move_is_heard_in_time = heard_from p.actuator.clock _ p.sensor t safe.behind (a_move_records_in_order p.actuator t safe.actuator later end)

  -- an edge is taken at t, and so is the record of its telegram
  press_in_time : (s : Signal) → InTime (pressed p s t).pair.sensor
  unfolding pressed told
  press_in_time s = by r.telegram
    where
      r : Reaction
      r = react (pair_move p t).pair.sensor s t

      here : r.sensor.clock ≡ t
      here = reaction_moves_the_clock (pair_move p t).pair.sensor s t

      there : (pair_move p t).pair.actuator.clock ≡ t
      there = unfold pair_move in move_clock p.actuator t

      by : (sent : Option Bool) → InTime (tell sent (pair_move p t) r.sensor).pair.sensor
      by None = unfold tell in (omega (arith, here, safe.behind, later), omega (arith, here))
      by (Some value) =
          let h = heard_from t (act (still (pair_move p t).pair.actuator) (SwitchOnOff value)).records r.sensor t (omega (arith, here)) (rw there at (acted_in_order (pair_move p t).pair.actuator (SwitchOnOff value))) in
          unfold tell in (omega (arith, here, safe.behind, later, h.0), h.1)

  pub an_item_is_heard_in_time : (i : Item) → InTime (pair_step p i t).pair.sensor
  unfolding pair_step
  an_item_is_heard_in_time (Plain i) = heard_from p.actuator.clock _ p.sensor t safe.behind (a_step_records_in_order p.actuator i t safe.actuator later end)
  an_item_is_heard_in_time (Button1 edge) = press_in_time (signal.Button1 edge)
  an_item_is_heard_in_time (Button2 edge) = press_in_time (signal.Button2 edge)

-- ---- a sound pair

-- a scene has a number up to 63, as every input that is read has
abbrev pub SceneFits : Item → Type 0
SceneFits (Plain i) = scene_number i ≤ 63
SceneFits (Button1 edge) = Unit {0}
SceneFits (Button2 edge) = Unit {0}

given_fits : (i : Item) (j : Input) → SceneFits i → MayGive i j → scene_number j ≤ 63
given_fits (Plain i) j fits same = rw (← same) fits
given_fits (Button1 edge) j fits given = rw (← given.1) (omega arith)
given_fits (Button2 edge) j fits given = rw (← given.1) (omega arith)

sound_at : (p : Pair) (t : ℕ) → t ≤ 864_000 → sound p.actuator ≡ true → p.actuator.clock ≡ t → p.sensor.clock ≤ t → pair_sound p ≡ true
sound_at p t end safe here heard = (sound_pair_exactly_when p).1 (record { actuator = safe; sensor = omega arith; behind = omega arith })

pub pair_move_keeps_sound : (p : Pair) (t : ℕ) → pair_sound p ≡ true → p.actuator.clock ≤ t → t ≤ 864_000 → pair_sound (pair_move p t).pair ≡ true
pair_move_keeps_sound p t safe later end =
    let view = (sound_pair_exactly_when p).0 safe in
    sound_at (pair_move p t).pair t end (unfold pair_move in move_is_sound p.actuator t view.actuator later end) (unfold pair_move in move_clock p.actuator t) (a_move_is_heard_in_time p t view later end).1

pub pair_step_keeps_sound : (p : Pair) (i : Item) (t : ℕ) → pair_sound p ≡ true → p.actuator.clock ≤ t → t ≤ 864_000 → SceneFits i → pair_sound (pair_step p i t).pair ≡ true
pair_step_keeps_sound p i t safe later end fits =
    let view = (sound_pair_exactly_when p).0 safe in
    let there = move_is_sound p.actuator t view.actuator later end in
    sound_at (pair_step p i t).pair t end
    (item_leaves (λ (s : State). sound s ≡ true) p i t there (λ j given. step_is_sound p.actuator j t (given_fits i j fits given) view.actuator later end))
    (item_clock p i t) (an_item_is_heard_in_time p t view later end i).1

-- the start record is heard at 0, whatever sensor it is
pub pair_start_is_sound : (k : Params) (scenes : List Scene) (z : Sensor) → params_in_range k ≡ true → scenes_in_range scenes ≡ true → pair_sound (pair_start k scenes z).pair ≡ true
pair_start_is_sound k scenes z params places =
    sound_at (pair_start k scenes z).pair 0 (omega arith) (fresh_is_sound k scenes params places) (unfold fresh in refl) (unfold hears hear record_of fresh in omega arith)
