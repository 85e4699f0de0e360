-- The turn of an item: an input is told from an edge by its kind, and either asks for what it should.
use Rattle.std.specs.Prelude.{Option, Some, None, Bool}
use Prim.Native.Nat.{ℕ, ◌≤◌, ◌<◌}
use mathlib.Core.List.{List}
use mathlib.Core.Path.{◌≡◌, refl, sym, ap, ◌∙◌}
use native.Mathlib.Omega.{arith}
use Rattle.octets.specs.Groups.{kind_at, value_at}
use Rattle.base.proofs.Tests.{eqb_same}
use Rattle.rules.specs.declared.input.Input.{Input}
use Rattle.rules.specs.declared.input.Input.TheVariants.{SwitchOnOff}
use Rattle.rules.proofs.Laws.Inputs.{input_kind, kind_range, an_input_is_what_its_octets_mean}
use Rattle.sensor.specs.declared.signal.Signal.{Signal}
use Rattle.sensor.specs.declared.signal.Signal.TheVariants as signal
use Rattle.sensor.specs.declared.state.Sensor.{Sensor}
use Rattle.sensor.specs.declared.react.Reaction.{Reaction}
use Rattle.sensor.specs.Reactions.{react}
use Rattle.sensor.specs.Signals.{signal_at}
use Rattle.sensor.proofs.Signals.{signal_exactly_when, not_meant}
use Rattle.inputs.proofs.Meaning.{known_at}
use Rattle.pairs.specs.declared.item.Item.{Item}
use Rattle.pairs.specs.declared.item.Item.TheVariants.{Plain, Button1, Button2}
use Rattle.pairs.specs.Items.{item_at}
use Rattle.pairs.specs.Halves.{sent_as}
use Rattle.pairs.proofs.Items.{signal_kind_is_large, plain_exactly_when, button1_exactly_when, button2_exactly_when}
use Rattle.turns.specs.declared.turn.Turn.{Turn}
use Rattle.turns.specs.Turns.{listened, asked_by, edge_turn, turn_of, Asks, Turned}

-- what an edge sends is asked as a SwitchOnOff
sent_is_asked : (sent : Option Bool) → Asks (asked_by sent) (sent_as sent)
sent_is_asked None = refl
sent_is_asked (Some value) = (SwitchOnOff value, refl, an_input_is_what_its_octets_mean (SwitchOnOff value) (omega arith))

-- the signal that the code reads is the one that stands there
same_signal : (x y : Signal) (d : Option Signal) → d ≡ Some x → d ≡ Some y → x ≡ y
same_signal x y d e f = ap (λ (r : Option Signal). signal_in r) (sym e ∙ f)
  where
    signal_in : Option Signal → Signal
    signal_in (Some s) = s
    signal_in None = x

-- the sensor that has heard all there is stays as it is while it listens
pub all_heard : (records : List ℕ) (count : ℕ) (z : Sensor) → listened records count z count ≡ z
unfolding listened
all_heard records count z = rw (eqb_same count) refl

-- ---- which item it is

module _ (file : List ℕ) (at : ℕ) where
  edge_kind : (s : Signal) → signal_at file at ≡ Some s → 8 < kind_at file at
  edge_kind s e = omega (arith, ((signal_exactly_when file at s).0 e).kind, signal_kind_is_large s)

  input_kind_is_small : (x : Input) → item_at file at ≡ Some (Plain x) → kind_at file at ≤ 8
  input_kind_is_small x e = omega (arith, input_kind file at x ((plain_exactly_when file at x).0 e), kind_range x)

  -- what is neither an input nor an edge is no item
  no_other_item : {A : Type 0} → 8 < kind_at file at → signal_at file at ≡ None → (i : Item) → item_at file at ≡ Some i → A
  no_other_item large wrong (Plain x) e = absurd (omega (arith, input_kind_is_small x e))
  no_other_item large wrong (Button1 edge) e = not_meant (sym wrong ∙ (button1_exactly_when file at edge).0 e)
  no_other_item large wrong (Button2 edge) e = not_meant (sym wrong ∙ (button2_exactly_when file at edge).0 e)

  -- ---- its turn

  module _ (t : ℕ) (records : List ℕ) (count : ℕ) (z : Sensor) (heard : ℕ) where
    abbrev its : Item → Turn
    its i = turn_of i (kind_at file at) (value_at file at) t records count z heard

    -- a kind up to 8: the item is an input
    pub an_input_asks_for_itself : kind_at file at ≤ 8 → (i : Item) → item_at file at ≡ Some i → record { asked = Some (record { kind = kind_at file at; value = value_at file at }); sensor = z; heard = heard } ≡ its i
    unfolding turn_of
    an_input_asks_for_itself small (Plain x) e = refl
    an_input_asks_for_itself small (Button1 edge) e = absurd (omega (arith, edge_kind (signal.Button1 edge) ((button1_exactly_when file at edge).0 e)))
    an_input_asks_for_itself small (Button2 edge) e = absurd (omega (arith, edge_kind (signal.Button2 edge) ((button2_exactly_when file at edge).0 e)))

    -- another kind: the item is an edge
    pub an_edge_is_decided : 8 < kind_at file at → (s : Signal) → signal_at file at ≡ Some s → (i : Item) → item_at file at ≡ Some i → edge_turn (react (listened records count z heard) s t) count ≡ its i
    unfolding turn_of
    an_edge_is_decided large s m (Plain x) e = absurd (omega (arith, input_kind_is_small x e))
    an_edge_is_decided large s m (Button1 edge) e = rw (same_signal s (signal.Button1 edge) (signal_at file at) m ((button1_exactly_when file at edge).0 e)) refl
    an_edge_is_decided large s m (Button2 edge) e = rw (same_signal s (signal.Button2 edge) (signal_at file at) m ((button2_exactly_when file at edge).0 e)) refl

    -- what is neither is no item, whatever it asks for
    pub no_item_asks_for_nothing : 8 < kind_at file at → signal_at file at ≡ None → (i : Item) → item_at file at ≡ Some i → record { asked = None; sensor = z; heard = heard } ≡ its i
    no_item_asks_for_nothing large wrong i e = no_other_item large wrong i e

    -- either asks for what the actuator is to be given, and leaves the sensor that it should
    pub turned : heard ≤ count → (i : Item) → item_at file at ≡ Some i → Turned i t records count z heard (its i)
    unfolding turn_of edge_turn
    turned behind (Plain x) e = let meant = (plain_exactly_when file at x).0 e in record { asks = (x, refl, sym (known_at file at (rw meant refl)) ∙ meant); sensor = refl; behind = behind }
    turned behind (Button1 edge) e =
        let r : Reaction = react (listened records count z heard) (signal.Button1 edge) t in
        record { asks = sent_is_asked r.telegram; sensor = all_heard records count r.sensor; behind = omega arith }
    turned behind (Button2 edge) e =
        let r : Reaction = react (listened records count z heard) (signal.Button2 edge) t in
        record { asks = sent_is_asked r.telegram; sensor = all_heard records count r.sensor; behind = omega arith }
