-- What eight octets of a joined list mean: an input as the actuator takes it, or an edge as the sensor does.
use Rattle.std.specs.Prelude.{Option, Some, None}
use Prim.Native.Nat.{ℕ, ◌≤◌}
use mathlib.Core.Bool.{Bool, true, false, cond}
use mathlib.Core.List.{List, ◌++◌}
use mathlib.Core.Logic.{◌↔◌}
use mathlib.Core.Path.{◌≡◌, refl, sym, ◌∙◌}
use native.Mathlib.Omega.{arith}
use Rattle.octets.specs.Groups.{stamp_at}
use Rattle.base.proofs.Tests.{no}
use Rattle.rules.specs.declared.input.Input.{Input}
use Rattle.rules.specs.declared.input.Input.TheVariants.{SwitchOnOff}
use Rattle.rules.specs.Inputs.{zero_or_one, decoded, input_at}
use Rattle.rules.specs.Steps.{act}
use Rattle.rules.specs.Lists.{still}
use Rattle.rules.proofs.Laws.Inputs.{input_kind, input_number, kind_range}
use Rattle.sensor.specs.declared.signal.Edge.{Edge}
use Rattle.sensor.specs.declared.signal.Signal.{Signal}
use Rattle.sensor.specs.declared.signal.Signal.TheVariants as signal
use Rattle.sensor.specs.declared.state.Sensor.{Sensor}
use Rattle.sensor.specs.Signals.{signal_kind, signal_at}
use Rattle.sensor.specs.Calls.{telegram_octets}
use Rattle.sensor.proofs.Signals.{signal_exactly_when}
use Rattle.sensor.proofs.Telegrams.{what_is_sent}
use Rattle.pairs.specs.declared.item.Item.{Item}
use Rattle.pairs.specs.declared.item.Item.TheVariants.{Plain, Button1, Button2}
use Rattle.pairs.specs.Items.{item_of, item_at}
use Rattle.pairs.specs.Pairs.{hears, PairMoved, PairStepped, tell}
use Rattle.pairs.proofs.Soundness.{SceneFits}

-- whether they mean anything
abbrev pub is_known : Option Item → Bool
is_known (Some i) = true
is_known None = false

pub not_known : {A : Type 0} {i : Item} → None ≡ Some i → A
not_known e = absurd (let z : ◌≡◌ {A = ℕ} 0 1 = cc in omega arith)

pub known_exactly_when : (r : Option Item) → (is_known r ≡ true) ↔ ((i : Item) × (r ≡ Some i))
known_exactly_when (Some i) = (λ h. (i, refl), λ g. refl)
known_exactly_when None = (λ h. no h, λ g. not_known g.1)

-- ---- each as its own device takes it

-- no kind of the sensor's is one of the actuator's
pub signal_kind_is_large : (s : Signal) → 11 ≤ signal_kind s
signal_kind_is_large (signal.Button1 edge) = omega arith
signal_kind_is_large (signal.Button2 edge) = omega arith
signal_kind_is_large (signal.Status value) = omega arith

module _ (octets : List ℕ) (at : ℕ) where
  -- what means something to the sensor means nothing to the actuator
  pub a_signal_is_no_input : (s : Signal) → signal_at octets at ≡ Some s → input_at octets at ≡ None
  a_signal_is_no_input s e = by (input_at octets at) refl
    where
      by : (d : Option Input) → input_at octets at ≡ d → d ≡ None
      by (Some i) m = absurd (omega (arith, input_kind octets at i m, kind_range i, ((signal_exactly_when octets at s).0 e).kind, signal_kind_is_large s))
      by None m = refl

  -- what a reading is, by the item
  abbrev Stands : Option Item → Type 0
  Stands (Some (Plain i)) = input_at octets at ≡ Some i
  Stands (Some (Button1 edge)) = signal_at octets at ≡ Some (signal.Button1 edge)
  Stands (Some (Button2 edge)) = signal_at octets at ≡ Some (signal.Button2 edge)
  Stands None = Unit {0}

  stands : Stands (item_at octets at)
  unfolding item_at
  stands = by (input_at octets at) (signal_at octets at) refl refl
    where
      by : (d : Option Input) (s : Option Signal) → input_at octets at ≡ d → signal_at octets at ≡ s → Stands (item_of d s)
      by (Some i) s e f = e
      by None (Some (signal.Button1 edge)) e f = f
      by None (Some (signal.Button2 edge)) e f = f
      by None (Some (signal.Status value)) e f = tt
      by None None e f = tt

  -- an input is one of the actuator's own
  pub plain_exactly_when : (i : Input) → (item_at octets at ≡ Some (Plain i)) ↔ (input_at octets at ≡ Some i)
  plain_exactly_when i = (λ e. rw e at stands, λ m. unfold item_at in rw m refl)

  -- an edge is one of the sensor's
  pub button1_exactly_when : (edge : Edge) → (item_at octets at ≡ Some (Button1 edge)) ↔ (signal_at octets at ≡ Some (signal.Button1 edge))
  button1_exactly_when edge = (λ e. rw e at stands, λ m. unfold item_at in rw (a_signal_is_no_input (signal.Button1 edge) m, m) refl)

  pub button2_exactly_when : (edge : Edge) → (item_at octets at ≡ Some (Button2 edge)) ↔ (signal_at octets at ≡ Some (signal.Button2 edge))
  button2_exactly_when edge = (λ e. rw e at stands, λ m. unfold item_at in rw (a_signal_is_no_input (signal.Button2 edge) m, m) refl)

  -- "each record is a status", and no other is: one that is listed is refused
  pub a_status_is_unknown : (value : Bool) → signal_at octets at ≡ Some (signal.Status value) → item_at octets at ≡ None
  unfolding item_at
  a_status_is_unknown value m = rw (a_signal_is_no_input (signal.Status value) m, m) refl

-- an input that is read has a scene number up to 63
pub item_fits : (octets : List ℕ) (at : ℕ) (i : Item) → item_at octets at ≡ Some i → SceneFits i
item_fits octets at (Plain i) e = input_number octets at i ((plain_exactly_when octets at i).0 e)
item_fits octets at (Button1 edge) e = tt
item_fits octets at (Button2 edge) e = tt

-- ---- what an edge sends is one of the actuator's own inputs

-- read back from its octets, a telegram is the switch input of its value, at its stamp
pub record ReadsAsSwitch (octets : List ℕ) (t : ℕ) (value : Bool) : Type 0 where
  pub stamp : stamp_at octets 0 ≡ t
  pub meant : input_at octets 0 ≡ Some (SwitchOnOff value)

switch_meant : (value : Bool) → decoded 1 (cond value 1 0) ≡ Some (SwitchOnOff value)
unfolding decoded zero_or_one
switch_meant true = refl
switch_meant false = refl

pub a_telegram_is_a_switch_input : (t : ℕ) (value : Bool) → ReadsAsSwitch (telegram_octets t (Some value)) t value
a_telegram_is_a_switch_input t value = let sent = what_is_sent t value in record { stamp = sent.stamp; meant = unfold input_at in rw (sent.zeros, sent.kind, sent.value) (switch_meant value) }

-- The pair plays exactly that input: what the octets of a telegram mean to the actuator is what acts when the telegram is told, while the
-- clock stands at the edge's stamp; state, answer and records are those of that input.
pub record PlayedAs (i : Input) (m : PairMoved) (z : Sensor) (d : PairStepped) : Type 0 where
  pub state : d.pair.actuator ≡ (act (still m.pair.actuator) i).state
  pub sensor : d.pair.sensor ≡ hears (act (still m.pair.actuator) i).records z
  pub answer : d.answer ≡ (act (still m.pair.actuator) i).answer
  pub records : d.records ≡ m.records ++ (act (still m.pair.actuator) i).records

pub a_telegram_is_played_as_its_octets_mean : (t : ℕ) (value : Bool) (i : Input) → input_at (telegram_octets t (Some value)) 0 ≡ Some i → (m : PairMoved) (z : Sensor) →
    PlayedAs i m z (tell (Some value) m z)
a_telegram_is_played_as_its_octets_mean t value i e m z =
    let read = sym e ∙ (a_telegram_is_a_switch_input t value).meant in
    let same : i ≡ SwitchOnOff value = cc in
    rw same (unfold tell in record { state = refl; sensor = refl; answer = refl; records = refl })
