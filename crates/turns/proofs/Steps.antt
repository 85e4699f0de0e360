-- A step of the pair is the clock's move, the item's turn, and what it asks of the actuator, if anything.
use Rattle.std.specs.Prelude.{Some, None, Option, Bool}
use Prim.Native.Nat.{ℕ}
use mathlib.Core.List.{List, [], ◌∷◌, ◌++◌}
use mathlib.Core.Path.{◌≡◌, refl, sym, ap}
use native.Mathlib.Omega.{arith}
use Rattle.rules.specs.declared.input.Input.{Input}
use Rattle.rules.specs.Steps.{Stepped, act}
use Rattle.rules.specs.Lists.{still}
use Rattle.sensor.specs.declared.signal.Signal.TheVariants as signal
use Rattle.sensor.specs.declared.state.Sensor.{Sensor}
use Rattle.sensor.specs.Reactions.{react}
use Rattle.pairs.specs.declared.item.Item.{Item}
use Rattle.pairs.specs.declared.item.Item.TheVariants.{Plain, Button1, Button2}
use Rattle.pairs.specs.Pairs.{Pair, pair_of, hears, PairMoved, pair_move, PairStepped, tell, told, pressed, pair_step}
use Rattle.pairs.specs.Lists.{PairPlayed}
use Rattle.pairs.specs.Halves.{sent_as, given_of}
use Rattle.pairs.proofs.Playing.{an_item_comes_after_the_timers}
use Rattle.turns.specs.Turns.{decides}

-- nothing is asked: the clock has moved, and the sensor has made of the item what it makes of it
pub record Rests (m : PairMoved) (z : Sensor) (d : PairStepped) : Type 0 where
  pub pair : d.pair ≡ pair_of m.pair.actuator z
  pub answer : d.answer ≡ 1
  pub records : d.records ≡ m.records

-- an input is asked for: it acts while the clock stands, and what it writes is heard
pub record Performs (m : PairMoved) (z : Sensor) (x : Input) (d : PairStepped) : Type 0 where
  pub pair : let a : Stepped = act (still m.pair.actuator) x in d.pair ≡ pair_of a.state (hears a.records z)
  pub answer : d.answer ≡ (act (still m.pair.actuator) x).answer
  pub records : d.records ≡ m.records ++ (act (still m.pair.actuator) x).records

something : {A : Type 0} {x : Input} → Some x ≡ None → A
something e = absurd (let z : ◌≡◌ {A = ℕ} 0 1 = cc in omega arith)

abbrev input_or : Input → Option Input → Input
input_or other (Some x) = x
input_or other None = other

same_input : (x y : Input) → Some x ≡ Some y → x ≡ y
same_input x y e = ap (input_or x) e

-- an edge
module _ (m : PairMoved) (z : Sensor) where
  unasked : (sent : Option Bool) → sent_as sent ≡ None → Rests m z (tell sent m z)
  unfolding tell
  unasked None e = record { pair = refl; answer = refl; records = refl }
  unasked (Some value) e = something e

  asked : (sent : Option Bool) (x : Input) → sent_as sent ≡ Some x → Performs m z x (tell sent m z)
  unfolding tell
  asked None x e = something (sym e)
  asked (Some value) x e = rw (← same_input _ x e) (record { pair = refl; answer = refl; records = refl })

abbrev first_of : List ℕ → ℕ
first_of [] = 0
first_of (a ∷ later) = a

module _ (p : Pair) (t : ℕ) where
  -- an input of the actuator's own
  plain_acts : (i : Input) → Performs (pair_move p t) (pair_move p t).pair.sensor i (pair_step p (Plain i) t)
  plain_acts i =
      let whole = an_item_comes_after_the_timers p (Plain i) t in
      record { pair = ap (λ (a : PairPlayed). a.pair) whole; answer = ap (λ (a : PairPlayed). first_of a.answers) whole; records = ap (λ (a : PairPlayed). a.records) whole }

  pub resting_step : (i : Item) → let z : Sensor = (pair_move p t).pair.sensor in given_of i (decides z i t).telegram ≡ None → Rests (pair_move p t) (decides z i t).sensor (pair_step p i t)
  unfolding pair_step pressed told
  resting_step (Plain i) e = something e
  resting_step (Button1 edge) e = unasked (pair_move p t) _ (react (pair_move p t).pair.sensor (signal.Button1 edge) t).telegram e
  resting_step (Button2 edge) e = unasked (pair_move p t) _ (react (pair_move p t).pair.sensor (signal.Button2 edge) t).telegram e

  pub acting_step : (i : Item) (x : Input) → let z : Sensor = (pair_move p t).pair.sensor in given_of i (decides z i t).telegram ≡ Some x → Performs (pair_move p t) (decides z i t).sensor x (pair_step p i t)
  unfolding pair_step pressed told
  acting_step (Plain i) x e = rw (← same_input i x e) (plain_acts i)
  acting_step (Button1 edge) x e = asked (pair_move p t) _ (react (pair_move p t).pair.sensor (signal.Button1 edge) t).telegram x e
  acting_step (Button2 edge) x e = asked (pair_move p t) _ (react (pair_move p t).pair.sensor (signal.Button2 edge) t).telegram x e
