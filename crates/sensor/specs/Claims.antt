-- What is claimed of the sensor: what an edge sends, when, and how often. Proved in proofs/Sends.antt, Telegrams.antt and
-- LastValue.antt.
use Rattle.std.specs.Prelude.{ℕ, ◌+◌, Bool, true, false, cond, not, List, [], ◌∷◌, ◌++◌, ◌≡◌, eqb, length, Option, Some, None}
use Rattle.octets.specs.Groups.{stamp_at, kind_at, value_at, ends_in_zeros}
use Rattle.sensor.specs.declared.action.Action.{Action}
use Rattle.sensor.specs.declared.action.Action.TheVariants.{Nothing, SendOff, SendOn, SendInverse}
use Rattle.sensor.specs.declared.signal.Edge.TheVariants.{Falling, Rising}
use Rattle.sensor.specs.declared.signal.Signal.{Signal}
use Rattle.sensor.specs.declared.signal.Signal.TheVariants.{Button1, Button2, Status}
use Rattle.sensor.specs.declared.state.Sensor.{Sensor}
use Rattle.sensor.specs.declared.react.Reaction.{Reaction}
use Rattle.sensor.specs.Actions.{action_number}
use Rattle.sensor.specs.Reactions.{action_of_edge1, action_of_edge2, react, Stamped, at}

-- ---- what an edge sends

-- a signal is an edge with this action
pub data EdgeWith (z : Sensor) : Action → Signal → Type 0 where
  first_rises : EdgeWith z z.rising1 (Button1 Rising)
  first_falls : EdgeWith z z.falling1 (Button1 Falling)
  second_rises : EdgeWith z z.rising2 (Button2 Rising)
  second_falls : EdgeWith z z.falling2 (Button2 Falling)

-- an edge sends nothing, Off, On or the inverse of the last value, exactly by its action
abbrev pub SendsBy : Action → Bool → Option Bool → Type 0
SendsBy Nothing last sent = sent ≡ None
SendsBy SendOff last sent = sent ≡ Some false
SendsBy SendOn last sent = sent ≡ Some true
SendsBy SendInverse last sent = sent ≡ Some (not last)

-- how many are sent: every edge whose action is not 0 sends exactly one, and nothing else sends
abbrev pub asks_for : Action → ℕ
asks_for action = cond (eqb (action_number action) 0) 0 1

abbrev pub due : Sensor → Signal → ℕ
due z (Button1 edge) = asks_for (action_of_edge1 z edge)
due z (Button2 edge) = asks_for (action_of_edge2 z edge)
due z (Status value) = 0

unfoldable pub all_due : Sensor → List Stamped → ℕ
all_due z [] = 0
all_due z (at t s ∷ later) = due z s + all_due z later

abbrev pub one_or_none : Option Bool → ℕ
one_or_none None = 0
one_or_none (Some value) = 1

unfoldable pub how_many : List (Option Bool) → ℕ
how_many [] = 0
how_many (sent ∷ later) = one_or_none sent + how_many later

-- ---- "the last value sent or received as InfoOnOff, whichever is later"

-- the values sent or received, in the order of a list: a telegram is sent, a status is received
abbrev pub value_sent : Option Bool → List Bool
value_sent None = []
value_sent (Some value) = value ∷ []

abbrev pub value_of : Signal → Option Bool → List Bool
value_of (Button1 edge) sent = value_sent sent
value_of (Button2 edge) sent = value_sent sent
value_of (Status value) sent = value ∷ []

unfoldable pub values : List Stamped → Sensor → List Bool
values [] z = []
values (at t s ∷ later) z = let r : Reaction = react z s t in value_of s r.telegram ++ values later r.sensor

-- the last of them; `before` where there is none ("the value before any is off")
unfoldable pub last_of : Bool → List Bool → Bool
last_of before [] = before
last_of before (value ∷ later) = last_of value later

-- ---- what is sent, in octets

-- eight octets that are, by 01, the switch input of this value at t
pub record SwitchInput (octets : List ℕ) (t : ℕ) (on : Bool) : Type 0 where
  pub whole : length octets ≡ 8
  pub stamp : stamp_at octets 0 ≡ t
  pub kind : kind_at octets 0 ≡ 1
  pub value : value_at octets 0 ≡ cond on 1 0
  pub zeros : ends_in_zeros octets 0 ≡ true

-- eight that are no input: no kind is 0
abbrev pub silence : List ℕ
silence = 0 ∷ 0 ∷ 0 ∷ 0 ∷ 0 ∷ 0 ∷ 0 ∷ 0 ∷ []

-- what eight octets tell that was sent
unfoldable pub told_by : List ℕ → Option Bool
told_by octets = cond (eqb (kind_at octets 0) 0) None (Some (eqb (value_at octets 0) 1))

-- what an action sends at t; what is sent has the edge's stamp
abbrev pub SentBy : Action → Bool → ℕ → List ℕ → Type 0
SentBy Nothing last t octets = octets ≡ silence
SentBy SendOff last t octets = SwitchInput octets t false
SentBy SendOn last t octets = SwitchInput octets t true
SentBy SendInverse last t octets = SwitchInput octets t (not last)
