-- What the sensor takes. 02, [1]: "The sensor takes stamped edges and status values". They come as 01 lays inputs out, under kinds that the
-- actuator has not.
use Rattle.std.specs.Prelude.{ℕ, Bool, true, false, cond, List, eqb, Option, Some, None}
use Rattle.octets.specs.Groups.{kind_at, value_at, ends_in_zeros}
use Rattle.sensor.specs.declared.signal.Edge.{Edge}
use Rattle.sensor.specs.declared.signal.Edge.TheVariants.{Falling, Rising}
use Rattle.sensor.specs.declared.signal.Signal.{Signal}
use Rattle.sensor.specs.declared.signal.Signal.TheVariants.{Button1, Button2, Status}

-- kind 11 is button 1, kind 12 button 2, kind 13 a status value
abbrev pub signal_kind : Signal → ℕ
signal_kind (Button1 edge) = 11
signal_kind (Button2 edge) = 12
signal_kind (Status on) = 13

-- of a button: 1 rising, 0 falling
abbrev pub edge_number : Edge → ℕ
edge_number Falling = 0
edge_number Rising = 1

abbrev pub edge_of : Bool → Edge
edge_of true = Rising
edge_of false = Falling

-- the value octet of an input; of a status, InfoOnOff (003; DPT 1.001): 1 on, 0 off
abbrev pub signal_value : Signal → ℕ
signal_value (Button1 edge) = edge_number edge
signal_value (Button2 edge) = edge_number edge
signal_value (Status on) = cond on 1 0

unfoldable pub zero_or_one : ℕ → Signal → Signal → Option Signal
zero_or_one value zero one = cond (eqb value 0) (Some zero) (cond (eqb value 1) (Some one) None)

-- what a kind and a value mean
unfoldable pub signalled : ℕ → ℕ → Option Signal
signalled kind value =
    cond (eqb kind 11) (zero_or_one value (Button1 Falling) (Button1 Rising))
    (cond (eqb kind 12) (zero_or_one value (Button2 Falling) (Button2 Rising))
    (cond (eqb kind 13) (zero_or_one value (Status false) (Status true))
    None))

unfoldable pub signal_at : List ℕ → ℕ → Option Signal
signal_at octets at = cond (ends_in_zeros octets at) (signalled (kind_at octets at) (value_at octets at)) None
