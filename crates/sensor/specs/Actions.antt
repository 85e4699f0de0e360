-- The actions of the four edges (02, [1]; 003, Light Switching Sensor Basic, PID 121 to 124).
use Rattle.base.specs.Refusals.{Check, refused_with}
use Rattle.std.specs.Prelude.{ℕ, cond, List, length, eqb, leb, Ok}
use Rattle.octets.specs.BigEndian.{octet}
use Rattle.base.specs.declared.refusal.Refusal.TheVariants.{WrongLength, BadAction}
use Rattle.sensor.specs.declared.action.Action.{Action}
use Rattle.sensor.specs.declared.action.Action.TheVariants.{Nothing, SendOff, SendOn, SendInverse}

-- "each edge with a PBAction (0 nothing, 1 send Off, 2 send On, 3 send the inverse of InfoOnOff)"
abbrev pub action_number : Action → ℕ
action_number Nothing = 0
action_number SendOff = 1
action_number SendOn = 2
action_number SendInverse = 3

-- the action of a number up to 3
unfoldable pub action_of : ℕ → Action
action_of n = cond (eqb n 0) Nothing (cond (eqb n 1) SendOff (cond (eqb n 2) SendOn SendInverse))

unfoldable pub bad_action : ℕ → Check
bad_action place = refused_with BadAction place

-- "11, an action above 3, where 5 stands for the sensor's parameters": the lowest bad octet; 1, as for the actuator's, where there are not
-- as many octets as edges ("two buttons, four edges")
unfoldable pub check_actions : List ℕ → Check
check_actions octets =
    cond (eqb (length octets) 4)
    (cond (leb (octet octets 0) 3)
    (cond (leb (octet octets 1) 3)
    (cond (leb (octet octets 2) 3)
    (cond (leb (octet octets 3) 3) (Ok tt)
    (bad_action 3))
    (bad_action 2))
    (bad_action 1))
    (bad_action 0))
    (refused_with WrongLength 0)
