-- "What an order does depends on its kind and on the phase it meets": an order, and a value that is noted, by the number of its kind and what
-- the input carries. That these are those of the rules is `an_order_is_by_its_kind` and `a_note_is_by_its_kind` (proofs/ByKind.antt).
use Rattle.std.specs.Prelude.{cond, eqb}
use Rattle.rules.specs.declared.input.Input.{Input}
use Rattle.rules.specs.declared.state.State.{State}
use Rattle.rules.specs.Inputs.{kind, scene_number}
use Rattle.rules.specs.Orders.{with_night, with_force, switch, timed, scene, forced, lock_device, night_mode, bus, power}
use Rattle.inputs.specs.Values.{switch_in, teaches, force_in, event_in}

unfoldable pub order_by_kind : State → Input → State
order_by_kind s i =
    cond (eqb (kind i) 1) (switch s (switch_in i))
    (cond (eqb (kind i) 2) (timed s (switch_in i))
    (cond (eqb (kind i) 3) (scene s (teaches i) (scene_number i))
    (cond (eqb (kind i) 4) (forced s (force_in i))
    (cond (eqb (kind i) 5) (lock_device s (switch_in i))
    (cond (eqb (kind i) 6) (night_mode s (switch_in i))
    (cond (eqb (kind i) 7) (bus s s.link (event_in i))
    (cond (eqb (kind i) 8) (power s s.link (event_in i)) s)))))))

unfoldable pub noted_by_kind : State → Input → State
noted_by_kind s i = cond (eqb (kind i) 4) (with_force s (force_in i)) (cond (eqb (kind i) 6) (with_night s (switch_in i)) s)
