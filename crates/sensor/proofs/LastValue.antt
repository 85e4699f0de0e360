-- A toggle sends the inverse of the last value sent or received, whichever is later, over any list.
use Rattle.std.specs.Prelude.{Some}
use Prim.Native.Nat.{ℕ}
use mathlib.Core.Bool.{Bool, true, not}
use mathlib.Core.List.{List, [], ◌∷◌, ◌++◌}
use mathlib.Core.Path.{◌≡◌, refl, ap, ◌∙◌}
use Rattle.sensor.specs.declared.action.Action.{Action}
use Rattle.sensor.specs.declared.action.Action.TheVariants.{SendInverse}
use Rattle.sensor.specs.declared.signal.Signal.{Signal}
use Rattle.sensor.specs.declared.state.Sensor.{Sensor}
use Rattle.sensor.specs.Sensors.{fresh_sensor}
use Rattle.sensor.specs.Reactions.{hear, react, Stamped, at, Heard, reacts}
use Rattle.sensor.specs.Claims.{EdgeWith, first_rises, first_falls, second_rises, second_falls, value_of, values, last_of}
use Rattle.sensor.proofs.Sends.{an_edge_sends_by_its_action, a_reaction_hears, reaction_keeps_the_last}

last_of_both : (before : Bool) (a b : List Bool) → last_of (last_of before a) b ≡ last_of before (a ++ b)
unfolding last_of
last_of_both before [] b = refl
last_of_both before (value ∷ later) b = last_of_both value later b

pub the_value_is_the_last_sent_or_received : (list : List Stamped) (z : Sensor) → (reacts list z).sensor.value ≡ last_of z.value (values list z)
unfolding reacts values
the_value_is_the_last_sent_or_received [] z = unfold last_of in refl
the_value_is_the_last_sent_or_received (at t s ∷ later) z =
    let r = react z s t in
    the_value_is_the_last_sent_or_received later r.sensor
    ∙ ap (λ (before : Bool). last_of before (values later r.sensor)) (reaction_keeps_the_last z s t)
    ∙ last_of_both z.value (value_of s r.telegram) (values later r.sensor)

-- "Equal stamps keep list order": a list in two parts is the one, then the other
pub one_part_then_the_other : (a b : List Stamped) (z : Sensor) →
    let early : Heard = reacts a z in
    let late : Heard = reacts b early.sensor in
    reacts (a ++ b) z ≡ record { sensor = late.sensor; telegrams = early.telegrams ++ late.telegrams }
unfolding reacts
one_part_then_the_other [] b z = refl
one_part_then_the_other (at t s ∷ later) b z = rw (one_part_then_the_other later b (react z s t).sensor) refl

-- no signal changes an action
heard_edge : (z : Sensor) (t : ℕ) (value : Bool) (a : Action) (s : Signal) → EdgeWith z a s → EdgeWith (hear z t value) a s
unfolding hear
heard_edge z t value a s first_rises = first_rises
heard_edge z t value a s first_falls = first_falls
heard_edge z t value a s second_rises = second_rises
heard_edge z t value a s second_falls = second_falls

pub an_edge_keeps_its_action : (list : List Stamped) (z : Sensor) (a : Action) (s : Signal) → EdgeWith z a s → EdgeWith (reacts list z).sensor a s
unfolding reacts
an_edge_keeps_its_action [] z a s e = e
an_edge_keeps_its_action (at t r ∷ later) z a s e = an_edge_keeps_its_action later (react z r t).sensor a s (rw (a_reaction_hears z r t) (heard_edge z t _ a s e))

pub a_toggle_sends_the_inverse_of_the_last : (list : List Stamped) (z : Sensor) (s : Signal) (t : ℕ) → EdgeWith z SendInverse s →
    (react (reacts list z).sensor s t).telegram ≡ Some (not (last_of z.value (values list z)))
a_toggle_sends_the_inverse_of_the_last list z s t e =
    an_edge_sends_by_its_action (reacts list z).sensor SendInverse s t (an_edge_keeps_its_action list z SendInverse s e)
    ∙ ap (λ (last : Bool). Some (not last)) (the_value_is_the_last_sent_or_received list z)

-- "the value before any is off": where nothing was sent or received, a toggle of a fresh sensor sends On
pub a_first_toggle_sends_on : (octets : List ℕ) (list : List Stamped) (s : Signal) (t : ℕ) → EdgeWith (fresh_sensor octets) SendInverse s → values list (fresh_sensor octets) ≡ [] →
    (react (reacts list (fresh_sensor octets)).sensor s t).telegram ≡ Some true
a_first_toggle_sends_on octets list s t e none =
    a_toggle_sends_the_inverse_of_the_last list (fresh_sensor octets) s t e ∙ rw none (unfold last_of fresh_sensor in refl)
