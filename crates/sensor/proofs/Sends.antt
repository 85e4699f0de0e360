-- What an edge sends: exactly by its action, one or none; and what the sensor keeps of it.
use Rattle.std.specs.Prelude.{Option, Some, None}
use Prim.Native.Nat.{ℕ}
use mathlib.Core.Bool.{Bool}
use mathlib.Core.List.{List, [], ◌∷◌}
use mathlib.Core.Logic.{◌↔◌}
use mathlib.Core.Path.{◌≡◌, refl, sym, ap, ◌∙◌}
use native.Mathlib.Omega.{arith}
use Rattle.sensor.specs.declared.action.Action.{Action}
use Rattle.sensor.specs.declared.action.Action.TheVariants.{Nothing, SendOff, SendOn, SendInverse}
use Rattle.sensor.specs.declared.signal.Edge.TheVariants.{Falling, Rising}
use Rattle.sensor.specs.declared.signal.Signal.{Signal}
use Rattle.sensor.specs.declared.signal.Signal.TheVariants.{Button1, Button2, Status}
use Rattle.sensor.specs.declared.state.Sensor.{Sensor}
use Rattle.sensor.specs.Actions.{action_number}
use Rattle.sensor.specs.Reactions.{sends, hear, last_after, press, action_of_edge1, action_of_edge2, react, Stamped, at, reacts}
use Rattle.sensor.specs.Claims.{EdgeWith, first_rises, first_falls, second_rises, second_falls, SendsBy, asks_for, due, all_due, one_or_none, how_many, value_sent, value_of, last_of}

-- ---- by its action

pub sends_by : (a : Action) (last : Bool) → SendsBy a last (sends a last)
sends_by Nothing last = refl
sends_by SendOff last = refl
sends_by SendOn last = refl
sends_by SendInverse last = refl

pub an_edge_sends_by_its_action : (z : Sensor) (a : Action) (s : Signal) (t : ℕ) → EdgeWith z a s → SendsBy a z.value (react z s t).telegram
unfolding react press
an_edge_sends_by_its_action z a s t first_rises = sends_by z.rising1 z.value
an_edge_sends_by_its_action z a s t first_falls = sends_by z.falling1 z.value
an_edge_sends_by_its_action z a s t second_rises = sends_by z.rising2 z.value
an_edge_sends_by_its_action z a s t second_falls = sends_by z.falling2 z.value

pub a_status_sends_nothing : (z : Sensor) (value : Bool) (t : ℕ) → (react z (Status value) t).telegram ≡ None
unfolding react
a_status_sends_nothing z value t = refl

-- a reaction to an edge is the press of its action
pub an_edge_is_a_press : (z : Sensor) (a : Action) (s : Signal) (t : ℕ) → EdgeWith z a s → react z s t ≡ press z a t
unfolding react
an_edge_is_a_press z a s t first_rises = refl
an_edge_is_a_press z a s t first_falls = refl
an_edge_is_a_press z a s t second_rises = refl
an_edge_is_a_press z a s t second_falls = refl

-- ---- exactly one, or none

silent_is_no_switch : {A : Type 0} {value : Bool} → None ≡ Some value → A
silent_is_no_switch e = absurd (let z : ◌≡◌ {A = ℕ} 0 1 = ap one_or_none e in omega arith)

-- an edge is silent exactly when its action is 0
by_number : (a : Action) (last : Bool) (sent : Option Bool) → SendsBy a last sent → (sent ≡ None) ↔ (action_number a ≡ 0)
by_number Nothing last sent e = (λ f. refl, λ f. e)
by_number SendOff last sent e = (λ f. silent_is_no_switch (sym f ∙ e), λ f. absurd (omega (arith, f)))
by_number SendOn last sent e = (λ f. silent_is_no_switch (sym f ∙ e), λ f. absurd (omega (arith, f)))
by_number SendInverse last sent e = (λ f. silent_is_no_switch (sym f ∙ e), λ f. absurd (omega (arith, f)))

pub an_edge_is_silent_exactly_when : (z : Sensor) (a : Action) (s : Signal) (t : ℕ) → EdgeWith z a s → ((react z s t).telegram ≡ None) ↔ (action_number a ≡ 0)
an_edge_is_silent_exactly_when z a s t e = by_number a z.value _ (an_edge_sends_by_its_action z a s t e)

not_silent : (sent : Option Bool) → (sent ≡ None → ⊥) → (value : Bool) × (sent ≡ Some value)
not_silent None f = absurd (f refl)
not_silent (Some value) f = (value, refl)

pub an_acting_edge_sends_one : (z : Sensor) (a : Action) (s : Signal) (t : ℕ) → EdgeWith z a s → (action_number a ≡ 0 → ⊥) → (value : Bool) × ((react z s t).telegram ≡ Some value)
an_acting_edge_sends_one z a s t e acting = not_silent _ (λ silent. acting ((an_edge_is_silent_exactly_when z a s t e).0 silent))

-- ---- what the sensor keeps: all but the clock and the value

last_after_lem : (sent : Option Bool) (last : Bool) → last_after sent last ≡ last_of last (value_sent sent)
unfolding last_of
last_after_lem None last = refl
last_after_lem (Some value) last = refl

-- whatever the signal, the sensor hears the value that is sent or received, if any is
pub a_reaction_hears : (z : Sensor) (s : Signal) (t : ℕ) → (react z s t).sensor ≡ hear z t (last_of z.value (value_of s (react z s t).telegram))
unfolding react press
a_reaction_hears z (Button1 edge) t = ap (hear z t) (last_after_lem (sends (action_of_edge1 z edge) z.value) z.value)
a_reaction_hears z (Button2 edge) t = ap (hear z t) (last_after_lem (sends (action_of_edge2 z edge) z.value) z.value)
a_reaction_hears z (Status value) t = unfold last_of in refl

pub reaction_moves_the_clock : (z : Sensor) (s : Signal) (t : ℕ) → (react z s t).sensor.clock ≡ t
reaction_moves_the_clock z s t = ap (λ (x : Sensor). x.clock) (a_reaction_hears z s t) ∙ unfold hear in refl

pub reaction_keeps_the_last : (z : Sensor) (s : Signal) (t : ℕ) → (react z s t).sensor.value ≡ last_of z.value (value_of s (react z s t).telegram)
reaction_keeps_the_last z s t = ap (λ (x : Sensor). x.value) (a_reaction_hears z s t) ∙ unfold hear in refl

-- ---- as many as there are edges that act, over a list

heard_due : (z : Sensor) (t : ℕ) (value : Bool) (s : Signal) → due (hear z t value) s ≡ due z s
unfolding hear
heard_due z t value (Button1 Falling) = refl
heard_due z t value (Button1 Rising) = refl
heard_due z t value (Button2 Falling) = refl
heard_due z t value (Button2 Rising) = refl
heard_due z t value (Status on) = refl

heard_all_due : (z : Sensor) (t : ℕ) (value : Bool) (list : List Stamped) → all_due (hear z t value) list ≡ all_due z list
unfolding all_due
heard_all_due z t value [] = refl
heard_all_due z t value (at u s ∷ later) = rw (heard_due z t value s, heard_all_due z t value later) refl

action_due : (a : Action) (last : Bool) → one_or_none (sends a last) ≡ asks_for a
action_due Nothing last = refl
action_due SendOff last = refl
action_due SendOn last = refl
action_due SendInverse last = refl

one_each : (z : Sensor) (s : Signal) (t : ℕ) → one_or_none (react z s t).telegram ≡ due z s
unfolding react press
one_each z (Button1 edge) t = action_due (action_of_edge1 z edge) z.value
one_each z (Button2 edge) t = action_due (action_of_edge2 z edge) z.value
one_each z (Status value) t = refl

pub every_acting_edge_sends_exactly_one : (list : List Stamped) (z : Sensor) → how_many (reacts list z).telegrams ≡ all_due z list
unfolding reacts how_many all_due
every_acting_edge_sends_exactly_one [] z = refl
every_acting_edge_sends_exactly_one (at t s ∷ later) z =
    let rest = every_acting_edge_sends_exactly_one later (react z s t).sensor in
    rw (one_each z s t, rest, a_reaction_hears z s t, heard_all_due z t _ later) refl
