-- Sensors that are shut out, and what each of them breaks.
use Rattle.std.specs.Prelude.{Some}
use Prim.Native.Nat.{ℕ, zero, suc, ◌≤◌, ◌<◌}
use mathlib.Core.Bool.{Bool, true, false, true≢false}
use mathlib.Core.List.{List, [], ◌∷◌}
use mathlib.Core.Logic.{inr}
use mathlib.Core.Path.{◌≡◌, refl, sym, ◌∙◌}
use native.Mathlib.Omega.{arith}
use Rattle.octets.specs.BigEndian.{octet, octets32}
use Rattle.octets.specs.Groups.{stamp_at}
use Rattle.base.specs.declared.refusal.Refusal.TheVariants.{BadAction}
use Rattle.sensor.specs.declared.action.Action.TheVariants.{Nothing, SendInverse}
use Rattle.sensor.specs.declared.signal.Edge.TheVariants.{Rising}
use Rattle.sensor.specs.declared.signal.Signal.TheVariants.{Button1, Status}
use Rattle.sensor.specs.declared.state.Sensor.{Sensor}
use Rattle.sensor.specs.Signals.{zero_or_one, signalled, signal_at}
use Rattle.sensor.specs.Calls.{telegram_octets}
use Rattle.sensor.specs.Refusals.{GoodActions, FirstBadAction}
use Rattle.sensor.specs.Claims.{first_rises, SwitchInput}
use Rattle.sensor.specs.Asked.{Maker, JudgesActions, StartsFresh, Taker, JudgesInputs, Accepted, EdgesSend, KeepsSent, KeepsReceived}
use Rattle.sensor.proofs.Telegrams.{what_is_sent}

-- ---- four octets

abbrev idle : List ℕ
idle = 0 ∷ 0 ∷ 0 ∷ 0 ∷ []

idle_is_good : GoodActions idle
idle_is_good = record { whole = refl; good = small }
  where
    small : (j : ℕ) → j < 4 → octet idle j ≤ 3
    small zero h = omega arith
    small (suc zero) h = omega arith
    small (suc (suc zero)) h = omega arith
    small (suc (suc (suc zero))) h = omega arith
    small (suc (suc (suc (suc n)))) h = absurd (omega arith)

-- two bad octets, of which the second is the lower
abbrev twice_bad : List ℕ
twice_bad = 0 ∷ 4 ∷ 9 ∷ 0 ∷ []

second_is_bad : FirstBadAction twice_bad 1
second_is_bad = record { whole = refl; within = omega arith; bad = omega arith; good = small }
  where
    small : (j : ℕ) → j < 1 → octet twice_bad j ≤ 3
    small zero h = omega arith
    small (suc n) h = absurd (omega arith)

-- one whose code is never 0, whatever its numbers are
pub the_sensor_that_refuses_all_actions_breaks_the_table : (m : Maker) → ((octets : List ℕ) → (m octets).code ≡ 0 → ⊥) → JudgesActions m → ⊥
the_sensor_that_refuses_all_actions_breaks_the_table m refuses judges = refuses idle (((judges idle).accepted 0).1 (refl, idle_is_good)).0

-- one that blames the first octet for whatever is bad
pub the_sensor_that_blames_the_first_octet_breaks_the_table : (m : Maker) → ((octets : List ℕ) → (m octets).place ≡ 0) → JudgesActions m → ⊥
the_sensor_that_blames_the_first_octet_breaks_the_table m blames judges = omega (arith, blames twice_bad, (((judges twice_bad).refused BadAction 1).1 (inr (refl, second_is_bad))).1)

-- one that starts on
pub the_sensor_that_starts_on_breaks_the_value_before_any : (m : Maker) → ((octets : List ℕ) → (m octets).sensor.value ≡ true) → StartsFresh m → ⊥
the_sensor_that_starts_on_breaks_the_value_before_any m on starts = true≢false (sym (on idle) ∙ (starts idle idle_is_good).value)

-- ---- one input

-- the rising edge of button 1 toggles
abbrev toggling : Bool → Sensor
toggling value = record { rising1 = SendInverse; falling1 = Nothing; rising2 = Nothing; falling2 = Nothing; clock = 0; value = value }

-- that edge, and the status On, at 5
abbrev pressed : List ℕ
pressed = 0 ∷ 0 ∷ 0 ∷ 5 ∷ 11 ∷ 1 ∷ 0 ∷ 0 ∷ []

abbrev reported : List ℕ
reported = 0 ∷ 0 ∷ 0 ∷ 5 ∷ 13 ∷ 1 ∷ 0 ∷ 0 ∷ []

pressed_is_accepted : (value : Bool) → Accepted (toggling value) pressed (Button1 Rising)
unfolding signal_at signalled zero_or_one stamp_at
pressed_is_accepted value = record { sound = omega arith; meant = refl; timely = (omega arith, omega arith) }

-- that edge at 256
abbrev late : List ℕ
late = 0 ∷ 0 ∷ 1 ∷ 0 ∷ 11 ∷ 1 ∷ 0 ∷ 0 ∷ []

late_is_accepted : Accepted (toggling false) late (Button1 Rising)
unfolding signal_at signalled zero_or_one stamp_at
late_is_accepted = record { sound = omega arith; meant = refl; timely = (omega arith, omega arith) }

reported_is_accepted : (value : Bool) → Accepted (toggling value) reported (Status true)
unfolding signal_at signalled zero_or_one stamp_at
reported_is_accepted value = record { sound = omega arith; meant = refl; timely = (omega arith, omega arith) }

pub the_sensor_that_refuses_all_inputs_breaks_the_table : (m : Taker) → ((z : Sensor) (octets : List ℕ) → (m z octets).code ≡ 0 → ⊥) → JudgesInputs m → ⊥
the_sensor_that_refuses_all_inputs_breaks_the_table m refuses judges =
    let a = pressed_is_accepted false in
    refuses (toggling false) pressed (((judges (toggling false) pressed).accepted 0).1 (refl, (a.sound, ((Button1 Rising, a.meant), a.timely)))).0

-- one that only ever sends On
pub the_sensor_that_never_sends_off_breaks_the_toggle : (m : Taker) → ((z : Sensor) (octets : List ℕ) (t : ℕ) → SwitchInput (m z octets).sent t false → ⊥) → EdgesSend m → ⊥
the_sensor_that_never_sends_off_breaks_the_toggle m only sends =
    only (toggling true) pressed (stamp_at pressed 0) (rw (sends (toggling true) pressed (Button1 Rising) (pressed_is_accepted true) SendInverse first_rises) (what_is_sent (stamp_at pressed 0) false))

-- one that keeps its value whatever status it hears
pub the_sensor_that_ignores_statuses_breaks_the_last_value : (m : Taker) → ((z : Sensor) (octets : List ℕ) (value : Bool) → signal_at octets 0 ≡ Some (Status value) → (m z octets).sensor.value ≡ z.value) →
    KeepsReceived m → ⊥
the_sensor_that_ignores_statuses_breaks_the_last_value m ignores keeps =
    let a = reported_is_accepted false in
    let heard = keeps (toggling false) reported (Status true) a true refl in
    true≢false (sym heard ∙ ignores (toggling false) reported true a.meant)

-- one that keeps its value whatever it sends
pub the_sensor_that_forgets_what_it_sent_breaks_the_last_value : (m : Taker) → ((z : Sensor) (octets : List ℕ) → (m z octets).sensor.value ≡ z.value) → KeepsSent m → ⊥
the_sensor_that_forgets_what_it_sent_breaks_the_last_value m forgets keeps =
    true≢false (sym (keeps (toggling false) pressed (Button1 Rising) (pressed_is_accepted false) SendInverse first_rises) ∙ forgets (toggling false) pressed)

-- one that writes a stamp into one octet, above 255: it reads as the same stamp, and the octets are others
pub the_sensor_that_writes_a_stamp_into_one_octet_breaks_what_is_sent : (m : Taker) →
    ((z : Sensor) (octets : List ℕ) → octet (m z octets).sent 2 ≡ 0) → EdgesSend m → ⊥
the_sensor_that_writes_a_stamp_into_one_octet_breaks_what_is_sent m short sends =
    let third : octet (m (toggling false) late).sent 2 ≡ 1 = rw (sends (toggling false) late (Button1 Rising) late_is_accepted SendInverse first_rises) (unfold telegram_octets octets32 stamp_at in refl) in
    omega (arith, short (toggling false) late, third)
