-- One input to a sensor: it is refused exactly when the table says, a refusal changes nothing, and a sound sensor stays sound.
use Rattle.std.specs.Prelude.{Option, Some, None, Ok, Err}
use Prim.Native.Nat.{ℕ, ◌≤◌}
use mathlib.Core.Bool.{Bool, true, false, cond}
use mathlib.Core.List.{List}
use mathlib.Core.Logic.{◌↔◌}
use mathlib.Core.Path.{◌≡◌, refl}
use native.Mathlib.Omega.{arith}
use borrow.Author.Tests.{leb-true, le-leb}
use Rattle.octets.specs.Groups.{stamp_at}
use Rattle.base.specs.declared.refusal.Refusal.TheVariants.{BadInput, BadStamp, UnsoundState}
use Rattle.base.specs.Refusals.{code_of, place_of, stamp_in_range, check_call, Timely, Check}
use Rattle.base.proofs.Tests.{no}
use Rattle.base.proofs.Codes.{timely_exactly_when, call_codes}
use Rattle.sensor.specs.declared.signal.Signal.{Signal}
use Rattle.sensor.specs.declared.state.Sensor.{Sensor}
use Rattle.sensor.specs.declared.call.Sensed.{Sensed}
use Rattle.sensor.specs.Signals.{signal_at}
use Rattle.sensor.specs.Sensors.{sound_sensor, fresh_sensor, own_sensor}
use Rattle.sensor.specs.Reactions.{react}
use Rattle.sensor.specs.Calls.{sensor_by, fresh_sensor_by, fresh_sensor_call, telegram_octets, sensed, sensor_refused, sensor_meant, sensor_call}
use Rattle.sensor.specs.Actions.{check_actions}
use Rattle.sensor.specs.Refusals.{SensorCodes}
use Rattle.sensor.specs.Claims.{silence}
use Rattle.sensor.proofs.Signals.{not_meant}
use Rattle.sensor.proofs.Sends.{reaction_moves_the_clock}

pub sound_exactly_when : (z : Sensor) → (sound_sensor z ≡ true) ↔ (z.clock ≤ 864_000)
unfolding sound_sensor
sound_exactly_when z = (leb-true _ _, le-leb _ _)

-- What one input finds: the first of the table's rows 9, 6, 7 that fits, or a signal that is taken.
pub data SensorFinds (z : Sensor) (octets : List ℕ) : Sensed → Type 0 where
  not_sound : sound_sensor z ≡ false → SensorFinds z octets (sensor_refused z UnsoundState)
  wrong : sound_sensor z ≡ true → signal_at octets 0 ≡ None → SensorFinds z octets (sensor_refused z BadInput)
  untimely : (s : Signal) → sound_sensor z ≡ true → signal_at octets 0 ≡ Some s → stamp_in_range z.clock (stamp_at octets 0) ≡ false → SensorFinds z octets (sensor_refused z BadStamp)
  takes : (s : Signal) → sound_sensor z ≡ true → signal_at octets 0 ≡ Some s → stamp_in_range z.clock (stamp_at octets 0) ≡ true → SensorFinds z octets (sensed (stamp_at octets 0) (react z s (stamp_at octets 0)))

module _ (z : Sensor) (octets : List ℕ) where
  -- each test of the call decides one row
  pub sensor_finds : SensorFinds z octets (sensor_call z octets)
  unfolding sensor_call
  sensor_finds = by (sound_sensor z) refl
    where
      timely : (s : Signal) (b : Bool) → sound_sensor z ≡ true → signal_at octets 0 ≡ Some s → stamp_in_range z.clock (stamp_at octets 0) ≡ b
          → SensorFinds z octets (cond b (sensed (stamp_at octets 0) (react z s (stamp_at octets 0))) (sensor_refused z BadStamp))
      timely s true h m e = takes s h m e
      timely s false h m e = untimely s h m e

      meant : (d : Option Signal) → sound_sensor z ≡ true → signal_at octets 0 ≡ d → SensorFinds z octets (sensor_meant z (stamp_at octets 0) d)
      meant None h m = unfold sensor_meant in wrong h m
      meant (Some s) h m = unfold sensor_meant in timely s (stamp_in_range z.clock (stamp_at octets 0)) h m refl

      by : (b : Bool) → sound_sensor z ≡ b → SensorFinds z octets (cond b (sensor_meant z (stamp_at octets 0) (signal_at octets 0)) (sensor_refused z UnsoundState))
      by true h = meant (signal_at octets 0) h refl
      by false h = not_sound h

  -- and the other way round: where no row fits, the signal is taken
  pub good_is_taken : (s : Signal) → sound_sensor z ≡ true → signal_at octets 0 ≡ Some s → stamp_in_range z.clock (stamp_at octets 0) ≡ true → sensor_call z octets ≡ sensed (stamp_at octets 0) (react z s (stamp_at octets 0))
  unfolding sensor_call sensor_meant
  good_is_taken s h m e = rw (h, m, e)

  abbrev is_meant : Option Signal → Bool
  is_meant (Some s) = true
  is_meant None = false

  meant_exactly : (d : Option Signal) → (is_meant d ≡ true) ↔ ((s : Signal) × (d ≡ Some s))
  meant_exactly (Some s) = (λ e. (s, refl), λ g. refl)
  meant_exactly None = (λ e. no e, λ g. not_meant g.1)

  check : Check
  check = check_call (sound_sensor z) (is_meant (signal_at octets 0)) (stamp_in_range z.clock (stamp_at octets 0))

  code_is_found : ((sensor_call z octets).code ≡ code_of check) × ((sensor_call z octets).place ≡ place_of check)
  unfolding check check_call
  code_is_found = by sensor_finds
    where
      by : {r : Sensed} → SensorFinds z octets r → (r.code ≡ code_of check) × (r.place ≡ place_of check)
      by (not_sound h) = unfold sensor_refused in rw h (refl, refl)
      by (wrong h m) = unfold sensor_refused in rw (h, m) (refl, refl)
      by (untimely s h m t) = unfold sensor_refused in rw (h, m, t) (refl, refl)
      by (takes s h m t) = unfold sensed in rw (h, m, t) (refl, refl)

  pub sensor_refused_exactly_when : SensorCodes z octets (sensor_call z octets).code (sensor_call z octets).place
  unfolding check
  sensor_refused_exactly_when =
      rw (code_is_found.0, code_is_found.1)
      (call_codes (z.clock ≤ 864_000) ((s : Signal) × (signal_at octets 0 ≡ Some s)) (Timely z.clock (stamp_at octets 0)) _ _ _ (sound_exactly_when z) (meant_exactly (signal_at octets 0)) (timely_exactly_when z.clock (stamp_at octets 0)))

  -- "A refused call .. hands back the state it was given", place 0; it sends nothing
  pub sensor_refusal_changes_nothing : ((sensor_call z octets).code ≡ 0 → ⊥) → sensor_call z octets ≡ record { sensor = z; code = (sensor_call z octets).code; place = 0; sent = silence }
  sensor_refusal_changes_nothing refused = by sensor_finds refused
    where
      by : {r : Sensed} → SensorFinds z octets r → (r.code ≡ 0 → ⊥) → r ≡ record { sensor = z; code = r.code; place = 0; sent = silence }
      by (not_sound h) f = unfold sensor_refused telegram_octets in refl
      by (wrong h m) f = unfold sensor_refused telegram_octets in refl
      by (untimely s h m t) f = unfold sensor_refused telegram_octets in refl
      by (takes s h m t) f = absurd (f (unfold sensed in refl))

  -- the clock is then the stamp
  pub accepted_moves_the_clock : (sensor_call z octets).code ≡ 0 → (sensor_call z octets).sensor.clock ≡ stamp_at octets 0
  accepted_moves_the_clock accepted = by sensor_finds accepted
    where
      by : {r : Sensed} → SensorFinds z octets r → r.code ≡ 0 → r.sensor.clock ≡ stamp_at octets 0
      by (not_sound h) e = unfold sensor_refused in absurd (omega (arith, e))
      by (wrong h m) e = unfold sensor_refused in absurd (omega (arith, e))
      by (untimely s h m t) e = unfold sensor_refused in absurd (omega (arith, e))
      by (takes s h m t) e = unfold sensed in reaction_moves_the_clock z s (stamp_at octets 0)

  pub sensor_call_keeps_sound : sound_sensor z ≡ true → sound_sensor (sensor_call z octets).sensor ≡ true
  sensor_call_keeps_sound safe = by sensor_finds
    where
      by : {r : Sensed} → SensorFinds z octets r → sound_sensor r.sensor ≡ true
      by (not_sound h) = unfold sensor_refused in safe
      by (wrong h m) = unfold sensor_refused in safe
      by (untimely s h m t) = unfold sensor_refused in safe
      by (takes s h m t) =
          unfold sensed in
          (sound_exactly_when _).1 (omega (arith, reaction_moves_the_clock z s (stamp_at octets 0), ((timely_exactly_when z.clock (stamp_at octets 0)).0 t).1))

-- the fresh sensor is sound, and so is a refusal's own
pub fresh_sensor_is_sound : (octets : List ℕ) → sound_sensor (fresh_sensor_call octets).sensor ≡ true
unfolding fresh_sensor_call fresh_sensor_by
fresh_sensor_is_sound octets = by (check_actions octets)
  where
    by : (c : Check) → sound_sensor (sensor_by octets c) ≡ true
    by (Ok _) = unfold sound_sensor fresh_sensor in refl
    by (Err fault) = unfold sound_sensor own_sensor in refl
