-- Each promise, and what is said of repeated orders, used once at the paper's numbers, so that its conditions are seen to be met: OnDelay 20, OffDelay 50, TimedOn 600,
-- Prewarning 100 tenths, hence L 720.
use mathlib.Core.Bool.{true, false}
use mathlib.Core.Path.{◌≡◌, refl}
use mathlib.Core.List.{List, [], ◌∷◌, ◌++◌}
use native.Mathlib.Omega.{arith}
use Rattle.rules.specs.declared.parameters.Params.{Params}
use Rattle.rules.specs.declared.input.Event.TheVariants.{Failure, Return}
use Rattle.rules.specs.declared.input.Input.TheVariants.{SwitchOnOff, TimedStartStop, NumberedSceneControl, SwitchOnOffForced, LockDevice, Bus, Power}
use Rattle.rules.specs.declared.input.Force.TheVariants.{Free}
use Rattle.rules.specs.Phases.{output, lit_at, at_deadline, set_on}
use Rattle.rules.specs.Orders.{from_dark, on, earliest_end, off, night_falls, held, switch, night_mode, bus_mode, bus, order}
use Rattle.rules.specs.Barriers.{rows, row_of, sets_value, outranked, first_barrier, barrier_to, barrier}
use Rattle.rules.specs.Steps.{fresh, tick_at, tick, ticked, clock_move, counted, meet, act, step}
use Rattle.rules.specs.Calls.{no_scenes}
use Rattle.rules.specs.Lists.{Cue, cue, plays}
use Rattle.rules.specs.Promises.{turns, up_to, state_at, ShowsLight, turn_after}
use Rattle.rules.specs.Mistakes.{MayBeStruck}
use Rattle.rules.specs.Worked.{paper, on_at, off_at, night_at}
use Rattle.rules.proofs.Promises.Dark.{dark}
use Rattle.rules.proofs.Promises.Light.{strong_light, light}
use Rattle.rules.proofs.Mistakes.Delays.{an_off_is_heard, asking_again_never_keeps_the_house_lit}
use Rattle.rules.proofs.Mistakes.Waiting.{an_on_is_idle_while_it_waits, a_repeated_on_is_never_later}

-- what is opened to play them
playing : Unit {0}
unfolding turns up_to state_at plays step act meet counted clock_move ticked tick tick_at fresh lit_at at_deadline set_on from_dark on earliest_end off night_falls held switch night_mode bus_mode bus order rows row_of sets_value outranked first_barrier barrier_to barrier
playing = tt

-- On 0, night 100, bus failure 300 (keep), On 400 (dropped): from after 100 on night rules and nothing lights, so it is off at 820
abbrev evening : List Cue
evening = on_at 0 ∷ night_at 100 ∷ cue 300 (Bus Failure) ∷ on_at 400 ∷ []

pub dark_used : output (state_at 820 evening (fresh paper no_scenes)).phase ≡ false
unfolding playing
dark_used =
    dark paper no_scenes evening 1000 (omega arith) 820
    record {
      late = omega arith;
      reached = omega arith;
      from = record { night = refl; unlocked = refl; unforced = refl; powered = refl };
      through = (
        λ after within. absurd (omega arith),
        (
          λ after within. absurd (omega arith),
          (
            λ after within. record { no_light = λ way. refl; no_bus_on = refl; stays = record { night = refl; unlocked = refl; unforced = refl; powered = refl } },
            (
              λ after within. record { no_light = λ way. cc; no_bus_on = refl; stays = record { night = refl; unlocked = refl; unforced = refl; powered = refl } },
              tt,
            ),
          ),
        ),
      );
    }

-- On 0, night 100, bus return 300 with BusReturnMode On: it meets the bus up and does nothing, so it has no mode, and it is off at
-- 820 all the same
abbrev returning : Params
returning = record { version = 1; ondelay = 20; offdelay = 50; timedon = 600; prewarning = 100; locking = 0; unlocking = 3; busfailure = 0; busreturn = 2; powerreturn = 0; learning = false }

pub dark_used_past_an_idle_bus_event : output (state_at 820 (on_at 0 ∷ night_at 100 ∷ cue 300 (Bus Return) ∷ []) (fresh returning no_scenes)).phase ≡ false
unfolding playing
dark_used_past_an_idle_bus_event =
    dark returning no_scenes (on_at 0 ∷ night_at 100 ∷ cue 300 (Bus Return) ∷ []) 1000 (omega arith) 820
    record {
      late = omega arith;
      reached = omega arith;
      from = record { night = refl; unlocked = refl; unforced = refl; powered = refl };
      through = (
        λ after within. absurd (omega arith),
        (
          λ after within. absurd (omega arith),
          (λ after within. record { no_light = λ way. refl; no_bus_on = refl; stays = record { night = refl; unlocked = refl; unforced = refl; powered = refl } }, tt),
        ),
      );
    }

-- On 0, On 15: on by 20
pub light_used : ShowsLight 0 20 1000 (on_at 15 ∷ []) (turn_after paper no_scenes [] 0 (SwitchOnOff true)).left
unfolding playing
light_used =
    light paper no_scenes (on_at 0 ∷ on_at 15 ∷ []) 1000 (omega arith) (omega arith) [] 0 (SwitchOnOff true) (on_at 15 ∷ []) refl
    record { taken = refl; lights = refl; reached = omega arith; undimmed = (λ early counts. refl, tt) }

-- On 0, night 10, Off 20: the Off is stamped at the end of the delay, and not before it, so it is on by 20 all the same. (No list has
-- an input that is dropped or noted while the light waits: the order that lights was taken, and only an input that dims raises a barrier.)
pub strong_light_used : ShowsLight 0 20 1000 (night_at 10 ∷ off_at 20 ∷ []) (turn_after paper no_scenes [] 0 (SwitchOnOff true)).left
unfolding playing
strong_light_used =
    strong_light paper no_scenes (on_at 0 ∷ night_at 10 ∷ off_at 20 ∷ []) 1000 (omega arith) (omega arith) [] 0 (SwitchOnOff true) (night_at 10 ∷ off_at 20 ∷ []) refl
    record { taken = refl; lights = refl; reached = omega arith; undimmed = (λ early counts. refl, (λ early counts. absurd (omega arith), tt)) }

-- On 0, Off 100, then all that is quiet (night, a lesson, a timed stop, a release, an unlock, returns of bus and power), Off 140: dark from
-- 150 on, as the first Off alone would have it
abbrev quiet : List Cue
quiet =
    night_at 120
    ∷ cue 122 (NumberedSceneControl true 5)
    ∷ cue 124 (TimedStartStop false)
    ∷ cue 126 (SwitchOnOffForced Free)
    ∷ cue 128 (LockDevice false)
    ∷ cue 130 (Bus Return)
    ∷ cue 132 (Power Return)
    ∷ []

abbrev asked : List Cue
asked = on_at 0 ∷ off_at 100 ∷ quiet

pub off_used : output (state_at 150 (asked ++ (off_at 140 ∷ [])) (fresh paper no_scenes)).phase ≡ false
unfolding playing
off_used =
    an_off_is_heard paper no_scenes (asked ++ (off_at 140 ∷ [])) 1000 (omega arith) (on_at 0 ∷ []) 100 (SwitchOnOff false) (quiet ++ (off_at 140 ∷ [])) refl refl refl 150 (omega arith)
    (λ within. refl, (λ within. refl, (λ within. refl, (λ within. refl, (λ within. refl, (λ within. refl, (λ within. refl, (λ within. refl, tt))))))))

pub asking_again_used : MayBeStruck paper no_scenes asked 140 (SwitchOnOff false) [] 1000
unfolding playing
asking_again_used =
    asking_again_never_keeps_the_house_lit paper no_scenes (asked ++ (off_at 140 ∷ [])) 1000 (omega arith) (on_at 0 ∷ []) 100 (SwitchOnOff false) quiet 140 (SwitchOnOff false) []
    refl refl refl (refl, (refl, (refl, (refl, (refl, (refl, (refl, tt))))))) refl

-- On 0, On 15: the second may be struck, and the house is lit no later than without it
pub idle_on_used : MayBeStruck paper no_scenes (on_at 0 ∷ []) 15 (SwitchOnOff true) [] 1000
unfolding playing
idle_on_used = an_on_is_idle_while_it_waits paper no_scenes (on_at 0 ∷ on_at 15 ∷ []) 1000 (omega arith) (on_at 0 ∷ []) 15 (SwitchOnOff true) [] 20 refl refl refl

pub repeated_on_used : ShowsLight 15 20 1000 [] (turn_after paper no_scenes (on_at 0 ∷ []) 15 (SwitchOnOff true)).left
unfolding playing
repeated_on_used =
    a_repeated_on_is_never_later paper no_scenes (on_at 0 ∷ on_at 15 ∷ []) 1000 (omega arith) (omega arith) (on_at 0 ∷ []) 15 (SwitchOnOff true) [] refl refl refl 20 (omega arith) (omega arith) (λ start. tt) refl
