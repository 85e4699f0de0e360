-- Every case of the paper's table shows what the rules show of its cues.
use mathlib.Core.Path.{◌≡◌, refl}
use mathlib.Core.List.{map}
use Rattle.rules.specs.Phases.{lit_at, at_deadline, set_on}
use Rattle.rules.specs.Orders.{from_dark, on, timed_start, earliest_end, off, night_falls, held, settle, by_mode, switch, timed, night_mode, forced, locked, unlocking_output, unlocked, lock_device, order}
use Rattle.rules.specs.Barriers.{rows, row_of, sets_value, outranked, first_barrier, barrier_to, barrier}
use Rattle.rules.specs.Status.{value, attributes, record_of, same_status, written}
use Rattle.rules.specs.Answers.{same_phase, same_scene, same_scenes, same_flags, same_but_clock}
use Rattle.rules.specs.Steps.{fresh, tick_at, tick, ticked, clock_move, counted, meet, act, step}
use Rattle.rules.specs.Calls.{unused, no_scenes}
use Rattle.rules.specs.Lists.{plays, plays_to, play_list}
use Rattle.rules.specs.Worked.{Case, cases, played}

-- every case shows what the paper says
pub worked_on_paper : map (λ (c : Case). played c.cues) cases ≡ map (λ (c : Case). c.shows) cases
unfolding cases played play_list plays_to plays step act meet counted clock_move ticked tick tick_at fresh lit_at at_deadline set_on from_dark on timed_start earliest_end off night_falls held settle by_mode switch timed night_mode forced locked unlocking_output unlocked lock_device order rows row_of sets_value outranked first_barrier barrier_to barrier value attributes record_of same_status written same_phase same_scene same_scenes same_flags same_but_clock unused no_scenes
worked_on_paper = refl
