-- What is opened to compute examples of the pair and of wall lists: to play items, to read a wall list, to test a pair for soundness.
use Rattle.octets.specs.BigEndian.{octets32}
use Rattle.octets.specs.Groups.{stamp_at}
use Rattle.base.specs.Refusals.{stamp_in_range}
use Rattle.rules.specs.Forms.{form_of, is_version, form_in}
use Rattle.rules.specs.Parameters.{time_at, delay, params_of, scene_at, scenes_of, greatest, bad_time, number_above, bad_number, bad_flags, bad_octet, lowest_bad, check_parameters, time_in_range, times_in_range, modes_in_range, params_in_range}
use Rattle.rules.specs.Inputs.{zero_or_one, decoded, input_at}
use Rattle.rules.specs.Scenes.{entry_in_range, absent, scenes_in_range}
use Rattle.rules.specs.Phases.{lit_at, at_deadline, set_on}
use Rattle.rules.specs.Orders.{from_dark, on, timed_start, earliest_end, off, night_falls, held, settle, by_mode, switch, timed, night_mode, bus_mode, bus, order}
use Rattle.rules.specs.Barriers.{rows, row_of, sets_value, outranked, first_barrier, barrier_to, barrier}
use Rattle.rules.specs.Status.{value, attributes, record_of, same_status, written}
use Rattle.rules.specs.Answers.{same_phase, same_scene, same_scenes, same_flags, same_but_clock}
use Rattle.rules.specs.Steps.{fresh, tick_at, tick, ticked, clock_move, counted, meet, act, step}
use Rattle.rules.specs.Calls.{least_params, unused, no_scenes, blank, places}
use Rattle.rules.specs.Soundness.{soon, held_is_steady, force_decides, night_ends, power_down_is_clear, consistent, sound}
use Rattle.rules.specs.Readings.{read_one, read_inputs}
use Rattle.rules.specs.Files.{parameters_in, layout_right, check_rest, check_start, lent_enough, inputs_in}
use Rattle.sensor.specs.Actions.{action_of, check_actions}
use Rattle.sensor.specs.Signals.{signalled, signal_at}
use Rattle.sensor.specs.Signals as signals
use Rattle.sensor.specs.Sensors.{fresh_sensor, sound_sensor}
use Rattle.sensor.specs.Reactions.{hear, press, react}
use Rattle.sensor.specs.Calls.{telegram_octets}
use Rattle.pairs.specs.Items.{item_at}
use Rattle.pairs.specs.Pairs.{hears, pair_move, tell, told, pressed, pair_step}
use Rattle.pairs.specs.Lists.{pair_plays, pair_plays_to, play_items}
use Rattle.pairs.specs.Calls.{pair_sound, joint_done, joint_refused, joint_meant, joint_call, joint_move_done, joint_move_refused, joint_move_call}
use Rattle.pairs.specs.Walls.{file_in, actions_in, check_wall, item_in, read_wall, read_wall_call, play_wall}

unfoldable pub playing_pairs : Unit {0}
unfolding play_items pair_plays_to pair_plays pair_step pair_move pressed told tell hears react press hear fresh_sensor action_of fresh step act meet counted clock_move ticked tick tick_at lit_at at_deadline set_on from_dark on timed_start earliest_end off night_falls held settle by_mode switch timed night_mode bus_mode bus order rows row_of sets_value outranked first_barrier barrier_to barrier value attributes record_of same_status written same_phase same_scene same_scenes same_flags same_but_clock least_params unused no_scenes
playing_pairs = tt

unfoldable pub reading_walls : Unit {0}
unfolding read_wall_call read_wall check_wall check_actions file_in actions_in item_in item_at input_at decoded zero_or_one signal_at signalled signals.zero_or_one stamp_at lent_enough check_start check_rest layout_right form_in form_of is_version parameters_in inputs_in check_parameters lowest_bad bad_octet bad_time delay time_at greatest bad_number bad_flags number_above read_inputs read_one
reading_walls = tt

-- what a wall list holds, and its run
unfoldable pub playing_walls : Unit {0}
unfolding playing_pairs play_wall file_in actions_in form_in form_of parameters_in inputs_in params_of scenes_of scene_at delay time_at
playing_walls = tt

unfoldable pub calling_pairs : Unit {0}
unfolding playing_pairs joint_call joint_meant joint_done joint_refused joint_move_call joint_move_done joint_move_refused item_at input_at decoded zero_or_one signal_at signalled signals.zero_or_one stamp_at telegram_octets octets32 places blank stamp_in_range pair_sound sound_sensor sound params_in_range times_in_range modes_in_range time_in_range is_version form_of scenes_in_range absent entry_in_range soon held_is_steady force_decides night_ends power_down_is_clear consistent
calling_pairs = tt
