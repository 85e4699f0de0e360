-- What an input carries (01: "An input is one of eight kinds, each with its own value"): a switch value, a scene, a force or an event.
-- A kind that does not carry the thing asked for gives one that nobody reads.
use Rattle.std.specs.Prelude.{Bool, false}
use Rattle.rules.specs.declared.input.Force.{Force}
use Rattle.rules.specs.declared.input.Force.TheVariants.{Free}
use Rattle.rules.specs.declared.input.Event.{Event}
use Rattle.rules.specs.declared.input.Event.TheVariants.{Failure}
use Rattle.rules.specs.declared.input.Input.{Input}
use Rattle.rules.specs.declared.input.Input.TheVariants.{SwitchOnOff, TimedStartStop, NumberedSceneControl, SwitchOnOffForced, LockDevice, NightMode, Bus, Power}

-- kinds 1, 2, 5 and 6
abbrev pub switch_in : Input → Bool
switch_in (SwitchOnOff value) = value
switch_in (TimedStartStop value) = value
switch_in (NumberedSceneControl learns number) = false
switch_in (SwitchOnOffForced force) = false
switch_in (LockDevice value) = value
switch_in (NightMode value) = value
switch_in (Bus event) = false
switch_in (Power event) = false

-- kind 3: whether it is to learn (no other kind does); the scene's number is `scene_number` of the rules
abbrev pub teaches : Input → Bool
teaches (SwitchOnOff value) = false
teaches (TimedStartStop value) = false
teaches (NumberedSceneControl learns number) = learns
teaches (SwitchOnOffForced force) = false
teaches (LockDevice value) = false
teaches (NightMode value) = false
teaches (Bus event) = false
teaches (Power event) = false

-- kind 4
abbrev pub force_in : Input → Force
force_in (SwitchOnOff value) = Free
force_in (TimedStartStop value) = Free
force_in (NumberedSceneControl learns number) = Free
force_in (SwitchOnOffForced force) = force
force_in (LockDevice value) = Free
force_in (NightMode value) = Free
force_in (Bus event) = Free
force_in (Power event) = Free

-- kinds 7 and 8
abbrev pub event_in : Input → Event
event_in (SwitchOnOff value) = Failure
event_in (TimedStartStop value) = Failure
event_in (NumberedSceneControl learns number) = Failure
event_in (SwitchOnOffForced force) = Failure
event_in (LockDevice value) = Failure
event_in (NightMode value) = Failure
event_in (Bus event) = event
event_in (Power event) = event
