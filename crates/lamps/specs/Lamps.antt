-- A state in two parts: what inputs and timers change, the lamp, apart from the parameters and the scene table. The rules speak of
-- whole states; the code hands lamps on, which are small.
use Rattle.std.specs.Prelude.{List, []}
use Rattle.rules.specs.declared.parameters.Params.{Params}
use Rattle.rules.specs.declared.parameters.Scene.{Scene}
use Rattle.rules.specs.declared.state.State.{State}
use Rattle.rules.specs.Calls.{least_params}
use Rattle.lamps.specs.declared.lamp.Lamp.{Lamp}

abbrev pub lamp_of : State → Lamp
lamp_of s =
    record { clock = s.clock; night = s.night; lock = s.lock; force = s.force; link = s.link; atlocking = s.atlocking; atfailure = s.atfailure; phase = s.phase }

abbrev pub state_of : Params → List Scene → Lamp → State
state_of p k l =
    record { params = p; scenes = k; clock = l.clock; night = l.night; lock = l.lock; force = l.force; link = l.link; atlocking = l.atlocking; atfailure = l.atfailure; phase = l.phase }

-- a state with this lamp, where neither parameters nor scenes matter
abbrev pub alone : Lamp → State
alone l = state_of least_params [] l
