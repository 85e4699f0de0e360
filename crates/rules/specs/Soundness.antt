-- A sound state (01, "Refusal numbers": "A state is sound when ..").
use Rattle.std.specs.Prelude.{ℕ, ◌-◌, Bool, true, false, cond, not, ◌&&◌, ◌||◌, leb, ltb, Option, Some, None}
use Rattle.rules.specs.declared.phase.Phase.{Phase}
use Rattle.rules.specs.declared.phase.Phase.TheVariants.{Dark, Lit, Starting, Timed, Warning, Ending}
use Rattle.rules.specs.declared.input.Force.{Force}
use Rattle.rules.specs.declared.input.Force.TheVariants.{Free, Off, On}
use Rattle.rules.specs.declared.state.Link.{Link}
use Rattle.rules.specs.declared.state.State.{State}
use Rattle.base.specs.Time.{last_stamp, longest_delay}
use Rattle.rules.specs.Parameters.{params_in_range}
use Rattle.rules.specs.Scenes.{scenes_in_range}
use Rattle.rules.specs.Phases.{deadline}
use Rattle.rules.specs.Orders.{standing}
use Rattle.rules.specs.Barriers.{power_down}

-- "a deadline lies 1 to 655,350 after the clock"
unfoldable pub soon : ℕ → Option ℕ → Bool
soon clock None = true
soon clock (Some d) = cond (ltb clock d) (leb (d - clock) longest_delay) false

abbrev pub is_dark : Phase → Bool
is_dark Dark = true
is_dark Lit = false
is_dark (Starting timed d) = false
is_dark (Timed d) = false
is_dark (Warning d) = false
is_dark (Ending d) = false

abbrev pub is_lit : Phase → Bool
is_lit Dark = false
is_lit Lit = true
is_lit (Starting timed d) = false
is_lit (Timed d) = false
is_lit (Warning d) = false
is_lit (Ending d) = false

-- force agrees with the phase
abbrev pub agrees : Force → Phase → Bool
agrees Free phase = true
agrees Off phase = is_dark phase
agrees On phase = is_lit phase

-- "lock or force leaves only Dark or Lit"
unfoldable pub held_is_steady : Bool → Force → Phase → Bool
held_is_steady lock force phase = cond (lock || standing force) (is_dark phase || is_lit phase) true

-- "force without lock agrees with the phase"
unfoldable pub force_decides : Bool → Force → Phase → Bool
force_decides lock force phase = cond lock true (agrees force phase)

-- "Lit in night needs lock or force"
unfoldable pub night_ends : Bool → Bool → Force → Phase → Bool
night_ends night lock force phase = cond (night && is_lit phase) (lock || standing force) true

-- "power down means Dark with night, lock and force clear"
unfoldable pub power_down_is_clear : Link → Bool → Bool → Force → Phase → Bool
power_down_is_clear link night lock force phase = cond (power_down link) (is_dark phase && not (night || lock || standing force)) true

-- the four rules on flags and phase
unfoldable pub consistent : Bool → Bool → Force → Link → Phase → Bool
consistent night lock force link phase =
    (held_is_steady lock force phase && force_decides lock force phase) &&
    (night_ends night lock force phase && power_down_is_clear link night lock force phase)

-- "A state is sound when its parameters and scenes are in range, the clock is at most 864,000, a deadline lies 1 to 655,350
-- after the clock, lock or force leaves only Dark or Lit, force without lock agrees with the phase, Lit in night needs lock
-- or force, and power down means Dark with night, lock and force clear."
unfoldable pub sound : State → Bool
sound s =
    (params_in_range s.params && scenes_in_range s.scenes) &&
    (leb s.clock last_stamp && soon s.clock (deadline s.phase)) &&
    consistent s.night s.lock s.force s.link s.phase
