-- The phases with their deadlines, and the timers (01, "Phases").
use Rattle.std.specs.Prelude.{ℕ, ◌+◌, Bool, true, false, cond, not, ◌&&◌, ◌||◌, eqb, Option, Some, None}
use Rattle.rules.specs.declared.parameters.Params.{Params}
use Rattle.rules.specs.declared.phase.Phase.{Phase}
use Rattle.rules.specs.declared.phase.Phase.TheVariants.{Dark, Lit, Starting, Timed, Warning, Ending}

-- "Dark (off), Lit (on)", "Starting (off)", "Timed (on)", "Warning and Ending (on)"
abbrev pub output : Phase → Bool
output Dark = false
output Lit = true
output (Starting timed d) = false
output (Timed d) = true
output (Warning d) = true
output (Ending d) = true

-- "one phase, some with a deadline"; "Dark (off), Lit (on): no deadline."
abbrev pub deadline : Phase → Option ℕ
deadline Dark = None
deadline Lit = None
deadline (Starting timed d) = Some d
deadline (Timed d) = Some d
deadline (Warning d) = Some d
deadline (Ending d) = Some d

-- light that comes on at t: Timed until t+TimedOn, or Lit
unfoldable pub lit_at : Params → Bool → ℕ → Phase
lit_at p timed t = cond timed (Timed (t + p.timedon)) Lit

-- what a phase becomes at its deadline d
--   "Starting (off), steady or timed. At its deadline d: Timed until d+TimedOn if it is timed or night is then on, else Lit."
--   "Timed (on). At d: Warning until d+Prewarning; Dark if Prewarning is 0."
--   "Warning and Ending (on). At d: Dark."
unfoldable pub at_deadline : Params → Bool → Phase → Phase
at_deadline p night Dark = Dark
at_deadline p night Lit = Lit
at_deadline p night (Starting timed d) = lit_at p (timed || night) d
at_deadline p night (Timed d) = cond (eqb p.prewarning 0) Dark (Warning (d + p.prewarning))
at_deadline p night (Warning d) = Dark
at_deadline p night (Ending d) = Dark

-- when a lit phase goes dark by itself, if ever (02, [5]: "read from one place"). By the timers above:
--   Timed, at d: "Warning until d+Prewarning", and then, or at once where "Prewarning is 0", Dark
--   "Warning and Ending (on). At d: Dark."
abbrev pub own_end : Params → Phase → Option ℕ
own_end p Dark = None
own_end p Lit = None
own_end p (Starting timed d) = None
own_end p (Timed d) = Some (d + p.prewarning)
own_end p (Warning d) = Some d
own_end p (Ending d) = Some d

-- ""Set on" is Lit, or Timed until t+TimedOn when night is on and, once the order's own flags are changed, neither lock nor
-- force stands." (`held`: lock or force stands; `set_off` is the phase Dark)
unfoldable pub set_on : Params → Bool → Bool → ℕ → Phase
set_on p night held t = lit_at p (night && not held) t

-- ""Set off" is Dark." "Neither waits for a delay."
abbrev pub set_off : Phase
set_off = Dark
