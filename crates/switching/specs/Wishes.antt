-- What an input asks of the light, as the code has it: one of four wishes (01, "What each order does, at t").
use Rattle.std.specs.Prelude.{ℕ, Bool, true, false, cond, List, Option, Some, None}
use Rattle.rules.specs.declared.parameters.Params.{Params}
use Rattle.rules.specs.declared.parameters.Scene.{Scene}
use Rattle.rules.specs.declared.phase.Phase.{Phase}
use Rattle.rules.specs.declared.phase.Phase.TheVariants.{Dark, Lit, Starting, Timed, Warning, Ending}
use Rattle.rules.specs.Scenes.{recalled}
use Rattle.rules.specs.Orders.{on, off, timed_start}
use Rattle.switching.specs.declared.wish.Wish.{Wish}
use Rattle.switching.specs.declared.wish.Wish.TheVariants as wish

abbrev pub switch_asks : Bool → Wish
switch_asks true = wish.On
switch_asks false = wish.Off

-- "Timed stop: as Off in Timed, Warning and timed Starting; otherwise nothing."
abbrev pub stop_asks : Phase → Wish
stop_asks Dark = wish.Nothing
stop_asks Lit = wish.Nothing
stop_asks (Starting timed d) = cond timed wish.Off wish.Nothing
stop_asks (Timed d) = wish.Off
stop_asks (Warning d) = wish.Off
stop_asks (Ending d) = wish.Nothing

abbrev pub timed_asks : Phase → Bool → Wish
timed_asks phase true = wish.TimedStart
timed_asks phase false = stop_asks phase

-- "Scene recall: a used, taught entry acts as On or Off by its value; any other number does nothing."
abbrev pub recall_asks : Option Bool → Wish
recall_asks None = wish.Nothing
recall_asks (Some value) = switch_asks value

unfoldable pub scene_asks : List Scene → Bool → ℕ → Wish
scene_asks k true number = wish.Nothing
scene_asks k false number = recall_asks (recalled k number)

-- what a phase becomes
unfoldable pub granted : Params → Bool → Bool → ℕ → Phase → Wish → Phase
granted p night held t phase wish.Nothing = phase
granted p night held t phase wish.On = on p night held t phase
granted p night held t phase wish.Off = off p t phase
granted p night held t phase wish.TimedStart = timed_start p t phase
