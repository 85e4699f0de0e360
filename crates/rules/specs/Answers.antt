-- The answer octet (01, "Which input counts"; 02, [4]).
use Rattle.std.specs.Prelude.{ℕ, Bool, true, false, cond, ◌&&◌, List, [], ◌∷◌, eqb, Option, Some, None}
use Rattle.std.specs.Bool.{beq}
use Rattle.rules.specs.declared.parameters.Scene.{Scene}
use Rattle.rules.specs.declared.phase.Phase.{Phase}
use Rattle.rules.specs.declared.phase.Phase.TheVariants.{Dark, Lit, Starting, Timed, Warning, Ending}
use Rattle.rules.specs.declared.state.Link.{Link}
use Rattle.rules.specs.declared.state.Link.TheVariants.{Up, BusDown, PowerDown}
use Rattle.rules.specs.declared.state.State.{State}
use Rattle.rules.specs.declared.barrier.Why.{Why}
use Rattle.rules.specs.declared.barrier.Why.TheVariants.{NoPower, NoBus, Locked, Forced}
use Rattle.rules.specs.declared.barrier.Barrier.{Barrier}
use Rattle.rules.specs.declared.barrier.Barrier.TheVariants.{Open, Notes, Stopped}
use Rattle.rules.specs.Inputs.{force_number}
use Rattle.rules.specs.Phases.{deadline}

-- "Answer octet, first that fits: 5 power down, 4 bus down, 3 lock, 2 force"
abbrev pub stopped_number : Why → ℕ
stopped_number NoPower = 5
stopped_number NoBus = 4
stopped_number Locked = 3
stopped_number Forced = 2

-- "then 0 if anything but the clock changed after the due timers had run, else 1." (`same`: nothing but the clock changed)
-- 02, [4]: "Answer 6 means noted and different; a noted equal value answers 1."
abbrev pub answer : Barrier → Bool → ℕ
answer (Stopped why) same = stopped_number why
answer Notes same = cond same 1 6
answer Open same = cond same 1 0

-- ---- nothing but the clock differs: proofs/Laws/Answers.antt shows that this is equality of all the rest

abbrev pub phase_number : Phase → ℕ
phase_number Dark = 0
phase_number Lit = 1
phase_number (Starting timed d) = cond timed 3 2
phase_number (Timed d) = 4
phase_number (Warning d) = 5
phase_number (Ending d) = 6

-- the deadline as a number; a phase without one has none to compare
abbrev pub moment : Option ℕ → ℕ
moment None = 0
moment (Some d) = d

abbrev pub due : Phase → ℕ
due phase = moment (deadline phase)

-- the phase of this number with this deadline, if it has one (proofs/Laws/Answers.antt, `phase_back`)
unfoldable pub phase_of : ℕ → ℕ → Phase
phase_of n d =
    cond (eqb n 0) Dark
    (cond (eqb n 1) Lit
    (cond (eqb n 2) (Starting false d)
    (cond (eqb n 3) (Starting true d)
    (cond (eqb n 4) (Timed d)
    (cond (eqb n 5) (Warning d) (Ending d))))))

unfoldable pub same_phase : Phase → Phase → Bool
same_phase a b = eqb (phase_number a) (phase_number b) && eqb (due a) (due b)

abbrev pub link_number : Link → ℕ
link_number Up = 0
link_number BusDown = 1
link_number PowerDown = 2

-- the link of this number (`link_back`)
unfoldable pub link_of : ℕ → Link
link_of n = cond (eqb n 0) Up (cond (eqb n 1) BusDown PowerDown)

unfoldable pub same_scene : Scene → Scene → Bool
same_scene a b = eqb a.number b.number && beq a.value b.value && beq a.taught b.taught

unfoldable pub same_scenes : List Scene → List Scene → Bool
same_scenes [] [] = true
same_scenes [] (y ∷ ys) = false
same_scenes (x ∷ xs) [] = false
same_scenes (x ∷ xs) (y ∷ ys) = same_scene x y && same_scenes xs ys

unfoldable pub same_flags : State → State → Bool
same_flags a b =
    (beq a.night b.night && beq a.lock b.lock) &&
    (eqb (force_number a.force) (force_number b.force) && eqb (link_number a.link) (link_number b.link)) &&
    (beq a.atlocking b.atlocking && beq a.atfailure b.atfailure)

-- (the parameters never change)
unfoldable pub same_but_clock : State → State → Bool
same_but_clock a b = (same_phase a.phase b.phase && same_flags a b) && same_scenes a.scenes b.scenes
