-- The numbers, blank values and the fresh state that 01 names, each said once more.
use mathlib.Core.Bool.{true, false}
use mathlib.Core.List.{List, [], ◌∷◌, map}
use mathlib.Core.Logic.{◌↔◌}
use mathlib.Core.Path.{◌≡◌, refl}
use Rattle.octets.specs.BigEndian.{octets32}
use Rattle.base.specs.declared.refusal.Refusal.TheVariants.{WrongLength, WrongVersion, WrongActuators, WrongLayout, BadParameter, BadInput, BadStamp, ShortBuffer, UnsoundState, BadAction, WrongGroups}
use Rattle.rules.specs.declared.parameters.Params.{Params}
use Rattle.rules.specs.declared.parameters.Scene.{Scene}
use Rattle.rules.specs.declared.phase.Phase.TheVariants.{Dark}
use Rattle.rules.specs.declared.input.Force.TheVariants.{Free}
use Rattle.rules.specs.declared.state.State.{State}
use Rattle.rules.specs.declared.state.Link.{Link}
use Rattle.rules.specs.declared.state.Link.TheVariants.{Up, BusDown, PowerDown}
use Rattle.base.specs.Refusals.{number}
use Rattle.rules.specs.Forms.{form_of}
use Rattle.rules.specs.Barriers.{power_down, bus_down}
use Rattle.rules.specs.Steps.{fresh}
use Rattle.rules.specs.Calls.{least_params, unused, no_scenes, blank}
use Rattle.rules.specs.Runs.{record_octets}
use Rattle.rules.specs.Written.{parameters_octets}
use Rattle.base.proofs.Tests.{no}

-- 01, "Refusal numbers": the rows of the table, from the first to the ninth; and 02's: 11 for an action, 12 for the groups of a change
pub refusal_numbers : map number (WrongLength ∷ WrongVersion ∷ WrongActuators ∷ WrongLayout ∷ BadParameter ∷ BadInput ∷ BadStamp ∷ ShortBuffer ∷ UnsoundState ∷ BadAction ∷ WrongGroups ∷ []) ≡
    1 ∷ 2 ∷ 3 ∷ 4 ∷ 5 ∷ 6 ∷ 7 ∷ 8 ∷ 9 ∷ 11 ∷ 12 ∷ []
refusal_numbers = refl

-- "all by-value records are 0 on refusal, and by-value records not used are 0": all eight octets
pub a_blank_record_is_eight_zeros : record_octets blank ≡ 0 ∷ 0 ∷ 0 ∷ 0 ∷ 0 ∷ 0 ∷ 0 ∷ 0 ∷ []
unfolding record_octets blank octets32
a_blank_record_is_eight_zeros = refl

-- "a refusal's state is the fresh one with TimedOn 1 second, other times and modes 0, no scenes": as the 32 octets of its parameters
pub the_least_parameters_in_octets : parameters_octets (form_of least_params.version) least_params no_scenes ≡
    0 ∷ 0 ∷ 0 ∷ 0 ∷ 0 ∷ 1 ∷ 0 ∷ 0 ∷ 0 ∷ 0 ∷ 0 ∷ 0 ∷ 0 ∷ 0 ∷ 0 ∷ 0 ∷ 255 ∷ 0 ∷ 255 ∷ 0 ∷ 255 ∷ 0 ∷ 255 ∷ 0 ∷ 255 ∷ 0 ∷ 255 ∷ 0 ∷ 255 ∷ 0 ∷ 255 ∷ 0 ∷ []
unfolding least_params no_scenes unused form_of
the_least_parameters_in_octets = refl

-- "Fresh: clock 0, Dark, link up, night off, no lock, no force, both remembered outputs off."
pub fresh_in_words : (p : Params) (k : List Scene) → let s : State = fresh p k in
    (s.clock ≡ 0) × (s.phase ≡ Dark) × (s.link ≡ Up) × (s.night ≡ false) × (s.lock ≡ false) × (s.force ≡ Free) × (s.atlocking ≡ false) × (s.atfailure ≡ false)
unfolding fresh
fresh_in_words p k = (refl, refl, refl, refl, refl, refl, refl, refl)

-- "link (up, bus down, power down)": which of the three stops what the rows name
pub power_down_exactly_when : (link : Link) → (power_down link ≡ true) ↔ (link ≡ PowerDown)
power_down_exactly_when Up = (λ h. no h, λ e. cc)
power_down_exactly_when BusDown = (λ h. no h, λ e. cc)
power_down_exactly_when PowerDown = (λ h. refl, λ e. refl)

pub bus_down_exactly_when : (link : Link) → (bus_down link ≡ true) ↔ (link ≡ BusDown)
bus_down_exactly_when Up = (λ h. no h, λ e. cc)
bus_down_exactly_when BusDown = (λ h. refl, λ e. refl)
bus_down_exactly_when PowerDown = (λ h. no h, λ e. cc)
