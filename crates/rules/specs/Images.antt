-- The image of a state, for an editor in C. What is quoted here and in Live.antt are the words in which the editor's people asked for it, with
-- request 3; they stand in none of the documents. "An image of a state: a fixed number of octets .., every octet with a meaning .., numbers most significant octet first, no
-- padding that may differ." proofs/Laws/Images.antt proves that an image is read back as its state, and which octets are an image.
use Rattle.std.specs.Prelude.{ℕ, Bool, true, false, ◌&&◌, List, [], ◌∷◌, ◌++◌, length, take, eqb}
use Rattle.octets.specs.BigEndian.{octet, be32, octets32}
use Rattle.rules.specs.declared.form.Scale.TheVariants.{Tenths}
use Rattle.rules.specs.declared.form.Form.{Form}
use Rattle.rules.specs.declared.state.State.{State}
use Rattle.rules.specs.Layout.{parameters_size}
use Rattle.rules.specs.Parameters.{params_of, scenes_of}
use Rattle.rules.specs.Inputs.{force_number, force_of}
use Rattle.rules.specs.Answers.{phase_number, due, phase_of, link_number, link_of}
use Rattle.rules.specs.Status.{bit}
use Rattle.rules.specs.Soundness.{sound}
use Rattle.rules.specs.Written.{parameters_octets}

-- "a fixed number of octets"
abbrev pub image_size : ℕ
image_size = 56

-- "every octet with a meaning": parameters and scenes, octets 0-39, stand as version 2 writes them, times in tenths, whatever their version
abbrev pub image_form : ℕ → Form
image_form version = record { version = version; scale = Tenths }

-- 40 version; 41 night; 42 lock; 43 force; 44 link; 45 and 46 the outputs remembered at locking and at power failure; 47 phase
unfoldable pub flag_octets : State → List ℕ
flag_octets s =
    s.params.version ∷
    bit s.night 1 ∷
    bit s.lock 1 ∷
    force_number s.force ∷
    link_number s.link ∷
    bit s.atlocking 1 ∷
    bit s.atfailure 1 ∷
    phase_number s.phase ∷
    []

-- "numbers most significant octet first": 48-51 clock; 52-55 deadline. "no padding that may differ": 0 where the phase has none
unfoldable pub moment_octets : State → List ℕ
moment_octets s = octets32 s.clock ++ octets32 (due s.phase)

unfoldable pub image : State → List ℕ
image s = parameters_octets (image_form s.params.version) s.params s.scenes ++ (flag_octets s ++ moment_octets s)

-- the state that octets say, an image or not
unfoldable pub state_in : List ℕ → State
state_in octets =
    let form : Form = image_form (octet octets 40) in
    let written : List ℕ = take (parameters_size form) octets in
    record {
      params = params_of form written;
      scenes = scenes_of form written;
      clock = be32 octets 48;
      night = eqb (octet octets 41) 1;
      lock = eqb (octet octets 42) 1;
      force = force_of (octet octets 43);
      link = link_of (octet octets 44);
      atlocking = eqb (octet octets 45) 1;
      atfailure = eqb (octet octets 46) 1;
      phase = phase_of (octet octets 47) (be32 octets 52);
    }

-- equality of octet strings
unfoldable pub same_octets : List ℕ → List ℕ → Bool
same_octets [] [] = true
same_octets [] (y ∷ ys) = false
same_octets (x ∷ xs) [] = false
same_octets (x ∷ xs) (y ∷ ys) = eqb x y && same_octets xs ys

-- octets that are the image of a sound state: no octet of them can say anything that the state does not
unfoldable pub is_image : List ℕ → Bool
is_image octets = (eqb (length octets) image_size && same_octets (image (state_in octets)) octets) && sound (state_in octets)
