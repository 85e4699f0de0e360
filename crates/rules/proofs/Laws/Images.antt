-- An image is read back as its state, and octets are an image exactly when they are that of a sound state. (A table has eight entries: in
-- code by its type.)
use Prim.Native.Nat.{ℕ, zero, suc, ◌+◌, ◌*◌, ◌/◌, ◌%◌, ◌≤◌, ◌<◌}
use mathlib.Core.Bool.{Bool, true, false, cond, ◌&&◌}
use mathlib.Core.List.{List, [], ◌∷◌, ◌++◌, append_assoc, append-nil}
use mathlib.Core.Logic.{◌↔◌, ⊎_elim}
use mathlib.Core.Path.{◌≡◌, refl, sym, ap, ◌∙◌}
use native.Mathlib.Omega.{arith}
use lib.ListN.{length, take, drop, length-append, get_or-append, get_or-eq_default, take-append-drop}
use lib.Seq.{take_at, length-take-le, get_or-take, drop-length, get_or-append-add}
use lib.Dec.{eqb}
use borrow.Author.Tests.{eqb-true, eqb-false}
use Rattle.octets.specs.BigEndian.{octet, be32, octets32}
use Rattle.rules.specs.declared.form.Scale.TheVariants.{Tenths}
use Rattle.rules.specs.declared.form.Form.{Form}
use Rattle.rules.specs.declared.parameters.Params.{Params}
use Rattle.rules.specs.declared.parameters.Scene.{Scene}
use Rattle.rules.specs.declared.phase.Phase.{Phase}
use Rattle.rules.specs.declared.phase.Phase.TheVariants.{Dark, Lit, Starting, Timed, Warning, Ending}
use Rattle.rules.specs.declared.input.Force.{Force}
use Rattle.rules.specs.declared.input.Force.TheVariants.{Free, Off, On}
use Rattle.rules.specs.declared.state.Link.{Link}
use Rattle.rules.specs.declared.state.Link.TheVariants.{Up, BusDown, PowerDown}
use Rattle.rules.specs.declared.state.State.{State}
use Rattle.rules.specs.Forms.{HasVersion}
use Rattle.rules.specs.Parameters.{time_at, delay, params_of, scenes_of}
use Rattle.rules.specs.Inputs.{force_number, force_of}
use Rattle.rules.specs.Answers.{phase_number, due, phase_of, link_number, link_of}
use Rattle.rules.specs.Status.{bit}
use Rattle.rules.specs.Soundness.{sound}
use Rattle.rules.specs.Written.{times_octets, mode_octets, flags_octet, scenes_octets, parameters_octets}
use Rattle.rules.specs.Images.{image_size, image_form, flag_octets, moment_octets, image, state_in, same_octets, is_image}
use Rattle.rules.specs.Facts.{ParamsFit, EntryFits, entry, Tells, ImageInNumbers, OnlyMeant}
use Rattle.octets.proofs.BothWays.{what_is_written_is_read}
use Rattle.base.proofs.Tests.{no, both, eqb_same, cond_case, by_order}
use Rattle.rules.proofs.Laws.Written.{from, from_drop, time_octets, joined, zero_or_one_lem, plain_as_written, tenths_back, bit_back, flags_back, parameters_length, behind_times, number_at, flags_at, read_back_by_a_row}
use Rattle.rules.proofs.Laws.Deadlines.{params_exactly_when, due_is, due_none}
use Rattle.rules.proofs.Laws.Scenes.{scenes_exactly_when}
use Rattle.rules.proofs.Laws.Soundness.{sound_view, due_bounded}
use Rattle.rules.proofs.Laws.Answers.{phase_back, force_back, link_back}

-- ---- equal octet strings

same_means_equal : (a b : List ℕ) → same_octets a b ≡ true → a ≡ b
unfolding same_octets
same_means_equal [] [] h = refl
same_means_equal [] (y ∷ b) h = no h
same_means_equal (x ∷ a) [] h = no h
same_means_equal (x ∷ a) (y ∷ b) h =
    let parts = both _ _ h in
    rw (eqb-true x y parts.0, same_means_equal a b parts.1)

equal_are_same : (a : List ℕ) → same_octets a a ≡ true
unfolding same_octets
equal_are_same [] = refl
equal_are_same (x ∷ a) = simp (eqb_same, equal_are_same a)

-- ---- bits, as octets

tells_bit : (n : ℕ) (b : Bool) → n ≡ bit b 1 → Tells n b
tells_bit n b e = (λ h. e ∙ rw h, λ h. e ∙ rw h)

one_tells : Tells 1 true
one_tells = (λ h. refl, λ h. no (sym h))

zero_tells : Tells 0 false
zero_tells = (λ h. no h, λ h. refl)

flags_tell : (value taught : Bool) → Tells ((cond value 1 0 + cond taught 2 0) % 2) value × Tells ((cond value 1 0 + cond taught 2 0) / 2) taught
flags_tell true true = (one_tells, one_tells)
flags_tell true false = (one_tells, zero_tells)
flags_tell false true = (zero_tells, one_tells)
flags_tell false false = (zero_tells, zero_tells)

-- ---- where the parts of an image stand

module _ (s : State) (eight : length s.scenes ≡ 8) where
  abbrev form : Form
  form = image_form s.params.version

  abbrev written : List ℕ
  written = parameters_octets form s.params s.scenes

  forty : length written ≡ 40
  forty = parameters_length form s.params s.scenes eight

  pub image_length : length (image s) ≡ 56
  unfolding image flag_octets moment_octets octets32
  image_length = length-append written (flag_octets s ++ moment_octets s) ∙ ap (λ (n : ℕ). n + 16) forty

  parameters_first : take 40 (image s) ≡ written
  unfolding image
  parameters_first = take_at written (flag_octets s ++ moment_octets s) 40 forty

  behind : (m : ℕ) → octet (image s) (40 + m) ≡ octet (flag_octets s ++ moment_octets s) m
  unfolding image
  behind m = ap (λ (n : ℕ). octet (image s) (n + m)) (sym forty) ∙ get_or-append-add written (flag_octets s ++ moment_octets s) m 0

  -- version, flags and phase
  pub record FlagsStand : Type 0 where
    pub version : octet (image s) 40 ≡ s.params.version
    pub night : octet (image s) 41 ≡ bit s.night 1
    pub lock : octet (image s) 42 ≡ bit s.lock 1
    pub force : octet (image s) 43 ≡ force_number s.force
    pub link : octet (image s) 44 ≡ link_number s.link
    pub atlocking : octet (image s) 45 ≡ bit s.atlocking 1
    pub atfailure : octet (image s) 46 ≡ bit s.atfailure 1
    pub phase : octet (image s) 47 ≡ phase_number s.phase

  flags_stand : FlagsStand
  unfolding flag_octets
  flags_stand = record { version = behind 0; night = behind 1; lock = behind 2; force = behind 3; link = behind 4; atlocking = behind 5; atfailure = behind 6; phase = behind 7 }

  clock_stands : be32 (image s) 48 ≡ s.clock
  unfolding flag_octets moment_octets octets32
  clock_stands = rw (behind 8, behind 9, behind 10, behind 11) (what_is_written_is_read s.clock [])

  due_stands : be32 (image s) 52 ≡ due s.phase
  unfolding flag_octets moment_octets octets32
  due_stands = rw (behind 12, behind 13, behind 14, behind 15) (what_is_written_is_read (due s.phase) [])

  -- ---- octet by octet, in numbers

  front : (i : ℕ) → i < 40 → octet (image s) i ≡ octet written i
  unfolding image
  front i within = get_or-append written (flag_octets s ++ moment_octets s) 0 i (omega (arith, forty))

  mode_stands : (m : ℕ) → m < 8 → octet (image s) (16 + m) ≡ octet (mode_octets s.params ++ scenes_octets s.scenes) m
  mode_stands m within = front (16 + m) (omega arith) ∙ behind_times form s.params s.scenes eight m

  number_stands : (n : ℕ) → n < 8 → octet (image s) (24 + 2 * n) ≡ (entry s.scenes n).number
  number_stands n within = front (24 + 2 * n) (omega arith) ∙ number_at form s.params s.scenes eight n within

  flags_are : (n : ℕ) → n < 8 → octet (image s) (25 + 2 * n) ≡ flags_octet (entry s.scenes n)
  flags_are n within = front (25 + 2 * n) (omega arith) ∙ flags_at form s.params s.scenes eight n within

  times_stand : (be32 (image s) 0 ≡ s.params.ondelay) × (be32 (image s) 4 ≡ s.params.offdelay) × (be32 (image s) 8 ≡ s.params.timedon) × (be32 (image s) 12 ≡ s.params.prewarning)
  unfolding image delay time_at
  times_stand =
      rw (append_assoc (times_octets Tenths s.params) (mode_octets s.params ++ scenes_octets s.scenes) (flag_octets s ++ moment_octets s))
      (tenths_back s.params.version s.params (mode_octets s.params ++ scenes_octets s.scenes ++ (flag_octets s ++ moment_octets s)))

  pub image_in_numbers : ImageInNumbers s
  image_in_numbers =
      let f = flags_stand in
      record {
        size = image_length;
        ondelay = times_stand.0;
        offdelay = times_stand.1;
        timedon = times_stand.2;
        prewarning = times_stand.3;
        locking = mode_stands 0 (omega arith);
        unlocking = mode_stands 1 (omega arith);
        busfailure = mode_stands 2 (omega arith);
        busreturn = mode_stands 3 (omega arith);
        powerreturn = mode_stands 4 (omega arith);
        learning = tells_bit _ _ (mode_stands 5 (omega arith));
        zeros = (mode_stands 6 (omega arith), mode_stands 7 (omega arith));
        numbers = number_stands;
        values = λ n within. rw (flags_are n within) (flags_tell (entry s.scenes n).value (entry s.scenes n).taught).0;
        taught = λ n within. rw (flags_are n within) (flags_tell (entry s.scenes n).value (entry s.scenes n).taught).1;
        version = f.version;
        night = tells_bit _ _ f.night;
        lock = tells_bit _ _ f.lock;
        free = λ e. f.force ∙ rw e;
        off = λ e. f.force ∙ rw e;
        on = λ e. f.force ∙ rw e;
        up = λ e. f.link ∙ rw e;
        busdown = λ e. f.link ∙ rw e;
        powerdown = λ e. f.link ∙ rw e;
        atlocking = tells_bit _ _ f.atlocking;
        atfailure = tells_bit _ _ f.atfailure;
        dark = λ e. f.phase ∙ rw e;
        lit = λ e. f.phase ∙ rw e;
        starting = λ d e. f.phase ∙ rw e;
        starting_timed = λ d e. f.phase ∙ rw e;
        timed = λ d e. f.phase ∙ rw e;
        warning = λ d e. f.phase ∙ rw e;
        ending = λ d e. f.phase ∙ rw e;
        clock = clock_stands;
        ends = λ d e. due_stands ∙ due_is s.phase d e;
        lasts = λ e. due_stands ∙ due_none s.phase e;
      }

  -- ---- an image is read back

  -- any state, sound or not, is that of its image
  pub image_is_read_back : state_in (image s) ≡ s
  unfolding state_in
  image_is_read_back =
      let f = flags_stand in
      let back = read_back_by_a_row form s.params s.scenes eight refl (tenths_back s.params.version s.params) in
      rw (f.version, parameters_first, back.0, back.1, clock_stands, due_stands, f.night, f.lock, f.force, f.link, f.atlocking, f.atfailure, f.phase)
      (rw (bit_back s.night, bit_back s.lock, force_back s.force, link_back s.link, bit_back s.atlocking, bit_back s.atfailure, phase_back s.phase))

  -- the image of a sound state is accepted
  pub image_is_accepted : sound s ≡ true → is_image (image s) ≡ true
  unfolding is_image
  image_is_accepted sane = rw (image_is_read_back) (simp (image_length, equal_are_same, sane))

-- equal images are images of equal states
pub equal_images_are_equal_states : (a b : State) → length a.scenes ≡ 8 → length b.scenes ≡ 8 → image a ≡ image b → a ≡ b
equal_images_are_equal_states a b eight also same = sym (image_is_read_back a eight) ∙ ap state_in same ∙ image_is_read_back b also

-- ---- what is accepted

pub read_scenes_are_eight : (octets : List ℕ) → length (state_in octets).scenes ≡ 8
unfolding state_in scenes_of
read_scenes_are_eight octets = refl

module _ (octets : List ℕ) (accepted : is_image octets ≡ true) where
  tests : ((eqb (length octets) image_size && same_octets (image (state_in octets)) octets) ≡ true) × (sound (state_in octets) ≡ true)
  unfolding is_image
  tests = both (eqb (length octets) image_size && same_octets (image (state_in octets)) octets) (sound (state_in octets)) accepted

  pub accepted_is_the_image : image (state_in octets) ≡ octets
  accepted_is_the_image = same_means_equal _ _ (both (eqb (length octets) image_size) _ tests.0).1

  pub accepted_is_long : length octets ≡ 56
  accepted_is_long = eqb-true _ _ (both (eqb (length octets) image_size) _ tests.0).0

  pub accepted_is_sound : sound (state_in octets) ≡ true
  accepted_is_sound = tests.1

-- octets are accepted exactly when they are the image of a sound state with its eight entries
pub record ImageOf (s : State) (octets : List ℕ) : Type 0 where
  pub sane : sound s ≡ true
  pub eight : length s.scenes ≡ 8
  pub written : octets ≡ image s

pub image_exactly_when : (octets : List ℕ) → (is_image octets ≡ true) ↔ ((s : State) × ImageOf s octets)
image_exactly_when octets = (
  λ h. (state_in octets, record { sane = accepted_is_sound octets h; eight = read_scenes_are_eight octets; written = sym (accepted_is_the_image octets h) }),
  λ i. rw i.1.written (image_is_accepted i.0 i.1.eight i.1.sane),
)

-- ---- octets that say nothing but what a state holds are written as they stand, and no others

bit_few : (b : Bool) → bit b 1 ≤ 1
bit_few true = omega arith
bit_few false = omega arith

force_few : (f : Force) → (force_number f ≤ 3) × (force_number f ≡ 1 → ⊥)
force_few Free = (omega arith, λ e. omega arith)
force_few Off = (omega arith, λ e. omega arith)
force_few On = (omega arith, λ e. omega arith)

link_few : (l : Link) → link_number l ≤ 2
link_few Up = omega arith
link_few BusDown = omega arith
link_few PowerDown = omega arith

phase_few : (x : Phase) → (phase_number x ≤ 6) × (phase_number x ≤ 1 → due x ≡ 0)
phase_few Dark = (omega arith, λ steady. refl)
phase_few Lit = (omega arith, λ steady. refl)
phase_few (Starting true d) = (omega arith, λ steady. absurd (omega arith))
phase_few (Starting false d) = (omega arith, λ steady. absurd (omega arith))
phase_few (Timed d) = (omega arith, λ steady. absurd (omega arith))
phase_few (Warning d) = (omega arith, λ steady. absurd (omega arith))
phase_few (Ending d) = (omega arith, λ steady. absurd (omega arith))

module _ (octets : List ℕ) (e : image (state_in octets) ≡ octets) where
  abbrev said : State
  said = state_in octets

  stands : FlagsStand said (read_scenes_are_eight octets)
  stands = flags_stand said (read_scenes_are_eight octets)

  -- an octet that is this number, which is small
  few : (i n limit : ℕ) → octet (image said) i ≡ n → n ≤ limit → octet octets i ≤ limit
  few i n limit is small = rw e at (rw (← is) at small)

  moment : (eight : length said.scenes ≡ 8) → be32 octets 52 ≡ due said.phase
  moment eight = rw e at (due_stands said eight)

  pub as_written_is_meant : OnlyMeant octets
  as_written_is_meant =
      let eight = read_scenes_are_eight octets in
      record {
        size = ap length (sym e) ∙ image_length said eight;
        learning = few 21 _ 1 (mode_stands said eight 5 (omega arith)) (bit_few said.params.learning);
        zeros = (rw e at (mode_stands said eight 6 (omega arith)), rw e at (mode_stands said eight 7 (omega arith)));
        flags = λ n within. few (25 + 2 * n) _ 3 (flags_are said eight n within) (flags_back (entry said.scenes n).value (entry said.scenes n).taught).2;
        night = few 41 _ 1 stands.night (bit_few said.night);
        lock = few 42 _ 1 stands.lock (bit_few said.lock);
        force = (few 43 _ 3 stands.force (force_few said.force).0, λ one. (force_few said.force).1 (sym stands.force ∙ rw e one));
        link = few 44 _ 2 stands.link (link_few said.link);
        atlocking = few 45 _ 1 stands.atlocking (bit_few said.atlocking);
        atfailure = few 46 _ 1 stands.atfailure (bit_few said.atfailure);
        phase = few 47 _ 6 stands.phase (phase_few said.phase).0;
        due = λ steady. moment eight ∙ (phase_few said.phase).1 (rw (rw e at stands.phase) at steady);
      }

force_number_lem : (n : ℕ) → n ≤ 3 → (n ≡ 1 → ⊥) → force_number (force_of n) ≡ n
unfolding force_of
force_number_lem n few other =
    cond_case (λ (f : Force). force_number f ≡ n) (eqb n 2) Off _ (λ e. sym (eqb-true n 2 e))
    (λ two. cond_case (λ (f : Force). force_number f ≡ n) (eqb n 3) On Free (λ e. sym (eqb-true n 3 e)) (λ three. omega (arith, few, other, eqb-false n 2 two, eqb-false n 3 three)))

link_number_lem : (n : ℕ) → n ≤ 2 → link_number (link_of n) ≡ n
unfolding link_of
link_number_lem n few =
    cond_case (λ (l : Link). link_number l ≡ n) (eqb n 0) Up _ (λ e. sym (eqb-true n 0 e))
    (λ none. cond_case (λ (l : Link). link_number l ≡ n) (eqb n 1) BusDown PowerDown (λ e. sym (eqb-true n 1 e)) (λ one. omega (arith, few, eqb-false n 0 none, eqb-false n 1 one)))

phase_number_lem : (n d : ℕ) → n ≤ 6 → (n ≤ 1 → d ≡ 0) → (phase_number (phase_of n d) ≡ n) × (due (phase_of n d) ≡ d)
unfolding phase_of
phase_number_lem zero d few steady = (refl, sym (steady (omega arith)))
phase_number_lem (suc zero) d few steady = (refl, sym (steady (omega arith)))
phase_number_lem (suc (suc zero)) d few steady = (refl, refl)
phase_number_lem (suc (suc (suc zero))) d few steady = (refl, refl)
phase_number_lem (suc (suc (suc (suc zero)))) d few steady = (refl, refl)
phase_number_lem (suc (suc (suc (suc (suc zero))))) d few steady = (refl, refl)
phase_number_lem (suc (suc (suc (suc (suc (suc zero)))))) d few steady = (refl, refl)
phase_number_lem (suc (suc (suc (suc (suc (suc (suc n))))))) d few steady = absurd (omega arith)

module _ (octets : List ℕ) (small : (i : ℕ) → octet octets i < 256) (meant : OnlyMeant octets) where
  abbrev row : Form
  row = image_form (octet octets 40)

  first_length : length (take 40 octets) ≡ 40
  first_length = length-take-le 40 octets (omega (arith, meant.size))

  first_small : (i : ℕ) → octet (take 40 octets) i < 256
  first_small i = by_order 40 i (λ past. rw (get_or-eq_default (take 40 octets) 0 {n = i} (omega (arith, first_length))) (omega arith)) (λ before. rw (get_or-take 40 octets i 0 before) (small i))

  parameters_as_written : parameters_octets row (params_of row (take 40 octets)) (scenes_of row (take 40 octets)) ≡ take 40 octets
  parameters_as_written =
      plain_as_written row (take 40 octets) first_small
      record {
        whole = first_length;
        learning = rw (get_or-take 40 octets 21 0 (omega arith)) meant.learning;
        zeros = (get_or-take 40 octets 22 0 (omega arith) ∙ meant.zeros.0, get_or-take 40 octets 23 0 (omega arith) ∙ meant.zeros.1);
        flags = λ n within. rw (get_or-take 40 octets (25 + 2 * n) 0 (omega arith)) (meant.flags n within);
      }

  flags_as_written : flag_octets (state_in octets) ≡ from octets 8 40
  unfolding flag_octets state_in params_of from
  flags_as_written =
      let phase = phase_number_lem (octet octets 47) (be32 octets 52) meant.phase meant.due in
      rw (zero_or_one_lem _ meant.night, zero_or_one_lem _ meant.lock, force_number_lem _ meant.force.0 meant.force.1, link_number_lem _ meant.link, zero_or_one_lem _ meant.atlocking, zero_or_one_lem _ meant.atfailure, phase.0)

  moments_as_written : moment_octets (state_in octets) ≡ from octets 4 48 ++ from octets 4 52
  unfolding moment_octets state_in
  moments_as_written =
      let phase = phase_number_lem (octet octets 47) (be32 octets 52) meant.phase meant.due in
      rw phase.1 (joined (clock 48) (clock 52))
    where
      clock : (at : ℕ) → octets32 (be32 octets at) ≡ from octets 4 at
      clock at = unfold time_at in time_octets octets small Tenths at

  said_parameters : parameters_octets (image_form (state_in octets).params.version) (state_in octets).params (state_in octets).scenes ≡ take 40 octets
  unfolding state_in params_of
  said_parameters = parameters_as_written

  rest : from octets 8 40 ++ (from octets 4 48 ++ from octets 4 52) ≡ drop 40 octets
  rest =
      let past : drop 56 octets ≡ [] = rw (← meant.size) (drop-length octets) in
      let last : from octets 4 52 ≡ drop 52 octets = sym (append-nil (from octets 4 52)) ∙ rw past at (from_drop octets 4 52 (omega (arith, meant.size))) in
      rw (last, from_drop octets 4 48 (omega (arith, meant.size)), from_drop octets 8 40 (omega (arith, meant.size)))

  pub meant_as_written : image (state_in octets) ≡ octets
  unfolding image
  meant_as_written = joined said_parameters (joined flags_as_written moments_as_written ∙ rest) ∙ take-append-drop 40 octets

-- so octets are an image exactly when each of them has a meaning, and the state that they say is sound
pub only_meant_exactly_when : (octets : List ℕ) → ((i : ℕ) → octet octets i < 256) → (is_image octets ≡ true) ↔ (OnlyMeant octets × (sound (state_in octets) ≡ true))
only_meant_exactly_when octets small = (
  λ h. (as_written_is_meant octets (accepted_is_the_image octets h), accepted_is_sound octets h),
  λ m. (image_exactly_when octets).1 (state_in octets, record { sane = m.1; eight = read_scenes_are_eight octets; written = sym (meant_as_written octets small m.0) }),
)

-- ---- an image is a string of octets

abbrev Small : List ℕ → Type 0
Small [] = Unit
Small (x ∷ xs) = (x < 256) × Small xs

small_octet : (xs : List ℕ) → Small xs → (i : ℕ) → octet xs i < 256
small_octet [] small i = omega arith
small_octet (x ∷ xs) small zero = small.0
small_octet (x ∷ xs) small (suc i) = small_octet xs small.1 i

small_both : (xs ys : List ℕ) → Small xs → Small ys → Small (xs ++ ys)
small_both [] ys a b = b
small_both (x ∷ xs) ys a b = (a.0, small_both xs ys a.1 b)

small_32 : (n : ℕ) → n ≤ 1_519_350 → Small (octets32 n)
unfolding octets32
small_32 n few = (omega arith, (omega arith, (omega arith, (omega arith, tt))))

small_scenes : (k : List Scene) → ((n : ℕ) → EntryFits (entry k n)) → Small (scenes_octets k)
small_scenes [] fits = tt
small_scenes (e ∷ later) fits =
    let number : e.number < 256 = ⊎_elim (λ few. omega arith) (λ unused. omega (arith, unused.0)) (fits 0) in
    (number, (omega (arith, (flags_back e.value e.taught).2), small_scenes later (λ n. fits (suc n))))

small_times : (p : Params) → ParamsFit p → Small (times_octets Tenths p)
small_times p f =
    small_both (octets32 p.ondelay) _ (small_32 p.ondelay (omega (arith, f.ondelay.limit)))
    (small_both (octets32 p.offdelay) _ (small_32 p.offdelay (omega (arith, f.offdelay.limit)))
    (small_both (octets32 p.timedon) _ (small_32 p.timedon (omega (arith, f.timedon.limit)))
    (small_32 p.prewarning (omega (arith, f.prewarning.limit)))))

small_modes : (p : Params) → ParamsFit p → Small (mode_octets p)
small_modes p f =
    (omega (arith, f.locking), (omega (arith, f.unlocking), (omega (arith, f.busfailure), (omega (arith, f.busreturn), (omega (arith, f.powerreturn), (omega (arith, bit_few p.learning), (omega arith, (omega arith, tt))))))))

small_flags : (s : State) → HasVersion s.params.version → Small (flag_octets s)
unfolding flag_octets
small_flags s known =
    let version : s.params.version < 256 = ⊎_elim (λ one. omega arith) (λ two. omega arith) known in
    (version, (omega (arith, bit_few s.night), (omega (arith, bit_few s.lock), (omega (arith, (force_few s.force).0), (omega (arith, link_few s.link), (omega (arith, bit_few s.atlocking), (omega (arith, bit_few s.atfailure), (omega (arith, (phase_few s.phase).0), tt))))))))

-- the numbers of a sound state fit their octets
pub image_fits_octets : (s : State) → sound s ≡ true → (i : ℕ) → octet (image s) i < 256
unfolding image moment_octets
image_fits_octets s sane =
    let v = sound_view s sane in
    let p = (params_exactly_when s.params).0 v.params in
    let k = (scenes_exactly_when s.scenes).0 v.scenes in
    let table = small_both (mode_octets s.params) (scenes_octets s.scenes) (small_modes s.params p) (small_scenes s.scenes k.entries) in
    let times = small_both (times_octets Tenths s.params) (mode_octets s.params ++ scenes_octets s.scenes) (small_times s.params p) table in
    let moments = small_both (octets32 s.clock) (octets32 (due s.phase)) (small_32 s.clock (omega (arith, v.clock))) (small_32 (due s.phase) (due_bounded s sane)) in
    let flags = small_both (flag_octets s) (moment_octets s) (small_flags s p.version) moments in
    small_octet (image s) (small_both (parameters_octets (image_form s.params.version) s.params s.scenes) (flag_octets s ++ moment_octets s) times flags)
