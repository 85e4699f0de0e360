-- A state is sound exactly when it is as 01 says, clause by clause.
use Rattle.std.specs.Prelude.{Option, Some, None}
use Prim.Native.Nat.{ℕ, ◌+◌, ◌≤◌}
use mathlib.Core.Bool.{Bool, true, false, cond, not, ◌&&◌, ◌||◌}
use mathlib.Core.Logic.{◌↔◌, ◌⊎◌, inl, inr, ⊎_elim}
use mathlib.Core.Path.{◌≡◌, refl, sym}
use native.Mathlib.Omega.{arith}
use Rattle.rules.specs.declared.phase.Phase.{Phase}
use Rattle.rules.specs.declared.phase.Phase.TheVariants.{Dark, Lit}
use Rattle.rules.specs.declared.input.Force.{Force}
use Rattle.rules.specs.declared.input.Force.TheVariants.{Free, Off, On}
use Rattle.rules.specs.declared.state.Link.{Link}
use Rattle.rules.specs.declared.state.Link.TheVariants.{Up, BusDown, PowerDown}
use Rattle.rules.specs.declared.state.State.{State}
use Rattle.rules.specs.Phases.{deadline}
use Rattle.rules.specs.Orders.{standing}
use Rattle.rules.specs.Soundness.{soon, is_dark, is_lit, agrees, held_is_steady, force_decides, night_ends, power_down_is_clear, sound}
use Rattle.rules.specs.Facts.{SoundState}
use Rattle.rules.specs.Said.{Held}
use Rattle.base.proofs.Tests.{no, both, either}
use Rattle.rules.proofs.Laws.Cases.{each_phase}
use Rattle.rules.proofs.Laws.Deadlines.{params_exactly_when, Within, soon_within, within_soon}
use Rattle.rules.proofs.Laws.Scenes.{scenes_exactly_when}
use Rattle.rules.proofs.Laws.Holding.{fits_view, fits_consistent}
use Rattle.rules.proofs.Laws.Soundness.{sound_view, sound_whole}

-- ---- the tests, one by one

dark_exactly_when : (phase : Phase) → (is_dark phase ≡ true) ↔ (phase ≡ Dark)
dark_exactly_when phase = (each_phase (λ x. is_dark x ≡ true → x ≡ Dark) (λ h. refl) no (λ timed d. no) (λ d. no) (λ d. no) (λ d. no) phase, λ e. rw e)

lit_exactly_when : (phase : Phase) → (is_lit phase ≡ true) ↔ (phase ≡ Lit)
lit_exactly_when phase = (each_phase (λ x. is_lit x ≡ true → x ≡ Lit) no (λ h. refl) (λ timed d. no) (λ d. no) (λ d. no) (λ d. no) phase, λ e. rw e)

-- lock or force stands
pub held_exactly_when : (lock : Bool) (force : Force) → ((lock || standing force) ≡ true) ↔ Held lock force
held_exactly_when true force = (λ h. inl refl, λ h. refl)
held_exactly_when false Free = (λ h. no h, ⊎_elim (λ e. no e) (λ stands. absurd (stands refl)))
held_exactly_when false Off = (λ h. inr (λ e. no cc), λ h. refl)
held_exactly_when false On = (λ h. inr (λ e. no cc), λ h. refl)

-- what a guard asks for holds exactly when it holds where the guard stands
guarded : (guard rule : Bool) → (cond guard rule true ≡ true) ↔ (guard ≡ true → rule ≡ true)
guarded true rule = (λ h e. h, λ f. f refl)
guarded false rule = (λ h e. no e, λ f. refl)

soon_exactly_when : (t : ℕ) (x : Option ℕ) → (soon t x ≡ true) ↔ ((d : ℕ) → x ≡ Some d → (t + 1 ≤ d) × (d ≤ t + 655_350))
soon_exactly_when t None = (λ h d e. no cc, λ f. unfold soon in refl)
soon_exactly_when t (Some x) = (λ h d e. near d (sym e) (soon_within t x h), λ f. within_soon t x (omega (arith, f x refl)))
  where
    near : (d : ℕ) → Some d ≡ Some x → Within t x → (t + 1 ≤ d) × (d ≤ t + 655_350)
    near d e w =
        let same : d ≡ x = cc in
        (omega (arith, w.after), omega (arith, w.near))

agrees_exactly_when : (force : Force) (phase : Phase) → (agrees force phase ≡ true) ↔ ((force ≡ Off → phase ≡ Dark) × (force ≡ On → phase ≡ Lit))
agrees_exactly_when Free phase = (λ h. (λ e. no cc, λ e. no cc), λ f. refl)
agrees_exactly_when Off phase = (λ h. (λ e. (dark_exactly_when phase).0 h, λ e. no cc), λ f. (dark_exactly_when phase).1 (f.0 refl))
agrees_exactly_when On phase = (λ h. (λ e. no cc, λ e. (lit_exactly_when phase).0 h), λ f. (lit_exactly_when phase).1 (f.1 refl))

-- ---- the four rules on flags and phase

module _ (lock : Bool) (force : Force) (phase : Phase) where
  pub steady_exactly_when : (held_is_steady lock force phase ≡ true) ↔ (Held lock force → (phase ≡ Dark) ⊎ (phase ≡ Lit))
  unfolding held_is_steady
  steady_exactly_when =
      let test = guarded (lock || standing force) (is_dark phase || is_lit phase) in (
        λ h holds. ⊎_elim (λ dark. inl ((dark_exactly_when phase).0 dark)) (λ lit. inr ((lit_exactly_when phase).0 lit)) (either _ _ (test.0 h ((held_exactly_when lock force).1 holds))),
        λ f. test.1 (λ holds. ⊎_elim
            (λ dark. rw dark)
            (λ lit. rw lit)
            (f ((held_exactly_when lock force).0 holds))),
      )

  decides_exactly_when : (force_decides lock force phase ≡ true) ↔ (lock ≡ false → (force ≡ Off → phase ≡ Dark) × (force ≡ On → phase ≡ Lit))
  unfolding force_decides
  decides_exactly_when = by lock
    where
      by : (b : Bool) → (cond b true (agrees force phase) ≡ true) ↔ (b ≡ false → (force ≡ Off → phase ≡ Dark) × (force ≡ On → phase ≡ Lit))
      by true = (λ h e. no (sym e), λ f. refl)
      by false = (λ h e. (agrees_exactly_when force phase).0 h, λ f. (agrees_exactly_when force phase).1 (f refl))

  ends_exactly_when : (night : Bool) → (night_ends night lock force phase ≡ true) ↔ (night ≡ true → phase ≡ Lit → Held lock force)
  unfolding night_ends
  ends_exactly_when night =
      let test = guarded (night && is_lit phase) (lock || standing force) in (
        λ h dark lit. (held_exactly_when lock force).0 (test.0 h (rw (dark, lit))),
        λ f. test.1 (λ so. let parts = both night (is_lit phase) so in (held_exactly_when lock force).1 (f parts.0 ((lit_exactly_when phase).0 parts.1))),
      )

none_stands : (night lock : Bool) (force : Force) → (not (night || lock || standing force) ≡ true) ↔ ((night ≡ false) × (lock ≡ false) × (force ≡ Free))
none_stands true lock force = (λ h. no h, λ f. no (sym f.0))
none_stands false true force = (λ h. no h, λ f. no (sym f.1))
none_stands false false Free = (λ h. (refl, refl, refl), λ f. refl)
none_stands false false Off = (λ h. no h, λ f. no cc)
none_stands false false On = (λ h. no h, λ f. no cc)

clear_exactly_when : (link : Link) (night lock : Bool) (force : Force) (phase : Phase) →
    (power_down_is_clear link night lock force phase ≡ true) ↔ (link ≡ PowerDown → (phase ≡ Dark) × (night ≡ false) × (lock ≡ false) × (force ≡ Free))
unfolding power_down_is_clear
clear_exactly_when Up night lock force phase = (λ h e. no cc, λ f. refl)
clear_exactly_when BusDown night lock force phase = (λ h e. no cc, λ f. refl)
clear_exactly_when PowerDown night lock force phase = (
  λ h e. let none = (none_stands night lock force).0 (both (is_dark phase) _ h).1 in ((dark_exactly_when phase).0 (both _ _ h).0, none.0, none.1, none.2),
  λ f. let c = f refl in simp ((dark_exactly_when phase).1 c.0, (none_stands night lock force).1 (c.1, c.2, c.3)),
)

-- ---- the whole sentence

pub sound_exactly_when : (s : State) → (sound s ≡ true) ↔ SoundState s
sound_exactly_when s = (view, whole)
  where
    view : sound s ≡ true → SoundState s
    view h =
        let v = sound_view s h in
        let f = fits_view s v.soon v.consistent in
        record {
          params = (params_exactly_when _).0 v.params;
          scenes = (scenes_exactly_when _).0 v.scenes;
          clock = v.clock;
          soon = (soon_exactly_when _ _).0 v.soon;
          steady = (steady_exactly_when _ _ _).0 f.stands.steady;
          decided = (decides_exactly_when _ _ _).0 f.stands.decided;
          ends = (ends_exactly_when _ _ _ _).0 f.ends;
          clear = (clear_exactly_when _ _ _ _ _).0 f.stands.clear;
        }

    whole : SoundState s → sound s ≡ true
    whole r =
        let soon = (soon_exactly_when s.clock (deadline s.phase)).1 r.soon in
        sound_whole s
        record {
          params = (params_exactly_when _).1 r.params;
          scenes = (scenes_exactly_when _).1 r.scenes;
          clock = r.clock;
          soon = soon;
          consistent = fits_consistent s record {
            soon = soon;
            ends = (ends_exactly_when _ _ _ _).1 r.ends;
            stands = record {
              steady = (steady_exactly_when _ _ _).1 r.steady;
              decided = (decides_exactly_when _ _ _).1 r.decided;
              clear = (clear_exactly_when _ _ _ _ _).1 r.clear;
            };
          };
        }
