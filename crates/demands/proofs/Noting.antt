-- A noted input changes its own value alone, and a night that is noted holds at the release and at the unlock.
use Prim.Native.Nat.{ℕ, ◌+◌, ◌*◌, ◌/◌, ◌%◌, ◌≤◌}
use mathlib.Core.Bool.{Bool, true, false, cond, not}
use mathlib.Core.Path.{◌≡◌, refl, sym, ap, subst, ◌∙◌}
use mathlib.Core.List.{List, [], ◌∷◌, ◌++◌, append_assoc}
use native.Mathlib.Omega.{arith}
use Rattle.rules.specs.declared.parameters.Params.{Params}
use Rattle.rules.specs.declared.parameters.Scene.{Scene}
use Rattle.rules.specs.declared.input.Force.TheVariants.{Free}
use Rattle.rules.specs.declared.input.Event.{Event}
use Rattle.rules.specs.declared.input.Event.TheVariants.{Failure, Return}
use Rattle.rules.specs.declared.input.Input.{Input}
use Rattle.rules.specs.declared.input.Input.TheVariants.{SwitchOnOff, TimedStartStop, NumberedSceneControl, SwitchOnOffForced, LockDevice, NightMode, Bus, Power}
use Rattle.rules.specs.declared.barrier.Barrier.TheVariants.{Open, Notes}
use Rattle.rules.specs.declared.state.Link.{Link}
use Rattle.rules.specs.declared.state.Link.TheVariants.{Up, BusDown, PowerDown}
use Rattle.rules.specs.declared.state.State.{State}
use Rattle.rules.specs.Phases.{output, lit_at, set_on}
use Rattle.rules.specs.Orders.{with_force, with_lock, standing, held, settle, forced, unlocking_output, unlocked, lock_device, order, noted}
use Rattle.rules.specs.Barriers.{rows, row_of, power_down, first_barrier, barrier_to, barrier}
use Rattle.rules.specs.Status.{value, staircase, bit, attributes}
use Rattle.rules.specs.Steps.{fresh, clock_move, step}
use Rattle.rules.specs.Lists.{Cue, cue, Played, plays}
use Rattle.rules.specs.Said.{NotedWhere, Flags, flags_after_power, flags_after}
use Rattle.rules.specs.Promises.{turn, turns, Each, Noted, NightRules}
use Rattle.rules.proofs.Laws.Status.{bits_of}
use Rattle.rules.proofs.Laws.Barriers.{noted_where, noted_there}
use Rattle.rules.proofs.Laws.Lists.{plays_append, plays_keep_params}
use Rattle.rules.proofs.Laws.Moments.{at_the_end, at_after}
use Rattle.rules.proofs.Laws.Orders.{order_leaves}
use Rattle.rules.proofs.Laws.Said.{a_noted_value_changes_nothing_else}
use Rattle.rules.proofs.Laws.Soundness.{move_keeps, move_clock, move_params, step_case, noted_is_the_note, taken_is_the_order, step_params}
use Rattle.rules.proofs.Promises.Dark.{night_is_dark}
use Rattle.rules.proofs.Promises.Prolonging.{Over}
use Rattle.base.proofs.Tests.{no}
use Rattle.demands.specs.Notes.{bit_of, OtherBitsStay, ChangesItsValueAlone, NotesChangeTheirValueAlone, ends_night, DarkAfterHold, Forced, Locked, NightHoldsAtTheRelease, NightHoldsAtTheUnlock}

-- ---- the status

abbrev sum : Bool → Bool → Bool → Bool → Bool → ℕ
sum a b c d e = bit a 1 + bit b 2 + bit c 4 + bit d 8 + bit e 16

forced_bit_alone : (a b d e x y : Bool) (n m : ℕ) → n ≡ sum a b x d e → m ≡ sum a b y d e → OtherBitsStay 4 n m
forced_bit_alone a b d e x y n m before after =
    let p = bits_of a b x d e n before in
    let q = bits_of a b y d e m after in
    record { lower = omega (arith, p.0, p.1, q.0, q.1); higher = omega (arith, p.3, p.4, p.5, q.3, q.4, q.5) }

-- the lowest three bits, as a number
lowest : (n a b c : ℕ) → n % 2 ≡ a → n / 2 % 2 ≡ b → n / 4 % 2 ≡ c → n % 8 ≡ a + 2 * b + 4 * c
lowest n a b c first second third =
    let two : n % 4 ≡ a + 2 * b = omega arith in
    omega (arith, two, upper)
  where
    upper : n % 8 ≡ n % 4 + 4 * (n / 4 % 2)
    upper = omega arith

night_bit_alone : (a b c e x y : Bool) (n m : ℕ) → n ≡ sum a b c x e → m ≡ sum a b c y e → OtherBitsStay 8 n m
night_bit_alone a b c e x y n m before after =
    let p = bits_of a b c x e n before in
    let q = bits_of a b c y e m after in
    record { lower = lowest m _ _ _ q.0 q.1 q.2 ∙ sym (lowest n _ _ _ p.0 p.1 p.2); higher = omega (arith, p.4, p.5, q.4, q.5) }

bits_stay : (s : State) (i : Input) → barrier s i ≡ Notes → OtherBitsStay (bit_of i) (attributes s) (attributes (noted s i))
unfolding noted attributes
bits_stay s i way = go i (noted_where s i way)
  where
    go : (i : Input) → NotedWhere s i → OtherBitsStay (bit_of i) (attributes s) (attributes (noted s i))
    go (SwitchOnOffForced force) w = forced_bit_alone (not (power_down s.link)) s.lock s.night (staircase s.phase) (standing s.force) (standing force) _ _ refl refl
    go (NightMode night) w = night_bit_alone (not (power_down s.link)) s.lock (standing s.force) (staircase s.phase) s.night night _ _ refl refl
    go _ w = elim w [ ]

-- ---- every noted input of a list

noted_alone : (s : State) (t : ℕ) (i : Input) → Noted (turn s t i) → ChangesItsValueAlone (turn s t i)
noted_alone s t i way =
    let met : State = (clock_move s t).state in
    let alone = a_noted_value_changes_nothing_else met i way in
    rw (noted_is_the_note s i t way)
    (record { state = alone; light = unfold value in rw alone.phase; bits = bits_stay met i way })

each_noted_alone : (list : List Cue) (s : State) → Each (λ x. Noted x → ChangesItsValueAlone x) (turns list s)
unfolding turns
each_noted_alone [] s = tt
each_noted_alone (cue t i ∷ later) s = (noted_alone s t i, each_noted_alone later (step s i t).state)

pub notes_change_their_value_alone : (p : Params) (scenes : List Scene) (list : List Cue) → NotesChangeTheirValueAlone p scenes list
notes_change_their_value_alone p scenes list = each_noted_alone list (fresh p scenes)

-- ---- night stays on

power_keeps_night : (s : State) (link : Link) (event : Event) → s.night ≡ true → ends_night (Power event) ≡ false → (flags_after_power s link event).night ≡ true
power_keeps_night s link Failure night stays = no (sym stays)
power_keeps_night s Up Return night stays = night
power_keeps_night s BusDown Return night stays = night
power_keeps_night s PowerDown Return night stays = night

order_keeps_night : (s : State) (i : Input) → s.night ≡ true → ends_night i ≡ false → (flags_after s i).night ≡ true
order_keeps_night s (SwitchOnOff value) night stays = night
order_keeps_night s (TimedStartStop value) night stays = night
order_keeps_night s (NumberedSceneControl learns number) night stays = night
order_keeps_night s (SwitchOnOffForced force) night stays = night
order_keeps_night s (LockDevice true) night stays = night
order_keeps_night s (LockDevice false) night stays = night
order_keeps_night s (NightMode true) night stays = refl
order_keeps_night s (NightMode false) night stays = no (sym stays)
order_keeps_night s (Bus event) night stays = night
order_keeps_night s (Power event) night stays = power_keeps_night s s.link event night stays

step_keeps_night : (s : State) (i : Input) (t : ℕ) → s.night ≡ true → ends_night i ≡ false → (step s i t).state.night ≡ true
step_keeps_night s i t night stays =
    let met : State = (clock_move s t).state in
    let there : met.night ≡ true = ap (λ (u : State). u.night) (move_keeps s t) ∙ night in
    let kept = order_keeps_night met i there stays in
    step_case (λ (u : State). u.night ≡ true) s i t
    (λ way. ap (λ (f : Flags). f.night) (order_leaves met i).flags ∙ kept)
    (λ way. ap (λ (f : Flags). f.night) (a_noted_value_changes_nothing_else met i way).leaves.flags ∙ kept)
    there

plays_keep_night : (list : List Cue) (s : State) → s.night ≡ true → Each (λ x. ends_night x.input ≡ false) (turns list s) → (plays list s).state.night ≡ true
unfolding turns plays
plays_keep_night [] s night stay = night
plays_keep_night (cue t i ∷ later) s night stay = plays_keep_night later (step s i t).state (step_keeps_night s i t night stay.0) stay.1

noted_night_is_on : (s : State) (t : ℕ) → Noted (turn s t (NightMode true)) → (step s (NightMode true) t).state.night ≡ true
unfolding noted
noted_night_is_on s t way = ap (λ (u : State). u.night) (noted_is_the_note s (NightMode true) t way)

-- ---- what ends the hold sets on or off

module _ (s : State) (night : s.night ≡ true) (unlocked : s.lock ≡ false) (unforced : s.force ≡ Free) (powered : power_down s.link ≡ false) where
  settled_in_night : (on : Bool) → NightRules (settle s on)
  unfolding settle
  settled_in_night true = record { night = night; unlocked = unlocked; unforced = unforced; powered = powered }
  settled_in_night false = record { night = night; unlocked = unlocked; unforced = unforced; powered = powered }

  settled_is_over : (on : Bool) (v : ℕ) → s.clock + s.params.timedon + s.params.prewarning ≤ v → Over v (settle s on)
  unfolding settle set_on lit_at held
  settled_is_over true v late = rw (night, unlocked, unforced) late
  settled_is_over false v late = tt

  settled_is_dark : (on : Bool) (v : ℕ) → s.clock + s.params.timedon + s.params.prewarning ≤ v → output (clock_move (settle s on) v).state.phase ≡ false
  settled_is_dark on v late = night_is_dark (settle s on) v (settled_in_night on) (settled_is_over on v late)

-- the release of a standing force: with no lock it is taken
release_is_open : (s : State) → Forced s → barrier s (SwitchOnOffForced Free) ≡ Open
unfolding barrier barrier_to first_barrier row_of rows
release_is_open s m = rw (m.linked, m.unlocked) refl

released_is_dark : (s : State) → s.night ≡ true → Forced s → (v : ℕ) → s.clock + s.params.timedon + s.params.prewarning ≤ v →
    output (clock_move (order s (SwitchOnOffForced Free)) v).state.phase ≡ false
unfolding order forced
released_is_dark s night m v late = rw m.stands (settled_is_dark (with_force s Free) night m.unlocked refl (ap power_down m.linked) (output s.phase) v late)

-- the unlock with no force: nothing but power and bus can stop it
unlock_is_open : (s : State) → Locked s → barrier s (LockDevice false) ≡ Open
unfolding barrier barrier_to first_barrier row_of rows
unlock_is_open s m = rw m.linked refl

unlocked_is_dark : (s : State) → s.night ≡ true → Locked s → (v : ℕ) → s.clock + s.params.timedon + s.params.prewarning ≤ v →
    output (clock_move (order s (LockDevice false)) v).state.phase ≡ false
unfolding order lock_device unlocked
unlocked_is_dark s night m v late =
    let opens : order s (LockDevice false) ≡ settle (with_lock s false s.atlocking) (unlocking_output s) = ap (λ (lock : Bool). cond lock (unlocked s s.force) s) m.stands ∙ ap (unlocked s) m.unforced in
    subst (λ (x : State). output (clock_move x v).state.phase ≡ false) (sym opens)
    (settled_is_dark (with_lock s false s.atlocking) night refl m.unforced (ap power_down m.linked) (unlocking_output s) v late)

-- ---- the customer's example, and its twin

module _ (ending : Input) (Meets : State → Type 0) (opens : (s : State) → Meets s → barrier s ending ≡ Open)
    (ends : (s : State) → s.night ≡ true → Meets s → (v : ℕ) → s.clock + s.params.timedon + s.params.prewarning ≤ v → output (clock_move (order s ending) v).state.phase ≡ false) where
  dark_after : (p : Params) (scenes : List Scene) → DarkAfterHold ending Meets p scenes
  unfolding plays fresh
  dark_after p scenes before t between u rises sent stay meets v late =
      let s : State = (plays before (fresh p scenes)).state in
      let list : List Cue = before ++ (cue t (NightMode true) ∷ between) in
      let last : State = (plays between (step s (NightMode true) t).state).state in
      let met : State = (clock_move last u).state in
      let whole : list ++ (cue u ending ∷ []) ≡ before ++ (cue t (NightMode true) ∷ (between ++ (cue u ending ∷ []))) = append_assoc before (cue t (NightMode true) ∷ between) (cue u ending ∷ []) in
      let there : (plays list (fresh p scenes)).state ≡ last = ap (λ (x : Played). x.state) (plays_append before (cue t (NightMode true) ∷ between) (fresh p scenes)) in
      let same : met.params ≡ p = move_params last u ∙ plays_keep_params between (step s (NightMode true) t).state ∙ step_params s (NightMode true) t ∙ plays_keep_params before (fresh p scenes) in
      let way = noted_there (clock_move s t).state (NightMode true) sent in
      let night : met.night ≡ true = ap (λ (x : State). x.night) (move_keeps last u) ∙ plays_keep_night between (step s (NightMode true) t).state (noted_night_is_on s t way) stay in
      rw (← whole, at_after u ending [] u list 0 (rw whole rises) v (omega arith) [] (fresh p scenes), there, at_the_end v (step last ending u).state, taken_is_the_order last ending u (opens met meets))
      (ends met night meets v (rw (move_clock last u, same) late))

pub night_holds_at_the_release : (p : Params) (scenes : List Scene) → NightHoldsAtTheRelease p scenes
night_holds_at_the_release = dark_after (SwitchOnOffForced Free) Forced release_is_open released_is_dark

pub night_holds_at_the_unlock : (p : Params) (scenes : List Scene) → NightHoldsAtTheUnlock p scenes
night_holds_at_the_unlock = dark_after (LockDevice false) Locked unlock_is_open unlocked_is_dark
