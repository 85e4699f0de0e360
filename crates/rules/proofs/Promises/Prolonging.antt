-- Which orders can prolong the light: one that lights, a bus event with mode On, and any that meets day, lock, force or power down.
use Prim.Native.Nat.{ℕ, ◌+◌, ◌≤◌}
use mathlib.Core.Bool.{false, and-false}
use mathlib.Core.Path.{◌≡◌, sym, subst}
use mathlib.Core.Logic.{◌⊎◌}
use Rattle.rules.specs.declared.parameters.Params.{Params}
use Rattle.rules.specs.declared.input.Input.{Input}
use Rattle.rules.specs.declared.input.Input.TheVariants.{SwitchOnOffForced, NightMode}
use Rattle.rules.specs.declared.state.State.{State}
use Rattle.rules.specs.declared.barrier.Barrier.TheVariants.{Open, Notes}
use Rattle.rules.specs.Orders.{held, order, noted}
use Rattle.rules.specs.Barriers.{barrier}
use Rattle.rules.specs.Said.{NotedWhere}
use Rattle.rules.specs.Steps.{tick, ticked, clock_move, step}
use Rattle.rules.specs.Promises.{longest_light}
use Rattle.rules.proofs.Laws.Making.{ruled, Brightens, order_makes}
use Rattle.rules.proofs.Laws.Orders.{order_leaves}
use Rattle.rules.proofs.Promises.Lasting.{OverBy, timer_over, made_over}
use Rattle.rules.proofs.Laws.Steps.{tick_case}
use Rattle.rules.proofs.Laws.Barriers.{noted_where}
use Rattle.rules.proofs.Laws.Soundness.{move_clock, move_params, step_case}

-- night rules where it is on and neither lock nor force stands
abbrev pub Over : ℕ → State → Type 0
Over m s = OverBy s.params (ruled s) m s.phase

tick_over : (s : State) (t m : ℕ) → Over m s → Over m (tick s t)
unfolding held
tick_over s t m h = tick_case (Over m) s t (λ d e past. timer_over s.params (ruled s) s.night m s.phase (λ day. rw day) h) (λ quiet. h)

pub move_over : (s : State) (t m : ℕ) → Over m s → Over m (clock_move s t).state
unfolding clock_move ticked held
move_over s t m h = tick_over _ t m (tick_over _ t m (tick_over s t m h))

-- the longest light from the clock on is over by m
abbrev LastsBy : ℕ → State → Type 0
LastsBy m s = s.clock + longest_light s.params ≤ m

-- what an order must be, or meet, to prolong the light
abbrev pub Prolongs : State → Input → Type 0
Prolongs s i = Brightens s i ⊎ (s.night ≡ false)

module _ (s : State) (m : ℕ) (over : Over m s) where
  -- every other order leaves the light as long as it was, or shorter
  order_over : (i : Input) → (Prolongs s i → LastsBy m s) → Over m (order s i)
  order_over i room = subst (λ (p : Params). OverBy p (ruled (order s i)) m (order s i).phase) (sym (order_leaves s i).params) (made_over s.params m room over (order_makes s i))

  -- a value that is noted is held both before and after, and leaves the phase
  noted_over : (i : Input) → barrier s i ≡ Notes → Over m (noted s i)
  unfolding noted held
  noted_over i way = go i (noted_where s i way)
    where
      go : (i : Input) → NotedWhere s i → Over m (noted s i)
      go (SwitchOnOffForced force) w = rw w.locked (rw w.locked at over)
      go (NightMode value) w = rw (w.held, and-false value) (rw (w.held, and-false s.night) at over)
      go _ w = elim w [ ]

-- ---- a step

pub step_over : (s : State) (i : Input) (t m : ℕ) → Over m s →
    (barrier (clock_move s t).state i ≡ Open → Prolongs (clock_move s t).state i → t + longest_light s.params ≤ m) → Over m (step s i t).state
step_over s i t m over room =
    let there = move_over s t m over in
    step_case (Over m) s i t (λ way. order_over (clock_move s t).state m there i (λ prolongs. rw (move_clock s t, move_params s t) (room way prolongs))) (noted_over (clock_move s t).state m there i) there
