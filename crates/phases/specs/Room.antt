-- What keeps every sum of the code within its type. Conditions of inner functions only: no public call has one.
use Rattle.std.specs.Prelude.{ℕ, ◌+◌, ◌≤◌}
use Rattle.rules.specs.declared.parameters.Params.{Params}
use Rattle.rules.specs.declared.phase.Phase.{Phase}
use Rattle.base.specs.Time.{last_stamp, longest_delay}
use Rattle.rules.specs.Answers.{due}

-- the delays of p are in range, and t is a stamp
pub record Room (p : Params) (t : ℕ) : Type 0 where
  pub moment : t ≤ last_stamp
  pub ondelay : p.ondelay ≤ longest_delay
  pub offdelay : p.offdelay ≤ longest_delay
  pub timedon : p.timedon ≤ longest_delay
  pub prewarning : p.prewarning ≤ longest_delay

-- and a deadline of the phase is at most the longest delay after the last stamp
pub record Roomy (p : Params) (t : ℕ) (phase : Phase) : Type 0 where
  pub room : Room p t
  pub deadline : due phase ≤ last_stamp + longest_delay
