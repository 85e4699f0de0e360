use Rattle.std.proofs.Common.{◌≡◌, ℕ, ◌-◌, Bool}
use Rattle.rules.specs.Layout.{input_place}
use Rattle.cues.specs.Checks.{check_inputs}
use Rattle.cues.proofs.check.check_inputs.Given as goal

-- none so far is bad
abbrev pub invariant-loop-i : goal.invariant-loop-i
invariant-loop-i g l =
    let known : ℕ → Bool = λ i. g.K.Known.known l.inputs (input_place i) in
    check_inputs known l.inputs l.n 0 l.from l.end ≡ check_inputs known l.inputs (l.n - l.i) l.i l.last l.end
