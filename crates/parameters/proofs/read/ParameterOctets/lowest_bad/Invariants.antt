use Rattle.std.proofs.Common.{◌≡◌}
use Rattle.rules.specs.Layout.{time_place, parameters_size}
use Rattle.rules.specs.Parameters.{lowest_bad}
use Rattle.parameters.proofs.Loops.{from_time}
use Rattle.parameters.proofs.read.ParameterOctets.lowest_bad.Given as goal

-- no time so far is bad
abbrev pub invariant-loop-n : goal.invariant-loop-n
invariant-loop-n l =
    let f = l.self.form in
    lowest_bad f l.self.octets.now (parameters_size f) 0 ≡ lowest_bad f l.self.octets.now (from_time f l.n) (time_place f l.n)
