use Rattle.std.proofs.Common.{◌≡◌, ◌+◌, ◌-◌}
use Rattle.rules.specs.Layout.{modes_at}
use Rattle.rules.specs.Parameters.{lowest_bad}
use Rattle.parameters.proofs.read.ParameterOctets.lowest_bad_from_modes.Given as goal

-- no mode so far is out of range
abbrev pub invariant-loop-mode : goal.invariant-loop-mode
invariant-loop-mode l =
    let f = l.self.form in
    lowest_bad f l.self.octets.now 24 (modes_at f) ≡ lowest_bad f l.self.octets.now (24 - l.mode) (modes_at f + l.mode)
