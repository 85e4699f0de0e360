use Rattle.std.proofs.Common.{◌≡◌, ◌-◌, ◌*◌}
use Rattle.rules.specs.Layout.{scenes_at, scene_place}
use Rattle.rules.specs.Parameters.{lowest_bad}
use Rattle.parameters.proofs.Loops.{Seen}
use Rattle.parameters.proofs.read.ParameterOctets.lowest_bad_from_scenes.Given as goal

-- no entry so far is out of range, and their numbers are kept
abbrev pub invariant-loop-entry : goal.invariant-loop-entry
invariant-loop-entry l =
    let f = l.self.form in
    record {
      good : lowest_bad f l.self.octets.now 16 (scenes_at f) ≡ lowest_bad f l.self.octets.now (16 - 2 * l.entry) (scene_place f l.entry);
      seen : Seen f l.self.octets.now l.entry l.seen;
    }
