use Rattle.std.proofs.Common.{◌≡◌, arith}
use Rattle.rules.specs.Layout.{scenes_at, scene_place}
use Rattle.parameters.proofs.Loops.{none_seen}
use Rattle.parameters.proofs.read.ParameterOctets.lowest_bad_from_scenes.Goals as goal

pub loop-entry-init : goal.loop-entry-init
loop-entry-init c =
    let first : scene_place c.args.self.form 0 ≡ scenes_at c.args.self.form = omega arith in
    record { good = rw first; seen = none_seen _ _ }
