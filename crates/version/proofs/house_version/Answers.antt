use Rattle.version.specs.Versions.{house_version}
use Rattle.version.proofs.house_version.Goals as goal

pub returns : goal.returns
unfolding house_version
returns c = c.pack.ensures
