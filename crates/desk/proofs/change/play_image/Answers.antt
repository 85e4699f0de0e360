use Rattle.rules.specs.Runs.{packed}
use Rattle.rules.specs.Changes.{check_change}
use Rattle.rules.proofs.Laws.Images.{accepted_is_sound}
use Rattle.desk.proofs.Lives.{change_done}
use Rattle.desk.proofs.change.play_image.Goals as goal

pub play_inputs-r-requires : goal.play_inputs-r-requires
unfolding check_change
play_inputs-r-requires c = let pre = c.requires in rw (pre.1, accepted_is_sound _ pre.0, pre.2)

pub returns : goal.returns
unfolding packed
returns c =
    let pre = c.requires in
    rw (c.pack.ensures, c.put_image.ensures) (change_done _ _ _ _ pre.0 _ (rw pre.1 at c.play_inputs-r.ensures))
