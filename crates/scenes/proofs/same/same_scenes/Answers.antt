use mathlib.Core.Path.{◌∙◌}
use borrow.Author.Rules.{rules}
use Rattle.rules.specs.Answers.{same_scene}
use Rattle.scenes.proofs.Tables.{same_by_pairs}
use Rattle.scenes.proofs.same.same_scenes.Goals as goal

pub returns : goal.returns
unfolding same_scene
returns c = c.eq.ensures ∙ same_by_pairs _ (λ x y. search rules) c.args.a c.args.b
