use mathlib.Core.Bool.{not}
use mathlib.Core.Path.{◌∙◌}
use lib.Dec.{eqb}
use borrow.Author.Rules.{rules}
use borrow.Author.Tests.{tests}
use Rattle.rules.specs.declared.parameters.Scene.{Scene}
use Rattle.std.proofs.lemmas.Iterator.{YieldsList-from_slice}
use Rattle.std.proofs.lemmas.Iterator.Search.{all_from_yields_List}
use Rattle.scenes.proofs.Tables.{absent_is_all}
use Rattle.scenes.proofs.range.is_absent.Goals as goal

pub returns : goal.returns
returns c = let n = c.args.number in all_from_yields_List (λ (e : Scene). not (eqb e.number n)) _ _ _ c.all.ensures.ran (YieldsList-from_slice c.args.entries.now cc) (λ x b q k. search (rules, tests)) ∙ absent_is_all c.args.entries.now n
