use mathlib.Core.Path.{sym, ◌∙◌}
use borrow.Author.Rules.{rules}
use borrow.Author.Tests.{tests}
use Rattle.std.proofs.lemmas.Iterator.{YieldsList-from_slice}
use Rattle.std.proofs.lemmas.Iterator.Search.{position_from_yields_List}
use Rattle.scenes.proofs.Tables.{has, learnt_at, learnt_by_none}
use Rattle.scenes.proofs.table.learns.Goals as goal

pub returns-in-Some : goal.returns-in-Some
returns-in-Some c =
    let a = c.args in
    let found = position_from_yields_List (has a.number) _ _ c.position.result c.position.ensures.ran (YieldsList-from_slice a.k cc) (λ x b q h. search (rules, tests)) in
    learnt_at a.k a.number c.in-Some.i a.on (sym found ∙ c.in-Some.is)

pub returns-in_default : goal.returns-in_default
returns-in_default c =
    let a = c.args in
    let found = position_from_yields_List (has a.number) _ _ c.position.result c.position.ensures.ran (YieldsList-from_slice a.k cc) (λ x b q h. search (rules, tests)) in
    learnt_by_none a.k a.number a.on (sym found ∙ c.in_default.is)
