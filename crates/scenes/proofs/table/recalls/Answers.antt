use borrow.Author.Rules.{rules}
use borrow.Author.Tests.{tests}
use Rattle.std.proofs.lemmas.Iterator.{YieldsList-from_slice}
use Rattle.std.proofs.lemmas.Iterator.Search.{find_from_yields_List}
use Rattle.scenes.proofs.Tables.{has, recalled_if_found}
use Rattle.scenes.proofs.table.recalls.Goals as goal

pub returns-in-Some : goal.returns-in-Some
returns-in-Some c =
    let a = c.args in
    let found = find_from_yields_List (has a.number) _ _ c.find.result c.find.ensures.ran (YieldsList-from_slice a.k cc) (λ x b q h. search (rules, tests)) in
    rw (c.in-Some.is, c.if-e.true) at (recalled_if_found a.k a.number _ found)

pub returns-in_default : goal.returns-in_default
returns-in_default c =
    let a = c.args in
    let found = find_from_yields_List (has a.number) _ _ c.find.result c.find.ensures.ran (YieldsList-from_slice a.k cc) (λ x b q h. search (rules, tests)) in
    rw (c.in-Some.is, c.if-e.false) at (recalled_if_found a.k a.number _ found)

pub returns-in_default-2 : goal.returns-in_default-2
returns-in_default-2 c =
    let a = c.args in
    let found = find_from_yields_List (has a.number) _ _ c.find.result c.find.ensures.ran (YieldsList-from_slice a.k cc) (λ x b q h. search (rules, tests)) in
    rw c.in_default.is at (recalled_if_found a.k a.number _ found)
