use Rattle.std.proofs.Common.{rules, eqb}
use borrow.Author.Tests.{tests}
use Rattle.std.proofs.lemmas.Iterator.{YieldsList-from_slice}
use Rattle.std.proofs.lemmas.Iterator.Search.{position_from_yields_List}
use Rattle.text.proofs.Names.{name_before}
use Rattle.text.proofs.report.put_name.Goals as goal

pub returns : goal.returns
returns c =
    let found = position_from_yields_List (λ b. eqb b 0) _ _ c.position.result c.position.ensures.ran (YieldsList-from_slice c.args.name.now (cc)) (λ x b q k. search (rules, tests)) in
    let put = c.put.ensures in
    rw (c.unwrap_or-end.ensures, name_before c.args.name.now c.position.result found) at put
