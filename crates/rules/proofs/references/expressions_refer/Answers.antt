use Rattle.std.proofs.Common.{rules, refl}
use borrow.Author.Tests.{tests}
use Rattle.lingua.specs.Rows.{expression_row, operands}
use Rattle.lingua.specs.References.{all_below}
use Rattle.decoder.proofs.Short.{within_below}
use Rattle.laws.specs.Chains.{every_from_all}
use Rattle.rules.proofs.references.expressions_refer.Goals as goal

pub returns : goal.returns
returns c = every_from_all (λ k. all_below k (operands (expression_row c.args.rows.now k))) _ _ _ _ c.all.ensures.ran refl c.expressions-expressions.ensures.count (λ x b q k. search (rules, tests, within_below))
