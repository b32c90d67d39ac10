-- `expressions_fit` meets its contract. Assumes nothing.
use Rattle.std.proofs.Common.{rules, refl, ◌&&◌}
use borrow.Author.Tests.{tests}
use Rattle.lingua.specs.Rows.{expression_row}
use Rattle.lingua.specs.Rules.{row_constant_fits, attributes_fit, expression_attributes}
use Rattle.laws.specs.Chains.{every_from_all}
use Rattle.row_rules.proofs.constants.expressions_fit.Goals as goal

pub returns : goal.returns
returns c = every_from_all (λ k. row_constant_fits (expression_row c.args.rows.now k) && attributes_fit (expression_attributes (expression_row c.args.rows.now k))) _ _ _ _ c.all.ensures.ran refl c.expressions-expressions.ensures.count (λ x b q k. search (rules, tests))
