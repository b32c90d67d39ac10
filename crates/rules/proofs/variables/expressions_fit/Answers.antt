-- `expressions_fit` meets its contract: each expression row is asked by its scope. Assumes nothing.
use Rattle.std.proofs.Common.{rules, refl}
use borrow.Author.Tests.{tests}
use Rattle.lingua.specs.Trees.{expression_scope}
use Rattle.lingua.specs.Rows.{expression_row}
use Rattle.lingua.specs.References.{all_below, variables_seen, expression_variables}
use Rattle.laws.specs.Chains.{every_from_all}
use Rattle.rules.proofs.variables.expressions_fit.Goals as goal

pub returns : goal.returns
returns c = every_from_all (λ r. all_below (variables_seen c.args.rows.now (expression_scope c.args.rows.now r)) (expression_variables (expression_row c.args.rows.now r))) _ _ _ _ c.all.ensures.ran refl c.expressions-expressions.ensures.count (λ x b q k. search (rules, tests))
