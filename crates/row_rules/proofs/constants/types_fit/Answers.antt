-- `types_fit` meets its contract. Assumes nothing.
use Rattle.std.proofs.Common.{rules, refl}
use borrow.Author.Tests.{tests}
use Rattle.lingua.specs.Rows.{type_row}
use Rattle.lingua.specs.Rules.{attributes_fit, type_attributes}
use Rattle.laws.specs.Chains.{every_from_all}
use Rattle.row_rules.proofs.constants.types_fit.Goals as goal

pub returns : goal.returns
returns c = every_from_all (λ k. attributes_fit (type_attributes (type_row c.args.rows.now k))) _ _ _ _ c.all.ensures.ran refl c.types-types.ensures.count (λ x b q k. search (rules, tests))
