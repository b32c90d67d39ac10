use Rattle.std.proofs.Common.{rules, refl, pred, ltb}
use borrow.Author.Tests.{tests}
use Rattle.lingua.specs.Numbers.{instruction_section}
use Rattle.lingua.specs.Rows.{table_count, body_row}
use Rattle.laws.specs.Chains.{every_from_all}
use Rattle.rules.proofs.Usage.{pred_is}
use Rattle.rules.proofs.references.bodies_refer.Goals as goal

pub returns : goal.returns
returns c = every_from_all (λ k. ltb (body_row c.args.rows.now k) (pred (table_count c.args.rows.now instruction_section))) _ _ _ _ c.all.ensures.ran refl c.procedures.ensures (λ x b q k. search (rules, tests, pred_is))
