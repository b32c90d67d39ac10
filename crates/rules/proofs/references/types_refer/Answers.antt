use Rattle.std.proofs.Common.{rules, refl}
use borrow.Author.Tests.{tests}
use Rattle.lingua.specs.Rows.{type_row}
use Rattle.lingua.specs.References.{all_below, type_parts}
use Rattle.decoder.proofs.Short.{within_below}
use Rattle.laws.specs.Chains.{every_from_all}
use Rattle.rules.proofs.references.types_refer.Goals as goal

pub returns : goal.returns
returns c = every_from_all (λ r. all_below r (type_parts (type_row c.args.rows.now r))) _ _ _ _ c.all.ensures.ran refl c.types-types.ensures.count (λ x b q k. search (rules, tests, within_below))
