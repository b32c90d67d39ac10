use Rattle.std.proofs.Common.{rules, refl}
use borrow.Author.Tests.{tests}
use Rattle.lingua.specs.References.{instruction_refers}
use Rattle.laws.specs.Chains.{every_from_all}
use Rattle.rules.proofs.references.instructions_refer.Goals as goal

pub returns : goal.returns
returns c = every_from_all (λ k. instruction_refers c.args.rows.now k) _ _ _ _ c.all.ensures.ran refl c.instructions-instructions.ensures.count (λ x b q k. search (rules, tests))
