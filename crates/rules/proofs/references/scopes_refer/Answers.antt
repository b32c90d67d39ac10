use Rattle.std.proofs.Common.{rules, refl, arith}
use borrow.Author.Tests.{tests}
use Rattle.lingua.specs.References.{declarations_refer}
use Rattle.laws.specs.Chains.{every_from_all}
use Rattle.rules.proofs.references.scopes_refer.Goals as goal

pub returns : goal.returns
returns c = every_from_all (λ k. declarations_refer c.args.rows.now k) _ _ _ _ c.all.ensures.ran refl (omega (arith, c.procedures.ensures)) (λ x b q k. search (rules, tests))
