use Rattle.std.proofs.Common.{rules, refl}
use borrow.Author.Tests.{tests}
use Rattle.lingua.specs.References.{parameters_fit}
use Rattle.laws.specs.Chains.{every_from_all}
use Rattle.rules.proofs.parameters.procedures_fit.Goals as goal

pub returns : goal.returns
returns c = every_from_all (λ k. parameters_fit c.args.rows.now k) _ _ _ _ c.all.ensures.ran refl c.procedures.ensures (λ x b q k. search (rules, tests))
