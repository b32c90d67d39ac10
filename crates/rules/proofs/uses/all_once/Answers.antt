use Rattle.std.proofs.Common.{get_or, rules, refl, ◌∙◌, eqb}
use borrow.Author.Tests.{tests}
use Rattle.laws.specs.Chains.{every_from_all}
use Rattle.rules.proofs.Usage.{once_is}
use Rattle.rules.proofs.uses.all_once.Goals as goal

pub returns : goal.returns
returns c = λ xs h. every_from_all (λ k. eqb (get_or c.args.uses.now k 0) 1) _ _ _ _ c.all.ensures.ran refl refl (λ x b q k. search (rules, tests)) ∙ once_is c.args.uses.now xs c.args.n c.requires h
