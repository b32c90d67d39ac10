-- `zero_from` meets its contract. Assumes nothing.
use Rattle.std.proofs.Common.{rules, eqb}
use Rattle.std.proofs.lemmas.Iterator.{YieldsList-from_slice}
use Rattle.std.proofs.lemmas.Iterator.Adapters.{YieldsList-from_skip}
use borrow.Author.Tests.{tests}
use Rattle.lingua.specs.Format.{all_zero}
use Rattle.laws.specs.Chains.{all_of_from_all}
use Rattle.decoder.proofs.fields.zero_from.Goals as goal

pub returns : goal.returns
unfolding all_zero
returns c = all_of_from_all (λ b. eqb b 0) _ _ _ c.all.ensures.ran (YieldsList-from_skip c.args.from (YieldsList-from_slice c.args.bytes.now (cc)) (cc)) (λ x b q k. search (rules, tests))
