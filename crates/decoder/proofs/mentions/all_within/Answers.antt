-- `all_within` meets its contract. Assumes nothing.
use Rattle.std.proofs.Common.{rules, ◌&&◌, leb, ltb, ◌∙◌}
use Rattle.std.proofs.lemmas.Iterator.{YieldsList-from_slice}
use borrow.Author.Tests.{tests}
use Rattle.laws.specs.Chains.{all_of_from_all}
use Rattle.decoder.specs.Mentions.{listed}
use Rattle.decoder.proofs.mentions.all_within.Goals as goal

pub returns : goal.returns
returns c = all_of_from_all (λ n. leb c.args.low n && ltb n c.args.end) _ _ _ c.all.ensures.ran (YieldsList-from_slice (listed c.args.f) (c.iter.ensures.rest ∙ c.numbers.ensures)) (λ x b q k. search (rules, tests))
