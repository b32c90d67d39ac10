-- `none_marked` meets its contract. Assumes nothing.
use Rattle.std.proofs.Common.{rules, ◌&&◌, not, ltb, get_or, false, ◌∙◌}
use Rattle.std.proofs.lemmas.Iterator.{YieldsList-from_slice}
use borrow.Author.Tests.{tests}
use Rattle.laws.specs.Chains.{all_of_from_all}
use Rattle.decoder.specs.Mentions.{listed}
use Rattle.rules.proofs.places.none_marked.Goals as goal

pub returns : goal.returns
returns c = all_of_from_all (λ a. not (ltb a c.args.r && get_or c.args.marks.now a false)) _ _ _ c.all.ensures.ran (YieldsList-from_slice (listed c.args.f) (c.iter.ensures.rest ∙ c.numbers.ensures)) (λ x b q k. search (rules, tests))
