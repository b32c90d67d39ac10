-- `marker_wrong` meets its contract. Assumes nothing.
use Rattle.std.proofs.Common.{rules, refl, ap, ◌∙◌, not, length, take}
use borrow.Author.Tests.{tests}
use Rattle.lingua.specs.Compute.{same_text}
use Rattle.lingua.specs.Format.{block_count, block_at}
use Rattle.lingua.specs.Answers.{file_meaning}
use Rattle.laws.specs.Chains.{every_from_all}
use Rattle.blocks.proofs.Returns.{marker_is}
use Rattle.blocks.proofs.rules.marker_wrong.Goals as goal

pub returns : goal.returns
unfolding block_count
returns c =
    ap not (every_from_all (λ k. same_text (take (length c.marker_of-marker.result) (block_at c.args.file.now k)) c.marker_of-marker.result) _ _ _ _ c.all.ensures.ran refl refl (λ x b q k. search (rules, tests)))
    ∙ marker_is (file_meaning c.args.kind) c.args.file.now c.marker_of-marker.result c.marker_of-marker.ensures
