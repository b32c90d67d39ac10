-- `header_wrong` meets its contract. Assumes nothing.
use Rattle.std.proofs.Common.{rules, ◌/◌, length, sym, refl, ap, ◌∙◌, not}
use borrow.Author.Tests.{tests}
use Rattle.lingua.specs.Numbers.{block_bytes}
use Rattle.lingua.specs.Format.{block_count, block_at}
use Rattle.lingua.specs.Answers.{file_meaning}
use Rattle.laws.specs.Chains.{every_from_all}
use Rattle.blocks.specs.Blocks.{header_is}
use Rattle.blocks.proofs.Returns.{header_is_lem, header_none}
use Rattle.blocks.proofs.rules.header_wrong.Goals as goal

pub returns-then-count-eq0 : goal.returns-then-count-eq0
returns-then-count-eq0 c = sym (header_none (file_meaning c.args.kind) c.args.file.now c.if-count-eq0.true)

pub returns : goal.returns
unfolding block_count
returns c =
    ap not (every_from_all (λ k. header_is (file_meaning c.args.kind) (block_at c.args.file.now k) k (length c.args.file.now / block_bytes) c.word16_at-model.result) _ _ _ _ c.all.ensures.ran refl refl (λ x b q k. search (rules, tests)))
    ∙ header_is_lem (file_meaning c.args.kind) c.args.file.now c.word16_at-model.result c.word16_at-model.ensures
