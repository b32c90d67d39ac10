-- `header_fits` meets its contract: each way out is one of the test's cases. Assumes nothing.
use Rattle.std.proofs.Common.{not, sym, ap, ◌∙◌, arith}
use Rattle.lingua.specs.Answers.{file_meaning}
use Rattle.blocks.proofs.Returns.{header_number, header_count, header_model, header_rest}
use Rattle.blocks.proofs.rules.header_fits.Goals as goal

pub overflow_cast-block : goal.overflow_cast-block
overflow_cast-block c = omega (arith, c.type_inv.block 4)

pub returns-then-block-k : goal.returns-then-block-k
returns-then-block-k c = sym (header_number (file_meaning c.args.kind) c.args.block.now c.args.k c.args.count c.args.model c.if-block-k.true)

pub overflow_cast-block-2 : goal.overflow_cast-block-2
overflow_cast-block-2 c = omega (arith, c.type_inv.block 5)

pub returns-then-block-count : goal.returns-then-block-count
returns-then-block-count c = sym (header_count (file_meaning c.args.kind) c.args.block.now c.args.k c.args.count c.args.model c.if-block-k.false c.if-block-count.true)

pub returns-then-word16_at-model : goal.returns-then-word16_at-model
returns-then-word16_at-model c =
    sym
    (header_model (file_meaning c.args.kind) c.args.block.now c.args.k c.args.count c.args.model c.if-block-k.false c.if-block-count.false
    (λ e. c.if-word16_at-model.true (c.word16_at.ensures ∙ e)))

pub returns : goal.returns
returns c =
    ap not c.empty_block.ensures
    ∙ sym (header_rest (file_meaning c.args.kind) c.args.block.now c.args.k c.args.count c.args.model c.if-block-k.false c.if-block-count.false (sym c.word16_at.ensures ∙ c.if-word16_at-model.false))
