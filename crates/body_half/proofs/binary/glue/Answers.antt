-- `body_half::binary::glue` meets its contract: both operands are asked for the same tag. Assumes nothing.
use mathlib.Core.Path.{refl}
use Rattle.lingua.specs.Encode.{bytes}
use Rattle.body.specs.Typed.{simple_of}
use Rattle.body.proofs.Tags.{is_word_lem, not_word}
use Rattle.body.proofs.Answers.{likewise}
use Rattle.body_half.proofs.Halves.{glue_first, glue_second, glue_both}
use Rattle.body_half.proofs.binary.glue.Goals as goal

pub returns-then-x-ne-WORD : goal.returns-then-x-ne-WORD
returns-then-x-ne-WORD c = λ b d h k.
    let args = c.args in
    glue_first b d (not_word args.x b h c.if-x-ne-WORD.true)

pub returns-then-y-ne-WORD : goal.returns-then-y-ne-WORD
returns-then-y-ne-WORD c = λ b d h k.
    let args = c.args in
    let if1 = c.if-x-ne-WORD in
    glue_second b d (is_word_lem args.x b h if1.false) (not_word args.y d k c.if-y-ne-WORD.true)

pub returns : goal.returns
returns c = λ b d h k.
    let args = c.args in
    let if1 = c.if-x-ne-WORD in
    likewise c.scalar.ensures (glue_both b d (is_word_lem args.x b h if1.false) (is_word_lem args.y d k c.if-y-ne-WORD.false))

pub scalar-requires : goal.scalar-requires
unfolding bytes simple_of
scalar-requires c = refl
