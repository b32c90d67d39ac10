-- `file_refusal` meets its contract: the rules are asked by rising number. Assumes nothing.
use Rattle.std.proofs.Common.{sym, ◌∙◌}
use Rattle.lingua.specs.Answers.{file_meaning}
use Rattle.blocks.proofs.Returns.{refused_length, refused_marker, refused_header, refused_check, refused_not}
use Rattle.blocks.proofs.rules.file_refusal.Goals as goal

pub returns-then-length_wrong : goal.returns-then-length_wrong
returns-then-length_wrong c = sym (refused_length (file_meaning c.args.kind) c.args.file.now (sym c.length_wrong.ensures ∙ c.if-length_wrong.true))

pub returns-then-marker_wrong : goal.returns-then-marker_wrong
returns-then-marker_wrong c =
    sym
    (refused_marker (file_meaning c.args.kind) c.args.file.now (sym c.length_wrong.ensures ∙ c.if-length_wrong.false)
    (sym c.marker_wrong.ensures ∙ c.if-marker_wrong.true))

pub returns-then-header_wrong : goal.returns-then-header_wrong
returns-then-header_wrong c =
    sym
    (refused_header (file_meaning c.args.kind) c.args.file.now (sym c.length_wrong.ensures ∙ c.if-length_wrong.false)
    (sym c.marker_wrong.ensures ∙ c.if-marker_wrong.false) (sym c.header_wrong.ensures ∙ c.if-header_wrong.true))

pub returns-then-check_wrong : goal.returns-then-check_wrong
returns-then-check_wrong c =
    sym
    (refused_check (file_meaning c.args.kind) c.args.file.now (sym c.length_wrong.ensures ∙ c.if-length_wrong.false)
    (sym c.marker_wrong.ensures ∙ c.if-marker_wrong.false) (sym c.header_wrong.ensures ∙ c.if-header_wrong.false) (sym c.check_wrong.ensures ∙ c.if-check_wrong.true))

pub returns : goal.returns
returns c =
    sym
    (refused_not (file_meaning c.args.kind) c.args.file.now (sym c.length_wrong.ensures ∙ c.if-length_wrong.false)
    (sym c.marker_wrong.ensures ∙ c.if-marker_wrong.false) (sym c.header_wrong.ensures ∙ c.if-header_wrong.false) (sym c.check_wrong.ensures ∙ c.if-check_wrong.false))
