-- `expressions_once` meets its contract: uses are noted in the definition's order. Assumes nothing.
use mathlib.Core.List.{[]}
use Rattle.lingua.specs.Rows.{expression_row, instruction_row, operands, evaluated, yoke_set}
use Rattle.rules.proofs.Usage.{uses_order, counted_zeros, once_to}
use Rattle.std.proofs.Common.{rules}
use borrow.Author.Tests.{tests}
use Rattle.rules.proofs.uses.expressions_once.Goals as goal

pub returns : goal.returns
returns c =
    let rows = c.args.rows.now in
    once_to c.expressions-expressions.ensures.count
    (rw (c.instructions-instructions.ensures.count, c.expressions-expressions.ensures.count) (uses_order rows))
    (c.all_once.ensures _
    (c.note_named-3.ensures (λ r. operands (expression_row rows r)) (record { each = λ r x l p. search (rules, tests) }) _
    (c.note_named-2.ensures (λ r. evaluated (instruction_row rows r)) (record { each = λ r x l p. search (rules, tests) }) _
    (c.note_named.ensures (λ r. yoke_set (instruction_row rows r)) (record { each = λ r x l p. search (rules, tests) }) _ (c.note_scopes.ensures [] counted_zeros)))))
