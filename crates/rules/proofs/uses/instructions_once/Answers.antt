-- `instructions_once` meets its contract: all rows but the last are asked. Assumes nothing.
use mathlib.Core.Path.{ap, ◌∙◌}
use mathlib.Core.List.{List, [], ◌∷◌, ◌++◌}
use Prim.Native.Nat.{ℕ, pred}
use Rattle.lingua.specs.Numbers.{instruction_section}
use Rattle.lingua.specs.Rows.{table_count, procedure_count, instruction_row, parts, body_row}
use Rattle.lingua.specs.Trees.{tabulate}
use Rattle.lingua.specs.Typing.{joined}
use Rattle.lingua.specs.References.{instruction_uses}
use Rattle.decoder.specs.Mentions.{listed}
use Rattle.rules.proofs.Usage.{counted_zeros, once_to, pred_is, joined_single}
use Rattle.std.proofs.Common.{rules}
use borrow.Author.Tests.{tests}
use Rattle.rules.proofs.uses.instructions_once.Goals as goal

pub returns : goal.returns
unfolding instruction_uses listed
returns c =
    let rows = c.args.rows.now in
    once_to (pred_is c.instructions-instructions.result.count (rw c.instructions-instructions.ensures.count c.requires.some_instruction) ∙ ap pred c.instructions-instructions.ensures.count)
    (rw (c.instructions-instructions.ensures.count, c.procedures.ensures) (ap (λ (l : List ℕ). joined (tabulate (table_count rows instruction_section) (λ r. parts (instruction_row rows r))) ++ l) (joined_single (λ k. body_row rows k) (procedure_count rows))))
    (c.all_once.ensures _
    (c.note_named-2.ensures (λ k. body_row rows k ∷ []) (record { each = λ r x l p. search (rules, tests) }) _
    (c.note_named.ensures (λ r. parts (instruction_row rows r)) (record { each = λ r x l p. search (rules, tests) }) [] counted_zeros)))
