-- `set_fit` meets its contract: the marks of what each instruction row names. Assumes nothing.
use Rattle.std.proofs.Common.{rules, refl, ◌∙◌, ◌&&◌, not, true, false, ltb, get_or}
use borrow.Author.Tests.{tests}
use Rattle.lingua.specs.Numbers.{instruction_section}
use Rattle.lingua.specs.Value.{all_of}
use Rattle.lingua.specs.Rows.{table_count, instruction_row, yoke_set}
use Rattle.laws.specs.Chains.{every_from_all}
use Rattle.rules.proofs.Reading.{lists_same, roots_same, every_same, set_below}
use Rattle.rules.proofs.places.set_fit.Goals as goal

pub returns : goal.returns
returns c =
    every_from_all (λ i. all_of (λ a. not (ltb a c.expressions-expressions.result.count && get_or c.args.marks.now a false)) (yoke_set (instruction_row c.args.rows.now i))) (table_count c.args.rows.now instruction_section) _ _ _ c.all.ensures.ran refl c.instructions-instructions.ensures.count (λ x b q k. search (rules, tests, lists_same))
    ∙ every_same (table_count c.args.rows.now instruction_section) (λ i l. roots_same c.args.rows.now true c.args.marks.now _ c.expressions-expressions.ensures.count c.requires.marked (set_below c.args.rows.now c.requires.references i l))
