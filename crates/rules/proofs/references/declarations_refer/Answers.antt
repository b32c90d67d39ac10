use Rattle.std.proofs.Common.{rules, refl, ◌∙◌, sym, ◌&&◌, ltb, ◌+◌, ◌*◌}
use borrow.Author.Tests.{tests}
use Rattle.lingua.specs.Numbers.{type_section, expression_section}
use Rattle.lingua.specs.Rows.{a_at, b_at, table_count, yoke_root}
use Rattle.lingua.specs.References.{all_below}
use Rattle.laws.specs.Chains.{every_from_all}
use Rattle.rules.proofs.Refers.{declarations_from}
use Rattle.rules.proofs.references.declarations_refer.Goals as goal

pub returns : goal.returns
returns c =
    let rows = c.args.rows.now in
    every_from_all (λ d. ltb (a_at rows (c.scope-own.result.start + (2 * d + 1))) (table_count rows type_section) && all_below (table_count rows expression_section) (yoke_root (b_at rows (c.scope-own.result.start + (2 * d + 1))))) _ _ _ _ c.all.ensures.ran refl refl (λ x b q k. search (rules, tests))
    ∙ sym (declarations_from rows c.args.s c.scope-own.result c.scope-own.ensures)
