-- `declared_fit` meets its contract: the marks of the yokes that the scope declares. Assumes nothing.
use Rattle.std.proofs.Common.{rules, refl, ◌∙◌, sym, ◌&&◌, not, true, false, ltb, get_or, ◌+◌, ◌*◌, ◌/◌}
use borrow.Author.Tests.{tests}
use Rattle.lingua.specs.Numbers.{scope_table}
use Rattle.lingua.specs.Value.{all_of}
use Rattle.lingua.specs.Trees.{expression_tree}
use Rattle.lingua.specs.Rows.{b_at, yoke_root}
use Rattle.decoder.specs.Reads.{reads}
use Rattle.laws.specs.Chains.{every_from_all}
use Rattle.rules.proofs.Refers.{yoke_in_lem}
use Rattle.rules.proofs.Reading.{roots_of, roots_same, every_same, scope_roots, declared_below}
use Rattle.rules.proofs.places.declared_fit.Goals as goal

pub returns : goal.returns
returns c =
    let rows = c.args.rows.now in
    let own = c.scope-own.result in
    every_from_all (λ d. all_of (λ a. not (ltb a c.expressions-expressions.result.count && get_or c.args.marks.now a false)) (yoke_root (b_at c.bytes-bytes.result.now (own.start + (2 * d + 1))))) (own.count / 2) _ _ _ c.all.ensures.ran refl refl (λ x b q k. search (rules, tests, roots_of))
    ∙ every_same (own.count / 2)
    (λ d l. rw (c.bytes-bytes.ensures, ← yoke_in_lem rows (scope_table c.args.s) own d c.scope-own.ensures) (roots_same rows true c.args.marks.now _ c.expressions-expressions.ensures.count c.requires.places_marked.marked (declared_below rows c.requires.places_marked.references c.args.s own d c.scope-own.ensures c.requires.s_le_count l)))
    ∙ sym (scope_roots rows (λ r. not (reads true (expression_tree rows r))) c.args.s own c.scope-own.ensures)
