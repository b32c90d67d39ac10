-- `sections_ascend` meets its contract. Assumes nothing.
use Rattle.std.proofs.Common.{rules, refl, leb, ◌+◌}
use borrow.Author.Tests.{tests}
use Rattle.lingua.specs.Rows.{row_count, section_at}
use Rattle.lingua.specs.Rules.{ascending}
use Rattle.laws.specs.Chains.{every_from_all}
use Rattle.row_rules.proofs.form.sections_ascend.Goals as goal

pub returns : goal.returns
unfolding ascending row_count
returns c = every_from_all (λ k. leb (section_at c.args.rows.now k) (section_at c.args.rows.now (k + 1))) _ _ _ _ c.all.ensures.ran refl c.saturating_sub.ensures (λ x b q k. search (rules, tests))
