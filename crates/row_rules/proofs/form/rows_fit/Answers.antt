-- `rows_fit` meets its contract. Assumes nothing.
use Rattle.std.proofs.Common.{rules, refl}
use borrow.Author.Tests.{tests}
use Rattle.lingua.specs.Answers.{file_meaning}
use Rattle.lingua.specs.Rows.{row_count}
use Rattle.lingua.specs.Rules.{row_fits}
use Rattle.laws.specs.Chains.{every_from_all}
use Rattle.row_rules.proofs.form.rows_fit.Goals as goal

pub returns : goal.returns
unfolding row_count
returns c = every_from_all (λ k. row_fits (file_meaning c.args.file) c.args.rows.now k) _ _ _ _ c.all.ensures.ran refl refl (λ x b q k. search (rules, tests))
