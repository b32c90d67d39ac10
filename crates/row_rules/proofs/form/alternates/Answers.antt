-- `alternates` meets its contract. Assumes nothing.
use Rattle.std.proofs.Common.{rules, refl, ◌+◌, ◌%◌, eqb}
use borrow.Author.Tests.{tests}
use Rattle.lingua.specs.Rows.{kind_at}
use Rattle.laws.specs.Chains.{every_from_all}
use Rattle.row_rules.proofs.form.alternates.Goals as goal

pub returns : goal.returns
returns c = every_from_all (λ k. eqb (kind_at c.args.rows.now (c.args.t.start + k)) (k % 2)) _ _ _ _ c.all.ensures.ran refl refl (λ x b q k. search (rules, tests))
