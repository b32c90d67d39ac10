-- `pairs_fit` meets its contract. Assumes nothing.
use Rattle.std.proofs.Common.{rules, refl, ◌&&◌, suc, ltb}
use borrow.Author.Tests.{tests}
use Rattle.std.specs.Bool.{beq}
use Rattle.lingua.specs.Rows.{row_count, procedure_kind}
use Rattle.laws.specs.Chains.{every_from_all}
use Rattle.row_rules.proofs.pairs.pairs_fit.Goals as goal

pub returns : goal.returns
unfolding row_count
returns c = every_from_all (λ k. beq (procedure_kind 0 c.args.rows.now k) (ltb (suc k) (row_count c.args.rows.now) && procedure_kind 1 c.args.rows.now (suc k))) _ _ _ _ c.all.ensures.ran refl refl (λ x b q k. search (rules, tests))
