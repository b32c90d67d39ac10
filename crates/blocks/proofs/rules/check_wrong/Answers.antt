-- `check_wrong` meets its contract. Assumes nothing.
use Rattle.std.proofs.Common.{rules, refl, ap, not, eqb}
use borrow.Author.Tests.{tests}
use Rattle.lingua.specs.Numbers.{check_place}
use Rattle.lingua.specs.Rows.{word32}
use Rattle.lingua.specs.Format.{block_count, block_at, block_check, block_check_wrong}
use Rattle.laws.specs.Chains.{every_from_all}
use Rattle.blocks.proofs.rules.check_wrong.Goals as goal

pub returns : goal.returns
unfolding block_check_wrong block_count
returns c = ap not (every_from_all (λ k. eqb (word32 (block_at c.args.file.now k) check_place) (block_check (block_at c.args.file.now k))) _ _ _ _ c.all.ensures.ran refl refl (λ x b q k. search (rules, tests)))
