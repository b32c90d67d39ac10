-- `typecheck::verdicts::check_test` meets its contract: its expression is judged by whether it is Boolean. Assumes nothing.
use borrow.Author.Rules.{rules}
use mathlib.Core.Option.{some}
use Rattle.lingua.specs.Body.{boolean}
use Rattle.lingua.specs.Typing.{check_test}
use Rattle.typecheck.proofs.Settling.{none_holds, outside_asked, judges_by}
use Rattle.typecheck.proofs.verdicts.check_test.Goals as goal

pub check-x-requires : goal.check-x-requires
check-x-requires c = outside_asked _ c.requires c.simple-none.ensures

pub returns : goal.returns
unfolding check_test
returns c = c.judge.ensures _ _ _ _ (judges_by _ _ _ _ _ _ (c.check-x.ensures (some boolean) (none_holds _ c.simple-none.ensures)) c.map.ensures.cases (λ y r t e k. search rules))
