-- `typecheck::verdicts::check_assignment` meets its contract: its expression is judged by the variable's declared body. Assumes nothing.
use mathlib.Core.Option.{some}
use Rattle.lingua.specs.Body.{boolean}
use Rattle.lingua.specs.Typing.{check_instruction}
use Rattle.typecheck.proofs.Settling.{none_holds, outside_asked, judges_by}
use Rattle.typecheck.proofs.verdicts.check_assignment.Goals as goal

pub check-x-requires : goal.check-x-requires
check-x-requires c = outside_asked _ c.requires.value c.simple-none.ensures

pub returns : goal.returns
unfolding check_instruction
returns c = c.judge.ensures _ _ _ _ (judges_by _ _ _ _ _ _ (c.check-x.ensures (some boolean) (none_holds _ c.simple-none.ensures)) c.map-suits.ensures.cases (λ y r t e k. e _ t c.variable_body-declared.ensures k))
