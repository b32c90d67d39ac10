-- The public call's answer and final layout table, from what the whole check concludes. Assumes nothing.
use mathlib.Core.Path.{◌≡◌, sym, ap, ◌∙◌}
use mathlib.Core.List.{List}
use Prim.Native.Nat.{ℕ}
use Rattle.lingua.specs.Outcome.{Outcome}
use Rattle.lingua.specs.Faults.{error_number}
use Rattle.lingua.specs.Typing.{TypeError, Entry}
use Rattle.lingua.specs.Answers.{Answer, answered, passed, faulted}
use Rattle.lingua.specs.Answers as answers
use Rattle.lingua.specs.Calls.{TypeCheckCall, type_check_verdict}
use Rattle.lingua.specs.declared.errors.ErrorAt.{ErrorAt}
use Rattle.typecheck.specs.Verdicts.{ConcludesPassed, ConcludesFailed}

abbrev call_of : Answer answers.Verdict → List ℕ → TypeCheckCall
call_of a l = record { answer = a; layout = l }

pub verdict_passed : (m : List ℕ) (o : Outcome TypeError (List Entry)) → ConcludesPassed m o → type_check_verdict o ≡ call_of (answered passed) m
unfolding type_check_verdict
verdict_passed m o h = ap type_check_verdict h.is ∙ ap (call_of (answered passed)) (sym h.layout)

pub verdict_failed : (e : ErrorAt) (m : List ℕ) (o : Outcome TypeError (List Entry)) → ConcludesFailed e m o → type_check_verdict o ≡ call_of (answered (faulted (error_number e.error) e.place)) m
unfolding type_check_verdict
verdict_failed e m o h =
    ap type_check_verdict h.is ∙ ap (call_of (answered (faulted (error_number e.error) e.place))) (sym h.layout)
