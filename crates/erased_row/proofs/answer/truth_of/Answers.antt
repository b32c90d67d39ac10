-- `truth_of` meets its contract, by `tells_truth`. Assumes nothing.
use mathlib.Core.Path.{sym, ap}
use Rattle.lingua.specs.Faults.{number_of}
use Rattle.erased_row.proofs.Telling.{tells_truth}
use Rattle.erased_row.proofs.answer.truth_of.Goals as goal

pub returns : goal.returns
returns c = λ o h. sym (tells_truth h (ap number_of c.in_ok-answer.was))
