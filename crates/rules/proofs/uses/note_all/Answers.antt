-- `note_all` meets its contract: the list's numbers are noted in turn. Assumes nothing.
use Rattle.std.proofs.Common.{ap, sym, ◌∙◌, ◌++◌, take, List, ℕ}
use Rattle.std.proofs.Common.{append_assoc}
use Rattle.std.proofs.lemmas.List.{take_more, take_all}
use Rattle.rules.proofs.Usage.{counted_to}
use Rattle.rules.proofs.uses.note_all.Goals as goal

pub loop-x-preserved : goal.loop-x-preserved
loop-x-preserved c = λ xs h.
    counted_to (c.note.ensures (xs ++ take c.loop-x.x-index c.numbers-numbers.result.now) (c.loop-x.invariant xs h))
    (append_assoc xs _ _ ∙ ap (λ (l : List ℕ). xs ++ l) (sym (take_more c.numbers-numbers.result.now c.loop-x.x-index 0 c.loop-x-test.true)))

pub returns : goal.returns
returns c = λ xs h. counted_to (c.loop-x.invariant xs h) (ap (λ (l : List ℕ). xs ++ l) (take_all _ _ c.loop-x-test.false ∙ c.numbers-numbers.ensures))
