-- `body::coherence::coherent` meets its contract: equal bodies, else what `one_apart` says. Assumes nothing.
use mathlib.Core.Path.{sym, ◌∙◌}
use Rattle.laws.specs.Outcomes.{same_body_lem}
use Rattle.laws.specs.Coherent.{coherent_same}
use Rattle.body.proofs.coherence.coherent.Goals as goal

pub returns-then-same : goal.returns-then-same
returns-then-same c = λ b d h k. sym (coherent_same b d (same_body_lem b d (sym (c.same.ensures b d h k) ∙ c.if-same.true)))

pub one_apart-requires-clause-held : goal.one_apart-requires-clause-held
one_apart-requires-clause-held c = c.requires.held

pub one_apart-requires-clause-held_2 : goal.one_apart-requires-clause-held_2
one_apart-requires-clause-held_2 c = c.requires.held_2

pub returns : goal.returns
returns c = λ b d h k. c.one_apart.ensures b d h k (sym c.if-same.false ∙ c.same.ensures b d h k)
