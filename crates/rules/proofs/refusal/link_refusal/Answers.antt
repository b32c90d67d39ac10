-- `link_refusal` meets its contract: the first rule that applies is the first in order. Assumes nothing.
use mathlib.Core.Path.{sym, ◌∙◌}
use Rattle.rules.specs.Accepted.{rows_right}
use Rattle.rules.specs.Types.{types_ready}
use Rattle.rules.specs.Refusals.{link_rules}
use Rattle.rules.proofs.Lowest.{reference_applies, use_applies, place_applies, type_applies, parameters_apply, repeats_apply, links_pass, sized, refused_linked}
use Rattle.rules.proofs.refusal.link_refusal.Goals as goal

pub reference_wrong-requires : goal.reference_wrong-requires
reference_wrong-requires c = sized _ c.requires.counts

pub returns-then-reference_wrong : goal.returns-then-reference_wrong
unfolding link_rules
returns-then-reference_wrong c = refused_linked c.args.rows.now (reference_applies _ _ _ _ _ _ (sym c.reference_wrong.ensures ∙ c.if-reference_wrong.true))

pub use_wrong-requires : goal.use_wrong-requires
use_wrong-requires c = sized _ c.requires.counts

pub returns-then-use_wrong : goal.returns-then-use_wrong
unfolding link_rules
returns-then-use_wrong c = refused_linked c.args.rows.now (use_applies _ _ _ _ _ _ (sym c.reference_wrong.ensures ∙ c.if-reference_wrong.false) (sym c.use_wrong.ensures ∙ c.if-use_wrong.true))

pub place_wrong-requires-clause-sized : goal.place_wrong-requires-clause-sized
place_wrong-requires-clause-sized c = sized _ c.requires.counts

pub returns-then-place_wrong : goal.returns-then-place_wrong
unfolding link_rules
returns-then-place_wrong c = refused_linked c.args.rows.now (place_applies _ _ _ _ _ _ (sym c.reference_wrong.ensures ∙ c.if-reference_wrong.false) (sym c.use_wrong.ensures ∙ c.if-use_wrong.false) (sym c.place_wrong.ensures ∙ c.if-place_wrong.true))

pub type_wrong-requires-clause-types_ready : goal.type_wrong-requires-clause-types_ready
type_wrong-requires-clause-types_ready c = types_ready _ c.requires.counts c.requires.constants (sym c.reference_wrong.ensures ∙ c.if-reference_wrong.false)

pub returns-then-type_wrong : goal.returns-then-type_wrong
unfolding link_rules
returns-then-type_wrong c = refused_linked c.args.rows.now (type_applies _ _ _ _ _ _ (sym c.reference_wrong.ensures ∙ c.if-reference_wrong.false) (sym c.use_wrong.ensures ∙ c.if-use_wrong.false) (sym c.place_wrong.ensures ∙ c.if-place_wrong.false) (sym c.type_wrong.ensures.value ∙ c.if-type_wrong.true))

pub parameters_wrong-requires : goal.parameters_wrong-requires
parameters_wrong-requires c = record { sized = sized _ c.requires.counts; refers = rows_right _ (sym c.reference_wrong.ensures ∙ c.if-reference_wrong.false) }

pub returns-then-parameters_wrong : goal.returns-then-parameters_wrong
unfolding link_rules
returns-then-parameters_wrong c = refused_linked c.args.rows.now (parameters_apply _ _ _ _ _ _ (sym c.reference_wrong.ensures ∙ c.if-reference_wrong.false) (sym c.use_wrong.ensures ∙ c.if-use_wrong.false) (sym c.place_wrong.ensures ∙ c.if-place_wrong.false) (sym c.type_wrong.ensures.value ∙ c.if-type_wrong.false) (sym c.parameters_wrong.ensures ∙ c.if-parameters_wrong.true))

pub references_wrong-requires : goal.references_wrong-requires
references_wrong-requires c = record { sized = sized _ c.requires.counts; refers = rows_right _ (sym c.reference_wrong.ensures ∙ c.if-reference_wrong.false) }

pub returns-then-references_wrong : goal.returns-then-references_wrong
unfolding link_rules
returns-then-references_wrong c = refused_linked c.args.rows.now (repeats_apply _ _ _ _ _ _ (sym c.reference_wrong.ensures ∙ c.if-reference_wrong.false) (sym c.use_wrong.ensures ∙ c.if-use_wrong.false) (sym c.place_wrong.ensures ∙ c.if-place_wrong.false) (sym c.type_wrong.ensures.value ∙ c.if-type_wrong.false) (sym c.parameters_wrong.ensures ∙ c.if-parameters_wrong.false) (sym c.references_wrong.ensures ∙ c.if-references_wrong.true))

pub returns : goal.returns
unfolding link_rules
returns c = record { refusal = links_pass _ _ _ _ _ _ (sym c.reference_wrong.ensures ∙ c.if-reference_wrong.false) (sym c.use_wrong.ensures ∙ c.if-use_wrong.false) (sym c.place_wrong.ensures ∙ c.if-place_wrong.false) (sym c.type_wrong.ensures.value ∙ c.if-type_wrong.false) (sym c.parameters_wrong.ensures ∙ c.if-parameters_wrong.false) (sym c.references_wrong.ensures ∙ c.if-references_wrong.false); held = λ z. c.type_wrong.ensures.bodies_below c.if-type_wrong.false }
