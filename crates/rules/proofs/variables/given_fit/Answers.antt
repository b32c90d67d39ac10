-- `given_fit` meets its contract: only a call is asked, its values first. Assumes nothing.
use Rattle.std.proofs.Common.{refl, ◌∙◌, sym}
use Rattle.rules.proofs.Calling.{call_at, no_call, called_at, called_low, given_values_fail, given_references_tell}
use Rattle.rules.proofs.variables.given_fit.Goals as goal

pub procedure-procedure-requires-clause-k_lt_count : goal.procedure-procedure-requires-clause-k_lt_count
procedure-procedure-requires-clause-k_lt_count c = called_at _ _ _ _ _ c.requires c.in-Call.is

pub procedure-procedure-requires-clause-k_lt_most : goal.procedure-procedure-requires-clause-k_lt_most
procedure-procedure-requires-clause-k_lt_most c = called_low _ _ _ _ _ c.requires c.in-Call.is

pub returns-then-groups_below : goal.returns-then-groups_below
returns-then-groups_below c = c.groups_below-then-groups_below.ensures ∙ given_references_tell c.args.rows.now _ _ _ c.procedure-procedure.result c.procedure-procedure.ensures c.given.result c.given-then-groups_below.result c.given.ensures c.given-then-groups_below.ensures c.args.end (sym c.groups_below.ensures ∙ c.if-groups_below.true) ∙ sym (call_at c.args.row _ _ _ _ c.in-Call.is)

pub returns-else-groups_below : goal.returns-else-groups_below
returns-else-groups_below c = c.if-groups_below.false ∙ given_values_fail c.args.rows.now _ _ _ c.procedure-procedure.result c.procedure-procedure.ensures c.given.result _ c.given.ensures refl c.args.end (sym c.groups_below.ensures ∙ c.if-groups_below.false) ∙ sym (call_at c.args.row _ _ _ _ c.in-Call.is)

pub returns-in_default : goal.returns-in_default
returns-in_default c = no_call c.args.row _ c.in_default.not-Call
