-- `references_differ` meets its contract: only a call is asked. Assumes nothing.
use Rattle.std.proofs.Common.{refl, ◌∙◌}
use Rattle.rules.proofs.Calling.{calls_of, called_at, called_low, alike_call, alike_none, differ_are}
use Rattle.rules.proofs.repeats.references_differ.Goals as goal

pub procedure-procedure-requires-clause-k_lt_count : goal.procedure-procedure-requires-clause-k_lt_count
procedure-procedure-requires-clause-k_lt_count c = called_at _ _ _ _ _ (calls_of _ _ _ c.requires.scoped c.requires.r_lt_count c.instruction_row-row.ensures) c.in-Call.is

pub procedure-procedure-requires-clause-k_lt_most : goal.procedure-procedure-requires-clause-k_lt_most
procedure-procedure-requires-clause-k_lt_most c = called_low _ _ _ _ _ (calls_of _ _ _ c.requires.scoped c.requires.r_lt_count c.instruction_row-row.ensures) c.in-Call.is

pub returns-in-Call : goal.returns-in-Call
returns-in-Call c = c.groups_differ.ensures ∙ differ_are c.args.rows.now _ 0 _ c.procedure-procedure.result c.procedure-procedure.ensures _ c.given.result refl c.given.ensures ∙ alike_call c.instruction_row-row.ensures _ c.in-Call.is

pub returns-in_default : goal.returns-in_default
returns-in_default c = alike_none c.instruction_row-row.ensures _ c.in_default.not-Call
