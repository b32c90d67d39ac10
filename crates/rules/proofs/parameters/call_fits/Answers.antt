-- `call_fits` meets its contract: only a call is asked, its values first. Assumes nothing.
use Rattle.std.proofs.Common.{◌∙◌}
use borrow.Author.Tests.{ne_eqb}
use Rattle.rules.proofs.Calling.{calls_of, called_at, called_low, alike_call, alike_none, bits_fail, bits_tell}
use Rattle.rules.proofs.parameters.call_fits.Goals as goal

pub procedure-procedure-requires-clause-k_lt_count : goal.procedure-procedure-requires-clause-k_lt_count
procedure-procedure-requires-clause-k_lt_count c = called_at _ _ _ _ _ (calls_of _ _ _ c.requires.scoped c.requires.r_lt_count c.instruction_row-row.ensures) c.in-Call.is

pub procedure-procedure-requires-clause-k_lt_most : goal.procedure-procedure-requires-clause-k_lt_most
procedure-procedure-requires-clause-k_lt_most c = called_low _ _ _ _ _ (calls_of _ _ _ c.requires.scoped c.requires.r_lt_count c.instruction_row-row.ensures) c.in-Call.is

pub returns-then-bits_above-eq0 : goal.returns-then-bits_above-eq0
returns-then-bits_above-eq0 c =
    bits_tell c.args.rows.now _ c.procedure-procedure.result c.procedure-procedure.ensures _ _ c.bits_above.result c.bits_above-then-bits_above-eq0.result c.bits_above.ensures c.if-bits_above-eq0.true c.bits_above-then-bits_above-eq0.ensures
    ∙ alike_call c.instruction_row-row.ensures _ c.in-Call.is

pub returns-else-bits_above-eq0 : goal.returns-else-bits_above-eq0
returns-else-bits_above-eq0 c =
    ne_eqb _ 0 c.if-bits_above-eq0.false
    ∙ bits_fail c.args.rows.now _ c.procedure-procedure.result c.procedure-procedure.ensures _ _ c.bits_above.result c.bits_above.ensures c.if-bits_above-eq0.false
    ∙ alike_call c.instruction_row-row.ensures _ c.in-Call.is

pub returns-in_default : goal.returns-in_default
returns-in_default c = alike_none c.instruction_row-row.ensures _ c.in_default.not-Call
