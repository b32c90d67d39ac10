-- `taken::refusal::run_refusal` meets its contract: refused by its buffers, by the files or by its readings, or by none. Assumes nothing.
use mathlib.Core.Path.{refl, sym, ap, ◌∙◌}
use lib.Seq.{length-take-le}
use Rattle.std.specs.Prelude.{Result}
use Rattle.lingua.specs.declared.errors.Refusal.{Refusal}
use Rattle.lingua.specs.Faults.{refusal_of}
use Rattle.pair.specs.declared.Pair.{Pair}
use Rattle.pair.proofs.Given.{rows_accepted, tables_there, bodies_held}
use Rattle.pair.proofs.Returns.{passed_on}
use Rattle.taken.proofs.Taking.{unfit_buffers, files_wrong, readings_wrong, none_wrong}
use Rattle.taken.proofs.refusal.run_refusal.Goals as goal

pub returns-then-not-buffers_fit : goal.returns-then-not-buffers_fit
returns-then-not-buffers_fit c = λ prof lims others h. unfit_buffers _ _ (sym (c.buffers_fit.ensures prof lims) ∙ c.if-not-buffers_fit.true)

pub returns-in_err-taken : goal.returns-in_err-taken
returns-in_err-taken c = λ prof lims others h. rw (passed_on _ c.from_residual.ensures.1) (files_wrong _ _ (sym (c.buffers_fit.ensures prof lims) ∙ c.if-not-buffers_fit.false) h c.in_err-taken.was)

pub slice_bounds-with-end : goal.slice_bounds-with-end
slice_bounds-with-end c = sym (length-take-le _ _ (c.requires.1.is.taken _ c.in_ok-taken.was).within)

pub with-rows-requires : goal.with-rows-requires
with-rows-requires c = tables_there (c.requires.1.is.taken _ c.in_ok-taken.was)

pub reading_wrong-requires-clause-accepted_rows : goal.reading_wrong-requires-clause-accepted_rows
reading_wrong-requires-clause-accepted_rows c =
    rw c.with-rows.ensures (rows_accepted (c.requires.1.is.taken _ c.in_ok-taken.was) (sym c.requires.1.is.refusal ∙ ap (λ (x : Result Pair Refusal). refusal_of x) c.in_ok-taken.was))

pub reading_wrong-requires-clause-bodies_below : goal.reading_wrong-requires-clause-bodies_below
reading_wrong-requires-clause-bodies_below c = rw c.with-rows.ensures (bodies_held (c.requires.1.is.taken _ c.in_ok-taken.was))

pub returns-then-reading_wrong : goal.returns-then-reading_wrong
returns-then-reading_wrong c = λ prof lims others h. readings_wrong _ _ (sym (c.buffers_fit.ensures prof lims) ∙ c.if-not-buffers_fit.false) h c.in_ok-taken.was c.with-rows.ensures _ c.reading_wrong.ensures c.if-reading_wrong.true

pub returns : goal.returns
returns c = λ prof lims others h. none_wrong _ _ (sym (c.buffers_fit.ensures prof lims) ∙ c.if-not-buffers_fit.false) h c.in_ok-taken.was c.with-rows.ensures _ c.reading_wrong.ensures c.if-reading_wrong.false _ c.with-rows.ensures refl refl refl
