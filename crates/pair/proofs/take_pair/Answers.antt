-- `take_pair` meets its contract: refused by one of the files, by both together, or taken. Assumes nothing.
use mathlib.Core.Path.{sym, ◌∙◌}
use Rattle.lingua.specs.Answers.{file_meaning}
use Rattle.lingua.specs.Format.{model_of}
use Rattle.pair.proofs.Returns.{passed_on, some_refusal}
use Rattle.pair.proofs.Pairs.{pair_own, models_wrong, pair_refused, pair_wrong, pair_done, taken_p, taken_l, rows_within, limits_within, rows_accepted, tables_there, limit_tables_there, limits_read, bodies_there, profile_header, limits_header}
use Rattle.pair.proofs.take_pair.Goals as goal

pub take-l-requires-clause-kind_in_bounds : goal.take-l-requires-clause-kind_in_bounds
unfolding file_meaning
take-l-requires-clause-kind_in_bounds c = c.requires.for_limits

pub take-p-requires-clause-kind_in_bounds : goal.take-p-requires-clause-kind_in_bounds
unfolding file_meaning
take-p-requires-clause-kind_in_bounds c = c.requires.for_rows

pub returns-in_err-taken : goal.returns-in_err-taken
unfolding file_meaning
returns-in_err-taken c = rw (passed_on _ c.from_residual.ensures.1) (pair_refused _ _ _ (pair_own _ _ _ _ c.take-p.ensures.refusal c.take-l.ensures.refusal _ c.in_err-taken.ensures.refusal (some_refusal _)))

pub word16_at-requires : goal.word16_at-requires
unfolding file_meaning
word16_at-requires c = profile_header _ _ _ _ _ _ _ _ (taken_p _ c.take-p.ensures c.in_ok-taken.ensures) (taken_l _ c.take-l.ensures c.in_ok-taken.ensures)

pub word16_at-requires-2 : goal.word16_at-requires-2
unfolding file_meaning
word16_at-requires-2 c = limits_header _ _ _ _ _ _ _ _ (taken_p _ c.take-p.ensures c.in_ok-taken.ensures) (taken_l _ c.take-l.ensures c.in_ok-taken.ensures)

pub returns-then-word16_at : goal.returns-then-word16_at
unfolding model_of file_meaning
returns-then-word16_at c = pair_refused _ _ _ (models_wrong _ _ _ _ _ _ _ _ (taken_p _ c.take-p.ensures c.in_ok-taken.ensures) (taken_l _ c.take-l.ensures c.in_ok-taken.ensures) (λ e. c.if-word16_at.true (c.word16_at.ensures ∙ e ∙ sym c.word16_at-2.ensures)))

pub slice_bounds-with-end : goal.slice_bounds-with-end
unfolding file_meaning
slice_bounds-with-end c = rows_within _ _ _ _ _ _ _ _ (taken_p _ c.take-p.ensures c.in_ok-taken.ensures) (taken_l _ c.take-l.ensures c.in_ok-taken.ensures)

pub slice_bounds-with-end-3 : goal.slice_bounds-with-end-3
unfolding file_meaning
slice_bounds-with-end-3 c = limits_within _ _ _ _ _ _ _ _ (taken_p _ c.take-p.ensures c.in_ok-taken.ensures) (taken_l _ c.take-l.ensures c.in_ok-taken.ensures)

pub with-rows-requires : goal.with-rows-requires
unfolding file_meaning
with-rows-requires c = tables_there _ _ _ _ _ _ _ _ (taken_p _ c.take-p.ensures c.in_ok-taken.ensures) (taken_l _ c.take-l.ensures c.in_ok-taken.ensures)

pub with-limit_rows-requires : goal.with-limit_rows-requires
unfolding file_meaning
with-limit_rows-requires c = limit_tables_there _ _ _ _ _ _ _ _ (taken_p _ c.take-p.ensures c.in_ok-taken.ensures) (taken_l _ c.take-l.ensures c.in_ok-taken.ensures)

pub limit_wrong-requires-clause-declarations_known : goal.limit_wrong-requires-clause-declarations_known
unfolding file_meaning
limit_wrong-requires-clause-declarations_known c = rw c.with-rows.ensures (record {
  accepted = rows_accepted _ _ _ _ _ _ _ _ (taken_p _ c.take-p.ensures c.in_ok-taken.ensures) (taken_l _ c.take-l.ensures c.in_ok-taken.ensures);
  held = bodies_there _ _ _ _ _ _ _ _ (taken_p _ c.take-p.ensures c.in_ok-taken.ensures) (taken_l _ c.take-l.ensures c.in_ok-taken.ensures);
})

pub limit_wrong-requires-clause-limits_read : goal.limit_wrong-requires-clause-limits_read
unfolding file_meaning
limit_wrong-requires-clause-limits_read c = rw c.with-limit_rows.ensures (limits_read _ _ _ _ _ _ _ _ (taken_p _ c.take-p.ensures c.in_ok-taken.ensures) (taken_l _ c.take-l.ensures c.in_ok-taken.ensures))

pub returns-then-limit_wrong : goal.returns-then-limit_wrong
unfolding model_of file_meaning
returns-then-limit_wrong c = pair_refused _ _ _ (pair_wrong _ _ _ _ _ _ _ _ (taken_p _ c.take-p.ensures c.in_ok-taken.ensures) (taken_l _ c.take-l.ensures c.in_ok-taken.ensures) _ (rw (c.with-rows.ensures, c.with-limit_rows.ensures) at c.limit_wrong.ensures.value) (sym c.word16_at.ensures ∙ c.if-word16_at.false ∙ c.word16_at-2.ensures) c.if-limit_wrong.true)

pub returns : goal.returns
unfolding model_of file_meaning
returns c = pair_done _ _ _ _ _ _ _ _ (taken_p _ c.take-p.ensures c.in_ok-taken.ensures) (taken_l _ c.take-l.ensures c.in_ok-taken.ensures) _ (rw (c.with-rows.ensures, c.with-limit_rows.ensures) at c.limit_wrong.ensures.value) (sym c.word16_at.ensures ∙ c.if-word16_at.false ∙ c.word16_at-2.ensures) _ (rw (c.with-rows.ensures, c.with-limit_rows.ensures) at c.limit_wrong.ensures.limits_owned) c.if-limit_wrong.false
