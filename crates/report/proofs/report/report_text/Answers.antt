-- `report::report::report_text` meets its contract: what the run of the taken files ensures, and the two texts behind each other. Assumes
-- nothing.
use mathlib.Core.Path.{refl, sym, ap, ◌∙◌}
use native.Mathlib.Omega.{arith}
use borrow.Author.Rules.{rules}
use lib.Seq.{length-take-le}
use Rattle.lingua.specs.Faults.{refusal_of}
use Rattle.pair.proofs.Given.{room_there}
use Rattle.report.specs.Call.{report_call}
use Rattle.report.proofs.Reporting.{last, run_left, report_written}
use Rattle.report.proofs.Taking.{left_rows}
use Rattle.report.proofs.report.report_text.Goals as goal

pub take_pair-pair-requires : goal.take_pair-pair-requires
take_pair-pair-requires c = room_there _ _ _ refl refl refl

pub checked_taken-answer-requires : goal.checked_taken-answer-requires
checked_taken-answer-requires c = record { prof = _; lims = _; is = c.take_pair-pair.ensures }

pub slice_bounds-put_variables-end-4 : goal.slice_bounds-put_variables-end-4
slice_bounds-put_variables-end-4 c = sym (length-take-le 1536 c.checked_taken-answer.new.present (omega (arith, c.checked_taken-answer.auto.present)))

pub put_variables-requires-clause-by_index : goal.put_variables-requires-clause-by_index
put_variables-requires-clause-by_index c = (_, (_, record { prof = _; lims = _; is = c.take_pair-pair.ensures }))

pub put_variables-requires-clause-has_left : goal.put_variables-requires-clause-has_left
unfolding report_call
put_variables-requires-clause-has_left c = λ t z.
    let h = c.take_pair-pair.ensures in
    let k = left_rows h t z (run_left c.args.profile.now c.args.limits.now _ _ _ (c.checked_taken-answer.ensures.run _ _ h) (sym h.refusal ∙ ap refusal_of z)) in
    record { store = last c.args.profile.now c.args.limits.now; left = search (rules, k, c.checked_taken-answer.ensures.same_registers) }

pub returns : goal.returns
unfolding report_call
returns c =
    let h = c.take_pair-pair.ensures in
    let e = c.checked_taken-answer.ensures.run _ _ h in
    let put =
    c.put_variables.ensures _ _ _ _ (last c.args.profile.now c.args.limits.now) h
    (λ t z. let k = left_rows h t z (run_left c.args.profile.now c.args.limits.now _ _ _ e (sym h.refusal ∙ ap refusal_of z)) in search (rules, k, c.checked_taken-answer.ensures.same_registers)) in
    report_written c.args.profile.now c.args.limits.now _ _ _ {end = c.put_variables.new.page} c.requires e c.put_answer.ensures (search (rules, put, c.checked_taken-answer.ensures.same_registers))
