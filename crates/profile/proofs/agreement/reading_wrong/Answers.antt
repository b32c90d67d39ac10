-- `reading_wrong` meets its contract: there are not too many, and each is for a number variable. Assumes nothing.
use Rattle.std.proofs.Common.{rules, ap, not, ◌∙◌}
use Rattle.std.proofs.lemmas.Iterator.{YieldsList-from_slice}
use borrow.Author.Tests.{tests}
use Rattle.lingua.specs.Refusal.{is_quantity_variable}
use Rattle.laws.specs.Chains.{all_of_from_all}
use Rattle.profile.proofs.Agreeing.{too_many, readings_told}
use Rattle.profile.proofs.agreement.reading_wrong.Goals as goal

pub returns-then-variables-gt-MOST_READINGS : goal.returns-then-variables-gt-MOST_READINGS
returns-then-variables-gt-MOST_READINGS c = too_many c.args.rows.now c.args.variables.now c.if-variables-gt-MOST_READINGS.true

pub returns : goal.returns
returns c =
    ap not (all_of_from_all (λ v. is_quantity_variable c.args.rows.now v) _ _ _ c.all.ensures.ran (YieldsList-from_slice c.args.variables.now c.iter.ensures.rest) (λ x b q k. search (rules, tests)))
    ∙ readings_told c.args.rows.now c.args.variables.now c.if-variables-gt-MOST_READINGS.false
