-- `is_quantity_variable` meets its contract: a body's first byte tells what it is. Assumes nothing.
use mathlib.Core.Path.{sym, ◌∙◌}
use borrow.Author.Tests.{eq-eqb}
use native.Mathlib.Omega.{arith}
use Rattle.lingua.specs.Body.{is_quantity}
use Rattle.lingua.specs.Refusal.{is_quantity_variable}
use Rattle.profile.specs.Variables.{own_scope}
use Rattle.profile.proofs.Declaring.{no_variable_there, variable_there, hundredths_first, number_first}
use Rattle.profile.proofs.declarations.is_quantity_variable.Goals as goal

pub returns-then-t-d : goal.returns-then-t-d
unfolding is_quantity_variable
returns-then-t-d c = no_variable_there is_quantity c.args.rows.now c.declarations-t.result c.args.d c.declarations-t.ensures c.if-t-d.true

pub declared_body-body-requires-clause-variables_known : goal.declared_body-body-requires-clause-variables_known
declared_body-body-requires-clause-variables_known c = (record { scope = own_scope c.declarations-t.ensures; accepted = c.requires.accepted_rows; held = c.requires.bodies_below })

pub declared_body-body-requires-clause-d_bound : goal.declared_body-body-requires-clause-d_bound
declared_body-body-requires-clause-d_bound c = (omega (arith, c.if-t-d.false))

pub returns-then-tag-eq-HUNDREDTHS : goal.returns-then-tag-eq-HUNDREDTHS
unfolding is_quantity_variable
returns-then-tag-eq-HUNDREDTHS c =
    eq-eqb _ _ c.if-tag-eq-HUNDREDTHS.true ∙
    variable_there is_quantity c.args.rows.now c.declarations-t.result c.args.d c.declarations-t.ensures c.declared_body-body.result _ (omega (arith, c.if-t-d.false)) c.declared_body-body.ensures
    (λ b h. sym (hundredths_first c.declared_body-body.result b h c.if-tag-eq-HUNDREDTHS.true))

pub returns-else-tag-eq-HUNDREDTHS : goal.returns-else-tag-eq-HUNDREDTHS
unfolding is_quantity_variable
returns-else-tag-eq-HUNDREDTHS c =
    variable_there is_quantity c.args.rows.now c.declarations-t.result c.args.d c.declarations-t.ensures c.declared_body-body.result _ (omega (arith, c.if-t-d.false)) c.declared_body-body.ensures
    (λ b h. number_first c.declared_body-body.result b h c.if-tag-eq-HUNDREDTHS.false)
