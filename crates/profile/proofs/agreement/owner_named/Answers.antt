-- `owner_named` meets its contract: the variable of the name decides. Assumes nothing.
use native.Mathlib.Omega.{arith}
use Rattle.lingua.specs.Numbers.{declaration_section}
use Rattle.lingua.specs.Refusal.{ends_fit}
use Rattle.profile.specs.Find.{limit}
use Rattle.profile.specs.Variables.{variables_known}
use Rattle.profile.proofs.Declaring.{pairs, variable_there}
use Rattle.profile.proofs.Finding.{found_there, none_named, one_named, other_named}
use mir.ValLaws.{to_z-of_z}
use Rattle.profile.proofs.agreement.owner_named.Goals as goal

pub returns-in_default : goal.returns-in_default
returns-in_default c = none_named (ends_fit (limit c.args.low c.args.high)) c.args.rows.now c.args.name.now c.find-search.result c.in_default.is c.find-search.ensures

pub declared_body-body-requires-clause-variables_known : goal.declared_body-body-requires-clause-variables_known
declared_body-body-requires-clause-variables_known c = (variables_known c.declarations.ensures c.requires.declarations_known)

pub declared_body-body-requires-clause-d_bound : goal.declared_body-body-requires-clause-d_bound
declared_body-body-requires-clause-d_bound c = (omega (arith, found_there (ends_fit (limit c.args.low c.args.high)) c.args.rows.now c.args.name.now c.find-search.result _ c.in-Some.is c.find-search.ensures, pairs c.args.rows.now declaration_section c.declarations.result c.declarations.ensures))

pub returns-then-ends_fit : goal.returns-then-ends_fit
returns-then-ends_fit c = one_named (ends_fit (limit c.args.low c.args.high)) c.args.rows.now c.args.name.now c.find-search.result _ c.in-Some.is c.find-search.ensures c.requires.declarations_known.accepted.names c.ends_fit.result (variable_there (ends_fit (limit c.args.low c.args.high)) c.args.rows.now c.declarations.result _ c.declarations.ensures c.declared_body-body.result c.ends_fit.result (omega (arith, found_there (ends_fit (limit c.args.low c.args.high)) c.args.rows.now c.args.name.now c.find-search.result _ c.in-Some.is c.find-search.ensures, pairs c.args.rows.now declaration_section c.declarations.result c.declarations.ensures)) c.declared_body-body.ensures (simp (to_z-of_z _ _ c.ranges.low, to_z-of_z _ _ c.ranges.high) at c.ends_fit.ensures)) c.if-ends_fit.true

pub returns : goal.returns
returns c = other_named (ends_fit (limit c.args.low c.args.high)) c.args.rows.now c.args.name.now c.find-search.result _ c.in-Some.is c.find-search.ensures c.requires.declarations_known.accepted.names c.ends_fit.result (variable_there (ends_fit (limit c.args.low c.args.high)) c.args.rows.now c.declarations.result _ c.declarations.ensures c.declared_body-body.result c.ends_fit.result (omega (arith, found_there (ends_fit (limit c.args.low c.args.high)) c.args.rows.now c.args.name.now c.find-search.result _ c.in-Some.is c.find-search.ensures, pairs c.args.rows.now declaration_section c.declarations.result c.declarations.ensures)) c.declared_body-body.ensures (simp (to_z-of_z _ _ c.ranges.low, to_z-of_z _ _ c.ranges.high) at c.ends_fit.ensures)) c.if-ends_fit.false
