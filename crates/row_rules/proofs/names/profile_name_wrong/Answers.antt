-- `profile_name_wrong` meets its contract. Assumes nothing.
use Rattle.std.proofs.Common.{rules, refl, ap, not, arith}
use borrow.Author.Tests.{tests}
use Rattle.lingua.specs.Numbers.{scope_table}
use Rattle.lingua.specs.Rules.{names_fit, name_wrong}
use Rattle.laws.specs.Chains.{every_from_all}
use Rattle.row_rules.proofs.Forms.{scope_names}
use Rattle.row_rules.proofs.names.profile_name_wrong.Goals as goal

pub returns : goal.returns
unfolding name_wrong
returns c = ap not (every_from_all (λ k. names_fit c.args.rows.now (scope_table k)) _ _ _ _ c.all.ensures.ran refl (omega (arith, c.procedures.ensures)) (λ x b q k. search (rules, tests, scope_names)))
