-- `handlers_fit` meets its contract. Assumes nothing.
use Rattle.std.proofs.Common.{rules, refl}
use borrow.Author.Tests.{tests}
use Rattle.lingua.specs.Errors.{is_error}
use Rattle.lingua.specs.Value.{all_of}
use Rattle.lingua.specs.Rows.{instruction_row}
use Rattle.lingua.specs.Rules.{handled_errors}
use Rattle.laws.specs.Chains.{every_from_all}
use Rattle.row_rules.proofs.constants.handlers_fit.Goals as goal

pub returns : goal.returns
returns c = every_from_all (λ k. all_of is_error (handled_errors (instruction_row c.args.rows.now k))) _ _ _ _ c.all.ensures.ran refl c.instructions-instructions.ensures.count (λ x b q k. search (rules, tests))
