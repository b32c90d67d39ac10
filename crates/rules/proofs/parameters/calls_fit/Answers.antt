-- `calls_fit` meets its contract: each call is asked. Assumes nothing.
use Rattle.std.proofs.Common.{rules, refl, ◌&&◌, eqb}
use borrow.Author.Tests.{tests}
use Rattle.lingua.specs.Rows.{instruction_row, value_count, reference_count}
use Rattle.lingua.specs.References.{on_call, bits_above}
use Rattle.laws.specs.Chains.{every_from_all}
use Rattle.rules.proofs.parameters.calls_fit.Goals as goal

pub returns : goal.returns
returns c = every_from_all (λ r. on_call (instruction_row c.args.rows.now r) (λ k v w. eqb (bits_above (value_count c.args.rows.now k) v) 0 && eqb (bits_above (reference_count c.args.rows.now k) w) 0)) _ _ _ _ c.all.ensures.ran refl c.instructions-instructions.ensures.count (λ x b q k. search (rules, tests))
