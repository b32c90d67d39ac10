-- `references_wrong` meets its contract: each call is asked. Assumes nothing.
use Rattle.std.proofs.Common.{rules, refl, ap, not}
use borrow.Author.Tests.{tests}
use Rattle.lingua.specs.Trees.{given_references}
use Rattle.lingua.specs.Rows.{instruction_row}
use Rattle.lingua.specs.References.{on_call, references_wrong, all_different}
use Rattle.laws.specs.Chains.{every_from_all}
use Rattle.rules.proofs.repeats.references_wrong.Goals as goal

pub returns : goal.returns
unfolding references_wrong
returns c = ap not (every_from_all (λ r. on_call (instruction_row c.args.rows.now r) (λ k v w. all_different (given_references c.args.rows.now k w))) _ _ _ _ c.all.ensures.ran refl c.instructions-instructions.ensures.count (λ x b q k. search (rules, tests)))
