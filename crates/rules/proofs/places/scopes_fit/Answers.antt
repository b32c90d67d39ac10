use Rattle.std.proofs.Common.{rules, refl, arith, not, true}
use borrow.Author.Tests.{tests}
use Rattle.lingua.specs.Value.{all_of}
use Rattle.lingua.specs.Trees.{expression_tree}
use Rattle.lingua.specs.References.{declared_roots}
use Rattle.decoder.specs.Reads.{reads}
use Rattle.laws.specs.Chains.{every_from_all}
use Rattle.rules.proofs.places.scopes_fit.Goals as goal

pub returns : goal.returns
returns c = every_from_all (λ k. all_of (λ r. not (reads true (expression_tree c.args.rows.now r))) (declared_roots c.args.rows.now k)) _ _ _ _ c.all.ensures.ran refl (omega (arith, c.procedures.ensures)) (λ x b q k. search (rules, tests))
