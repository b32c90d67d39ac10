-- `names_fit` meets its contract. Assumes nothing.
use Rattle.std.proofs.Common.{rules, refl, sym, ◌∙◌, ◌&&◌, ◌+◌, ◌*◌}
use borrow.Author.Tests.{tests}
use Rattle.lingua.specs.Rows.{bytes_at}
use Rattle.lingua.specs.Rules.{is_name, is_new}
use Rattle.laws.specs.Chains.{every_from_all}
use Rattle.row_rules.proofs.Forms.{names_from}
use Rattle.row_rules.proofs.names.names_fit.Goals as goal

pub returns : goal.returns
returns c = every_from_all (λ k. is_name (bytes_at c.args.rows.now (c.args.t.start + 2 * k)) && is_new c.args.rows.now c.args.t.section k) _ _ _ _ c.all.ensures.ran refl refl (λ x b q k. search (rules, tests)) ∙ sym (names_from c.args.rows.now c.args.t c.requires)
