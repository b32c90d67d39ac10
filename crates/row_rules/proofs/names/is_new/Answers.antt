-- `is_new` meets its contract. Assumes nothing.
use Rattle.std.proofs.Common.{rules, refl, sym, ◌∙◌, not, ◌+◌, ◌*◌}
use borrow.Author.Tests.{tests}
use Rattle.lingua.specs.Compute.{same_text}
use Rattle.lingua.specs.Rows.{bytes_at}
use Rattle.laws.specs.Chains.{every_from_all}
use Rattle.row_rules.proofs.Forms.{new_from}
use Rattle.row_rules.proofs.names.is_new.Goals as goal

pub returns : goal.returns
returns c = every_from_all (λ k. not (same_text (bytes_at c.args.rows.now (c.args.t.start + 2 * k)) (bytes_at c.args.rows.now (c.args.t.start + 2 * c.args.d)))) _ _ _ _ c.all.ensures.ran refl refl (λ x b q k. search (rules, tests)) ∙ sym (new_from c.args.rows.now c.args.t.section c.args.t c.args.d c.requires.table)
