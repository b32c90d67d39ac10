-- `note_declared` meets its contract: each declaration's yoke is noted. Assumes nothing.
use Rattle.lingua.specs.Numbers.{scope_table}
use Rattle.rules.proofs.Refers.{yoke_in_lem}
use Rattle.rules.proofs.Usage.{roots_from, yoke_of}
use Rattle.std.proofs.Common.{rules}
use borrow.Author.Tests.{tests}
use Rattle.rules.proofs.uses.note_declared.Goals as goal

pub returns : goal.returns
returns c = λ xs h. roots_from c.args.rows.now xs c.args.s c.scope-own.result c.scope-own.ensures (c.note_named.ensures _ (record { each = λ d x l p. rw (yoke_in_lem c.args.rows.now (scope_table c.args.s) c.scope-own.result d c.scope-own.ensures, ← c.bytes-bytes.ensures) (search (rules, tests, yoke_of)) }) xs h)
