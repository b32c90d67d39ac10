-- `typecheck::verdicts::check_yoke` meets its contract: no yoke asks nothing, another's expression is judged by whether it is Boolean.
-- Assumes nothing.
use borrow.Author.Rules.{rules}
use mathlib.Core.Option.{some}
use native.Mathlib.Omega.{arith}
use Rattle.lingua.specs.Typing.{check_yoke}
use Rattle.typecheck.proofs.Settling.{judges_by, no_yoke, yoke_row, yoke_reads}
use Rattle.typecheck.proofs.verdicts.check_yoke.Goals as goal

pub returns-then-yoke-eq0 : goal.returns-then-yoke-eq0
returns-then-yoke-eq0 c = λ b h. no_yoke c.args.scope.now.rows.now c.args.yoke _ b _ _ c.if-yoke-eq0.true

pub check-x-requires : goal.check-x-requires
check-x-requires c = record { sees = c.requires.sees; here = omega (arith, c.requires.here, c.if-yoke-eq0.false); reads = yoke_reads c.args.scope.now c.args.yoke c.if-yoke-eq0.false c.requires.closed; held = record { body = some c.requires.held.body; holds = c.requires.held.holds }; room = c.requires.room }

pub returns : goal.returns
unfolding check_yoke
returns c = λ b h. rw (yoke_row c.args.scope.now.rows.now c.args.yoke c.if-yoke-eq0.false) (c.judge.ensures _ _ _ _ (judges_by _ _ _ _ _ _ (c.check-x.ensures (some b) h) c.map.ensures.cases (λ y r t e k. search rules)))
