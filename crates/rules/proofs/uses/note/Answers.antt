-- `note` meets its contract: a first use is counted 1, each further one 2. Assumes nothing.
use Rattle.rules.proofs.Usage.{counted_out, counted_first, counted_next}
use Rattle.rules.proofs.uses.note.Goals as goal

pub returns-then-used-eq0 : goal.returns-then-used-eq0
returns-then-used-eq0 c = λ xs h. counted_first c.args.uses.now xs c.args.x c.if-x-lt-MOST_EXPRESSIONS.true c.if-used-eq0.true h

pub returns-else-used-eq0 : goal.returns-else-used-eq0
returns-else-used-eq0 c = λ xs h. counted_next c.args.uses.now xs c.args.x c.if-x-lt-MOST_EXPRESSIONS.true c.if-used-eq0.false h

pub returns-else-x-lt-MOST_EXPRESSIONS : goal.returns-else-x-lt-MOST_EXPRESSIONS
returns-else-x-lt-MOST_EXPRESSIONS c = λ xs h. counted_out c.args.uses.now xs c.args.x c.if-x-lt-MOST_EXPRESSIONS.false h
