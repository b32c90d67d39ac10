-- `typecheck::whole::check_scopes` meets its contract: the scopes before s passed, their entries are in the layout table (`Done`), and the
-- next place is behind theirs. Assumes nothing.
use mathlib.Core.Path.{◌≡◌}
use Prim.Native.Nat.{suc, ◌+◌}
use Rattle.lingua.specs.Numbers.{declaration_place}
use Rattle.lingua.specs.Rows.{procedure_count}
use Rattle.typecheck.specs.Verdicts.{before, scope_check}
use Rattle.typecheck.proofs.Settling.{Done}
use Rattle.typecheck.proofs.whole.check_scopes.Given as goal

abbrev pub invariant-loop-s : goal.invariant-loop-s
invariant-loop-s l =
    (l.first ≡ declaration_place + before l.rows l.s) × Done (scope_check l.rows) (suc (procedure_count l.rows)) l.s l.initial.layout l.layout
