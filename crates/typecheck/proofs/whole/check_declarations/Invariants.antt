-- `typecheck::whole::check_declarations` meets its contract: those before d passed, and their entries are in the layout table (`Done`). Assumes nothing.
use Prim.Native.Nat.{◌+◌}
use Rattle.lingua.specs.Rows.{pair_count}
use Rattle.typecheck.specs.Verdicts.{declaration_check}
use Rattle.typecheck.proofs.Settling.{Done}
use Rattle.typecheck.proofs.whole.check_declarations.Given as goal

abbrev pub invariant-loop-d : goal.invariant-loop-d
invariant-loop-d l = Done (λ d. declaration_check l.own.rows.now l.t.section d (l.first + d)) (pair_count l.own.rows.now l.t.section) l.d l.initial.layout l.layout
