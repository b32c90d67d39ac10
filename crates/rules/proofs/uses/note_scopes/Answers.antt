use mathlib.Core.Path.{refl}
use mathlib.Core.List.{◌++◌}
use Prim.Native.Nat.{ℕ, suc}
use native.Mathlib.Omega.{arith}
use Rattle.lingua.specs.Rows.{procedure_count}
use Rattle.lingua.specs.Trees.{tabulate}
use Rattle.lingua.specs.Typing.{joined}
use Rattle.lingua.specs.References.{declared_roots}
use Rattle.rules.proofs.Usage.{turn_none, turn_more, turn_all}
use Rattle.rules.proofs.uses.note_scopes.Goals as goal

pub loop-s-init : goal.loop-s-init
loop-s-init c = λ xs h. turn_none (λ (k : ℕ). declared_roots c.args.rows.now k) c.args.uses.now xs h

pub loop-s-preserved : goal.loop-s-preserved
loop-s-preserved c = λ xs h. turn_more (λ (k : ℕ). declared_roots c.args.rows.now k) c.note_declared.new.uses xs c.loop-s.s _ refl (c.note_declared.ensures (xs ++ joined (tabulate c.loop-s.s (λ (k : ℕ). declared_roots c.args.rows.now k))) (c.loop-s.invariant xs h))

pub returns : goal.returns
returns c = λ xs h. turn_all (λ (k : ℕ). declared_roots c.args.rows.now k) c.loop-s.uses xs c.loop-s.s (suc (procedure_count c.args.rows.now)) (omega (arith, c.procedures-s-end.ensures)) (c.loop-s.invariant xs h)
