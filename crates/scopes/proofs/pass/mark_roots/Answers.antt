use mathlib.Core.Path.{ap₂, ◌∙◌}
use mathlib.Core.List.Memᴰ.{append_left as in_left}
use mathlib.Core.List.Memᴰ.{append_right as in_right}
use mathlib.Core.List.{List, ◌++◌}
use Prim.Native.Nat.{ℕ}
use native.Mathlib.Numerals.{add-one}
use native.Mathlib.Omega.{arith}
use Rattle.scopes.proofs.Marking.{marked_more, used_roots, roots_within}
use Rattle.scopes.proofs.pass.mark_roots.Goals as goal

pub mark_all-requires : goal.mark_all-requires
mark_all-requires c = roots_within c.requires.ready c.loop-r.r (omega (arith, c.instructions-instructions.ensures.count)) (omega (arith, c.loop-r.invariant.long)) (c.evaluated.ensures ∙ c.instruction_row-row.ensures.evaluated) (λ x i. in_left _ i)

pub mark_all-requires-in-loop-r : goal.mark_all-requires-in-loop-r
mark_all-requires-in-loop-r c = roots_within c.requires.ready c.loop-r.r (omega (arith, c.instructions-instructions.ensures.count)) (omega (arith, c.mark_all.auto.scopes, c.loop-r.invariant.long)) (c.yoke_set.ensures ∙ c.instruction_row-row.ensures.yoke) (λ x i. in_right _ i)

pub loop-r-preserved : goal.loop-r-preserved
loop-r-preserved c = used_roots c.args.rows.now c.requires.ready.refers c.loop-r.r _ (omega arith) (omega (arith, c.instructions-instructions.ensures.count)) c.loop-r.invariant (add-one c.loop-r.r) (c.requires.instruction_scopes.each c.loop-r.r) (ap₂ (λ (a b : List ℕ). a ++ b) (c.evaluated.ensures ∙ c.instruction_row-row.ensures.evaluated) (c.yoke_set.ensures ∙ c.instruction_row-row.ensures.yoke)) (marked_more c.mark_all.ensures c.mark_all-in-loop-r.ensures)
