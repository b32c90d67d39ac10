-- What the type check found at a row with a test, and what its expression then gives: the erased run's tests are the definition's. Assumes nothing.
use mathlib.Core.Path.{sym, subst}
use mathlib.Core.Bool.{Bool}
use mathlib.Core.List.{List, []}
use Prim.Native.Nat.{ℕ, suc}
use lib.IntN.{ℤ}
use Rattle.lingua.specs.Outcome.{Result}
use Rattle.lingua.specs.Body.{boolean}
use Rattle.lingua.specs.Value.{Value}
use Rattle.lingua.specs.Expression.{Expression, Instruction, skip, assign, set_yoke, sequence, branch, loop, handle, call}
use Rattle.lingua.specs.Evaluation.{eval_test}
use Rattle.lingua.specs.Store.{Variable, contents}
use Rattle.lingua.specs.Run.{Profile, scope_declarations}
use Rattle.lingua.specs.Trees.{expression_tree, instruction_tree}
use Rattle.lingua.specs.Typing.{Bodies, scope_bodies, no_current_body}
use Rattle.safety.specs.Derivation.{Derived, DerivedRow}
use Rattle.lingua.specs.Erased.{test_erased}
use Rattle.safety.specs.ErasedSteps.{test_erased_lem}
use Rattle.safety.specs.Layout.{HoldsIn}
use Rattle.cells.specs.Stack.{Leaves}
use Rattle.std.specs.Prelude as std
use Rattle.lingua.specs.declared.errors.Error.{Error}
use Rattle.run.specs.Reached.{lent, Tells}
use Rattle.erased_row.specs.Meaning.{Passed, ReadyPlain, EvaluatesPlain, Running, Tests, TestRow}
use Rattle.erased_row.proofs.Passing.{row_passed}
use Rattle.erased_row.proofs.Telling.{truth_in}

-- ---- what the type check found
tested : {layout : List ℕ} {vars : Bodies} (procs : ℕ → Bodies) (i : Instruction) (e : Expression) → Tests i e → DerivedRow (HoldsIn layout) procs vars i → Derived (HoldsIn layout) vars e no_current_body boolean
unfolding Tests DerivedRow
tested procs (skip r) e q d = absurd q
tested procs (assign r n f) e q d = absurd q
tested procs (set_yoke r n y) e q d = absurd q
tested procs (sequence r i j) e q d = absurd q
tested {layout} {vars} procs (branch r f i j) e q d = subst (λ (g : Expression). Derived (HoldsIn layout) vars g no_current_body boolean) q d
tested {layout} {vars} procs (loop r f i) e q d = subst (λ (g : Expression). Derived (HoldsIn layout) vars g no_current_body boolean) q d
tested procs (handle r n i) e q d = absurd q
tested procs (call r k vs rs) e q d = absurd q

module _ {p : Profile} {a : ℕ} {rows : List ℕ} {layout : List ℕ} {limits cells : List ℤ} {states : List ℕ} {vs : List Variable} (w : Running p a rows layout limits (lent cells states []) vs) where
  test_passed : {e : ℕ} → TestRow rows a e → Passed layout (scope_declarations p a) (expression_tree rows e) no_current_body boolean
  test_passed {e} r = tested (λ k. scope_bodies p (suc k)) (instruction_tree rows r.at) (expression_tree rows e) r.is (row_passed w r.at r.there r.scope)

  pub test_ready : {e : ℕ} → TestRow rows a e → ReadyPlain rows layout cells states (expression_tree rows e)
  test_ready r = record { declarations = scope_declarations p a; store = vs; world = w.world; result = boolean; passed = test_passed r }

  pub test_told : {e : ℕ} → TestRow rows a e → {m : ℕ} {s : List ℤ} (r : std.Result Bool Error) → EvaluatesPlain rows layout cells states (expression_tree rows e) m s → ((o : Result Value) → Leaves m s boolean o → Tells r (truth_in o)) → Tells r (eval_test (expression_tree rows e) (contents vs))
  unfolding test_erased
  test_told {e} row r h f =
      subst (λ (o : Result Bool). Tells r o) (sym (test_erased_lem (HoldsIn layout) (scope_declarations p a) vs w.kept w.world.fit (expression_tree rows e) (test_passed row)))
      (f _ (h.leaves (scope_declarations p a) vs boolean w.world (test_passed row)))
