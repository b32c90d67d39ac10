-- What the type check found at an instruction row, and what its expression or its yoke then gives: the erased run's assignments, yoke changes
-- and readings are the definition's. Assumes nothing.
use mathlib.Core.Path.{◌≡◌, refl, sym, ap, ◌∙◌, subst}
use mathlib.Core.Bool.{Bool, true, false}
use mathlib.Core.List.{List, []}
use Prim.Native.Nat.{ℕ, suc, ◌*◌, ◌≤◌, ◌<◌}
use native.Mathlib.Omega.{arith}
use lib.IntN.{ℤ}
use lib.ListN.{length, get_or, set}
use Rattle.lingua.specs.Numbers.{declaration_section, expression_section, scope_table}
use Rattle.lingua.specs.Outcome.{ok, Result, ◌>>=◌, ◌>>◌}
use Rattle.lingua.specs.Body.{is_hundredths, is_quantity, size}
use Rattle.lingua.specs.Value.{Value, in_range_of, quantity_body, Composite, composite}
use Rattle.lingua.specs.Expression.{Instruction}
use Rattle.lingua.specs.Evaluation.{eval, no_current}
use Rattle.lingua.specs.Rows.{pair_count, table_count}
use Rattle.lingua.specs.Refusal.{is_quantity_variable}
use Rattle.lingua.specs.Store.{Variable, variable_at, present_body, contents, reading_value, with_yoke, assigned, yoke_changed, set_yoke_at}
use Rattle.lingua.specs.Trees.{body_or, declared_body, expression_tree, yoke_tree}
use Rattle.lingua.specs.Run.{Profile, scope_declarations}
use Rattle.lingua.specs.Typing.{scope_bodies, no_current_body}
use Rattle.safety.specs.Accepted.{tree_well_made}
use Rattle.safety.specs.Constants.{ClosedYoke}
use Rattle.safety.specs.Derivation.{DerivedRow}
use Rattle.lingua.specs.Erased.{values_of, eval_erased, yoke_holds_erased}
use Rattle.safety.specs.Erasure.{with_body, eval_erased_lem}
use Rattle.safety.specs.ErasedSteps.{changed_erased_lem}
use Rattle.safety.specs.Invariant.{WellMade}
use Rattle.safety.specs.Layout.{HoldsIn}
use Rattle.cells.specs.Stack.{Leaves}
use Rattle.cells.proofs.Singles.{put_quantity}
use Rattle.run.specs.Reached.{Lent, lent, Settles}
use Rattle.run.specs.Memory.{Admits}
use Rattle.laws.specs.Sound.{quantity_is}
use Rattle.safety.specs.Programs.{present_declared}
use Rattle.run.proofs.Settling.{keeps, stores_as, settles_as}
use Rattle.run.proofs.Storing.{cells_kept, words_changed}
use Rattle.erased_row.specs.Meaning.{Passed, PassedYoke, ReadyPlain, EvaluatesPlain, Running}
use Rattle.erased_store.specs.Meaning.{AssignRow, YokeRow, HasChange, AdmitsYoke, ValueFor}
use Rattle.erased_store.proofs.Values.{value_exact}
use Rattle.erased_store.proofs.Keeping.{yoke_running}
use Rattle.erased_row.proofs.Passing.{sizes, row_passed}
use Rattle.erased.proofs.Yokes.{none_current}

-- ---- what the type check found
-- a number and a count take one cell
quantity_size : (h : Bool) → 1 ≡ size (quantity_body h)
unfolding size
quantity_size true = refl
quantity_size false = refl

module _ {p : Profile} {a : ℕ} {rows : List ℕ} {layout : List ℕ} {limits cells : List ℤ} {states : List ℕ} {vs : List Variable} (w : Running p a rows layout limits (lent cells states []) vs) where
  assign_passed : {n e : ℕ} → AssignRow rows a n e → Passed layout (scope_declarations p a) (expression_tree rows e) no_current_body (scope_bodies p a n)
  unfolding DerivedRow
  assign_passed r = subst (λ (i : Instruction). DerivedRow (HoldsIn layout) (λ k. scope_bodies p (suc k)) (scope_bodies p a) i) r.is (row_passed w r.at r.there r.scope)

  yoke_passed : {n y : ℕ} → YokeRow rows a n y → PassedYoke layout (scope_declarations p a) (yoke_tree rows y) (scope_bodies p a n)
  unfolding DerivedRow
  yoke_passed r = subst (λ (i : Instruction). DerivedRow (HoldsIn layout) (λ k. scope_bodies p (suc k)) (scope_bodies p a) i) r.is (row_passed w r.at r.there r.scope)

  yoke_closed : {n y : ℕ} → YokeRow rows a n y → ClosedYoke (yoke_tree rows y)
  unfolding WellMade
  yoke_closed r = subst (λ (i : Instruction). WellMade i) r.is (tree_well_made rows w.world.accepted r.at r.there)

  -- ---- the variable is there
  pub assign_there : {n e : ℕ} → AssignRow rows a n e → n < length vs
  assign_there r = omega (arith, w.count, r.declared)

  pub yoke_there : {n y : ℕ} → YokeRow rows a n y → n < length vs
  yoke_there r = omega (arith, w.count, r.declared)

  pub own_there : {n : ℕ} → a ≡ 0 → n < pair_count rows declaration_section → n < length vs
  own_there {n} own l = omega (arith, w.count, subst (λ (c : ℕ). n < pair_count rows (scope_table c)) (sym own) l)

  -- ---- what evaluation asks
  pub assign_ready : {n e : ℕ} → AssignRow rows a n e → ReadyPlain rows layout cells states (expression_tree rows e)
  assign_ready {n} r = record { declarations = scope_declarations p a; store = vs; world = w.world; result = scope_bodies p a n; passed = assign_passed r }

  pub change_ready : {n y : ℕ} → YokeRow rows a n y → n < length vs → HasChange rows layout cells states n (yoke_tree rows y)
  change_ready r lt = record { declarations = scope_declarations p a; store = vs; world = w.world; there = lt; passed = yoke_passed r }

  -- ---- an assignment
  module _ {n e : ℕ} (row : AssignRow rows a n e) {r : ℕ} {s : List ℤ} (h : EvaluatesPlain rows layout cells states (expression_tree rows e) r s) where
    leaves : Leaves r s (scope_bodies p a n) (eval_erased (expression_tree rows e) (values_of (contents vs)) no_current.value)
    leaves = h.leaves (scope_declarations p a) vs (scope_bodies p a n) w.world (assign_passed row)

    evaluated : eval (expression_tree rows e) (contents vs) no_current ≡ with_body (scope_bodies p a n) (eval_erased (expression_tree rows e) (values_of (contents vs)) no_current.value)
    evaluated = eval_erased_lem (scope_bodies p a) (contents vs) w.world.fit (expression_tree rows e) no_current (assign_passed row)

    pub not_assigned : (r ≡ 0 → ⊥) → Settles r (Running p a rows layout limits) (lent cells states []) (lent cells states []) (eval (expression_tree rows e) (contents vs) no_current >>= assigned vs n)
    not_assigned f = keeps r f (ap (λ (o : Result Composite). o >>= assigned vs n) (evaluated ∙ ap (λ (o : Result Value). with_body (scope_bodies p a n) o) (leaves.error f)))

    module _ (z : r ≡ 0) where
      -- the value, of the declared body
      pub given : Composite
      given = composite (scope_bodies p a n) (leaves.answer z).value

      given_assigned : assigned vs n given ≡ (eval (expression_tree rows e) (contents vs) no_current >>= assigned vs n)
      unfolding given
      given_assigned = sym (ap (λ (o : Result Composite). o >>= assigned vs n) (evaluated ∙ ap (λ (o : Result Value). with_body (scope_bodies p a n) o) (leaves.answer z).is))

      pub given_value : e < table_count rows expression_section → (width : ℕ) → width ≡ get_or layout (2 * e) 0 → ValueFor (scope_bodies p a n) width s given
      unfolding given
      given_value l width q = value_exact refl (leaves.answer z).lies (q ∙ (sizes w.world e l none_current (assign_passed row)).at) (w.world.small n)

      -- what its store settles, the assignment settles
      pub assigned_settles : {error : ℕ} {after : Lent} → Settles error (Running p a rows layout limits) (lent cells states []) after (assigned vs n given) → Settles error (Running p a rows layout limits) (lent cells states []) after (eval (expression_tree rows e) (contents vs) no_current >>= assigned vs n)
      assigned_settles k = settles_as given_assigned k

  -- ---- a yoke change
  module _ {n y : ℕ} (row : YokeRow rows a n y) (lt : n < length vs) {r : ℕ} (h : AdmitsYoke rows layout cells states n (yoke_tree rows y) r) where
    admits : Admits r (yoke_holds_erased (yoke_tree rows y) (values_of (contents vs)) (values_of (contents vs) n))
    admits = h.admits (scope_declarations p a) vs w.world lt (yoke_passed row)

    change_is : yoke_changed vs n (yoke_tree rows y) ≡ (yoke_holds_erased (yoke_tree rows y) (values_of (contents vs)) (values_of (contents vs) n) >> ok (set vs n (with_yoke (variable_at vs n) (yoke_tree rows y))))
    change_is = changed_erased_lem (HoldsIn layout) (scope_declarations p a) vs w.kept w.world.fit n (yoke_tree rows y) (yoke_passed row)

    pub not_changed : (r ≡ 0 → ⊥) → Settles r (Running p a rows layout limits) (lent cells states []) (lent cells states []) (yoke_changed vs n (yoke_tree rows y))
    not_changed f = keeps r f (change_is ∙ ap (λ (p : Result (Unit {0})). p >> ok (set vs n (with_yoke (variable_at vs n) (yoke_tree rows y)))) (admits.error f))

    pub changed : r ≡ 0 → y ≤ table_count rows expression_section → (words : List ℕ) → words ≡ set_yoke_at states n y → Settles 0 (Running p a rows layout limits) (lent cells states []) (lent cells words []) (yoke_changed vs n (yoke_tree rows y))
    changed z l words q =
        let taken = change_is ∙ ap (λ (p : Result (Unit {0})). p >> ok (set vs n (with_yoke (variable_at vs n) (yoke_tree rows y)))) (admits.answer z) in
        stores_as (set vs n (with_yoke (variable_at vs n) (yoke_tree rows y))) taken
        (yoke_running w n lt (yoke_tree rows y) (record { number = y; there = l; is = refl }) (yoke_closed row) (yoke_passed row) taken
        words (cells_kept vs n (yoke_tree rows y) w.world.cells_are) (q ∙ words_changed rows vs n lt y w.world.states_are))

  -- ---- a reading of one of the profile's own variables: the number lies on the stack
  -- h says whether its type row is that of hundredths
  module _ (n : ℕ) (own : a ≡ 0) (there : n < pair_count rows declaration_section) (h : Bool) (kind : h ≡ is_hundredths (body_or (declared_body rows n))) where
    own_scope_body : scope_bodies p a n ≡ body_or (declared_body rows n)
    own_scope_body = ap (λ (c : ℕ). scope_bodies p c n) own ∙ w.own_bodies own n there

    pub counts_as : h ≡ is_hundredths (present_body (variable_at vs n))
    counts_as = kind ∙ sym (ap is_hundredths (present_declared (scope_declarations p a) vs w.kept w.world.fit n ∙ own_scope_body))

    reading_body : is_quantity_variable rows n ≡ true → quantity_body h ≡ scope_bodies p a n
    reading_body v =
        ap quantity_body (kind ∙ ap is_hundredths (sym own_scope_body))
        ∙ quantity_is (scope_bodies p a n) (ap (λ (c : ℕ). is_quantity (scope_bodies p c n)) own ∙ w.quantity_variables own n v)

    pub reading_lies : is_quantity_variable rows n ≡ true → (s : List ℤ) (z y : ℤ) (b : Bool) → y ≡ z → b ≡ in_range_of h z → b ≡ true → 0 < length s
        → ValueFor (scope_bodies p a n) 1 (set s 0 y) (reading_value h z)
    reading_lies v s z y b k q e l =
        subst (λ (u : ℤ). ValueFor (scope_bodies p a n) 1 (set s 0 u) (reading_value h z)) (sym k)
        (value_exact (reading_body v) (put_quantity h s z l (sym q ∙ e)) (quantity_size h) (w.world.small n))
