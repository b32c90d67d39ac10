-- Evaluation of a row by its kind: what its operands give makes what the row gives. Assumes nothing.
use mathlib.Core.Path.{◌≡◌, refl, sym, ap, ◌∙◌, subst}
use mathlib.Core.Bool.{Bool, true, false, beq}
use mathlib.Core.List.{List, ◌++◌}
use Prim.Native.Nat.{ℕ, zero, suc, ◌*◌, ◌≤◌, ◌<◌}
use native.Mathlib.Omega.{arith}
use lib.ListN.{length, take, drop, get_or}
use lib.IntN.{ℤ}
use Rattle.lingua.specs.Numbers.{body_cells, most_variables, expression_section}
use Rattle.lingua.specs.Errors.{not_filled}
use Rattle.std.specs.Prelude.{if◌then◌else◌}
use Rattle.lingua.specs.Outcome.{ok, fail, Result, or_fail, ◌>>=◌}
use Rattle.lingua.specs.Body.{Body, boolean, size}
use Rattle.lingua.specs.Value.{Value, truth, as_truth}
use Rattle.lingua.specs.Operation.{Unary, Binary}
use Rattle.lingua.specs.Compute.{unary_value, binary_value}
use Rattle.lingua.specs.Expression.{Expression, constant, variable, current, unary, binary, lazy, choice, settled_by}
use Rattle.lingua.specs.Rows.{table_count}
use Rattle.lingua.specs.Run.{Declaration}
use Rattle.lingua.specs.Store.{Variable, contents}
use Rattle.lingua.specs.Trees.{expression_tree, expression_scope}
use Rattle.lingua.specs.Typing.{Bodies, bodies_of}
use Rattle.lingua.specs.Erased.{values_of, eval_erased}
use Rattle.laws.specs.Scopes.{use_at_most}
use Rattle.safety.specs.Accepted.{few_variables}
use Rattle.decoder.specs.declared.decode.ExpressionRow.{ExpressionRow as CodeRow}
use Rattle.decoder.specs.declared.decode.ExpressionRow.TheVariants as code
use Rattle.decoder.specs.Decoded.{connective}
use Rattle.profile.specs.Row.{constant_of, RowSays}
use Rattle.profile.specs.Facts.{RowFacts, row_facts, row_tree, row_tree_lem, says_as, settled_by_lem}
use Rattle.cells.specs.Stack.{Leaves}
use Rattle.cells.proofs.Operands.{leaves_as}
use Rattle.run.specs.Memory.{Memory}
use Rattle.erased_row.specs.Meaning.{World, Current, Passed, Ready, Evaluates, HasVariable, HasCurrent, UnaryRow, HasUnary, BinaryRow, HasBinary}
use Rattle.erased_row.proofs.Leaving.{leaves_ok, leaves_fail, leaves_from}
use Rattle.erased_row.proofs.Telling.{truth_in, truth_is}
use Rattle.erased_row.proofs.Passing.{PassedUnary, PassedBinary, constant_passed, variable_passed, current_passed, unary_passed, binary_passed, lazy_passed, choice_passed, sizes}
use Rattle.erased_row.proofs.Stacking.{first_stays, second_lies}

pub memory_of : {rows : List ℕ} {layout : List ℕ} {cells : List ℤ} {states : List ℕ} {ds : List Declaration} {vs : List Variable} → World rows layout cells states ds vs → Memory cells states vs (bodies_of ds)
memory_of w = record { cells_are = w.cells_are; states_are = w.states_are; few = w.few; small = λ n l. w.small n; fit = w.fit }

-- what a row with code row d means
pub record Meant (rows layout : List ℕ) (cells : List ℤ) (states : List ℕ) (now : List ℤ) (row : ℕ) (d : CodeRow) : Type 0 where
  pub facts : RowFacts rows row d
  pub ready : Ready rows layout cells states now (row_tree rows row d)
  pub evaluates : (n : ℕ) (s : List ℤ) → Evaluates rows layout cells states now (row_tree rows row d) n s → Evaluates rows layout cells states now (expression_tree rows row) n s

-- the results of two operands, the second 64 cells further up the stack
pub record Placed (rows layout : List ℕ) (cells : List ℤ) (states : List ℕ) (now : List ℤ) (a b n m : ℕ) (stack : List ℤ) : Type 0 where
  pub first : Evaluates rows layout cells states now (expression_tree rows a) n stack
  pub second : Evaluates rows layout cells states now (expression_tree rows b) m (drop body_cells stack)

module _ {rows : List ℕ} {layout : List ℕ} {cells : List ℤ} {states : List ℕ} {now : List ℤ} where
  -- ---- what a row says: which rows it names, what is asked of its tree, and that what this gives the row's expression gives
  module _ {row : ℕ} (r : Ready rows layout cells states now (expression_tree rows row)) (l : row < table_count rows expression_section) {d e : CodeRow} (q : d ≡ e) (h : RowSays rows row d) where
    pub meant : Meant rows layout cells states now row e
    meant =
        let s = says_as q h in
        let f = row_facts rows r.world.accepted row l e s in
        let t = row_tree_lem rows row e s f in
        record {
          facts = f;
          ready = subst (λ (k : Expression). Ready rows layout cells states now k) t r;
          evaluates = λ n s k. subst (λ (e : Expression). Evaluates rows layout cells states now e n s) (sym t) k;
        }

    -- a variable's number is below 16, whichever scope the row is of
    pub variable_few : {n : ℕ} → e ≡ code.Variable n → n < most_variables
    unfolding RowFacts
    variable_few q = omega (arith, subst (λ (k : CodeRow). RowFacts rows row k) q meant.facts, few_variables rows r.world.accepted (expression_scope rows row) (use_at_most rows row))

  -- an operand on the same current value
  ready_with : {e f : Expression} {c : Body} (r : Ready rows layout cells states now e) → Passed layout r.declarations f r.body c → Ready rows layout cells states now f
  ready_with {c = c} r p = record { declarations = r.declarations; store = r.store; world = r.world; body = r.body; value = r.value; is = r.is; result = c; passed = p }

  operand_leaves : {e f : Expression} {c : Body} {n : ℕ} {s : List ℤ} (r : Ready rows layout cells states now e) → Evaluates rows layout cells states now f n s → Passed layout r.declarations f r.body c
      → Leaves n s c (eval_erased f (values_of (contents r.store)) r.value)
  operand_leaves {c = c} r h p = h.leaves r.declarations r.store r.body c r.value r.world r.is p

  -- ---- leaves
  pub constant_evaluates : {row n : ℕ} {s : List ℤ} → Leaves n s (constant_of rows row).body (ok (constant_of rows row).value) → Evaluates rows layout cells states now (constant row (constant_of rows row)) n s
  unfolding eval_erased
  constant_evaluates h = record { leaves = λ ds vs cur b x w k d. leaves_as (sym (constant_passed d)) h }

  pub has_variable : {row n : ℕ} → Ready rows layout cells states now (variable row n) → n < most_variables → HasVariable cells states n (get_or layout (2 * row) 0)
  has_variable r l =
      let p = variable_passed r.passed in
      record { store = r.store; bodies = bodies_of r.declarations; memory = memory_of r.world; few = l; size_is = p.1 ∙ ap size (sym p.0) }

  pub variable_evaluates : {row n m : ℕ} {s : List ℤ}
      → ((vs : List Variable) (vars : Bodies) → Memory cells states vs vars → get_or layout (2 * row) 0 ≡ size (vars n) → Leaves m s (vars n) (or_fail (values_of (contents vs) n) not_filled))
      → Evaluates rows layout cells states now (variable row n) m s
  unfolding eval_erased
  variable_evaluates f = record { leaves = λ ds vs cur b x w k d. let p = variable_passed d in leaves_as (sym p.0) (f vs (bodies_of ds) (memory_of w) (p.1 ∙ ap size (sym p.0))) }

  pub has_current : {row : ℕ} → Ready rows layout cells states now (current row) → HasCurrent now (get_or layout (2 * row) 0)
  has_current r =
      let p = current_passed r.passed in
      record { body = r.body; value = r.value; is = r.is; size_is = p.1 ∙ ap size (sym p.0) }

  pub current_evaluates : {row m : ℕ} {s : List ℤ} → ((b : Body) (x : Value) → Current now b x → get_or layout (2 * row) 0 ≡ size b → Leaves m s b (ok x)) → Evaluates rows layout cells states now (current row) m s
  unfolding eval_erased
  current_evaluates f = record { leaves = λ ds vs cur b x w k d. let p = current_passed d in leaves_as (sym p.0) (f cur x k (p.1 ∙ ap size (sym p.0))) }

  -- ---- one operand
  module _ {row a : ℕ} (l : row < table_count rows expression_section) (la : a < row) where
    unary_numbers : {o : Unary} {ds : List Declaration} {vs : List Variable} {cur b : Body} {x : Value} → World rows layout cells states ds vs → Current now cur x → (u : PassedUnary layout (bodies_of ds) row o (expression_tree rows a) cur b) → UnaryRow layout o row a u.operand b
    unary_numbers w h u =
        let z = sizes w a (omega arith) h u.passed in
        record { half = u.half; operand_at = z.at; result_at = u.holds.size_at; second_at = u.holds.second_at; small = z.small }

    pub unary_ready : {o : Unary} → Ready rows layout cells states now (unary row o (expression_tree rows a)) → Ready rows layout cells states now (expression_tree rows a)
    unary_ready r = ready_with r (unary_passed r.passed).passed

    pub has_unary : {o : Unary} {n : ℕ} {s : List ℤ} → Ready rows layout cells states now (unary row o (expression_tree rows a)) → Evaluates rows layout cells states now (expression_tree rows a) n s → HasUnary layout o row a n s
    has_unary r h =
        let u = unary_passed r.passed in
        record { operand = u.operand; given = r.result; numbers = unary_numbers r.world r.is u; outcome = _; leaves = operand_leaves r h u.passed }

    pub unary_evaluates : {o : Unary} {n m : ℕ} {s after : List ℤ} → Evaluates rows layout cells states now (expression_tree rows a) n s
        → ((c b : Body) (p : Result Value) → UnaryRow layout o row a c b → Leaves n s c p → Leaves m after b (p >>= λ x. unary_value o x))
        → Evaluates rows layout cells states now (unary row o (expression_tree rows a)) m after
    unfolding eval_erased
    unary_evaluates h f = record { leaves = λ ds vs cur b x w k d. let u = unary_passed d in f u.operand b _ (unary_numbers w k u) (h.leaves ds vs cur u.operand x w k u.passed) }

  -- ---- two operands
  module _ {row a b : ℕ} (l : row < table_count rows expression_section) (la : a < row) (lb : b < row) where
    binary_numbers : {o : Binary} {ds : List Declaration} {vs : List Variable} {cur g : Body} {x : Value} → World rows layout cells states ds vs → Current now cur x → (u : PassedBinary layout (bodies_of ds) row o (expression_tree rows a) (expression_tree rows b) cur g) → BinaryRow layout o row a b u.operand u.other g
    binary_numbers w h u =
        let z = sizes w a (omega arith) h u.passed in
        let y = sizes w b (omega arith) h u.passed_other in
        record { half = u.half; first_at = z.at; other_at = y.at; second_at = u.holds.second_at; small = z.small; small_other = y.small }

    pub binary_first : {o : Binary} → Ready rows layout cells states now (binary row o (expression_tree rows a) (expression_tree rows b)) → Ready rows layout cells states now (expression_tree rows a)
    binary_first r = ready_with r (binary_passed r.passed).passed

    pub binary_second_lem : {o : Binary} → Ready rows layout cells states now (binary row o (expression_tree rows a) (expression_tree rows b)) → Ready rows layout cells states now (expression_tree rows b)
    binary_second_lem r = ready_with r (binary_passed r.passed).passed_other

    -- the first operand stays, whatever was evaluated above it
    pub placed : (s above rest : List ℤ) → body_cells ≤ length s → {n m i : ℕ} {stack : List ℤ} → Evaluates rows layout cells states now (expression_tree rows a) n s → Evaluates rows layout cells states now (expression_tree rows b) m above
        → i ≡ m → stack ≡ take body_cells s ++ (above ++ rest) → Placed rows layout cells states now a b n i stack
    placed s above rest long {n} {m} {stack = stack} h k p q =
        subst (λ (j : ℕ). Placed rows layout cells states now a b n j stack) (sym p)
        (subst (λ (z : List ℤ). Placed rows layout cells states now a b n m z) (sym q)
        (record {
          first = record { leaves = λ ds vs cur g x w c d. first_stays above rest (sizes w a (omega arith) c d).small long (h.leaves ds vs cur g x w c d) };
          second = record { leaves = λ ds vs cur g x w c d. second_lies s above rest long (k.leaves ds vs cur g x w c d) };
        }))

    pub has_binary : {o : Binary} {n m : ℕ} {s : List ℤ} → Placed rows layout cells states now a b n m s → Ready rows layout cells states now (binary row o (expression_tree rows a) (expression_tree rows b)) → HasBinary layout o row a b n m s
    has_binary h r =
        let u = binary_passed r.passed in
        record {
          operand = u.operand;
          other = u.other;
          given = r.result;
          numbers = binary_numbers r.world r.is u;
          outcome = _;
          leaves = operand_leaves r h.first u.passed;
          other_outcome = _;
          other_leaves = operand_leaves r h.second u.passed_other;
        }

    pub binary_evaluates : {o : Binary} {n m i : ℕ} {s after : List ℤ} → Placed rows layout cells states now a b n m s
        → ((c d g : Body) (p q : Result Value) → BinaryRow layout o row a b c d g → Leaves n s c p → Leaves m (drop body_cells s) d q → Leaves i after g (p >>= λ x. q >>= λ y. binary_value o x y))
        → Evaluates rows layout cells states now (binary row o (expression_tree rows a) (expression_tree rows b)) i after
    unfolding eval_erased
    binary_evaluates h f = record {
      leaves = λ ds vs cur g x w c d.
          let u = binary_passed d in
          f u.operand u.other g _ _ (binary_numbers w c u) (h.first.leaves ds vs cur u.operand x w c u.passed) (h.second.leaves ds vs cur u.other x w c u.passed_other);
    }

-- ---- tests
tested : {A : Type 0} (o : Result Value) (g : Bool → Result A) → (o >>= λ x. g (as_truth x)) ≡ (truth_in o >>= g)
tested (ok x) g = refl
tested (fail n) g = refl

-- where a Boolean was told, there was no error
passed_zero : {s : List ℤ} {o : Result Value} (n : ℕ) (p : Bool) → Leaves n s boolean o → ok p ≡ truth_in o → n ≡ 0
passed_zero zero p h g = refl
passed_zero {s} {o} (suc k) p h g =
    let q : ◌≡◌ {A = Result Bool} (fail (suc k)) (ok p) = ap (λ (r : Result Value). truth_in r) (sym (h.error (λ z. let i : ⊥ = omega arith in i))) ∙ sym g in
    let z : ◌≡◌ {A = ℕ} 0 1 = cc in
    absurd (let i : ⊥ = omega arith in i)

-- a Boolean that was told is the value
told_value : {n : ℕ} {s : List ℤ} {o : Result Value} (p : Bool) → Leaves n s boolean o → ok p ≡ truth_in o → Leaves 0 s boolean (ok (truth p))
told_value {n} {s} {o} p h g =
    let a = h.answer (passed_zero n p h g) in
    let q : ◌≡◌ {A = Result Bool} (ok (as_truth a.value)) (ok p) = ap (λ (r : Result Value). truth_in r) (sym a.is) ∙ sym g in
    let r : as_truth a.value ≡ p = cc in
    leaves_ok a.value refl (ap {B = Result Value} (λ (t : Bool). ok (truth t)) (sym r) ∙ ap {B = Result Value} ok (truth_is a.lies.fit)) a.lies

-- a Boolean's truth is the value
as_truth_lem : {n : ℕ} {s : List ℤ} {o : Result Value} → Leaves n s boolean o → Leaves n s boolean (o >>= λ y. ok (truth (as_truth y)))
as_truth_lem {o = o} h = record {
  answer = λ z.
      let a = h.answer z in
      record { value = a.value; is = ap {B = Result Value} (λ (r : Result Value). r >>= λ y. ok (truth (as_truth y))) a.is ∙ ap {B = Result Value} ok (truth_is a.lies.fit); lies = a.lies };
  error = λ f. ap {B = Result Value} (λ (r : Result Value). r >>= λ y. ok (truth (as_truth y))) (h.error f);
}

module _ {rows : List ℕ} {layout : List ℕ} {cells : List ℤ} {states : List ℕ} {now : List ℤ} (row : ℕ) where
  -- ---- lazy
  module _ (settling : Bool) (e f : Expression) where
    pub lazy_first : Ready rows layout cells states now (lazy row (connective settling) e f) → Ready rows layout cells states now e
    lazy_first r = ready_with r (lazy_passed r.passed).first

    pub lazy_next : Ready rows layout cells states now (lazy row (connective settling) e f) → Ready rows layout cells states now f
    lazy_next r = ready_with r (lazy_passed r.passed).second

    module _ {n : ℕ} {s : List ℤ} (h : Evaluates rows layout cells states now e n s) where
      rest : Result Value → Bool → Result Value
      rest q b = if beq b (settled_by (connective settling)) then ok (truth b) else (q >>= λ y. ok (truth (as_truth y)))

      lazy_is : (vs : List Variable) (x : Value) → eval_erased (lazy row (connective settling) e f) (values_of (contents vs)) x ≡ (truth_in (eval_erased e (values_of (contents vs)) x) >>= rest (eval_erased f (values_of (contents vs)) x))
      unfolding eval_erased rest
      lazy_is vs x = tested (eval_erased e (values_of (contents vs)) x) (λ b. if beq b (settled_by (connective settling)) then ok (truth b) else (eval_erased f (values_of (contents vs)) x >>= λ y. ok (truth (as_truth y))))

      pub lazy_error : {m : ℕ} → ((o : Result Value) → Leaves n s boolean o → fail m ≡ truth_in o) → (after : List ℤ) → (m ≡ 0 → ⊥) → Evaluates rows layout cells states now (lazy row (connective settling) e f) m after
      lazy_error g after z = record {
        leaves = λ ds vs cur b x w c d.
            leaves_fail z (lazy_is vs x ∙ ap {B = Result Value} (λ (o : Result Bool). o >>= rest (eval_erased f (values_of (contents vs)) x)) (sym (g _ (h.leaves ds vs cur boolean x w c (lazy_passed d).first))));
      }

      -- what was told decides
      module _ {p : Bool} (g : (o : Result Value) → Leaves n s boolean o → ok p ≡ truth_in o) where
        lazy_told : (vs : List Variable) (x : Value) (b : Bool) → Leaves n s boolean (eval_erased e (values_of (contents vs)) x) → beq p settling ≡ b
            → eval_erased (lazy row (connective settling) e f) (values_of (contents vs)) x ≡ (if b then ok (truth p) else (eval_erased f (values_of (contents vs)) x >>= λ y. ok (truth (as_truth y))))
        unfolding rest
        lazy_told vs x b k q =
            lazy_is vs x
            ∙ ap {B = Result Value} (λ (o : Result Bool). o >>= rest (eval_erased f (values_of (contents vs)) x)) (sym (g _ k))
            ∙ ap {B = Result Value} (λ (v : Bool). if v then ok (truth p) else (eval_erased f (values_of (contents vs)) x >>= λ y. ok (truth (as_truth y)))) (settled_by_lem p settling b q)

        pub lazy_settled : beq p settling ≡ true → Evaluates rows layout cells states now (lazy row (connective settling) e f) 0 s
        lazy_settled q = record {
          leaves = λ ds vs cur b x w c d.
              let u = lazy_passed d in
              let k = h.leaves ds vs cur boolean x w c u.first in
              leaves_as (sym u.is) (leaves_from (sym (lazy_told vs x true k q)) (told_value p k (g _ k)));
        }

        pub lazy_second : {m : ℕ} {after : List ℤ} → beq p settling ≡ false → Evaluates rows layout cells states now f m after → Evaluates rows layout cells states now (lazy row (connective settling) e f) m after
        lazy_second q i = record {
          leaves = λ ds vs cur b x w c d.
              let u = lazy_passed d in
              leaves_as (sym u.is) (leaves_from (sym (lazy_told vs x false (h.leaves ds vs cur boolean x w c u.first) q)) (as_truth_lem (i.leaves ds vs cur boolean x w c u.second)));
        }

  -- ---- choice
  module _ (e f g : Expression) where
    pub choice_test : Ready rows layout cells states now (choice row e f g) → Ready rows layout cells states now e
    choice_test r = ready_with r (choice_passed r.passed).test

    pub choice_first : Ready rows layout cells states now (choice row e f g) → Ready rows layout cells states now f
    choice_first r = ready_with r (choice_passed r.passed).yes

    pub choice_other : Ready rows layout cells states now (choice row e f g) → Ready rows layout cells states now g
    choice_other r = ready_with r (choice_passed r.passed).no

    module _ {n : ℕ} {s : List ℤ} (h : Evaluates rows layout cells states now e n s) where
      chosen : List Variable → Value → Bool → Result Value
      chosen vs x b = if b then eval_erased f (values_of (contents vs)) x else eval_erased g (values_of (contents vs)) x

      choice_is : (vs : List Variable) (x : Value) → eval_erased (choice row e f g) (values_of (contents vs)) x ≡ (truth_in (eval_erased e (values_of (contents vs)) x) >>= chosen vs x)
      unfolding eval_erased chosen
      choice_is vs x = tested (eval_erased e (values_of (contents vs)) x) (λ b. if b then eval_erased f (values_of (contents vs)) x else eval_erased g (values_of (contents vs)) x)

      pub choice_error : {m : ℕ} → ((o : Result Value) → Leaves n s boolean o → fail m ≡ truth_in o) → (after : List ℤ) → (m ≡ 0 → ⊥) → Evaluates rows layout cells states now (choice row e f g) m after
      choice_error k after z = record {
        leaves = λ ds vs cur b x w c d.
            leaves_fail z (choice_is vs x ∙ ap {B = Result Value} (λ (o : Result Bool). o >>= chosen vs x) (sym (k _ (h.leaves ds vs cur boolean x w c (choice_passed d).test))));
      }

      -- what was told decides
      module _ {p : Bool} (k : (o : Result Value) → Leaves n s boolean o → ok p ≡ truth_in o) where
        choice_told : (vs : List Variable) (x : Value) (b : Bool) → Leaves n s boolean (eval_erased e (values_of (contents vs)) x) → p ≡ b
            → eval_erased (choice row e f g) (values_of (contents vs)) x ≡ (if b then eval_erased f (values_of (contents vs)) x else eval_erased g (values_of (contents vs)) x)
        unfolding chosen
        choice_told vs x b l q =
            choice_is vs x
            ∙ ap {B = Result Value} (λ (o : Result Bool). o >>= chosen vs x) (sym (k _ l))
            ∙ ap {B = Result Value} (λ (v : Bool). if v then eval_erased f (values_of (contents vs)) x else eval_erased g (values_of (contents vs)) x) q

        pub choice_yes : {m : ℕ} {after : List ℤ} → p ≡ true → Evaluates rows layout cells states now f m after → Evaluates rows layout cells states now (choice row e f g) m after
        choice_yes q i = record {
          leaves = λ ds vs cur b x w c d.
              let u = choice_passed d in
              leaves_from (sym (choice_told vs x true (h.leaves ds vs cur boolean x w c u.test) q)) (i.leaves ds vs cur b x w c u.yes);
        }

        pub choice_no : {m : ℕ} {after : List ℤ} → p ≡ false → Evaluates rows layout cells states now g m after → Evaluates rows layout cells states now (choice row e f g) m after
        choice_no q i = record {
          leaves = λ ds vs cur b x w c d.
              let u = choice_passed d in
              leaves_from (sym (choice_told vs x false (h.leaves ds vs cur boolean x w c u.test) q)) (i.leaves ds vs cur b x w c u.no);
        }
