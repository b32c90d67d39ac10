-- A value takes at most 64 cells: where constants, variables and the current value do, so does what an expression gives, in evaluation
-- (`eval_size`) and in the type check (`derived_size`). Assumes nothing.
use Rattle.std.specs.Prelude.{◌≡◌, refl, Bool, true, false, List, map, ℕ, ◌≤◌, ◌<◌}
use Rattle.std.proofs.Common.{subst, arith}
use Rattle.std.specs.Bool.{beq}
use Rattle.std.proofs.Math.Option.{some}
use Rattle.lingua.specs.Numbers.{expression_section, body_cells}
use Rattle.lingua.specs.Errors.{boolean_expected, yoke_expected, not_filled}
use Rattle.lingua.specs.Outcome.{ok, Result, ◌>>=◌, if◌then◌else◌, all_answers}
use Rattle.lingua.specs.Body.{Body, boolean, size, is_boolean}
use Rattle.lingua.specs.Value.{Composite, all_of}
use Rattle.lingua.specs.Operation.{unary_body, binary_body}
use Rattle.lingua.specs.Compute.{unary_value, binary_value}
use Rattle.lingua.specs.Expression.{settled_by, Expression, constant, variable, current, unary, binary, lazy, choice, all_list}
use Rattle.lingua.specs.Evaluation.{Variables, apply_unary, apply_binary, truth_or, boolean_of, all_true, elements_of, eval}
use Rattle.lingua.specs.Typing.{Entry, Bodies}
use Rattle.lingua.specs.Rows.{table_count}
use Rattle.lingua.specs.Trees.{expression_tree}
use Rattle.laws.specs.Outcomes.{or_fail_ok}
use Rattle.laws.specs.Halves.{unary_small, binary_small}
use Rattle.safety.specs.Answers.{same_answer, bound, demanded}
use Rattle.safety.specs.Constants.{ConstantsHave, constants_imply}
use Rattle.safety.specs.Accepted.{AcceptedRows, tree_plain}
use Rattle.safety.specs.Derivation.{Derived, of_constant, of_variable, of_current, of_unary, of_binary, of_lazy, of_choice, of_all_list}

-- at most 64 cells
unfoldable pub Small : Body → Type 0
Small b = size b ≤ body_cells

abbrev pub SmallComposite : Composite → Type 0
SmallComposite x = Small x.body

small_as : {b c : Body} → b ≡ c → Small b → Small c
small_as e h = subst Small e h

one_cell : (b : Body) → size b ≡ 1 → Small b
unfolding Small
one_cell b e = omega arith

-- ---- the type check
pub derived_size : {H : Entry → Type 0} {vars : Bodies} → ((n : ℕ) → Small (vars n)) → {e : Expression} {cur b : Body} → Derived H vars e cur b → ConstantsHave SmallComposite e → Small cur → Small b
unfolding ConstantsHave size Small
derived_size v (of_constant q x) h k = small_as q h
derived_size v (of_variable {n = n} q x) h k = small_as q (v n)
derived_size v (of_current q x) h k = small_as q k
derived_size v (of_unary {o = o} {b = b} {c} d q x) h k = unary_small o c (derived_size v d h k) q
derived_size v (of_binary {o = o} {b = b} {c} {d = a} d g q x) h k = binary_small o c a (derived_size v d h.0 k) (derived_size v g h.1 k) q
derived_size v (of_lazy d g q x) h k = small_as q (one_cell boolean refl)
derived_size v (of_choice p d g x) h k = derived_size v d h.1 k
derived_size v (of_all_list q d p x) h k = small_as p (one_cell boolean refl)

-- ---- evaluation
answer_size : {x y : Composite} → ◌≡◌ {A = Result Composite} (ok x) (ok y) → Small x.body → Small y.body
answer_size e h = subst SmallComposite (same_answer e) h

boolean_small : Small boolean
unfolding size
boolean_small = one_cell boolean refl

pub eval_size : (e : Expression) → ConstantsHave SmallComposite e → (vars : Variables) → ((n : ℕ) (x : Composite) → vars n ≡ some x → Small x.body) → (cur : Composite) → Small cur.body
    → (x : Composite) → eval e vars cur ≡ ok x → Small x.body
unfolding eval ConstantsHave apply_unary apply_binary all_true Small
eval_size (constant r c) h vars v cur k x q = answer_size q h
eval_size (variable r n) h vars v cur k x q = v n x (or_fail_ok (vars n) not_filled x q)
eval_size (current r) h vars v cur k x q = answer_size q k
eval_size (unary r o e) h vars v cur k x q =
    let p = bound (eval e vars cur) _ x q in
    let s = bound (unary_body o p.0.body) _ x p.2 in
    let t = bound (unary_value o p.0.value) _ x s.2 in
    answer_size t.2 (unary_small o p.0.body (eval_size e h vars v cur k p.0 p.1) s.1)
eval_size (binary r o e f) h vars v cur k x q =
    let p = bound (eval e vars cur) _ x q in
    let y = bound (eval f vars cur) _ x p.2 in
    let s = bound (binary_body o p.0.body y.0.body) _ x y.2 in
    let t = bound (binary_value o p.0.value y.0.value) _ x s.2 in
    answer_size t.2 (binary_small o p.0.body y.0.body (eval_size e h.0 vars v cur k p.0 p.1) (eval_size f h.1 vars v cur k y.0 y.1) s.1)
eval_size (lazy r c e f) h vars v cur k x q =
    let p = bound (eval e vars cur) _ x q in
    let s = bound (truth_or boolean_expected p.0) _ x p.2 in
    settled (beq s.0 (settled_by c)) s.0 s.2
  where
    settled : (u t : Bool) → (if u then ok (boolean_of t) else (eval f vars cur >>= λ y. truth_or boolean_expected y >>= λ w. ok (boolean_of w))) ≡ ok x → Small x.body
    settled true t z = answer_size z boolean_small
    settled false t z =
        let p = bound (eval f vars cur) _ x z in
        let s = bound (truth_or boolean_expected p.0) _ x p.2 in
        answer_size s.2 boolean_small
eval_size (choice r c e f) h vars v cur k x q =
    let p = bound (eval c vars cur) _ x q in
    let s = bound (truth_or boolean_expected p.0) _ x p.2 in
    chosen s.0 s.2 (λ z. eval_size e h.1 vars v cur k x z) (λ z. eval_size f h.2 vars v cur k x z)
  where
    chosen : (t : Bool) → (if t then eval e vars cur else eval f vars cur) ≡ ok x → (eval e vars cur ≡ ok x → Small x.body) → (eval f vars cur ≡ ok x → Small x.body) → Small x.body
    chosen true z a b = a z
    chosen false z a b = b z
eval_size (all_list r e) h vars v cur k x q =
    let p = bound (elements_of cur) _ x q in
    let s = bound (all_answers (map (λ y. eval e vars y) p.0)) _ x p.2 in
    let t = demanded (all_of (λ y. is_boolean y.body) s.0) yoke_expected _ x s.2 in
    answer_size t.1 boolean_small

-- an accepted profile's constants take one cell
pub tree_small : (rows : List ℕ) → AcceptedRows rows → (r : ℕ) → r < table_count rows expression_section → ConstantsHave SmallComposite (expression_tree rows r)
tree_small rows accepted r l = constants_imply (λ c h. one_cell c.body h.1) (expression_tree rows r) (tree_plain rows accepted r l)
