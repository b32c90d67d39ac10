-- What an answer of the type check shows, step by step: the bodies' half of each operation passed, and the entries are those of the
-- operands, then the row's own. Assumes nothing.
use Rattle.std.specs.Prelude.{◌≡◌, refl, Bool, true, List, [], ◌∷◌, ◌++◌, ℕ, ◌+◌}
use Rattle.std.proofs.Math.Path.{sym}
use Rattle.std.proofs.Common.{subst}
use Rattle.std.proofs.Math.Option.{some}
use Rattle.lingua.specs.Numbers.{instruction_place}
use Rattle.lingua.specs.Errors.{boolean_expected, list_expected, no_coherence, yoke_expected}
use Rattle.lingua.specs.Outcome.{ok, fail, or_fail, answer_of, both}
use Rattle.lingua.specs.Body.{Body, boolean, size, same_body, is_boolean, element_body}
use Rattle.lingua.specs.Value.{Composite}
use Rattle.lingua.specs.Operation.{Unary, Binary, unary_body, binary_body}
use Rattle.lingua.specs.Expression.{Connective, Expression, constant, variable, current, unary, binary, lazy, choice, all_list, Yoke, always, yoke, Instruction, skip, assign, set_yoke, sequence, branch, loop, handle, call}
use Rattle.lingua.specs.Typing.{TypeError, type_error, Entry, Typed, Finding, fault, own_rule, unary_second, binary_second, Bodies, current_body, elements_at, check, judged, check_yoke, no_current_body, check_test, given_fit, check_instruction}
use Rattle.laws.specs.Outcomes.{or_fail_ok, same_body_lem, is_boolean_lem}
use Rattle.safety.specs.Answers.{same_answer, never_ok, bound, both_bound, both_answer, demanded, own_answer}

abbrev pub entry : ℕ → Body → Body → ℕ → Entry
entry r cur b second = record { row = r; current = cur; result = b; second = second }

-- a row's own entry behind those of its operands
abbrev pub with_entry : List Entry → ℕ → Body → Body → ℕ → List Entry
with_entry es r cur b second = es ++ (entry r cur b second ∷ [])

-- an expression has a body, on a current value's body, and leaves the entries
pub data Checked (vars : Bodies) : Expression → Body → Body → List Entry → Type 0 where
  checked_constant : {r : ℕ} {c : Composite} {cur : Body} → Checked vars (constant r c) cur c.body (with_entry [] r cur c.body 0)
  checked_variable : {r n : ℕ} {cur : Body} → Checked vars (variable r n) cur (vars n) (with_entry [] r cur (vars n) 0)
  checked_current : {r : ℕ} {cur : Body} → Checked vars (current r) cur cur (with_entry [] r cur cur 0)
  checked_unary : {r : ℕ} {o : Unary} {e : Expression} {cur b c : Body} {xs : List Entry} → Checked vars e cur c xs → unary_body o c ≡ ok b
      → Checked vars (unary r o e) cur b (with_entry xs r cur b (unary_second o c))
  checked_binary : {r : ℕ} {o : Binary} {e f : Expression} {cur b c d : Body} {xs ys : List Entry} → Checked vars e cur c xs → Checked vars f cur d ys → binary_body o c d ≡ ok b
      → Checked vars (binary r o e f) cur b (with_entry (xs ++ ys) r cur b (binary_second o c d b))
  checked_lazy : {r : ℕ} {k : Connective} {e f : Expression} {cur : Body} {xs ys : List Entry} → Checked vars e cur boolean xs → Checked vars f cur boolean ys
      → Checked vars (lazy r k e f) cur boolean (with_entry (xs ++ ys) r cur boolean 0)
  checked_choice : {r : ℕ} {p e f : Expression} {cur b : Body} {xs ys zs : List Entry} → Checked vars p cur boolean xs → Checked vars e cur b ys → Checked vars f cur b zs
      → Checked vars (choice r p e f) cur b (with_entry (xs ++ (ys ++ zs)) r cur b 0)
  checked_all_list : {r : ℕ} {e : Expression} {cur c : Body} {xs : List Entry} → element_body cur ≡ some c → Checked vars e c boolean xs
      → Checked vars (all_list r e) cur boolean (with_entry xs r cur boolean (size c))

-- a yoke on a value of the body
unfoldable pub CheckedYoke : Bodies → Yoke → Body → List Entry → Type 0
CheckedYoke vars always b es = es ≡ []
CheckedYoke vars (yoke e) b es = Checked vars e b boolean es

-- an instruction's own row; `procs` are the declared bodies of each procedure's variables
unfoldable pub CheckedRow : (ℕ → Bodies) → Bodies → Instruction → List Entry → Type 0
CheckedRow procs vars (skip r) es = es ≡ []
CheckedRow procs vars (assign r n e) es = Checked vars e no_current_body (vars n) es
CheckedRow procs vars (set_yoke r n y) es = CheckedYoke vars y (vars n) es
CheckedRow procs vars (sequence r i j) es = es ≡ []
CheckedRow procs vars (branch r e i j) es = Checked vars e no_current_body boolean es
CheckedRow procs vars (loop r e i) es = Checked vars e no_current_body boolean es
CheckedRow procs vars (handle r n i) es = es ≡ []
CheckedRow procs vars (call r k vs rs) es = (es ≡ []) × (given_fit vars (vs ++ rs) (procs k) 0 ≡ true)

-- what a declaration or an instruction that passes shows of its expression
judged_answer : (o : Finding Typed) (suits : Body → Bool) (own : TypeError) (es : List Entry) → judged o suits own ≡ ok es
    → (t : Typed) × (o ≡ ok t) × (suits t.body ≡ true) × (t.entries ≡ es)
unfolding judged
judged_answer (ok t) suits own es q = let m = demanded (suits t.body) own _ es q in (t, refl, m.0, same_answer m.1)
judged_answer (fail fs) suits own es q = never_ok q

-- the body of a list's elements was there
elements_answer : (r : ℕ) (cur b : Body) → elements_at r (some cur) ≡ ok b → element_body cur ≡ some b
unfolding elements_at current_body
elements_answer r cur b q = or_fail_ok (element_body cur) list_expected b (own_answer r (or_fail (element_body cur) list_expected) b q)

module _ (vars : Bodies) where
  body_as : {e : Expression} {cur b c : Body} {es : List Entry} → b ≡ c → Checked vars e cur b es → Checked vars e cur c es
  body_as {e} {cur} {es = es} q h = subst (λ (d : Body). Checked vars e cur d es) q h

  entries_as : {e : Expression} {cur b : Body} {es xs : List Entry} → es ≡ xs → Checked vars e cur b es → Checked vars e cur b xs
  entries_as {e} {cur} {b} q h = subst (λ (l : List Entry). Checked vars e cur b l) q h

  answered_as : {e : Expression} {cur : Body} {t u : Typed} → ◌≡◌ {A = Finding Typed} (ok t) (ok u) → Checked vars e cur t.body t.entries → Checked vars e cur u.body u.entries
  answered_as {e} {cur} q h = subst (λ (v : Typed). Checked vars e cur v.body v.entries) (same_answer q) h

  -- the inner yoke of an all_list, on the body of the list's elements
  inner_as : (r : ℕ) (e : Expression) (cur c : Body) (x : Typed) → elements_at r (some cur) ≡ ok c → check e vars (answer_of (elements_at r (some cur))) ≡ ok x → check e vars (some c) ≡ ok x
  inner_as r e cur c x q p = subst (λ (o : Finding Body). check e vars (answer_of o) ≡ ok x) q p

  pub check_checked : (e : Expression) (cur : Body) (t : Typed) → check e vars (some cur) ≡ ok t → Checked vars e cur t.body t.entries
  unfolding check current_body
  check_checked (constant r c) cur t q = answered_as q checked_constant
  check_checked (variable r n) cur t q = answered_as q checked_variable
  check_checked (current r) cur t q = answered_as q checked_current
  check_checked (unary r o e) cur t q =
      let a = bound (check e vars (some cur)) _ t q in
      let b = bound (own_rule r (unary_body o a.0.body)) _ t a.2 in
      answered_as b.2 (checked_unary (check_checked e cur a.0 a.1) (own_answer r (unary_body o a.0.body) b.0 b.1))
  check_checked (binary r o e f) cur t q =
      let a = both_bound (check e vars (some cur)) (check f vars (some cur)) _ t q in
      let b = bound (own_rule r (binary_body o a.0.body a.1.body)) _ t a.4 in
      answered_as b.2
      (checked_binary (check_checked e cur a.0 a.2) (check_checked f cur a.1 a.3) (own_answer r (binary_body o a.0.body a.1.body) b.0 b.1))
  check_checked (lazy r k e f) cur t q =
      let a = both_bound (check e vars (some cur)) (check f vars (some cur)) _ t q in
      let m = demanded (is_boolean a.0.body) (fault boolean_expected r) _ t a.4 in
      let n = demanded (is_boolean a.1.body) (fault boolean_expected r) _ t m.1 in
      answered_as n.1
      (checked_lazy (body_as (is_boolean_lem a.0.body m.0) (check_checked e cur a.0 a.2)) (body_as (is_boolean_lem a.1.body n.0) (check_checked f cur a.1 a.3)))
  check_checked (choice r p e f) cur t q =
      let a = both_bound (check p vars (some cur)) (both (check e vars (some cur)) (check f vars (some cur))) _ t q in
      let b = both_answer (check e vars (some cur)) (check f vars (some cur)) a.1 a.3 in
      let m = demanded (is_boolean a.0.body) (fault boolean_expected r) _ t a.4 in
      let n = demanded (same_body a.1.0.body a.1.1.body) (fault no_coherence r) _ t m.1 in
      answered_as n.1
      (checked_choice (body_as (is_boolean_lem a.0.body m.0) (check_checked p cur a.0 a.2)) (check_checked e cur a.1.0 b.0)
      (body_as (sym (same_body_lem a.1.0.body a.1.1.body n.0)) (check_checked f cur a.1.1 b.1)))
  check_checked (all_list r e) cur t q =
      let a = both_bound (check e vars (answer_of (elements_at r (some cur)))) (elements_at r (some cur)) _ t q in
      let n = demanded (is_boolean a.0.body) (fault yoke_expected r) _ t a.4 in
      answered_as n.1
      (checked_all_list (elements_answer r cur a.1 a.3) (body_as (is_boolean_lem a.0.body n.0) (check_checked e a.1 a.0 (inner_as r e cur a.1 a.0 a.3 a.2))))

  pub yoke_checked : (y : Yoke) (b : Body) (p : ℕ) (es : List Entry) → check_yoke y vars b p ≡ ok es → CheckedYoke vars y b es
  unfolding check_yoke CheckedYoke
  yoke_checked always b p es q = sym (same_answer q)
  yoke_checked (yoke e) b p es q =
      let a = judged_answer (check e vars (some b)) is_boolean (type_error yoke_expected p) es q in
      entries_as a.3 (body_as (is_boolean_lem a.0.body a.2) (check_checked e b a.0 a.1))

  test_checked : (e : Expression) (p : ℕ) (es : List Entry) → check_test e vars p ≡ ok es → Checked vars e no_current_body boolean es
  unfolding check_test
  test_checked e p es q =
      let a = judged_answer (check e vars (some no_current_body)) is_boolean (type_error boolean_expected p) es q in
      entries_as a.3 (body_as (is_boolean_lem a.0.body a.2) (check_checked e no_current_body a.0 a.1))

module _ (procs : ℕ → Bodies) (vars : Bodies) where
  pub row_checked : (i : Instruction) (es : List Entry) → check_instruction procs vars i ≡ ok es → CheckedRow procs vars i es
  unfolding check_instruction CheckedRow
  row_checked (skip r) es q = sym (same_answer q)
  row_checked (assign r n e) es q =
      let a = judged_answer (check e vars (some no_current_body)) (same_body (vars n)) (type_error no_coherence (instruction_place + r)) es q in
      entries_as vars a.3 (body_as vars (sym (same_body_lem (vars n) a.0.body a.2)) (check_checked vars e no_current_body a.0 a.1))
  row_checked (set_yoke r n y) es q = yoke_checked vars y (vars n) (instruction_place + r) es q
  row_checked (sequence r i j) es q = sym (same_answer q)
  row_checked (branch r e i j) es q = test_checked vars e (instruction_place + r) es q
  row_checked (loop r e i) es q = test_checked vars e (instruction_place + r) es q
  row_checked (handle r n i) es q = sym (same_answer q)
  row_checked (call r k vs rs) es q =
      let m = demanded (given_fit vars (vs ++ rs) (procs k) 0) (type_error no_coherence (instruction_place + r)) _ es q in
      (sym (same_answer m.1), m.0)
