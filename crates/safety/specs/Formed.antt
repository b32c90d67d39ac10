-- The bodies of an accepted profile are well-formed: those of its type rows (`type_formed`), those of its own and its procedures'
-- declarations (`scope_formed`), those of whatever its expressions give (`eval_formed`, `tree_eval_formed`). Assumes nothing.
use Rattle.std.specs.Prelude.{◌≡◌, refl, Bool, true, false, List, [], ◌∷◌, map, eqb, if◌then◌else◌}
use Rattle.std.proofs.Common.{subst, arith}
use Rattle.std.specs.Bool.{beq}
use Rattle.std.proofs.Math.Option.{some}
use Prim.Native.Nat.{ℕ, zero, suc, ◌≤◌, ◌<◌}
use Rattle.lingua.specs.Numbers.{declaration_section, type_section, expression_section, scope_table}
use Rattle.lingua.specs.Errors.{boolean_expected, yoke_expected, not_filled, record_expected}
use Rattle.lingua.specs.Outcome.{ok, fail, Result, ◌>>=◌, all_answers}
use Rattle.lingua.specs.Body.{Body, is_boolean}
use Rattle.lingua.specs.WellFormed.{WellFormed, formed_boolean, formed_number, formed_word, formed_hundredths}
use Rattle.lingua.specs.Value.{Composite, all_of}
use Rattle.lingua.specs.Operation.{make_record, make_list, expand, unary_body, binary_body}
use Rattle.lingua.specs.Compute.{unary_value, binary_value}
use Rattle.lingua.specs.Expression.{settled_by, Expression, constant, variable, current, unary, binary, lazy, choice, all_list}
use Rattle.lingua.specs.Evaluation.{Variables, apply_unary, apply_binary, truth_or, boolean_of, all_true, elements_of, eval}
use Rattle.lingua.specs.Run.{Declaration, scope_declarations}
use Rattle.lingua.specs.Typing.{bodies_of, scope_bodies}
use Rattle.lingua.specs.Rows.{kind_at, a_at, row_in, table_count, pair_count, detail_row, procedure_count, RowKind, numbered, said, TypeRow, simple_type, list_type, record_type, expand_type, unknown_type, type_kinds, type_at, type_row, Constant, boolean_constant, number_constant, word_constant, constant_value, ExpressionRow, constant_row, variable_row, current_row, unary_row, binary_row, lazy_row, choice_row, all_list_row, unknown_expression, expression_row, hundredths_constant}
use Rattle.lingua.specs.Trees.{no_expression, type_body_of, type_body_in, type_body, expression_of, expression_in, expression_tree, body_in, body_or, declaration_in, declaration_at, profile_of}
use Rattle.lingua.specs.Rules.{unary_attribute, binary_attribute, attributes_fit, expression_attributes, type_attributes}
use Rattle.laws.specs.Outcomes.{ok_same, or_fail_ok}
use Rattle.laws.specs.Formed.{formed_as, unary_formed, binary_formed}
use Rattle.safety.specs.Answers.{same_answer, never_ok, bound, demanded}
use Rattle.safety.specs.Every.{Every, every_none, every_more}
use Rattle.safety.specs.Forest.{ConstantHas, lower_has}
use Rattle.safety.specs.ProfileScopes.{scope_every}
use Rattle.safety.specs.Accepted.{AcceptedRows, type_attributes_lem, expression_attributes_lem, scope_type, type_body_is, scope_body_is}

-- ---- types
-- a row of a simple type
SimpleFormed : TypeRow → Type 0
SimpleFormed (simple_type b) = WellFormed b
SimpleFormed (list_type a) = Unit {0}
SimpleFormed (record_type n b) = Unit {0}
SimpleFormed (expand_type a n c) = Unit {0}
SimpleFormed unknown_type = Unit {0}

-- what each kind of a table says, and an unknown row, any row says
said_has : {R : Type 0} (P : R → Type 0) (unknown : R) (kinds : List (RowKind R)) (k : ℕ) (rows : List ℕ) (i : ℕ) → P unknown → Every (λ e. P (e.says rows i)) kinds → P (said unknown (numbered k kinds) rows i)
unfolding said numbered
said_has P unknown [] k rows i u every_none = u
said_has P unknown (e ∷ es) k rows i u (every_more h hs) = by (eqb k e.kind) (said_has P unknown es k rows i u hs)
  where
    by : (t : Bool) → P (said unknown (numbered k es) rows i) → P (said unknown (if t then some e else numbered k es) rows i)
    by true q = h
    by false q = q

simple_row : (rows : List ℕ) (r : ℕ) → SimpleFormed (type_row rows r)
unfolding SimpleFormed type_row type_at type_kinds
simple_row rows r =
    let i : ℕ = row_in rows type_section r in
    said_has SimpleFormed unknown_type type_kinds (kind_at rows i) rows i tt
    (every_more formed_boolean (every_more formed_number (every_more formed_word (every_more tt (every_more tt (every_more tt (every_more formed_hundredths every_none)))))))

-- an outcome whose body, if it has one, is well-formed
abbrev GivesFormed : Result Body → Type 0
GivesFormed o = (b : Body) → o ≡ ok b → WellFormed b

no_body : {n : ℕ} → GivesFormed (fail n)
no_body b e = never_ok e

row_formed : (row : TypeRow) (look : ℕ → Result Body) → SimpleFormed row → attributes_fit (type_attributes row) ≡ true → ((a : ℕ) → GivesFormed (look a)) → GivesFormed (type_body_of row look)
unfolding SimpleFormed type_body_of type_attributes all_of unary_attribute binary_attribute
row_formed (simple_type c) look h a f b e = formed_as (ok_same e) h
row_formed (list_type x) look h a f b e =
    let p = bound (look x) _ b e in
    unary_formed make_list refl (f x p.0 p.1) p.2
row_formed (record_type n x) look h a f b e =
    let p = bound (look x) _ b e in
    unary_formed (make_record n) a (f x p.0 p.1) p.2
row_formed (expand_type x n y) look h a f b e =
    let p = bound (look x) _ b e in
    let q = bound (look y) _ b p.2 in
    binary_formed (expand n) a (f x p.0 p.1) (f y q.0 q.1) q.2
row_formed unknown_type look h a f b e = formed_as (ok_same e) formed_boolean

module _ (rows : List ℕ) (accepted : AcceptedRows rows) where
  type_formed_in : (n r : ℕ) → r < table_count rows type_section → GivesFormed (type_body_in n rows r)
  unfolding type_body_in
  type_formed_in zero r l = no_body
  type_formed_in (suc n) r l =
      row_formed (type_row rows r) _ (simple_row rows r) (type_attributes_lem rows accepted r l)
      (lower_has GivesFormed r (λ a. type_body_in n rows a) (fail record_expected) (λ a q. type_formed_in n a (omega arith)) no_body)

  -- each type row has a body, and it is well-formed
  pub type_formed : (r : ℕ) → r < table_count rows type_section → (type_body rows r ≡ ok (body_or (type_body rows r))) × WellFormed (body_or (type_body rows r))
  unfolding type_body
  type_formed r l = let e = type_body_is rows accepted r l in (e, type_formed_in (suc r) r l (body_or (type_body rows r)) e)

  -- ---- declarations
  -- those of a scope: 0 for the profile, 1 + k for procedure k
  pub scope_formed : (a : ℕ) → a ≤ procedure_count rows → (d : ℕ) → d < pair_count rows (scope_table a) → WellFormed (body_or (body_in rows (scope_table a) d))
  unfolding body_in type_body
  scope_formed a h d l =
      let r : ℕ = a_at rows (detail_row rows (scope_table a) d) in
      type_formed_in (suc r) r (scope_type rows accepted a h d l) (body_or (body_in rows (scope_table a) d)) (scope_body_is rows accepted a h d l)

  pub declared_formed : (lims : List ℕ) (d : ℕ) → d < pair_count rows declaration_section → WellFormed (declaration_at rows lims d).body
  unfolding declaration_at declaration_in
  declared_formed lims d l = scope_formed 0 (omega arith) d l

  pub declarations_formed : (lims : List ℕ) (a : ℕ) → Every (λ w. WellFormed w.body) (scope_declarations (profile_of rows lims) a)
  unfolding declaration_in
  declarations_formed lims a = scope_every rows lims (λ w. WellFormed w.body) a (scope_formed a)

  -- a number that no variable has stands for a Boolean
  pub scope_bodies_formed : (lims : List ℕ) (a n : ℕ) → WellFormed (scope_bodies (profile_of rows lims) a n)
  scope_bodies_formed lims a n = by (declarations_formed lims a) n
    where
      by : {ds : List Declaration} → Every (λ d. WellFormed d.body) ds → (k : ℕ) → WellFormed (bodies_of ds k)
      by every_none k = formed_boolean
      by (every_more h hs) zero = h
      by (every_more h hs) (suc k) = by hs k

  pub bodies_formed : (lims : List ℕ) (n : ℕ) → WellFormed (bodies_of (profile_of rows lims).declarations n)
  bodies_formed lims n = scope_bodies_formed lims 0 n

-- ---- what an expression names: its constants' bodies are well-formed, and attributes are numbered below 64
unfoldable pub NamesFormed : Expression → Type 0
NamesFormed (constant r c) = WellFormed c.body
NamesFormed (variable r n) = Unit {0}
NamesFormed (current r) = Unit {0}
NamesFormed (unary r o e) = (attributes_fit (unary_attribute o) ≡ true) × NamesFormed e
NamesFormed (binary r o e f) = (attributes_fit (binary_attribute o) ≡ true) × NamesFormed e × NamesFormed f
NamesFormed (lazy r k e f) = NamesFormed e × NamesFormed f
NamesFormed (choice r p e f) = NamesFormed p × NamesFormed e × NamesFormed f
NamesFormed (all_list r e) = NamesFormed e

-- a constant of a row is a Boolean, a number, a word or hundredths
value_formed : (c : Constant) → WellFormed (constant_value c).body
unfolding constant_value
value_formed (boolean_constant n) = formed_boolean
value_formed (number_constant z) = formed_number
value_formed (word_constant cs) = formed_word
value_formed (hundredths_constant z) = formed_hundredths

constant_formed : (row : ExpressionRow) → ConstantHas (λ c. WellFormed c.body) row
unfolding ConstantHas
constant_formed (constant_row c) = value_formed c
constant_formed (variable_row n) = tt
constant_formed current_row = tt
constant_formed (unary_row o a) = tt
constant_formed (binary_row o a b) = tt
constant_formed (lazy_row k a b) = tt
constant_formed (choice_row a b c) = tt
constant_formed (all_list_row a) = tt
constant_formed unknown_expression = formed_boolean

node_names : (r : ℕ) (row : ExpressionRow) (look : ℕ → Expression) → ConstantHas (λ c. WellFormed c.body) row → attributes_fit (expression_attributes row) ≡ true
    → ((a : ℕ) → NamesFormed (look a)) → NamesFormed (expression_of r row look)
unfolding expression_of ConstantHas expression_attributes NamesFormed
node_names r (constant_row c) look h a f = h
node_names r (variable_row n) look h a f = tt
node_names r current_row look h a f = tt
node_names r (unary_row o x) look h a f = (a, f x)
node_names r (binary_row o x y) look h a f = (a, f x, f y)
node_names r (lazy_row k x y) look h a f = (f x, f y)
node_names r (choice_row x y z) look h a f = (f x, f y, f z)
node_names r (all_list_row x) look h a f = f x
node_names r unknown_expression look h a f = h

none_names : (r : ℕ) → NamesFormed (no_expression r)
unfolding NamesFormed
none_names r = formed_boolean

module _ (rows : List ℕ) (accepted : AcceptedRows rows) where
  names_in : (n r : ℕ) → r < table_count rows expression_section → NamesFormed (expression_in n rows r)
  unfolding expression_in
  names_in zero r l = none_names r
  names_in (suc n) r l =
      node_names r (expression_row rows r) _ (constant_formed (expression_row rows r)) (expression_attributes_lem rows accepted r l)
      (lower_has NamesFormed r (λ a. expression_in n rows a) (no_expression r) (λ a q. names_in n a (omega arith)) (none_names r))

  pub tree_names : (r : ℕ) → r < table_count rows expression_section → NamesFormed (expression_tree rows r)
  unfolding expression_tree
  tree_names r l = names_in (suc r) r l

-- ---- evaluation
-- every filled variable has a well-formed body
unfoldable pub ContentsFormed : Variables → Type 0
ContentsFormed vars = (n : ℕ) (x : Composite) → vars n ≡ some x → WellFormed x.body

answer_formed : {x y : Composite} → ◌≡◌ {A = Result Composite} (ok x) (ok y) → WellFormed x.body → WellFormed y.body
answer_formed e h = subst (λ (z : Composite). WellFormed z.body) (same_answer e) h

pub eval_formed : (e : Expression) → NamesFormed e → (vars : Variables) → ContentsFormed vars → (cur : Composite) → WellFormed cur.body → (x : Composite) → eval e vars cur ≡ ok x → WellFormed x.body
unfolding eval NamesFormed ContentsFormed apply_unary apply_binary all_true
eval_formed (constant r c) h vars v cur k x q = answer_formed q h
eval_formed (variable r n) h vars v cur k x q = v n x (or_fail_ok (vars n) not_filled x q)
eval_formed (current r) h vars v cur k x q = answer_formed q k
eval_formed (unary r o e) h vars v cur k x q =
    let p = bound (eval e vars cur) _ x q in
    let s = bound (unary_body o p.0.body) _ x p.2 in
    let t = bound (unary_value o p.0.value) _ x s.2 in
    answer_formed t.2 (unary_formed o h.0 (eval_formed e h.1 vars v cur k p.0 p.1) s.1)
eval_formed (binary r o e f) h vars v cur k x q =
    let p = bound (eval e vars cur) _ x q in
    let y = bound (eval f vars cur) _ x p.2 in
    let s = bound (binary_body o p.0.body y.0.body) _ x y.2 in
    let t = bound (binary_value o p.0.value y.0.value) _ x s.2 in
    answer_formed t.2 (binary_formed o h.0 (eval_formed e h.1 vars v cur k p.0 p.1) (eval_formed f h.2 vars v cur k y.0 y.1) s.1)
eval_formed (lazy r c e f) h vars v cur k x q =
    let p = bound (eval e vars cur) _ x q in
    let s = bound (truth_or boolean_expected p.0) _ x p.2 in
    settled (beq s.0 (settled_by c)) s.0 s.2
  where
    settled : (u t : Bool) → (if u then ok (boolean_of t) else (eval f vars cur >>= λ y. truth_or boolean_expected y >>= λ w. ok (boolean_of w))) ≡ ok x → WellFormed x.body
    settled true t z = answer_formed z formed_boolean
    settled false t z =
        let p = bound (eval f vars cur) _ x z in
        let s = bound (truth_or boolean_expected p.0) _ x p.2 in
        answer_formed s.2 formed_boolean
eval_formed (choice r c e f) h vars v cur k x q =
    let p = bound (eval c vars cur) _ x q in
    let s = bound (truth_or boolean_expected p.0) _ x p.2 in
    chosen s.0 s.2 (λ z. eval_formed e h.1 vars v cur k x z) (λ z. eval_formed f h.2 vars v cur k x z)
  where
    chosen : (t : Bool) → (if t then eval e vars cur else eval f vars cur) ≡ ok x → (eval e vars cur ≡ ok x → WellFormed x.body) → (eval f vars cur ≡ ok x → WellFormed x.body) → WellFormed x.body
    chosen true z a b = a z
    chosen false z a b = b z
eval_formed (all_list r e) h vars v cur k x q =
    let p = bound (elements_of cur) _ x q in
    let s = bound (all_answers (map (λ y. eval e vars y) p.0)) _ x p.2 in
    let t = demanded (all_of (λ y. is_boolean y.body) s.0) yoke_expected _ x s.2 in
    answer_formed t.1 formed_boolean

-- an accepted profile's expressions
pub tree_eval_formed : (rows : List ℕ) → AcceptedRows rows → (r : ℕ) → r < table_count rows expression_section → (vars : Variables) → ContentsFormed vars → (cur : Composite) → WellFormed cur.body
    → (x : Composite) → eval (expression_tree rows r) vars cur ≡ ok x → WellFormed x.body
tree_eval_formed rows accepted r l vars v cur k x q = eval_formed (expression_tree rows r) (tree_names rows accepted r l) vars v cur k x q
