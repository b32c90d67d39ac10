-- What the check of an expression row gives, for each way in which its function ends. Every value on the way is a variable here, and
-- what its function ensures is a premise. Assumes nothing.
use mathlib.Core.Path.{◌≡◌, refl, sym, ap, ap₂, ◌∙◌, subst}
use mathlib.Core.Bool.{true, false}
use mathlib.Core.List.{List, [], ◌∷◌, ◌++◌}
use mathlib.Core.Option.{Option, some, none}
use Prim.Native.Nat.{ℕ, ◌+◌, ◌*◌}
use lib.ListN.{set}
use Rattle.std.specs.Prelude.{Option as CodeOption, None}
use Rattle.lingua.specs.Outcome.{ok, answer_of, both}
use Rattle.lingua.specs.Body.{Body, boolean, size, is_boolean, same_body}
use Rattle.lingua.specs.Value.{Composite}
use Rattle.lingua.specs.Operation.{Unary, Binary, unary_body, binary_body}
use Rattle.lingua.specs.Expression.{Connective, Expression, constant, variable, current, unary, binary, lazy, choice, all_list}
use Rattle.lingua.specs.Typing.{Entry, own_rule, unary_second, binary_second, Bodies, current_body, current_or, elements_at, check, lowest_fault, placed}
use Rattle.lingua.specs.declared.errors.ErrorAt.{ErrorAt}
use Rattle.lingua.specs.declared.errors.Error.TheVariants.{BooleanExpected, NoCoherence, YokeExpected}
use Rattle.laws.specs.Outcomes.{is_boolean_lem}
use Rattle.body.specs.Encode.{Holds}
use Rattle.body.specs.declared.typed.Typed.{Typed as HalfTyped}
use Rattle.body_half.specs.Half.{HalfPassed}
use Rattle.typing.specs.Check.{own_fault, Fails, ElementsBody, Noted, Passes}
use Rattle.typing.proofs.Found.{fails_on, faulted}

-- ---- the layout table
pub placed_append : (es fs : List Entry) (l : List ℕ) → placed (es ++ fs) l ≡ placed fs (placed es l)
unfolding placed
placed_append [] fs l = refl
placed_append (e ∷ es) fs l = placed_append es fs (set (set l (2 * e.row) (size e.result)) (2 * e.row + 1) e.second)

joined_layout : (es fs : List Entry) (l0 l1 l2 : List ℕ) → l1 ≡ placed es l0 → l2 ≡ placed fs l1 → l2 ≡ placed (es ++ fs) l0
joined_layout es fs l0 l1 l2 p q = q ∙ ap (placed fs) p ∙ sym (placed_append es fs l0)

-- a row that is noted behind its operands' entries
module _ {r : ℕ} {x : List ℕ} {second : ℕ} {l1 l2 : List ℕ} (n : Noted r x second l1 l2) (l0 : List ℕ) where
  noted_passes : (b cur : Body) (s : ℕ) (es : List Entry) → Holds x b → second ≡ s → l1 ≡ placed es l0
      → Passes x l0 l2 (ok (record { body = b; entries = es ++ (record { row = r; current = cur; result = b; second = s } ∷ []) }))
  unfolding placed
  noted_passes b cur s es h e p =
      record {
        typed = record { body = b; entries = es ++ (record { row = r; current = cur; result = b; second = s } ∷ []) };
        is = refl;
        holds = h;
        layout = n.layout b h
            ∙ ap₂ (λ (m : List ℕ) (k : ℕ). set (set m (2 * r) (size b)) (2 * r + 1) k) p e
            ∙ sym (placed_append es (record { row = r; current = cur; result = b; second = s } ∷ []) l0);
      }

-- ---- rows with no operand
module _ {r : ℕ} {x l m : List ℕ} (n : Noted r x 0 l m) (vars : Bodies) where
  pub constant_passes : (cur : Option Body) (v : Composite) → Holds x v.body → Passes x l m (check (constant r v) vars cur)
  unfolding check placed
  constant_passes cur v h = noted_passes n l v.body (current_or cur) 0 [] h refl refl

  pub variable_passes : (cur : Option Body) (i : ℕ) → Holds x (vars i) → Passes x l m (check (variable r i) vars cur)
  unfolding check placed
  variable_passes cur i h = noted_passes n l (vars i) (current_or cur) 0 [] h refl refl

  pub current_passes : (b : Body) → Holds x b → Passes x l m (check (current r) vars (some b))
  unfolding check current_body placed
  current_passes b h = noted_passes n l b b 0 [] h refl refl

-- a current value without a body
pub no_current_fails : (r : ℕ) (vars : Bodies) → Fails None (check (current r) vars none)
unfolding check current_body lowest_fault
no_current_fails r vars = record { faults = []; is = refl; lowest = refl }

-- ---- one operand
module _ (r : ℕ) (o : Unary) (e : Expression) (vars : Bodies) (cur : Option Body) where
  pub unary_operand : (f : CodeOption ErrorAt) → Fails f (check e vars cur) → Fails f (check (unary r o e) vars cur)
  unfolding check
  unary_operand f h = fails_on f (check e vars cur) _ h

  module _ {x l0 l1 : List ℕ} (p : Passes x l0 l1 (check e vars cur)) where
    pub unary_own : (f : CodeOption ErrorAt) → Fails f (own_rule r (unary_body o p.typed.body)) → Fails f (check (unary r o e) vars cur)
    unfolding check
    unary_own f h = rw p.is (fails_on f (own_rule r (unary_body o p.typed.body)) _ h)

    pub unary_passes : {l2 : List ℕ} (t : HalfTyped) (q : HalfPassed t (unary_body o p.typed.body) (λ d. unary_second o p.typed.body))
        → Noted r t.body t.offset l1 l2 → Passes t.body l0 l2 (check (unary r o e) vars cur)
    unfolding check
    unary_passes t q n =
        rw (p.is, q.is) (noted_passes n l0 q.body (current_or cur) _ p.typed.entries q.passes.holds q.passes.is_second p.layout)

-- ---- two operands
module _ (r : ℕ) (e f : Expression) (vars : Bodies) (cur : Option Body) where
  pub binary_operands : (o : Binary) (g : CodeOption ErrorAt) → Fails g (both (check e vars cur) (check f vars cur)) → Fails g (check (binary r o e f) vars cur)
  unfolding check
  binary_operands o g h = fails_on g (both (check e vars cur) (check f vars cur)) _ h

  pub lazy_operands : (k : Connective) (g : CodeOption ErrorAt) → Fails g (both (check e vars cur) (check f vars cur)) → Fails g (check (lazy r k e f) vars cur)
  unfolding check
  lazy_operands k g h = fails_on g (both (check e vars cur) (check f vars cur)) _ h

  module _ {x y l0 l1 l2 : List ℕ} (p : Passes x l0 l1 (check e vars cur)) (q : Passes y l1 l2 (check f vars cur)) where
    both_layout : l2 ≡ placed (p.typed.entries ++ q.typed.entries) l0
    both_layout = joined_layout p.typed.entries q.typed.entries l0 l1 l2 p.layout q.layout

    pub binary_own : (o : Binary) (g : CodeOption ErrorAt) → Fails g (own_rule r (binary_body o p.typed.body q.typed.body)) → Fails g (check (binary r o e f) vars cur)
    unfolding check
    binary_own o g h = rw (p.is, q.is) (fails_on g (own_rule r (binary_body o p.typed.body q.typed.body)) _ h)

    pub binary_passes : (o : Binary) {l3 : List ℕ} (t : HalfTyped) (w : HalfPassed t (binary_body o p.typed.body q.typed.body) (λ d. binary_second o p.typed.body q.typed.body d))
        → Noted r t.body t.offset l2 l3 → Passes t.body l0 l3 (check (binary r o e f) vars cur)
    unfolding check
    binary_passes o t w n =
        rw (p.is, q.is, w.is)
        (noted_passes n l0 w.body (current_or cur) _ (p.typed.entries ++ q.typed.entries) w.passes.holds w.passes.is_second both_layout)

    -- and, or
    pub lazy_first_own : (k : Connective) → is_boolean p.typed.body ≡ false → Fails (own_fault BooleanExpected r) (check (lazy r k e f) vars cur)
    unfolding check
    lazy_first_own k b = rw (p.is, q.is, b) (faulted BooleanExpected r)

    module _ (b : is_boolean p.typed.body ≡ true) where
      pub lazy_second_own : (k : Connective) → is_boolean q.typed.body ≡ false → Fails (own_fault BooleanExpected r) (check (lazy r k e f) vars cur)
      unfolding check
      lazy_second_own k d = rw (p.is, q.is, b, d) (faulted BooleanExpected r)

      pub lazy_passes : (k : Connective) {l3 : List ℕ} → is_boolean q.typed.body ≡ true → Noted r y 0 l2 l3 → Passes y l0 l3 (check (lazy r k e f) vars cur)
      unfolding check
      lazy_passes k d n =
          rw (p.is, q.is, b, d)
          (noted_passes n l0 boolean (current_or cur) 0 (p.typed.entries ++ q.typed.entries)
          (subst (λ (i : Body). Holds y i) (is_boolean_lem q.typed.body d) q.holds) refl both_layout)

-- ---- if
module _ (r : ℕ) (t e f : Expression) (vars : Bodies) (cur : Option Body) where
  pub choice_operands : (g : CodeOption ErrorAt) → Fails g (both (check t vars cur) (both (check e vars cur) (check f vars cur))) → Fails g (check (choice r t e f) vars cur)
  unfolding check
  choice_operands g h = fails_on g (both (check t vars cur) (both (check e vars cur) (check f vars cur))) _ h

  module _ {s x y l0 l1 l2 l3 : List ℕ} (a : Passes s l0 l1 (check t vars cur)) (p : Passes x l1 l2 (check e vars cur)) (q : Passes y l2 l3 (check f vars cur)) where
    pub choice_test_own : is_boolean a.typed.body ≡ false → Fails (own_fault BooleanExpected r) (check (choice r t e f) vars cur)
    unfolding check
    choice_test_own i = rw (a.is, p.is, q.is, i) (faulted BooleanExpected r)

    module _ (i : is_boolean a.typed.body ≡ true) where
      pub choice_own : same_body p.typed.body q.typed.body ≡ false → Fails (own_fault NoCoherence r) (check (choice r t e f) vars cur)
      unfolding check
      choice_own d = rw (a.is, p.is, q.is, i, d) (faulted NoCoherence r)

      pub choice_passes : {l4 : List ℕ} → same_body p.typed.body q.typed.body ≡ true → Noted r x 0 l3 l4 → Passes x l0 l4 (check (choice r t e f) vars cur)
      unfolding check
      choice_passes d n =
          rw (a.is, p.is, q.is, i, d)
          (noted_passes n l0 p.typed.body (current_or cur) 0 (a.typed.entries ++ (p.typed.entries ++ q.typed.entries)) p.holds refl
          (joined_layout a.typed.entries (p.typed.entries ++ q.typed.entries) l0 l1 l3 a.layout (both_layout r e f vars cur p q)))

-- ---- all_list: the list's elements, the inner yoke on their body if they have one, and both at once
module _ (r : ℕ) (e : Expression) (vars : Bodies) (cur : Option Body) where
  pub all_list_operands : (g : CodeOption ErrorAt) → Fails g (both (check e vars (answer_of (elements_at r cur))) (elements_at r cur)) → Fails g (check (all_list r e) vars cur)
  unfolding check
  all_list_operands g h = fails_on g (both (check e vars (answer_of (elements_at r cur))) (elements_at r cur)) _ h

  module _ {x y l0 l1 : List ℕ} (p : Passes x l0 l1 (check e vars (answer_of (elements_at r cur)))) (w : ElementsBody y (elements_at r cur)) where
    pub all_list_own : is_boolean p.typed.body ≡ false → Fails (own_fault YokeExpected r) (check (all_list r e) vars cur)
    unfolding check
    all_list_own b = rw (p.is, w.is, b) (faulted YokeExpected r)

    pub all_list_passes : (s : ℕ) {l2 : List ℕ} → is_boolean p.typed.body ≡ true → s ≡ size w.element → Noted r x s l1 l2 → Passes x l0 l2 (check (all_list r e) vars cur)
    unfolding check
    all_list_passes s b d n =
        rw (p.is, w.is, b)
        (noted_passes n l0 boolean (current_or cur) (size w.element) p.typed.entries
        (subst (λ (i : Body). Holds x i) (is_boolean_lem p.typed.body b) p.holds) d p.layout)
