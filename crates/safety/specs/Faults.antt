-- The faults of an expression, and which of them is named. An expression whose current value has a body has a body itself or a fault
-- (`some_fault`), so an instruction's or a declaration's own fault is named only where its expression has a body. The named one is one of
-- the faults, and none is lower (`lowest_is`); over two lists it is the lower of theirs (`lowest_fault_append`). Assumes nothing.
use Rattle.std.specs.Prelude.{◌≡◌, refl, Bool, true, false, ℕ, ◌≤◌, ltb}
use Rattle.std.proofs.Common.{sym, ap, ◌∙◌, subst, arith, ltb-true, ltb-false, lt-ltb, le-ltb}
use mathlib.Core.List.{List, [], ◌∷◌, ◌++◌, Memᴰ}
use Rattle.std.proofs.Math.Option.{Option, some, none}
use Rattle.lingua.specs.Errors.{list_expected}
use Rattle.lingua.specs.Outcome.{ok, fail, Result, ◌>>=◌, ◌>>◌, require, or_fail, answer_of, both}
use Rattle.lingua.specs.Body.{Body, is_boolean, same_body, element_body}
use Rattle.lingua.specs.Operation.{unary_body, binary_body}
use Rattle.lingua.specs.Expression.{Expression, constant, variable, current, unary, binary, lazy, choice, all_list}
use Rattle.lingua.specs.Typing.{TypeError, Typed, Finding, own_rule, Bodies, current_body, elements_at, check, lower, lowest_fault}
use Rattle.safety.specs.Answers.{never_ok}
use Rattle.safety.specs.Every.{Every, every_none, every_more, every_implies}

-- ---- the lower of two
pub lower_none : (o : Option TypeError) → lower o none ≡ o
lower_none none = refl
lower_none (some e) = refl

pub lower_assoc : (a b c : Option TypeError) → lower (lower a b) c ≡ lower a (lower b c)
lower_assoc none b c = refl
lower_assoc (some e) none c = refl
lower_assoc (some e) (some f) none = lower_none (lower (some e) (some f))
lower_assoc (some e) (some f) (some g) = by_tests (ltb f.place e.place) (ltb g.place f.place) refl refl
  where
    by_tests : (s t : Bool) → ltb f.place e.place ≡ s → ltb g.place f.place ≡ t → lower (lower (some e) (some f)) (some g) ≡ lower (some e) (lower (some f) (some g))
    by_tests true true p q = rw (p, q, lt-ltb g.place e.place (let l = ltb-true f.place e.place p in let m = ltb-true g.place f.place q in omega arith)) refl
    by_tests true false p q = rw (p, q, p) refl
    by_tests false true p q = rw (p, q) refl
    by_tests false false p q = rw (p, q, p, le-ltb g.place e.place (let l = ltb-false f.place e.place p in let m = ltb-false g.place f.place q in omega arith)) refl

pub lowest_fault_append : (es fs : List TypeError) → lowest_fault (es ++ fs) ≡ lower (lowest_fault es) (lowest_fault fs)
unfolding lowest_fault
lowest_fault_append [] fs = refl
lowest_fault_append (e ∷ es) fs = ap (lower (some e)) (lowest_fault_append es fs) ∙ sym (lower_assoc (some e) (lowest_fault es) (lowest_fault fs))

-- ---- the named one
-- one of the faults, and none is lower
pub record Lowest (es : List TypeError) (f : TypeError) : Type 0 where
  pub among : Memᴰ f es
  pub below : Every (λ g. f.place ≤ g.place) es

-- no fault, or the lowest
unfoldable pub Least : List TypeError → Option TypeError → Type 0
Least es none = es ≡ []
Least es (some f) = Lowest es f

pub lowest_is : (es : List TypeError) → Least es (lowest_fault es)
unfolding lowest_fault Least
lowest_is [] = refl
lowest_is (e ∷ es) = behind (lowest_fault es) (lowest_is es)
  where
    by_test : (f : TypeError) → Lowest es f → (t : Bool) → ltb f.place e.place ≡ t → Least (e ∷ es) (lower (some e) (some f))
    by_test f h true q =
        rw q (record { among = Memᴰ.tail h.among; below = every_more {x = e} (let l = ltb-true f.place e.place q in omega arith) h.below })
    by_test f h false q =
        rw q (record { among = Memᴰ.head refl; below = every_more {x = e} (omega arith) (every_implies (λ g l. let m = ltb-false f.place e.place q in omega arith) h.below) })

    behind : (o : Option TypeError) → Least es o → Least (e ∷ es) (lower (some e) o)
    behind none q =
        record { among = Memᴰ.head refl; below = every_more {x = e} (omega arith) (subst (λ (l : List TypeError). Every (λ g. e.place ≤ g.place) l) (sym q) every_none) }
    behind (some f) h = by_test f h (ltb f.place e.place) refl

-- ---- a body or a fault
pub data Explained {A : Type 0} : Finding A → Type 0 where
  has_answer : (a : A) → Explained (ok a)
  has_fault : (e : TypeError) (es : List TypeError) → Explained (fail (e ∷ es))

module _ {A B : Type 0} where
  explained_then : {o : Finding A} → Explained o → (k : A → Finding B) → ((a : A) → Explained (k a)) → Explained (o >>= k)
  explained_then (has_answer a) k g = g a
  explained_then (has_fault e es) k g = has_fault e es

  explained_both : {o : Finding A} {p : Finding B} → Explained o → Explained p → Explained (both o p)
  explained_both (has_answer a) (has_answer b) = has_answer (a, b)
  explained_both (has_answer a) (has_fault f fs) = has_fault f fs
  explained_both (has_fault e es) (has_answer b) = has_fault e es
  explained_both (has_fault e es) (has_fault f fs) = has_fault e _

  -- whatever the first has
  explained_second : (o : Finding A) (e : TypeError) → Explained {A = A × B} (both o (fail (e ∷ [])))
  explained_second (ok a) e = has_fault e []
  explained_second (fail []) e = has_fault e []
  explained_second (fail (f ∷ fs)) e = has_fault f _

explained_own : {A : Type 0} (r : ℕ) (o : Result A) → Explained (own_rule r o)
explained_own r (ok a) = has_answer a
explained_own r (fail n) = has_fault _ []

explained_unless : {A : Type 0} (t : Bool) (e : TypeError) {o : Finding A} → Explained o → Explained (require t (e ∷ []) >> o)
explained_unless true e h = h
explained_unless false e h = has_fault e []

module _ (vars : Bodies) where
  -- the inner yoke of an all_list, and its list
  inner_explained : (r : ℕ) (e : Expression) (m : Option Body) → ((c : Body) → Explained (check e vars (some c)))
      → Explained (both (check e vars (answer_of (own_rule r (or_fail m list_expected)))) (own_rule r (or_fail m list_expected)))
  inner_explained r e none h = explained_second (check e vars none) _
  inner_explained r e (some c) h = explained_both (h c) (has_answer c)

  pub check_explained : (e : Expression) (cur : Body) → Explained (check e vars (some cur))
  unfolding check current_body elements_at
  check_explained (constant r c) cur = has_answer _
  check_explained (variable r n) cur = has_answer _
  check_explained (current r) cur = has_answer _
  check_explained (unary r o e) cur =
      explained_then (check_explained e cur) _ (λ x. explained_then (explained_own r (unary_body o x.body)) _ (λ b. has_answer _))
  check_explained (binary r o e f) cur =
      explained_then (explained_both (check_explained e cur) (check_explained f cur)) _
      (λ xy. explained_then (explained_own r (binary_body o xy.0.body xy.1.body)) _ (λ b. has_answer _))
  check_explained (lazy r k e f) cur =
      explained_then (explained_both (check_explained e cur) (check_explained f cur)) _
      (λ xy. explained_unless (is_boolean xy.0.body) _ (explained_unless (is_boolean xy.1.body) _ (has_answer _)))
  check_explained (choice r p e f) cur =
      explained_then (explained_both (check_explained p cur) (explained_both (check_explained e cur) (check_explained f cur))) _
      (λ xyz. explained_unless (is_boolean xyz.0.body) _ (explained_unless (same_body xyz.1.0.body xyz.1.1.body) _ (has_answer _)))
  check_explained (all_list r e) cur =
      explained_then (inner_explained r e (element_body cur) (λ c. check_explained e c)) _ (λ xb. explained_unless (is_boolean xb.0.body) _ (has_answer _))

-- without a body there is a fault
fault_there : {o : Finding Typed} → Explained o → (es : List TypeError) → o ≡ fail es → lowest_fault es ≡ none → ⊥
unfolding Least
fault_there (has_answer t) es q k = never_ok (sym q)
fault_there (has_fault e fs) es q k =
    let p : es ≡ [] = subst (λ (o : Option TypeError). Least es o) k (lowest_is es) in
    let z : ◌≡◌ {A = ℕ} 0 1 = cc in
    omega arith

pub some_fault : (vars : Bodies) (e : Expression) (cur : Body) (es : List TypeError) → check e vars (some cur) ≡ fail es → lowest_fault es ≡ none → ⊥
some_fault vars e cur es q = fault_there (check_explained vars e cur) es q
