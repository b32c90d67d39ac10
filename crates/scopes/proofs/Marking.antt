-- Marks in tables of scopes: what one mark changes, and what the tables say as bodies, parts, roots and operands are marked.
-- Carried by what holds of each row with whatever leads to it. Assumes nothing.
use mathlib.Core.Path.{◌≡◌, refl, sym, ◌∙◌, subst}
use mathlib.Core.Logic.{◌⊎◌, inl, inr, ⊎_elim}
use mathlib.Core.List.Memᴰ.{append_cases as in_append}
use mathlib.Core.List.Memᴰ.{append_left as in_left}
use mathlib.Core.List.Memᴰ.{append_right as in_right}
use mathlib.Core.List.Memᴰ.{eq_of_singleton as in_one}
use mathlib.Core.List.Memᴰ.{head as here}
use mathlib.Core.List.Memᴰ.{tail as there}
use mathlib.Core.List.{List, [], ◌∷◌, ◌++◌, Memᴰ as In}
use Prim.Native.Nat.{ℕ, zero, suc, ◌≤◌, ◌<◌}
use native.Mathlib.Omega.{arith}
use lib.ListN.{length, get_or, set, replicate, length-set, length-replicate}
use lib.Seq.{get_or-set_same, get_or-set_other}
use Rattle.lingua.specs.Numbers.{expression_section, instruction_section, most_expressions, most_instructions}
use Rattle.lingua.specs.Rows.{table_count, procedure_count, body_row}
use Rattle.lingua.specs.Trees.{instruction_scope, expression_scope}
use Rattle.laws.specs.Tests.{below_or}
use Rattle.laws.specs.Firsts.{Near, near_same, near_trans}
use Rattle.laws.specs.Refers.{Refers, parts_of, operands_of, roots_of}
use Rattle.laws.specs.Reached.{steps_of, used_from, step_root, step_part, step_below, step_closed, term_root, use_of, used_operand, used_closed, body_below}
use Rattle.laws.specs.Scopes.{step_scope, step_held, step_near, use_scope, scope_at_most, use_at_most}
use Rattle.scopes.specs.Marks.{Nearer, Within, Marked, Ready, Owned, Used, InstructionScopes, ExpressionScopes}

-- ---- marks
same_or : (x y : ℕ) → (x ≡ y) ⊎ (x ≡ y → ⊥)
same_or x y = ⊎_elim (λ (l : x < y). inr (λ e. omega arith)) (λ (l : y ≤ x). ⊎_elim (λ (k : y < x). inr (λ e. omega arith)) (λ (k : x ≤ y). inl (let e : x ≡ y = omega arith in e)) (below_or y x)) (below_or x y)

pub marked_one : (t : List ℕ) (x s v : ℕ) → x < length t → Nearer (get_or t x 0) s v → Marked (x ∷ []) s t (set t x v)
marked_one t x s v l h =
    record { long = length-set t x v; nearer = λ y. ⊎_elim (λ (e : y ≡ x). subst (λ (z : ℕ). Near (get_or (set t x v) z 0) (get_or t z 0)) (sym e) (subst (λ (w : ℕ). Near w (get_or t x 0)) (sym same) h.left)) (λ n. subst (λ (w : ℕ). Near w (get_or t y 0)) (sym (get_or-set_other t x y v 0 n)) (near_same (get_or t y 0))) (same_or y x); marks = λ y m. subst (λ (z : ℕ). Near (get_or (set t x v) z 0) s) (sym (in_one m)) (subst (λ (w : ℕ). Near w s) (sym same) h.right); one = λ y. ⊎_elim (λ (e : y ≡ x). ⊎_elim (λ (q : v ≡ get_or t x 0). inl (subst (λ (z : ℕ). get_or (set t x v) z 0 ≡ get_or t z 0) (sym e) (same ∙ q))) (λ (q : v ≡ s). inr (here e, subst (λ (z : ℕ). get_or (set t x v) z 0 ≡ s) (sym e) (same ∙ q))) h.one) (λ n. inl (get_or-set_other t x y v 0 n)) (same_or y x) }
  where
    same : get_or (set t x v) x 0 ≡ v
    same = get_or-set_same t x v 0 l

pub marked_more : {xs ys : List ℕ} {s : ℕ} {t u v : List ℕ} → Marked xs s t u → Marked ys s u v → Marked (xs ++ ys) s t v
marked_more {xs} {ys} {s} {t} {u} {v} h k =
    record { long = k.long ∙ h.long; nearer = λ x. near_trans (k.nearer x) (h.nearer x); marks = λ x m. ⊎_elim (λ (i : In x xs). near_trans (k.nearer x) (h.marks x i)) (λ (i : In x ys). k.marks x i) (in_append xs m); one = λ x. ⊎_elim (λ (e : get_or v x 0 ≡ get_or u x 0). ⊎_elim (λ (f : get_or u x 0 ≡ get_or t x 0). inl (e ∙ f)) (λ (f : In x xs × (get_or u x 0 ≡ s)). inr (in_left ys f.0, e ∙ f.1)) (h.one x)) (λ (f : In x ys × (get_or v x 0 ≡ s)). inr (in_right xs f.0, f.1)) (k.one x) }

pub marked_to : {xs ys : List ℕ} {s : ℕ} {t u : List ℕ} → Marked xs s t u → xs ≡ ys → Marked ys s t u
marked_to {xs} {ys} {s} {t} {u} h e = subst (λ (l : List ℕ). Marked l s t u) e h

-- ---- what a row's mark keeps
unmarked : {xs : List ℕ} {s : ℕ} {t u : List ℕ} → Marked xs s t u → (y : ℕ) → (In y xs → ⊥) → get_or u y 0 ≡ get_or t y 0
unmarked h y n = ⊎_elim (λ e. e) (λ f. absurd (n f.0)) (h.one y)

-- rows from r on have handed on what they have
abbrev Passed : ℕ → (ℕ → List ℕ) → ℕ → List ℕ → Type 0
Passed count names r t = (y x : ℕ) → r ≤ y → y < count → In x (names y) → Near (get_or t x 0) (get_or t y 0)

module _ (count : ℕ) (names : ℕ → List ℕ) (lower : (r a : ℕ) → r < count → In a (names r) → a < r) where
  passed_more : (r : ℕ) (t u : List ℕ) → r < count → Passed count names (suc r) t → Marked (names r) (get_or t r 0) t u → Passed count names r u
  passed_more r t u l p h y x m k i =
      let kept : get_or u y 0 ≡ get_or t y 0 = unmarked h y (λ j. let b : y < r = lower r y l j in omega arith) in
      subst (λ (w : ℕ). Near (get_or u x 0) w) (sym kept)
      (⊎_elim (λ (a : r < y). near_trans (h.nearer x) (p y x a k i))
      (λ (a : y ≤ r). let e : y ≡ r = omega arith in subst (λ (w : ℕ). Near (get_or u x 0) (get_or t w 0)) (sym e) (h.marks x (subst (λ (w : ℕ). In x (names w)) e i)))
      (below_or r y))

-- marks of what scope s leads to
held_more : (n : ℕ) (P : ℕ → ℕ → Type 0) {xs : List ℕ} {s : ℕ} {t u : List ℕ} → ((x k : ℕ) → get_or t x 0 ≡ suc k → (k < n) × P k x)
    → Marked xs s t u → ((x k : ℕ) → s ≡ suc k → In x xs → (k < n) × P k x) → (x k : ℕ) → get_or u x 0 ≡ suc k → (k < n) × P k x
held_more n P {t = t} {u = u} f h g x k e =
    ⊎_elim (λ (q : get_or u x 0 ≡ get_or t x 0). f x k (sym q ∙ e)) (λ q. g x k (sym q.1 ∙ e) q.0) (h.one x)

zero_at : (m x : ℕ) → ◌≡◌ {A = ℕ} (get_or (replicate m 0) x 0) 0
zero_at zero x = refl
zero_at (suc m) zero = refl
zero_at (suc m) (suc x) = zero_at m x

zeros_held : (n m : ℕ) (P : ℕ → ℕ → Type 0) (x k : ℕ) → get_or (replicate m 0) x 0 ≡ suc k → (k < n) × P k x
zeros_held n m P x k e = absurd (let z : ⊥ = omega (arith, zero_at m x) in z)

-- ---- instructions
pub owned_none : (rows : List ℕ) (r : ℕ) → table_count rows instruction_section ≤ r → Owned rows 0 r (replicate most_instructions 0)
owned_none rows r l =
    record { long = length-replicate {A = ℕ} most_instructions 0; held = zeros_held (procedure_count rows) most_instructions (λ k x. In x (steps_of rows (body_row rows k))); bodies = λ k m. absurd (let z : ⊥ = omega arith in z); passed = λ y x m k i. absurd (let z : ⊥ = omega arith in z) }

module _ (rows : List ℕ) (h : Refers rows) where
  abbrev instructions : ℕ
  instructions = table_count rows instruction_section

  abbrev expressions : ℕ
  expressions = table_count rows expression_section

  abbrev procedures : ℕ
  procedures = procedure_count rows

  pub owned_body : (k r : ℕ) {n s b : ℕ} {t u : List ℕ} → instructions ≤ r → k < procedures → Owned rows k r t → n ≡ suc k → s ≡ suc k → b ≡ body_row rows k → Marked (b ∷ []) s t u → Owned rows n r u
  owned_body k r {n} {s} {b} {t} {u} l m o d e q w =
      record { long = w.long ∙ o.long; held = held_more procedures (λ j x. In x (steps_of rows (body_row rows j))) o.held w (λ x j f i. let same : k ≡ j = omega arith in subst (λ (p : ℕ). (p < procedures) × In x (steps_of rows (body_row rows p))) same (m, subst (λ (p : ℕ). In p (steps_of rows (body_row rows k))) (sym (in_one i ∙ q)) (step_root rows h (body_row rows k) (body_below rows h k m)))); bodies = λ j a. ⊎_elim (λ (f : j < k). near_trans (w.nearer (body_row rows j)) (o.bodies j f)) (λ (f : k ≤ j). let same : k ≡ j = omega arith in subst (λ (p : ℕ). Near (get_or u (body_row rows p) 0) (suc p)) same (subst (λ (p : ℕ). Near (get_or u (body_row rows k) 0) p) e (w.marks (body_row rows k) (here (sym q))))) (below_or j k); passed = λ y x a c i. absurd (let z : ⊥ = omega arith in z) }

  pub owned_part : (n r : ℕ) {s : ℕ} {xs t u : List ℕ} → r < instructions → Owned rows n (suc r) t → s ≡ get_or t r 0 → xs ≡ parts_of rows r → Marked xs s t u → Owned rows n r u
  owned_part n r {s} {xs} {t} {u} l o e q w =
      let m : Marked (parts_of rows r) (get_or t r 0) t u = subst (λ (p : ℕ). Marked (parts_of rows r) p t u) e (marked_to w q) in
      record { long = w.long ∙ o.long; held = held_more procedures (λ j x. In x (steps_of rows (body_row rows j))) o.held m (λ x j f i. let b = o.held r j f in (b.0, step_part rows h (body_row rows j) r x (body_below rows h j b.0) b.1 i)); bodies = λ j a. near_trans (m.nearer (body_row rows j)) (o.bodies j a); passed = passed_more instructions (parts_of rows) h.parts r t u l o.passed m }

  pub owned_all : (t : List ℕ) → Owned rows procedures 0 t → InstructionScopes rows t
  owned_all t o = record { each = each; few = λ x. subst (λ (v : ℕ). v ≤ procedures) (sym (each x)) (scope_at_most rows x) }
    where
      each : (x : ℕ) → get_or t x 0 ≡ instruction_scope rows x
      each x =
          step_scope rows x (get_or t x 0) (o.held x)
          (λ k l m. step_closed rows h (λ y. Near (get_or t y 0) (suc k)) (λ y z a b i. near_trans (o.passed y z (omega arith) a i) b) (body_row rows k) x (body_below rows h k l) (o.bodies k l) m)

-- ---- expressions
pub used_none : (rows : List ℕ) (r : ℕ) → table_count rows expression_section ≤ r → Used rows 0 r (replicate most_expressions 0)
used_none rows r l =
    record { long = length-replicate {A = ℕ} most_expressions 0; held = zeros_held (procedure_count rows) most_expressions (λ k x. In x (used_from rows (body_row rows k))); roots = λ y e m. absurd (let z : ⊥ = omega arith in z); passed = λ y x m k i. absurd (let z : ⊥ = omega arith in z) }

module _ (rows : List ℕ) (h : Refers rows) where
  pub used_roots : (y r : ℕ) {n s : ℕ} {xs t u : List ℕ} → expressions rows h ≤ r → y < instructions rows h → Used rows y r t → n ≡ suc y → s ≡ instruction_scope rows y → xs ≡ roots_of rows y → Marked xs s t u → Used rows n r u
  used_roots y r {n} {s} {xs} {t} {u} l m o d e q w =
      let v : Marked (roots_of rows y) (instruction_scope rows y) t u = subst (λ (p : ℕ). Marked (roots_of rows y) p t u) e (marked_to w q) in
      record { long = w.long ∙ o.long; held = held_more (procedures rows h) (λ j x. In x (used_from rows (body_row rows j))) o.held v (λ x j f i. let b = step_held rows y j f in (b.0, use_of rows h (body_row rows j) y x x (body_below rows h j b.0) b.1 i (term_root rows h x (h.roots y x m i)))); roots = λ z x a i. ⊎_elim (λ (f : z < y). near_trans (v.nearer x) (o.roots z x f i)) (λ (f : y ≤ z). let same : y ≡ z = omega arith in subst (λ (p : ℕ). Near (get_or u x 0) (instruction_scope rows p)) same (v.marks x (subst (λ (p : ℕ). In x (roots_of rows p)) (sym same) i))) (below_or z y); passed = λ z x a c i. absurd (let b : ⊥ = omega arith in b) }

  pub used_operands : (n r : ℕ) {s : ℕ} {xs t u : List ℕ} → r < expressions rows h → Used rows n (suc r) t → s ≡ get_or t r 0 → xs ≡ operands_of rows r → Marked xs s t u → Used rows n r u
  used_operands n r {s} {xs} {t} {u} l o e q w =
      let m : Marked (operands_of rows r) (get_or t r 0) t u = subst (λ (p : ℕ). Marked (operands_of rows r) p t u) e (marked_to w q) in
      record { long = w.long ∙ o.long; held = held_more (procedures rows h) (λ j x. In x (used_from rows (body_row rows j))) o.held m (λ x j f i. let b = o.held r j f in (b.0, used_operand rows h (body_row rows j) r x (body_below rows h j b.0) b.1 i)); roots = λ y x a i. near_trans (m.nearer x) (o.roots y x a i); passed = passed_more (expressions rows h) (operands_of rows) h.operands r t u l o.passed m }

  pub used_all : (t : List ℕ) → Used rows (instructions rows h) 0 t → ExpressionScopes rows t
  used_all t o = record { each = each; few = λ x. subst (λ (v : ℕ). v ≤ procedure_count rows) (sym (each x)) (use_at_most rows x) }
    where
      low : (k y : ℕ) → k < procedure_count rows → In y (steps_of rows (body_row rows k)) → y < instructions rows h
      low k y l i =
          let a : y ≤ body_row rows k = step_below rows h (body_row rows k) y (body_below rows h k l) i in
          let b : body_row rows k < instructions rows h = body_below rows h k l in
          omega arith

      each : (x : ℕ) → get_or t x 0 ≡ expression_scope rows x
      each x =
          use_scope rows x (get_or t x 0) (o.held x)
          (λ k l m. used_closed rows h (λ y. Near (get_or t y 0) (suc k)) (body_row rows k) (λ y e i j. near_trans (o.roots y e (low k y l i) j) (step_near rows y k l i)) (λ y z a b i. near_trans (o.passed y z (omega arith) a i) b) x (body_below rows h k l) m)

-- ---- what stands in a list is in it
in_at : (xs : List ℕ) (i : ℕ) → i < length xs → In (get_or xs i 0) xs
in_at [] i l = absurd (let z : ⊥ = omega arith in z)
in_at (x ∷ xs) zero l = here refl
in_at (x ∷ xs) (suc i) l = there (in_at xs i (omega arith))

pub in_same : {xs ys : List ℕ} (i : ℕ) → xs ≡ ys → i < length xs → In (get_or xs i 0) ys
in_same {xs} {ys} i e l = subst (λ (zs : List ℕ). In (get_or xs i 0) zs) e (in_at xs i l)

-- ---- the ends of the loops
pub owned_to : {rows t : List ℕ} {n m r q : ℕ} → n ≡ m → r ≡ q → Owned rows n r t → Owned rows m q t
owned_to {rows} {t} {n} {m} {r} {q} e f o = subst (λ (k : ℕ). Owned rows m k t) f (subst (λ (k : ℕ). Owned rows k r t) e o)

pub used_to : {rows t : List ℕ} {n m r q : ℕ} → n ≡ m → r ≡ q → Used rows n r t → Used rows m q t
used_to {rows} {t} {n} {m} {r} {q} e f o = subst (λ (k : ℕ). Used rows m k t) f (subst (λ (k : ℕ). Used rows k r t) e o)

within_to : (n m : ℕ) (xs ys : List ℕ) → ys ≡ xs → m ≤ n → ((x : ℕ) → In x xs → x < m) → Within n ys
within_to n m xs ys e l f = record { each = λ x i. let b : x < m = f x (subst (λ (t : List ℕ). In x t) e i) in let d : x < n = omega arith in d }

-- ---- the roots of a row are expression rows
pub roots_within : {rows : List ℕ} {n : ℕ} {xs ys : List ℕ} → Ready rows → (r : ℕ) → r < table_count rows instruction_section → most_expressions ≤ n → ys ≡ xs → ((x : ℕ) → In x xs → In x (roots_of rows r)) → Within n ys
roots_within {rows} {n} {xs} {ys} h r l m e f =
    within_to n (table_count rows expression_section) xs ys e (omega (arith, h.sized.expressions)) (λ x i. h.refers.roots r x l (f x i))
