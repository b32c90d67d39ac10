-- Every fault of an expression is at a row of its tree (`faults_in_tree`). So what is named of a declaration or an instruction is the
-- lowest of its expression's rows at fault, or, where the expression has a body that does not suit, the declaration or instruction
-- itself (`which_fault`); of a call it is always the call itself (`call_fault`). Assumes nothing.
use Rattle.std.specs.Prelude.{◌≡◌, Bool, true, false, ℕ, ◌+◌}
use Rattle.std.proofs.Math.Path.{refl, subst}
use Rattle.std.proofs.Common.{sym}
use mathlib.Core.List.Memᴰ
use mathlib.Core.List.{List, [], ◌∷◌, ◌++◌, Memᴰ}
use Rattle.std.proofs.Math.Option.{Option, some, none}
use Rattle.lingua.specs.Numbers.{instruction_place}
use Rattle.lingua.specs.Errors.{list_expected, no_coherence}
use Rattle.lingua.specs.Outcome.{Outcome, ok, fail, Result, ◌>>=◌, ◌>>◌, require, or_fail, or_else, answer_of, both}
use Rattle.lingua.specs.Body.{Body, is_boolean, same_body, element_body}
use Rattle.lingua.specs.Operation.{unary_body, binary_body}
use Rattle.lingua.specs.Expression.{Expression, constant, variable, current, unary, binary, lazy, choice, all_list, call}
use Rattle.lingua.specs.Typing.{TypeError, type_error, Entry, Typed, Finding, own_rule, Bodies, current_body, elements_at, check, lowest_fault, judged, given_fit, check_instruction}
use Rattle.safety.specs.Answers.{never_ok, same_fault}
use Rattle.safety.specs.Every.{Every, every_none, every_one, every_append, every_implies, every_at}
use Rattle.safety.specs.Faults.{Lowest, Least, lowest_is, some_fault}
use Rattle.safety.specs.EntryRows.{tree_rows}

-- ---- a property of all faults that are found
pub data EachFault {A : Type 0} (P : TypeError → Type 0) : Finding A → Type 0 where
  no_fault : (a : A) → EachFault P (ok a)
  each_fault : {es : List TypeError} → Every P es → EachFault P (fail es)

module _ {P : TypeError → Type 0} where
  each_then : {A B : Type 0} {o : Finding A} → EachFault P o → (k : A → Finding B) → ((a : A) → EachFault P (k a)) → EachFault P (o >>= k)
  each_then (no_fault a) k h = h a
  each_then (each_fault p) k h = each_fault p

  each_both : {A B : Type 0} {o : Finding A} {q : Finding B} → EachFault P o → EachFault P q → EachFault P (both o q)
  each_both (no_fault a) (no_fault b) = no_fault (a, b)
  each_both (no_fault a) (each_fault q) = each_fault q
  each_both (each_fault p) (no_fault b) = each_fault p
  each_both (each_fault p) (each_fault q) = each_fault (every_append p q)

  each_own : {A : Type 0} (r : ℕ) → ((n : ℕ) → P (type_error n r)) → (o : Result A) → EachFault P (own_rule r o)
  each_own r h (ok a) = no_fault a
  each_own r h (fail n) = each_fault (every_one (h n))

  each_unless : {A : Type 0} (t : Bool) (e : TypeError) → P e → {o : Finding A} → EachFault P o → EachFault P (require t (e ∷ []) >> o)
  each_unless true e h p = p
  each_unless false e h p = each_fault (every_one h)

each_implies : {A : Type 0} {P Q : TypeError → Type 0} → ((f : TypeError) → P f → Q f) → {o : Finding A} → EachFault P o → EachFault Q o
each_implies h (no_fault a) = no_fault a
each_implies h (each_fault p) = each_fault (every_implies h p)

-- ---- the rows
abbrev pub AtRowOf : List ℕ → TypeError → Type 0
AtRowOf rows f = Memᴰ f.place rows

-- an operand's rows are the row's
among : {A : Type 0} (rows more : List ℕ) {o : Finding A} → EachFault (AtRowOf rows) o → EachFault (AtRowOf (rows ++ more)) o
among rows more h = each_implies (λ f m. Memᴰ.append_left more m) h

behind : {A : Type 0} (more rows : List ℕ) {o : Finding A} → EachFault (AtRowOf rows) o → EachFault (AtRowOf (more ++ rows)) o
behind more rows h = each_implies (λ f m. Memᴰ.append_right more m) h

-- the row itself stands last
last : (rows : List ℕ) (r : ℕ) → Memᴰ r (rows ++ (r ∷ []))
last rows r = Memᴰ.append_right rows (Memᴰ.head refl)

-- both operands, then the row
pair_in : {A B : Type 0} (ms ns : List ℕ) (r : ℕ) {o : Finding A} {q : Finding B} → EachFault (AtRowOf ms) o → EachFault (AtRowOf ns) q → EachFault (AtRowOf ((ms ++ ns) ++ (r ∷ []))) (both o q)
pair_in ms ns r h k = among (ms ++ ns) (r ∷ []) (each_both (among ms ns h) (behind ms ns k))

current_in : (rows : List ℕ) (cur : Option Body) → EachFault (AtRowOf rows) (current_body cur)
unfolding current_body
current_in rows none = each_fault every_none
current_in rows (some b) = no_fault b

elements_in : (rows : List ℕ) (r : ℕ) (cur : Option Body) → EachFault (AtRowOf (rows ++ (r ∷ []))) (elements_at r cur)
unfolding elements_at
elements_in rows r cur =
    each_then (current_in (rows ++ (r ∷ [])) cur) _ (λ b. each_own r (λ n. last rows r) (or_fail (element_body b) list_expected))

module _ (vars : Bodies) where
  pub faults_in_tree : (e : Expression) (cur : Option Body) → EachFault (AtRowOf (tree_rows e)) (check e vars cur)
  unfolding check tree_rows
  faults_in_tree (constant r c) cur = no_fault _
  faults_in_tree (variable r n) cur = no_fault _
  faults_in_tree (current r) cur = each_then (current_in (r ∷ []) cur) _ (λ b. no_fault _)
  faults_in_tree (unary r o e) cur =
      each_then (among (tree_rows e) (r ∷ []) (faults_in_tree e cur)) _
      (λ x. each_then (each_own r (λ n. last (tree_rows e) r) (unary_body o x.body)) _ (λ b. no_fault _))
  faults_in_tree (binary r o e f) cur =
      each_then (pair_in (tree_rows e) (tree_rows f) r (faults_in_tree e cur) (faults_in_tree f cur)) _
      (λ xy. each_then (each_own r (λ n. last (tree_rows e ++ tree_rows f) r) (binary_body o xy.0.body xy.1.body)) _ (λ b. no_fault _))
  faults_in_tree (lazy r k e f) cur =
      each_then (pair_in (tree_rows e) (tree_rows f) r (faults_in_tree e cur) (faults_in_tree f cur)) _
      (λ xy. each_unless (is_boolean xy.0.body) _ (last (tree_rows e ++ tree_rows f) r) (each_unless (is_boolean xy.1.body) _ (last (tree_rows e ++ tree_rows f) r) (no_fault _)))
  faults_in_tree (choice r p e f) cur =
      each_then (among (tree_rows p ++ (tree_rows e ++ tree_rows f)) (r ∷ []) (each_both (among (tree_rows p) (tree_rows e ++ tree_rows f) (faults_in_tree p cur)) (behind (tree_rows p) (tree_rows e ++ tree_rows f) (each_both (among (tree_rows e) (tree_rows f) (faults_in_tree e cur)) (behind (tree_rows e) (tree_rows f) (faults_in_tree f cur)))))) _
      (λ xyz. each_unless (is_boolean xyz.0.body) _ (last (tree_rows p ++ (tree_rows e ++ tree_rows f)) r) (each_unless (same_body xyz.1.0.body xyz.1.1.body) _ (last (tree_rows p ++ (tree_rows e ++ tree_rows f)) r) (no_fault _)))
  faults_in_tree (all_list r e) cur =
      each_then (each_both (among (tree_rows e) (r ∷ []) (faults_in_tree e (answer_of (elements_at r cur)))) (elements_in (tree_rows e) r cur)) _
      (λ xb. each_unless (is_boolean xb.0.body) _ (last (tree_rows e) r) (no_fault _))

-- ---- which fault is named
pub data Named (e : Expression) (vars : Bodies) (b : Body) (suits : Body → Bool) (own f : TypeError) : Type 0 where
  -- the lowest of the expression's rows at fault
  at_row : {es : List TypeError} → check e vars (some b) ≡ fail es → Lowest es f → Memᴰ f.place (tree_rows e) → Named e vars b suits own f
  -- the declaration or instruction itself, since the expression has a body that does not suit
  at_own_place : {t : Typed} → check e vars (some b) ≡ ok t → suits t.body ≡ false → f ≡ own → Named e vars b suits own f

module _ (e : Expression) (vars : Bodies) (b : Body) (suits : Body → Bool) (own f : TypeError) where
  own_named : (t : Typed) → check e vars (some b) ≡ ok t → (s : Bool) → suits t.body ≡ s → (require s own >> ok t.entries) ≡ fail f → Named e vars b suits own f
  own_named t q true p z = never_ok (sym z)
  own_named t q false p z = at_own_place q p (sym (same_fault z))

  row_named : (es : List TypeError) → check e vars (some b) ≡ fail es → EachFault {A = Typed} (AtRowOf (tree_rows e)) (fail es) → (o : Option TypeError) → lowest_fault es ≡ o → or_else o own ≡ f → Named e vars b suits own f
  unfolding Least
  row_named es q (each_fault h) none p z = absurd (some_fault vars e b es q p)
  row_named es q (each_fault h) (some g) p z =
      let l : Lowest es f = subst (λ (x : TypeError). Lowest es x) z (subst (λ (o : Option TypeError). Least es o) p (lowest_is es)) in
      at_row q l (every_at h l.among)

  by_finding : (o : Finding Typed) → check e vars (some b) ≡ o → EachFault (AtRowOf (tree_rows e)) o → judged o suits own ≡ fail f → Named e vars b suits own f
  unfolding judged
  by_finding (ok t) q h z = own_named t q (suits t.body) refl z
  by_finding (fail es) q h z = row_named es q h (lowest_fault es) refl (same_fault z)

  pub which_fault : judged (check e vars (some b)) suits own ≡ fail f → Named e vars b suits own f
  which_fault z = by_finding (check e vars (some b)) refl (faults_in_tree vars e (some b)) z

-- a call has no expression: its own place is named, and only where a variable that it gives has another body than its parameter
module _ (procs : ℕ → Bodies) (vars : Bodies) (r k : ℕ) (vs rs : List ℕ) (f : TypeError) where
  own_fault : (t : Bool) → ◌≡◌ {A = Outcome TypeError (List Entry)} (require t (type_error no_coherence (instruction_place + r)) >> ok []) (fail f) → (t ≡ false) × (f ≡ type_error no_coherence (instruction_place + r))
  own_fault true z = never_ok (sym z)
  own_fault false z = (refl, sym (same_fault z))

  pub call_fault : check_instruction procs vars (call r k vs rs) ≡ fail f → (given_fit vars (vs ++ rs) (procs k) 0 ≡ false) × (f ≡ type_error no_coherence (instruction_place + r))
  unfolding check_instruction
  call_fault z = own_fault (given_fit vars (vs ++ rs) (procs k) 0) z
