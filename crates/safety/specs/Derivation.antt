-- What the type check finds, as a relation: an expression has a body, on a current value's body, with a property at the entry of each of
-- its rows. Whatever holds of all entries that the check records is the property at each row: `check_derives`. So the entry of each row,
-- its place in the layout table, and the bodies of its operands are known at once. Assumes nothing.
use Rattle.std.specs.Prelude.{◌≡◌, refl, true, false, ◌||◌, ℕ}
use mathlib.Core.List.{List, [], ◌∷◌, ◌++◌, Memᴰ}
use Rattle.std.proofs.Math.Option.{some}
use Rattle.lingua.specs.Outcome.{ok}
use Rattle.lingua.specs.Body.{Body, boolean, size, element_body}
use Rattle.lingua.specs.Value.{Composite}
use Rattle.lingua.specs.Operation.{Unary, Binary, unary_body, binary_body}
use Rattle.lingua.specs.Expression.{Connective, Expression, constant, variable, current, unary, binary, lazy, choice, all_list, Yoke, always, yoke, Instruction, skip, assign, set_yoke, sequence, branch, loop, handle, call}
use Rattle.lingua.specs.Typing.{Entry, Typed, unary_second, binary_second, Bodies, check, check_yoke, no_current_body, given_fit, check_instruction}
use Rattle.lingua.specs.References.{reads_variable}
use Rattle.laws.specs.Outcomes.{or_left, or_right}
use Rattle.safety.specs.Answers.{true_is_false}
use Rattle.safety.specs.Constants.{ClosedYoke}
use Rattle.safety.specs.Checked.{entry, Checked, checked_constant, checked_variable, checked_current, checked_unary, checked_binary, checked_lazy, checked_choice, checked_all_list, CheckedYoke, CheckedRow, check_checked, yoke_checked, row_checked}
use Rattle.safety.specs.Every.{Every, every_none, every_more, every_left, every_right, every_member}

-- no property at all
abbrev pub Anything : Entry → Type 0
Anything x = Unit {0}

pub anything : (es : List Entry) → Every Anything es
anything [] = every_none
anything (x ∷ es) = every_more tt (anything es)

-- H holds of the entry of each row
pub data Derived (H : Entry → Type 0) (vars : Bodies) : Expression → Body → Body → Type 0 where
  of_constant : {r : ℕ} {c : Composite} {cur b : Body} → c.body ≡ b → H (entry r cur b 0) → Derived H vars (constant r c) cur b
  of_variable : {r n : ℕ} {cur b : Body} → vars n ≡ b → H (entry r cur b 0) → Derived H vars (variable r n) cur b
  of_current : {r : ℕ} {cur b : Body} → cur ≡ b → H (entry r cur b 0) → Derived H vars (current r) cur b
  of_unary : {r : ℕ} {o : Unary} {e : Expression} {cur b c : Body} → Derived H vars e cur c → unary_body o c ≡ ok b
      → H (entry r cur b (unary_second o c)) → Derived H vars (unary r o e) cur b
  of_binary : {r : ℕ} {o : Binary} {e f : Expression} {cur b c d : Body} → Derived H vars e cur c → Derived H vars f cur d → binary_body o c d ≡ ok b
      → H (entry r cur b (binary_second o c d b)) → Derived H vars (binary r o e f) cur b
  of_lazy : {r : ℕ} {k : Connective} {e f : Expression} {cur b : Body} → Derived H vars e cur boolean → Derived H vars f cur boolean → boolean ≡ b
      → H (entry r cur b 0) → Derived H vars (lazy r k e f) cur b
  of_choice : {r : ℕ} {p e f : Expression} {cur b : Body} → Derived H vars p cur boolean → Derived H vars e cur b → Derived H vars f cur b
      → H (entry r cur b 0) → Derived H vars (choice r p e f) cur b
  of_all_list : {r : ℕ} {e : Expression} {cur b c : Body} → element_body cur ≡ some c → Derived H vars e c boolean → boolean ≡ b
      → H (entry r cur b (size c)) → Derived H vars (all_list r e) cur b

-- ---- yokes and instructions
unfoldable pub DerivedYoke : (Entry → Type 0) → Bodies → Yoke → Body → Type 0
DerivedYoke H vars always b = Unit {0}
DerivedYoke H vars (yoke e) b = Derived H vars e b boolean

-- an instruction's own row; `procs` are the declared bodies of each procedure's variables, and what a call gives has its parameters'
unfoldable pub DerivedRow : (Entry → Type 0) → (ℕ → Bodies) → Bodies → Instruction → Type 0
DerivedRow H procs vars (skip r) = Unit {0}
DerivedRow H procs vars (assign r n e) = Derived H vars e no_current_body (vars n)
DerivedRow H procs vars (set_yoke r n y) = DerivedYoke H vars y (vars n)
DerivedRow H procs vars (sequence r i j) = Unit {0}
DerivedRow H procs vars (branch r e i j) = Derived H vars e no_current_body boolean
DerivedRow H procs vars (loop r e i) = Derived H vars e no_current_body boolean
DerivedRow H procs vars (handle r n i) = Unit {0}
DerivedRow H procs vars (call r k vs rs) = given_fit vars (vs ++ rs) (procs k) 0 ≡ true

-- ---- from the check
module _ {H : Entry → Type 0} where
  -- a row's own entry is the last of its tree's
  own_entry : (es : List Entry) {x : Entry} → Every H (es ++ (x ∷ [])) → H x
  own_entry es {x} h = only (every_right es (x ∷ []) h)
    where
      only : {y : Entry} → Every H (y ∷ []) → H y
      only (every_more k ks) = k

  pub checked_derives : {vars : Bodies} {e : Expression} {cur b : Body} {es : List Entry} → Checked vars e cur b es → Every H es → Derived H vars e cur b
  checked_derives checked_constant h = of_constant refl (own_entry [] h)
  checked_derives checked_variable h = of_variable refl (own_entry [] h)
  checked_derives checked_current h = of_current refl (own_entry [] h)
  checked_derives (checked_unary {xs = xs} c q) h = of_unary (checked_derives c (every_left xs _ h)) q (own_entry xs h)
  checked_derives (checked_binary {xs = xs} {ys} c d q) h =
      let hs = every_left (xs ++ ys) _ h in
      of_binary (checked_derives c (every_left xs ys hs)) (checked_derives d (every_right xs ys hs)) q (own_entry (xs ++ ys) h)
  checked_derives (checked_lazy {xs = xs} {ys} c d) h =
      let hs = every_left (xs ++ ys) _ h in
      of_lazy (checked_derives c (every_left xs ys hs)) (checked_derives d (every_right xs ys hs)) refl (own_entry (xs ++ ys) h)
  checked_derives (checked_choice {xs = xs} {ys} {zs} p c d) h =
      let hs = every_left (xs ++ (ys ++ zs)) _ h in
      let ks = every_right xs (ys ++ zs) hs in
      of_choice (checked_derives p (every_left xs (ys ++ zs) hs)) (checked_derives c (every_left ys zs ks)) (checked_derives d (every_right ys zs ks)) (own_entry (xs ++ (ys ++ zs)) h)
  checked_derives (checked_all_list {xs = xs} q c) h = of_all_list q (checked_derives c (every_left xs _ h)) refl (own_entry xs h)

module _ {H : Entry → Type 0} (vars : Bodies) where
  pub check_derives : (e : Expression) (cur : Body) (t : Typed) → check e vars (some cur) ≡ ok t → Every H t.entries → Derived H vars e cur t.body
  check_derives e cur t q h = checked_derives (check_checked vars e cur t q) h

  yoke_derived : (y : Yoke) (b : Body) (es : List Entry) → CheckedYoke vars y b es → Every H es → DerivedYoke H vars y b
  unfolding CheckedYoke DerivedYoke
  yoke_derived always b es c h = tt
  yoke_derived (yoke e) b es c h = checked_derives c h

  pub yoke_derives : (y : Yoke) (b : Body) (p : ℕ) (es : List Entry) → check_yoke y vars b p ≡ ok es → Every H es → DerivedYoke H vars y b
  yoke_derives y b p es q h = yoke_derived y b es (yoke_checked vars y b p es q) h

module _ {H : Entry → Type 0} (procs : ℕ → Bodies) (vars : Bodies) where
  row_derived : (i : Instruction) (es : List Entry) → CheckedRow procs vars i es → Every H es → DerivedRow H procs vars i
  unfolding CheckedRow DerivedRow
  row_derived (skip r) es c h = tt
  row_derived (assign r n e) es c h = checked_derives c h
  row_derived (set_yoke r n y) es c h = yoke_derived vars y (vars n) es c h
  row_derived (sequence r i j) es c h = tt
  row_derived (branch r e i j) es c h = checked_derives c h
  row_derived (loop r e i) es c h = checked_derives c h
  row_derived (handle r n i) es c h = tt
  row_derived (call r k vs rs) es c h = c.1

  pub row_derives : (i : Instruction) (es : List Entry) → check_instruction procs vars i ≡ ok es → Every H es → DerivedRow H procs vars i
  row_derives i es q h = row_derived i es (row_checked procs vars i es q) h

-- each row of the tree has an entry, with its current body, its result's and its second number
pub check_entries : (vars : Bodies) (e : Expression) (cur : Body) (t : Typed) → check e vars (some cur) ≡ ok t → Derived (λ x. Memᴰ x t.entries) vars e cur t.body
check_entries vars e cur t q = checked_derives (check_checked vars e cur t q) (every_member t.entries)

-- ---- another property
module _ {H K : Entry → Type 0} (f : (x : Entry) → H x → K x) {vars : Bodies} where
  pub derived_implies : {e : Expression} {cur b : Body} → Derived H vars e cur b → Derived K vars e cur b
  derived_implies (of_constant {r} {c} {cur} {b} q h) = of_constant q (f (entry r cur b 0) h)
  derived_implies (of_variable {r} {n} {cur} {b} q h) = of_variable q (f (entry r cur b 0) h)
  derived_implies (of_current {r} {cur} {b} q h) = of_current q (f (entry r cur b 0) h)
  derived_implies (of_unary {r} {o} {e} {cur} {b} {c} d q h) = of_unary (derived_implies d) q (f (entry r cur b (unary_second o c)) h)
  derived_implies (of_binary {r} {o} {cur = cur} {b} {c = j} {d = k} d g q h) = of_binary (derived_implies d) (derived_implies g) q (f (entry r cur b (binary_second o j k b)) h)
  derived_implies (of_lazy {r} {cur = cur} {b} d g q h) = of_lazy (derived_implies d) (derived_implies g) q (f (entry r cur b 0) h)
  derived_implies (of_choice {r} {cur = cur} {b} p d g h) = of_choice (derived_implies p) (derived_implies d) (derived_implies g) (f (entry r cur b 0) h)
  derived_implies (of_all_list {r} {cur = cur} {b} {c} q d p h) = of_all_list q (derived_implies d) p (f (entry r cur b (size c)) h)

-- ---- other variables
-- an expression that reads no variable has its body whatever the variables' are
module _ {H : Entry → Type 0} {vars : Bodies} (others : Bodies) where
  pub derived_closed : {e : Expression} {cur b : Body} → reads_variable e ≡ false → Derived H vars e cur b → Derived H others e cur b
  unfolding reads_variable
  derived_closed z (of_constant q h) = of_constant q h
  derived_closed z (of_variable q h) = true_is_false z
  derived_closed z (of_current q h) = of_current q h
  derived_closed z (of_unary d q h) = of_unary (derived_closed z d) q h
  derived_closed z (of_binary {e = e} {f} d g q h) =
      of_binary (derived_closed (or_left (reads_variable e) (reads_variable f) z) d) (derived_closed (or_right (reads_variable e) (reads_variable f) z) g) q h
  derived_closed z (of_lazy {e = e} {f} d g q h) =
      of_lazy (derived_closed (or_left (reads_variable e) (reads_variable f) z) d) (derived_closed (or_right (reads_variable e) (reads_variable f) z) g) q h
  derived_closed z (of_choice {p = p} {e} {f} c d g h) =
      let y = or_right (reads_variable p) (reads_variable e || reads_variable f) z in
      of_choice (derived_closed (or_left (reads_variable p) (reads_variable e || reads_variable f) z) c)
      (derived_closed (or_left (reads_variable e) (reads_variable f) y) d) (derived_closed (or_right (reads_variable e) (reads_variable f) y) g) h
  derived_closed z (of_all_list q d p h) = of_all_list q (derived_closed z d) p h

pub yoke_closed : (H : Entry → Type 0) (vars others : Bodies) (y : Yoke) (b : Body) → ClosedYoke y → DerivedYoke H vars y b → DerivedYoke H others y b
unfolding DerivedYoke ClosedYoke
yoke_closed H vars others always b c d = tt
yoke_closed H vars others (yoke e) b c d = derived_closed others c.reads_none d
