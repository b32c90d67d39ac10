-- The walk of an all_list yoke over the elements of the current value. Assumes nothing.
use mathlib.Core.Path.{◌≡◌, refl, sym, ap, ◌∙◌, subst}
use mathlib.Core.List.{List, [], ◌∷◌, ◌++◌, map, map-map}
use mathlib.Core.Option.{Option, some}
use Prim.Native.Nat.{ℕ, ◌+◌, ◌-◌, ◌*◌, ◌≤◌, ◌<◌}
use native.Mathlib.Omega.{arith}
use Rattle.lingua.specs.Numbers.{body_cells}
use lib.ListN.{length, take, drop, get_or}
use lib.IntN.{ℤ}
use Rattle.std.specs.Prelude.{Result}
use Rattle.lingua.specs.declared.errors.Error.{Error}
use Rattle.lingua.specs.Errors.{list_expected}
use Rattle.lingua.specs.Outcome.{ok, fail, Result as Outcome, or_fail, ◌>>=◌}
use Rattle.lingua.specs.Body.{Body, list_of, size, element_body}
use Rattle.lingua.specs.Value.{Value, count_values, value_list, as_items, Composite, composite}
use Rattle.lingua.specs.Expression.{Expression, all_list}
use Rattle.lingua.specs.Evaluation.{Variables, eval, elements_of, all_true}
use Rattle.laws.specs.Outcomes.{is_list}
use Rattle.body.specs.Encode.{Holds, Held}
use Rattle.body.proofs.Tags as tags
use Rattle.cells.specs.Stack.{Lies}
use Rattle.cells.proofs.Walking.{Walked, counted, some_cell, walks, turn_room, element_at, element_lies, gathered_more, gathered_all}
use Rattle.checked_row.specs.declared.tally.Tally.{Tally}
use Rattle.checked_row.specs.Meaning.{Current, HasCurrent, Sees}

-- ---- a current value that is no list
pub no_list : {current : List ℤ} {body : List ℕ} {x : Composite} (row : ℕ) (e : Expression) (vars : Variables) → Current current body x → (get_or body 0 0 ≡ 4 → ⊥) → eval (all_list row e) vars x ≡ fail list_expected
unfolding eval elements_of
no_list {current} {body} {x} row e vars h f =
    ap (λ (m : Option Body). (or_fail m list_expected >>= λ b. ok (map (λ v. composite b v) (value_list (as_items x.value)))) >>= λ xs. all_true (map (λ y. eval e vars y) xs)) (tags.not_list body x.body h.holds f)

-- ---- a list
pub record IsList (current : List ℤ) (body : List ℕ) (x : Composite) : Type 0 where
  pub element : Body
  pub has : element_body x.body ≡ some element
  pub holds : Holds body (list_of element)
  pub lies : Lies current 0 (list_of element) x.value

pub current_list : {current : List ℤ} {body : List ℕ} {x : Composite} → Current current body x → get_or body 0 0 ≡ 4 → IsList current body x
current_list {current} {body} {x} h e =
    let v = tags.is_list body x.body h.holds e in
    record { element = v.element; has = v.is; holds = v.holds; lies = subst (λ (b : Body). Lies current 0 b x.value) (is_list x.body v.element v.is) h.lies }

module _ {current : List ℤ} {body inner : List ℕ} (h : HasCurrent current body) (e : get_or body 0 0 ≡ 4) (taken : (b : Body) → Holds body (list_of b) → Holds inner b) where
  pub element_held : Held inner
  element_held = let l = current_list h.is e in record { body = l.element; holds = taken l.element l.holds }

  pub list_cell : 0 < length current
  list_cell = some_cell (current_list h.is e).lies

  pub list_walks : (width : ℕ) → ((b : Body) → Holds inner b → width ≡ size b) → Walked current width
  list_walks width m =
      let l = current_list h.is e in
      walks l.lies width (m l.element (taken l.element l.holds)) l.holds.few_cells

  -- element i lies within the list, in the first 64 cells
  pub list_turn : (width : ℕ) → ((b : Body) → Holds inner b → width ≡ size b) → (i : ℕ) → i < counted current → (1 + i * width + width ≤ body_cells) × (1 + i * width + width ≤ length current)
  list_turn width m i l = let k = list_walks width m in let t = turn_room i _ _ width refl l k.few in (omega (arith, t, k.room), omega (arith, t, k.long))

-- ---- one element
pub element_current : {current : List ℤ} {inner : List ℕ} {b : Body} {x : Value} → Lies current 0 (list_of b) x → Holds inner b → (i at w : ℕ) → w ≡ size b → at ≡ 1 + i * w → i < count_values (as_items x)
    → Current (take (at + w - at) (drop at current)) inner (composite b (element_at x i))
element_current lies holds i at w z p l = record { lies = element_lies lies i at w z p l; holds = holds }

-- ---- the results
pub sees_more : {s : Result Tally Error} (g : Value → Outcome Composite) (x : Value) (i : ℕ) → i < count_values (as_items x) → Sees s (map g (take i (value_list (as_items x))) ++ (g (element_at x i) ∷ [])) → Sees s (map g (take (i + 1) (value_list (as_items x))))
sees_more {s} g x i l h = subst (λ (rs : List (Outcome Composite)). Sees s rs) (sym (gathered_more g x i l)) h

pub sees_all : {s : Result Tally Error} (g : Value → Outcome Composite) (x : Value) (i : ℕ) → i ≡ count_values (as_items x) → Sees s (map g (take i (value_list (as_items x)))) → Sees s (map g (value_list (as_items x)))
sees_all {s} g x i e h = subst (λ (rs : List (Outcome Composite)). Sees s rs) (gathered_all g x i e) h

-- ---- the yoke
pub all_is : {current : List ℤ} {body : List ℕ} {x : Composite} (row : ℕ) (e : Expression) (vars : Variables) (l : IsList current body x) → all_true (map (λ v. eval e vars (composite l.element v)) (value_list (as_items x.value))) ≡ eval (all_list row e) vars x
unfolding eval elements_of
all_is {current} {body} {x} row e vars l =
    sym
    (ap (λ (m : Option Body). (or_fail m list_expected >>= λ b. ok (map (λ v. composite b v) (value_list (as_items x.value)))) >>= λ xs. all_true (map (λ y. eval e vars y) xs)) l.has
    ∙ ap (λ (rs : List (Outcome Composite)). all_true rs) (map-map (λ y. eval e vars y) (λ v. composite l.element v) (value_list (as_items x.value))))
