-- The walk of an all_list yoke over the elements of the current value. Assumes nothing.
use mathlib.Core.Path.{◌≡◌, refl, sym, ◌∙◌, subst}
use mathlib.Core.Bool.{Bool}
use mathlib.Core.List.{List, [], ◌∷◌, ◌++◌, map}
use Prim.Native.Nat.{ℕ, ◌+◌, ◌-◌, ◌*◌, ◌≤◌, ◌<◌}
use native.Mathlib.Omega.{arith}
use lib.ListN.{length, take, drop, get_or}
use lib.IntN.{ℤ}
use Rattle.lingua.specs.Numbers.{body_cells}
use Rattle.lingua.specs.Outcome.{ok, fail, Result, all_answers, ◌>>=◌}
use Rattle.lingua.specs.Body.{Body, boolean, list_of, size}
use Rattle.lingua.specs.Value.{Value, count_values, value_list, as_items, truth, as_truth, all_of}
use Rattle.lingua.specs.Expression.{Expression, all_list}
use Rattle.lingua.specs.Run.{Declaration}
use Rattle.lingua.specs.Store.{Variable, contents}
use Rattle.laws.specs.Outcomes.{is_list}
use Rattle.lingua.specs.Erased.{values_of, eval_erased}
use Rattle.cells.specs.Stack.{Lies, Leaves}
use Rattle.cells.proofs.Elements.{list_size}
use Rattle.cells.proofs.Operands.{leaves_as}
use Rattle.cells.proofs.Walking.{counted, Walked, counted_elements, some_cell, walks, turn_room, element_at, element_lies, gathered_more, gathered_all}
use Rattle.std.specs.Prelude as std
use Rattle.lingua.specs.declared.errors.Error.{Error}
use Rattle.run.specs.Reached.{Tells}
use Rattle.erased_row.specs.Meaning.{World, Current, Passed, Ready, Evaluates, all_told}
use Rattle.erased_row.proofs.Leaving.{leaves_from}
use Rattle.erased_row.proofs.Passing.{all_passed}

-- ---- a list, with the size of its elements and the inner yoke that the type check passed on them
pub record Listed (rows : List ℕ) (layout : List ℕ) (cells : List ℤ) (states : List ℕ) (now : List ℤ) (e : Expression) (width : ℕ) (ds : List Declaration) (vs : List Variable) (c : Body) (x : Value) : Type 0 where
  pub world : World rows layout cells states ds vs
  pub lies : Lies now 0 (list_of c) x
  pub small : size (list_of c) ≤ body_cells
  pub width_is : width ≡ size c
  pub passed : Passed layout ds e c boolean

pub record SomeListed (rows : List ℕ) (layout : List ℕ) (cells : List ℤ) (states : List ℕ) (now : List ℤ) (e : Expression) (width : ℕ) (ds : List Declaration) (vs : List Variable) (x : Value) (b : Body) : Type 0 where
  pub element : Body
  pub listed : Listed rows layout cells states now e width ds vs element x
  pub is : boolean ≡ b

module _ {rows : List ℕ} {layout : List ℕ} {cells : List ℤ} {states : List ℕ} {now : List ℤ} {row : ℕ} {e : Expression} (width : ℕ) (q : width ≡ get_or layout (2 * row + 1) 0) where
  pub listed : {ds : List Declaration} {vs : List Variable} {cur b : Body} {x : Value} → World rows layout cells states ds vs → Current now cur x → Passed layout ds (all_list row e) cur b → SomeListed rows layout cells states now e width ds vs x b
  listed {cur = cur} {x = x} w h d =
      let u = all_passed d in
      let l : cur ≡ list_of u.element = is_list cur u.element u.list in
      record {
        element = u.element;
        listed = record {
          world = w;
          lies = subst (λ (c : Body). Lies now 0 c x) l h.lies;
          small = subst (λ (c : Body). size c ≤ body_cells) l h.small;
          width_is = q ∙ u.holds.second_at;
          passed = u.passed;
        };
        is = u.is;
      }

  pub ready_listed : (r : Ready rows layout cells states now (all_list row e)) → SomeListed rows layout cells states now e width r.declarations r.store r.value r.result
  ready_listed r = listed r.world r.is r.passed

-- what the inner yoke gives on the first i elements
abbrev pub first_results : Expression → List Variable → Value → ℕ → List (Result Value)
first_results e vs x i = map (λ v. eval_erased e (values_of (contents vs)) v) (take i (value_list (as_items x)))

module _ {rows : List ℕ} {layout : List ℕ} {cells : List ℤ} {states : List ℕ} {now : List ℤ} {e : Expression} {width : ℕ} {ds : List Declaration} {vs : List Variable} {c : Body} {x : Value} (h : Listed rows layout cells states now e width ds vs c x) where
  pub list_cell : 0 < length now
  list_cell = some_cell h.lies

  pub list_walks : Walked now width
  list_walks = walks h.lies width h.width_is h.small

  module _ (i at : ℕ) (p : at ≡ 1 + i * width) (l : i < counted now) where
    more : i < count_values (as_items x)
    more = omega (arith, l, counted_elements h.lies)

    -- it lies within the current value, which is small
    pub element_within : (at + width ≤ length now) × (at + width ≤ body_cells)
    element_within =
        let k = list_walks in
        let t = turn_room i (counted now) at width p l k.few in
        (omega (arith, t, k.long), omega (arith, t, k.room))

    element_current : Current (take (at + width - at) (drop at now)) c (element_at x i)
    element_current = record { lies = element_lies h.lies i at width h.width_is p more; small = omega (arith, list_size c, h.small) }

    pub element_ready : Ready rows layout cells states (take (at + width - at) (drop at now)) e
    element_ready = record { declarations = ds; store = vs; world = h.world; body = c; value = element_at x i; is = element_current; result = boolean; passed = h.passed }

    -- one result more
    pub sees_more : {n : ℕ} {s : List ℤ} (r : std.Result Bool Error) → Evaluates rows layout cells states (take (at + width - at) (drop at now)) e n s
        → ((o : Result Value) → Leaves n s boolean o → Tells r (all_told (first_results e vs x i ++ (o ∷ [])))) → Tells r (all_told (first_results e vs x (i + 1)))
    sees_more r k f =
        subst (λ (rs : List (Result Value)). Tells r (all_told rs))
        (sym (gathered_more (λ v. eval_erased e (values_of (contents vs)) v) x i more))
        (f _ (k.leaves ds vs c boolean (element_at x i) h.world element_current h.passed))

  sees_all : (r : std.Result Bool Error) (i : ℕ) → i ≡ counted now → Tells r (all_told (first_results e vs x i)) → Tells r (all_told (map (λ v. eval_erased e (values_of (contents vs)) v) (value_list (as_items x))))
  sees_all r i q g = subst (λ (rs : List (Result Value)). Tells r (all_told rs)) (gathered_all (λ v. eval_erased e (values_of (contents vs)) v) x i (q ∙ counted_elements h.lies)) g

-- ---- the yoke
concluded : (o : Result (List Value)) → ((o >>= λ xs. ok (all_of as_truth xs)) >>= λ b. ok (truth b)) ≡ (o >>= λ xs. ok (truth (all_of as_truth xs)))
concluded (ok xs) = refl
concluded (fail n) = refl

all_is : (row : ℕ) (e : Expression) (vs : List Variable) (x : Value) → (all_told (map (λ v. eval_erased e (values_of (contents vs)) v) (value_list (as_items x))) >>= λ b. ok (truth b)) ≡ eval_erased (all_list row e) (values_of (contents vs)) x
unfolding eval_erased all_told
all_is row e vs x = concluded (all_answers (map (λ v. eval_erased e (values_of (contents vs)) v) (value_list (as_items x))))

pub all_evaluates : {rows : List ℕ} {layout : List ℕ} {cells : List ℤ} {states : List ℕ} {now : List ℤ} (row : ℕ) (e : Expression) (width : ℕ) → width ≡ get_or layout (2 * row + 1) 0 → {n : ℕ} {s : List ℤ} (r : std.Result Bool Error) (i : ℕ) → i ≡ counted now
    → ((ds : List Declaration) (vs : List Variable) (c : Body) (x : Value) → Listed rows layout cells states now e width ds vs c x → Tells r (all_told (first_results e vs x i)))
    → ((rs : List (Result Value)) → Tells r (all_told rs) → Leaves n s boolean (all_told rs >>= λ b. ok (truth b))) → Evaluates rows layout cells states now (all_list row e) n s
all_evaluates row e width q r i z g f = record {
  leaves = λ ds vs cur b x w h d.
      let k = listed width q w h d in
      leaves_as (sym k.is) (leaves_from (all_is row e vs x) (f _ (sees_all k.listed r i z (g ds vs k.element x k.listed))));
}
