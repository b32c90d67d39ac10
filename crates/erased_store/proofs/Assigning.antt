-- A value of a variable's declared body: its limit is asked of its first cell, and what is stored is what the definition assigns. Assumes
-- nothing.
use mathlib.Core.Path.{◌≡◌, refl, sym, ap, ◌∙◌, subst}
use mathlib.Core.Bool.{Bool, true, false, ◌&&◌}
use mathlib.Core.List.{List, [], ◌++◌}
use mathlib.Core.Option.{Option, some, none}
use Prim.Native.Nat.{ℕ, ◌+◌, ◌*◌, ◌≤◌, ◌<◌}
use native.Mathlib.Omega.{arith}
use lib.IntN.{ℤ, pos}
use lib.ListN.{length, take, drop, get_or, set}
use lib.Seq.{paste}
use Rattle.lingua.specs.Numbers.{body_cells, expression_section}
use Rattle.lingua.specs.Rows.{table_count}
use Rattle.lingua.specs.Errors.{yoke_not_satisfied}
use Rattle.lingua.specs.Outcome.{ok, fail, Result, require, ◌>>=◌, ◌>>◌}
use Rattle.lingua.specs.Value.{Value, as_truth, as_whole, Composite}
use Rattle.lingua.specs.Expression.{Yoke}
use Rattle.lingua.specs.Store.{Limit, Variable, variable_at, contents, with_content, within, assigned, yoke_at, fill_at}
use Rattle.lingua.specs.Trees.{yoke_tree}
use Rattle.lingua.specs.Typing.{scope_bodies}
use Rattle.lingua.specs.Run.{Profile, scope_declarations}
use Rattle.safety.specs.Derivation.{DerivedYoke}
use Rattle.lingua.specs.Erased.{values_of, yoke_erased, admitted_erased, yoke_holds_erased}
use Rattle.safety.specs.ErasedSteps.{assigned_erased_lem}
use Rattle.safety.specs.Layout.{HoldsIn}
use Rattle.safety.specs.Programs.{YokesDerived}
use Rattle.profile.specs.Variables.{LimitAt}
use Rattle.profile.specs.Yokes.{always_is}
use Rattle.cells.proofs.Operands.{lies_as}
use Rattle.cells.proofs.Singles.{quantity_cell}
use Rattle.run.specs.Reached.{lent, Settles}
use Rattle.run.specs.Memory.{Admits}
use Rattle.run.proofs.Parts
use Rattle.run.proofs.Settling.{keeps, stores_as}
use Rattle.run.proofs.Storing.{states_stored}
use Rattle.erased_row.specs.Meaning.{Current, ReadyYoke, Running}
use Rattle.erased_store.specs.Meaning.{ValueFor, StoreRoom, Satisfies, AdmitsValue}
use Rattle.erased_row.proofs.Cycle.{memory_of}
use Rattle.erased_store.proofs.Values.{value_lies, value_stored}
use Rattle.erased_store.proofs.Keeping.{content_running}
use Rattle.lingua.specs.Body.{is_quantity}

-- ---- the yoke, then the limit
limit_behind : (o : Result Value) (b : Bool) → (o >>= λ t. require (as_truth t && b) yoke_not_satisfied) ≡ ((o >>= λ t. require (as_truth t) yoke_not_satisfied) >> require b yoke_not_satisfied)
limit_behind (fail n) b = refl
limit_behind (ok v) b = by (as_truth v)
  where
    by : (t : Bool) → require (t && b) yoke_not_satisfied ≡ (require t yoke_not_satisfied >> require b yoke_not_satisfied)
    by true = refl
    by false = refl

module _ {p : Profile} {a : ℕ} {rows : List ℕ} {layout : List ℕ} {limits cells : List ℤ} {states : List ℕ} {vs : List Variable} (w : Running p a rows layout limits (lent cells states []) vs) (n : ℕ) where
  module _ (x : Composite) (b : x.body ≡ scope_bodies p a n) where
    limit : Bool
    limit = within (variable_at vs n).limit (as_whole x.value)

    new : List Variable
    new = set vs n (with_content (variable_at vs n) x)

    checked : assigned vs n x ≡ ((yoke_holds_erased (variable_at vs n).yoke (values_of (contents vs)) (some x.value) >> require limit yoke_not_satisfied) >> ok new)
    unfolding admitted_erased yoke_holds_erased limit new
    checked =
        assigned_erased_lem (HoldsIn layout) (scope_declarations p a) vs w.kept w.world.fit w.passed_yokes n x b
        ∙ ap (λ (o : Result (Unit {0})). o >> ok (set vs n (with_content (variable_at vs n) x))) (limit_behind (yoke_erased (variable_at vs n).yoke (values_of (contents vs)) x.value) (within (variable_at vs n).limit (as_whole x.value)))

    pub yoke_fails : {r : ℕ} → Admits r (yoke_holds_erased (variable_at vs n).yoke (values_of (contents vs)) (some x.value)) → (r ≡ 0 → ⊥) → assigned vs n x ≡ fail r
    yoke_fails h f = checked ∙ ap (λ (o : Result (Unit {0})). (o >> require limit yoke_not_satisfied) >> ok new) (h.error f)

    module _ (s : Satisfies vs n x) where
      limit_asked : assigned vs n x ≡ (require limit yoke_not_satisfied >> ok new)
      limit_asked = checked ∙ ap (λ (o : Result (Unit {0})). (o >> require limit yoke_not_satisfied) >> ok new) s.holds

      limit_fails : limit ≡ false → assigned vs n x ≡ fail yoke_not_satisfied
      limit_fails e = limit_asked ∙ ap (λ (c : Bool). require c yoke_not_satisfied >> ok new) e

      limit_passes : limit ≡ true → assigned vs n x ≡ ok (set vs n (with_content (variable_at vs n) x))
      unfolding new
      limit_passes e = limit_asked ∙ ap (λ (c : Bool). require c yoke_not_satisfied >> ok new) e

  -- ---- the value's first cell
  module _ {width : ℕ} {value : List ℤ} {x : Composite} (lt : n < length vs) (f : ValueFor (scope_bodies p a n) width value x) where
    first_cell : (l : Option Limit) → (variable_at vs n).limit ≡ l → within l (get_or value 0 (pos 0)) ≡ within l (as_whole x.value)
    unfolding within
    first_cell none e = refl
    first_cell (some m) e = ap (λ (z : ℤ). within (some m) z) (quantity_cell (ap is_quantity f.declared_body_lem ∙ w.limited_quantities n m lt e) (value_lies f))

    -- what is asked of that cell
    abbrev Asked : Bool → Type 0
    Asked c = (l : Option Limit) → LimitAt limits (3 * n) l → c ≡ within l (get_or value 0 (pos 0))

    limit_is : (c : Bool) → Asked c → c ≡ limit x f.declared_body_lem
    unfolding limit
    limit_is c told = told (variable_at vs n).limit (w.limited n lt) ∙ first_cell (variable_at vs n).limit refl

    module _ (s : Satisfies vs n x) (c : Bool) (told : Asked c) where
      pub outside : c ≡ false → Settles yoke_not_satisfied (Running p a rows layout limits) (lent cells states []) (lent cells states []) (assigned vs n x)
      outside e = keeps yoke_not_satisfied (λ z. omega arith) (limit_fails x f.declared_body_lem s (sym (limit_is c told) ∙ e))

      pub inside : c ≡ true → (after : List ℤ) (words : List ℕ) → after ≡ take (body_cells * n) cells ++ (paste (take body_cells (drop (body_cells * n) cells)) 0 value width ++ drop (body_cells * n + body_cells) cells) → words ≡ fill_at states n
          → Settles 0 (Running p a rows layout limits) (lent cells states []) (lent after words []) (assigned vs n x)
      inside e after words p q =
          let ok-is = limit_passes x f.declared_body_lem s (sym (limit_is c told) ∙ e) in
          stores_as (set vs n (with_content (variable_at vs n) x)) ok-is
          (content_running w n lt x f.declared_body_lem f.fits ok-is after words
          (p ∙ value_stored (memory_of w.world) n lt f)
          (q ∙ states_stored vs n lt x w.world.states_are))

-- ---- the yoke
module _ {p : Profile} {a : ℕ} {rows : List ℕ} {layout : List ℕ} {limits cells : List ℤ} {states : List ℕ} {vs : List Variable} (w : Running p a rows layout limits (lent cells states []) vs) (n : ℕ) (lt : n < length vs) where
  pub yoke_there : {k : ℕ} → k ≡ yoke_at states n → k ≤ table_count rows expression_section
  yoke_there e = omega (arith, e, Parts.yoke_there (memory_of w.world) n lt (w.yokes n lt))

  own_yoke : {k : ℕ} → k ≡ yoke_at states n → yoke_tree rows k ≡ (variable_at vs n).yoke
  own_yoke e = ap (yoke_tree rows) e ∙ Parts.own_yoke (memory_of w.world) n lt (w.yokes n lt)

  -- the yoke that is always true
  pub always_satisfied : {k : ℕ} → k ≡ yoke_at states n → (x : Composite) → k ≡ 0 → Satisfies vs n x
  unfolding yoke_holds_erased yoke_erased as_truth
  always_satisfied {k} is x e =
      record { holds = ap (λ (y : Yoke). yoke_holds_erased y (values_of (contents vs)) (some x.value)) (sym (own_yoke is) ∙ always_is rows k e) }

  module _ {width : ℕ} {value : List ℤ} {x : Composite} (f : ValueFor (scope_bodies p a n) width value x) where
    value_current : Current value (scope_bodies p a n) x.value
    value_current = record { lies = lies_as f.declared_body_lem (value_lies f); small = w.world.small n }

    own_passed : {k : ℕ} → k ≡ yoke_at states n → DerivedYoke (HoldsIn layout) (scope_bodies p a) (yoke_tree rows k) (scope_bodies p a n)
    unfolding YokesDerived
    own_passed e = subst (λ (y : Yoke). DerivedYoke (HoldsIn layout) (scope_bodies p a) y (scope_bodies p a n)) (sym (own_yoke e)) (w.passed_yokes n)

    pub value_ready : {k : ℕ} → k ≡ yoke_at states n → ReadyYoke rows layout cells states value (yoke_tree rows k)
    value_ready e = record { declarations = scope_declarations p a; store = vs; world = w.world; body = scope_bodies p a n; value = x.value; is = value_current; passed = own_passed e }

    pub own_admits : {k : ℕ} → k ≡ yoke_at states n → {r : ℕ} → AdmitsValue rows layout cells states value (yoke_tree rows k) r → Admits r (yoke_holds_erased (variable_at vs n).yoke (values_of (contents vs)) (some x.value))
    own_admits e {r} h =
        subst (λ (y : Yoke). Admits r (yoke_holds_erased y (values_of (contents vs)) (some x.value))) (own_yoke e)
        (h.admits (scope_declarations p a) vs (scope_bodies p a n) x.value w.world value_current (own_passed e))

    pub room : body_cells ≤ length value → StoreRoom limits cells states n width value
    room long = record {
      limit = omega (arith, w.room, lt);
      part = Parts.cells_room (memory_of w.world) n lt;
      flag = Parts.states_room (memory_of w.world) n lt;
      narrow = f.narrow;
      front = long;
    }
