-- A new value's checks, one law for each way that they end. Assumes nothing.
use mathlib.Core.Path.{◌≡◌, refl, sym, ap, ◌∙◌, subst}
use mathlib.Core.Bool.{Bool, true, false, ◌&&◌, or-true}
use mathlib.Core.List.{List}
use Prim.Native.Nat.{ℕ, ◌*◌, ◌≤◌, ◌<◌}
use native.Mathlib.Omega.{arith}
use lib.IntN.{ℤ, pos}
use lib.ListN.{length, take, drop, get_or}
use Rattle.lingua.specs.Numbers.{body_bytes, expression_section}
use Rattle.lingua.specs.Errors.{no_coherence, yoke_expected, yoke_not_satisfied}
use Rattle.std.specs.Prelude.{Result, Ok, Err}
use Rattle.lingua.specs.declared.errors.Error.{Error}
use Rattle.lingua.specs.Faults.{error_number}
use Rattle.lingua.specs.Rows.{table_count}
use Rattle.lingua.specs.Outcome.{fail, ok, Result as Outcome, require, ◌>>=◌, ◌>>◌}
use Rattle.lingua.specs.Body.{Body, boolean, number, word, hundredths, list_of, record_of, size, is_number, is_hundredths, is_quantity, is_boolean, coherent}
use Rattle.lingua.specs.Value.{Value, Fits, fit_truth, fit_whole, fit_hundredths, fit_text, fit_items, fit_fields, as_whole, as_truth, Composite}
use Rattle.lingua.specs.Expression.{Yoke, always}
use Rattle.lingua.specs.Evaluation.{truth_or, eval_yoke}
use Rattle.lingua.specs.Store.{Variable, variable_at, present_body, contents, within, admitted, yoke_at}
use Rattle.lingua.specs.Trees.{yoke_tree}
use Rattle.laws.specs.Outcomes.{false_is_true}
use Rattle.profile.specs.Yokes.{always_is}
use Rattle.body.specs.Encode.{Holds}
use Rattle.body.proofs.Tags as tags
use Rattle.cells.proofs.Operands.{lies_long}
use Rattle.cells.proofs.Singles.{quantity_cell}
use Rattle.checked_row.specs.declared.answer.Evaluated.{Evaluated}
use Rattle.run.specs.Reached.{lent}
use Rattle.run.specs.Memory.{Admits}
use Rattle.run.proofs.Parts
use Rattle.run.proofs.Admitting.{admits_error, admits_fault}
use Rattle.checked_row.specs.Meaning.{Current, Gives}
use Rattle.checked_store.specs.Meaning.{Bounds, Running}
use Rattle.checked_row.proofs.Giving.{gives_as}
use Rattle.checked_row.proofs.Storing.{memory_of}

-- ---- the cell of a number or of a count
module _ (body : List ℕ) (b : Body) (h : Holds body b) where
  pub number_counts : get_or body 0 0 ≡ 2 → is_quantity b ≡ true
  unfolding is_quantity
  number_counts e = rw (tags.is_number_lem body b h e)

  pub hundredths_counts : get_or body 0 0 ≡ 7 → is_quantity b ≡ true
  unfolding is_quantity
  hundredths_counts e = rw (tags.is_hundredths_lem body b h e) (or-true (is_number b))

  pub other_counts : (get_or body 0 0 ≡ 2 → ⊥) → (get_or body 0 0 ≡ 7 → ⊥) → is_quantity b ≡ false
  unfolding is_quantity
  other_counts f g = rw (tags.not_number body b h f, tags.not_hundredths body b h g)

one_cell : (b : Body) → is_quantity b ≡ true → 1 ≤ size b
unfolding is_quantity is_number is_hundredths size
one_cell boolean e = omega arith
one_cell number e = omega arith
one_cell word e = omega arith
one_cell hundredths e = omega arith
one_cell (list_of b) e = false_is_true e
one_cell (record_of fs) e = false_is_true e

pub quantity_room : {value : List ℤ} {body : List ℕ} {x : Composite} → Current value body x → is_quantity x.body ≡ true → 0 < length value
quantity_room {x = x} h e = omega (arith, lies_long h.lies, one_cell x.body e)

pub whole_is : {value : List ℤ} {body : List ℕ} {x : Composite} → Current value body x → is_quantity x.body ≡ true → get_or value 0 (pos 0) ≡ as_whole x.value
whole_is h e = quantity_cell e h.lies

none_whole : {v : Value} {b : Body} → Fits v b → is_quantity b ≡ false → pos 0 ≡ as_whole v
unfolding as_whole is_quantity is_number is_hundredths
none_whole fit_truth e = refl
none_whole (fit_whole r) e = false_is_true (sym e)
none_whole (fit_hundredths r) e = false_is_true (sym e)
none_whole (fit_text r) e = refl
none_whole (fit_items n r) e = refl
none_whole (fit_fields r) e = refl

pub other_whole : {value : List ℤ} {body : List ℕ} {x : Composite} → Current value body x → is_quantity x.body ≡ false → pos 0 ≡ as_whole x.value
other_whole h e = none_whole h.lies.fit e

-- ---- the current yoke
module _ {rows : List ℕ} {limits cells : List ℤ} {states bodies : List ℕ} {vs : List Variable} (h : Running rows limits (lent cells states bodies) vs) (n : ℕ) (lt : n < length vs) where
  pub yoke_there : {k : ℕ} → k ≡ yoke_at states n → k ≤ table_count rows expression_section
  yoke_there e = omega (arith, e, Parts.yoke_there (memory_of h.world.stored) n lt (h.yokes n lt))

  pub own_yoke : {k : ℕ} → k ≡ yoke_at states n → (x : Composite) {y : Result Evaluated Error} {s : List ℤ} → Gives y s (eval_yoke (yoke_tree rows k) (contents vs) x) → Gives y s (eval_yoke (variable_at vs n).yoke (contents vs) x)
  own_yoke e x g = gives_as (ap (λ (y : Yoke). eval_yoke y (contents vs) x) (ap (yoke_tree rows) e ∙ Parts.own_yoke (memory_of h.world.stored) n lt (h.yokes n lt))) g

-- ---- the checks without a yoke
pub held_own : {bodies : List ℕ} {limits : List ℤ} {n : ℕ} {v : Variable} → Bounds bodies limits n v → {body : List ℕ} → body ≡ take body_bytes (drop (body_bytes * n) bodies) → Holds body (present_body v)
held_own {v = v} b e = subst (λ (l : List ℕ). Holds l (present_body v)) (sym e) b.own

pub no_yoke : {rows : List ℕ} {limits cells : List ℤ} {states bodies : List ℕ} {vs : List Variable} → Running rows limits (lent cells states bodies) vs → (n : ℕ) → n < length vs → {k : ℕ} → k ≡ yoke_at states n → k ≡ 0 → (variable_at vs n).yoke ≡ always
no_yoke {rows} h n lt {k} e z = sym (Parts.own_yoke (memory_of h.world.stored) n lt (h.yokes n lt)) ∙ ap (yoke_tree rows) (sym e) ∙ always_is rows k z

module _ (vs : List Variable) (v : Variable) (x : Composite) (free : v.yoke ≡ always) {b : Bool} (same : b ≡ coherent (present_body v) x.body) where
  free_is : admitted vs v x ≡ (require b no_coherence >> require (within v.limit (as_whole x.value)) yoke_not_satisfied)
  unfolding admitted eval_yoke truth_or is_boolean as_truth
  free_is =
      ap (λ (y : Yoke). eval_yoke y (contents vs) x >>= λ w. require (coherent (present_body v) x.body) no_coherence >> (truth_or yoke_expected w >>= λ t. require (t && within v.limit (as_whole x.value)) yoke_not_satisfied)) free
      ∙ ap (λ (c : Bool). require c no_coherence >> require (within v.limit (as_whole x.value)) yoke_not_satisfied) (sym same)

  pub free_other_body : b ≡ false → Admits no_coherence (admitted vs v x)
  free_other_body f = admits_error (λ e. omega arith) (free_is ∙ ap (λ (c : Bool). require c no_coherence >> require (within v.limit (as_whole x.value)) yoke_not_satisfied) f)

  module _ (f : b ≡ true) {c : Bool} (in-limit : c ≡ within v.limit (as_whole x.value)) where
    free_within : admitted vs v x ≡ require c yoke_not_satisfied
    free_within =
        free_is
        ∙ ap (λ (d : Bool). require d no_coherence >> require (within v.limit (as_whole x.value)) yoke_not_satisfied) f
        ∙ ap (λ (t : Bool). require t yoke_not_satisfied) (sym in-limit)

    pub free_out_of_limits : c ≡ false → Admits yoke_not_satisfied (admitted vs v x)
    free_out_of_limits k = admits_error (λ j. omega arith) (free_within ∙ ap (λ (t : Bool). require t yoke_not_satisfied) k)

    pub free_passes : c ≡ true → Admits 0 (admitted vs v x)
    free_passes k = record { answer = λ j. free_within ∙ ap (λ (t : Bool). require t yoke_not_satisfied) k; error = λ j. absurd (j refl) }

-- ---- the checks
module _ (vs : List Variable) (v : Variable) (x : Composite) {y : Result Evaluated Error} {s : List ℤ} (g : Gives y s (eval_yoke v.yoke (contents vs) x)) where
  pub yoke_error : (e : Error) → y ≡ Err e → Admits (error_number e) (admitted vs v x)
  unfolding admitted
  yoke_error e f = admits_fault e (ap (λ (o : Outcome Composite). o >>= λ w. require (coherent (present_body v) x.body) no_coherence >> (truth_or yoke_expected w >>= λ t. require (t && within v.limit (as_whole x.value)) yoke_not_satisfied)) (g.error e f))

  module _ {u : Evaluated} (z : y ≡ Ok u) {b : Bool} (same : b ≡ coherent (present_body v) x.body) where
    reached : admitted vs v x ≡ (require b no_coherence >> (truth_or yoke_expected (g.answer _ z).value >>= λ t. require (t && within v.limit (as_whole x.value)) yoke_not_satisfied))
    unfolding admitted
    reached =
        ap (λ (o : Outcome Composite). o >>= λ w. require (coherent (present_body v) x.body) no_coherence >> (truth_or yoke_expected w >>= λ t. require (t && within v.limit (as_whole x.value)) yoke_not_satisfied)) (g.answer _ z).is
        ∙ ap (λ (c : Bool). require c no_coherence >> (truth_or yoke_expected (g.answer _ z).value >>= λ t. require (t && within v.limit (as_whole x.value)) yoke_not_satisfied)) (sym same)

    pub other_body : b ≡ false → Admits no_coherence (admitted vs v x)
    other_body f = admits_error (λ e. omega arith) (reached ∙ ap (λ (c : Bool). require c no_coherence >> (truth_or yoke_expected (g.answer _ z).value >>= λ t. require (t && within v.limit (as_whole x.value)) yoke_not_satisfied)) f)

    module _ (f : b ≡ true) where
      asked : admitted vs v x ≡ ((eval_yoke v.yoke (contents vs) x >>= truth_or yoke_expected) >>= λ t. require (t && within v.limit (as_whole x.value)) yoke_not_satisfied)
      asked =
          reached
          ∙ ap (λ (c : Bool). require c no_coherence >> (truth_or yoke_expected (g.answer _ z).value >>= λ t. require (t && within v.limit (as_whole x.value)) yoke_not_satisfied)) f
          ∙ ap (λ (o : Outcome Composite). (o >>= truth_or yoke_expected) >>= λ t. require (t && within v.limit (as_whole x.value)) yoke_not_satisfied) (sym (g.answer _ z).is)

      pub no_truth : (e : Error) → fail (error_number e) ≡ (eval_yoke v.yoke (contents vs) x >>= truth_or yoke_expected) → Admits (error_number e) (admitted vs v x)
      no_truth e q = admits_fault e (asked ∙ sym (ap (λ (o : Outcome Bool). o >>= λ t. require (t && within v.limit (as_whole x.value)) yoke_not_satisfied) q))

      told_is : {h : Bool} → ok h ≡ (eval_yoke v.yoke (contents vs) x >>= truth_or yoke_expected) → admitted vs v x ≡ require (h && within v.limit (as_whole x.value)) yoke_not_satisfied
      told_is e = asked ∙ sym (ap (λ (o : Outcome Bool). o >>= λ t. require (t && within v.limit (as_whole x.value)) yoke_not_satisfied) e)

      pub not_satisfied : {h : Bool} → ok h ≡ (eval_yoke v.yoke (contents vs) x >>= truth_or yoke_expected) → h ≡ false → Admits yoke_not_satisfied (admitted vs v x)
      not_satisfied e q = admits_error (λ k. omega arith) (told_is e ∙ ap (λ (t : Bool). require (t && within v.limit (as_whole x.value)) yoke_not_satisfied) q)

      within_is : {h : Bool} → ok h ≡ (eval_yoke v.yoke (contents vs) x >>= truth_or yoke_expected) → h ≡ true → {c : Bool} → c ≡ within v.limit (as_whole x.value) → admitted vs v x ≡ require c yoke_not_satisfied
      within_is e q w = told_is e ∙ ap (λ (t : Bool). require (t && within v.limit (as_whole x.value)) yoke_not_satisfied) q ∙ ap (λ (t : Bool). require t yoke_not_satisfied) (sym w)

      pub out_of_limits : {h : Bool} → ok h ≡ (eval_yoke v.yoke (contents vs) x >>= truth_or yoke_expected) → h ≡ true → {c : Bool} → c ≡ within v.limit (as_whole x.value) → c ≡ false → Admits yoke_not_satisfied (admitted vs v x)
      out_of_limits e q w k = admits_error (λ j. omega arith) (within_is e q w ∙ ap (λ (t : Bool). require t yoke_not_satisfied) k)

      pub passes : {h : Bool} → ok h ≡ (eval_yoke v.yoke (contents vs) x >>= truth_or yoke_expected) → h ≡ true → {c : Bool} → c ≡ within v.limit (as_whole x.value) → c ≡ true → Admits 0 (admitted vs v x)
      passes e q w k = record { answer = λ j. within_is e q w ∙ ap (λ (t : Bool). require t yoke_not_satisfied) k; error = λ j. absurd (j refl) }
