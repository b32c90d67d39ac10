-- What a result gives: an error that is handed on, a Boolean that is put on the stack, and a Boolean that is read from it.
-- Assumes nothing.
use mathlib.Core.Path.{◌≡◌, refl, sym, ap, ◌∙◌, subst}
use mathlib.Core.Bool.{Bool, true, false, not}
use mathlib.Core.List.{List, [], ◌∷◌}
use Prim.Native.Nat.{ℕ, ◌<◌}
use native.Mathlib.Omega.{arith}
use lib.Dec.{eqb}
use borrow.Author.Tests.{eqb-true, eqb-false}
use lib.ListN.{length, get_or, set}
use lib.IntN.{ℤ, pos}
use mir.Syntax.{w64}
use mir.Val.{of_z, bool_byte}
use Rattle.lingua.specs.Numbers.{body_bytes}
use Rattle.std.specs.Prelude.{Result, Ok, Err}
use Rattle.lingua.specs.declared.errors.Error.{Error}
use Rattle.lingua.specs.Faults.{error_number}
use Rattle.lingua.specs.Outcome.{ok, fail, Result as Outcome, require, ◌>>=◌, ◌>>◌}
use Rattle.lingua.specs.Body.{Body, boolean, size, nodes, is_boolean}
use Rattle.lingua.specs.Value.{Value, as_truth, pad, Composite}
use Rattle.lingua.specs.Encode.{bytes, encoded}
use Rattle.lingua.specs.Evaluation.{truth_or, boolean_of}
use Rattle.laws.specs.Outcomes.{is_boolean_lem}
use Rattle.safety.specs.Fitting.{true_is}
use Rattle.body.specs.Encode.{Holds}
use Rattle.cells.specs.Stack.{Lies}
use Rattle.cells.proofs.Operands.{lies_as}
use Rattle.cells.proofs.Singles
use Rattle.cells.proofs.Singles.{put_truth, bit_byte}
use Rattle.checked_row.specs.declared.answer.Evaluated.{Evaluated}
use Rattle.checked_row.specs.Meaning.{Answers, Gives, simple_evaluated}

-- ---- errors and values
pub gives_error : {s : List ℤ} {o : Outcome Composite} (e : Error) → o ≡ fail (error_number e) → Gives (Err e) s o
gives_error e q = record {
  answer = λ x z. absurd (let k : ⊥ = cc in k);
  error = λ f z. let k : e ≡ f = cc in q ∙ ap {B = Outcome Composite} (λ i. fail (error_number i)) k;
}

pub gives_answer : {x : Evaluated} {s : List ℤ} {o : Outcome Composite} → Answers x s o → Gives (Ok x) s o
gives_answer {x} {s} {o} a = record {
  answer = λ y z. let k : x ≡ y = cc in subst (λ (v : Evaluated). Answers v s o) k a;
  error = λ f z. absurd (let k : ⊥ = cc in k);
}

-- the same of an equal outcome
pub gives_as : {r : Result Evaluated Error} {s : List ℤ} {o p : Outcome Composite} → o ≡ p → Gives r s o → Gives r s p
gives_as {r} {s} e h = subst (λ (q : Outcome Composite). Gives r s q) e h

-- ---- a Boolean put on the stack
pub boolean_held : Holds (pad body_bytes 0 (1 ∷ [])) boolean
unfolding encoded bytes size nodes
boolean_held = record { is = refl; few_cells = omega arith; few_nodes = omega arith }

pub puts_truth : (s : List ℤ) (t : Bool) (z : ℤ) → 0 < length s → z ≡ pos (bool_byte t) → Gives (Ok (simple_evaluated 1)) (set s 0 z) (ok (boolean_of t))
unfolding size
puts_truth s t z h e = gives_answer (record { value = boolean_of t; is = refl; holds = boolean_held; lies = put_truth s t z h (e ∙ bit_byte t); cells = refl })

-- ---- a Boolean read from the stack
-- of a value whose body is a Boolean's
pub truth_zero : {s : List ℤ} {b : Body} {v : Value} → is_boolean b ≡ true → Lies s 0 b v → of_z w64 (get_or s 0 (pos 0)) ≡ 0 → as_truth v ≡ false
truth_zero {b = b} e h z = Singles.truth_zero (lies_as (is_boolean_lem b e) h) z

pub truth_other : {s : List ℤ} {b : Body} {v : Value} → is_boolean b ≡ true → Lies s 0 b v → (of_z w64 (get_or s 0 (pos 0)) ≡ 0 → ⊥) → as_truth v ≡ true
truth_other {b = b} e h f = Singles.truth_other (lies_as (is_boolean_lem b e) h) f

pub truth_read : {s : List ℤ} {b : Body} {v : Value} → is_boolean b ≡ true → Lies s 0 b v → as_truth v ≡ not (eqb (of_z w64 (get_or s 0 (pos 0))) 0)
truth_read {s} {v = v} e h = by (eqb (of_z w64 (get_or s 0 (pos 0))) 0) refl
  where
    by : (t : Bool) → eqb (of_z w64 (get_or s 0 (pos 0))) 0 ≡ t → as_truth v ≡ not t
    by true q = truth_zero e h (eqb-true _ 0 q)
    by false q = truth_other e h (eqb-false _ 0 q)

truth_no : (n : ℕ) (x : Composite) → is_boolean x.body ≡ false → truth_or n x ≡ fail n
unfolding truth_or
truth_no n x e = ap (λ (t : Bool). require t n >> ok (as_truth x.value)) e

truth_yes : (n : ℕ) (x : Composite) → is_boolean x.body ≡ true → truth_or n x ≡ ok (as_truth x.value)
unfolding truth_or
truth_yes n x e = ap (λ (t : Bool). require t n >> ok (as_truth x.value)) e

module _ {x : Result Evaluated Error} {s : List ℤ} {o : Outcome Composite} (n : ℕ) (h : Gives x s o) where
  pub tells_error : (e : Error) → x ≡ Err e → (o >>= truth_or n) ≡ fail (error_number e)
  tells_error e q = ap (λ (p : Outcome Composite). p >>= truth_or n) (h.error e q)

  module _ (v : Evaluated) (e : x ≡ Ok v) (t : Bool) (f : (b : Body) → Holds v.body b → t ≡ is_boolean b) where
    pub tells_other : t ≡ false → (o >>= truth_or n) ≡ fail n
    tells_other q =
        let a = h.answer v e in
        ap (λ (p : Outcome Composite). p >>= truth_or n) a.is ∙ truth_no n a.value (sym (f a.value.body a.holds) ∙ q)

    pub tells_truth : t ≡ true → (o >>= truth_or n) ≡ ok (not (eqb (of_z w64 (get_or s 0 (pos 0))) 0))
    tells_truth q =
        let a = h.answer v e in
        let b = sym (f a.value.body a.holds) ∙ q in
        ap (λ (p : Outcome Composite). p >>= truth_or n) a.is ∙ truth_yes n a.value b ∙ ap {B = Outcome Bool} ok (truth_read b a.lies)

  -- a Boolean that was told is the value itself
  pub told_boolean : (t : Bool) → ok t ≡ (o >>= truth_or n) → Gives x s (ok (boolean_of t))
  told_boolean t q = record {
    answer = λ v e.
        let a = h.answer v e in
        let k : truth_or n a.value ≡ ok t = ap (λ (p : Outcome Composite). p >>= truth_or n) (sym a.is) ∙ sym q in
        record { value = a.value; is = ap {B = Outcome Composite} ok (sym (true_is n a.value t a.lies.fit k)); holds = a.holds; lies = a.lies; cells = a.cells };
    error = λ e z. let k : ok t ≡ fail (error_number e) = q ∙ tells_error e z in absurd (let w : ⊥ = cc in w);
  }
