-- Booleans on the stack, and what is seen of an all-list yoke's results, one more at a time. Assumes nothing.
use mathlib.Core.Path.{◌≡◌, refl, ap, ◌∙◌}
use mathlib.Core.Bool.{Bool, true, false, not, ◌&&◌}
use lib.Dec.{eqb}
use Rattle.std.proofs.lemmas.Bool.{eqb-true, eqb-false}
use mathlib.Core.List.{List, [], ◌∷◌, ◌++◌}
use Prim.Native.Nat.{ℕ}
use lib.ListN.{get_or}
use lib.IntN.{ℤ, pos}
use mir.Syntax.{w64}
use mir.Val.{of_z, bool_byte}
use Rattle.lingua.specs.Outcome.{ok, fail, Result, all_answers, ◌>>=◌}
use Rattle.lingua.specs.Body.{boolean}
use Rattle.lingua.specs.Value.{Value, Fits, fit_truth, truth, bit, as_truth, all_of}
use Rattle.cells.specs.Stack.{Lies, Leaves}
use Rattle.cells.proofs.Singles.{truth_zero, truth_other}
use Rattle.cells.proofs.Walking.{more, answers_snoc, all_snoc}
use Rattle.erased_row.specs.Meaning.{all_told}

-- the cell of a Boolean
pub bit_is : (t : Bool) → pos (bool_byte t) ≡ bit t
bit_is true = refl
bit_is false = refl

-- a Boolean is its truth
pub truth_is : {v : Value} → Fits v boolean → truth (as_truth v) ≡ v
unfolding as_truth
truth_is fit_truth = refl

-- the truth of an outcome
abbrev pub truth_in : Result Value → Result Bool
truth_in o = o >>= λ v. ok (as_truth v)

pub tells_truth : {n : ℕ} {s : List ℤ} {o : Result Value} → Leaves n s boolean o → n ≡ 0 → truth_in o ≡ ok (not (eqb (of_z w64 (get_or s 0 (pos 0))) 0))
tells_truth {s = s} h e =
    let a = h.answer e in
    ap (λ (p : Result Value). truth_in p) a.is ∙ ap {B = Result Bool} ok (by a.value a.lies (eqb (of_z w64 (get_or s 0 (pos 0))) 0) refl)
  where
    by : (x : Value) → Lies s 0 boolean x → (b : Bool) → eqb (of_z w64 (get_or s 0 (pos 0))) 0 ≡ b → as_truth x ≡ not b
    by x l true q = truth_zero l (eqb-true _ 0 q)
    by x l false q = truth_other l (eqb-false _ 0 q)

-- the first error, then whether both are true
abbrev both : Result Bool → Result Bool → Result Bool
both p q = p >>= λ s. q >>= λ t. ok (s && t)

told_more : (m : Result (List Value)) (o : Result Value) → (more m o >>= λ xs. ok (all_of as_truth xs)) ≡ both (m >>= λ xs. ok (all_of as_truth xs)) (truth_in o)
told_more (fail n) o = refl
told_more (ok xs) (fail n) = refl
told_more (ok xs) (ok y) = ap {B = Result Bool} ok (all_snoc as_truth xs y)

-- one result more
pub told_snoc : (rs : List (Result Value)) (o : Result Value) → all_told (rs ++ (o ∷ [])) ≡ both (all_told rs) (truth_in o)
unfolding all_told
told_snoc rs o = ap (λ (m : Result (List Value)). m >>= λ xs. ok (all_of as_truth xs)) (answers_snoc rs o) ∙ told_more (all_answers rs) o

-- nothing seen yet
pub sees_none : ok true ≡ all_told []
unfolding all_told all_answers all_of
sees_none = refl
