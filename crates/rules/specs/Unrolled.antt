-- A row's body and its trees, by those of the rows that it names: the bound on how deep rows refer does not matter. Assumes nothing.
use Rattle.std.specs.Prelude.{◌≡◌, refl, Bool, List, ℕ, zero, suc, ◌<◌}
use Rattle.std.proofs.Common.{sym, ap, ◌∙◌, arith, lt-ltb}
use Rattle.lingua.specs.Errors.{record_expected}
use Rattle.lingua.specs.Outcome.{fail}
use Rattle.lingua.specs.Expression.{skip}
use Rattle.lingua.specs.Rows.{type_row, expression_row, instruction_row}
use Rattle.lingua.specs.Trees.{below, lower, no_expression, type_body_of, type_body_in, type_body, expression_of, expression_in, expression_tree, instruction_of, instruction_in, instruction_tree}
use Rattle.safety.specs.Forest.{lower_same}

-- whatever a row gives, from what lower rows give
module _ {A : Type 0} (node : ℕ → (ℕ → A) → A) (other : ℕ → A) (f : ℕ → ℕ → A) (step : (n r : ℕ) → f (suc n) r ≡ node r (lower r (λ a. f n a) (other r))) where
  same_in : (n m r : ℕ) → r < n → r < m → f n r ≡ f m r
  same_in zero m r p q = absurd (let k : ⊥ = omega arith in k)
  same_in (suc n) zero r p q = absurd (let k : ⊥ = omega arith in k)
  same_in (suc n) (suc m) r p q =
      step n r
      ∙ (ap (node r) (lower_same r (λ a. f n a) (λ a. f m a) (other r) (λ a l. same_in n m a (omega arith) (omega arith)))
      ∙ sym (step m r))

  unrolled : (r : ℕ) → f (suc r) r ≡ node r (lower r (λ a. f (suc a) a) (other r))
  unrolled r = step r r ∙ ap (node r) (lower_same r (λ a. f r a) (λ a. f (suc a) a) (other r) (λ a l. same_in r (suc a) a l (omega arith)))

pub lower_is : {A : Type 0} (r : ℕ) (f : ℕ → A) (other : A) (a : ℕ) → a < r → lower r f other a ≡ f a
lower_is r f other a l = ap (λ (t : Bool). below t f other a) (lt-ltb a r l)

pub type_unrolled : (rows : List ℕ) (r : ℕ) → type_body rows r ≡ type_body_of (type_row rows r) (lower r (λ a. type_body rows a) (fail record_expected))
unfolding type_body type_body_in
type_unrolled rows r = unrolled (λ k look. type_body_of (type_row rows k) look) (λ k. fail record_expected) (λ n k. type_body_in n rows k) (λ n k. refl) r

pub expression_unrolled : (rows : List ℕ) (r : ℕ) → expression_tree rows r ≡ expression_of r (expression_row rows r) (lower r (λ a. expression_tree rows a) (no_expression r))
unfolding expression_tree expression_in
expression_unrolled rows r = unrolled (λ k look. expression_of k (expression_row rows k) look) (λ k. no_expression k) (λ n k. expression_in n rows k) (λ n k. refl) r

pub instruction_unrolled : (rows : List ℕ) (r : ℕ) → instruction_tree rows r ≡ instruction_of rows r (instruction_row rows r) (lower r (λ a. instruction_tree rows a) (skip r))
unfolding instruction_tree instruction_in
instruction_unrolled rows r = unrolled (λ k look. instruction_of rows k (instruction_row rows k) look) (λ k. skip k) (λ n k. instruction_in n rows k) (λ n k. refl) r
