-- Evaluation of a row by its kind: what its operands give makes what the row gives. Assumes nothing.
use mathlib.Core.Path.{◌≡◌, refl, sym, ap, ◌∙◌}
use mathlib.Core.Bool.{Bool, true, false, beq}
use mathlib.Core.List.{List}
use Prim.Native.Nat.{ℕ, ◌<◌}
use native.Mathlib.Omega.{arith}
use lib.IntN.{ℤ}
use Rattle.lingua.specs.Numbers.{expression_section, most_variables}
use Rattle.lingua.specs.Errors.{boolean_expected}
use Rattle.std.specs.Prelude.{if◌then◌else◌, Result}
use Rattle.lingua.specs.declared.errors.Error.{Error}
use Rattle.lingua.specs.Outcome.{ok, fail, Result as Outcome, ◌>>=◌}
use Rattle.lingua.specs.Value.{Composite}
use Rattle.lingua.specs.Expression.{Expression, lazy, choice, settled_by}
use Rattle.lingua.specs.Evaluation.{Variables, truth_or, boolean_of, eval}
use Rattle.lingua.specs.Rows.{table_count}
use Rattle.lingua.specs.Store.{Variable, contents}
use Rattle.lingua.specs.Trees.{expression_tree, expression_scope}
use Rattle.laws.specs.Scopes.{use_at_most}
use Rattle.safety.specs.Accepted.{few_variables}
use Rattle.decoder.specs.declared.decode.ExpressionRow.{ExpressionRow as CodeRow}
use Rattle.decoder.specs.declared.decode.ExpressionRow.TheVariants as code
use Rattle.decoder.specs.Decoded.{connective}
use Rattle.profile.specs.Row.{RowSays}
use Rattle.profile.specs.Facts.{RowFacts, says_as, row_facts, row_tree, row_tree_lem, settled_by_lem}
use Rattle.run.specs.Reached.{Lent}
use Rattle.checked_row.specs.declared.answer.Evaluated.{Evaluated}
use Rattle.checked_row.specs.Meaning.{World, Gives}
use Rattle.checked_row.proofs.Giving.{gives_as, told_boolean}

-- ---- what a row says, once it is told which kind of row it is
module _ {rows : List ℕ} {m : Lent} {vs : List Variable} {row : ℕ} (w : World rows m vs) (l : row < table_count rows expression_section) {c : CodeRow} where
  pub facts : {d : CodeRow} → c ≡ d → RowSays rows row c → RowFacts rows row d
  facts {d} e s = row_facts rows w.accepted row l d (says_as e s)

  -- a variable's number is below 16, whosever the variable is
  pub few_named : {n : ℕ} → c ≡ code.Variable n → RowSays rows row c → n < most_variables
  unfolding RowFacts
  few_named e s = omega (arith, facts e s, few_variables rows w.accepted (expression_scope rows row) (use_at_most rows row))

  pub by_row : {d : CodeRow} {r : Result Evaluated Error} {stack : List ℤ} (x : Composite) → c ≡ d → RowSays rows row c → Gives r stack (eval (row_tree rows row d) (contents vs) x) → Gives r stack (eval (expression_tree rows row) (contents vs) x)
  by_row {d} x e s g = gives_as (ap (λ (f : Expression). eval f (contents vs) x) (sym (row_tree_lem rows row d (says_as e s) (facts e s)))) g

-- ---- tests
tested : (o : Outcome Composite) (g : Bool → Outcome Composite) → (o >>= λ x. truth_or boolean_expected x >>= λ t. g t) ≡ ((o >>= truth_or boolean_expected) >>= g)
tested (ok x) g = refl
tested (fail n) g = refl

module _ (row : ℕ) (settling : Bool) (e f : Expression) (vars : Variables) (cur : Composite) where
  rest : Bool → Outcome Composite
  rest t = if beq t (settled_by (connective settling)) then ok (boolean_of t) else (eval f vars cur >>= λ y. truth_or boolean_expected y >>= λ u. ok (boolean_of u))

  lazy_is : eval (lazy row (connective settling) e f) vars cur ≡ ((eval e vars cur >>= truth_or boolean_expected) >>= rest)
  unfolding eval rest
  lazy_is = tested (eval e vars cur) (λ t. if beq t (settled_by (connective settling)) then ok (boolean_of t) else (eval f vars cur >>= λ y. truth_or boolean_expected y >>= λ u. ok (boolean_of u)))

  module _ (h : Bool) (t : ok h ≡ (eval e vars cur >>= truth_or boolean_expected)) where
    lazy_told : eval (lazy row (connective settling) e f) vars cur ≡ rest h
    lazy_told = lazy_is ∙ sym (ap (λ (q : Outcome Bool). q >>= rest) t)

    pub lazy_settled : {x : Result Evaluated Error} {s : List ℤ} → Gives x s (eval e vars cur) → beq h settling ≡ true → Gives x s (eval (lazy row (connective settling) e f) vars cur)
    unfolding rest
    lazy_settled g b =
        gives_as
        (sym (lazy_told ∙ ap (λ (b : Bool). if b then ok (boolean_of h) else (eval f vars cur >>= λ y. truth_or boolean_expected y >>= λ u. ok (boolean_of u))) (settled_by_lem h settling true b)))
        (told_boolean boolean_expected g h t)

    lazy_second : beq h settling ≡ false → eval (lazy row (connective settling) e f) vars cur ≡ ((eval f vars cur >>= truth_or boolean_expected) >>= λ u. ok (boolean_of u))
    unfolding rest
    lazy_second b =
        lazy_told
        ∙ ap (λ (b : Bool). if b then ok (boolean_of h) else (eval f vars cur >>= λ y. truth_or boolean_expected y >>= λ u. ok (boolean_of u))) (settled_by_lem h settling false b)
        ∙ tested (eval f vars cur) (λ u. ok (boolean_of u))

    module _ (b : beq h settling ≡ false) where
      pub lazy_second_error : (n : ℕ) → (eval f vars cur >>= truth_or boolean_expected) ≡ fail n → eval (lazy row (connective settling) e f) vars cur ≡ fail n
      lazy_second_error n u = lazy_second b ∙ ap (λ (o : Outcome Bool). o >>= λ b. ok (boolean_of b)) u

      pub lazy_second_told : {y : Result Evaluated Error} {s : List ℤ} (t : Bool) → Gives y s (eval f vars cur) → ok t ≡ (eval f vars cur >>= truth_or boolean_expected) → Gives y s (eval (lazy row (connective settling) e f) vars cur)
      lazy_second_told t g u = gives_as (sym (lazy_second b ∙ sym (ap (λ (o : Outcome Bool). o >>= λ b. ok (boolean_of b)) u))) (told_boolean boolean_expected g t u)

  pub lazy_error : (n : ℕ) → (eval e vars cur >>= truth_or boolean_expected) ≡ fail n → eval (lazy row (connective settling) e f) vars cur ≡ fail n
  lazy_error n t = lazy_is ∙ ap (λ (q : Outcome Bool). q >>= rest) t

module _ (row : ℕ) (p e f : Expression) (vars : Variables) (cur : Composite) where
  choice_is : eval (choice row p e f) vars cur ≡ ((eval p vars cur >>= truth_or boolean_expected) >>= λ b. if b then eval e vars cur else eval f vars cur)
  unfolding eval
  choice_is = tested (eval p vars cur) (λ b. if b then eval e vars cur else eval f vars cur)

  pub choice_error : (n : ℕ) → (eval p vars cur >>= truth_or boolean_expected) ≡ fail n → eval (choice row p e f) vars cur ≡ fail n
  choice_error n t = choice_is ∙ ap (λ (o : Outcome Bool). o >>= λ b. if b then eval e vars cur else eval f vars cur) t

  pub choice_told : (h : Bool) → ok h ≡ (eval p vars cur >>= truth_or boolean_expected) → (if h then eval e vars cur else eval f vars cur) ≡ eval (choice row p e f) vars cur
  choice_told h t = sym (choice_is ∙ sym (ap (λ (o : Outcome Bool). o >>= λ b. if b then eval e vars cur else eval f vars cur) t))
