-- An operation on evaluated operands, from its half on bodies and its half on values. Assumes nothing.
use mathlib.Core.Path.{◌≡◌, sym, ap, ◌∙◌}
use mathlib.Core.List.{List}
use Prim.Native.Nat.{ℕ}
use native.Mathlib.Omega.{arith}
use lib.ListN.{drop}
use lib.IntN.{ℤ}
use Rattle.std.specs.Prelude.{Ok}
use Rattle.lingua.specs.declared.errors.Error.{Error}
use Rattle.lingua.specs.Faults.{error_number}
use Rattle.laws.specs.Faults.{error_number_counted}
use Rattle.lingua.specs.Numbers.{body_cells}
use Rattle.lingua.specs.Outcome.{ok, fail, Result as Outcome, ◌>>=◌}
use Rattle.lingua.specs.Body.{Body, size}
use Rattle.lingua.specs.Value.{Value, Composite, composite}
use Rattle.lingua.specs.Operation.{Unary, Binary, unary_body, binary_body}
use Rattle.lingua.specs.Compute.{unary_value, binary_value}
use Rattle.lingua.specs.Evaluation.{apply_unary, apply_binary}
use Rattle.lingua.specs.Typing.{unary_second, binary_second}
use Rattle.body.specs.Encode.{Holds, Held}
use Rattle.body.specs.declared.typed.Typed.{Typed}
use Rattle.cells.specs.Stack.{Leaves}
use Rattle.cells.proofs.Operands.{lies_above}
use Rattle.cells.specs.Operands.{Operand, HasOperand, Operands, HasOperands}
use Rattle.body_half.specs.Half.{Half}
use Rattle.checked_row.specs.declared.answer.Evaluated.{Evaluated}
use Rattle.checked_row.specs.Meaning.{Answers, Gives}
use Rattle.checked_row.proofs.Giving.{gives_answer}

pub given_held : {x : Evaluated} {s : List ℤ} {p : Outcome Composite} → Answers x s p → Held x.body
given_held a = record { body = a.value.body; holds = a.holds }

some_error : (e : Error) → error_number e ≡ 0 → ⊥
some_error e z = omega (arith, error_number_counted e, z)

-- what an operation gives, with its body and the number of its cells
abbrev made : Typed → Evaluated
made t = record { body = t.body; cells = t.cells }

-- ---- one operand
-- the operand, and the body that the operation gives
pub record Halved (o : Unary) (x : Evaluated) (t : Typed) (s : List ℤ) (p : Outcome Composite) : Type 0 where
  pub answers : Answers x s p
  pub body : Body
  pub operand : Operand o s x.cells t.cells t.offset answers.value.body body answers.value.value
  pub holds : Holds t.body body

-- the bodies' half gives an error
pub unary_no_body : (o : Unary) {x : Evaluated} {s : List ℤ} {p : Outcome Composite} (e : Error) → ((b : Body) → Holds x.body b → unary_body o b ≡ fail (error_number e)) → Answers x s p → (p >>= apply_unary o) ≡ fail (error_number e)
unfolding apply_unary
unary_no_body o e half a =
    ap (λ (q : Outcome Composite). q >>= apply_unary o) a.is
    ∙ ap (λ (q : Outcome Body). q >>= λ d. unary_value o a.value.value >>= λ v. ok (composite d v)) (half a.value.body a.holds)

module _ {o : Unary} {x : Evaluated} {t : Typed} {s : List ℤ} (half : (b : Body) → Holds x.body b → Half (Ok t) (unary_body o b) (λ d. unary_second o b)) where
  unary_halved : {p : Outcome Composite} → Answers x s p → Halved o x t s p
  unary_halved a =
      let d = half a.value.body a.holds in
      record {
        answers = a;
        body = d.body;
        operand = record { half = d.is; cells_are = sym a.cells; result_is = sym d.passes.cells; offset_is = sym d.passes.is_second; small = a.holds.few_cells; lies = a.lies };
        holds = d.passes.holds;
      }

  pub unary_has : {p : Outcome Composite} → Answers x s p → HasOperand o s x.cells t.cells t.offset
  unary_has a =
      let u = unary_halved a in
      record { body = u.answers.value.body; given = u.body; value = u.answers.value.value; operand = u.operand }

  applied : {p : Outcome Composite} (u : Halved o x t s p) → (p >>= apply_unary o) ≡ (unary_value o u.answers.value.value >>= λ v. ok (composite u.body v))
  unfolding apply_unary
  applied u =
      ap (λ (q : Outcome Composite). q >>= apply_unary o) u.answers.is
      ∙ ap (λ (q : Outcome Body). q >>= λ d. unary_value o u.answers.value.value >>= λ v. ok (composite d v)) u.operand.half

  -- the values' half
  module _ {n : ℕ} {after : List ℤ} (leaves : (b d : Body) (v : Value) → Operand o s x.cells t.cells t.offset b d v → Leaves n after d (unary_value o v)) where
    pub unary_no_value : {p : Outcome Composite} (e : Error) → n ≡ error_number e → Answers x s p → (p >>= apply_unary o) ≡ fail (error_number e)
    unary_no_value e z a =
        let u = unary_halved a in
        applied u
        ∙ ap (λ (r : Outcome Value). r >>= λ v. ok (composite u.body v)) ((leaves _ _ _ u.operand).error (λ k. some_error e (sym z ∙ k)) ∙ ap {B = Outcome Value} fail z)

    pub unary_value_lem : {p : Outcome Composite} → n ≡ 0 → Answers x s p → Gives (Ok (made t)) after (p >>= apply_unary o)
    unary_value_lem z a =
        let u = unary_halved a in
        let l = (leaves _ _ _ u.operand).answer z in
        gives_answer (record {
          value = composite u.body l.value;
          is = applied u ∙ ap (λ (r : Outcome Value). r >>= λ v. ok (composite u.body v)) l.is;
          holds = u.holds;
          lies = l.lies;
          cells = sym u.operand.result_is;
        })

-- ---- two operands
pub record BothHalved (o : Binary) (x y : Evaluated) (t : Typed) (s : List ℤ) (p q : Outcome Composite) : Type 0 where
  pub first : Answers x s p
  pub second : Answers y (drop body_cells s) q
  pub body : Body
  pub operands : Operands o s x.cells y.cells t.offset first.value.body second.value.body body first.value.value second.value.value
  pub holds : Holds t.body body
  pub size_is : t.cells ≡ size body

both : (o : Binary) {x y : Evaluated} {s : List ℤ} {p q : Outcome Composite} (a : Answers x s p) (b : Answers y (drop body_cells s) q) → (p >>= λ u. q >>= λ v. apply_binary o u v) ≡ apply_binary o a.value b.value
both o {p = p} {q} a b =
    ap (λ (r : Outcome Composite). r >>= λ u. q >>= λ v. apply_binary o u v) a.is
    ∙ ap (λ (r : Outcome Composite). r >>= λ v. apply_binary o a.value v) b.is

pub binary_no_body : (o : Binary) {x y : Evaluated} {s : List ℤ} {p q : Outcome Composite} (e : Error) → ((b c : Body) → Holds x.body b → Holds y.body c → binary_body o b c ≡ fail (error_number e))
    → Answers x s p → Answers y (drop body_cells s) q → (p >>= λ u. q >>= λ v. apply_binary o u v) ≡ fail (error_number e)
unfolding apply_binary
binary_no_body o e half a b =
    both o a b
    ∙ ap (λ (r : Outcome Body). r >>= λ d. binary_value o a.value.value b.value.value >>= λ v. ok (composite d v)) (half a.value.body b.value.body a.holds b.holds)

module _ {o : Binary} {x y : Evaluated} {t : Typed} {s : List ℤ} (half : (b c : Body) → Holds x.body b → Holds y.body c → Half (Ok t) (binary_body o b c) (λ d. binary_second o b c d)) where
  both_halved : {p q : Outcome Composite} → Answers x s p → Answers y (drop body_cells s) q → BothHalved o x y t s p q
  both_halved a b =
      let d = half a.value.body b.value.body a.holds b.holds in
      record {
        first = a;
        second = b;
        body = d.body;
        operands = record { half = d.is; cells_are = sym a.cells; others_are = sym b.cells; offset_is = sym d.passes.is_second; small = a.holds.few_cells; small_other = b.holds.few_cells; lies = a.lies; lies_other = lies_above b.lies };
        holds = d.passes.holds;
        size_is = d.passes.cells;
      }

  pub binary_has : {p q : Outcome Composite} → Answers x s p → Answers y (drop body_cells s) q → HasOperands o s x.cells y.cells t.offset
  binary_has a b =
      let u = both_halved a b in
      record { body = u.first.value.body; other = u.second.value.body; given = u.body; value = u.first.value.value; other_value = u.second.value.value; operands = u.operands }

  applied_both : {p q : Outcome Composite} (u : BothHalved o x y t s p q) → (p >>= λ a. q >>= λ b. apply_binary o a b) ≡ (binary_value o u.first.value.value u.second.value.value >>= λ v. ok (composite u.body v))
  unfolding apply_binary
  applied_both u =
      both o u.first u.second
      ∙ ap (λ (r : Outcome Body). r >>= λ d. binary_value o u.first.value.value u.second.value.value >>= λ v. ok (composite d v)) u.operands.half

  module _ {n : ℕ} {after : List ℤ} (leaves : (b c d : Body) (v w : Value) → Operands o s x.cells y.cells t.offset b c d v w → Leaves n after d (binary_value o v w)) where
    pub binary_no_value : {p q : Outcome Composite} (e : Error) → n ≡ error_number e → Answers x s p → Answers y (drop body_cells s) q → (p >>= λ u. q >>= λ v. apply_binary o u v) ≡ fail (error_number e)
    binary_no_value e z a b =
        let u = both_halved a b in
        applied_both u
        ∙ ap (λ (r : Outcome Value). r >>= λ v. ok (composite u.body v)) ((leaves _ _ _ _ _ u.operands).error (λ k. some_error e (sym z ∙ k)) ∙ ap {B = Outcome Value} fail z)

    pub binary_value_lem : {p q : Outcome Composite} → n ≡ 0 → Answers x s p → Answers y (drop body_cells s) q → Gives (Ok (made t)) after (p >>= λ u. q >>= λ v. apply_binary o u v)
    binary_value_lem z a b =
        let u = both_halved a b in
        let l = (leaves _ _ _ _ _ u.operands).answer z in
        gives_answer (record {
          value = composite u.body l.value;
          is = applied_both u ∙ ap (λ (r : Outcome Value). r >>= λ v. ok (composite u.body v)) l.is;
          holds = u.holds;
          lies = l.lies;
          cells = u.size_is;
        })

-- the second operand's error
pub second_error : (o : Binary) {x : Evaluated} {s : List ℤ} {p q : Outcome Composite} (e : Error) → Answers x s p → q ≡ fail (error_number e) → (p >>= λ u. q >>= λ v. apply_binary o u v) ≡ fail (error_number e)
second_error o {q = q} e a f =
    ap (λ (r : Outcome Composite). r >>= λ u. q >>= λ v. apply_binary o u v) a.is
    ∙ ap (λ (r : Outcome Composite). r >>= λ v. apply_binary o a.value v) f
