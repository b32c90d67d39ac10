-- What an operation's half on bodies gives at a row, with the layout table's second number. Assumes nothing: these are definitions.
use Rattle.std.specs.Prelude.{◌≡◌, [], ◌∷◌, ℕ, ◌≤◌, Option, Result, Ok, Err, IfSome}
use Rattle.lingua.specs.Numbers.{body_cells, body_bytes}
use Rattle.lingua.specs.Outcome.{Outcome, ok, fail}
use Rattle.lingua.specs.Body.{Body, size}
use Rattle.lingua.specs.Value.{pad}
use Rattle.lingua.specs.Faults.{error_number}
use Rattle.lingua.specs.declared.errors.Error.{Error}
use Rattle.body.specs.Encode.{Holds}
use Rattle.body.specs.declared.typed.Typed.{Typed as HalfTyped}

pub record HalfPasses (h : HalfTyped) (b : Body) (second : ℕ) : Type 0 where
  pub holds : Holds h.body b
  pub cells : h.cells ≡ size b
  pub is_second : h.offset ≡ second
  pub small : h.offset ≤ body_cells

-- the half gives a body
pub record HalfPassed (h : HalfTyped) (o : Outcome ℕ Body) (second : Body → ℕ) : Type 0 where
  pub body : Body
  pub is : o ≡ ok body
  pub passes : HalfPasses h body (second body)

abbrev pub Half : Result HalfTyped Error → Outcome ℕ Body → (Body → ℕ) → Type 0
Half (Ok h) o second = HalfPassed h o second
Half (Err e) o second = o ≡ fail (error_number e)

-- a simple body's tag and what it stands for: the tag alone, one cell
unfoldable pub simple_typed : ℕ → HalfTyped
simple_typed t = record { body = pad body_bytes 0 (t ∷ []); cells = 1; offset = 0 }

-- a tag that was found stands for the half's answer; none says nothing
abbrev pub SimpleHalf : Option ℕ → Outcome ℕ Body → (Body → ℕ) → Type 0
SimpleHalf t o second = IfSome t (λ s. Half (Ok (simple_typed s)) o second)
