-- What a check or an evaluation gives: an answer, or what was wrong. Assumes nothing: these are definitions.
pub use Rattle.std.specs.Prelude.{if◌then◌else◌}
use Rattle.std.specs.Prelude.{Bool, true, false, List, [], ◌∷◌, ◌++◌, ℕ}
use Rattle.std.proofs.Math.Option.{Option, some, none}

pub data Outcome (E A : Type 0) : Type 0 where
  ok : A → Outcome E A
  fail : E → Outcome E A

-- an answer, or an error's number
abbrev pub Result : Type 0 → Type 0
Result A = Outcome ℕ A

infixl 10 ◌>>=◌
infixl 10 ◌>>◌
-- what comes next is asked only of an answer
abbrev pub ◌>>=◌ : {E A B : Type 0} → Outcome E A → (A → Outcome E B) → Outcome E B
ok a >>= f = f a
fail e >>= f = fail e

abbrev pub ◌>>◌ : {E B : Type 0} → Outcome E (Unit {0}) → Outcome E B → Outcome E B
ok u >> o = o
fail e >> o = fail e

-- the condition holds, or e is what was wrong
abbrev pub require : {E : Type 0} → Bool → E → Outcome E (Unit {0})
require true e = ok tt
require false e = fail e

-- what an option holds, or e
abbrev pub or_fail : {E A : Type 0} → Option A → E → Outcome E A
or_fail (some a) e = ok a
or_fail none e = fail e

-- what an option holds, or b
abbrev pub or_else : {A : Type 0} → Option A → A → A
or_else (some a) b = a
or_else none b = b

abbrev pub is_some : {A : Type 0} → Option A → Bool
is_some (some a) = true
is_some none = false

abbrev pub is_ok : {E A : Type 0} → Outcome E A → Bool
is_ok (ok a) = true
is_ok (fail e) = false

abbrev pub answer_of : {E A : Type 0} → Outcome E A → Option A
answer_of (ok a) = some a
answer_of (fail e) = none

-- both answers, or everything that was wrong in either
abbrev pub both : {E A B : Type 0} → Outcome (List E) A → Outcome (List E) B → Outcome (List E) (A × B)
both (ok a) (ok b) = ok (a, b)
both (ok a) (fail fs) = fail fs
both (fail es) (ok b) = fail es
both (fail es) (fail fs) = fail (es ++ fs)

-- all the answers, or what was wrong first
unfoldable pub all_answers : {E A : Type 0} → List (Outcome E A) → Outcome E (List A)
all_answers [] = ok []
all_answers (o ∷ os) = do
  a ← o
  rest ← all_answers os
  ok (a ∷ rest)
