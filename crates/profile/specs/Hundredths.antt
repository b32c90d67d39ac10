-- The type rows whose body is hundredths: those of one kind alone. Assumes nothing.
use Rattle.std.specs.Prelude.{◌≡◌, refl, Bool, false, List, ℕ}
use Rattle.std.proofs.Common.{ap}
use Rattle.lingua.specs.Outcome.{ok, fail, Result, ◌>>=◌}
use Rattle.lingua.specs.Body.{Body, is_hundredths}
use Rattle.lingua.specs.Operation.{make_list, make_record, expand, unary_body, binary_body}
use Rattle.lingua.specs.Rows.{TypeRow, simple_type, list_type, record_type, expand_type, unknown_type, type_row}
use Rattle.lingua.specs.Trees.{type_body_of, type_body_in, type_body, body_or}
use Rattle.laws.specs.Halves.{make_list_body, make_record_body, expand_body}

unfoldable pub hundredths_row : TypeRow → Bool
hundredths_row (simple_type b) = is_hundredths b
hundredths_row (list_type a) = false
hundredths_row (record_type n a) = false
hundredths_row (expand_type a n b) = false
hundredths_row unknown_type = false

-- an outcome whose body, if it has one, is another
other_body : (o : Result Body) → ((d : Body) → o ≡ ok d → is_hundredths d ≡ false) → is_hundredths (body_or o) ≡ false
unfolding is_hundredths
other_body (ok d) f = f d refl
other_body (fail n) f = refl

-- the same behind another outcome
behind : (p : Result Body) (f : Body → Result Body) → ((b d : Body) → f b ≡ ok d → is_hundredths d ≡ false) → is_hundredths (body_or (p >>= f)) ≡ false
unfolding is_hundredths
behind (ok b) f g = other_body (f b) (λ d e. g b d e)
behind (fail n) f g = refl

row_body : (row : TypeRow) (look : ℕ → Result Body) → is_hundredths (body_or (type_body_of row look)) ≡ hundredths_row row
unfolding type_body_of hundredths_row is_hundredths
row_body (simple_type b) look = refl
row_body (list_type a) look = behind (look a) (λ b. unary_body make_list b) (λ b d e. ap is_hundredths (make_list_body e))
row_body (record_type n a) look = behind (look a) (λ b. unary_body (make_record n) b) (λ b d e. ap is_hundredths (make_record_body {n = n} e))
row_body (expand_type a n c) look = first (look a)
  where
    first : (p : Result Body) → is_hundredths (body_or (p >>= λ b. look c >>= λ d. binary_body (expand n) b d)) ≡ false
    first (ok b) = behind (look c) (λ d. binary_body (expand n) b d) (λ d x e. ap is_hundredths (expand_body {n = n} e).result)
    first (fail m) = refl
row_body unknown_type look = refl

pub type_hundredths : (rows : List ℕ) (r : ℕ) → is_hundredths (body_or (type_body rows r)) ≡ hundredths_row (type_row rows r)
unfolding type_body type_body_in
type_hundredths rows r = row_body (type_row rows r) _
