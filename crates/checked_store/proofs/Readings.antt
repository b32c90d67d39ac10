-- A reading: a number or a count in range on the stack, as an evaluated value. Assumes nothing.
use mathlib.Core.Path.{◌≡◌, refl, sym, ap, ◌∙◌, subst}
use mathlib.Core.Bool.{Bool, true, false}
use mathlib.Core.List.{List, [], ◌∷◌}
use Prim.Native.Nat.{ℕ, ◌*◌, ◌<◌}
use native.Mathlib.Omega.{arith}
use lib.Dec.{eqb}
use lib.IntN.{ℤ}
use lib.ListN.{length, set, get_or}
use Rattle.lingua.specs.Numbers.{body_bytes}
use Rattle.std.specs.Prelude.{Ok}
use Rattle.lingua.specs.Outcome.{ok}
use Rattle.lingua.specs.Body.{is_hundredths, size, nodes}
use Rattle.lingua.specs.Value.{in_range_of, quantity_body, pad}
use Rattle.lingua.specs.Encode.{bytes, encoded}
use Rattle.lingua.specs.Store.{Variable, variable_at, present_body, reading_value}
use Rattle.body.specs.Encode.{Holds}
use Rattle.body.proofs.Tags.{first_hundredths}
use Rattle.cells.proofs.Singles.{put_quantity}
use Rattle.checked_row.specs.declared.answer.Evaluated.{Evaluated}
use Rattle.checked_row.specs.Meaning.{Stored, Gives}
use Rattle.checked_row.proofs.Giving.{gives_answer}
use Rattle.checked_row.proofs.Simple.{own_first}
use Rattle.checked_row.proofs.Storing.{present_held}

-- ---- the body of what is read
pub count_held : (h : Bool) (out : List ℕ) → h ≡ true → out ≡ pad body_bytes 0 (7 ∷ []) → Holds out (quantity_body h)
unfolding encoded bytes size nodes
count_held true out e o = record { is = o; few_cells = omega arith; few_nodes = omega arith }
count_held false out e o = absurd (let k : ◌≡◌ {A = ℕ} 0 1 = cc in let z : ⊥ = omega arith in z)

pub number_held : (h : Bool) (out : List ℕ) → h ≡ false → out ≡ pad body_bytes 0 (2 ∷ []) → Holds out (quantity_body h)
unfolding encoded bytes size nodes
number_held false out e o = record { is = o; few_cells = omega arith; few_nodes = omega arith }
number_held true out e o = absurd (let k : ◌≡◌ {A = ℕ} 0 1 = cc in let z : ⊥ = omega arith in z)

-- the first byte of variable n's present body tells whether it is in hundredths
pub counts_by_byte : {variables : List ℕ} {cells : List ℤ} {states : List ℕ} {vs : List Variable} → Stored variables cells states vs → (n : ℕ) → n < length vs
    → eqb (get_or variables (96 * n) 0) 7 ≡ is_hundredths (present_body (variable_at vs n))
counts_by_byte {variables} h n lt = ap (λ (k : ℕ). eqb k 7) (sym (own_first variables n)) ∙ first_hundredths _ _ (present_held h n lt _ refl)

-- ---- on the stack
quantity_one : (h : Bool) → 1 ≡ size (quantity_body h)
unfolding size
quantity_one true = refl
quantity_one false = refl

pub puts_reading : {r : Evaluated} (h : Bool) (s : List ℤ) (z y : ℤ) (t : Bool) → y ≡ z → t ≡ in_range_of h z → t ≡ true → 0 < length s → Holds r.body (quantity_body h) → r.cells ≡ 1
    → Gives (Ok r) (set s 0 y) (ok (reading_value h z))
puts_reading {r} h s z y t k q e l rb rc =
    subst (λ (w : ℤ). Gives (Ok r) (set s 0 w) (ok (reading_value h z))) (sym k)
    (gives_answer (record {
      value = reading_value h z;
      is = refl;
      holds = rb;
      lies = put_quantity h s z l (sym q ∙ e);
      cells = rc ∙ quantity_one h;
    }))
