-- How an answer of the code is what the half on bodies gives. Assumes nothing.
use mathlib.Core.Path.{◌≡◌, refl, sym, ap, subst, ◌∙◌}
use mathlib.Core.Bool.{Bool, true, false, ◌||◌}
use mathlib.Core.List.{List, [], ◌∷◌}
use Prim.Native.Nat.{ℕ}
use native.Mathlib.Omega.{arith}
use lib.Dec.{ltb, eqb}
use Rattle.lingua.specs.Outcome.{Outcome, ok}
use Rattle.lingua.specs.Body.{Body, size, nodes, depth, width, too_large}
use Rattle.lingua.specs.Value.{pad}
use Rattle.lingua.specs.Encode.{bytes, encoded}
use Rattle.body.specs.declared.typed.Typed.{Typed}
use Rattle.body.specs.Encode.{Holds}
use Rattle.body.specs.Typed.{TypesBody, simple_of}

-- what gives the same body is answered alike
pub likewise : {t : Typed} {b : Body} {o : ℕ} {r : Outcome ℕ Body} → TypesBody t (ok b) o → r ≡ ok b → TypesBody t r o
likewise h q = record { body = h.body; is = q ∙ h.is; holds = h.holds; is_cells = h.is_cells; is_offset = h.is_offset }

-- ---- simple bodies
scalar_one : (t : ℕ) → (1 ≡ size (simple_of t)) × (1 ≡ nodes (simple_of t))
unfolding simple_of size nodes
scalar_one t = by_one (eqb t 1) (eqb t 2) (eqb t 7) refl refl refl
  where
    by_one : (p q r : Bool) → eqb t 1 ≡ p → eqb t 2 ≡ q → eqb t 7 ≡ r → (1 ≡ size (simple_of t)) × (1 ≡ nodes (simple_of t))
    by_one true q r e f g = rw e (refl, refl)
    by_one false true r e f g = rw (e, f) (refl, refl)
    by_one false false true e f g = rw (e, f, g) (refl, refl)
    by_one false false false e f g = rw (e, f, g) (refl, refl)

pub scalar_cell : (t : ℕ) → 1 ≡ size (simple_of t)
scalar_cell t = (scalar_one t).0

pub scalar_held : (t : ℕ) → bytes (simple_of t) ≡ t ∷ [] → Holds (pad 96 0 (t ∷ [])) (simple_of t)
unfolding encoded
scalar_held t h =
    let one = scalar_one t in
    record {
      is = ap (λ (l : List ℕ). pad 96 0 l) (sym h);
      few_cells = omega (arith, one.0);
      few_nodes = omega (arith, one.1);
    }

pub scalar_is : (t : ℕ) (x : List ℕ) → x ≡ pad 96 0 (t ∷ []) → bytes (simple_of t) ≡ t ∷ []
    → TypesBody (record { body = x; cells = 1; offset = 0 }) (ok (simple_of t)) 0
scalar_is t x e h =
    record {
      body = simple_of t;
      is = refl;
      holds = subst (λ (l : List ℕ). Holds l (simple_of t)) (sym e) (scalar_held t h);
      is_cells = scalar_cell t;
      is_offset = refl;
    }

-- ---- the bounds, by the numbers of a body
pub large_is : (b : Body) (c n d w : ℕ) → c ≡ size b → n ≡ nodes b → d ≡ depth b → w ≡ width b
    → (ltb 64 c || ltb 32 n || ltb 4 d || ltb 8 w) ≡ too_large b
unfolding too_large
large_is b c n d w p q r s = rw (p, q, r, s) refl
