-- A simple body is told by its first byte, and a leaf of such a body gives one cell. Assumes nothing.
use mathlib.Core.Path.{◌≡◌, refl, sym, ap, ◌∙◌, subst}
use mathlib.Core.Bool.{true}
use mathlib.Core.List.{List, [], ◌∷◌}
use Prim.Native.Nat.{ℕ, ◌+◌, ◌*◌, ◌≤◌, ◌<◌}
use native.Mathlib.Omega.{arith}
use lib.IntN.{ℤ, pos}
use lib.ListN.{length, take, drop, get_or, set}
use lib.Seq.{get_or-take, get_or-drop}
use Rattle.lingua.specs.Numbers.{body_bytes, body_cells}
use Rattle.lingua.specs.Errors.{not_filled}
use Rattle.std.specs.Prelude.{Result, Ok, Err, Some}
use Rattle.lingua.specs.declared.errors.Error.{Error}
use Rattle.lingua.specs.Outcome.{ok, or_fail, Result as Outcome}
use Rattle.lingua.specs.Body.{Body, size}
use Rattle.lingua.specs.Value.{pad, Composite}
use Rattle.lingua.specs.Store.{Variable, variable_at, present_body, contents, filled_at}
use Rattle.profile.specs.Row.{constant_of}
use Rattle.profile.specs.Constants.{ConstantRow, IsCell}
use Rattle.body.specs.Encode.{Holds}
use Rattle.body.proofs.Bytes.{tag}
use Rattle.body.proofs.Making.{held_at, simple_taken}
use Rattle.body.proofs.Tags.{held_tag, by_first}
use Rattle.body.proofs.Answers.{scalar_cell}
use Rattle.cells.proofs.Operands.{lies_long}
use Rattle.run.proofs.Copying.{one_cell}
use Rattle.run.proofs.Parts.{cells_room}
use Rattle.checked_row.specs.Meaning.{Stored, Current, Gives, Simple, simple_evaluated, QuickGives}
use Rattle.checked_row.proofs.Giving.{gives_error}
use Rattle.checked_row.proofs.Storing.{memory_of, gives_constant, gives_variable, gives_current}

-- ---- a body by its first byte
pub simple_is : (first : ℕ) (body : List ℕ) (b : Body) → Holds body b → get_or body 0 0 ≡ first → first ≤ 3 → Simple first body b
simple_is first body b h e l =
    record {
      is = h.is ∙ sym (simple_taken body 0 b (held_at body b h) (omega (arith, l, e))) ∙ ap (λ (j : ℕ). pad body_bytes 0 (j ∷ [])) e;
      one_cell = ap size (by_first b (omega (arith, l, e, held_tag body b h))) ∙ sym (scalar_cell (tag b));
    }

-- ---- the first byte of a variable's present body
pub own_first : (variables : List ℕ) (n : ℕ) → get_or (take 96 (drop (96 * n) variables)) 0 0 ≡ get_or variables (96 * n) 0
own_first variables n =
    get_or-take 96 (drop (96 * n) variables) 0 0 (omega arith)
    ∙ get_or-drop (96 * n) variables 0 0
    ∙ ap (λ (k : ℕ). get_or variables k 0) (let k : 96 * n + 0 ≡ 96 * n = omega arith in k)

-- ---- leaves
pub constant_simple : (rows : List ℕ) (k : ℕ) (s : List ℤ) (z : ℤ) (own : List ℕ) (t : ℕ) → ConstantRow rows k → IsCell z (constant_of rows k) → 0 < length s → Holds own (constant_of rows k).body → Simple t own (constant_of rows k).body
    → Gives (Ok (simple_evaluated t)) (set s 0 z) (ok (constant_of rows k))
constant_simple rows k s z own t c i l h q = gives_constant rows k s z (simple_evaluated t) c i l (subst (λ (b : List ℕ). Holds b (constant_of rows k).body) q.is h) refl

pub variable_simple : {variables : List ℕ} {cells : List ℤ} {states : List ℕ} {vs : List Variable} (h : Stored variables cells states vs) (n : ℕ) (lt : n < length vs) (s : List ℤ) (z : ℤ) (t : ℕ) → filled_at states n ≡ true → Simple t (take 96 (drop (96 * n) variables)) (present_body (variable_at vs n)) → z ≡ get_or cells (body_cells * n) (pos 0) → 0 < length s
    → Gives (Ok (simple_evaluated t)) (set s 0 z) (or_fail (contents vs n) not_filled)
variable_simple {variables} {cells} h n lt s z t g q e l =
    gives_variable h n lt s (set s 0 z) _ 1 (simple_evaluated t) g refl (sym q.one_cell) (one_cell s cells (body_cells * n) 1 z e refl l (omega (arith, cells_room (memory_of h) n lt))) (sym q.is) refl

pub current_long : {current : List ℤ} {body : List ℕ} {x : Composite} {t : ℕ} → Current current body x → Simple t body x.body → 0 < length current
current_long h q = omega (arith, lies_long h.lies, q.one_cell)

pub current_simple : {current : List ℤ} {body : List ℕ} {x : Composite} (s : List ℤ) (z : ℤ) (t : ℕ) → Current current body x → Simple t body x.body → z ≡ get_or current 0 (pos 0) → 0 < length s → Gives (Ok (simple_evaluated t)) (set s 0 z) (ok x)
current_simple {current} s z t h q e l = gives_current s (set s 0 z) 1 (simple_evaluated t) h (sym q.one_cell) (one_cell s current 0 1 z e refl l (current_long h q)) (sym q.is) refl

-- ---- what was found at once
pub quick_simple : (r : Result ℕ Error) (t : ℕ) (s : List ℤ) (o : Outcome Composite) → r ≡ Ok t → QuickGives (Some r) s o → Gives (Ok (simple_evaluated t)) s o
quick_simple r t s o e g = subst (λ (x : Result ℕ Error). QuickGives (Some x) s o) e g

pub quick_failed : (r : Result ℕ Error) (e : Error) (s : List ℤ) (o : Outcome Composite) → r ≡ Err e → QuickGives (Some r) s o → Gives (Err e) s o
quick_failed r e s o k g = gives_error e (subst (λ (x : Result ℕ Error). QuickGives (Some x) s o) k g)
