-- Constants, variables and the current value: their cells at the stack's front. Assumes nothing.
use mathlib.Core.Path.{◌≡◌, refl, sym, ap, ◌∙◌, subst}
use mathlib.Core.Bool.{true, false}
use mathlib.Core.List.{List}
use mathlib.Core.Logic.{⊎_elim}
use mathlib.Core.Option.{Option, none}
use Prim.Native.Nat.{ℕ, ◌+◌, ◌*◌, ◌≤◌, ◌<◌}
use native.Mathlib.Omega.{arith}
use lib.Dec.{eqb}
use lib.ListN.{length, take, drop, set, get_or-eq_default}
use lib.Seq.{paste}
use lib.IntN.{ℤ}
use borrow.Author.Tests.{eqb-false, not-true}
use Rattle.lingua.specs.Numbers.{body_cells, most_variables}
use Rattle.lingua.specs.Errors.{not_filled}
use Rattle.lingua.specs.Outcome.{ok, Result, or_fail}
use Rattle.lingua.specs.Body.{Body, size}
use Rattle.lingua.specs.Value.{Value, Composite}
use Rattle.lingua.specs.Store.{Variable, no_variable, variable_at, contents, flag_place, flag_at, filled_at}
use Rattle.lingua.specs.Typing.{Bodies}
use Rattle.laws.specs.Frames.{flag_behind}
use Rattle.laws.specs.Lengths.{length_cells}
use Rattle.laws.specs.Stores.{states_long, flag_room}
use Rattle.laws.specs.Tests.{below_or}
use Rattle.lingua.specs.Erased.{value_in, values_of}
use Rattle.profile.specs.Constants.{ConstantRow, IsCell}
use Rattle.profile.specs.Row.{constant_of}
use Rattle.cells.specs.Stack.{Lies, Leaves}
use Rattle.cells.proofs.Operands.{lies_long}
use Rattle.cells.proofs.Singles.{put_cell}
use Rattle.run.specs.Memory.{Memory}
use Rattle.run.proofs.Copying.{copied_lies}
use Rattle.run.proofs.Parts.{cells_room, unfilled_is, filled_is, filled, content_at}
use Rattle.erased_row.specs.Meaning.{Current}
use Rattle.erased_row.proofs.Leaving.{leaves_ok, leaves_fail}

-- ---- a constant
pub leaves_constant : (rows : List ℕ) (k : ℕ) (s : List ℤ) (z : ℤ) → ConstantRow rows k → IsCell z (constant_of rows k) → 0 < length s → Leaves 0 (set s 0 z) (constant_of rows k).body (ok (constant_of rows k).value)
leaves_constant rows k s z c i h =
    let x = constant_of rows k in
    let one : size x.body ≡ 1 = sym (length_cells c.fits) ∙ ap (λ (l : List ℤ). length l) i.is in
    leaves_ok x.value refl refl (record { cells = ap (λ (j : ℕ). take j (set s 0 z)) one ∙ put_cell s z h ∙ sym i.is; fit = c.fits })

-- ---- the current value
pub current_room : {current : List ℤ} {b : Body} {x : Value} (n : ℕ) → Current current b x → n ≡ size b → (0 + n ≤ length current) × (n ≤ body_cells)
current_room n h e = (omega (arith, lies_long h.lies, e), omega (arith, h.small, e))

pub leaves_current : {current : List ℤ} {b : Body} {x : Value} (s after : List ℤ) (n : ℕ) → Current current b x → n ≡ size b → after ≡ paste s 0 (drop 0 current) n → Leaves 0 after b (ok x)
leaves_current {current} {b} {x} s after n h z q = leaves_ok x refl refl (copied_lies s current 0 n b x q z (current_room n h z).0 h.lies.cells h.lies.fit)

-- ---- a variable
module _ {cells : List ℤ} {states : List ℕ} {vs : List Variable} {vars : Bodies} (h : Memory cells states vs vars) (n : ℕ) where
  pub flag_there : n < most_variables → flag_place n < length states
  flag_there l = flag_room states n (omega (arith, ap (λ (s : List ℕ). length s) h.states_are, states_long vs)) l

  -- a flag behind the variables is not set
  pub filled_there : filled_at states n ≡ true → n < length vs
  unfolding filled_at
  filled_there e =
      ⊎_elim (λ (l : n < length vs). l)
      (λ (l : length vs ≤ n). absurd (eqb-false (flag_at states n) 0 (not-true (eqb (flag_at states n) 0) e) (ap (λ (s : List ℕ). flag_at s n) h.states_are ∙ flag_behind vs n l)))
      (below_or n (length vs))

  no_content : filled_at states n ≡ false → (variable_at vs n).content ≡ none
  no_content e =
      ⊎_elim (λ (l : n < length vs). unfilled_is h n l e)
      (λ (l : length vs ≤ n). ap (λ (v : Variable). v.content) (get_or-eq_default vs no_variable l))
      (below_or n (length vs))

  pub leaves_empty : (after : List ℤ) (b : Body) → filled_at states n ≡ false → Leaves not_filled after b (or_fail (values_of (contents vs) n) not_filled)
  leaves_empty after b e = leaves_fail (λ q. let k : ⊥ = omega arith in k) (ap {B = Result Value} (λ (c : Option Composite). or_fail (value_in c) not_filled) (no_content e))

  pub leaves_filled : (s after : List ℤ) (m : ℕ) → filled_at states n ≡ true → m ≡ size (vars n) → after ≡ paste s 0 (drop (body_cells * n) cells) m → Leaves 0 after (vars n) (or_fail (values_of (contents vs) n) not_filled)
  leaves_filled s after m g z q =
      let lt = filled_there g in
      let x = filled_is h n lt g in
      let f = filled h n x.0 x.1 in
      let w : m ≡ size x.0.body = z ∙ ap size (sym f.0) in
      leaves_ok x.0.value refl
      (ap {B = Result Value} (λ (c : Option Composite). or_fail (value_in c) not_filled) x.1)
      (subst (λ (b : Body). Lies after 0 b x.0.value) f.0
      (copied_lies s cells (body_cells * n) m x.0.body x.0.value q w (omega (arith, cells_room h n lt, z, h.small n lt)) (content_at h n lt x.0 x.1) f.1))
