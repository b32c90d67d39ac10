-- Constants, variables and the current value: their cells at the stack's front. Assumes nothing.
use mathlib.Core.Path.{◌≡◌, refl, sym, ap, ◌∙◌, subst}
use mathlib.Core.Bool.{true, false}
use mathlib.Core.List.{List}
use mathlib.Core.Logic.{⊎_elim}
use mathlib.Core.Option.{Option, some, none}
use Prim.Native.Nat.{ℕ, ◌+◌, ◌*◌, ◌≤◌, ◌<◌}
use native.Mathlib.Omega.{arith}
use lib.ListN.{length, take, drop, set, get_or-eq_default}
use lib.Seq.{paste}
use lib.IntN.{ℤ}
use lib.Dec.{eqb}
use borrow.Author.Tests.{eqb-false, not-true}
use Rattle.lingua.specs.Numbers.{body_cells, body_bytes, most_variables}
use Rattle.lingua.specs.Errors.{not_filled}
use Rattle.std.specs.Prelude.{Ok}
use Rattle.lingua.specs.Outcome.{ok, fail, Result as Outcome, or_fail}
use Rattle.lingua.specs.Body.{Body, size}
use Rattle.lingua.specs.Value.{Composite}
use Rattle.lingua.specs.Store.{Variable, no_variable, variable_at, present_of, present_body, contents, flag_place, flag_at, filled_at}
use Rattle.laws.specs.Lengths.{length_cells}
use Rattle.laws.specs.Tests.{below_or}
use Rattle.laws.specs.Every.{every_by}
use Rattle.laws.specs.Stores.{states_long, flag_room}
use Rattle.laws.specs.Frames.{flag_behind}
use Rattle.laws.specs.Presents.{Compact, bodies_at, bodies_long}
use Rattle.safety.specs.TypeSound.{VariablesFit}
use Rattle.profile.specs.Constants.{ConstantRow, IsCell}
use Rattle.profile.specs.Row.{constant_of}
use Rattle.body.specs.Encode.{Holds}
use Rattle.cells.proofs.Operands.{lies_long}
use Rattle.cells.proofs.Singles.{put_cell}
use Rattle.run.specs.Memory.{Memory}
use Rattle.run.proofs.Copying.{copied_lies}
use Rattle.run.proofs.Parts.{cells_room, unfilled_is, filled_is, content_at}
use Rattle.checked_row.specs.declared.answer.Evaluated.{Evaluated}
use Rattle.checked_row.specs.Meaning.{Stored, Current, Gives}
use Rattle.checked_row.proofs.Giving.{gives_answer}

-- ---- a constant
pub gives_constant : (rows : List ℕ) (k : ℕ) (s : List ℤ) (z : ℤ) (r : Evaluated) → ConstantRow rows k → IsCell z (constant_of rows k) → 0 < length s → Holds r.body (constant_of rows k).body → r.cells ≡ 1 → Gives (Ok r) (set s 0 z) (ok (constant_of rows k))
gives_constant rows k s z r c i h b n =
    let x = constant_of rows k in
    let one : size x.body ≡ 1 = sym (length_cells c.fits) ∙ ap (λ (l : List ℤ). length l) i.is in
    gives_answer (record {
      value = x;
      is = refl;
      holds = b;
      lies = record { cells = ap (λ (j : ℕ). take j (set s 0 z)) one ∙ put_cell s z h ∙ sym i.is; fit = c.fits };
      cells = n ∙ sym one;
    })

-- ---- the current value
pub current_room : {current : List ℤ} {body : List ℕ} {x : Composite} (n : ℕ) → Current current body x → n ≡ size x.body → (0 + n ≤ length current) × (n ≤ body_cells)
current_room n h e = (omega (arith, lies_long h.lies, e), omega (arith, h.holds.few_cells, e))

pub gives_current : {current : List ℤ} {body : List ℕ} {x : Composite} (s after : List ℤ) (n : ℕ) (r : Evaluated) → Current current body x → n ≡ size x.body → after ≡ paste s 0 (drop 0 current) n → r.body ≡ body → r.cells ≡ n → Gives (Ok r) after (ok x)
gives_current {current} {body} {x} s after n r h z q b m =
    gives_answer (record {
      value = x;
      is = refl;
      holds = subst (λ (l : List ℕ). Holds l x.body) (sym b) h.holds;
      lies = copied_lies s current 0 n x.body x.value q z (current_room n h z).0 h.lies.cells h.lies.fit;
      cells = m ∙ z;
    })

-- ---- a variable
-- a value's body is the present one
present_is : (v : Variable) (x : Composite) → v.content ≡ some x → x.body ≡ present_body v
present_is v x e = sym (ap (present_of v.body) e)

-- the store with its variables' present bodies
pub memory_of : {variables : List ℕ} {cells : List ℤ} {states : List ℕ} {vs : List Variable} → Stored variables cells states vs → Memory cells states vs (λ n. present_body (variable_at vs n))
unfolding VariablesFit
memory_of {vs = vs} h = record { cells_are = h.cells_are; states_are = h.states_are; few = h.few; small = λ n l. (h.holdable n l).few_cells; fit = λ n x e. (present_is (variable_at vs n) x e, h.fits n x e) }

module _ {variables : List ℕ} {cells : List ℤ} {states : List ℕ} {vs : List Variable} (h : Stored variables cells states vs) where
  pub all_compact : Compact vs
  all_compact = every_by no_variable vs (λ n l. (h.holdable n l).few_nodes)

  -- a variable that may not be one of the store's: its flag has room, where it is set there is such a variable, and where it is not set
  -- there is no value
  module _ (n : ℕ) where
    pub flag_there : n < most_variables → flag_place n < length states
    flag_there l = flag_room states n (omega (arith, ap (λ (s : List ℕ). length s) h.states_are, states_long vs)) l

    pub filled_there : filled_at states n ≡ true → n < length vs
    unfolding filled_at
    filled_there e =
        ⊎_elim (λ (l : n < length vs). l)
        (λ (l : length vs ≤ n). absurd (eqb-false (flag_at states n) 0 (not-true (eqb (flag_at states n) 0) e) (ap (λ (s : List ℕ). flag_at s n) h.states_are ∙ flag_behind vs n l)))
        (below_or n (length vs))

    pub no_value : filled_at states n ≡ false → contents vs n ≡ none
    no_value e =
        ⊎_elim (λ (l : n < length vs). unfilled_is (memory_of h) n l e) (λ (l : length vs ≤ n). ap (λ (v : Variable). v.content) (get_or-eq_default vs no_variable l)) (below_or n (length vs))

    pub not_filled_is : filled_at states n ≡ false → or_fail (contents vs n) not_filled ≡ fail not_filled
    not_filled_is e = ap {B = Outcome Composite} (λ (c : Option Composite). or_fail c not_filled) (no_value e)

  module _ (n : ℕ) (lt : n < length vs) where
    pub body_room : body_bytes * n + body_bytes ≤ length variables
    body_room = omega (arith, ap (λ (l : List ℕ). length l) h.bodies_are, bodies_long vs, h.few, lt)

    pub present_held : (body : List ℕ) → body ≡ take body_bytes (drop (body_bytes * n) variables) → Holds body (present_body (variable_at vs n))
    present_held body e = record {
      is = e ∙ ap (λ (l : List ℕ). take body_bytes (drop (body_bytes * n) l)) h.bodies_are ∙ bodies_at vs n lt all_compact;
      few_cells = (h.holdable n lt).few_cells;
      few_nodes = (h.holdable n lt).few_nodes;
    }

    -- the body's cells lie within the variable's
    pub cells_within : (body : List ℕ) → body ≡ take body_bytes (drop (body_bytes * n) variables) → {m : ℕ} → ((b : Body) → Holds body b → m ≡ size b)
        → (body_cells * n + m ≤ length cells) × (m ≤ body_cells)
    cells_within body e q =
        let b = present_held body e in
        let z = q (present_body (variable_at vs n)) b in
        (omega (arith, cells_room (memory_of h) n lt, z, b.few_cells), omega (arith, z, b.few_cells))

    -- of the value that is there
    pub value_held : (x : Composite) → (variable_at vs n).content ≡ some x → (body : List ℕ) → body ≡ take body_bytes (drop (body_bytes * n) variables) → Holds body x.body
    value_held x q body e = subst (λ (b : Body). Holds body b) (sym (present_is (variable_at vs n) x q)) (present_held body e)

    pub gives_variable : (s after : List ℤ) (body : List ℕ) (m : ℕ) (r : Evaluated) → filled_at states n ≡ true → body ≡ take body_bytes (drop (body_bytes * n) variables) → m ≡ size (present_body (variable_at vs n))
        → after ≡ paste s 0 (drop (body_cells * n) cells) m → r.body ≡ body → r.cells ≡ m → Gives (Ok r) after (or_fail (contents vs n) not_filled)
    gives_variable s after body m r g b z q rb rc =
        let x = filled_is (memory_of h) n lt g in
        let w : m ≡ size x.0.body = z ∙ ap size (sym (present_is (variable_at vs n) x.0 x.1)) in
        gives_answer (record {
          value = x.0;
          is = ap {B = Outcome Composite} (λ (c : Option Composite). or_fail c not_filled) x.1;
          holds = subst (λ (l : List ℕ). Holds l x.0.body) (sym rb) (value_held x.0 x.1 body b);
          lies = copied_lies s cells (body_cells * n) m x.0.body x.0.value q w (omega (arith, cells_room (memory_of h) n lt, z, (h.holdable n lt).few_cells)) (content_at (memory_of h) n lt x.0 x.1) (h.fits n x.0 x.1);
          cells = rc ∙ w;
        })
