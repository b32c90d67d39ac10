-- What a store makes of the caller's memory: a record's cells with zeros behind them and its bytes, or another value's cells alone, whose body
-- is the one that the variable had. Assumes nothing.
use mathlib.Core.Path.{◌≡◌, sym, ap, ◌∙◌}
use mathlib.Core.Bool.{true}
use mathlib.Core.List.{List, ◌++◌, append_assoc}
use mathlib.Core.Option.{none}
use Prim.Native.Nat.{ℕ, ◌+◌, ◌-◌, ◌*◌, ◌≤◌, ◌<◌}
use native.Mathlib.Omega.{arith}
use lib.IntN.{ℤ, pos}
use lib.ListN.{length, take, drop, set, replicate, length-append, length-drop, length-replicate}
use lib.Seq.{paste, take_all, length-take-le}
use Rattle.lingua.specs.Numbers.{body_cells, body_bytes}
use Rattle.lingua.specs.Body.{size, attributes_of, coherent}
use Rattle.lingua.specs.Value.{pad, cells_of, Composite}
use Rattle.lingua.specs.Store.{Variable, variable_at, present_body, with_content, content_cells, cells_in, bodies_in, fill_at}
use Rattle.laws.specs.Coherent.{coherent_other}
use Rattle.laws.specs.Lengths.{length_cells}
use Rattle.laws.specs.Lists.{length_pad, paste_at}
use Rattle.laws.specs.Stores.{variable_cells, cells_set, cells_long}
use Rattle.laws.specs.Presents.{bodies_set, bodies_unchanged}
use Rattle.run.specs.Reached.{Lent, lent}
use Rattle.run.proofs.Parts.{contents_small}
use Rattle.run.proofs.Storing.{cells_stored, states_stored}
use Rattle.checked_row.specs.Meaning.{Current}
use Rattle.checked_row.proofs.Storing.{memory_of, all_compact}
use Rattle.checked_store.specs.Meaning.{Running}
use Rattle.checked_store.proofs.Keeping.{content_running}

-- ---- the part of a variable with a value at its front and zeros behind it
-- of a list with the part in its middle
pub zeros_behind : (before part behind value : List ℤ) (a w : ℕ) → length before ≡ a → length part ≡ body_cells → w ≤ body_cells → w ≤ length value
    → paste (before ++ (paste part 0 value w ++ behind)) (a + w) (replicate (body_cells - w) (pos 0)) (body_cells - w) ≡ before ++ ((take w value ++ replicate (body_cells - w) (pos 0)) ++ behind)
zeros_behind before part behind value a w la lp small long =
    let front = take w value in
    let rest = drop (0 + w) part in
    let zeros : List ℤ = replicate (body_cells - w) (pos 0) in
    let lf : length front ≡ w = length-take-le w value long in
    let lr : length rest ≡ body_cells - w = omega (arith, length-drop (0 + w) part) in
    ap (λ (l : List ℤ). paste l (a + w) zeros (body_cells - w))
    (ap (λ (l : List ℤ). before ++ l) (append_assoc front rest behind) ∙ sym (append_assoc before front (rest ++ behind)))
    ∙ paste_at (before ++ front) rest behind zeros (a + w) (body_cells - w) (omega (arith, length-append before front)) lr (length-replicate (body_cells - w) (pos 0))
    ∙ append_assoc before front (zeros ++ behind)
    ∙ ap (λ (l : List ℤ). before ++ l) (sym (append_assoc front zeros behind))

-- ---- the store
module _ {rows : List ℕ} {limits : List ℤ} {l : Lent} {vs : List Variable} (h : Running rows limits l vs) (n : ℕ) (lt : n < length vs)
    {value : List ℤ} {body : List ℕ} {x : Composite} (cur : Current value body x) {w : ℕ} (width : w ≡ size x.body) where
  abbrev stored : List Variable
  stored = set vs n (with_content (variable_at vs n) x)

  -- the cells as `put` leaves them
  abbrev put_cells : List ℤ
  put_cells = take (body_cells * n) l.cells ++ (paste (take body_cells (drop (body_cells * n) l.cells)) 0 value w ++ drop (body_cells * n + body_cells) l.cells)

  value_is : take w value ≡ cells_of x.body x.value
  value_is = ap (λ (k : ℕ). take k value) width ∙ cur.lies.cells

  narrow : w ≤ body_cells
  narrow = omega (arith, width, cur.holds.few_cells)

  value_length : length (cells_of x.body x.value) ≡ w
  value_length = length_cells cur.lies.fit ∙ sym width

  -- a record's, with zeros behind
  cells_replaced : w ≤ length value → paste put_cells (body_cells * n + w) (replicate (body_cells - w) (pos 0)) (body_cells - w) ≡ cells_in stored
  unfolding pad content_cells
  cells_replaced long =
      let cells = l.cells in
      let before : List ℤ = take (body_cells * n) cells in
      let behind : List ℤ = drop (body_cells * n + body_cells) cells in
      let part : List ℤ = take body_cells (drop (body_cells * n) cells) in
      let room : body_cells * n + body_cells ≤ length cells = omega (arith, ap (λ (k : List ℤ). length k) h.world.stored.cells_are, cells_long vs, h.world.stored.few, lt) in
      let new : List ℤ = variable_cells (with_content (variable_at vs n) x) in
      let short : length (cells_of x.body x.value) ≤ body_cells = omega (arith, value_length, narrow) in
      zeros_behind before part behind value (body_cells * n) w (length-take-le (body_cells * n) cells (omega (arith, room)))
      (length-take-le body_cells (drop (body_cells * n) cells) (omega (arith, room, length-drop (body_cells * n) cells))) narrow long
      ∙ ap (λ (v : List ℤ). before ++ ((v ++ replicate (body_cells - w) (pos 0)) ++ behind)) value_is
      ∙ ap (λ (k : ℕ). before ++ ((cells_of x.body x.value ++ replicate (body_cells - k) (pos 0)) ++ behind)) (sym value_length)
      ∙ sym (append_assoc before new behind)
      ∙ ap (λ (v : List ℤ). (before ++ v) ++ behind) (sym (take_all body_cells new (omega (arith, length_pad body_cells (pos 0) (cells_of x.body x.value) short))))
      ∙ ap (λ (k : List ℤ). paste k (body_cells * n) new body_cells) h.world.stored.cells_are
      ∙ sym (cells_set vs n lt (contents_small (memory_of h.world.stored)) (with_content (variable_at vs n) x) short)

  bodies_replaced : paste l.bodies (body_bytes * n) body body_bytes ≡ bodies_in stored
  bodies_replaced =
      ap (λ (b : List ℕ). paste b (body_bytes * n) body body_bytes) h.world.stored.bodies_are
      ∙ ap (λ (b : List ℕ). paste (bodies_in vs) (body_bytes * n) b body_bytes) cur.holds.is
      ∙ sym (bodies_set vs n lt (all_compact h.world.stored) (with_content (variable_at vs n) x) cur.holds.few_nodes)

  module _ (cells : List ℤ) (states bodies : List ℕ) (states_are : states ≡ fill_at l.states n) where
    stores : cells ≡ cells_in stored → bodies ≡ bodies_in stored → Running rows limits (lent cells states bodies) stored
    stores c b =
        content_running h n lt x cur.lies.fit (record { few_cells = cur.holds.few_cells; few_nodes = cur.holds.few_nodes }) (lent cells states bodies)
        (record { cells_are = c; states_are = states_are ∙ states_stored vs n lt x h.world.stored.states_are; bodies_are = b })

    pub record_stored : w ≤ length value → (put : List ℤ) → put ≡ put_cells → cells ≡ paste put (body_cells * n + w) (replicate (body_cells - w) (pos 0)) (body_cells - w)
        → bodies ≡ paste l.bodies (body_bytes * n) body body_bytes → Running rows limits (lent cells states bodies) stored
    record_stored long put p c b =
        stores (c ∙ ap (λ (k : List ℤ). paste k (body_cells * n + w) (replicate (body_cells - w) (pos 0)) (body_cells - w)) p ∙ cells_replaced long) (b ∙ bodies_replaced)

    pub other_stored : attributes_of x.body ≡ none → coherent (present_body (variable_at vs n)) x.body ≡ true → cells ≡ put_cells → bodies ≡ l.bodies → Running rows limits (lent cells states bodies) stored
    other_stored none_of same c b =
        let e : x.body ≡ present_body (variable_at vs n) = sym (coherent_other (present_body (variable_at vs n)) x.body none_of same) in
        stores (c ∙ cells_stored (memory_of h.world.stored) n lt x cur.lies.fit e value w width value_is)
        (b ∙ h.world.stored.bodies_are ∙ sym (bodies_unchanged vs n (with_content (variable_at vs n) x) e))
