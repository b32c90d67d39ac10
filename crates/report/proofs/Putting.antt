-- The variables' lines, one behind another, as the loop puts them. Assumes nothing.
use mathlib.Core.Path.{◌≡◌, refl, sym, ap, ◌∙◌, subst}
use mathlib.Core.Bool.{Bool, true, false}
use mathlib.Core.List.{List, ◌++◌, append_assoc, append-nil}
use Prim.Native.Nat.{ℕ, zero, suc, ◌+◌, ◌-◌, ◌*◌, ◌<◌}
use native.Mathlib.Nat.{zero-add}
use native.Mathlib.Numerals.{add-one}
use native.Mathlib.Omega.{arith}
use lib.ListN.{length, take, drop}
use lib.IntN.{ℤ}
use denote.Ref.{Bor}
use Rattle.std.specs.Prelude.{Option}
use Rattle.std.specs.Option.{option_copied}
use Rattle.std.specs.Bool.{then_some}
use Rattle.lingua.specs.Numbers.{body_cells, declaration_section}
use Rattle.lingua.specs.Body.{size}
use Rattle.lingua.specs.Store.{Variable, variable_at, present_body, filled_at}
use Rattle.lingua.specs.Rows.{bytes_at, pair_count}
use Rattle.lingua.specs.Trees.{name_at}
use Rattle.decoder.specs.Tables.{IsTable}
use Rattle.decoder.specs.declared.tables.Table.{Table}
use Rattle.profile.proofs.Declaring.{name_place}
use Rattle.text.specs.Appended.{Sheet, Appended}
use Rattle.text.specs.Line.{variable_line}
use Rattle.text.proofs.Texts.{append_none, append_both}
use Rattle.report.specs.Memory.{Left, cells_of_bodies, memory_line, memory_lines}

-- ---- one variable
pub there : {rows present : List ℕ} {cells : List ℤ} {states : List ℕ} {vs : List Variable} {d : ℕ} → Left rows present cells states vs → d < pair_count rows declaration_section → d < length vs
there h l = omega (arith, h.count, l)

-- the cells that are lent, where there are any
pub lent : (filled : Bool) (cells : Bor (List ℤ)) → option_copied (then_some filled cells) ≡ then_some filled cells.now
lent true cells = refl
lent false cells = refl

pub line_put :
    {p q : Sheet} (rows : List ℕ) (cells : List ℤ) (states : List ℕ) (vs : List Variable) (name : List ℕ) (content : Option (List ℤ)) (t : Table) (d count : ℕ) (filled : Bool) →
    IsTable rows declaration_section t →
    name ≡ bytes_at rows (t.start + 2 * d) →
    count ≡ size (present_body (variable_at vs d)) →
    filled ≡ filled_at states d →
    content ≡ then_some filled (take (body_cells * d + count - body_cells * d) (drop (body_cells * d) cells)) →
    Appended p (variable_line name content) q →
    Appended p (memory_line rows cells states vs d) q
unfolding memory_line cells_of_bodies name_at
line_put {p} {q} rows cells states vs name content t d count filled is named counted flag held h =
    let n : name ≡ name_at rows declaration_section d = named ∙ ap (bytes_at rows) (name_place rows declaration_section t is d) in
    let k : body_cells * d + count - body_cells * d ≡ size (present_body (variable_at vs d)) = omega (arith, counted) in
    let c : content ≡ then_some (filled_at states d) (cells_of_bodies cells vs d) =
    held
    ∙ ap (λ (b : Bool). then_some b (take (body_cells * d + count - body_cells * d) (drop (body_cells * d) cells))) flag
    ∙ ap (λ (j : ℕ). then_some (filled_at states d) (take j (drop (body_cells * d) cells))) k in
    subst (λ (l : List ℕ). Appended p (variable_line l (then_some (filled_at states d) (cells_of_bodies cells vs d))) q) n
    (subst (λ (o : Option (List ℤ)). Appended p (variable_line name o) q) c h)

-- ---- all of them
module _ (rows : List ℕ) (cells : List ℤ) (states : List ℕ) (vs : List Variable) where
  lines_one_more : (d n : ℕ) → memory_lines rows cells states vs d (suc n) ≡ memory_lines rows cells states vs d n ++ memory_line rows cells states vs (d + n)
  unfolding memory_lines
  lines_one_more d zero =
      append-nil (memory_line rows cells states vs d) ∙ ap (λ (k : ℕ). memory_line rows cells states vs k) (let e : d ≡ d + zero = omega arith in e)
  lines_one_more d (suc n) =
      ap (λ (l : List ℕ). memory_line rows cells states vs d ++ l) (lines_one_more (suc d) n)
      ∙ sym (append_assoc (memory_line rows cells states vs d) (memory_lines rows cells states vs (suc d) n) (memory_line rows cells states vs (suc d + n)))
      ∙ ap (λ (k : ℕ). (memory_line rows cells states vs d ++ memory_lines rows cells states vs (suc d) n) ++ memory_line rows cells states vs k) (let e : suc d + n ≡ d + suc n = omega arith in e)

  pub lines_begin : (p : Sheet) → Appended p (memory_lines rows cells states vs 0 0) p
  unfolding memory_lines
  lines_begin p = append_none p

  pub lines_next : {p q r : Sheet} (d : ℕ) → Appended p (memory_lines rows cells states vs 0 d) q → Appended q (memory_line rows cells states vs d) r → Appended p (memory_lines rows cells states vs 0 (d + 1)) r
  lines_next d a b = rw (add-one, lines_one_more 0 d, zero-add) (append_both a b)

  pub lines_all : {p q : Sheet} (d : ℕ) → d ≡ pair_count rows declaration_section → Appended p (memory_lines rows cells states vs 0 d) q → Appended p (memory_lines rows cells states vs 0 (pair_count rows declaration_section)) q
  lines_all {p} {q} d e a = subst (λ (k : ℕ). Appended p (memory_lines rows cells states vs 0 k) q) e a
