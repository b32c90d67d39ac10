-- A value as cells at a list's front, of which those behind its own are zeros: where it lies, its copy, a variable's part as such a value, and
-- the part that takes one. Assumes nothing.
use mathlib.Core.Path.{◌≡◌, refl, sym, ap, ◌∙◌}
use mathlib.Core.List.{List, ◌++◌, append_assoc}
use mathlib.Core.Option.{Option, some, none}
use Prim.Native.Nat.{ℕ, ◌+◌, ◌-◌, ◌*◌, ◌≤◌, ◌<◌}
use native.Mathlib.Omega.{arith}
use lib.IntN.{ℤ, pos}
use lib.ListN.{length, take, drop, set, replicate, length-take, replicate-append-replicate}
use lib.Seq.{paste, take_at, take-take, drop_at}
use Rattle.lingua.specs.Numbers.{body_cells}
use Rattle.lingua.specs.Body.{Body, size}
use Rattle.lingua.specs.Value.{pad, cells_of, Composite}
use Rattle.lingua.specs.Store.{Variable, variable_at, with_content, content_cells, cells_in}
use Rattle.lingua.specs.Typing.{Bodies}
use Rattle.laws.specs.Lengths.{length_cells}
use Rattle.laws.specs.Lists.{length_pad}
use Rattle.laws.specs.Parts.{pad_whole}
use Rattle.laws.specs.Stores.{variable_cells, cells_at}
use Rattle.safety.specs.Constants.{Fitting}
use Rattle.cells.specs.Stack.{Lies, first_place}
use Rattle.cells.proofs.Windows.{paste_front}
use Rattle.run.specs.Memory.{Memory}
use Rattle.run.proofs.Parts.{filled, contents_small}
use Rattle.run.proofs.Storing.{cells_stored}
use Rattle.erased_store.specs.Meaning.{ValueFor}

-- ---- a value and its copy
module _ {b : Body} {width : ℕ} {value : List ℤ} {x : Composite} (f : ValueFor b width value x) where
  pub value_lies : Lies value first_place x.body x.value
  unfolding pad
  value_lies = record {
    cells =
        sym (take-take (size x.body) width value f.wide)
        ∙ ap (λ (l : List ℤ). take (size x.body) l) f.cells
        ∙ take_at (cells_of x.body x.value) _ (size x.body) (length_cells f.fits);
    fit = f.fits;
  }

  value_long : width ≤ length value
  value_long =
      omega (arith, length-take width value, ap (λ (l : List ℤ). length l) f.cells, length_pad width (pos 0) (cells_of x.body x.value) (omega (arith, length_cells f.fits, f.wide)))

  pub value_copied : {after : List ℤ} (empty : List ℤ) → after ≡ paste empty 0 (drop 0 value) width → ValueFor b width after x
  value_copied empty e = record {
    declared_body_lem = f.declared_body_lem;
    fits = f.fits;
    cells = ap (λ (l : List ℤ). take width l) e ∙ paste_front empty value width value_long ∙ f.cells;
    wide = f.wide;
    narrow = f.narrow;
  }

-- its own cells alone
pub value_exact : {b : Body} {width : ℕ} {value : List ℤ} {x : Composite} → x.body ≡ b → Lies value first_place x.body x.value → width ≡ size x.body → size b ≤ body_cells → ValueFor b width value x
value_exact {width = width} {value} {x} q l e s = record {
  declared_body_lem = q;
  fits = l.fit;
  cells = ap (λ (k : ℕ). take k value) e ∙ l.cells ∙ sym (pad_whole width (pos 0) (cells_of x.body x.value) (length_cells l.fit ∙ sym e));
  wide = omega (arith, e);
  narrow = omega (arith, e, ap size q, s);
}

-- ---- zeros behind zeros
pad_further : (m w : ℕ) (xs : List ℤ) → length xs ≤ w → w ≤ m → pad m (pos 0) xs ≡ pad w (pos 0) xs ++ replicate (m - w) (pos 0)
unfolding pad
pad_further m w xs h l =
    ap (λ (k : ℕ). xs ++ replicate k (pos 0)) (let e : m - length xs ≡ w - length xs + (m - w) = omega arith in e)
    ∙ ap (λ (t : List ℤ). xs ++ t) (sym (replicate-append-replicate (w - length xs) (m - w) (pos 0)))
    ∙ sym (append_assoc xs (replicate (w - length xs) (pos 0)) (replicate (m - w) (pos 0)))

-- a part with another value at its front, which is as wide as the one before
new_front : (value : List ℤ) (w : ℕ) (xs ys : List ℤ) → take w value ≡ pad w (pos 0) ys → length ys ≤ w → length xs ≤ w → w ≤ body_cells → paste (pad body_cells (pos 0) xs) 0 value w ≡ pad body_cells (pos 0) ys
new_front value w xs ys e k l s =
    ap (λ (t : List ℤ). t ++ drop (0 + w) (pad body_cells (pos 0) xs)) e
    ∙ ap (λ (j : ℕ). pad w (pos 0) ys ++ drop j (pad body_cells (pos 0) xs)) (let q : 0 + w ≡ w = omega arith in q)
    ∙ ap (λ (t : List ℤ). pad w (pos 0) ys ++ t) (ap (λ (t : List ℤ). drop w t) (pad_further body_cells w xs l s) ∙ drop_at (pad w (pos 0) xs) (replicate (body_cells - w) (pos 0)) w (length_pad w (pos 0) xs l))
    ∙ sym (pad_further body_cells w ys k s)

-- ---- a variable's part
module _ {cells : List ℤ} {states : List ℕ} {vs : List Variable} {vars : Bodies} (h : Memory cells states vs vars) (n : ℕ) (lt : n < length vs) where
  own_part : take body_cells (drop (body_cells * n) cells) ≡ variable_cells (variable_at vs n)
  own_part = ap (λ (l : List ℤ). take body_cells (drop (body_cells * n) l)) h.cells_are ∙ cells_at vs n lt (contents_small h)

  -- a filled variable's 64 cells by themselves, as the code takes them
  pub part_value : {b : Body} (x : Composite) → (variable_at vs n).content ≡ some x → vars n ≡ b → ValueFor b body_cells (take (body_cells * n + body_cells - body_cells * n) (drop (body_cells * n) cells)) x
  unfolding content_cells
  part_value x q e = let f = filled h n x q in record {
    declared_body_lem = f.0 ∙ e;
    fits = f.1;
    cells =
        take-take body_cells (body_cells * n + body_cells - body_cells * n) (drop (body_cells * n) cells) (omega arith)
        ∙ own_part
        ∙ ap (λ (c : Option Composite). pad body_cells (pos 0) (content_cells c)) q;
    wide = omega (arith, ap size f.0, h.small n lt);
    narrow = omega arith;
  }

  content_narrow : {w : ℕ} (c : Option Composite) → ((y : Composite) → c ≡ some y → (y.body ≡ vars n) × Fitting y) → size (vars n) ≤ w → length (content_cells c) ≤ w
  unfolding content_cells
  content_narrow none f l = omega arith
  content_narrow (some y) f l = let q = f y refl in omega (arith, length_cells q.1, ap size q.0, l)

  -- with a new value at its front
  new_part : {width : ℕ} {value : List ℤ} {x : Composite} → ValueFor (vars n) width value x → paste (take body_cells (drop (body_cells * n) cells)) 0 value width ≡ pad body_cells (pos 0) (cells_of x.body x.value)
  new_part {width} {value} {x} f =
      ap (λ (t : List ℤ). paste t 0 value width) own_part
      ∙ new_front value width (content_cells (variable_at vs n).content) (cells_of x.body x.value) f.cells (omega (arith, length_cells f.fits, f.wide))
      (content_narrow (variable_at vs n).content (filled h n) (omega (arith, ap size f.declared_body_lem, f.wide))) f.narrow

  -- the zeros behind the value's own cells change nothing
  pub value_stored : {width : ℕ} {value : List ℤ} {x : Composite} → ValueFor (vars n) width value x
      → take (body_cells * n) cells ++ (paste (take body_cells (drop (body_cells * n) cells)) 0 value width ++ drop (body_cells * n + body_cells) cells) ≡ cells_in (set vs n (with_content (variable_at vs n) x))
  value_stored {width} {value} {x} f =
      ap (λ (t : List ℤ). take (body_cells * n) cells ++ (t ++ drop (body_cells * n + body_cells) cells)) (new_part f ∙ sym (new_part (value_exact f.declared_body_lem (value_lies f) refl (h.small n lt))))
      ∙ cells_stored h n lt x f.fits f.declared_body_lem value (size x.body) refl (value_lies f).cells
