-- Lists on their cells: push writes the length and the new element's cells at the first free place, top is the window at the
-- last place, pop writes the length and zeros at the last place, element i is the window at its place; and each fits. Carried by where the last element
-- stands among the cells. Assumes nothing.
use Rattle.std.specs.Prelude.{◌≡◌, refl, ℕ, zero, suc, ◌+◌, ◌-◌, ◌*◌, ◌≤◌, ◌<◌, take, drop, get_or}
use Rattle.std.proofs.Math.Path.{sym, ap}
use Rattle.std.proofs.Common.{◌∙◌, zero-mul, suc-mul, mul-le-mul_right, le_of_suc-le-suc, add-one, one-add, arith, length-append, take_at, drop_at}
use mathlib.Core.List.{List, [], ◌∷◌, ◌++◌, append_assoc, append-nil}
use Rattle.std.proofs.Math.ListN.{length, set, replicate}
use Rattle.std.proofs.lemmas.List.{length-replicate}
use Rattle.std.proofs.Math.Seq.{drop-append-add, paste}
use Rattle.std.proofs.Math.IntN.{ℤ, pos}
use Rattle.lingua.specs.Numbers.{list_places}
use Rattle.lingua.specs.Body.{Body, list_of, size}
use Rattle.lingua.specs.Value.{Value, items, Values, no_items, item, count_values, value_list, Fits, fit_items, AllFit, fit_none, fit_item, as_items, pad, flat, cells_of}
use Rattle.lingua.specs.Compute.{with_last, last_from, without_last}
use Rattle.laws.specs.Lists.{paste_at, pad_free, pad_append}
use Rattle.laws.specs.Lengths.{length_cells, length_flat}

-- ---- elements
pub count_with_last : (vs : Values) (x : Value) → count_values (with_last vs x) ≡ suc (count_values vs)
unfolding count_values with_last
count_with_last no_items x = refl
count_with_last (item v vs) x = ap (λ (n : ℕ). suc n) (count_with_last vs x)

pub count_without_last : (v : Value) (vs : Values) → count_values (without_last v vs) ≡ count_values vs
unfolding count_values without_last
count_without_last v no_items = refl
count_without_last v (item w vs) = ap (λ (n : ℕ). suc n) (count_without_last w vs)

pub fits_with_last : {vs : Values} {b : Body} {x : Value} → AllFit vs b → Fits x b → AllFit (with_last vs x) b
unfolding with_last
fits_with_last fit_none k = fit_item k fit_none
fits_with_last (fit_item h hs) k = fit_item h (fits_with_last hs k)

pub fits_last_from : {v : Value} {vs : Values} {b : Body} → Fits v b → AllFit vs b → Fits (last_from v vs) b
unfolding last_from
fits_last_from k fit_none = k
fits_last_from k (fit_item h hs) = fits_last_from h hs

pub fits_without_last : {v : Value} {vs : Values} {b : Body} → Fits v b → AllFit vs b → AllFit (without_last v vs) b
unfolding without_last
fits_without_last k fit_none = fit_none
fits_without_last k (fit_item h hs) = fit_item k (fits_without_last h hs)

module _ (f : Value → List ℤ) where
  pub flat_with_last : (vs : Values) (x : Value) → flat f (with_last vs x) ≡ flat f vs ++ f x
  unfolding flat with_last
  flat_with_last no_items x = append-nil (f x)
  flat_with_last (item v vs) x = ap (λ (l : List ℤ). f v ++ l) (flat_with_last vs x) ∙ sym (append_assoc (f v) (flat f vs) (f x))

  pub flat_last : (v : Value) (vs : Values) → flat f (item v vs) ≡ flat f (without_last v vs) ++ f (last_from v vs)
  unfolding flat without_last last_from
  flat_last v no_items = append-nil (f v)
  flat_last v (item w vs) = ap (λ (l : List ℤ). f v ++ l) (flat_last w vs) ∙ sym (append_assoc (f v) (flat f (without_last w vs)) (f (last_from w vs)))

-- ---- cells
-- place n of places of s cells lies within a list's
pub place_room : (n s : ℕ) → n < list_places → n * s + s ≤ list_places * s
place_room n s lt =
    let p : suc n * s ≤ list_places * s = mul-le-mul_right s lt in
    omega (arith, p, suc-mul n s)

module _ {b : Body} where
  pub push_cells : {vs : Values} {x : Value} → AllFit vs b → Fits x b → count_values vs < list_places
      → cells_of (list_of b) (items (with_last vs x)) ≡ set (paste (cells_of (list_of b) (items vs)) (1 + count_values vs * size b) (cells_of b x) (size b)) 0 (pos (count_values vs + 1))
  unfolding cells_of as_items
  push_cells {vs} {x} hs k lt =
      let f : Value → List ℤ = λ x. cells_of b x in
      let F = flat f vs in
      let s = size b in
      let n = count_values vs * s in
      let m = list_places * s in
      let h = pos (count_values vs) in
      let h' = pos (count_values vs + 1) in
      let lf : length F ≡ n = length_flat hs in
      let lx : length (f x) ≡ s = length_cells k in
      let room : n + s ≤ m = place_room (count_values vs) s lt in
      let R = replicate (m - (length F + s)) (pos 0) in
      ap (λ (c : ℕ). pos c ∷ pad m (pos 0) (flat f (with_last vs x))) (count_with_last vs x ∙ sym (add-one (count_values vs)))
      ∙ ap (λ (l : List ℤ). h' ∷ pad m (pos 0) l) (flat_with_last f vs x)
      ∙ ap (λ (l : List ℤ). h' ∷ l) (pad_append m (pos 0) F (f x) ∙ ap (λ (j : ℕ). F ++ (f x ++ replicate (m - (length F + j)) (pos 0))) lx)
      ∙ ap (λ (l : List ℤ). set l 0 h') (sym (paste_at (h ∷ F) (replicate s (pos 0)) R (f x) (1 + n) s (omega (arith, lf)) (length-replicate s (pos 0)) lx))
      ∙ ap (λ (l : List ℤ). set (paste (h ∷ l) (1 + n) (f x) s) 0 h') (sym (pad_free m s (pos 0) F (omega (arith, lf, room))))

  pub push_fits : {vs : Values} {x : Value} → AllFit vs b → Fits x b → count_values vs < list_places → Fits (items (with_last vs x)) (list_of b)
  push_fits {vs} {x} hs k lt = fit_items {vs = with_last vs x} (omega (arith, count_with_last vs x, lt)) (fits_with_last hs k)

  module _ {v : Value} {vs : Values} (h : Fits v b) (hs : AllFit vs b) (le : count_values (item v vs) ≤ list_places) where
    -- the cells as those before the last element, its own, and zeros
    last_split : cells_of (list_of b) (items (item v vs))
        ≡ (pos (count_values (item v vs)) ∷ flat (λ x. cells_of b x) (without_last v vs)) ++ (cells_of b (last_from v vs) ++ replicate (list_places * size b - (count_values vs * size b + size b)) (pos 0))
    unfolding cells_of as_items
    last_split =
        let f : Value → List ℤ = λ x. cells_of b x in
        let G = flat f (without_last v vs) in
        let lg : length G ≡ count_values vs * size b = length_flat (fits_without_last h hs) ∙ ap (λ (n : ℕ). n * size b) (count_without_last v vs) in
        let lx : length (f (last_from v vs)) ≡ size b = length_cells (fits_last_from h hs) in
        ap (λ (l : List ℤ). pos (count_values (item v vs)) ∷ l)
        (ap (λ (l : List ℤ). pad (list_places * size b) (pos 0) l) (flat_last f v vs)
        ∙ pad_append (list_places * size b) (pos 0) G (f (last_from v vs))
        ∙ ap (λ (j : ℕ). G ++ (f (last_from v vs) ++ replicate (list_places * size b - j) (pos 0))) (let e : length G + length (f (last_from v vs)) ≡ count_values vs * size b + size b = omega (arith, lg, lx) in e))

    before_last : length (pos (count_values (item v vs)) ∷ flat (λ x. cells_of b x) (without_last v vs)) ≡ 1 + count_values vs * size b
    before_last = omega (arith, length_flat (fits_without_last h hs), ap (λ (n : ℕ). n * size b) (count_without_last v vs))

    pub top_cells : take (size b) (drop (1 + count_values vs * size b) (cells_of (list_of b) (items (item v vs)))) ≡ cells_of b (last_from v vs)
    top_cells =
        ap (λ (l : List ℤ). take (size b) (drop (1 + count_values vs * size b) l)) last_split
        ∙ ap (λ (l : List ℤ). take (size b) l) (drop_at (pos (count_values (item v vs)) ∷ flat (λ x. cells_of b x) (without_last v vs)) _ (1 + count_values vs * size b) before_last)
        ∙ take_at (cells_of b (last_from v vs)) _ (size b) (length_cells (fits_last_from h hs))

    pub pop_cells : cells_of (list_of b) (items (without_last v vs))
        ≡ set (paste (cells_of (list_of b) (items (item v vs))) (1 + count_values vs * size b) (replicate (size b) (pos 0)) (size b)) 0 (pos (count_values vs))
    unfolding cells_of as_items
    pop_cells =
        let G = flat (λ x. cells_of b x) (without_last v vs) in
        let m = list_places * size b in
        let lg : length G ≡ count_values vs * size b = length_flat (fits_without_last h hs) ∙ ap (λ (n : ℕ). n * size b) (count_without_last v vs) in
        let room = place_room (count_values vs) (size b) (unfold count_values in le) in
        let h' = pos (count_values vs) in
        ap (λ (c : ℕ). pos c ∷ pad m (pos 0) G) (count_without_last v vs)
        ∙ ap (λ (l : List ℤ). h' ∷ l) (pad_free m (size b) (pos 0) G (omega (arith, lg, room)))
        ∙ ap (λ (j : ℕ). h' ∷ (G ++ (replicate (size b) (pos 0) ++ replicate (m - (j + size b)) (pos 0)))) lg
        ∙ ap (λ (l : List ℤ). set l 0 h')
        (sym (paste_at (pos (count_values (item v vs)) ∷ G) (cells_of b (last_from v vs)) (replicate (m - (count_values vs * size b + size b)) (pos 0)) (replicate (size b) (pos 0)) (1 + count_values vs * size b) (size b) before_last (length_cells (fits_last_from h hs)) (length-replicate (size b) (pos 0))))
        ∙ ap (λ (l : List ℤ). set (paste l (1 + count_values vs * size b) (replicate (size b) (pos 0)) (size b)) 0 h') (sym last_split)

    pub pop_fits : Fits (items (without_last v vs)) (list_of b)
    unfolding count_values
    pop_fits = fit_items {vs = without_last v vs} (omega (arith, count_without_last v vs, le)) (fits_without_last h hs)

-- a list of one element: its length, the element, and zeros
pub single_cells : {x : Value} {b : Body} → Fits x b → cells_of (list_of b) (items (item x no_items)) ≡ pos 1 ∷ (cells_of b x ++ replicate ((list_places - 1) * size b) (pos 0))
unfolding cells_of as_items count_values flat pad
single_cells {x} {b} h =
    let e : list_places * size b - length (cells_of b x ++ []) ≡ (list_places - 1) * size b = omega (arith, length-append (cells_of b x) [], length_cells h) in
    ap (λ (n : ℕ). pos 1 ∷ (cells_of b x ++ [] ++ replicate n (pos 0))) e
    ∙ ap (λ (l : List ℤ). pos 1 ∷ (l ++ replicate ((list_places - 1) * size b) (pos 0))) (append-nil (cells_of b x))

pub single_fits : {x : Value} {b : Body} → Fits x b → Fits (items (item x no_items)) (list_of b)
unfolding count_values
single_fits {x} h = fit_items {vs = item x no_items} (omega arith) (fit_item h fit_none)

-- ---- any element
pub length_list : (vs : Values) → length (value_list vs) ≡ count_values vs
unfolding value_list count_values
length_list no_items = refl
length_list (item v vs) = ap (λ (n : ℕ). suc n) (length_list vs)

pub element_fits : {vs : Values} {b : Body} → AllFit vs b → (i : ℕ) → i < count_values vs → (d : Value) → Fits (get_or (value_list vs) i d) b
unfolding value_list count_values
element_fits fit_none i lt d = absurd (let k : ⊥ = omega arith in k)
element_fits (fit_item h hs) zero lt d = h
element_fits (fit_item h hs) (suc i) lt d = element_fits hs i (le_of_suc-le-suc lt) d

flat_at : {vs : Values} {b : Body} → AllFit vs b → (i : ℕ) → i < count_values vs → (d : Value) (rest : List ℤ)
    → take (size b) (drop (i * size b) (flat (λ x. cells_of b x) vs ++ rest)) ≡ cells_of b (get_or (value_list vs) i d)
unfolding flat value_list count_values
flat_at fit_none i lt d rest = absurd (let k : ⊥ = omega arith in k)
flat_at (fit_item {v} {vs} {b} h hs) zero lt d rest =
    let F = flat (λ x. cells_of b x) vs in
    ap (λ (n : ℕ). take (size b) (drop n (cells_of b v ++ F ++ rest))) (zero-mul (size b))
    ∙ ap (λ (l : List ℤ). take (size b) l) (append_assoc (cells_of b v) F rest)
    ∙ take_at (cells_of b v) (F ++ rest) (size b) (length_cells h)
flat_at (fit_item {v} {vs} {b} h hs) (suc i) lt d rest =
    let F = flat (λ x. cells_of b x) vs in
    let e : suc i * size b ≡ length (cells_of b v) + i * size b = omega (arith, length_cells h, suc-mul i (size b)) in
    ap (λ (n : ℕ). take (size b) (drop n (cells_of b v ++ F ++ rest))) e
    ∙ ap (λ (l : List ℤ). take (size b) (drop (length (cells_of b v) + i * size b) l)) (append_assoc (cells_of b v) F rest)
    ∙ ap (λ (l : List ℤ). take (size b) l) (drop-append-add (cells_of b v) (F ++ rest) (i * size b))
    ∙ flat_at hs i (le_of_suc-le-suc lt) d rest

-- element i is the window at its place
pub element_cells : {vs : Values} {b : Body} → AllFit vs b → (i : ℕ) → i < count_values vs → (d : Value)
    → take (size b) (drop (1 + i * size b) (cells_of (list_of b) (items vs))) ≡ cells_of b (get_or (value_list vs) i d)
unfolding cells_of as_items pad
element_cells {vs} {b} hs i lt d =
    ap (λ (n : ℕ). take (size b) (drop n (cells_of (list_of b) (items vs)))) (one-add (i * size b)) ∙ flat_at hs i lt d _
