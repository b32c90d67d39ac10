-- What the moves of cells make of lists: the results of a list of one, push, top and pop; and the length as the code reads
-- and writes it. Assumes nothing.
use mathlib.Core.Path.{◌≡◌, refl, sym, ap, ap₂, ◌∙◌}
use mathlib.Core.List.{List, [], ◌∷◌, ◌++◌}
use Prim.Native.Nat.{ℕ, suc, ◌+◌, ◌-◌, ◌*◌, ◌≤◌, ◌<◌}
use native.Mathlib.Nat.{mul-le-mul_right}
use native.Mathlib.Omega.{arith}
use lib.ListN.{length, take, drop, set, get_or, replicate, length-drop, length-replicate}
use lib.Seq.{get_or-take, take-set-lt, take_all, paste, take-paste, length-paste}
use lib.IntN.{ℤ, pos, nat_abs}
use mir.Syntax.{w64}
use mir.Val.{to_z, of_z}
use mir.ValLaws.{to_z-of_z}
use borrow.Author.Tests.{lt-ltb, le-ltb}
use Rattle.lingua.specs.Numbers.{list_places}
use Rattle.lingua.specs.Errors.{list_empty}
use Rattle.lingua.specs.Outcome.{fail, Result}
use Rattle.lingua.specs.Body.{Body, list_of, size}
use Rattle.lingua.specs.Value.{Value, items, Values, no_items, item, count_values, AllFit, fit_item, as_items, cells_of}
use Rattle.lingua.specs.Operation.{make_list, top, pop, push}
use Rattle.lingua.specs.Compute.{with_last, last_from, without_last, pushed, top_of, pop_of, unary_value, binary_value}
use Rattle.laws.specs.Lengths.{length_cells}
use Rattle.laws.specs.Items.{place_room, push_cells, push_fits, fits_last_from, top_cells, pop_cells, pop_fits, single_cells, single_fits}
use Rattle.laws.specs.Determined.{pos_same}
use Rattle.laws.specs.Sound.{fit_list, fit_count}
use Rattle.cells.specs.Stack.{Lies, Holds, Leaves, Counted}
use Rattle.cells.proofs.Windows.{take_part, paste_part, paste_front}
use Rattle.cells.proofs.Fields.{lies_within}

-- ---- what an operation leaves
pub leaves_answer : {s : List ℤ} {b : Body} {o : Result Value} → Holds s b o → Leaves 0 s b o
leaves_answer h = record { answer = λ e. h; error = λ f. absurd (f refl) }

pub leaves_error : (n : ℕ) {s : List ℤ} {b : Body} {o : Result Value} → o ≡ fail (suc n) → Leaves (suc n) s b o
leaves_error n e = record { answer = λ z. absurd (let k : ⊥ = omega arith in k); error = λ f. e }

-- ---- the length
pub small_back : (n : ℕ) → n ≤ 9 → to_z w64 n ≡ pos n
small_back n h = to_z-of_z w64 (pos n) (record { sfits = omega arith })

module _ (s : List ℤ) (w : ℕ) (k : Counted s w) where
  pub count_back : to_z w64 (of_z w64 (get_or s 0 (pos 0))) ≡ pos k.count
  count_back = ap (λ (z : ℤ). to_z w64 (of_z w64 z)) k.is ∙ small_back k.count (omega (arith, k.few))

  -- the length as the code has it
  abbrev counted : ℕ
  counted = nat_abs (to_z w64 (of_z w64 (get_or s 0 (pos 0))))

  pub counted_is : counted ≡ k.count
  counted_is = ap nat_abs count_back

  pub counted_cell : get_or s 0 (pos 0) ≡ pos counted
  counted_cell = k.is ∙ ap (λ (n : ℕ). pos n) (sym counted_is)

  pub counted_few : counted ≤ list_places
  counted_few = omega (arith, counted_is, k.few)

  -- the elements, and one more, lie within the places
  pub counted_room : 1 + counted * w ≤ 64
  counted_room = let p : counted * w ≤ list_places * w = mul-le-mul_right w counted_few in omega (arith, p, k.room)

  pub last_room : (counted ≡ 0 → ⊥) → 1 + (counted - 1) * w + w ≤ 64
  last_room f =
      let lt : counted - 1 < list_places = omega (arith, f, counted_few) in
      omega (arith, place_room (counted - 1) w lt, k.room)

-- a list's cells and its length
list_cells_lem : {s : List ℤ} {b : Body} {x : Value} → Lies s 0 (list_of b) x → take (size (list_of b)) s ≡ cells_of (list_of b) (items (as_items x))
unfolding cells_of as_items
list_cells_lem h = h.cells

first_count : (s : List ℤ) (b : Body) (vs : Values) (m : ℕ) → take (size (list_of b)) s ≡ cells_of (list_of b) (items vs) → get_or s 0 (pos 0) ≡ pos m → count_values vs ≡ m
unfolding size cells_of as_items
first_count s b vs m e p =
    pos_same (sym (ap (λ (l : List ℤ). get_or l 0 (pos 0)) e) ∙ get_or-take (size (list_of b)) s 0 (pos 0) (omega arith) ∙ p)

pub list_size : (b : Body) → size (list_of b) ≡ 1 + list_places * size b
unfolding size
list_size b = refl

pub list_count : {s : List ℤ} {b : Body} {x : Value} → Lies s 0 (list_of b) x → get_or s 0 (pos 0) ≡ pos (count_values (as_items x))
unfolding size cells_of as_items
list_count {s} {b} h = sym (get_or-take (size (list_of b)) s 0 (pos 0) (omega arith)) ∙ ap (λ (l : List ℤ). get_or l 0 (pos 0)) (list_cells_lem h)

-- ---- push
pub push_full : (s : List ℤ) (b : Body) (x y : Value) (m : ℕ) → Lies s 0 (list_of b) x → get_or s 0 (pos 0) ≡ pos m → 8 ≤ m → Leaves 5 s (list_of b) (binary_value push x y)
unfolding binary_value pushed
push_full s b x y m h p le =
    leaves_error 4 (rw (le-ltb (count_values (as_items x)) list_places (omega (arith, first_count s b (as_items x) m (list_cells_lem h) p, le))) refl)

pub push_law : (s copied : List ℤ) (b : Body) (x y : Value) (m w : ℕ) → size b ≡ w → Lies s 0 (list_of b) x → Lies s 64 b y → get_or s 0 (pos 0) ≡ pos m → m < 8
    → copied ≡ paste s (1 + m * w) (drop 64 s) w → Leaves 0 (set copied 0 (to_z w64 (m + 1))) (list_of b) (binary_value push x y)
unfolding binary_value pushed
push_law s copied b x y m w z h k p lt q =
    let vs = as_items x in
    let hs = fit_list h.fit in
    let n = first_count s b vs m (list_cells_lem h) p in
    let lt' : count_values vs < list_places = omega (arith, n, lt) in
    let at = 1 + count_values vs * size b in
    let room = place_room (count_values vs) (size b) lt' in
    let sz = list_size b in
    let long : size (list_of b) ≤ length s = omega (arith, lies_within h) in
    let q' : copied ≡ paste s at (drop 64 s) (size b) = q ∙ sym (ap₂ (λ (i j : ℕ). paste s (1 + i * j) (drop 64 s) j) n z) in
    let new = pos (count_values vs + 1) in
    rw (lt-ltb (count_values vs) list_places lt')
    (leaves_answer (record {
      value = items (with_last vs y);
      is = refl;
      lies = record {
        cells =
            ap (λ (i : ℤ). take (size (list_of b)) (set copied 0 i)) (small_back (m + 1) (omega arith) ∙ ap (λ (i : ℕ). pos (i + 1)) (sym n))
            ∙ take-set-lt (size (list_of b)) copied 0 new (omega (arith, sz))
            ∙ ap (λ (l : List ℤ). set (take (size (list_of b)) l) 0 new) q'
            ∙ ap (λ (l : List ℤ). set l 0 new) (paste_part s at (drop 64 s) (size b) (size (list_of b)) (omega (arith, room, sz)) long (omega (arith, length-drop 64 s, lies_within k)))
            ∙ ap (λ (l : List ℤ). set (paste l at (drop 64 s) (size b)) 0 new) (list_cells_lem h)
            ∙ ap (λ (l : List ℤ). set (take at (cells_of (list_of b) (items vs)) ++ l ++ drop (at + size b) (cells_of (list_of b) (items vs))) 0 new)
            (k.cells ∙ sym (take_all (size b) (cells_of b y) (omega (arith, length_cells k.fit))))
            ∙ sym (push_cells hs k.fit lt');
        fit = push_fits hs k.fit lt';
      };
    }))

-- ---- top
top_made : (s copied : List ℤ) (b : Body) (vs : Values) (m w : ℕ) → size b ≡ w → AllFit vs b → count_values vs ≤ list_places → take (size (list_of b)) s ≡ cells_of (list_of b) (items vs)
    → count_values vs ≡ m → (m ≡ 0 → ⊥) → size (list_of b) ≤ length s → copied ≡ paste s 0 (drop (1 + (m - 1) * w) s) w → Holds copied b (top_of vs)
unfolding top_of count_values
top_made s copied b no_items m w z hs le e n f long q = absurd (f (sym n))
top_made s copied b (item v vs) m w z (fit_item h hs) le e n f long q =
    let at = 1 + count_values vs * size b in
    let room = place_room (count_values vs) (size b) le in
    let sz = list_size b in
    record {
      value = last_from v vs;
      is = refl;
      lies = record {
        cells =
            ap (λ (l : List ℤ). take (size b) l) (q ∙ sym (ap₂ (λ (i j : ℕ). paste s 0 (drop (1 + i * j) s) j) (let a : count_values vs ≡ m - 1 = omega (arith, n) in a) z))
            ∙ paste_front s (drop at s) (size b) (omega (arith, length-drop at s, long, room, sz))
            ∙ sym (take_part s at (size b) (size (list_of b)) (omega (arith, room, sz)))
            ∙ ap (λ (l : List ℤ). take (size b) (drop at l)) e
            ∙ top_cells h hs le;
        fit = fits_last_from h hs;
      };
    }

none_fails : (vs : Values) → count_values vs ≡ 0 → (top_of vs ≡ fail list_empty) × (pop_of vs ≡ fail list_empty)
unfolding top_of pop_of count_values
none_fails no_items e = (refl, refl)
none_fails (item v vs) e = absurd (let k : ⊥ = omega (arith, e) in k)

pub top_empty : (s : List ℤ) (b : Body) (x : Value) (m : ℕ) → Lies s 0 (list_of b) x → get_or s 0 (pos 0) ≡ pos m → m ≡ 0 → Leaves 4 s b (unary_value top x)
unfolding unary_value
top_empty s b x m h p z = leaves_error 3 (none_fails (as_items x) (first_count s b (as_items x) m (list_cells_lem h) p ∙ z)).0

pub top_law : (s copied : List ℤ) (b : Body) (x : Value) (m w : ℕ) → size b ≡ w → Lies s 0 (list_of b) x → get_or s 0 (pos 0) ≡ pos m → (m ≡ 0 → ⊥)
    → copied ≡ paste s 0 (drop (1 + (m - 1) * w) s) w → Leaves 0 copied b (unary_value top x)
unfolding unary_value
top_law s copied b x m w z h p f q =
    leaves_answer (top_made s copied b (as_items x) m w z (fit_list h.fit) (fit_count h.fit) (list_cells_lem h) (first_count s b (as_items x) m (list_cells_lem h) p) f (omega (arith, lies_within h)) q)

-- ---- pop
pop_made : (s cleared : List ℤ) (b : Body) (vs : Values) (m w : ℕ) → size b ≡ w → AllFit vs b → count_values vs ≤ list_places → take (size (list_of b)) s ≡ cells_of (list_of b) (items vs)
    → count_values vs ≡ m → (m ≡ 0 → ⊥) → size (list_of b) ≤ length s → cleared ≡ paste s (1 + (m - 1) * w) (replicate w (pos 0)) w
    → Holds (set cleared 0 (to_z w64 (m - 1))) (list_of b) (pop_of vs)
unfolding pop_of count_values
pop_made s cleared b no_items m w z hs le e n f long q = absurd (f (sym n))
pop_made s cleared b (item v vs) m w z (fit_item h hs) le e n f long q =
    let at = 1 + count_values vs * size b in
    let room = place_room (count_values vs) (size b) le in
    let sz = list_size b in
    let zeros = replicate (size b) (pos 0) in
    let new = pos (count_values vs) in
    let n' : count_values vs ≡ m - 1 = omega (arith, n) in
    record {
      value = items (without_last v vs);
      is = refl;
      lies = record {
        cells =
            ap (λ (i : ℤ). take (size (list_of b)) (set cleared 0 i)) (small_back (m - 1) (omega (arith, n, le)) ∙ ap (λ (i : ℕ). pos i) (sym n'))
            ∙ take-set-lt (size (list_of b)) cleared 0 new (omega (arith, sz))
            ∙ ap (λ (l : List ℤ). set (take (size (list_of b)) l) 0 new) (q ∙ sym (ap₂ (λ (i j : ℕ). paste s (1 + i * j) (replicate j (pos 0)) j) n' z))
            ∙ ap (λ (l : List ℤ). set l 0 new) (paste_part s at zeros (size b) (size (list_of b)) (omega (arith, room, sz)) long (omega (arith, length-replicate (size b) (pos 0))))
            ∙ ap (λ (l : List ℤ). set (paste l at zeros (size b)) 0 new) e
            ∙ sym (pop_cells h hs le);
        fit = pop_fits h hs le;
      };
    }

pub pop_empty : (s : List ℤ) (b : Body) (x : Value) (m : ℕ) → Lies s 0 (list_of b) x → get_or s 0 (pos 0) ≡ pos m → m ≡ 0 → Leaves 4 s (list_of b) (unary_value pop x)
unfolding unary_value
pop_empty s b x m h p z = leaves_error 3 (none_fails (as_items x) (first_count s b (as_items x) m (list_cells_lem h) p ∙ z)).1

pub pop_law : (s cleared : List ℤ) (b : Body) (x : Value) (m w : ℕ) → size b ≡ w → Lies s 0 (list_of b) x → get_or s 0 (pos 0) ≡ pos m → (m ≡ 0 → ⊥)
    → cleared ≡ paste s (1 + (m - 1) * w) (replicate w (pos 0)) w → Leaves 0 (set cleared 0 (to_z w64 (m - 1))) (list_of b) (unary_value pop x)
unfolding unary_value
pop_law s cleared b x m w z h p f q =
    leaves_answer (pop_made s cleared b (as_items x) m w z (fit_list h.fit) (fit_count h.fit) (list_cells_lem h) (first_count s b (as_items x) m (list_cells_lem h) p) f (omega (arith, lies_within h)) q)

-- ---- a list of one
pub single_law : (s moved cleared : List ℤ) (b : Body) (x : Value) (w : ℕ) → size b ≡ w → Lies s 0 b x → 1 + list_places * w ≤ length s
    → moved ≡ paste s 1 (drop 0 s) w → cleared ≡ paste moved (1 + w) (replicate ((list_places - 1) * w) (pos 0)) ((list_places - 1) * w)
    → Holds (set cleared 0 (pos 1)) (list_of b) (unary_value make_list x)
unfolding unary_value
single_law [] moved cleared b x w z h room p q = absurd (let k : ⊥ = omega arith in k)
single_law (y ∷ ys) moved cleared b x w z h room p q =
    let s = y ∷ ys in
    let m = (list_places - 1) * w in
    let zeros = replicate m (pos 0) in
    let lz : length zeros ≡ m = length-replicate m (pos 0) in
    let lm : length moved ≡ length s = ap length p ∙ length-paste s 1 (drop 0 s) w (omega arith) (omega arith) in
    let first : take (1 + w) moved ≡ y ∷ cells_of b x =
    ap (λ (l : List ℤ). take (1 + w) l) p ∙ take-paste s 1 (drop 0 s) w (omega arith) (omega arith) ∙ ap (λ (l : List ℤ). y ∷ l) (ap (λ (i : ℕ). take i s) (sym z) ∙ h.cells) in
    record {
      value = items (item x no_items);
      is = refl;
      lies = record {
        cells =
            ap (λ (i : ℕ). take i (set cleared 0 (pos 1))) (let a : size (list_of b) ≡ (1 + w) + m = omega (arith, list_size b, z) in a)
            ∙ take-set-lt ((1 + w) + m) cleared 0 (pos 1) (omega arith)
            ∙ ap (λ (l : List ℤ). set (take ((1 + w) + m) l) 0 (pos 1)) q
            ∙ ap (λ (l : List ℤ). set l 0 (pos 1)) (take-paste moved (1 + w) zeros m (omega (arith, lm)) (omega (arith, lz)))
            ∙ ap₂ (λ (f g : List ℤ). set (f ++ g) 0 (pos 1)) first (take_all m zeros (omega (arith, lz)))
            ∙ ap (λ (i : ℕ). pos 1 ∷ (cells_of b x ++ replicate ((list_places - 1) * i) (pos 0))) (sym z)
            ∙ sym (single_cells h.fit);
        fit = single_fits h.fit;
      };
    }
