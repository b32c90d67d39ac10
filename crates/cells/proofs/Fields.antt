-- What the moves of cells make of records: the results of select, change, expand and remove. Assumes nothing.
use mathlib.Core.Path.{◌≡◌, refl, sym, ap, ap₂, ◌∙◌}
use mathlib.Core.Bool.{false}
use mathlib.Core.List.{List, ◌++◌}
use mathlib.Core.Option.{some}
use Prim.Native.Nat.{ℕ, ◌+◌, ◌-◌, ◌≤◌}
use native.Mathlib.Omega.{arith}
use lib.ListN.{length, take, drop, length-take, length-drop}
use lib.Seq.{paste}
use lib.IntN.{ℤ}
use Rattle.lingua.specs.Body.{Body, Attributes, record_of, size, sizes, attribute_body, attribute_offset, insert_attribute, remove_attribute}
use Rattle.lingua.specs.Value.{Value, fields, fit_fields, as_fields, cells_of, field_cells}
use Rattle.lingua.specs.Operation.{select, change, expand, remove, present}
use Rattle.lingua.specs.Compute.{field_value, change_field, insert_field, remove_field, unary_value, binary_value}
use Rattle.laws.specs.Halves.{attribute_within}
use Rattle.laws.specs.Lengths.{length_cells}
use Rattle.laws.specs.Records.{select_cells, select_fits, change_cells, change_fits, remove_cells, remove_fits, expand_cells, expand_fits, sizes_insert}
use Rattle.laws.specs.Removal.{removed_fewer}
use Rattle.laws.specs.Sound.{fit_record}
use Rattle.cells.specs.Stack.{Lies, Holds}
use Rattle.cells.proofs.Windows.{take_part, paste_part, paste_front, insert_part, remove_part}

-- a record's cells, and its values
record_cells : {s : List ℤ} {fs : Attributes} {x : Value} → Lies s 0 (record_of fs) x → take (sizes fs) s ≡ field_cells fs (as_fields x)
unfolding size cells_of
record_cells h = h.cells

-- a value's cells lie within the stack
pub lies_within : {s : List ℤ} {at : ℕ} {b : Body} {x : Value} → Lies s at b x → size b ≤ length s - at
lies_within {s} {at} {b} {x} h =
    omega (arith, ap length h.cells, length_cells h.fit, length-take (size b) (drop at s), length-drop at s)

pub select_law : (s last : List ℤ) (n : ℕ) (fs : Attributes) (d : Body) (x : Value) (at w : ℕ) → attribute_body n fs ≡ some d → attribute_offset n fs ≡ at → size d ≡ w
    → Lies s 0 (record_of fs) x → at + w ≤ length s → last ≡ paste s 0 (drop at s) w → Holds last d (unary_value (select n) x)
unfolding unary_value
select_law s last n fs d x at w e o z h room p =
    let hs = fit_record h.fit in
    let r = attribute_within n fs d e in
    record {
      value = field_value n (as_fields x);
      is = refl;
      lies = record {
        cells =
            ap (λ (l : List ℤ). take (size d) l) p
            ∙ ap (λ (k : ℕ). take k (paste s 0 (drop at s) w)) z
            ∙ paste_front s (drop at s) w (omega (arith, length-drop at s))
            ∙ sym (ap₂ (λ (i j : ℕ). take j (drop i s)) o z)
            ∙ sym (take_part s (attribute_offset n fs) (size d) (sizes fs) r)
            ∙ ap (λ (l : List ℤ). take (size d) (drop (attribute_offset n fs) l)) (record_cells h)
            ∙ select_cells hs n d e;
        fit = select_fits hs n d e;
      };
    }

pub change_law : (s last : List ℤ) (n : ℕ) (fs : Attributes) (d : Body) (x y : Value) (at w : ℕ) → attribute_body n fs ≡ some d → attribute_offset n fs ≡ at → size d ≡ w
    → Lies s 0 (record_of fs) x → Lies s 64 d y → last ≡ paste s at (drop 64 s) w → Holds last (record_of fs) (binary_value (change n) x y)
unfolding binary_value size cells_of as_fields
change_law s last n fs d x y at w e o z h k p =
    let hs = fit_record h.fit in
    let xs = as_fields x in
    let r = attribute_within n fs d e in
    record {
      value = fields (change_field n y xs);
      is = refl;
      lies = record {
        cells =
            ap (λ (l : List ℤ). take (sizes fs) l) p
            ∙ sym (ap₂ (λ (i j : ℕ). take (sizes fs) (paste s i (drop 64 s) j)) o z)
            ∙ paste_part s (attribute_offset n fs) (drop 64 s) (size d) (sizes fs) r (omega (arith, lies_within h)) (omega (arith, lies_within k, length-drop 64 s))
            ∙ ap (λ (l : List ℤ). paste l (attribute_offset n fs) (drop 64 s) (size d)) (record_cells h)
            ∙ ap (λ (l : List ℤ). take (attribute_offset n fs) (field_cells fs xs) ++ l ++ drop (attribute_offset n fs + size d) (field_cells fs xs)) k.cells
            ∙ sym (change_cells hs n d e y k.fit);
        fit = fit_fields (change_fits hs n d e y k.fit);
      };
    }

pub expand_law : (s moved last : List ℤ) (n : ℕ) (fs : Attributes) (c : Body) (x y : Value) (at w m : ℕ) → present n fs ≡ false
    → attribute_offset n (insert_attribute n c fs) ≡ at → sizes fs ≡ m → size c ≡ w → at ≤ m → m + w ≤ 64 → 64 + w ≤ length s
    → Lies s 0 (record_of fs) x → Lies s 64 c y → moved ≡ paste s (at + w) (drop at s) (m - at) → last ≡ paste moved at (drop 64 moved) w
    → Holds last (record_of (insert_attribute n c fs)) (binary_value (expand n) x y)
unfolding binary_value size cells_of as_fields
expand_law s moved last n fs c x y at w m e o t z a b r h k p q =
    let hs = fit_record h.fit in
    let xs = as_fields x in
    let gs = insert_attribute n c fs in
    record {
      value = fields (insert_field n y xs);
      is = refl;
      lies = record {
        cells =
            ap (λ (l : List ℤ). take (sizes gs) l) q
            ∙ ap (λ (j : ℕ). take j (paste moved at (drop 64 moved) w)) (let g : sizes gs ≡ m + w = omega (arith, sizes_insert n c fs, t, z) in g)
            ∙ insert_part s at w m 64 a b r moved p
            ∙ sym (ap₂ (λ (i j : ℕ). take at (take i s) ++ take j (drop 64 s) ++ drop at (take i s)) t z)
            ∙ ap₂ (λ (f g : List ℤ). take at f ++ g ++ drop at f) (record_cells h) k.cells
            ∙ sym (ap (λ (i : ℕ). take i (field_cells fs xs) ++ cells_of c y ++ drop i (field_cells fs xs)) o)
            ∙ sym (expand_cells hs k.fit n e);
        fit = fit_fields (expand_fits hs k.fit n e);
      };
    }

pub remove_law : (s last : List ℤ) (n : ℕ) (fs : Attributes) (d : Body) (x : Value) (at w m : ℕ) → attribute_body n fs ≡ some d → attribute_offset n fs ≡ at
    → sizes fs ≡ m → size d ≡ w → at + w ≤ m → m ≤ length s → Lies s 0 (record_of fs) x → last ≡ paste s at (drop (at + w) s) (m - (at + w))
    → Holds last (record_of (remove_attribute n fs)) (unary_value (remove n) x)
unfolding unary_value size cells_of as_fields
remove_law s last n fs d x at w m e o t z a b h p =
    let hs = fit_record h.fit in
    let xs = as_fields x in
    let gs = remove_attribute n fs in
    record {
      value = fields (remove_field n xs);
      is = refl;
      lies = record {
        cells =
            ap (λ (l : List ℤ). take (sizes gs) l) p
            ∙ ap (λ (j : ℕ). take j (paste s at (drop (at + w) s) (m - (at + w)))) (let g : sizes gs ≡ m - w = omega (arith, (removed_fewer n fs d e).fewer_cells, t, z) in g)
            ∙ remove_part s at w m a b
            ∙ ap (λ (l : List ℤ). take at l ++ drop (at + w) l) (ap (λ (i : ℕ). take i s) (sym t) ∙ record_cells h)
            ∙ sym (ap₂ (λ (i j : ℕ). take i (field_cells fs xs) ++ drop (i + j) (field_cells fs xs)) o z)
            ∙ sym (remove_cells hs n d e);
        fit = fit_fields (remove_fits hs n d e);
      };
    }
