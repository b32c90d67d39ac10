-- For those who evaluate on a stack: an operand stays where it lies while the other is evaluated above it, and what an
-- operation asks of the stack holds where its operands lie there. Assumes nothing.
use mathlib.Core.Path.{◌≡◌, refl, sym, ap, ◌∙◌, subst}
use mathlib.Core.List.{List, ◌++◌}
use Prim.Native.Nat.{ℕ, ◌+◌, ◌≤◌}
use native.Mathlib.Omega.{arith}
use lib.ListN.{length, take, drop, length-append, length-take}
use lib.Seq.{take-take, take-append-le, drop_at, length-take-le}
use lib.IntN.{ℤ}
use Rattle.lingua.specs.Numbers.{body_cells}
use Rattle.lingua.specs.Outcome.{Result}
use Rattle.lingua.specs.Body.{Body, word, list_of, record_of, end, attribute, size}
use Rattle.lingua.specs.Value.{Value, fields, no_fields, field, count_values, as_text, as_items, packed_in, packed}
use Rattle.lingua.specs.Operation.{make_record}
use Rattle.lingua.specs.Compute.{unary_value}
use Rattle.laws.specs.Lengths.{length_cells}
use Rattle.laws.specs.Records.{make_record_cells, make_record_size, make_record_fits}
use Rattle.laws.specs.Sound.{fit_word, fit_count}
use Rattle.cells.specs.Stack.{Lies, Holds, Leaves, Counted}
use Rattle.cells.specs.Word.{WordAt}
use Rattle.cells.proofs.Elements.{list_size, list_count}
use Rattle.cells.proofs.Singles.{word_cell}

-- ---- the same of an equal body
pub lies_as : {s : List ℤ} {at : ℕ} {b c : Body} {x : Value} → b ≡ c → Lies s at b x → Lies s at c x
lies_as {s} {at} {b} {c} {x} q h = subst (λ (e : Body). Lies s at e x) q h

pub leaves_as : {n : ℕ} {s : List ℤ} {c d : Body} {o : Result Value} → d ≡ c → Leaves n s c o → Leaves n s d o
leaves_as {n} {s} {c} {d} {o} q h = subst (λ (e : Body). Leaves n s e o) (sym q) h

-- ---- the other operand's part of the stack is changed
pub lies_kept : {s : List ℤ} {b : Body} {x : Value} (r : List ℤ) → size b ≤ body_cells → body_cells ≤ length s → Lies s 0 b x → Lies (take body_cells s ++ r) 0 b x
lies_kept {s} {b} {x} r small long h = record {
  cells =
      take-append-le (size b) (take body_cells s) r (omega (arith, length-take-le body_cells s long, small))
      ∙ take-take (size b) body_cells s small
      ∙ h.cells;
  fit = h.fit;
}

pub lies_second : {r : List ℤ} {c : Body} {y : Value} (s : List ℤ) → body_cells ≤ length s → Lies r 0 c y → Lies (take body_cells s ++ r) 64 c y
lies_second {r} {c} {y} s long h = record {
  cells = ap (λ (l : List ℤ). take (size c) l) (drop_at (take body_cells s) r body_cells (length-take-le body_cells s long)) ∙ h.cells;
  fit = h.fit;
}

-- a value's cells are there
pub lies_long : {s : List ℤ} {b : Body} {x : Value} → Lies s 0 b x → size b ≤ length s
lies_long {s} {b} h = let e : length (take (size b) s) ≡ size b = ap (λ (l : List ℤ). length l) h.cells ∙ length_cells h.fit in omega (arith, length-take (size b) s)

-- what lies at a list's front lies there with more behind it
pub lies_front : {s : List ℤ} {b : Body} {x : Value} (rest : List ℤ) → Lies s 0 b x → Lies (s ++ rest) 0 b x
lies_front {s} {b} rest h = record { cells = take-append-le (size b) s rest (lies_long h) ∙ h.cells; fit = h.fit }

-- the second operand by itself and in the whole
pub lies_above : {s : List ℤ} {b : Body} {x : Value} → Lies (drop body_cells s) 0 b x → Lies s body_cells b x
lies_above h = record { cells = h.cells; fit = h.fit }

pub lies_behind : {above : List ℤ} {b : Body} {x : Value} (s rest : List ℤ) → body_cells ≤ length s → Lies above 0 b x → Lies (drop body_cells (take body_cells s ++ (above ++ rest))) 0 b x
lies_behind s rest long h = let k = lies_second s long (lies_front rest h) in record { cells = k.cells; fit = k.fit }

-- ---- what the operations ask
pub lies_counted : {s : List ℤ} {b : Body} {x : Value} (w : ℕ) → size b ≡ w → size (list_of b) ≤ body_cells → Lies s 0 (list_of b) x → Counted s w
lies_counted {s} {b} {x} w z small h = record {
  count = count_values (as_items x);
  is = list_count h;
  few = fit_count h.fit;
  room = omega (arith, list_size b, z, small);
}

pub lies_word : {s : List ℤ} {at : ℕ} {x : Value} → Lies s at word x → WordAt s at
unfolding packed
lies_word {s} {at} {x} h = record {
  number = packed_in 8 (as_text x);
  is = word_cell h;
  word = record { characters = as_text x; text = fit_word h.fit; is = refl };
}

-- ---- a record of one attribute lies where the attribute's value does
pub make_record_law : {s : List ℤ} {b : Body} {x : Value} (n : ℕ) → Lies s 0 b x → Holds s (record_of (attribute n b end)) (unary_value (make_record n) x)
unfolding unary_value
make_record_law {s} {b} {x} n h = record {
  value = fields (field n x no_fields);
  is = refl;
  lies = record {
    cells = ap (λ (k : ℕ). take k s) (make_record_size n b) ∙ h.cells ∙ sym (make_record_cells n b x);
    fit = make_record_fits n h.fit;
  };
}
