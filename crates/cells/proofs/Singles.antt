-- Values of one cell: the cell is the value's, and what the operations on them leave. Assumes nothing.
use mathlib.Core.Path.{◌≡◌, refl, sym, ap, ap₂, ◌∙◌, subst}
use mathlib.Core.Bool.{Bool, true, false, not}
use mathlib.Core.List.{List, [], ◌∷◌}
use Prim.Native.Nat.{ℕ, ◌+◌, ◌^◌, ◌<◌}
use native.Mathlib.Omega.{arith}
use lib.Dec.{eqb}
use lib.ListN.{length, take, drop, set, get_or}
use lib.Seq.{get_or-take, get_or-drop}
use lib.IntN.{ℤ, pos}
use lib.Signed.{mag, lt_z}
use mir.Syntax.{w64}
use borrow.Author.Tests.{eqb-true, eq-eqb}
use mir.Val.{to_z, of_z, hbits, bool_byte}
use mir.ValLaws.{to_z-of_z}
use Rattle.lingua.specs.Outcome.{ok}
use Rattle.lingua.specs.Body.{Body, boolean, number, word, hundredths, list_of, record_of, size, is_simple, is_boolean, is_number, is_word, is_hundredths, is_quantity}
use Rattle.lingua.specs.Value.{Value, truth, whole, count, fit_truth, in_range, in_counts, in_range_of, quantity, quantity_body, as_truth, as_whole, as_text, packed, bit, cells_of}
use Rattle.lingua.specs.Operation.{negation, to_hundredths, to_number, less, equal}
use Rattle.lingua.specs.Compute.{same_value, counted, whole_part, unary_value, binary_value}
use Rattle.arith.specs.Ranges.{quantity_size, counted_in_range, whole_part_in_range}
use Rattle.arith.proofs.Range.{fits_below}
use Rattle.laws.specs.Outcomes.{false_is_true}
use Rattle.laws.specs.Lengths.{length_cells}
use Rattle.laws.specs.Determined.{determined}
use Rattle.laws.specs.Sound.{fit_number, fit_counts, quantity_fits}
use Rattle.laws.specs.Equal.{same_value_lem, value_same}
use Rattle.cells.specs.Stack.{Lies, Holds}
use Rattle.cells.proofs.Moves.{cell_back}

-- ---- what is in range fits a cell
pub range_back : (h : Bool) (z : ℤ) → in_range_of h z ≡ true → to_z w64 (of_z w64 z) ≡ z
range_back h z e = to_z-of_z w64 z (fits_below z (omega (arith, quantity_size h z e)))

-- ---- cells
simple_size : (b : Body) → is_simple b ≡ true → size b ≡ 1
unfolding is_simple is_boolean is_number is_word is_hundredths size
simple_size boolean e = refl
simple_size number e = refl
simple_size word e = refl
simple_size hundredths e = refl
simple_size (list_of b) e = false_is_true e
simple_size (record_of fs) e = false_is_true e

one_element : (l : List ℤ) → length l ≡ 1 → l ≡ get_or l 0 (pos 0) ∷ []
one_element [] e = absurd (let k : ⊥ = omega (arith, e) in k)
one_element (x ∷ []) e = refl
one_element (x ∷ (y ∷ ys)) e = absurd (let k : ⊥ = omega (arith, e) in k)

-- the cell of a value of a simple body
pub simple_cell : {s : List ℤ} {at : ℕ} {b : Body} {x : Value} → is_simple b ≡ true → Lies s at b x → cells_of b x ≡ get_or s at (pos 0) ∷ []
simple_cell {s} {at} {b} {x} e h =
    one_element (cells_of b x) (length_cells h.fit ∙ simple_size b e)
    ∙ ap (λ (z : ℤ). z ∷ [])
    (ap (λ (l : List ℤ). get_or l 0 (pos 0)) (sym h.cells) ∙ get_or-take (size b) (drop at s) 0 (pos 0) (omega (arith, simple_size b e)) ∙ get_or-drop at s 0 (pos 0) ∙ ap (λ (i : ℕ). get_or s i (pos 0)) (let a : at + 0 ≡ at = omega arith in a))

head_is : {x y : ℤ} → ◌≡◌ {A = List ℤ} (x ∷ []) (y ∷ []) → y ≡ x
head_is e = cc

pub boolean_cell : {s : List ℤ} {at : ℕ} {x : Value} → Lies s at boolean x → get_or s at (pos 0) ≡ bit (as_truth x)
unfolding cells_of is_simple is_boolean
boolean_cell h = head_is (simple_cell refl h)

-- of what is reckoned with the cell is the number or the count
quantity_simple : (b : Body) → is_quantity b ≡ true → is_simple b ≡ true
unfolding is_quantity is_number is_hundredths is_simple is_boolean is_word
quantity_simple boolean e = refl
quantity_simple number e = refl
quantity_simple word e = refl
quantity_simple hundredths e = refl
quantity_simple (list_of b) e = e
quantity_simple (record_of fs) e = e

quantity_cells : (b : Body) (x : Value) → is_quantity b ≡ true → cells_of b x ≡ as_whole x ∷ []
unfolding is_quantity is_number is_hundredths cells_of
quantity_cells boolean x e = false_is_true e
quantity_cells number x e = refl
quantity_cells word x e = false_is_true e
quantity_cells hundredths x e = refl
quantity_cells (list_of b) x e = false_is_true e
quantity_cells (record_of fs) x e = false_is_true e

pub quantity_cell : {s : List ℤ} {at : ℕ} {b : Body} {x : Value} → is_quantity b ≡ true → Lies s at b x → get_or s at (pos 0) ≡ as_whole x
quantity_cell {b = b} {x} e h = head_is (sym (quantity_cells b x e) ∙ simple_cell (quantity_simple b e) h)

pub word_cell : {s : List ℤ} {at : ℕ} {x : Value} → Lies s at word x → get_or s at (pos 0) ≡ packed (as_text x)
unfolding cells_of is_simple is_boolean is_number is_word is_hundredths
word_cell h = head_is (simple_cell refl h)

-- a cell that is put at the begin
pub put_cell : (s : List ℤ) (z : ℤ) → 0 < length s → take 1 (set s 0 z) ≡ z ∷ []
put_cell [] z h = absurd (let k : ⊥ = omega arith in k)
put_cell (x ∷ xs) z h = refl

pub put_truth : (s : List ℤ) (t : Bool) (z : ℤ) → 0 < length s → z ≡ bit t → Lies (set s 0 z) 0 boolean (truth t)
unfolding size cells_of as_truth
put_truth s t z h e = record { cells = put_cell s z h ∙ ap (λ (y : ℤ). y ∷ []) e; fit = fit_truth }

pub put_quantity : (h : Bool) (s : List ℤ) (z : ℤ) → 0 < length s → in_range_of h z ≡ true → Lies (set s 0 z) 0 (quantity_body h) (quantity h z)
unfolding size cells_of as_whole
put_quantity true s z l e = record { cells = put_cell s z l; fit = quantity_fits true z e }
put_quantity false s z l e = record { cells = put_cell s z l; fit = quantity_fits false z e }

-- ---- what the code tests
pub bits_same : (x y : ℤ) → mag x < 2 ^ hbits w64 → mag y < 2 ^ hbits w64 → of_z w64 x ≡ of_z w64 y → x ≡ y
bits_same x y h k e = sym (cell_back x h) ∙ ap (λ (n : ℕ). to_z w64 n) e ∙ cell_back y k

zero_false : (t : Bool) → of_z w64 (bit t) ≡ 0 → t ≡ false
zero_false false e = refl
zero_false true e = absurd (let k : ⊥ = omega arith in k)

other_true : (t : Bool) → (of_z w64 (bit t) ≡ 0 → ⊥) → t ≡ true
other_true true f = refl
other_true false f = absurd (f refl)

-- a Boolean is false where its cell is 0, and true where it is another
pub truth_zero : {s : List ℤ} {at : ℕ} {x : Value} → Lies s at boolean x → of_z w64 (get_or s at (pos 0)) ≡ 0 → as_truth x ≡ false
truth_zero {x = x} h z = zero_false (as_truth x) (ap (λ (y : ℤ). of_z w64 y) (sym (boolean_cell h)) ∙ z)

pub truth_other : {s : List ℤ} {at : ℕ} {x : Value} → Lies s at boolean x → (of_z w64 (get_or s at (pos 0)) ≡ 0 → ⊥) → as_truth x ≡ true
truth_other {x = x} h f = other_true (as_truth x) (λ z. f (ap (λ (y : ℤ). of_z w64 y) (boolean_cell h) ∙ z))

-- ---- negation
negated : (s : List ℤ) (t : Bool) (z : ℤ) → 0 < length s → z ≡ bit (not t) → Holds (set s 0 z) boolean (ok (truth (not t)))
negated s t z h e = record { value = truth (not t); is = refl; lies = put_truth s (not t) z h e }

zero_cell : (z : ℤ) (t : Bool) → z ≡ bit t → of_z w64 z ≡ 0 → pos 1 ≡ bit (not t)
zero_cell z true e f = absurd (let k : ◌≡◌ {A = ℕ} 1 0 = ap (λ (y : ℤ). of_z w64 y) (sym e) ∙ f in let n : ⊥ = omega arith in n)
zero_cell z false e f = refl

other_cell : (z : ℤ) (t : Bool) → z ≡ bit t → (of_z w64 z ≡ 0 → ⊥) → pos 0 ≡ bit (not t)
other_cell z true e f = refl
other_cell z false e f = absurd (f (ap (λ (y : ℤ). of_z w64 y) e))

negate_zero : (s : List ℤ) (x : Value) → 0 < length s → Lies s 0 boolean x → of_z w64 (get_or s 0 (pos 0)) ≡ 0 → Holds (set s 0 (pos 1)) boolean (unary_value negation x)
unfolding unary_value
negate_zero s x h k e = negated s (as_truth x) (pos 1) h (zero_cell (get_or s 0 (pos 0)) (as_truth x) (boolean_cell k) e)

negate_other : (s : List ℤ) (x : Value) → 0 < length s → Lies s 0 boolean x → (of_z w64 (get_or s 0 (pos 0)) ≡ 0 → ⊥) → Holds (set s 0 (pos 0)) boolean (unary_value negation x)
unfolding unary_value
negate_other s x h k e = negated s (as_truth x) (pos 0) h (other_cell (get_or s 0 (pos 0)) (as_truth x) (boolean_cell k) e)

-- ---- a truth value's cell
pub bit_byte : (t : Bool) → pos (bool_byte t) ≡ bit t
bit_byte true = refl
bit_byte false = refl

pub negate_law : (s : List ℤ) (x : Value) (z : ℤ) → 0 < length s → Lies s 0 boolean x → z ≡ pos (bool_byte (eqb (of_z w64 (get_or s 0 (pos 0))) 0)) → Holds (set s 0 z) boolean (unary_value negation x)
negate_law s x z h k e = go (eqb (of_z w64 (get_or s 0 (pos 0))) 0) refl e
  where
    go : (t : Bool) → eqb (of_z w64 (get_or s 0 (pos 0))) 0 ≡ t → z ≡ pos (bool_byte t) → Holds (set s 0 z) boolean (unary_value negation x)
    go true q f = rw f (negate_zero s x h k (eqb-true _ _ q))
    go false q f = rw f (negate_other s x h k (λ w. false_is_true (sym q ∙ eq-eqb _ _ w)))

-- ---- less
pub less_law : (s : List ℤ) (b : Body) (x y : Value) (t : Bool) (z : ℤ) → 0 < length s → is_quantity b ≡ true → Lies s 0 b x → Lies s 64 b y
    → mag (get_or s 0 (pos 0)) < 2 ^ hbits w64 → mag (get_or s 64 (pos 0)) < 2 ^ hbits w64
    → lt_z (to_z w64 (of_z w64 (get_or s 0 (pos 0)))) (to_z w64 (of_z w64 (get_or s 64 (pos 0)))) ≡ t → z ≡ bit t → Holds (set s 0 z) boolean (binary_value less x y)
unfolding binary_value
less_law s b x y t z h i k l m n e f =
    let q : lt_z (as_whole x) (as_whole y) ≡ t =
    sym (ap₂ (λ (a b : ℤ). lt_z a b) (cell_back (get_or s 0 (pos 0)) m ∙ quantity_cell i k) (cell_back (get_or s 64 (pos 0)) n ∙ quantity_cell i l)) ∙ e in
    record { value = truth (lt_z (as_whole x) (as_whole y)); is = refl; lies = put_truth s (lt_z (as_whole x) (as_whole y)) z h (f ∙ ap bit (sym q)) }

-- ---- equal
equal_is : (s : List ℤ) (x y : Value) (t : Bool) (z : ℤ) → 0 < length s → same_value x y ≡ t → z ≡ bit t → Holds (set s 0 z) boolean (binary_value equal x y)
unfolding binary_value
equal_is s x y t z h e f = record { value = truth (same_value x y); is = refl; lies = put_truth s (same_value x y) z h (f ∙ ap bit (sym e)) }

equal_yes : (s : List ℤ) (b : Body) (x y : Value) → 0 < length s → is_simple b ≡ true → Lies s 0 b x → Lies s 64 b y
    → mag (get_or s 0 (pos 0)) < 2 ^ hbits w64 → mag (get_or s 64 (pos 0)) < 2 ^ hbits w64
    → of_z w64 (get_or s 0 (pos 0)) ≡ of_z w64 (get_or s 64 (pos 0)) → Holds (set s 0 (pos 1)) boolean (binary_value equal x y)
equal_yes s b x y h i k l m n e =
    let c : cells_of b x ≡ cells_of b y = simple_cell i k ∙ ap (λ (z : ℤ). z ∷ []) (bits_same (get_or s 0 (pos 0)) (get_or s 64 (pos 0)) m n e) ∙ sym (simple_cell i l) in
    equal_is s x y true (pos 1) h (ap (λ (v : Value). same_value x v) (sym (determined k.fit l.fit c)) ∙ value_same i k.fit) refl

equal_no : (s : List ℤ) (b : Body) (x y : Value) → 0 < length s → is_simple b ≡ true → Lies s 0 b x → Lies s 64 b y
    → (of_z w64 (get_or s 0 (pos 0)) ≡ of_z w64 (get_or s 64 (pos 0)) → ⊥) → Holds (set s 0 (pos 0)) boolean (binary_value equal x y)
equal_no s b x y h i k l f = equal_is s x y false (pos 0) h (go (same_value x y) refl) refl
  where
    apart : same_value x y ≡ true → ⊥
    apart e =
        let c : cells_of b x ≡ cells_of b y = ap (λ (v : Value). cells_of b v) (same_value_lem i k.fit l.fit e) in
        f (ap (λ (z : ℤ). of_z w64 z) (sym (head_is (sym (simple_cell i k) ∙ c ∙ simple_cell i l))))

    go : (t : Bool) → same_value x y ≡ t → t ≡ false
    go true e = absurd (apart e)
    go false e = refl

pub equal_law : (s : List ℤ) (b : Body) (x y : Value) (z : ℤ) → 0 < length s → is_simple b ≡ true → Lies s 0 b x → Lies s 64 b y
    → mag (get_or s 0 (pos 0)) < 2 ^ hbits w64 → mag (get_or s 64 (pos 0)) < 2 ^ hbits w64
    → z ≡ pos (bool_byte (eqb (of_z w64 (get_or s 0 (pos 0))) (of_z w64 (get_or s 64 (pos 0))))) → Holds (set s 0 z) boolean (binary_value equal x y)
equal_law s b x y z h i k l m n e = go (eqb (of_z w64 (get_or s 0 (pos 0))) (of_z w64 (get_or s 64 (pos 0)))) refl e
  where
    go : (t : Bool) → eqb (of_z w64 (get_or s 0 (pos 0))) (of_z w64 (get_or s 64 (pos 0))) ≡ t → z ≡ pos (bool_byte t) → Holds (set s 0 z) boolean (binary_value equal x y)
    go true q f = rw f (equal_yes s b x y h i k l m n (eqb-true _ _ q))
    go false q f = rw f (equal_no s b x y h i k l (λ w. false_is_true (sym q ∙ eq-eqb _ _ w)))

-- ---- conversions
pub converted : (h : Bool) (s : List ℤ) (z : ℤ) → 0 < length s → in_range_of h z ≡ true → Holds (set s 0 z) (quantity_body h) (ok (quantity h z))
converted h s z l e = record { value = quantity h z; is = refl; lies = put_quantity h s z l e }

-- what the code reads of a number and of a count, and what it puts in its place
pub to_hundredths_law : (s : List ℤ) (x : Value) (z : ℤ) → 0 < length s → Lies s 0 number x → mag (get_or s 0 (pos 0)) < 2 ^ hbits w64
    → z ≡ counted (to_z w64 (of_z w64 (get_or s 0 (pos 0)))) → Holds (set s 0 (to_z w64 (of_z w64 z))) hundredths (unary_value to_hundredths x)
unfolding unary_value is_quantity is_number in_range_of
to_hundredths_law s x z l h m e =
    let q : z ≡ counted (as_whole x) = e ∙ ap counted (cell_back (get_or s 0 (pos 0)) m ∙ quantity_cell refl h) in
    let r : in_counts (counted (as_whole x)) ≡ true = counted_in_range (as_whole x) (fit_number h.fit) in
    let b : to_z w64 (of_z w64 z) ≡ counted (as_whole x) = ap (λ (y : ℤ). to_z w64 (of_z w64 y)) q ∙ range_back true (counted (as_whole x)) r in
    subst (λ (y : ℤ). Holds (set s 0 y) hundredths (ok (count (counted (as_whole x))))) (sym b) (converted true s (counted (as_whole x)) l r)

pub to_number_law : (s : List ℤ) (x : Value) (z : ℤ) → 0 < length s → Lies s 0 hundredths x → mag (get_or s 0 (pos 0)) < 2 ^ hbits w64
    → z ≡ whole_part (to_z w64 (of_z w64 (get_or s 0 (pos 0)))) → Holds (set s 0 (to_z w64 (of_z w64 z))) number (unary_value to_number x)
unfolding unary_value is_quantity is_number is_hundredths in_range_of
to_number_law s x z l h m e =
    let q : z ≡ whole_part (as_whole x) = e ∙ ap whole_part (cell_back (get_or s 0 (pos 0)) m ∙ quantity_cell refl h) in
    let r : in_range (whole_part (as_whole x)) ≡ true = whole_part_in_range (as_whole x) (fit_counts h.fit) in
    let b : to_z w64 (of_z w64 z) ≡ whole_part (as_whole x) = ap (λ (y : ℤ). to_z w64 (of_z w64 y)) q ∙ range_back false (whole_part (as_whole x)) r in
    subst (λ (y : ℤ). Holds (set s 0 y) number (ok (whole (whole_part (as_whole x))))) (sym b) (converted false s (whole_part (as_whole x)) l r)
