-- How far what an operation gives is from the exact result, for all operands: a sum and a difference are exact; a product and a quotient
-- of counts are the nearest count, and of two the further from zero; a number turned into a count and back is itself, and a count turned
-- into a number is cut toward zero. Assumes nothing.
use Rattle.std.specs.Prelude.{◌≡◌, refl, Bool, true, false, not, ℕ, suc, ◌*◌, ◌/◌, ◌≤◌, ◌<◌, ℤ, pos, negsuc, neg_ℤ, nat_abs, ◌+ℤ◌, ◌-ℤ◌, ◌*ℤ◌}
use Rattle.std.proofs.Common.{sym, ap, ◌∙◌, div-mul-le_self, arith}
use Rattle.std.proofs.Math.Nat.{mul-div_cancel_left, lt-div-mul-add}
use Rattle.std.proofs.Math.IntN.{*ℤ_comm}
use Rattle.std.specs.Int.Signed.{quot_z}
use Rattle.lingua.specs.Outcome.{ok, fail, Result, require, ◌>>◌}
use Rattle.lingua.specs.Value.{Value, in_range_of, as_whole, quantity}
use Rattle.lingua.specs.Rounding.{nearest}
use Rattle.lingua.specs.Compute.{ranged, same_number, product, divided, counted, whole_part}
use Rattle.arith.specs.Sizes.{gap, abs_product, abs_quotient, neg_times_pos, neg_times_neg, neg_over_pos, between_pos, between_neg}
use Rattle.arith.specs.Nearest.{nearest_near, nearest_far}

-- ---- what passed the range check is what was checked
ok_is_fail {ℓ} : {A : Type 0} {B : Type ℓ} {a : A} {n : ℕ} → ◌≡◌ {A = Result A} (ok a) (fail n) → B
ok_is_fail e = absurd (let z : ◌≡◌ {A = ℕ} 0 1 = cc in let k : ⊥ = omega arith in k)

pub quantity_whole : (h : Bool) (z : ℤ) → as_whole (quantity h z) ≡ z
unfolding as_whole
quantity_whole true z = refl
quantity_whole false z = refl

required : {A : Type 0} (t : Bool) (n : ℕ) (o : Result A) (v : A) → (require t n >> o) ≡ ok v → o ≡ ok v
required true n o v e = e
required false n o v e = ok_is_fail (sym e)

ok_same : {A : Type 0} {a b : A} → ◌≡◌ {A = Result A} (ok a) (ok b) → a ≡ b
ok_same e = cc

pub ranged_same : (h : Bool) (z : ℤ) (v : Value) → ranged h z ≡ ok v → as_whole v ≡ z
unfolding ranged
ranged_same h z v e = ap as_whole (sym (ok_same (required (in_range_of h z) 1 (ok (quantity h z)) v e))) ∙ quantity_whole h z

-- ---- sums and differences
pub sum_exact : (h : Bool) (x y : ℤ) (v : Value) → ranged h (x +ℤ y) ≡ ok v → as_whole v ≡ x +ℤ y
sum_exact h x y v e = ranged_same h (x +ℤ y) v e

pub difference_exact : (h : Bool) (x y : ℤ) (v : Value) → ranged h (x -ℤ y) ≡ ok v → as_whole v ≡ x -ℤ y
difference_exact h x y v e = ranged_same h (x -ℤ y) v e

-- ---- products of counts: the exact product, in hundredths, is a hundredth of x *ℤ y
pub hundred : pos 100 ≡ pos 0 → ⊥
hundred e = let z : ◌≡◌ {A = ℕ} 100 0 = cc in omega arith

pub product_near : (x y : ℤ) → 2 * nat_abs ((pos 100 *ℤ product true x y) -ℤ (x *ℤ y)) ≤ 100
unfolding product
product_near x y =
    rw (*ℤ_comm (pos 100) (nearest (x *ℤ y) (pos 100))) (nearest_near (x *ℤ y) (pos 100) hundred)

pub product_far : (x y z : ℤ) → 2 * nat_abs ((pos 100 *ℤ z) -ℤ (x *ℤ y)) ≤ 100 → nat_abs z ≤ nat_abs (product true x y)
unfolding product
product_far x y z h = nearest_far (x *ℤ y) (pos 100) z hundred (rw (*ℤ_comm (pos 100) z) at h)

-- what a multiplication gives: of counts, at most half a hundredth away, and of two the further from zero; of numbers, the product
pub multiply_near : (x y : ℤ) (v : Value) → ranged true (product true x y) ≡ ok v → 2 * nat_abs ((pos 100 *ℤ as_whole v) -ℤ (x *ℤ y)) ≤ 100
multiply_near x y v e = rw (ranged_same true (product true x y) v e) (product_near x y)

pub multiply_far : (x y z : ℤ) (v : Value) → ranged true (product true x y) ≡ ok v → 2 * nat_abs ((pos 100 *ℤ z) -ℤ (x *ℤ y)) ≤ 100 → nat_abs z ≤ nat_abs (as_whole v)
multiply_far x y z v e h = rw (ranged_same true (product true x y) v e) (product_far x y z h)

pub multiply_exact : (x y : ℤ) (v : Value) → ranged false (product false x y) ≡ ok v → as_whole v ≡ x *ℤ y
unfolding product
multiply_exact x y v e = ranged_same false (x *ℤ y) v e

-- ---- quotients of counts: the exact quotient, in hundredths, is pos 100 *ℤ x over y
zero_same : same_number (pos 0) (pos 0) ≡ true
unfolding same_number
zero_same = refl

not_zero : (y : ℤ) → not (same_number y (pos 0)) ≡ true → y ≡ pos 0 → ⊥
not_zero y h e = let k : ◌≡◌ {A = Bool} false true = rw (e, zero_same) at h in let z : ◌≡◌ {A = ℕ} 0 1 = cc in omega arith

pub record Divided (x y : ℤ) (v : Value) : Type 0 where
  pub other : y ≡ pos 0 → ⊥
  pub same : as_whole v ≡ nearest (pos 100 *ℤ x) y

test_passed : {A : Type 0} (t : Bool) (n : ℕ) (o : Result A) (v : A) → (require t n >> o) ≡ ok v → t ≡ true
test_passed true n o v e = refl
test_passed false n o v e = ok_is_fail (sym e)

pub divided_same : (x y : ℤ) (v : Value) → divided true x y ≡ ok v → Divided x y v
unfolding divided
divided_same x y v e =
    let t = not (same_number y (pos 0)) in
    let o = ranged true (nearest (pos 100 *ℤ x) y) in
    record {
      other = not_zero y (test_passed t 2 o v e);
      same = ranged_same true (nearest (pos 100 *ℤ x) y) v (required t 2 o v e);
    }

-- what a division of counts gives is at most half a hundredth away, and of two the further from zero
pub divide_near : (x y : ℤ) (v : Value) → divided true x y ≡ ok v → 2 * nat_abs ((as_whole v *ℤ y) -ℤ (pos 100 *ℤ x)) ≤ nat_abs y
divide_near x y v e =
    let d = divided_same x y v e in
    rw d.same (nearest_near (pos 100 *ℤ x) y d.other)

pub divide_far : (x y z : ℤ) (v : Value) → divided true x y ≡ ok v → 2 * nat_abs ((z *ℤ y) -ℤ (pos 100 *ℤ x)) ≤ nat_abs y → nat_abs z ≤ nat_abs (as_whole v)
divide_far x y z v e h =
    let d = divided_same x y v e in
    rw d.same (nearest_far (pos 100 *ℤ x) y z d.other h)

-- ---- a quotient cut toward zero: less than one away, and not beyond
cut_gap : (x y : ℤ) → nat_abs (x -ℤ (quot_z x y *ℤ y)) ≡ gap (nat_abs x) (nat_abs x / nat_abs y * nat_abs y)
cut_gap (pos a) (pos b) = between_pos a (a / b * b)
cut_gap (pos a) (negsuc b) = rw (neg_times_neg (a / suc b) b) (between_pos a (a / suc b * suc b))
cut_gap (negsuc a) (pos b) = rw (neg_times_pos (suc a / b) b) (between_neg (suc a) (suc a / b * b))
cut_gap (negsuc a) (negsuc b) = between_neg (suc a) (suc a / suc b * suc b)

cut_near : (x y : ℤ) → 0 < nat_abs y → nat_abs (x -ℤ (quot_z x y *ℤ y)) < nat_abs y
cut_near x y h =
    let a = nat_abs x in
    let b = nat_abs y in
    omega (arith, cut_gap x y, div-mul-le_self a b, lt-div-mul-add {a = a} h)

cut_short : (x y : ℤ) → nat_abs (quot_z x y *ℤ y) ≤ nat_abs x
cut_short x y = rw (abs_product (quot_z x y) y, abs_quotient x y) (div-mul-le_self (nat_abs x) (nat_abs y))

-- ---- from a number to a count, and from a count to a number
pub whole_part_near : (z : ℤ) → nat_abs (z -ℤ (pos 100 *ℤ whole_part z)) < 100
unfolding whole_part
whole_part_near z = rw (*ℤ_comm (pos 100) (quot_z z (pos 100))) (cut_near z (pos 100) (omega arith))

pub whole_part_short : (z : ℤ) → nat_abs (pos 100 *ℤ whole_part z) ≤ nat_abs z
unfolding whole_part
whole_part_short z = rw (*ℤ_comm (pos 100) (quot_z z (pos 100))) (cut_short z (pos 100))

pub counted_and_back : (z : ℤ) → whole_part (counted z) ≡ z
unfolding whole_part counted
counted_and_back (pos n) = ap pos (mul-div_cancel_left n (omega arith))
counted_and_back (negsuc n) =
    neg_over_pos (100 * suc n) 100 ∙ ap (λ (k : ℕ). neg_ℤ (pos k)) (mul-div_cancel_left (suc n) (omega arith))
