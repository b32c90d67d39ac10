-- Numbers in bytes and back, and the block check: it is a 32-bit number, and goes by the bytes before it alone. Assumes nothing.
use Rattle.std.specs.Prelude.{◌≡◌, refl, List, [], ◌∷◌, ◌++◌, ℕ, zero, suc, ◌+◌, ◌*◌, ◌/◌, ◌%◌, ◌≤◌, ◌<◌, length, get_or}
use Rattle.std.proofs.Common.{sym, ap, ap₂, ◌∙◌, add_comm, mul_comm, mod-eq_of_lt, arith, get_or-append-add}
use Rattle.std.proofs.Math.Nat.{div-add-mod, div-div-eq-div-mul}
use Rattle.std.proofs.Math.Arith.{digits_div, digits_mod}
use Rattle.std.proofs.Math.ListN.{get_or-append}
use Rattle.lingua.specs.Numbers.{checked_words, check_place}
use Rattle.lingua.specs.Rows.{word16, word32}
use Rattle.lingua.specs.Format.{rotated, mixed, check_over, block_check, bytes16, bytes32}

-- ---- numbers in bytes
low_digit : (m a q : ℕ) → a < m → (a + m * q) % m ≡ a
low_digit m a q h = ap (λ (n : ℕ). n % m) (add_comm a (m * q) ∙ ap (λ (n : ℕ). n + a) (mul_comm m q)) ∙ digits_mod q h

high_digits : (m a q : ℕ) → a < m → (a + m * q) / m ≡ q
high_digits m a q h = ap (λ (n : ℕ). n / m) (add_comm a (m * q) ∙ ap (λ (n : ℕ). n + a) (mul_comm m q)) ∙ digits_div q h

pub bytes16_word : (a b : ℕ) → a < 256 → b < 256 → bytes16 (a + 256 * b) ≡ a ∷ b ∷ []
unfolding bytes16
bytes16_word a b ha hb =
    ap₂ (λ (x y : ℕ). x ∷ y ∷ []) (low_digit 256 a b ha) (ap (λ (n : ℕ). n % 256) (high_digits 256 a b ha) ∙ mod-eq_of_lt hb)

pub bytes32_word : (a b c d : ℕ) → a < 256 → b < 256 → c < 256 → d < 256
    → bytes32 (a + 256 * b + 65536 * (c + 256 * d)) ≡ a ∷ b ∷ c ∷ d ∷ []
unfolding bytes32
bytes32_word a b c d ha hb hc hd =
    let x : ℕ = a + 256 * b + 65536 * (c + 256 * d) in
    let r : x ≡ a + 256 * (b + 256 * (c + 256 * d)) = omega arith in
    let s : x ≡ a + 256 * b + 65536 * c + 16777216 * d = omega arith in
    let e : x % 256 ≡ a = ap (λ (n : ℕ). n % 256) r ∙ low_digit 256 a (b + 256 * (c + 256 * d)) ha in
    let f : x / 256 % 256 ≡ b =
    ap (λ (n : ℕ). n % 256) (ap (λ (n : ℕ). n / 256) r ∙ high_digits 256 a (b + 256 * (c + 256 * d)) ha) ∙ low_digit 256 b (c + 256 * d) hb in
    let g : x / 65536 % 256 ≡ c =
    ap (λ (n : ℕ). n % 256) (high_digits 65536 (a + 256 * b) (c + 256 * d) (omega arith)) ∙ low_digit 256 c d hc in
    let h : x / 16777216 % 256 ≡ d =
    ap (λ (n : ℕ). n % 256) (ap (λ (n : ℕ). n / 16777216) s ∙ high_digits 16777216 (a + 256 * b + 65536 * c) d (omega arith)) ∙ mod-eq_of_lt hd in
    ap₂ (λ (p q : ℕ). p ∷ q ∷ x / 65536 % 256 ∷ x / 16777216 % 256 ∷ []) e f ∙ ap₂ (λ (p q : ℕ). a ∷ b ∷ p ∷ q ∷ []) g h

pub word16_bytes : (x : ℕ) → x < 65536 → x % 256 + 256 * (x / 256 % 256) ≡ x
word16_bytes x h = omega arith

four_digits : (x p y q z r w s : ℕ) → p + 256 * y ≡ x → q + 256 * z ≡ y → r + 256 * w ≡ z → s ≡ w → p + 256 * q + 65536 * (r + 256 * s) ≡ x
four_digits x p y q z r w s a b c d = omega arith

one_digit : (n : ℕ) → n % 256 + 256 * (n / 256) ≡ n
one_digit n = add_comm (n % 256) (256 * (n / 256)) ∙ div-add-mod n 256

pub word32_bytes : (x : ℕ) → x < 4294967296
    → x % 256 + 256 * (x / 256 % 256) + 65536 * (x / 65536 % 256 + 256 * (x / 16777216 % 256)) ≡ x
word32_bytes x h =
    let top : x / 16777216 < 256 = omega arith in
    four_digits x (x % 256) (x / 256) (x / 256 % 256) (x / 65536) (x / 65536 % 256) (x / 16777216) (x / 16777216 % 256) (one_digit x)
    (ap (λ (n : ℕ). x / 256 % 256 + 256 * n) (sym (div-div-eq-div-mul x 256 256)) ∙ one_digit (x / 256))
    (ap (λ (n : ℕ). x / 65536 % 256 + 256 * n) (sym (div-div-eq-div-mul x 65536 256)) ∙ one_digit (x / 65536))
    (mod-eq_of_lt top)

-- what stands behind a list is read there
pub word32_behind : (xs : List ℕ) (x : ℕ) → x < 4294967296 → word32 (xs ++ bytes32 x) (length xs) ≡ x
unfolding word32 word16 bytes32
word32_behind xs x h =
    let n : ℕ = length xs in
    let ys : List ℕ = bytes32 x in
    let a : get_or (xs ++ ys) n 0 ≡ x % 256 = ap (λ (i : ℕ). get_or (xs ++ ys) i 0) (let e : n ≡ n + 0 = omega arith in e) ∙ get_or-append-add xs ys 0 0 in
    let b : get_or (xs ++ ys) (n + 1) 0 ≡ x / 256 % 256 = get_or-append-add xs ys 1 0 in
    let c : get_or (xs ++ ys) (n + 2) 0 ≡ x / 65536 % 256 = get_or-append-add xs ys 2 0 in
    let d : get_or (xs ++ ys) (n + 2 + 1) 0 ≡ x / 16777216 % 256 =
    ap (λ (i : ℕ). get_or (xs ++ ys) i 0) (let e : n + 2 + 1 ≡ n + 3 = omega arith in e) ∙ get_or-append-add xs ys 3 0 in
    omega (arith, a, b, c, d, word32_bytes x h)

-- ---- the check
pub check_below : (n : ℕ) (block : List ℕ) → check_over n block < 4294967296
unfolding check_over mixed rotated
check_below zero block = omega arith
check_below (suc n) block = omega arith

word16_front : (xs ys : List ℕ) (i : ℕ) → i + 2 ≤ length xs → word16 (xs ++ ys) i ≡ word16 xs i
unfolding word16
word16_front xs ys i h =
    ap₂ (λ (a b : ℕ). a + 256 * b) (get_or-append xs ys 0 i (omega arith)) (get_or-append xs ys 0 (i + 1) (omega arith))

pub word32_front : (xs ys : List ℕ) (i : ℕ) → i + 4 ≤ length xs → word32 (xs ++ ys) i ≡ word32 xs i
unfolding word32
word32_front xs ys i h =
    ap₂ (λ (a b : ℕ). a + 65536 * b) (word16_front xs ys i (omega arith)) (word16_front xs ys (i + 2) (omega arith))

check_front : (n : ℕ) (xs ys : List ℕ) → 4 * n ≤ length xs → check_over n (xs ++ ys) ≡ check_over n xs
unfolding check_over
check_front zero xs ys h = refl
check_front (suc n) xs ys h =
    ap₂ mixed (check_front n xs ys (omega arith)) (word32_front xs ys (4 * n) (omega arith))

pub block_check_front : (xs ys : List ℕ) → check_place ≤ length xs → block_check (xs ++ ys) ≡ block_check xs
unfolding block_check
block_check_front xs ys h = check_front checked_words xs ys (omega arith)

pub block_check_below : (block : List ℕ) → block_check block < 4294967296
unfolding block_check
block_check_below block = check_below checked_words block
