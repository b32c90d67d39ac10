-- Texts: a glued text's characters are characters, and a text of characters is determined by its cell. Carried by the
-- remainder and the quotient of the cell's number by a power of 256. Assumes nothing.
use Rattle.std.specs.Prelude.{◌≡◌, refl, Bool, true, List, [], ◌∷◌, ◌++◌, ℕ, zero, suc, ◌+◌, ◌-◌, ◌*◌, ◌/◌, ◌%◌, ◌^◌, ◌≤◌, ◌<◌, leb, length}
use Rattle.std.proofs.Common.{sym, ap, ap₂, ◌∙◌, pow-suc, mul_assoc, add-mul, le-add_right, mul-le-mul_right, le_of_suc-le-suc, mod-eq_of_lt, arith, length-append, leb-true, le-leb}
use Rattle.std.proofs.Math.Nat.{one-le-pow, div-eq_of_lt-le, mul-add-mod_self_right, sub-zero}
use Rattle.lingua.specs.Numbers.{word_length, lowest_character, highest_character}
use Rattle.lingua.specs.Value.{is_character, all_of, is_text, packed_in}
use Rattle.laws.specs.Outcomes.{and_left, and_right, and_both}

-- ---- characters
pub character_low : (c : ℕ) → is_character c ≡ true → lowest_character ≤ c
unfolding is_character
character_low c e = leb-true lowest_character c (and_left (leb lowest_character c) (leb c highest_character) e)

pub character_high : (c : ℕ) → is_character c ≡ true → c ≤ highest_character
unfolding is_character
character_high c e = leb-true c highest_character (and_right (leb lowest_character c) (leb c highest_character) e)

pub text_short : (cs : List ℕ) → is_text cs ≡ true → length cs ≤ word_length
unfolding is_text
text_short cs e = leb-true (length cs) word_length (and_left (leb (length cs) word_length) (all_of is_character cs) e)

pub text_characters : (cs : List ℕ) → is_text cs ≡ true → all_of is_character cs ≡ true
unfolding is_text
text_characters cs e = and_right (leb (length cs) word_length) (all_of is_character cs) e

pub all_append : {A : Type 0} (p : A → Bool) (xs ys : List A) → all_of p xs ≡ true → all_of p ys ≡ true → all_of p (xs ++ ys) ≡ true
unfolding all_of
all_append p [] ys e f = f
all_append p (x ∷ xs) ys e f = and_both (p x) (all_of p (xs ++ ys)) (and_left (p x) (all_of p xs) e) (all_append p xs ys (and_right (p x) (all_of p xs) e) f)

-- two texts that are short enough together make a text
pub glued_text : (cs ds : List ℕ) → is_text cs ≡ true → is_text ds ≡ true → length cs + length ds ≤ word_length → is_text (cs ++ ds) ≡ true
unfolding is_text
glued_text cs ds e f le =
    and_both (leb (length (cs ++ ds)) word_length) (all_of is_character (cs ++ ds))
    (le-leb (length (cs ++ ds)) word_length (omega (arith, length-append cs ds)))
    (all_append is_character cs ds (text_characters cs e) (text_characters ds f))

-- ---- packing
power_positive : (n : ℕ) → 1 ≤ 256 ^ n
power_positive n = one-le-pow n 256 (omega arith)

head_character : (c : ℕ) (cs : List ℕ) → all_of is_character (c ∷ cs) ≡ true → is_character c ≡ true
unfolding all_of
head_character c cs e = and_left (is_character c) (all_of is_character cs) e

tail_characters : (c : ℕ) (cs : List ℕ) → all_of is_character (c ∷ cs) ≡ true → all_of is_character cs ≡ true
unfolding all_of
tail_characters c cs e = and_right (is_character c) (all_of is_character cs) e

-- n bytes are below 256 to the n-th
pub packed_below : (n : ℕ) (cs : List ℕ) → all_of is_character cs ≡ true → packed_in n cs < 256 ^ n
unfolding packed_in
packed_below zero cs e = omega (arith, power_positive 0)
packed_below (suc n) [] e = power_positive (suc n)
packed_below (suc n) (c ∷ cs) e =
    let r = packed_below n cs (tail_characters c cs e) in
    let h : c * 256 ^ n ≤ highest_character * 256 ^ n = mul-le-mul_right (256 ^ n) (character_high c (head_character c cs e)) in
    omega (arith, r, h, pow-suc 256 n)

-- a word's number is below half of 2 to the 64th: its first byte is at most 126
pub packed_half : (cs : List ℕ) → all_of is_character cs ≡ true → packed_in word_length cs < 9223372036854775808
unfolding packed_in
packed_half [] e = omega arith
packed_half (c ∷ cs) e =
    let r = packed_below 7 cs (tail_characters c cs e) in
    let h : c * 256 ^ 7 ≤ highest_character * 256 ^ 7 = mul-le-mul_right (256 ^ 7) (character_high c (head_character c cs e)) in
    omega (arith, r, h)

-- the first byte, and the number of the others
pub packed_head : (n c : ℕ) (cs : List ℕ) → all_of is_character (c ∷ cs) ≡ true → packed_in (suc n) (c ∷ cs) / 256 ^ n ≡ c
unfolding packed_in
packed_head n c cs e =
    let r = packed_below n cs (tail_characters c cs e) in
    div-eq_of_lt-le (256 ^ n) (omega (arith, le-add_right (c * 256 ^ n) (packed_in n cs))) (omega (arith, r, add-mul c 1 (256 ^ n)))

pub packed_tail : (n c : ℕ) (cs : List ℕ) → all_of is_character (c ∷ cs) ≡ true → packed_in (suc n) (c ∷ cs) % 256 ^ n ≡ packed_in n cs
unfolding packed_in
packed_tail n c cs e =
    let r = packed_below n cs (tail_characters c cs e) in
    mul-add-mod_self_right c (256 ^ n) (packed_in n cs) ∙ mod-eq_of_lt r

-- only the empty text has the number 0
pub packed_positive : (n c : ℕ) (cs : List ℕ) → is_character c ≡ true → 256 ^ n ≤ packed_in (suc n) (c ∷ cs)
unfolding packed_in
packed_positive n c cs e =
    let h : lowest_character * 256 ^ n ≤ c * 256 ^ n = mul-le-mul_right (256 ^ n) (character_low c e) in
    omega (arith, h)

pub packed_empty : (n : ℕ) → packed_in n [] ≡ 0
unfolding packed_in
packed_empty zero = refl
packed_empty (suc n) = refl

pub packed_injective : (n : ℕ) (cs ds : List ℕ) → length cs ≤ n → length ds ≤ n → all_of is_character cs ≡ true → all_of is_character ds ≡ true
    → packed_in n cs ≡ packed_in n ds → cs ≡ ds
packed_injective n [] [] hc hd ec ed e = refl
packed_injective zero [] (d ∷ ds) hc hd ec ed e = absurd (let k : ⊥ = omega arith in k)
packed_injective (suc n) [] (d ∷ ds) hc hd ec ed e =
    absurd (let k : ⊥ = omega (arith, e, packed_empty (suc n), packed_positive n d ds (head_character d ds ed), power_positive n) in k)
packed_injective zero (c ∷ cs) ds hc hd ec ed e = absurd (let k : ⊥ = omega arith in k)
packed_injective (suc n) (c ∷ cs) [] hc hd ec ed e =
    absurd (let k : ⊥ = omega (arith, e, packed_empty (suc n), packed_positive n c cs (head_character c cs ec), power_positive n) in k)
packed_injective (suc n) (c ∷ cs) (d ∷ ds) hc hd ec ed e =
    ap₂ (λ (x : ℕ) (xs : List ℕ). x ∷ xs)
    (sym (packed_head n c cs ec) ∙ ap (λ (k : ℕ). k / 256 ^ n) e ∙ packed_head n d ds ed)
    (packed_injective n cs ds (le_of_suc-le-suc hc) (le_of_suc-le-suc hd) (tail_characters c cs ec) (tail_characters d ds ed)
    (sym (packed_tail n c cs ec) ∙ ap (λ (k : ℕ). k % 256 ^ n) e ∙ packed_tail n d ds ed))

-- ---- gluing
-- a text behind another takes the places that the other leaves
pub packed_append : (n : ℕ) (cs ds : List ℕ) → length cs ≤ n → packed_in n (cs ++ ds) ≡ packed_in n cs + packed_in (n - length cs) ds
unfolding packed_in
packed_append n [] ds h = ap (λ (k : ℕ). packed_in k ds) (sym (sub-zero n)) ∙ (let z = packed_empty n in omega arith)
packed_append zero (c ∷ cs) ds h = absurd (let k : ⊥ = omega arith in k)
packed_append (suc n) (c ∷ cs) ds h =
    let r = packed_append n cs ds (le_of_suc-le-suc h) in
    let q : packed_in (n - length cs) ds ≡ packed_in (suc n - length (c ∷ cs)) ds = ap (λ (k : ℕ). packed_in k ds) (let a : n - length cs ≡ suc n - suc (length cs) = omega arith in a) in
    omega (arith, r, q)

-- a text moved by one place, if the last place is free
pub packed_shift : (n : ℕ) (ds : List ℕ) → length ds ≤ n → packed_in (suc n) ds ≡ packed_in n ds * 256
unfolding packed_in
packed_shift n [] h = let z = packed_empty n in omega arith
packed_shift zero (d ∷ ds) h = absurd (let k : ⊥ = omega arith in k)
packed_shift (suc n) (d ∷ ds) h =
    let r = packed_shift n ds (le_of_suc-le-suc h) in
    omega (arith, r, ap (λ (k : ℕ). d * k) (pow-suc 256 n), mul_assoc d (256 ^ n) 256)

-- if it is not, the last byte is a character
pub packed_full : (n : ℕ) (ds : List ℕ) → length ds ≡ suc n → all_of is_character ds ≡ true → packed_in (suc n) ds % 256 ≡ 0 → ⊥
unfolding packed_in
packed_full n [] h e m = omega arith
packed_full zero (d ∷ ds) h e m =
    omega (arith, m, character_low d (head_character d ds e), character_high d (head_character d ds e))
packed_full (suc n) (d ∷ ds) h e m =
    packed_full n ds (let a : length ds ≡ suc n = omega arith in a) (tail_characters d ds e)
    (let a : packed_in (suc n) ds % 256 ≡ 0 = omega (arith, m, ap (λ (k : ℕ). d * k) (pow-suc 256 n), mul_assoc d (256 ^ n) 256) in a)
