-- Words moved behind each other: what holds after some bytes of the first word are passed, one turn more, and what the two
-- ends of the loop give; then glue's result. Assumes nothing.
use mathlib.Core.Path.{◌≡◌, refl, sym, ap, ap₂, ◌∙◌, subst}
use mathlib.Core.Bool.{true}
use mathlib.Core.List.{List, [], ◌∷◌, ◌++◌}
use Prim.Native.Nat.{ℕ, zero, suc, ◌+◌, ◌-◌, ◌/◌, ◌%◌, ◌^◌, ◌≤◌, ◌<◌}
use native.Mathlib.Nat.{pow-suc, mul-div_cancel, one-le-pow, mul-mod_left}
use native.Mathlib.Omega.{arith}
use lib.ListN.{length, set, get_or}
use lib.IntN.{ℤ, pos, nat_abs}
use mir.Syntax.{w64}
use mir.Val.{to_z, of_z}
use mir.ValLaws.{to_z-of_z}
use borrow.Author.Tests.{le-leb, lt-leb}
use Rattle.lingua.specs.Numbers.{word_length}
use Rattle.lingua.specs.Body.{word, size}
use Rattle.lingua.specs.Value.{Value, text, fit_text, is_character, all_of, is_text, packed_in, packed, as_text, cells_of}
use Rattle.lingua.specs.Operation.{glue}
use Rattle.lingua.specs.Compute.{glued, binary_value}
use Rattle.laws.specs.Outcomes.{and_left, and_right}
use Rattle.laws.specs.Words.{text_short, text_characters, all_append, glued_text, packed_half, packed_tail, packed_positive, packed_append, packed_shift, packed_full}
use Rattle.laws.specs.Determined.{pos_same}
use Rattle.laws.specs.Sound.{fit_word}
use Rattle.std.specs.Prelude.{Option, Some, None}
use Rattle.cells.specs.Stack.{Lies, Leaves}
use Rattle.cells.specs.Word.{IsWord, WordAt, Behind}
use Rattle.cells.proofs.Elements.{leaves_answer, leaves_error}
use Rattle.cells.proofs.Singles.{word_cell, put_cell}

-- ---- the loop
-- after the bytes of the first text but `tail` are passed, `left` places are left, and the second text is moved to them
pub record Passed (cs ds : List ℕ) (rest moved place : ℕ) : Type 0 where
  pub left : ℕ
  pub tail : List ℕ
  pub few : left ≤ word_length
  pub passed : length cs + left ≡ word_length + length tail
  pub short : length tail ≤ left
  pub characters : all_of is_character tail ≡ true
  pub rest_is : rest ≡ packed_in left tail
  pub room : length ds ≤ left
  pub moved_is : moved ≡ packed_in left ds
  pub place_is : place ≡ 256 ^ left / 256

-- the same with a byte to pass
record Ahead (cs ds : List ℕ) (rest moved place : ℕ) : Type 0 where
  n : ℕ
  byte : ℕ
  tail : List ℕ
  few : suc n ≤ word_length
  passed : length cs + suc n ≡ word_length + suc (length tail)
  short : length tail ≤ n
  characters : all_of is_character (byte ∷ tail) ≡ true
  rest_is : rest ≡ packed_in (suc n) (byte ∷ tail)
  room : length ds ≤ suc n
  moved_is : moved ≡ packed_in (suc n) ds
  place_is : place ≡ 256 ^ n

pub passed_none : (cs ds : List ℕ) (x y : ℕ) → is_text cs ≡ true → is_text ds ≡ true → x ≡ packed_in word_length cs → y ≡ packed_in word_length ds → Passed cs ds x y 72057594037927936
passed_none cs ds x y h k e f = record {
  left = word_length;
  tail = cs;
  few = omega arith;
  passed = omega arith;
  short = text_short cs h;
  characters = text_characters cs h;
  rest_is = e;
  room = text_short ds k;
  moved_is = f;
  place_is = refl;
}

-- no byte is left to pass
ended_of : (left : ℕ) (tail : List ℕ) → length tail ≤ left → all_of is_character tail ≡ true → packed_in left tail ≡ 0 → length tail ≡ 0
ended_of left [] short h e = refl
ended_of zero (x ∷ xs) short h e = absurd (let k : ⊥ = omega arith in k)
ended_of (suc n) (x ∷ xs) short h e =
    absurd (let k : ⊥ = omega (arith, e, packed_positive n x xs (and_left (is_character x) (all_of is_character xs) (unfold all_of in h)), one-le-pow n 256 (omega arith)) in k)

module _ {cs ds : List ℕ} {rest moved place : ℕ} where
  ahead_of : (left : ℕ) (tail : List ℕ) → left ≤ word_length → length cs + left ≡ word_length + length tail → length tail ≤ left → all_of is_character tail ≡ true
      → rest ≡ packed_in left tail → length ds ≤ left → moved ≡ packed_in left ds → place ≡ 256 ^ left / 256 → (rest ≡ 0 → ⊥) → Ahead cs ds rest moved place
  unfolding packed_in
  ahead_of zero tail few passed short characters e room m q f = absurd (f e)
  ahead_of (suc n) [] few passed short characters e room m q f = absurd (f e)
  ahead_of (suc n) (x ∷ xs) few passed short characters e room m q f = record {
    n = n;
    byte = x;
    tail = xs;
    few = few;
    passed = passed;
    short = omega arith;
    characters = characters;
    rest_is = e;
    room = room;
    moved_is = m;
    place_is = q ∙ ap (λ (k : ℕ). k / 256) (pow-suc 256 n) ∙ mul-div_cancel (256 ^ n) (omega arith);
  }

  ahead : Passed cs ds rest moved place → (rest ≡ 0 → ⊥) → Ahead cs ds rest moved place
  ahead p f = ahead_of p.left p.tail p.few p.passed p.short p.characters p.rest_is p.room p.moved_is p.place_is f

  -- a place to divide by, and a lower one to come
  pub place_positive : Passed cs ds rest moved place → (rest ≡ 0 → ⊥) → 0 < place
  place_positive p f = let a = ahead p f in omega (arith, a.place_is, one-le-pow a.n 256 (omega arith))

  -- the second text has a byte in the last place: no room
  pub no_room : Passed cs ds rest moved place → (rest ≡ 0 → ⊥) → (moved % 256 ≡ 0 → ⊥) → word_length < length cs + length ds
  no_room p f g =
      let a = ahead p f in
      let long : length ds ≤ a.n → ⊥ = λ le. g (ap (λ (k : ℕ). k % 256) (a.moved_is ∙ packed_shift a.n ds le) ∙ mul-mod_left (packed_in a.n ds) 256) in
      omega (arith, a.passed, a.room, long)

  -- one turn
  pub passed_more : is_text ds ≡ true → Passed cs ds rest moved place → (rest ≡ 0 → ⊥) → moved % 256 ≡ 0 → Passed cs ds (rest % place) (moved / 256) (place / 256)
  passed_more t p f e =
      let a = ahead p f in
      let full : length ds ≡ suc a.n → ⊥ = λ l. packed_full a.n ds l (text_characters ds t) (ap (λ (k : ℕ). k % 256) (sym a.moved_is) ∙ e) in
      let room : length ds ≤ a.n = omega (arith, a.room, full) in
      record {
        left = a.n;
        tail = a.tail;
        few = omega (arith, a.few);
        passed = omega (arith, a.passed);
        short = a.short;
        characters = tail_of a.byte a.tail a.characters;
        rest_is = ap₂ (λ (i j : ℕ). i % j) a.rest_is a.place_is ∙ packed_tail a.n a.byte a.tail a.characters;
        room = room;
        moved_is = ap (λ (k : ℕ). k / 256) (a.moved_is ∙ packed_shift a.n ds room) ∙ mul-div_cancel (packed_in a.n ds) (omega arith);
        place_is = ap (λ (k : ℕ). k / 256) a.place_is;
      }
    where
      tail_of : (c : ℕ) (l : List ℕ) → all_of is_character (c ∷ l) ≡ true → all_of is_character l ≡ true
      tail_of c l e = and_right (is_character c) (all_of is_character l) (unfold all_of in e)

  pub passed_all : Passed cs ds rest moved place → rest ≡ 0 → (length cs + length ds ≤ word_length) × (moved ≡ packed_in (word_length - length cs) ds)
  passed_all p e =
      let z = ended_of p.left p.tail p.short p.characters (sym p.rest_is ∙ e) in
      let l : p.left ≡ word_length - length cs = omega (arith, p.passed, p.few) in
      (omega (arith, p.passed, p.room, z), p.moved_is ∙ ap (λ (k : ℕ). packed_in k ds) l)

-- ---- the cells as the code reads them
word_back : (n : ℕ) → IsWord n → to_z w64 n ≡ pos n
word_back n k = to_z-of_z w64 (pos n) (record { sfits = omega (arith, k.is, packed_half k.characters (text_characters k.characters k.text)) })

module _ (s : List ℤ) (at : ℕ) (k : WordAt s at) where
  pub word_read : to_z w64 (of_z w64 (get_or s at (pos 0))) ≡ pos k.number
  word_read = ap (λ (z : ℤ). to_z w64 (of_z w64 z)) k.is ∙ word_back k.number k.word

  abbrev numbered : ℕ
  numbered = nat_abs (to_z w64 (of_z w64 (get_or s at (pos 0))))

  numbered_is : numbered ≡ k.number
  numbered_is = ap nat_abs word_read

  pub numbered_cell : get_or s at (pos 0) ≡ pos numbered
  numbered_cell = k.is ∙ ap (λ (n : ℕ). pos n) (sym numbered_is)

  pub numbered_word : IsWord numbered
  numbered_word = record { characters = k.word.characters; text = k.word.text; is = numbered_is ∙ k.word.is }

  pub numbered_fits : numbered < 18446744073709551616
  numbered_fits = omega (arith, numbered_word.is, packed_half numbered_word.characters (text_characters numbered_word.characters numbered_word.text))

-- what `moved_behind` says of its result
abbrev pub Says : ℕ → ℕ → Option ℕ → Type 0
Says m n r = (cs ds : List ℕ) → is_text cs ≡ true → is_text ds ≡ true → m ≡ packed_in word_length cs → n ≡ packed_in word_length ds → Behind r cs ds

moved_to : (cs ds : List ℕ) (r : Option ℕ) (k : ℕ) → r ≡ Some k → Behind r cs ds → (length cs + length ds ≤ word_length) × (k ≡ packed_in (word_length - length cs) ds)
unfolding Behind
moved_to cs ds r k e b = subst (λ (q : Option ℕ). Behind q cs ds) e b

moved_nowhere : (cs ds : List ℕ) (r : Option ℕ) → r ≡ None → Behind r cs ds → word_length < length cs + length ds
unfolding Behind
moved_nowhere cs ds r e b = subst (λ (q : Option ℕ). Behind q cs ds) e b

-- the two numbers together are that of the glued text
together : (cs ds : List ℕ) (m k : ℕ) → is_text cs ≡ true → m ≡ packed_in word_length cs → k ≡ packed_in (word_length - length cs) ds → m + k ≡ packed_in word_length (cs ++ ds)
together cs ds m k h e f = omega (arith, e, f, packed_append word_length cs ds (text_short cs h))

-- the sum fits a cell
pub glued_fits : (m n : ℕ) (r : Option ℕ) (k : ℕ) → IsWord m → IsWord n → Says m n r → r ≡ Some k → m + k < 9223372036854775808
glued_fits m n r k x y f e =
    let cs = x.characters in
    let ds = y.characters in
    let b = moved_to cs ds r k e (f cs ds x.text y.text x.is y.is) in
    omega (arith, together cs ds m k x.text x.is b.1, packed_half (cs ++ ds) (all_append is_character cs ds (text_characters cs x.text) (text_characters ds y.text)))

-- ---- glue
module _ (s : List ℤ) (x y : Value) (m n : ℕ) (r : Option ℕ) (h : Lies s 0 word x) (k : Lies s 64 word y) (p : get_or s 0 (pos 0) ≡ pos m) (q : get_or s 64 (pos 0) ≡ pos n) (f : Says m n r) where
  behind : Behind r (as_text x) (as_text y)
  unfolding packed
  behind = f (as_text x) (as_text y) (fit_word h.fit) (fit_word k.fit) (pos_same (sym p ∙ word_cell h)) (pos_same (sym q ∙ word_cell k))

  pub glue_none : r ≡ None → Leaves 6 s word (binary_value glue x y)
  unfolding binary_value glued
  glue_none e = leaves_error 5 (rw (lt-leb (length (as_text x) + length (as_text y)) word_length (moved_nowhere (as_text x) (as_text y) r e behind)) refl)

  pub glue_law : (j : ℕ) → 0 < length s → r ≡ Some j → Leaves 0 (set s 0 (to_z w64 (m + j))) word (binary_value glue x y)
  unfolding binary_value glued packed size cells_of as_text
  glue_law j l e =
      let cs = as_text x in
      let ds = as_text y in
      let b = moved_to cs ds r j e behind in
      let t = glued_text cs ds (fit_word h.fit) (fit_word k.fit) b.0 in
      let m_is : m ≡ packed_in word_length cs = pos_same (sym p ∙ word_cell h) in
      let sum = together cs ds m j (fit_word h.fit) m_is b.1 in
      rw (le-leb (length cs + length ds) word_length b.0)
      (leaves_answer (record {
        value = text (cs ++ ds);
        is = refl;
        lies = record {
          cells = put_cell s (to_z w64 (m + j)) l ∙ ap (λ (z : ℤ). z ∷ []) (ap (λ (i : ℕ). to_z w64 i) sum ∙ word_back (packed_in word_length (cs ++ ds)) (record { characters = cs ++ ds; text = t; is = refl }));
          fit = fit_text t;
        };
      }))
