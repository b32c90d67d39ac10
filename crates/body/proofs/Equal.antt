-- Two arrays that hold bodies are equal where the bodies are. Assumes nothing.
use mathlib.Core.Path.{◌≡◌, refl, sym, ap, subst, ◌∙◌}
use mathlib.Core.Bool.{Bool, true, false, ◌&&◌}
use mathlib.Core.List.{List}
use Prim.Native.Nat.{ℕ, ◌+◌, ◌<◌}
use native.Mathlib.Omega.{arith}
use lib.Dec.{eqb}
use borrow.Author.Count.{below_none, below_more}
use borrow.Author.Tests.{eqb-true, eq-eqb}
use lib.ListN.{length, get_or}
use lib.Seq.{ext_get_or}
use Rattle.lingua.specs.Body.{Body, boolean, number, word, hundredths, list_of, record_of, Attributes, end, attribute, is_boolean, is_number, is_word, is_hundredths, element_body, attributes_of, same_body, same_attributes}
use Rattle.lingua.specs.Encode.{encoded}
use Rattle.body.specs.Encode.{Holds}
use Rattle.body.proofs.Parser.{encoded_injective}

and_true : (s t : Bool) → true ≡ s → true ≡ t → true ≡ s && t
and_true true t p q = q
and_true false t p q = p

and_left : (s t : Bool) → true ≡ s && t → true ≡ s
and_left true t e = refl
and_left false t e = e

and_right : (s t : Bool) → true ≡ s && t → true ≡ t
and_right true t e = e
and_right false t e = let k : ◌≡◌ {A = ℕ} 0 1 = cc in absurd (let b : ⊥ = omega arith in b)

clash : {A : Type 0} → ◌≡◌ {A = Bool} true false → A
clash e = let k : ◌≡◌ {A = ℕ} 0 1 = cc in absurd (let b : ⊥ = omega arith in b)

-- ---- the test of equal bodies is right
mutual
  unfolding same_body is_boolean is_number is_word is_hundredths element_body attributes_of

  itself : (b : Body) → true ≡ same_body b b
  itself boolean = refl
  itself number = refl
  itself word = refl
  itself hundredths = refl
  itself (list_of b) = itself b
  itself (record_of fs) = all_itself fs

  all_itself : (fs : Attributes) → true ≡ same_attributes fs fs
  all_itself end = refl
  all_itself (attribute n b fs) =
      and_true (eqb n n) (same_body b b && same_attributes fs fs) (sym (eq-eqb n n refl))
      (and_true (same_body b b) (same_attributes fs fs) (itself b) (all_itself fs))

mutual
  unfolding same_body is_boolean is_number is_word is_hundredths element_body attributes_of

  from_same : (b c : Body) → true ≡ same_body b c → b ≡ c
  from_same boolean boolean e = refl
  from_same boolean number e = clash e
  from_same boolean word e = clash e
  from_same boolean hundredths e = clash e
  from_same boolean (list_of c) e = clash e
  from_same boolean (record_of gs) e = clash e
  from_same number boolean e = clash e
  from_same number number e = refl
  from_same number word e = clash e
  from_same number hundredths e = clash e
  from_same number (list_of c) e = clash e
  from_same number (record_of gs) e = clash e
  from_same word boolean e = clash e
  from_same word number e = clash e
  from_same word word e = refl
  from_same word hundredths e = clash e
  from_same word (list_of c) e = clash e
  from_same word (record_of gs) e = clash e
  from_same hundredths boolean e = clash e
  from_same hundredths number e = clash e
  from_same hundredths word e = clash e
  from_same hundredths hundredths e = refl
  from_same hundredths (list_of c) e = clash e
  from_same hundredths (record_of gs) e = clash e
  from_same (list_of b) boolean e = clash e
  from_same (list_of b) number e = clash e
  from_same (list_of b) word e = clash e
  from_same (list_of b) hundredths e = clash e
  from_same (list_of b) (list_of c) e = ap list_of (from_same b c e)
  from_same (list_of b) (record_of gs) e = clash e
  from_same (record_of fs) boolean e = clash e
  from_same (record_of fs) number e = clash e
  from_same (record_of fs) word e = clash e
  from_same (record_of fs) hundredths e = clash e
  from_same (record_of fs) (list_of c) e = clash e
  from_same (record_of fs) (record_of gs) e = ap record_of (from_all_same fs gs e)

  from_all_same : (fs gs : Attributes) → true ≡ same_attributes fs gs → fs ≡ gs
  from_all_same end end e = refl
  from_all_same end (attribute m c gs) e = clash e
  from_all_same (attribute n b fs) end e = clash e
  from_all_same (attribute n b fs) (attribute m c gs) e =
      let r = and_right (eqb n m) (same_body b c && same_attributes fs gs) e in
      let p = eqb-true n m (sym (and_left (eqb n m) (same_body b c && same_attributes fs gs) e)) in
      let q = from_same b c (and_left (same_body b c) (same_attributes fs gs) r) in
      let s = from_all_same fs gs (and_right (same_body b c) (same_attributes fs gs) r) in
      cc

pub same_body_lem : (b c : Body) → b ≡ c → true ≡ same_body b c
same_body_lem b c e = subst (λ (d : Body). true ≡ same_body b d) e (itself b)

pub other_body : (b c : Body) → (b ≡ c → ⊥) → false ≡ same_body b c
other_body b c n = by_test (same_body b c) refl
  where
    by_test : (t : Bool) → t ≡ same_body b c → false ≡ same_body b c
    by_test true e = absurd (n (from_same b c e))
    by_test false e = e

pub same_held : (x y : List ℕ) → x ≡ y → (b c : Body) → Holds x b → Holds y c → true ≡ same_body b c
same_held x y e b c h k = same_body_lem b c (encoded_injective b c (sym h.is ∙ e ∙ k.is))

pub other_held : (x y : List ℕ) → (x ≡ y → ⊥) → (b c : Body) → Holds x b → Holds y c → false ≡ same_body b c
other_held x y n b c h k = other_body b c (λ e. n (h.is ∙ ap encoded e ∙ sym k.is))

-- ---- a comparison that goes on after a difference
pub record Compared (x y : List ℕ) (alike : Bool) (i : ℕ) : Type 0 where
  pub like : alike ≡ true → (k : ℕ) → k < i → get_or x k 0 ≡ get_or y k 0
  pub unlike : alike ≡ false → x ≡ y → ⊥

pub none_compared : (x y : List ℕ) → Compared x y true 0
none_compared x y = record { like = λ e. below_none _; unlike = λ e. clash e }

pub differ : (x y : List ℕ) (a : Bool) (i n : ℕ) → a ≡ false → (get_or x i 0 ≡ get_or y i 0 → ⊥) → Compared x y a n
differ x y a i n e f =
    record { like = λ g. clash (sym g ∙ e); unlike = λ g p. f (ap (λ (l : List ℕ). get_or l i 0) p) }

pub agree : (x y : List ℕ) (a s : Bool) (i : ℕ) → Compared x y a i → s ≡ a → get_or x i 0 ≡ get_or y i 0 → Compared x y s (i + 1)
agree x y a s i h e p =
    record { like = λ g. below_more _ i (h.like (sym e ∙ g)) p; unlike = λ g. h.unlike (sym e ∙ g) }

pub all_compared : (x y : List ℕ) (a : Bool) (n : ℕ) → Compared x y a n → length x ≡ n → length y ≡ n
    → (b c : Body) → Holds x b → Holds y c → a ≡ same_body b c
all_compared x y true n h l m b c = same_held x y (ext_get_or 0 x y (l ∙ sym m) (λ i k. h.like refl i (omega (arith, k, l)))) b c
all_compared x y false n h l m b c = other_held x y (h.unlike refl) b c
