-- What an answer shows of the steps that led to it: each condition held, and each option held something. Assumes nothing.
use Rattle.std.specs.Prelude.{◌≡◌, refl, Bool, true, false, ◌&&◌, ◌||◌, ℕ, eqb}
use Rattle.std.proofs.Common.{sym, ap, ap₂, ◌∙◌, eqb-true, eq-eqb, arith}
use Rattle.std.proofs.Math.Option.{Option, some, none}
use Rattle.lingua.specs.Outcome.{ok, fail, Result, ◌>>=◌, ◌>>◌, require, or_fail, is_some}
use Rattle.lingua.specs.Body.{Body, boolean, number, word, hundredths, list_of, record_of, Attributes, end, attribute, holds, same_body, same_attributes, is_boolean, is_number, is_word, element_body, attributes_of, is_hundredths}

pub false_is_true {ℓ} : {A : Type ℓ} → false ≡ true → A
false_is_true e = absurd (let z : ◌≡◌ {A = ℕ} 0 1 = cc in let k : ⊥ = omega arith in k)

pub fail_is_ok {ℓ} : {A : Type 0} {B : Type ℓ} {n : ℕ} {a : A} → ◌≡◌ {A = Result A} (fail n) (ok a) → B
fail_is_ok e = absurd (let z : ◌≡◌ {A = ℕ} 0 1 = cc in let k : ⊥ = omega arith in k)

pub ok_same : {A : Type 0} {a b : A} → ◌≡◌ {A = Result A} (ok a) (ok b) → a ≡ b
ok_same e = cc

-- a condition that was required, and what came next
pub required : {A : Type 0} (t : Bool) (n : ℕ) (o : Result A) (a : A) → (require t n >> o) ≡ ok a → (t ≡ true) × (o ≡ ok a)
required true n o a e = (refl, e)
required false n o a e = fail_is_ok e

pub or_fail_ok : {A : Type 0} (m : Option A) (n : ℕ) (a : A) → or_fail m n ≡ ok a → m ≡ some a
or_fail_ok (some x) n a e = ap some (ok_same e)
or_fail_ok none n a e = fail_is_ok e

-- an option that was asked for, and what came next
pub asked : {A B : Type 0} (m : Option A) (n : ℕ) (f : A → Result B) (b : B) → (or_fail m n >>= f) ≡ ok b → (a : A) × (m ≡ some a) × (f a ≡ ok b)
asked (some x) n f b e = (x, refl, e)
asked none n f b e = fail_is_ok e

-- an option that holds something
pub is_some_lem : {A : Type 0} (m : Option A) → is_some m ≡ true → (a : A) × (m ≡ some a)
is_some_lem (some a) e = (a, refl)
is_some_lem none e = false_is_true e

pub and_left : (s t : Bool) → (s && t) ≡ true → s ≡ true
and_left true t e = refl
and_left false t e = e

pub and_right : (s t : Bool) → (s && t) ≡ true → t ≡ true
and_right true t e = e
and_right false t e = false_is_true e

pub and_both : (s t : Bool) → s ≡ true → t ≡ true → (s && t) ≡ true
and_both true t e f = f
and_both false t e f = e

pub or_left : (s t : Bool) → (s || t) ≡ false → s ≡ false
or_left true t e = e
or_left false t e = refl

pub or_right : (s t : Bool) → (s || t) ≡ false → t ≡ false
or_right true t e = false_is_true (sym e)
or_right false t e = e

-- an option that holds something with a property
pub held : {A : Type 0} (m : Option A) (p : A → Bool) → holds m p ≡ true → (a : A) × (m ≡ some a) × (p a ≡ true)
held (some a) p e = (a, refl, e)
held none p e = false_is_true e

-- ---- what a test of a body shows
pub is_boolean_lem : (b : Body) → is_boolean b ≡ true → b ≡ boolean
unfolding is_boolean
is_boolean_lem boolean e = refl
is_boolean_lem number e = false_is_true e
is_boolean_lem word e = false_is_true e
is_boolean_lem hundredths e = false_is_true e
is_boolean_lem (list_of b) e = false_is_true e
is_boolean_lem (record_of fs) e = false_is_true e

pub is_number_lem : (b : Body) → is_number b ≡ true → b ≡ number
unfolding is_number
is_number_lem boolean e = false_is_true e
is_number_lem number e = refl
is_number_lem word e = false_is_true e
is_number_lem hundredths e = false_is_true e
is_number_lem (list_of b) e = false_is_true e
is_number_lem (record_of fs) e = false_is_true e

pub is_word_lem : (b : Body) → is_word b ≡ true → b ≡ word
unfolding is_word
is_word_lem boolean e = false_is_true e
is_word_lem number e = false_is_true e
is_word_lem word e = refl
is_word_lem hundredths e = false_is_true e
is_word_lem (list_of b) e = false_is_true e
is_word_lem (record_of fs) e = false_is_true e

pub is_hundredths_lem : (b : Body) → is_hundredths b ≡ true → b ≡ hundredths
unfolding is_hundredths
is_hundredths_lem boolean e = false_is_true e
is_hundredths_lem number e = false_is_true e
is_hundredths_lem word e = false_is_true e
is_hundredths_lem hundredths e = refl
is_hundredths_lem (list_of b) e = false_is_true e
is_hundredths_lem (record_of fs) e = false_is_true e

pub none_is_some {ℓ} : {A : Type 0} {B : Type ℓ} {a : A} → none ≡ some a → B
none_is_some e = absurd (let z : ◌≡◌ {A = ℕ} 0 1 = cc in let k : ⊥ = omega arith in k)

pub some_same : {A : Type 0} {a b : A} → some a ≡ some b → a ≡ b
some_same e = cc

pub is_list : (b d : Body) → element_body b ≡ some d → b ≡ list_of d
unfolding element_body
is_list boolean d e = none_is_some e
is_list number d e = none_is_some e
is_list word d e = none_is_some e
is_list hundredths d e = none_is_some e
is_list (list_of b) d e = ap (λ (c : Body). list_of c) (some_same e)
is_list (record_of fs) d e = none_is_some e

pub is_record : (b : Body) (fs : Attributes) → attributes_of b ≡ some fs → b ≡ record_of fs
unfolding attributes_of
is_record boolean fs e = none_is_some e
is_record number fs e = none_is_some e
is_record word fs e = none_is_some e
is_record hundredths fs e = none_is_some e
is_record (list_of b) fs e = none_is_some e
is_record (record_of gs) fs e = ap (λ (c : Attributes). record_of c) (some_same e)

mutual
  unfolding same_body same_attributes

  pub same_body_lem : (b c : Body) → same_body b c ≡ true → b ≡ c
  same_body_lem boolean c e = sym (is_boolean_lem c e)
  same_body_lem number c e = sym (is_number_lem c e)
  same_body_lem word c e = sym (is_word_lem c e)
  same_body_lem hundredths c e = sym (is_hundredths_lem c e)
  same_body_lem (list_of b) c e =
      let h = held (element_body c) (λ d. same_body b d) e in
      ap (λ (d : Body). list_of d) (same_body_lem b h.0 h.2) ∙ sym (is_list c h.0 h.1)
  same_body_lem (record_of fs) c e =
      let h = held (attributes_of c) (λ gs. same_attributes fs gs) e in
      ap (λ (gs : Attributes). record_of gs) (same_attributes_lem fs h.0 h.2) ∙ sym (is_record c h.0 h.1)

  pub same_attributes_lem : (fs gs : Attributes) → same_attributes fs gs ≡ true → fs ≡ gs
  same_attributes_lem end end e = refl
  same_attributes_lem end (attribute m c gs) e = false_is_true e
  same_attributes_lem (attribute n b fs) end e = false_is_true e
  same_attributes_lem (attribute n b fs) (attribute m c gs) e =
      let r = and_right (eqb n m) (same_body b c && same_attributes fs gs) e in
      ap (λ (k : ℕ). attribute k b fs) (eqb-true n m (and_left (eqb n m) (same_body b c && same_attributes fs gs) e))
      ∙ ap₂ (λ (d : Body) (hs : Attributes). attribute m d hs)
      (same_body_lem b c (and_left (same_body b c) (same_attributes fs gs) r))
      (same_attributes_lem fs gs (and_right (same_body b c) (same_attributes fs gs) r))

-- ---- and a body is the same as itself
mutual
  unfolding same_body same_attributes is_boolean is_number is_word is_hundredths element_body attributes_of

  pub body_same : (b : Body) → same_body b b ≡ true
  body_same boolean = refl
  body_same number = refl
  body_same word = refl
  body_same hundredths = refl
  body_same (list_of b) = body_same b
  body_same (record_of fs) = attributes_same fs

  pub attributes_same : (fs : Attributes) → same_attributes fs fs ≡ true
  attributes_same end = refl
  attributes_same (attribute n b fs) =
      and_both (eqb n n) (same_body b b && same_attributes fs fs) (eq-eqb n n refl) (and_both (same_body b b) (same_attributes fs fs) (body_same b) (attributes_same fs))
