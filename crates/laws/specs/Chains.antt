-- What a chain of iterators over a range or a slice answers, in the words of the definitions. Assumes nothing.
use Rattle.std.proofs.Common.{◌≡◌, refl, sym, ap, ℕ, zero, suc, ◌+◌, ◌-◌, Bool, true, false, ◌&&◌, List, [], ◌∷◌, Option, arith, ◌∙◌}
use Rattle.std.proofs.Math.Bool.{and-true, and_assoc}
use Rattle.std.specs.Fn.{Called}
use Rattle.std.specs.Iterator.{YieldsThen}
use Rattle.std.specs.List.{list_all, range_with_len, FoldsTo}
use Rattle.std.specs.Option.{MatchOption}
use Rattle.std.proofs.iter.Yields.{nat_range_steps}
use Rattle.std.proofs.lemmas.Iterator.{YieldsList, YieldsList-from_range}
use Rattle.std.proofs.lemmas.Iterator.Search.{all_from_yields_List}
use denote.Param.Members.{Mut}
use Rattle.lingua.specs.Format.{every_below}
use Rattle.lingua.specs.Value.{all_of}

module _ (p : ℕ → Bool) where
  -- the last number's test stands last
  more : (n a m : ℕ) → a + n ≡ m → list_all p (range_with_len a (suc n)) ≡ (list_all p (range_with_len a n) && p m)
  more zero a m e = let h : a ≡ m = omega arith in rw (← h) (and-true (p a))
  more (suc n) a m e =
      let h : (a + 1) + n ≡ m = omega arith in
      ap (λ (b : Bool). p a && b) (more n (a + 1) m h) ∙ sym (and_assoc (p a) (list_all p (range_with_len (a + 1) n)) (p m))

  pub every_range : (n : ℕ) → list_all p (range_with_len 0 n) ≡ every_below n p
  unfolding every_below
  every_range zero = refl
  every_range (suc n) = let h : 0 + n ≡ n = omega arith in more n 0 n h ∙ ap (λ (b : Bool). b && p n) (every_range n)

pub every_from_all : {F : Type 0} {g : Mut F (ℕ × Unit {0}) Bool} {a b : _} (test : ℕ → Bool) (n : ℕ) (u : _) (f : F) (r : Bool)
    → (xs : List ℕ) × (o : Option ℕ) × (j : F) × YieldsThen nat_range_steps (record { start = a; end = b }) xs o u
    × FoldsTo (λ p x q. Called g p (x, tt) true q) f xs j
    × MatchOption o (r ≡ true) (λ x. (r ≡ false) × ((h : F) × Called g j (x, tt) false h))
    → a ≡ 0 → b ≡ n
    → ((x : ℕ) (b : Bool) (q : F) → Called g f (x, tt) b q → (q ≡ f) × (b ≡ test x))
    → r ≡ every_below n test
every_from_all {a = a} {b = b} test n u f r ran start end called =
    let e : b - a ≡ n = omega arith in
    let z : a ≡ 0 = start in
    all_from_yields_List test u f r ran (YieldsList-from_range a b n refl e) called ∙ rw z (every_range test n)

list_all_is : {B : Type 0} (test : B → Bool) (xs : List B) → list_all test xs ≡ all_of test xs
unfolding all_of
list_all_is test [] = refl
list_all_is test (x ∷ xs) = ap (λ (b : Bool). test x && b) (list_all_is test xs)

-- the same of a chain that yields a list, as a slice's
pub all_of_from_all : {S A B F : Type 0} {steps : S → Option A → S → Type 0} {v : A → B} {g : Mut F (A × Unit {0}) Bool} {s : S} {all : List B} (test : B → Bool) (u : S) (f : F) (r : Bool)
    → (xs : List A) × (o : Option A) × (j : F) × YieldsThen steps s xs o u
    × FoldsTo (λ p x q. Called g p (x, tt) true q) f xs j
    × MatchOption o (r ≡ true) (λ x. (r ≡ false) × ((h : F) × Called g j (x, tt) false h))
    → YieldsList steps v s all
    → ((x : A) (b : Bool) (q : F) → Called g f (x, tt) b q → (q ≡ f) × (b ≡ test (v x)))
    → r ≡ all_of test all
all_of_from_all {all = all} test u f r ran yields called = all_from_yields_List test u f r ran yields called ∙ list_all_is test all
