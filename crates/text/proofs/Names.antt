-- What stands in front of a name's first zero. Assumes nothing.
use Rattle.std.proofs.Common.{◌≡◌, refl, sym, ap, ◌∙◌, List, [], ◌∷◌, ℕ, suc, ◌+◌, take, length, cond, true, false, Bool, not, eqb, ltb, arith, Option, Some, None}
use lib.Seq.{take_all}
use borrow.Author.Tests.{ltb-false}
use Rattle.std.specs.List.{position_or_len}
use Rattle.std.specs.Option.{unwrap_or}
use Rattle.lingua.specs.Rows.{until_zero}

is_zero : ℕ → Bool
is_zero c = eqb c 0

next : (b : Bool) (c : ℕ) (cs : List ℕ) (n : ℕ) → take n cs ≡ until_zero cs → take (cond (not b) (1 + n) 0) (c ∷ cs) ≡ cond b [] (c ∷ until_zero cs)
next true c cs n h = refl
next false c cs n h = let e : 1 + n ≡ suc n = omega arith in rw e (ap (λ (l : List ℕ). c ∷ l) h)

before : (name : List ℕ) → take (position_or_len (λ b. eqb b 0) name) name ≡ until_zero name
unfolding until_zero
before [] = refl
before (c ∷ cs) = next (eqb c 0) c cs (position_or_len (λ b. eqb b 0) cs) (before cs)

chosen : (b : Bool) (name : List ℕ) (n : ℕ) → ltb n (length name) ≡ b → take (unwrap_or (cond b (Some n) None) (length name)) name ≡ take n name
chosen true name n h = refl
chosen false name n h = take_all (length name) name (omega arith) ∙ sym (take_all n name (omega (arith, ltb-false n (length name) h)))

pub name_before : (name : List ℕ) (r : Option ℕ) → r ≡ cond (ltb (position_or_len (λ b. eqb b 0) name) (length name)) (Some (position_or_len (λ b. eqb b 0) name)) None → take (unwrap_or r (length name)) name ≡ until_zero name
name_before name r e = rw e (chosen _ name _ refl ∙ before name)
