-- How texts on a page go on from one `put` to the next. Assumes nothing.
use Rattle.std.proofs.Common.{◌≡◌, refl, sym, ap, ◌∙◌, List, [], ◌∷◌, ◌++◌, ℕ, zero, suc, ◌-◌, ◌+◌, length, take, append_assoc, append-nil, length-append, arith}
use Rattle.text.specs.Appended.{Sheet, Appended}

-- ---- no text, and one text behind another
take_none : (n : ℕ) → take {A = ℕ} n [] ≡ []
take_none zero = refl
take_none (suc n) = refl

pub append_none : (p : Sheet) → Appended p [] p
append_none p = record {
  bytes = sym (ap (λ (l : List ℕ). p.text ++ l) (take_none p.left) ∙ append-nil p.text);
  left = omega arith;
}

take_both : (n : ℕ) (s t : List ℕ) → take n s ++ take (n - length s) t ≡ take n (s ++ t)
take_both zero s t = ap (λ (n : ℕ). take n t) (let e : 0 - length s ≡ 0 = omega arith in e)
take_both (suc n) [] t = ap (λ (m : ℕ). take m t) (let e : suc n - 0 ≡ suc n = omega arith in e)
take_both (suc n) (x ∷ s) t = ap (λ (m : ℕ). x ∷ (take n s ++ take m t)) (let e : suc n - suc (length s) ≡ n - length s = omega arith in e) ∙ ap (λ (l : List ℕ). x ∷ l) (take_both n s t)

pub append_both : {p q r : Sheet} {s t : List ℕ} → Appended p s q → Appended q t r → Appended p (s ++ t) r
append_both {p} {q} {r} {s} {t} a b =
    record {
      bytes =
          b.bytes
          ∙ ap (λ (l : List ℕ). l ++ take q.left t) a.bytes
          ∙ ap (λ (n : ℕ). (p.text ++ take p.left s) ++ take n t) a.left
          ∙ append_assoc p.text (take p.left s) (take (p.left - length s) t)
          ∙ ap (λ (l : List ℕ). p.text ++ l) (take_both p.left s t);
      left = omega (arith, a.left, b.left, length-append s t);
    }
