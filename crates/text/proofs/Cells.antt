-- How a variable's cells go on, one behind another. Assumes nothing.
use Rattle.std.proofs.Common.{◌≡◌, sym, ap, ◌∙◌, List, [], ◌∷◌, ◌++◌, ℕ, ◌+◌, ◌<◌, ◌≤◌, length, take, get_or, append_assoc, append-nil, add-one, ℤ, pos}
use mathlib.Core.Path.{subst}
use lib.Seq.{take_all, take-suc}
use Rattle.lingua.specs.Report.{signed_decimal, cell_texts}
use Rattle.text.specs.Appended.{Sheet, Appended}
use Rattle.text.proofs.Texts.{append_both}

one_more : (zs : List ℤ) (z : ℤ) → cell_texts (zs ++ (z ∷ [])) ≡ cell_texts zs ++ ((32 ∷ []) ++ signed_decimal z)
unfolding cell_texts
one_more [] z = ap (λ (l : List ℕ). 32 ∷ l) (append-nil (signed_decimal z))
one_more (x ∷ zs) z =
    ap (λ (l : List ℕ). 32 ∷ (signed_decimal x ++ l)) (one_more zs z)
    ∙ ap (λ (l : List ℕ). 32 ∷ l) (sym (append_assoc (signed_decimal x) (cell_texts zs) ((32 ∷ []) ++ signed_decimal z)))

pub cells_next :
    {p q r s : Sheet} (cells : List ℤ) (i : ℕ) →
    i < length cells →
    Appended p (cell_texts (take i cells)) q →
    Appended q (32 ∷ []) r →
    Appended r (signed_decimal (get_or cells i (pos 0))) s →
    Appended p (cell_texts (take (i + 1) cells)) s
cells_next {p} {s = s} cells i h a b d =
    subst (λ (text : List ℕ). Appended p text s)
    (sym
    (ap cell_texts (ap (λ (n : ℕ). take n cells) (add-one i) ∙ take-suc cells i (pos 0) h)
    ∙ one_more (take i cells) (get_or cells i (pos 0))))
    (append_both a (append_both b d))

pub cells_all : {p q : Sheet} (cells : List ℤ) (i : ℕ) → length cells ≤ i → Appended p (cell_texts (take i cells)) q → Appended p (cell_texts cells) q
cells_all cells i h a = rw (take_all i cells h) at a
