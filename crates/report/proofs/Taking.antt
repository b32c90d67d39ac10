-- The variables' lines of two files, taken whole. Assumes nothing.
use mathlib.Core.Path.{◌≡◌, refl, sym, ap, ◌∙◌, subst}
use native.Mathlib.Omega.{arith}
use Rattle.std.specs.Prelude.{Result, Ok, Err}
use Rattle.lingua.specs.declared.errors.Refusal.{Refusal}
use Rattle.lingua.specs.Faults.{refusal_of}
use Rattle.laws.specs.Faults.{refusal_number_counted}
use mathlib.Core.List.{List, []}
use Prim.Native.Nat.{ℕ, zero, suc}
use lib.ListN.{take}
use lib.IntN.{ℤ}
use Rattle.lingua.specs.Numbers.{declaration_section}
use Rattle.lingua.specs.Rows.{pair_count}
use Rattle.lingua.specs.Store.{Variable}
use Rattle.lingua.specs.Format.{rows_of}
use Rattle.lingua.specs.Refusal.{lowest, pair_rules}
use Rattle.pair.specs.Pair.{PairIs}
use Rattle.pair.specs.declared.Pair.{Pair}
use Rattle.text.specs.Appended.{Sheet, Appended}
use Rattle.text.proofs.Texts.{append_none}
use Rattle.report.specs.Memory.{Left, memory_lines, lines_unless, variables_text}

module _ (prof lims areas others types : List ℕ) (r : Result Pair Refusal) (h : PairIs r prof lims areas others types) where
  -- a rule applies
  no_lines : (rows : List ℕ) (cells : List ℤ) (states : List ℕ) (vs : List Variable) (n : ℕ) → (n ≡ 0 → ⊥) → [] ≡ lines_unless n rows cells states vs
  unfolding lines_unless
  no_lines rows cells states vs zero k = absurd (k refl)
  no_lines rows cells states vs (suc n) k = refl

  refused : ((p : Pair) → r ≡ Ok p → ⊥) → lowest (pair_rules prof lims) ≡ 0 → ⊥
  refused none z = go r refl
    where
      go : (s : Result Pair Refusal) → r ≡ s → ⊥
      go (Ok p) q = none p q
      go (Err e) q = omega (arith, refusal_number_counted e, sym (ap refusal_of q) ∙ (h.refusal ∙ z))

  pub none_put : (cells : List ℤ) (states : List ℕ) (vs : List Variable) (page : Sheet) → ((p : Pair) → r ≡ Ok p → ⊥) → Appended page (variables_text prof lims cells states vs) page
  unfolding variables_text
  none_put cells states vs page none =
      subst (λ (text : List ℕ). Appended page text page)
      (no_lines (rows_of prof) cells states vs (lowest (pair_rules prof lims)) (refused none))
      (append_none page)

  -- no rule applies
  module _ (p : Pair) (z : r ≡ Ok p) where
    accepted : lowest (pair_rules prof lims) ≡ 0
    accepted = sym h.refusal ∙ ap refusal_of z

    pub lines_put : {page after : Sheet} {rows : List ℕ} (are : rows ≡ take p.profile.length areas) (cells : List ℤ) (states : List ℕ) (vs : List Variable)
        → Appended page (memory_lines rows cells states vs 0 (pair_count rows declaration_section)) after
        → Appended page (variables_text prof lims cells states vs) after
    unfolding variables_text lines_unless
    lines_put {page} {after} are cells states vs q =
        rw accepted
        (subst (λ (x : List ℕ). Appended page (memory_lines x cells states vs 0 (pair_count x declaration_section)) after) (are ∙ (h.taken p z).rows) q)

-- the rows that were taken are the file's
pub left_rows : {prof lims areas others types present : List ℕ} {r : Result Pair Refusal} {cells : List ℤ} {states : List ℕ} {vs : List Variable} (h : PairIs r prof lims areas others types) (p : Pair) → r ≡ Ok p
    → Left (rows_of prof) present cells states vs → Left (take p.profile.length areas) present cells states vs
left_rows {present = present} {cells = cells} {states} {vs} h p z l = subst (λ (rows : List ℕ). Left rows present cells states vs) (sym (h.taken p z).rows) l
