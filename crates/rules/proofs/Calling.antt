-- What is asked of a call: of its procedure's parameters, and of the variables that it gives. Assumes nothing.
use mathlib.Core.Path.{◌≡◌, refl, sym, ap, ◌∙◌}
use mathlib.Core.Bool.{Bool, true, false, ◌&&◌}
use mathlib.Core.List.{List, ◌++◌}
use Prim.Native.Nat.{ℕ, ◌<◌, min}
use native.Mathlib.Omega.{arith}
use lib.Dec.{eqb, ltb}
use borrow.Author.Tests.{ltb-true, eq-eqb, ne_eqb}
use Rattle.lingua.specs.Numbers.{most_parameters, most_procedures, instruction_section}
use Rattle.lingua.specs.Rows.{table_count, procedure_count, value_count, reference_count, groups, instruction_row, InstructionRow as Row}
use Rattle.lingua.specs.Trees.{given_values, given_references}
use Rattle.lingua.specs.References.{all_below, on_call, bits_above, all_different}
use Rattle.decoder.specs.Tables.{IsProcedure}
use Rattle.decoder.specs.Decoded.{instruction_meaning}
use Rattle.decoder.specs.Mentions.{InstructionAlike}
use Rattle.decoder.specs.declared.decode.InstructionRow.{InstructionRow}
use Rattle.decoder.specs.declared.decode.InstructionRow.TheVariants as row
use Rattle.decoder.specs.declared.tables.Procedure.{Procedure}
use Rattle.decoder.proofs.Short.{all_append}
use Rattle.rules.specs.Accepted.{own_call_lem}
use Rattle.rules.specs.Calls.{Scoped, Calls}

-- ---- a row that calls, and one that does not
pub call_at : (x : InstructionRow) (k b c : ℕ) (f : ℕ → ℕ → ℕ → Bool) → x ≡ row.Call k b c → on_call (instruction_meaning x) f ≡ f k b c
unfolding instruction_meaning
call_at x k b c f e = ap (λ (y : InstructionRow). on_call (instruction_meaning y) f) e

pub no_call : (x : InstructionRow) (f : ℕ → ℕ → ℕ → Bool) → ((k b c : ℕ) → x ≡ row.Call k b c → ⊥) → true ≡ on_call (instruction_meaning x) f
unfolding instruction_meaning
no_call row.Skip f h = refl
no_call (row.Assign n e) f h = refl
no_call (row.SetYoke n y) f h = refl
no_call (row.Sequence i j) f h = refl
no_call (row.Branch e i j) f h = refl
no_call (row.Loop e i) f h = refl
no_call (row.Handle n i) f h = refl
no_call (row.Call k b c) f h = absurd (h k b c refl)

-- its procedure is there, and has a number that can be
pub called_at : (rows : List ℕ) (x : InstructionRow) (k b c : ℕ) → Calls rows x → x ≡ row.Call k b c → k < procedure_count rows
called_at rows x k b c h e = ltb-true k (procedure_count rows) (sym (call_at x k b c (λ k b c. ltb k (procedure_count rows)) e) ∙ h.called)

pub called_low : (rows : List ℕ) (x : InstructionRow) (k b c : ℕ) → Calls rows x → x ≡ row.Call k b c → k < most_procedures
called_low rows x k b c h e = omega (arith, called_at rows x k b c h e, h.few)

pub calls_of : (rows : List ℕ) (r : ℕ) (x : InstructionRow) → Scoped rows → r < table_count rows instruction_section → InstructionAlike x (instruction_row rows r) → Calls rows x
calls_of rows r x h l a =
    record { few = h.sized.procedures; called = a.calls (λ k b c. ltb k (procedure_count rows)) ∙ own_call_lem rows h.refers r l }

-- of a row that the code has, what is asked of the definitions' row
module _ {x : InstructionRow} {y : Row} (a : InstructionAlike x y) (f : ℕ → ℕ → ℕ → Bool) where
  pub alike_call : {k b c : ℕ} → x ≡ row.Call k b c → f k b c ≡ on_call y f
  alike_call e = sym (call_at x _ _ _ f e) ∙ a.calls f

  pub alike_none : ((k b c : ℕ) → x ≡ row.Call k b c → ⊥) → true ≡ on_call y f
  alike_none n = no_call x f n ∙ a.calls f

-- ---- the variables that it gives
module _ (rows : List ℕ) (k b c : ℕ) (p : Procedure) (h : IsProcedure rows k p) (n m : ℕ) (en : n ≡ min most_parameters p.values) (em : m ≡ min most_parameters p.references) where
  pub values_are : groups n b ≡ given_values rows k b
  unfolding given_values
  values_are = ap (λ (j : ℕ). groups j b) (en ∙ ap (λ (j : ℕ). min most_parameters j) h.values)

  pub references_are : groups m c ≡ given_references rows k c
  unfolding given_references
  references_are = ap (λ (j : ℕ). groups j c) (em ∙ ap (λ (j : ℕ). min most_parameters j) h.references)

  pub given_values_fail : (end : ℕ) → all_below end (groups n b) ≡ false → false ≡ all_below end (given_values rows k b ++ given_references rows k c)
  given_values_fail end e =
      sym
      (all_append (λ j. ltb j end) (given_values rows k b) (given_references rows k c)
      ∙ ap (λ (t : Bool). t && all_below end (given_references rows k c)) (ap (all_below end) (sym values_are) ∙ e))

  pub given_references_tell : (end : ℕ) → all_below end (groups n b) ≡ true → all_below end (groups m c) ≡ all_below end (given_values rows k b ++ given_references rows k c)
  given_references_tell end e =
      ap (all_below end) references_are
      ∙ sym
      (all_append (λ j. ltb j end) (given_values rows k b) (given_references rows k c)
      ∙ ap (λ (t : Bool). t && all_below end (given_references rows k c)) (ap (all_below end) (sym values_are) ∙ e))

  pub differ_are : all_different (groups m c) ≡ all_different (given_references rows k c)
  differ_are = ap all_different references_are

-- ---- 18
module _ (rows : List ℕ) (k : ℕ) (p : Procedure) (h : IsProcedure rows k p) where
  -- a call's bits
  pub bits_fail : (b c u : ℕ) → u ≡ bits_above p.values b → (u ≡ 0 → ⊥) → false ≡ (eqb (bits_above (value_count rows k) b) 0 && eqb (bits_above (reference_count rows k) c) 0)
  bits_fail b c u e n =
      sym
      (ap (λ (t : Bool). t && eqb (bits_above (reference_count rows k) c) 0)
      (ne_eqb (bits_above (value_count rows k) b) 0 (λ z. n (e ∙ ap (λ (j : ℕ). bits_above j b) h.values ∙ z))))

  pub bits_tell : (b c u v : ℕ) → u ≡ bits_above p.values b → u ≡ 0 → v ≡ bits_above p.references c → eqb v 0 ≡ (eqb (bits_above (value_count rows k) b) 0 && eqb (bits_above (reference_count rows k) c) 0)
  bits_tell b c u v e z f =
      ap (λ (j : ℕ). eqb j 0) (f ∙ ap (λ (j : ℕ). bits_above j c) h.references)
      ∙ sym
      (ap (λ (t : Bool). t && eqb (bits_above (reference_count rows k) c) 0)
      (eq-eqb (bits_above (value_count rows k) b) 0 (sym (e ∙ ap (λ (j : ℕ). bits_above j b) h.values) ∙ z)))
