-- What makes the tests of form and names: the bytes that a kind uses, and a table's names by its rows. Assumes nothing.
use mathlib.Core.Path.{◌≡◌, refl, sym, ap, ◌∙◌}
use mathlib.Core.Bool.{Bool, not, ◌&&◌}
use mathlib.Core.List.{List, [], ◌∷◌}
use mathlib.Core.Option.{some, none}
use Prim.Native.Nat.{ℕ, zero, suc, ◌+◌, ◌*◌, ◌/◌, ◌≤◌}
use native.Mathlib.Omega.{arith}
use lib.Dec.{eqb, ltb}
use lib.ListN.{length, get_or}
use lib.Pointwise.{pointwise}
use Rattle.std.proofs.lemmas.List.{get_or-map}
use denote.Ref.{Bor}
use Rattle.std.specs.Prelude.{Option, Some, None, map, is_some, IfSome, option_copied}
use Rattle.row_rules.specs.Form.{meant}
use borrow.Author.Tests.{ltb-true, ltb-false}
use Rattle.lingua.specs.Numbers.{scope_table}
use Rattle.lingua.specs.Rows.{bytes_at, row_in, pair_count, name_row}
use Rattle.lingua.specs.Format.{every_below}
use Rattle.lingua.specs.Compute.{same_text}
use Rattle.lingua.specs.Trees.{name_at}
use Rattle.lingua.specs.Rules.{is_name, is_new, names_fit, between, count_wrong}
use Rattle.lingua.specs.Format.{profile, limits}
use Rattle.decoder.specs.Tables.{IsTable, AreTables}
use Rattle.decoder.specs.declared.tables.Table.{Table}
use Rattle.decoder.specs.declared.tables.Tables.{Tables}

-- ---- counts, of any rows that have these tables
pub counts_profile : (rows : List ℕ) (t : Tables) → AreTables rows t → count_wrong profile rows ≡ not (between 1 16 (t.declarations.count / 2) && between 1 32 t.types.count && between 0 512 t.expressions.count && between 1 256 t.instructions.count && between 0 8 t.procedures.count)
unfolding count_wrong pair_count
counts_profile rows t h = rw (h.declarations.count, h.types.count, h.expressions.count, h.instructions.count, h.procedures)

pub counts_limits : (rows : List ℕ) (t : Tables) → AreTables rows t → count_wrong limits rows ≡ not (between 0 16 (t.limits.count / 2))
unfolding count_wrong pair_count
counts_limits rows t h = rw h.limits.count

-- ---- names
pub new_from : (rows : List ℕ) (s : ℕ) (t : Table) (d : ℕ) → IsTable rows s t → is_new rows s d ≡ every_below d (λ e. not (same_text (bytes_at rows (t.start + 2 * e)) (bytes_at rows (t.start + 2 * d))))
unfolding is_new name_at name_row row_in
new_from rows s t d h = rw h.start

pub names_from : (rows : List ℕ) (t : Table) → IsTable rows t.section t → names_fit rows t.section ≡ every_below (t.count / 2) (λ d. is_name (bytes_at rows (t.start + 2 * d)) && is_new rows t.section d)
unfolding names_fit pair_count name_at name_row row_in
names_from rows t h = rw (h.start, h.count)

-- the names of a scope, from its table's number
pub scope_names : (rows : List ℕ) (s : ℕ) (t : Table) (b : Bool) → IsTable rows (scope_table s) t → b ≡ names_fit rows t.section → b ≡ names_fit rows (scope_table s)
scope_names rows s t b h e = e ∙ ap (names_fit rows) h.section

-- ---- used bytes
out_map : (used : List ℕ) (k : ℕ) → length used ≤ k → get_or (map some used) k none ≡ none
out_map [] k h = refl
out_map (n ∷ ns) zero h = absurd (let z : ⊥ = omega arith in z)
out_map (n ∷ ns) (suc k) h = out_map ns k (omega arith)

-- what a slice has at a place
pub at_place : (used : List ℕ) (k : ℕ) (o : Option (Bor ℕ)) → is_some o ≡ ltb k (length used) → IfSome o (λ x. x.now ≡ get_or used k x.now) → meant (option_copied o) ≡ get_or (map some used) k none
unfolding meant
at_place used k None e h = sym (out_map used k (ltb-false k (length used) (sym e)))
at_place used k (Some x) e h = ap some h ∙ sym (get_or-map some used k x.now none (ltb-true k (length used) (sym e)))

-- ---- same bytes
pub pointwise_is : (a b : List ℕ) → pointwise eqb a b ≡ same_text a b
unfolding same_text
pointwise_is [] [] = refl
pointwise_is [] (d ∷ ds) = refl
pointwise_is (c ∷ cs) [] = refl
pointwise_is (c ∷ cs) (d ∷ ds) = ap (λ (t : Bool). eqb c d && t) (pointwise_is cs ds)
