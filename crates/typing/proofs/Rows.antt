-- What is known of accepted rows where the type check reads them, and what its calls ask. Assumes nothing.
use mathlib.Core.Path.{◌≡◌, ap, ◌∙◌, subst}
use mathlib.Core.List.{List}
use Prim.Native.Nat.{ℕ, ◌+◌, ◌*◌, ◌<◌}
use native.Mathlib.Omega.{arith}
use lib.ListN.{length}
use Rattle.std.specs.Prelude.{Option as CodeOption}
use Rattle.lingua.specs.Rows.{pair_count}
use Rattle.lingua.specs.Trees.{expression_tree}
use Rattle.decoder.specs.declared.decode.ExpressionRow.{ExpressionRow as CodeRow}
use Rattle.decoder.specs.declared.decode.ExpressionRow.TheVariants as code
use Rattle.profile.specs.Row.{RowSays}
use Rattle.rules.specs.Accepted.{counts}
use Rattle.profile.specs.Facts.{RowFacts, row_facts, row_tree, row_tree_lem}
use Rattle.typing.specs.declared.walk.Scope.{Scope}
use Rattle.typing.specs.Check.{ReadsBelow, Readable, HeldIf, Asked, Operand}

-- ---- an expression row as the code has it
-- operands are lower rows, and each reads variables of the scope, as does a row that reads one
unfoldable pub RowAsks : Scope → ℕ → CodeRow → Type 0
RowAsks s r (code.Constant k) = Unit {0}
RowAsks s r (code.Variable n) = n < pair_count s.rows.now s.variables.section
RowAsks s r code.Current = Unit {0}
RowAsks s r (code.Unary o a) = Operand s r a
RowAsks s r (code.Binary o a b) = Operand s r a × Operand s r b
RowAsks s r (code.Lazy t a b) = Operand s r a × Operand s r b
RowAsks s r (code.Choice a b c) = Operand s r a × (Operand s r b × Operand s r c)
RowAsks s r (code.AllList a) = Operand s r a

row_asks : (s : Scope) (r : ℕ) (c : CodeRow) → RowFacts s.rows.now r c → ReadsBelow (pair_count s.rows.now s.variables.section) (row_tree s.rows.now r c) → RowAsks s r c
unfolding RowFacts row_tree ReadsBelow RowAsks Readable
row_asks s r (code.Constant k) f h = tt
row_asks s r (code.Variable n) f h = h
row_asks s r code.Current f h = tt
row_asks s r (code.Unary o a) f h = record { below = f; reads = h }
row_asks s r (code.Binary o a b) f h = (record { below = f.0; reads = h.0 }, record { below = f.1; reads = h.1 })
row_asks s r (code.Lazy t a b) f h = (record { below = f.0; reads = h.0 }, record { below = f.1; reads = h.1 })
row_asks s r (code.Choice a b c) f h =
    (record { below = f.0; reads = h.0 }, (record { below = f.1; reads = h.1 }, record { below = f.2; reads = h.2 }))
row_asks s r (code.AllList a) f h = record { below = f; reads = h }

-- an expression row that is checked: its tree, and what is known of its operands
module _ {s : Scope} {r : ℕ} {cur : CodeOption (List ℕ)} {l : List ℕ} (h : Asked r s cur l) (c d : CodeRow) (w : RowSays s.rows.now r c) (e : c ≡ d) where
  facts_at : RowFacts s.rows.now r c
  facts_at = row_facts s.rows.now h.sees.accepted r h.here c w

  pub tree_at : expression_tree s.rows.now r ≡ row_tree s.rows.now r d
  tree_at = row_tree_lem s.rows.now r c w facts_at ∙ ap (row_tree s.rows.now r) e

  pub asks_at : RowAsks s r d
  unfolding Readable
  asks_at =
      row_asks s r d (subst (λ (x : CodeRow). RowFacts s.rows.now r x) e facts_at) (subst (ReadsBelow (pair_count s.rows.now s.variables.section)) tree_at h.reads)

-- ---- what a call asks
module _ {s : Scope} {r : ℕ} {cur : CodeOption (List ℕ)} {l : List ℕ} (h : Asked r s cur l) where
  pub asked_below : {a : ℕ} {cur' : CodeOption (List ℕ)} (l' : List ℕ) → Operand s r a → HeldIf cur' → length l' ≡ length l → Asked a s cur' l'
  asked_below l' p k e =
      record { sees = h.sees; here = let q = h.here in let b = p.below in omega arith; reads = p.reads; held = k; room = e ∙ h.room }

  pub asked_room : (l' : List ℕ) → length l' ≡ length l → 2 * r + 1 < length l'
  asked_room l' e = omega (arith, e, h.room, h.here, (counts s.rows.now h.sees.accepted.counts).expressions.most)

  pub asked_small : r < 65536
  asked_small = omega (arith, h.here, (counts s.rows.now h.sees.accepted.counts).expressions.most)
