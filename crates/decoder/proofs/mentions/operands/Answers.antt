-- `operands` meets its contract, row by row. Assumes nothing.
use mathlib.Core.Path.{◌≡◌, refl}
use mathlib.Core.List.{List, []}
use Prim.Native.Nat.{ℕ}
use Rattle.lingua.specs.Rows.{operands}
use Rattle.decoder.specs.Decoded.{expression_meaning}
use Rattle.decoder.specs.declared.decode.ExpressionRow.{ExpressionRow}
use Rattle.decoder.specs.declared.decode.ExpressionRow.TheVariants as row
use Rattle.decoder.specs.Mentions.{listed}
use Rattle.decoder.proofs.mentions.operands.Goals as goal

others : (rows : List ℕ) (i : ℕ) (r : ExpressionRow) → ((o : _) (a : _) → r ≡ row.Unary o a → ⊥) → ((o : _) (a : _) (b : _) → r ≡ row.Binary o a b → ⊥) → ((t : _) (a : _) (b : _) → r ≡ row.Lazy t a b → ⊥) → ((a : _) (b : _) (c : _) → r ≡ row.Choice a b c → ⊥) → ((a : _) → r ≡ row.AllList a → ⊥) → operands (expression_meaning rows i r) ≡ []
unfolding operands expression_meaning
others rows i (row.Constant s) not_unary not_binary not_lazy not_choice not_alllist = refl
others rows i (row.Variable n) not_unary not_binary not_lazy not_choice not_alllist = refl
others rows i row.Current not_unary not_binary not_lazy not_choice not_alllist = refl
others rows i (row.Unary o a) not_unary not_binary not_lazy not_choice not_alllist = absurd (not_unary o a refl)
others rows i (row.Binary o a b) not_unary not_binary not_lazy not_choice not_alllist = absurd (not_binary o a b refl)
others rows i (row.Lazy t a b) not_unary not_binary not_lazy not_choice not_alllist = absurd (not_lazy t a b refl)
others rows i (row.Choice a b c) not_unary not_binary not_lazy not_choice not_alllist = absurd (not_choice a b c refl)
others rows i (row.AllList a) not_unary not_binary not_lazy not_choice not_alllist = absurd (not_alllist a refl)

pub returns-in-Unary : goal.returns-in-Unary
unfolding listed operands expression_meaning
returns-in-Unary c = λ rows i. rw c.in-Unary.is

pub returns-in-Binary : goal.returns-in-Binary
unfolding listed operands expression_meaning
returns-in-Binary c = λ rows i. rw c.in-Binary.is

pub returns-in-Lazy : goal.returns-in-Lazy
unfolding listed operands expression_meaning
returns-in-Lazy c = λ rows i. rw c.in-Lazy.is

pub returns-in-Choice : goal.returns-in-Choice
unfolding listed operands expression_meaning
returns-in-Choice c = λ rows i. rw c.in-Choice.is

pub returns-in-AllList : goal.returns-in-AllList
unfolding listed operands expression_meaning
returns-in-AllList c = λ rows i. rw c.in-AllList.is

pub returns-in_default : goal.returns-in_default
unfolding listed
returns-in_default c = λ rows i. rw (others rows i c.args.row c.in_default.not-Unary c.in_default.not-Binary c.in_default.not-Lazy c.in_default.not-Choice c.in_default.not-AllList)
