-- `attributes` meets its contract, row by row. Assumes nothing.
use mathlib.Core.Path.{◌≡◌, refl}
use mathlib.Core.List.{List, []}
use Prim.Native.Nat.{ℕ}
use Rattle.lingua.specs.Rules.{expression_attributes}
use Rattle.decoder.specs.Decoded.{expression_meaning}
use Rattle.decoder.specs.declared.decode.ExpressionRow.{ExpressionRow}
use Rattle.decoder.specs.declared.decode.ExpressionRow.TheVariants as row
use Rattle.decoder.specs.Mentions.{listed}
use Rattle.decoder.proofs.mentions.attributes.Goals as goal

others : (rows : List ℕ) (i : ℕ) (r : ExpressionRow) → ((o : _) (a : _) → r ≡ row.Unary o a → ⊥) → ((o : _) (a : _) (b : _) → r ≡ row.Binary o a b → ⊥) → expression_attributes (expression_meaning rows i r) ≡ []
unfolding expression_attributes expression_meaning
others rows i (row.Constant s) not_unary not_binary = refl
others rows i (row.Variable n) not_unary not_binary = refl
others rows i row.Current not_unary not_binary = refl
others rows i (row.Unary o a) not_unary not_binary = absurd (not_unary o a refl)
others rows i (row.Binary o a b) not_unary not_binary = absurd (not_binary o a b refl)
others rows i (row.Lazy t a b) not_unary not_binary = refl
others rows i (row.Choice a b c) not_unary not_binary = refl
others rows i (row.AllList a) not_unary not_binary = refl

pub returns-in-Unary : goal.returns-in-Unary
unfolding listed expression_attributes expression_meaning
returns-in-Unary c = λ rows i. rw c.in-Unary.is c.unary_attributes.ensures

pub returns-in-Binary : goal.returns-in-Binary
unfolding listed expression_attributes expression_meaning
returns-in-Binary c = λ rows i. rw c.in-Binary.is c.binary_attributes.ensures

pub returns-in_default : goal.returns-in_default
unfolding listed
returns-in_default c = λ rows i. rw (others rows i c.args.row c.in_default.not-Unary c.in_default.not-Binary)
