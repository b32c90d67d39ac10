-- `variables` meets its contract, row by row. Assumes nothing.
use mathlib.Core.Path.{◌≡◌, refl}
use mathlib.Core.List.{List, []}
use Prim.Native.Nat.{ℕ}
use Rattle.lingua.specs.References.{expression_variables}
use Rattle.decoder.specs.Decoded.{expression_meaning}
use Rattle.decoder.specs.declared.decode.ExpressionRow.{ExpressionRow}
use Rattle.decoder.specs.declared.decode.ExpressionRow.TheVariants as row
use Rattle.decoder.specs.Mentions.{listed}
use Rattle.decoder.proofs.mentions.variables.Goals as goal

others : (rows : List ℕ) (i : ℕ) (r : ExpressionRow) → ((n : _) → r ≡ row.Variable n → ⊥) → expression_variables (expression_meaning rows i r) ≡ []
unfolding expression_variables expression_meaning
others rows i (row.Constant s) not_variable = refl
others rows i (row.Variable n) not_variable = absurd (not_variable n refl)
others rows i row.Current not_variable = refl
others rows i (row.Unary o a) not_variable = refl
others rows i (row.Binary o a b) not_variable = refl
others rows i (row.Lazy t a b) not_variable = refl
others rows i (row.Choice a b c) not_variable = refl
others rows i (row.AllList a) not_variable = refl

pub returns-in-Variable : goal.returns-in-Variable
unfolding listed expression_variables expression_meaning
returns-in-Variable c = λ rows i. rw c.in-Variable.is

pub returns-in_default : goal.returns-in_default
unfolding listed
returns-in_default c = λ rows i. rw (others rows i c.args.row c.in_default.not-Variable)
