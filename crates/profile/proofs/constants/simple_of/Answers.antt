-- `simple_of` meets its contract, row by row. Assumes nothing.
use mathlib.Core.Path.{◌≡◌, refl}
use mathlib.Core.List.{List}
use Prim.Native.Nat.{ℕ}
use Rattle.decoder.specs.Decoded.{expression_meaning}
use Rattle.decoder.specs.declared.decode.ExpressionRow.{ExpressionRow}
use Rattle.decoder.specs.declared.decode.ExpressionRow.TheVariants as row
use Rattle.decoder.specs.declared.decode.Simple.TheVariants as simple
use Rattle.profile.specs.Row.{value_of}
use Rattle.profile.specs.Constants.{SimpleIn}
use Rattle.profile.proofs.ConstantCells.{is_constant, simple_constant, simple_none}
use Rattle.profile.proofs.constants.simple_of.Goals as goal

others : (rows : List ℕ) (i : ℕ) (r : ExpressionRow) → ((s : _) → r ≡ row.Constant s → ⊥) → SimpleIn (expression_meaning rows i r) rows i simple.Boolean
unfolding expression_meaning value_of is_constant
others rows i (row.Constant s) not_constant = absurd (not_constant s refl)
others rows i (row.Variable n) not_constant = simple_none _ rows i refl refl
others rows i row.Current not_constant = simple_none _ rows i refl refl
others rows i (row.Unary o a) not_constant = simple_none _ rows i refl refl
others rows i (row.Binary o a b) not_constant = simple_none _ rows i refl refl
others rows i (row.Lazy t a b) not_constant = simple_none _ rows i refl refl
others rows i (row.Choice a b c) not_constant = simple_none _ rows i refl refl
others rows i (row.AllList a) not_constant = simple_none _ rows i refl refl

pub returns-in-Constant : goal.returns-in-Constant
unfolding expression_meaning
returns-in-Constant c = λ rows i. rw c.in-Constant.is (simple_constant rows i c.in-Constant.s)

pub returns-in_default : goal.returns-in_default
returns-in_default c = λ rows i. others rows i c.args.row c.in_default.not-Constant
