-- `binary_attributes` meets its contract, operation by operation. Assumes nothing.
use mathlib.Core.Path.{◌≡◌, refl}
use mathlib.Core.List.{[]}
use Rattle.lingua.specs.Rules.{binary_attribute}
use Rattle.lingua.specs.Operations.{binary_meaning}
use Rattle.lingua.specs.declared.operations.BinaryOperation.{BinaryOperation}
use Rattle.lingua.specs.declared.operations.BinaryOperation.TheVariants as row
use Rattle.decoder.specs.Mentions.{listed}
use Rattle.decoder.proofs.mentions.binary_attributes.Goals as goal

others : (o : BinaryOperation) → ((n : _) → o ≡ row.Expand n → ⊥) → ((n : _) → o ≡ row.Change n → ⊥) → binary_attribute (binary_meaning o) ≡ []
unfolding binary_attribute binary_meaning
others row.Add not_expand not_change = refl
others row.Subtract not_expand not_change = refl
others row.Multiply not_expand not_change = refl
others row.Divide not_expand not_change = refl
others row.Less not_expand not_change = refl
others row.Equal not_expand not_change = refl
others row.Glue not_expand not_change = refl
others (row.Expand n) not_expand not_change = absurd (not_expand n refl)
others (row.Change n) not_expand not_change = absurd (not_change n refl)
others row.Push not_expand not_change = refl

pub returns-in-Expand : goal.returns-in-Expand
unfolding listed binary_attribute binary_meaning
returns-in-Expand c = rw c.in-Expand.is

pub returns-in-Change : goal.returns-in-Change
unfolding listed binary_attribute binary_meaning
returns-in-Change c = rw c.in-Change.is

pub returns-in_default : goal.returns-in_default
unfolding listed
returns-in_default c = rw (others c.args.o c.in_default.not-Expand c.in_default.not-Change)
