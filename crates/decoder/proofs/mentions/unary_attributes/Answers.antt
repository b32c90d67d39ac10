-- `unary_attributes` meets its contract, operation by operation. Assumes nothing.
use mathlib.Core.Path.{◌≡◌, refl}
use mathlib.Core.List.{[]}
use Rattle.lingua.specs.Rules.{unary_attribute}
use Rattle.lingua.specs.Operations.{unary_meaning}
use Rattle.lingua.specs.declared.operations.UnaryOperation.{UnaryOperation}
use Rattle.lingua.specs.declared.operations.UnaryOperation.TheVariants as row
use Rattle.decoder.specs.Mentions.{listed}
use Rattle.decoder.proofs.mentions.unary_attributes.Goals as goal

others : (o : UnaryOperation) → ((n : _) → o ≡ row.MakeRecord n → ⊥) → ((n : _) → o ≡ row.Select n → ⊥) → ((n : _) → o ≡ row.Remove n → ⊥) → unary_attribute (unary_meaning o) ≡ []
unfolding unary_attribute unary_meaning
others row.Negation not_makerecord not_select not_remove = refl
others (row.MakeRecord n) not_makerecord not_select not_remove = absurd (not_makerecord n refl)
others (row.Select n) not_makerecord not_select not_remove = absurd (not_select n refl)
others row.MakeList not_makerecord not_select not_remove = refl
others row.Top not_makerecord not_select not_remove = refl
others row.Pop not_makerecord not_select not_remove = refl
others (row.Remove n) not_makerecord not_select not_remove = absurd (not_remove n refl)
others row.ToHundredths not_makerecord not_select not_remove = refl
others row.ToNumber not_makerecord not_select not_remove = refl

pub returns-in-MakeRecord : goal.returns-in-MakeRecord
unfolding listed unary_attribute unary_meaning
returns-in-MakeRecord c = rw c.in-MakeRecord.is

pub returns-in-Select : goal.returns-in-Select
unfolding listed unary_attribute unary_meaning
returns-in-Select c = rw c.in-Select.is

pub returns-in-Remove : goal.returns-in-Remove
unfolding listed unary_attribute unary_meaning
returns-in-Remove c = rw c.in-Remove.is

pub returns-in_default : goal.returns-in_default
unfolding listed
returns-in_default c = rw (others c.args.o c.in_default.not-MakeRecord c.in_default.not-Select c.in_default.not-Remove)
