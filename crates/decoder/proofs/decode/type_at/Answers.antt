-- `type_at` meets its contract: each arm is what the table has for its kind, and the table has no other kind. Assumes nothing.
use mathlib.Core.Path.{refl}
use Rattle.lingua.specs.Rows.{unknown_type, numbered, type_kinds, type_at}
use Rattle.decoder.specs.Decoded.{simple_meaning, type_meaning, decoded, uses}
use Rattle.decoder.specs.declared.decode.Simple.TheVariants as simple
use Rattle.decoder.specs.declared.decode.TypeRow.TheVariants as type
use Rattle.std.specs.Prelude.{Some}
use Rattle.decoder.proofs.Decoding.{known_arm, unknown_arm}
use Rattle.decoder.proofs.decode.type_at.Goals as goal

pub returns-in-1 : goal.returns-in-1
unfolding type_at numbered type_kinds decoded type_meaning simple_meaning uses
returns-in-1 c = known_arm _ _ _ _ _ _ c.kind_at-kind.ensures c.a_at-a.ensures.0 c.b_at-b.ensures.0 c.c_at-c.ensures.0 unknown_type type_meaning (λ r. r) type_kinds 1 _ (λ a b c. Some (0, type.Simple simple.Boolean)) c.in-1.is refl refl refl

pub returns-in-2 : goal.returns-in-2
unfolding type_at numbered type_kinds decoded type_meaning simple_meaning uses
returns-in-2 c = known_arm _ _ _ _ _ _ c.kind_at-kind.ensures c.a_at-a.ensures.0 c.b_at-b.ensures.0 c.c_at-c.ensures.0 unknown_type type_meaning (λ r. r) type_kinds 2 _ (λ a b c. Some (0, type.Simple simple.Number)) c.in-2.is refl refl refl

pub returns-in-3 : goal.returns-in-3
unfolding type_at numbered type_kinds decoded type_meaning simple_meaning uses
returns-in-3 c = known_arm _ _ _ _ _ _ c.kind_at-kind.ensures c.a_at-a.ensures.0 c.b_at-b.ensures.0 c.c_at-c.ensures.0 unknown_type type_meaning (λ r. r) type_kinds 3 _ (λ a b c. Some (0, type.Simple simple.Word)) c.in-3.is refl refl refl

pub returns-in-4 : goal.returns-in-4
unfolding type_at numbered type_kinds decoded type_meaning simple_meaning uses
returns-in-4 c = known_arm _ _ _ _ _ _ c.kind_at-kind.ensures c.a_at-a.ensures.0 c.b_at-b.ensures.0 c.c_at-c.ensures.0 unknown_type type_meaning (λ r. r) type_kinds 4 _ (λ a b c. Some (2, type.List a)) c.in-4.is refl refl refl

pub returns-in-5 : goal.returns-in-5
unfolding type_at numbered type_kinds decoded type_meaning simple_meaning uses
returns-in-5 c = known_arm _ _ _ _ _ _ c.kind_at-kind.ensures c.a_at-a.ensures.0 c.b_at-b.ensures.0 c.c_at-c.ensures.0 unknown_type type_meaning (λ r. r) type_kinds 5 _ (λ a b c. Some (4, type.Record a b)) c.in-5.is refl refl refl

pub returns-in-6 : goal.returns-in-6
unfolding type_at numbered type_kinds decoded type_meaning simple_meaning uses
returns-in-6 c = known_arm _ _ _ _ _ _ c.kind_at-kind.ensures c.a_at-a.ensures.0 c.b_at-b.ensures.0 c.c_at-c.ensures.0 unknown_type type_meaning (λ r. r) type_kinds 6 _ (λ a b c. Some (6, type.Expand a b c)) c.in-6.is refl refl refl

pub returns-in-7 : goal.returns-in-7
unfolding type_at numbered type_kinds decoded type_meaning simple_meaning uses
returns-in-7 c = known_arm _ _ _ _ _ _ c.kind_at-kind.ensures c.a_at-a.ensures.0 c.b_at-b.ensures.0 c.c_at-c.ensures.0 unknown_type type_meaning (λ r. r) type_kinds 7 _ (λ a b c. Some (0, type.Simple simple.Hundredths)) c.in-7.is refl refl refl

pub returns-in_default : goal.returns-in_default
unfolding type_at type_kinds
returns-in_default c = unknown_arm _ _ _ c.kind_at-kind.ensures unknown_type type_meaning (λ r. r) type_kinds refl _ c.in_default.in_default-own.rest
