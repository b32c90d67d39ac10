-- `instruction_at` meets its contract: each arm is what the table has for its kind, and the table has no other kind. Assumes nothing.
use mathlib.Core.Path.{refl}
use Rattle.lingua.specs.Rows.{unknown_instruction, numbered, instruction_kinds, instruction_at}
use Rattle.decoder.specs.Decoded.{instruction_meaning, decoded, uses}
use Rattle.decoder.specs.declared.decode.InstructionRow.TheVariants as does
use Rattle.std.specs.Prelude.{Some}
use Rattle.decoder.proofs.Decoding.{known_arm, unknown_arm}
use Rattle.decoder.proofs.decode.instruction_at.Goals as goal

pub returns-in-1 : goal.returns-in-1
unfolding instruction_at numbered instruction_kinds decoded instruction_meaning uses
returns-in-1 c = known_arm _ _ _ _ _ _ c.kind_at-kind.ensures c.a_at-a.ensures.0 c.b_at-b.ensures.0 c.c_at-c.ensures.0 unknown_instruction instruction_meaning (λ r. r) instruction_kinds 1 _ (λ a b c. Some (0, does.Skip)) c.in-1.is refl refl refl

pub returns-in-2 : goal.returns-in-2
unfolding instruction_at numbered instruction_kinds decoded instruction_meaning uses
returns-in-2 c = known_arm _ _ _ _ _ _ c.kind_at-kind.ensures c.a_at-a.ensures.0 c.b_at-b.ensures.0 c.c_at-c.ensures.0 unknown_instruction instruction_meaning (λ r. r) instruction_kinds 2 _ (λ a b c. Some (4, does.Assign a b)) c.in-2.is refl refl refl

pub returns-in-3 : goal.returns-in-3
unfolding instruction_at numbered instruction_kinds decoded instruction_meaning uses
returns-in-3 c = known_arm _ _ _ _ _ _ c.kind_at-kind.ensures c.a_at-a.ensures.0 c.b_at-b.ensures.0 c.c_at-c.ensures.0 unknown_instruction instruction_meaning (λ r. r) instruction_kinds 3 _ (λ a b c. Some (4, does.SetYoke a b)) c.in-3.is refl refl refl

pub returns-in-4 : goal.returns-in-4
unfolding instruction_at numbered instruction_kinds decoded instruction_meaning uses
returns-in-4 c = known_arm _ _ _ _ _ _ c.kind_at-kind.ensures c.a_at-a.ensures.0 c.b_at-b.ensures.0 c.c_at-c.ensures.0 unknown_instruction instruction_meaning (λ r. r) instruction_kinds 4 _ (λ a b c. Some (4, does.Sequence a b)) c.in-4.is refl refl refl

pub returns-in-5 : goal.returns-in-5
unfolding instruction_at numbered instruction_kinds decoded instruction_meaning uses
returns-in-5 c = known_arm _ _ _ _ _ _ c.kind_at-kind.ensures c.a_at-a.ensures.0 c.b_at-b.ensures.0 c.c_at-c.ensures.0 unknown_instruction instruction_meaning (λ r. r) instruction_kinds 5 _ (λ a b c. Some (6, does.Branch a b c)) c.in-5.is refl refl refl

pub returns-in-6 : goal.returns-in-6
unfolding instruction_at numbered instruction_kinds decoded instruction_meaning uses
returns-in-6 c = known_arm _ _ _ _ _ _ c.kind_at-kind.ensures c.a_at-a.ensures.0 c.b_at-b.ensures.0 c.c_at-c.ensures.0 unknown_instruction instruction_meaning (λ r. r) instruction_kinds 6 _ (λ a b c. Some (4, does.Loop a b)) c.in-6.is refl refl refl

pub returns-in-7 : goal.returns-in-7
unfolding instruction_at numbered instruction_kinds decoded instruction_meaning uses
returns-in-7 c = known_arm _ _ _ _ _ _ c.kind_at-kind.ensures c.a_at-a.ensures.0 c.b_at-b.ensures.0 c.c_at-c.ensures.0 unknown_instruction instruction_meaning (λ r. r) instruction_kinds 7 _ (λ a b c. Some (4, does.Handle a b)) c.in-7.is refl refl refl

pub returns-in-8 : goal.returns-in-8
unfolding instruction_at numbered instruction_kinds decoded instruction_meaning uses
returns-in-8 c = known_arm _ _ _ _ _ _ c.kind_at-kind.ensures c.a_at-a.ensures.0 c.b_at-b.ensures.0 c.c_at-c.ensures.0 unknown_instruction instruction_meaning (λ r. r) instruction_kinds 8 _ (λ a b c. Some (6, does.Call a b c)) c.in-8.is refl refl refl

pub returns-in_default : goal.returns-in_default
unfolding instruction_at instruction_kinds
returns-in_default c = unknown_arm _ _ _ c.kind_at-kind.ensures unknown_instruction instruction_meaning (λ r. r) instruction_kinds refl _ c.in_default.in_default-own.rest
