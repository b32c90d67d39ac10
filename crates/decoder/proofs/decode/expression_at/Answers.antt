-- `expression_at` meets its contract: each arm is what the table has for its kind, and the table has no other kind. Assumes nothing.
use mathlib.Core.Path.{refl}
use mathlib.Core.Bool.{true, false}
use Rattle.lingua.specs.Operations.{unary_meaning, binary_meaning}
use Rattle.lingua.specs.Rows.{unknown_expression, numbered, expression_kinds, expression_at}
use Rattle.lingua.specs.declared.operations.UnaryOperation.TheVariants as unary
use Rattle.lingua.specs.declared.operations.BinaryOperation.TheVariants as binary
use Rattle.decoder.specs.Decoded.{constant_meaning, expression_meaning, decoded, uses, byte, unary_naming, binary_naming, unary_in_bytes, binary_in_bytes, in_bytes}
use Rattle.decoder.specs.declared.decode.Simple.TheVariants as simple
use Rattle.decoder.specs.declared.decode.ExpressionRow.TheVariants as code
use Rattle.std.specs.Prelude.{Some}
use Rattle.decoder.proofs.Decoding.{known_arm, unknown_arm}
use Rattle.decoder.proofs.decode.expression_at.Goals as goal

pub returns-in-1 : goal.returns-in-1
unfolding expression_at numbered expression_kinds decoded expression_meaning constant_meaning uses in_bytes unary_in_bytes binary_in_bytes unary_naming binary_naming unary_meaning binary_meaning
returns-in-1 c = known_arm _ _ _ _ _ _ c.kind_at-kind.ensures c.a_at-a.ensures.0 c.b_at-b.ensures.0 c.c_at-c.ensures.0 unknown_expression (expression_meaning c.args.rows.now c.args.i) in_bytes expression_kinds 1 _ (λ a b c. Some (8, code.Constant simple.Boolean)) c.in-1.is refl refl refl

pub returns-in-2 : goal.returns-in-2
unfolding expression_at numbered expression_kinds decoded expression_meaning constant_meaning uses in_bytes unary_in_bytes binary_in_bytes unary_naming binary_naming unary_meaning binary_meaning
returns-in-2 c = known_arm _ _ _ _ _ _ c.kind_at-kind.ensures c.a_at-a.ensures.0 c.b_at-b.ensures.0 c.c_at-c.ensures.0 unknown_expression (expression_meaning c.args.rows.now c.args.i) in_bytes expression_kinds 2 _ (λ a b c. Some (8, code.Constant simple.Number)) c.in-2.is refl refl refl

pub returns-in-3 : goal.returns-in-3
unfolding expression_at numbered expression_kinds decoded expression_meaning constant_meaning uses in_bytes unary_in_bytes binary_in_bytes unary_naming binary_naming unary_meaning binary_meaning
returns-in-3 c = known_arm _ _ _ _ _ _ c.kind_at-kind.ensures c.a_at-a.ensures.0 c.b_at-b.ensures.0 c.c_at-c.ensures.0 unknown_expression (expression_meaning c.args.rows.now c.args.i) in_bytes expression_kinds 3 _ (λ a b c. Some (8, code.Constant simple.Word)) c.in-3.is refl refl refl

pub returns-in-4 : goal.returns-in-4
unfolding expression_at numbered expression_kinds decoded expression_meaning constant_meaning uses in_bytes unary_in_bytes binary_in_bytes unary_naming binary_naming unary_meaning binary_meaning
returns-in-4 c = known_arm _ _ _ _ _ _ c.kind_at-kind.ensures c.a_at-a.ensures.0 c.b_at-b.ensures.0 c.c_at-c.ensures.0 unknown_expression (expression_meaning c.args.rows.now c.args.i) in_bytes expression_kinds 4 _ (λ a b c. Some (2, code.Variable a)) c.in-4.is refl refl refl

pub returns-in-5 : goal.returns-in-5
unfolding expression_at numbered expression_kinds decoded expression_meaning constant_meaning uses in_bytes unary_in_bytes binary_in_bytes unary_naming binary_naming unary_meaning binary_meaning
returns-in-5 c = known_arm _ _ _ _ _ _ c.kind_at-kind.ensures c.a_at-a.ensures.0 c.b_at-b.ensures.0 c.c_at-c.ensures.0 unknown_expression (expression_meaning c.args.rows.now c.args.i) in_bytes expression_kinds 5 _ (λ a b c. Some (4, code.Binary binary.Add a b)) c.in-5.is refl refl refl

pub returns-in-6 : goal.returns-in-6
unfolding expression_at numbered expression_kinds decoded expression_meaning constant_meaning uses in_bytes unary_in_bytes binary_in_bytes unary_naming binary_naming unary_meaning binary_meaning
returns-in-6 c = known_arm _ _ _ _ _ _ c.kind_at-kind.ensures c.a_at-a.ensures.0 c.b_at-b.ensures.0 c.c_at-c.ensures.0 unknown_expression (expression_meaning c.args.rows.now c.args.i) in_bytes expression_kinds 6 _ (λ a b c. Some (4, code.Binary binary.Subtract a b)) c.in-6.is refl refl refl

pub returns-in-7 : goal.returns-in-7
unfolding expression_at numbered expression_kinds decoded expression_meaning constant_meaning uses in_bytes unary_in_bytes binary_in_bytes unary_naming binary_naming unary_meaning binary_meaning
returns-in-7 c = known_arm _ _ _ _ _ _ c.kind_at-kind.ensures c.a_at-a.ensures.0 c.b_at-b.ensures.0 c.c_at-c.ensures.0 unknown_expression (expression_meaning c.args.rows.now c.args.i) in_bytes expression_kinds 7 _ (λ a b c. Some (4, code.Binary binary.Multiply a b)) c.in-7.is refl refl refl

pub returns-in-8 : goal.returns-in-8
unfolding expression_at numbered expression_kinds decoded expression_meaning constant_meaning uses in_bytes unary_in_bytes binary_in_bytes unary_naming binary_naming unary_meaning binary_meaning
returns-in-8 c = known_arm _ _ _ _ _ _ c.kind_at-kind.ensures c.a_at-a.ensures.0 c.b_at-b.ensures.0 c.c_at-c.ensures.0 unknown_expression (expression_meaning c.args.rows.now c.args.i) in_bytes expression_kinds 8 _ (λ a b c. Some (4, code.Binary binary.Divide a b)) c.in-8.is refl refl refl

pub returns-in-9 : goal.returns-in-9
unfolding expression_at numbered expression_kinds decoded expression_meaning constant_meaning uses in_bytes unary_in_bytes binary_in_bytes unary_naming binary_naming unary_meaning binary_meaning
returns-in-9 c = known_arm _ _ _ _ _ _ c.kind_at-kind.ensures c.a_at-a.ensures.0 c.b_at-b.ensures.0 c.c_at-c.ensures.0 unknown_expression (expression_meaning c.args.rows.now c.args.i) in_bytes expression_kinds 9 _ (λ a b c. Some (4, code.Binary binary.Less a b)) c.in-9.is refl refl refl

pub returns-in-10 : goal.returns-in-10
unfolding expression_at numbered expression_kinds decoded expression_meaning constant_meaning uses in_bytes unary_in_bytes binary_in_bytes unary_naming binary_naming unary_meaning binary_meaning
returns-in-10 c = known_arm _ _ _ _ _ _ c.kind_at-kind.ensures c.a_at-a.ensures.0 c.b_at-b.ensures.0 c.c_at-c.ensures.0 unknown_expression (expression_meaning c.args.rows.now c.args.i) in_bytes expression_kinds 10 _ (λ a b c. Some (4, code.Binary binary.Equal a b)) c.in-10.is refl refl refl

pub returns-in-11 : goal.returns-in-11
unfolding expression_at numbered expression_kinds decoded expression_meaning constant_meaning uses in_bytes unary_in_bytes binary_in_bytes unary_naming binary_naming unary_meaning binary_meaning
returns-in-11 c = known_arm _ _ _ _ _ _ c.kind_at-kind.ensures c.a_at-a.ensures.0 c.b_at-b.ensures.0 c.c_at-c.ensures.0 unknown_expression (expression_meaning c.args.rows.now c.args.i) in_bytes expression_kinds 11 _ (λ a b c. Some (4, code.Lazy false a b)) c.in-11.is refl refl refl

pub returns-in-12 : goal.returns-in-12
unfolding expression_at numbered expression_kinds decoded expression_meaning constant_meaning uses in_bytes unary_in_bytes binary_in_bytes unary_naming binary_naming unary_meaning binary_meaning
returns-in-12 c = known_arm _ _ _ _ _ _ c.kind_at-kind.ensures c.a_at-a.ensures.0 c.b_at-b.ensures.0 c.c_at-c.ensures.0 unknown_expression (expression_meaning c.args.rows.now c.args.i) in_bytes expression_kinds 12 _ (λ a b c. Some (4, code.Lazy true a b)) c.in-12.is refl refl refl

pub returns-in-13 : goal.returns-in-13
unfolding expression_at numbered expression_kinds decoded expression_meaning constant_meaning uses in_bytes unary_in_bytes binary_in_bytes unary_naming binary_naming unary_meaning binary_meaning
returns-in-13 c = known_arm _ _ _ _ _ _ c.kind_at-kind.ensures c.a_at-a.ensures.0 c.b_at-b.ensures.0 c.c_at-c.ensures.0 unknown_expression (expression_meaning c.args.rows.now c.args.i) in_bytes expression_kinds 13 _ (λ a b c. Some (4, code.Binary binary.Glue a b)) c.in-13.is refl refl refl

pub returns-in-14 : goal.returns-in-14
unfolding expression_at numbered expression_kinds decoded expression_meaning constant_meaning uses in_bytes unary_in_bytes binary_in_bytes unary_naming binary_naming unary_meaning binary_meaning
returns-in-14 c = known_arm _ _ _ _ _ _ c.kind_at-kind.ensures c.a_at-a.ensures.0 c.b_at-b.ensures.0 c.c_at-c.ensures.0 unknown_expression (expression_meaning c.args.rows.now c.args.i) in_bytes expression_kinds 14 _ (λ a b c. Some (2, code.Unary unary.Negation a)) c.in-14.is refl refl refl

pub returns-in-15 : goal.returns-in-15
unfolding expression_at numbered expression_kinds decoded expression_meaning constant_meaning uses in_bytes unary_in_bytes binary_in_bytes unary_naming binary_naming unary_meaning binary_meaning
returns-in-15 c = known_arm _ _ _ _ _ _ c.kind_at-kind.ensures c.a_at-a.ensures.0 c.b_at-b.ensures.0 c.c_at-c.ensures.0 unknown_expression (expression_meaning c.args.rows.now c.args.i) in_bytes expression_kinds 15 _ (λ a b c. Some (6, code.Choice a b c)) c.in-15.is refl refl refl

pub returns-in-16 : goal.returns-in-16
unfolding expression_at numbered expression_kinds decoded expression_meaning constant_meaning uses in_bytes unary_in_bytes binary_in_bytes unary_naming binary_naming unary_meaning binary_meaning
returns-in-16 c = rw c.byte.ensures (known_arm _ _ _ _ _ _ c.kind_at-kind.ensures c.a_at-a.ensures.0 c.b_at-b.ensures.0 c.c_at-c.ensures.0 unknown_expression (expression_meaning c.args.rows.now c.args.i) in_bytes expression_kinds 16 _ (λ a b c. Some (4, code.Unary (unary.MakeRecord (byte a)) b)) c.in-16.is refl refl refl)

pub returns-in-17 : goal.returns-in-17
unfolding expression_at numbered expression_kinds decoded expression_meaning constant_meaning uses in_bytes unary_in_bytes binary_in_bytes unary_naming binary_naming unary_meaning binary_meaning
returns-in-17 c = rw c.byte-in-17.ensures (known_arm _ _ _ _ _ _ c.kind_at-kind.ensures c.a_at-a.ensures.0 c.b_at-b.ensures.0 c.c_at-c.ensures.0 unknown_expression (expression_meaning c.args.rows.now c.args.i) in_bytes expression_kinds 17 _ (λ a b c. Some (6, code.Binary (binary.Expand (byte b)) a c)) c.in-17.is refl refl refl)

pub returns-in-18 : goal.returns-in-18
unfolding expression_at numbered expression_kinds decoded expression_meaning constant_meaning uses in_bytes unary_in_bytes binary_in_bytes unary_naming binary_naming unary_meaning binary_meaning
returns-in-18 c = rw c.byte-in-18.ensures (known_arm _ _ _ _ _ _ c.kind_at-kind.ensures c.a_at-a.ensures.0 c.b_at-b.ensures.0 c.c_at-c.ensures.0 unknown_expression (expression_meaning c.args.rows.now c.args.i) in_bytes expression_kinds 18 _ (λ a b c. Some (4, code.Unary (unary.Select (byte b)) a)) c.in-18.is refl refl refl)

pub returns-in-19 : goal.returns-in-19
unfolding expression_at numbered expression_kinds decoded expression_meaning constant_meaning uses in_bytes unary_in_bytes binary_in_bytes unary_naming binary_naming unary_meaning binary_meaning
returns-in-19 c = rw c.byte-in-19.ensures (known_arm _ _ _ _ _ _ c.kind_at-kind.ensures c.a_at-a.ensures.0 c.b_at-b.ensures.0 c.c_at-c.ensures.0 unknown_expression (expression_meaning c.args.rows.now c.args.i) in_bytes expression_kinds 19 _ (λ a b c. Some (6, code.Binary (binary.Change (byte b)) a c)) c.in-19.is refl refl refl)

pub returns-in-20 : goal.returns-in-20
unfolding expression_at numbered expression_kinds decoded expression_meaning constant_meaning uses in_bytes unary_in_bytes binary_in_bytes unary_naming binary_naming unary_meaning binary_meaning
returns-in-20 c = known_arm _ _ _ _ _ _ c.kind_at-kind.ensures c.a_at-a.ensures.0 c.b_at-b.ensures.0 c.c_at-c.ensures.0 unknown_expression (expression_meaning c.args.rows.now c.args.i) in_bytes expression_kinds 20 _ (λ a b c. Some (2, code.Unary unary.MakeList a)) c.in-20.is refl refl refl

pub returns-in-21 : goal.returns-in-21
unfolding expression_at numbered expression_kinds decoded expression_meaning constant_meaning uses in_bytes unary_in_bytes binary_in_bytes unary_naming binary_naming unary_meaning binary_meaning
returns-in-21 c = known_arm _ _ _ _ _ _ c.kind_at-kind.ensures c.a_at-a.ensures.0 c.b_at-b.ensures.0 c.c_at-c.ensures.0 unknown_expression (expression_meaning c.args.rows.now c.args.i) in_bytes expression_kinds 21 _ (λ a b c. Some (4, code.Binary binary.Push a b)) c.in-21.is refl refl refl

pub returns-in-22 : goal.returns-in-22
unfolding expression_at numbered expression_kinds decoded expression_meaning constant_meaning uses in_bytes unary_in_bytes binary_in_bytes unary_naming binary_naming unary_meaning binary_meaning
returns-in-22 c = known_arm _ _ _ _ _ _ c.kind_at-kind.ensures c.a_at-a.ensures.0 c.b_at-b.ensures.0 c.c_at-c.ensures.0 unknown_expression (expression_meaning c.args.rows.now c.args.i) in_bytes expression_kinds 22 _ (λ a b c. Some (2, code.Unary unary.Top a)) c.in-22.is refl refl refl

pub returns-in-23 : goal.returns-in-23
unfolding expression_at numbered expression_kinds decoded expression_meaning constant_meaning uses in_bytes unary_in_bytes binary_in_bytes unary_naming binary_naming unary_meaning binary_meaning
returns-in-23 c = known_arm _ _ _ _ _ _ c.kind_at-kind.ensures c.a_at-a.ensures.0 c.b_at-b.ensures.0 c.c_at-c.ensures.0 unknown_expression (expression_meaning c.args.rows.now c.args.i) in_bytes expression_kinds 23 _ (λ a b c. Some (2, code.Unary unary.Pop a)) c.in-23.is refl refl refl

pub returns-in-24 : goal.returns-in-24
unfolding expression_at numbered expression_kinds decoded expression_meaning constant_meaning uses in_bytes unary_in_bytes binary_in_bytes unary_naming binary_naming unary_meaning binary_meaning
returns-in-24 c = known_arm _ _ _ _ _ _ c.kind_at-kind.ensures c.a_at-a.ensures.0 c.b_at-b.ensures.0 c.c_at-c.ensures.0 unknown_expression (expression_meaning c.args.rows.now c.args.i) in_bytes expression_kinds 24 _ (λ a b c. Some (0, code.Current)) c.in-24.is refl refl refl

pub returns-in-25 : goal.returns-in-25
unfolding expression_at numbered expression_kinds decoded expression_meaning constant_meaning uses in_bytes unary_in_bytes binary_in_bytes unary_naming binary_naming unary_meaning binary_meaning
returns-in-25 c = known_arm _ _ _ _ _ _ c.kind_at-kind.ensures c.a_at-a.ensures.0 c.b_at-b.ensures.0 c.c_at-c.ensures.0 unknown_expression (expression_meaning c.args.rows.now c.args.i) in_bytes expression_kinds 25 _ (λ a b c. Some (2, code.AllList a)) c.in-25.is refl refl refl

pub returns-in-26 : goal.returns-in-26
unfolding expression_at numbered expression_kinds decoded expression_meaning constant_meaning uses in_bytes unary_in_bytes binary_in_bytes unary_naming binary_naming unary_meaning binary_meaning
returns-in-26 c = rw c.byte-in-26.ensures (known_arm _ _ _ _ _ _ c.kind_at-kind.ensures c.a_at-a.ensures.0 c.b_at-b.ensures.0 c.c_at-c.ensures.0 unknown_expression (expression_meaning c.args.rows.now c.args.i) in_bytes expression_kinds 26 _ (λ a b c. Some (4, code.Unary (unary.Remove (byte b)) a)) c.in-26.is refl refl refl)

pub returns-in-27 : goal.returns-in-27
unfolding expression_at numbered expression_kinds decoded expression_meaning constant_meaning uses in_bytes unary_in_bytes binary_in_bytes unary_naming binary_naming unary_meaning binary_meaning
returns-in-27 c = known_arm _ _ _ _ _ _ c.kind_at-kind.ensures c.a_at-a.ensures.0 c.b_at-b.ensures.0 c.c_at-c.ensures.0 unknown_expression (expression_meaning c.args.rows.now c.args.i) in_bytes expression_kinds 27 _ (λ a b c. Some (8, code.Constant simple.Hundredths)) c.in-27.is refl refl refl

pub returns-in-28 : goal.returns-in-28
unfolding expression_at numbered expression_kinds decoded expression_meaning constant_meaning uses in_bytes unary_in_bytes binary_in_bytes unary_naming binary_naming unary_meaning binary_meaning
returns-in-28 c = known_arm _ _ _ _ _ _ c.kind_at-kind.ensures c.a_at-a.ensures.0 c.b_at-b.ensures.0 c.c_at-c.ensures.0 unknown_expression (expression_meaning c.args.rows.now c.args.i) in_bytes expression_kinds 28 _ (λ a b c. Some (2, code.Unary unary.ToHundredths a)) c.in-28.is refl refl refl

pub returns-in-29 : goal.returns-in-29
unfolding expression_at numbered expression_kinds decoded expression_meaning constant_meaning uses in_bytes unary_in_bytes binary_in_bytes unary_naming binary_naming unary_meaning binary_meaning
returns-in-29 c = known_arm _ _ _ _ _ _ c.kind_at-kind.ensures c.a_at-a.ensures.0 c.b_at-b.ensures.0 c.c_at-c.ensures.0 unknown_expression (expression_meaning c.args.rows.now c.args.i) in_bytes expression_kinds 29 _ (λ a b c. Some (2, code.Unary unary.ToNumber a)) c.in-29.is refl refl refl

pub returns-in_default : goal.returns-in_default
unfolding expression_at expression_kinds in_bytes
returns-in_default c = unknown_arm _ _ _ c.kind_at-kind.ensures unknown_expression (expression_meaning c.args.rows.now c.args.i) in_bytes expression_kinds refl _ c.in_default.in_default-own.rest
