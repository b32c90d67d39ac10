-- `made_body` meets its contract: each row is what the operation that makes such a value gives. Assumes nothing.
use mathlib.Core.Path.{ap}
use native.Mathlib.Omega.{arith}
use Rattle.std.specs.Prelude.{Ok}
use Rattle.lingua.specs.Operation.{expand}
use Rattle.body.specs.Typed.{binary_offset}
use Rattle.decoder.specs.Decoded.{type_meaning}
use Rattle.rules.specs.Types.{body_at}
use Rattle.rules.proofs.TypeRows.{part_list, part_record, parts_expand, attribute_record, attribute_expand, held_is, answers_simple, answers_list, answers_record, answers_expand}
use Rattle.rules.proofs.types.made_body.Goals as goal

pub taken-requires : goal.taken-requires
unfolding type_meaning
taken-requires c = (part_list (type_meaning c.args.row) c.in-List.a (ap type_meaning c.in-List.is) c.requires.every).within

pub make_list-requires : goal.make_list-requires
unfolding type_meaning body_at
make_list-requires c = held_is c.args.bodies.now c.taken.result c.in-List.a c.taken.ensures (part_list (type_meaning c.args.row) c.in-List.a (ap type_meaning c.in-List.is) c.requires.every)

pub overflow_cast-n : goal.overflow_cast-n
unfolding type_meaning
overflow_cast-n c = omega (arith, attribute_record (type_meaning c.args.row) c.in-Record.n c.in-Record.a (ap type_meaning c.in-Record.is) c.requires.row_value)

pub taken-requires-in-Record : goal.taken-requires-in-Record
unfolding type_meaning
taken-requires-in-Record c = (part_record (type_meaning c.args.row) c.in-Record.n c.in-Record.a (ap type_meaning c.in-Record.is) c.requires.every).within

pub make_record-requires : goal.make_record-requires
unfolding type_meaning body_at
make_record-requires c = held_is c.args.bodies.now c.taken-in-Record.result c.in-Record.a c.taken-in-Record.ensures (part_record (type_meaning c.args.row) c.in-Record.n c.in-Record.a (ap type_meaning c.in-Record.is) c.requires.every)

pub overflow_cast-n-in-Expand : goal.overflow_cast-n-in-Expand
unfolding type_meaning
overflow_cast-n-in-Expand c = omega (arith, attribute_expand (type_meaning c.args.row) c.in-Expand.a c.in-Expand.n c.in-Expand.b (ap type_meaning c.in-Expand.is) c.requires.row_value)

pub taken-requires-in-Expand : goal.taken-requires-in-Expand
unfolding type_meaning
taken-requires-in-Expand c = (parts_expand (type_meaning c.args.row) c.in-Expand.a c.in-Expand.n c.in-Expand.b (ap type_meaning c.in-Expand.is) c.requires.every).0.within

pub taken-requires-in-Expand-2 : goal.taken-requires-in-Expand-2
unfolding type_meaning
taken-requires-in-Expand-2 c = (parts_expand (type_meaning c.args.row) c.in-Expand.a c.in-Expand.n c.in-Expand.b (ap type_meaning c.in-Expand.is) c.requires.every).1.within

pub expand-requires-clause-held : goal.expand-requires-clause-held
unfolding type_meaning body_at
expand-requires-clause-held c = (held_is c.args.bodies.now c.taken-in-Expand.result c.in-Expand.a c.taken-in-Expand.ensures (parts_expand (type_meaning c.args.row) c.in-Expand.a c.in-Expand.n c.in-Expand.b (ap type_meaning c.in-Expand.is) c.requires.every).0)

pub expand-requires-clause-held_2 : goal.expand-requires-clause-held_2
unfolding type_meaning body_at
expand-requires-clause-held_2 c = (held_is c.args.bodies.now c.taken-in-Expand-2.result c.in-Expand.b c.taken-in-Expand-2.ensures (parts_expand (type_meaning c.args.row) c.in-Expand.a c.in-Expand.n c.in-Expand.b (ap type_meaning c.in-Expand.is) c.requires.every).1)

pub returns-in-Simple : goal.returns-in-Simple
unfolding type_meaning
returns-in-Simple c = λ look h. answers_simple (Ok c.simple_body.result) (type_meaning c.args.row) look _ (ap type_meaning c.in-Simple.is) c.simple_body.ensures

pub returns-in-List : goal.returns-in-List
unfolding type_meaning body_at
returns-in-List c = λ look h. answers_list c.make_list.result (type_meaning c.args.row) look c.args.bodies.now h c.in-List.a c.taken.result (ap type_meaning c.in-List.is) c.taken.ensures c.make_list.ensures

pub returns-in-Record : goal.returns-in-Record
unfolding type_meaning body_at
returns-in-Record c = λ look h. answers_record c.make_record.result (type_meaning c.args.row) look c.args.bodies.now h c.in-Record.n c.in-Record.a c.taken-in-Record.result (ap type_meaning c.in-Record.is) c.taken-in-Record.ensures c.make_record.ensures

pub returns-in-Expand : goal.returns-in-Expand
unfolding type_meaning body_at
returns-in-Expand c = λ look h. answers_expand c.expand.result (type_meaning c.args.row) look c.args.bodies.now h c.in-Expand.a c.in-Expand.n c.in-Expand.b c.taken-in-Expand.result c.taken-in-Expand-2.result (λ d f. binary_offset (expand c.in-Expand.n) d f) (ap type_meaning c.in-Expand.is) c.taken-in-Expand.ensures c.taken-in-Expand-2.ensures c.expand.ensures
