-- `row_body` meets its contract: the rows that it names are lower, and their bodies stand in the array. Assumes nothing.
use Rattle.std.proofs.Common.{rules, refl}
use Rattle.std.specs.Prelude.{Ok}
use Rattle.lingua.specs.Encode.{bytes}
use Rattle.body.specs.Typed.{simple_of}
use Rattle.decoder.specs.Decoded.{decoded}
use Rattle.rules.proofs.TypeRows.{row_is, row_attributes, row_parts, row_answers, unknown_answers}
use Rattle.rules.proofs.types.row_body.Goals as goal

pub made_body-requires-clause-row_value : goal.made_body-requires-clause-row_value
unfolding decoded
made_body-requires-clause-row_value c = row_attributes c.requires (row_is c.args.rows.now c.types-t.result c.args.r c.bytes-bytes.ensures c.types-t.ensures c.in-Some.ensures)

pub made_body-requires-clause-every : goal.made_body-requires-clause-every
unfolding decoded
made_body-requires-clause-every c = row_parts c.requires (row_is c.args.rows.now c.types-t.result c.args.r c.bytes-bytes.ensures c.types-t.ensures c.in-Some.ensures)

pub returns-in-Some : goal.returns-in-Some
unfolding decoded
returns-in-Some c = row_answers c.requires (row_is c.args.rows.now c.types-t.result c.args.r c.bytes-bytes.ensures c.types-t.ensures c.in-Some.ensures) c.made_body.result c.made_body.ensures

pub returns-in-None : goal.returns-in-None
unfolding simple_of decoded
returns-in-None c = unknown_answers c.requires (row_is c.args.rows.now c.types-t.result c.args.r c.bytes-bytes.ensures c.types-t.ensures c.in-None.ensures) (Ok c.scalar.result) refl c.scalar.ensures

pub scalar-requires : goal.scalar-requires
unfolding bytes simple_of
scalar-requires c = search rules
