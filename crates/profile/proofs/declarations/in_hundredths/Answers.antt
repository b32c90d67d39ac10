-- `in_hundredths` meets its contract: a type row of one kind alone makes hundredths. Assumes nothing.
use mathlib.Core.Path.{◌≡◌, ap, ◌∙◌}
use lib.ListN.{length}
use native.Mathlib.Omega.{arith}
use Rattle.profile.specs.Hundredths.{hundredths_row}
use Rattle.lingua.specs.Numbers.{declaration_section, type_section}
use Rattle.lingua.specs.Rows.{type_at, type_row}
use Rattle.decoder.specs.Decoded.{decoded}
use Rattle.profile.specs.Variables.{own_scope}
use Rattle.decoder.proofs.Decoding.{place, row_decoded}
use Rattle.profile.proofs.Declaring.{pairs, type_below, says_declared}
use Rattle.profile.proofs.declarations.in_hundredths.Goals as goal

pub declared_type-r-requires-clause-has_scope : goal.declared_type-r-requires-clause-has_scope
declared_type-r-requires-clause-has_scope c = (own_scope c.declarations-t.ensures)

pub declared_type-r-requires-clause-d_bound : goal.declared_type-r-requires-clause-d_bound
declared_type-r-requires-clause-d_bound c = (omega (arith, pairs c.args.rows.now declaration_section c.declarations-t.result c.declarations-t.ensures, c.requires.d_bound))

pub overflow_add-types : goal.overflow_add-types
overflow_add-types c = omega (arith, (let e : length c.bytes.result.now ≡ length c.args.rows.now = ap length c.bytes.ensures in e), c.types-types.ensures.within, type_below c.args.rows.now c.requires.accepted_rows c.declarations-t.result c.types-types.result c.declarations-t.ensures c.types-types.ensures c.args.d (omega (arith, pairs c.args.rows.now declaration_section c.declarations-t.result c.declarations-t.ensures, c.requires.d_bound)) c.declared_type-r.result c.declared_type-r.ensures)

pub type_at-requires : goal.type_at-requires
type_at-requires c = omega (arith, (let e : length c.bytes.result.now ≡ length c.args.rows.now = ap length c.bytes.ensures in e), c.types-types.ensures.within, type_below c.args.rows.now c.requires.accepted_rows c.declarations-t.result c.types-types.result c.declarations-t.ensures c.types-types.ensures c.args.d (omega (arith, pairs c.args.rows.now declaration_section c.declarations-t.result c.declarations-t.ensures, c.requires.d_bound)) c.declared_type-r.result c.declared_type-r.ensures)

pub returns-in-Some : goal.returns-in-Some
unfolding decoded type_row
returns-in-Some c = says_declared c.args.rows.now c.requires.accepted_rows c.declarations-t.result c.types-types.result c.declarations-t.ensures c.types-types.ensures c.args.d (omega (arith, pairs c.args.rows.now declaration_section c.declarations-t.result c.declarations-t.ensures, c.requires.d_bound)) c.declared_type-r.result c.declared_type-r.ensures _ (c.makes_hundredths.ensures ∙ ap hundredths_row (row_decoded (type_at c.args.rows.now) (place c.args.rows.now type_section c.types-types.result c.declared_type-r.result c.types-types.ensures) (rw c.bytes.ensures at c.in-Some.ensures)))

pub returns-in-None : goal.returns-in-None
unfolding decoded type_row hundredths_row
returns-in-None c = says_declared c.args.rows.now c.requires.accepted_rows c.declarations-t.result c.types-types.result c.declarations-t.ensures c.types-types.ensures c.args.d (omega (arith, pairs c.args.rows.now declaration_section c.declarations-t.result c.declarations-t.ensures, c.requires.d_bound)) c.declared_type-r.result c.declared_type-r.ensures _ (ap hundredths_row (row_decoded (type_at c.args.rows.now) (place c.args.rows.now type_section c.types-types.result c.declared_type-r.result c.types-types.ensures) (rw c.bytes.ensures at c.in-None.ensures)))
