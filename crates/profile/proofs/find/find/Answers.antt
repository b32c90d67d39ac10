use mathlib.Core.Path.{◌≡◌, sym, ap, ◌∙◌}
use mathlib.Core.Option.{none}
use Prim.Native.Nat.{ℕ, ◌/◌}
use Rattle.lingua.specs.Lookup.{lookup}
use native.Mathlib.Omega.{arith}
use Rattle.lingua.specs.Numbers.{declaration_section}
use Rattle.laws.specs.Lookup.{left_begins, left_found, left_passed, left_none}
use Rattle.profile.specs.Find.{found_meaning}
use Rattle.profile.proofs.Declaring.{pairs, same_name}
use Rattle.profile.proofs.find.find.Goals as goal

pub loop-d-init : goal.loop-d-init
loop-d-init c = left_begins c.args.rows.now c.args.name.now (c.declarations-t.result.count / 2) (pairs c.args.rows.now declaration_section c.declarations-t.result c.declarations-t.ensures)

pub same_bytes-requires : goal.same_bytes-requires
same_bytes-requires c = c.bytes_at.ensures.1 ∙ sym c.requires

pub returns-then-same_bytes : goal.returns-then-same_bytes
unfolding found_meaning
returns-then-same_bytes c =
    left_found c.args.rows.now c.args.name.now c.loop-d.d (c.declarations-t.result.count / 2) c.loop-d-test.true c.loop-d.invariant
    (sym c.if-same_bytes.true ∙ same_name c.args.rows.now declaration_section c.declarations-t.result c.declarations-t.ensures c.loop-d.d c.args.name.now c.bytes_at.result.now c.same_bytes.result (rw c.bytes-bytes.ensures at c.bytes_at.ensures.0) c.same_bytes.ensures)

pub loop-d-preserved : goal.loop-d-preserved
loop-d-preserved c =
    left_passed c.args.rows.now c.args.name.now c.loop-d.d (c.declarations-t.result.count / 2) c.loop-d-test.true c.loop-d.invariant
    (sym c.if-same_bytes.false ∙ same_name c.args.rows.now declaration_section c.declarations-t.result c.declarations-t.ensures c.loop-d.d c.args.name.now c.bytes_at.result.now c.same_bytes.result (rw c.bytes-bytes.ensures at c.bytes_at.ensures.0) c.same_bytes.ensures)

pub returns : goal.returns
unfolding found_meaning
returns c =
    let e : c.declarations-t.result.count / 2 ≡ c.loop-d.d = omega arith in
    ap (λ (n : ℕ). lookup none n) e ∙ left_none c.args.rows.now c.args.name.now c.loop-d.d (c.declarations-t.result.count / 2) (sym e) c.loop-d.invariant
