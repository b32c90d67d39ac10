-- `body::coherence::one_apart` meets its contract: of two records the one with fewer attributes is the narrower. Assumes nothing.
use native.Mathlib.Omega.{arith}
use Rattle.lingua.specs.Body.{record_of}
use Rattle.body.proofs.Places.{record_count}
use Rattle.body.proofs.Making.{held_at}
use Rattle.body.proofs.Tags.{is_record, not_record, held_record}
use Rattle.body.proofs.Lacking.{coherent_first, coherent_second, coherent_wider, coherent_narrower}
use Rattle.body.proofs.coherence.one_apart.Goals as goal

pub returns-then-x-ne-RECORD : goal.returns-then-x-ne-RECORD
returns-then-x-ne-RECORD c = λ b d h k e.
    coherent_first b d e (not_record c.args.x b h c.if-x-ne-RECORD.true)

pub returns-then-y-ne-RECORD : goal.returns-then-y-ne-RECORD
returns-then-y-ne-RECORD c = λ b d h k e.
    let v = is_record c.args.x b h c.if-x-ne-RECORD.false in
    coherent_second b d e v.attributes v.is (not_record c.args.y d k c.if-y-ne-RECORD.true)

pub lacks_one-requires : goal.lacks_one-requires
lacks_one-requires c = held_record c.args.y c.requires.held_2 c.if-y-ne-RECORD.false

pub returns-then-x-y : goal.returns-then-x-y
returns-then-x-y c = λ b d h k e.
    let x = c.args.x in
    let y = c.args.y in
    let v = is_record x b h c.if-x-ne-RECORD.false in
    let w = is_record y d k c.if-y-ne-RECORD.false in
    let m = record_count x 0 v.attributes (held_at x (record_of v.attributes) v.holds) in
    let n = record_count y 0 w.attributes (held_at y (record_of w.attributes) w.holds) in
    coherent_wider b d e v.attributes v.is w.attributes w.is c.lacks_one.result
    (omega (arith, c.if-x-y.true, m, n)) (c.lacks_one.ensures v.attributes w.attributes v.holds w.holds)

pub lacks_one-requires-2 : goal.lacks_one-requires-2
lacks_one-requires-2 c = held_record c.args.x c.requires.held c.if-x-ne-RECORD.false

pub returns : goal.returns
returns c = λ b d h k e.
    let x = c.args.x in
    let y = c.args.y in
    let v = is_record x b h c.if-x-ne-RECORD.false in
    let w = is_record y d k c.if-y-ne-RECORD.false in
    let m = record_count x 0 v.attributes (held_at x (record_of v.attributes) v.holds) in
    let n = record_count y 0 w.attributes (held_at y (record_of w.attributes) w.holds) in
    coherent_narrower b d e v.attributes v.is w.attributes w.is c.lacks_one-2.result
    (omega (arith, c.if-x-y.false, m, n)) (c.lacks_one-2.ensures w.attributes v.attributes w.holds v.holds)
