use native.Mathlib.Omega.{arith}
use Rattle.cells.specs.Word.{Behind}
use Rattle.cells.proofs.Glue.{passed_none, place_positive, no_room, passed_more, passed_all}
use Rattle.cells.proofs.words.moved_behind.Goals as goal

pub loop-rest-init : goal.loop-rest-init
loop-rest-init c = λ cs ds h k e f. passed_none cs ds _ _ h k e f

pub returns-then-moved-ne0 : goal.returns-then-moved-ne0
unfolding Behind
returns-then-moved-ne0 c = λ cs ds h k e f. no_room (c.loop-rest.invariant cs ds h k e f) c.loop-rest-test.true c.if-moved-ne0.true

pub loop-rest-preserved : goal.loop-rest-preserved
loop-rest-preserved c = λ cs ds h k e f. passed_more k (c.loop-rest.invariant cs ds h k e f) c.loop-rest-test.true c.if-moved-ne0.false

pub returns : goal.returns
unfolding Behind
returns c = λ cs ds h k e f. passed_all (c.loop-rest.invariant cs ds h k e f) c.loop-rest-test.false

pub nonzero_rem-rest : goal.nonzero_rem-rest
nonzero_rem-rest c =
    let p = c.requires in
    let q = c.loop-rest.invariant p.word.characters p.word_2.characters p.word.text p.word_2.text p.word.is p.word_2.is in
    place_positive q c.loop-rest-test.true

pub loop-rest-smaller : goal.loop-rest-smaller
loop-rest-smaller c =
    let p = c.requires in
    let q = c.loop-rest.invariant p.word.characters p.word_2.characters p.word.text p.word_2.text p.word.is p.word_2.is in
    omega (arith, place_positive q c.loop-rest-test.true)
