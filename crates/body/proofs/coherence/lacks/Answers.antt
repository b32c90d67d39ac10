-- `body::coherence::lacks` meets its contract: the attribute is found, and what is left without it is compared. Assumes nothing.
use Rattle.lingua.specs.Body.{record_of, attributes_of, remove_attribute, same_body}
use Rattle.body.proofs.Selecting.{found_there, placed, some_found}
use Rattle.body.proofs.coherence.lacks.Goals as goal

pub unwrap-f-requires : goal.unwrap-f-requires
unwrap-f-requires c =
    let p = c.requires in
    found_there _ _ _ c.find.result (c.find.ensures p.attributes p.holds) p.there

pub cut-rest-requires : goal.cut-rest-requires
cut-rest-requires c =
    let p = c.requires in
    some_found _ _ _ _ p.holds (rw c.unwrap-f.ensures at (c.find.ensures p.attributes p.holds))

pub returns : goal.returns
unfolding same_body attributes_of
returns c = λ fs gs h k.
    c.same.ensures (record_of fs) (record_of (remove_attribute c.args.n gs)) h
    (c.cut-rest.ensures c.args.n gs k (placed _ _ _ _ k (rw c.unwrap-f.ensures at (c.find.ensures gs k))))
