-- `body::make::insert` meets its contract: `spots` says where each part goes, `inserted` what they make. Assumes nothing.
use native.Mathlib.Omega.{arith}
use Rattle.body.proofs.Inserting.{spots, inserted}
use Rattle.body.proofs.make.insert.Goals as goal

pub overflow_add-head : goal.overflow_add-head
overflow_add-head c =
    let args = c.args in
    let place = c.place-at in
    let measure-body = c.measure_body-whole in
    let pre = c.requires in
    omega (arith, spots args.body args.added args.n place.result measure-body.result c.measure_body-extra.result place.ensures measure-body.ensures c.measure_body-extra.ensures (pre))

pub overflow_sub-at : goal.overflow_sub-at
overflow_sub-at c =
    let args = c.args in
    let place = c.place-at in
    let measure-body = c.measure_body-whole in
    let pre = c.requires in
    omega (arith, spots args.body args.added args.n place.result measure-body.result c.measure_body-extra.result place.ensures measure-body.ensures c.measure_body-extra.ensures (pre))

pub pasted-below-requires-clause-n_bound : goal.pasted-below-requires-clause-n_bound
pasted-below-requires-clause-n_bound c =
    let args = c.args in
    let place = c.place-at in
    let measure-body = c.measure_body-whole in
    let pre = c.requires in
    omega (arith, spots args.body args.added args.n place.result measure-body.result c.measure_body-extra.result place.ensures measure-body.ensures c.measure_body-extra.ensures (pre))

pub pasted-below-requires-clause-n_bound_2 : goal.pasted-below-requires-clause-n_bound_2
pasted-below-requires-clause-n_bound_2 c =
    let args = c.args in
    let place = c.place-at in
    let measure-body = c.measure_body-whole in
    let pre = c.requires in
    omega (arith, spots args.body args.added args.n place.result measure-body.result c.measure_body-extra.result place.ensures measure-body.ensures c.measure_body-extra.ensures (pre))

pub bounds-below-at : goal.bounds-below-at
bounds-below-at c =
    let args = c.args in
    let place = c.place-at in
    let measure-body = c.measure_body-whole in
    let measure-body2 = c.measure_body-extra in
    let pre = c.requires in
    omega (arith, spots args.body args.added args.n place.result measure-body.result measure-body2.result place.ensures measure-body.ensures measure-body2.ensures (pre))

pub overflow_add-at : goal.overflow_add-at
overflow_add-at c =
    let args = c.args in
    let place = c.place-at in
    let measure-body = c.measure_body-whole in
    let measure-body2 = c.measure_body-extra in
    let pre = c.requires in
    omega (arith, spots args.body args.added args.n place.result measure-body.result measure-body2.result place.ensures measure-body.ensures measure-body2.ensures (pre))

pub pasted-both-requires-clause-n_bound : goal.pasted-both-requires-clause-n_bound
pasted-both-requires-clause-n_bound c =
    let args = c.args in
    let place = c.place-at in
    let measure-body = c.measure_body-whole in
    let measure-body2 = c.measure_body-extra in
    let pre = c.requires in
    omega (arith, spots args.body args.added args.n place.result measure-body.result measure-body2.result place.ensures measure-body.ensures measure-body2.ensures (pre))

pub pasted-both-requires-clause-n_bound_2 : goal.pasted-both-requires-clause-n_bound_2
pasted-both-requires-clause-n_bound_2 c =
    let args = c.args in
    let place = c.place-at in
    let measure-body = c.measure_body-whole in
    let measure-body2 = c.measure_body-extra in
    let pre = c.requires in
    omega (arith, spots args.body args.added args.n place.result measure-body.result measure-body2.result place.ensures measure-body.ensures measure-body2.ensures (pre))

pub overflow_add-at-2 : goal.overflow_add-at-2
overflow_add-at-2 c =
    let args = c.args in
    let place = c.place-at in
    let measure-body = c.measure_body-whole in
    let measure-body2 = c.measure_body-extra in
    let pre = c.requires in
    omega (arith, spots args.body args.added args.n place.result measure-body.result measure-body2.result place.ensures measure-body.ensures measure-body2.ensures (pre))

pub overflow_add-at-3 : goal.overflow_add-at-3
overflow_add-at-3 c =
    let args = c.args in
    let place = c.place-at in
    let measure-body = c.measure_body-whole in
    let measure-body2 = c.measure_body-extra in
    let pre = c.requires in
    omega (arith, spots args.body args.added args.n place.result measure-body.result measure-body2.result place.ensures measure-body.ensures measure-body2.ensures (pre))

pub overflow_sub-end : goal.overflow_sub-end
overflow_sub-end c =
    let args = c.args in
    let place = c.place-at in
    let measure-body = c.measure_body-whole in
    let measure-body2 = c.measure_body-extra in
    let pre = c.requires in
    omega (arith, spots args.body args.added args.n place.result measure-body.result measure-body2.result place.ensures measure-body.ensures measure-body2.ensures (pre))

pub pasted-requires-clause-n_bound : goal.pasted-requires-clause-n_bound
pasted-requires-clause-n_bound c =
    let args = c.args in
    let place = c.place-at in
    let measure-body = c.measure_body-whole in
    let measure-body2 = c.measure_body-extra in
    let pre = c.requires in
    omega (arith, spots args.body args.added args.n place.result measure-body.result measure-body2.result place.ensures measure-body.ensures measure-body2.ensures (pre))

pub pasted-requires-clause-n_bound_2 : goal.pasted-requires-clause-n_bound_2
pasted-requires-clause-n_bound_2 c =
    let args = c.args in
    let place = c.place-at in
    let measure-body = c.measure_body-whole in
    let measure-body2 = c.measure_body-extra in
    let pre = c.requires in
    omega (arith, spots args.body args.added args.n place.result measure-body.result measure-body2.result place.ensures measure-body.ensures measure-body2.ensures (pre))

pub returns : goal.returns
returns c = λ fs d h k.
    let args = c.args in
    let place = c.place-at in
    let measure-body = c.measure_body-whole in
    let measure-body2 = c.measure_body-extra in
    let pre = c.requires in
    let pasted = c.pasted-below in
    let pasted2 = c.pasted-both in
    inserted args.body args.added args.n place.result measure-body.result measure-body2.result
    place.ensures measure-body.ensures measure-body2.ensures (pre) fs d h k
    pasted.result pasted2.result c.pasted.result pasted.ensures pasted2.ensures c.pasted.ensures
