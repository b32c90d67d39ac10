-- `body::make::cut` meets its contract: `cut_spots` says where each part goes, `cut_holds` what they make. Assumes nothing.
use native.Mathlib.Omega.{arith}
use Rattle.body.proofs.Removing.{some_placed, cut_spots, cut_holds}
use Rattle.body.proofs.make.cut.Goals as goal

pub measured-m-requires : goal.measured-m-requires
measured-m-requires c =
    let p = c.requires in
    some_placed c.args.body c.args.at p.number p.attributes p.holds p.placed

pub part-head-requires : goal.part-head-requires
part-head-requires c =
    let p = c.requires in
    omega (arith, cut_spots c.args.body c.args.at p.number p.attributes p.holds p.placed c.measured-m.result c.measured-m.ensures)

pub overflow_sub-head : goal.overflow_sub-head
overflow_sub-head c =
    let p = c.requires in
    omega (arith, cut_spots c.args.body c.args.at p.number p.attributes p.holds p.placed c.measured-m.result c.measured-m.ensures)

pub overflow_sub-behind : goal.overflow_sub-behind
overflow_sub-behind c =
    let p = c.requires in
    omega (arith, cut_spots c.args.body c.args.at p.number p.attributes p.holds p.placed c.measured-m.result c.measured-m.ensures)

pub pasted-requires-clause-n_bound : goal.pasted-requires-clause-n_bound
pasted-requires-clause-n_bound c =
    let p = c.requires in
    omega (arith, cut_spots c.args.body c.args.at p.number p.attributes p.holds p.placed c.measured-m.result c.measured-m.ensures)

pub pasted-requires-clause-n_bound_2 : goal.pasted-requires-clause-n_bound_2
pasted-requires-clause-n_bound_2 c =
    let p = c.requires in
    omega (arith, cut_spots c.args.body c.args.at p.number p.attributes p.holds p.placed c.measured-m.result c.measured-m.ensures)

pub returns : goal.returns
returns c = λ n fs h p.
    cut_holds c.args.body c.args.at n fs h p c.measured-m.result c.measured-m.ensures c.part-head.result c.pasted.result c.part-head.ensures
    c.pasted.ensures
