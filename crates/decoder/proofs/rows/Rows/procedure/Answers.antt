-- `procedure` meets its contract: the row that begins the procedure lies in the rows. Assumes nothing.
use Rattle.decoder.proofs.Scoped.{head_place, is_procedure}
use Rattle.decoder.proofs.rows.Rows.procedure.Goals as goal

pub a_at-requires : goal.a_at-requires
a_at-requires c = head_place c.self.inside.bytes.now c.self.inside.tables c.args.k c.self.invariant (rw c.self.view_is c.requires.k_lt_count) c.requires.k_lt_most

pub b_at-requires : goal.b_at-requires
b_at-requires c = head_place c.self.inside.bytes.now c.self.inside.tables c.args.k c.self.invariant (rw c.self.view_is c.requires.k_lt_count) c.requires.k_lt_most

pub c_at-requires : goal.c_at-requires
c_at-requires c = head_place c.self.inside.bytes.now c.self.inside.tables c.args.k c.self.invariant (rw c.self.view_is c.requires.k_lt_count) c.requires.k_lt_most

pub returns : goal.returns
returns c =
    rw (← c.self.view_is)
    (is_procedure c.self.inside.bytes.now c.self.inside.tables c.args.k c.self.invariant (rw c.self.view_is c.requires.k_lt_count) c.requires.k_lt_most c.a_at.result c.b_at.result c.c_at.result c.a_at.ensures c.b_at.ensures c.c_at.ensures)
