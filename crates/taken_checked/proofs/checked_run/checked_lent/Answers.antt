-- `taken_checked::checked_run::checked_lent` meets its contract: the run on what is lent behind the profile's bodies, which then come to the front.
-- Assumes nothing.
use mathlib.Core.Path.{refl, ap, ◌∙◌}
use Prim.Native.Nat.{◌-◌}
use native.Mathlib.Omega.{arith}
use lib.ListN.{length}
use borrow.Rule.Slice.PartMut.{same_len_mid}
use Rattle.lingua.specs.Calls.{checked_result}
use Rattle.taken.specs.Ways.{LendsBy}
use Rattle.taken.proofs.Calling.{checked_ends, lent_length, front_back}
use Rattle.taken_checked.proofs.checked_run.checked_lent.Goals as goal

pub run_rows-end-requires-clause-lends : goal.run_rows-end-requires-clause-lends
unfolding LendsBy
run_rows-end-requires-clause-lends c = record { by = record { no_layout = refl; held = c.requires.is_known.held; own_zeros = refl; long_area = omega (arith, lent_length c.args.present.now 1536, c.requires.present_len) } }

pub copy_front-requires : goal.copy_front-requires
copy_front-requires c = omega (arith, c.run_rows-end.auto.own, same_len_mid 1536 (length c.args.present.now - 1536) c.args.present.now c.run_rows-end.new.area c.run_rows-end.auto.area, c.requires.present_len)

pub returns-clause-run : goal.returns-clause-run
returns-clause-run c = ap (checked_result _ _) (c.copy_front.ensures ∙ front_back c.run_rows-end.new.own c.run_rows-end.new.area c.args.present.now 1536 (omega (arith, c.requires.present_len)) (omega (arith, c.run_rows-end.auto.own))) ∙ checked_ends _ _ _ _ _ c.run_rows-end.ensures.run (c.run_rows-end.ensures.present refl)
