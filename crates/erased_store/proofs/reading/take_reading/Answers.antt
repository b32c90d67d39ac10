-- `take_reading` meets its contract: the number lies on the stack as a value of its variable's body. Assumes nothing.
use mathlib.Core.Path.{refl}
use native.Mathlib.Omega.{arith}
use mir.ValLaws.{to_z-of_z}
use Rattle.run.proofs.Readings.{out_of_range, taken_is}
use Rattle.run.proofs.Settling.{keeps, settles_as}
use Rattle.erased_store.proofs.Instructions.{own_there, counts_as, reading_lies}
use Rattle.erased_store.proofs.reading.take_reading.Goals as goal

pub returns-then-not-in_range-clause-settles : goal.returns-then-not-in_range-clause-settles
returns-then-not-in_range-clause-settles c = λ p vs w. keeps 1 (λ e. omega arith) (out_of_range vs c.args.n c.args.z _ (counts_as w c.args.n refl c.requires.n_bound.0 _ c.in_hundredths-hundredths.ensures) _ (simp (to_z-of_z _ _ c.ranges.z) at c.in_range.ensures) c.if-not-in_range.true)

pub store-requires-clause-storable : goal.store-requires-clause-storable
store-requires-clause-storable c = let r = c.requires.has_running in (record { profile = r.profile; scope = r.scope; store = r.store; running = r.running; there = own_there r.running r.of_scope c.requires.n_bound.0; composite = _; is = (reading_lies r.running c.args.n r.of_scope c.requires.n_bound.0 _ c.in_hundredths-hundredths.ensures c.requires.n_bound.1 c.args.stack.now c.args.z _ _ (to_z-of_z _ _ c.ranges.z) (simp (to_z-of_z _ _ c.ranges.z) at c.in_range.ensures) c.if-not-in_range.false (omega (arith, c.requires.count_in_bounds))) })

pub returns-clause-settles : goal.returns-clause-settles
returns-clause-settles c = λ p vs w. settles_as (taken_is vs c.args.n c.args.z _ (counts_as w c.args.n refl c.requires.n_bound.0 _ c.in_hundredths-hundredths.ensures) _ (simp (to_z-of_z _ _ c.ranges.z) at c.in_range.ensures) c.if-not-in_range.false) (c.store.ensures.settles p 0 vs _ w (own_there w refl c.requires.n_bound.0) (reading_lies w c.args.n refl c.requires.n_bound.0 _ c.in_hundredths-hundredths.ensures c.requires.n_bound.1 c.args.stack.now c.args.z _ _ (to_z-of_z _ _ c.ranges.z) (simp (to_z-of_z _ _ c.ranges.z) at c.in_range.ensures) c.if-not-in_range.false (omega (arith, c.requires.count_in_bounds))))
