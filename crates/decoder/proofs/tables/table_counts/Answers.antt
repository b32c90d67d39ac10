use mathlib.Core.Path.{refl, ap₂, ◌∙◌, sym}
use Prim.Native.Nat.{ℕ, ◌+◌, min}
use native.Mathlib.Omega.{arith}
use lib.Dec.{eqb}
use lib.ListN.{length-set}
use Rattle.lingua.specs.Rows.{row_count, count_below, begins_procedure, table_at}
use Rattle.laws.specs.Tables.{count_at_most}
use Rattle.decoder.proofs.Counting.{bit_small, count_more, counted_more, counted_none, counted_all}
use Rattle.decoder.proofs.tables.table_counts.Goals as goal

pub loop-i-init : goal.loop-i-init
unfolding count_below
loop-i-init c = (refl, refl, counted_none (λ (k : ℕ) (j : ℕ). eqb (min (table_at c.args.rows.now j) 23) k))

pub overflow_add-counts : goal.overflow_add-counts
overflow_add-counts c = omega (arith, c.loop-i.invariant.2 c.slot-s.result (omega arith), count_at_most c.loop-i.i (λ j. eqb (min (table_at c.args.rows.now j) 23) c.slot-s.result))

pub overflow_add-begun : goal.overflow_add-begun
overflow_add-begun c = omega (arith, c.begins-more.ensures, bit_small (begins_procedure c.args.rows.now c.loop-i.i), c.loop-i.invariant.1, count_at_most c.loop-i.i (λ j. begins_procedure c.args.rows.now j))

pub loop-i-preserved : goal.loop-i-preserved
loop-i-preserved c = (simp length-set (omega arith), ap₂ (λ (m : ℕ) (n : ℕ). m + n) c.loop-i.invariant.1 c.begins-more.ensures ∙ sym (count_more c.loop-i.i (λ j. begins_procedure c.args.rows.now j)), counted_more c.loop-i.counts (λ j. min (table_at c.args.rows.now j) 23) c.loop-i.i c.slot-s.result c.loop-i.invariant.0 c.slot-s.ensures (omega arith) c.loop-i.invariant.2)

pub returns : goal.returns
unfolding row_count
returns c = counted_all c.args.rows.now c.loop-i.counts c.loop-i.i c.loop-i.begun (omega arith) c.loop-i.invariant.1 c.loop-i.invariant.2
