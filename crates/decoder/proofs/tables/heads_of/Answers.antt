use mathlib.Core.Path.{refl}
use Prim.Native.Nat.{suc}
use native.Mathlib.Omega.{arith}
use lib.ListN.{get_or, length-set}
use Rattle.lingua.specs.Numbers.{header_table}
use Rattle.decoder.specs.Headers.{start_within}
use Rattle.decoder.proofs.Counting.{heads_first, head_next, heads_more}
use Rattle.decoder.proofs.tables.heads_of.Goals as goal

pub loop-k-init : goal.loop-k-init
loop-k-init c = (refl, heads_first c.args.rows.now c.args.first c.requires.first_value)

pub overflow_add-heads-in-loop-k : goal.overflow_add-heads-in-loop-k
overflow_add-heads-in-loop-k c = omega (arith, head_next c.args.rows.now c.args.counts.now c.loop-k.k (get_or c.loop-k.heads c.loop-k.k 0) (omega arith) c.requires.by_index (c.loop-k.invariant.1 c.loop-k.k (omega arith)), start_within c.args.rows.now (header_table (suc c.loop-k.k)))

pub overflow_add-heads-in-loop-k-3 : goal.overflow_add-heads-in-loop-k-3
overflow_add-heads-in-loop-k-3 c = omega (arith, head_next c.args.rows.now c.args.counts.now c.loop-k.k (get_or c.loop-k.heads c.loop-k.k 0) (omega arith) c.requires.by_index (c.loop-k.invariant.1 c.loop-k.k (omega arith)), start_within c.args.rows.now (header_table (suc c.loop-k.k)))

pub loop-k-preserved : goal.loop-k-preserved
loop-k-preserved c = (simp length-set (omega arith), heads_more c.args.rows.now c.loop-k.heads c.loop-k.k _ c.loop-k.invariant.0 (omega arith) c.loop-k.invariant.1 (head_next c.args.rows.now c.args.counts.now c.loop-k.k (get_or c.loop-k.heads c.loop-k.k 0) (omega arith) c.requires.by_index (c.loop-k.invariant.1 c.loop-k.k (omega arith))))

pub returns : goal.returns
returns c = λ j l. c.loop-k.invariant.1 j (omega arith)
