-- `gather` meets its contract. The loop's invariant: the areas of the blocks passed, then what was there. Assumes nothing.
use Rattle.std.proofs.Common.{◌≡◌, ◌*◌, ◌++◌, length, drop}
use Rattle.lingua.specs.Numbers.{area_bytes}
use Rattle.lingua.specs.Format.{areas_from}
use Rattle.blocks.proofs.rows.gather.Given as goal

abbrev pub invariant-loop-k : goal.invariant-loop-k
invariant-loop-k l = (length l.areas ≡ length l.initial.areas) × (l.areas ≡ areas_from 0 l.k l.file ++ drop (area_bytes * l.k) l.initial.areas)
