-- The row of each node of an instruction's tree: what holds of all rows of a tree holds of the row of each node (`rows_everywhere`), and a
-- row's tree has the row at its top (`tree_row`). Assumes nothing.
use Rattle.std.specs.Prelude.{◌≡◌, refl, ℕ}
use mathlib.Core.List.Memᴰ
use mathlib.Core.List.{List, Memᴰ}
use Rattle.lingua.specs.Expression.{Instruction, skip, assign, set_yoke, sequence, branch, loop, handle, call}
use Rattle.lingua.specs.Rows.{InstructionRow, skip_row, assign_row, set_yoke_row, sequence_row, branch_row, loop_row, handle_row, call_row, unknown_instruction, instruction_row}
use Rattle.lingua.specs.Trees.{instruction_of, instruction_in, instruction_tree, instruction_rows}
use Rattle.safety.specs.Everywhere.{Everywhere, at_skip, at_assign, at_set_yoke, at_sequence, at_branch, at_loop, at_handle, at_call}

unfoldable pub node_row : Instruction → ℕ
node_row (skip r) = r
node_row (assign r n e) = r
node_row (set_yoke r n y) = r
node_row (sequence r i j) = r
node_row (branch r e i j) = r
node_row (loop r e i) = r
node_row (handle r n i) = r
node_row (call r k vs rs) = r

of_row : (rows : List ℕ) (r : ℕ) (row : InstructionRow) (look : ℕ → Instruction) → node_row (instruction_of rows r row look) ≡ r
unfolding node_row instruction_of
of_row rows r skip_row look = refl
of_row rows r (assign_row n e) look = refl
of_row rows r (set_yoke_row n y) look = refl
of_row rows r (sequence_row i j) look = refl
of_row rows r (branch_row e i j) look = refl
of_row rows r (loop_row e i) look = refl
of_row rows r (handle_row n i) look = refl
of_row rows r (call_row k b c) look = refl
of_row rows r unknown_instruction look = refl

pub tree_row : (rows : List ℕ) (r : ℕ) → node_row (instruction_tree rows r) ≡ r
unfolding instruction_tree instruction_in
tree_row rows r = of_row rows r (instruction_row rows r) _

-- what holds of a tree's rows holds of the row of each node
pub rows_everywhere : {P : ℕ → Type 0} (i : Instruction) → ((x : ℕ) → Memᴰ x (instruction_rows i) → P x) → Everywhere (λ k. P (node_row k)) i
unfolding node_row instruction_rows
rows_everywhere (skip r) h = at_skip (h r (Memᴰ.head refl))
rows_everywhere (assign r n e) h = at_assign (h r (Memᴰ.head refl))
rows_everywhere (set_yoke r n y) h = at_set_yoke (h r (Memᴰ.head refl))
rows_everywhere (sequence r i j) h =
    at_sequence (h r (Memᴰ.head refl)) (rows_everywhere i (λ x m. h x (Memᴰ.tail (Memᴰ.append_left (instruction_rows j) m))))
    (rows_everywhere j (λ x m. h x (Memᴰ.tail (Memᴰ.append_right (instruction_rows i) m))))
rows_everywhere (branch r e i j) h =
    at_branch (h r (Memᴰ.head refl)) (rows_everywhere i (λ x m. h x (Memᴰ.tail (Memᴰ.append_left (instruction_rows j) m))))
    (rows_everywhere j (λ x m. h x (Memᴰ.tail (Memᴰ.append_right (instruction_rows i) m))))
rows_everywhere (loop r e i) h = at_loop (h r (Memᴰ.head refl)) (rows_everywhere i (λ x m. h x (Memᴰ.tail m)))
rows_everywhere (handle r n i) h = at_handle (h r (Memᴰ.head refl)) (rows_everywhere i (λ x m. h x (Memᴰ.tail m)))
rows_everywhere (call r k vs rs) h = at_call (h r (Memᴰ.head refl))
