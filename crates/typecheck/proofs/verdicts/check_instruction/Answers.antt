-- `typecheck::verdicts::check_instruction` meets its contract: the row's tree, by what the row says. Assumes nothing.
use mathlib.Core.Path.{◌≡◌, refl}
use mathlib.Core.List.Memᴰ.{head as here}
use mathlib.Core.List.{List, []}
use Prim.Native.Nat.{ℕ}
use native.Mathlib.Omega.{arith}
use Rattle.lingua.specs.Outcome.{ok}
use Rattle.lingua.specs.Rows.{evaluated, yoke_set}
use Rattle.lingua.specs.Typing.{Bodies, check_instruction}
use Rattle.decoder.specs.declared.decode.InstructionRow.{InstructionRow}
use Rattle.decoder.specs.declared.decode.InstructionRow.TheVariants as row
use Rattle.decoder.specs.Decoded.{instruction_meaning}
use Rattle.profile.specs.Known.{instruction_row_known}
use Rattle.profile.specs.Facts.{instruction_row_tree}
use Rattle.typing.specs.Check.{declared_bodies}
use Rattle.typecheck.specs.Verdicts.{procedure_bodies}
use Rattle.typecheck.proofs.Settling.{nothing_settles}
use Rattle.typecheck.proofs.Instructing.{row_few, tree_at, root_asked, assigned_at, set_at, set_asked, call_asked}
use Rattle.typecheck.proofs.verdicts.check_instruction.Goals as goal

others : (rows : List ℕ) (r : ℕ) (i : InstructionRow) (procs : ℕ → Bodies) (bodies : Bodies)
    → ((n e : ℕ) → i ≡ row.Assign n e → ⊥) → ((n y : ℕ) → i ≡ row.SetYoke n y → ⊥) → ((e j k : ℕ) → i ≡ row.Branch e j k → ⊥)
    → ((e j : ℕ) → i ≡ row.Loop e j → ⊥) → ((k b c : ℕ) → i ≡ row.Call k b c → ⊥) → check_instruction procs bodies (instruction_row_tree rows r i) ≡ ok []
unfolding instruction_row_tree check_instruction
others rows r row.Skip procs bodies a s b l k = refl
others rows r (row.Assign n e) procs bodies a s b l k = absurd (a n e refl)
others rows r (row.SetYoke n y) procs bodies a s b l k = absurd (s n y refl)
others rows r (row.Sequence i j) procs bodies a s b l k = refl
others rows r (row.Branch e i j) procs bodies a s b l k = absurd (b e i j refl)
others rows r (row.Loop e i) procs bodies a s b l k = absurd (l e i refl)
others rows r (row.Handle n i) procs bodies a s b l k = refl
others rows r (row.Call p v w) procs bodies a s b l k = absurd (k p v w refl)

pub overflow_add-place : goal.overflow_add-place
overflow_add-place c = omega (arith, row_few c.requires)

pub overflow_cast-place : goal.overflow_cast-place
overflow_cast-place c = omega (arith, row_few c.requires)

pub instruction_row-i-requires-clause-known_instruction : goal.instruction_row-i-requires-clause-known_instruction
instruction_row-i-requires-clause-known_instruction c = instruction_row_known _ c.requires.ready.accepted _ c.requires.here

pub check_assignment-requires : goal.check_assignment-requires
unfolding instruction_meaning evaluated yoke_set
check_assignment-requires c =
    record { value = root_asked c.requires _ _ c.instruction_row-i.ensures c.in-Assign.is _ (here refl); few = omega (arith, row_few c.requires); declared = assigned_at c.requires _ c.instruction_row-i.ensures _ _ c.in-Assign.is }

pub variable_body-declared-requires-clause-n_bound : goal.variable_body-declared-requires-clause-n_bound
variable_body-declared-requires-clause-n_bound c = set_at c.requires _ c.instruction_row-i.ensures _ _ c.in-SetYoke.is

pub check_yoke-requires : goal.check_yoke-requires
check_yoke-requires c = set_asked c.requires _ c.instruction_row-i.ensures _ _ c.in-SetYoke.is _ (record { body = _; holds = c.variable_body-declared.ensures })

pub check_test-requires : goal.check_test-requires
unfolding instruction_meaning evaluated yoke_set
check_test-requires c = root_asked c.requires _ _ c.instruction_row-i.ensures c.in-Branch.is _ (here refl)

pub check_test-requires-in-Loop : goal.check_test-requires-in-Loop
unfolding instruction_meaning evaluated yoke_set
check_test-requires-in-Loop c = root_asked c.requires _ _ c.instruction_row-i.ensures c.in-Loop.is _ (here refl)

pub check_call-requires : goal.check_call-requires
check_call-requires c = call_asked c.requires _ c.instruction_row-i.ensures _ _ _ c.in-Call.is

pub returns-in-Assign : goal.returns-in-Assign
unfolding instruction_row_tree
returns-in-Assign c = rw (tree_at c.requires _ _ c.instruction_row-i.ensures c.in-Assign.is) c.check_assignment.ensures

pub returns-in-SetYoke : goal.returns-in-SetYoke
unfolding instruction_row_tree check_instruction
returns-in-SetYoke c = rw (tree_at c.requires _ _ c.instruction_row-i.ensures c.in-SetYoke.is) (c.check_yoke.ensures _ c.variable_body-declared.ensures)

pub returns-in-Branch : goal.returns-in-Branch
unfolding instruction_row_tree check_instruction
returns-in-Branch c = rw (tree_at c.requires _ _ c.instruction_row-i.ensures c.in-Branch.is) c.check_test.ensures

pub returns-in-Loop : goal.returns-in-Loop
unfolding instruction_row_tree check_instruction
returns-in-Loop c = rw (tree_at c.requires _ _ c.instruction_row-i.ensures c.in-Loop.is) c.check_test-in-Loop.ensures

pub returns-in-Call : goal.returns-in-Call
unfolding instruction_row_tree
returns-in-Call c = rw (tree_at c.requires _ _ c.instruction_row-i.ensures c.in-Call.is) (c.check_call.ensures c.args.row c.args.layout.now refl)

pub returns-in_default : goal.returns-in_default
returns-in_default c =
    rw (tree_at c.requires _ _ c.instruction_row-i.ensures refl, others c.args.scope.now.rows.now c.args.row c.instruction_row-i.result (procedure_bodies c.args.scope.now.rows.now) (declared_bodies c.args.scope.now) c.in_default.not-Assign c.in_default.not-SetYoke c.in_default.not-Branch c.in_default.not-Loop c.in_default.not-Call)
    (nothing_settles _)
