-- What is known of an instruction row that is checked by the variables of its scope: what it evaluates reads these, a yoke that it sets reads
-- none, and a call gives these. Assumes nothing.
use mathlib.Core.Path.{◌≡◌, sym, ap, ◌∙◌, subst}
use mathlib.Core.List.{List, ◌++◌, Memᴰ as In}
use native.Mathlib.Omega.{arith}
use Prim.Native.Nat.{ℕ, ◌<◌}
use Rattle.lingua.specs.Numbers.{most_instructions, scope_table}
use Rattle.lingua.specs.Rows.{pair_count, InstructionRow, instruction_row, evaluated, yoke_set}
use Rattle.lingua.specs.Trees.{expression_tree, given_values, given_references, instruction_tree, instruction_scope}
use Rattle.laws.specs.Refers.{roots_of}
use Rattle.safety.specs.Every.{Every, every_at}
use Rattle.safety.specs.Invariant.{WellMade}
use Rattle.safety.specs.Accepted.{instruction_roots_lem, tree_well_made}
use Rattle.decoder.specs.declared.decode.InstructionRow.{InstructionRow as CodeInstruction}
use Rattle.decoder.specs.declared.decode.InstructionRow.TheVariants as row
use Rattle.decoder.specs.Decoded.{instruction_meaning}
use Rattle.rules.specs.Accepted.{counts}
use Rattle.body.specs.Encode.{Held}
use Rattle.profile.specs.Yokes.{every_yoke}
use Rattle.profile.specs.Facts.{InstructionFacts, instruction_facts, instruction_row_tree, instruction_row_tree_lem}
use Rattle.typing.specs.declared.walk.Scope.{Scope}
use Rattle.typing.specs.Check.{ReadsBelow, Readable}
use Rattle.typing.proofs.Reading.{root_reads}
use Rattle.typecheck.specs.Verdicts.{YokeAsked, ExpressionAsked, CallAsked, InstructionAsked}
use Rattle.typecheck.proofs.Scoping.{scope_sees}

module _ {s : Scope} {r : ℕ} {layout : List ℕ} (h : InstructionAsked s r layout) (c d : CodeInstruction) (says : instruction_meaning c ≡ instruction_row s.rows.now r) (e : c ≡ d) where
  pub facts_at : InstructionFacts s.rows.now r d
  facts_at =
      subst (λ (x : CodeInstruction). InstructionFacts s.rows.now r x) e (instruction_facts s.rows.now h.ready.accepted r h.here c says)

  pub tree_at : instruction_tree s.rows.now r ≡ instruction_row_tree s.rows.now r d
  tree_at =
      instruction_row_tree_lem s.rows.now r c says (instruction_facts s.rows.now h.ready.accepted r h.here c says) ∙ ap (instruction_row_tree s.rows.now r) e

  -- the scope by the table's own number
  own_variable : (n : ℕ) → n < pair_count s.rows.now (scope_table (instruction_scope s.rows.now r)) → n < pair_count s.rows.now s.variables.section
  own_variable n l = subst (λ (k : ℕ). n < pair_count s.rows.now k) (sym h.own.variables.section) l

  root_at : (x : ℕ) → In x (evaluated (instruction_meaning d) ++ yoke_set (instruction_meaning d)) → In x (roots_of s.rows.now r)
  root_at x i =
      subst (λ (w : InstructionRow). In x (evaluated w ++ yoke_set w)) (ap instruction_meaning (sym e) ∙ says) i

  -- an expression that is evaluated
  pub root_asked : (x : ℕ) → In x (evaluated (instruction_meaning d) ++ yoke_set (instruction_meaning d)) → ExpressionAsked s x layout
  unfolding Readable
  root_asked x i =
      record {
        sees = scope_sees h.own h.ready;
        here = every_at (instruction_roots_lem s.rows.now h.ready.accepted r h.here) (root_at x i);
        reads = subst (λ (k : ℕ). ReadsBelow (pair_count s.rows.now k) (expression_tree s.rows.now x)) (sym h.own.variables.section) (root_reads s.rows.now h.ready.accepted r x h.here (root_at x i));
        room = h.room;
      }

module _ {s : Scope} {r : ℕ} {layout : List ℕ} (h : InstructionAsked s r layout) where
  pub row_few : r < most_instructions
  row_few = omega (arith, h.here, (counts s.rows.now h.ready.accepted.counts).instructions.most)

module _ {s : Scope} {r : ℕ} {layout : List ℕ} (h : InstructionAsked s r layout) (c : CodeInstruction) (says : instruction_meaning c ≡ instruction_row s.rows.now r) where
  pub assigned_at : (n x : ℕ) → c ≡ row.Assign n x → n < pair_count s.rows.now s.variables.section
  unfolding InstructionFacts
  assigned_at n x e = own_variable h c (row.Assign n x) says e n (facts_at h c (row.Assign n x) says e).0

  pub set_at : (n y : ℕ) → c ≡ row.SetYoke n y → n < pair_count s.rows.now s.variables.section
  unfolding InstructionFacts
  set_at n y e = own_variable h c (row.SetYoke n y) says e n (facts_at h c (row.SetYoke n y) says e).0

  -- a yoke that is set
  pub set_asked : (n y : ℕ) → c ≡ row.SetYoke n y → (x : List ℕ) → Held x → YokeAsked s y x layout
  unfolding InstructionFacts WellMade instruction_row_tree
  set_asked n y e x held =
      record {
        sees = scope_sees h.own h.ready;
        here = every_yoke _ _ (facts_at h c (row.SetYoke n y) says e).1;
        closed = subst WellMade (tree_at h c (row.SetYoke n y) says e) (tree_well_made s.rows.now h.ready.accepted r h.here);
        held = held;
        room = h.room;
      }

  pub call_asked : (k x y : ℕ) → c ≡ row.Call k x y → CallAsked s k x y
  unfolding InstructionFacts
  call_asked k x y e =
      let f = facts_at h c (row.Call k x y) says e in
      record {
        known = scope_sees h.own h.ready;
        procedure = f.procedure;
        declared = subst (λ (j : ℕ). Every (λ n. n < pair_count s.rows.now j) (given_values s.rows.now k x ++ given_references s.rows.now k y)) (sym h.own.variables.section) f.given;
      }
