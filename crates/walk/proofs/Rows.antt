-- What accepted rows show where the walk reads an instruction, in either way to run: its parts are of the same scope, and a test's rows are
-- there. Assumes nothing.
use mathlib.Core.Path.{◌≡◌, refl, sym, ap, subst}
use mathlib.Core.Bool.{false}
use mathlib.Core.List.{List, Memᴰ}
use Prim.Native.Nat.{ℕ, ◌<◌}
use native.Mathlib.Omega.{arith}
use Rattle.lingua.specs.Numbers.{expression_section, instruction_section}
use Rattle.lingua.specs.Rows.{table_count, InstructionRow as Says, parts}
use Rattle.lingua.specs.Store.{Variable}
use Rattle.lingua.specs.Expression.{Instruction}
use Rattle.lingua.specs.Run.{Progress, Profile, exec}
use Rattle.lingua.specs.Trees.{expression_tree, instruction_scope}
use Rattle.profile.specs.Row.{KnownInstruction}
use Rattle.decoder.specs.declared.decode.InstructionRow.{InstructionRow}
use Rattle.decoder.specs.declared.decode.InstructionRow.TheVariants as does
use Rattle.decoder.specs.Decoded.{instruction_meaning}
use Rattle.profile.specs.Facts.{InstructionFacts, instruction_row_tree}
use Rattle.run.specs.declared.steps.Status.{Status}
use Rattle.run.specs.Statuses.{state_of}
use Rattle.run.specs.Reached.{Lent, Going, Reached}
use Rattle.run.specs.Acting.{reaches_as, area_stays}
use Rattle.erased_row.specs.Meaning.{Tests, TestRow}
use Rattle.frames.specs.Ways.{Way}
use Rattle.frames.specs.Meaning.{Holds}
use Rattle.opening.specs.Meaning.{Setting, AreaOf, AskedLeaf, Means, ExecutesLeaf}
use Rattle.opening.proofs.Rows.{holds_accepted, scope_is, part_under, row_known, row_narrow, row_facts, tree}
use Rattle.walk.specs.Meaning.{calling, Stands, Asked, Executes}

-- a part of a row that was read
abbrev pub PartOf : InstructionRow → ℕ → Type 0
PartOf d i = Memᴰ i (parts (instruction_meaning d))

-- ---- what the cycle asks
module _ {row : ℕ} {w : Way} {s : Setting} {l o : Lent} {m : Status} {room : ℕ} (a : Asked row w s l o m room) where
  rows : List ℕ
  rows = s.context.rows

  pub asked_leaf : AskedLeaf row w s.context l m room
  asked_leaf =
      record { profile = a.profile; scope = a.scope; store = a.store; holds = a.stands.holds; under = a.stands.under; enough = a.enough; there = a.there; going = a.going }

  pub kind_known : KnownInstruction s.context.rows row
  kind_known = row_known a.stands.holds a.there

  pub narrow : row < 65536
  narrow = row_narrow a.stands.holds a.there

  pub facts : {d : InstructionRow} → Means s.context.rows row d → InstructionFacts s.context.rows row d
  facts k = row_facts a.stands.holds a.there k

  pub row_inside : row < table_count s.context.rows instruction_section
  row_inside = a.there

  -- by the tree of the row's parts
  pub executes : {d : InstructionRow} {after free : Lent} {r : Status} → Means s.context.rows row d
      → ((p : Profile) (b n : ℕ) (vs : List Variable) → Stands row w p b n s l o vs → Reached (Holds w p b s.context) o after free r (exec (calling s.context.rows n) (instruction_row_tree s.context.rows row d) (state_of m vs)))
      → Executes row w s l o after free m r
  executes {d} k f =
      record { reaches = λ p b n vs h. reaches_as (ap (λ (i : Instruction). exec (calling s.context.rows n) i (state_of m vs)) (tree a.stands.holds a.there k)) (f p b n vs h) }

  -- a leaf's answer is the row's
  pub leaf_answers : {after : Lent} {r : Status} → ExecutesLeaf row w s.context l after m r → Executes row w s l o after o m r
  leaf_answers x = record { reaches = λ p b n vs h. x.reaches p b vs h.holds h.under (calling s.context.rows n) o }

  -- a row's scope, at every store that the memory may hold
  stood : {p : Profile} {b n : ℕ} {vs : List Variable} → Stands row w p b n s l o vs → instruction_scope s.context.rows row ≡ b
  stood h = scope_is s.context.rows (holds_accepted w h.holds) _ row h.holds.here h.under

  tested : {e : ℕ} {d : InstructionRow} → Means s.context.rows row d → Tests (instruction_row_tree s.context.rows row d) (expression_tree s.context.rows e) → {p : Profile} {b n : ℕ} {vs : List Variable} → Stands row w p b n s l o vs → TestRow s.context.rows b e
  tested {e} k t h =
      record { at = row; there = row_inside; scope = stood h; is = subst (λ (i : Instruction). Tests i (expression_tree s.context.rows e)) (sym (tree a.stands.holds a.there k)) t }

  pub branch_there : {e i j : ℕ} → Means s.context.rows row (does.Branch e i j) → e < table_count s.context.rows expression_section
  unfolding InstructionFacts
  branch_there k = (facts k).0

  pub branch_test : {e i j : ℕ} → Means s.context.rows row (does.Branch e i j) → {p : Profile} {b n : ℕ} {vs : List Variable} → Stands row w p b n s l o vs → TestRow s.context.rows b e
  unfolding instruction_row_tree Tests
  branch_test k h = tested k refl h

  pub loop_there : {e i : ℕ} → Means s.context.rows row (does.Loop e i) → e < table_count s.context.rows expression_section
  unfolding InstructionFacts
  loop_there k = (facts k).0

  pub loop_test : {e i : ℕ} → Means s.context.rows row (does.Loop e i) → {p : Profile} {b n : ℕ} {vs : List Variable} → Stands row w p b n s l o vs → TestRow s.context.rows b e
  unfolding instruction_row_tree Tests
  loop_test k h = tested k refl h

  -- ---- a part, where the run then stands
  pub part_stands : {d : InstructionRow} → Means s.context.rows row d → {i : ℕ} → PartOf d i → {p : Profile} {b n : ℕ} {vs us : List Variable} {at area : Lent} → Stands row w p b n s l o vs → Holds w p b s.context at us → area ≡ o
      → Stands i w p b n s at area us
  part_stands k {i} f {b = b} {n = n} h g e =
      record { holds = g; callable = h.callable; under = part_under s.context.rows (holds_accepted w h.holds) b row i h.holds.here h.under (subst (λ (q : Says). Memᴰ i (parts q)) k.is f); area = subst (λ (q : Lent). AreaOf w n q) (sym e) h.area }

  pub part : {d : InstructionRow} → Means s.context.rows row d → {i space : ℕ} → PartOf d i → {at area : Lent} {n : Status} (us : List Variable) → Holds w a.profile a.scope s.context at us → area ≡ o → room ≡ space → i < row → Going n
      → Asked i w s at area n space
  part k f us h q e j g =
      record { profile = a.profile; scope = a.scope; may = a.may; store = us; stands = part_stands k f a.stands h q; enough = omega (arith, a.enough, e); there = omega (arith, a.there, j); going = g }

  -- the next part, once one has ended and the run goes on
  pub onward_asked : {d : InstructionRow} → Means s.context.rows row d → {i space : ℕ} → PartOf d i → {at area : Lent} {n : Status} {q : Progress} → Reached (Holds w a.profile a.scope s.context) o at area n q → n.out ≡ false → room ≡ space → i < row
      → Asked i w s at area n space
  onward_asked k f x z e j = part k f x.store x.running (area_stays x z) e j (record { not_out = z })

-- ---- the parts of each kind
pub first_of_two : (i j : ℕ) → PartOf (does.Sequence i j) i
unfolding instruction_meaning parts
first_of_two i j = Memᴰ.head refl

pub second_of_two : (i j : ℕ) → PartOf (does.Sequence i j) j
unfolding instruction_meaning parts
second_of_two i j = Memᴰ.tail (Memᴰ.head refl)

pub branch_first : (e i j : ℕ) → PartOf (does.Branch e i j) i
unfolding instruction_meaning parts
branch_first e i j = Memᴰ.head refl

pub branch_second : (e i j : ℕ) → PartOf (does.Branch e i j) j
unfolding instruction_meaning parts
branch_second e i j = Memᴰ.tail (Memᴰ.head refl)

pub loop_body : (e i : ℕ) → PartOf (does.Loop e i) i
unfolding instruction_meaning parts
loop_body e i = Memᴰ.head refl

pub handle_body : (n i : ℕ) → PartOf (does.Handle n i) i
unfolding instruction_meaning parts
handle_body n i = Memᴰ.head refl
