-- Which profiles pass does not depend on the fault that is named: the type check passes what the check in order of evaluation passes,
-- with the same entries (`same_passes`), so over all pairs of files the same calls pass, with the same layout table, number by number
-- (`same_layout`, `same_passed`). Assumes nothing.
use Rattle.std.specs.Prelude.{◌≡◌, refl, Bool, true, false}
use mathlib.Core.List.{List, [], ◌∷◌, ◌++◌, map}
use Rattle.std.proofs.Math.Option.{Option, some, none}
use Prim.Native.Nat.{ℕ, zero, suc, ◌+◌}
use Rattle.lingua.specs.Numbers.{instruction_place, declaration_place}
use Rattle.lingua.specs.Errors.{boolean_expected, list_expected, no_coherence, yoke_expected}
use Rattle.lingua.specs.Outcome.{Outcome, ok, fail, Result, require, or_fail, answer_of, both, all_answers, ◌>>=◌, ◌>>◌}
use Rattle.lingua.specs.Body.{Body, boolean, size, same_body, is_boolean, element_body}
use Rattle.lingua.specs.Operation.{unary_body, binary_body}
use Rattle.lingua.specs.Expression.{Expression, constant, variable, current, unary, binary, lazy, choice, all_list, Yoke, always, yoke, Instruction, skip, assign, set_yoke, sequence, branch, loop, handle, call}
use Rattle.lingua.specs.Run.{Declaration, Scoped, Profile}
use Rattle.lingua.specs.Typing.{TypeError, type_error, Entry, Typed, Finding, fault, own_rule, typed, Bodies, no_current_body, current_body, elements_at, check, judged, check_yoke, check_test, given_fit, check_instruction, check_declarations, bodies_of, all_declarations, scope_bodies, check_scoped, check_profile}
use Rattle.lingua.specs.Trees.{profile_of}
use Rattle.lingua.specs.Format.{rows_of}
use Rattle.lingua.specs.Refusal.{type_check_refusal}
use Rattle.lingua.specs.Answers.{Answer, refused, answered, Verdict, passed, faulted}
use Rattle.lingua.specs.Calls.{type_check_verdict, type_check_unless, type_check_call}
use Rattle.lingua.specs.Computing.{computing}
use Rattle.lingua.specs.Examples.{two_faults, truths}
use Rattle.safety.specs.Former.{located, typed_at, former_check, former_yoke, former_test, former_instruction, former_declarations, former_scoped, former_profile, former_unless, former_call}

-- both have the same answer, or neither has one
pub data Alike {E F A : Type 0} : Outcome E A → Outcome F A → Type 0 where
  answer_alike : (a : A) → Alike (ok a) (ok a)
  no_answer : (e : E) (f : F) → Alike (fail e) (fail f)

-- ---- step by step
module _ {E F A : Type 0} where
  then_alike : {B : Type 0} {o : Outcome E A} {p : Outcome F A} {k : A → Outcome E B} {l : A → Outcome F B} → Alike o p → ((a : A) → Alike (k a) (l a)) → Alike (o >>= k) (p >>= l)
  then_alike (answer_alike a) h = h a
  then_alike (no_answer e f) h = no_answer e f

  unless_alike : (t : Bool) (e : E) (f : F) {o : Outcome E A} {p : Outcome F A} → Alike o p → Alike (require t e >> o) (require t f >> p)
  unless_alike true e f h = h
  unless_alike false e f h = no_answer e f

  -- a test before what has no answer changes nothing
  tested_none : (e : E) (t : Bool) (f g : F) → Alike {A = A} (fail e) (require t f >> fail g)
  tested_none e true f g = no_answer e g
  tested_none e false f g = no_answer e f

own_alike : {A : Type 0} (r : ℕ) (o : Result A) → Alike (own_rule r o) (located r o)
own_alike r (ok a) = answer_alike a
own_alike r (fail n) = no_answer _ _

-- two operands, one after the other
module _ {E F A B C : Type 0} where
  both_alike : {o : Outcome (List E) A} {p : Outcome F A} {q : Outcome (List E) B} {s : Outcome F B} (k : A × B → Outcome (List E) C) (l : A → B → Outcome F C) → Alike o p → Alike q s → ((a : A) (b : B) → Alike (k (a, b)) (l a b)) → Alike (both o q >>= k) (p >>= λ a. s >>= λ b. l a b)
  both_alike k l (answer_alike a) (answer_alike b) h = h a b
  both_alike k l (answer_alike a) (no_answer e f) h = no_answer e f
  both_alike k l (no_answer e f) (answer_alike b) h = no_answer e f
  both_alike k l (no_answer e f) (no_answer g i) h = no_answer _ f

  -- with a test of the first before the second
  tested_alike : {o : Outcome (List E) A} {p : Outcome F A} {q : Outcome (List E) B} {s : Outcome F B} (k : A × B → Outcome (List E) C) (l : A → B → Outcome F C) (t : A → Bool) (n : F) → Alike o p → Alike q s → ((a : A) (b : B) → Alike (k (a, b)) (require (t a) n >> l a b)) → Alike (both o q >>= k) (p >>= λ a. require (t a) n >> (s >>= λ b. l a b))
  tested_alike k l t n (answer_alike a) (answer_alike b) h = h a b
  tested_alike k l t n (answer_alike a) (no_answer e f) h = tested_none e (t a) n f
  tested_alike k l t n (no_answer e f) (answer_alike b) h = no_answer e f
  tested_alike k l t n (no_answer e f) (no_answer g i) h = no_answer _ f

-- three operands, with a test of the first before the others
choice_alike : {E F A B C D : Type 0} {o : Outcome (List E) A} {p : Outcome F A} {q : Outcome (List E) B} {s : Outcome F B} {u : Outcome (List E) C} {v : Outcome F C}
    (k : A × (B × C) → Outcome (List E) D) (l : A → B → C → Outcome F D) (t : A → Bool) (n : F) → Alike o p → Alike q s → Alike u v
    → ((a : A) (b : B) (c : C) → Alike (k (a, (b, c))) (require (t a) n >> l a b c)) → Alike (both o (both q u) >>= k) (p >>= λ a. require (t a) n >> (s >>= λ b. v >>= λ c. l a b c))
choice_alike k l t n (answer_alike a) (answer_alike b) (answer_alike c) h = h a b c
choice_alike k l t n (answer_alike a) (answer_alike b) (no_answer e f) h = tested_none e (t a) n f
choice_alike k l t n (answer_alike a) (no_answer e f) (answer_alike c) h = tested_none e (t a) n f
choice_alike k l t n (answer_alike a) (no_answer e f) (no_answer g i) h = tested_none _ (t a) n f
choice_alike k l t n (no_answer e f) (answer_alike b) (answer_alike c) h = no_answer _ f
choice_alike k l t n (no_answer e f) (answer_alike b) (no_answer g i) h = no_answer _ f
choice_alike k l t n (no_answer e f) (no_answer g i) (answer_alike c) h = no_answer _ f
choice_alike k l t n (no_answer e f) (no_answer g i) (no_answer x y) h = no_answer _ f

-- ---- expressions
module _ (vars : Bodies) where
  all_list_alike : (r : ℕ) (e : Expression) (cur : Body) (m : Option Body) → ((c : Body) → Alike (check e vars (some c)) (former_check e vars c))
      → Alike (both (check e vars (answer_of (own_rule r (or_fail m list_expected)))) (own_rule r (or_fail m list_expected)) >>= λ xb. require (is_boolean xb.0.body) (fault yoke_expected r) >> typed r (some cur) boolean (size xb.1) xb.0.entries)
      (located r (or_fail m list_expected) >>= λ b. former_check e vars b >>= λ x. require (is_boolean x.body) (type_error yoke_expected r) >> typed_at r cur boolean (size b) x.entries)
  all_list_alike r e cur none h = no_list (check e vars none)
    where
      no_list : (o : Finding Typed) → Alike (both o (fail (fault list_expected r)) >>= λ xb. require (is_boolean xb.0.body) (fault yoke_expected r) >> typed r (some cur) boolean (size xb.1) xb.0.entries) (fail (type_error list_expected r))
      no_list (ok x) = no_answer _ _
      no_list (fail es) = no_answer _ _
  all_list_alike r e cur (some c) h = on_list (h c)
    where
      on_list : {o : Finding Typed} {p : Outcome TypeError Typed} → Alike o p
          → Alike (both o (ok c) >>= λ xb. require (is_boolean xb.0.body) (fault yoke_expected r) >> typed r (some cur) boolean (size xb.1) xb.0.entries)
          (p >>= λ x. require (is_boolean x.body) (type_error yoke_expected r) >> typed_at r cur boolean (size c) x.entries)
      on_list (answer_alike x) = unless_alike (is_boolean x.body) _ _ (answer_alike _)
      on_list (no_answer es f) = no_answer es f

  check_alike : (e : Expression) (cur : Body) → Alike (check e vars (some cur)) (former_check e vars cur)
  unfolding check former_check current_body elements_at
  check_alike (constant r c) cur = answer_alike _
  check_alike (variable r n) cur = answer_alike _
  check_alike (current r) cur = answer_alike _
  check_alike (unary r o e) cur =
      then_alike (check_alike e cur) (λ x. then_alike (own_alike r (unary_body o x.body)) (λ b. answer_alike _))
  check_alike (binary r o e f) cur =
      both_alike _ _ (check_alike e cur) (check_alike f cur) (λ x y. then_alike (own_alike r (binary_body o x.body y.body)) (λ b. answer_alike _))
  check_alike (lazy r k e f) cur =
      tested_alike _ _ (λ x. is_boolean x.body) _ (check_alike e cur) (check_alike f cur)
      (λ x y. unless_alike (is_boolean x.body) _ _ (unless_alike (is_boolean y.body) _ _ (answer_alike _)))
  check_alike (choice r p e f) cur =
      choice_alike _ _ (λ x. is_boolean x.body) _ (check_alike p cur) (check_alike e cur) (check_alike f cur)
      (λ x y z. unless_alike (is_boolean x.body) _ _ (unless_alike (same_body y.body z.body) _ _ (answer_alike _)))
  check_alike (all_list r e) cur = all_list_alike r e cur (element_body cur) (λ c. check_alike e c)

  -- ---- declarations and instructions
  judged_alike : {o : Finding Typed} {p : Outcome TypeError Typed} (suits : Body → Bool) (own : TypeError) → Alike o p
      → Alike (judged o suits own) (p >>= λ x. require (suits x.body) own >> ok x.entries)
  unfolding judged
  judged_alike suits own (answer_alike x) = unless_alike (suits x.body) own own (answer_alike x.entries)
  judged_alike suits own (no_answer es f) = no_answer _ f

  yoke_alike : (y : Yoke) (b : Body) (p : ℕ) → Alike (check_yoke y vars b p) (former_yoke y vars b p)
  unfolding check_yoke former_yoke
  yoke_alike always b p = answer_alike []
  yoke_alike (yoke e) b p = judged_alike is_boolean (type_error yoke_expected p) (check_alike e b)

  test_alike : (e : Expression) (p : ℕ) → Alike (check_test e vars p) (former_test e vars p)
  unfolding check_test former_test
  test_alike e p = judged_alike is_boolean (type_error boolean_expected p) (check_alike e no_current_body)

  instruction_alike : (procs : ℕ → Bodies) (i : Instruction) → Alike (check_instruction procs vars i) (former_instruction procs vars i)
  unfolding check_instruction former_instruction
  instruction_alike procs (skip r) = answer_alike []
  instruction_alike procs (assign r n e) = judged_alike (same_body (vars n)) (type_error no_coherence (instruction_place + r)) (check_alike e no_current_body)
  instruction_alike procs (set_yoke r n y) = yoke_alike y (vars n) (instruction_place + r)
  instruction_alike procs (sequence r i j) = answer_alike []
  instruction_alike procs (branch r e i j) = test_alike e (instruction_place + r)
  instruction_alike procs (loop r e i) = test_alike e (instruction_place + r)
  instruction_alike procs (handle r n i) = answer_alike []
  instruction_alike procs (call r k vs rs) = unless_alike (given_fit vars (vs ++ rs) (procs k) 0) _ _ (answer_alike [])

  -- ---- one after the other
  declarations_alike : (d : ℕ) (ds : List Declaration) → Alike (all_answers (check_declarations vars d ds)) (all_answers (former_declarations vars d ds))
  unfolding check_declarations former_declarations all_answers
  declarations_alike d [] = answer_alike []
  declarations_alike d (v ∷ ds) =
      then_alike (yoke_alike v.declared v.body (declaration_place + d)) (λ es. then_alike (declarations_alike (suc d) ds) (λ ess. answer_alike (es ∷ ess)))

scoped_alike : (p : Profile) (i : Scoped) → Alike (check_scoped p i) (former_scoped p i)
unfolding check_scoped former_scoped
scoped_alike p i = instruction_alike (scope_bodies p i.scope) (λ k. scope_bodies p (suc k)) i.instruction

instructions_alike : (p : Profile) (is : List Scoped) → Alike (all_answers (map (λ i. check_scoped p i) is)) (all_answers (map (λ i. former_scoped p i) is))
unfolding all_answers
instructions_alike p [] = answer_alike []
instructions_alike p (i ∷ is) = then_alike (scoped_alike p i) (λ es. then_alike (instructions_alike p is) (λ ess. answer_alike (es ∷ ess)))

pub profile_alike : (p : Profile) → Alike (check_profile p) (former_profile p)
unfolding check_profile former_profile
profile_alike p =
    then_alike (declarations_alike (bodies_of p.declarations) 0 (all_declarations p)) (λ ds. then_alike (instructions_alike p p.instructions) (λ rs. answer_alike _))

-- the same profiles pass, with the same entries
pub same_passes : (p : Profile) → answer_of (check_profile p) ≡ answer_of (former_profile p)
same_passes p = same (profile_alike p)
  where
    same : {o r : Outcome TypeError (List Entry)} → Alike o r → answer_of o ≡ answer_of r
    same (answer_alike es) = refl
    same (no_answer e f) = refl

-- ---- calls
-- refused with its number, passed or not; which fault is named does not matter
abbrev pub passing : Answer Verdict → Answer Bool
passing (refused n) = refused n
passing (answered passed) = answered true
passing (answered (faulted n p)) = answered false

verdicts_alike : {o r : Outcome TypeError (List Entry)} → Alike o r
    → ((type_check_verdict o).layout ≡ (type_check_verdict r).layout) × (passing (type_check_verdict o).answer ≡ passing (type_check_verdict r).answer)
unfolding type_check_verdict
verdicts_alike (answer_alike es) = (refl, refl)
verdicts_alike (no_answer e f) = (refl, refl)

module _ (prof lims layout : List ℕ) where
  calls_alike : (n : ℕ) → ((type_check_unless n prof lims layout).layout ≡ (former_unless n prof lims layout).layout)
      × (passing (type_check_unless n prof lims layout).answer ≡ passing (former_unless n prof lims layout).answer)
  unfolding type_check_unless former_unless
  calls_alike zero = verdicts_alike (profile_alike (profile_of (rows_of prof) (rows_of lims)))
  calls_alike (suc n) = (refl, refl)

  -- over all pairs of files, refused ones too, the layout table is the same number by number
  pub same_layout : (type_check_call prof lims layout).layout ≡ (former_call prof lims layout).layout
  unfolding type_check_call former_call
  same_layout = (calls_alike (type_check_refusal prof lims layout)).0

  -- the same pairs are refused, by the same numbers, and the same pairs pass
  pub same_passed : passing (type_check_call prof lims layout).answer ≡ passing (former_call prof lims layout).answer
  unfolding type_check_call former_call
  same_passed = (calls_alike (type_check_refusal prof lims layout)).1

-- ---- the two may name different faults: of `two_faults` the type check names row 3 (`lowest_row` in lingua)
pub other_fault : former_test two_faults truths 512 ≡ fail (type_error boolean_expected 5)
unfolding computing former_test former_check
other_fault = refl
