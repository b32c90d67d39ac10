-- Every error that a run meets: what any check gives, also one that an earlier error hides or a handler clears
-- (document 01, The contract and the cases). An operand in error does not hide the checks of the other operand alone,
-- and an assignment's yoke and body do not hide each other; of a value that is not coherent no limits are asked. What is not
-- evaluated meets nothing. Assumes nothing: these are definitions.
use Rattle.std.specs.Prelude.{Bool, true, false, not, List, [], ◌∷◌, ◌++◌, map, ℕ, zero, suc, eqb, ltb, length, pos}
use Rattle.std.specs.Bool.{beq}
use Rattle.std.proofs.Math.Option.{Option, some, none}
use Rattle.lingua.specs.Numbers.{record_attributes, list_places, most_calls}
use Rattle.lingua.specs.Errors.{no_error, overflow, division_by_zero, yoke_not_satisfied, list_full, not_filled, too_deep, number_expected, boolean_expected, word_expected, list_expected, record_expected, no_such_attribute, attribute_present, no_coherence, yoke_expected, not_comparable, body_too_large}
use Rattle.lingua.specs.Outcome.{ok, fail, Result, require, or_fail, ◌>>=◌, ◌>>◌}
use Rattle.lingua.specs.Body.{Body, coherent, is_quantity, is_word, is_simple, element_body, attributes_of, attribute_body, count_attributes}
use Rattle.lingua.specs.Value.{as_whole, as_items, count_values, in_range_of, Composite}
use Rattle.lingua.specs.Operation.{Binary, add, subtract, multiply, divide, less, equal, glue, expand, change, push, present}
use Rattle.lingua.specs.Compute.{same_number}
use Rattle.lingua.specs.Expression.{settled_by, Expression, constant, variable, current, unary, binary, lazy, choice, all_list, Yoke, always, yoke, Instruction, skip, assign, set_yoke, sequence, branch, loop, handle, call}
use Rattle.lingua.specs.Evaluation.{Variables, eval, eval_yoke, eval_test, apply_unary, apply_binary, truth_or, elements_of, no_current}
use Rattle.lingua.specs.Store.{Variable, variable_at, present_body, contents, within, assigned, copied, copied_in, Reading, counts_hundredths, reading_value}
use Rattle.lingua.specs.Run.{State, Progress, going, out, with_store, with_left, with_error, settled, Calling, exec, Procedure, procedure_at, begun, carried, called, Profile, started, taken_unless, take_readings}
use Rattle.lingua.specs.Typing.{joined}

-- the error that a check gives
abbrev pub error_in : {A : Type 0} → Result A → List ℕ
error_in (ok a) = []
error_in (fail n) = n ∷ []

-- what is met where there is an answer
abbrev pub on_answer : {A : Type 0} → Result A → (A → List ℕ) → List ℕ
on_answer (ok a) f = f a
on_answer (fail n) f = []

abbrev pub on_true : Bool → List ℕ → List ℕ
on_true true ns = ns
on_true false ns = []

-- ---- operations: the checks of one operand alone
abbrev pub unless_met : Bool → ℕ → List ℕ
unless_met true n = []
unless_met false n = n ∷ []

-- a full record has no room for another attribute, whatever its body
unfoldable pub expand_met : ℕ → Body → Result (Unit {0})
expand_met n b = do
  fs ← or_fail (attributes_of b) record_expected
  require (not (present n fs)) attribute_present
  require (ltb (count_attributes fs) record_attributes) body_too_large

unfoldable pub change_met : ℕ → Body → Result Body
change_met n b = do
  fs ← or_fail (attributes_of b) record_expected
  or_fail (attribute_body n fs) no_such_attribute

unfoldable pub push_met : Composite → Result (Unit {0})
push_met x = do
  b ← or_fail (element_body x.body) list_expected
  require (ltb (count_values (as_items x.value)) list_places) list_full

unfoldable pub first_met : Binary → Composite → List ℕ
first_met add x = unless_met (is_quantity x.body) number_expected
first_met subtract x = unless_met (is_quantity x.body) number_expected
first_met multiply x = unless_met (is_quantity x.body) number_expected
first_met divide x = unless_met (is_quantity x.body) number_expected
first_met less x = unless_met (is_quantity x.body) number_expected
first_met equal x = unless_met (is_simple x.body) not_comparable
first_met glue x = unless_met (is_word x.body) word_expected
first_met (expand n) x = error_in (expand_met n x.body)
first_met (change n) x = error_in (change_met n x.body)
first_met push x = error_in (push_met x)

-- a divisor that is 0 divides nothing
unfoldable pub divisor_met : Composite → Result (Unit {0})
divisor_met y = do
  require (is_quantity y.body) number_expected
  require (not (same_number (as_whole y.value) (pos 0))) division_by_zero

unfoldable pub second_met : Binary → Composite → List ℕ
second_met add y = unless_met (is_quantity y.body) number_expected
second_met subtract y = unless_met (is_quantity y.body) number_expected
second_met multiply y = unless_met (is_quantity y.body) number_expected
second_met divide y = error_in (divisor_met y)
second_met less y = unless_met (is_quantity y.body) number_expected
second_met equal y = unless_met (is_simple y.body) not_comparable
second_met glue y = unless_met (is_word y.body) word_expected
second_met (expand n) y = []
second_met (change n) y = []
second_met push y = []

-- each operand's own checks, and those of both
unfoldable pub binary_met : Binary → Result Composite → Result Composite → List ℕ
binary_met o p q =
    on_answer p (λ x. first_met o x)
    ++ on_answer q (λ y. second_met o y)
    ++ on_answer p (λ x. on_answer q (λ y. error_in (apply_binary o x y)))

-- ---- expressions and yokes
-- each result that has no Boolean body
unfoldable pub not_boolean : List (Result Composite) → List ℕ
not_boolean [] = []
not_boolean (r ∷ rs) = on_answer r (λ x. error_in (truth_or yoke_expected x)) ++ not_boolean rs

unfoldable pub met : Expression → Variables → Composite → List ℕ
met (constant r c) vars cur = []
met (variable r n) vars cur = error_in (eval (variable r n) vars cur)
met (current r) vars cur = []
met (unary r o e) vars cur = met e vars cur ++ on_answer (eval e vars cur) (λ x. error_in (apply_unary o x))
met (binary r o e f) vars cur = met e vars cur ++ met f vars cur ++ binary_met o (eval e vars cur) (eval f vars cur)
met (lazy r k e f) vars cur =
    met e vars cur
    ++ on_answer (eval e vars cur) (λ x. error_in (truth_or boolean_expected x)
    ++ on_answer (truth_or boolean_expected x) (λ t. on_true (not (beq t (settled_by k)))
    (met f vars cur ++ on_answer (eval f vars cur) (λ y. error_in (truth_or boolean_expected y)))))
met (choice r p e f) vars cur =
    met p vars cur
    ++ on_answer (eval p vars cur) (λ x. error_in (truth_or boolean_expected x)
    ++ on_answer (truth_or boolean_expected x) (λ t. on_true t (met e vars cur) ++ on_true (not t) (met f vars cur)))
met (all_list r e) vars cur =
    error_in (elements_of cur)
    ++ on_answer (elements_of cur) (λ xs. joined (map (λ x. met e vars x) xs) ++ not_boolean (map (λ x. eval e vars x) xs))

unfoldable pub yoke_met : Yoke → Variables → Composite → List ℕ
yoke_met always vars x = []
yoke_met (yoke e) vars x = met e vars x

-- what a yoke's own checks give on a value: its errors, 16, 3
unfoldable pub yoke_checks_met : Yoke → Variables → Composite → List ℕ
yoke_checks_met y vars x =
    yoke_met y vars x
    ++ on_answer (eval_yoke y vars x) (λ r. error_in (truth_or yoke_expected r)
    ++ on_answer (truth_or yoke_expected r) (λ t. unless_met t yoke_not_satisfied))

-- ---- instructions
-- an assignment of a value: its yoke and its body, each for itself, and its limits where it is coherent
unfoldable pub assign_met : List Variable → ℕ → Composite → List ℕ
assign_met vs n x =
    yoke_checks_met (variable_at vs n).yoke (contents vs) x
    ++ unless_met (coherent (present_body (variable_at vs n)) x.body) no_coherence
    ++ on_true (coherent (present_body (variable_at vs n)) x.body) (unless_met (within (variable_at vs n).limit (as_whole x.value)) yoke_not_satisfied)

unfoldable pub test_met : Expression → Variables → List ℕ
test_met e vars = met e vars no_current ++ on_answer (eval e vars no_current) (λ x. error_in (truth_or boolean_expected x))

abbrev pub on_filled : Option Composite → (Composite → List ℕ) → List ℕ
on_filled none f = []
on_filled (some x) f = f x

-- the state in which an instruction acts, if it neither passes nor finds no step left
abbrev pub step_met : ℕ → State → (State → List ℕ) → List ℕ
step_met zero s f = []
step_met (suc n) s f = f (with_left s n)

abbrev pub act_met : Bool → State → (State → List ℕ) → List ℕ
act_met true s f = step_met s.left s f
act_met false s f = []

abbrev pub on_acting : State → (State → List ℕ) → List ℕ
on_acting s f = act_met (eqb s.error no_error) s f

abbrev pub on_going : Progress → (State → List ℕ) → List ℕ
on_going (going s) f = f s
on_going (out s os) f = []

abbrev pub on_decided : Result Bool → (Unit {0} → List ℕ) → (Unit {0} → List ℕ) → List ℕ
on_decided (ok true) f g = f tt
on_decided (ok false) f g = g tt
on_decided (fail n) f g = []

abbrev pub on_handled : Bool → (Unit {0} → List ℕ) → List ℕ
on_handled true f = f tt
on_handled false f = []

-- as the run's repeat, over the same bound
unfoldable pub repeat_met : ℕ → Expression → (State → Progress) → (State → List ℕ) → State → List ℕ
repeat_met zero e body bodyMet s = []
repeat_met (suc k) e body bodyMet s =
    on_acting s (λ t. test_met e (contents t.store)
    ++ on_decided (eval_test e (contents t.store))
    (λ u. bodyMet t ++ on_going (body t) (λ w. repeat_met k e body bodyMet w))
    (λ u. []))

-- what a call meets, as what it does is given
abbrev pub CallingMet : Type 0
CallingMet = ℕ → ℕ → List ℕ → List ℕ → State → List ℕ

unfoldable pub exec_met : Calling → CallingMet → Instruction → State → List ℕ
exec_met calls callsMet (skip r) s = []
exec_met calls callsMet (assign r n e) s =
    on_acting s (λ t. met e (contents t.store) no_current
    ++ on_answer (eval e (contents t.store) no_current) (λ x. assign_met t.store n x))
exec_met calls callsMet (set_yoke r n y) s =
    on_acting s (λ t. on_filled (variable_at t.store n).content (λ x. yoke_checks_met y (contents t.store) x))
exec_met calls callsMet (sequence r i j) s = exec_met calls callsMet i s ++ on_going (exec calls i s) (λ t. exec_met calls callsMet j t)
exec_met calls callsMet (branch r e i j) s =
    on_acting s (λ t. test_met e (contents t.store)
    ++ on_decided (eval_test e (contents t.store)) (λ u. exec_met calls callsMet i t) (λ u. exec_met calls callsMet j t))
exec_met calls callsMet (loop r e i) s = repeat_met (suc s.left) e (λ t. exec calls i t) (λ t. exec_met calls callsMet i t) s
exec_met calls callsMet (handle r n i) s =
    step_met s.left s (λ t. on_handled (eqb t.error n) (λ u. exec_met calls callsMet i (with_error t no_error 0)))
exec_met calls callsMet (call r k vs rs) s = on_acting s (λ t. callsMet r k vs rs t)

-- ---- calls: each copy that is made meets what an assignment does
unfoldable pub copy_met : List Variable → ℕ → List Variable → ℕ → List ℕ
copy_met from n to m = error_in (or_fail (contents from n) not_filled) ++ on_filled (contents from n) (λ x. assign_met to m x)

unfoldable pub copies_in_met : List Variable → List ℕ → ℕ → List Variable → List ℕ
copies_in_met from [] m to = []
copies_in_met from (n ∷ ns) m to = copy_met from n to m ++ on_answer (copied assigned from n to m) (λ next. copies_in_met from ns (suc m) next)

unfoldable pub copies_out_met : ℕ → List Variable → ℕ → List ℕ → State → List ℕ
copies_out_met r from m [] s = []
copies_out_met r from m (n ∷ ns) s =
    on_true (eqb s.error no_error)
    (copy_met from m s.store n ++ copies_out_met r from (suc m) ns (settled s r (copied assigned from m s.store n)))

unfoldable pub called_met : List Procedure → ℕ → CallingMet
called_met ps zero r k vs rs s = too_deep ∷ []
called_met ps (suc n) r k vs rs s =
    copies_in_met s.store (vs ++ rs) 0 (begun (procedure_at ps k).variables)
    ++ on_answer (copied_in assigned s.store (vs ++ rs) 0 (begun (procedure_at ps k).variables))
    (λ ws. exec_met (called assigned exec ps n) (λ r k vs rs t. called_met ps n r k vs rs t) (procedure_at ps k).body (with_store s ws)
    ++ on_going (exec (called assigned exec ps n) (procedure_at ps k).body (with_store s ws))
    (λ t. copies_out_met r t.store (length vs) rs (carried s t)))

-- ---- readings, then the program
unfoldable pub reading_met : List Variable → Reading → List ℕ
reading_met vs r =
    unless_met (in_range_of (counts_hundredths vs r) r.number) overflow
    ++ on_true (in_range_of (counts_hundredths vs r) r.number) (assign_met vs r.variable (reading_value (counts_hundredths vs r) r.number))

unfoldable pub readings_met : ℕ → List Reading → State → List ℕ
readings_met i [] s = []
readings_met i (r ∷ rs) s =
    on_true (eqb s.error no_error) (reading_met s.store r)
    ++ readings_met (suc i) rs (taken_unless (eqb s.error no_error) s i r)

unfoldable pub run_met : Profile → List Reading → ℕ → List ℕ
run_met p readings budget =
    readings_met 0 readings (started p budget)
    ++ exec_met (called assigned exec p.procedures most_calls) (called_met p.procedures most_calls) p.program
    (take_readings 0 readings (started p budget))
