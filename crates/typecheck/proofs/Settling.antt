-- What yokes, tests, assignments and whole lists of them give, for each way in which their functions end. Assumes nothing.
use mathlib.Core.Path.{◌≡◌, refl, sym, ap, ◌∙◌, subst}
use mathlib.Core.Bool.{Bool, true, false}
use mathlib.Core.List.{List, [], ◌∷◌, ◌++◌, append_assoc, append-nil}
use mathlib.Core.Option.{some}
use Prim.Native.Nat.{ℕ, zero, suc, ◌+◌, ◌-◌, ◌≤◌, ◌<◌}
use native.Mathlib.Numerals.{add-one}
use native.Mathlib.Omega.{arith}
use Rattle.lingua.specs.Numbers.{body_bytes, instruction_place}
use Rattle.lingua.specs.Errors.{no_coherence}
use Rattle.lingua.specs.Outcome.{Outcome, ok, fail, all_answers, ◌>>=◌}
use Rattle.lingua.specs.Body.{Body, boolean, size, nodes}
use Rattle.lingua.specs.Value.{pad}
use Rattle.lingua.specs.Encode.{bytes, encoded}
use Rattle.lingua.specs.Expression.{yoke, call}
use Rattle.lingua.specs.Rows.{pair_count}
use Rattle.lingua.specs.Trees.{tabulate_from, tabulate, expression_tree, yoke_tree}
use Rattle.lingua.specs.Typing.{TypeError, type_error, Entry, Typed, Finding, Bodies, judged, check_yoke, given_fit, check_instruction, joined, placed}
use Rattle.safety.specs.Constants.{ClosedYoke}
use Rattle.body.specs.Encode.{Holds}
use Rattle.std.specs.Prelude.{Option as CodeOption, Some, None, Result as CodeResult, Ok, Err, MatchResult}
use Rattle.std.specs.Option.{unwrap_or}
use Rattle.std.specs.Result.{IsOkAnd}
use Rattle.lingua.specs.declared.errors.ErrorAt.{ErrorAt}
use Rattle.typing.specs.declared.walk.Scope.{Scope}
use Rattle.typing.specs.Check.{error_meaning, Readable, Asked, Fails, Gives}
use Rattle.typecheck.specs.Verdicts.{ExpressionAsked, JudgesBody, Judges, SettlesPassed, in_order}
use Rattle.typing.proofs.Reading.{closed_reads}
use Rattle.typing.proofs.Returns.{placed_append}

-- the body that stands for no current value
pub none_holds : (x : List ℕ) → x ≡ pad body_bytes 0 (1 ∷ []) → Holds x boolean
unfolding encoded bytes size nodes
none_holds x h = record { is = h; few_cells = omega arith; few_nodes = omega arith }

-- outside yokes the current value has it
pub outside_asked : {s : Scope} {e : ℕ} {layout : List ℕ} (x : List ℕ) → ExpressionAsked s e layout → x ≡ pad body_bytes 0 (1 ∷ []) → Asked e s (Some x) layout
outside_asked x h n =
    record { sees = h.sees; here = h.here; reads = h.reads; held = record { body = some boolean; holds = none_holds x n }; room = h.room }

-- ---- outcomes
pub nothing_settles : (l : List ℕ) → SettlesPassed l l (ok [])
unfolding placed
nothing_settles l = record { entries = []; is = refl; layout = refl }

-- ---- what a declaration's or an instruction's expression gives
-- what is asked of its body, where it has one
pub judges_by : (x : CodeResult (List ℕ) (CodeOption ErrorAt)) (s : CodeResult Bool (CodeOption ErrorAt)) (o : Finding Typed) (asks : Body → Bool) (l m : List ℕ) {P : List ℕ → Bool → Type 0}
    → Gives x l m o → MatchResult x (λ y. IsOkAnd s (P y)) (λ f. s ≡ Err f) → ((y : List ℕ) (r : Bool) (b : Body) → P y r → Holds y b → r ≡ asks b) → Judges s o asks l m
judges_by (Ok y) (Ok r) o asks l m g c k =
    record { typed = g.typed; is = g.is; told = k y r g.typed.body c g.holds; layout = g.layout }
judges_by (Ok y) (Err f) o asks l m g c k = absurd c
judges_by (Err f) s o asks l m g c k = rw c g

module _ (o : Finding Typed) (asks : Body → Bool) (l m : List ℕ) where
  -- the lowest row at fault is named
  pub judged_fails : (f : CodeOption ErrorAt) (own : ErrorAt) → Fails f o → judged o asks (error_meaning own) ≡ fail (error_meaning (unwrap_or f own))
  unfolding judged
  judged_fails (Some e) own h = rw (h.is, sym h.lowest) refl
  judged_fails None own h = rw (h.is, sym h.lowest) refl

  pub judged_own : (own : TypeError) → JudgesBody false o asks l m → judged o asks own ≡ fail own
  unfolding judged
  judged_own own j = rw (j.is, sym j.told) refl

  pub judged_passes : (own : TypeError) → JudgesBody true o asks l m → SettlesPassed l m (judged o asks own)
  unfolding judged
  judged_passes own j = rw (j.is, sym j.told) (record { entries = j.typed.entries; is = refl; layout = j.layout })

-- ---- calls
pub call_fails : (row place : ℕ) → place ≡ instruction_place + row → (procs : ℕ → Bodies) (vars : Bodies) (k : ℕ) (vs rs : List ℕ) → given_fit vars (vs ++ rs) (procs k) 0 ≡ false
    → check_instruction procs vars (call row k vs rs) ≡ fail (type_error no_coherence place)
unfolding check_instruction
call_fails row place e procs vars k vs rs h = rw (h, e) refl

pub call_passes : (l : List ℕ) (row : ℕ) (procs : ℕ → Bodies) (vars : Bodies) (k : ℕ) (vs rs : List ℕ) → given_fit vars (vs ++ rs) (procs k) 0 ≡ true
    → SettlesPassed l l (check_instruction procs vars (call row k vs rs))
unfolding check_instruction
call_passes l row procs vars k vs rs h = rw h (nothing_settles l)

-- ---- yokes
pub no_yoke : (rows : List ℕ) (y : ℕ) (vars : Bodies) (b : Body) (p : ℕ) (l : List ℕ) → y ≡ 0 → SettlesPassed l l (check_yoke (yoke_tree rows y) vars b p)
unfolding check_yoke yoke_tree
no_yoke rows y vars b p l e = rw e (nothing_settles l)

pub yoke_row : (rows : List ℕ) (y : ℕ) → (y ≡ 0 → ⊥) → yoke_tree rows y ≡ yoke (expression_tree rows (y - 1))
unfolding yoke_tree
yoke_row rows zero n = absurd (n refl)
yoke_row rows (suc r) n = ap (λ (k : ℕ). yoke (expression_tree rows k)) (let e : r ≡ suc r - 1 = omega arith in e)

-- a yoke reads no variable
pub yoke_reads : (s : Scope) (y : ℕ) → (y ≡ 0 → ⊥) → ClosedYoke (yoke_tree s.rows.now y) → Readable s (y - 1)
unfolding ClosedYoke Readable
yoke_reads s y n h =
    closed_reads (pair_count s.rows.now s.variables.section) (expression_tree s.rows.now (y - 1)) (subst ClosedYoke (yoke_row s.rows.now y n) h).reads_none

-- ---- one after the other
abbrev prefixed : List (List Entry) → Outcome TypeError (List (List Entry)) → Outcome TypeError (List (List Entry))
prefixed ps (ok qs) = ok (ps ++ qs)
prefixed ps (fail e) = fail e

prefixed_none : (o : Outcome TypeError (List (List Entry))) → o ≡ prefixed [] o
prefixed_none (ok qs) = refl
prefixed_none (fail e) = refl

prefixed_more : (ps : List (List Entry)) (es : List Entry) (o : Outcome TypeError (List (List Entry))) → prefixed ps (o >>= (λ rest. ok (es ∷ rest))) ≡ prefixed (ps ++ (es ∷ [])) o
prefixed_more ps es (ok qs) = ap ok (sym (append_assoc ps (es ∷ []) qs))
prefixed_more ps es (fail e) = refl

joined_more : (ps : List (List Entry)) (es : List Entry) → joined (ps ++ (es ∷ [])) ≡ joined ps ++ es
unfolding joined
joined_more [] es = append-nil es
joined_more (p ∷ ps) es = ap (λ (x : List Entry). p ++ x) (joined_more ps es) ∙ sym (append_assoc p (joined ps) es)

module _ (f : ℕ → Outcome TypeError (List Entry)) (n : ℕ) where
  next_at : (i : ℕ) → i < n → tabulate_from i (n - i) f ≡ f i ∷ tabulate_from (suc i) (n - suc i) f
  unfolding tabulate_from
  next_at i l = ap (λ (k : ℕ). tabulate_from i k f) (let e : n - i ≡ suc (n - suc i) = omega arith in e)

-- the first i of n passed, and their entries are in the layout table
pub record Done (f : ℕ → Outcome TypeError (List Entry)) (n i : ℕ) (l0 l : List ℕ) : Type 0 where
  pub parts : List (List Entry)
  pub layout : l ≡ placed (joined parts) l0
  pub rest : all_answers (tabulate n f) ≡ prefixed parts (all_answers (tabulate_from i (n - i) f))

pub done_none : (f : ℕ → Outcome TypeError (List Entry)) (n : ℕ) (l : List ℕ) → Done f n 0 l l
unfolding joined placed tabulate
done_none f n l =
    record {
      parts = [];
      layout = refl;
      rest = ap (λ (k : ℕ). all_answers (tabulate_from 0 k f)) (let e : n ≡ n - 0 = omega arith in e) ∙ prefixed_none (all_answers (tabulate_from 0 (n - 0) f));
    }

module _ (f : ℕ → Outcome TypeError (List Entry)) (n i : ℕ) (l0 l : List ℕ) (d : Done f n i l0 l) where
  pub done_more : (m : List ℕ) → i < n → SettlesPassed l m (f i) → Done f n (i + 1) l0 m
  unfolding all_answers
  done_more m h q =
      record {
        parts = d.parts ++ (q.entries ∷ []);
        layout = q.layout ∙ ap (placed q.entries) d.layout ∙ sym (placed_append (joined d.parts) q.entries l0) ∙ ap (λ (x : List Entry). placed x l0) (sym (joined_more d.parts q.entries));
        rest = d.rest
            ∙ ap (λ (x : List (Outcome TypeError (List Entry))). prefixed d.parts (all_answers x)) (next_at f n i h)
            ∙ ap (λ (x : Outcome TypeError (List Entry)). prefixed d.parts (all_answers (x ∷ tabulate_from (suc i) (n - suc i) f))) q.is
            ∙ prefixed_more d.parts q.entries (all_answers (tabulate_from (suc i) (n - suc i) f))
            ∙ ap (λ (k : ℕ). prefixed (d.parts ++ (q.entries ∷ [])) (all_answers (tabulate_from k (n - k) f))) (sym (add-one i));
      }

  pub done_fails : (e : TypeError) → i < n → f i ≡ fail e → in_order n f ≡ fail e
  unfolding all_answers in_order
  done_fails e h q = rw (d.rest, next_at f n i h, q) refl

  pub done_all : n ≤ i → i ≤ n → SettlesPassed l0 l (in_order n f)
  unfolding all_answers in_order
  done_all h k =
      let z : n - i ≡ 0 = omega arith in
      let r : all_answers (tabulate n f) ≡ ok d.parts =
      d.rest ∙ ap (λ (k : ℕ). prefixed d.parts (all_answers (tabulate_from i k f))) z ∙ unfold tabulate_from in ap ok (append-nil d.parts) in
      rw r (record { entries = joined d.parts; is = refl; layout = d.layout })
