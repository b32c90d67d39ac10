-- The rows of the entries that the type check records are the rows of the trees that it goes through, in order of evaluation:
-- `entries_rows`. Assumes nothing.
use Rattle.std.specs.Prelude.{◌≡◌, refl, List, [], ◌∷◌, ◌++◌, map, ℕ, suc, ◌+◌}
use Rattle.std.proofs.Common.{sym, ap, ap₂, ◌∙◌, subst}
use Rattle.lingua.specs.Numbers.{declaration_place}
use Rattle.lingua.specs.Outcome.{ok, all_answers}
use Rattle.lingua.specs.Body.{Body}
use Rattle.lingua.specs.Expression.{Expression, constant, variable, current, unary, binary, lazy, choice, all_list, Yoke, always, yoke, Instruction, skip, assign, set_yoke, sequence, branch, loop, handle, call}
use Rattle.lingua.specs.Run.{Declaration, Scoped, Profile}
use Rattle.lingua.specs.Typing.{Entry, Bodies, check_yoke, check_declarations, bodies_of, joined, all_declarations, scope_bodies, check_scoped, check_profile}
use Rattle.safety.specs.Answers.{same_answer, bound}
use Rattle.safety.specs.Checked.{Checked, checked_constant, checked_variable, checked_current, checked_unary, checked_binary, checked_lazy, checked_choice, checked_all_list, CheckedYoke, CheckedRow, yoke_checked, row_checked}
use Rattle.safety.specs.Layout.{entry_row}

-- the rows of a tree, a row behind those below it
unfoldable pub tree_rows : Expression → List ℕ
tree_rows (constant r c) = r ∷ []
tree_rows (variable r n) = r ∷ []
tree_rows (current r) = r ∷ []
tree_rows (unary r o e) = tree_rows e ++ (r ∷ [])
tree_rows (binary r o e f) = (tree_rows e ++ tree_rows f) ++ (r ∷ [])
tree_rows (lazy r k e f) = (tree_rows e ++ tree_rows f) ++ (r ∷ [])
tree_rows (choice r p e f) = (tree_rows p ++ (tree_rows e ++ tree_rows f)) ++ (r ∷ [])
tree_rows (all_list r e) = tree_rows e ++ (r ∷ [])

unfoldable pub yoke_rows : Yoke → List ℕ
yoke_rows always = []
yoke_rows (yoke e) = tree_rows e

-- of an instruction's own expression
unfoldable pub own_rows : Instruction → List ℕ
own_rows (skip r) = []
own_rows (assign r n e) = tree_rows e
own_rows (set_yoke r n y) = yoke_rows y
own_rows (sequence r i j) = []
own_rows (branch r e i j) = tree_rows e
own_rows (loop r e i) = tree_rows e
own_rows (handle r n i) = []
own_rows (call r k vs rs) = []

-- ---- lists
map_append : (xs ys : List Entry) → map entry_row (xs ++ ys) ≡ map entry_row xs ++ map entry_row ys
map_append [] ys = refl
map_append (x ∷ xs) ys = ap (λ (l : List ℕ). x.row ∷ l) (map_append xs ys)

rows_append : (xs ys : List Entry) {ms ns : List ℕ} → map entry_row xs ≡ ms → map entry_row ys ≡ ns → map entry_row (xs ++ ys) ≡ ms ++ ns
rows_append xs ys p q = map_append xs ys ∙ ap₂ (λ (a b : List ℕ). a ++ b) p q

-- ---- a tree
checked_rows_lem : {vars : Bodies} {e : Expression} {cur b : Body} {es : List Entry} → Checked vars e cur b es → map entry_row es ≡ tree_rows e
unfolding tree_rows
checked_rows_lem checked_constant = refl
checked_rows_lem checked_variable = refl
checked_rows_lem checked_current = refl
checked_rows_lem (checked_unary {xs = xs} c q) = rows_append xs _ (checked_rows_lem c) refl
checked_rows_lem (checked_binary {xs = xs} {ys} c d q) = rows_append (xs ++ ys) _ (rows_append xs ys (checked_rows_lem c) (checked_rows_lem d)) refl
checked_rows_lem (checked_lazy {xs = xs} {ys} c d) = rows_append (xs ++ ys) _ (rows_append xs ys (checked_rows_lem c) (checked_rows_lem d)) refl
checked_rows_lem (checked_choice {xs = xs} {ys} {zs} p c d) =
    rows_append (xs ++ (ys ++ zs)) _ (rows_append xs (ys ++ zs) (checked_rows_lem p) (rows_append ys zs (checked_rows_lem c) (checked_rows_lem d))) refl
checked_rows_lem (checked_all_list {xs = xs} q c) = rows_append xs _ (checked_rows_lem c) refl

no_rows : {es : List Entry} → es ≡ [] → map entry_row es ≡ []
no_rows e = ap (map entry_row) e

yoke_rows_lem : (vars : Bodies) (y : Yoke) (b : Body) (es : List Entry) → CheckedYoke vars y b es → map entry_row es ≡ yoke_rows y
unfolding CheckedYoke yoke_rows
yoke_rows_lem vars always b es c = no_rows c
yoke_rows_lem vars (yoke e) b es c = checked_rows_lem c

own_rows_lem : (procs : ℕ → Bodies) (vars : Bodies) (i : Instruction) (es : List Entry) → CheckedRow procs vars i es → map entry_row es ≡ own_rows i
unfolding CheckedRow own_rows
own_rows_lem procs vars (skip r) es c = no_rows c
own_rows_lem procs vars (assign r n e) es c = checked_rows_lem c
own_rows_lem procs vars (set_yoke r n y) es c = yoke_rows_lem vars y (vars n) es c
own_rows_lem procs vars (sequence r i j) es c = no_rows c
own_rows_lem procs vars (branch r e i j) es c = checked_rows_lem c
own_rows_lem procs vars (loop r e i) es c = checked_rows_lem c
own_rows_lem procs vars (handle r n i) es c = no_rows c
own_rows_lem procs vars (call r k vs rs) es c = no_rows c.0

-- ---- all of them
declarations_rows : (vars : Bodies) (d : ℕ) (ds : List Declaration) (xss : List (List Entry)) → all_answers (check_declarations vars d ds) ≡ ok xss
    → map entry_row (joined xss) ≡ joined (map (λ v. yoke_rows v.declared) ds)
unfolding check_declarations all_answers joined
declarations_rows vars d [] xss q = subst (λ (l : List (List Entry)). map entry_row (joined l) ≡ []) (same_answer q) refl
declarations_rows vars d (v ∷ ds) xss q =
    let a = bound (check_yoke v.declared vars v.body (declaration_place + d)) _ xss q in
    let b = bound (all_answers (check_declarations vars (suc d) ds)) _ xss a.2 in
    subst (λ (l : List (List Entry)). map entry_row (joined l) ≡ yoke_rows v.declared ++ joined (map (λ (w : Declaration). yoke_rows w.declared) ds)) (same_answer b.2)
    (rows_append a.0 (joined b.0) (yoke_rows_lem vars v.declared v.body a.0 (yoke_checked vars v.declared v.body (declaration_place + d) a.0 a.1)) (declarations_rows vars (suc d) ds b.0 b.1))

scoped_rows : (p : Profile) (i : Scoped) (es : List Entry) → check_scoped p i ≡ ok es → map entry_row es ≡ own_rows i.instruction
unfolding check_scoped
scoped_rows p i es q =
    let procs : ℕ → Bodies = λ k. scope_bodies p (suc k) in
    own_rows_lem procs (scope_bodies p i.scope) i.instruction es (row_checked procs (scope_bodies p i.scope) i.instruction es q)

instructions_rows : (p : Profile) (is : List Scoped) (xss : List (List Entry)) → all_answers (map (λ i. check_scoped p i) is) ≡ ok xss
    → map entry_row (joined xss) ≡ joined (map (λ i. own_rows i.instruction) is)
unfolding all_answers joined
instructions_rows p [] xss q = subst (λ (l : List (List Entry)). map entry_row (joined l) ≡ []) (same_answer q) refl
instructions_rows p (i ∷ is) xss q =
    let a = bound (check_scoped p i) _ xss q in
    let b = bound (all_answers (map (λ k. check_scoped p k) is)) _ xss a.2 in
    subst (λ (l : List (List Entry)). map entry_row (joined l) ≡ own_rows i.instruction ++ joined (map (λ (k : Scoped). own_rows k.instruction) is)) (same_answer b.2)
    (rows_append a.0 (joined b.0) (scoped_rows p i a.0 a.1) (instructions_rows p is b.0 b.1))

-- the rows of the trees that the type check goes through: those of the declared yokes, procedures' too, then those of each instruction row
unfoldable pub checked_rows : Profile → List ℕ
checked_rows p = joined (map (λ d. yoke_rows d.declared) (all_declarations p)) ++ joined (map (λ i. own_rows i.instruction) p.instructions)

pub entries_rows : (p : Profile) (es : List Entry) → check_profile p ≡ ok es → map entry_row es ≡ checked_rows p
unfolding check_profile checked_rows
entries_rows p es e =
    let vars : Bodies = bodies_of p.declarations in
    let a = bound (all_answers (check_declarations vars 0 (all_declarations p))) _ es e in
    let b = bound (all_answers (map (λ i. check_scoped p i) p.instructions)) _ es a.2 in
    ap (map entry_row) (sym (same_answer b.2))
    ∙ rows_append (joined a.0) (joined b.0) (declarations_rows vars 0 (all_declarations p) a.0 a.1) (instructions_rows p p.instructions b.0 b.1)
