-- What fails is met: where evaluation, a yoke, a test, an assignment or a yoke change gives an error, that error is among those that it
-- meets. Assumes nothing.
use Rattle.std.specs.Prelude.{◌≡◌, refl, ◌⊎◌, Bool, true, false, not, ◌&&◌, ℕ, set, if◌then◌else◌}
use Rattle.std.proofs.Common.{sym, ap, ◌∙◌, subst, inl, inr, arith}
use Rattle.std.specs.Bool.{beq}
use mathlib.Core.List.Memᴰ
use mathlib.Core.List.{List, [], ◌∷◌, ◌++◌, map, Memᴰ}
use Rattle.std.proofs.Math.Option.{Option, some, none}
use Rattle.lingua.specs.Errors.{yoke_not_satisfied, boolean_expected, no_coherence, yoke_expected, not_filled}
use Rattle.lingua.specs.Outcome.{ok, fail, Result, ◌>>=◌, ◌>>◌, require, or_fail, all_answers}
use Rattle.lingua.specs.Body.{coherent, is_boolean}
use Rattle.lingua.specs.Value.{as_truth, as_whole, all_of, Composite}
use Rattle.lingua.specs.Expression.{settled_by, Expression, constant, variable, current, unary, binary, lazy, choice, all_list, Yoke, always, yoke}
use Rattle.lingua.specs.Evaluation.{Variables, apply_unary, apply_binary, truth_or, boolean_of, all_true, elements_of, eval, eval_yoke, eval_test, no_current}
use Rattle.lingua.specs.Store.{Variable, variable_at, present_body, contents, with_content, with_yoke, within, admitted, assigned, yoke_holds, yoke_changed}
use Rattle.lingua.specs.Typing.{joined}
use Rattle.lingua.specs.Meets.{error_in, on_answer, on_true, unless_met, binary_met, first_met, second_met, not_boolean, met, yoke_met, yoke_checks_met, assign_met, test_met, on_filled}
use Rattle.safety.specs.Answers.{same_answer, bound, true_is_false}

-- ---- failures
pub ok_is_fail {ℓ} : {A : Type 0} {B : Type ℓ} {a : A} {n : ℕ} → ◌≡◌ {A = Result A} (ok a) (fail n) → B
ok_is_fail e = absurd (let z : ◌≡◌ {A = ℕ} 0 1 = cc in let k : ⊥ = omega arith in k)

pub same_error : {A : Type 0} {m n : ℕ} → ◌≡◌ {A = Result A} (fail m) (fail n) → m ≡ n
same_error e = cc

-- a step failed, or what came next did
pub fails : {A B : Type 0} (o : Result A) (f : A → Result B) (n : ℕ) → (o >>= f) ≡ fail n → (o ≡ fail n) ⊎ ((a : A) × (o ≡ ok a) × (f a ≡ fail n))
fails (ok a) f n e = inr (a, refl, e)
fails (fail m) f n e = inl (ap {B = Result _} fail (same_error e))

pub required_fails : {B : Type 0} (t : Bool) (m : ℕ) (o : Result B) (n : ℕ) → (require t m >> o) ≡ fail n → ((t ≡ false) × (m ≡ n)) ⊎ ((t ≡ true) × (o ≡ fail n))
required_fails true m o n e = inr (refl, e)
required_fails false m o n e = inl (refl, same_error e)

then_fails : {B : Type 0} (u : Result (Unit {0})) (o : Result B) (n : ℕ) → (u >> o) ≡ fail n → (u ≡ fail n) ⊎ (o ≡ fail n)
then_fails (ok v) o n e = inr e
then_fails (fail m) o n e = inl (ap {B = Result _} fail (same_error e))

-- ---- members
abbrev pub In : ℕ → List ℕ → Type 0
In n ns = Memᴰ n ns

pub error_in_lem : {A : Type 0} (r : Result A) (n : ℕ) → r ≡ fail n → In n (error_in r)
error_in_lem (ok a) n e = ok_is_fail e
error_in_lem (fail m) n e = Memᴰ.head (sym (same_error e))

pub answer_in : {A : Type 0} (r : Result A) (a : A) (f : A → List ℕ) (n : ℕ) → r ≡ ok a → In n (f a) → In n (on_answer r f)
answer_in r a f n e m = subst (λ (o : Result _). In n (on_answer o f)) (sym e) m

pub unless_in : (t : Bool) (m n : ℕ) → t ≡ false → m ≡ n → In n (unless_met t m)
unless_in true m n e q = true_is_false e
unless_in false m n e q = Memᴰ.head (sym q)

pub true_in : (t : Bool) (ns : List ℕ) (n : ℕ) → t ≡ true → In n ns → In n (on_true t ns)
true_in t ns n e m = subst (λ (b : Bool). In n (on_true b ns)) (sym e) m

-- ---- all_list yokes
element_met : (f : Composite → Result Composite) (g : Composite → List ℕ) → ((x : Composite) (n : ℕ) → f x ≡ fail n → In n (g x)) → (xs : List Composite) (n : ℕ)
    → all_answers (map f xs) ≡ fail n → In n (joined (map g xs))
unfolding all_answers joined
element_met f g h [] n e = ok_is_fail e
element_met f g h (x ∷ xs) n e = go (fails (f x) _ n e) (λ q. element_met f g h xs n q)
  where
    go : (f x ≡ fail n) ⊎ ((a : Composite) × (f x ≡ ok a) × ((all_answers (map f xs) >>= λ rest. ok (a ∷ rest)) ≡ fail n)) → (all_answers (map f xs) ≡ fail n → In n (joined (map g xs))) → In n (g x ++ joined (map g xs))
    go (inl q) ih = Memᴰ.append_left (joined (map g xs)) (h x n q)
    go (inr p) ih = rest (fails (all_answers (map f xs)) _ n p.2)
      where
        rest : (all_answers (map f xs) ≡ fail n) ⊎ ((ys : List Composite) × (all_answers (map f xs) ≡ ok ys) × (ok (p.0 ∷ ys) ≡ fail n)) → In n (g x ++ joined (map g xs))
        rest (inl q) = Memᴰ.append_right (g x) (ih q)
        rest (inr q) = ok_is_fail q.2

not_boolean_in : (rs : List (Result Composite)) (ys : List Composite) → all_answers rs ≡ ok ys → all_of (λ x. is_boolean x.body) ys ≡ false → In yoke_expected (not_boolean rs)
unfolding all_answers all_of not_boolean truth_or
not_boolean_in [] ys e q = true_is_false (subst (λ (l : List Composite). all_of (λ x. is_boolean x.body) l ≡ false) (sym (same_answer e)) q)
not_boolean_in (r ∷ rs) ys e q =
    let p = bound r _ ys e in
    let s = bound (all_answers rs) _ ys p.2 in
    go p.0 p.1 s.0 (is_boolean p.0.body) refl (subst (λ (l : List Composite). all_of (λ x. is_boolean x.body) l ≡ false) (sym (same_answer s.2)) q) (λ z. not_boolean_in rs s.0 s.1 z)
  where
    go : (x : Composite) → r ≡ ok x → (zs : List Composite) (t : Bool) → is_boolean x.body ≡ t → (t && all_of (λ y. is_boolean y.body) zs) ≡ false
        → (all_of (λ y. is_boolean y.body) zs ≡ false → In yoke_expected (not_boolean rs)) → In yoke_expected (on_answer r (λ y. error_in (truth_or yoke_expected y)) ++ not_boolean rs)
    go x a zs true b c ih = Memᴰ.append_right (on_answer r (λ y. error_in (truth_or yoke_expected y))) (ih c)
    go x a zs false b c ih =
        Memᴰ.append_left (not_boolean rs) (answer_in r x (λ y. error_in (truth_or yoke_expected y)) yoke_expected a (error_in_lem (truth_or yoke_expected x) yoke_expected (ap (λ (t : Bool). require t yoke_expected >> ok (as_truth x.value)) b)))

all_true_met : (f : Composite → Result Composite) (g : Composite → List ℕ) → ((x : Composite) (n : ℕ) → f x ≡ fail n → In n (g x)) → (xs : List Composite) (n : ℕ)
    → all_true (map f xs) ≡ fail n → In n (joined (map g xs) ++ not_boolean (map f xs))
unfolding all_true
all_true_met f g h xs n e = go (fails (all_answers (map f xs)) _ n e)
  where
    go : (all_answers (map f xs) ≡ fail n) ⊎ ((ys : List Composite) × (all_answers (map f xs) ≡ ok ys) × ((require (all_of (λ x. is_boolean x.body) ys) yoke_expected >> ok (boolean_of (all_of (λ x. as_truth x.value) ys))) ≡ fail n))
        → In n (joined (map g xs) ++ not_boolean (map f xs))
    go (inl q) = Memᴰ.append_left (not_boolean (map f xs)) (element_met f g h xs n q)
    go (inr p) = last (required_fails (all_of (λ x. is_boolean x.body) p.0) yoke_expected _ n p.2)
      where
        last : ((all_of (λ x. is_boolean x.body) p.0 ≡ false) × (yoke_expected ≡ n)) ⊎ ((all_of (λ x. is_boolean x.body) p.0 ≡ true) × (◌≡◌ {A = Result Composite} (ok (boolean_of (all_of (λ x. as_truth x.value) p.0))) (fail n)))
            → In n (joined (map g xs) ++ not_boolean (map f xs))
        last (inl q) = Memᴰ.append_right (joined (map g xs)) (subst (λ (m : ℕ). In m (not_boolean (map f xs))) q.1 (not_boolean_in (map f xs) p.0 p.1 q.0))
        last (inr q) = ok_is_fail q.1

-- ---- expressions
second_in : (st : Variables) (cur : Composite) (f : Expression) (n : ℕ) → (eval f st cur ≡ fail n → In n (met f st cur))
    → (eval f st cur >>= λ y. truth_or boolean_expected y >>= λ u. ok (boolean_of u)) ≡ fail n → In n (met f st cur ++ on_answer (eval f st cur) (λ y. error_in (truth_or boolean_expected y)))
second_in st cur f n ih e = go (fails (eval f st cur) _ n e)
  where
    go : (eval f st cur ≡ fail n) ⊎ ((y : Composite) × (eval f st cur ≡ ok y) × ((truth_or boolean_expected y >>= λ u. ok (boolean_of u)) ≡ fail n)) → In n (met f st cur ++ on_answer (eval f st cur) (λ y. error_in (truth_or boolean_expected y)))
    go (inl q) = Memᴰ.append_left (on_answer (eval f st cur) (λ y. error_in (truth_or boolean_expected y))) (ih q)
    go (inr p) = Memᴰ.append_right (met f st cur) (answer_in (eval f st cur) p.0 (λ y. error_in (truth_or boolean_expected y)) n p.1 (last (fails (truth_or boolean_expected p.0) _ n p.2)))
      where
        last : (truth_or boolean_expected p.0 ≡ fail n) ⊎ ((u : Bool) × (truth_or boolean_expected p.0 ≡ ok u) × (◌≡◌ {A = Result Composite} (ok (boolean_of u)) (fail n))) → In n (error_in (truth_or boolean_expected p.0))
        last (inl q) = error_in_lem (truth_or boolean_expected p.0) n q
        last (inr q) = ok_is_fail q.2

-- a Boolean that is asked for first: its own error, 9, or what comes next
test_in : (r : Result Composite) (ms : List ℕ) (f : Bool → Result Composite) (g : Bool → List ℕ) (n : ℕ) → (r ≡ fail n → In n ms) → ((t : Bool) → f t ≡ fail n → In n (g t))
    → (r >>= λ x. truth_or boolean_expected x >>= f) ≡ fail n → In n (ms ++ on_answer r (λ x. error_in (truth_or boolean_expected x) ++ on_answer (truth_or boolean_expected x) g))
test_in r ms f g n ih k e = go (fails r _ n e)
  where
    next : Composite → List ℕ
    next x = error_in (truth_or boolean_expected x) ++ on_answer (truth_or boolean_expected x) g

    go : (r ≡ fail n) ⊎ ((x : Composite) × (r ≡ ok x) × ((truth_or boolean_expected x >>= f) ≡ fail n)) → In n (ms ++ on_answer r next)
    go (inl q) = Memᴰ.append_left (on_answer r next) (ih q)
    go (inr p) = Memᴰ.append_right ms (answer_in r p.0 next n p.1 (last (fails (truth_or boolean_expected p.0) f n p.2)))
      where
        last : (truth_or boolean_expected p.0 ≡ fail n) ⊎ ((t : Bool) × (truth_or boolean_expected p.0 ≡ ok t) × (f t ≡ fail n)) → In n (next p.0)
        last (inl q) = Memᴰ.append_left (on_answer (truth_or boolean_expected p.0) g) (error_in_lem (truth_or boolean_expected p.0) n q)
        last (inr q) = Memᴰ.append_right (error_in (truth_or boolean_expected p.0)) (answer_in (truth_or boolean_expected p.0) q.0 g n q.1 (k q.0 q.2))

pub eval_met : (e : Expression) (st : Variables) (cur : Composite) (n : ℕ) → eval e st cur ≡ fail n → In n (met e st cur)
unfolding eval met
eval_met (constant r c) st cur n e = ok_is_fail e
eval_met (variable r m) st cur n e = error_in_lem (or_fail (st m) not_filled) n e
eval_met (current r) st cur n e = ok_is_fail e
eval_met (unary r o a) st cur n e = go (fails (eval a st cur) _ n e) (λ q. eval_met a st cur n q)
  where
    go : (eval a st cur ≡ fail n) ⊎ ((x : Composite) × (eval a st cur ≡ ok x) × (apply_unary o x ≡ fail n)) → (eval a st cur ≡ fail n → In n (met a st cur)) → In n (met a st cur ++ on_answer (eval a st cur) (λ x. error_in (apply_unary o x)))
    go (inl q) ih = Memᴰ.append_left (on_answer (eval a st cur) (λ x. error_in (apply_unary o x))) (ih q)
    go (inr p) ih = Memᴰ.append_right (met a st cur) (answer_in (eval a st cur) p.0 (λ x. error_in (apply_unary o x)) n p.1 (error_in_lem (apply_unary o p.0) n p.2))
eval_met (binary r o a b) st cur n e = go (fails (eval a st cur) _ n e) (λ q. eval_met a st cur n q) (λ q. eval_met b st cur n q)
  where
    both : List ℕ
    both = on_answer (eval a st cur) (λ x. on_answer (eval b st cur) (λ y. error_in (apply_binary o x y)))

    alone : List ℕ
    alone = on_answer (eval a st cur) (λ x. first_met o x) ++ on_answer (eval b st cur) (λ y. second_met o y)

    go : (eval a st cur ≡ fail n) ⊎ ((x : Composite) × (eval a st cur ≡ ok x) × ((eval b st cur >>= λ y. apply_binary o x y) ≡ fail n))
        → (eval a st cur ≡ fail n → In n (met a st cur)) → (eval b st cur ≡ fail n → In n (met b st cur)) → In n (met a st cur ++ met b st cur ++ binary_met o (eval a st cur) (eval b st cur))
    go (inl q) ih jh = Memᴰ.append_left (binary_met o (eval a st cur) (eval b st cur)) (Memᴰ.append_left (met b st cur) (ih q))
    go (inr p) ih jh = rest (fails (eval b st cur) _ n p.2)
      where
        rest : (eval b st cur ≡ fail n) ⊎ ((y : Composite) × (eval b st cur ≡ ok y) × (apply_binary o p.0 y ≡ fail n)) → In n (met a st cur ++ met b st cur ++ binary_met o (eval a st cur) (eval b st cur))
        rest (inl q) = Memᴰ.append_left (binary_met o (eval a st cur) (eval b st cur)) (Memᴰ.append_right (met a st cur) (jh q))
        rest (inr q) =
            Memᴰ.append_right (met a st cur ++ met b st cur)
            (unfold binary_met in Memᴰ.append_right alone
            (answer_in (eval a st cur) p.0 (λ x. on_answer (eval b st cur) (λ y. error_in (apply_binary o x y))) n p.1
            (answer_in (eval b st cur) q.0 (λ y. error_in (apply_binary o p.0 y)) n q.1 (error_in_lem (apply_binary o p.0 q.0) n q.2))))
eval_met (lazy r k a b) st cur n e =
    test_in (eval a st cur) (met a st cur) _ _ n (λ q. eval_met a st cur n q) (λ t q. go (beq t (settled_by k)) t (λ z. eval_met b st cur n z) q) e
  where
    go : (s t : Bool) → (eval b st cur ≡ fail n → In n (met b st cur)) → (if s then ok (boolean_of t) else (eval b st cur >>= λ y. truth_or boolean_expected y >>= λ u. ok (boolean_of u))) ≡ fail n
        → In n (on_true (not s) (met b st cur ++ on_answer (eval b st cur) (λ y. error_in (truth_or boolean_expected y))))
    go true t jh q = ok_is_fail q
    go false t jh q = second_in st cur b n jh q
eval_met (choice r c a b) st cur n e =
    test_in (eval c st cur) (met c st cur) _ _ n (λ q. eval_met c st cur n q) (λ t q. go t (λ z. eval_met a st cur n z) (λ z. eval_met b st cur n z) q) e
  where
    go : (t : Bool) → (eval a st cur ≡ fail n → In n (met a st cur)) → (eval b st cur ≡ fail n → In n (met b st cur)) → (if t then eval a st cur else eval b st cur) ≡ fail n
        → In n (on_true t (met a st cur) ++ on_true (not t) (met b st cur))
    go true ih jh q = Memᴰ.append_left [] (ih q)
    go false ih jh q = jh q
eval_met (all_list r a) st cur n e = go (fails (elements_of cur) _ n e) (λ x m q. eval_met a st x m q)
  where
    next : List Composite → List ℕ
    next xs = joined (map (λ x. met a st x) xs) ++ not_boolean (map (λ x. eval a st x) xs)

    go : (elements_of cur ≡ fail n) ⊎ ((xs : List Composite) × (elements_of cur ≡ ok xs) × (all_true (map (λ x. eval a st x) xs) ≡ fail n)) → ((x : Composite) (m : ℕ) → eval a st x ≡ fail m → In m (met a st x))
        → In n (error_in (elements_of cur) ++ on_answer (elements_of cur) next)
    go (inl q) ih = Memᴰ.append_left (on_answer (elements_of cur) next) (error_in_lem (elements_of cur) n q)
    go (inr p) ih = Memᴰ.append_right (error_in (elements_of cur)) (answer_in (elements_of cur) p.0 next n p.1 (all_true_met (λ x. eval a st x) (λ x. met a st x) ih p.0 n p.2))

-- ---- yokes, tests, assignments and yoke changes
yoke_met_lem : (y : Yoke) (st : Variables) (x : Composite) (n : ℕ) → eval_yoke y st x ≡ fail n → In n (yoke_met y st x)
unfolding eval_yoke yoke_met
yoke_met_lem always st x n e = ok_is_fail e
yoke_met_lem (yoke a) st x n e = eval_met a st x n e

-- a yoke's checks: its error, 16, or 3 where it is not true
yoke_checks_met_lem : (y : Yoke) (st : Variables) (x : Composite) (n : ℕ)
    → (eval_yoke y st x ≡ fail n) ⊎ ((r : Composite) × (eval_yoke y st x ≡ ok r) × ((truth_or yoke_expected r ≡ fail n) ⊎ ((truth_or yoke_expected r ≡ ok false) × (yoke_not_satisfied ≡ n))))
    → In n (yoke_checks_met y st x)
unfolding yoke_checks_met
yoke_checks_met_lem y st x n (inl q) = Memᴰ.append_left _ (yoke_met_lem y st x n q)
yoke_checks_met_lem y st x n (inr p) = Memᴰ.append_right (yoke_met y st x) (answer_in (eval_yoke y st x) p.0 next n p.1 (by p.2))
  where
    next : Composite → List ℕ
    next r = error_in (truth_or yoke_expected r) ++ on_answer (truth_or yoke_expected r) (λ t. unless_met t yoke_not_satisfied)

    by : (truth_or yoke_expected p.0 ≡ fail n) ⊎ ((truth_or yoke_expected p.0 ≡ ok false) × (yoke_not_satisfied ≡ n)) → In n (next p.0)
    by (inl q) = Memᴰ.append_left (on_answer (truth_or yoke_expected p.0) (λ t. unless_met t yoke_not_satisfied)) (error_in_lem (truth_or yoke_expected p.0) n q)
    by (inr q) =
        Memᴰ.append_right (error_in (truth_or yoke_expected p.0))
        (answer_in (truth_or yoke_expected p.0) false (λ t. unless_met t yoke_not_satisfied) n q.0 (Memᴰ.head (sym q.1)))

pub test_met_lem : (a : Expression) (st : Variables) (n : ℕ) → eval_test a st ≡ fail n → In n (test_met a st)
unfolding eval_test test_met
test_met_lem a st n e = go (fails (eval a st no_current) _ n e)
  where
    go : (eval a st no_current ≡ fail n) ⊎ ((x : Composite) × (eval a st no_current ≡ ok x) × (truth_or boolean_expected x ≡ fail n)) → In n (met a st no_current ++ on_answer (eval a st no_current) (λ x. error_in (truth_or boolean_expected x)))
    go (inl q) = Memᴰ.append_left (on_answer (eval a st no_current) (λ x. error_in (truth_or boolean_expected x))) (eval_met a st no_current n q)
    go (inr p) = Memᴰ.append_right (met a st no_current) (answer_in (eval a st no_current) p.0 (λ x. error_in (truth_or boolean_expected x)) n p.1 (error_in_lem (truth_or boolean_expected p.0) n p.2))

require_fails : (t : Bool) (m n : ℕ) → ◌≡◌ {A = Result (Unit {0})} (require t m) (fail n) → (t ≡ false) × (m ≡ n)
require_fails true m n e = ok_is_fail e
require_fails false m n e = (refl, same_error e)

pub assign_met_lem : (vs : List Variable) (k : ℕ) (x : Composite) (n : ℕ) → assigned vs k x ≡ fail n → In n (assign_met vs k x)
unfolding assigned admitted assign_met
assign_met_lem vs k x n e = first (then_fails (admitted vs v x) _ n e)
  where
    v : Variable
    v = variable_at vs k

    st : Variables
    st = contents vs

    unlike : List ℕ
    unlike = unless_met (coherent (present_body v) x.body) no_coherence

    limited : List ℕ
    limited = on_true (coherent (present_body v) x.body) (unless_met (within v.limit (as_whole x.value)) yoke_not_satisfied)

    all : List ℕ
    all = yoke_checks_met v.yoke st x ++ unlike ++ limited

    by_yoke : (eval_yoke v.yoke st x ≡ fail n) ⊎ ((r : Composite) × (eval_yoke v.yoke st x ≡ ok r) × ((truth_or yoke_expected r ≡ fail n) ⊎ ((truth_or yoke_expected r ≡ ok false) × (yoke_not_satisfied ≡ n)))) → In n all
    by_yoke h = Memᴰ.append_left limited (Memᴰ.append_left unlike (yoke_checks_met_lem v.yoke st x n h))

    last : coherent (present_body v) x.body ≡ true → (y : Composite) → eval_yoke v.yoke st x ≡ ok y → (t : Bool) → truth_or yoke_expected y ≡ ok t → (t && within v.limit (as_whole x.value)) ≡ false → yoke_not_satisfied ≡ n → In n all
    last s y a true b c d = Memᴰ.append_right (yoke_checks_met v.yoke st x ++ unlike) (true_in (coherent (present_body v) x.body) _ n s (unless_in (within v.limit (as_whole x.value)) yoke_not_satisfied n c d))
    last s y a false b c d = by_yoke (inr (y, a, inr (b, d)))

    third : coherent (present_body v) x.body ≡ true → (y : Composite) → eval_yoke v.yoke st x ≡ ok y → (truth_or yoke_expected y ≡ fail n) ⊎ ((t : Bool) × (truth_or yoke_expected y ≡ ok t) × (require (t && within v.limit (as_whole x.value)) yoke_not_satisfied ≡ fail n)) → In n all
    third s y a (inl q) = by_yoke (inr (y, a, inl q))
    third s y a (inr p) = let z = require_fails (p.0 && within v.limit (as_whole x.value)) yoke_not_satisfied n p.2 in last s y a p.0 p.1 z.0 z.1

    second : (eval_yoke v.yoke st x ≡ fail n) ⊎ ((y : Composite) × (eval_yoke v.yoke st x ≡ ok y) × ((require (coherent (present_body v) x.body) no_coherence >> (truth_or yoke_expected y >>= λ t. require (t && within v.limit (as_whole x.value)) yoke_not_satisfied)) ≡ fail n)) → In n all
    second (inl q) = by_yoke (inl q)
    second (inr p) = body (required_fails (coherent (present_body v) x.body) no_coherence _ n p.2)
      where
        body : ((coherent (present_body v) x.body ≡ false) × (no_coherence ≡ n)) ⊎ ((coherent (present_body v) x.body ≡ true) × ((truth_or yoke_expected p.0 >>= λ t. require (t && within v.limit (as_whole x.value)) yoke_not_satisfied) ≡ fail n)) → In n all
        body (inl q) = Memᴰ.append_left limited (Memᴰ.append_right (yoke_checks_met v.yoke st x) (unless_in (coherent (present_body v) x.body) no_coherence n q.0 q.1))
        body (inr q) = third q.0 p.0 p.1 (fails (truth_or yoke_expected p.0) _ n q.1)

    first : (admitted vs v x ≡ fail n) ⊎ (◌≡◌ {A = Result (List Variable)} (ok (set vs k (with_content v x))) (fail n)) → In n all
    first (inl q) = second (fails (eval_yoke v.yoke st x) _ n q)
    first (inr q) = ok_is_fail q

pub change_met_lem : (vs : List Variable) (k : ℕ) (y : Yoke) (n : ℕ) → yoke_changed vs k y ≡ fail n → In n (on_filled (variable_at vs k).content (λ x. yoke_checks_met y (contents vs) x))
unfolding yoke_changed
change_met_lem vs k y n e = go (variable_at vs k).content (then_fails (yoke_holds vs y (variable_at vs k).content) _ n e)
  where
    held : (x : Composite) → (eval_yoke y (contents vs) x >>= λ r. truth_or yoke_expected r >>= λ t. require t yoke_not_satisfied) ≡ fail n → In n (yoke_checks_met y (contents vs) x)
    held x q = by (fails (eval_yoke y (contents vs) x) _ n q)
      where
        by : (eval_yoke y (contents vs) x ≡ fail n) ⊎ ((r : Composite) × (eval_yoke y (contents vs) x ≡ ok r) × ((truth_or yoke_expected r >>= λ t. require t yoke_not_satisfied) ≡ fail n)) → In n (yoke_checks_met y (contents vs) x)
        by (inl z) = yoke_checks_met_lem y (contents vs) x n (inl z)
        by (inr p) = asked (fails (truth_or yoke_expected p.0) _ n p.2)
          where
            asked : (truth_or yoke_expected p.0 ≡ fail n) ⊎ ((t : Bool) × (truth_or yoke_expected p.0 ≡ ok t) × (require t yoke_not_satisfied ≡ fail n)) → In n (yoke_checks_met y (contents vs) x)
            asked (inl z) = yoke_checks_met_lem y (contents vs) x n (inr (p.0, p.1, inl z))
            asked (inr s) =
                let z = require_fails s.0 yoke_not_satisfied n s.2 in
                yoke_checks_met_lem y (contents vs) x n (inr (p.0, p.1, inr (s.1 ∙ ap {B = Result Bool} ok z.0, z.1)))

    go : (c : Option Composite) → (yoke_holds vs y c ≡ fail n) ⊎ (◌≡◌ {A = Result (List Variable)} (ok (set vs k (with_yoke (variable_at vs k) y))) (fail n)) → In n (on_filled c (λ x. yoke_checks_met y (contents vs) x))
    go none (inl q) = unfold yoke_holds in ok_is_fail q
    go none (inr q) = ok_is_fail q
    go (some x) (inl q) = unfold yoke_holds in held x q
    go (some x) (inr q) = ok_is_fail q
