-- What a run keeps of each variable: its declared body and limit, a yoke that reads no variable, and, where it is filled, a value that
-- fits its own body, satisfies the current yoke and lies within the limits; only a record's body is ever another than the declared one. Assignments, yoke changes and readings keep it. Assumes nothing.
use Rattle.std.specs.Prelude.{◌≡◌, refl, Bool, true, false, ◌&&◌, List, [], ◌∷◌, ℕ, zero, suc, set}
use Rattle.std.proofs.Common.{sym, ap, ◌∙◌, subst}
use Rattle.std.proofs.Math.Option.{Option, some, none}
use Rattle.lingua.specs.Errors.{overflow, yoke_not_satisfied, no_coherence, yoke_expected}
use Rattle.lingua.specs.Outcome.{ok, Result, ◌>>=◌, require}
use Rattle.lingua.specs.Body.{Body, attributes_of, coherent}
use Rattle.lingua.specs.Value.{as_whole, Composite, in_range_of}
use Rattle.lingua.specs.Expression.{Yoke}
use Rattle.lingua.specs.Evaluation.{Variables, truth_or, boolean_of, eval_yoke}
use Rattle.lingua.specs.Store.{Variable, variable_at, present_of, present_body, contents, with_content, with_yoke, within, admitted, assigned, yoke_holds, yoke_changed, Reading, reading_taken, counts_hundredths, reading_value}
use Rattle.laws.specs.Outcomes.{and_left, and_right, none_is_some}
use Rattle.laws.specs.Coherent.{coherent_alone}
use Rattle.safety.specs.Answers.{same_answer, never_ok, bound, demanded, after}
use Rattle.safety.specs.Constants.{Fitting, ClosedYoke, yoke_any_store}
use Rattle.safety.specs.Fitting.{FilledFit, yoke_fits, true_is}
use Rattle.laws.specs.Sound.{quantity_fits}

-- a value that a variable holds (document 01: it fits, its current yoke is satisfied, and it lies within the limits)
pub record Settled (v : Variable) (x : Composite) : Type 0 where
  pub unless_record : attributes_of v.body ≡ none → x.body ≡ v.body
  pub fits : Fitting x
  pub satisfied : (vars : Variables) → eval_yoke v.yoke vars x ≡ ok (boolean_of true)
  pub limited : within v.limit (as_whole x.value) ≡ true

-- a variable as it was declared, and as it is
pub record Kept (d v : Variable) : Type 0 where
  pub same_body_lem : v.body ≡ d.body
  pub same_limit : v.limit ≡ d.limit
  pub closed : ClosedYoke v.yoke
  pub settled : (x : Composite) → v.content ≡ some x → Settled v x

-- every variable of a store, as declared in another
unfoldable pub StoreKept : List Variable → List Variable → Type 0
StoreKept ds vs = (n : ℕ) → Kept (variable_at ds n) (variable_at vs n)

pub kept_fit : (ds vs : List Variable) → StoreKept ds vs → FilledFit (contents vs)
unfolding StoreKept FilledFit
kept_fit ds vs h n x e = ((h n).settled x e).fits

-- ---- one variable replaced
pub replaced : (P : ℕ → Variable → Type 0) (vs : List Variable) (n : ℕ) (v : Variable) → P n v → ((m : ℕ) → P m (variable_at vs m)) → (m : ℕ) → P m (variable_at (set vs n v) m)
replaced P [] n v p h m = h m
replaced P (x ∷ vs) zero v p h zero = p
replaced P (x ∷ vs) zero v p h (suc m) = h (suc m)
replaced P (x ∷ vs) (suc n) v p h zero = h zero
replaced P (x ∷ vs) (suc n) v p h (suc m) = replaced (λ k w. P (suc k) w) vs n v p (λ k. h (suc k)) m

some_same : {A : Type 0} {a b : A} → some a ≡ some b → a ≡ b
some_same e = cc

required_true : (t : Bool) (n : ℕ) (u : Unit {0}) → ◌≡◌ {A = Result (Unit {0})} (require t n) (ok u) → t ≡ true
required_true true n u e = refl
required_true false n u e = never_ok e

-- ---- assignment
-- what the checks of a new value show
pub record Admitted (vs : List Variable) (v : Variable) (x : Composite) : Type 0 where
  pub is_coherent : coherent (present_body v) x.body ≡ true
  pub satisfied : (eval_yoke v.yoke (contents vs) x >>= λ y. truth_or yoke_expected y) ≡ ok true
  pub limited : within v.limit (as_whole x.value) ≡ true

pub admitted_shows : (vs : List Variable) (v : Variable) (x : Composite) → admitted vs v x ≡ ok tt → Admitted vs v x
unfolding admitted
admitted_shows vs v x e =
    let p = bound (eval_yoke v.yoke (contents vs) x) _ tt e in
    let q = demanded (coherent (present_body v) x.body) no_coherence _ tt p.2 in
    let r = bound (truth_or yoke_expected p.0) _ tt q.1 in
    let t = required_true (r.0 && within v.limit (as_whole x.value)) yoke_not_satisfied tt r.2 in
    record { is_coherent = q.0; satisfied = ap (λ (o : Result Composite). o >>= λ y. truth_or yoke_expected y) p.1 ∙ r.1 ∙ ap {B = Result Bool} ok (and_left r.0 (within v.limit (as_whole x.value)) t); limited = and_right r.0 (within v.limit (as_whole x.value)) t }

-- a yoke that gave true in one store gives true in every store
pub satisfied_everywhere : (y : Yoke) → ClosedYoke y → (vars : Variables) → FilledFit vars → (x : Composite) → Fitting x
    → (eval_yoke y vars x >>= λ r. truth_or yoke_expected r) ≡ ok true → (others : Variables) → eval_yoke y others x ≡ ok (boolean_of true)
satisfied_everywhere y c vars fit x h e others =
    let p = bound (eval_yoke y vars x) _ true e in
    yoke_any_store y c others vars x ∙ p.1 ∙ ap {B = Result Composite} ok (true_is yoke_expected p.0 true (yoke_fits y c vars fit x h p.0 p.1) p.2)

-- a variable whose declared body is no record has that body
present_alone : (v : Variable) → ((x : Composite) → v.content ≡ some x → Settled v x) → attributes_of v.body ≡ none → present_body v ≡ v.body
present_alone v h e = by v.content refl
  where
    by : (c : Option Composite) → v.content ≡ c → present_of v.body c ≡ v.body
    by none q = refl
    by (some x) q = (h x q).unless_record e

coherent_keeps : (v : Variable) → ((x : Composite) → v.content ≡ some x → Settled v x) → (x : Composite) → coherent (present_body v) x.body ≡ true → attributes_of v.body ≡ none → x.body ≡ v.body
coherent_keeps v h x c e =
    sym (coherent_alone v.body x.body e (ap (λ (b : Body). coherent b x.body) (sym (present_alone v h e)) ∙ c))

pub assigned_kept : (ds vs : List Variable) → StoreKept ds vs → (n : ℕ) (x : Composite) → Fitting x → (ws : List Variable) → assigned vs n x ≡ ok ws → StoreKept ds ws
unfolding assigned StoreKept
assigned_kept ds vs h n x fit ws e =
    let p = after (admitted vs (variable_at vs n) x) _ ws e in
    subst (λ (us : List Variable). (m : ℕ) → Kept (variable_at ds m) (variable_at us m)) (same_answer p.1)
    (replaced (λ m v. Kept (variable_at ds m) v) vs n (with_content (variable_at vs n) x) (kept (admitted_shows vs (variable_at vs n) x p.0)) h)
  where
    kept : Admitted vs (variable_at vs n) x → Kept (variable_at ds n) (with_content (variable_at vs n) x)
    kept a =
        record {
          same_body_lem = (h n).same_body_lem;
          same_limit = (h n).same_limit;
          closed = (h n).closed;
          settled = λ z q. subst (λ (w : Composite). Settled (with_content (variable_at vs n) x) w) (some_same q)
              (record { unless_record = coherent_keeps (variable_at vs n) (h n).settled x a.is_coherent; fits = fit; satisfied = satisfied_everywhere (variable_at vs n).yoke (h n).closed (contents vs) (kept_fit ds vs h) x fit a.satisfied; limited = a.limited });
        }

-- ---- yoke change
yoke_holds_lem : (vs : List Variable) (y : Yoke) (c : Option Composite) (x : Composite) → c ≡ some x → yoke_holds vs y c ≡ ok tt
    → (eval_yoke y (contents vs) x >>= λ r. truth_or yoke_expected r) ≡ ok true
unfolding yoke_holds
yoke_holds_lem vs y none x q e = none_is_some q
yoke_holds_lem vs y (some w) x q e =
    let p = bound (eval_yoke y (contents vs) w) _ tt e in
    let r = bound (truth_or yoke_expected p.0) _ tt p.2 in
    subst (λ (z : Composite). (eval_yoke y (contents vs) z >>= λ s. truth_or yoke_expected s) ≡ ok true) (some_same q)
    (ap (λ (o : Result Composite). o >>= λ s. truth_or yoke_expected s) p.1 ∙ r.1 ∙ ap {B = Result Bool} ok (required_true r.0 yoke_not_satisfied tt r.2))

pub changed_kept : (ds vs : List Variable) → StoreKept ds vs → (n : ℕ) (y : Yoke) → ClosedYoke y → (ws : List Variable) → yoke_changed vs n y ≡ ok ws → StoreKept ds ws
unfolding yoke_changed StoreKept
changed_kept ds vs h n y c ws e =
    let p = after (yoke_holds vs y (variable_at vs n).content) _ ws e in
    subst (λ (us : List Variable). (m : ℕ) → Kept (variable_at ds m) (variable_at us m)) (same_answer p.1)
    (replaced (λ m v. Kept (variable_at ds m) v) vs n (with_yoke (variable_at vs n) y) (kept p.0) h)
  where
    kept : yoke_holds vs y (variable_at vs n).content ≡ ok tt → Kept (variable_at ds n) (with_yoke (variable_at vs n) y)
    kept q =
        record {
          same_body_lem = (h n).same_body_lem;
          same_limit = (h n).same_limit;
          closed = c;
          settled = λ x e. let s = (h n).settled x e in
              record { unless_record = s.unless_record; fits = s.fits; satisfied = satisfied_everywhere y c (contents vs) (kept_fit ds vs h) x s.fits (yoke_holds_lem vs y (variable_at vs n).content x e q); limited = s.limited };
        }

-- ---- what holds of each content, variable by variable
pub assigned_each : (P : ℕ → Composite → Type 0) (vs : List Variable) → ((m : ℕ) (z : Composite) → contents vs m ≡ some z → P m z) → (n : ℕ) (x : Composite) → P n x
    → (ws : List Variable) → assigned vs n x ≡ ok ws → (m : ℕ) (z : Composite) → contents ws m ≡ some z → P m z
unfolding assigned
assigned_each P vs h n x p ws e =
    let q = after (admitted vs (variable_at vs n) x) _ ws e in
    subst (λ (us : List Variable). (m : ℕ) (z : Composite) → contents us m ≡ some z → P m z) (same_answer q.1)
    (replaced (λ m v. (z : Composite) → v.content ≡ some z → P m z) vs n (with_content (variable_at vs n) x) (λ z r. subst (P n) (some_same r) p) h)

-- another yoke leaves the contents
pub changed_each : (P : ℕ → Composite → Type 0) (vs : List Variable) → ((m : ℕ) (z : Composite) → contents vs m ≡ some z → P m z) → (n : ℕ) (y : Yoke)
    → (ws : List Variable) → yoke_changed vs n y ≡ ok ws → (m : ℕ) (z : Composite) → contents ws m ≡ some z → P m z
unfolding yoke_changed
changed_each P vs h n y ws e =
    let q = after (yoke_holds vs y (variable_at vs n).content) _ ws e in
    subst (λ (us : List Variable). (m : ℕ) (z : Composite) → contents us m ≡ some z → P m z) (same_answer q.1)
    (replaced (λ m v. (z : Composite) → v.content ≡ some z → P m z) vs n (with_yoke (variable_at vs n) y) (h n) h)

-- ---- readings
pub reading_kept : (ds vs : List Variable) → StoreKept ds vs → (r : Reading) (ws : List Variable) → reading_taken vs r ≡ ok ws → StoreKept ds ws
unfolding reading_taken
reading_kept ds vs h r ws e =
    let p = demanded (in_range_of (counts_hundredths vs r) r.number) overflow _ ws e in
    assigned_kept ds vs h r.variable (reading_value (counts_hundredths vs r) r.number) (quantity_fits (counts_hundredths vs r) r.number p.0) ws p.1
