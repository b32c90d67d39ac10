-- Copies one after the other: where a loop over them stands in the definition, from the first copy on. Assumes nothing.
use mathlib.Core.Path.{◌≡◌, refl, sym, ap, ◌∙◌, subst}
use mathlib.Core.Bool.{Bool, true, false, true≢false, false≢true}
use Rattle.std.specs.Prelude.{Result as CodeResult, Ok, Err, is_err, is_some}
use Rattle.lingua.specs.declared.errors.Error.{Error}
use Rattle.lingua.specs.Faults.{error_number, number_of}
use Rattle.laws.specs.Faults.{error_some}
use mathlib.Core.List.{List, [], ◌∷◌}
use Prim.Native.Nat.{ℕ, suc, ◌+◌, ◌<◌}
use native.Mathlib.Numerals.{add-one}
use native.Mathlib.Omega.{arith}
use lib.IntN.{ℤ}
use lib.ListN.{get_or, drop}
use lib.Seq.{drop-cons, drop-length}
use borrow.Author.Tests.{eq-eqb, ne_eqb}
use Rattle.lingua.specs.Outcome.{ok, fail, Result, ◌>>=◌}
use Rattle.lingua.specs.Rows.{groups}
use Rattle.lingua.specs.Store.{Variable, assigned, copied, copied_in}
use Rattle.lingua.specs.Run.{State, Profile, settled, clean_only, copied_out}
use Rattle.safety.specs.Accepted.{length_groups}
use Rattle.run.specs.declared.steps.Status.{Status}
use Rattle.run.specs.Statuses.{state_of, recorded}
use Rattle.run.specs.Reached.{Lent}
use Rattle.run.specs.Acting.{some_recorded, none_recorded}
use Rattle.frames.specs.Ways.{Way}
use Rattle.frames.specs.Meaning.{Context, Holds, Facing, Pair, HasFacing, Copies, AllPairs, AllBack, CopiesIn, CopiesOut}

-- ---- an error, and none, as a number
pub fault_number : {A : Type 0} (r : CodeResult A Error) → is_err r ≡ true → number_of r ≡ 0 → ⊥
fault_number (Ok a) e z = absurd (false≢true e)
fault_number (Err x) e z = error_some x z

pub no_fault_number : {A : Type 0} (r : CodeResult A Error) → is_err r ≡ false → number_of r ≡ 0
no_fault_number (Ok a) e = refl
no_fault_number (Err x) e = absurd (true≢false e)

-- ---- the groups of a field, from one on
groups_at : (count field i : ℕ) → i < count → drop i (groups count field) ≡ get_or (groups count field) i 0 ∷ drop (suc i) (groups count field)
groups_at count field i l = drop-cons (groups count field) i 0 (omega (arith, length_groups count field))

groups_end : (count field i : ℕ) → i ≡ count → drop i (groups count field) ≡ []
groups_end count field i e = ap (λ (j : ℕ). drop j (groups count field)) (e ∙ sym (length_groups count field)) ∙ drop-length (groups count field)

-- ---- one copy of many
module _ (vs us : List Variable) (n : ℕ) (ns : List ℕ) (m : ℕ) where
  in_stored : (next : List Variable) → copied assigned vs n us m ≡ ok next → copied_in assigned vs (n ∷ ns) m us ≡ copied_in assigned vs ns (suc m) next
  unfolding copied_in
  in_stored next e = ap (λ (o : Result (List Variable)). o >>= λ x. copied_in assigned vs ns (suc m) x) e

  in_failed : (r : ℕ) → copied assigned vs n us m ≡ fail r → copied_in assigned vs (n ∷ ns) m us ≡ fail r
  unfolding copied_in
  in_failed r e = ap (λ (o : Result (List Variable)). o >>= λ x. copied_in assigned vs ns (suc m) x) e

module _ (row : ℕ) (vs : List Variable) where
  -- with an error recorded nothing comes back
  none_back : (m : ℕ) (ns : List ℕ) (s : State) → (s.error ≡ 0 → ⊥) → copied_out assigned row vs m ns s ≡ s
  unfolding copied_out
  none_back m [] s h = refl
  none_back m (n ∷ ns) s h =
      ap (λ (b : Bool). clean_only b s (λ t. copied_out assigned row vs (suc m) ns (settled t row (copied assigned vs m t.store n)))) (ne_eqb s.error 0 h)

  one_back : (m n : ℕ) (ns : List ℕ) (s : State) → s.error ≡ 0
      → copied_out assigned row vs m (n ∷ ns) s ≡ copied_out assigned row vs (suc m) ns (settled s row (copied assigned vs m s.store n))
  unfolding copied_out
  one_back m n ns s e =
      ap (λ (b : Bool). clean_only b s (λ t. copied_out assigned row vs (suc m) ns (settled t row (copied assigned vs m t.store n)))) (eq-eqb s.error 0 e)

  module _ (us : List Variable) (m n : ℕ) (ns : List ℕ) (s : Status) (e : is_some s.error ≡ false) where
    out_stored : (next : List Variable) → copied assigned vs m us n ≡ ok next
        → copied_out assigned row vs m (n ∷ ns) (state_of s us) ≡ copied_out assigned row vs (suc m) ns (state_of s next)
    out_stored next q =
        one_back m n ns (state_of s us) (none_recorded s.error e) ∙ ap (λ (o : Result (List Variable)). copied_out assigned row vs (suc m) ns (settled (state_of s us) row o)) q

    out_failed : (error : Error) → copied assigned vs m us n ≡ fail (error_number error) → copied_out assigned row vs m (n ∷ ns) (state_of s us) ≡ state_of (recorded s (Err error) row) us
    out_failed error q =
        one_back m n ns (state_of s us) (none_recorded s.error e)
        ∙ ap (λ (o : Result (List Variable)). copied_out assigned row vs (suc m) ns (settled (state_of s us) row o)) q
        ∙ none_back (suc m) ns (state_of (recorded s (Err error) row) us) (error_some error)

-- ---- the store that memory holds by now
-- with what holds of it
pub record Reaching (w : Way) (p : Profile) (b : ℕ) (c : Context) (l : Lent) (Q : List Variable → Type 0) : Type 0 where
  pub store : List Variable
  pub is : Q store
  pub holds : Holds w p b c l store

-- what holds of the two stores as they were and of this one, for any two such memories with a property
pub record Copying (w : Way) (from : Lent) (c : Context) (l₀ l : Lent) (P : Profile → ℕ → ℕ → List Variable → List Variable → Type 0)
    (Q : List Variable → List Variable → List Variable → Type 0) : Type 0 where
  pub each : (p : Profile) (a b : ℕ) (limits : List ℤ) (vs ws : List Variable) → Facing w p a b limits from vs c l₀ ws → P p a b vs ws → Reaching w p b c l (Q vs ws)

module _ {w : Way} {from : Lent} {c : Context} {l₀ l : Lent} {P : Profile → ℕ → ℕ → List Variable → List Variable → Type 0}
    {Q : List Variable → List Variable → List Variable → Type 0} (h : Copying w from c l₀ l P Q) {n m : ℕ}
    (one : (p : Profile) (a b : ℕ) (vs ws : List Variable) → P p a b vs ws → Pair w p a b vs ws n m) where
  same_pair : {p : Profile} {a b : ℕ} {vs ws us : List Variable} → Pair w p a b vs ws n m → Holds w p b c l₀ ws → Holds w p b c l us → Pair w p a b vs us n m
  same_pair u f g = record { from = u.from; to = omega (arith, u.to, f.count, g.count); may = u.may }

  facing_now : {room space : ℕ} → HasFacing w from c l₀ room P → room ≡ space → HasFacing w from c l space (λ p a b vs us. Pair w p a b vs us n m)
  facing_now f e =
      let k = h.each f.profile f.source f.target f.limits f.given f.taken f.facing f.property in
      record {
        profile = f.profile;
        source = f.source;
        target = f.target;
        limits = f.limits;
        given = f.given;
        taken = k.store;
        facing = record { gives = f.facing.gives; takes = k.holds };
        property = same_pair (one f.profile f.source f.target f.given f.taken f.property) f.facing.takes k.holds;
        enough = omega (arith, f.enough, e);
      }

  -- one copy more, or its error with the memory as it is
  module _ {after : Lent} {r : ℕ} (k : Copies w from c l after n m r) where
    stored_now : {R : List Variable → List Variable → List Variable → Type 0} → r ≡ 0
        → ((vs ws us next : List Variable) → Q vs ws us → copied assigned vs n us m ≡ ok next → R vs ws next) → Copying w from c l₀ after P R
    stored_now {R} z f = record { each = each }
      where
        each : (p : Profile) (a b : ℕ) (limits : List ℤ) (vs ws : List Variable) → Facing w p a b limits from vs c l₀ ws → P p a b vs ws → Reaching w p b c after (R vs ws)
        each p a b limits vs ws g u =
            let q = h.each p a b limits vs ws g u in
            let s = (k.settles p a b limits vs q.store (record { gives = g.gives; takes = q.holds }) (same_pair (one p a b vs ws u) g.takes q.holds)).answer z in
            record { store = s.store; is = f vs ws q.store s.store q.is s.is; holds = s.running }

    failed_now : {R : List Variable → List Variable → List Variable → Type 0} → (r ≡ 0 → ⊥)
        → ((vs ws us : List Variable) → Q vs ws us → copied assigned vs n us m ≡ fail r → R vs ws us) → Copying w from c l₀ after P R
    failed_now {R} z f = record { each = each }
      where
        each : (p : Profile) (a b : ℕ) (limits : List ℤ) (vs ws : List Variable) → Facing w p a b limits from vs c l₀ ws → P p a b vs ws → Reaching w p b c after (R vs ws)
        each p a b limits vs ws g u =
            let q = h.each p a b limits vs ws g u in
            let s = (k.settles p a b limits vs q.store (record { gives = g.gives; takes = q.holds }) (same_pair (one p a b vs ws u) g.takes q.holds)).error z in
            record { store = q.store; is = f vs ws q.store q.is s.is; holds = subst (λ (x : Lent). Holds w p b c x q.store) (sym s.same) q.holds }

-- ---- copies in: what is left of the definition, from group i on
abbrev pub GoingIn : Way → Lent → Context → Lent → Lent → ℕ → ℕ → ℕ → ℕ → Type 0
GoingIn w from c l₀ l field count first i =
    Copying w from c l₀ l (λ p a b vs ws. AllPairs w p a b vs ws field count first)
    (λ vs ws us. copied_in assigned vs (groups count field) first ws ≡ copied_in assigned vs (drop i (groups count field)) (first + i) us)

module _ {w : Way} {from : Lent} {c : Context} {l₀ : Lent} (field count first : ℕ) where
  pub in_first : GoingIn w from c l₀ l₀ field count first 0
  in_first =
      record { each = λ p a b limits vs ws g u. record { store = ws; is = ap (λ (j : ℕ). copied_in assigned vs (groups count field) j ws) (omega arith); holds = g.takes } }

  module _ {l : Lent} (i : ℕ) (h : GoingIn w from c l₀ l field count first i) where
    pub in_ends : i ≡ count → CopiesIn w from c l₀ l field count first 0
    unfolding copied_in
    in_ends e = record {
      answer = λ p a b limits vs ws g u z.
          let q = h.each p a b limits vs ws g u in
          record { store = q.store; is = q.is ∙ ap (λ (ns : List ℕ). copied_in assigned vs ns (first + i) q.store) (groups_end count field i e); running = q.holds };
      error = λ p a b limits vs ws g u z. absurd (z refl);
    }

    module _ {n : ℕ} (there : i < count) (is : n ≡ get_or (groups count field) i 0) where
      in_one : (p : Profile) (a b : ℕ) (vs ws : List Variable) → AllPairs w p a b vs ws field count first → Pair w p a b vs ws n (first + i)
      in_one p a b vs ws u = subst (λ (k : ℕ). Pair w p a b vs ws k (first + i)) (sym is) (u.each i there)

      in_left : (vs us : List Variable) → copied_in assigned vs (drop i (groups count field)) (first + i) us ≡ copied_in assigned vs (n ∷ drop (suc i) (groups count field)) (first + i) us
      in_left vs us =
          ap (λ (ns : List ℕ). copied_in assigned vs ns (first + i) us) (groups_at count field i there ∙ ap (λ (k : ℕ). k ∷ drop (suc i) (groups count field)) (sym is))

      pub in_facing : {room space : ℕ} → HasFacing w from c l₀ room (λ p a b vs ws. AllPairs w p a b vs ws field count first) → room ≡ space
          → HasFacing w from c l space (λ p a b vs us. Pair w p a b vs us n (first + i))
      in_facing f e = facing_now h in_one f e

      module _ {after : Lent} {r : ℕ} (k : Copies w from c l after n (first + i) r) where
        pub in_more : r ≡ 0 → GoingIn w from c l₀ after field count first (i + 1)
        in_more z = stored_now h in_one k z (λ vs ws us next q e. q ∙ in_left vs us ∙ in_stored vs us n (drop (suc i) (groups count field)) (first + i) next e ∙ turned vs next)
          where
            turned : (vs next : List Variable) → copied_in assigned vs (drop (suc i) (groups count field)) (suc (first + i)) next ≡ copied_in assigned vs (drop (i + 1) (groups count field)) (first + (i + 1)) next
            turned vs next = rw (add-one i) (ap (λ (j : ℕ). copied_in assigned vs (drop (suc i) (groups count field)) j next) (omega arith))

        pub in_stops : (r ≡ 0 → ⊥) → CopiesIn w from c l₀ after field count first r
        in_stops z =
            let f : Copying w from c l₀ after (λ p a b vs ws. AllPairs w p a b vs ws field count first) (λ vs ws us. copied_in assigned vs (groups count field) first ws ≡ fail r) =
            failed_now h in_one k z (λ vs ws us q e. q ∙ in_left vs us ∙ in_failed vs us n (drop (suc i) (groups count field)) (first + i) r e) in
            record { answer = λ p a b limits vs ws g u e. absurd (z e); error = λ p a b limits vs ws g u e. (f.each p a b limits vs ws g u).is }

-- ---- copies out, as long as no error is recorded
abbrev pub GoingOut : Way → Lent → Context → Lent → Lent → ℕ → ℕ → ℕ → ℕ → Status → ℕ → Type 0
GoingOut w from c l₀ l row field count first s i =
    Copying w from c l₀ l (λ p a b vs ws. AllBack w p a b vs ws field count first)
    (λ vs ws us. copied_out assigned row vs first (groups count field) (state_of s ws) ≡ copied_out assigned row vs (first + i) (drop i (groups count field)) (state_of s us))

module _ {w : Way} {from : Lent} {c : Context} {l₀ : Lent} (row field count first : ℕ) (s : Status) where
  pub out_first : GoingOut w from c l₀ l₀ row field count first s 0
  out_first = record {
    each = λ p a b limits vs ws g u.
        record { store = ws; is = ap (λ (j : ℕ). copied_out assigned row vs j (groups count field) (state_of s ws)) (omega arith); holds = g.takes };
  }

  -- the body failed
  pub out_none : is_some s.error ≡ true → CopiesOut w from c l₀ l₀ row field count first s s
  out_none h = record {
    back = λ p a b limits vs ws g u.
        record { store = ws; is = none_back row vs first (groups count field) (state_of s ws) (some_recorded s.error h); holds = g.takes; same_out = refl };
  }

  module _ {l : Lent} (i : ℕ) (h : GoingOut w from c l₀ l row field count first s i) where
    pub out_ends : i ≡ count → CopiesOut w from c l₀ l row field count first s s
    unfolding copied_out
    out_ends e = record {
      back = λ p a b limits vs ws g u.
          let q = h.each p a b limits vs ws g u in
          record {
            store = q.store;
            is = q.is ∙ ap (λ (ns : List ℕ). copied_out assigned row vs (first + i) ns (state_of s q.store)) (groups_end count field i e);
            holds = q.holds;
            same_out = refl;
          };
    }

    module _ {n : ℕ} (there : i < count) (is : n ≡ get_or (groups count field) i 0) where
      out_one : (p : Profile) (a b : ℕ) (vs ws : List Variable) → AllBack w p a b vs ws field count first → Pair w p a b vs ws (first + i) n
      out_one p a b vs ws u = subst (λ (k : ℕ). Pair w p a b vs ws (first + i) k) (sym is) (u.each i there)

      out_left : (vs us : List Variable)
          → copied_out assigned row vs (first + i) (drop i (groups count field)) (state_of s us) ≡ copied_out assigned row vs (first + i) (n ∷ drop (suc i) (groups count field)) (state_of s us)
      out_left vs us =
          ap (λ (ns : List ℕ). copied_out assigned row vs (first + i) ns (state_of s us)) (groups_at count field i there ∙ ap (λ (k : ℕ). k ∷ drop (suc i) (groups count field)) (sym is))

      pub out_facing : {room space : ℕ} → HasFacing w from c l₀ room (λ p a b vs ws. AllBack w p a b vs ws field count first) → room ≡ space
          → HasFacing w from c l space (λ p a b vs us. Pair w p a b vs us (first + i) n)
      out_facing f e = facing_now h out_one f e

      module _ {after : Lent} (r : CodeResult (Unit {0}) Error) (k : Copies w from c l after (first + i) n (number_of r)) (clean : is_some s.error ≡ false) where
        pub out_more : is_err r ≡ false → GoingOut w from c l₀ after row field count first s (i + 1)
        out_more z =
            stored_now h out_one k (no_fault_number r z) (λ vs ws us next q e. q ∙ out_left vs us ∙ out_stored row vs us (first + i) n (drop (suc i) (groups count field)) s clean next e ∙ turned vs next)
          where
            turned : (vs next : List Variable)
                → copied_out assigned row vs (suc (first + i)) (drop (suc i) (groups count field)) (state_of s next) ≡ copied_out assigned row vs (first + (i + 1)) (drop (i + 1) (groups count field)) (state_of s next)
            turned vs next = rw (add-one i) (ap (λ (j : ℕ). copied_out assigned row vs j (drop (suc i) (groups count field)) (state_of s next)) (omega arith))

        -- the error of the one that failed is recorded at the call's row
        pub out_stops : (t : Status) → is_err r ≡ true → t ≡ recorded s r row → CopiesOut w from c l₀ after row field count first s t
        out_stops t z same = subst (λ (x : Status). CopiesOut w from c l₀ after row field count first s x) (sym same) (stops r k z)
          where
            stops : (x : CodeResult (Unit {0}) Error) → Copies w from c l after (first + i) n (number_of x) → is_err x ≡ true → CopiesOut w from c l₀ after row field count first s (recorded s x row)
            stops (Ok u) one e = absurd (true≢false (sym e))
            stops (Err x) one e =
                let f : Copying w from c l₀ after (λ p a b vs ws. AllBack w p a b vs ws field count first) (λ vs ws us. copied_out assigned row vs first (groups count field) (state_of s ws) ≡ state_of (recorded s (Err x) row) us) =
                failed_now h out_one one (error_some x) (λ vs ws us q e. q ∙ out_left vs us ∙ out_failed row vs us (first + i) n (drop (suc i) (groups count field)) s clean x e) in
                record {
                  back = λ p a b limits vs ws g u.
                      let q = f.each p a b limits vs ws g u in
                      record { store = q.store; is = q.is; holds = q.holds; same_out = refl };
                }
