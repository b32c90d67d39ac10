-- A call before its body: its variables begin, and take what is given, values first. Assumes nothing.
use mathlib.Core.Path.{◌≡◌, refl, sym, ap, ◌∙◌}
use mathlib.Core.List.{List, [], ◌∷◌, ◌++◌}
use Prim.Native.Nat.{ℕ, suc, ◌+◌, ◌<◌}
use native.Mathlib.Omega.{arith}
use lib.IntN.{pos}
use lib.ListN.{length, replicate}
use Rattle.lingua.specs.Numbers.{cells_length, most_procedures, variable_table}
use Rattle.lingua.specs.Outcome.{ok, fail, Result, ◌>>=◌}
use Rattle.lingua.specs.Rows.{procedure_count, groups}
use Rattle.lingua.specs.Store.{Variable, Assigning, assigned, copied, copied_in}
use Rattle.lingua.specs.Run.{Profile}
use Rattle.lingua.specs.Trees.{given_values, given_references}
use Rattle.safety.specs.Accepted.{AcceptedRows, few_procedures_lem}
use Rattle.decoder.specs.Tables.{IsTable}
use Rattle.decoder.specs.declared.tables.Table.{Table}
use Rattle.profile.specs.Variables.{HasScope, scope_of}
use Rattle.run.specs.Reached.{Lent, StoredAs}
use Rattle.frames.specs.Ways.{Way, checked, erased}
use Rattle.frames.specs.Meaning.{Holds, Facing, HasFacing, AllPairs, CopiesIn, CallableBy, BeginsBy, Fresh}
use Rattle.frames.specs.Begins.{frame_begins}
use Rattle.opening.specs.Meaning.{Setting}
use Rattle.opening.specs.Calls.{unlimited, fresh_of, given_all, Calls, Calling, ZeroBodies, ZerosBy, Enters}
use Rattle.opening.proofs.Rows.{holds_accepted}
use Rattle.opening.proofs.Given.{Counted, values_are, values_long, references_are, call_known, value_pairs, reference_pairs}

-- ---- copies one after the other
copied_both : (storing : Assigning) (from : List Variable) (ns ms : List ℕ) (m : ℕ) (to : List Variable)
    → copied_in storing from (ns ++ ms) m to ≡ (copied_in storing from ns m to >>= λ next. copied_in storing from ms (m + length ns) next)
unfolding copied_in
copied_both storing from [] ms m to = ap (λ (j : ℕ). copied_in storing from ms j to) (let q : m ≡ m + 0 = omega arith in q)
copied_both storing from (n ∷ ns) ms m to = by (copied storing from n to m) (λ next. copied_both storing from ns ms (suc m) next)
  where
    by : (o : Result (List Variable))
        → ((next : List Variable) → copied_in storing from (ns ++ ms) (suc m) next ≡ (copied_in storing from ns (suc m) next >>= λ us. copied_in storing from ms (suc m + length ns) us))
        → (o >>= λ next. copied_in storing from (ns ++ ms) (suc m) next) ≡ ((o >>= λ next. copied_in storing from ns (suc m) next) >>= λ us. copied_in storing from ms (m + suc (length ns)) us)
    by (ok next) f = f next ∙ ap (λ (j : ℕ). copied_in storing from ns (suc m) next >>= λ us. copied_in storing from ms j us) (let q : suc m + length ns ≡ m + suc (length ns) = omega arith in q)
    by (fail e) f = refl

module _ (from : List Variable) (ns ms : List ℕ) (to : List Variable) where
  then_copied : {first : ℕ} (next : List Variable) → copied_in assigned from ns 0 to ≡ ok next → first ≡ length ns → copied_in assigned from (ns ++ ms) 0 to ≡ copied_in assigned from ms first next
  then_copied {first} next e f =
      copied_both assigned from ns ms 0 to
      ∙ ap (λ (o : Result (List Variable)). o >>= λ us. copied_in assigned from ms (0 + length ns) us) e
      ∙ ap (λ (j : ℕ). copied_in assigned from ms j next) (let q : 0 + length ns ≡ first = omega arith in q)

  not_copied : {r : ℕ} → copied_in assigned from ns 0 to ≡ fail r → copied_in assigned from (ns ++ ms) 0 to ≡ fail r
  not_copied e = copied_both assigned from ns ms 0 to ∙ ap (λ (o : Result (List Variable)). o >>= λ us. copied_in assigned from ms (0 + length ns) us) e

-- ---- what the call's row shows
module _ {row k b c : ℕ} {w : Way} {s : Setting} {l : Lent} {room : ℕ} (h : Calling row k b c w s l room) where
  pub callee_there : k < procedure_count s.context.rows
  callee_there = (call_known h.calls.holds h.calls.under h.calls.says h.calls.there).procedure

  pub callee_accepted : AcceptedRows s.context.rows
  callee_accepted = holds_accepted w h.calls.holds

  pub callee_few : k < most_procedures
  callee_few = omega (arith, callee_there, few_procedures_lem s.context.rows callee_accepted)

  pub callee_scope : {t : Table} → IsTable s.context.rows (variable_table k) t → HasScope s.context.rows t
  callee_scope is = scope_of (suc k) callee_there is

  pub callee_begins : {own : Lent} → ZerosBy w own → BeginsBy w s.context.rows s.types own.bodies
  unfolding CallableBy ZeroBodies BeginsBy
  callee_begins {own} z = by w h.calls.callable.by z.bodies_are
    where
      by : (v : Way) → CallableBy v h.profile s.context s.types → ZeroBodies v own.bodies → BeginsBy v s.context.rows s.types own.bodies
      by checked f e = (f, e)
      by erased f e = e

-- ---- the copies
module _ {row k b c : ℕ} {w : Way} {s : Setting} {l own : Lent} {m n : ℕ} (count : Counted s.context.rows k m n) {t : Table} (is : IsTable s.context.rows (variable_table k) t)
    (zeros : own.cells ≡ replicate cells_length (pos 0)) (fresh : Fresh w s.context.rows t own.states own.bodies) where
  -- the variables begin, at every store that the caller's memory may hold
  begins : {p : Profile} {a : ℕ} {vs : List Variable} → Calls row k b c w p a s l vs → Holds w p (suc k) (unlimited s.context) own (fresh_of s.context.rows k)
  begins h = frame_begins w h.callable h.holds k (call_known h.holds h.under h.says h.there).procedure t is refl zeros fresh

  facing : {p : Profile} {a : ℕ} {vs ws : List Variable} {at : Lent} → Calls row k b c w p a s l vs → Holds w p (suc k) (unlimited s.context) at ws
      → Facing w p a (suc k) s.context.limits l vs (unlimited s.context) at ws
  facing h g = record { gives = h.holds; takes = g }

  -- first the values
  values_in : {p : Profile} {a : ℕ} {vs ws : List Variable} {at : Lent} → Calls row k b c w p a s l vs → Holds w p (suc k) (unlimited s.context) at ws → AllPairs w p a (suc k) vs ws b m 0
  values_in {ws = ws} h g = value_pairs h.holds h.under h.says h.there count ws g.count

  pub values_facing : {room : ℕ} → Calling row k b c w s l room → HasFacing w l (unlimited s.context) own room (λ p a d vs ws. AllPairs w p a d vs ws b m 0)
  values_facing h =
      let g = begins h.calls in
      record {
        profile = h.profile;
        source = h.scope;
        target = suc k;
        limits = s.context.limits;
        given = h.store;
        taken = fresh_of s.context.rows k;
        facing = facing h.calls g;
        property = values_in h.calls g;
        enough = h.enough;
      }

  module _ {mid : Lent} {r : ℕ} (first : CopiesIn w l (unlimited s.context) own mid b m 0 r) where
    -- one of them failed
    pub values_fail : (r ≡ 0 → ⊥) → Enters row k b c w s l mid r
    values_fail z = record {
      answer = λ p a vs h e. absurd (z e);
      error = λ p a vs h e.
          not_copied vs (given_values s.context.rows k b) (given_references s.context.rows k c) (fresh_of s.context.rows k)
          (ap (λ (ns : List ℕ). copied_in assigned vs ns 0 (fresh_of s.context.rows k)) (sym (values_are count b)) ∙ first.error p a (suc k) s.context.limits vs (fresh_of s.context.rows k) (facing h (begins h)) (values_in h (begins h)) z);
    }

    module _ (z : r ≡ 0) where
      values_stored : {p : Profile} {a : ℕ} {vs : List Variable} → Calls row k b c w p a s l vs
          → StoredAs (Holds w p (suc k) (unlimited s.context)) mid (copied_in assigned vs (groups m b) 0 (fresh_of s.context.rows k))
      values_stored {p} {a} {vs} h = first.answer p a (suc k) s.context.limits vs (fresh_of s.context.rows k) (facing h (begins h)) (values_in h (begins h)) z

      -- then the references, behind them
      references_in : {p : Profile} {a : ℕ} {vs ws : List Variable} → Calls row k b c w p a s l vs → Holds w p (suc k) (unlimited s.context) mid ws → AllPairs w p a (suc k) vs ws c n m
      references_in {ws = ws} h g = reference_pairs h.holds h.under h.says h.there count ws g.count

      pub references_facing : {room space : ℕ} → Calling row k b c w s l room → room ≡ space → HasFacing w l (unlimited s.context) mid space (λ p a d vs ws. AllPairs w p a d vs ws c n m)
      references_facing h e =
          let g = values_stored h.calls in
          record {
            profile = h.profile;
            source = h.scope;
            target = suc k;
            limits = s.context.limits;
            given = h.store;
            taken = g.store;
            facing = facing h.calls g.running;
            property = references_in h.calls g.running;
            enough = omega (arith, h.enough, e);
          }

      pub entered : {after : Lent} {q : ℕ} → CopiesIn w l (unlimited s.context) mid after c n m q → Enters row k b c w s l after q
      entered {after} {q} second = record {
        answer = λ p a vs h e.
            let g = values_stored h in
            let u = second.answer p a (suc k) s.context.limits vs g.store (facing h g.running) (references_in h g.running) e in
            record { store = u.store; is = all_in h ∙ u.is; running = u.running };
        error = λ p a vs h e.
            let g = values_stored h in
            all_in h ∙ second.error p a (suc k) s.context.limits vs g.store (facing h g.running) (references_in h g.running) e;
      }
        where
          all_in : {p : Profile} {a : ℕ} {vs : List Variable} (h : Calls row k b c w p a s l vs)
              → copied_in assigned vs (given_all s.context.rows k b c) 0 (fresh_of s.context.rows k) ≡ copied_in assigned vs (groups n c) m (values_stored h).store
          all_in {vs = vs} h =
              let g = values_stored h in
              then_copied vs (given_values s.context.rows k b) (given_references s.context.rows k c) (fresh_of s.context.rows k) g.store
              (ap (λ (ns : List ℕ). copied_in assigned vs ns 0 (fresh_of s.context.rows k)) (sym (values_are count b)) ∙ g.is) (values_long count b)
              ∙ ap (λ (ns : List ℕ). copied_in assigned vs ns m g.store) (sym (references_are count c))
