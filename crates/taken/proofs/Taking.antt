-- What a run's rules come to: its buffers refuse it, the files or its readings, or nothing does. Assumes nothing.
use mathlib.Core.Path.{◌≡◌, sym, ap, ◌∙◌, subst}
use mathlib.Core.Bool.{Bool, true, false}
use mathlib.Core.List.{List}
use Prim.Native.Nat.{ℕ}
use lib.ListN.{length, take}
use Rattle.std.specs.Prelude.{Result, Ok, Err}
use Rattle.std.proofs.Common.{arith}
use Rattle.std.proofs.lemmas.Bool.Decides.{nat_tests}
use Rattle.lingua.specs.Numbers.{cells_length, states_length, open_cells_length, open_states_length}
use Rattle.lingua.specs.declared.errors.Refusal.{Refusal}
use Rattle.lingua.specs.declared.errors.Refusal.TheVariants.{BadBuffer, BadReading}
use Rattle.lingua.specs.Faults.{refusal_number, refusal_of}
use Rattle.lingua.specs.Format.{rows_of}
use Rattle.lingua.specs.Inputs.{Inputs, Buffers}
use Rattle.lingua.specs.Refusal.{lowest, pair_rules, reading_wrong, run_fits, run_refusal}
use Rattle.pair.specs.Pair.{PairIs}
use Rattle.pair.specs.declared.Pair.{Pair}
use Rattle.pair.proofs.Returns.{some_refusal}
use Rattle.taken.specs.Taken.{RunAdmitted, RunIs}
use Rattle.taken.specs.declared.given.Admitted.{Admitted}
use Rattle.taken.proofs.Refusing.{unfit, files_refused, inputs_refused, none_refused}

-- buffers that fit are as long as listed
record Fits (i : Inputs) (b : Buffers) : Type 0 where
  pub same : length i.variables ≡ length i.numbers
  pub cells : length b.cells ≡ cells_length
  pub states : length b.states ≡ states_length
  pub open_cells : length b.open_cells ≡ open_cells_length
  pub open_states : length b.open_states ≡ open_states_length

fitting : (i : Inputs) (b : Buffers) → run_fits i b ≡ true → Fits i b
unfolding run_fits
fitting i b f = record {
  same = grind (arith, nat_tests);
  cells = grind (arith, nat_tests);
  states = grind (arith, nat_tests);
  open_cells = grind (arith, nat_tests);
  open_states = grind (arith, nat_tests);
}

module _ (i : Inputs) (b : Buffers) where
  -- ---- refused
  refused_by : {e : Refusal} {others : List ℕ} → run_refusal i b ≡ refusal_number e → RunIs (Err e) i b others
  refused_by q = record { refusal = sym q; admitted = λ a z. cc }

  pub unfit_buffers : {others : List ℕ} → run_fits i b ≡ false → RunIs (Err BadBuffer) i b others
  unfit_buffers f = refused_by (unfit i b f)

  module _ (f : run_fits i b ≡ true) where
    pub files_wrong : {r : Result Pair Refusal} {areas others bodies : List ℕ} {e : Refusal} → PairIs r i.profile i.limits areas others bodies → r ≡ Err e → RunIs (Err e) i b others
    files_wrong {r} {e = e} h q =
        refused_by (files_refused i b f (refusal_number e) (sym (ap (λ (x : Result Pair Refusal). refusal_of x) q) ∙ h.refusal) (some_refusal e))

    module _ {r : Result Pair Refusal} {p : Pair} {areas others bodies : List ℕ} (h : PairIs r i.profile i.limits areas others bodies) (given : r ≡ Ok p) {rows : List ℕ} (are : rows ≡ take p.profile.length areas) (w : Bool) (is : w ≡ reading_wrong rows i.variables) where
      accepted : lowest (pair_rules i.profile i.limits) ≡ 0
      accepted = sym h.refusal ∙ ap (λ (x : Result Pair Refusal). refusal_of x) given

      wrong_is : reading_wrong (rows_of i.profile) i.variables ≡ w
      wrong_is = ap (λ (x : List ℕ). reading_wrong x i.variables) (sym (are ∙ (h.taken p given).rows)) ∙ sym is

      pub readings_wrong : w ≡ true → RunIs (Err BadReading) i b others
      readings_wrong q = refused_by (inputs_refused i b f accepted (wrong_is ∙ q))

      -- ---- or not
      pub none_wrong : w ≡ false → (g : Admitted) → g.rows ≡ take p.profile.length areas → g.limits ≡ p.limits → g.owners ≡ p.owners → g.bodies.now ≡ bodies → RunIs (Ok g) i b others
      none_wrong q g r m o held =
          let l = fitting i b f in
          let k = h.taken p given in
          record {
            refusal = sym (none_refused i b f accepted (wrong_is ∙ q));
            admitted = λ a z. let e : g ≡ a = cc in subst (λ (x : Admitted). RunAdmitted x i b others) e (record {
              long_cells = l.cells;
              long_states = l.states;
              long_open_cells = l.open_cells;
              long_open_states = l.open_states;
              accepted = accepted;
              rows = r ∙ k.rows;
              limits = rw m k.limits;
              within_others = rw m k.within_others;
              limit_tables = rw m k.limit_tables;
              is_known = rw (o, held) (record { owned = k.limited; held = k.held });
              readable = record { same_length = l.same; right = wrong_is ∙ q };
            });
          }
