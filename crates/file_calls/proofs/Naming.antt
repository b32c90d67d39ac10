-- The ways in which the search for a variable by its name ends as a call: refused, found or missing. Assumes nothing.
use mathlib.Core.Path.{◌≡◌, refl, sym, ap, ◌∙◌, subst}
use mathlib.Core.List.{List}
use mathlib.Core.Option.{Option as Maybe, some, none}
use Prim.Native.Nat.{ℕ, suc, ◌≤◌, ◌<◌}
use native.Mathlib.Nat.{suc-pred-eq_of_ne-zero}
use native.Mathlib.Omega.{arith}
use lib.ListN.{take}
use Rattle.lingua.specs.Numbers.{most_variables, declaration_section}
use Rattle.lingua.specs.Rows.{pair_count}
use Rattle.lingua.specs.Lookup.{Lookup, lookup, look_up}
use Rattle.lingua.specs.Format.{profile, rows_of}
use Rattle.std.specs.Prelude.{Ok, Err, Option, Some, None, IfSome}
use Rattle.lingua.specs.declared.errors.Refusal.{Refusal}
use Rattle.lingua.specs.Refusal.{find_refusal}
use Rattle.lingua.specs.Answers.{answered, index_found, find_meaning}
use Rattle.lingua.specs.Calls.{find_unless, find_call}
use Rattle.laws.specs.Lookup.{found_first, found_none}
use Rattle.rules.specs.Accepted.{counts}
use Rattle.safety.specs.Accepted.{AcceptedRows}
use Rattle.pair.specs.Taken.{TakenIs}
use Rattle.pair.specs.declared.file.Taken.{Taken}
use Rattle.pair.proofs.Pairs.{accepted_file}
use Rattle.pair.proofs.Returns.{none_of_either, some_refusal}
use Rattle.profile.specs.Find.{found_at, found_meaning}
use Rattle.profile.specs.declared.find.Search.{Search}

pub find_refused : {e : Refusal} (file areas bodies name : List ℕ) → TakenIs (Err e) profile file areas bodies → find_meaning (Err e) ≡ find_call file name
unfolding find_meaning find_call find_unless find_refusal
find_refused {e} file areas bodies name h = rw (sym h.refusal, sym (suc-pred-eq_of_ne-zero (some_refusal e)))

-- both write an index that is found in one way
same_index : (i : Option ℕ) → index_found i ≡ found_at i
same_index (Some d) = refl
same_index None = refl

module _ (t : Taken) (file areas bodies rows name : List ℕ) (h : TakenIs (Ok t) profile file areas bodies) (are : rows ≡ take t.length areas) where
  refusal_is : find_refusal file ≡ 0
  unfolding find_refusal
  refusal_is = sym h.refusal

  rows_are : rows ≡ rows_of file
  rows_are = are ∙ (h.taken t refl).rows

  few : pair_count rows declaration_section ≤ most_variables
  few = (counts rows (subst (λ (x : List ℕ). AcceptedRows x) (sym rows_are) (accepted_file file (none_of_either profile file h.refusal).1)).counts).variables.most

  module _ (r : Search) (is : found_meaning r ≡ look_up rows name) where
    told : look_up rows name ≡ lookup (found_at r.index) r.looked
    unfolding found_meaning
    told = sym is

    -- the two numbers fit the answer's
    small_by : (i : Option ℕ) → r.index ≡ i → IfSome i (λ d. d < 65536) × (r.looked < 65536)
    small_by (Some d) e =
        let at : look_up rows name ≡ lookup (some d) r.looked = told ∙ ap (λ (i : Option ℕ). lookup (found_at i) r.looked) e in
        let f = found_first rows name d (ap (λ (l : Lookup). l.found) at) in
        let looks : r.looked ≡ suc d = sym (ap (λ (l : Lookup). l.looked) at) ∙ f.1 in
        (omega (arith, f.0.there, few), omega (arith, f.0.there, few, looks))
    small_by None e =
        let missing : look_up rows name ≡ lookup none r.looked = told ∙ ap (λ (i : Option ℕ). lookup (found_at i) r.looked) e in
        let f = found_none rows name (ap (λ (l : Lookup). l.found) missing) in
        let looks : r.looked ≡ pair_count rows declaration_section = sym (ap (λ (l : Lookup). l.looked) missing) ∙ f.1 in
        (tt, omega (arith, few, looks))

    pub index_small : IfSome r.index (λ d. d < 65536)
    index_small = (small_by r.index refl).0

    pub looked_small : r.looked < 65536
    looked_small = (small_by r.index refl).1

    pub find_done : {index : Option ℕ} → index ≡ r.index → find_meaning (Ok (record { index = index; looked = r.looked })) ≡ find_call file name
    unfolding find_meaning find_call find_unless
    find_done {index} e =
        rw refusal_is
        (ap (λ (i : Option ℕ). answered (lookup (index_found i) r.looked)) e
        ∙ ap (λ (i : Maybe ℕ). answered (lookup i r.looked)) (same_index r.index)
        ∙ ap answered (sym told)
        ∙ ap (λ (x : List ℕ). answered (look_up x name)) rows_are)
