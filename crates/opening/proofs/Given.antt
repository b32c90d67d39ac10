-- The variables that a call gives, each with its parameter: both are there, and in the erased run they have one declared body. Assumes nothing.
use mathlib.Core.Path.{◌≡◌, sym, ap, ◌∙◌, subst}
use mathlib.Core.Bool.{true}
use mathlib.Core.List.{List, [], ◌∷◌}
use Prim.Native.Nat.{ℕ, zero, suc, ◌+◌, ◌≤◌, ◌<◌, min}
use native.Mathlib.Omega.{arith}
use lib.ListN.{length, get_or, length-append, get_or-append}
use lib.Seq.{get_or-append-add}
use Rattle.lingua.specs.Numbers.{most_parameters, instruction_section, variable_table, scope_table}
use Rattle.lingua.specs.Body.{same_body}
use Rattle.lingua.specs.Rows.{table_count, pair_count, value_count, reference_count, groups}
use Rattle.lingua.specs.Expression.{call, Instruction}
use Rattle.lingua.specs.Store.{Variable}
use Rattle.lingua.specs.Run.{Profile}
use Rattle.lingua.specs.Typing.{Bodies, given_fit, scope_bodies}
use Rattle.lingua.specs.Trees.{instruction_tree, instruction_scope, given_values, given_references}
use Rattle.laws.specs.Outcomes.{and_left, and_right, same_body_lem}
use Rattle.safety.specs.Every.{Every, every_more}
use Rattle.safety.specs.Accepted.{AcceptedRows, length_groups, given_values_lem, given_references_lem}
use Rattle.safety.specs.Derivation.{DerivedRow}
use Rattle.safety.specs.Layout.{HoldsIn}
use Rattle.decoder.specs.Tables.{IsProcedure}
use Rattle.decoder.specs.Decoded.{instruction_meaning}
use Rattle.decoder.specs.declared.decode.InstructionRow.TheVariants as does
use Rattle.decoder.specs.declared.tables.Procedure.{Procedure}
use Rattle.profile.specs.Facts.{CallFacts, call_facts, InstructionFacts, instruction_row_tree, instruction_row_tree_lem}
use Rattle.run.specs.Reached.{Lent}
use Rattle.frames.specs.Ways.{Way, checked, erased}
use Rattle.frames.specs.Meaning.{Context, ErasedIn, HoldsBy, Holds, Pair, AllPairs, AllBack}
use Rattle.opening.specs.Meaning.{Under, CallAt}
use Rattle.opening.specs.Calls.{given_all}
use Rattle.opening.proofs.Rows.{holds_accepted, scope_is}

-- ---- one of a list
every_get : {P : ℕ → Type 0} (xs : List ℕ) → Every P xs → (j : ℕ) → j < length xs → P (get_or xs j 0)
every_get [] h j l = absurd (let z : ⊥ = omega arith in z)
every_get (x ∷ xs) (every_more h hs) zero l = h
every_get (x ∷ xs) (every_more h hs) (suc j) l = every_get xs hs j (omega arith)

given_body : (vars params : Bodies) (ns : List ℕ) (m : ℕ) → given_fit vars ns params m ≡ true → (j : ℕ) → j < length ns → vars (get_or ns j 0) ≡ params (m + j)
unfolding given_fit
given_body vars params [] m e j l = absurd (let z : ⊥ = omega arith in z)
given_body vars params (n ∷ ns) m e zero l =
    same_body_lem (vars n) (params m) (and_left (same_body (vars n) (params m)) (given_fit vars ns params (suc m)) e)
    ∙ ap params (let q : m ≡ m + 0 = omega arith in q)
given_body vars params (n ∷ ns) m e (suc j) l =
    given_body vars params ns (suc m) (and_right (same_body (vars n) (params m)) (given_fit vars ns params (suc m)) e) j (omega arith)
    ∙ ap params (let q : suc m + j ≡ m + suc j = omega arith in q)

-- ---- how many the code counts
pub record Counted (rows : List ℕ) (k m n : ℕ) : Type 0 where
  pub values : m ≡ min most_parameters (value_count rows k)
  pub references : n ≡ min most_parameters (reference_count rows k)

pub counted : {rows : List ℕ} {k m n : ℕ} {q : Procedure} → IsProcedure rows k q → m ≡ min most_parameters q.values → n ≡ min most_parameters q.references → Counted rows k m n
counted h e f =
    record { values = e ∙ ap (λ (j : ℕ). min most_parameters j) h.values; references = f ∙ ap (λ (j : ℕ). min most_parameters j) h.references }

module _ {rows : List ℕ} {k m n : ℕ} (h : Counted rows k m n) where
  pub few_values : m ≤ most_parameters
  few_values = omega (arith, h.values)

  pub few_references : n ≤ most_parameters
  few_references = omega (arith, h.references)

  pub values_are : (b : ℕ) → groups m b ≡ given_values rows k b
  unfolding given_values
  values_are b = ap (λ (j : ℕ). groups j b) h.values

  pub references_are : (c : ℕ) → groups n c ≡ given_references rows k c
  unfolding given_references
  references_are c = ap (λ (j : ℕ). groups j c) h.references

  pub values_long : (b : ℕ) → m ≡ length (given_values rows k b)
  values_long b = sym (length_groups m b) ∙ ap (λ (xs : List ℕ). length xs) (values_are b)

  pub references_long : (c : ℕ) → n ≡ length (given_references rows k c)
  references_long c = sym (length_groups n c) ∙ ap (λ (xs : List ℕ). length xs) (references_are c)

-- ---- a call's row
module _ {row k b c : ℕ} {w : Way} {p : Profile} {a : ℕ} {x : Context} {l : Lent} {vs : List Variable} (h : Holds w p a x l vs) (under : Under x.rows a row)
    (says : CallAt x.rows row k b c) (there : row < table_count x.rows instruction_section) where
  accepted : AcceptedRows x.rows
  accepted = holds_accepted w h

  pub call_known : CallFacts x.rows row k b c
  unfolding instruction_meaning
  call_known = call_facts x.rows accepted row there k b c (sym says.is)

  at_scope : instruction_scope x.rows row ≡ a
  at_scope = scope_is x.rows accepted a row h.here under

  tree_is : instruction_tree x.rows row ≡ call row k (given_values x.rows k b) (given_references x.rows k c)
  unfolding InstructionFacts instruction_row_tree
  tree_is = instruction_row_tree_lem x.rows row (does.Call k b c) says.is call_known

  -- each is a variable of the caller
  given_there : (j : ℕ) → j < length (given_all x.rows k b c) → get_or (given_all x.rows k b c) j 0 < length vs
  given_there j i =
      let e : pair_count x.rows (scope_table (instruction_scope x.rows row)) ≡ pair_count x.rows (scope_table a) = ap (λ (s : ℕ). pair_count x.rows (scope_table s)) at_scope in
      omega (arith, every_get (given_all x.rows k b c) call_known.given j i, e, h.count)

  given_long : length (given_all x.rows k b c) ≤ pair_count x.rows (variable_table k)
  given_long =
      let f = call_known in
      omega (arith, length-append (given_values x.rows k b) (given_references x.rows k c), given_values_lem x.rows accepted k b f.procedure, given_references_lem x.rows accepted k c f.procedure, f.parameters.within)

  -- the type check passed the row
  given_fit_lem : w ≡ erased → given_fit (scope_bodies p a) (given_all x.rows k b c) (scope_bodies p (suc k)) 0 ≡ true
  unfolding HoldsBy DerivedRow
  given_fit_lem e =
      let held : ErasedIn p a x l vs = subst (λ (v : Way). HoldsBy v p a x l vs) e h.by in
      subst (λ (i : Instruction). DerivedRow (HoldsIn x.layout) (λ j. scope_bodies p (suc j)) (scope_bodies p a) i) tree_is
      (subst (λ (s : ℕ). DerivedRow (HoldsIn x.layout) (λ j. scope_bodies p (suc j)) (scope_bodies p s) (instruction_tree x.rows row)) at_scope (held.running.passed_rows row there))

  given_same : w ≡ erased → (j : ℕ) → j < length (given_all x.rows k b c) → scope_bodies p a (get_or (given_all x.rows k b c) j 0) ≡ scope_bodies p (suc k) j
  given_same e j i =
      given_body (scope_bodies p a) (scope_bodies p (suc k)) (given_all x.rows k b c) 0 (given_fit_lem e) j i
      ∙ ap (scope_bodies p (suc k)) (let q : 0 + j ≡ j = omega arith in q)

  module _ {m n : ℕ} (count : Counted x.rows k m n) (ws : List Variable) (long : length ws ≡ pair_count x.rows (variable_table k)) where
    value_at : (i : ℕ) → i < m → get_or (groups m b) i 0 ≡ get_or (given_all x.rows k b c) i 0
    value_at i q =
        ap (λ (xs : List ℕ). get_or xs i 0) (values_are count b)
        ∙ sym (get_or-append (given_values x.rows k b) (given_references x.rows k c) 0 i (omega (arith, q, values_long count b)))

    reference_at : (i : ℕ) → get_or (groups n c) i 0 ≡ get_or (given_all x.rows k b c) (m + i) 0
    reference_at i =
        ap (λ (xs : List ℕ). get_or xs i 0) (references_are count c)
        ∙ sym (get_or-append-add (given_values x.rows k b) (given_references x.rows k c) i 0)
        ∙ ap (λ (j : ℕ). get_or (given_all x.rows k b c) (j + i) 0) (sym (values_long count b))

    all_long : length (given_all x.rows k b c) ≡ m + n
    all_long = omega (arith, length-append (given_values x.rows k b) (given_references x.rows k c), values_long count b, references_long count c)

    -- one of them with its parameter, by the two numbers that the code has
    pair_at : (j d : ℕ) → j < m + n → d ≡ get_or (given_all x.rows k b c) j 0 → Pair w p a (suc k) vs ws d j
    pair_at j d i e =
        let q : j < length (given_all x.rows k b c) = omega (arith, i, all_long) in
        record { from = omega (arith, e, given_there j q); to = omega (arith, q, given_long, long); may = λ z. ap (scope_bodies p a) e ∙ given_same z j q }

    pub value_pairs : AllPairs w p a (suc k) vs ws b m 0
    value_pairs = record {
      each = λ i q.
          subst (λ (j : ℕ). Pair w p a (suc k) vs ws (get_or (groups m b) i 0) j) (let z : i ≡ 0 + i = omega arith in z) (pair_at i (get_or (groups m b) i 0) (omega (arith, q)) (value_at i q));
    }

    reference_pair : (i : ℕ) → i < n → Pair w p a (suc k) vs ws (get_or (groups n c) i 0) (m + i)
    reference_pair i q = pair_at (m + i) (get_or (groups n c) i 0) (omega (arith, q)) (reference_at i)

    pub reference_pairs : AllPairs w p a (suc k) vs ws c n m
    reference_pairs = record { each = reference_pair }

    -- what was given by reference comes back
    pub references_back : AllBack w p (suc k) a ws vs c n m
    references_back = record { each = λ i q. let u = reference_pair i q in record { from = u.to; to = u.from; may = λ e. sym (u.may e) } }
