-- The scopes of the profile that rows are read as, whether or not they are accepted: scope 0 has the profile's variables with their limits
-- and the program, scope 1 + k those of procedure k, without limits, and its body; scopes behind the procedures have no variables and skip.
-- Assumes nothing.
use Rattle.std.specs.Prelude.{◌≡◌, length}
use Rattle.std.proofs.Math.Path.{refl, ap}
use Rattle.std.proofs.Common.{sym, ◌∙◌, subst, ⊎_elim, arith}
use mathlib.Core.List.{List, [], ◌∷◌, map}
use Rattle.std.proofs.Math.Option.{Option, none}
use Prim.Native.Nat.{ℕ, zero, suc, ◌≤◌, ◌<◌, pred}
use Rattle.lingua.specs.Numbers.{declaration_section, instruction_section, scope_table}
use Rattle.lingua.specs.Body.{boolean}
use Rattle.lingua.specs.Expression.{Instruction, skip}
use Rattle.lingua.specs.Store.{Limit}
use Rattle.lingua.specs.Run.{Declaration, Procedure, no_procedure, procedure_at, Profile, scope_declarations, scope_program}
use Rattle.lingua.specs.Typing.{bodies_of, all_declarations, scope_bodies}
use Rattle.lingua.specs.Rows.{table_count, pair_count, procedure_count, body_row}
use Rattle.lingua.specs.Trees.{tabulate, instruction_tree, body_in, body_or, name_at, limit_of, declaration_in, declaration_at, procedure_of, profile_of}
use Rattle.laws.specs.Tests.{below_or}
use Rattle.safety.specs.Every.{Every, every_none, every_more, every_append, every_joined, every_tabulate, tabulate_at, tabulate_behind, mapped_at, length_tabulate}

-- only the profile's variables have limits
abbrev pub scope_limit : List ℕ → List ℕ → ℕ → ℕ → Option Limit
scope_limit rows lims zero d = limit_of lims (name_at rows declaration_section d)
scope_limit rows lims (suc k) d = none

-- the instruction row that a scope runs
abbrev pub scope_row : List ℕ → ℕ → ℕ
scope_row rows zero = pred (table_count rows instruction_section)
scope_row rows (suc k) = body_row rows k

-- what holds of the declarations of each scope holds of all; this of any profile
pub all_declared : (P : Declaration → Type 0) (p : Profile) → ((a : ℕ) → Every P (scope_declarations p a)) → Every P (all_declarations p)
unfolding all_declarations
all_declared P p h = every_append (h 0) (every_joined (by p.procedures (λ k. h (suc k))))
  where
    by : (ps : List Procedure) → ((k : ℕ) → Every P (procedure_at ps k).variables) → Every (λ ds. Every P ds) (map (λ (q : Procedure). q.variables) ps)
    by [] g = every_none
    by (q ∷ qs) g = every_more (g 0) (by qs (λ k. g (suc k)))

module _ (rows lims : List ℕ) where
  pub procedure_at_lem : (k : ℕ) → k < procedure_count rows → procedure_at (profile_of rows lims).procedures k ≡ procedure_of rows k
  unfolding profile_of
  procedure_at_lem k l = tabulate_at (procedure_count rows) (λ j. procedure_of rows j) k no_procedure l

  pub procedure_behind : (k : ℕ) → procedure_count rows ≤ k → procedure_at (profile_of rows lims).procedures k ≡ no_procedure
  unfolding profile_of
  procedure_behind k l = tabulate_behind (procedure_count rows) (λ j. procedure_of rows j) k no_procedure l

  -- ---- variables
  -- declaration d of a scope
  abbrev pub scope_declaration : ℕ → ℕ → Declaration
  scope_declaration a d = declaration_in rows (scope_table a) (scope_limit rows lims a d) d

  pub scope_declarations_lem : (a : ℕ) → a ≤ procedure_count rows → scope_declarations (profile_of rows lims) a ≡ tabulate (pair_count rows (scope_table a)) (λ d. scope_declaration a d)
  unfolding profile_of declaration_at procedure_of
  scope_declarations_lem zero l = refl
  scope_declarations_lem (suc k) l = ap (λ (p : Procedure). p.variables) (procedure_at_lem k l)

  pub scope_empty : (a : ℕ) → procedure_count rows < a → scope_declarations (profile_of rows lims) a ≡ []
  scope_empty zero l = absurd (let z : ⊥ = omega arith in z)
  scope_empty (suc k) l = ap (λ (p : Procedure). p.variables) (procedure_behind k (omega arith))

  pub scope_length : (a : ℕ) → a ≤ procedure_count rows → length (scope_declarations (profile_of rows lims) a) ≡ pair_count rows (scope_table a)
  scope_length a l =
      ap (λ (ds : List Declaration). length ds) (scope_declarations_lem a l) ∙ length_tabulate (pair_count rows (scope_table a)) (λ d. scope_declaration a d)

  -- what holds of each declaration of a scope; one behind the procedures has none
  pub scope_every : (P : Declaration → Type 0) (a : ℕ) → (a ≤ procedure_count rows → (d : ℕ) → d < pair_count rows (scope_table a) → P (scope_declaration a d))
      → Every P (scope_declarations (profile_of rows lims) a)
  scope_every P a h =
      ⊎_elim (λ (l : procedure_count rows < a). subst (λ (ds : List Declaration). Every P ds) (sym (scope_empty a l)) every_none)
      (λ (l : a ≤ procedure_count rows). subst (λ (ds : List Declaration). Every P ds) (sym (scope_declarations_lem a l)) (every_tabulate (pair_count rows (scope_table a)) (λ d. scope_declaration a d) (h l)))
      (below_or (procedure_count rows) a)

  -- the declared body of a variable
  pub scope_body : (a : ℕ) → a ≤ procedure_count rows → (n : ℕ) → n < pair_count rows (scope_table a) → scope_bodies (profile_of rows lims) a n ≡ body_or (body_in rows (scope_table a) n)
  unfolding declaration_in
  scope_body a h n l =
      ap (λ (ds : List Declaration). bodies_of ds n) (scope_declarations_lem a h)
      ∙ mapped_at (λ (w : Declaration). w.body) (pair_count rows (scope_table a)) (λ d. scope_declaration a d) n boolean l

  -- a procedure's variables have no limits
  pub procedure_unlimited : (k : ℕ) → Every (λ w. w.limit ≡ none) (scope_declarations (profile_of rows lims) (suc k))
  unfolding declaration_in
  procedure_unlimited k = scope_every (λ w. w.limit ≡ none) (suc k) (λ h d l. refl)

  -- ---- what is run
  pub scope_program_lem : (a : ℕ) → a ≤ procedure_count rows → scope_program (profile_of rows lims) a ≡ instruction_tree rows (scope_row rows a)
  unfolding profile_of procedure_of
  scope_program_lem zero l = refl
  scope_program_lem (suc k) l = ap (λ (p : Procedure). p.body) (procedure_at_lem k l)

  pub scope_skips : (a : ℕ) → procedure_count rows < a → scope_program (profile_of rows lims) a ≡ skip 0
  scope_skips zero l = absurd (let z : ⊥ = omega arith in z)
  scope_skips (suc k) l = ap (λ (p : Procedure). p.body) (procedure_behind k (omega arith))

  -- what holds of a scope's tree, and of skip
  pub scope_runs : (P : Instruction → Type 0) (a : ℕ) → (a ≤ procedure_count rows → P (instruction_tree rows (scope_row rows a))) → P (skip 0) → P (scope_program (profile_of rows lims) a)
  scope_runs P a h k =
      ⊎_elim (λ (l : procedure_count rows < a). subst P (sym (scope_skips a l)) k)
      (λ (l : a ≤ procedure_count rows). subst P (sym (scope_program_lem a l)) (h l))
      (below_or (procedure_count rows) a)
