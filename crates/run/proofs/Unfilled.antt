-- The store that a run starts with: how many variables it has and what each is, that its cells are zeros, and its state words, one
-- variable after another. Assumes nothing.
use mathlib.Core.Path.{◌≡◌, refl, sym, ap, ◌∙◌}
use mathlib.Core.List.{List, [], ◌∷◌, ◌++◌, map}
use Prim.Native.Nat.{ℕ, suc, ◌+◌, ◌-◌, ◌*◌, ◌/◌, ◌≤◌, ◌<◌}
use native.Mathlib.Numerals.{add-one}
use native.Mathlib.Omega.{arith}
use lib.IntN.{ℤ, pos}
use lib.ListN.{length, take, replicate, length-replicate, length-map, replicate-append-replicate}
use lib.Seq.{take-suc, length-take-le}
use Rattle.lingua.specs.Numbers.{most_variables, body_cells, cells_length, states_length, scope_table}
use Rattle.lingua.specs.Value.{pad}
use Rattle.lingua.specs.Expression.{yoke_number}
use Rattle.lingua.specs.Store.{Variable, no_variable, variable_at, content_cells, store_cells, store_states, cells_in, states_in, set_yoke_at}
use Rattle.lingua.specs.Rows.{pair_count, procedure_count}
use Rattle.lingua.specs.Run.{Declaration, unfilled, scope_declarations}
use Rattle.lingua.specs.References.{yoke_in}
use Rattle.lingua.specs.Trees.{declaration_in, profile_of}
use Rattle.laws.specs.Stores.{yoke_more}
use Rattle.safety.specs.Every.{mapped_at}
use Rattle.safety.specs.Accepted.{AcceptedRows, few_variables}
use Rattle.safety.specs.ProfileScopes.{scope_declaration, scope_declarations_lem, scope_length}
use Rattle.decoder.specs.Tables.{IsTable}
use Rattle.decoder.specs.declared.tables.Table.{Table}
use Rattle.safety.specs.Named.{number_of}
use Rattle.profile.specs.Variables.{HasScope, yoke_in_lem}
use Rattle.run.specs.Begun.{scope_start}
use Rattle.run.specs.Kept.{YokesKept}

-- ---- its variables
-- the declarations that a table counts
pub counted : (rows : List ℕ) (s : ℕ) (t : Table) → IsTable rows s t → t.count / 2 ≡ pair_count rows s
unfolding pair_count
counted rows s t h = ap (λ (n : ℕ). n / 2) h.count

pub few_counted : (rows : List ℕ) (t : Table) → AcceptedRows rows → HasScope rows t → t.count / 2 ≤ most_variables
few_counted rows t a h = omega (arith, counted rows (scope_table h.scope) t h.table, few_variables rows a h.scope h.there)

module _ (rows limits : List ℕ) (a : ℕ) (h : a ≤ procedure_count rows) where
  pub start_count : length (scope_start rows limits a) ≡ pair_count rows (scope_table a)
  start_count = length-map (scope_declarations (profile_of rows limits) a) unfilled ∙ scope_length rows limits a h

  pub start_at : (n : ℕ) → n < pair_count rows (scope_table a) → variable_at (scope_start rows limits a) n ≡ unfilled (scope_declaration rows limits a n)
  start_at n l =
      ap (λ (ds : List Declaration). variable_at (map unfilled ds) n) (scope_declarations_lem rows limits a h)
      ∙ mapped_at unfilled (pair_count rows (scope_table a)) (λ d. scope_declaration rows limits a d) n no_variable l

-- ---- its cells
no_cells : (ds : List Declaration) → store_cells (map unfilled ds) ≡ replicate (body_cells * length ds) (pos 0)
unfolding store_cells content_cells pad
no_cells [] = refl
no_cells (d ∷ ds) =
    ap (λ (l : List ℤ). replicate body_cells (pos 0) ++ l) (no_cells ds)
    ∙ replicate-append-replicate body_cells (body_cells * length ds) (pos 0)
    ∙ ap (λ (k : ℕ). replicate k (pos 0)) (let e : body_cells + body_cells * length ds ≡ body_cells * suc (length ds) = omega arith in e)

cells_none : (ds : List Declaration) → length ds ≤ most_variables → cells_in (map unfilled ds) ≡ replicate cells_length (pos 0)
unfolding cells_in pad
cells_none ds h =
    let n = body_cells * length ds in
    ap (λ (l : List ℤ). l ++ replicate (cells_length - length l) (pos 0)) (no_cells ds)
    ∙ replicate-append-replicate n (cells_length - length (replicate n (pos 0))) (pos 0)
    ∙ ap (λ (k : ℕ). replicate k (pos 0)) (let e : n + (cells_length - length (replicate n (pos 0))) ≡ cells_length = omega (arith, length-replicate n (pos 0)) in e)

pub start_cells : (rows limits : List ℕ) (a : ℕ) (cells : List ℤ) → AcceptedRows rows → a ≤ procedure_count rows → cells ≡ replicate cells_length (pos 0) → cells ≡ cells_in (scope_start rows limits a)
start_cells rows limits a cells accepted h e =
    e ∙ sym (cells_none (scope_declarations (profile_of rows limits) a) (omega (arith, few_variables rows accepted a h, scope_length rows limits a h)))

-- ---- its state words
declared_number : (rows limits : List ℕ) (a d : ℕ) → yoke_number (scope_declaration rows limits a d).declared ≡ yoke_in rows (scope_table a) d
unfolding declaration_in yoke_in
declared_number rows limits a d = number_of rows (yoke_in rows (scope_table a) d)

pub states_long : (states : List ℕ) → states ≡ replicate states_length 0 → length states ≡ states_length
states_long states e = ap (λ (l : List ℕ). length l) e ∙ length-replicate {A = ℕ} states_length 0

pub yokes_none : (rows : List ℕ) (t : Table) (states : List ℕ) → states ≡ replicate states_length 0 → YokesKept rows t states 0
unfolding states_in store_states pad
yokes_none rows t states e = record { is = λ limits a h i. e }

pub yokes_more : (rows : List ℕ) (t : Table) (states : List ℕ) (d y : ℕ) → AcceptedRows rows → d < t.count / 2 → YokesKept rows t states d → y ≡ yoke_in rows t.section d
    → (after : List ℕ) → after ≡ set_yoke_at states d y → YokesKept rows t after (d + 1)
yokes_more rows t states d y accepted l k e after q = record { is = λ limits a h i. q ∙ one limits a h i }
  where
    one : (limits : List ℕ) (a : ℕ) → a ≤ procedure_count rows → IsTable rows (scope_table a) t → set_yoke_at states d y ≡ states_in (take (d + 1) (scope_start rows limits a))
    one limits a h i =
        let vs = scope_start rows limits a in
        let n = start_count rows limits a h in
        let w = scope_declaration rows limits a d in
        let there : d < pair_count rows (scope_table a) = omega (arith, counted rows (scope_table a) t i) in
        let m : length (take d vs) ≡ d = length-take-le d vs (omega arith) in
        ap (λ (s : List ℕ). set_yoke_at s d y) (k.is limits a h i)
        ∙ ap (λ (z : ℕ). set_yoke_at (states_in (take d vs)) d z) (yoke_in_lem d y i e ∙ sym (declared_number rows limits a d))
        ∙ ap (λ (j : ℕ). set_yoke_at (states_in (take d vs)) j (yoke_number w.declared)) (sym m)
        ∙ sym (yoke_more (take d vs) w (omega (arith, m, few_variables rows accepted a h)))
        ∙ ap (λ (v : Variable). states_in (take d vs ++ (v ∷ []))) (sym (start_at rows limits a h d there))
        ∙ ap (λ (us : List Variable). states_in us) (sym (take-suc vs d no_variable (omega arith)))
        ∙ ap (λ (j : ℕ). states_in (take j vs)) (sym (add-one d))
