-- What is known where declarations are read, those of the profile or of a procedure, a variable's declared body as the code has it, and its
-- limit as a run keeps it. Assumes nothing.
use Rattle.std.specs.Prelude.{◌≡◌, List, ℕ, ◌+◌, ◌≤◌, ℤ, pos, get_or}
use Rattle.std.proofs.Common.{sym, ap, ◌∙◌, subst, arith}
use Rattle.std.proofs.Math.Option.{Option, some, none}
use Rattle.lingua.specs.Numbers.{declaration_section, type_section, scope_table}
use Rattle.lingua.specs.Outcome.{ok}
use Rattle.lingua.specs.Body.{Body}
use Rattle.lingua.specs.Store.{Limit}
use Rattle.lingua.specs.Rows.{table_count, procedure_count}
use Rattle.lingua.specs.Trees.{body_in}
use Rattle.lingua.specs.References.{yoke_in}
use Rattle.safety.specs.Accepted.{AcceptedRows}
use Rattle.body.specs.Encode.{Holds}
use Rattle.decoder.specs.Tables.{IsTable}
use Rattle.rules.specs.Types.{BodiesBelow}
use Rattle.decoder.specs.declared.tables.Table.{Table}

-- ---- whose variables
-- the table is that of a scope's variables: 0 for the profile's own, else 1 + the procedure's number
pub record HasScope (rows : List ℕ) (t : Table) : Type 0 where
  pub scope : ℕ
  pub there : scope ≤ procedure_count rows
  pub table : IsTable rows (scope_table scope) t

pub scope_of : {rows : List ℕ} {t : Table} (a : ℕ) → a ≤ procedure_count rows → IsTable rows (scope_table a) t → HasScope rows t
scope_of a h is = record { scope = a; there = h; table = is }

-- the profile's own
pub own_scope : {rows : List ℕ} {t : Table} → IsTable rows declaration_section t → HasScope rows t
own_scope is = record { scope = 0; there = omega arith; table = is }

-- a table by the number that it has itself
pub own_table : {rows : List ℕ} {s : ℕ} {t : Table} → IsTable rows s t → IsTable rows t.section t
own_table {rows} {s} {t} is = subst (λ (n : ℕ). IsTable rows n t) (sym is.section) is

-- what is known of an accepted profile where its declarations are read: the bodies of the type rows
pub record DeclarationsKnown (rows : List ℕ) (bodies : List ℕ) : Type 0 where
  pub accepted : AcceptedRows rows
  pub held : BodiesBelow rows bodies (table_count rows type_section)

-- the same where a scope's are read
pub record VariablesKnown (rows : List ℕ) (t : Table) (bodies : List ℕ) : Type 0 where
  pub scope : HasScope rows t
  pub accepted : AcceptedRows rows
  pub held : BodiesBelow rows bodies (table_count rows type_section)

pub variables_known : {rows : List ℕ} {t : Table} {bodies : List ℕ} → IsTable rows declaration_section t → DeclarationsKnown rows bodies → VariablesKnown rows t bodies
variables_known is k = record { scope = own_scope is; accepted = k.accepted; held = k.held }

-- ---- declared bodies and yokes, by the table's number
pub record DeclaredIs (rows : List ℕ) (s d : ℕ) (x : List ℕ) : Type 0 where
  pub body : Body
  pub is : body_in rows s d ≡ ok body
  pub holds : Holds x body

pub declared_in : {rows : List ℕ} {s : ℕ} {t : Table} {d : ℕ} {x : List ℕ} → IsTable rows s t → DeclaredIs rows t.section d x → DeclaredIs rows s d x
declared_in {rows} {s} {t} {d} {x} is h = subst (λ (n : ℕ). DeclaredIs rows n d x) is.section h

pub yoke_in_lem : {rows : List ℕ} {s : ℕ} {t : Table} (d y : ℕ) → IsTable rows s t → y ≡ yoke_in rows t.section d → y ≡ yoke_in rows s d
yoke_in_lem {rows} d y is h = h ∙ ap (λ (n : ℕ). yoke_in rows n d) is.section

-- ---- limits
-- a limit in three cells: whether there is one, and its two ends
unfoldable pub LimitAt : List ℤ → ℕ → Option Limit → Type 0
LimitAt limits at none = get_or limits at (pos 0) ≡ pos 0
LimitAt limits at (some l) = (get_or limits at (pos 0) ≡ pos 1) × (get_or limits (at + 1) (pos 0) ≡ l.low) × (get_or limits (at + 2) (pos 0) ≡ l.high)
