-- A variable's declared body, by the table of its scope. Assumes nothing.
use mathlib.Core.Path.{◌≡◌, sym, subst}
use mathlib.Core.List.{List}
use Prim.Native.Nat.{ℕ, ◌/◌, ◌<◌}
use native.Mathlib.Omega.{arith}
use Rattle.lingua.specs.Outcome.{Result}
use Rattle.lingua.specs.Body.{Body, boolean}
use Rattle.lingua.specs.Rows.{pair_count}
use Rattle.lingua.specs.Trees.{body_or, body_in}
use Rattle.safety.specs.Every.{tabulate_at}
use Rattle.decoder.specs.declared.tables.Table.{Table}
use Rattle.body.specs.Encode.{Holds}
use Rattle.profile.specs.Variables.{HasScope, own_table, DeclaredIs}
use Rattle.profile.proofs.Declaring.{pairs}
use Rattle.typing.specs.Check.{variable_bodies}

pub variable_is : (rows : List ℕ) (s n : ℕ) → n < pair_count rows s → variable_bodies rows s n ≡ body_or (body_in rows s n)
unfolding variable_bodies
variable_is rows s n l = tabulate_at (pair_count rows s) (λ d. body_or (body_in rows s d)) n boolean l

pub variable_holds : (rows : List ℕ) (s n : ℕ) (x : List ℕ) → n < pair_count rows s → DeclaredIs rows s n x → Holds x (variable_bodies rows s n)
variable_holds rows s n x l v =
    rw (variable_is rows s n l) (subst (λ (o : Result Body). Holds x (body_or o)) (sym v.is) v.holds)

-- variables are as many as the table has pairs
pub in_pairs : (rows : List ℕ) (t : Table) (n : ℕ) → HasScope rows t → n < pair_count rows t.section → n < t.count / 2
in_pairs rows t n scope l = omega (arith, pairs rows t.section t (own_table scope.table))
