-- `typecheck::given::given_fit` meets its contract. The invariant: what is asked of the groups that are left is asked of all. Assumes nothing.
use mathlib.Core.Path.{◌≡◌}
use Prim.Native.Nat.{◌+◌, ◌-◌, ◌<◌}
use Rattle.lingua.specs.Rows.{pair_count, groups}
use Rattle.lingua.specs.Typing.{given_fit}
use Rattle.safety.specs.Every.{Every}
use Rattle.typing.specs.Check.{variable_bodies, declared_bodies}
use Rattle.typecheck.proofs.given.given_fit.Given as goal

abbrev pub invariant-loop-m : goal.invariant-loop-m
invariant-loop-m l =
    (given_fit (declared_bodies l.scope) (groups (l.first + l.n - l.m) l.rest) (variable_bodies l.scope.rows.now l.parameters.section) l.m ≡ given_fit (declared_bodies l.scope) (groups l.n l.w) (variable_bodies l.scope.rows.now l.parameters.section) l.first)
    × Every (λ i. i < pair_count l.scope.rows.now l.scope.variables.section) (groups (l.first + l.n - l.m) l.rest)
