-- What is kept for all variables of a scope is the store that it starts with. Assumes nothing.
use Rattle.std.specs.Prelude.{◌≡◌, List, ℕ, ◌/◌, ◌≤◌, take}
use Rattle.std.proofs.Math.Path.{ap}
use Rattle.std.proofs.Common.{◌∙◌, arith}
use Rattle.std.proofs.Math.ListN.{length, length-map}
use Rattle.std.proofs.Math.Seq.{take_all}
use Rattle.lingua.specs.Numbers.{scope_table}
use Rattle.lingua.specs.Rows.{pair_count, procedure_count}
use Rattle.lingua.specs.Store.{Variable, states_in, bodies_in}
use Rattle.lingua.specs.Run.{unfilled, scope_declarations}
use Rattle.lingua.specs.Trees.{profile_of}
use Rattle.safety.specs.ProfileScopes.{scope_length}
use Rattle.decoder.specs.Tables.{IsTable}
use Rattle.decoder.specs.declared.tables.Table.{Table}
use Rattle.run.specs.Begun.{scope_start}
use Rattle.run.specs.Kept.{YokesKept, BodiesKept}

module _ (rows limits : List ℕ) (a : ℕ) (h : a ≤ procedure_count rows) (t : Table) (is : IsTable rows (scope_table a) t) where
  whole : take (t.count / 2) (scope_start rows limits a) ≡ scope_start rows limits a
  unfolding pair_count
  whole =
      take_all (t.count / 2) (scope_start rows limits a)
      (let e : length (scope_start rows limits a) ≡ pair_count rows (scope_table a) = length-map (scope_declarations (profile_of rows limits) a) unfilled ∙ scope_length rows limits a h in
      let c : t.count / 2 ≡ pair_count rows (scope_table a) = ap (λ (n : ℕ). n / 2) is.count in
      omega (arith, e, c))

  pub start_states : {states : List ℕ} → YokesKept rows t states (t.count / 2) → states ≡ states_in (scope_start rows limits a)
  start_states k = k.is limits a h is ∙ ap (λ (us : List Variable). states_in us) whole

  pub start_bodies : {bodies : List ℕ} → BodiesKept rows t bodies (t.count / 2) → bodies ≡ bodies_in (scope_start rows limits a)
  start_bodies k = k.is limits a h is ∙ ap (λ (us : List Variable). bodies_in us) whole
