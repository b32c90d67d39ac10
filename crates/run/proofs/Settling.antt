-- How a store ends: with an error and the memory as it was, or with the new store in memory. Assumes nothing.
use mathlib.Core.Path.{◌≡◌, refl, subst}
use mathlib.Core.List.{List}
use Prim.Native.Nat.{ℕ}
use Rattle.lingua.specs.Outcome.{ok, fail, Result}
use Rattle.lingua.specs.Store.{Variable}
use Rattle.lingua.specs.declared.errors.Error.{Error}
use Rattle.lingua.specs.Faults.{error_number}
use Rattle.laws.specs.Faults.{error_some}
use Rattle.run.specs.Reached.{Lent, Holding, Settles}

module _ {M : Holding} {l : Lent} {p : Result (List Variable)} where
  pub keeps : (r : ℕ) → (r ≡ 0 → ⊥) → p ≡ fail r → Settles r M l l p
  keeps r f e = record { answer = λ z. absurd (f z); error = λ g. record { is = e; same = refl } }

  pub keeps_fault : (e : Error) → p ≡ fail (error_number e) → Settles (error_number e) M l l p
  keeps_fault e q = keeps (error_number e) (error_some e) q

  pub stores_as : {after : Lent} (store : List Variable) → p ≡ ok store → M after store → Settles 0 M l after p
  stores_as store e m = record { answer = λ z. record { store = store; is = e; running = m }; error = λ f. absurd (f refl) }

  -- the same of an equal outcome
  pub settles_as : {after : Lent} {r : ℕ} {q : Result (List Variable)} → p ≡ q → Settles r M l after p → Settles r M l after q
  settles_as {after} {r} e h = subst (λ (o : Result (List Variable)). Settles r M l after o) e h
