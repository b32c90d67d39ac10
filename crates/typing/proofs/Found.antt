-- What is found of one row, of two at once and of a list's elements, as the code has it and as the definition has it. Assumes nothing.
use mathlib.Core.Path.{◌≡◌, refl, sym, ap, ap₂, ◌∙◌}
use mathlib.Core.List.{List, [], ◌++◌}
use mathlib.Core.Option.{Option, some, none}
use Prim.Native.Nat.{ℕ}
use Rattle.std.specs.Prelude.{Option as CodeOption, Some, None, Result as CodeResult, Ok, Err}
use Rattle.std.specs.Result.{result_ok}
use Rattle.lingua.specs.Outcome.{Outcome, ok, fail, both, answer_of, ◌>>=◌}
use Rattle.lingua.specs.Faults.{error_number}
use Rattle.lingua.specs.declared.errors.Error.{Error}
use Rattle.lingua.specs.declared.errors.ErrorAt.{ErrorAt}
use Rattle.lingua.specs.Body.{Body}
use Rattle.lingua.specs.Operation.{top, unary_body}
use Rattle.lingua.specs.Typing.{Finding, fault, own_rule, current_body, elements_at, lower, lowest_fault}
use Rattle.laws.specs.Outcomes.{false_is_true}
use Rattle.safety.specs.Faults.{lower_none, lowest_fault_append}
use Rattle.body.specs.Encode.{Holds}
use Rattle.body_half.specs.Half.{HalfPassed, Half}
use Rattle.body.specs.declared.typed.Typed.{Typed as HalfTyped}
use Rattle.typing.specs.Check.{fault_meaning, own_fault, own_found, HoldsIf, Fails, Together, Elements, Gives}

-- ---- one row
-- no answer: what is asked behind it is not
pub fails_on : {A B : Type 0} (f : CodeOption ErrorAt) (o : Finding A) (k : A → Finding B) → Fails f o → Fails f (o >>= k)
fails_on f o k h = record { faults = h.faults; is = ap (λ (p : Finding _). p >>= k) h.is; lowest = h.lowest }

-- a fault of the row's own
pub faulted : {A : Type 0} (e : Error) (r : ℕ) → Fails {A = A} (own_fault e r) (fail (fault (error_number e) r))
unfolding lowest_fault
faulted e r = record { faults = fault (error_number e) r; is = refl; lowest = refl }

-- a row's own rule, by its half on bodies
module _ (h : CodeResult HalfTyped Error) (r : ℕ) (o : Outcome ℕ Body) (second : Body → ℕ) where
  pub own_fails : Half h o second → (f : CodeOption ErrorAt) → Err f ≡ own_found h r → Fails f (own_rule r o)
  own_fails g f e = by h g e
    where
      by : (h : CodeResult HalfTyped Error) → Half h o second → Err f ≡ own_found h r → Fails f (own_rule r o)
      by (Ok t) g e = absurd (let z : ⊥ = cc in z)
      by (Err d) g e = let q : f ≡ own_fault d r = cc in rw (q, g) (faulted d r)

  pub own_passes : Half h o second → (t : HalfTyped) → Ok t ≡ own_found h r → HalfPassed t o second
  own_passes g t e = by h g e
    where
      by : (h : CodeResult HalfTyped Error) → Half h o second → Ok t ≡ own_found h r → HalfPassed t o second
      by (Ok u) g e = let q : t ≡ u = cc in rw q g
      by (Err d) g e = absurd (let z : ⊥ = cc in z)

-- ---- the current value
pub current_some : (x : List ℕ) (b : Option Body) → HoldsIf (Some x) b → (d : Body) × (b ≡ some d) × Holds x d
current_some x (some d) h = (d, refl, h)
current_some x none h = absurd h

pub current_none : (b : Option Body) → HoldsIf None b → b ≡ none
current_none (some d) h = absurd h
current_none none h = refl

-- ---- two at once
-- what the definition has beside what the code found
abbrev pub Finds : {A B : Type 0} → CodeResult A (CodeOption ErrorAt) → Finding B → Type 0
Finds {B = B} (Ok a) o = (b : B) × (o ≡ ok b)
Finds (Err f) o = Fails f o

pub gives_finds : (x : CodeResult (List ℕ) (CodeOption ErrorAt)) (l m : List ℕ) (o : Finding _) → Gives x l m o → Finds x o
gives_finds (Ok x) l m o g = (g.typed, g.is)
gives_finds (Err f) l m o g = g

pub elements_finds : (x : CodeResult (List ℕ) (CodeOption ErrorAt)) (o : Finding Body) → Elements x o → Finds x o
elements_finds (Ok x) o g = (g.element, g.is)
elements_finds (Err f) o g = g

module _ {A B C D : Type 0} where
  pub both_found : (c : CodeResult (A × B) (CodeOption ErrorAt)) (x : CodeResult A (CodeOption ErrorAt)) (y : CodeResult B (CodeOption ErrorAt))
      (o : Finding C) (p : Finding D) → Together c x y → Finds x o → Finds y p → Finds c (both o p)
  unfolding lowest_fault
  both_found (Ok c) (Ok a) (Ok b) o p t f g = ((f.0, g.0), rw (f.1, g.1) refl)
  both_found (Ok c) (Ok a) (Err e) o p t f g = absurd (let z : ⊥ = cc in z)
  both_found (Ok c) (Err e) y o p t f g = absurd (let z : ⊥ = cc in z)
  both_found (Err e) (Ok a) (Ok b) o p t f g = false_is_true (sym t.0)
  both_found (Err e) (Ok a) (Err h) o p t f g = record { faults = g.faults; is = rw (f.1, g.is) refl; lowest = t.1 ∙ g.lowest }
  both_found (Err e) (Err h) (Ok b) o p t f g =
      record { faults = f.faults; is = rw (f.is, g.1) refl; lowest = t.1 ∙ lower_none (fault_meaning h) ∙ f.lowest }
  both_found (Err e) (Err h) (Err i) o p t f g =
      record { faults = f.faults ++ g.faults; is = rw (f.is, g.is) refl; lowest = t.1 ∙ ap₂ lower f.lowest g.lowest ∙ sym (lowest_fault_append f.faults g.faults) }

-- ---- a list's elements: their body is what `top` gives of the list's
pub elements_are : (r : ℕ) (b : Body) → elements_at r (some b) ≡ own_rule r (unary_body top b)
unfolding elements_at current_body unary_body
elements_are r b = refl

pub no_current : (r : ℕ) → Fails None (elements_at r none)
unfolding elements_at current_body lowest_fault
no_current r = record { faults = []; is = refl; lowest = refl }

-- the current value of an inner yoke
pub inner_holds : (x : CodeResult (List ℕ) (CodeOption ErrorAt)) (y : CodeOption (List ℕ)) (o : Finding Body) → Elements x o → y ≡ result_ok x → HoldsIf y (answer_of o)
inner_holds x y o g e = rw e (by x g)
  where
    by : (x : CodeResult (List ℕ) (CodeOption ErrorAt)) → Elements x o → HoldsIf (result_ok x) (answer_of o)
    by (Ok x) g = rw g.is g.holds
    by (Err f) g = rw g.is tt
