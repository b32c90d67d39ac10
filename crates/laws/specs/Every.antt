-- Lists all of whose elements have a property: by each place, a part from the start, and with a weaker property. Assumes nothing.
use Rattle.std.specs.Prelude.{List, [], ◌∷◌, ℕ, zero, suc, ◌<◌, length, get_or, take}
use Rattle.std.proofs.Common.{arith}

pub data Every {A : Type 0} (P : A → Type 0) : List A → Type 0 where
  every_none : Every P []
  every_more : {x : A} {xs : List A} → P x → Every P xs → Every P (x ∷ xs)

module _ {A : Type 0} {P : A → Type 0} where
  pub every_by : (d : A) (xs : List A) → ((n : ℕ) → n < length xs → P (get_or xs n d)) → Every P xs
  every_by d [] f = every_none
  every_by d (x ∷ xs) f = every_more (f 0 (omega arith)) (every_by d xs (λ n l. f (suc n) (let k : suc n < length (x ∷ xs) = omega arith in k)))

  pub every_take : (n : ℕ) {xs : List A} → Every P xs → Every P (take n xs)
  every_take zero hs = every_none
  every_take (suc n) every_none = every_none
  every_take (suc n) (every_more h hs) = every_more h (every_take n hs)

pub every_implies : {A : Type 0} {P Q : A → Type 0} → ((x : A) → P x → Q x) → {xs : List A} → Every P xs → Every Q xs
every_implies h every_none = every_none
every_implies h (every_more {x} p ps) = every_more (h x p) (every_implies h ps)
