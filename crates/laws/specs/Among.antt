-- What stands in a list of rows: as a test, and in a list that is joined from parts. Assumes nothing.
use Rattle.std.specs.Prelude.{◌≡◌, refl, Bool, true, false, ◌||◌, ℕ, eqb}
use Rattle.std.proofs.Common.{ap, ap₂, ◌∙◌, subst, ⊎_elim, eqb-true, eq-eqb}
use mathlib.Core.List.Memᴰ.{append_cases as in_append}
use mathlib.Core.List.Memᴰ.{append_left as in_left}
use mathlib.Core.List.Memᴰ.{append_right as in_right}
use mathlib.Core.List.Memᴰ.{head as here}
use mathlib.Core.List.Memᴰ.{not-nil as none_in}
use mathlib.Core.List.Memᴰ.{tail as there}
use mathlib.Core.List.{List, [], ◌∷◌, map, Memᴰ as In}
use Rattle.lingua.specs.Errors.{is_among}
use Rattle.lingua.specs.Value.{all_of}
use Rattle.lingua.specs.Typing.{joined}
use Rattle.laws.specs.Outcomes.{false_is_true, and_left, and_right}

pub in_true : {x : ℕ} {xs : List ℕ} → In x xs → is_among xs x ≡ true
unfolding is_among
in_true {x} (here {x = y} {xs = ys} e) = ap (λ (t : Bool). t || is_among ys x) (eq-eqb x y e)
in_true {x} (there {x = y} {xs = ys} m) = ap (λ (t : Bool). eqb x y || t) (in_true m) ∙ or_true (eqb x y)
  where
    or_true : (t : Bool) → (t || true) ≡ true
    or_true true = refl
    or_true false = refl

pub true_in : (x : ℕ) (xs : List ℕ) → is_among xs x ≡ true → In x xs
unfolding is_among
true_in x [] e = false_is_true e
true_in x (y ∷ ys) e = go (eqb x y) refl e (λ q. true_in x ys q)
  where
    go : (t : Bool) → eqb x y ≡ t → (t || is_among ys x) ≡ true → (is_among ys x ≡ true → In x ys) → In x (y ∷ ys)
    go true p q ih = here (eqb-true x y p)
    go false p q ih = there (ih q)

pub joined_in : (f : ℕ → List ℕ) {a x : ℕ} {bs : List ℕ} → In a bs → In x (f a) → In x (joined (map f bs))
unfolding joined
joined_in f {a} {x} (here {x = b} {xs = bs} e) m = in_left (joined (map f bs)) (subst (λ (c : ℕ). In x (f c)) e m)
joined_in f (there {x = b} m) n = in_right (f b) (joined_in f m n)

-- the element whose part of a joined list it stands in
pub in_joined : (f : ℕ → List ℕ) (x : ℕ) (bs : List ℕ) → In x (joined (map f bs)) → (a : ℕ) × In a bs × In x (f a)
unfolding joined
in_joined f x [] m = absurd (none_in m)
in_joined f x (b ∷ bs) m =
    ⊎_elim (λ (h : In x (f b)). (b, here refl, h)) (λ (h : In x (joined (map f bs))). let r = in_joined f x bs h in (r.0, there r.1, r.2)) (in_append (f b) m)

pub map_same : {A : Type 0} (f g : ℕ → A) (bs : List ℕ) → ((a : ℕ) → In a bs → f a ≡ g a) → map f bs ≡ map g bs
map_same f g [] h = refl
map_same f g (b ∷ bs) h = ap₂ (λ (y : _) (ys : List _). y ∷ ys) (h b (here refl)) (map_same f g bs (λ a m. h a (there m)))

all_in_at : (p : ℕ → Bool) (a : ℕ) (bs : List ℕ) → In a bs → all_of p bs ≡ true → p a ≡ true
unfolding all_of
all_in_at p a bs (here {x = b} {xs = cs} q) e = ap p q ∙ and_left (p b) (all_of p cs) e
all_in_at p a bs (there {x = b} {xs = cs} m) e = all_in_at p a cs m (and_right (p b) (all_of p cs) e)

pub all_in : (p : ℕ → Bool) (bs : List ℕ) → all_of p bs ≡ true → (a : ℕ) → In a bs → p a ≡ true
all_in p bs e a m = all_in_at p a bs m e
