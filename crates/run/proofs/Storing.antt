-- What a store and a yoke change make of the caller's memory: the definition's memory of the new store. Assumes nothing.
use mathlib.Core.Path.{◌≡◌, refl, sym, ap, ◌∙◌, subst}
use mathlib.Core.List.{List, [], ◌∷◌, ◌++◌, append_assoc}
use mathlib.Core.Logic.{◌⊎◌, inl, inr}
use mathlib.Core.Option.{Option, some, none}
use Prim.Native.Nat.{ℕ, zero, suc, ◌+◌, ◌-◌, ◌*◌, ◌≤◌, ◌<◌}
use native.Mathlib.Omega.{arith}
use lib.IntN.{ℤ, pos}
use lib.ListN.{length, take, drop, set, replicate, length-set}
use lib.Seq.{paste, drop_at, take_all}
use Rattle.lingua.specs.Numbers.{body_cells, cells_length}
use Rattle.lingua.specs.Body.{size}
use Rattle.lingua.specs.Value.{pad, cells_of, Composite}
use Rattle.lingua.specs.Expression.{Yoke}
use Rattle.lingua.specs.Store.{Variable, variable_at, with_content, with_yoke, content_cells, store_cells, cells_in, states_in, fill_at, set_yoke_at}
use Rattle.lingua.specs.Trees.{yoke_tree}
use Rattle.lingua.specs.Typing.{Bodies}
use Rattle.laws.specs.Lengths.{length_cells}
use Rattle.laws.specs.Lists.{length_pad, drop_replicate}
use Rattle.laws.specs.Stores.{variable_cells, cells_at, cells_set, flag_set, yoke_set_lem}
use Rattle.safety.specs.Constants.{Fitting}
use Rattle.safety.specs.Stored.{replaced}
use Rattle.profile.specs.Variables.{LimitAt}
use Rattle.safety.specs.Named.{number_of}
use Rattle.profile.specs.Yokes.{YokeOf}
use Rattle.run.specs.Memory.{Memory}
use Rattle.run.proofs.Parts.{filled, contents_small}

-- ---- a store: the variable's cells
-- a part that held nothing, or a value of as many cells, with other cells at its front
new_front : (value : List ℤ) (w : ℕ) (xs ys : List ℤ) → take w value ≡ ys → length ys ≡ w → w ≤ body_cells → (length xs ≡ 0) ⊎ (length xs ≡ w) → paste (pad body_cells (pos 0) xs) 0 value w ≡ pad body_cells (pos 0) ys
unfolding pad
new_front value w xs ys e z s (inl k) =
    ap (λ (l : List ℤ). l ++ drop (0 + w) (xs ++ replicate (body_cells - length xs) (pos 0))) e
    ∙ ap (λ (l : List ℤ). ys ++ l) (ap (λ (j : ℕ). drop j (xs ++ replicate (body_cells - length xs) (pos 0))) (let q : 0 + w ≡ w = omega arith in q) ∙ empty xs k ∙ drop_replicate w body_cells (pos 0) ∙ ap (λ (j : ℕ). replicate (body_cells - j) (pos 0)) (sym z))
  where
    empty : (l : List ℤ) → length l ≡ 0 → drop w (l ++ replicate (body_cells - length l) (pos 0)) ≡ drop w (replicate body_cells (pos 0))
    empty [] q = refl
    empty (a ∷ l) q = absurd (let j : ⊥ = omega arith in j)
new_front value w xs ys e z s (inr k) =
    ap (λ (l : List ℤ). l ++ drop (0 + w) (xs ++ replicate (body_cells - length xs) (pos 0))) e
    ∙ ap (λ (l : List ℤ). ys ++ l) (ap (λ (j : ℕ). drop j (xs ++ replicate (body_cells - length xs) (pos 0))) (let q : 0 + w ≡ w = omega arith in q) ∙ drop_at xs (replicate (body_cells - length xs) (pos 0)) w k ∙ ap (λ (j : ℕ). replicate (body_cells - j) (pos 0)) (k ∙ sym z))

module _ {cells : List ℤ} {states : List ℕ} {vs : List Variable} {vars : Bodies} (h : Memory cells states vs vars) (n : ℕ) (lt : n < length vs) (x : Composite) (fits : Fitting x) (body : x.body ≡ vars n) where
  content_length : (c : Option Composite) → ((y : Composite) → c ≡ some y → (y.body ≡ vars n) × Fitting y) → (length (content_cells c) ≡ 0) ⊎ (length (content_cells c) ≡ size x.body)
  unfolding content_cells
  content_length none f = inl refl
  content_length (some y) f = let q = f y refl in inr (length_cells q.1 ∙ ap size (q.0 ∙ sym body))

  small : size x.body ≤ body_cells
  small = omega (arith, ap size body, h.small n lt)

  pub cells_stored : (value : List ℤ) (w : ℕ) → w ≡ size x.body → take w value ≡ cells_of x.body x.value
      → take (body_cells * n) cells ++ (paste (take body_cells (drop (body_cells * n) cells)) 0 value w ++ drop (body_cells * n + body_cells) cells) ≡ cells_in (set vs n (with_content (variable_at vs n) x))
  unfolding content_cells
  cells_stored value w z e =
      let sm = contents_small h in
      let new : List ℤ = variable_cells (with_content (variable_at vs n) x) in
      let part : take body_cells (drop (body_cells * n) cells) ≡ variable_cells (variable_at vs n) = ap (λ (l : List ℤ). take body_cells (drop (body_cells * n) l)) h.cells_are ∙ cells_at vs n lt sm in
      let front : paste (take body_cells (drop (body_cells * n) cells)) 0 value w ≡ new =
      ap (λ (l : List ℤ). paste l 0 value w) part
      ∙ new_front value w (content_cells (variable_at vs n).content) (cells_of x.body x.value) e (length_cells fits ∙ sym z) (omega (arith, small, z)) (subst (λ (k : ℕ). (length (content_cells (variable_at vs n).content) ≡ 0) ⊎ (length (content_cells (variable_at vs n).content) ≡ k)) (sym z) (content_length (variable_at vs n).content (filled h n))) in
      let short : length (cells_of x.body x.value) ≤ body_cells = omega (arith, length_cells fits, small) in
      ap (λ (l : List ℤ). take (body_cells * n) cells ++ (l ++ drop (body_cells * n + body_cells) cells)) front
      ∙ sym (append_assoc (take (body_cells * n) cells) new (drop (body_cells * n + body_cells) cells))
      ∙ ap (λ (l : List ℤ). (take (body_cells * n) cells ++ l) ++ drop (body_cells * n + body_cells) cells) (sym (take_all body_cells new (omega (arith, length_pad body_cells (pos 0) (cells_of x.body x.value) short))))
      ∙ ap (λ (l : List ℤ). paste l (body_cells * n) new body_cells) h.cells_are
      ∙ sym (cells_set vs n lt sm (with_content (variable_at vs n) x) short)

-- ---- its filled flag
pub states_stored : {states : List ℕ} (vs : List Variable) (n : ℕ) (lt : n < length vs) (x : Composite) → states ≡ states_in vs → fill_at states n ≡ states_in (set vs n (with_content (variable_at vs n) x))
states_stored {states} vs n lt x e = ap (λ (l : List ℕ). fill_at l n) e ∙ flag_set vs n lt x

-- ---- a yoke change: only the variable's second state word changes
same_contents : (vs : List Variable) (n : ℕ) (y : Yoke) → store_cells (set vs n (with_yoke (variable_at vs n) y)) ≡ store_cells vs
unfolding store_cells
same_contents [] n y = refl
same_contents (v ∷ vs) zero y = refl
same_contents (v ∷ vs) (suc n) y = ap (λ (l : List ℤ). pad 64 (pos 0) (content_cells v.content) ++ l) (same_contents vs n y)

pub cells_kept : {cells : List ℤ} (vs : List Variable) (n : ℕ) (y : Yoke) → cells ≡ cells_in vs → cells ≡ cells_in (set vs n (with_yoke (variable_at vs n) y))
unfolding cells_in
cells_kept vs n y e = e ∙ ap (λ (l : List ℤ). pad cells_length (pos 0) l) (sym (same_contents vs n y))

pub words_changed : {states : List ℕ} (rows : List ℕ) (vs : List Variable) (n : ℕ) (lt : n < length vs) (y : ℕ) → states ≡ states_in vs → set_yoke_at states n y ≡ states_in (set vs n (with_yoke (variable_at vs n) (yoke_tree rows y)))
words_changed rows vs n lt y e =
    ap (λ (l : List ℕ). set_yoke_at l n y) e
    ∙ ap (λ (k : ℕ). set_yoke_at (states_in vs) n k) (sym (number_of rows y))
    ∙ yoke_set_lem vs n lt (yoke_tree rows y)

-- ---- what is asked of every variable, where one is replaced
module _ (vs : List Variable) (n : ℕ) (v : Variable) where
  pub limits_kept : (limits : List ℤ) → v.limit ≡ (variable_at vs n).limit → ((m : ℕ) → m < length vs → LimitAt limits (3 * m) (variable_at vs m).limit) → (m : ℕ) → m < length (set vs n v) → LimitAt limits (3 * m) (variable_at (set vs n v) m).limit
  limits_kept limits e f m l =
      replaced (λ j w. j < length vs → LimitAt limits (3 * j) w.limit) vs n v
      (λ i. subst (λ c. LimitAt limits (3 * n) c) (sym e) (f n i)) f m (omega (arith, length-set vs n v, l))

  pub yokes_kept : {rows : List ℕ} → YokeOf rows v.yoke → ((m : ℕ) → m < length vs → YokeOf rows (variable_at vs m).yoke) → (m : ℕ) → m < length (set vs n v) → YokeOf rows (variable_at (set vs n v) m).yoke
  yokes_kept {rows} y f m l = replaced (λ j w. j < length vs → YokeOf rows w.yoke) vs n v (λ i. y) f m (omega (arith, length-set vs n v, l))
