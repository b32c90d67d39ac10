-- The store as lent memory: where a variable's cells and state words lie, and that a store changes just these.
-- Carried by laws of lists that are made of parts of one length. Assumes nothing.
use Rattle.std.specs.Prelude.{◌≡◌, take, drop, set, ℤ, pos}
use Rattle.std.proofs.Math.Path.{refl, sym, ap}
use Rattle.std.proofs.Common.{◌∙◌, mul-zero, le_of_suc-le-suc, length-set, take_at, drop_at, get_or-take, get_or-drop}
use mathlib.Core.List.{List, [], ◌∷◌, ◌++◌, append_assoc}
use Prim.Native.Nat.{ℕ, zero, suc, ◌+◌, ◌-◌, ◌*◌, ◌≤◌, ◌<◌}
use Rattle.std.proofs.Math.Nat.{mul-suc}
use native.Mathlib.Omega.{arith}
use Rattle.std.proofs.Math.ListN.{length, get_or, replicate, length-append}
use Rattle.std.proofs.lemmas.List.{length-replicate}
use Rattle.std.proofs.Math.Seq.{paste}
use Rattle.lingua.specs.Numbers.{most_variables, body_cells, cells_length, state_words, states_length}
use Rattle.lingua.specs.Value.{pad, Composite}
use Rattle.lingua.specs.Expression.{Yoke, yoke_number}
use Rattle.lingua.specs.Store.{Variable, no_variable, variable_at, with_content, with_yoke, content_cells, filled_flag, words_of_state, store_cells, store_states, cells_in, states_in, flag_place, yoke_place, flag_at, yoke_at, fill_at, set_yoke_at}
use Rattle.lingua.specs.Run.{Declaration, unfilled}
use Rattle.laws.specs.Lists.{length_pad, paste_at, pad_free, pad_append}
use Rattle.laws.specs.Every.{Every, every_none, every_more, every_implies}

-- ---- lists of parts of one length
module _ {A B : Type 0} (f : A → List B) where
  unfoldable pub parts : List A → List B
  parts [] = []
  parts (x ∷ xs) = f x ++ parts xs

  -- each part has length k
  abbrev pub Sized : ℕ → List A → Type 0
  Sized k xs = Every (λ x. length (f x) ≡ k) xs

  pub length_parts : (k : ℕ) (xs : List A) → Sized k xs → length (parts xs) ≡ k * length xs
  unfolding parts
  length_parts k [] every_none = sym (mul-zero k)
  length_parts k (x ∷ xs) (every_more h hs) =
      omega (arith, length-append (f x) (parts xs), length_parts k xs hs, h, mul-suc k (length xs))

  pub length_take_parts : (k n : ℕ) (xs : List A) → Sized k xs → n ≤ length xs → length (parts (take n xs)) ≡ k * n
  unfolding parts
  length_take_parts k zero xs hs le = sym (mul-zero k)
  length_take_parts k (suc n) [] hs le = absurd (let z : ⊥ = omega arith in z)
  length_take_parts k (suc n) (x ∷ xs) (every_more h hs) le =
      omega (arith, length-append (f x) (parts (take n xs)), length_take_parts k n xs hs (le_of_suc-le-suc le), h, mul-suc k n)

  -- part n between those before and those behind it
  pub parts_split : (n : ℕ) (xs : List A) (d : A) → n < length xs → parts xs ≡ parts (take n xs) ++ (f (get_or xs n d) ++ parts (drop (suc n) xs))
  unfolding parts
  parts_split n [] d lt = absurd (let z : ⊥ = omega arith in z)
  parts_split zero (x ∷ xs) d lt = refl
  parts_split (suc n) (x ∷ xs) d lt =
      ap (λ (l : List B). f x ++ l) (parts_split n xs d (le_of_suc-le-suc lt)) ∙ sym (append_assoc (f x) (parts (take n xs)) _)

  pub parts_set : (n : ℕ) (xs : List A) (a : A) → n < length xs → parts (set xs n a) ≡ parts (take n xs) ++ (f a ++ parts (drop (suc n) xs))
  unfolding parts
  parts_set n [] a lt = absurd (let z : ⊥ = omega arith in z)
  parts_set zero (x ∷ xs) a lt = refl
  parts_set (suc n) (x ∷ xs) a lt =
      ap (λ (l : List B). f x ++ l) (parts_set n xs a (le_of_suc-le-suc lt)) ∙ sym (append_assoc (f x) (parts (take n xs)) _)

  pub sized_at : (k n : ℕ) (xs : List A) (d : A) → Sized k xs → n < length xs → length (f (get_or xs n d)) ≡ k
  sized_at k n [] d hs lt = absurd (let z : ⊥ = omega arith in z)
  sized_at k zero (x ∷ xs) d (every_more h hs) lt = h
  sized_at k (suc n) (x ∷ xs) d (every_more h hs) lt = sized_at k n xs d hs (le_of_suc-le-suc lt)

  pub sized_set : (k n : ℕ) (xs : List A) (a : A) → Sized k xs → length (f a) ≡ k → Sized k (set xs n a)
  sized_set k n [] a hs h = every_none
  sized_set k zero (x ∷ xs) a (every_more g hs) h = every_more h hs
  sized_set k (suc n) (x ∷ xs) a (every_more g hs) h = every_more g (sized_set k n xs a hs h)

  -- ---- the same with z behind it up to m
  module _ (k m : ℕ) (z : B) (xs : List A) (hs : Sized k xs) (n : ℕ) (lt : n < length xs) where
    before : List B
    before = parts (take n xs)

    behind : List B
    behind = parts (drop (suc n) xs) ++ replicate (m - length (parts xs)) z

    length_before : length before ≡ k * n
    unfolding before
    length_before = length_take_parts k n xs hs (omega arith)

    whole : (d : A) → pad m z (parts xs) ≡ before ++ (f (get_or xs n d) ++ behind)
    unfolding pad before behind
    whole d =
        ap (λ (l : List B). l ++ replicate (m - length (parts xs)) z) (parts_split n xs d lt)
        ∙ append_assoc (parts (take n xs)) (f (get_or xs n d) ++ parts (drop (suc n) xs)) _
        ∙ ap (λ (l : List B). parts (take n xs) ++ l) (append_assoc (f (get_or xs n d)) (parts (drop (suc n) xs)) _)

    -- part n's place in it
    pub part_at : (d : A) → take k (drop (k * n) (pad m z (parts xs))) ≡ f (get_or xs n d)
    part_at d =
        ap (λ (l : List B). take k (drop (k * n) l)) (whole d)
        ∙ ap (λ (l : List B). take k l) (drop_at before (f (get_or xs n d) ++ behind) (k * n) length_before)
        ∙ take_at (f (get_or xs n d)) behind k (sized_at k n xs d hs lt)

    same_length : (a : A) → length (f a) ≡ k → length (parts (set xs n a)) ≡ length (parts xs)
    same_length a h =
        length_parts k (set xs n a) (sized_set k n xs a hs h) ∙ ap (λ (j : ℕ). k * j) (length-set xs n a) ∙ sym (length_parts k xs hs)

    -- another part n, and nothing else changed
    pub part_set : (d a : A) → length (f a) ≡ k → pad m z (parts (set xs n a)) ≡ paste (pad m z (parts xs)) (k * n) (f a) k
    unfolding pad before behind
    part_set d a h =
        ap (λ (l : List B). l ++ replicate (m - length (parts (set xs n a))) z) (parts_set n xs a lt)
        ∙ ap (λ (j : ℕ). (parts (take n xs) ++ (f a ++ parts (drop (suc n) xs))) ++ replicate (m - j) z) (same_length a h)
        ∙ append_assoc (parts (take n xs)) (f a ++ parts (drop (suc n) xs)) _
        ∙ ap (λ (l : List B). parts (take n xs) ++ l) (append_assoc (f a) (parts (drop (suc n) xs)) _)
        ∙ sym (paste_at before (f (get_or xs n d)) behind (f a) (k * n) k length_before (sized_at k n xs d hs lt) h)
        ∙ ap (λ (l : List B). paste l (k * n) (f a) k) (sym (whole d))

-- ---- variables
abbrev pub variable_cells : Variable → List ℤ
variable_cells v = pad body_cells (pos 0) (content_cells v.content)

pub store_cells_parts : (vs : List Variable) → store_cells vs ≡ parts variable_cells vs
unfolding store_cells parts
store_cells_parts [] = refl
store_cells_parts (v ∷ vs) = ap (λ (l : List ℤ). variable_cells v ++ l) (store_cells_parts vs)

pub store_states_parts : (vs : List Variable) → store_states vs ≡ parts words_of_state vs
unfolding store_states parts
store_states_parts [] = refl
store_states_parts (v ∷ vs) = ap (λ (l : List ℕ). words_of_state v ++ l) (store_states_parts vs)

-- every content has at most 64 cells
abbrev pub Small : List Variable → Type 0
Small vs = Every (λ v. length (content_cells v.content) ≤ body_cells) vs

pub small_sized : {vs : List Variable} → Small vs → Sized variable_cells body_cells vs
small_sized hs = every_implies (λ v h. length_pad body_cells (pos 0) (content_cells v.content) h) hs

pub states_sized : (vs : List Variable) → Sized words_of_state state_words vs
states_sized [] = every_none
states_sized (v ∷ vs) = every_more refl (states_sized vs)

-- ---- one of two neighbours in a list
no_two : {A : Type 0} {a b : ℕ} → ◌≡◌ {A = List ℕ} [] (a ∷ b ∷ []) → A
no_two e = absurd (let z : ◌≡◌ {A = ℕ} 0 2 = ap (λ (l : List ℕ). length l) e in let k : ⊥ = omega arith in k)

no_second : {A : Type 0} {x a b : ℕ} → ◌≡◌ {A = List ℕ} (x ∷ []) (a ∷ b ∷ []) → A
no_second e = absurd (let z : ◌≡◌ {A = ℕ} 1 2 = ap (λ (l : List ℕ). length l) e in let k : ⊥ = omega arith in k)

set_first : (l : List ℕ) (k a b c : ℕ) → take 2 (drop k l) ≡ a ∷ b ∷ [] → set l k c ≡ paste l k (c ∷ b ∷ []) 2
set_first [] zero a b c e = no_two e
set_first [] (suc k) a b c e = no_two e
set_first (x ∷ []) zero a b c e = no_second e
set_first (x ∷ y ∷ l) zero a b c e = let q : y ≡ b = cc in ap (λ (d : ℕ). c ∷ d ∷ l) q
set_first (x ∷ l) (suc k) a b c e =
    ap (λ (m : List ℕ). x ∷ m) (set_first l k a b c e)
    ∙ ap (λ (j : ℕ). (take (suc k) (x ∷ l) ++ (c ∷ b ∷ [])) ++ drop j (x ∷ l)) (let q : suc (k + 2) ≡ suc k + 2 = omega arith in q)

set_second : (l : List ℕ) (k a b c : ℕ) → take 2 (drop k l) ≡ a ∷ b ∷ [] → set l (k + 1) c ≡ paste l k (a ∷ c ∷ []) 2
set_second [] zero a b c e = no_two e
set_second [] (suc k) a b c e = no_two e
set_second (x ∷ []) zero a b c e = no_second e
set_second (x ∷ y ∷ l) zero a b c e = let q : x ≡ a = cc in ap (λ (d : ℕ). d ∷ c ∷ l) q
set_second (x ∷ l) (suc k) a b c e =
    ap (λ (j : ℕ). set (x ∷ l) j c) (let q : suc k + 1 ≡ suc (k + 1) = omega arith in q)
    ∙ ap (λ (m : List ℕ). x ∷ m) (set_second l k a b c e)
    ∙ ap (λ (j : ℕ). (take (suc k) (x ∷ l) ++ (a ∷ c ∷ [])) ++ drop j (x ∷ l)) (let q : suc (k + 2) ≡ suc k + 2 = omega arith in q)

module _ (vs : List Variable) (n : ℕ) (lt : n < length vs) where
  -- variable n's 64 cells
  pub cells_at : Small vs → take body_cells (drop (body_cells * n) (cells_in vs)) ≡ variable_cells (variable_at vs n)
  unfolding cells_in
  cells_at hs = rw (store_cells_parts vs) (part_at variable_cells body_cells cells_length (pos 0) vs (small_sized hs) n lt no_variable)

  -- another variable n: only its cells and its two state words change
  pub cells_set : Small vs → (v : Variable) → length (content_cells v.content) ≤ body_cells → cells_in (set vs n v) ≡ paste (cells_in vs) (body_cells * n) (variable_cells v) body_cells
  unfolding cells_in
  cells_set hs v h =
      rw (store_cells_parts (set vs n v), store_cells_parts vs)
      (part_set variable_cells body_cells cells_length (pos 0) vs (small_sized hs) n lt no_variable v (length_pad body_cells (pos 0) (content_cells v.content) h))

  pub states_at : take state_words (drop (flag_place n) (states_in vs)) ≡ words_of_state (variable_at vs n)
  unfolding states_in
  states_at = rw (store_states_parts vs) (part_at words_of_state state_words states_length 0 vs (states_sized vs) n lt no_variable)

  -- its state words, each for itself
  word_at : (k : ℕ) → k < state_words → get_or (states_in vs) (flag_place n + k) 0 ≡ get_or (words_of_state (variable_at vs n)) k 0
  word_at k l =
      sym (get_or-drop (flag_place n) (states_in vs) k 0)
      ∙ sym (get_or-take state_words (drop (flag_place n) (states_in vs)) k 0 l)
      ∙ ap (λ (l : List ℕ). get_or l k 0) states_at

  pub flag_at_lem : flag_at (states_in vs) n ≡ filled_flag (variable_at vs n).content
  unfolding flag_at
  flag_at_lem = ap (λ (k : ℕ). get_or (states_in vs) k 0) (let e : flag_place n ≡ flag_place n + 0 = omega arith in e) ∙ word_at 0 (omega arith)

  pub yoke_at_lem : yoke_at (states_in vs) n ≡ yoke_number (variable_at vs n).yoke
  unfolding yoke_at
  yoke_at_lem = word_at 1 (omega arith)

  -- another variable n: its state words alone change
  states_set : (v : Variable) → states_in (set vs n v) ≡ paste (states_in vs) (flag_place n) (words_of_state v) state_words
  unfolding states_in
  states_set v = rw (store_states_parts (set vs n v), store_states_parts vs) (part_set words_of_state state_words states_length 0 vs (states_sized vs) n lt no_variable v refl)

  pub flag_set : (x : Composite) → fill_at (states_in vs) n ≡ states_in (set vs n (with_content (variable_at vs n) x))
  unfolding fill_at
  flag_set x = set_first (states_in vs) (flag_place n) _ _ 1 states_at ∙ sym (states_set (with_content (variable_at vs n) x))

  pub yoke_set_lem : (y : Yoke) → set_yoke_at (states_in vs) n (yoke_number y) ≡ states_in (set vs n (with_yoke (variable_at vs n) y))
  unfolding set_yoke_at
  yoke_set_lem y = set_second (states_in vs) (flag_place n) _ _ (yoke_number y) states_at ∙ sym (states_set (with_yoke (variable_at vs n) y))

-- ---- their room
pad_long : {A : Type 0} (n : ℕ) (z : A) (xs : List A) → n ≤ length (pad n z xs)
unfolding pad
pad_long n z xs = omega (arith, length-append xs (replicate (n - length xs) z), length-replicate (n - length xs) z)

pub cells_long : (vs : List Variable) → cells_length ≤ length (cells_in vs)
unfolding cells_in
cells_long vs = pad_long cells_length (pos 0) (store_cells vs)

pub states_long : (vs : List Variable) → states_length ≤ length (states_in vs)
unfolding states_in
states_long vs = pad_long states_length 0 (store_states vs)

pub yoke_room : (states : List ℕ) (n : ℕ) → states_length ≤ length states → n < most_variables → yoke_place n < length states
yoke_room states n l m = omega arith

pub flag_room : (states : List ℕ) (n : ℕ) → states_length ≤ length states → n < most_variables → flag_place n < length states
flag_room states n l m = omega arith

pub yoke_length : (states : List ℕ) (n y : ℕ) → length (set_yoke_at states n y) ≡ length states
unfolding set_yoke_at
yoke_length states n y = length-set states (yoke_place n) y

-- ---- one variable more, not filled: it gets its declared yoke
states_append : (vs : List Variable) (d : Declaration) → store_states (vs ++ (unfilled d ∷ [])) ≡ store_states vs ++ words_of_state (unfilled d)
unfolding store_states
states_append [] d = refl
states_append (v ∷ vs) d = ap (λ (l : List ℕ). words_of_state v ++ l) (states_append vs d)

length_states : (vs : List Variable) → length (store_states vs) ≡ state_words * length vs
length_states vs = ap (λ (l : List ℕ). length l) (store_states_parts vs) ∙ length_parts words_of_state state_words vs (states_sized vs)

set_after : (xs : List ℕ) (a b y : ℕ) (r : List ℕ) → set (xs ++ (a ∷ b ∷ r)) (suc (length xs)) y ≡ xs ++ (a ∷ y ∷ r)
set_after [] a b y r = refl
set_after (x ∷ xs) a b y r = ap (λ (l : List ℕ). x ∷ l) (set_after xs a b y r)

pub yoke_more : (vs : List Variable) (d : Declaration) → length vs < most_variables → states_in (vs ++ (unfilled d ∷ [])) ≡ set_yoke_at (states_in vs) (length vs) (yoke_number d.declared)
unfolding states_in set_yoke_at
yoke_more vs d h =
    let xs = store_states vs in
    let y = yoke_number d.declared in
    let at : suc (length xs) ≡ yoke_place (length vs) = omega (arith, length_states vs) in
    let room : length xs + state_words ≤ states_length = omega (arith, length_states vs) in
    ap (λ (l : List ℕ). pad states_length 0 l) (states_append vs d)
    ∙ pad_append states_length 0 xs (words_of_state (unfilled d))
    ∙ sym (set_after xs 0 0 y (replicate (states_length - (length xs + state_words)) 0))
    ∙ ap (λ (l : List ℕ). set l (suc (length xs)) y) (sym (pad_free states_length state_words 0 xs room))
    ∙ ap (λ (k : ℕ). set (pad states_length 0 xs) k y) at
