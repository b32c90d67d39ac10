-- The open calls as lent memory: where each call's cells, state words and present bodies lie, behind each other, the oldest first, and how long
-- they are. Carried by the laws of lists that are made of parts of one length. Assumes nothing.
use Rattle.std.specs.Prelude.{◌≡◌, refl, List, [], ◌∷◌, ◌++◌, ℕ, suc, ◌+◌, ◌-◌, ◌*◌, ◌≤◌, ◌<◌, length, get_or, take, drop, replicate, ℤ, pos}
use Rattle.std.proofs.Common.{sym, ap, ◌∙◌, mul-suc, arith, take_at, drop_at, drop-drop}
use Rattle.std.proofs.Math.ListN.{get_or-eq_default}
use Rattle.lingua.specs.Numbers.{most_variables, body_cells, body_bytes, cells_length, state_words, states_length, variable_bodies_length, open_cells_length, open_states_length, open_bodies_length}
use Rattle.lingua.specs.Value.{pad}
use Rattle.lingua.specs.Store.{Variable, words_of_state, store_cells, store_states, store_bodies, cells_in, states_in, bodies_in, call_cells, call_states, call_bodies, open_cells_in, open_states_in, present_in, flag_at}
use Rattle.laws.specs.Lists.{length_pad}
use Rattle.laws.specs.Parts.{pad_get}
use Rattle.laws.specs.Every.{Every, every_implies}
use Rattle.laws.specs.Stores.{parts, Sized, length_parts, part_at, variable_cells, store_cells_parts, store_states_parts, Small, small_sized, states_sized}
use Rattle.laws.specs.Presents.{variable_bytes, store_bodies_parts, Compact, bodies_sized}

-- ---- one call's variables: at most 16, each of a value that has room in its cells and of a body that has room in its bytes
pub record Bounded (vs : List Variable) : Type 0 where
  pub few : length vs ≤ most_variables
  pub small : Small vs
  pub compact : Compact vs

pub length_cells_in : (vs : List Variable) → Bounded vs → length (cells_in vs) ≡ cells_length
unfolding cells_in
length_cells_in vs b =
    length_pad cells_length (pos 0) (store_cells vs)
    (let e : length (store_cells vs) ≡ body_cells * length vs = ap (λ (l : List ℤ). length l) (store_cells_parts vs) ∙ length_parts variable_cells body_cells vs (small_sized b.small) in
    omega (arith, e, b.few))

pub length_states_in : (vs : List Variable) → Bounded vs → length (states_in vs) ≡ states_length
unfolding states_in
length_states_in vs b =
    length_pad states_length 0 (store_states vs)
    (let e : length (store_states vs) ≡ state_words * length vs = ap (λ (l : List ℕ). length l) (store_states_parts vs) ∙ length_parts words_of_state state_words vs (states_sized vs) in
    omega (arith, e, b.few))

pub length_bodies_in : (vs : List Variable) → Bounded vs → length (bodies_in vs) ≡ variable_bodies_length
unfolding bodies_in
length_bodies_in vs b =
    length_pad variable_bodies_length 0 (store_bodies vs)
    (let e : length (store_bodies vs) ≡ body_bytes * length vs = ap (λ (l : List ℕ). length l) (store_bodies_parts vs) ∙ length_parts variable_bytes body_bytes vs (bodies_sized b.compact) in
    omega (arith, e, b.few))

-- ---- all of them
call_cells_parts : (os : List (List Variable)) → call_cells os ≡ parts cells_in os
unfolding call_cells parts
call_cells_parts [] = refl
call_cells_parts (vs ∷ os) = ap (λ (l : List ℤ). cells_in vs ++ l) (call_cells_parts os)

call_states_parts : (os : List (List Variable)) → call_states os ≡ parts states_in os
unfolding call_states parts
call_states_parts [] = refl
call_states_parts (vs ∷ os) = ap (λ (l : List ℕ). states_in vs ++ l) (call_states_parts os)

call_bodies_parts : (os : List (List Variable)) → call_bodies os ≡ parts bodies_in os
unfolding call_bodies parts
call_bodies_parts [] = refl
call_bodies_parts (vs ∷ os) = ap (λ (l : List ℕ). bodies_in vs ++ l) (call_bodies_parts os)

module _ (os : List (List Variable)) (bs : Every Bounded os) where
  cells_sized : Sized cells_in cells_length os
  cells_sized = every_implies length_cells_in bs

  open_states_sized : Sized states_in states_length os
  open_states_sized = every_implies length_states_in bs

  open_bodies_sized : Sized bodies_in variable_bodies_length os
  open_bodies_sized = every_implies length_bodies_in bs

  pub length_call_cells : length (call_cells os) ≡ cells_length * length os
  length_call_cells = ap (λ (l : List ℤ). length l) (call_cells_parts os) ∙ length_parts cells_in cells_length os cells_sized

  pub length_call_states : length (call_states os) ≡ states_length * length os
  length_call_states = ap (λ (l : List ℕ). length l) (call_states_parts os) ∙ length_parts states_in states_length os open_states_sized

  pub length_call_bodies : length (call_bodies os) ≡ variable_bodies_length * length os
  length_call_bodies = ap (λ (l : List ℕ). length l) (call_bodies_parts os) ∙ length_parts bodies_in variable_bodies_length os open_bodies_sized

  module _ (j : ℕ) (lt : j < length os) where
    -- call j's part of each
    pub open_cells_at : take cells_length (drop (cells_length * j) (open_cells_in os)) ≡ cells_in (get_or os j [])
    unfolding open_cells_in
    open_cells_at = rw (call_cells_parts os) (part_at cells_in cells_length open_cells_length (pos 0) os cells_sized j lt [])

    pub open_states_at : take states_length (drop (states_length * j) (open_states_in os)) ≡ states_in (get_or os j [])
    unfolding open_states_in
    open_states_at = rw (call_states_parts os) (part_at states_in states_length open_states_length 0 os open_states_sized j lt [])

    open_bodies_at : take variable_bodies_length (drop (variable_bodies_length * j) (pad open_bodies_length 0 (call_bodies os))) ≡ bodies_in (get_or os j [])
    open_bodies_at = rw (call_bodies_parts os) (part_at bodies_in variable_bodies_length open_bodies_length 0 os open_bodies_sized j lt [])

-- ---- the present bodies: the profile's, then the open calls'
pub present_own : (vs : List Variable) (os : List (List Variable)) → Bounded vs → take variable_bodies_length (present_in vs os) ≡ bodies_in vs
unfolding present_in
present_own vs os b = take_at (bodies_in vs) (pad open_bodies_length 0 (call_bodies os)) variable_bodies_length (length_bodies_in vs b)

pub present_open : (vs : List Variable) (os : List (List Variable)) → Bounded vs → (bs : Every Bounded os) (j : ℕ) → j < length os
    → take variable_bodies_length (drop (variable_bodies_length * suc j) (present_in vs os)) ≡ bodies_in (get_or os j [])
unfolding present_in
present_open vs os b bs j lt =
    ap (λ (k : ℕ). take variable_bodies_length (drop k (bodies_in vs ++ pad open_bodies_length 0 (call_bodies os)))) (let e : variable_bodies_length * suc j ≡ variable_bodies_length + variable_bodies_length * j = omega (arith, mul-suc variable_bodies_length j) in e)
    ∙ ap (take variable_bodies_length) (sym (drop-drop (variable_bodies_length * j) variable_bodies_length (bodies_in vs ++ pad open_bodies_length 0 (call_bodies os))))
    ∙ ap (λ (l : List ℕ). take variable_bodies_length (drop (variable_bodies_length * j) l)) (drop_at (bodies_in vs) (pad open_bodies_length 0 (call_bodies os)) variable_bodies_length (length_bodies_in vs b))
    ∙ open_bodies_at os bs j lt

-- ---- what lies behind
pub behind_padded : {A : Type 0} (n : ℕ) (z : A) (xs : List A) (k : ℕ) → length xs ≡ k → drop k (pad n z xs) ≡ replicate (n - k) z
unfolding pad
behind_padded n z xs k e = drop_at xs (replicate (n - length xs) z) k e ∙ ap (λ (m : ℕ). replicate (n - m) z) e

pub bodies_behind : (vs : List Variable) (os : List (List Variable)) → Bounded vs → Every Bounded os
    → drop (variable_bodies_length * suc (length os)) (present_in vs os) ≡ replicate (open_bodies_length - variable_bodies_length * length os) 0
unfolding present_in
bodies_behind vs os b bs =
    ap (λ (k : ℕ). drop k (bodies_in vs ++ pad open_bodies_length 0 (call_bodies os))) (let e : variable_bodies_length * suc (length os) ≡ variable_bodies_length + variable_bodies_length * length os = omega (arith, mul-suc variable_bodies_length (length os)) in e)
    ∙ sym (drop-drop (variable_bodies_length * length os) variable_bodies_length (bodies_in vs ++ pad open_bodies_length 0 (call_bodies os)))
    ∙ ap (drop (variable_bodies_length * length os)) (drop_at (bodies_in vs) (pad open_bodies_length 0 (call_bodies os)) variable_bodies_length (length_bodies_in vs b))
    ∙ behind_padded open_bodies_length 0 (call_bodies os) (variable_bodies_length * length os) (length_call_bodies os bs)

-- a flag behind the variables is not set
pub flag_behind : (vs : List Variable) (n : ℕ) → length vs ≤ n → flag_at (states_in vs) n ≡ 0
unfolding flag_at states_in
flag_behind vs n l =
    pad_get states_length (store_states vs) (state_words * n)
    ∙ get_or-eq_default (store_states vs) 0
    (let e : length (store_states vs) ≡ state_words * length vs = ap (λ (l : List ℕ). length l) (store_states_parts vs) ∙ length_parts words_of_state state_words vs (states_sized vs) in omega (arith, e))
