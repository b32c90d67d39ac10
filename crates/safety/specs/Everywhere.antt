-- A property of every node of an instruction's tree. Assumes nothing.
use Rattle.std.specs.Prelude.{List, ℕ}
use Rattle.lingua.specs.Expression.{Expression, Yoke, Instruction, skip, assign, set_yoke, sequence, branch, loop, handle, call}

pub data Everywhere (Q : Instruction → Type 0) : Instruction → Type 0 where
  at_skip : {r : ℕ} → Q (skip r) → Everywhere Q (skip r)
  at_assign : {r n : ℕ} {e : Expression} → Q (assign r n e) → Everywhere Q (assign r n e)
  at_set_yoke : {r n : ℕ} {y : Yoke} → Q (set_yoke r n y) → Everywhere Q (set_yoke r n y)
  at_sequence : {r : ℕ} {i j : Instruction} → Q (sequence r i j) → Everywhere Q i → Everywhere Q j → Everywhere Q (sequence r i j)
  at_branch : {r : ℕ} {e : Expression} {i j : Instruction} → Q (branch r e i j) → Everywhere Q i → Everywhere Q j → Everywhere Q (branch r e i j)
  at_loop : {r : ℕ} {e : Expression} {i : Instruction} → Q (loop r e i) → Everywhere Q i → Everywhere Q (loop r e i)
  at_handle : {r n : ℕ} {i : Instruction} → Q (handle r n i) → Everywhere Q i → Everywhere Q (handle r n i)
  at_call : {r k : ℕ} {vs rs : List ℕ} → Q (call r k vs rs) → Everywhere Q (call r k vs rs)

module _ {Q R : Instruction → Type 0} (f : (i : Instruction) → Q i → R i) where
  pub everywhere_implies : {i : Instruction} → Everywhere Q i → Everywhere R i
  everywhere_implies (at_skip {r} q) = at_skip (f (skip r) q)
  everywhere_implies (at_assign {r} {n} {e} q) = at_assign (f (assign r n e) q)
  everywhere_implies (at_set_yoke {r} {n} {y} q) = at_set_yoke (f (set_yoke r n y) q)
  everywhere_implies (at_sequence {r} {i} {j} q a b) = at_sequence (f (sequence r i j) q) (everywhere_implies a) (everywhere_implies b)
  everywhere_implies (at_branch {r} {e} {i} {j} q a b) = at_branch (f (branch r e i j) q) (everywhere_implies a) (everywhere_implies b)
  everywhere_implies (at_loop {r} {e} {i} q a) = at_loop (f (loop r e i) q) (everywhere_implies a)
  everywhere_implies (at_handle {r} {n} {i} q a) = at_handle (f (handle r n i) q) (everywhere_implies a)
  everywhere_implies (at_call {r} {k} {vs} {rs} q) = at_call (f (call r k vs rs) q)

-- a property of all instructions
pub everywhere_all : {Q : Instruction → Type 0} → ((i : Instruction) → Q i) → (i : Instruction) → Everywhere Q i
everywhere_all f (skip r) = at_skip (f (skip r))
everywhere_all f (assign r n e) = at_assign (f (assign r n e))
everywhere_all f (set_yoke r n y) = at_set_yoke (f (set_yoke r n y))
everywhere_all f (sequence r i j) = at_sequence (f (sequence r i j)) (everywhere_all f i) (everywhere_all f j)
everywhere_all f (branch r e i j) = at_branch (f (branch r e i j)) (everywhere_all f i) (everywhere_all f j)
everywhere_all f (loop r e i) = at_loop (f (loop r e i)) (everywhere_all f i)
everywhere_all f (handle r n i) = at_handle (f (handle r n i)) (everywhere_all f i)
everywhere_all f (call r k vs rs) = at_call (f (call r k vs rs))

-- two properties at once
pub everywhere_both : {Q R : Instruction → Type 0} (i : Instruction) → Everywhere Q i → Everywhere R i → Everywhere (λ k. Q k × R k) i
everywhere_both (skip r) (at_skip q) (at_skip s) = at_skip (q, s)
everywhere_both (assign r n e) (at_assign q) (at_assign s) = at_assign (q, s)
everywhere_both (set_yoke r n y) (at_set_yoke q) (at_set_yoke s) = at_set_yoke (q, s)
everywhere_both (sequence r i j) (at_sequence q a b) (at_sequence s c d) = at_sequence (q, s) (everywhere_both i a c) (everywhere_both j b d)
everywhere_both (branch r e i j) (at_branch q a b) (at_branch s c d) = at_branch (q, s) (everywhere_both i a c) (everywhere_both j b d)
everywhere_both (loop r e i) (at_loop q a) (at_loop s c) = at_loop (q, s) (everywhere_both i a c)
everywhere_both (handle r n i) (at_handle q a) (at_handle s c) = at_handle (q, s) (everywhere_both i a c)
everywhere_both (call r k vs rs) (at_call q) (at_call s) = at_call (q, s)
