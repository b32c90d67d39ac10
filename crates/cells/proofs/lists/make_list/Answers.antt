-- `make_list` meets its contract, by `single_law`. Assumes nothing.
use mathlib.Core.Path.{◌≡◌, ap, ◌∙◌}
use Prim.Native.Nat.{ℕ, ◌-◌}
use native.Mathlib.Omega.{arith}
use lib.Seq.{paste}
use Rattle.cells.proofs.Elements.{single_law}
use Rattle.cells.proofs.lists.make_list.Goals as goal

pub returns : goal.returns
returns c = λ b x z h.
    let a = c.args in
    single_law a.stack.now c.copy_within.new.self c.clear.new.stack b x a.width z h (omega arith) (c.copy_within.ensures.after ∙ ap (λ (k : ℕ). paste a.stack.now 1 a.stack.now k) (let e : a.width - 0 ≡ a.width = omega arith in e)) c.clear.ensures
