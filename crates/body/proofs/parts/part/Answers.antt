-- `body::parts::part` meets its contract: it pastes at the start of zeros. Assumes nothing.
use mathlib.Core.Path.{◌≡◌, refl, ap, ◌∙◌}
use mathlib.Core.List.{List, []}
use Prim.Native.Nat.{ℕ, ◌≤◌}
use native.Mathlib.Omega.{arith}
use lib.ListN.{length, drop, length-drop}
use lib.Seq.{paste}
use Rattle.body.proofs.Copies.{zeros, paste_pad}
use borrow.Author.Rules.{rules}
use Rattle.body.proofs.parts.part.Goals as goal

pub returns : goal.returns
returns c =
    let args = c.args in
    let l : length args.body ≡ 96 = search rules in
    let s : List ℕ = drop args.from args.body in
    let k : args.n ≤ length s = omega (arith, length-drop args.from args.body) in
    c.pasted.ensures ∙ ap (λ (z : List ℕ). paste z 0 s args.n) zeros
    ∙ paste_pad [] s 0 args.n refl (omega arith) k
