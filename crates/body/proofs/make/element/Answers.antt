-- `body::make::element` meets its contract: a list's element is what stands after its tag. Assumes nothing.
use mathlib.Core.Path.{sym, subst}
use mathlib.Core.List.{List}
use Prim.Native.Nat.{ℕ}
use Rattle.body.specs.Encode.{Holds}
use Rattle.body.proofs.Making.{element_taken}
use Rattle.body.proofs.make.element.Goals as goal

pub returns : goal.returns
returns c = λ b h.
    subst (λ (l : List ℕ). Holds l b) (sym c.part.ensures) (element_taken c.args.body b h)
