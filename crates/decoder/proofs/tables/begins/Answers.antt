-- `begins` meets its contract. Assumes nothing.
use mathlib.Core.Path.{◌≡◌, refl, ap, ◌∙◌}
use mathlib.Core.Bool.{Bool, true, false}
use Prim.Native.Nat.{ℕ}
use mir.Val.{bool_byte}
use Rattle.std.specs.Prelude.{if◌then◌else◌}
use Rattle.lingua.specs.Rows.{begins_procedure}
use Rattle.decoder.proofs.tables.begins.Goals as goal

one_or_none : (t : Bool) → ◌≡◌ {A = ℕ} (bool_byte t) (if t then 1 else 0)
one_or_none true = refl
one_or_none false = refl

pub returns : goal.returns
unfolding begins_procedure
returns c = c.from.ensures ∙ (one_or_none c.is_kind.result ∙ ap (λ (t : Bool). if t then 1 else 0) c.is_kind.ensures)
