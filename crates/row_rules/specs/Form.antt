-- What the code says that a kind uses, and what rule 7 has shown when names are asked. Assumes nothing: these are definitions.
use Rattle.std.proofs.Math.Option.{Option as Maybe, some, none}
use Rattle.std.specs.Prelude.{List, ℕ, ◌≤◌, Option, Some, None}
use Rattle.lingua.specs.Numbers.{most_procedures}
use Rattle.lingua.specs.Rows.{procedure_count}
use Rattle.lingua.specs.Format.{File, profile, limits}

-- the definitions' option for the code's
unfoldable pub meant : Option ℕ → Maybe ℕ
meant None = none
meant (Some n) = some n

-- a profile has no more procedures than rule 7 lets through
unfoldable pub FewProcedures : File → List ℕ → Type 0
FewProcedures profile rows = procedure_count rows ≤ most_procedures
FewProcedures limits rows = Unit {0}
