-- The variables' lines as they are read off the caller's memory that a run leaves. Assumes nothing: these are definitions.
use Rattle.std.specs.Prelude.{◌≡◌, List, [], ◌++◌, ℕ, zero, suc, ◌*◌, ◌<◌, length, take, drop, ℤ}
use Rattle.std.specs.Bool.{then_some}
use Rattle.lingua.specs.Numbers.{body_cells, declaration_section}
use Rattle.lingua.specs.Body.{size}
use Rattle.lingua.specs.Store.{Variable, variable_at, present_body, filled_at}
use Rattle.lingua.specs.Rows.{pair_count}
use Rattle.lingua.specs.Trees.{name_at}
use Rattle.lingua.specs.Format.{rows_of}
use Rattle.lingua.specs.Refusal.{lowest, pair_rules}
use Rattle.checked_row.specs.Meaning.{Stored}
use Rattle.text.specs.Line.{variable_line}

-- present bodies of some store that has a variable d
pub record HasBody (present : List ℕ) (d : ℕ) : Type 0 where
  pub cells : List ℤ
  pub states : List ℕ
  pub store : List Variable
  pub stored : Stored present cells states store
  pub there : d < length store

-- memory that a run left: it holds a store of the declared variables, with their present bodies
pub record Left (rows present : List ℕ) (cells : List ℤ) (states : List ℕ) (vs : List Variable) : Type 0 where
  pub stored : Stored present cells states vs
  pub count : length vs ≡ pair_count rows declaration_section

-- some such store
pub record HasLeft (rows present : List ℕ) (cells : List ℤ) (states : List ℕ) : Type 0 where
  pub store : List Variable
  pub left : Left rows present cells states store

-- the cells of variable d's present body
unfoldable pub cells_of_bodies : List ℤ → List Variable → ℕ → List ℤ
cells_of_bodies cells vs d = take (size (present_body (variable_at vs d))) (drop (body_cells * d) cells)

unfoldable pub memory_line : List ℕ → List ℤ → List ℕ → List Variable → ℕ → List ℕ
memory_line rows cells states vs d =
    variable_line (name_at rows declaration_section d) (then_some (filled_at states d) (cells_of_bodies cells vs d))

-- the lines of n variables from d on
unfoldable pub memory_lines : List ℕ → List ℤ → List ℕ → List Variable → ℕ → ℕ → List ℕ
memory_lines rows cells states vs d zero = []
memory_lines rows cells states vs d (suc n) = memory_line rows cells states vs d ++ memory_lines rows cells states vs (suc d) n

-- the lines of all variables; a refused pair has none
unfoldable pub lines_unless : ℕ → List ℕ → List ℤ → List ℕ → List Variable → List ℕ
lines_unless zero rows cells states vs = memory_lines rows cells states vs 0 (pair_count rows declaration_section)
lines_unless (suc n) rows cells states vs = []

unfoldable pub variables_text : List ℕ → List ℕ → List ℤ → List ℕ → List Variable → List ℕ
variables_text prof lims cells states vs = lines_unless (lowest (pair_rules prof lims)) (rows_of prof) cells states vs
