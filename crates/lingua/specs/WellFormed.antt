-- Well-formed bodies (document 01, Bodies and registers): a record has 1 to 8 attributes, numbered below 64 and in ascending order; a body is
-- within its bounds; and all of it holds of every body inside. Assumes nothing: these are definitions.
use Rattle.std.specs.Prelude.{ℕ, suc, ◌≤◌, ◌<◌}
use Rattle.lingua.specs.Numbers.{body_cells, body_nodes, body_depth, record_attributes, attribute_numbers}
use Rattle.lingua.specs.Body.{Body, boolean, number, word, hundredths, list_of, record_of, Attributes, end, attribute, size, nodes, depth, count_attributes}

-- at most 64 cells, 32 nodes and depth 4
pub record InBounds (b : Body) : Type 0 where
  pub few_cells : size b ≤ body_cells
  pub few_nodes : nodes b ≤ body_nodes
  pub shallow : depth b ≤ body_depth

mutual
  pub data WellFormed : Body → Type 0 where
    formed_boolean : WellFormed boolean
    formed_number : WellFormed number
    formed_word : WellFormed word
    formed_hundredths : WellFormed hundredths
    formed_list : {b : Body} → InBounds (list_of b) → WellFormed b → WellFormed (list_of b)
    formed_record : {fs : Attributes} → InBounds (record_of fs) → 1 ≤ count_attributes fs → count_attributes fs ≤ record_attributes → FormedFrom 0 fs → WellFormed (record_of fs)

  -- attributes numbered from n on and below 64, each above the one before it
  pub data FormedFrom : ℕ → Attributes → Type 0 where
    formed_end : {n : ℕ} → FormedFrom n end
    formed_attribute : {n m : ℕ} {b : Body} {fs : Attributes} → n ≤ m → m < attribute_numbers → WellFormed b → FormedFrom (suc m) fs → FormedFrom n (attribute m b fs)
