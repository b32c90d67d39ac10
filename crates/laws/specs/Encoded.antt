-- The bytes of a body: a body of at most 32 nodes has no more than 96 of them. Assumes nothing.
use Rattle.std.specs.Prelude.{◌≡◌, ℕ, ◌+◌, ◌-◌, ◌*◌, ◌≤◌, length, replicate}
use Rattle.std.proofs.Common.{arith, length-append}
use Rattle.std.proofs.lemmas.List.{length-replicate}
use Rattle.lingua.specs.Numbers.{body_nodes, body_bytes}
use Rattle.lingua.specs.Body.{Body, boolean, number, word, hundredths, list_of, record_of, Attributes, end, attribute, nodes, attribute_nodes}
use Rattle.lingua.specs.Value.{pad}
use Rattle.lingua.specs.Encode.{bytes, attribute_bytes, encoded}

-- a node brings its tag, a count if it is a record, and a number if it is an attribute's: the root is no attribute's
mutual
  unfolding bytes nodes

  pub bytes_below_lem : (b : Body) → length (bytes b) + 1 ≤ 3 * nodes b
  bytes_below_lem boolean = omega arith
  bytes_below_lem number = omega arith
  bytes_below_lem word = omega arith
  bytes_below_lem hundredths = omega arith
  bytes_below_lem (list_of b) = omega (arith, bytes_below_lem b)
  bytes_below_lem (record_of fs) = omega (arith, attribute_bytes_below fs)

  pub attribute_bytes_below : (fs : Attributes) → length (attribute_bytes fs) ≤ 3 * attribute_nodes fs
  attribute_bytes_below end = omega arith
  attribute_bytes_below (attribute n b fs) =
      omega (arith, length-append (bytes b) (attribute_bytes fs), bytes_below_lem b, attribute_bytes_below fs)

pub length_encoded : (b : Body) → nodes b ≤ body_nodes → length (encoded b) ≡ body_bytes
unfolding encoded pad
length_encoded b h =
    omega (arith, length-append (bytes b) (replicate (body_bytes - length (bytes b)) 0), length-replicate {A = ℕ} (body_bytes - length (bytes b)) 0, bytes_below_lem b)
