-- The bounds of the bodies that the operations make, by the measures of their operands. Assumes nothing.
use mathlib.Core.Path.{◌≡◌, refl}
use mathlib.Core.Bool.{false, ◌||◌}
use mathlib.Core.List.{List}
use Prim.Native.Nat.{ℕ, ◌+◌, ◌*◌, ◌≤◌, ◌<◌}
use native.Mathlib.Omega.{arith}
use lib.Dec.{ltb}
use Rattle.lingua.specs.Body.{Body, list_of, record_of, end, attribute, size, nodes, depth, count_attributes, width, too_large}
use Rattle.lingua.specs.Encode.{encoded}
use Rattle.body.specs.declared.walk.Measure.{Measure}
use Rattle.body.specs.Encode.{Holds, Held}
use Rattle.body.specs.Walk.{Measured}
use Rattle.body.proofs.Bytes.{within, depth_below}
use Rattle.body.proofs.Answers.{large_is}

pub record FewHeld (m : Measure) : Type 0 where
  pub few_cells : m.cells ≤ 64
  pub few_nodes : m.nodes ≤ 32
  pub few_levels : m.depth ≤ 32

pub few_held : (x : List ℕ) (m : Measure) → ((b : Body) → Holds x b → Measured m 0 b) → Held x → FewHeld m
few_held x m f h =
    let k = h.holds in
    let r = f h.body k in
    record {
      few_cells = omega (arith, r.is_cells, k.few_cells);
      few_nodes = omega (arith, r.is_nodes, k.few_nodes);
      few_levels = omega (arith, r.is_depth, k.few_nodes, depth_below h.body);
    }

-- a body within its bounds can be held
pub bounded_holds : (x : List ℕ) (b : Body) → x ≡ encoded b → too_large b ≡ false → Holds x b
bounded_holds x b e f =
    let w = within b f in
    record { is = e; few_cells = w.cells; few_nodes = w.nodes_of }

pub list_size : (m : Measure) (b : Body) → Measured m 0 b → 1 + 8 * m.cells ≡ size (list_of b)
unfolding size
list_size m b r = omega (arith, r.is_cells)

pub list_test : (m : Measure) (b : Body) → Measured m 0 b
    → (ltb 64 (1 + 8 * m.cells) || ltb 32 (1 + m.nodes) || ltb 4 (1 + m.depth) || ltb 8 0) ≡ too_large (list_of b)
unfolding nodes depth width
list_test m b r =
    large_is (list_of b) (1 + 8 * m.cells) (1 + m.nodes) (1 + m.depth) 0 (list_size m b r)
    (omega (arith, r.is_nodes)) (omega (arith, r.is_depth)) refl

pub record_size : (m : Measure) (n : ℕ) (b : Body) → Measured m 0 b → m.cells ≡ size (record_of (attribute n b end))
unfolding size
record_size m n b r = omega (arith, r.is_cells)

pub record_test : (m : Measure) (n : ℕ) (b : Body) → Measured m 0 b
    → (ltb 64 m.cells || ltb 32 (1 + m.nodes) || ltb 4 (1 + m.depth) || ltb 8 1) ≡ too_large (record_of (attribute n b end))
unfolding nodes depth width count_attributes
record_test m n b r =
    large_is (record_of (attribute n b end)) m.cells (1 + m.nodes) (1 + m.depth) 1 (record_size m n b r)
    (omega (arith, r.is_nodes)) (omega (arith, r.is_depth)) refl

pub record_room : (n : ℕ) (b : Body) → too_large (record_of (attribute n b end)) ≡ false → nodes b < 32
unfolding nodes
record_room n b e = omega (arith, (within (record_of (attribute n b end)) e).nodes_of)
