-- The numbers in a range about zero. Assumes nothing: these are definitions.
use Rattle.std.specs.Prelude.{Bool, ◌&&◌, ℕ, suc, ℤ, pos, negsuc}
use Rattle.std.specs.Int.Signed.{le_z}

-- from -(k + 1) to k + 1
unfoldable pub about : ℕ → ℤ → Bool
about k z = le_z (negsuc k) z && le_z z (pos (suc k))
