-- Rounding to the nearest whole number, a half away from zero, over any divisor (document 02, request 5). Assumes nothing: these are
-- definitions.
use Rattle.std.specs.Prelude.{ℕ, suc, ◌+◌, ◌*◌, ◌/◌, ℤ, pos, negsuc, neg_ℤ}

-- of sizes: n and half of d, divided by d and cut
unfoldable pub nearest_size : ℕ → ℕ → ℕ
nearest_size n d = (2 * n + d) / (2 * d)

-- sizes are rounded, and the sign is that of the exact fraction
unfoldable pub nearest : ℤ → ℤ → ℤ
nearest (pos n) (pos d) = pos (nearest_size n d)
nearest (pos n) (negsuc d) = neg_ℤ (pos (nearest_size n (suc d)))
nearest (negsuc n) (pos d) = neg_ℤ (pos (nearest_size (suc n) d))
nearest (negsuc n) (negsuc d) = pos (nearest_size (suc n) (suc d))
