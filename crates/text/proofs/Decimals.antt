-- The digits that the library writes are those of the report. Assumes nothing.
use Rattle.std.proofs.Common.{◌≡◌, sym, ap, ◌∙◌, ℕ, suc, ◌∷◌, [], ◌^◌, ◌<◌, append-nil, arith}
use lib.IntN.{ℤ, pos, negsuc}
use lib.Signed.{mag}
use borrow.Author.Tests.{lt-ltb, le-ltb}
use Rattle.std.specs.Fmt as std
use Rattle.std.proofs.lemmas.Fmt.{PrependsLastDigit, decimal_from_prepends, length-decimal-le}
use Rattle.lingua.specs.Report.{digits_in, decimal, signed_decimal}

prepends : PrependsLastDigit digits_in
unfolding digits_in
prepends = record {
  one = λ k n acc h. rw (lt-ltb n 10 h);
  more = λ k n acc h. rw (le-ltb n 10 h);
}

pub same_decimal : (n : ℕ) → n < 2 ^ 64 → std.decimal n ≡ decimal n
unfolding decimal
same_decimal n h = sym (decimal_from_prepends digits_in prepends 20 n [] h (length-decimal-le 20 n (omega arith) (omega arith) (omega arith)) ∙ append-nil (std.decimal n))

pub same_signed : (z : ℤ) → mag z < 2 ^ 63 → std.signed_decimal z ≡ signed_decimal z
unfolding signed_decimal
same_signed (pos n) h = same_decimal n (omega arith)
same_signed (negsuc n) h = ap (λ ds. 45 ∷ ds) (same_decimal (suc n) (omega arith))
