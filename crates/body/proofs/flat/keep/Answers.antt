-- `body::flat::keep` meets its contract: the 96 bytes at the place are the body's. Assumes nothing.
use native.Mathlib.Omega.{arith}
use borrow.Author.Rules.{rules}
use mathlib.Core.Path.{◌≡◌}
use lib.ListN.{length}
use Rattle.std.proofs.lemmas.Slice.{put_mid-paste}
use Rattle.body.proofs.flat.keep.Goals as goal

pub returns : goal.returns
returns c =
    let n : length c.args.body ≡ 96 = search rules in
    put_mid-paste _ _ _ _ c.args.body 96 c.copy_from_slice.ensures.after (omega arith) (omega arith)
