use Rattle.std.proofs.Common.{arith}
use mir.ValLaws.{to_z-of_z}
use Rattle.text.proofs.Decimals.{same_signed}
use Rattle.text.proofs.page.Page.put_signed.Goals as goal

pub returns : goal.returns
returns c =
    let put = c.put.ensures in
    rw (c.as_bytes.ensures.value, c.format.ensures.text, to_z-of_z _ _ c.ranges.z, same_signed c.args.z (omega arith)) at put
