use Rattle.std.proofs.Common.{arith}
use Rattle.text.proofs.Decimals.{same_decimal}
use Rattle.text.proofs.page.Page.put_decimal.Goals as goal

pub returns : goal.returns
returns c =
    let put = c.put.ensures in
    rw (c.as_bytes.ensures.value, c.format.ensures.text, same_decimal c.args.n (omega arith)) at put
