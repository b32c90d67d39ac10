use Rattle.text.proofs.Texts.{append_both}
use Rattle.text.proofs.report.put_named.Goals as goal

pub returns : goal.returns
returns c = append_both c.put.ensures c.put_decimal.ensures
