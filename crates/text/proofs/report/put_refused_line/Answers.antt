-- `text::report::put_refused_line` meets its contract: two texts, one behind the other. Assumes nothing.
use Rattle.lingua.specs.Report.{refused_text}
use Rattle.text.proofs.Texts.{append_both}
use Rattle.text.proofs.report.put_refused_line.Goals as goal

pub returns : goal.returns
unfolding refused_text
returns c = append_both c.put_named.ensures c.put.ensures
