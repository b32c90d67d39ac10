-- `text::report::put_end_line` meets its contract: five texts, each behind the last. Assumes nothing.
use Rattle.lingua.specs.Report.{end_line}
use Rattle.text.proofs.Texts.{append_both}
use Rattle.text.proofs.report.put_end_line.Goals as goal

pub returns : goal.returns
unfolding end_line
returns c = append_both c.put_named.ensures (append_both c.put_named-2.ensures (append_both c.put_named-3.ensures (append_both c.put_named-4.ensures c.put.ensures)))
