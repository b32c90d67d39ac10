-- `text::report::put_variable_line` meets its contract: three texts, each behind the last. Assumes nothing.
use Rattle.text.specs.Line.{variable_line}
use Rattle.text.proofs.Texts.{append_both}
use Rattle.text.proofs.report.put_variable_line.Goals as goal

pub returns : goal.returns
unfolding variable_line
returns c = append_both c.put_name.ensures (append_both c.put_content.ensures c.put.ensures)
