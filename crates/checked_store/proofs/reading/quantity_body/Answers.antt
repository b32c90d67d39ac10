-- `quantity_body` meets its contract, body by body. Assumes nothing.
use Rattle.checked_store.proofs.Readings.{count_held, number_held}
use Rattle.checked_store.proofs.reading.quantity_body.Goals as goal

pub returns-then-hundredths : goal.returns-then-hundredths
returns-then-hundredths c = count_held c.args.hundredths c.simple.result c.if-hundredths.true c.simple.ensures

pub returns : goal.returns
returns c = number_held c.args.hundredths c.simple-2.result c.if-hundredths.false c.simple-2.ensures
