-- `constant_body` meets its contract, constant by constant. Assumes nothing.
use Rattle.profile.proofs.ConstantCells.{body_boolean, body_number, body_word, body_hundredths}
use Rattle.profile.proofs.constants.constant_body.Goals as goal

pub returns-in-Boolean : goal.returns-in-Boolean
returns-in-Boolean c = body_boolean c.args.rows.now c.args.r c.constant_at-s.result c.constant_at-s.ensures c.simple.result c.in-Boolean.is c.simple.ensures

pub returns-in-Number : goal.returns-in-Number
returns-in-Number c = body_number c.args.rows.now c.args.r c.constant_at-s.result c.constant_at-s.ensures c.simple-in-Number.result c.in-Number.is c.simple-in-Number.ensures

pub returns-in-Word : goal.returns-in-Word
returns-in-Word c = body_word c.args.rows.now c.args.r c.constant_at-s.result c.constant_at-s.ensures c.simple-in-Word.result c.in-Word.is c.simple-in-Word.ensures

pub returns-in-Hundredths : goal.returns-in-Hundredths
returns-in-Hundredths c = body_hundredths c.args.rows.now c.args.r c.constant_at-s.result c.constant_at-s.ensures c.simple-in-Hundredths.result c.in-Hundredths.is c.simple-in-Hundredths.ensures
