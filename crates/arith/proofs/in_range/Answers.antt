-- `in_range` meets its contract: each of its four ends has its law in `Range`. Assumes nothing.
use mir.ValLaws.{to_z-of_z}
use Rattle.arith.proofs.Range.{count_low, count_rest, number_low, number_rest}
use Rattle.arith.proofs.in_range.Goals as goal

pub returns-then-z-lt-LOWEST_COUNT : goal.returns-then-z-lt-LOWEST_COUNT
returns-then-z-lt-LOWEST_COUNT c = count_low c.args.hundredths c.args.z c.if-hundredths.true (rw (to_z-of_z _ _ c.ranges.z) at c.if-z-lt-LOWEST_COUNT.true)

pub returns-then-hundredths : goal.returns-then-hundredths
returns-then-hundredths c =
    let z = to_z-of_z _ _ c.ranges.z in
    rw z (count_rest c.args.hundredths c.args.z c.if-hundredths.true (rw z at c.if-z-lt-LOWEST_COUNT.false))

pub returns-then-z-lt-LOWEST_NUMBER : goal.returns-then-z-lt-LOWEST_NUMBER
returns-then-z-lt-LOWEST_NUMBER c = number_low c.args.hundredths c.args.z c.if-hundredths.false (rw (to_z-of_z _ _ c.ranges.z) at c.if-z-lt-LOWEST_NUMBER.true)

pub returns : goal.returns
returns c =
    let z = to_z-of_z _ _ c.ranges.z in
    rw z (number_rest c.args.hundredths c.args.z c.if-hundredths.false (rw z at c.if-z-lt-LOWEST_NUMBER.false))
