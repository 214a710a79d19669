use Rattle.std.proofs.Common.{sym}
use Rattle.syn_constraint.proofs.Formatted.{next-read, next-unknown}
use Rattle.syn_constraint.proofs.reading.next_constraint.Goals as goal

pub returns-then-is_known-clause-read : goal.returns-then-is_known-clause-read
returns-then-is_known-clause-read c =
    next-read c.args.numbers.now c.requires c.args.count c.args.rest.now c.in-Some.text.now c.in-Some.behind.now c.in-Some-read_line.constraint c.if-count-ge-MOST_CONSTRAINTS.false
    (sym c.in-Some.ensures.cut) c.in-Some-read_line.ensures (sym c.if-is_known.ensures)

pub returns-else-is_known-clause-fault : goal.returns-else-is_known-clause-fault
returns-else-is_known-clause-fault c =
    next-unknown c.args.numbers.now c.requires c.args.count c.args.rest.now c.in-Some.text.now c.in-Some.behind.now c.in-Some-read_line.constraint c.if-count-ge-MOST_CONSTRAINTS.false
    (sym c.in-Some.ensures.cut) c.in-Some-read_line.ensures (sym c.if-is_known.ensures)
