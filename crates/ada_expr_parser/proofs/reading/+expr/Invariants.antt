-- Each call reads fewer items, or the same at a tighter level.
use Rattle.std.proofs.Common.{◌+◌, ◌*◌, length}
use Rattle.ada_expr_parser.proofs.reading.+expr.Given as goal

abbrev pub decreases-logical : goal.decreases-logical
decreases-logical l = 16 * length l.items.now + 9

abbrev pub decreases-relation : goal.decreases-relation
decreases-relation l = 16 * length l.items.now + 8

abbrev pub decreases-simple : goal.decreases-simple
decreases-simple l = 16 * length l.items.now + 7

abbrev pub decreases-signed : goal.decreases-signed
decreases-signed l = 16 * length l.items.now + 6

abbrev pub decreases-term : goal.decreases-term
decreases-term l = 16 * length l.items.now + 5

abbrev pub decreases-factor : goal.decreases-factor
decreases-factor l = 16 * length l.items.now + 4

abbrev pub decreases-primary : goal.decreases-primary
decreases-primary l = 16 * length l.items.now + 3

abbrev pub decreases-parens : goal.decreases-parens
decreases-parens l = 16 * length l.items.now + 2

abbrev pub decreases-named : goal.decreases-named
decreases-named l = 16 * length l.items.now + 1

abbrev pub decreases-attributed : goal.decreases-attributed
decreases-attributed l = 16 * length l.items.now + 1

abbrev pub decreases-below : goal.decreases-below
decreases-below l = 16 * length l.items.now + 10

abbrev pub decreases-more : goal.decreases-more
decreases-more l = 16 * length l.items.now + 1

abbrev pub decreases-further : goal.decreases-further
decreases-further l = 16 * length l.items.now + 12

abbrev pub decreases-operand : goal.decreases-operand
decreases-operand l = 16 * length l.items.now + 11
