use Rattle.std.proofs.Common.{◌≡◌, ℕ, ◌≤◌, length, map}
use Rattle.ada_expr_parser.specs.readers.Readers.{fronted, items_in}
use Rattle.ada_tree.specs.PlainExpr.{plain_expr}
use Rattle.ada_expr_parser.specs.Parts.{is_comma, next_expr, more_exprs}
use Rattle.ada_expr_parser.proofs.ranges_and_calls.more_exprs.Given as goal

-- what is read behind the list so far is what was to be read behind the first
abbrev pub invariant-commas : goal.invariant-commas
invariant-commas l =
    (turns : ℕ) × (length l.rest ≤ turns) × (length l.rest ≤ length l.initial.rest)
    × (fronted (map plain_expr l.list.items) (items_in turns is_comma (next_expr l.depth) l.rest) ≡ fronted (map plain_expr l.initial.list.items) (more_exprs l.depth l.initial.rest))

abbrev pub decreases-commas : goal.decreases-commas
decreases-commas l = length l.rest
