-- Each call reads one level deeper, or at the same depth a smaller piece. The loops go through lists item by item.
use Rattle.std.proofs.Common.{◌+◌, ◌-◌, ◌*◌, length, map}
use Rattle.ada_tree.specs.PlainStmt.{plain_stmt, plain_arm, plain_alt, plain_case_arm, plain_handler}
use Rattle.ada_lexer.specs.declared.symbols.Symbol.TheVariants as key
use Rattle.ada_phrase_parser.specs.Reading.{is_symbol, key_then}
use Rattle.ada_stmt_parser.specs.inner.ReadingStatements.{inner_at, begins_stmt, if_arm, case_part, others_part, handler_part, handler_others}
use Rattle.ada_phrase_parser.specs.Views.{told}
use Rattle.ada_phrase_parser.proofs.Lists.{GoesOn}
use Rattle.ada_stmt_parser.proofs.Whens.{WhensGoOn}
use Rattle.ada_stmt_parser.proofs.+stmt.Given as goal

abbrev pub invariant-sequences::stmts_onto-stmts :
    goal.invariant-sequences::stmts_onto-stmts
invariant-sequences::stmts_onto-stmts l = GoesOn begins_stmt (inner_at (told l.source) l.depth).stmt (map plain_stmt l.list.items) (map plain_stmt l.initial.list.items) l.rest l.initial.rest

abbrev pub decreases-sequences::stmts_onto-stmts :
    goal.decreases-sequences::stmts_onto-stmts
decreases-sequences::stmts_onto-stmts l = length l.rest

abbrev pub invariant-compound::arms_onto-arms :
    goal.invariant-compound::arms_onto-arms
invariant-compound::arms_onto-arms l = GoesOn (is_symbol key.Elsif) (key_then key.Elsif (if_arm (l.depth - 1) (inner_at (told l.source) l.depth))) (map plain_arm l.list.items) (map plain_arm l.initial.list.items) l.rest l.initial.rest

abbrev pub decreases-compound::arms_onto-arms :
    goal.decreases-compound::arms_onto-arms
decreases-compound::arms_onto-arms l = length l.rest

abbrev pub invariant-selecting::alts_onto-alts :
    goal.invariant-selecting::alts_onto-alts
invariant-selecting::alts_onto-alts l = GoesOn (is_symbol key.Or) (key_then key.Or (inner_at (told l.source) l.depth).alt) (map plain_alt l.list.items) (map plain_alt l.initial.list.items) l.rest l.initial.rest

abbrev pub decreases-selecting::alts_onto-alts :
    goal.decreases-selecting::alts_onto-alts
decreases-selecting::alts_onto-alts l = length l.rest

abbrev pub invariant-compound::read_case_arms-arms :
    goal.invariant-compound::read_case_arms-arms
invariant-compound::read_case_arms-arms l = WhensGoOn (case_part (l.depth - 1) (inner_at (told l.source) l.depth)) (others_part (inner_at (told l.source) l.depth)) (map plain_case_arm l.arms.items) l.rest l.initial.rest

abbrev pub decreases-compound::read_case_arms-arms :
    goal.decreases-compound::read_case_arms-arms
decreases-compound::read_case_arms-arms l = length l.rest

abbrev pub invariant-handled_statements::handler_parts-handlers :
    goal.invariant-handled_statements::handler_parts-handlers
invariant-handled_statements::handler_parts-handlers l = WhensGoOn (handler_part (inner_at (told l.source) l.depth)) (handler_others (inner_at (told l.source) l.depth)) (map plain_handler l.list.items) l.rest l.initial.rest

abbrev pub decreases-handled_statements::handler_parts-handlers :
    goal.decreases-handled_statements::handler_parts-handlers
decreases-handled_statements::handler_parts-handlers l = length l.rest

abbrev pub decreases-statements::read_stmt : goal.decreases-statements::read_stmt
decreases-statements::read_stmt l = 64 * l.depth + 40

abbrev pub decreases-statements::case_or_block : goal.decreases-statements::case_or_block
decreases-statements::case_or_block l = 64 * l.depth + 39

abbrev pub decreases-statements::any_loop : goal.decreases-statements::any_loop
decreases-statements::any_loop l = 64 * l.depth + 38

abbrev pub decreases-statements::worded : goal.decreases-statements::worded
decreases-statements::worded l = 64 * l.depth + 37

abbrev pub decreases-statements::accept_or_name : goal.decreases-statements::accept_or_name
decreases-statements::accept_or_name l = 64 * l.depth + 36

abbrev pub decreases-selecting::read_select : goal.decreases-selecting::read_select
decreases-selecting::read_select l = 64 * l.depth + 30

abbrev pub decreases-selecting::wait : goal.decreases-selecting::wait
decreases-selecting::wait l = 64 * l.depth + 29

abbrev pub decreases-selecting::read_alts : goal.decreases-selecting::read_alts
decreases-selecting::read_alts l = 64 * l.depth + 27

abbrev pub decreases-selecting::alts_onto : goal.decreases-selecting::alts_onto
decreases-selecting::alts_onto l = 64 * l.depth + 26

abbrev pub decreases-selecting::next_alt : goal.decreases-selecting::next_alt
decreases-selecting::next_alt l = 64 * l.depth + 25

abbrev pub decreases-selecting::alt_below : goal.decreases-selecting::alt_below
decreases-selecting::alt_below l = 64 * l.depth + 24

abbrev pub decreases-selecting::read_alt : goal.decreases-selecting::read_alt
decreases-selecting::read_alt l = 64 * l.depth + 41

abbrev pub decreases-selecting::alt_kind : goal.decreases-selecting::alt_kind
decreases-selecting::alt_kind l = 64 * l.depth + 40

abbrev pub decreases-selecting::read_accept : goal.decreases-selecting::read_accept
decreases-selecting::read_accept l = 64 * l.depth + 35

abbrev pub decreases-compound::read_if : goal.decreases-compound::read_if
decreases-compound::read_if l = 64 * l.depth + 30

abbrev pub decreases-compound::read_arms : goal.decreases-compound::read_arms
decreases-compound::read_arms l = 64 * l.depth + 29

abbrev pub decreases-compound::arms_onto : goal.decreases-compound::arms_onto
decreases-compound::arms_onto l = 64 * l.depth + 28

abbrev pub decreases-compound::next_arm : goal.decreases-compound::next_arm
decreases-compound::next_arm l = 64 * l.depth + 27

abbrev pub decreases-compound::read_arm : goal.decreases-compound::read_arm
decreases-compound::read_arm l = 64 * l.depth + 26

abbrev pub decreases-compound::read_case : goal.decreases-compound::read_case
decreases-compound::read_case l = 64 * l.depth + 30

abbrev pub decreases-compound::read_case_arms : goal.decreases-compound::read_case_arms
decreases-compound::read_case_arms l = 64 * l.depth + 29

abbrev pub decreases-compound::case_part : goal.decreases-compound::case_part
decreases-compound::case_part l = 64 * l.depth + 26

abbrev pub decreases-compound::others_part : goal.decreases-compound::others_part
decreases-compound::others_part l = 64 * l.depth + 26

abbrev pub decreases-handled_statements::read_block : goal.decreases-handled_statements::read_block
decreases-handled_statements::read_block l = 64 * l.depth + 31

abbrev pub decreases-handled_statements::read_body : goal.decreases-handled_statements::read_body
decreases-handled_statements::read_body l = 64 * l.depth + 30

abbrev pub decreases-handled_statements::handlers_below : goal.decreases-handled_statements::handlers_below
decreases-handled_statements::handlers_below l = 64 * l.depth + 28

abbrev pub decreases-handled_statements::read_handlers : goal.decreases-handled_statements::read_handlers
decreases-handled_statements::read_handlers l = 64 * l.depth + 40

abbrev pub decreases-handled_statements::handler_parts : goal.decreases-handled_statements::handler_parts
decreases-handled_statements::handler_parts l = 64 * l.depth + 39

abbrev pub decreases-handled_statements::read_handler : goal.decreases-handled_statements::read_handler
decreases-handled_statements::read_handler l = 64 * l.depth + 26

abbrev pub decreases-handled_statements::others_handler : goal.decreases-handled_statements::others_handler
decreases-handled_statements::others_handler l = 64 * l.depth + 26

abbrev pub decreases-sequences::stmts : goal.decreases-sequences::stmts
decreases-sequences::stmts l = 64 * l.depth + 14

abbrev pub decreases-sequences::any_stmts : goal.decreases-sequences::any_stmts
decreases-sequences::any_stmts l = 64 * l.depth + 15

abbrev pub decreases-sequences::else_part : goal.decreases-sequences::else_part
decreases-sequences::else_part l = 64 * l.depth + 20

abbrev pub decreases-sequences::stmts_onto : goal.decreases-sequences::stmts_onto
decreases-sequences::stmts_onto l = 64 * l.depth + 13

abbrev pub decreases-sequences::stmt_below : goal.decreases-sequences::stmt_below
decreases-sequences::stmt_below l = 64 * l.depth + 12

abbrev pub decreases-statements::named : goal.decreases-statements::named
decreases-statements::named l = 64 * l.depth + 35

abbrev pub decreases-handled_statements::body_end : goal.decreases-handled_statements::body_end
decreases-handled_statements::body_end l = 64 * l.depth + 29

abbrev pub decreases-looping::loop_from : goal.decreases-looping::loop_from
decreases-looping::loop_from l = 64 * l.depth + 31

abbrev pub decreases-selecting::accept_kind : goal.decreases-selecting::accept_kind
decreases-selecting::accept_kind l = 64 * l.depth + 20

abbrev pub decreases-selecting::delay_kind : goal.decreases-selecting::delay_kind
decreases-selecting::delay_kind l = 64 * l.depth + 20

abbrev pub decreases-selecting::accept_tail : goal.decreases-selecting::accept_tail
decreases-selecting::accept_tail l = 64 * l.depth + 34

abbrev pub decreases-selecting::call_tail : goal.decreases-selecting::call_tail
decreases-selecting::call_tail l = 64 * l.depth + 29
