-- The reading of a statement in the order of its tests: what each part of it reads, and what stands for the others.
use Rattle.std.specs.Prelude.{ℕ, Option, Some, None, is_some, map}
use Rattle.ada_expr_parser.specs.readers.Readers.{Reader, pure, refuse, bind, on, below, token, look}
use Rattle.ada_tree.specs.declared.naming.Span.{Span}
use Rattle.ada_tree.specs.declared.naming.Word.{Word}
use Rattle.ada_tree.specs.PlainStmt.{PStmt, SNull, SDelay, SRaise, SAbort, SAccept, PMaybe, absent, present, PAccept, accepting, PAlt, alternative, AAccept, ADelay}
use Rattle.ada_lexer.specs.declared.symbols.Symbol.TheVariants as key
use Rattle.ada_expr_parser.specs.declared.items.Item.{Item}
use Rattle.ada_expr_parser.specs.Tests.{symbol, word}
use Rattle.ada_expr_parser.specs.Trees.{from_to}
use Rattle.ada_expr_parser.specs.Parts.{target, callee_of}
use Rattle.ada_phrase_parser.specs.Spelling.{Source}
use Rattle.ada_phrase_parser.specs.Reading.{closed, separated, delayed, end_of, accept_behind}
use Rattle.ada_compound_parts.specs.inner.ReadingHeads.{Kinded, kind_of, guard, loop_scheme, terminating, CallTail, call_tail_of, or_delay, end_select, selected_call, selected}
use Rattle.ada_compound_parts.specs.inner.ReadingParts.{last_span, first_of_alt, head_of}
use Rattle.ada_stmt_parser.specs.inner.ReadingStatements.{Readers, stmts, any_stmts, accept_at, accept_span, named_rest, case_rest, block_rest, while_rest, for_rest, loop_rest, wait_rest}
use Rattle.ada_simple_stmt_parser.specs.inner.ReadingSimple.{exit_rest}

abbrev pub accept_or_name : Source → ℕ → Readers → Reader Item PStmt
accept_or_name source d r =
    on (symbol key.Accept) (λ lead. bind (accept_at d r lead) (λ a. pure (SAccept a (accept_span a)))) (on word (named_rest source d r) refuse)

abbrev pub worded : Source → ℕ → Readers → Reader Item PStmt
worded source d r =
    on (symbol key.Null) (λ lead. closed (λ close. SNull (from_to lead close)))
    (on (symbol key.Delay) (λ lead. bind delayed (λ x. pure (SDelay x.thousandths (from_to lead x.close))))
    (on (symbol key.Exit) (λ lead. on word (λ w. exit_rest d lead (Some w)) (exit_rest d lead None))
    (on (symbol key.Raise) (λ lead. on word (λ w. closed (λ close. SRaise (Some w) (from_to lead close))) (closed (λ close. SRaise None (from_to lead close))))
    (on (symbol key.Abort) (λ lead. bind (separated key.Comma (target d)) (λ ts. closed (λ close. SAbort (map callee_of ts) (from_to lead close))))
    (accept_or_name source d r)))))

abbrev pub any_loop : Source → ℕ → Readers → Reader Item PStmt
any_loop source d r =
    below d (symbol key.While) (λ e lead. while_rest e r None lead)
    (below d (symbol key.For) (λ e lead. for_rest e r None lead)
    (below d (symbol key.Loop) (λ e lead. loop_rest r None lead None)
    (worded source d r)))

abbrev pub case_or_block : Source → ℕ → Readers → Reader Item PStmt
case_or_block source d r =
    below d (symbol key.Case) (λ e lead. case_rest e r lead)
    (below d (symbol key.Begin) (λ e lead. block_rest e r lead)
    (any_loop source d r))

-- a loop from its first word on
abbrev pub loop_from : ℕ → Readers → Option Word → Span → Reader Item PStmt
loop_from e r name lead = bind (loop_scheme e) (loop_rest r name lead)

-- the end of an accept statement: its statements, if it has some, and the place of its semicolon
pub record Tail : Type 0 where
  pub stmts : PMaybe
  pub close : Span

abbrev pub tail_of : PMaybe → Span → Tail
tail_of l close = record { stmts = l; close = close }

abbrev pub accept_tail : ℕ → Readers → Word → Reader Item Tail
accept_tail d r w =
    below d (symbol key.Do) (λ e at. bind (stmts r) (λ l. bind (end_of w (λ close. close)) (λ close. pure (tail_of (present l) close))))
    (closed (λ close. tail_of absent close))

abbrev pub accept_from : ℕ → Readers → Span → Reader Item PAccept
accept_from d r lead =
    bind (token word) (λ w. bind (accept_behind d) (λ x. bind (accept_tail d r w) (λ t. pure (accepting (head_of w x (from_to lead t.close)) t.stmts))))

-- an alternative behind its guard
abbrev pub accept_kind : Readers → Span → Reader Item Kinded
accept_kind r lead = bind (r.accept lead) (λ a. bind (any_stmts r) (λ l. pure (kind_of (AAccept a l) lead (last_span (accept_span a) l))))

abbrev pub delay_kind : Readers → Span → Reader Item Kinded
delay_kind r lead = bind delayed (λ x. bind (any_stmts r) (λ l. pure (kind_of (ADelay x.thousandths l) lead (last_span x.close l))))

abbrev pub alt_kind : ℕ → Readers → Reader Item Kinded
alt_kind d r = below d (symbol key.Accept) (λ e lead. accept_kind r lead) (below d (symbol key.Delay) (λ e lead. delay_kind r lead) terminating)

abbrev pub alt_from : ℕ → Readers → Reader Item PAlt
alt_from d r =
    bind (guard d) (λ g. bind (alt_kind d r) (λ x. pure (alternative g.test x.kind (from_to (first_of_alt g.lead x.first) x.last))))

-- behind a call that is selected
abbrev pub call_tail : Readers → Reader Item CallTail
call_tail r =
    bind (any_stmts r) (λ l.
    on (symbol key.Else) (λ at. bind (stmts r) (λ o. bind end_select (λ close. pure (call_tail_of l None o close))))
    (bind or_delay (λ n. bind (any_stmts r) (λ m. bind end_select (λ close. pure (call_tail_of l (Some n) m close))))))

abbrev pub call_from : ℕ → Readers → Span → Reader Item PStmt
call_from e r lead =
    bind (selected_call e) (λ c. bind (call_tail r) (λ t. pure (selected lead c t.behind t.delay t.last t.close)))

abbrev pub select_from : ℕ → Readers → Span → Reader Item PStmt
select_from e r lead = look (λ x. is_some (word x)) (call_from e r lead) (wait_rest r lead)
