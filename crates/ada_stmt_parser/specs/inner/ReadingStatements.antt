-- How statements are read: by the next item, and behind a name by what follows it. At a depth d, at most d levels may stand below the statement, and inner reads one level deeper.
use Rattle.std.specs.Prelude.{ℕ, zero, suc, Bool, true, false, List, [], ◌∷◌, length, map, Option, Some, None, is_some, if◌then◌else◌}
use Rattle.ada_expr_parser.specs.readers.Readers.{Reader, pure, refuse, bind, on, token, below, look, items, some_items}
use Rattle.ada_tree.specs.declared.naming.Span.{Span}
use Rattle.ada_tree.specs.declared.naming.Word.{Word}
use Rattle.ada_tree.specs.PlainExpr.{PExpr}
use Rattle.ada_tree.specs.PlainStmt.{PCall, PScheme, LWhile, LFor, PStmt, SNull, SDelay, SRaise, SAbort, SAccept, SWait, SConditional, STimed, SIf, SCase, SBlock, SLoop, PStmts, PMaybe, absent, present, PAccept, accepting, PAlt, alternative, AAccept, ADelay, ATerminate, alts_of, PArm, arm, arms_of, PCaseArm, case_arm, case_arms_of, PBody, body, PHandler, handler, PHandlers, no_handler, handlers_of, stmts_of}
use Rattle.ada_lexer.specs.declared.symbols.Symbol.TheVariants as key
use Rattle.ada_expr_parser.specs.declared.items.Item.{Item}
use Rattle.ada_expr_parser.specs.Tests.{symbol, word}
use Rattle.ada_expr_parser.specs.Trees.{from_to}
use Rattle.ada_expr_parser.specs.Parts.{expression, drange, choice, target, callee_of, call_rest}
use Rattle.ada_phrase_parser.specs.Spelling.{Source}
use Rattle.ada_phrase_parser.specs.Reading.{is_symbol, key_then, closed, separated, end_of, delayed, accept_behind, part}
use Rattle.ada_simple_stmt_parser.specs.inner.ReadingSimple.{word_rest, exit_rest}
pub use Rattle.ada_compound_parts.specs.inner.ReadingHeads.{begins_stmt}
use Rattle.ada_compound_parts.specs.inner.ReadingParts.{last_span, first_of_alt, maybe, loop_end, head_of, with_others}

-- what reads at one depth: a statement, an accept behind its first word, an alternative, and handlers behind `exception`
pub record Readers : Type 0 where
  pub stmt : Reader Item PStmt
  pub accept : Span → Reader Item PAccept
  pub alt : Reader Item PAlt
  pub handlers : Reader Item PHandlers

abbrev pub accept_span : PAccept → Span
accept_span (accepting h o) = h.span

-- statements, none or some; and one at least (5.1)
abbrev pub any_stmts : Readers → Reader Item PStmts
any_stmts r = bind (items begins_stmt r.stmt) (λ l. pure (stmts_of l))

abbrev pub stmts : Readers → Reader Item PStmts
stmts r = bind (some_items begins_stmt r.stmt) (λ l. pure (stmts_of l))

-- `[else stmts]`
abbrev pub else_part : Readers → Reader Item PMaybe
else_part r = on (symbol key.Else) (λ at. bind (stmts r) (λ l. pure (present l))) (pure absent)

-- parts that begin with `when`, the last of which may be for `others`; turns is no less than their number
pub record Whens (A B : Type 0) : Type 0 where
  pub parts : List A
  pub others : Option B

abbrev pub with_part : {A B : Type 0} → A → Whens A B → Whens A B
with_part a x = record { parts = a ∷ x.parts; others = x.others }

abbrev pub no_whens : {A B : Type 0} → Whens A B
no_whens = record { parts = []; others = None }

abbrev pub whens_in : {A B : Type 0} → ℕ → (Span → Reader Item A) → (Span → Reader Item B) → Reader Item (Whens A B)
whens_in zero part others = look (is_symbol key.When) refuse (pure no_whens)
whens_in (suc turns) part others =
    on (symbol key.When) (λ lead. on (symbol key.Others) (λ at. bind (others lead) (λ b. pure record { parts = []; others = Some b }))
    (bind (part lead) (λ a. bind (whens_in turns part others) (λ more. pure (with_part a more)))))
    (pure no_whens)

abbrev pub whens : {A B : Type 0} → (Span → Reader Item A) → (Span → Reader Item B) → Reader Item (Whens A B)
whens part others ts = whens_in (length ts) part others ts

-- `expr then stmts` (5.3)
abbrev pub if_arm : ℕ → Readers → Reader Item PArm
if_arm e r = bind (expression e) (λ test. key_then key.Then (bind (stmts r) (λ l. pure (arm test l))))

-- behind `if`, one level deeper
abbrev pub if_rest : ℕ → Readers → Span → Reader Item PStmt
if_rest e r lead =
    bind (separated key.Elsif (if_arm e r)) (λ arms. bind (else_part r) (λ o.
    key_then key.End (key_then key.If (closed (λ close. SIf (arms_of arms) o (from_to lead close))))))

-- `choice {| choice} => stmts` behind `when` (5.4)
abbrev pub case_part : ℕ → Readers → Span → Reader Item PCaseArm
case_part e r lead = bind (separated key.Bar (choice e)) (λ choices. key_then key.Arrow (bind (stmts r) (λ l. pure (case_arm choices l))))

-- `=> stmts` behind `when others`
abbrev pub others_part : Readers → Span → Reader Item PStmts
others_part r lead = key_then key.Arrow (stmts r)

-- behind `case`, one level deeper
abbrev pub case_rest : ℕ → Readers → Span → Reader Item PStmt
case_rest e r lead =
    bind (expression e) (λ selector. key_then key.Is (bind (whens (case_part e r) (others_part r)) (λ x.
    key_then key.End (key_then key.Case (closed (λ close. SCase selector (case_arms_of x.parts) (maybe x.others) (from_to lead close)))))))

-- behind `begin`: a body, at most e levels below its statements (5.6)
abbrev pub body_rest : ℕ → Readers → Reader Item PBody
body_rest e r = bind (stmts r) (λ l. below e (symbol key.Exception) (λ i at. bind r.handlers (λ hs. pure (body l hs))) (pure (body l no_handler)))

abbrev pub block_rest : ℕ → Readers → Span → Reader Item PStmt
block_rest e r lead = bind (body_rest e r) (λ b. key_then key.End (closed (λ close. SBlock b (from_to lead close))))

abbrev pub loop_rest : Readers → Option Word → Span → Option PScheme → Reader Item PStmt
loop_rest r name lead scheme =
    bind (stmts r) (λ l. key_then key.End (key_then key.Loop (loop_end name (λ close. SLoop name scheme l (from_to lead close)))))

-- behind `while`, and behind `for`
abbrev pub while_rest : ℕ → Readers → Option Word → Span → Reader Item PStmt
while_rest e r name lead = bind (expression e) (λ test. key_then key.Loop (loop_rest r name lead (Some (LWhile test))))

abbrev pub for_range : ℕ → Readers → Option Word → Span → Word → Bool → Reader Item PStmt
for_range e r name lead w backwards = bind (drange e) (λ x. key_then key.Loop (loop_rest r name lead (Some (LFor w backwards x))))

abbrev pub for_rest : ℕ → Readers → Option Word → Span → Reader Item PStmt
for_rest e r name lead =
    bind (token word) (λ w. key_then key.In (on (symbol key.Reverse) (λ at. for_range e r name lead w true) (for_range e r name lead w false)))

-- behind `NAME :`
abbrev pub named_loop : ℕ → Readers → Word → Reader Item PStmt
named_loop e r w =
    on (symbol key.While) (λ at. while_rest e r (Some w) w.span)
    (on (symbol key.For) (λ at. for_rest e r (Some w) w.span)
    (on (symbol key.Loop) (λ at. loop_rest r (Some w) w.span None) refuse))

-- behind `select` and a call with its semicolon: an else part, or a delay (9.7.2, 9.7.3)
abbrev pub timed_rest : Readers → Span → PCall → PStmts → Reader Item PStmt
timed_rest r lead c l =
    key_then key.Or (key_then key.Delay (bind delayed (λ x. bind (any_stmts r) (λ m.
    key_then key.End (key_then key.Select (closed (λ close. STimed c l x.thousandths m (from_to lead close))))))))

abbrev pub call_rest_of : Readers → Span → PCall → Reader Item PStmt
call_rest_of r lead c =
    key_then key.Semicolon (bind (any_stmts r) (λ l.
    on (symbol key.Else) (λ at. bind (stmts r) (λ o. key_then key.End (key_then key.Select (closed (λ close. SConditional c l o (from_to lead close))))))
    (timed_rest r lead c l)))

-- behind `select`, one level deeper (9.7)
abbrev pub wait_rest : Readers → Span → Reader Item PStmt
wait_rest r lead =
    bind (separated key.Or r.alt) (λ alts. bind (else_part r) (λ o.
    key_then key.End (key_then key.Select (closed (λ close. SWait (alts_of alts) o (from_to lead close))))))

abbrev pub select_rest : ℕ → Readers → Span → Reader Item PStmt
select_rest e r lead =
    look (λ x. is_some (word x)) (bind (target e) (λ t. bind (call_rest e (callee_of t)) (call_rest_of r lead))) (wait_rest r lead)

-- behind the guard of an alternative, which begins at this place; inner reads one level deeper than the alternative (9.7.1)
abbrev pub accept_alt : Readers → Option PExpr → Span → Span → Reader Item PAlt
accept_alt r g first lead =
    bind (r.accept lead) (λ a. bind (any_stmts r) (λ l. pure (alternative g (AAccept a l) (from_to first (last_span (accept_span a) l)))))

abbrev pub delay_alt : Readers → Option PExpr → Span → Reader Item PAlt
delay_alt r g first =
    bind delayed (λ x. bind (any_stmts r) (λ l. pure (alternative g (ADelay x.thousandths l) (from_to first (last_span x.close l)))))

abbrev pub alt_kind : ℕ → Readers → Option PExpr → Option Span → Reader Item PAlt
alt_kind d r g guard =
    below d (symbol key.Accept) (λ i lead. accept_alt r g (first_of_alt guard lead) lead)
    (below d (symbol key.Delay) (λ i lead. delay_alt r g (first_of_alt guard lead))
    (on (symbol key.Terminate) (λ lead. closed (λ close. alternative g ATerminate (from_to (first_of_alt guard lead) close))) refuse))

abbrev pub alt_at : ℕ → Readers → Reader Item PAlt
alt_at d r =
    below d (symbol key.When) (λ i lead. bind (expression i) (λ g. key_then key.Arrow (alt_kind d r (Some g) (Some lead)))) (alt_kind d r None None)

abbrev pub accept_at : ℕ → Readers → Span → Reader Item PAccept
accept_at d r lead =
    bind (token word) (λ w. bind (accept_behind d) (λ x.
    below d (symbol key.Do) (λ e at. bind (stmts r) (λ l. end_of w (λ close. accepting (head_of w x (from_to lead close)) (present l))))
    (closed (λ close. accepting (head_of w x (from_to lead close)) absent))))

-- behind `when`, of a handler (11.2)
abbrev pub handler_part : Readers → Span → Reader Item PHandler
handler_part r lead =
    bind (separated key.Bar (token word)) (λ ws. key_then key.Arrow (bind (stmts r) (λ l. pure (handler ws l (from_to lead (last_span lead l))))))

abbrev pub handler_others : Readers → Span → Reader Item PHandler
handler_others r lead = key_then key.Arrow (bind (stmts r) (λ l. pure (handler [] l (from_to lead (last_span lead l)))))

-- handlers behind `exception`, one at least
abbrev pub handlers_at : Readers → Reader Item PHandlers
handlers_at r =
    look (is_symbol key.When) (bind (whens (handler_part r) (handler_others r)) (λ x. pure (handlers_of (with_others x.parts x.others)))) refuse

-- behind a name that begins a statement: `:` before a loop, or a statement with the name
abbrev pub named_rest : Source → ℕ → Readers → Word → Reader Item PStmt
named_rest source d r w = below d (symbol key.Colon) (λ e at. named_loop e r w) (word_rest source d w)

abbrev pub simple_at : Source → ℕ → Readers → Reader Item PStmt
simple_at source d r =
    on (symbol key.Null) (λ lead. closed (λ close. SNull (from_to lead close)))
    (on (symbol key.Delay) (λ lead. bind delayed (λ x. pure (SDelay x.thousandths (from_to lead x.close))))
    (on (symbol key.Exit) (λ lead. on word (λ w. exit_rest d lead (Some w)) (exit_rest d lead None))
    (on (symbol key.Raise) (λ lead. on word (λ w. closed (λ close. SRaise (Some w) (from_to lead close))) (closed (λ close. SRaise None (from_to lead close))))
    (on (symbol key.Abort) (λ lead. bind (separated key.Comma (target d)) (λ ts. closed (λ close. SAbort (map callee_of ts) (from_to lead close))))
    (on (symbol key.Accept) (λ lead. bind (accept_at d r lead) (λ a. pure (SAccept a (accept_span a))))
    (on word (named_rest source d r) refuse))))))

-- a statement (5.1)
abbrev pub stmt_at : Source → ℕ → Readers → Reader Item PStmt
stmt_at source d r =
    below d (symbol key.Select) (λ e lead. select_rest e r lead)
    (below d (symbol key.If) (λ e lead. if_rest e r lead)
    (below d (symbol key.Case) (λ e lead. case_rest e r lead)
    (below d (symbol key.Begin) (λ e lead. block_rest e r lead)
    (below d (symbol key.While) (λ e lead. while_rest e r None lead)
    (below d (symbol key.For) (λ e lead. for_rest e r None lead)
    (below d (symbol key.Loop) (λ e lead. loop_rest r None lead None)
    (simple_at source d r)))))))

-- all that reads at a depth, when inner reads one level deeper
abbrev pub level_at : Source → ℕ → Readers → Readers
level_at source d r = record { stmt = stmt_at source d r; accept = accept_at d r; alt = alt_at d r; handlers = handlers_at r }

abbrev pub nothing : Readers
nothing = record { stmt = refuse; accept = λ lead. refuse; alt = refuse; handlers = refuse }

-- what reads one level deeper than the depth; below 0 there is nothing
abbrev pub inner_at : Source → ℕ → Readers
inner_at source zero = nothing
inner_at source (suc d) = level_at source d (inner_at source d)

-- all that reads at a depth
abbrev pub readers : Source → ℕ → Readers
readers source d = level_at source d (inner_at source d)
