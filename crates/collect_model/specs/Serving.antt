-- Accept statements in a collecting text (9.5; this project's rule): each entry has a formal more, its caller's number. The acceptor tells first thing in the accept body that this call has been accepted, and last that it is at the end; a body that ends by an exception (11.5) is at its end too.
use Rattle.std.specs.Prelude.{[], ◌∷◌}
use Rattle.ada_tree.specs.declared.naming.Span.{Span}
use Rattle.ada_tree.specs.declared.statements.ParMode.TheVariants.{Take}
use Rattle.ada_tree.specs.PlainExpr.{EName}
use Rattle.ada_tree.specs.PlainStmt.{PFormal, PHead, PStmt, SAccept, SBlock, PStmts, stmt_then, PMaybe, absent, present, PAccept, accepting, body}
use Rattle.task_model.specs.Setting.{entry_of}
use Rattle.normal_model.specs.Ranges.{word_at}
use Rattle.normal_model.specs.Making.{one}
use Rattle.replay_model.specs.Serving.{raise_again, whatever}
use Rattle.collect_model.specs.declared.AddedNames.{AddedNames}
use Rattle.collect_model.specs.Teller.{Teller}
use Rattle.collect_model.specs.Noting.{has_begun, at_finish, note, own_note}

-- `DED_C : in INTEGER`
abbrev pub caller_formal : AddedNames → Span → PFormal
caller_formal n s = record { names = word_at s n.caller ∷ []; mode = Take; mark = word_at s record { 0 = 0 } }

-- `NOTE(1, DED_C, e, i, a);` The call of DED_C has been accepted at the member i of the entry e, by the own task.
abbrev pub begin_note : Teller → Span → PHead → PStmt
begin_note x s head =
    note x s has_begun (EName x.added.caller s) (entry_of x.numbers x.task head.entry.name) (x.member (entry_of x.numbers x.task head.entry.name) s head.index) x.task

-- `NOTE(2, a, 0, 0, 0);` The own task is at the end of the accept body.
abbrev pub finish_note : Teller → Span → PStmt
finish_note x s = own_note x s at_finish 0

-- `begin` the body `exception when others => NOTE(2, a, 0, 0, 0); raise; end;`
abbrev pub body_watched : Teller → Span → PStmts → PStmt
body_watched x s stmts = SBlock (body stmts (whatever s (stmt_then (finish_note x s) (one (raise_again s))))) s

-- what stands in the accept body: the note of the begin, the body where there is one, and the note of the end
abbrev pub accept_body : Teller → Span → PHead → PMaybe → PStmts
accept_body x s head absent = stmt_then (begin_note x s head) (one (finish_note x s))
accept_body x s head (present stmts) = stmt_then (begin_note x s head) (stmt_then (body_watched x s stmts) (one (finish_note x s)))

-- the head with the formal of the caller in front of the others, at the place of the entry's name
abbrev pub head_telling : Teller → PHead → PHead
head_telling x head = record { entry = head.entry; index = head.index; formals = caller_formal x.added head.entry.span ∷ head.formals; span = head.span }

-- What stands in the place of an accept, as a statement or in an alternative.
abbrev pub accept_told : Teller → Span → PAccept → PAccept
accept_told x s (accepting head stmts) = accepting (head_telling x head) (present (accept_body x s head stmts))

-- What stands in the place of an accept statement.
abbrev pub accept_image : Teller → Span → PAccept → PStmts
accept_image x s a = one (SAccept (accept_told x s a) s)
