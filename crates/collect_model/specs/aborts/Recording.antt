-- The recorder of a collecting text of a program with abort statements (9.10; this project's rule). It is the recorder of one without, but that it keeps of each task how its last call stands and who accepted it, and makes each abort itself, in the rendezvous that tells of it: so nothing is told between an abort and its line.
use Rattle.std.specs.Prelude.{ℕ, ◌+◌, true, false, List, [], ◌∷◌, codes, drop, Some, None}
use Rattle.ada_tree.specs.declared.naming.NameId.{NameId}
use Rattle.ada_tree.specs.declared.naming.Span.{Span}
use Rattle.ada_tree.specs.declared.expressions.BinaryOp.TheVariants.{And, Equal}
use Rattle.ada_tree.specs.PlainExpr.{PExpr, EName, EIndex, EBinary, RGiven}
use Rattle.ada_tree.specs.PlainStmt.{PChoice, LFor, PValue, PStmt, SNull, SAssign, SAbort, SPut, SNewLine, SWait, SIf, SCase, SLoop, PStmts, no_stmt, stmt_then, absent, present, PAccept, accepting, alternative, AAccept, ATerminate, no_alt, alt_then, arm, no_arm, arm_then, PCaseArms, no_case_arm, case_arm_then, case_arm, body, no_handler}
use Rattle.ada_tree.specs.PlainDecl.{OArray, IOthers, PDecl, DObject, DTaskBody, decls_of}
use Rattle.syn_event.specs.declared.numbering.TaskInfo.{TaskInfo}
use Rattle.task_model.specs.Frames.{in_front}
use Rattle.normal_model.specs.Ranges.{word_at, integer_subtype}
use Rattle.normal_model.specs.Making.{one}
use Rattle.replay_model.specs.ReplayTree.{last_task}
use Rattle.collect_model.specs.declared.AddedNames.{AddedNames}
use Rattle.collect_model.specs.Noting.{before_call, has_begun, at_finish, has_else, has_delay, has_call_else, has_expired, has_failed, at_end, number}
use Rattle.collect_model.specs.Lines.{put_words, line, task_line, call_line, header_put}
use Rattle.collect_model.specs.Recording.{note_formals, flag_of, flag_set, flags_declared, answered, on_else, on_delay, on_other_part, on_end, branch}
use Rattle.collect_model.specs.aborts.AbortTeller.{AbortTeller}
use Rattle.collect_model.specs.aborts.Noting.{at_abort, has_returned}

-- ---- how a call stands

-- a task is at no call, or at one that has not been accepted
abbrev pub no_meeting : ℕ
no_meeting = 0

-- its call has been accepted
abbrev pub meeting : ℕ
meeting = 1

-- the line of the end of its rendezvous is written
abbrev pub met_before : ℕ
met_before = 2

-- its acceptor has been aborted before that line was written
abbrev pub lost : ℕ
lost = 3

-- ---- the recorder's variables

-- `DED_MET(v)` and the like, for the task whose number is in a variable
abbrev pub entry_for : Span → NameId → NameId → PExpr
entry_for s table task = EIndex (word_at s table) (EName task s) s

-- `DED_MET(v) := e;`
abbrev pub entry_set : Span → NameId → NameId → PExpr → PStmt
entry_set s table task e = SAssign (record { name = word_at s table; index = Some (EName task s) }) e s

-- `DED_MET(v) := m;` and `DED_MET(v) = m`
abbrev pub stands_now : AddedNames → Span → NameId → ℕ → PStmt
stands_now n s task m = entry_set s n.met task (number s m)

abbrev pub stands : AddedNames → Span → NameId → ℕ → PExpr
stands n s task m = EBinary Equal (entry_for s n.met task) (number s m) s

-- `DED_MET, DED_ACC : array (0 .. n) of INTEGER := (others => 0);`, where n is the number of the last task
abbrev pub calls_declared : AbortTeller → Span → PDecl
calls_declared x s =
    DObject (word_at s x.teller.added.met ∷ word_at s x.acceptors ∷ []) false
    (OArray (RGiven (record { first = number s 0; last = number s (last_task x.teller.numbers) })) (integer_subtype s))
    (Some (IOthers (number s 0) s)) s

-- `DED_MET(u) = 1 and DED_ACC(u) = v`: the task in the variable u is in a rendezvous with the acceptor in the variable v
abbrev pub is_meeting : AbortTeller → Span → NameId → NameId → PExpr
is_meeting x s u v = EBinary And (stands x.teller.added s u meeting) (EBinary Equal (entry_for s x.acceptors u) (EName v s) s) s

-- ---- what is done with a note, by its kind

-- A task is before a call.
abbrev pub on_before_call : AddedNames → Span → PStmts
on_before_call n s = one (stands_now n s n.subject no_meeting)

-- A call is to be accepted, by the note of its acceptor. Where the caller has been aborted it is refused; else it has been accepted: R.
abbrev pub on_begun : AbortTeller → Span → PStmts
on_begun x s = begun_with x.teller.added
  where
    begun_with : AddedNames → PStmts
    begun_with n =
        one
        (SIf
        (arm_then (arm (flag_of s n.gone n.subject) (one (answered n s true))) no_arm)
        (present
        (stmt_then (stands_now n s n.subject meeting)
        (stmt_then (entry_set s x.acceptors n.subject (EName n.owner s))
        (call_line n s (codes "R")))))
        s)

-- A task is behind a rendezvous with the caller in the argument: E, unless the line is written, or the caller is at a later call already.
abbrev pub on_finish : AbortTeller → Span → PStmts
on_finish x s = finished_with x.teller.added
  where
    finished_with : AddedNames → PStmts
    finished_with n =
        one
        (SIf
        (arm_then (arm (is_meeting x s n.argument n.subject) (in_front (task_line n s (codes "E")) (one (stands_now n s n.argument met_before)))) no_arm)
        absent
        s)

-- The line of the end of the rendezvous in which the subject is the caller: `E` with its acceptor.
abbrev pub acceptor_line : AbortTeller → Span → PStmts
acceptor_line x s =
    stmt_then (put_words s (codes "E"))
    (stmt_then (put_words s (codes " "))
    (stmt_then (SPut (PValue (entry_for s x.acceptors x.teller.added.subject) ∷ []) s)
    (one (SNewLine s))))

-- A task's call has come back, by an exception where the kind is 7. E, where it was accepted and the line is not written. Where its acceptor has been aborted before that, it is told so. Where it was not accepted, it comes back by an exception because the owner of the entry is closed: F, and it is told so.
abbrev pub on_back : AbortTeller → Span → PStmts
on_back x s = back_with x.teller.added
  where
    back_with : AddedNames → PStmts
    back_with n =
        one
        (SIf
        (arm_then (arm (stands n s n.subject meeting) (in_front (acceptor_line x s) (one (stands_now n s n.subject met_before))))
        (arm_then (arm (stands n s n.subject lost) (one (answered n s true)))
        (arm_then
        (arm (EBinary And (stands n s n.subject no_meeting) (EBinary Equal (EName n.kind s) (number s has_failed) s) s)
        (in_front (call_line n s (codes "F")) (one (answered n s true))))
        no_arm)))
        absent
        s)

-- ---- aborts

-- `B` with who aborts and who is aborted
abbrev pub abort_line : AddedNames → Span → PStmts
abort_line n s = line s (codes "B") (n.subject ∷ n.argument ∷ [])

-- `for DED_U in 0 .. n loop if DED_MET(DED_U) = 1 and DED_ACC(DED_U) = DED_NA then DED_MET(DED_U) := 3; end if; end loop;`
abbrev pub callers_lost : AbortTeller → Span → PStmt
callers_lost x s =
    SLoop None (Some (LFor (word_at s x.each) false (RGiven (record { first = number s 0; last = number s (last_task x.teller.numbers) }))))
    (one (SIf (arm_then (arm (is_meeting x s x.each x.teller.added.argument) (one (stands_now x.teller.added s x.each lost))) no_arm) absent s))
    s

-- `when u => abort` its name `;` for tasks that are numbered from u on
abbrev pub aborts_from : Span → ℕ → List TaskInfo → PCaseArms
aborts_from s u [] = no_case_arm
aborts_from s u (info ∷ infos) = branch s u (one (SAbort (record { name = word_at s info.name; index = None } ∷ []) s)) (aborts_from s (u + 1) infos)

-- `case DED_NA is` the aborts of all tasks but main `when others => null; end case;`
abbrev pub abort_made : AbortTeller → Span → PStmt
abort_made x s = SCase (EName x.teller.added.argument s) (aborts_from s 1 (drop 1 x.teller.numbers.tasks)) (present (one (SNull s))) s

-- A task aborts the task in the argument: B. That is at its end, those whose rendezvous with it has no line of its end have lost it, and then the recorder aborts it.
abbrev pub on_abort : AbortTeller → Span → PStmts
on_abort x s =
    in_front (abort_line x.teller.added s)
    (stmt_then (flag_set s x.teller.added.gone x.teller.added.argument true)
    (stmt_then (callers_lost x s)
    (one (abort_made x s))))

-- ---- the branches

-- a choice of one number
abbrev pub choice_of : Span → ℕ → PChoice
choice_of s k = record { first = number s k; last = None }

-- The branches, by the kinds of notes: a call that has come back has one, whether by an exception or not.
abbrev pub branches : AbortTeller → Span → PCaseArms
branches x s = branches_with x.teller.added
  where
    branches_with : AddedNames → PCaseArms
    branches_with n =
        branch s before_call (on_before_call n s)
        (branch s has_begun (on_begun x s)
        (branch s at_finish (on_finish x s)
        (branch s has_else (on_else n s)
        (branch s has_delay (on_delay n s)
        (branch s has_call_else (on_other_part n s (codes "C"))
        (branch s has_expired (on_other_part n s (codes "T"))
        (case_arm_then (case_arm (choice_of s has_failed ∷ choice_of s has_returned ∷ []) (on_back x s))
        (branch s at_end (on_end n s)
        (branch s at_abort (on_abort x s) no_case_arm)))))))))

-- ---- the body

-- `DED_NG := FALSE; case DED_NK is` the branches `when others => null; end case;`
abbrev pub note_taken : AbortTeller → Span → PStmts
note_taken x s = stmt_then (answered x.teller.added s false) (one (SCase (EName x.teller.added.kind s) (branches x s) (present (one (SNull s))) s))

-- `accept NOTE(..) do` .. `end NOTE;`
abbrev pub note_accept : AbortTeller → Span → PAccept
note_accept x s =
    accepting (record { entry = word_at s x.teller.added.note; index = None; formals = note_formals x.teller.added s; span = s }) (present (note_taken x s))

-- `loop select` the accept `or terminate; end select; end loop;`
abbrev pub notes_taken : AbortTeller → Span → PStmt
notes_taken x s =
    SLoop None None
    (one
    (SWait
    (alt_then (alternative None (AAccept (note_accept x s) no_stmt) s)
    (alt_then (alternative None ATerminate s) no_alt))
    absent s))
    s

-- The recorder's body: it writes this header, and takes notes.
abbrev pub recorder_body : AbortTeller → Span → List ℕ → PDecl
recorder_body x s header =
    DTaskBody (word_at s x.teller.added.recorder) (decls_of (flags_declared x.teller.added s x.teller.added.gone ∷ calls_declared x s ∷ []))
    (body (stmt_then (header_put s header) (one (notes_taken x s))) no_handler)
    s
