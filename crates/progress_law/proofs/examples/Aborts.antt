-- Aborts: programs as plain trees, and what comes of them, by computation.
use Rattle.std.specs.Prelude.{◌≡◌, pos, false, Some, None, codes, [], ◌∷◌, ◌++◌, refl}
use Rattle.std.specs.Fmt.{digits}
use Rattle.ada_tree.specs.NameList.{predefined}
use Rattle.ada_tree.specs.PlainStmt.{PWords, SNull, SRaise, SAbort, SCall, SAccept, SPut, SPutLine, SLoop, no_stmt, stmt_then, absent, present, accepting, body, handler, no_handler, handler_then}
use Rattle.ada_tree.specs.PlainDecl.{DException, DTask, DTaskBody, no_decl, decl_then}
use Rattle.ada_tree.specs.PlainProgram.{PProgram}
use Rattle.event_machine.specs.declared.Event.TheVariants as event
use Rattle.progress_law.specs.examples.Picking.{Ended}
use Rattle.progress_law.proofs.examples.Trees.{o, w, outcome, gives, setup_of, numbers_in}
use Rattle.progress_law.proofs.examples.Judging.{judged, IsFeasible, IsInfeasible, IsUnsettled, seen, SeenClosed, cause_closed}

-- An acceptor is aborted.
--
-- procedure VICTIM is task S is entry E; end S; task A; task K; task body S is begin accept E do null; end E; end S; task body A is begin S.E; exception
-- when TASKING_ERROR => PUT_LINE("LOST"); end A; task body K is begin abort S; end K; begin null; end VICTIM;
abbrev acceptor_aborted : PProgram
acceptor_aborted = record { names = (predefined ++ (codes "VICTIM" ∷ codes "S" ∷ codes "E" ∷ codes "A" ∷ codes "K" ∷ [])); text_io = false; name = (w 25); decls = (decl_then (DTask (record { name = (w 26); of_kind = false; entries = ((record { name = (w 27); family = None; formals = []; span = o }) ∷ []); priorities = [] }) o) (decl_then (DTask (record { name = (w 28); of_kind = false; entries = []; priorities = [] }) o) (decl_then (DTask (record { name = (w 29); of_kind = false; entries = []; priorities = [] }) o) (decl_then (DTaskBody (w 26) no_decl (body (stmt_then (SAccept (accepting (record { entry = (w 27); index = None; formals = []; span = o }) (present (stmt_then (SNull o) no_stmt))) o) no_stmt) no_handler) o) (decl_then (DTaskBody (w 28) no_decl (body (stmt_then (SCall (record { task = (record { name = (w 26); index = None }); entry = (w 27); args = None }) o) no_stmt) (handler_then (handler ((w 9) ∷ []) (stmt_then (SPutLine ((PWords (codes "LOST") o) ∷ []) o) no_stmt) o) no_handler)) o) (decl_then (DTaskBody (w 29) no_decl (body (stmt_then (SAbort ((record { name = (w 26); index = None }) ∷ []) o) no_stmt) no_handler) o) no_decl)))))); body = (body (stmt_then (SNull o) no_stmt) no_handler) }

-- In the rendezvous: the caller gets TASKING_ERROR.
acceptor_aborted_run : outcome acceptor_aborted [] (0 ∷ 0 ∷ 0 ∷ 0 ∷ 1 ∷ []) 100 ≡ gives (event.R 2 1 (pos 0) ∷ event.B 3 1 ∷ event.X 2 ∷ event.X 3 ∷ event.Z ∷ []) 9 Ended ([] ∷ [] ∷ codes "LOST\n" ∷ [] ∷ [])
unfolding digits
acceptor_aborted_run = refl

aborted_in_body : judged (setup_of acceptor_aborted []) (numbers_in acceptor_aborted) 10 (event.R 2 1 (pos 0) ∷ event.B 3 1 ∷ event.X 2 ∷ event.X 3 ∷ event.Z ∷ []) ≡ IsFeasible 5
unfolding digits
aborted_in_body = refl

aborted_behind : judged (setup_of acceptor_aborted []) (numbers_in acceptor_aborted) 10 (event.R 2 1 (pos 0) ∷ event.E 1 ∷ event.B 3 1 ∷ event.X 2 ∷ event.X 3 ∷ event.Z ∷ []) ≡ IsFeasible 6
unfolding digits
aborted_behind = refl

aborted_before : judged (setup_of acceptor_aborted []) (numbers_in acceptor_aborted) 10 (event.B 3 1 ∷ event.F 2 1 (pos 0) ∷ event.X 2 ∷ event.X 3 ∷ event.Z ∷ []) ≡ IsFeasible 5
unfolding digits
aborted_before = refl

-- A caller is aborted.
--
-- procedure ABNORMAL is task S is entry E; end S; task A; task K; task body S is begin accept E do null; end E; end S; task body A is begin S.E;
-- PUT_LINE("AFTER"); end A; task body K is begin abort A; end K; begin null; end ABNORMAL;
abbrev pub caller_aborted : PProgram
caller_aborted = record { names = (predefined ++ (codes "ABNORMAL" ∷ codes "S" ∷ codes "E" ∷ codes "A" ∷ codes "K" ∷ [])); text_io = false; name = (w 25); decls = (decl_then (DTask (record { name = (w 26); of_kind = false; entries = ((record { name = (w 27); family = None; formals = []; span = o }) ∷ []); priorities = [] }) o) (decl_then (DTask (record { name = (w 28); of_kind = false; entries = []; priorities = [] }) o) (decl_then (DTask (record { name = (w 29); of_kind = false; entries = []; priorities = [] }) o) (decl_then (DTaskBody (w 26) no_decl (body (stmt_then (SAccept (accepting (record { entry = (w 27); index = None; formals = []; span = o }) (present (stmt_then (SNull o) no_stmt))) o) no_stmt) no_handler) o) (decl_then (DTaskBody (w 28) no_decl (body (stmt_then (SCall (record { task = (record { name = (w 26); index = None }); entry = (w 27); args = None }) o) (stmt_then (SPutLine ((PWords (codes "AFTER") o) ∷ []) o) no_stmt)) no_handler) o) (decl_then (DTaskBody (w 29) no_decl (body (stmt_then (SAbort ((record { name = (w 28); index = None }) ∷ []) o) no_stmt) no_handler) o) no_decl)))))); body = (body (stmt_then (SNull o) no_stmt) no_handler) }

-- In the rendezvous: it is abnormal, and completes as the rendezvous ends.
caller_aborted_run : outcome caller_aborted [] (0 ∷ 0 ∷ 0 ∷ 0 ∷ 1 ∷ []) 100 ≡ gives (event.R 2 1 (pos 0) ∷ event.B 3 2 ∷ event.E 1 ∷ event.X 1 ∷ event.X 3 ∷ event.Z ∷ []) 10 Ended ([] ∷ [] ∷ [] ∷ [] ∷ [])
unfolding digits
caller_aborted_run = refl

abnormal_completes : judged (setup_of caller_aborted []) (numbers_in caller_aborted) 10 (event.R 2 1 (pos 0) ∷ event.B 3 2 ∷ event.E 1 ∷ event.X 1 ∷ event.X 3 ∷ event.Z ∷ []) ≡ IsFeasible 6
unfolding digits
abnormal_completes = refl

abnormal_is_closed : judged (setup_of caller_aborted []) (numbers_in caller_aborted) 10 (event.R 2 1 (pos 0) ∷ event.B 3 2 ∷ event.X 2 ∷ []) ≡ IsInfeasible 3 cause_closed 2 (seen 2 (SeenClosed) ∷ [])
unfolding digits
abnormal_is_closed = refl

-- A task aborts itself.
--
-- procedure ITSELF is task T; task body T is begin PUT_LINE("BEFORE"); abort T; PUT_LINE("AFTER"); end T; begin null; end ITSELF;
abbrev aborts_itself : PProgram
aborts_itself = record { names = (predefined ++ (codes "ITSELF" ∷ codes "T" ∷ [])); text_io = false; name = (w 25); decls = (decl_then (DTask (record { name = (w 26); of_kind = false; entries = []; priorities = [] }) o) (decl_then (DTaskBody (w 26) no_decl (body (stmt_then (SPutLine ((PWords (codes "BEFORE") o) ∷ []) o) (stmt_then (SAbort ((record { name = (w 26); index = None }) ∷ []) o) (stmt_then (SPutLine ((PWords (codes "AFTER") o) ∷ []) o) no_stmt))) no_handler) o) no_decl)); body = (body (stmt_then (SNull o) no_stmt) no_handler) }

-- It completes there.
aborts_itself_run : outcome aborts_itself [] [] 100 ≡ gives (event.B 1 1 ∷ event.Z ∷ []) 4 Ended ([] ∷ codes "BEFORE\n" ∷ [])
unfolding digits
aborts_itself_run = refl

-- An abnormal caller is closed at once (a call of its entry fails, its own X is refused) and completes at E; the acceptor goes on with its copy.
--
-- procedure ABNORMALCALLER is task S is entry E; end S; task A is entry F; end A; task K; task body S is begin accept E do null; end E; PUT_LINE("S");
-- end S; task body A is begin S.E; PUT_LINE("NO"); end A; task body K is begin abort A; A.F; exception when TASKING_ERROR => PUT_LINE("F"); end K; begin
-- null; end ABNORMALCALLER;
abbrev abnormal_caller : PProgram
abnormal_caller = record { names = (predefined ++ (codes "ABNORMALCALLER" ∷ codes "S" ∷ codes "E" ∷ codes "A" ∷ codes "F" ∷ codes "K" ∷ [])); text_io = false; name = (w 25); decls = (decl_then (DTask (record { name = (w 26); of_kind = false; entries = ((record { name = (w 27); family = None; formals = []; span = o }) ∷ []); priorities = [] }) o) (decl_then (DTask (record { name = (w 28); of_kind = false; entries = ((record { name = (w 29); family = None; formals = []; span = o }) ∷ []); priorities = [] }) o) (decl_then (DTask (record { name = (w 30); of_kind = false; entries = []; priorities = [] }) o) (decl_then (DTaskBody (w 26) no_decl (body (stmt_then (SAccept (accepting (record { entry = (w 27); index = None; formals = []; span = o }) (present (stmt_then (SNull o) no_stmt))) o) (stmt_then (SPutLine ((PWords (codes "S") o) ∷ []) o) no_stmt)) no_handler) o) (decl_then (DTaskBody (w 28) no_decl (body (stmt_then (SCall (record { task = (record { name = (w 26); index = None }); entry = (w 27); args = None }) o) (stmt_then (SPutLine ((PWords (codes "NO") o) ∷ []) o) no_stmt)) no_handler) o) (decl_then (DTaskBody (w 30) no_decl (body (stmt_then (SAbort ((record { name = (w 28); index = None }) ∷ []) o) (stmt_then (SCall (record { task = (record { name = (w 28); index = None }); entry = (w 29); args = None }) o) no_stmt)) (handler_then (handler ((w 9) ∷ []) (stmt_then (SPutLine ((PWords (codes "F") o) ∷ []) o) no_stmt) o) no_handler)) o) no_decl)))))); body = (body (stmt_then (SNull o) no_stmt) no_handler) }

abnormal_caller_judged : judged (setup_of abnormal_caller []) (numbers_in abnormal_caller) 10 (event.R 2 1 (pos 0) ∷ event.B 3 2 ∷ event.F 3 2 (pos 0) ∷ event.X 3 ∷ event.E 1 ∷ event.X 1 ∷ event.Z ∷ []) ≡ IsFeasible 7
unfolding digits
abnormal_caller_judged = refl

-- Abort of the own task inside an accept body: it completes there, its caller gets TASKING_ERROR, nothing behind it runs; a second caller in the queue
-- fails.
--
-- procedure ABORTOFITSELFINBODY is task S is entry E; end S; task A; task B; task body S is begin accept E do PUT("1"); abort S; PUT("NO"); end E;
-- exception when others => PUT("NO"); end S; task body A is begin S.E; exception when TASKING_ERROR => PUT("A"); end A; task body B is begin S.E;
-- exception when TASKING_ERROR => PUT("B"); end B; begin null; end ABORTOFITSELFINBODY;
abbrev abort_of_itself_in_body : PProgram
abort_of_itself_in_body = record { names = (predefined ++ (codes "ABORTOFITSELFINBODY" ∷ codes "S" ∷ codes "E" ∷ codes "A" ∷ codes "B" ∷ [])); text_io = false; name = (w 25); decls = (decl_then (DTask (record { name = (w 26); of_kind = false; entries = ((record { name = (w 27); family = None; formals = []; span = o }) ∷ []); priorities = [] }) o) (decl_then (DTask (record { name = (w 28); of_kind = false; entries = []; priorities = [] }) o) (decl_then (DTask (record { name = (w 29); of_kind = false; entries = []; priorities = [] }) o) (decl_then (DTaskBody (w 26) no_decl (body (stmt_then (SAccept (accepting (record { entry = (w 27); index = None; formals = []; span = o }) (present (stmt_then (SPut ((PWords (codes "1") o) ∷ []) o) (stmt_then (SAbort ((record { name = (w 26); index = None }) ∷ []) o) (stmt_then (SPut ((PWords (codes "NO") o) ∷ []) o) no_stmt))))) o) no_stmt) (handler_then (handler [] (stmt_then (SPut ((PWords (codes "NO") o) ∷ []) o) no_stmt) o) no_handler)) o) (decl_then (DTaskBody (w 28) no_decl (body (stmt_then (SCall (record { task = (record { name = (w 26); index = None }); entry = (w 27); args = None }) o) no_stmt) (handler_then (handler ((w 9) ∷ []) (stmt_then (SPut ((PWords (codes "A") o) ∷ []) o) no_stmt) o) no_handler)) o) (decl_then (DTaskBody (w 29) no_decl (body (stmt_then (SCall (record { task = (record { name = (w 26); index = None }); entry = (w 27); args = None }) o) no_stmt) (handler_then (handler ((w 9) ∷ []) (stmt_then (SPut ((PWords (codes "B") o) ∷ []) o) no_stmt) o) no_handler)) o) no_decl)))))); body = (body (stmt_then (SNull o) no_stmt) no_handler) }

abort_of_itself_in_body_run : outcome abort_of_itself_in_body [] [] 100 ≡ gives (event.R 2 1 (pos 0) ∷ event.B 1 1 ∷ event.X 2 ∷ event.F 3 1 (pos 0) ∷ event.X 3 ∷ event.Z ∷ []) 12 Ended ([] ∷ codes "1" ∷ codes "A" ∷ codes "B" ∷ [])
unfolding digits
abort_of_itself_in_body_run = refl

-- An aborted caller leaves its queue: the next one is served.
--
-- procedure ABORTEDINQUEUE is task S is entry E; end S; task A; task B; task body S is begin accept E; end S; task body A is begin S.E; PUT("NO"); end
-- A; task body B is begin S.E; PUT("B"); end B; begin abort A; end ABORTEDINQUEUE;
abbrev aborted_in_queue : PProgram
aborted_in_queue = record { names = (predefined ++ (codes "ABORTEDINQUEUE" ∷ codes "S" ∷ codes "E" ∷ codes "A" ∷ codes "B" ∷ [])); text_io = false; name = (w 25); decls = (decl_then (DTask (record { name = (w 26); of_kind = false; entries = ((record { name = (w 27); family = None; formals = []; span = o }) ∷ []); priorities = [] }) o) (decl_then (DTask (record { name = (w 28); of_kind = false; entries = []; priorities = [] }) o) (decl_then (DTask (record { name = (w 29); of_kind = false; entries = []; priorities = [] }) o) (decl_then (DTaskBody (w 26) no_decl (body (stmt_then (SAccept (accepting (record { entry = (w 27); index = None; formals = []; span = o }) absent) o) no_stmt) no_handler) o) (decl_then (DTaskBody (w 28) no_decl (body (stmt_then (SCall (record { task = (record { name = (w 26); index = None }); entry = (w 27); args = None }) o) (stmt_then (SPut ((PWords (codes "NO") o) ∷ []) o) no_stmt)) no_handler) o) (decl_then (DTaskBody (w 29) no_decl (body (stmt_then (SCall (record { task = (record { name = (w 26); index = None }); entry = (w 27); args = None }) o) (stmt_then (SPut ((PWords (codes "B") o) ∷ []) o) no_stmt)) no_handler) o) no_decl)))))); body = (body (stmt_then (SAbort ((record { name = (w 28); index = None }) ∷ []) o) no_stmt) no_handler) }

aborted_in_queue_run : outcome aborted_in_queue [] (2 ∷ 1 ∷ 2 ∷ []) 100 ≡ gives (event.B 0 2 ∷ event.R 3 1 (pos 0) ∷ event.E 1 ∷ event.X 1 ∷ event.X 3 ∷ event.Z ∷ []) 10 Ended ([] ∷ [] ∷ [] ∷ codes "B" ∷ [])
unfolding digits
aborted_in_queue_run = refl

-- An exception that leaves a task's or main's body is no event: X and Z follow; handlers of main; local steps count anew behind each event that changes
-- the task (bound 3).
--
-- procedure COUNTSBEGINANEW is OOPS : exception; task S is entry E; end S; task body S is begin loop accept E do null; null; end E; null; end loop;
-- exception when others => null; end S; begin S.E; null; S.E; null; raise OOPS; exception when OOPS => null; null; abort S; raise; end COUNTSBEGINANEW;
abbrev counts_begin_anew : PProgram
counts_begin_anew = record { names = (predefined ++ (codes "COUNTSBEGINANEW" ∷ codes "OOPS" ∷ codes "S" ∷ codes "E" ∷ [])); text_io = false; name = (w 25); decls = (decl_then (DException ((w 26) ∷ []) o) (decl_then (DTask (record { name = (w 27); of_kind = false; entries = ((record { name = (w 28); family = None; formals = []; span = o }) ∷ []); priorities = [] }) o) (decl_then (DTaskBody (w 27) no_decl (body (stmt_then (SLoop None None (stmt_then (SAccept (accepting (record { entry = (w 28); index = None; formals = []; span = o }) (present (stmt_then (SNull o) (stmt_then (SNull o) no_stmt)))) o) (stmt_then (SNull o) no_stmt)) o) no_stmt) (handler_then (handler [] (stmt_then (SNull o) no_stmt) o) no_handler)) o) no_decl))); body = (body (stmt_then (SCall (record { task = (record { name = (w 27); index = None }); entry = (w 28); args = None }) o) (stmt_then (SNull o) (stmt_then (SCall (record { task = (record { name = (w 27); index = None }); entry = (w 28); args = None }) o) (stmt_then (SNull o) (stmt_then (SRaise (Some (w 26)) o) no_stmt))))) (handler_then (handler ((w 26) ∷ []) (stmt_then (SNull o) (stmt_then (SNull o) (stmt_then (SAbort ((record { name = (w 27); index = None }) ∷ []) o) (stmt_then (SRaise None o) no_stmt)))) o) no_handler)) }

counts_begin_anew_judged : judged (setup_of counts_begin_anew []) (numbers_in counts_begin_anew) 3 (event.R 0 1 (pos 0) ∷ event.E 1 ∷ event.R 0 1 (pos 0) ∷ event.E 1 ∷ event.B 0 1 ∷ event.Z ∷ []) ≡ IsUnsettled 5 0
unfolding digits
counts_begin_anew_judged = refl
