-- Selective waits with closed alternatives, delays, else parts and terminate: programs as plain trees, and what comes of them, by computation.
use Rattle.std.specs.Prelude.{◌≡◌, pos, false, Some, None, codes, [], ◌∷◌, ◌++◌, refl}
use Rattle.std.specs.Fmt.{digits}
use Rattle.ada_tree.specs.NameList.{predefined}
use Rattle.ada_tree.specs.declared.expressions.BinaryOp.TheVariants as binary
use Rattle.ada_tree.specs.PlainExpr.{EInteger, EBinary, RGiven}
use Rattle.ada_tree.specs.PlainStmt.{PWords, SNull, SCall, SWait, SPut, SPutLine, SBlock, SLoop, no_stmt, stmt_then, absent, present, accepting, alternative, AAccept, ADelay, ATerminate, no_alt, alt_then, body, handler, no_handler, handler_then}
use Rattle.ada_tree.specs.PlainDecl.{OPlain, IOne, DObject, DTask, DTaskBody, no_decl, decl_then}
use Rattle.ada_tree.specs.PlainProgram.{PProgram}
use Rattle.event_machine.specs.declared.Event.TheVariants as event
use Rattle.event_machine.specs.declared.Choice.TheVariants as choice
use Rattle.event_machine.specs.Offers.{Waits}
use Rattle.progress_law.specs.examples.Picking.{Ended, Stuck}
use Rattle.progress_law.proofs.examples.Trees.{o, w, n, outcome, gives, setup_of, numbers_in}
use Rattle.progress_law.proofs.examples.Judging.{judged, IsFeasible, IsInfeasible, seen, SeenAt, cause_offer}

-- A wait with two delays, the later written one shorter.
--
-- procedure LEAST is task T is entry E; end T; task body T is begin select accept E; or delay 1.0; or delay 0.5; end select; end T; begin null; end
-- LEAST;
abbrev least_delay : PProgram
least_delay = record { names = (predefined ++ (codes "LEAST" ∷ codes "T" ∷ codes "E" ∷ [])); text_io = false; name = (w 25); decls = (decl_then (DTask (record { name = (w 26); of_kind = false; entries = ((record { name = (w 27); family = None; formals = []; span = o }) ∷ []); priorities = [] }) o) (decl_then (DTaskBody (w 26) no_decl (body (stmt_then (SWait (alt_then (alternative None (AAccept (accepting (record { entry = (w 27); index = None; formals = []; span = o }) absent) no_stmt) o) (alt_then (alternative None (ADelay 1000 no_stmt) o) (alt_then (alternative None (ADelay 500 no_stmt) o) no_alt))) absent o) no_stmt) no_handler) o) no_decl)); body = (body (stmt_then (SNull o) no_stmt) no_handler) }

-- The shorter delay is taken, by its number: events, actions, end and outputs of the run that always makes the first action that applies.
least_delay_run : outcome least_delay [] [] 200 ≡ gives (event.D 1 2 ∷ event.X 1 ∷ event.Z ∷ []) 5 Ended ([] ∷ [] ∷ [])
unfolding digits
least_delay_run = refl

-- The second delay can be taken ..
shorter_is_feasible : judged (setup_of least_delay []) (numbers_in least_delay) 10 (event.D 1 2 ∷ []) ≡ IsFeasible 1
unfolding digits
shorter_is_feasible = refl

-- .. and the first can not: the task offers the accept and the second delay.
longer_is_not : judged (setup_of least_delay []) (numbers_in least_delay) 10 (event.D 1 1 ∷ []) ≡ IsInfeasible 1 cause_offer 1 (seen 1 (SeenAt (Waits (choice.Accept 1 (pos 0) ∷ choice.Delay 2 ∷ []))) ∷ [])
unfolding digits
longer_is_not = refl

-- A wait with two delays of one duration.
--
-- procedure EQUAL is task T is entry E; end T; task body T is begin select accept E; or delay 0.5; or delay 0.500; end select; end T; begin null; end
-- EQUAL;
abbrev equal_delays : PProgram
equal_delays = record { names = (predefined ++ (codes "EQUAL" ∷ codes "T" ∷ codes "E" ∷ [])); text_io = false; name = (w 25); decls = (decl_then (DTask (record { name = (w 26); of_kind = false; entries = ((record { name = (w 27); family = None; formals = []; span = o }) ∷ []); priorities = [] }) o) (decl_then (DTaskBody (w 26) no_decl (body (stmt_then (SWait (alt_then (alternative None (AAccept (accepting (record { entry = (w 27); index = None; formals = []; span = o }) absent) no_stmt) o) (alt_then (alternative None (ADelay 500 no_stmt) o) (alt_then (alternative None (ADelay 500 no_stmt) o) no_alt))) absent o) no_stmt) no_handler) o) no_decl)); body = (body (stmt_then (SNull o) no_stmt) no_handler) }

-- The first can be taken.
first_of_equal : judged (setup_of equal_delays []) (numbers_in equal_delays) 10 (event.D 1 1 ∷ []) ≡ IsFeasible 1
unfolding digits
first_of_equal = refl

-- So can the second.
second_of_equal : judged (setup_of equal_delays []) (numbers_in equal_delays) 10 (event.D 1 2 ∷ []) ≡ IsFeasible 1
unfolding digits
second_of_equal = refl

-- A wait whose one alternative is closed.
--
-- procedure CLOSED is task T is entry E; end T; task body T is begin select when FALSE => accept E; end select; exception when PROGRAM_ERROR =>
-- PUT_LINE("CLOSED"); end T; begin null; end CLOSED;
abbrev all_closed : PProgram
all_closed = record { names = (predefined ++ (codes "CLOSED" ∷ codes "T" ∷ codes "E" ∷ [])); text_io = false; name = (w 25); decls = (decl_then (DTask (record { name = (w 26); of_kind = false; entries = ((record { name = (w 27); family = None; formals = []; span = o }) ∷ []); priorities = [] }) o) (decl_then (DTaskBody (w 26) no_decl (body (stmt_then (SWait (alt_then (alternative (Some (n 4)) (AAccept (accepting (record { entry = (w 27); index = None; formals = []; span = o }) absent) no_stmt) o) no_alt) absent o) no_stmt) (handler_then (handler ((w 8) ∷ []) (stmt_then (SPutLine ((PWords (codes "CLOSED") o) ∷ []) o) no_stmt) o) no_handler)) o) no_decl)); body = (body (stmt_then (SNull o) no_stmt) no_handler) }

-- PROGRAM_ERROR is raised by a local step, which is no event.
all_closed_run : outcome all_closed [] [] 200 ≡ gives (event.X 1 ∷ event.Z ∷ []) 5 Ended ([] ∷ codes "CLOSED\n" ∷ [])
unfolding digits
all_closed_run = refl

-- Three tasks that wait with an open terminate.
--
-- procedure WAITING is task S1 is entry E; end S1; task S2 is entry E; end S2; task S3 is entry E; end S3; task body S1 is begin select accept E; or
-- terminate; end select; end S1; task body S2 is begin select accept E; or terminate; end select; end S2; task body S3 is begin select accept E; or
-- terminate; end select; end S3; begin null; end WAITING;
abbrev all_terminate : PProgram
all_terminate = record { names = (predefined ++ (codes "WAITING" ∷ codes "S1" ∷ codes "E" ∷ codes "S2" ∷ codes "S3" ∷ [])); text_io = false; name = (w 25); decls = (decl_then (DTask (record { name = (w 26); of_kind = false; entries = ((record { name = (w 27); family = None; formals = []; span = o }) ∷ []); priorities = [] }) o) (decl_then (DTask (record { name = (w 28); of_kind = false; entries = ((record { name = (w 27); family = None; formals = []; span = o }) ∷ []); priorities = [] }) o) (decl_then (DTask (record { name = (w 29); of_kind = false; entries = ((record { name = (w 27); family = None; formals = []; span = o }) ∷ []); priorities = [] }) o) (decl_then (DTaskBody (w 26) no_decl (body (stmt_then (SWait (alt_then (alternative None (AAccept (accepting (record { entry = (w 27); index = None; formals = []; span = o }) absent) no_stmt) o) (alt_then (alternative None ATerminate o) no_alt)) absent o) no_stmt) no_handler) o) (decl_then (DTaskBody (w 28) no_decl (body (stmt_then (SWait (alt_then (alternative None (AAccept (accepting (record { entry = (w 27); index = None; formals = []; span = o }) absent) no_stmt) o) (alt_then (alternative None ATerminate o) no_alt)) absent o) no_stmt) no_handler) o) (decl_then (DTaskBody (w 29) no_decl (body (stmt_then (SWait (alt_then (alternative None (AAccept (accepting (record { entry = (w 27); index = None; formals = []; span = o }) absent) no_stmt) o) (alt_then (alternative None ATerminate o) no_alt)) absent o) no_stmt) no_handler) o) no_decl)))))); body = (body (stmt_then (SNull o) no_stmt) no_handler) }

-- The program ends while they wait.
all_terminate_run : outcome all_terminate [] [] 200 ≡ gives (event.Z ∷ []) 5 Ended ([] ∷ [] ∷ [] ∷ [] ∷ [])
unfolding digits
all_terminate_run = refl

-- The same, where the terminate of the last task is closed.
--
-- procedure WAITING is task S1 is entry E; end S1; task S2 is entry E; end S2; task S3 is entry E; end S3; task body S1 is begin select accept E; or
-- terminate; end select; end S1; task body S2 is begin select accept E; or terminate; end select; end S2; task body S3 is begin select accept E; or when
-- FALSE => terminate; end select; end S3; begin null; end WAITING;
abbrev one_stays : PProgram
one_stays = record { names = (predefined ++ (codes "WAITING" ∷ codes "S1" ∷ codes "E" ∷ codes "S2" ∷ codes "S3" ∷ [])); text_io = false; name = (w 25); decls = (decl_then (DTask (record { name = (w 26); of_kind = false; entries = ((record { name = (w 27); family = None; formals = []; span = o }) ∷ []); priorities = [] }) o) (decl_then (DTask (record { name = (w 28); of_kind = false; entries = ((record { name = (w 27); family = None; formals = []; span = o }) ∷ []); priorities = [] }) o) (decl_then (DTask (record { name = (w 29); of_kind = false; entries = ((record { name = (w 27); family = None; formals = []; span = o }) ∷ []); priorities = [] }) o) (decl_then (DTaskBody (w 26) no_decl (body (stmt_then (SWait (alt_then (alternative None (AAccept (accepting (record { entry = (w 27); index = None; formals = []; span = o }) absent) no_stmt) o) (alt_then (alternative None ATerminate o) no_alt)) absent o) no_stmt) no_handler) o) (decl_then (DTaskBody (w 28) no_decl (body (stmt_then (SWait (alt_then (alternative None (AAccept (accepting (record { entry = (w 27); index = None; formals = []; span = o }) absent) no_stmt) o) (alt_then (alternative None ATerminate o) no_alt)) absent o) no_stmt) no_handler) o) (decl_then (DTaskBody (w 29) no_decl (body (stmt_then (SWait (alt_then (alternative None (AAccept (accepting (record { entry = (w 27); index = None; formals = []; span = o }) absent) no_stmt) o) (alt_then (alternative (Some (n 4)) ATerminate o) no_alt)) absent o) no_stmt) no_handler) o) no_decl)))))); body = (body (stmt_then (SNull o) no_stmt) no_handler) }

-- The program can not end.
one_stays_run : outcome one_stays [] [] 200 ≡ gives ([]) 4 Stuck ([] ∷ [] ∷ [] ∷ [] ∷ [])
unfolding digits
one_stays_run = refl

-- A wait with an else part, beside a queued caller.
--
-- procedure ELSES is task S is entry E; end S; task A; task body S is begin null; select accept E; PUT_LINE("MET"); else PUT_LINE("ELSE"); end select;
-- end S; task body A is begin S.E; end A; begin null; end ELSES;
abbrev else_beside_caller : PProgram
else_beside_caller = record { names = (predefined ++ (codes "ELSES" ∷ codes "S" ∷ codes "E" ∷ codes "A" ∷ [])); text_io = false; name = (w 25); decls = (decl_then (DTask (record { name = (w 26); of_kind = false; entries = ((record { name = (w 27); family = None; formals = []; span = o }) ∷ []); priorities = [] }) o) (decl_then (DTask (record { name = (w 28); of_kind = false; entries = []; priorities = [] }) o) (decl_then (DTaskBody (w 26) no_decl (body (stmt_then (SNull o) (stmt_then (SWait (alt_then (alternative None (AAccept (accepting (record { entry = (w 27); index = None; formals = []; span = o }) absent) (stmt_then (SPutLine ((PWords (codes "MET") o) ∷ []) o) no_stmt)) o) no_alt) (present (stmt_then (SPutLine ((PWords (codes "ELSE") o) ∷ []) o) no_stmt)) o) no_stmt)) no_handler) o) (decl_then (DTaskBody (w 28) no_decl (body (stmt_then (SCall (record { task = (record { name = (w 26); index = None }); entry = (w 27); args = None }) o) no_stmt) no_handler) o) no_decl)))); body = (body (stmt_then (SNull o) no_stmt) no_handler) }

-- The caller has arrived, so the else part can not be taken: after the step of main, the step of S, the arrival of A and that of S only the call
-- applies.
else_beside_caller_run : outcome else_beside_caller [] (0 ∷ 0 ∷ 1 ∷ []) 200 ≡ gives (event.R 2 1 (pos 0) ∷ event.E 1 ∷ event.X 1 ∷ event.X 2 ∷ event.Z ∷ []) 10 Ended ([] ∷ codes "MET\n" ∷ [] ∷ [])
unfolding digits
else_beside_caller_run = refl

-- A wait: a false guard leaves its index unevaluated, a later guard that raises is a local step of the whole wait; all closed without else:
-- PROGRAM_ERROR; all closed with else: event S.
--
-- procedure ORDEROFAWAIT is task S is entry E(1 .. 3); entry F; end S; task body S is Z : INTEGER := 0; B : BOOLEAN := FALSE; begin begin select when B
-- => accept E(1 / Z); or when 1 / Z = 1 => accept F; or delay 1.0; end select; exception when NUMERIC_ERROR => PUT("N"); end; begin select when B =>
-- accept E(1 / Z); or when B => terminate; end select; exception when PROGRAM_ERROR => PUT("P"); end; select when B => accept E(1 / Z); else PUT("E");
-- end select; begin select accept E(4 + Z); or when B => accept F; else PUT("NO"); end select; exception when CONSTRAINT_ERROR => PUT("C"); end; end S;
-- begin null; end ORDEROFAWAIT;
abbrev order_of_a_wait : PProgram
order_of_a_wait = record { names = (predefined ++ (codes "ORDEROFAWAIT" ∷ codes "S" ∷ codes "E" ∷ codes "F" ∷ codes "Z" ∷ codes "B" ∷ [])); text_io = false; name = (w 25); decls = (decl_then (DTask (record { name = (w 26); of_kind = false; entries = ((record { name = (w 27); family = (Some (RGiven (record { first = (EInteger 1 o); last = (EInteger 3 o) }))); formals = []; span = o }) ∷ (record { name = (w 28); family = None; formals = []; span = o }) ∷ []); priorities = [] }) o) (decl_then (DTaskBody (w 26) (decl_then (DObject ((w 29) ∷ []) false (OPlain (record { mark = (w 0); bounds = None })) (Some (IOne (EInteger 0 o))) o) (decl_then (DObject ((w 30) ∷ []) false (OPlain (record { mark = (w 3); bounds = None })) (Some (IOne (n 4))) o) no_decl)) (body (stmt_then (SBlock (body (stmt_then (SWait (alt_then (alternative (Some (n 30)) (AAccept (accepting (record { entry = (w 27); index = (Some (EBinary binary.Divide (EInteger 1 o) (n 29) o)); formals = []; span = o }) absent) no_stmt) o) (alt_then (alternative (Some (EBinary binary.Equal (EBinary binary.Divide (EInteger 1 o) (n 29) o) (EInteger 1 o) o)) (AAccept (accepting (record { entry = (w 28); index = None; formals = []; span = o }) absent) no_stmt) o) (alt_then (alternative None (ADelay 1000 no_stmt) o) no_alt))) absent o) no_stmt) (handler_then (handler ((w 7) ∷ []) (stmt_then (SPut ((PWords (codes "N") o) ∷ []) o) no_stmt) o) no_handler)) o) (stmt_then (SBlock (body (stmt_then (SWait (alt_then (alternative (Some (n 30)) (AAccept (accepting (record { entry = (w 27); index = (Some (EBinary binary.Divide (EInteger 1 o) (n 29) o)); formals = []; span = o }) absent) no_stmt) o) (alt_then (alternative (Some (n 30)) ATerminate o) no_alt)) absent o) no_stmt) (handler_then (handler ((w 8) ∷ []) (stmt_then (SPut ((PWords (codes "P") o) ∷ []) o) no_stmt) o) no_handler)) o) (stmt_then (SWait (alt_then (alternative (Some (n 30)) (AAccept (accepting (record { entry = (w 27); index = (Some (EBinary binary.Divide (EInteger 1 o) (n 29) o)); formals = []; span = o }) absent) no_stmt) o) no_alt) (present (stmt_then (SPut ((PWords (codes "E") o) ∷ []) o) no_stmt)) o) (stmt_then (SBlock (body (stmt_then (SWait (alt_then (alternative None (AAccept (accepting (record { entry = (w 27); index = (Some (EBinary binary.Plus (EInteger 4 o) (n 29) o)); formals = []; span = o }) absent) no_stmt) o) (alt_then (alternative (Some (n 30)) (AAccept (accepting (record { entry = (w 28); index = None; formals = []; span = o }) absent) no_stmt) o) no_alt)) (present (stmt_then (SPut ((PWords (codes "NO") o) ∷ []) o) no_stmt)) o) no_stmt) (handler_then (handler ((w 6) ∷ []) (stmt_then (SPut ((PWords (codes "C") o) ∷ []) o) no_stmt) o) no_handler)) o) no_stmt)))) no_handler) o) no_decl)); body = (body (stmt_then (SNull o) no_stmt) no_handler) }

order_of_a_wait_run : outcome order_of_a_wait [] [] 100 ≡ gives (event.S 1 ∷ event.X 1 ∷ event.Z ∷ []) 15 Ended ([] ∷ codes "NPEC" ∷ [])
unfolding digits
order_of_a_wait_run = refl

-- Delays: k counts closed ones too, of the open ones the least, of equal ones both; the list is ascending in k.
--
-- procedure LEASTOFTHEOPEN is task S is entry E; end S; task body S is B : BOOLEAN := FALSE; begin select accept E; or delay 2.0; PUT("1"); or when B =>
-- delay 0.5; PUT("2"); or delay 1.0; PUT("3"); or delay 1.000; PUT("4"); end select; end S; begin null; end LEASTOFTHEOPEN;
abbrev least_of_the_open : PProgram
least_of_the_open = record { names = (predefined ++ (codes "LEASTOFTHEOPEN" ∷ codes "S" ∷ codes "E" ∷ codes "B" ∷ [])); text_io = false; name = (w 25); decls = (decl_then (DTask (record { name = (w 26); of_kind = false; entries = ((record { name = (w 27); family = None; formals = []; span = o }) ∷ []); priorities = [] }) o) (decl_then (DTaskBody (w 26) (decl_then (DObject ((w 28) ∷ []) false (OPlain (record { mark = (w 3); bounds = None })) (Some (IOne (n 4))) o) no_decl) (body (stmt_then (SWait (alt_then (alternative None (AAccept (accepting (record { entry = (w 27); index = None; formals = []; span = o }) absent) no_stmt) o) (alt_then (alternative None (ADelay 2000 (stmt_then (SPut ((PWords (codes "1") o) ∷ []) o) no_stmt)) o) (alt_then (alternative (Some (n 28)) (ADelay 500 (stmt_then (SPut ((PWords (codes "2") o) ∷ []) o) no_stmt)) o) (alt_then (alternative None (ADelay 1000 (stmt_then (SPut ((PWords (codes "3") o) ∷ []) o) no_stmt)) o) (alt_then (alternative None (ADelay 1000 (stmt_then (SPut ((PWords (codes "4") o) ∷ []) o) no_stmt)) o) no_alt))))) absent o) no_stmt) no_handler) o) no_decl)); body = (body (stmt_then (SNull o) no_stmt) no_handler) }

least_of_the_open_run : outcome least_of_the_open [] (1 ∷ 0 ∷ 1 ∷ []) 100 ≡ gives (event.D 1 4 ∷ event.X 1 ∷ event.Z ∷ []) 6 Ended ([] ∷ codes "4" ∷ [])
unfolding digits
least_of_the_open_run = refl

-- Terminate: Z needs every other task completed or waiting with an open terminate; a task queued at a closed accept of another holds it.
--
-- procedure QUEUEDHOLDSTHEEND is task S is entry E; entry F; end S; task A; task body S is begin loop select accept E; or terminate; end select; end
-- loop; end S; task body A is begin S.E; S.F; end A; begin S.E; end QUEUEDHOLDSTHEEND;
abbrev queued_holds_the_end : PProgram
queued_holds_the_end = record { names = (predefined ++ (codes "QUEUEDHOLDSTHEEND" ∷ codes "S" ∷ codes "E" ∷ codes "F" ∷ codes "A" ∷ [])); text_io = false; name = (w 25); decls = (decl_then (DTask (record { name = (w 26); of_kind = false; entries = ((record { name = (w 27); family = None; formals = []; span = o }) ∷ (record { name = (w 28); family = None; formals = []; span = o }) ∷ []); priorities = [] }) o) (decl_then (DTask (record { name = (w 29); of_kind = false; entries = []; priorities = [] }) o) (decl_then (DTaskBody (w 26) no_decl (body (stmt_then (SLoop None None (stmt_then (SWait (alt_then (alternative None (AAccept (accepting (record { entry = (w 27); index = None; formals = []; span = o }) absent) no_stmt) o) (alt_then (alternative None ATerminate o) no_alt)) absent o) no_stmt) o) no_stmt) no_handler) o) (decl_then (DTaskBody (w 29) no_decl (body (stmt_then (SCall (record { task = (record { name = (w 26); index = None }); entry = (w 27); args = None }) o) (stmt_then (SCall (record { task = (record { name = (w 26); index = None }); entry = (w 28); args = None }) o) no_stmt)) no_handler) o) no_decl)))); body = (body (stmt_then (SCall (record { task = (record { name = (w 26); index = None }); entry = (w 27); args = None }) o) no_stmt) no_handler) }

queued_holds_the_end_run : outcome queued_holds_the_end [] [] 100 ≡ gives (event.R 0 1 (pos 0) ∷ event.E 1 ∷ event.R 2 1 (pos 0) ∷ event.E 1 ∷ []) 13 Stuck ([] ∷ [] ∷ [] ∷ [])
unfolding digits
queued_holds_the_end_run = refl
