-- Rendezvous with bodies, families, formals and exceptions, and calls of all forms: programs as plain trees, and what comes of them, by computation.
use Rattle.std.specs.Prelude.{◌≡◌, pos, true, false, Some, None, codes, [], ◌∷◌, ◌++◌, refl}
use Rattle.std.specs.Fmt.{digits}
use Rattle.ada_tree.specs.NameList.{predefined}
use Rattle.ada_tree.specs.declared.expressions.UnaryOp.TheVariants as unary
use Rattle.ada_tree.specs.declared.expressions.BinaryOp.TheVariants as binary
use Rattle.ada_tree.specs.declared.statements.ParMode.TheVariants as mode
use Rattle.ada_tree.specs.PlainExpr.{EInteger, EIndex, EAttributeOf, EUnary, EBinary, RGiven}
use Rattle.ada_tree.specs.PlainStmt.{PWords, PValue, LFor, SNull, SAssign, SExit, SRaise, SCall, SAccept, SWait, SConditional, STimed, SPut, SPutLine, SNewLine, SIf, SBlock, SLoop, no_stmt, stmt_then, absent, present, accepting, alternative, AAccept, ATerminate, no_alt, alt_then, arm, no_arm, arm_then, body, handler, no_handler, handler_then}
use Rattle.ada_tree.specs.PlainDecl.{OPlain, OArray, IOne, DNumber, DObject, DSubtype, DException, DIntIo, DTask, DTaskBody, no_decl, decl_then}
use Rattle.ada_tree.specs.PlainProgram.{PProgram}
use Rattle.event_machine.specs.declared.Event.TheVariants as event
use Rattle.event_machine.specs.declared.CallForm.TheVariants as form
use Rattle.event_machine.specs.declared.Choice.TheVariants as choice
use Rattle.event_machine.specs.Offers.{Calls, Waits}
use Rattle.progress_law.specs.examples.Picking.{Ended, Stuck, Spent}
use Rattle.progress_law.proofs.examples.Trees.{o, w, n, outcome, gives, setup_of, numbers_in}
use Rattle.progress_law.proofs.examples.Judging.{judged, IsFeasible, IsInfeasible, IsUnsettled, seen, SeenAt, cause_closed, cause_open, cause_offer}

-- Main calls an entry.
--
-- procedure ONE is task B is entry PUT; end B; task body B is begin accept PUT; end B; begin B.PUT; end ONE;
abbrev pub one_meeting : PProgram
one_meeting = record { names = (predefined ++ (codes "ONE" ∷ codes "B" ∷ [])); text_io = false; name = (w 25); decls = (decl_then (DTask (record { name = (w 26); of_kind = false; entries = ((record { name = (w 14); family = None; formals = []; span = o }) ∷ []); priorities = [] }) o) (decl_then (DTaskBody (w 26) no_decl (body (stmt_then (SAccept (accepting (record { entry = (w 14); index = None; formals = []; span = o }) absent) o) no_stmt) no_handler) o) no_decl)); body = (body (stmt_then (SCall (record { task = (record { name = (w 26); index = None }); entry = (w 14); args = None }) o) no_stmt) no_handler) }

-- Two arrivals, the start, the end, the completion of the task and the end of the program are six actions.
one_meeting_run : outcome one_meeting [] [] 100 ≡ gives (event.R 0 1 (pos 0) ∷ event.E 1 ∷ event.X 1 ∷ event.Z ∷ []) 6 Ended ([] ∷ [] ∷ [])
unfolding digits
one_meeting_run = refl

-- After five turns the end of the program is left.
five_turns : outcome one_meeting [] [] 5 ≡ gives (event.R 0 1 (pos 0) ∷ event.E 1 ∷ event.X 1 ∷ []) 5 Spent ([] ∷ [] ∷ [])
unfolding digits
five_turns = refl

the_meeting_is_feasible : judged (setup_of one_meeting []) (numbers_in one_meeting) 10 (event.R 0 1 (pos 0) ∷ event.E 1 ∷ event.X 1 ∷ event.Z ∷ []) ≡ IsFeasible 4
unfolding digits
the_meeting_is_feasible = refl

-- The task can not complete before it was called.
no_early_end : judged (setup_of one_meeting []) (numbers_in one_meeting) 10 (event.X 1 ∷ []) ≡ IsInfeasible 1 cause_offer 1 (seen 1 (SeenAt (Waits (choice.Accept 1 (pos 0) ∷ []))) ∷ [])
unfolding digits
no_early_end = refl

-- Two callers of one entry; the one with the lower number first makes a step.
--
-- procedure QUEUE is task S is entry PUT; end S; task A; task B; task body S is begin accept PUT; accept PUT; end S; task body A is begin null; S.PUT;
-- PUT_LINE("A"); end A; task body B is begin S.PUT; PUT_LINE("B"); end B; begin null; end QUEUE;
abbrev first_come : PProgram
first_come = record { names = (predefined ++ (codes "QUEUE" ∷ codes "S" ∷ codes "A" ∷ codes "B" ∷ [])); text_io = false; name = (w 25); decls = (decl_then (DTask (record { name = (w 26); of_kind = false; entries = ((record { name = (w 14); family = None; formals = []; span = o }) ∷ []); priorities = [] }) o) (decl_then (DTask (record { name = (w 27); of_kind = false; entries = []; priorities = [] }) o) (decl_then (DTask (record { name = (w 28); of_kind = false; entries = []; priorities = [] }) o) (decl_then (DTaskBody (w 26) no_decl (body (stmt_then (SAccept (accepting (record { entry = (w 14); index = None; formals = []; span = o }) absent) o) (stmt_then (SAccept (accepting (record { entry = (w 14); index = None; formals = []; span = o }) absent) o) no_stmt)) no_handler) o) (decl_then (DTaskBody (w 27) no_decl (body (stmt_then (SNull o) (stmt_then (SCall (record { task = (record { name = (w 26); index = None }); entry = (w 14); args = None }) o) (stmt_then (SPutLine ((PWords (codes "A") o) ∷ []) o) no_stmt))) no_handler) o) (decl_then (DTaskBody (w 28) no_decl (body (stmt_then (SCall (record { task = (record { name = (w 26); index = None }); entry = (w 14); args = None }) o) (stmt_then (SPutLine ((PWords (codes "B") o) ∷ []) o) no_stmt)) no_handler) o) no_decl)))))); body = (body (stmt_then (SNull o) no_stmt) no_handler) }

-- Who arrives first is served first: after the step of main and the arrival of S, the caller 3 is picked to arrive.
first_come_run : outcome first_come [] (0 ∷ 0 ∷ 1 ∷ 1 ∷ 0 ∷ 0 ∷ []) 200 ≡ gives (event.R 3 1 (pos 0) ∷ event.E 1 ∷ event.R 2 1 (pos 0) ∷ event.E 1 ∷ event.X 1 ∷ event.X 2 ∷ event.X 3 ∷ event.Z ∷ []) 16 Ended ([] ∷ [] ∷ codes "A\n" ∷ codes "B\n" ∷ [])
unfolding digits
first_come_run = refl

-- A conditional call beside a queued caller.
--
-- procedure BEHIND is task S is entry E; end S; task A; task B; task body S is begin null; accept E; end S; task body A is begin S.E; end A; task body B
-- is begin select S.E; PUT_LINE("MET"); else PUT_LINE("ELSE"); end select; end B; begin null; end BEHIND;
abbrev conditional_behind : PProgram
conditional_behind = record { names = (predefined ++ (codes "BEHIND" ∷ codes "S" ∷ codes "E" ∷ codes "A" ∷ codes "B" ∷ [])); text_io = false; name = (w 25); decls = (decl_then (DTask (record { name = (w 26); of_kind = false; entries = ((record { name = (w 27); family = None; formals = []; span = o }) ∷ []); priorities = [] }) o) (decl_then (DTask (record { name = (w 28); of_kind = false; entries = []; priorities = [] }) o) (decl_then (DTask (record { name = (w 29); of_kind = false; entries = []; priorities = [] }) o) (decl_then (DTaskBody (w 26) no_decl (body (stmt_then (SNull o) (stmt_then (SAccept (accepting (record { entry = (w 27); index = None; formals = []; span = o }) absent) o) no_stmt)) no_handler) o) (decl_then (DTaskBody (w 28) no_decl (body (stmt_then (SCall (record { task = (record { name = (w 26); index = None }); entry = (w 27); args = None }) o) no_stmt) no_handler) o) (decl_then (DTaskBody (w 29) no_decl (body (stmt_then (SConditional (record { task = (record { name = (w 26); index = None }); entry = (w 27); args = None }) (stmt_then (SPutLine ((PWords (codes "MET") o) ∷ []) o) no_stmt) (stmt_then (SPutLine ((PWords (codes "ELSE") o) ∷ []) o) no_stmt) o) no_stmt) no_handler) o) no_decl)))))); body = (body (stmt_then (SNull o) no_stmt) no_handler) }

-- It does not overtake: A has arrived, then S waits; the call of B takes its else part where A is to be served.
conditional_behind_run : outcome conditional_behind [] (0 ∷ 1 ∷ 0 ∷ 0 ∷ 1 ∷ 0 ∷ []) 200 ≡ gives (event.C 3 1 (pos 0) ∷ event.R 2 1 (pos 0) ∷ event.E 1 ∷ event.X 1 ∷ event.X 2 ∷ event.X 3 ∷ event.Z ∷ []) 12 Ended ([] ∷ [] ∷ [] ∷ codes "ELSE\n" ∷ [])
unfolding digits
conditional_behind_run = refl

-- A conditional call of a task that ends.
--
-- procedure COND is task T is entry E; end T; task A; task body T is begin null; end T; task body A is begin select T.E; PUT_LINE("MET"); else
-- PUT_LINE("ELSE"); end select; exception when TASKING_ERROR => PUT_LINE("GONE"); end A; begin null; end COND;
abbrev conditional_call : PProgram
conditional_call = record { names = (predefined ++ (codes "COND" ∷ codes "T" ∷ codes "E" ∷ codes "A" ∷ [])); text_io = false; name = (w 25); decls = (decl_then (DTask (record { name = (w 26); of_kind = false; entries = ((record { name = (w 27); family = None; formals = []; span = o }) ∷ []); priorities = [] }) o) (decl_then (DTask (record { name = (w 28); of_kind = false; entries = []; priorities = [] }) o) (decl_then (DTaskBody (w 26) no_decl (body (stmt_then (SNull o) no_stmt) no_handler) o) (decl_then (DTaskBody (w 28) no_decl (body (stmt_then (SConditional (record { task = (record { name = (w 26); index = None }); entry = (w 27); args = None }) (stmt_then (SPutLine ((PWords (codes "MET") o) ∷ []) o) no_stmt) (stmt_then (SPutLine ((PWords (codes "ELSE") o) ∷ []) o) no_stmt) o) no_stmt) (handler_then (handler ((w 9) ∷ []) (stmt_then (SPutLine ((PWords (codes "GONE") o) ∷ []) o) no_stmt) o) no_handler)) o) no_decl)))); body = (body (stmt_then (SNull o) no_stmt) no_handler) }

else_before_the_end : judged (setup_of conditional_call []) (numbers_in conditional_call) 10 (event.C 2 1 (pos 0) ∷ event.X 1 ∷ event.X 2 ∷ event.Z ∷ []) ≡ IsFeasible 4
unfolding digits
else_before_the_end = refl

no_else_after_the_end : judged (setup_of conditional_call []) (numbers_in conditional_call) 10 (event.X 1 ∷ event.C 2 1 (pos 0) ∷ []) ≡ IsInfeasible 2 cause_closed 1 (seen 2 (SeenAt (Calls form.Conditional 1 (pos 0))) ∷ [])
unfolding digits
no_else_after_the_end = refl

failure_after_the_end : judged (setup_of conditional_call []) (numbers_in conditional_call) 10 (event.X 1 ∷ event.F 2 1 (pos 0) ∷ event.X 2 ∷ event.Z ∷ []) ≡ IsFeasible 4
unfolding digits
failure_after_the_end = refl

no_failure_before : judged (setup_of conditional_call []) (numbers_in conditional_call) 10 (event.F 2 1 (pos 0) ∷ []) ≡ IsInfeasible 1 cause_open 1 (seen 2 (SeenAt (Calls form.Conditional 1 (pos 0))) ∷ [])
unfolding digits
no_failure_before = refl

-- A family with a formal; one call has an index outside its range.
--
-- procedure FAMILY is task T is entry E(1 .. 3)(X : in INTEGER); end T; task A; task body T is begin accept E(3)(X : in INTEGER) do PUT(X); NEW_LINE;
-- end E; end T; task body A is I : INTEGER := 4; begin begin T.E(I)(7); exception when CONSTRAINT_ERROR => PUT_LINE("RANGE"); end; T.E(3)(8); end A;
-- begin null; end FAMILY;
abbrev family_index : PProgram
family_index = record { names = (predefined ++ (codes "FAMILY" ∷ codes "T" ∷ codes "E" ∷ codes "X" ∷ codes "A" ∷ codes "I" ∷ [])); text_io = false; name = (w 25); decls = (decl_then (DTask (record { name = (w 26); of_kind = false; entries = ((record { name = (w 27); family = (Some (RGiven (record { first = (EInteger 1 o); last = (EInteger 3 o) }))); formals = ((record { names = ((w 28) ∷ []); mode = mode.Take; mark = (w 0) }) ∷ []); span = o }) ∷ []); priorities = [] }) o) (decl_then (DTask (record { name = (w 29); of_kind = false; entries = []; priorities = [] }) o) (decl_then (DTaskBody (w 26) no_decl (body (stmt_then (SAccept (accepting (record { entry = (w 27); index = (Some (EInteger 3 o)); formals = ((record { names = ((w 28) ∷ []); mode = mode.Take; mark = (w 0) }) ∷ []); span = o }) (present (stmt_then (SPut ((PValue (n 28)) ∷ []) o) (stmt_then (SNewLine o) no_stmt)))) o) no_stmt) no_handler) o) (decl_then (DTaskBody (w 29) (decl_then (DObject ((w 30) ∷ []) false (OPlain (record { mark = (w 0); bounds = None })) (Some (IOne (EInteger 4 o))) o) no_decl) (body (stmt_then (SBlock (body (stmt_then (SCall (record { task = (record { name = (w 26); index = None }); entry = (w 27); args = (Some (record { first = ((n 30) ∷ []); second = (Some ((EInteger 7 o) ∷ [])) })) }) o) no_stmt) (handler_then (handler ((w 6) ∷ []) (stmt_then (SPutLine ((PWords (codes "RANGE") o) ∷ []) o) no_stmt) o) no_handler)) o) (stmt_then (SCall (record { task = (record { name = (w 26); index = None }); entry = (w 27); args = (Some (record { first = ((EInteger 3 o) ∷ []); second = (Some ((EInteger 8 o) ∷ [])) })) }) o) no_stmt)) no_handler) o) no_decl)))); body = (body (stmt_then (SNull o) no_stmt) no_handler) }

-- The bad index raises by a local step; the member has its index in the event.
family_index_run : outcome family_index [] [] 200 ≡ gives (event.R 2 1 (pos 3) ∷ event.E 1 ∷ event.X 1 ∷ event.X 2 ∷ event.Z ∷ []) 13 Ended ([] ∷ codes "8\n" ∷ codes "RANGE\n" ∷ [])
unfolding digits
family_index_run = refl

family_index_feasible : judged (setup_of family_index []) (numbers_in family_index) 10 (event.R 2 1 (pos 3) ∷ event.E 1 ∷ event.X 1 ∷ event.X 2 ∷ event.Z ∷ []) ≡ IsFeasible 5
unfolding digits
family_index_feasible = refl

-- An exception leaves an accept body.
--
-- procedure BOTH is OOPS : exception; task T is entry E; end T; task A; task body T is begin accept E do raise OOPS; end E; exception when OOPS =>
-- PUT_LINE("T"); end T; task body A is begin T.E; exception when OOPS => PUT_LINE("A"); end A; begin null; end BOTH;
abbrev raised_in_body : PProgram
raised_in_body = record { names = (predefined ++ (codes "BOTH" ∷ codes "OOPS" ∷ codes "T" ∷ codes "E" ∷ codes "A" ∷ [])); text_io = false; name = (w 25); decls = (decl_then (DException ((w 26) ∷ []) o) (decl_then (DTask (record { name = (w 27); of_kind = false; entries = ((record { name = (w 28); family = None; formals = []; span = o }) ∷ []); priorities = [] }) o) (decl_then (DTask (record { name = (w 29); of_kind = false; entries = []; priorities = [] }) o) (decl_then (DTaskBody (w 27) no_decl (body (stmt_then (SAccept (accepting (record { entry = (w 28); index = None; formals = []; span = o }) (present (stmt_then (SRaise (Some (w 26)) o) no_stmt))) o) no_stmt) (handler_then (handler ((w 26) ∷ []) (stmt_then (SPutLine ((PWords (codes "T") o) ∷ []) o) no_stmt) o) no_handler)) o) (decl_then (DTaskBody (w 29) no_decl (body (stmt_then (SCall (record { task = (record { name = (w 27); index = None }); entry = (w 28); args = None }) o) no_stmt) (handler_then (handler ((w 26) ∷ []) (stmt_then (SPutLine ((PWords (codes "A") o) ∷ []) o) no_stmt) o) no_handler)) o) no_decl))))); body = (body (stmt_then (SNull o) no_stmt) no_handler) }

-- It is raised in the acceptor and in the caller.
raised_in_body_run : outcome raised_in_body [] [] 200 ≡ gives (event.R 2 1 (pos 0) ∷ event.E 1 ∷ event.X 1 ∷ event.X 2 ∷ event.Z ∷ []) 11 Ended ([] ∷ codes "T\n" ∷ codes "A\n" ∷ [])
unfolding digits
raised_in_body_run = refl

-- An accept behind a loop of 499 turns.
--
-- procedure LONG is task T is entry E; end T; task body T is begin for I in 1 .. 499 loop null; end loop; accept E; end T; begin T.E; end LONG;
abbrev long_way : PProgram
long_way = record { names = (predefined ++ (codes "LONG" ∷ codes "T" ∷ codes "E" ∷ codes "I" ∷ [])); text_io = false; name = (w 25); decls = (decl_then (DTask (record { name = (w 26); of_kind = false; entries = ((record { name = (w 27); family = None; formals = []; span = o }) ∷ []); priorities = [] }) o) (decl_then (DTaskBody (w 26) no_decl (body (stmt_then (SLoop None (Some (LFor (w 28) false (RGiven (record { first = (EInteger 1 o); last = (EInteger 499 o) })))) (stmt_then (SNull o) no_stmt) o) (stmt_then (SAccept (accepting (record { entry = (w 27); index = None; formals = []; span = o }) absent) o) no_stmt)) no_handler) o) no_decl)); body = (body (stmt_then (SCall (record { task = (record { name = (w 26); index = None }); entry = (w 27); args = None }) o) no_stmt) no_handler) }

-- 499 starts of turns, 499 nulls and one leave are 999 local steps ..
settles_in_999 : judged (setup_of long_way []) (numbers_in long_way) 999 (event.R 0 1 (pos 0) ∷ []) ≡ IsFeasible 1
unfolding digits
settles_in_999 = refl

-- .. and one fewer does not do.
open_at_998 : judged (setup_of long_way []) (numbers_in long_way) 998 (event.R 0 1 (pos 0) ∷ []) ≡ IsUnsettled 1 1
unfolding digits
open_at_998 = refl

long_way_run : outcome long_way [] [] 2000 ≡ gives (event.R 0 1 (pos 0) ∷ event.E 1 ∷ event.X 1 ∷ event.Z ∷ []) 1005 Ended ([] ∷ [] ∷ [])
unfolding digits
long_way_run = refl

-- A bounded buffer of two places, three producers and two consumers.
--
-- with TEXT_IO; use TEXT_IO;
-- procedure BUFFERED is package INT_IO is new INTEGER_IO(INTEGER); use INT_IO; SIZE : constant := 2; subtype ITEM is INTEGER range 0 .. 999;
-- task BUFFER is pragma PRIORITY(5); entry PUT(X : in ITEM); entry GET(X : out ITEM); end BUFFER; task P1; task P2; task P3; task C1; task C2;
-- task body BUFFER is POOL : array (1 .. SIZE) of ITEM; COUNT : INTEGER range 0 .. SIZE := 0; HEAD, TAIL : INTEGER range 1 .. SIZE := 1; begin loop
-- select when COUNT < SIZE => accept PUT(X : in ITEM) do POOL(TAIL) := X; end PUT; TAIL := TAIL mod SIZE + 1; COUNT := COUNT + 1; or when COUNT > 0 =>
-- accept GET(X : out ITEM) do X := POOL(HEAD); end GET; HEAD := HEAD mod SIZE + 1; COUNT := COUNT - 1; or terminate; end select; end loop; end BUFFER;
-- task body P1 is begin for I in 1 .. 2 loop BUFFER.PUT(10 + I); end loop; end P1; task body P2 is begin for I in 1 .. 2 loop BUFFER.PUT(20 + I); end
-- loop; end P2; task body P3 is begin for I in 1 .. 2 loop BUFFER.PUT(30 + I); end loop; end P3;
-- task body C1 is V : ITEM; begin for I in 1 .. 3 loop BUFFER.GET(V); PUT_LINE("C1" & INTEGER'IMAGE(V)); end loop; end C1; task body C2 is V : ITEM;
-- begin for I in 1 .. 3 loop BUFFER.GET(V); PUT_LINE("C2" & INTEGER'IMAGE(V)); end loop; end C2;
-- begin null; end BUFFERED;
abbrev bounded_buffer : PProgram
bounded_buffer = record { names = (predefined ++ (codes "BUFFERED" ∷ codes "INT_IO" ∷ codes "SIZE" ∷ codes "ITEM" ∷ codes "BUFFER" ∷ codes "X" ∷ codes "P1" ∷ codes "P2" ∷ codes "P3" ∷ codes "C1" ∷ codes "C2" ∷ codes "POOL" ∷ codes "COUNT" ∷ codes "HEAD" ∷ codes "TAIL" ∷ codes "I" ∷ codes "V" ∷ [])); text_io = true; name = (w 25); decls = (decl_then (DIntIo (w 26) o) (decl_then (DNumber (w 27) (EInteger 2 o) o) (decl_then (DSubtype (w 28) (record { mark = (w 0); bounds = (Some (record { first = (EInteger 0 o); last = (EInteger 999 o) })) }) o) (decl_then (DTask (record { name = (w 29); of_kind = false; entries = ((record { name = (w 14); family = None; formals = ((record { names = ((w 30) ∷ []); mode = mode.Take; mark = (w 28) }) ∷ []); span = o }) ∷ (record { name = (w 17); family = None; formals = ((record { names = ((w 30) ∷ []); mode = mode.Give; mark = (w 28) }) ∷ []); span = o }) ∷ []); priorities = ((record { place = 0; value = (EInteger 5 o) }) ∷ []) }) o) (decl_then (DTask (record { name = (w 31); of_kind = false; entries = []; priorities = [] }) o) (decl_then (DTask (record { name = (w 32); of_kind = false; entries = []; priorities = [] }) o) (decl_then (DTask (record { name = (w 33); of_kind = false; entries = []; priorities = [] }) o) (decl_then (DTask (record { name = (w 34); of_kind = false; entries = []; priorities = [] }) o) (decl_then (DTask (record { name = (w 35); of_kind = false; entries = []; priorities = [] }) o) (decl_then (DTaskBody (w 29) (decl_then (DObject ((w 36) ∷ []) false (OArray (RGiven (record { first = (EInteger 1 o); last = (n 27) })) (record { mark = (w 28); bounds = None })) None o) (decl_then (DObject ((w 37) ∷ []) false (OPlain (record { mark = (w 0); bounds = (Some (record { first = (EInteger 0 o); last = (n 27) })) })) (Some (IOne (EInteger 0 o))) o) (decl_then (DObject ((w 38) ∷ (w 39) ∷ []) false (OPlain (record { mark = (w 0); bounds = (Some (record { first = (EInteger 1 o); last = (n 27) })) })) (Some (IOne (EInteger 1 o))) o) no_decl))) (body (stmt_then (SLoop None None (stmt_then (SWait (alt_then (alternative (Some (EBinary binary.Less (n 37) (n 27) o)) (AAccept (accepting (record { entry = (w 14); index = None; formals = ((record { names = ((w 30) ∷ []); mode = mode.Take; mark = (w 28) }) ∷ []); span = o }) (present (stmt_then (SAssign (record { name = (w 36); index = (Some (n 39)) }) (n 30) o) no_stmt))) (stmt_then (SAssign (record { name = (w 39); index = None }) (EBinary binary.Plus (EBinary binary.Mod (n 39) (n 27) o) (EInteger 1 o) o) o) (stmt_then (SAssign (record { name = (w 37); index = None }) (EBinary binary.Plus (n 37) (EInteger 1 o) o) o) no_stmt))) o) (alt_then (alternative (Some (EBinary binary.Greater (n 37) (EInteger 0 o) o)) (AAccept (accepting (record { entry = (w 17); index = None; formals = ((record { names = ((w 30) ∷ []); mode = mode.Give; mark = (w 28) }) ∷ []); span = o }) (present (stmt_then (SAssign (record { name = (w 30); index = None }) (EIndex (w 36) (n 38) o) o) no_stmt))) (stmt_then (SAssign (record { name = (w 38); index = None }) (EBinary binary.Plus (EBinary binary.Mod (n 38) (n 27) o) (EInteger 1 o) o) o) (stmt_then (SAssign (record { name = (w 37); index = None }) (EBinary binary.Minus (n 37) (EInteger 1 o) o) o) no_stmt))) o) (alt_then (alternative None ATerminate o) no_alt))) absent o) no_stmt) o) no_stmt) no_handler) o) (decl_then (DTaskBody (w 31) no_decl (body (stmt_then (SLoop None (Some (LFor (w 40) false (RGiven (record { first = (EInteger 1 o); last = (EInteger 2 o) })))) (stmt_then (SCall (record { task = (record { name = (w 29); index = None }); entry = (w 14); args = (Some (record { first = ((EBinary binary.Plus (EInteger 10 o) (n 40) o) ∷ []); second = None })) }) o) no_stmt) o) no_stmt) no_handler) o) (decl_then (DTaskBody (w 32) no_decl (body (stmt_then (SLoop None (Some (LFor (w 40) false (RGiven (record { first = (EInteger 1 o); last = (EInteger 2 o) })))) (stmt_then (SCall (record { task = (record { name = (w 29); index = None }); entry = (w 14); args = (Some (record { first = ((EBinary binary.Plus (EInteger 20 o) (n 40) o) ∷ []); second = None })) }) o) no_stmt) o) no_stmt) no_handler) o) (decl_then (DTaskBody (w 33) no_decl (body (stmt_then (SLoop None (Some (LFor (w 40) false (RGiven (record { first = (EInteger 1 o); last = (EInteger 2 o) })))) (stmt_then (SCall (record { task = (record { name = (w 29); index = None }); entry = (w 14); args = (Some (record { first = ((EBinary binary.Plus (EInteger 30 o) (n 40) o) ∷ []); second = None })) }) o) no_stmt) o) no_stmt) no_handler) o) (decl_then (DTaskBody (w 34) (decl_then (DObject ((w 41) ∷ []) false (OPlain (record { mark = (w 28); bounds = None })) None o) no_decl) (body (stmt_then (SLoop None (Some (LFor (w 40) false (RGiven (record { first = (EInteger 1 o); last = (EInteger 3 o) })))) (stmt_then (SCall (record { task = (record { name = (w 29); index = None }); entry = (w 17); args = (Some (record { first = ((n 41) ∷ []); second = None })) }) o) (stmt_then (SPutLine ((PWords (codes "C1") o) ∷ (PValue (EAttributeOf (w 0) (w 24) (n 41) o)) ∷ []) o) no_stmt)) o) no_stmt) no_handler) o) (decl_then (DTaskBody (w 35) (decl_then (DObject ((w 41) ∷ []) false (OPlain (record { mark = (w 28); bounds = None })) None o) no_decl) (body (stmt_then (SLoop None (Some (LFor (w 40) false (RGiven (record { first = (EInteger 1 o); last = (EInteger 3 o) })))) (stmt_then (SCall (record { task = (record { name = (w 29); index = None }); entry = (w 17); args = (Some (record { first = ((n 41) ∷ []); second = None })) }) o) (stmt_then (SPutLine ((PWords (codes "C2") o) ∷ (PValue (EAttributeOf (w 0) (w 24) (n 41) o)) ∷ []) o) no_stmt)) o) no_stmt) no_handler) o) no_decl))))))))))))))); body = (body (stmt_then (SNull o) no_stmt) no_handler) }

-- 128 actions by count: the buffer turns 13 times and waits 13 times, and takes three more steps for each of 12 items; a producer takes 8 actions, a
-- consumer 14.
bounded_buffer_run : outcome bounded_buffer [] [] 200 ≡ gives (event.R 2 1 (pos 0) ∷ event.E 1 ∷ event.R 2 1 (pos 0) ∷ event.E 1 ∷ event.X 2 ∷ event.R 5 2 (pos 0) ∷ event.E 1 ∷ event.R 3 1 (pos 0) ∷ event.E 1 ∷ event.R 5 2 (pos 0) ∷ event.E 1 ∷ event.R 4 1 (pos 0) ∷ event.E 1 ∷ event.R 5 2 (pos 0) ∷ event.E 1 ∷ event.R 3 1 (pos 0) ∷ event.E 1 ∷ event.X 3 ∷ event.X 5 ∷ event.R 6 2 (pos 0) ∷ event.E 1 ∷ event.R 4 1 (pos 0) ∷ event.E 1 ∷ event.X 4 ∷ event.R 6 2 (pos 0) ∷ event.E 1 ∷ event.R 6 2 (pos 0) ∷ event.E 1 ∷ event.X 6 ∷ event.Z ∷ []) 128 Ended ([] ∷ [] ∷ [] ∷ [] ∷ [] ∷ codes "C1 11\nC1 12\nC1 21\n" ∷ codes "C2 31\nC2 22\nC2 32\n" ∷ [])
unfolding digits
bounded_buffer_run = refl

-- Nothing can be taken out of an empty buffer.
nothing_to_get : judged (setup_of bounded_buffer []) (numbers_in bounded_buffer) 100 (event.R 5 2 (pos 0) ∷ []) ≡ IsInfeasible 1 cause_offer 1 (seen 5 (SeenAt (Calls form.Plain 2 (pos 0))) ∷ seen 1 (SeenAt (Waits (choice.Accept 1 (pos 0) ∷ choice.Terminate ∷ []))) ∷ [])
unfolding digits
nothing_to_get = refl

-- Two tasks that take two forks in the other order.
--
-- procedure FORKS is task F1 is entry UP; entry DOWN; end F1; task F2 is entry UP; entry DOWN; end F2; task A; task B; task body F1 is begin loop select
-- accept UP; accept DOWN; or terminate; end select; end loop; end F1; task body F2 is begin loop select accept UP; accept DOWN; or terminate; end
-- select; end loop; end F2; task body A is begin F1.UP; F2.UP; F2.DOWN; F1.DOWN; end A; task body B is begin F2.UP; F1.UP; F1.DOWN; F2.DOWN; end B;
-- begin null; end FORKS;
abbrev two_forks : PProgram
two_forks = record { names = (predefined ++ (codes "FORKS" ∷ codes "F1" ∷ codes "UP" ∷ codes "DOWN" ∷ codes "F2" ∷ codes "A" ∷ codes "B" ∷ [])); text_io = false; name = (w 25); decls = (decl_then (DTask (record { name = (w 26); of_kind = false; entries = ((record { name = (w 27); family = None; formals = []; span = o }) ∷ (record { name = (w 28); family = None; formals = []; span = o }) ∷ []); priorities = [] }) o) (decl_then (DTask (record { name = (w 29); of_kind = false; entries = ((record { name = (w 27); family = None; formals = []; span = o }) ∷ (record { name = (w 28); family = None; formals = []; span = o }) ∷ []); priorities = [] }) o) (decl_then (DTask (record { name = (w 30); of_kind = false; entries = []; priorities = [] }) o) (decl_then (DTask (record { name = (w 31); of_kind = false; entries = []; priorities = [] }) o) (decl_then (DTaskBody (w 26) no_decl (body (stmt_then (SLoop None None (stmt_then (SWait (alt_then (alternative None (AAccept (accepting (record { entry = (w 27); index = None; formals = []; span = o }) absent) (stmt_then (SAccept (accepting (record { entry = (w 28); index = None; formals = []; span = o }) absent) o) no_stmt)) o) (alt_then (alternative None ATerminate o) no_alt)) absent o) no_stmt) o) no_stmt) no_handler) o) (decl_then (DTaskBody (w 29) no_decl (body (stmt_then (SLoop None None (stmt_then (SWait (alt_then (alternative None (AAccept (accepting (record { entry = (w 27); index = None; formals = []; span = o }) absent) (stmt_then (SAccept (accepting (record { entry = (w 28); index = None; formals = []; span = o }) absent) o) no_stmt)) o) (alt_then (alternative None ATerminate o) no_alt)) absent o) no_stmt) o) no_stmt) no_handler) o) (decl_then (DTaskBody (w 30) no_decl (body (stmt_then (SCall (record { task = (record { name = (w 26); index = None }); entry = (w 27); args = None }) o) (stmt_then (SCall (record { task = (record { name = (w 29); index = None }); entry = (w 27); args = None }) o) (stmt_then (SCall (record { task = (record { name = (w 29); index = None }); entry = (w 28); args = None }) o) (stmt_then (SCall (record { task = (record { name = (w 26); index = None }); entry = (w 28); args = None }) o) no_stmt)))) no_handler) o) (decl_then (DTaskBody (w 31) no_decl (body (stmt_then (SCall (record { task = (record { name = (w 29); index = None }); entry = (w 27); args = None }) o) (stmt_then (SCall (record { task = (record { name = (w 26); index = None }); entry = (w 27); args = None }) o) (stmt_then (SCall (record { task = (record { name = (w 26); index = None }); entry = (w 28); args = None }) o) (stmt_then (SCall (record { task = (record { name = (w 29); index = None }); entry = (w 28); args = None }) o) no_stmt)))) no_handler) o) no_decl)))))))); body = (body (stmt_then (SNull o) no_stmt) no_handler) }

each_has_one : judged (setup_of two_forks []) (numbers_in two_forks) 10 (event.R 3 1 (pos 0) ∷ event.E 1 ∷ event.R 4 3 (pos 0) ∷ event.E 2 ∷ []) ≡ IsFeasible 4
unfolding digits
each_has_one = refl

-- Then neither gets the other fork.
none_gets_two : judged (setup_of two_forks []) (numbers_in two_forks) 10 (event.R 3 1 (pos 0) ∷ event.E 1 ∷ event.R 4 3 (pos 0) ∷ event.E 2 ∷ event.R 3 3 (pos 0) ∷ []) ≡ IsInfeasible 5 cause_offer 2 (seen 3 (SeenAt (Calls form.Plain 3 (pos 0))) ∷ seen 2 (SeenAt (Waits (choice.Accept 4 (pos 0) ∷ []))) ∷ [])
unfolding digits
none_gets_two = refl

-- Values come back in the order of the formals: at the first call the second does not fit its variable, at the second call one variable stands twice.
--
-- procedure COPIES is task S is entry E(X, Y, Z : out INTEGER); end S; task A; task body S is begin accept E(X, Y, Z : out INTEGER) do X := 7; Y := -1;
-- Z := 9; end E; accept E(X, Y, Z : out INTEGER) do X := 1; Y := 2; Z := 3; end E; end S; task body A is L, N : INTEGER := 0; P : NATURAL := 5; begin
-- begin S.E(L, P, N); exception when CONSTRAINT_ERROR => PUT("C"); end; PUT(L); PUT(P); PUT(N); S.E(N, N, L); PUT(N); PUT(L); end A; begin null; end
-- COPIES;
abbrev values_come_back : PProgram
values_come_back = record { names = (predefined ++ (codes "COPIES" ∷ codes "S" ∷ codes "E" ∷ codes "X" ∷ codes "Y" ∷ codes "Z" ∷ codes "A" ∷ codes "L" ∷ codes "N" ∷ codes "P" ∷ [])); text_io = false; name = (w 25); decls = (decl_then (DTask (record { name = (w 26); of_kind = false; entries = ((record { name = (w 27); family = None; formals = ((record { names = ((w 28) ∷ (w 29) ∷ (w 30) ∷ []); mode = mode.Give; mark = (w 0) }) ∷ []); span = o }) ∷ []); priorities = [] }) o) (decl_then (DTask (record { name = (w 31); of_kind = false; entries = []; priorities = [] }) o) (decl_then (DTaskBody (w 26) no_decl (body (stmt_then (SAccept (accepting (record { entry = (w 27); index = None; formals = ((record { names = ((w 28) ∷ (w 29) ∷ (w 30) ∷ []); mode = mode.Give; mark = (w 0) }) ∷ []); span = o }) (present (stmt_then (SAssign (record { name = (w 28); index = None }) (EInteger 7 o) o) (stmt_then (SAssign (record { name = (w 29); index = None }) (EUnary unary.Minus (EInteger 1 o) o) o) (stmt_then (SAssign (record { name = (w 30); index = None }) (EInteger 9 o) o) no_stmt))))) o) (stmt_then (SAccept (accepting (record { entry = (w 27); index = None; formals = ((record { names = ((w 28) ∷ (w 29) ∷ (w 30) ∷ []); mode = mode.Give; mark = (w 0) }) ∷ []); span = o }) (present (stmt_then (SAssign (record { name = (w 28); index = None }) (EInteger 1 o) o) (stmt_then (SAssign (record { name = (w 29); index = None }) (EInteger 2 o) o) (stmt_then (SAssign (record { name = (w 30); index = None }) (EInteger 3 o) o) no_stmt))))) o) no_stmt)) no_handler) o) (decl_then (DTaskBody (w 31) (decl_then (DObject ((w 32) ∷ (w 33) ∷ []) false (OPlain (record { mark = (w 0); bounds = None })) (Some (IOne (EInteger 0 o))) o) (decl_then (DObject ((w 34) ∷ []) false (OPlain (record { mark = (w 1); bounds = None })) (Some (IOne (EInteger 5 o))) o) no_decl)) (body (stmt_then (SBlock (body (stmt_then (SCall (record { task = (record { name = (w 26); index = None }); entry = (w 27); args = (Some (record { first = ((n 32) ∷ (n 34) ∷ (n 33) ∷ []); second = None })) }) o) no_stmt) (handler_then (handler ((w 6) ∷ []) (stmt_then (SPut ((PWords (codes "C") o) ∷ []) o) no_stmt) o) no_handler)) o) (stmt_then (SPut ((PValue (n 32)) ∷ []) o) (stmt_then (SPut ((PValue (n 34)) ∷ []) o) (stmt_then (SPut ((PValue (n 33)) ∷ []) o) (stmt_then (SCall (record { task = (record { name = (w 26); index = None }); entry = (w 27); args = (Some (record { first = ((n 33) ∷ (n 33) ∷ (n 32) ∷ []); second = None })) }) o) (stmt_then (SPut ((PValue (n 33)) ∷ []) o) (stmt_then (SPut ((PValue (n 32)) ∷ []) o) no_stmt))))))) no_handler) o) no_decl)))); body = (body (stmt_then (SNull o) no_stmt) no_handler) }

-- The first that does not fit stops and raises CONSTRAINT_ERROR at the call, and the earlier one stays; of one variable twice the later value stays.
values_come_back_run : outcome values_come_back [] [] 200 ≡ gives (event.R 2 1 (pos 0) ∷ event.E 1 ∷ event.R 2 1 (pos 0) ∷ event.E 1 ∷ event.X 1 ∷ event.X 2 ∷ event.Z ∷ []) 25 Ended ([] ∷ [] ∷ codes "C75023" ∷ [])
unfolding digits
values_come_back_run = refl

-- Frames below an accept body stay: the accept is the last statement of a handled block, the call too; the exception is raised behind the accept and at
-- the call, inside both blocks.
--
-- procedure FRAMESSTAY is OOPS : exception; task S is entry E; end S; task A; task body S is begin begin accept E do if TRUE then raise OOPS; end if;
-- end E; exception when OOPS => PUT_LINE("S IN"); end; PUT_LINE("S ON"); end S; task body A is begin loop begin S.E; exception when OOPS => PUT_LINE("A
-- IN"); exit; end; end loop; PUT_LINE("A ON"); end A; begin null; end FRAMESSTAY;
abbrev frames_stay : PProgram
frames_stay = record { names = (predefined ++ (codes "FRAMESSTAY" ∷ codes "OOPS" ∷ codes "S" ∷ codes "E" ∷ codes "A" ∷ [])); text_io = false; name = (w 25); decls = (decl_then (DException ((w 26) ∷ []) o) (decl_then (DTask (record { name = (w 27); of_kind = false; entries = ((record { name = (w 28); family = None; formals = []; span = o }) ∷ []); priorities = [] }) o) (decl_then (DTask (record { name = (w 29); of_kind = false; entries = []; priorities = [] }) o) (decl_then (DTaskBody (w 27) no_decl (body (stmt_then (SBlock (body (stmt_then (SAccept (accepting (record { entry = (w 28); index = None; formals = []; span = o }) (present (stmt_then (SIf (arm_then (arm (n 5) (stmt_then (SRaise (Some (w 26)) o) no_stmt)) no_arm) absent o) no_stmt))) o) no_stmt) (handler_then (handler ((w 26) ∷ []) (stmt_then (SPutLine ((PWords (codes "S IN") o) ∷ []) o) no_stmt) o) no_handler)) o) (stmt_then (SPutLine ((PWords (codes "S ON") o) ∷ []) o) no_stmt)) no_handler) o) (decl_then (DTaskBody (w 29) no_decl (body (stmt_then (SLoop None None (stmt_then (SBlock (body (stmt_then (SCall (record { task = (record { name = (w 27); index = None }); entry = (w 28); args = None }) o) no_stmt) (handler_then (handler ((w 26) ∷ []) (stmt_then (SPutLine ((PWords (codes "A IN") o) ∷ []) o) (stmt_then (SExit None None o) no_stmt)) o) no_handler)) o) no_stmt) o) (stmt_then (SPutLine ((PWords (codes "A ON") o) ∷ []) o) no_stmt)) no_handler) o) no_decl))))); body = (body (stmt_then (SNull o) no_stmt) no_handler) }

frames_stay_run : outcome frames_stay [] [] 100 ≡ gives (event.R 2 1 (pos 0) ∷ event.E 1 ∷ event.X 1 ∷ event.X 2 ∷ event.Z ∷ []) 18 Ended ([] ∷ codes "S IN\nS ON\n" ∷ codes "A IN\nA ON\n" ∷ [])
unfolding digits
frames_stay_run = refl

-- Raise; takes the exception of the innermost handler, across an accept body; an exception in a unit handler is not taken by that unit again.
--
-- procedure HANDLEDACROSSACCEPT is OOPS : exception; task S is entry E; end S; task A; task body S is begin raise OOPS; exception when OOPS => accept E
-- do begin raise CONSTRAINT_ERROR; exception when CONSTRAINT_ERROR => null; end; raise; end E; PUT_LINE("NO"); when others => PUT_LINE("NO"); end S;
-- task body A is begin S.E; exception when OOPS => PUT_LINE("OOPS"); when others => PUT_LINE("OTHER"); end A; begin null; end HANDLEDACROSSACCEPT;
abbrev handled_across_accept : PProgram
handled_across_accept = record { names = (predefined ++ (codes "HANDLEDACROSSACCEPT" ∷ codes "OOPS" ∷ codes "S" ∷ codes "E" ∷ codes "A" ∷ [])); text_io = false; name = (w 25); decls = (decl_then (DException ((w 26) ∷ []) o) (decl_then (DTask (record { name = (w 27); of_kind = false; entries = ((record { name = (w 28); family = None; formals = []; span = o }) ∷ []); priorities = [] }) o) (decl_then (DTask (record { name = (w 29); of_kind = false; entries = []; priorities = [] }) o) (decl_then (DTaskBody (w 27) no_decl (body (stmt_then (SRaise (Some (w 26)) o) no_stmt) (handler_then (handler ((w 26) ∷ []) (stmt_then (SAccept (accepting (record { entry = (w 28); index = None; formals = []; span = o }) (present (stmt_then (SBlock (body (stmt_then (SRaise (Some (w 6)) o) no_stmt) (handler_then (handler ((w 6) ∷ []) (stmt_then (SNull o) no_stmt) o) no_handler)) o) (stmt_then (SRaise None o) no_stmt)))) o) (stmt_then (SPutLine ((PWords (codes "NO") o) ∷ []) o) no_stmt)) o) (handler_then (handler [] (stmt_then (SPutLine ((PWords (codes "NO") o) ∷ []) o) no_stmt) o) no_handler))) o) (decl_then (DTaskBody (w 29) no_decl (body (stmt_then (SCall (record { task = (record { name = (w 27); index = None }); entry = (w 28); args = None }) o) no_stmt) (handler_then (handler ((w 26) ∷ []) (stmt_then (SPutLine ((PWords (codes "OOPS") o) ∷ []) o) no_stmt) o) (handler_then (handler [] (stmt_then (SPutLine ((PWords (codes "OTHER") o) ∷ []) o) no_stmt) o) no_handler))) o) no_decl))))); body = (body (stmt_then (SNull o) no_stmt) no_handler) }

handled_across_accept_run : outcome handled_across_accept [] [] 100 ≡ gives (event.R 2 1 (pos 0) ∷ event.E 1 ∷ event.X 1 ∷ event.X 2 ∷ event.Z ∷ []) 14 Ended ([] ∷ [] ∷ codes "OOPS\n" ∷ [])
unfolding digits
handled_across_accept_run = refl

-- A call: callee, then family index (checked), then each actual (checked before the next is evaluated).
--
-- procedure ORDEROFACALL is task S is entry E(1 .. 3)(X : in NATURAL; Y : in INTEGER); end S; task A; task body S is begin accept E(2)(X : in NATURAL; Y
-- : in INTEGER) do PUT(X); PUT(Y); end E; end S; task body A is Z : INTEGER := 0; I : INTEGER := 4; begin begin S.E(I)(1 / Z, 1); exception when
-- CONSTRAINT_ERROR => PUT("I"); when NUMERIC_ERROR => PUT("N"); end; begin S.E(2)(Z - 1, 1 / Z); exception when CONSTRAINT_ERROR => PUT("A"); when
-- NUMERIC_ERROR => PUT("N"); end; begin S.E(1 / Z)(Z - 1, 1); exception when CONSTRAINT_ERROR => PUT("C"); when NUMERIC_ERROR => PUT("F"); end;
-- S.E(2)(6, 7); end A; begin null; end ORDEROFACALL;
abbrev order_of_a_call : PProgram
order_of_a_call = record { names = (predefined ++ (codes "ORDEROFACALL" ∷ codes "S" ∷ codes "E" ∷ codes "X" ∷ codes "Y" ∷ codes "A" ∷ codes "Z" ∷ codes "I" ∷ [])); text_io = false; name = (w 25); decls = (decl_then (DTask (record { name = (w 26); of_kind = false; entries = ((record { name = (w 27); family = (Some (RGiven (record { first = (EInteger 1 o); last = (EInteger 3 o) }))); formals = ((record { names = ((w 28) ∷ []); mode = mode.Take; mark = (w 1) }) ∷ (record { names = ((w 29) ∷ []); mode = mode.Take; mark = (w 0) }) ∷ []); span = o }) ∷ []); priorities = [] }) o) (decl_then (DTask (record { name = (w 30); of_kind = false; entries = []; priorities = [] }) o) (decl_then (DTaskBody (w 26) no_decl (body (stmt_then (SAccept (accepting (record { entry = (w 27); index = (Some (EInteger 2 o)); formals = ((record { names = ((w 28) ∷ []); mode = mode.Take; mark = (w 1) }) ∷ (record { names = ((w 29) ∷ []); mode = mode.Take; mark = (w 0) }) ∷ []); span = o }) (present (stmt_then (SPut ((PValue (n 28)) ∷ []) o) (stmt_then (SPut ((PValue (n 29)) ∷ []) o) no_stmt)))) o) no_stmt) no_handler) o) (decl_then (DTaskBody (w 30) (decl_then (DObject ((w 31) ∷ []) false (OPlain (record { mark = (w 0); bounds = None })) (Some (IOne (EInteger 0 o))) o) (decl_then (DObject ((w 32) ∷ []) false (OPlain (record { mark = (w 0); bounds = None })) (Some (IOne (EInteger 4 o))) o) no_decl)) (body (stmt_then (SBlock (body (stmt_then (SCall (record { task = (record { name = (w 26); index = None }); entry = (w 27); args = (Some (record { first = ((n 32) ∷ []); second = (Some ((EBinary binary.Divide (EInteger 1 o) (n 31) o) ∷ (EInteger 1 o) ∷ [])) })) }) o) no_stmt) (handler_then (handler ((w 6) ∷ []) (stmt_then (SPut ((PWords (codes "I") o) ∷ []) o) no_stmt) o) (handler_then (handler ((w 7) ∷ []) (stmt_then (SPut ((PWords (codes "N") o) ∷ []) o) no_stmt) o) no_handler))) o) (stmt_then (SBlock (body (stmt_then (SCall (record { task = (record { name = (w 26); index = None }); entry = (w 27); args = (Some (record { first = ((EInteger 2 o) ∷ []); second = (Some ((EBinary binary.Minus (n 31) (EInteger 1 o) o) ∷ (EBinary binary.Divide (EInteger 1 o) (n 31) o) ∷ [])) })) }) o) no_stmt) (handler_then (handler ((w 6) ∷ []) (stmt_then (SPut ((PWords (codes "A") o) ∷ []) o) no_stmt) o) (handler_then (handler ((w 7) ∷ []) (stmt_then (SPut ((PWords (codes "N") o) ∷ []) o) no_stmt) o) no_handler))) o) (stmt_then (SBlock (body (stmt_then (SCall (record { task = (record { name = (w 26); index = None }); entry = (w 27); args = (Some (record { first = ((EBinary binary.Divide (EInteger 1 o) (n 31) o) ∷ []); second = (Some ((EBinary binary.Minus (n 31) (EInteger 1 o) o) ∷ (EInteger 1 o) ∷ [])) })) }) o) no_stmt) (handler_then (handler ((w 6) ∷ []) (stmt_then (SPut ((PWords (codes "C") o) ∷ []) o) no_stmt) o) (handler_then (handler ((w 7) ∷ []) (stmt_then (SPut ((PWords (codes "F") o) ∷ []) o) no_stmt) o) no_handler))) o) (stmt_then (SCall (record { task = (record { name = (w 26); index = None }); entry = (w 27); args = (Some (record { first = ((EInteger 2 o) ∷ []); second = (Some ((EInteger 6 o) ∷ (EInteger 7 o) ∷ [])) })) }) o) no_stmt)))) no_handler) o) no_decl)))); body = (body (stmt_then (SNull o) no_stmt) no_handler) }

order_of_a_call_run : outcome order_of_a_call [] [] 100 ≡ gives (event.R 2 1 (pos 2) ∷ event.E 1 ∷ event.X 1 ∷ event.X 2 ∷ event.Z ∷ []) 19 Ended ([] ∷ codes "67" ∷ codes "IAF" ∷ [])
unfolding digits
order_of_a_call_run = refl

-- An accept body's out formal opens with the lower bound of its subtype, whatever the actual holds; formals hide a variable; behind the accept the
-- variable is seen again.
--
-- procedure OUTFORMALOPENS is task S is entry E(X : out POSITIVE; Y : in out INTEGER); end S; task A; task body S is X : INTEGER := 3; begin accept E(X
-- : out POSITIVE; Y : in out INTEGER) do Y := Y + 10; end E; PUT(X); end S; task body A is L : INTEGER := 42; M : INTEGER := 5; begin S.E(L, M); PUT(L);
-- PUT(M); end A; begin null; end OUTFORMALOPENS;
abbrev out_formal_opens : PProgram
out_formal_opens = record { names = (predefined ++ (codes "OUTFORMALOPENS" ∷ codes "S" ∷ codes "E" ∷ codes "X" ∷ codes "Y" ∷ codes "A" ∷ codes "L" ∷ codes "M" ∷ [])); text_io = false; name = (w 25); decls = (decl_then (DTask (record { name = (w 26); of_kind = false; entries = ((record { name = (w 27); family = None; formals = ((record { names = ((w 28) ∷ []); mode = mode.Give; mark = (w 2) }) ∷ (record { names = ((w 29) ∷ []); mode = mode.Both; mark = (w 0) }) ∷ []); span = o }) ∷ []); priorities = [] }) o) (decl_then (DTask (record { name = (w 30); of_kind = false; entries = []; priorities = [] }) o) (decl_then (DTaskBody (w 26) (decl_then (DObject ((w 28) ∷ []) false (OPlain (record { mark = (w 0); bounds = None })) (Some (IOne (EInteger 3 o))) o) no_decl) (body (stmt_then (SAccept (accepting (record { entry = (w 27); index = None; formals = ((record { names = ((w 28) ∷ []); mode = mode.Give; mark = (w 2) }) ∷ (record { names = ((w 29) ∷ []); mode = mode.Both; mark = (w 0) }) ∷ []); span = o }) (present (stmt_then (SAssign (record { name = (w 29); index = None }) (EBinary binary.Plus (n 29) (EInteger 10 o) o) o) no_stmt))) o) (stmt_then (SPut ((PValue (n 28)) ∷ []) o) no_stmt)) no_handler) o) (decl_then (DTaskBody (w 30) (decl_then (DObject ((w 31) ∷ []) false (OPlain (record { mark = (w 0); bounds = None })) (Some (IOne (EInteger 42 o))) o) (decl_then (DObject ((w 32) ∷ []) false (OPlain (record { mark = (w 0); bounds = None })) (Some (IOne (EInteger 5 o))) o) no_decl)) (body (stmt_then (SCall (record { task = (record { name = (w 26); index = None }); entry = (w 27); args = (Some (record { first = ((n 31) ∷ (n 32) ∷ []); second = None })) }) o) (stmt_then (SPut ((PValue (n 31)) ∷ []) o) (stmt_then (SPut ((PValue (n 32)) ∷ []) o) no_stmt))) no_handler) o) no_decl)))); body = (body (stmt_then (SNull o) no_stmt) no_handler) }

out_formal_opens_run : outcome out_formal_opens [] [] 100 ≡ gives (event.R 2 1 (pos 0) ∷ event.E 1 ∷ event.X 1 ∷ event.X 2 ∷ event.Z ∷ []) 12 Ended ([] ∷ codes "3" ∷ codes "115" ∷ [])
unfolding digits
out_formal_opens_run = refl

-- Nested rendezvous: an exception of the inner body is raised in both, stays pending at the outer end, and goes to the outer caller.
--
-- procedure NESTEDPENDING is OOPS : exception; task S is entry E; entry F; end S; task A; task B; task body S is begin accept E do accept F do raise
-- OOPS; end F; PUT("NO"); end E; exception when OOPS => PUT("S"); end S; task body A is begin S.E; exception when OOPS => PUT("A"); end A; task body B
-- is begin S.F; exception when OOPS => PUT("B"); end B; begin null; end NESTEDPENDING;
abbrev nested_pending : PProgram
nested_pending = record { names = (predefined ++ (codes "NESTEDPENDING" ∷ codes "OOPS" ∷ codes "S" ∷ codes "E" ∷ codes "F" ∷ codes "A" ∷ codes "B" ∷ [])); text_io = false; name = (w 25); decls = (decl_then (DException ((w 26) ∷ []) o) (decl_then (DTask (record { name = (w 27); of_kind = false; entries = ((record { name = (w 28); family = None; formals = []; span = o }) ∷ (record { name = (w 29); family = None; formals = []; span = o }) ∷ []); priorities = [] }) o) (decl_then (DTask (record { name = (w 30); of_kind = false; entries = []; priorities = [] }) o) (decl_then (DTask (record { name = (w 31); of_kind = false; entries = []; priorities = [] }) o) (decl_then (DTaskBody (w 27) no_decl (body (stmt_then (SAccept (accepting (record { entry = (w 28); index = None; formals = []; span = o }) (present (stmt_then (SAccept (accepting (record { entry = (w 29); index = None; formals = []; span = o }) (present (stmt_then (SRaise (Some (w 26)) o) no_stmt))) o) (stmt_then (SPut ((PWords (codes "NO") o) ∷ []) o) no_stmt)))) o) no_stmt) (handler_then (handler ((w 26) ∷ []) (stmt_then (SPut ((PWords (codes "S") o) ∷ []) o) no_stmt) o) no_handler)) o) (decl_then (DTaskBody (w 30) no_decl (body (stmt_then (SCall (record { task = (record { name = (w 27); index = None }); entry = (w 28); args = None }) o) no_stmt) (handler_then (handler ((w 26) ∷ []) (stmt_then (SPut ((PWords (codes "A") o) ∷ []) o) no_stmt) o) no_handler)) o) (decl_then (DTaskBody (w 31) no_decl (body (stmt_then (SCall (record { task = (record { name = (w 27); index = None }); entry = (w 29); args = None }) o) no_stmt) (handler_then (handler ((w 26) ∷ []) (stmt_then (SPut ((PWords (codes "B") o) ∷ []) o) no_stmt) o) no_handler)) o) no_decl))))))); body = (body (stmt_then (SNull o) no_stmt) no_handler) }

nested_pending_run : outcome nested_pending [] [] 100 ≡ gives (event.R 2 1 (pos 0) ∷ event.R 3 2 (pos 0) ∷ event.E 1 ∷ event.E 1 ∷ event.X 1 ∷ event.X 2 ∷ event.X 3 ∷ event.Z ∷ []) 17 Ended ([] ∷ codes "S" ∷ codes "A" ∷ codes "B" ∷ [])
unfolding digits
nested_pending_run = refl

-- A call of the own entry is never accepted: it queues, expires or takes its else part.
--
-- procedure OWNENTRY is task S is entry E; end S; task body S is begin select S.E; PUT("NO"); or delay 1.0; PUT("T"); end select; select S.E; PUT("NO");
-- else PUT("C"); end select; S.E; end S; begin null; end OWNENTRY;
abbrev own_entry : PProgram
own_entry = record { names = (predefined ++ (codes "OWNENTRY" ∷ codes "S" ∷ codes "E" ∷ [])); text_io = false; name = (w 25); decls = (decl_then (DTask (record { name = (w 26); of_kind = false; entries = ((record { name = (w 27); family = None; formals = []; span = o }) ∷ []); priorities = [] }) o) (decl_then (DTaskBody (w 26) no_decl (body (stmt_then (STimed (record { task = (record { name = (w 26); index = None }); entry = (w 27); args = None }) (stmt_then (SPut ((PWords (codes "NO") o) ∷ []) o) no_stmt) 1000 (stmt_then (SPut ((PWords (codes "T") o) ∷ []) o) no_stmt) o) (stmt_then (SConditional (record { task = (record { name = (w 26); index = None }); entry = (w 27); args = None }) (stmt_then (SPut ((PWords (codes "NO") o) ∷ []) o) no_stmt) (stmt_then (SPut ((PWords (codes "C") o) ∷ []) o) no_stmt) o) (stmt_then (SCall (record { task = (record { name = (w 26); index = None }); entry = (w 27); args = None }) o) no_stmt))) no_handler) o) no_decl)); body = (body (stmt_then (SNull o) no_stmt) no_handler) }

own_entry_run : outcome own_entry [] [] 100 ≡ gives (event.T 1 1 (pos 0) ∷ event.C 1 1 (pos 0) ∷ []) 7 Stuck ([] ∷ codes "TC" ∷ [])
unfolding digits
own_entry_run = refl

-- C asks of the owner only that it is not closed; it may run locally for ever.
--
-- procedure ELSEBESIDEABUSYOWNER is task T is entry E; end T; task A; task body T is begin loop null; end loop; end T; task body A is begin select T.E;
-- else PUT("C"); end select; end A; begin null; end ELSEBESIDEABUSYOWNER;
abbrev else_beside_a_busy_owner : PProgram
else_beside_a_busy_owner = record { names = (predefined ++ (codes "ELSEBESIDEABUSYOWNER" ∷ codes "T" ∷ codes "E" ∷ codes "A" ∷ [])); text_io = false; name = (w 25); decls = (decl_then (DTask (record { name = (w 26); of_kind = false; entries = ((record { name = (w 27); family = None; formals = []; span = o }) ∷ []); priorities = [] }) o) (decl_then (DTask (record { name = (w 28); of_kind = false; entries = []; priorities = [] }) o) (decl_then (DTaskBody (w 26) no_decl (body (stmt_then (SLoop None None (stmt_then (SNull o) no_stmt) o) no_stmt) no_handler) o) (decl_then (DTaskBody (w 28) no_decl (body (stmt_then (SConditional (record { task = (record { name = (w 26); index = None }); entry = (w 27); args = None }) no_stmt (stmt_then (SPut ((PWords (codes "C") o) ∷ []) o) no_stmt) o) no_stmt) no_handler) o) no_decl)))); body = (body (stmt_then (SNull o) no_stmt) no_handler) }

else_beside_a_busy_owner_judged : judged (setup_of else_beside_a_busy_owner []) (numbers_in else_beside_a_busy_owner) 10 (event.C 2 1 (pos 0) ∷ event.X 2 ∷ []) ≡ IsFeasible 2
unfolding digits
else_beside_a_busy_owner_judged = refl

-- R settles the caller first, then the owner; the first that is still running at the bound is told, whatever the conditions are.
--
-- procedure FIRSTUNSETTLED is task T is entry E; end T; task A; task body T is begin loop null; end loop; end T; task body A is begin null; null; T.E;
-- end A; begin null; end FIRSTUNSETTLED;
abbrev first_unsettled : PProgram
first_unsettled = record { names = (predefined ++ (codes "FIRSTUNSETTLED" ∷ codes "T" ∷ codes "E" ∷ codes "A" ∷ [])); text_io = false; name = (w 25); decls = (decl_then (DTask (record { name = (w 26); of_kind = false; entries = ((record { name = (w 27); family = None; formals = []; span = o }) ∷ []); priorities = [] }) o) (decl_then (DTask (record { name = (w 28); of_kind = false; entries = []; priorities = [] }) o) (decl_then (DTaskBody (w 26) no_decl (body (stmt_then (SLoop None None (stmt_then (SNull o) no_stmt) o) no_stmt) no_handler) o) (decl_then (DTaskBody (w 28) no_decl (body (stmt_then (SNull o) (stmt_then (SNull o) (stmt_then (SCall (record { task = (record { name = (w 26); index = None }); entry = (w 27); args = None }) o) no_stmt))) no_handler) o) no_decl)))); body = (body (stmt_then (SNull o) no_stmt) no_handler) }

first_unsettled_judged : judged (setup_of first_unsettled []) (numbers_in first_unsettled) 2 (event.R 2 1 (pos 0) ∷ []) ≡ IsUnsettled 1 1
unfolding digits
first_unsettled_judged = refl

-- A conditional and a timed call that are accepted: the statements behind run with the values copied; the statements behind an alternative run when its
-- rendezvous has ended; an exception in the body is raised before them.
--
-- procedure ACCEPTEDCONDITIONALCALLS is task S is entry E(X : in out INTEGER); end S; task A; task body S is begin loop begin select accept E(X : in out
-- INTEGER) do X := X * 2; if X > 5 then raise CONSTRAINT_ERROR; end if; end E; PUT("s"); or terminate; end select; exception when others => PUT("e");
-- end; end loop; end S; task body A is N : INTEGER := 1; begin select S.E(N); PUT(N); or delay 5.0; PUT("L"); end select; select S.E(N); PUT(N); else
-- PUT("X"); end select; select S.E(N); PUT("NO"); or delay 1.0; PUT("NO"); end select; exception when others => PUT("r"); PUT(N); end A; begin null; end
-- ACCEPTEDCONDITIONALCALLS;
abbrev accepted_conditional_calls : PProgram
accepted_conditional_calls = record { names = (predefined ++ (codes "ACCEPTEDCONDITIONALCALLS" ∷ codes "S" ∷ codes "E" ∷ codes "X" ∷ codes "A" ∷ codes "N" ∷ [])); text_io = false; name = (w 25); decls = (decl_then (DTask (record { name = (w 26); of_kind = false; entries = ((record { name = (w 27); family = None; formals = ((record { names = ((w 28) ∷ []); mode = mode.Both; mark = (w 0) }) ∷ []); span = o }) ∷ []); priorities = [] }) o) (decl_then (DTask (record { name = (w 29); of_kind = false; entries = []; priorities = [] }) o) (decl_then (DTaskBody (w 26) no_decl (body (stmt_then (SLoop None None (stmt_then (SBlock (body (stmt_then (SWait (alt_then (alternative None (AAccept (accepting (record { entry = (w 27); index = None; formals = ((record { names = ((w 28) ∷ []); mode = mode.Both; mark = (w 0) }) ∷ []); span = o }) (present (stmt_then (SAssign (record { name = (w 28); index = None }) (EBinary binary.Times (n 28) (EInteger 2 o) o) o) (stmt_then (SIf (arm_then (arm (EBinary binary.Greater (n 28) (EInteger 5 o) o) (stmt_then (SRaise (Some (w 6)) o) no_stmt)) no_arm) absent o) no_stmt)))) (stmt_then (SPut ((PWords (codes "s") o) ∷ []) o) no_stmt)) o) (alt_then (alternative None ATerminate o) no_alt)) absent o) no_stmt) (handler_then (handler [] (stmt_then (SPut ((PWords (codes "e") o) ∷ []) o) no_stmt) o) no_handler)) o) no_stmt) o) no_stmt) no_handler) o) (decl_then (DTaskBody (w 29) (decl_then (DObject ((w 30) ∷ []) false (OPlain (record { mark = (w 0); bounds = None })) (Some (IOne (EInteger 1 o))) o) no_decl) (body (stmt_then (STimed (record { task = (record { name = (w 26); index = None }); entry = (w 27); args = (Some (record { first = ((n 30) ∷ []); second = None })) }) (stmt_then (SPut ((PValue (n 30)) ∷ []) o) no_stmt) 5000 (stmt_then (SPut ((PWords (codes "L") o) ∷ []) o) no_stmt) o) (stmt_then (SConditional (record { task = (record { name = (w 26); index = None }); entry = (w 27); args = (Some (record { first = ((n 30) ∷ []); second = None })) }) (stmt_then (SPut ((PValue (n 30)) ∷ []) o) no_stmt) (stmt_then (SPut ((PWords (codes "X") o) ∷ []) o) no_stmt) o) (stmt_then (STimed (record { task = (record { name = (w 26); index = None }); entry = (w 27); args = (Some (record { first = ((n 30) ∷ []); second = None })) }) (stmt_then (SPut ((PWords (codes "NO") o) ∷ []) o) no_stmt) 1000 (stmt_then (SPut ((PWords (codes "NO") o) ∷ []) o) no_stmt) o) no_stmt))) (handler_then (handler [] (stmt_then (SPut ((PWords (codes "r") o) ∷ []) o) (stmt_then (SPut ((PValue (n 30)) ∷ []) o) no_stmt)) o) no_handler)) o) no_decl)))); body = (body (stmt_then (SNull o) no_stmt) no_handler) }

accepted_conditional_calls_run : outcome accepted_conditional_calls [] (0 ∷ 1 ∷ 0 ∷ 0 ∷ 0 ∷ 0 ∷ 0 ∷ 0 ∷ 0 ∷ 0 ∷ 0 ∷ 0 ∷ []) 200 ≡ gives (event.R 2 1 (pos 0) ∷ event.E 1 ∷ event.R 2 1 (pos 0) ∷ event.E 1 ∷ event.R 2 1 (pos 0) ∷ event.E 1 ∷ event.X 2 ∷ event.Z ∷ []) 37 Ended ([] ∷ codes "sse" ∷ codes "24r4" ∷ [])
unfolding digits
accepted_conditional_calls_run = refl
