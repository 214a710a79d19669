-- Task types and arrays of tasks: programs as plain trees, and what comes of them, by computation.
use Rattle.std.specs.Prelude.{◌≡◌, pos, true, false, Some, None, codes, [], ◌∷◌, ◌++◌, refl}
use Rattle.std.specs.Fmt.{digits}
use Rattle.ada_tree.specs.NameList.{predefined}
use Rattle.ada_tree.specs.declared.expressions.BinaryOp.TheVariants as binary
use Rattle.ada_tree.specs.declared.statements.ParMode.TheVariants as mode
use Rattle.ada_tree.specs.PlainExpr.{EInteger, EBinary, RGiven}
use Rattle.ada_tree.specs.PlainStmt.{PWords, PValue, LFor, SNull, SAbort, SCall, SAccept, SPut, SPutLine, SNewLine, SBlock, SLoop, no_stmt, stmt_then, absent, present, accepting, body, handler, no_handler, handler_then}
use Rattle.ada_tree.specs.PlainDecl.{OPlain, OArray, IOne, DObject, DTask, DTaskBody, no_decl, decl_then}
use Rattle.ada_tree.specs.PlainProgram.{PProgram}
use Rattle.event_machine.specs.declared.Event.TheVariants as event
use Rattle.event_machine.specs.declared.CallForm.TheVariants as form
use Rattle.event_machine.specs.declared.Choice.TheVariants as choice
use Rattle.event_machine.specs.Offers.{Calls, Waits}
use Rattle.progress_law.specs.examples.Picking.{Ended}
use Rattle.progress_law.proofs.examples.Trees.{o, w, n, outcome, gives, setup_of, numbers_in}
use Rattle.progress_law.proofs.examples.Judging.{judged, IsFeasible, IsInfeasible, seen, SeenAt, cause_offer}

-- An array of three tasks of one type, called backwards, and once outside its range.
--
-- procedure ROW is task type W is entry E(X : in INTEGER); end W; A : array (1 .. 3) of W; task K; task body W is begin accept E(X : in INTEGER) do
-- PUT(X); NEW_LINE; end E; end W; task body K is N : INTEGER := 4; begin for I in reverse 1 .. 3 loop A(I).E(10 * I); end loop; begin A(N).E(0);
-- exception when CONSTRAINT_ERROR => PUT_LINE("RANGE"); end; end K; begin null; end ROW;
abbrev three_members : PProgram
three_members = record { names = (predefined ++ (codes "ROW" ∷ codes "W" ∷ codes "E" ∷ codes "X" ∷ codes "A" ∷ codes "K" ∷ codes "N" ∷ codes "I" ∷ [])); text_io = false; name = (w 25); decls = (decl_then (DTask (record { name = (w 26); of_kind = true; entries = ((record { name = (w 27); family = None; formals = ((record { names = ((w 28) ∷ []); mode = mode.Take; mark = (w 0) }) ∷ []); span = o }) ∷ []); priorities = [] }) o) (decl_then (DObject ((w 29) ∷ []) false (OArray (RGiven (record { first = (EInteger 1 o); last = (EInteger 3 o) })) (record { mark = (w 26); bounds = None })) None o) (decl_then (DTask (record { name = (w 30); of_kind = false; entries = []; priorities = [] }) o) (decl_then (DTaskBody (w 26) no_decl (body (stmt_then (SAccept (accepting (record { entry = (w 27); index = None; formals = ((record { names = ((w 28) ∷ []); mode = mode.Take; mark = (w 0) }) ∷ []); span = o }) (present (stmt_then (SPut ((PValue (n 28)) ∷ []) o) (stmt_then (SNewLine o) no_stmt)))) o) no_stmt) no_handler) o) (decl_then (DTaskBody (w 30) (decl_then (DObject ((w 31) ∷ []) false (OPlain (record { mark = (w 0); bounds = None })) (Some (IOne (EInteger 4 o))) o) no_decl) (body (stmt_then (SLoop None (Some (LFor (w 32) true (RGiven (record { first = (EInteger 1 o); last = (EInteger 3 o) })))) (stmt_then (SCall (record { task = (record { name = (w 29); index = (Some (n 32)) }); entry = (w 27); args = (Some (record { first = ((EBinary binary.Times (EInteger 10 o) (n 32) o) ∷ []); second = None })) }) o) no_stmt) o) (stmt_then (SBlock (body (stmt_then (SCall (record { task = (record { name = (w 29); index = (Some (n 31)) }); entry = (w 27); args = (Some (record { first = ((EInteger 0 o) ∷ []); second = None })) }) o) no_stmt) (handler_then (handler ((w 6) ∷ []) (stmt_then (SPutLine ((PWords (codes "RANGE") o) ∷ []) o) no_stmt) o) no_handler)) o) no_stmt)) no_handler) o) no_decl))))); body = (body (stmt_then (SNull o) no_stmt) no_handler) }

-- The members complete last: from the end of the first rendezvous on the choices let the calling task go on.
three_members_run : outcome three_members [] (0 ∷ 0 ∷ 0 ∷ 0 ∷ 0 ∷ 0 ∷ 0 ∷ 0 ∷ 0 ∷ 0 ∷ 1 ∷ 1 ∷ 1 ∷ 0 ∷ 0 ∷ 0 ∷ 2 ∷ 2 ∷ 2 ∷ []) 200 ≡ gives (event.R 4 3 (pos 0) ∷ event.E 3 ∷ event.R 4 2 (pos 0) ∷ event.E 2 ∷ event.R 4 1 (pos 0) ∷ event.E 1 ∷ event.X 1 ∷ event.X 2 ∷ event.X 3 ∷ event.X 4 ∷ event.Z ∷ []) 31 Ended ([] ∷ codes "10\n" ∷ codes "20\n" ∷ codes "30\n" ∷ codes "RANGE\n" ∷ [])
unfolding digits
three_members_run = refl

three_members_feasible : judged (setup_of three_members []) (numbers_in three_members) 20 (event.R 4 3 (pos 0) ∷ event.E 3 ∷ event.R 4 2 (pos 0) ∷ event.E 2 ∷ event.R 4 1 (pos 0) ∷ event.E 1 ∷ event.X 1 ∷ event.X 2 ∷ event.X 3 ∷ event.X 4 ∷ event.Z ∷ []) ≡ IsFeasible 11
unfolding digits
three_members_feasible = refl

-- The loop begins with the last member.
last_member_first : judged (setup_of three_members []) (numbers_in three_members) 20 (event.R 4 1 (pos 0) ∷ []) ≡ IsInfeasible 1 cause_offer 4 (seen 4 (SeenAt (Calls form.Plain 3 (pos 0))) ∷ seen 1 (SeenAt (Waits (choice.Accept 1 (pos 0) ∷ []))) ∷ [])
unfolding digits
last_member_first = refl

-- Abort A(I), A(J): the second index is evaluated when its turn has come and raises as a local step; the first abort stays.
--
-- procedure NAMESONEBYONE is task type W is entry E; end W; A : array (1 .. 2) of W; task K; task body W is begin accept E; end W; task body K is I :
-- INTEGER := 3; begin abort A(2), A(I), A(1); PUT("NO"); exception when CONSTRAINT_ERROR => PUT("C"); A(1).E; A(I - 1).E; end K; begin null; end
-- NAMESONEBYONE;
abbrev names_one_by_one : PProgram
names_one_by_one = record { names = (predefined ++ (codes "NAMESONEBYONE" ∷ codes "W" ∷ codes "E" ∷ codes "A" ∷ codes "K" ∷ codes "I" ∷ [])); text_io = false; name = (w 25); decls = (decl_then (DTask (record { name = (w 26); of_kind = true; entries = ((record { name = (w 27); family = None; formals = []; span = o }) ∷ []); priorities = [] }) o) (decl_then (DObject ((w 28) ∷ []) false (OArray (RGiven (record { first = (EInteger 1 o); last = (EInteger 2 o) })) (record { mark = (w 26); bounds = None })) None o) (decl_then (DTask (record { name = (w 29); of_kind = false; entries = []; priorities = [] }) o) (decl_then (DTaskBody (w 26) no_decl (body (stmt_then (SAccept (accepting (record { entry = (w 27); index = None; formals = []; span = o }) absent) o) no_stmt) no_handler) o) (decl_then (DTaskBody (w 29) (decl_then (DObject ((w 30) ∷ []) false (OPlain (record { mark = (w 0); bounds = None })) (Some (IOne (EInteger 3 o))) o) no_decl) (body (stmt_then (SAbort ((record { name = (w 28); index = (Some (EInteger 2 o)) }) ∷ (record { name = (w 28); index = (Some (n 30)) }) ∷ (record { name = (w 28); index = (Some (EInteger 1 o)) }) ∷ []) o) (stmt_then (SPut ((PWords (codes "NO") o) ∷ []) o) no_stmt)) (handler_then (handler ((w 6) ∷ []) (stmt_then (SPut ((PWords (codes "C") o) ∷ []) o) (stmt_then (SCall (record { task = (record { name = (w 28); index = (Some (EInteger 1 o)) }); entry = (w 27); args = None }) o) (stmt_then (SCall (record { task = (record { name = (w 28); index = (Some (EBinary binary.Minus (n 30) (EInteger 1 o) o)) }); entry = (w 27); args = None }) o) no_stmt))) o) no_handler)) o) no_decl))))); body = (body (stmt_then (SNull o) no_stmt) no_handler) }

names_one_by_one_run : outcome names_one_by_one [] [] 100 ≡ gives (event.B 3 2 ∷ event.R 3 1 (pos 0) ∷ event.E 1 ∷ event.X 1 ∷ event.F 3 2 (pos 0) ∷ event.X 3 ∷ event.Z ∷ []) 13 Ended ([] ∷ [] ∷ [] ∷ codes "C" ∷ [])
unfolding digits
names_one_by_one_run = refl
