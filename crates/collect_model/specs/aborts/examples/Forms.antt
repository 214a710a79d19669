-- A program with every statement that tells the recorder.
use Rattle.std.specs.Prelude.{[], ◌∷◌, ◌++◌, codes, true, false, Some, None}
use Rattle.ada_tree.specs.NameList.{predefined}
use Rattle.ada_tree.specs.declared.expressions.BinaryOp.TheVariants as binary
use Rattle.ada_tree.specs.declared.statements.ParMode.TheVariants as mode
use Rattle.ada_tree.specs.PlainExpr.{EInteger, EBinary, RGiven}
use Rattle.ada_tree.specs.PlainStmt.{PWords, SNull, SAssign, SExit, SAbort, SCall, SAccept, SWait, SConditional, STimed, SPut, SLoop, no_stmt, stmt_then, absent, present, accepting, alternative, AAccept, ADelay, ATerminate, no_alt, alt_then, body, handler, no_handler, handler_then}
use Rattle.ada_tree.specs.PlainDecl.{OPlain, OArray, IOne, DObject, DTask, DTaskBody, no_decl, decl_then}
use Rattle.ada_tree.specs.PlainProgram.{PProgram}
use Rattle.collect_model.specs.aborts.examples.Trees.{o, w, n}

-- Every form of call, wait and accept, in members of an array that are chosen as the program runs.
--
-- procedure FORMS is
--    task type W is
--       entry E(1 .. 3)(X : in out INTEGER);
--       entry G;
--    end W;
--    A : array (1 .. 2) of W;
--    task K;
--    task body W is
--       I : INTEGER := 2;
--    begin
--       select
--          when I = 2 =>
--             accept E(I)(X : in out INTEGER) do
--                X := X + 1;
--                accept G;
--             end E;
--       or
--          accept G;
--          PUT("G");
--       or
--          delay 1.0;
--       or
--          delay 2.0;
--          PUT("D");
--       end select;
--       loop
--          select
--             accept E(3)(X : in out INTEGER);
--             exit;
--          or
--             accept G do
--                PUT("G");
--             end G;
--          else
--             PUT("E");
--          end select;
--          select
--             accept G;
--          or
--             terminate;
--          end select;
--       end loop;
--    exception
--       when TASKING_ERROR =>
--          accept G do
--             null;
--          end G;
--    end W;
--    task body K is
--       J : INTEGER := 1;
--    begin
--       A(J).G;
--       select
--          A(1).E(J)(J);
--          PUT("M");
--       else
--          PUT("C");
--       end select;
--       select
--          A(2).G;
--       or
--          delay 0.5;
--       end select;
--       select
--          A(J).G;
--          PUT("Y");
--       else
--          PUT("N");
--       end select;
--       abort A(J), A(2), K;
--    end K;
-- begin
--    A(2).G;
-- end FORMS;
abbrev pub forms : PProgram
forms = record { names = (predefined ++ (codes "FORMS" ∷ codes "W" ∷ codes "E" ∷ codes "X" ∷ codes "G" ∷ codes "A" ∷ codes "K" ∷ codes "I" ∷ codes "J" ∷ [])); text_io = false; name = (w 25); decls = (decl_then (DTask (record { name = (w 26); of_kind = true; entries = ((record { name = (w 27); family = (Some (RGiven (record { first = (EInteger 1 o); last = (EInteger 3 o) }))); formals = ((record { names = ((w 28) ∷ []); mode = mode.Both; mark = (w 0) }) ∷ []); span = o }) ∷ (record { name = (w 29); family = None; formals = []; span = o }) ∷ []); priorities = [] }) o) (decl_then (DObject ((w 30) ∷ []) false (OArray (RGiven (record { first = (EInteger 1 o); last = (EInteger 2 o) })) (record { mark = (w 26); bounds = None })) None o) (decl_then (DTask (record { name = (w 31); of_kind = false; entries = []; priorities = [] }) o) (decl_then (DTaskBody (w 26) (decl_then (DObject ((w 32) ∷ []) false (OPlain (record { mark = (w 0); bounds = None })) (Some (IOne (EInteger 2 o))) o) no_decl) (body (stmt_then (SWait (alt_then (alternative (Some (EBinary binary.Equal (n 32) (EInteger 2 o) o)) (AAccept (accepting (record { entry = (w 27); index = (Some (n 32)); formals = ((record { names = ((w 28) ∷ []); mode = mode.Both; mark = (w 0) }) ∷ []); span = o }) (present (stmt_then (SAssign (record { name = (w 28); index = None }) (EBinary binary.Plus (n 28) (EInteger 1 o) o) o) (stmt_then (SAccept (accepting (record { entry = (w 29); index = None; formals = []; span = o }) absent) o) no_stmt)))) no_stmt) o) (alt_then (alternative None (AAccept (accepting (record { entry = (w 29); index = None; formals = []; span = o }) absent) (stmt_then (SPut ((PWords (codes "G") o) ∷ []) o) no_stmt)) o) (alt_then (alternative None (ADelay 1000 no_stmt) o) (alt_then (alternative None (ADelay 2000 (stmt_then (SPut ((PWords (codes "D") o) ∷ []) o) no_stmt)) o) no_alt)))) absent o) (stmt_then (SLoop None None (stmt_then (SWait (alt_then (alternative None (AAccept (accepting (record { entry = (w 27); index = (Some (EInteger 3 o)); formals = ((record { names = ((w 28) ∷ []); mode = mode.Both; mark = (w 0) }) ∷ []); span = o }) absent) (stmt_then (SExit None None o) no_stmt)) o) (alt_then (alternative None (AAccept (accepting (record { entry = (w 29); index = None; formals = []; span = o }) (present (stmt_then (SPut ((PWords (codes "G") o) ∷ []) o) no_stmt))) no_stmt) o) no_alt)) (present (stmt_then (SPut ((PWords (codes "E") o) ∷ []) o) no_stmt)) o) (stmt_then (SWait (alt_then (alternative None (AAccept (accepting (record { entry = (w 29); index = None; formals = []; span = o }) absent) no_stmt) o) (alt_then (alternative None ATerminate o) no_alt)) absent o) no_stmt)) o) no_stmt)) (handler_then (handler ((w 9) ∷ []) (stmt_then (SAccept (accepting (record { entry = (w 29); index = None; formals = []; span = o }) (present (stmt_then (SNull o) no_stmt))) o) no_stmt) o) no_handler)) o) (decl_then (DTaskBody (w 31) (decl_then (DObject ((w 33) ∷ []) false (OPlain (record { mark = (w 0); bounds = None })) (Some (IOne (EInteger 1 o))) o) no_decl) (body (stmt_then (SCall (record { task = (record { name = (w 30); index = (Some (n 33)) }); entry = (w 29); args = None }) o) (stmt_then (SConditional (record { task = (record { name = (w 30); index = (Some (EInteger 1 o)) }); entry = (w 27); args = (Some (record { first = ((n 33) ∷ []); second = (Some ((n 33) ∷ [])) })) }) (stmt_then (SPut ((PWords (codes "M") o) ∷ []) o) no_stmt) (stmt_then (SPut ((PWords (codes "C") o) ∷ []) o) no_stmt) o) (stmt_then (STimed (record { task = (record { name = (w 30); index = (Some (EInteger 2 o)) }); entry = (w 29); args = None }) no_stmt 500 no_stmt o) (stmt_then (SConditional (record { task = (record { name = (w 30); index = (Some (n 33)) }); entry = (w 29); args = None }) (stmt_then (SPut ((PWords (codes "Y") o) ∷ []) o) no_stmt) (stmt_then (SPut ((PWords (codes "N") o) ∷ []) o) no_stmt) o) (stmt_then (SAbort ((record { name = (w 30); index = (Some (n 33)) }) ∷ (record { name = (w 30); index = (Some (EInteger 2 o)) }) ∷ (record { name = (w 31); index = None }) ∷ []) o) no_stmt))))) no_handler) o) no_decl))))); body = (body (stmt_then (SCall (record { task = (record { name = (w 30); index = (Some (EInteger 2 o)) }); entry = (w 29); args = None }) o) no_stmt) no_handler) }
