-- Task types and arrays of tasks: programs and their normal forms, as plain trees.
use Rattle.std.specs.Prelude.{◌≡◌, refl, codes, length, ◌++◌, ◌∷◌, [], true, false, None, Some}
use Rattle.std.specs.Fmt.{digits}
use Rattle.ada_tree.specs.NameList.{predefined}
use Rattle.ada_tree.specs.declared.expressions.UnaryOp.TheVariants as unary
use Rattle.ada_tree.specs.declared.expressions.BinaryOp.TheVariants as binary
use Rattle.ada_tree.specs.declared.statements.ParMode.TheVariants as mode
use Rattle.ada_tree.specs.PlainExpr.{EInteger, EUnary, EBinary, RGiven, RMarked}
use Rattle.ada_tree.specs.PlainStmt.{PWords, PValue, LFor, SNull, SAssign, SCall, SAccept, STimed, SPut, SPutLine, SNewLine, SIf, SCase, SBlock, SLoop, no_stmt, stmt_then, present, accepting, arm, no_arm, arm_then, case_arm, no_case_arm, case_arm_then, body, handler, no_handler, handler_then}
use Rattle.ada_tree.specs.PlainDecl.{OPlain, OArray, IOne, DObject, DIntIo, DTask, DTaskBody, no_decl, decl_then}
use Rattle.ada_tree.specs.PlainProgram.{PProgram}
use Rattle.ada_static_rules.specs.Refusals.{refusals}
use Rattle.syn_event.specs.CheckRefusals.{check_refusals}
use Rattle.syn_event.specs.declared.numbering.Mode.TheVariants as mode_of
use Rattle.progress_law.specs.rewritten.normal.Showing.{show_the_same}
use Rattle.progress_law.proofs.rewritten.normal.Trees.{o, w, n, numbers_in, normal_in, numbers_made, shown_by}

-- An array of three tasks, called backwards by a loop, and once outside its range.
--
-- procedure ROW is
--    package INT_IO is new INTEGER_IO(INTEGER); use INT_IO;
--    task type W is
--       entry E(X : in INTEGER);
--    end W;
--    A : array (1 .. 3) of W;
--    task K;
--    task body W is
--    begin
--       accept E(X : in INTEGER) do
--          PUT(X);
--          NEW_LINE;
--       end E;
--    end W;
--    task body K is
--       N : INTEGER := 4;
--    begin
--       for I in reverse 1 .. 3 loop
--          A(I).E(10 * I);
--       end loop;
--       begin
--          A(N).E(0);
--       exception
--          when CONSTRAINT_ERROR =>
--             PUT_LINE("RANGE");
--       end;
--    end K;
-- begin
--    null;
-- end ROW;
abbrev row : PProgram
row = record { names = (predefined ++ (codes "ROW" ∷ codes "INT_IO" ∷ codes "W" ∷ codes "E" ∷ codes "X" ∷ codes "A" ∷ codes "K" ∷ codes "N" ∷ codes "I" ∷ [])); text_io = false; name = (w 25); decls = (decl_then (DIntIo (w 26) o) (decl_then (DTask (record { name = (w 27); of_kind = true; entries = ((record { name = (w 28); family = None; formals = ((record { names = ((w 29) ∷ []); mode = mode.Take; mark = (w 0) }) ∷ []); span = o }) ∷ []); priorities = [] }) o) (decl_then (DObject ((w 30) ∷ []) false (OArray (RGiven (record { first = (EInteger 1 o); last = (EInteger 3 o) })) (record { mark = (w 27); bounds = None })) None o) (decl_then (DTask (record { name = (w 31); of_kind = false; entries = []; priorities = [] }) o) (decl_then (DTaskBody (w 27) no_decl (body (stmt_then (SAccept (accepting (record { entry = (w 28); index = None; formals = ((record { names = ((w 29) ∷ []); mode = mode.Take; mark = (w 0) }) ∷ []); span = o }) (present (stmt_then (SPut ((PValue (n 29)) ∷ []) o) (stmt_then (SNewLine o) no_stmt)))) o) no_stmt) no_handler) o) (decl_then (DTaskBody (w 31) (decl_then (DObject ((w 32) ∷ []) false (OPlain (record { mark = (w 0); bounds = None })) (Some (IOne (EInteger 4 o))) o) no_decl) (body (stmt_then (SLoop None (Some (LFor (w 33) true (RGiven (record { first = (EInteger 1 o); last = (EInteger 3 o) })))) (stmt_then (SCall (record { task = (record { name = (w 30); index = (Some (n 33)) }); entry = (w 28); args = (Some (record { first = ((EBinary binary.Times (EInteger 10 o) (n 33) o) ∷ []); second = None })) }) o) no_stmt) o) (stmt_then (SBlock (body (stmt_then (SCall (record { task = (record { name = (w 30); index = (Some (n 32)) }); entry = (w 28); args = (Some (record { first = ((EInteger 0 o) ∷ []); second = None })) }) o) no_stmt) (handler_then (handler ((w 6) ∷ []) (stmt_then (SPutLine ((PWords (codes "RANGE") o) ∷ []) o) no_stmt) o) no_handler)) o) no_stmt)) no_handler) o) no_decl)))))); body = (body (stmt_then (SNull o) no_stmt) no_handler) }

-- It is legal.
pub row_is_legal : refusals row ≡ []
unfolding digits
row_is_legal = refl

pub row_is_checked : check_refusals row mode_of.Original ≡ []
unfolding digits
row_is_checked = refl

-- Its normal form:
--
-- procedure ROW is
--    package INT_IO is new INTEGER_IO(INTEGER); use INT_IO;
--    task A_DED_1 is
--       entry E(X : in INTEGER);
--    end A_DED_1;
--    task A_DED_2 is
--       entry E(X : in INTEGER);
--    end A_DED_2;
--    task A_DED_3 is
--       entry E(X : in INTEGER);
--    end A_DED_3;
--    task K;
--    task body A_DED_1 is
--    begin
--       accept E(X : in INTEGER) do
--          PUT(X);
--          NEW_LINE;
--       end E;
--    end A_DED_1;
--    task body A_DED_2 is
--    begin
--       accept E(X : in INTEGER) do
--          PUT(X);
--          NEW_LINE;
--       end E;
--    end A_DED_2;
--    task body A_DED_3 is
--    begin
--       accept E(X : in INTEGER) do
--          PUT(X);
--          NEW_LINE;
--       end E;
--    end A_DED_3;
--    task body K is
--       N : INTEGER := 4;
--       DED_V1 : INTEGER range 1 .. 3;
--       DED_V2 : INTEGER;
--       DED_V3 : INTEGER range 1 .. 3;
--       DED_V4 : INTEGER;
--    begin
--       for I in reverse 1 .. 3 loop
--          DED_V1 := I;
--          DED_V2 := 10 * I;
--          case DED_V1 is
--             when 1 =>
--                A_DED_1.E(DED_V2);
--             when 2 =>
--                A_DED_2.E(DED_V2);
--             when 3 =>
--                A_DED_3.E(DED_V2);
--             when others =>
--                null;
--          end case;
--       end loop;
--       begin
--          DED_V3 := N;
--          DED_V4 := 0;
--          case DED_V3 is
--             when 1 =>
--                A_DED_1.E(DED_V4);
--             when 2 =>
--                A_DED_2.E(DED_V4);
--             when 3 =>
--                A_DED_3.E(DED_V4);
--             when others =>
--                null;
--          end case;
--       exception
--          when CONSTRAINT_ERROR =>
--             PUT_LINE("RANGE");
--       end;
--    end K;
-- begin
--    null;
-- end ROW;
abbrev row_normal : PProgram
row_normal = record { names = (predefined ++ (codes "ROW" ∷ codes "INT_IO" ∷ codes "W" ∷ codes "E" ∷ codes "X" ∷ codes "A" ∷ codes "K" ∷ codes "N" ∷ codes "I" ∷ codes "A_DED_1" ∷ codes "A_DED_2" ∷ codes "A_DED_3" ∷ codes "DED_V1" ∷ codes "DED_V2" ∷ codes "DED_V3" ∷ codes "DED_V4" ∷ [])); text_io = false; name = (w 25); decls = (decl_then (DIntIo (w 26) o) (decl_then (DTask (record { name = (w 34); of_kind = false; entries = ((record { name = (w 28); family = None; formals = ((record { names = ((w 29) ∷ []); mode = mode.Take; mark = (w 0) }) ∷ []); span = o }) ∷ []); priorities = [] }) o) (decl_then (DTask (record { name = (w 35); of_kind = false; entries = ((record { name = (w 28); family = None; formals = ((record { names = ((w 29) ∷ []); mode = mode.Take; mark = (w 0) }) ∷ []); span = o }) ∷ []); priorities = [] }) o) (decl_then (DTask (record { name = (w 36); of_kind = false; entries = ((record { name = (w 28); family = None; formals = ((record { names = ((w 29) ∷ []); mode = mode.Take; mark = (w 0) }) ∷ []); span = o }) ∷ []); priorities = [] }) o) (decl_then (DTask (record { name = (w 31); of_kind = false; entries = []; priorities = [] }) o) (decl_then (DTaskBody (w 34) no_decl (body (stmt_then (SAccept (accepting (record { entry = (w 28); index = None; formals = ((record { names = ((w 29) ∷ []); mode = mode.Take; mark = (w 0) }) ∷ []); span = o }) (present (stmt_then (SPut ((PValue (n 29)) ∷ []) o) (stmt_then (SNewLine o) no_stmt)))) o) no_stmt) no_handler) o) (decl_then (DTaskBody (w 35) no_decl (body (stmt_then (SAccept (accepting (record { entry = (w 28); index = None; formals = ((record { names = ((w 29) ∷ []); mode = mode.Take; mark = (w 0) }) ∷ []); span = o }) (present (stmt_then (SPut ((PValue (n 29)) ∷ []) o) (stmt_then (SNewLine o) no_stmt)))) o) no_stmt) no_handler) o) (decl_then (DTaskBody (w 36) no_decl (body (stmt_then (SAccept (accepting (record { entry = (w 28); index = None; formals = ((record { names = ((w 29) ∷ []); mode = mode.Take; mark = (w 0) }) ∷ []); span = o }) (present (stmt_then (SPut ((PValue (n 29)) ∷ []) o) (stmt_then (SNewLine o) no_stmt)))) o) no_stmt) no_handler) o) (decl_then (DTaskBody (w 31) (decl_then (DObject ((w 32) ∷ []) false (OPlain (record { mark = (w 0); bounds = None })) (Some (IOne (EInteger 4 o))) o) (decl_then (DObject ((w 37) ∷ []) false (OPlain (record { mark = (w 0); bounds = (Some (record { first = (EInteger 1 o); last = (EInteger 3 o) })) })) None o) (decl_then (DObject ((w 38) ∷ []) false (OPlain (record { mark = (w 0); bounds = None })) None o) (decl_then (DObject ((w 39) ∷ []) false (OPlain (record { mark = (w 0); bounds = (Some (record { first = (EInteger 1 o); last = (EInteger 3 o) })) })) None o) (decl_then (DObject ((w 40) ∷ []) false (OPlain (record { mark = (w 0); bounds = None })) None o) no_decl))))) (body (stmt_then (SLoop None (Some (LFor (w 33) true (RGiven (record { first = (EInteger 1 o); last = (EInteger 3 o) })))) (stmt_then (SAssign (record { name = (w 37); index = None }) (n 33) o) (stmt_then (SAssign (record { name = (w 38); index = None }) (EBinary binary.Times (EInteger 10 o) (n 33) o) o) (stmt_then (SCase (n 37) (case_arm_then (case_arm ((record { first = (EInteger 1 o); last = None }) ∷ []) (stmt_then (SCall (record { task = (record { name = (w 34); index = None }); entry = (w 28); args = (Some (record { first = ((n 38) ∷ []); second = None })) }) o) no_stmt)) (case_arm_then (case_arm ((record { first = (EInteger 2 o); last = None }) ∷ []) (stmt_then (SCall (record { task = (record { name = (w 35); index = None }); entry = (w 28); args = (Some (record { first = ((n 38) ∷ []); second = None })) }) o) no_stmt)) (case_arm_then (case_arm ((record { first = (EInteger 3 o); last = None }) ∷ []) (stmt_then (SCall (record { task = (record { name = (w 36); index = None }); entry = (w 28); args = (Some (record { first = ((n 38) ∷ []); second = None })) }) o) no_stmt)) no_case_arm))) (present (stmt_then (SNull o) no_stmt)) o) no_stmt))) o) (stmt_then (SBlock (body (stmt_then (SAssign (record { name = (w 39); index = None }) (n 32) o) (stmt_then (SAssign (record { name = (w 40); index = None }) (EInteger 0 o) o) (stmt_then (SCase (n 39) (case_arm_then (case_arm ((record { first = (EInteger 1 o); last = None }) ∷ []) (stmt_then (SCall (record { task = (record { name = (w 34); index = None }); entry = (w 28); args = (Some (record { first = ((n 40) ∷ []); second = None })) }) o) no_stmt)) (case_arm_then (case_arm ((record { first = (EInteger 2 o); last = None }) ∷ []) (stmt_then (SCall (record { task = (record { name = (w 35); index = None }); entry = (w 28); args = (Some (record { first = ((n 40) ∷ []); second = None })) }) o) no_stmt)) (case_arm_then (case_arm ((record { first = (EInteger 3 o); last = None }) ∷ []) (stmt_then (SCall (record { task = (record { name = (w 36); index = None }); entry = (w 28); args = (Some (record { first = ((n 40) ∷ []); second = None })) }) o) no_stmt)) no_case_arm))) (present (stmt_then (SNull o) no_stmt)) o) no_stmt))) (handler_then (handler ((w 6) ∷ []) (stmt_then (SPutLine ((PWords (codes "RANGE") o) ∷ []) o) no_stmt) o) no_handler)) o) no_stmt)) no_handler) o) no_decl))))))))); body = (body (stmt_then (SNull o) no_stmt) no_handler) }

row_is_normal : normal_in row ≡ row_normal
unfolding digits
row_is_normal = refl

-- These are its numbers, and it is legal.
row_numbers : numbers_made row ≡ numbers_in row_normal
unfolding digits
row_numbers = refl

row_normal_is_legal : refusals row_normal ≡ []
unfolding digits
row_normal_is_legal = refl

row_normal_is_checked : check_refusals row_normal mode_of.Any ≡ []
unfolding digits
row_normal_is_checked = refl

-- Both show the same, in 84 lists of at most 8 events.
row_shows : show_the_same (shown_by row [] 8) (shown_by row_normal [] 8) ≡ true
unfolding digits
row_shows = refl

row_many : length (shown_by row [] 8) ≡ 84
unfolding digits
row_many = refl

-- Two objects of a task type beside a single task, and a type without objects, which leaves nothing.
--
-- procedure OBJECTS is
--    package INT_IO is new INTEGER_IO(INTEGER); use INT_IO;
--    task type W is
--       pragma PRIORITY(3);
--       entry E(1 .. 2)(X : in out INTEGER);
--    end W;
--    task B;
--    U, V : W;
--    task type UNUSED;
--    N : INTEGER := 1;
--    task body W is
--       I : INTEGER := 1;
--    begin
--       accept E(I)(X : in out INTEGER) do
--          X := X + 1;
--       end E;
--    end W;
--    task body UNUSED is
--    begin
--       null;
--    end UNUSED;
--    task body B is
--       N : INTEGER := 5;
--    begin
--       V.E(1)(N);
--       PUT(N);
--    end B;
-- begin
--    U.E(1)(N);
--    PUT(N);
-- end OBJECTS;
abbrev objects : PProgram
objects = record { names = (predefined ++ (codes "OBJECTS" ∷ codes "INT_IO" ∷ codes "W" ∷ codes "PRIORITY" ∷ codes "E" ∷ codes "X" ∷ codes "B" ∷ codes "U" ∷ codes "V" ∷ codes "UNUSED" ∷ codes "N" ∷ codes "I" ∷ [])); text_io = false; name = (w 25); decls = (decl_then (DIntIo (w 26) o) (decl_then (DTask (record { name = (w 27); of_kind = true; entries = ((record { name = (w 29); family = (Some (RGiven (record { first = (EInteger 1 o); last = (EInteger 2 o) }))); formals = ((record { names = ((w 30) ∷ []); mode = mode.Both; mark = (w 0) }) ∷ []); span = o }) ∷ []); priorities = ((record { place = 0; value = (EInteger 3 o) }) ∷ []) }) o) (decl_then (DTask (record { name = (w 31); of_kind = false; entries = []; priorities = [] }) o) (decl_then (DObject ((w 32) ∷ (w 33) ∷ []) false (OPlain (record { mark = (w 27); bounds = None })) None o) (decl_then (DTask (record { name = (w 34); of_kind = true; entries = []; priorities = [] }) o) (decl_then (DObject ((w 35) ∷ []) false (OPlain (record { mark = (w 0); bounds = None })) (Some (IOne (EInteger 1 o))) o) (decl_then (DTaskBody (w 27) (decl_then (DObject ((w 36) ∷ []) false (OPlain (record { mark = (w 0); bounds = None })) (Some (IOne (EInteger 1 o))) o) no_decl) (body (stmt_then (SAccept (accepting (record { entry = (w 29); index = (Some (n 36)); formals = ((record { names = ((w 30) ∷ []); mode = mode.Both; mark = (w 0) }) ∷ []); span = o }) (present (stmt_then (SAssign (record { name = (w 30); index = None }) (EBinary binary.Plus (n 30) (EInteger 1 o) o) o) no_stmt))) o) no_stmt) no_handler) o) (decl_then (DTaskBody (w 34) no_decl (body (stmt_then (SNull o) no_stmt) no_handler) o) (decl_then (DTaskBody (w 31) (decl_then (DObject ((w 35) ∷ []) false (OPlain (record { mark = (w 0); bounds = None })) (Some (IOne (EInteger 5 o))) o) no_decl) (body (stmt_then (SCall (record { task = (record { name = (w 33); index = None }); entry = (w 29); args = (Some (record { first = ((EInteger 1 o) ∷ []); second = (Some ((n 35) ∷ [])) })) }) o) (stmt_then (SPut ((PValue (n 35)) ∷ []) o) no_stmt)) no_handler) o) no_decl))))))))); body = (body (stmt_then (SCall (record { task = (record { name = (w 32); index = None }); entry = (w 29); args = (Some (record { first = ((EInteger 1 o) ∷ []); second = (Some ((n 35) ∷ [])) })) }) o) (stmt_then (SPut ((PValue (n 35)) ∷ []) o) no_stmt)) no_handler) }

-- It is legal.
objects_is_legal : refusals objects ≡ []
unfolding digits
objects_is_legal = refl

objects_is_checked : check_refusals objects mode_of.Original ≡ []
unfolding digits
objects_is_checked = refl

-- Its normal form:
--
-- procedure OBJECTS is
--    package INT_IO is new INTEGER_IO(INTEGER); use INT_IO;
--    N : INTEGER := 1;
--    DED_V1 : INTEGER range 1 .. 2;
--    DED_V2 : INTEGER;
--    task B;
--    task U is
--       pragma PRIORITY(3);
--       entry E(1 .. 2)(X : in out INTEGER);
--    end U;
--    task V is
--       pragma PRIORITY(3);
--       entry E(1 .. 2)(X : in out INTEGER);
--    end V;
--    task body U is
--       I : INTEGER := 1;
--       DED_V1 : INTEGER range 1 .. 2;
--    begin
--       DED_V1 := I;
--       accept E(DED_V1)(X : in out INTEGER) do
--          X := X + 1;
--       end E;
--    end U;
--    task body V is
--       I : INTEGER := 1;
--       DED_V1 : INTEGER range 1 .. 2;
--    begin
--       DED_V1 := I;
--       accept E(DED_V1)(X : in out INTEGER) do
--          X := X + 1;
--       end E;
--    end V;
--    task body B is
--       N : INTEGER := 5;
--       DED_V1 : INTEGER range 1 .. 2;
--       DED_V2 : INTEGER;
--    begin
--       DED_V1 := 1;
--       DED_V2 := N;
--       V.E(DED_V1)(DED_V2);
--       N := DED_V2;
--       PUT(N);
--    end B;
-- begin
--    DED_V1 := 1;
--    DED_V2 := N;
--    U.E(DED_V1)(DED_V2);
--    N := DED_V2;
--    PUT(N);
-- end OBJECTS;
abbrev objects_normal : PProgram
objects_normal = record { names = (predefined ++ (codes "OBJECTS" ∷ codes "INT_IO" ∷ codes "W" ∷ codes "PRIORITY" ∷ codes "E" ∷ codes "X" ∷ codes "B" ∷ codes "U" ∷ codes "V" ∷ codes "UNUSED" ∷ codes "N" ∷ codes "I" ∷ codes "DED_V1" ∷ codes "DED_V2" ∷ [])); text_io = false; name = (w 25); decls = (decl_then (DIntIo (w 26) o) (decl_then (DObject ((w 35) ∷ []) false (OPlain (record { mark = (w 0); bounds = None })) (Some (IOne (EInteger 1 o))) o) (decl_then (DObject ((w 37) ∷ []) false (OPlain (record { mark = (w 0); bounds = (Some (record { first = (EInteger 1 o); last = (EInteger 2 o) })) })) None o) (decl_then (DObject ((w 38) ∷ []) false (OPlain (record { mark = (w 0); bounds = None })) None o) (decl_then (DTask (record { name = (w 31); of_kind = false; entries = []; priorities = [] }) o) (decl_then (DTask (record { name = (w 32); of_kind = false; entries = ((record { name = (w 29); family = (Some (RGiven (record { first = (EInteger 1 o); last = (EInteger 2 o) }))); formals = ((record { names = ((w 30) ∷ []); mode = mode.Both; mark = (w 0) }) ∷ []); span = o }) ∷ []); priorities = ((record { place = 0; value = (EInteger 3 o) }) ∷ []) }) o) (decl_then (DTask (record { name = (w 33); of_kind = false; entries = ((record { name = (w 29); family = (Some (RGiven (record { first = (EInteger 1 o); last = (EInteger 2 o) }))); formals = ((record { names = ((w 30) ∷ []); mode = mode.Both; mark = (w 0) }) ∷ []); span = o }) ∷ []); priorities = ((record { place = 0; value = (EInteger 3 o) }) ∷ []) }) o) (decl_then (DTaskBody (w 32) (decl_then (DObject ((w 36) ∷ []) false (OPlain (record { mark = (w 0); bounds = None })) (Some (IOne (EInteger 1 o))) o) (decl_then (DObject ((w 37) ∷ []) false (OPlain (record { mark = (w 0); bounds = (Some (record { first = (EInteger 1 o); last = (EInteger 2 o) })) })) None o) no_decl)) (body (stmt_then (SAssign (record { name = (w 37); index = None }) (n 36) o) (stmt_then (SAccept (accepting (record { entry = (w 29); index = (Some (n 37)); formals = ((record { names = ((w 30) ∷ []); mode = mode.Both; mark = (w 0) }) ∷ []); span = o }) (present (stmt_then (SAssign (record { name = (w 30); index = None }) (EBinary binary.Plus (n 30) (EInteger 1 o) o) o) no_stmt))) o) no_stmt)) no_handler) o) (decl_then (DTaskBody (w 33) (decl_then (DObject ((w 36) ∷ []) false (OPlain (record { mark = (w 0); bounds = None })) (Some (IOne (EInteger 1 o))) o) (decl_then (DObject ((w 37) ∷ []) false (OPlain (record { mark = (w 0); bounds = (Some (record { first = (EInteger 1 o); last = (EInteger 2 o) })) })) None o) no_decl)) (body (stmt_then (SAssign (record { name = (w 37); index = None }) (n 36) o) (stmt_then (SAccept (accepting (record { entry = (w 29); index = (Some (n 37)); formals = ((record { names = ((w 30) ∷ []); mode = mode.Both; mark = (w 0) }) ∷ []); span = o }) (present (stmt_then (SAssign (record { name = (w 30); index = None }) (EBinary binary.Plus (n 30) (EInteger 1 o) o) o) no_stmt))) o) no_stmt)) no_handler) o) (decl_then (DTaskBody (w 31) (decl_then (DObject ((w 35) ∷ []) false (OPlain (record { mark = (w 0); bounds = None })) (Some (IOne (EInteger 5 o))) o) (decl_then (DObject ((w 37) ∷ []) false (OPlain (record { mark = (w 0); bounds = (Some (record { first = (EInteger 1 o); last = (EInteger 2 o) })) })) None o) (decl_then (DObject ((w 38) ∷ []) false (OPlain (record { mark = (w 0); bounds = None })) None o) no_decl))) (body (stmt_then (SAssign (record { name = (w 37); index = None }) (EInteger 1 o) o) (stmt_then (SAssign (record { name = (w 38); index = None }) (n 35) o) (stmt_then (SCall (record { task = (record { name = (w 33); index = None }); entry = (w 29); args = (Some (record { first = ((n 37) ∷ []); second = (Some ((n 38) ∷ [])) })) }) o) (stmt_then (SAssign (record { name = (w 35); index = None }) (n 38) o) (stmt_then (SPut ((PValue (n 35)) ∷ []) o) no_stmt))))) no_handler) o) no_decl)))))))))); body = (body (stmt_then (SAssign (record { name = (w 37); index = None }) (EInteger 1 o) o) (stmt_then (SAssign (record { name = (w 38); index = None }) (n 35) o) (stmt_then (SCall (record { task = (record { name = (w 32); index = None }); entry = (w 29); args = (Some (record { first = ((n 37) ∷ []); second = (Some ((n 38) ∷ [])) })) }) o) (stmt_then (SAssign (record { name = (w 35); index = None }) (n 38) o) (stmt_then (SPut ((PValue (n 35)) ∷ []) o) no_stmt))))) no_handler) }

objects_is_normal : normal_in objects ≡ objects_normal
unfolding digits
objects_is_normal = refl

-- These are its numbers, and it is legal.
objects_numbers : numbers_made objects ≡ numbers_in objects_normal
unfolding digits
objects_numbers = refl

objects_normal_is_legal : refusals objects_normal ≡ []
unfolding digits
objects_normal_is_legal = refl

objects_normal_is_checked : check_refusals objects_normal mode_of.Any ≡ []
unfolding digits
objects_normal_is_checked = refl

-- Both show the same, in 286 lists of at most 8 events.
objects_shows : show_the_same (shown_by objects [] 8) (shown_by objects_normal [] 8) ≡ true
unfolding digits
objects_shows = refl

objects_many : length (shown_by objects [] 8) ≡ 286
unfolding digits
objects_many = refl

-- Arrays of tasks over negative numbers and over BOOLEAN, and a timed call of a member.
--
-- procedure SIGNS is
--    package INT_IO is new INTEGER_IO(INTEGER); use INT_IO;
--    task type W is
--       pragma PRIORITY(3);
--       entry E(1 .. 2)(X : in out INTEGER);
--    end W;
--    Q : array (-1 .. 0) of W;
--    L : array (BOOLEAN) of W;
--    task body W is
--       I : INTEGER := 1;
--    begin
--       accept E(I)(X : in out INTEGER) do
--          X := X + 1;
--       end E;
--    end W;
--    task B;
--    task body B is
--       N : INTEGER := 7;
--    begin
--       select
--          Q(N - 8).E(1)(N);
--       or
--          delay 0.5;
--       end select;
--       L(N > 7).E(1)(N);
--       PUT(N);
--    end B;
-- begin
--    null;
-- end SIGNS;
abbrev signs : PProgram
signs = record { names = (predefined ++ (codes "SIGNS" ∷ codes "INT_IO" ∷ codes "W" ∷ codes "PRIORITY" ∷ codes "E" ∷ codes "X" ∷ codes "Q" ∷ codes "L" ∷ codes "I" ∷ codes "B" ∷ codes "N" ∷ [])); text_io = false; name = (w 25); decls = (decl_then (DIntIo (w 26) o) (decl_then (DTask (record { name = (w 27); of_kind = true; entries = ((record { name = (w 29); family = (Some (RGiven (record { first = (EInteger 1 o); last = (EInteger 2 o) }))); formals = ((record { names = ((w 30) ∷ []); mode = mode.Both; mark = (w 0) }) ∷ []); span = o }) ∷ []); priorities = ((record { place = 0; value = (EInteger 3 o) }) ∷ []) }) o) (decl_then (DObject ((w 31) ∷ []) false (OArray (RGiven (record { first = (EUnary unary.Minus (EInteger 1 o) o); last = (EInteger 0 o) })) (record { mark = (w 27); bounds = None })) None o) (decl_then (DObject ((w 32) ∷ []) false (OArray (RMarked (record { mark = (w 3); bounds = None })) (record { mark = (w 27); bounds = None })) None o) (decl_then (DTaskBody (w 27) (decl_then (DObject ((w 33) ∷ []) false (OPlain (record { mark = (w 0); bounds = None })) (Some (IOne (EInteger 1 o))) o) no_decl) (body (stmt_then (SAccept (accepting (record { entry = (w 29); index = (Some (n 33)); formals = ((record { names = ((w 30) ∷ []); mode = mode.Both; mark = (w 0) }) ∷ []); span = o }) (present (stmt_then (SAssign (record { name = (w 30); index = None }) (EBinary binary.Plus (n 30) (EInteger 1 o) o) o) no_stmt))) o) no_stmt) no_handler) o) (decl_then (DTask (record { name = (w 34); of_kind = false; entries = []; priorities = [] }) o) (decl_then (DTaskBody (w 34) (decl_then (DObject ((w 35) ∷ []) false (OPlain (record { mark = (w 0); bounds = None })) (Some (IOne (EInteger 7 o))) o) no_decl) (body (stmt_then (STimed (record { task = (record { name = (w 31); index = (Some (EBinary binary.Minus (n 35) (EInteger 8 o) o)) }); entry = (w 29); args = (Some (record { first = ((EInteger 1 o) ∷ []); second = (Some ((n 35) ∷ [])) })) }) no_stmt 500 no_stmt o) (stmt_then (SCall (record { task = (record { name = (w 32); index = (Some (EBinary binary.Greater (n 35) (EInteger 7 o) o)) }); entry = (w 29); args = (Some (record { first = ((EInteger 1 o) ∷ []); second = (Some ((n 35) ∷ [])) })) }) o) (stmt_then (SPut ((PValue (n 35)) ∷ []) o) no_stmt))) no_handler) o) no_decl))))))); body = (body (stmt_then (SNull o) no_stmt) no_handler) }

-- It is legal.
signs_is_legal : refusals signs ≡ []
unfolding digits
signs_is_legal = refl

signs_is_checked : check_refusals signs mode_of.Original ≡ []
unfolding digits
signs_is_checked = refl

-- Its normal form:
--
-- procedure SIGNS is
--    package INT_IO is new INTEGER_IO(INTEGER); use INT_IO;
--    task Q_DED_M1 is
--       pragma PRIORITY(3);
--       entry E(1 .. 2)(X : in out INTEGER);
--    end Q_DED_M1;
--    task Q_DED_0 is
--       pragma PRIORITY(3);
--       entry E(1 .. 2)(X : in out INTEGER);
--    end Q_DED_0;
--    task L_DED_0 is
--       pragma PRIORITY(3);
--       entry E(1 .. 2)(X : in out INTEGER);
--    end L_DED_0;
--    task L_DED_1 is
--       pragma PRIORITY(3);
--       entry E(1 .. 2)(X : in out INTEGER);
--    end L_DED_1;
--    task B;
--    task body Q_DED_M1 is
--       I : INTEGER := 1;
--       DED_V1 : INTEGER range 1 .. 2;
--    begin
--       DED_V1 := I;
--       accept E(DED_V1)(X : in out INTEGER) do
--          X := X + 1;
--       end E;
--    end Q_DED_M1;
--    task body Q_DED_0 is
--       I : INTEGER := 1;
--       DED_V1 : INTEGER range 1 .. 2;
--    begin
--       DED_V1 := I;
--       accept E(DED_V1)(X : in out INTEGER) do
--          X := X + 1;
--       end E;
--    end Q_DED_0;
--    task body L_DED_0 is
--       I : INTEGER := 1;
--       DED_V1 : INTEGER range 1 .. 2;
--    begin
--       DED_V1 := I;
--       accept E(DED_V1)(X : in out INTEGER) do
--          X := X + 1;
--       end E;
--    end L_DED_0;
--    task body L_DED_1 is
--       I : INTEGER := 1;
--       DED_V1 : INTEGER range 1 .. 2;
--    begin
--       DED_V1 := I;
--       accept E(DED_V1)(X : in out INTEGER) do
--          X := X + 1;
--       end E;
--    end L_DED_1;
--    task body B is
--       N : INTEGER := 7;
--       DED_V1 : INTEGER range -1 .. 0;
--       DED_V2 : INTEGER range 1 .. 2;
--       DED_V3 : INTEGER;
--       DED_V4 : INTEGER;
--       DED_V5 : BOOLEAN;
--       DED_V6 : INTEGER range 1 .. 2;
--       DED_V7 : INTEGER;
--    begin
--       DED_V1 := N - 8;
--       DED_V2 := 1;
--       DED_V3 := N;
--       case DED_V1 is
--          when -1 =>
--             select
--                Q_DED_M1.E(DED_V2)(DED_V3);
--                DED_V4 := 1;
--             or
--                delay 0.5;
--                DED_V4 := 2;
--             end select;
--          when 0 =>
--             select
--                Q_DED_0.E(DED_V2)(DED_V3);
--                DED_V4 := 1;
--             or
--                delay 0.5;
--                DED_V4 := 2;
--             end select;
--          when others =>
--             null;
--       end case;
--       if DED_V4 = 1 then
--          N := DED_V3;
--       else
--          null;
--       end if;
--       DED_V5 := N > 7;
--       DED_V6 := 1;
--       DED_V7 := N;
--       case DED_V5 is
--          when FALSE =>
--             L_DED_0.E(DED_V6)(DED_V7);
--          when TRUE =>
--             L_DED_1.E(DED_V6)(DED_V7);
--          when others =>
--             null;
--       end case;
--       N := DED_V7;
--       PUT(N);
--    end B;
-- begin
--    null;
-- end SIGNS;
abbrev signs_normal : PProgram
signs_normal = record { names = (predefined ++ (codes "SIGNS" ∷ codes "INT_IO" ∷ codes "W" ∷ codes "PRIORITY" ∷ codes "E" ∷ codes "X" ∷ codes "Q" ∷ codes "L" ∷ codes "I" ∷ codes "B" ∷ codes "N" ∷ codes "Q_DED_M1" ∷ codes "Q_DED_0" ∷ codes "L_DED_0" ∷ codes "L_DED_1" ∷ codes "DED_V1" ∷ codes "DED_V2" ∷ codes "DED_V3" ∷ codes "DED_V4" ∷ codes "DED_V5" ∷ codes "DED_V6" ∷ codes "DED_V7" ∷ [])); text_io = false; name = (w 25); decls = (decl_then (DIntIo (w 26) o) (decl_then (DTask (record { name = (w 36); of_kind = false; entries = ((record { name = (w 29); family = (Some (RGiven (record { first = (EInteger 1 o); last = (EInteger 2 o) }))); formals = ((record { names = ((w 30) ∷ []); mode = mode.Both; mark = (w 0) }) ∷ []); span = o }) ∷ []); priorities = ((record { place = 0; value = (EInteger 3 o) }) ∷ []) }) o) (decl_then (DTask (record { name = (w 37); of_kind = false; entries = ((record { name = (w 29); family = (Some (RGiven (record { first = (EInteger 1 o); last = (EInteger 2 o) }))); formals = ((record { names = ((w 30) ∷ []); mode = mode.Both; mark = (w 0) }) ∷ []); span = o }) ∷ []); priorities = ((record { place = 0; value = (EInteger 3 o) }) ∷ []) }) o) (decl_then (DTask (record { name = (w 38); of_kind = false; entries = ((record { name = (w 29); family = (Some (RGiven (record { first = (EInteger 1 o); last = (EInteger 2 o) }))); formals = ((record { names = ((w 30) ∷ []); mode = mode.Both; mark = (w 0) }) ∷ []); span = o }) ∷ []); priorities = ((record { place = 0; value = (EInteger 3 o) }) ∷ []) }) o) (decl_then (DTask (record { name = (w 39); of_kind = false; entries = ((record { name = (w 29); family = (Some (RGiven (record { first = (EInteger 1 o); last = (EInteger 2 o) }))); formals = ((record { names = ((w 30) ∷ []); mode = mode.Both; mark = (w 0) }) ∷ []); span = o }) ∷ []); priorities = ((record { place = 0; value = (EInteger 3 o) }) ∷ []) }) o) (decl_then (DTask (record { name = (w 34); of_kind = false; entries = []; priorities = [] }) o) (decl_then (DTaskBody (w 36) (decl_then (DObject ((w 33) ∷ []) false (OPlain (record { mark = (w 0); bounds = None })) (Some (IOne (EInteger 1 o))) o) (decl_then (DObject ((w 40) ∷ []) false (OPlain (record { mark = (w 0); bounds = (Some (record { first = (EInteger 1 o); last = (EInteger 2 o) })) })) None o) no_decl)) (body (stmt_then (SAssign (record { name = (w 40); index = None }) (n 33) o) (stmt_then (SAccept (accepting (record { entry = (w 29); index = (Some (n 40)); formals = ((record { names = ((w 30) ∷ []); mode = mode.Both; mark = (w 0) }) ∷ []); span = o }) (present (stmt_then (SAssign (record { name = (w 30); index = None }) (EBinary binary.Plus (n 30) (EInteger 1 o) o) o) no_stmt))) o) no_stmt)) no_handler) o) (decl_then (DTaskBody (w 37) (decl_then (DObject ((w 33) ∷ []) false (OPlain (record { mark = (w 0); bounds = None })) (Some (IOne (EInteger 1 o))) o) (decl_then (DObject ((w 40) ∷ []) false (OPlain (record { mark = (w 0); bounds = (Some (record { first = (EInteger 1 o); last = (EInteger 2 o) })) })) None o) no_decl)) (body (stmt_then (SAssign (record { name = (w 40); index = None }) (n 33) o) (stmt_then (SAccept (accepting (record { entry = (w 29); index = (Some (n 40)); formals = ((record { names = ((w 30) ∷ []); mode = mode.Both; mark = (w 0) }) ∷ []); span = o }) (present (stmt_then (SAssign (record { name = (w 30); index = None }) (EBinary binary.Plus (n 30) (EInteger 1 o) o) o) no_stmt))) o) no_stmt)) no_handler) o) (decl_then (DTaskBody (w 38) (decl_then (DObject ((w 33) ∷ []) false (OPlain (record { mark = (w 0); bounds = None })) (Some (IOne (EInteger 1 o))) o) (decl_then (DObject ((w 40) ∷ []) false (OPlain (record { mark = (w 0); bounds = (Some (record { first = (EInteger 1 o); last = (EInteger 2 o) })) })) None o) no_decl)) (body (stmt_then (SAssign (record { name = (w 40); index = None }) (n 33) o) (stmt_then (SAccept (accepting (record { entry = (w 29); index = (Some (n 40)); formals = ((record { names = ((w 30) ∷ []); mode = mode.Both; mark = (w 0) }) ∷ []); span = o }) (present (stmt_then (SAssign (record { name = (w 30); index = None }) (EBinary binary.Plus (n 30) (EInteger 1 o) o) o) no_stmt))) o) no_stmt)) no_handler) o) (decl_then (DTaskBody (w 39) (decl_then (DObject ((w 33) ∷ []) false (OPlain (record { mark = (w 0); bounds = None })) (Some (IOne (EInteger 1 o))) o) (decl_then (DObject ((w 40) ∷ []) false (OPlain (record { mark = (w 0); bounds = (Some (record { first = (EInteger 1 o); last = (EInteger 2 o) })) })) None o) no_decl)) (body (stmt_then (SAssign (record { name = (w 40); index = None }) (n 33) o) (stmt_then (SAccept (accepting (record { entry = (w 29); index = (Some (n 40)); formals = ((record { names = ((w 30) ∷ []); mode = mode.Both; mark = (w 0) }) ∷ []); span = o }) (present (stmt_then (SAssign (record { name = (w 30); index = None }) (EBinary binary.Plus (n 30) (EInteger 1 o) o) o) no_stmt))) o) no_stmt)) no_handler) o) (decl_then (DTaskBody (w 34) (decl_then (DObject ((w 35) ∷ []) false (OPlain (record { mark = (w 0); bounds = None })) (Some (IOne (EInteger 7 o))) o) (decl_then (DObject ((w 40) ∷ []) false (OPlain (record { mark = (w 0); bounds = (Some (record { first = (EUnary unary.Minus (EInteger 1 o) o); last = (EInteger 0 o) })) })) None o) (decl_then (DObject ((w 41) ∷ []) false (OPlain (record { mark = (w 0); bounds = (Some (record { first = (EInteger 1 o); last = (EInteger 2 o) })) })) None o) (decl_then (DObject ((w 42) ∷ []) false (OPlain (record { mark = (w 0); bounds = None })) None o) (decl_then (DObject ((w 43) ∷ []) false (OPlain (record { mark = (w 0); bounds = None })) None o) (decl_then (DObject ((w 44) ∷ []) false (OPlain (record { mark = (w 3); bounds = None })) None o) (decl_then (DObject ((w 45) ∷ []) false (OPlain (record { mark = (w 0); bounds = (Some (record { first = (EInteger 1 o); last = (EInteger 2 o) })) })) None o) (decl_then (DObject ((w 46) ∷ []) false (OPlain (record { mark = (w 0); bounds = None })) None o) no_decl)))))))) (body (stmt_then (SAssign (record { name = (w 40); index = None }) (EBinary binary.Minus (n 35) (EInteger 8 o) o) o) (stmt_then (SAssign (record { name = (w 41); index = None }) (EInteger 1 o) o) (stmt_then (SAssign (record { name = (w 42); index = None }) (n 35) o) (stmt_then (SCase (n 40) (case_arm_then (case_arm ((record { first = (EUnary unary.Minus (EInteger 1 o) o); last = None }) ∷ []) (stmt_then (STimed (record { task = (record { name = (w 36); index = None }); entry = (w 29); args = (Some (record { first = ((n 41) ∷ []); second = (Some ((n 42) ∷ [])) })) }) (stmt_then (SAssign (record { name = (w 43); index = None }) (EInteger 1 o) o) no_stmt) 500 (stmt_then (SAssign (record { name = (w 43); index = None }) (EInteger 2 o) o) no_stmt) o) no_stmt)) (case_arm_then (case_arm ((record { first = (EInteger 0 o); last = None }) ∷ []) (stmt_then (STimed (record { task = (record { name = (w 37); index = None }); entry = (w 29); args = (Some (record { first = ((n 41) ∷ []); second = (Some ((n 42) ∷ [])) })) }) (stmt_then (SAssign (record { name = (w 43); index = None }) (EInteger 1 o) o) no_stmt) 500 (stmt_then (SAssign (record { name = (w 43); index = None }) (EInteger 2 o) o) no_stmt) o) no_stmt)) no_case_arm)) (present (stmt_then (SNull o) no_stmt)) o) (stmt_then (SIf (arm_then (arm (EBinary binary.Equal (n 43) (EInteger 1 o) o) (stmt_then (SAssign (record { name = (w 35); index = None }) (n 42) o) no_stmt)) no_arm) (present (stmt_then (SNull o) no_stmt)) o) (stmt_then (SAssign (record { name = (w 44); index = None }) (EBinary binary.Greater (n 35) (EInteger 7 o) o) o) (stmt_then (SAssign (record { name = (w 45); index = None }) (EInteger 1 o) o) (stmt_then (SAssign (record { name = (w 46); index = None }) (n 35) o) (stmt_then (SCase (n 44) (case_arm_then (case_arm ((record { first = (n 4); last = None }) ∷ []) (stmt_then (SCall (record { task = (record { name = (w 38); index = None }); entry = (w 29); args = (Some (record { first = ((n 45) ∷ []); second = (Some ((n 46) ∷ [])) })) }) o) no_stmt)) (case_arm_then (case_arm ((record { first = (n 5); last = None }) ∷ []) (stmt_then (SCall (record { task = (record { name = (w 39); index = None }); entry = (w 29); args = (Some (record { first = ((n 45) ∷ []); second = (Some ((n 46) ∷ [])) })) }) o) no_stmt)) no_case_arm)) (present (stmt_then (SNull o) no_stmt)) o) (stmt_then (SAssign (record { name = (w 35); index = None }) (n 46) o) (stmt_then (SPut ((PValue (n 35)) ∷ []) o) no_stmt))))))))))) no_handler) o) no_decl))))))))))); body = (body (stmt_then (SNull o) no_stmt) no_handler) }

signs_is_normal : normal_in signs ≡ signs_normal
unfolding digits
signs_is_normal = refl

-- These are its numbers, and it is legal.
signs_numbers : numbers_made signs ≡ numbers_in signs_normal
unfolding digits
signs_numbers = refl

signs_normal_is_legal : refusals signs_normal ≡ []
unfolding digits
signs_normal_is_legal = refl

signs_normal_is_checked : check_refusals signs_normal mode_of.Any ≡ []
unfolding digits
signs_normal_is_checked = refl

-- Both show the same, in 40 lists of at most 7 events.
signs_shows : show_the_same (shown_by signs [] 7) (shown_by signs_normal [] 7) ≡ true
unfolding digits
signs_shows = refl

signs_many : length (shown_by signs [] 7) ≡ 40
unfolding digits
signs_many = refl
