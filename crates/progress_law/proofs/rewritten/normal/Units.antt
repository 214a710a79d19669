-- The order of declarations, and the variables of main and of tasks: programs and their normal forms, as plain trees.
use Rattle.std.specs.Prelude.{◌≡◌, refl, codes, length, ◌++◌, ◌∷◌, [], true, false, None, Some}
use Rattle.std.specs.Fmt.{digits}
use Rattle.ada_tree.specs.NameList.{predefined}
use Rattle.ada_tree.specs.declared.expressions.BinaryOp.TheVariants as binary
use Rattle.ada_tree.specs.declared.statements.ParMode.TheVariants as mode
use Rattle.ada_tree.specs.PlainExpr.{EInteger, EIndex, EBinary, RGiven}
use Rattle.ada_tree.specs.PlainStmt.{PWords, PValue, SNull, SAssign, SExit, SRaise, SCall, SAccept, SConditional, SPut, SLoop, no_stmt, stmt_then, present, accepting, body, handler, no_handler, handler_then}
use Rattle.ada_tree.specs.PlainDecl.{OPlain, OArray, IOne, IList, IOthers, DNumber, DObject, DArray, DSubtype, DException, DIntIo, DTask, DTaskBody, no_decl, decl_then}
use Rattle.ada_tree.specs.PlainProgram.{PProgram}
use Rattle.ada_static_rules.specs.Refusals.{refusals}
use Rattle.syn_event.specs.CheckRefusals.{check_refusals}
use Rattle.syn_event.specs.declared.numbering.Mode.TheVariants as mode_of
use Rattle.progress_law.specs.rewritten.normal.Showing.{show_the_same}
use Rattle.progress_law.proofs.rewritten.normal.Trees.{o, w, n, numbers_in, normal_in, numbers_made, shown_by}

-- Declarations move: first all but tasks and bodies, then main's variables, then the tasks, then the bodies. Main and a task number their variables anew.
--
-- procedure ORDER is
--    LAST_ONE : constant := 4;
--    task T is
--       entry E(1 .. LAST_ONE)(X : in NATURAL);
--    end T;
--    subtype SMALL is INTEGER range 0 .. LAST_ONE;
--    type LIST is array (1 .. LAST_ONE) of SMALL;
--    FAILED : exception;
--    N : SMALL := 2;
--    task body T is
--       POOL : array (0 .. 1) of SMALL := (1, 2);
--    begin
--       accept E(POOL(1))(X : in NATURAL) do
--          POOL(X) := 4;
--          PUT(POOL(X));
--          raise FAILED;
--       end E;
--    exception
--       when FAILED =>
--          PUT("T");
--    end T;
--    package INT_IO is new INTEGER_IO(INTEGER); use INT_IO;
--    task A;
--    task body A is
--       ALL_OF : LIST := (others => 3);
--    begin
--       ALL_OF(2) := 1;
--       loop
--          exit when ALL_OF(2) = 0;
--          ALL_OF(2) := ALL_OF(2) - 1;
--          select
--             T.E(ALL_OF(4))(ALL_OF(1));
--          else
--             null;
--          end select;
--       end loop;
--    end A;
-- begin
--    T.E(N)(N - 1);
-- exception
--    when FAILED =>
--       PUT(N);
--    when others =>
--       PUT("GONE");
-- end ORDER;
abbrev order : PProgram
order = record { names = (predefined ++ (codes "ORDER" ∷ codes "LAST_ONE" ∷ codes "T" ∷ codes "E" ∷ codes "X" ∷ codes "SMALL" ∷ codes "LIST" ∷ codes "FAILED" ∷ codes "N" ∷ codes "POOL" ∷ codes "INT_IO" ∷ codes "A" ∷ codes "ALL_OF" ∷ [])); text_io = false; name = (w 25); decls = (decl_then (DNumber (w 26) (EInteger 4 o) o) (decl_then (DTask (record { name = (w 27); of_kind = false; entries = ((record { name = (w 28); family = (Some (RGiven (record { first = (EInteger 1 o); last = (n 26) }))); formals = ((record { names = ((w 29) ∷ []); mode = mode.Take; mark = (w 1) }) ∷ []); span = o }) ∷ []); priorities = [] }) o) (decl_then (DSubtype (w 30) (record { mark = (w 0); bounds = (Some (record { first = (EInteger 0 o); last = (n 26) })) }) o) (decl_then (DArray (w 31) (RGiven (record { first = (EInteger 1 o); last = (n 26) })) (record { mark = (w 30); bounds = None }) o) (decl_then (DException ((w 32) ∷ []) o) (decl_then (DObject ((w 33) ∷ []) false (OPlain (record { mark = (w 30); bounds = None })) (Some (IOne (EInteger 2 o))) o) (decl_then (DTaskBody (w 27) (decl_then (DObject ((w 34) ∷ []) false (OArray (RGiven (record { first = (EInteger 0 o); last = (EInteger 1 o) })) (record { mark = (w 30); bounds = None })) (Some (IList ((EInteger 1 o) ∷ (EInteger 2 o) ∷ []) o)) o) no_decl) (body (stmt_then (SAccept (accepting (record { entry = (w 28); index = (Some (EIndex (w 34) (EInteger 1 o) o)); formals = ((record { names = ((w 29) ∷ []); mode = mode.Take; mark = (w 1) }) ∷ []); span = o }) (present (stmt_then (SAssign (record { name = (w 34); index = (Some (n 29)) }) (EInteger 4 o) o) (stmt_then (SPut ((PValue (EIndex (w 34) (n 29) o)) ∷ []) o) (stmt_then (SRaise (Some (w 32)) o) no_stmt))))) o) no_stmt) (handler_then (handler ((w 32) ∷ []) (stmt_then (SPut ((PWords (codes "T") o) ∷ []) o) no_stmt) o) no_handler)) o) (decl_then (DIntIo (w 35) o) (decl_then (DTask (record { name = (w 36); of_kind = false; entries = []; priorities = [] }) o) (decl_then (DTaskBody (w 36) (decl_then (DObject ((w 37) ∷ []) false (OPlain (record { mark = (w 31); bounds = None })) (Some (IOthers (EInteger 3 o) o)) o) no_decl) (body (stmt_then (SAssign (record { name = (w 37); index = (Some (EInteger 2 o)) }) (EInteger 1 o) o) (stmt_then (SLoop None None (stmt_then (SExit None (Some (EBinary binary.Equal (EIndex (w 37) (EInteger 2 o) o) (EInteger 0 o) o)) o) (stmt_then (SAssign (record { name = (w 37); index = (Some (EInteger 2 o)) }) (EBinary binary.Minus (EIndex (w 37) (EInteger 2 o) o) (EInteger 1 o) o) o) (stmt_then (SConditional (record { task = (record { name = (w 27); index = None }); entry = (w 28); args = (Some (record { first = ((EIndex (w 37) (EInteger 4 o) o) ∷ []); second = (Some ((EIndex (w 37) (EInteger 1 o) o) ∷ [])) })) }) no_stmt (stmt_then (SNull o) no_stmt) o) no_stmt))) o) no_stmt)) no_handler) o) no_decl)))))))))); body = (body (stmt_then (SCall (record { task = (record { name = (w 27); index = None }); entry = (w 28); args = (Some (record { first = ((n 33) ∷ []); second = (Some ((EBinary binary.Minus (n 33) (EInteger 1 o) o) ∷ [])) })) }) o) no_stmt) (handler_then (handler ((w 32) ∷ []) (stmt_then (SPut ((PValue (n 33)) ∷ []) o) no_stmt) o) (handler_then (handler [] (stmt_then (SPut ((PWords (codes "GONE") o) ∷ []) o) no_stmt) o) no_handler))) }

-- It is legal.
order_is_legal : refusals order ≡ []
unfolding digits
order_is_legal = refl

order_is_checked : check_refusals order mode_of.Original ≡ []
unfolding digits
order_is_checked = refl

-- Its normal form:
--
-- procedure ORDER is
--    LAST_ONE : constant := 4;
--    subtype SMALL is INTEGER range 0 .. LAST_ONE;
--    type LIST is array (1 .. LAST_ONE) of SMALL;
--    FAILED : exception;
--    N : SMALL := 2;
--    package INT_IO is new INTEGER_IO(INTEGER); use INT_IO;
--    DED_V1 : INTEGER range 1 .. LAST_ONE;
--    DED_V2 : NATURAL;
--    task T is
--       entry E(1 .. LAST_ONE)(X : in NATURAL);
--    end T;
--    task A;
--    task body T is
--       POOL : array (0 .. 1) of SMALL := (1, 2);
--       DED_V1 : INTEGER range 1 .. LAST_ONE;
--    begin
--       DED_V1 := POOL(1);
--       accept E(DED_V1)(X : in NATURAL) do
--          POOL(X) := 4;
--          PUT(POOL(X));
--          raise FAILED;
--       end E;
--    exception
--       when FAILED =>
--          PUT("T");
--    end T;
--    task body A is
--       ALL_OF : LIST := (others => 3);
--       DED_V1 : INTEGER range 1 .. LAST_ONE;
--       DED_V2 : NATURAL;
--    begin
--       ALL_OF(2) := 1;
--       loop
--          exit when ALL_OF(2) = 0;
--          ALL_OF(2) := ALL_OF(2) - 1;
--          DED_V1 := ALL_OF(4);
--          DED_V2 := ALL_OF(1);
--          select
--             T.E(DED_V1)(DED_V2);
--          else
--             null;
--          end select;
--       end loop;
--    end A;
-- begin
--    DED_V1 := N;
--    DED_V2 := N - 1;
--    T.E(DED_V1)(DED_V2);
-- exception
--    when FAILED =>
--       PUT(N);
--    when others =>
--       PUT("GONE");
-- end ORDER;
abbrev order_normal : PProgram
order_normal = record { names = (predefined ++ (codes "ORDER" ∷ codes "LAST_ONE" ∷ codes "T" ∷ codes "E" ∷ codes "X" ∷ codes "SMALL" ∷ codes "LIST" ∷ codes "FAILED" ∷ codes "N" ∷ codes "POOL" ∷ codes "INT_IO" ∷ codes "A" ∷ codes "ALL_OF" ∷ codes "DED_V1" ∷ codes "DED_V2" ∷ [])); text_io = false; name = (w 25); decls = (decl_then (DNumber (w 26) (EInteger 4 o) o) (decl_then (DSubtype (w 30) (record { mark = (w 0); bounds = (Some (record { first = (EInteger 0 o); last = (n 26) })) }) o) (decl_then (DArray (w 31) (RGiven (record { first = (EInteger 1 o); last = (n 26) })) (record { mark = (w 30); bounds = None }) o) (decl_then (DException ((w 32) ∷ []) o) (decl_then (DObject ((w 33) ∷ []) false (OPlain (record { mark = (w 30); bounds = None })) (Some (IOne (EInteger 2 o))) o) (decl_then (DIntIo (w 35) o) (decl_then (DObject ((w 38) ∷ []) false (OPlain (record { mark = (w 0); bounds = (Some (record { first = (EInteger 1 o); last = (n 26) })) })) None o) (decl_then (DObject ((w 39) ∷ []) false (OPlain (record { mark = (w 1); bounds = None })) None o) (decl_then (DTask (record { name = (w 27); of_kind = false; entries = ((record { name = (w 28); family = (Some (RGiven (record { first = (EInteger 1 o); last = (n 26) }))); formals = ((record { names = ((w 29) ∷ []); mode = mode.Take; mark = (w 1) }) ∷ []); span = o }) ∷ []); priorities = [] }) o) (decl_then (DTask (record { name = (w 36); of_kind = false; entries = []; priorities = [] }) o) (decl_then (DTaskBody (w 27) (decl_then (DObject ((w 34) ∷ []) false (OArray (RGiven (record { first = (EInteger 0 o); last = (EInteger 1 o) })) (record { mark = (w 30); bounds = None })) (Some (IList ((EInteger 1 o) ∷ (EInteger 2 o) ∷ []) o)) o) (decl_then (DObject ((w 38) ∷ []) false (OPlain (record { mark = (w 0); bounds = (Some (record { first = (EInteger 1 o); last = (n 26) })) })) None o) no_decl)) (body (stmt_then (SAssign (record { name = (w 38); index = None }) (EIndex (w 34) (EInteger 1 o) o) o) (stmt_then (SAccept (accepting (record { entry = (w 28); index = (Some (n 38)); formals = ((record { names = ((w 29) ∷ []); mode = mode.Take; mark = (w 1) }) ∷ []); span = o }) (present (stmt_then (SAssign (record { name = (w 34); index = (Some (n 29)) }) (EInteger 4 o) o) (stmt_then (SPut ((PValue (EIndex (w 34) (n 29) o)) ∷ []) o) (stmt_then (SRaise (Some (w 32)) o) no_stmt))))) o) no_stmt)) (handler_then (handler ((w 32) ∷ []) (stmt_then (SPut ((PWords (codes "T") o) ∷ []) o) no_stmt) o) no_handler)) o) (decl_then (DTaskBody (w 36) (decl_then (DObject ((w 37) ∷ []) false (OPlain (record { mark = (w 31); bounds = None })) (Some (IOthers (EInteger 3 o) o)) o) (decl_then (DObject ((w 38) ∷ []) false (OPlain (record { mark = (w 0); bounds = (Some (record { first = (EInteger 1 o); last = (n 26) })) })) None o) (decl_then (DObject ((w 39) ∷ []) false (OPlain (record { mark = (w 1); bounds = None })) None o) no_decl))) (body (stmt_then (SAssign (record { name = (w 37); index = (Some (EInteger 2 o)) }) (EInteger 1 o) o) (stmt_then (SLoop None None (stmt_then (SExit None (Some (EBinary binary.Equal (EIndex (w 37) (EInteger 2 o) o) (EInteger 0 o) o)) o) (stmt_then (SAssign (record { name = (w 37); index = (Some (EInteger 2 o)) }) (EBinary binary.Minus (EIndex (w 37) (EInteger 2 o) o) (EInteger 1 o) o) o) (stmt_then (SAssign (record { name = (w 38); index = None }) (EIndex (w 37) (EInteger 4 o) o) o) (stmt_then (SAssign (record { name = (w 39); index = None }) (EIndex (w 37) (EInteger 1 o) o) o) (stmt_then (SConditional (record { task = (record { name = (w 27); index = None }); entry = (w 28); args = (Some (record { first = ((n 38) ∷ []); second = (Some ((n 39) ∷ [])) })) }) no_stmt (stmt_then (SNull o) no_stmt) o) no_stmt))))) o) no_stmt)) no_handler) o) no_decl)))))))))))); body = (body (stmt_then (SAssign (record { name = (w 38); index = None }) (n 33) o) (stmt_then (SAssign (record { name = (w 39); index = None }) (EBinary binary.Minus (n 33) (EInteger 1 o) o) o) (stmt_then (SCall (record { task = (record { name = (w 27); index = None }); entry = (w 28); args = (Some (record { first = ((n 38) ∷ []); second = (Some ((n 39) ∷ [])) })) }) o) no_stmt))) (handler_then (handler ((w 32) ∷ []) (stmt_then (SPut ((PValue (n 33)) ∷ []) o) no_stmt) o) (handler_then (handler [] (stmt_then (SPut ((PWords (codes "GONE") o) ∷ []) o) no_stmt) o) no_handler))) }

order_is_normal : normal_in order ≡ order_normal
unfolding digits
order_is_normal = refl

-- These are its numbers, and it is legal.
order_numbers : numbers_made order ≡ numbers_in order_normal
unfolding digits
order_numbers = refl

order_normal_is_legal : refusals order_normal ≡ []
unfolding digits
order_normal_is_legal = refl

order_normal_is_checked : check_refusals order_normal mode_of.Any ≡ []
unfolding digits
order_normal_is_checked = refl

-- Both show the same, in 44 lists of at most 10 events.
order_shows : show_the_same (shown_by order [] 10) (shown_by order_normal [] 10) ≡ true
unfolding digits
order_shows = refl

order_many : length (shown_by order [] 10) ≡ 44
unfolding digits
order_many = refl
