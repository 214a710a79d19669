-- Calls with indices and parameters: programs and their normal forms, as plain trees.
use Rattle.std.specs.Prelude.{◌≡◌, refl, codes, length, ◌++◌, ◌∷◌, [], true, false, None, Some}
use Rattle.std.specs.Fmt.{digits}
use Rattle.ada_tree.specs.NameList.{predefined}
use Rattle.ada_tree.specs.declared.expressions.BinaryOp.TheVariants as binary
use Rattle.ada_tree.specs.declared.statements.ParMode.TheVariants as mode
use Rattle.ada_tree.specs.PlainExpr.{EInteger, EAttributeOf, EBinary, RGiven, RMarked}
use Rattle.ada_tree.specs.PlainStmt.{PWords, PValue, SNull, SAssign, SCall, SAccept, SWait, SConditional, STimed, SPut, SPutLine, SNewLine, SBlock, SLoop, no_stmt, stmt_then, absent, present, accepting, alternative, AAccept, ATerminate, no_alt, alt_then, body, handler, no_handler, handler_then}
use Rattle.ada_tree.specs.PlainDecl.{OPlain, IOne, DObject, DEnumeration, DSubtype, DIntIo, DTask, DTaskBody, no_decl, decl_then}
use Rattle.ada_tree.specs.PlainProgram.{PProgram}
use Rattle.ada_static_rules.specs.Refusals.{refusals}
use Rattle.syn_event.specs.CheckRefusals.{check_refusals}
use Rattle.syn_event.specs.declared.numbering.Mode.TheVariants as mode_of
use Rattle.progress_law.specs.rewritten.normal.Showing.{show_the_same}
use Rattle.progress_law.proofs.rewritten.normal.Trees.{o, w, n, numbers_in, normal_in, numbers_made, shown_by}

-- A call of a family whose index is outside its range, and one inside.
--
-- procedure FAMILY is
--    package INT_IO is new INTEGER_IO(INTEGER); use INT_IO;
--    task T is
--       entry E(1 .. 3)(X : in INTEGER);
--    end T;
--    task A;
--    task body T is
--    begin
--       accept E(3)(X : in INTEGER) do
--          PUT(X);
--          NEW_LINE;
--       end E;
--    end T;
--    task body A is
--       I : INTEGER := 4;
--    begin
--       begin
--          T.E(I)(7);
--       exception
--          when CONSTRAINT_ERROR =>
--             PUT_LINE("RANGE");
--       end;
--       T.E(3)(8);
--    end A;
-- begin
--    null;
-- end FAMILY;
abbrev family : PProgram
family = record { names = (predefined ++ (codes "FAMILY" ∷ codes "INT_IO" ∷ codes "T" ∷ codes "E" ∷ codes "X" ∷ codes "A" ∷ codes "I" ∷ [])); text_io = false; name = (w 25); decls = (decl_then (DIntIo (w 26) o) (decl_then (DTask (record { name = (w 27); of_kind = false; entries = ((record { name = (w 28); family = (Some (RGiven (record { first = (EInteger 1 o); last = (EInteger 3 o) }))); formals = ((record { names = ((w 29) ∷ []); mode = mode.Take; mark = (w 0) }) ∷ []); span = o }) ∷ []); priorities = [] }) o) (decl_then (DTask (record { name = (w 30); of_kind = false; entries = []; priorities = [] }) o) (decl_then (DTaskBody (w 27) no_decl (body (stmt_then (SAccept (accepting (record { entry = (w 28); index = (Some (EInteger 3 o)); formals = ((record { names = ((w 29) ∷ []); mode = mode.Take; mark = (w 0) }) ∷ []); span = o }) (present (stmt_then (SPut ((PValue (n 29)) ∷ []) o) (stmt_then (SNewLine o) no_stmt)))) o) no_stmt) no_handler) o) (decl_then (DTaskBody (w 30) (decl_then (DObject ((w 31) ∷ []) false (OPlain (record { mark = (w 0); bounds = None })) (Some (IOne (EInteger 4 o))) o) no_decl) (body (stmt_then (SBlock (body (stmt_then (SCall (record { task = (record { name = (w 27); index = None }); entry = (w 28); args = (Some (record { first = ((n 31) ∷ []); second = (Some ((EInteger 7 o) ∷ [])) })) }) o) no_stmt) (handler_then (handler ((w 6) ∷ []) (stmt_then (SPutLine ((PWords (codes "RANGE") o) ∷ []) o) no_stmt) o) no_handler)) o) (stmt_then (SCall (record { task = (record { name = (w 27); index = None }); entry = (w 28); args = (Some (record { first = ((EInteger 3 o) ∷ []); second = (Some ((EInteger 8 o) ∷ [])) })) }) o) no_stmt)) no_handler) o) no_decl))))); body = (body (stmt_then (SNull o) no_stmt) no_handler) }

-- It is legal.
family_is_legal : refusals family ≡ []
unfolding digits
family_is_legal = refl

family_is_checked : check_refusals family mode_of.Original ≡ []
unfolding digits
family_is_checked = refl

-- Its normal form:
--
-- .. (as in the text of `family`, 15 lines: from "procedure FAMILY is" to "I : INTEGER := 4;")
--       DED_V1 : INTEGER range 1 .. 3;
--       DED_V2 : INTEGER;
--       DED_V3 : INTEGER range 1 .. 3;
--       DED_V4 : INTEGER;
--    begin
--       begin
--          DED_V1 := I;
--          DED_V2 := 7;
--          T.E(DED_V1)(DED_V2);
--       exception
--          when CONSTRAINT_ERROR =>
--             PUT_LINE("RANGE");
--       end;
--       DED_V3 := 3;
--       DED_V4 := 8;
--       T.E(DED_V3)(DED_V4);
--    end A;
-- begin
--    null;
-- end FAMILY;
abbrev family_normal : PProgram
family_normal = record { names = (predefined ++ (codes "FAMILY" ∷ codes "INT_IO" ∷ codes "T" ∷ codes "E" ∷ codes "X" ∷ codes "A" ∷ codes "I" ∷ codes "DED_V1" ∷ codes "DED_V2" ∷ codes "DED_V3" ∷ codes "DED_V4" ∷ [])); text_io = false; name = (w 25); decls = (decl_then (DIntIo (w 26) o) (decl_then (DTask (record { name = (w 27); of_kind = false; entries = ((record { name = (w 28); family = (Some (RGiven (record { first = (EInteger 1 o); last = (EInteger 3 o) }))); formals = ((record { names = ((w 29) ∷ []); mode = mode.Take; mark = (w 0) }) ∷ []); span = o }) ∷ []); priorities = [] }) o) (decl_then (DTask (record { name = (w 30); of_kind = false; entries = []; priorities = [] }) o) (decl_then (DTaskBody (w 27) no_decl (body (stmt_then (SAccept (accepting (record { entry = (w 28); index = (Some (EInteger 3 o)); formals = ((record { names = ((w 29) ∷ []); mode = mode.Take; mark = (w 0) }) ∷ []); span = o }) (present (stmt_then (SPut ((PValue (n 29)) ∷ []) o) (stmt_then (SNewLine o) no_stmt)))) o) no_stmt) no_handler) o) (decl_then (DTaskBody (w 30) (decl_then (DObject ((w 31) ∷ []) false (OPlain (record { mark = (w 0); bounds = None })) (Some (IOne (EInteger 4 o))) o) (decl_then (DObject ((w 32) ∷ []) false (OPlain (record { mark = (w 0); bounds = (Some (record { first = (EInteger 1 o); last = (EInteger 3 o) })) })) None o) (decl_then (DObject ((w 33) ∷ []) false (OPlain (record { mark = (w 0); bounds = None })) None o) (decl_then (DObject ((w 34) ∷ []) false (OPlain (record { mark = (w 0); bounds = (Some (record { first = (EInteger 1 o); last = (EInteger 3 o) })) })) None o) (decl_then (DObject ((w 35) ∷ []) false (OPlain (record { mark = (w 0); bounds = None })) None o) no_decl))))) (body (stmt_then (SBlock (body (stmt_then (SAssign (record { name = (w 32); index = None }) (n 31) o) (stmt_then (SAssign (record { name = (w 33); index = None }) (EInteger 7 o) o) (stmt_then (SCall (record { task = (record { name = (w 27); index = None }); entry = (w 28); args = (Some (record { first = ((n 32) ∷ []); second = (Some ((n 33) ∷ [])) })) }) o) no_stmt))) (handler_then (handler ((w 6) ∷ []) (stmt_then (SPutLine ((PWords (codes "RANGE") o) ∷ []) o) no_stmt) o) no_handler)) o) (stmt_then (SAssign (record { name = (w 34); index = None }) (EInteger 3 o) o) (stmt_then (SAssign (record { name = (w 35); index = None }) (EInteger 8 o) o) (stmt_then (SCall (record { task = (record { name = (w 27); index = None }); entry = (w 28); args = (Some (record { first = ((n 34) ∷ []); second = (Some ((n 35) ∷ [])) })) }) o) no_stmt)))) no_handler) o) no_decl))))); body = (body (stmt_then (SNull o) no_stmt) no_handler) }

family_is_normal : normal_in family ≡ family_normal
unfolding digits
family_is_normal = refl

-- These are its numbers, and it is legal.
family_numbers : numbers_made family ≡ numbers_in family_normal
unfolding digits
family_numbers = refl

family_normal_is_legal : refusals family_normal ≡ []
unfolding digits
family_normal_is_legal = refl

family_normal_is_checked : check_refusals family_normal mode_of.Any ≡ []
unfolding digits
family_normal_is_checked = refl

-- Both show the same, in 9 lists of at most 20 events.
family_shows : show_the_same (shown_by family [] 20) (shown_by family_normal [] 20) ≡ true
unfolding digits
family_shows = refl

family_many : length (shown_by family [] 20) ≡ 9
unfolding digits
family_many = refl

-- Had the program a name DED_V1 already, of which it makes no use, that name would be taken.
family_with_name : normal_in record family { names = family.names ++ codes "DED_V1" ∷ [] } ≡ family_normal
unfolding digits
family_with_name = refl

-- Parameters of all three modes, one of which does not fit as it comes back.
--
-- procedure MODES is
--    package INT_IO is new INTEGER_IO(INTEGER); use INT_IO;
--    subtype SMALL is INTEGER range 0 .. 9;
--    task T is
--       entry E(X : in SMALL; Y, Z : out INTEGER; U : in out INTEGER);
--    end T;
--    N : SMALL := 3;
--    M : INTEGER := 1;
--    task body T is
--    begin
--       loop
--          select
--             accept E(X : in SMALL; Y, Z : out INTEGER; U : in out INTEGER) do
--                Y := X + 1;
--                Z := 10 * X;
--                U := U + 1;
--             end E;
--          or
--             terminate;
--          end select;
--       end loop;
--    end T;
-- begin
--    T.E(N - 2, N, M, M);
--    PUT(M);
--    T.E(M, M, N, M);
--    PUT(N);
-- exception
--    when CONSTRAINT_ERROR =>
--       PUT(M);
--       PUT(N);
-- end MODES;
abbrev modes : PProgram
modes = record { names = (predefined ++ (codes "MODES" ∷ codes "INT_IO" ∷ codes "SMALL" ∷ codes "T" ∷ codes "E" ∷ codes "X" ∷ codes "Y" ∷ codes "Z" ∷ codes "U" ∷ codes "N" ∷ codes "M" ∷ [])); text_io = false; name = (w 25); decls = (decl_then (DIntIo (w 26) o) (decl_then (DSubtype (w 27) (record { mark = (w 0); bounds = (Some (record { first = (EInteger 0 o); last = (EInteger 9 o) })) }) o) (decl_then (DTask (record { name = (w 28); of_kind = false; entries = ((record { name = (w 29); family = None; formals = ((record { names = ((w 30) ∷ []); mode = mode.Take; mark = (w 27) }) ∷ (record { names = ((w 31) ∷ (w 32) ∷ []); mode = mode.Give; mark = (w 0) }) ∷ (record { names = ((w 33) ∷ []); mode = mode.Both; mark = (w 0) }) ∷ []); span = o }) ∷ []); priorities = [] }) o) (decl_then (DObject ((w 34) ∷ []) false (OPlain (record { mark = (w 27); bounds = None })) (Some (IOne (EInteger 3 o))) o) (decl_then (DObject ((w 35) ∷ []) false (OPlain (record { mark = (w 0); bounds = None })) (Some (IOne (EInteger 1 o))) o) (decl_then (DTaskBody (w 28) no_decl (body (stmt_then (SLoop None None (stmt_then (SWait (alt_then (alternative None (AAccept (accepting (record { entry = (w 29); index = None; formals = ((record { names = ((w 30) ∷ []); mode = mode.Take; mark = (w 27) }) ∷ (record { names = ((w 31) ∷ (w 32) ∷ []); mode = mode.Give; mark = (w 0) }) ∷ (record { names = ((w 33) ∷ []); mode = mode.Both; mark = (w 0) }) ∷ []); span = o }) (present (stmt_then (SAssign (record { name = (w 31); index = None }) (EBinary binary.Plus (n 30) (EInteger 1 o) o) o) (stmt_then (SAssign (record { name = (w 32); index = None }) (EBinary binary.Times (EInteger 10 o) (n 30) o) o) (stmt_then (SAssign (record { name = (w 33); index = None }) (EBinary binary.Plus (n 33) (EInteger 1 o) o) o) no_stmt))))) no_stmt) o) (alt_then (alternative None ATerminate o) no_alt)) absent o) no_stmt) o) no_stmt) no_handler) o) no_decl)))))); body = (body (stmt_then (SCall (record { task = (record { name = (w 28); index = None }); entry = (w 29); args = (Some (record { first = ((EBinary binary.Minus (n 34) (EInteger 2 o) o) ∷ (n 34) ∷ (n 35) ∷ (n 35) ∷ []); second = None })) }) o) (stmt_then (SPut ((PValue (n 35)) ∷ []) o) (stmt_then (SCall (record { task = (record { name = (w 28); index = None }); entry = (w 29); args = (Some (record { first = ((n 35) ∷ (n 35) ∷ (n 34) ∷ (n 35) ∷ []); second = None })) }) o) (stmt_then (SPut ((PValue (n 34)) ∷ []) o) no_stmt)))) (handler_then (handler ((w 6) ∷ []) (stmt_then (SPut ((PValue (n 35)) ∷ []) o) (stmt_then (SPut ((PValue (n 34)) ∷ []) o) no_stmt)) o) no_handler)) }

-- It is legal.
modes_is_legal : refusals modes ≡ []
unfolding digits
modes_is_legal = refl

modes_is_checked : check_refusals modes mode_of.Original ≡ []
unfolding digits
modes_is_checked = refl

-- Its normal form:
--
-- procedure MODES is
--    package INT_IO is new INTEGER_IO(INTEGER); use INT_IO;
--    subtype SMALL is INTEGER range 0 .. 9;
--    N : SMALL := 3;
--    M : INTEGER := 1;
--    DED_V1 : SMALL;
--    DED_V2 : INTEGER;
--    DED_V3 : INTEGER;
--    DED_V4 : INTEGER;
--    DED_V5 : SMALL;
--    DED_V6 : INTEGER;
--    DED_V7 : INTEGER;
--    DED_V8 : INTEGER;
--    task T is
--       entry E(X : in SMALL; Y, Z : out INTEGER; U : in out INTEGER);
--    end T;
-- ..  (as in the text of `modes`, 15 lines: from "task body T is" to "begin")
--    DED_V1 := N - 2;
--    DED_V4 := M;
--    T.E(DED_V1, DED_V2, DED_V3, DED_V4);
--    N := DED_V2;
--    M := DED_V3;
--    M := DED_V4;
--    PUT(M);
--    DED_V5 := M;
--    DED_V8 := M;
--    T.E(DED_V5, DED_V6, DED_V7, DED_V8);
--    M := DED_V6;
--    N := DED_V7;
--    M := DED_V8;
--    PUT(N);
-- exception
--    when CONSTRAINT_ERROR =>
--       PUT(M);
--       PUT(N);
-- end MODES;
abbrev modes_normal : PProgram
modes_normal = record { names = (predefined ++ (codes "MODES" ∷ codes "INT_IO" ∷ codes "SMALL" ∷ codes "T" ∷ codes "E" ∷ codes "X" ∷ codes "Y" ∷ codes "Z" ∷ codes "U" ∷ codes "N" ∷ codes "M" ∷ codes "DED_V1" ∷ codes "DED_V2" ∷ codes "DED_V3" ∷ codes "DED_V4" ∷ codes "DED_V5" ∷ codes "DED_V6" ∷ codes "DED_V7" ∷ codes "DED_V8" ∷ [])); text_io = false; name = (w 25); decls = (decl_then (DIntIo (w 26) o) (decl_then (DSubtype (w 27) (record { mark = (w 0); bounds = (Some (record { first = (EInteger 0 o); last = (EInteger 9 o) })) }) o) (decl_then (DObject ((w 34) ∷ []) false (OPlain (record { mark = (w 27); bounds = None })) (Some (IOne (EInteger 3 o))) o) (decl_then (DObject ((w 35) ∷ []) false (OPlain (record { mark = (w 0); bounds = None })) (Some (IOne (EInteger 1 o))) o) (decl_then (DObject ((w 36) ∷ []) false (OPlain (record { mark = (w 27); bounds = None })) None o) (decl_then (DObject ((w 37) ∷ []) false (OPlain (record { mark = (w 0); bounds = None })) None o) (decl_then (DObject ((w 38) ∷ []) false (OPlain (record { mark = (w 0); bounds = None })) None o) (decl_then (DObject ((w 39) ∷ []) false (OPlain (record { mark = (w 0); bounds = None })) None o) (decl_then (DObject ((w 40) ∷ []) false (OPlain (record { mark = (w 27); bounds = None })) None o) (decl_then (DObject ((w 41) ∷ []) false (OPlain (record { mark = (w 0); bounds = None })) None o) (decl_then (DObject ((w 42) ∷ []) false (OPlain (record { mark = (w 0); bounds = None })) None o) (decl_then (DObject ((w 43) ∷ []) false (OPlain (record { mark = (w 0); bounds = None })) None o) (decl_then (DTask (record { name = (w 28); of_kind = false; entries = ((record { name = (w 29); family = None; formals = ((record { names = ((w 30) ∷ []); mode = mode.Take; mark = (w 27) }) ∷ (record { names = ((w 31) ∷ (w 32) ∷ []); mode = mode.Give; mark = (w 0) }) ∷ (record { names = ((w 33) ∷ []); mode = mode.Both; mark = (w 0) }) ∷ []); span = o }) ∷ []); priorities = [] }) o) (decl_then (DTaskBody (w 28) no_decl (body (stmt_then (SLoop None None (stmt_then (SWait (alt_then (alternative None (AAccept (accepting (record { entry = (w 29); index = None; formals = ((record { names = ((w 30) ∷ []); mode = mode.Take; mark = (w 27) }) ∷ (record { names = ((w 31) ∷ (w 32) ∷ []); mode = mode.Give; mark = (w 0) }) ∷ (record { names = ((w 33) ∷ []); mode = mode.Both; mark = (w 0) }) ∷ []); span = o }) (present (stmt_then (SAssign (record { name = (w 31); index = None }) (EBinary binary.Plus (n 30) (EInteger 1 o) o) o) (stmt_then (SAssign (record { name = (w 32); index = None }) (EBinary binary.Times (EInteger 10 o) (n 30) o) o) (stmt_then (SAssign (record { name = (w 33); index = None }) (EBinary binary.Plus (n 33) (EInteger 1 o) o) o) no_stmt))))) no_stmt) o) (alt_then (alternative None ATerminate o) no_alt)) absent o) no_stmt) o) no_stmt) no_handler) o) no_decl)))))))))))))); body = (body (stmt_then (SAssign (record { name = (w 36); index = None }) (EBinary binary.Minus (n 34) (EInteger 2 o) o) o) (stmt_then (SAssign (record { name = (w 39); index = None }) (n 35) o) (stmt_then (SCall (record { task = (record { name = (w 28); index = None }); entry = (w 29); args = (Some (record { first = ((n 36) ∷ (n 37) ∷ (n 38) ∷ (n 39) ∷ []); second = None })) }) o) (stmt_then (SAssign (record { name = (w 34); index = None }) (n 37) o) (stmt_then (SAssign (record { name = (w 35); index = None }) (n 38) o) (stmt_then (SAssign (record { name = (w 35); index = None }) (n 39) o) (stmt_then (SPut ((PValue (n 35)) ∷ []) o) (stmt_then (SAssign (record { name = (w 40); index = None }) (n 35) o) (stmt_then (SAssign (record { name = (w 43); index = None }) (n 35) o) (stmt_then (SCall (record { task = (record { name = (w 28); index = None }); entry = (w 29); args = (Some (record { first = ((n 40) ∷ (n 41) ∷ (n 42) ∷ (n 43) ∷ []); second = None })) }) o) (stmt_then (SAssign (record { name = (w 35); index = None }) (n 41) o) (stmt_then (SAssign (record { name = (w 34); index = None }) (n 42) o) (stmt_then (SAssign (record { name = (w 35); index = None }) (n 43) o) (stmt_then (SPut ((PValue (n 34)) ∷ []) o) no_stmt)))))))))))))) (handler_then (handler ((w 6) ∷ []) (stmt_then (SPut ((PValue (n 35)) ∷ []) o) (stmt_then (SPut ((PValue (n 34)) ∷ []) o) no_stmt)) o) no_handler)) }

modes_is_normal : normal_in modes ≡ modes_normal
unfolding digits
modes_is_normal = refl

-- These are its numbers, and it is legal.
modes_numbers : numbers_made modes ≡ numbers_in modes_normal
unfolding digits
modes_numbers = refl

modes_normal_is_legal : refusals modes_normal ≡ []
unfolding digits
modes_normal_is_legal = refl

modes_normal_is_checked : check_refusals modes_normal mode_of.Any ≡ []
unfolding digits
modes_normal_is_checked = refl

-- Both show the same, in 6 lists of at most 20 events.
modes_shows : show_the_same (shown_by modes [] 20) (shown_by modes_normal [] 20) ≡ true
unfolding digits
modes_shows = refl

modes_many : length (shown_by modes [] 20) ≡ 6
unfolding digits
modes_many = refl

-- A conditional and a timed call with values that come back, one with statements behind it and one with none.
--
-- procedure SELECTS is
--    package INT_IO is new INTEGER_IO(INTEGER); use INT_IO;
--    type COLOR is (RED, GREEN, BLUE);
--    task T is
--       entry E(COLOR)(X : out INTEGER);
--       entry F(BOOLEAN);
--       entry G(COLOR range RED .. GREEN);
--    end T;
--    task A;
--    task body T is
--    begin
--       accept E(GREEN)(X : out INTEGER) do
--          X := 5;
--       end E;
--       accept F(TRUE);
--    end T;
--    task body A is
--       N : INTEGER := 1;
--       C : COLOR := GREEN;
--    begin
--       select
--          T.E(C)(N);
--          PUT(N);
--       else
--          PUT("NO");
--       end select;
--       select
--          T.F(N > 1);
--       or
--          delay 1.0;
--       end select;
--       select
--          T.G(COLOR'SUCC(C));
--       or
--          delay 1.0;
--          PUT("LATE");
--       end select;
--    exception
--       when CONSTRAINT_ERROR =>
--          PUT("RANGE");
--    end A;
-- begin
--    null;
-- end SELECTS;
abbrev selects : PProgram
selects = record { names = (predefined ++ (codes "SELECTS" ∷ codes "INT_IO" ∷ codes "COLOR" ∷ codes "RED" ∷ codes "GREEN" ∷ codes "BLUE" ∷ codes "T" ∷ codes "E" ∷ codes "X" ∷ codes "F" ∷ codes "G" ∷ codes "A" ∷ codes "N" ∷ codes "C" ∷ [])); text_io = false; name = (w 25); decls = (decl_then (DIntIo (w 26) o) (decl_then (DEnumeration (w 27) ((w 28) ∷ (w 29) ∷ (w 30) ∷ []) o) (decl_then (DTask (record { name = (w 31); of_kind = false; entries = ((record { name = (w 32); family = (Some (RMarked (record { mark = (w 27); bounds = None }))); formals = ((record { names = ((w 33) ∷ []); mode = mode.Give; mark = (w 0) }) ∷ []); span = o }) ∷ (record { name = (w 34); family = (Some (RMarked (record { mark = (w 3); bounds = None }))); formals = []; span = o }) ∷ (record { name = (w 35); family = (Some (RMarked (record { mark = (w 27); bounds = (Some (record { first = (n 28); last = (n 29) })) }))); formals = []; span = o }) ∷ []); priorities = [] }) o) (decl_then (DTask (record { name = (w 36); of_kind = false; entries = []; priorities = [] }) o) (decl_then (DTaskBody (w 31) no_decl (body (stmt_then (SAccept (accepting (record { entry = (w 32); index = (Some (n 29)); formals = ((record { names = ((w 33) ∷ []); mode = mode.Give; mark = (w 0) }) ∷ []); span = o }) (present (stmt_then (SAssign (record { name = (w 33); index = None }) (EInteger 5 o) o) no_stmt))) o) (stmt_then (SAccept (accepting (record { entry = (w 34); index = (Some (n 5)); formals = []; span = o }) absent) o) no_stmt)) no_handler) o) (decl_then (DTaskBody (w 36) (decl_then (DObject ((w 37) ∷ []) false (OPlain (record { mark = (w 0); bounds = None })) (Some (IOne (EInteger 1 o))) o) (decl_then (DObject ((w 38) ∷ []) false (OPlain (record { mark = (w 27); bounds = None })) (Some (IOne (n 29))) o) no_decl)) (body (stmt_then (SConditional (record { task = (record { name = (w 31); index = None }); entry = (w 32); args = (Some (record { first = ((n 38) ∷ []); second = (Some ((n 37) ∷ [])) })) }) (stmt_then (SPut ((PValue (n 37)) ∷ []) o) no_stmt) (stmt_then (SPut ((PWords (codes "NO") o) ∷ []) o) no_stmt) o) (stmt_then (STimed (record { task = (record { name = (w 31); index = None }); entry = (w 34); args = (Some (record { first = ((EBinary binary.Greater (n 37) (EInteger 1 o) o) ∷ []); second = None })) }) no_stmt 1000 no_stmt o) (stmt_then (STimed (record { task = (record { name = (w 31); index = None }); entry = (w 35); args = (Some (record { first = ((EAttributeOf (w 27) (w 22) (n 38) o) ∷ []); second = None })) }) no_stmt 1000 (stmt_then (SPut ((PWords (codes "LATE") o) ∷ []) o) no_stmt) o) no_stmt))) (handler_then (handler ((w 6) ∷ []) (stmt_then (SPut ((PWords (codes "RANGE") o) ∷ []) o) no_stmt) o) no_handler)) o) no_decl)))))); body = (body (stmt_then (SNull o) no_stmt) no_handler) }

-- It is legal.
selects_is_legal : refusals selects ≡ []
unfolding digits
selects_is_legal = refl

selects_is_checked : check_refusals selects mode_of.Original ≡ []
unfolding digits
selects_is_checked = refl

-- Its normal form:
--
-- .. (as in the text of `selects`, 19 lines: from "procedure SELECTS is" to "C : COLOR := GREEN;")
--       DED_V1 : COLOR;
--       DED_V2 : INTEGER;
--       DED_V3 : BOOLEAN;
--       DED_V4 : COLOR range RED .. GREEN;
--    begin
--       DED_V1 := C;
--       select
--          T.E(DED_V1)(DED_V2);
--          N := DED_V2;
--          PUT(N);
--       else
--          PUT("NO");
--       end select;
--       DED_V3 := N > 1;
--       select
--          T.F(DED_V3);
--       or
--          delay 1.0;
--       end select;
--       DED_V4 := COLOR'SUCC(C);
--       select
--          T.G(DED_V4);
-- ..     (as in the text of `selects`, 11 lines: from "or" to "end SELECTS;")
abbrev selects_normal : PProgram
selects_normal = record { names = (predefined ++ (codes "SELECTS" ∷ codes "INT_IO" ∷ codes "COLOR" ∷ codes "RED" ∷ codes "GREEN" ∷ codes "BLUE" ∷ codes "T" ∷ codes "E" ∷ codes "X" ∷ codes "F" ∷ codes "G" ∷ codes "A" ∷ codes "N" ∷ codes "C" ∷ codes "DED_V1" ∷ codes "DED_V2" ∷ codes "DED_V3" ∷ codes "DED_V4" ∷ [])); text_io = false; name = (w 25); decls = (decl_then (DIntIo (w 26) o) (decl_then (DEnumeration (w 27) ((w 28) ∷ (w 29) ∷ (w 30) ∷ []) o) (decl_then (DTask (record { name = (w 31); of_kind = false; entries = ((record { name = (w 32); family = (Some (RMarked (record { mark = (w 27); bounds = None }))); formals = ((record { names = ((w 33) ∷ []); mode = mode.Give; mark = (w 0) }) ∷ []); span = o }) ∷ (record { name = (w 34); family = (Some (RMarked (record { mark = (w 3); bounds = None }))); formals = []; span = o }) ∷ (record { name = (w 35); family = (Some (RMarked (record { mark = (w 27); bounds = (Some (record { first = (n 28); last = (n 29) })) }))); formals = []; span = o }) ∷ []); priorities = [] }) o) (decl_then (DTask (record { name = (w 36); of_kind = false; entries = []; priorities = [] }) o) (decl_then (DTaskBody (w 31) no_decl (body (stmt_then (SAccept (accepting (record { entry = (w 32); index = (Some (n 29)); formals = ((record { names = ((w 33) ∷ []); mode = mode.Give; mark = (w 0) }) ∷ []); span = o }) (present (stmt_then (SAssign (record { name = (w 33); index = None }) (EInteger 5 o) o) no_stmt))) o) (stmt_then (SAccept (accepting (record { entry = (w 34); index = (Some (n 5)); formals = []; span = o }) absent) o) no_stmt)) no_handler) o) (decl_then (DTaskBody (w 36) (decl_then (DObject ((w 37) ∷ []) false (OPlain (record { mark = (w 0); bounds = None })) (Some (IOne (EInteger 1 o))) o) (decl_then (DObject ((w 38) ∷ []) false (OPlain (record { mark = (w 27); bounds = None })) (Some (IOne (n 29))) o) (decl_then (DObject ((w 39) ∷ []) false (OPlain (record { mark = (w 27); bounds = None })) None o) (decl_then (DObject ((w 40) ∷ []) false (OPlain (record { mark = (w 0); bounds = None })) None o) (decl_then (DObject ((w 41) ∷ []) false (OPlain (record { mark = (w 3); bounds = None })) None o) (decl_then (DObject ((w 42) ∷ []) false (OPlain (record { mark = (w 27); bounds = (Some (record { first = (n 28); last = (n 29) })) })) None o) no_decl)))))) (body (stmt_then (SAssign (record { name = (w 39); index = None }) (n 38) o) (stmt_then (SConditional (record { task = (record { name = (w 31); index = None }); entry = (w 32); args = (Some (record { first = ((n 39) ∷ []); second = (Some ((n 40) ∷ [])) })) }) (stmt_then (SAssign (record { name = (w 37); index = None }) (n 40) o) (stmt_then (SPut ((PValue (n 37)) ∷ []) o) no_stmt)) (stmt_then (SPut ((PWords (codes "NO") o) ∷ []) o) no_stmt) o) (stmt_then (SAssign (record { name = (w 41); index = None }) (EBinary binary.Greater (n 37) (EInteger 1 o) o) o) (stmt_then (STimed (record { task = (record { name = (w 31); index = None }); entry = (w 34); args = (Some (record { first = ((n 41) ∷ []); second = None })) }) no_stmt 1000 no_stmt o) (stmt_then (SAssign (record { name = (w 42); index = None }) (EAttributeOf (w 27) (w 22) (n 38) o) o) (stmt_then (STimed (record { task = (record { name = (w 31); index = None }); entry = (w 35); args = (Some (record { first = ((n 42) ∷ []); second = None })) }) no_stmt 1000 (stmt_then (SPut ((PWords (codes "LATE") o) ∷ []) o) no_stmt) o) no_stmt)))))) (handler_then (handler ((w 6) ∷ []) (stmt_then (SPut ((PWords (codes "RANGE") o) ∷ []) o) no_stmt) o) no_handler)) o) no_decl)))))); body = (body (stmt_then (SNull o) no_stmt) no_handler) }

selects_is_normal : normal_in selects ≡ selects_normal
unfolding digits
selects_is_normal = refl

-- These are its numbers, and it is legal.
selects_numbers : numbers_made selects ≡ numbers_in selects_normal
unfolding digits
selects_numbers = refl

selects_normal_is_legal : refusals selects_normal ≡ []
unfolding digits
selects_normal_is_legal = refl

selects_normal_is_checked : check_refusals selects_normal mode_of.Any ≡ []
unfolding digits
selects_normal_is_checked = refl

-- Both show the same, in 16 lists of at most 20 events.
selects_shows : show_the_same (shown_by selects [] 20) (shown_by selects_normal [] 20) ≡ true
unfolding digits
selects_shows = refl

selects_many : length (shown_by selects [] 20) ≡ 16
unfolding digits
selects_many = refl
