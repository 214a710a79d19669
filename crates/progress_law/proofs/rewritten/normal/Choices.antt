-- A member of an array of tasks that is chosen where a conditional call is made: a program and its normal form, as plain trees.
use Rattle.std.specs.Prelude.{◌≡◌, refl, codes, length, ◌++◌, ◌∷◌, [], true, false, None, Some}
use Rattle.std.specs.Fmt.{digits}
use Rattle.ada_tree.specs.NameList.{predefined}
use Rattle.ada_tree.specs.declared.expressions.BinaryOp.TheVariants as binary
use Rattle.ada_tree.specs.declared.statements.ParMode.TheVariants as mode
use Rattle.ada_tree.specs.PlainExpr.{EInteger, EBinary, RGiven, RMarked}
use Rattle.ada_tree.specs.PlainStmt.{PWords, PValue, SNull, SAssign, SCall, SAccept, SConditional, SPut, SIf, SCase, no_stmt, stmt_then, present, accepting, arm, no_arm, arm_then, case_arm, no_case_arm, case_arm_then, body, no_handler}
use Rattle.ada_tree.specs.PlainDecl.{OPlain, OArray, IOne, DObject, DEnumeration, DIntIo, DTask, DTaskBody, no_decl, decl_then}
use Rattle.ada_tree.specs.PlainProgram.{PProgram}
use Rattle.ada_static_rules.specs.Refusals.{refusals}
use Rattle.syn_event.specs.CheckRefusals.{check_refusals}
use Rattle.syn_event.specs.declared.numbering.Mode.TheVariants as mode_of
use Rattle.progress_law.specs.rewritten.normal.Showing.{show_the_same}
use Rattle.progress_law.proofs.rewritten.normal.Trees.{o, w, n, numbers_in, normal_in, numbers_made, shown_by}

-- An array of tasks over part of an enumeration, with a static index and with one that is not, and a conditional call.
--
-- procedure COLORS is
--    package INT_IO is new INTEGER_IO(INTEGER); use INT_IO;
--    type COLOR is (RED, GREEN, BLUE);
--    task type W is
--       pragma PRIORITY(3);
--       entry E(1 .. 2)(X : in out INTEGER);
--    end W;
--    R : array (COLOR range GREEN .. BLUE) of W;
--    task body W is
--       I : INTEGER := 1;
--    begin
--       accept E(I)(X : in out INTEGER) do
--          X := X + 1;
--       end E;
--    end W;
--    task B;
--    task body B is
--       C : COLOR := BLUE;
--       N : INTEGER := 5;
--    begin
--       R(GREEN).E(1)(N);
--       select
--          R(C).E(1)(N);
--          PUT(N);
--       else
--          PUT("ELSE");
--       end select;
--    end B;
-- begin
--    null;
-- end COLORS;
abbrev colors : PProgram
colors = record { names = (predefined ++ (codes "COLORS" ∷ codes "INT_IO" ∷ codes "COLOR" ∷ codes "RED" ∷ codes "GREEN" ∷ codes "BLUE" ∷ codes "W" ∷ codes "PRIORITY" ∷ codes "E" ∷ codes "X" ∷ codes "R" ∷ codes "I" ∷ codes "B" ∷ codes "C" ∷ codes "N" ∷ [])); text_io = false; name = (w 25); decls = (decl_then (DIntIo (w 26) o) (decl_then (DEnumeration (w 27) ((w 28) ∷ (w 29) ∷ (w 30) ∷ []) o) (decl_then (DTask (record { name = (w 31); of_kind = true; entries = ((record { name = (w 33); family = (Some (RGiven (record { first = (EInteger 1 o); last = (EInteger 2 o) }))); formals = ((record { names = ((w 34) ∷ []); mode = mode.Both; mark = (w 0) }) ∷ []); span = o }) ∷ []); priorities = ((record { place = 0; value = (EInteger 3 o) }) ∷ []) }) o) (decl_then (DObject ((w 35) ∷ []) false (OArray (RMarked (record { mark = (w 27); bounds = (Some (record { first = (n 29); last = (n 30) })) })) (record { mark = (w 31); bounds = None })) None o) (decl_then (DTaskBody (w 31) (decl_then (DObject ((w 36) ∷ []) false (OPlain (record { mark = (w 0); bounds = None })) (Some (IOne (EInteger 1 o))) o) no_decl) (body (stmt_then (SAccept (accepting (record { entry = (w 33); index = (Some (n 36)); formals = ((record { names = ((w 34) ∷ []); mode = mode.Both; mark = (w 0) }) ∷ []); span = o }) (present (stmt_then (SAssign (record { name = (w 34); index = None }) (EBinary binary.Plus (n 34) (EInteger 1 o) o) o) no_stmt))) o) no_stmt) no_handler) o) (decl_then (DTask (record { name = (w 37); of_kind = false; entries = []; priorities = [] }) o) (decl_then (DTaskBody (w 37) (decl_then (DObject ((w 38) ∷ []) false (OPlain (record { mark = (w 27); bounds = None })) (Some (IOne (n 30))) o) (decl_then (DObject ((w 39) ∷ []) false (OPlain (record { mark = (w 0); bounds = None })) (Some (IOne (EInteger 5 o))) o) no_decl)) (body (stmt_then (SCall (record { task = (record { name = (w 35); index = (Some (n 29)) }); entry = (w 33); args = (Some (record { first = ((EInteger 1 o) ∷ []); second = (Some ((n 39) ∷ [])) })) }) o) (stmt_then (SConditional (record { task = (record { name = (w 35); index = (Some (n 38)) }); entry = (w 33); args = (Some (record { first = ((EInteger 1 o) ∷ []); second = (Some ((n 39) ∷ [])) })) }) (stmt_then (SPut ((PValue (n 39)) ∷ []) o) no_stmt) (stmt_then (SPut ((PWords (codes "ELSE") o) ∷ []) o) no_stmt) o) no_stmt)) no_handler) o) no_decl))))))); body = (body (stmt_then (SNull o) no_stmt) no_handler) }

-- It is legal.
colors_is_legal : refusals colors ≡ []
unfolding digits
colors_is_legal = refl

colors_is_checked : check_refusals colors mode_of.Original ≡ []
unfolding digits
colors_is_checked = refl

-- Its normal form:
--
-- procedure COLORS is
--    package INT_IO is new INTEGER_IO(INTEGER); use INT_IO;
--    type COLOR is (RED, GREEN, BLUE);
--    task R_DED_1 is
--       pragma PRIORITY(3);
--       entry E(1 .. 2)(X : in out INTEGER);
--    end R_DED_1;
--    task R_DED_2 is
--       pragma PRIORITY(3);
--       entry E(1 .. 2)(X : in out INTEGER);
--    end R_DED_2;
--    task B;
--    task body R_DED_1 is
--       I : INTEGER := 1;
--       DED_V1 : INTEGER range 1 .. 2;
--    begin
--       DED_V1 := I;
--       accept E(DED_V1)(X : in out INTEGER) do
--          X := X + 1;
--       end E;
--    end R_DED_1;
--    task body R_DED_2 is
--       I : INTEGER := 1;
--       DED_V1 : INTEGER range 1 .. 2;
--    begin
--       DED_V1 := I;
--       accept E(DED_V1)(X : in out INTEGER) do
--          X := X + 1;
--       end E;
--    end R_DED_2;
--    task body B is
--       C : COLOR := BLUE;
--       N : INTEGER := 5;
--       DED_V1 : INTEGER range 1 .. 2;
--       DED_V2 : INTEGER;
--       DED_V3 : COLOR range GREEN .. BLUE;
--       DED_V4 : INTEGER range 1 .. 2;
--       DED_V5 : INTEGER;
--       DED_V6 : INTEGER;
--    begin
--       DED_V1 := 1;
--       DED_V2 := N;
--       R_DED_1.E(DED_V1)(DED_V2);
--       N := DED_V2;
--       DED_V3 := C;
--       DED_V4 := 1;
--       DED_V5 := N;
--       case DED_V3 is
--          when GREEN =>
--             select
--                R_DED_1.E(DED_V4)(DED_V5);
--                DED_V6 := 1;
--             else
--                DED_V6 := 2;
--             end select;
--          when BLUE =>
--             select
--                R_DED_2.E(DED_V4)(DED_V5);
--                DED_V6 := 1;
--             else
--                DED_V6 := 2;
--             end select;
--          when others =>
--             null;
--       end case;
--       if DED_V6 = 1 then
--          N := DED_V5;
--          PUT(N);
--       else
--          PUT("ELSE");
--       end if;
--    end B;
-- begin
--    null;
-- end COLORS;
abbrev colors_normal : PProgram
colors_normal = record { names = (predefined ++ (codes "COLORS" ∷ codes "INT_IO" ∷ codes "COLOR" ∷ codes "RED" ∷ codes "GREEN" ∷ codes "BLUE" ∷ codes "W" ∷ codes "PRIORITY" ∷ codes "E" ∷ codes "X" ∷ codes "R" ∷ codes "I" ∷ codes "B" ∷ codes "C" ∷ codes "N" ∷ codes "R_DED_1" ∷ codes "R_DED_2" ∷ codes "DED_V1" ∷ codes "DED_V2" ∷ codes "DED_V3" ∷ codes "DED_V4" ∷ codes "DED_V5" ∷ codes "DED_V6" ∷ [])); text_io = false; name = (w 25); decls = (decl_then (DIntIo (w 26) o) (decl_then (DEnumeration (w 27) ((w 28) ∷ (w 29) ∷ (w 30) ∷ []) o) (decl_then (DTask (record { name = (w 40); of_kind = false; entries = ((record { name = (w 33); family = (Some (RGiven (record { first = (EInteger 1 o); last = (EInteger 2 o) }))); formals = ((record { names = ((w 34) ∷ []); mode = mode.Both; mark = (w 0) }) ∷ []); span = o }) ∷ []); priorities = ((record { place = 0; value = (EInteger 3 o) }) ∷ []) }) o) (decl_then (DTask (record { name = (w 41); of_kind = false; entries = ((record { name = (w 33); family = (Some (RGiven (record { first = (EInteger 1 o); last = (EInteger 2 o) }))); formals = ((record { names = ((w 34) ∷ []); mode = mode.Both; mark = (w 0) }) ∷ []); span = o }) ∷ []); priorities = ((record { place = 0; value = (EInteger 3 o) }) ∷ []) }) o) (decl_then (DTask (record { name = (w 37); of_kind = false; entries = []; priorities = [] }) o) (decl_then (DTaskBody (w 40) (decl_then (DObject ((w 36) ∷ []) false (OPlain (record { mark = (w 0); bounds = None })) (Some (IOne (EInteger 1 o))) o) (decl_then (DObject ((w 42) ∷ []) false (OPlain (record { mark = (w 0); bounds = (Some (record { first = (EInteger 1 o); last = (EInteger 2 o) })) })) None o) no_decl)) (body (stmt_then (SAssign (record { name = (w 42); index = None }) (n 36) o) (stmt_then (SAccept (accepting (record { entry = (w 33); index = (Some (n 42)); formals = ((record { names = ((w 34) ∷ []); mode = mode.Both; mark = (w 0) }) ∷ []); span = o }) (present (stmt_then (SAssign (record { name = (w 34); index = None }) (EBinary binary.Plus (n 34) (EInteger 1 o) o) o) no_stmt))) o) no_stmt)) no_handler) o) (decl_then (DTaskBody (w 41) (decl_then (DObject ((w 36) ∷ []) false (OPlain (record { mark = (w 0); bounds = None })) (Some (IOne (EInteger 1 o))) o) (decl_then (DObject ((w 42) ∷ []) false (OPlain (record { mark = (w 0); bounds = (Some (record { first = (EInteger 1 o); last = (EInteger 2 o) })) })) None o) no_decl)) (body (stmt_then (SAssign (record { name = (w 42); index = None }) (n 36) o) (stmt_then (SAccept (accepting (record { entry = (w 33); index = (Some (n 42)); formals = ((record { names = ((w 34) ∷ []); mode = mode.Both; mark = (w 0) }) ∷ []); span = o }) (present (stmt_then (SAssign (record { name = (w 34); index = None }) (EBinary binary.Plus (n 34) (EInteger 1 o) o) o) no_stmt))) o) no_stmt)) no_handler) o) (decl_then (DTaskBody (w 37) (decl_then (DObject ((w 38) ∷ []) false (OPlain (record { mark = (w 27); bounds = None })) (Some (IOne (n 30))) o) (decl_then (DObject ((w 39) ∷ []) false (OPlain (record { mark = (w 0); bounds = None })) (Some (IOne (EInteger 5 o))) o) (decl_then (DObject ((w 42) ∷ []) false (OPlain (record { mark = (w 0); bounds = (Some (record { first = (EInteger 1 o); last = (EInteger 2 o) })) })) None o) (decl_then (DObject ((w 43) ∷ []) false (OPlain (record { mark = (w 0); bounds = None })) None o) (decl_then (DObject ((w 44) ∷ []) false (OPlain (record { mark = (w 27); bounds = (Some (record { first = (n 29); last = (n 30) })) })) None o) (decl_then (DObject ((w 45) ∷ []) false (OPlain (record { mark = (w 0); bounds = (Some (record { first = (EInteger 1 o); last = (EInteger 2 o) })) })) None o) (decl_then (DObject ((w 46) ∷ []) false (OPlain (record { mark = (w 0); bounds = None })) None o) (decl_then (DObject ((w 47) ∷ []) false (OPlain (record { mark = (w 0); bounds = None })) None o) no_decl)))))))) (body (stmt_then (SAssign (record { name = (w 42); index = None }) (EInteger 1 o) o) (stmt_then (SAssign (record { name = (w 43); index = None }) (n 39) o) (stmt_then (SCall (record { task = (record { name = (w 40); index = None }); entry = (w 33); args = (Some (record { first = ((n 42) ∷ []); second = (Some ((n 43) ∷ [])) })) }) o) (stmt_then (SAssign (record { name = (w 39); index = None }) (n 43) o) (stmt_then (SAssign (record { name = (w 44); index = None }) (n 38) o) (stmt_then (SAssign (record { name = (w 45); index = None }) (EInteger 1 o) o) (stmt_then (SAssign (record { name = (w 46); index = None }) (n 39) o) (stmt_then (SCase (n 44) (case_arm_then (case_arm ((record { first = (n 29); last = None }) ∷ []) (stmt_then (SConditional (record { task = (record { name = (w 40); index = None }); entry = (w 33); args = (Some (record { first = ((n 45) ∷ []); second = (Some ((n 46) ∷ [])) })) }) (stmt_then (SAssign (record { name = (w 47); index = None }) (EInteger 1 o) o) no_stmt) (stmt_then (SAssign (record { name = (w 47); index = None }) (EInteger 2 o) o) no_stmt) o) no_stmt)) (case_arm_then (case_arm ((record { first = (n 30); last = None }) ∷ []) (stmt_then (SConditional (record { task = (record { name = (w 41); index = None }); entry = (w 33); args = (Some (record { first = ((n 45) ∷ []); second = (Some ((n 46) ∷ [])) })) }) (stmt_then (SAssign (record { name = (w 47); index = None }) (EInteger 1 o) o) no_stmt) (stmt_then (SAssign (record { name = (w 47); index = None }) (EInteger 2 o) o) no_stmt) o) no_stmt)) no_case_arm)) (present (stmt_then (SNull o) no_stmt)) o) (stmt_then (SIf (arm_then (arm (EBinary binary.Equal (n 47) (EInteger 1 o) o) (stmt_then (SAssign (record { name = (w 39); index = None }) (n 46) o) (stmt_then (SPut ((PValue (n 39)) ∷ []) o) no_stmt))) no_arm) (present (stmt_then (SPut ((PWords (codes "ELSE") o) ∷ []) o) no_stmt)) o) no_stmt))))))))) no_handler) o) no_decl)))))))); body = (body (stmt_then (SNull o) no_stmt) no_handler) }

colors_is_normal : normal_in colors ≡ colors_normal
unfolding digits
colors_is_normal = refl

-- These are its numbers, and it is legal.
colors_numbers : numbers_made colors ≡ numbers_in colors_normal
unfolding digits
colors_numbers = refl

colors_normal_is_legal : refusals colors_normal ≡ []
unfolding digits
colors_normal_is_legal = refl

colors_normal_is_checked : check_refusals colors_normal mode_of.Any ≡ []
unfolding digits
colors_normal_is_checked = refl

-- Both show the same, in 50 lists of at most 10 events.
colors_shows : show_the_same (shown_by colors [] 10) (shown_by colors_normal [] 10) ≡ true
unfolding digits
colors_shows = refl

colors_many : length (shown_by colors [] 10) ≡ 50
unfolding digits
colors_many = refl
