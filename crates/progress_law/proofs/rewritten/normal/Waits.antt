-- Selective waits and accepts with guards and indices: programs and their normal forms, as plain trees.
use Rattle.std.specs.Prelude.{◌≡◌, refl, codes, length, ◌++◌, ◌∷◌, [], true, false, None, Some}
use Rattle.std.specs.Fmt.{digits}
use Rattle.ada_tree.specs.NameList.{predefined}
use Rattle.ada_tree.specs.declared.expressions.UnaryOp.TheVariants as unary
use Rattle.ada_tree.specs.declared.expressions.BinaryOp.TheVariants as binary
use Rattle.ada_tree.specs.declared.statements.ParMode.TheVariants as mode
use Rattle.ada_tree.specs.PlainExpr.{EInteger, EParen, EUnary, EBinary, RGiven, RMarked}
use Rattle.ada_tree.specs.PlainStmt.{PWords, PValue, SAssign, SExit, SRaise, SCall, SAccept, SWait, SPut, SIf, SBlock, SLoop, no_stmt, stmt_then, absent, present, accepting, alternative, AAccept, ADelay, ATerminate, no_alt, alt_then, arm, no_arm, arm_then, body, handler, no_handler, handler_then}
use Rattle.ada_tree.specs.PlainDecl.{OPlain, IOne, DObject, DIntIo, DTask, DTaskBody, no_decl, decl_then}
use Rattle.ada_tree.specs.PlainProgram.{PProgram}
use Rattle.ada_static_rules.specs.Refusals.{refusals}
use Rattle.syn_event.specs.CheckRefusals.{check_refusals}
use Rattle.syn_event.specs.declared.numbering.Mode.TheVariants as mode_of
use Rattle.progress_law.specs.rewritten.normal.Showing.{show_the_same}
use Rattle.progress_law.proofs.rewritten.normal.Trees.{o, w, n, numbers_in, normal_in, numbers_made, shown_by}

-- Selective waits whose alternatives all have guards, with an index under one of them.
--
-- procedure GUARDS is
--    task T is
--       entry E(1 .. 2);
--       entry F;
--    end T;
--    task body T is
--       I : INTEGER := 1;
--       B : BOOLEAN := TRUE;
--    begin
--       loop
--          select
--             when B =>
--                accept E(I) do
--                   PUT("E");
--                end E;
--                I := I + 1;
--          or
--             when I > 1 =>
--                accept F;
--                B := FALSE;
--                I := 1;
--          or
--             when not B =>
--                delay 2.0;
--                PUT("D");
--          end select;
--          exit when not B and I < 1;
--          I := I + 1;
--          B := B and I < 3;
--       end loop;
--    exception
--       when CONSTRAINT_ERROR =>
--          PUT("C");
--       when PROGRAM_ERROR =>
--          PUT("P");
--    end T;
-- begin
--    T.E(1);
--    T.F;
--    T.E(2);
-- end GUARDS;
abbrev guards : PProgram
guards = record { names = (predefined ++ (codes "GUARDS" ∷ codes "T" ∷ codes "E" ∷ codes "F" ∷ codes "I" ∷ codes "B" ∷ [])); text_io = false; name = (w 25); decls = (decl_then (DTask (record { name = (w 26); of_kind = false; entries = ((record { name = (w 27); family = (Some (RGiven (record { first = (EInteger 1 o); last = (EInteger 2 o) }))); formals = []; span = o }) ∷ (record { name = (w 28); family = None; formals = []; span = o }) ∷ []); priorities = [] }) o) (decl_then (DTaskBody (w 26) (decl_then (DObject ((w 29) ∷ []) false (OPlain (record { mark = (w 0); bounds = None })) (Some (IOne (EInteger 1 o))) o) (decl_then (DObject ((w 30) ∷ []) false (OPlain (record { mark = (w 3); bounds = None })) (Some (IOne (n 5))) o) no_decl)) (body (stmt_then (SLoop None None (stmt_then (SWait (alt_then (alternative (Some (n 30)) (AAccept (accepting (record { entry = (w 27); index = (Some (n 29)); formals = []; span = o }) (present (stmt_then (SPut ((PWords (codes "E") o) ∷ []) o) no_stmt))) (stmt_then (SAssign (record { name = (w 29); index = None }) (EBinary binary.Plus (n 29) (EInteger 1 o) o) o) no_stmt)) o) (alt_then (alternative (Some (EBinary binary.Greater (n 29) (EInteger 1 o) o)) (AAccept (accepting (record { entry = (w 28); index = None; formals = []; span = o }) absent) (stmt_then (SAssign (record { name = (w 30); index = None }) (n 4) o) (stmt_then (SAssign (record { name = (w 29); index = None }) (EInteger 1 o) o) no_stmt))) o) (alt_then (alternative (Some (EUnary unary.Not (n 30) o)) (ADelay 2000 (stmt_then (SPut ((PWords (codes "D") o) ∷ []) o) no_stmt)) o) no_alt))) absent o) (stmt_then (SExit None (Some (EBinary binary.And (EUnary unary.Not (n 30) o) (EBinary binary.Less (n 29) (EInteger 1 o) o) o)) o) (stmt_then (SAssign (record { name = (w 29); index = None }) (EBinary binary.Plus (n 29) (EInteger 1 o) o) o) (stmt_then (SAssign (record { name = (w 30); index = None }) (EBinary binary.And (n 30) (EBinary binary.Less (n 29) (EInteger 3 o) o) o) o) no_stmt)))) o) no_stmt) (handler_then (handler ((w 6) ∷ []) (stmt_then (SPut ((PWords (codes "C") o) ∷ []) o) no_stmt) o) (handler_then (handler ((w 8) ∷ []) (stmt_then (SPut ((PWords (codes "P") o) ∷ []) o) no_stmt) o) no_handler))) o) no_decl)); body = (body (stmt_then (SCall (record { task = (record { name = (w 26); index = None }); entry = (w 27); args = (Some (record { first = ((EInteger 1 o) ∷ []); second = None })) }) o) (stmt_then (SCall (record { task = (record { name = (w 26); index = None }); entry = (w 28); args = None }) o) (stmt_then (SCall (record { task = (record { name = (w 26); index = None }); entry = (w 27); args = (Some (record { first = ((EInteger 2 o) ∷ []); second = None })) }) o) no_stmt))) no_handler) }

-- It is legal.
guards_is_legal : refusals guards ≡ []
unfolding digits
guards_is_legal = refl

guards_is_checked : check_refusals guards mode_of.Original ≡ []
unfolding digits
guards_is_checked = refl

-- Its normal form:
--
-- procedure GUARDS is
--    DED_V1 : INTEGER range 1 .. 2;
--    DED_V2 : INTEGER range 1 .. 2;
--    task T is
--       entry E(1 .. 2);
--       entry F;
--    end T;
--    task body T is
--       I : INTEGER := 1;
--       B : BOOLEAN := TRUE;
--       DED_V1 : BOOLEAN;
--       DED_V2 : INTEGER range 1 .. 2;
--       DED_V3 : BOOLEAN;
--       DED_V4 : BOOLEAN;
--    begin
--       loop
--          DED_V1 := B;
--          if DED_V1 then
--             DED_V2 := I;
--          end if;
--          DED_V3 := I > 1;
--          DED_V4 := not B;
--          if not DED_V1 and not DED_V3 and not DED_V4 then
--             raise PROGRAM_ERROR;
--          end if;
--          select
--             when DED_V1 =>
--                accept E(DED_V2) do
--                   PUT("E");
--                end E;
--                I := I + 1;
--          or
--             when DED_V3 =>
--                accept F;
--                B := FALSE;
--                I := 1;
--          or
--             when DED_V4 =>
-- ..              (as in the text of `guards`, 14 lines: from "delay 2.0;" to "begin")
--    DED_V1 := 1;
--    T.E(DED_V1);
--    T.F;
--    DED_V2 := 2;
--    T.E(DED_V2);
-- end GUARDS;
abbrev guards_normal : PProgram
guards_normal = record { names = (predefined ++ (codes "GUARDS" ∷ codes "T" ∷ codes "E" ∷ codes "F" ∷ codes "I" ∷ codes "B" ∷ codes "DED_V1" ∷ codes "DED_V2" ∷ codes "DED_V3" ∷ codes "DED_V4" ∷ [])); text_io = false; name = (w 25); decls = (decl_then (DObject ((w 31) ∷ []) false (OPlain (record { mark = (w 0); bounds = (Some (record { first = (EInteger 1 o); last = (EInteger 2 o) })) })) None o) (decl_then (DObject ((w 32) ∷ []) false (OPlain (record { mark = (w 0); bounds = (Some (record { first = (EInteger 1 o); last = (EInteger 2 o) })) })) None o) (decl_then (DTask (record { name = (w 26); of_kind = false; entries = ((record { name = (w 27); family = (Some (RGiven (record { first = (EInteger 1 o); last = (EInteger 2 o) }))); formals = []; span = o }) ∷ (record { name = (w 28); family = None; formals = []; span = o }) ∷ []); priorities = [] }) o) (decl_then (DTaskBody (w 26) (decl_then (DObject ((w 29) ∷ []) false (OPlain (record { mark = (w 0); bounds = None })) (Some (IOne (EInteger 1 o))) o) (decl_then (DObject ((w 30) ∷ []) false (OPlain (record { mark = (w 3); bounds = None })) (Some (IOne (n 5))) o) (decl_then (DObject ((w 31) ∷ []) false (OPlain (record { mark = (w 3); bounds = None })) None o) (decl_then (DObject ((w 32) ∷ []) false (OPlain (record { mark = (w 0); bounds = (Some (record { first = (EInteger 1 o); last = (EInteger 2 o) })) })) None o) (decl_then (DObject ((w 33) ∷ []) false (OPlain (record { mark = (w 3); bounds = None })) None o) (decl_then (DObject ((w 34) ∷ []) false (OPlain (record { mark = (w 3); bounds = None })) None o) no_decl)))))) (body (stmt_then (SLoop None None (stmt_then (SAssign (record { name = (w 31); index = None }) (n 30) o) (stmt_then (SIf (arm_then (arm (n 31) (stmt_then (SAssign (record { name = (w 32); index = None }) (n 29) o) no_stmt)) no_arm) absent o) (stmt_then (SAssign (record { name = (w 33); index = None }) (EBinary binary.Greater (n 29) (EInteger 1 o) o) o) (stmt_then (SAssign (record { name = (w 34); index = None }) (EUnary unary.Not (n 30) o) o) (stmt_then (SIf (arm_then (arm (EBinary binary.And (EBinary binary.And (EUnary unary.Not (n 31) o) (EUnary unary.Not (n 33) o) o) (EUnary unary.Not (n 34) o) o) (stmt_then (SRaise (Some (w 8)) o) no_stmt)) no_arm) absent o) (stmt_then (SWait (alt_then (alternative (Some (n 31)) (AAccept (accepting (record { entry = (w 27); index = (Some (n 32)); formals = []; span = o }) (present (stmt_then (SPut ((PWords (codes "E") o) ∷ []) o) no_stmt))) (stmt_then (SAssign (record { name = (w 29); index = None }) (EBinary binary.Plus (n 29) (EInteger 1 o) o) o) no_stmt)) o) (alt_then (alternative (Some (n 33)) (AAccept (accepting (record { entry = (w 28); index = None; formals = []; span = o }) absent) (stmt_then (SAssign (record { name = (w 30); index = None }) (n 4) o) (stmt_then (SAssign (record { name = (w 29); index = None }) (EInteger 1 o) o) no_stmt))) o) (alt_then (alternative (Some (n 34)) (ADelay 2000 (stmt_then (SPut ((PWords (codes "D") o) ∷ []) o) no_stmt)) o) no_alt))) absent o) (stmt_then (SExit None (Some (EBinary binary.And (EUnary unary.Not (n 30) o) (EBinary binary.Less (n 29) (EInteger 1 o) o) o)) o) (stmt_then (SAssign (record { name = (w 29); index = None }) (EBinary binary.Plus (n 29) (EInteger 1 o) o) o) (stmt_then (SAssign (record { name = (w 30); index = None }) (EBinary binary.And (n 30) (EBinary binary.Less (n 29) (EInteger 3 o) o) o) o) no_stmt))))))))) o) no_stmt) (handler_then (handler ((w 6) ∷ []) (stmt_then (SPut ((PWords (codes "C") o) ∷ []) o) no_stmt) o) (handler_then (handler ((w 8) ∷ []) (stmt_then (SPut ((PWords (codes "P") o) ∷ []) o) no_stmt) o) no_handler))) o) no_decl)))); body = (body (stmt_then (SAssign (record { name = (w 31); index = None }) (EInteger 1 o) o) (stmt_then (SCall (record { task = (record { name = (w 26); index = None }); entry = (w 27); args = (Some (record { first = ((n 31) ∷ []); second = None })) }) o) (stmt_then (SCall (record { task = (record { name = (w 26); index = None }); entry = (w 28); args = None }) o) (stmt_then (SAssign (record { name = (w 32); index = None }) (EInteger 2 o) o) (stmt_then (SCall (record { task = (record { name = (w 26); index = None }); entry = (w 27); args = (Some (record { first = ((n 32) ∷ []); second = None })) }) o) no_stmt))))) no_handler) }

guards_is_normal : normal_in guards ≡ guards_normal
unfolding digits
guards_is_normal = refl

-- These are its numbers, and it is legal.
guards_numbers : numbers_made guards ≡ numbers_in guards_normal
unfolding digits
guards_numbers = refl

guards_normal_is_legal : refusals guards_normal ≡ []
unfolding digits
guards_normal_is_legal = refl

guards_normal_is_checked : check_refusals guards_normal mode_of.Any ≡ []
unfolding digits
guards_normal_is_checked = refl

-- Both show the same, in 192 lists of at most 20 events.
guards_shows : show_the_same (shown_by guards [] 20) (shown_by guards_normal [] 20) ≡ true
unfolding digits
guards_shows = refl

guards_many : length (shown_by guards [] 20) ≡ 192
unfolding digits
guards_many = refl

-- With `or` in place of `and` in the test in front of the wait the text shows something else.
abbrev guards_otherwise : PProgram
guards_otherwise = record { names = (predefined ++ (codes "GUARDS" ∷ codes "T" ∷ codes "E" ∷ codes "F" ∷ codes "I" ∷ codes "B" ∷ codes "DED_V1" ∷ codes "DED_V2" ∷ codes "DED_V3" ∷ codes "DED_V4" ∷ [])); text_io = false; name = (w 25); decls = (decl_then (DObject ((w 31) ∷ []) false (OPlain (record { mark = (w 0); bounds = (Some (record { first = (EInteger 1 o); last = (EInteger 2 o) })) })) None o) (decl_then (DObject ((w 32) ∷ []) false (OPlain (record { mark = (w 0); bounds = (Some (record { first = (EInteger 1 o); last = (EInteger 2 o) })) })) None o) (decl_then (DTask (record { name = (w 26); of_kind = false; entries = ((record { name = (w 27); family = (Some (RGiven (record { first = (EInteger 1 o); last = (EInteger 2 o) }))); formals = []; span = o }) ∷ (record { name = (w 28); family = None; formals = []; span = o }) ∷ []); priorities = [] }) o) (decl_then (DTaskBody (w 26) (decl_then (DObject ((w 29) ∷ []) false (OPlain (record { mark = (w 0); bounds = None })) (Some (IOne (EInteger 1 o))) o) (decl_then (DObject ((w 30) ∷ []) false (OPlain (record { mark = (w 3); bounds = None })) (Some (IOne (n 5))) o) (decl_then (DObject ((w 31) ∷ []) false (OPlain (record { mark = (w 3); bounds = None })) None o) (decl_then (DObject ((w 32) ∷ []) false (OPlain (record { mark = (w 0); bounds = (Some (record { first = (EInteger 1 o); last = (EInteger 2 o) })) })) None o) (decl_then (DObject ((w 33) ∷ []) false (OPlain (record { mark = (w 3); bounds = None })) None o) (decl_then (DObject ((w 34) ∷ []) false (OPlain (record { mark = (w 3); bounds = None })) None o) no_decl)))))) (body (stmt_then (SLoop None None (stmt_then (SAssign (record { name = (w 31); index = None }) (n 30) o) (stmt_then (SIf (arm_then (arm (n 31) (stmt_then (SAssign (record { name = (w 32); index = None }) (n 29) o) no_stmt)) no_arm) absent o) (stmt_then (SAssign (record { name = (w 33); index = None }) (EBinary binary.Greater (n 29) (EInteger 1 o) o) o) (stmt_then (SAssign (record { name = (w 34); index = None }) (EUnary unary.Not (n 30) o) o) (stmt_then (SIf (arm_then (arm (EBinary binary.Or (EBinary binary.Or (EUnary unary.Not (n 31) o) (EUnary unary.Not (n 33) o) o) (EUnary unary.Not (n 34) o) o) (stmt_then (SRaise (Some (w 8)) o) no_stmt)) no_arm) absent o) (stmt_then (SWait (alt_then (alternative (Some (n 31)) (AAccept (accepting (record { entry = (w 27); index = (Some (n 32)); formals = []; span = o }) (present (stmt_then (SPut ((PWords (codes "E") o) ∷ []) o) no_stmt))) (stmt_then (SAssign (record { name = (w 29); index = None }) (EBinary binary.Plus (n 29) (EInteger 1 o) o) o) no_stmt)) o) (alt_then (alternative (Some (n 33)) (AAccept (accepting (record { entry = (w 28); index = None; formals = []; span = o }) absent) (stmt_then (SAssign (record { name = (w 30); index = None }) (n 4) o) (stmt_then (SAssign (record { name = (w 29); index = None }) (EInteger 1 o) o) no_stmt))) o) (alt_then (alternative (Some (n 34)) (ADelay 2000 (stmt_then (SPut ((PWords (codes "D") o) ∷ []) o) no_stmt)) o) no_alt))) absent o) (stmt_then (SExit None (Some (EBinary binary.And (EUnary unary.Not (n 30) o) (EBinary binary.Less (n 29) (EInteger 1 o) o) o)) o) (stmt_then (SAssign (record { name = (w 29); index = None }) (EBinary binary.Plus (n 29) (EInteger 1 o) o) o) (stmt_then (SAssign (record { name = (w 30); index = None }) (EBinary binary.And (n 30) (EBinary binary.Less (n 29) (EInteger 3 o) o) o) o) no_stmt))))))))) o) no_stmt) (handler_then (handler ((w 6) ∷ []) (stmt_then (SPut ((PWords (codes "C") o) ∷ []) o) no_stmt) o) (handler_then (handler ((w 8) ∷ []) (stmt_then (SPut ((PWords (codes "P") o) ∷ []) o) no_stmt) o) no_handler))) o) no_decl)))); body = (body (stmt_then (SAssign (record { name = (w 31); index = None }) (EInteger 1 o) o) (stmt_then (SCall (record { task = (record { name = (w 26); index = None }); entry = (w 27); args = (Some (record { first = ((n 31) ∷ []); second = None })) }) o) (stmt_then (SCall (record { task = (record { name = (w 26); index = None }); entry = (w 28); args = None }) o) (stmt_then (SAssign (record { name = (w 32); index = None }) (EInteger 2 o) o) (stmt_then (SCall (record { task = (record { name = (w 26); index = None }); entry = (w 27); args = (Some (record { first = ((n 32) ∷ []); second = None })) }) o) no_stmt))))) no_handler) }

guards_differ : show_the_same (shown_by guards [] 3) (shown_by guards_otherwise [] 3) ≡ false
unfolding digits
guards_differ = refl

-- One closed alternative; a wait with an else part; one with an alternative that has no guard, and an index without guard.
--
-- procedure CLOSED is
--    task T is
--       entry E;
--       entry F(1 .. 2);
--    end T;
--    task A;
--    task body T is
--       N : INTEGER := 0;
--    begin
--       begin
--          select
--             when FALSE =>
--                accept E;
--          end select;
--       exception
--          when PROGRAM_ERROR =>
--             PUT("P");
--       end;
--       select
--          when N = 1 =>
--             accept E;
--       else
--          N := 2;
--       end select;
--       begin
--          select
--             when N = 2 =>
--                accept E;
--          or
--             accept F(N / (N - 2));
--          or
--             when TRUE =>
--                terminate;
--          end select;
--       exception
--          when NUMERIC_ERROR =>
--             PUT("N");
--       end;
--       select
--          accept F(N);
--       or
--          when N > 1 =>
--             accept E do
--                PUT("E");
--             end E;
--       end select;
--    end T;
--    task body A is
--    begin
--       T.E;
--    end A;
-- begin
--    T.F(2);
-- exception
--    when TASKING_ERROR =>
--       PUT("G");
-- end CLOSED;
abbrev closed : PProgram
closed = record { names = (predefined ++ (codes "CLOSED" ∷ codes "T" ∷ codes "E" ∷ codes "F" ∷ codes "A" ∷ codes "N" ∷ [])); text_io = false; name = (w 25); decls = (decl_then (DTask (record { name = (w 26); of_kind = false; entries = ((record { name = (w 27); family = None; formals = []; span = o }) ∷ (record { name = (w 28); family = (Some (RGiven (record { first = (EInteger 1 o); last = (EInteger 2 o) }))); formals = []; span = o }) ∷ []); priorities = [] }) o) (decl_then (DTask (record { name = (w 29); of_kind = false; entries = []; priorities = [] }) o) (decl_then (DTaskBody (w 26) (decl_then (DObject ((w 30) ∷ []) false (OPlain (record { mark = (w 0); bounds = None })) (Some (IOne (EInteger 0 o))) o) no_decl) (body (stmt_then (SBlock (body (stmt_then (SWait (alt_then (alternative (Some (n 4)) (AAccept (accepting (record { entry = (w 27); index = None; formals = []; span = o }) absent) no_stmt) o) no_alt) absent o) no_stmt) (handler_then (handler ((w 8) ∷ []) (stmt_then (SPut ((PWords (codes "P") o) ∷ []) o) no_stmt) o) no_handler)) o) (stmt_then (SWait (alt_then (alternative (Some (EBinary binary.Equal (n 30) (EInteger 1 o) o)) (AAccept (accepting (record { entry = (w 27); index = None; formals = []; span = o }) absent) no_stmt) o) no_alt) (present (stmt_then (SAssign (record { name = (w 30); index = None }) (EInteger 2 o) o) no_stmt)) o) (stmt_then (SBlock (body (stmt_then (SWait (alt_then (alternative (Some (EBinary binary.Equal (n 30) (EInteger 2 o) o)) (AAccept (accepting (record { entry = (w 27); index = None; formals = []; span = o }) absent) no_stmt) o) (alt_then (alternative None (AAccept (accepting (record { entry = (w 28); index = (Some (EBinary binary.Divide (n 30) (EParen (EBinary binary.Minus (n 30) (EInteger 2 o) o) o) o)); formals = []; span = o }) absent) no_stmt) o) (alt_then (alternative (Some (n 5)) ATerminate o) no_alt))) absent o) no_stmt) (handler_then (handler ((w 7) ∷ []) (stmt_then (SPut ((PWords (codes "N") o) ∷ []) o) no_stmt) o) no_handler)) o) (stmt_then (SWait (alt_then (alternative None (AAccept (accepting (record { entry = (w 28); index = (Some (n 30)); formals = []; span = o }) absent) no_stmt) o) (alt_then (alternative (Some (EBinary binary.Greater (n 30) (EInteger 1 o) o)) (AAccept (accepting (record { entry = (w 27); index = None; formals = []; span = o }) (present (stmt_then (SPut ((PWords (codes "E") o) ∷ []) o) no_stmt))) no_stmt) o) no_alt)) absent o) no_stmt)))) no_handler) o) (decl_then (DTaskBody (w 29) no_decl (body (stmt_then (SCall (record { task = (record { name = (w 26); index = None }); entry = (w 27); args = None }) o) no_stmt) no_handler) o) no_decl)))); body = (body (stmt_then (SCall (record { task = (record { name = (w 26); index = None }); entry = (w 28); args = (Some (record { first = ((EInteger 2 o) ∷ []); second = None })) }) o) no_stmt) (handler_then (handler ((w 9) ∷ []) (stmt_then (SPut ((PWords (codes "G") o) ∷ []) o) no_stmt) o) no_handler)) }

-- It is legal.
closed_is_legal : refusals closed ≡ []
unfolding digits
closed_is_legal = refl

closed_is_checked : check_refusals closed mode_of.Original ≡ []
unfolding digits
closed_is_checked = refl

-- Its normal form:
--
-- procedure CLOSED is
--    DED_V1 : INTEGER range 1 .. 2;
--    task T is
--       entry E;
--       entry F(1 .. 2);
--    end T;
--    task A;
--    task body T is
--       N : INTEGER := 0;
--       DED_V1 : BOOLEAN;
--       DED_V2 : BOOLEAN;
--       DED_V3 : BOOLEAN;
--       DED_V4 : INTEGER range 1 .. 2;
--       DED_V5 : BOOLEAN;
--       DED_V6 : INTEGER range 1 .. 2;
--       DED_V7 : BOOLEAN;
--    begin
--       begin
--          DED_V1 := FALSE;
--          if not DED_V1 then
--             raise PROGRAM_ERROR;
--          end if;
--          select
--             when DED_V1 =>
--                accept E;
--          end select;
--       exception
--          when PROGRAM_ERROR =>
--             PUT("P");
--       end;
--       DED_V2 := N = 1;
--       select
--          when DED_V2 =>
--             accept E;
--       else
--          N := 2;
--       end select;
--       begin
--          DED_V3 := N = 2;
--          DED_V4 := N / (N - 2);
--          DED_V5 := TRUE;
--          select
--             when DED_V3 =>
--                accept E;
--          or
--             accept F(DED_V4);
--          or
--             when DED_V5 =>
--                terminate;
--          end select;
--       exception
--          when NUMERIC_ERROR =>
--             PUT("N");
--       end;
--       DED_V6 := N;
--       DED_V7 := N > 1;
--       select
--          accept F(DED_V6);
--       or
--          when DED_V7 =>
-- ..           (as in the text of `closed`, 10 lines: from "accept E do" to "begin")
--    DED_V1 := 2;
--    T.F(DED_V1);
-- exception
--    when TASKING_ERROR =>
--       PUT("G");
-- end CLOSED;
abbrev closed_normal : PProgram
closed_normal = record { names = (predefined ++ (codes "CLOSED" ∷ codes "T" ∷ codes "E" ∷ codes "F" ∷ codes "A" ∷ codes "N" ∷ codes "DED_V1" ∷ codes "DED_V2" ∷ codes "DED_V3" ∷ codes "DED_V4" ∷ codes "DED_V5" ∷ codes "DED_V6" ∷ codes "DED_V7" ∷ [])); text_io = false; name = (w 25); decls = (decl_then (DObject ((w 31) ∷ []) false (OPlain (record { mark = (w 0); bounds = (Some (record { first = (EInteger 1 o); last = (EInteger 2 o) })) })) None o) (decl_then (DTask (record { name = (w 26); of_kind = false; entries = ((record { name = (w 27); family = None; formals = []; span = o }) ∷ (record { name = (w 28); family = (Some (RGiven (record { first = (EInteger 1 o); last = (EInteger 2 o) }))); formals = []; span = o }) ∷ []); priorities = [] }) o) (decl_then (DTask (record { name = (w 29); of_kind = false; entries = []; priorities = [] }) o) (decl_then (DTaskBody (w 26) (decl_then (DObject ((w 30) ∷ []) false (OPlain (record { mark = (w 0); bounds = None })) (Some (IOne (EInteger 0 o))) o) (decl_then (DObject ((w 31) ∷ []) false (OPlain (record { mark = (w 3); bounds = None })) None o) (decl_then (DObject ((w 32) ∷ []) false (OPlain (record { mark = (w 3); bounds = None })) None o) (decl_then (DObject ((w 33) ∷ []) false (OPlain (record { mark = (w 3); bounds = None })) None o) (decl_then (DObject ((w 34) ∷ []) false (OPlain (record { mark = (w 0); bounds = (Some (record { first = (EInteger 1 o); last = (EInteger 2 o) })) })) None o) (decl_then (DObject ((w 35) ∷ []) false (OPlain (record { mark = (w 3); bounds = None })) None o) (decl_then (DObject ((w 36) ∷ []) false (OPlain (record { mark = (w 0); bounds = (Some (record { first = (EInteger 1 o); last = (EInteger 2 o) })) })) None o) (decl_then (DObject ((w 37) ∷ []) false (OPlain (record { mark = (w 3); bounds = None })) None o) no_decl)))))))) (body (stmt_then (SBlock (body (stmt_then (SAssign (record { name = (w 31); index = None }) (n 4) o) (stmt_then (SIf (arm_then (arm (EUnary unary.Not (n 31) o) (stmt_then (SRaise (Some (w 8)) o) no_stmt)) no_arm) absent o) (stmt_then (SWait (alt_then (alternative (Some (n 31)) (AAccept (accepting (record { entry = (w 27); index = None; formals = []; span = o }) absent) no_stmt) o) no_alt) absent o) no_stmt))) (handler_then (handler ((w 8) ∷ []) (stmt_then (SPut ((PWords (codes "P") o) ∷ []) o) no_stmt) o) no_handler)) o) (stmt_then (SAssign (record { name = (w 32); index = None }) (EBinary binary.Equal (n 30) (EInteger 1 o) o) o) (stmt_then (SWait (alt_then (alternative (Some (n 32)) (AAccept (accepting (record { entry = (w 27); index = None; formals = []; span = o }) absent) no_stmt) o) no_alt) (present (stmt_then (SAssign (record { name = (w 30); index = None }) (EInteger 2 o) o) no_stmt)) o) (stmt_then (SBlock (body (stmt_then (SAssign (record { name = (w 33); index = None }) (EBinary binary.Equal (n 30) (EInteger 2 o) o) o) (stmt_then (SAssign (record { name = (w 34); index = None }) (EBinary binary.Divide (n 30) (EParen (EBinary binary.Minus (n 30) (EInteger 2 o) o) o) o) o) (stmt_then (SAssign (record { name = (w 35); index = None }) (n 5) o) (stmt_then (SWait (alt_then (alternative (Some (n 33)) (AAccept (accepting (record { entry = (w 27); index = None; formals = []; span = o }) absent) no_stmt) o) (alt_then (alternative None (AAccept (accepting (record { entry = (w 28); index = (Some (n 34)); formals = []; span = o }) absent) no_stmt) o) (alt_then (alternative (Some (n 35)) ATerminate o) no_alt))) absent o) no_stmt)))) (handler_then (handler ((w 7) ∷ []) (stmt_then (SPut ((PWords (codes "N") o) ∷ []) o) no_stmt) o) no_handler)) o) (stmt_then (SAssign (record { name = (w 36); index = None }) (n 30) o) (stmt_then (SAssign (record { name = (w 37); index = None }) (EBinary binary.Greater (n 30) (EInteger 1 o) o) o) (stmt_then (SWait (alt_then (alternative None (AAccept (accepting (record { entry = (w 28); index = (Some (n 36)); formals = []; span = o }) absent) no_stmt) o) (alt_then (alternative (Some (n 37)) (AAccept (accepting (record { entry = (w 27); index = None; formals = []; span = o }) (present (stmt_then (SPut ((PWords (codes "E") o) ∷ []) o) no_stmt))) no_stmt) o) no_alt)) absent o) no_stmt))))))) no_handler) o) (decl_then (DTaskBody (w 29) no_decl (body (stmt_then (SCall (record { task = (record { name = (w 26); index = None }); entry = (w 27); args = None }) o) no_stmt) no_handler) o) no_decl))))); body = (body (stmt_then (SAssign (record { name = (w 31); index = None }) (EInteger 2 o) o) (stmt_then (SCall (record { task = (record { name = (w 26); index = None }); entry = (w 28); args = (Some (record { first = ((n 31) ∷ []); second = None })) }) o) no_stmt)) (handler_then (handler ((w 9) ∷ []) (stmt_then (SPut ((PWords (codes "G") o) ∷ []) o) no_stmt) o) no_handler)) }

closed_is_normal : normal_in closed ≡ closed_normal
unfolding digits
closed_is_normal = refl

-- These are its numbers, and it is legal.
closed_numbers : numbers_made closed ≡ numbers_in closed_normal
unfolding digits
closed_numbers = refl

closed_normal_is_legal : refusals closed_normal ≡ []
unfolding digits
closed_normal_is_legal = refl

closed_normal_is_checked : check_refusals closed_normal mode_of.Any ≡ []
unfolding digits
closed_normal_is_checked = refl

-- Both show the same, in 21 lists of at most 20 events.
closed_shows : show_the_same (shown_by closed [] 20) (shown_by closed_normal [] 20) ≡ true
unfolding digits
closed_shows = refl

closed_many : length (shown_by closed [] 20) ≡ 21
unfolding digits
closed_many = refl

-- Numbers go in the order of the text: an alternative's guard and index, what stands in its accept body and behind it, and then the next
-- alternative's. Accept bodies stand in accept bodies.
--
-- procedure NESTED is
--    package INT_IO is new INTEGER_IO(INTEGER); use INT_IO;
--    task S is
--       entry G(X : in INTEGER; Y : out INTEGER);
--    end S;
--    task T is
--       entry E(1 .. 3)(X : in out INTEGER);
--       entry F(NATURAL range 0 .. 1)(Y : in INTEGER);
--       entry H;
--    end T;
--    task A;
--    task body S is
--    begin
--       loop
--          select
--             accept G(X : in INTEGER; Y : out INTEGER) do
--                Y := X + 1;
--             end G;
--          or
--             terminate;
--          end select;
--       end loop;
--    end S;
--    task body T is
--       I, N : INTEGER := 1;
--    begin
--       select
--          when N = 1 =>
--             accept E(I + 1)(X : in out INTEGER) do
--                S.G(X, X);
--                accept F(N - 1)(Y : in INTEGER) do
--                   N := Y;
--                   PUT(N);
--                end F;
--             end E;
--             S.G(N, N);
--       or
--          when N > 1 =>
--             accept H;
--       else
--          S.G(I, N);
--       end select;
--       PUT(N);
--    exception
--       when CONSTRAINT_ERROR =>
--          S.G(9, N);
--          PUT(N);
--    end T;
--    task body A is
--       V : INTEGER := 20;
--    begin
--       T.E(2)(V);
--       PUT(V);
--    end A;
-- begin
--    T.F(0)(7);
-- end NESTED;
abbrev nested : PProgram
nested = record { names = (predefined ++ (codes "NESTED" ∷ codes "INT_IO" ∷ codes "S" ∷ codes "G" ∷ codes "X" ∷ codes "Y" ∷ codes "T" ∷ codes "E" ∷ codes "F" ∷ codes "H" ∷ codes "A" ∷ codes "I" ∷ codes "N" ∷ codes "V" ∷ [])); text_io = false; name = (w 25); decls = (decl_then (DIntIo (w 26) o) (decl_then (DTask (record { name = (w 27); of_kind = false; entries = ((record { name = (w 28); family = None; formals = ((record { names = ((w 29) ∷ []); mode = mode.Take; mark = (w 0) }) ∷ (record { names = ((w 30) ∷ []); mode = mode.Give; mark = (w 0) }) ∷ []); span = o }) ∷ []); priorities = [] }) o) (decl_then (DTask (record { name = (w 31); of_kind = false; entries = ((record { name = (w 32); family = (Some (RGiven (record { first = (EInteger 1 o); last = (EInteger 3 o) }))); formals = ((record { names = ((w 29) ∷ []); mode = mode.Both; mark = (w 0) }) ∷ []); span = o }) ∷ (record { name = (w 33); family = (Some (RMarked (record { mark = (w 1); bounds = (Some (record { first = (EInteger 0 o); last = (EInteger 1 o) })) }))); formals = ((record { names = ((w 30) ∷ []); mode = mode.Take; mark = (w 0) }) ∷ []); span = o }) ∷ (record { name = (w 34); family = None; formals = []; span = o }) ∷ []); priorities = [] }) o) (decl_then (DTask (record { name = (w 35); of_kind = false; entries = []; priorities = [] }) o) (decl_then (DTaskBody (w 27) no_decl (body (stmt_then (SLoop None None (stmt_then (SWait (alt_then (alternative None (AAccept (accepting (record { entry = (w 28); index = None; formals = ((record { names = ((w 29) ∷ []); mode = mode.Take; mark = (w 0) }) ∷ (record { names = ((w 30) ∷ []); mode = mode.Give; mark = (w 0) }) ∷ []); span = o }) (present (stmt_then (SAssign (record { name = (w 30); index = None }) (EBinary binary.Plus (n 29) (EInteger 1 o) o) o) no_stmt))) no_stmt) o) (alt_then (alternative None ATerminate o) no_alt)) absent o) no_stmt) o) no_stmt) no_handler) o) (decl_then (DTaskBody (w 31) (decl_then (DObject ((w 36) ∷ (w 37) ∷ []) false (OPlain (record { mark = (w 0); bounds = None })) (Some (IOne (EInteger 1 o))) o) no_decl) (body (stmt_then (SWait (alt_then (alternative (Some (EBinary binary.Equal (n 37) (EInteger 1 o) o)) (AAccept (accepting (record { entry = (w 32); index = (Some (EBinary binary.Plus (n 36) (EInteger 1 o) o)); formals = ((record { names = ((w 29) ∷ []); mode = mode.Both; mark = (w 0) }) ∷ []); span = o }) (present (stmt_then (SCall (record { task = (record { name = (w 27); index = None }); entry = (w 28); args = (Some (record { first = ((n 29) ∷ (n 29) ∷ []); second = None })) }) o) (stmt_then (SAccept (accepting (record { entry = (w 33); index = (Some (EBinary binary.Minus (n 37) (EInteger 1 o) o)); formals = ((record { names = ((w 30) ∷ []); mode = mode.Take; mark = (w 0) }) ∷ []); span = o }) (present (stmt_then (SAssign (record { name = (w 37); index = None }) (n 30) o) (stmt_then (SPut ((PValue (n 37)) ∷ []) o) no_stmt)))) o) no_stmt)))) (stmt_then (SCall (record { task = (record { name = (w 27); index = None }); entry = (w 28); args = (Some (record { first = ((n 37) ∷ (n 37) ∷ []); second = None })) }) o) no_stmt)) o) (alt_then (alternative (Some (EBinary binary.Greater (n 37) (EInteger 1 o) o)) (AAccept (accepting (record { entry = (w 34); index = None; formals = []; span = o }) absent) no_stmt) o) no_alt)) (present (stmt_then (SCall (record { task = (record { name = (w 27); index = None }); entry = (w 28); args = (Some (record { first = ((n 36) ∷ (n 37) ∷ []); second = None })) }) o) no_stmt)) o) (stmt_then (SPut ((PValue (n 37)) ∷ []) o) no_stmt)) (handler_then (handler ((w 6) ∷ []) (stmt_then (SCall (record { task = (record { name = (w 27); index = None }); entry = (w 28); args = (Some (record { first = ((EInteger 9 o) ∷ (n 37) ∷ []); second = None })) }) o) (stmt_then (SPut ((PValue (n 37)) ∷ []) o) no_stmt)) o) no_handler)) o) (decl_then (DTaskBody (w 35) (decl_then (DObject ((w 38) ∷ []) false (OPlain (record { mark = (w 0); bounds = None })) (Some (IOne (EInteger 20 o))) o) no_decl) (body (stmt_then (SCall (record { task = (record { name = (w 31); index = None }); entry = (w 32); args = (Some (record { first = ((EInteger 2 o) ∷ []); second = (Some ((n 38) ∷ [])) })) }) o) (stmt_then (SPut ((PValue (n 38)) ∷ []) o) no_stmt)) no_handler) o) no_decl))))))); body = (body (stmt_then (SCall (record { task = (record { name = (w 31); index = None }); entry = (w 33); args = (Some (record { first = ((EInteger 0 o) ∷ []); second = (Some ((EInteger 7 o) ∷ [])) })) }) o) no_stmt) no_handler) }

-- It is legal.
nested_is_legal : refusals nested ≡ []
unfolding digits
nested_is_legal = refl

nested_is_checked : check_refusals nested mode_of.Original ≡ []
unfolding digits
nested_is_checked = refl

-- Its normal form:
--
-- procedure NESTED is
--    package INT_IO is new INTEGER_IO(INTEGER); use INT_IO;
--    DED_V1 : NATURAL range 0 .. 1;
--    DED_V2 : INTEGER;
-- ..  (as in the text of `nested`, 23 lines: from "task S is" to "I, N : INTEGER := 1;")
--       DED_V1 : BOOLEAN;
--       DED_V2 : INTEGER range 1 .. 3;
--       DED_V3 : INTEGER;
--       DED_V4 : INTEGER;
--       DED_V5 : NATURAL range 0 .. 1;
--       DED_V6 : INTEGER;
--       DED_V7 : INTEGER;
--       DED_V8 : BOOLEAN;
--       DED_V9 : INTEGER;
--       DED_V10 : INTEGER;
--       DED_V11 : INTEGER;
--       DED_V12 : INTEGER;
--    begin
--       DED_V1 := N = 1;
--       if DED_V1 then
--          DED_V2 := I + 1;
--       end if;
--       DED_V8 := N > 1;
--       select
--          when DED_V1 =>
--             accept E(DED_V2)(X : in out INTEGER) do
--                DED_V3 := X;
--                S.G(DED_V3, DED_V4);
--                X := DED_V4;
--                DED_V5 := N - 1;
--                accept F(DED_V5)(Y : in INTEGER) do
--                   N := Y;
--                   PUT(N);
--                end F;
--             end E;
--             DED_V6 := N;
--             S.G(DED_V6, DED_V7);
--             N := DED_V7;
--       or
--          when DED_V8 =>
--             accept H;
--       else
--          DED_V9 := I;
--          S.G(DED_V9, DED_V10);
--          N := DED_V10;
--       end select;
--       PUT(N);
--    exception
--       when CONSTRAINT_ERROR =>
--          DED_V11 := 9;
--          S.G(DED_V11, DED_V12);
--          N := DED_V12;
--          PUT(N);
--    end T;
--    task body A is
--       V : INTEGER := 20;
--       DED_V1 : INTEGER range 1 .. 3;
--       DED_V2 : INTEGER;
--    begin
--       DED_V1 := 2;
--       DED_V2 := V;
--       T.E(DED_V1)(DED_V2);
--       V := DED_V2;
--       PUT(V);
--    end A;
-- begin
--    DED_V1 := 0;
--    DED_V2 := 7;
--    T.F(DED_V1)(DED_V2);
-- end NESTED;
abbrev nested_normal : PProgram
nested_normal = record { names = (predefined ++ (codes "NESTED" ∷ codes "INT_IO" ∷ codes "S" ∷ codes "G" ∷ codes "X" ∷ codes "Y" ∷ codes "T" ∷ codes "E" ∷ codes "F" ∷ codes "H" ∷ codes "A" ∷ codes "I" ∷ codes "N" ∷ codes "V" ∷ codes "DED_V1" ∷ codes "DED_V2" ∷ codes "DED_V3" ∷ codes "DED_V4" ∷ codes "DED_V5" ∷ codes "DED_V6" ∷ codes "DED_V7" ∷ codes "DED_V8" ∷ codes "DED_V9" ∷ codes "DED_V10" ∷ codes "DED_V11" ∷ codes "DED_V12" ∷ [])); text_io = false; name = (w 25); decls = (decl_then (DIntIo (w 26) o) (decl_then (DObject ((w 39) ∷ []) false (OPlain (record { mark = (w 1); bounds = (Some (record { first = (EInteger 0 o); last = (EInteger 1 o) })) })) None o) (decl_then (DObject ((w 40) ∷ []) false (OPlain (record { mark = (w 0); bounds = None })) None o) (decl_then (DTask (record { name = (w 27); of_kind = false; entries = ((record { name = (w 28); family = None; formals = ((record { names = ((w 29) ∷ []); mode = mode.Take; mark = (w 0) }) ∷ (record { names = ((w 30) ∷ []); mode = mode.Give; mark = (w 0) }) ∷ []); span = o }) ∷ []); priorities = [] }) o) (decl_then (DTask (record { name = (w 31); of_kind = false; entries = ((record { name = (w 32); family = (Some (RGiven (record { first = (EInteger 1 o); last = (EInteger 3 o) }))); formals = ((record { names = ((w 29) ∷ []); mode = mode.Both; mark = (w 0) }) ∷ []); span = o }) ∷ (record { name = (w 33); family = (Some (RMarked (record { mark = (w 1); bounds = (Some (record { first = (EInteger 0 o); last = (EInteger 1 o) })) }))); formals = ((record { names = ((w 30) ∷ []); mode = mode.Take; mark = (w 0) }) ∷ []); span = o }) ∷ (record { name = (w 34); family = None; formals = []; span = o }) ∷ []); priorities = [] }) o) (decl_then (DTask (record { name = (w 35); of_kind = false; entries = []; priorities = [] }) o) (decl_then (DTaskBody (w 27) no_decl (body (stmt_then (SLoop None None (stmt_then (SWait (alt_then (alternative None (AAccept (accepting (record { entry = (w 28); index = None; formals = ((record { names = ((w 29) ∷ []); mode = mode.Take; mark = (w 0) }) ∷ (record { names = ((w 30) ∷ []); mode = mode.Give; mark = (w 0) }) ∷ []); span = o }) (present (stmt_then (SAssign (record { name = (w 30); index = None }) (EBinary binary.Plus (n 29) (EInteger 1 o) o) o) no_stmt))) no_stmt) o) (alt_then (alternative None ATerminate o) no_alt)) absent o) no_stmt) o) no_stmt) no_handler) o) (decl_then (DTaskBody (w 31) (decl_then (DObject ((w 36) ∷ (w 37) ∷ []) false (OPlain (record { mark = (w 0); bounds = None })) (Some (IOne (EInteger 1 o))) o) (decl_then (DObject ((w 39) ∷ []) false (OPlain (record { mark = (w 3); bounds = None })) None o) (decl_then (DObject ((w 40) ∷ []) false (OPlain (record { mark = (w 0); bounds = (Some (record { first = (EInteger 1 o); last = (EInteger 3 o) })) })) None o) (decl_then (DObject ((w 41) ∷ []) false (OPlain (record { mark = (w 0); bounds = None })) None o) (decl_then (DObject ((w 42) ∷ []) false (OPlain (record { mark = (w 0); bounds = None })) None o) (decl_then (DObject ((w 43) ∷ []) false (OPlain (record { mark = (w 1); bounds = (Some (record { first = (EInteger 0 o); last = (EInteger 1 o) })) })) None o) (decl_then (DObject ((w 44) ∷ []) false (OPlain (record { mark = (w 0); bounds = None })) None o) (decl_then (DObject ((w 45) ∷ []) false (OPlain (record { mark = (w 0); bounds = None })) None o) (decl_then (DObject ((w 46) ∷ []) false (OPlain (record { mark = (w 3); bounds = None })) None o) (decl_then (DObject ((w 47) ∷ []) false (OPlain (record { mark = (w 0); bounds = None })) None o) (decl_then (DObject ((w 48) ∷ []) false (OPlain (record { mark = (w 0); bounds = None })) None o) (decl_then (DObject ((w 49) ∷ []) false (OPlain (record { mark = (w 0); bounds = None })) None o) (decl_then (DObject ((w 50) ∷ []) false (OPlain (record { mark = (w 0); bounds = None })) None o) no_decl))))))))))))) (body (stmt_then (SAssign (record { name = (w 39); index = None }) (EBinary binary.Equal (n 37) (EInteger 1 o) o) o) (stmt_then (SIf (arm_then (arm (n 39) (stmt_then (SAssign (record { name = (w 40); index = None }) (EBinary binary.Plus (n 36) (EInteger 1 o) o) o) no_stmt)) no_arm) absent o) (stmt_then (SAssign (record { name = (w 46); index = None }) (EBinary binary.Greater (n 37) (EInteger 1 o) o) o) (stmt_then (SWait (alt_then (alternative (Some (n 39)) (AAccept (accepting (record { entry = (w 32); index = (Some (n 40)); formals = ((record { names = ((w 29) ∷ []); mode = mode.Both; mark = (w 0) }) ∷ []); span = o }) (present (stmt_then (SAssign (record { name = (w 41); index = None }) (n 29) o) (stmt_then (SCall (record { task = (record { name = (w 27); index = None }); entry = (w 28); args = (Some (record { first = ((n 41) ∷ (n 42) ∷ []); second = None })) }) o) (stmt_then (SAssign (record { name = (w 29); index = None }) (n 42) o) (stmt_then (SAssign (record { name = (w 43); index = None }) (EBinary binary.Minus (n 37) (EInteger 1 o) o) o) (stmt_then (SAccept (accepting (record { entry = (w 33); index = (Some (n 43)); formals = ((record { names = ((w 30) ∷ []); mode = mode.Take; mark = (w 0) }) ∷ []); span = o }) (present (stmt_then (SAssign (record { name = (w 37); index = None }) (n 30) o) (stmt_then (SPut ((PValue (n 37)) ∷ []) o) no_stmt)))) o) no_stmt))))))) (stmt_then (SAssign (record { name = (w 44); index = None }) (n 37) o) (stmt_then (SCall (record { task = (record { name = (w 27); index = None }); entry = (w 28); args = (Some (record { first = ((n 44) ∷ (n 45) ∷ []); second = None })) }) o) (stmt_then (SAssign (record { name = (w 37); index = None }) (n 45) o) no_stmt)))) o) (alt_then (alternative (Some (n 46)) (AAccept (accepting (record { entry = (w 34); index = None; formals = []; span = o }) absent) no_stmt) o) no_alt)) (present (stmt_then (SAssign (record { name = (w 47); index = None }) (n 36) o) (stmt_then (SCall (record { task = (record { name = (w 27); index = None }); entry = (w 28); args = (Some (record { first = ((n 47) ∷ (n 48) ∷ []); second = None })) }) o) (stmt_then (SAssign (record { name = (w 37); index = None }) (n 48) o) no_stmt)))) o) (stmt_then (SPut ((PValue (n 37)) ∷ []) o) no_stmt))))) (handler_then (handler ((w 6) ∷ []) (stmt_then (SAssign (record { name = (w 49); index = None }) (EInteger 9 o) o) (stmt_then (SCall (record { task = (record { name = (w 27); index = None }); entry = (w 28); args = (Some (record { first = ((n 49) ∷ (n 50) ∷ []); second = None })) }) o) (stmt_then (SAssign (record { name = (w 37); index = None }) (n 50) o) (stmt_then (SPut ((PValue (n 37)) ∷ []) o) no_stmt)))) o) no_handler)) o) (decl_then (DTaskBody (w 35) (decl_then (DObject ((w 38) ∷ []) false (OPlain (record { mark = (w 0); bounds = None })) (Some (IOne (EInteger 20 o))) o) (decl_then (DObject ((w 39) ∷ []) false (OPlain (record { mark = (w 0); bounds = (Some (record { first = (EInteger 1 o); last = (EInteger 3 o) })) })) None o) (decl_then (DObject ((w 40) ∷ []) false (OPlain (record { mark = (w 0); bounds = None })) None o) no_decl))) (body (stmt_then (SAssign (record { name = (w 39); index = None }) (EInteger 2 o) o) (stmt_then (SAssign (record { name = (w 40); index = None }) (n 38) o) (stmt_then (SCall (record { task = (record { name = (w 31); index = None }); entry = (w 32); args = (Some (record { first = ((n 39) ∷ []); second = (Some ((n 40) ∷ [])) })) }) o) (stmt_then (SAssign (record { name = (w 38); index = None }) (n 40) o) (stmt_then (SPut ((PValue (n 38)) ∷ []) o) no_stmt))))) no_handler) o) no_decl))))))))); body = (body (stmt_then (SAssign (record { name = (w 39); index = None }) (EInteger 0 o) o) (stmt_then (SAssign (record { name = (w 40); index = None }) (EInteger 7 o) o) (stmt_then (SCall (record { task = (record { name = (w 31); index = None }); entry = (w 33); args = (Some (record { first = ((n 39) ∷ []); second = (Some ((n 40) ∷ [])) })) }) o) no_stmt))) no_handler) }

nested_is_normal : normal_in nested ≡ nested_normal
unfolding digits
nested_is_normal = refl

-- These are its numbers, and it is legal.
nested_numbers : numbers_made nested ≡ numbers_in nested_normal
unfolding digits
nested_numbers = refl

nested_normal_is_legal : refusals nested_normal ≡ []
unfolding digits
nested_normal_is_legal = refl

nested_normal_is_checked : check_refusals nested_normal mode_of.Any ≡ []
unfolding digits
nested_normal_is_checked = refl

-- Both show the same, in 39 lists of at most 12 events.
nested_shows : show_the_same (shown_by nested [] 12) (shown_by nested_normal [] 12) ≡ true
unfolding digits
nested_shows = refl

nested_many : length (shown_by nested [] 12) ≡ 39
unfolding digits
nested_many = refl
