-- An array of tasks, one of which is chosen where it is called.
use Rattle.std.specs.Prelude.{◌≡◌, refl, codes, ◌++◌, ◌∷◌, [], List, length, true, false, None, Some, pos}
use Rattle.std.specs.Fmt.{digits}
use Rattle.ada_tree.specs.NameList.{predefined}
use Rattle.ada_tree.specs.declared.expressions.BinaryOp.TheVariants as binary
use Rattle.ada_tree.specs.declared.statements.ParMode.TheVariants as mode
use Rattle.ada_tree.specs.PlainExpr.{EInteger, EBinary, RGiven, EIndex}
use Rattle.ada_tree.specs.PlainStmt.{SNull, SAssign, SRaise, SCall, SAccept, SWait, SIf, SCase, SBlock, no_stmt, stmt_then, absent, present, accepting, alternative, AAccept, ATerminate, no_alt, alt_then, arm, no_arm, arm_then, case_arm, no_case_arm, case_arm_then, body, handler, no_handler, handler_then, LFor, SLoop}
use Rattle.ada_tree.specs.PlainDecl.{OPlain, OArray, IOne, DObject, DTask, DTaskBody, no_decl, decl_then, IList}
use Rattle.ada_tree.specs.PlainProgram.{PProgram}
use Rattle.ada_static_rules.specs.Refusals.{refusals}
use Rattle.event_machine.specs.declared.Event.{Event}
use Rattle.event_machine.specs.declared.Event.TheVariants as event
use Rattle.syn_event.specs.CheckRefusals.{check_refusals}
use Rattle.syn_event.specs.declared.numbering.Mode.TheVariants as mode_of
use Rattle.progress_law.specs.rewritten.replay.Fronts.{shows_fronts, shows_whole, ends_alike}
use Rattle.progress_law.proofs.rewritten.replay.Trees.{o, w, n, numbers_in, replay_in, replay_numbers_in, shown_by}

-- procedure ROW is
--    task type S is
--       entry E;
--    end S;
--    R : array (1 .. 2) of S;
--    K : INTEGER := 2;
--    task body S is
--    begin
--       accept E;
--    end S;
-- begin
--    R(K).E;
--    R(1).E;
-- end ROW;
abbrev row : PProgram
row = record { names = (predefined ++ (codes "ROW" ∷ codes "S" ∷ codes "E" ∷ codes "R" ∷ codes "K" ∷ [])); text_io = false; name = (w 25); decls = (decl_then (DTask (record { name = (w 26); of_kind = true; entries = ((record { name = (w 27); family = None; formals = ([]); span = o }) ∷ []); priorities = ([]) }) o) (decl_then (DObject ((w 28) ∷ []) false (OArray (RGiven (record { first = (EInteger 1 o); last = (EInteger 2 o) })) (record { mark = (w 26); bounds = None })) None o) (decl_then (DObject ((w 29) ∷ []) false (OPlain (record { mark = (w 0); bounds = None })) (Some (IOne (EInteger 2 o))) o) (decl_then (DTaskBody (w 26) no_decl (body (stmt_then (SAccept (accepting (record { entry = (w 27); index = None; formals = ([]); span = o }) absent) o) no_stmt) no_handler) o) no_decl)))); body = (body (stmt_then (SCall (record { task = (record { name = (w 28); index = (Some (n 29)) }); entry = (w 27); args = None }) o) (stmt_then (SCall (record { task = (record { name = (w 28); index = (Some (EInteger 1 o)) }); entry = (w 27); args = None }) o) no_stmt)) no_handler) }

-- It is legal.
row_is_legal : refusals row ≡ []
unfolding digits
row_is_legal = refl

row_is_checked : check_refusals row mode_of.Original ≡ []
unfolding digits
row_is_checked = refl

-- The sequence: R 0 2 0, E 2, R 0 1 0, E 1, X 1, X 2, Z.
abbrev row_events : List Event
row_events = event.R 0 2 (pos 0) ∷ event.E 2 ∷ event.R 0 1 (pos 0) ∷ event.E 1 ∷ event.X 1 ∷ event.X 2 ∷ event.Z ∷ []

-- Its replay text:
--
-- procedure ROW is
--    K : INTEGER := 2;
--    DED_K, DED_A, DED_I : INTEGER := 0;
--    DED_V1 : INTEGER range 1 .. 2;
--    task R_DED_1 is
--       entry E;
--       entry DED_S_E;
--       entry DED_NEVER;
--       entry DED_JOIN;
--    end R_DED_1;
--    task R_DED_2 is
--       entry E;
--       entry DED_S_E;
--       entry DED_NEVER;
--       entry DED_JOIN;
--    end R_DED_2;
--    task DED_CONTROL is
--       entry GO(0 .. 2)(DED_K, DED_A, DED_I : out INTEGER);
--       entry DONE(0 .. 2);
--       entry HOLD;
--    end DED_CONTROL;
--    task DED_IDLE is
--       entry STOP;
--       entry NEVER;
--    end DED_IDLE;
--    task body R_DED_1 is
--       DED_K, DED_A, DED_I : INTEGER := 0;
--    begin
--       begin
--          DED_CONTROL.GO(1)(DED_K, DED_A, DED_I);
--          if DED_K = 1 and DED_A = 1 and DED_I = 0 then
--             accept E do
--                DED_CONTROL.DONE(1);
--                DED_CONTROL.GO(1)(DED_K, DED_A, DED_I);
--                if DED_K /= 2 then
--                   DED_IDLE.STOP;
--                end if;
--             end E;
-- ..           (as in the text of `p1_replay`, 12 lines: from "DED_CONTROL.DONE(1);" to "end if;")
--    end R_DED_1;
--    task body R_DED_2 is
--       DED_K, DED_A, DED_I : INTEGER := 0;
--    begin
--       begin
--          DED_CONTROL.GO(2)(DED_K, DED_A, DED_I);
--          if DED_K = 1 and DED_A = 2 and DED_I = 0 then
--             accept E do
--                DED_CONTROL.DONE(2);
--                DED_CONTROL.GO(2)(DED_K, DED_A, DED_I);
--                if DED_K /= 2 then
--                   DED_IDLE.STOP;
--                end if;
--             end E;
--             DED_CONTROL.DONE(2);
-- ..        (as in the text of `waits_replay`, 11 lines: from "else" to "end if;")
--    end R_DED_2;
--    task body DED_CONTROL is
--       DED_OPS : constant array (1 .. 15) of INTEGER := (1, 1, 2, 1, 2, 1, 1, 2, 1, 2, 1, 3, 1, 3, 1);
--       DED_TS : constant array (1 .. 15) of INTEGER := (0, 2, 2, 2, 2, 0, 1, 1, 1, 1, 1, 1, 2, 2, 0);
--       DED_KS : constant array (1 .. 15) of INTEGER := (1, 1, 0, 2, 0, 1, 1, 0, 2, 0, 8, 0, 8, 0, 10);
--       DED_AS : constant array (1 .. 15) of INTEGER := (2, 2, 0, 0, 0, 1, 1, 0, 0, 0, 0, 0, 0, 0, 0);
--       DED_IS : constant array (1 .. 15) of INTEGER := (0, 0, 0, 0, 0, 0, 0, 0, 0, 0, 0, 0, 0, 0, 0);
--    begin
--       for DED_N in 1 .. 15 loop
-- ..        (as in the text of `p1_replay`, 13 lines: from "case DED_OPS(DED_N) is" to "begin")
--                         R_DED_1.DED_JOIN;
--                      exception
--                         when TASKING_ERROR =>
--                            null;
--                      end;
--                   when 2 =>
--                      begin
--                         R_DED_2.DED_JOIN;
-- ..                    (as in the text of `p1_replay`, 20 lines: from "exception" to "begin")
--       DED_V1 := K;
--       case DED_V1 is
--          when 1 =>
--             DED_CONTROL.GO(0)(DED_K, DED_A, DED_I);
--             if DED_K = 1 and DED_A = 1 and DED_I = 0 then
--                R_DED_1.E;
--             elsif DED_K = 7 and DED_A = 1 and DED_I = 0 then
--                begin
--                   R_DED_1.DED_S_E;
--                exception
--                   when others =>
--                      DED_CONTROL.DONE(0);
--                      raise;
--                end;
--             else
--                DED_IDLE.STOP;
--             end if;
--          when 2 =>
--             DED_CONTROL.GO(0)(DED_K, DED_A, DED_I);
--             if DED_K = 1 and DED_A = 2 and DED_I = 0 then
--                R_DED_2.E;
--             elsif DED_K = 7 and DED_A = 2 and DED_I = 0 then
--                begin
--                   R_DED_2.DED_S_E;
--                exception
--                   when others =>
--                      DED_CONTROL.DONE(0);
--                      raise;
--                end;
--             else
--                DED_IDLE.STOP;
--             end if;
--          when others =>
--             null;
--       end case;
--       DED_CONTROL.GO(0)(DED_K, DED_A, DED_I);
--       if DED_K = 1 and DED_A = 1 and DED_I = 0 then
--          R_DED_1.E;
--       elsif DED_K = 7 and DED_A = 1 and DED_I = 0 then
--          begin
--             R_DED_1.DED_S_E;
-- ..        (as in the text of `p1_replay`, 16 lines: from "exception" to "end if;")
-- end ROW;
abbrev row_replay : PProgram
row_replay = record { names = (predefined ++ (codes "ROW" ∷ codes "S" ∷ codes "E" ∷ codes "R" ∷ codes "K" ∷ codes "R_DED_1" ∷ codes "R_DED_2" ∷ codes "DED_V1" ∷ codes "DED_K" ∷ codes "DED_A" ∷ codes "DED_I" ∷ codes "DED_CONTROL" ∷ codes "GO" ∷ codes "DONE" ∷ codes "HOLD" ∷ codes "DED_IDLE" ∷ codes "STOP" ∷ codes "NEVER" ∷ codes "DED_NEVER" ∷ codes "DED_JOIN" ∷ codes "DED_OPS" ∷ codes "DED_TS" ∷ codes "DED_KS" ∷ codes "DED_AS" ∷ codes "DED_IS" ∷ codes "DED_N" ∷ codes "DED_S_E" ∷ [])); text_io = false; name = (w 25); decls = (decl_then (DObject ((w 29) ∷ []) false (OPlain (record { mark = (w 0); bounds = None })) (Some (IOne (EInteger 2 o))) o) (decl_then (DObject ((w 33) ∷ (w 34) ∷ (w 35) ∷ []) false (OPlain (record { mark = (w 0); bounds = None })) (Some (IOne (EInteger 0 o))) o) (decl_then (DObject ((w 32) ∷ []) false (OPlain (record { mark = (w 0); bounds = (Some (record { first = (EInteger 1 o); last = (EInteger 2 o) })) })) None o) (decl_then (DTask (record { name = (w 30); of_kind = false; entries = ((record { name = (w 27); family = None; formals = ([]); span = o }) ∷ (record { name = (w 51); family = None; formals = ([]); span = o }) ∷ (record { name = (w 43); family = None; formals = ([]); span = o }) ∷ (record { name = (w 44); family = None; formals = ([]); span = o }) ∷ []); priorities = ([]) }) o) (decl_then (DTask (record { name = (w 31); of_kind = false; entries = ((record { name = (w 27); family = None; formals = ([]); span = o }) ∷ (record { name = (w 51); family = None; formals = ([]); span = o }) ∷ (record { name = (w 43); family = None; formals = ([]); span = o }) ∷ (record { name = (w 44); family = None; formals = ([]); span = o }) ∷ []); priorities = ([]) }) o) (decl_then (DTask (record { name = (w 36); of_kind = false; entries = ((record { name = (w 37); family = (Some (RGiven (record { first = (EInteger 0 o); last = (EInteger 2 o) }))); formals = ((record { names = ((w 33) ∷ (w 34) ∷ (w 35) ∷ []); mode = mode.Give; mark = (w 0) }) ∷ []); span = o }) ∷ (record { name = (w 38); family = (Some (RGiven (record { first = (EInteger 0 o); last = (EInteger 2 o) }))); formals = ([]); span = o }) ∷ (record { name = (w 39); family = None; formals = ([]); span = o }) ∷ []); priorities = ([]) }) o) (decl_then (DTask (record { name = (w 40); of_kind = false; entries = ((record { name = (w 41); family = None; formals = ([]); span = o }) ∷ (record { name = (w 42); family = None; formals = ([]); span = o }) ∷ []); priorities = ([]) }) o) (decl_then (DTaskBody (w 30) (decl_then (DObject ((w 33) ∷ (w 34) ∷ (w 35) ∷ []) false (OPlain (record { mark = (w 0); bounds = None })) (Some (IOne (EInteger 0 o))) o) no_decl) (body (stmt_then (SBlock (body (stmt_then (SCall (record { task = (record { name = (w 36); index = None }); entry = (w 37); args = (Some (record { first = ((EInteger 1 o) ∷ []); second = (Some ((n 33) ∷ (n 34) ∷ (n 35) ∷ [])) })) }) o) (stmt_then (SIf (arm_then (arm (EBinary binary.And (EBinary binary.And (EBinary binary.Equal (n 33) (EInteger 1 o) o) (EBinary binary.Equal (n 34) (EInteger 1 o) o) o) (EBinary binary.Equal (n 35) (EInteger 0 o) o) o) (stmt_then (SAccept (accepting (record { entry = (w 27); index = None; formals = ([]); span = o }) (present (stmt_then (SCall (record { task = (record { name = (w 36); index = None }); entry = (w 38); args = (Some (record { first = ((EInteger 1 o) ∷ []); second = None })) }) o) (stmt_then (SCall (record { task = (record { name = (w 36); index = None }); entry = (w 37); args = (Some (record { first = ((EInteger 1 o) ∷ []); second = (Some ((n 33) ∷ (n 34) ∷ (n 35) ∷ [])) })) }) o) (stmt_then (SIf (arm_then (arm (EBinary binary.NotEqual (n 33) (EInteger 2 o) o) (stmt_then (SCall (record { task = (record { name = (w 40); index = None }); entry = (w 41); args = None }) o) no_stmt)) no_arm) absent o) no_stmt))))) o) (stmt_then (SCall (record { task = (record { name = (w 36); index = None }); entry = (w 38); args = (Some (record { first = ((EInteger 1 o) ∷ []); second = None })) }) o) no_stmt))) no_arm) (present (stmt_then (SCall (record { task = (record { name = (w 40); index = None }); entry = (w 41); args = None }) o) no_stmt)) o) no_stmt)) (handler_then (handler ([]) (stmt_then (SNull o) no_stmt) o) no_handler)) o) (stmt_then (SCall (record { task = (record { name = (w 36); index = None }); entry = (w 37); args = (Some (record { first = ((EInteger 1 o) ∷ []); second = (Some ((n 33) ∷ (n 34) ∷ (n 35) ∷ [])) })) }) o) (stmt_then (SIf (arm_then (arm (EBinary binary.NotEqual (n 33) (EInteger 8 o) o) (stmt_then (SCall (record { task = (record { name = (w 40); index = None }); entry = (w 41); args = None }) o) no_stmt)) no_arm) absent o) no_stmt))) no_handler) o) (decl_then (DTaskBody (w 31) (decl_then (DObject ((w 33) ∷ (w 34) ∷ (w 35) ∷ []) false (OPlain (record { mark = (w 0); bounds = None })) (Some (IOne (EInteger 0 o))) o) no_decl) (body (stmt_then (SBlock (body (stmt_then (SCall (record { task = (record { name = (w 36); index = None }); entry = (w 37); args = (Some (record { first = ((EInteger 2 o) ∷ []); second = (Some ((n 33) ∷ (n 34) ∷ (n 35) ∷ [])) })) }) o) (stmt_then (SIf (arm_then (arm (EBinary binary.And (EBinary binary.And (EBinary binary.Equal (n 33) (EInteger 1 o) o) (EBinary binary.Equal (n 34) (EInteger 2 o) o) o) (EBinary binary.Equal (n 35) (EInteger 0 o) o) o) (stmt_then (SAccept (accepting (record { entry = (w 27); index = None; formals = ([]); span = o }) (present (stmt_then (SCall (record { task = (record { name = (w 36); index = None }); entry = (w 38); args = (Some (record { first = ((EInteger 2 o) ∷ []); second = None })) }) o) (stmt_then (SCall (record { task = (record { name = (w 36); index = None }); entry = (w 37); args = (Some (record { first = ((EInteger 2 o) ∷ []); second = (Some ((n 33) ∷ (n 34) ∷ (n 35) ∷ [])) })) }) o) (stmt_then (SIf (arm_then (arm (EBinary binary.NotEqual (n 33) (EInteger 2 o) o) (stmt_then (SCall (record { task = (record { name = (w 40); index = None }); entry = (w 41); args = None }) o) no_stmt)) no_arm) absent o) no_stmt))))) o) (stmt_then (SCall (record { task = (record { name = (w 36); index = None }); entry = (w 38); args = (Some (record { first = ((EInteger 2 o) ∷ []); second = None })) }) o) no_stmt))) no_arm) (present (stmt_then (SCall (record { task = (record { name = (w 40); index = None }); entry = (w 41); args = None }) o) no_stmt)) o) no_stmt)) (handler_then (handler ([]) (stmt_then (SNull o) no_stmt) o) no_handler)) o) (stmt_then (SCall (record { task = (record { name = (w 36); index = None }); entry = (w 37); args = (Some (record { first = ((EInteger 2 o) ∷ []); second = (Some ((n 33) ∷ (n 34) ∷ (n 35) ∷ [])) })) }) o) (stmt_then (SIf (arm_then (arm (EBinary binary.NotEqual (n 33) (EInteger 8 o) o) (stmt_then (SCall (record { task = (record { name = (w 40); index = None }); entry = (w 41); args = None }) o) no_stmt)) no_arm) absent o) no_stmt))) no_handler) o) (decl_then (DTaskBody (w 36) (decl_then (DObject ((w 45) ∷ []) true (OArray (RGiven (record { first = (EInteger 1 o); last = (EInteger 15 o) })) (record { mark = (w 0); bounds = None })) (Some (IList ((EInteger 1 o) ∷ (EInteger 1 o) ∷ (EInteger 2 o) ∷ (EInteger 1 o) ∷ (EInteger 2 o) ∷ (EInteger 1 o) ∷ (EInteger 1 o) ∷ (EInteger 2 o) ∷ (EInteger 1 o) ∷ (EInteger 2 o) ∷ (EInteger 1 o) ∷ (EInteger 3 o) ∷ (EInteger 1 o) ∷ (EInteger 3 o) ∷ (EInteger 1 o) ∷ []) o)) o) (decl_then (DObject ((w 46) ∷ []) true (OArray (RGiven (record { first = (EInteger 1 o); last = (EInteger 15 o) })) (record { mark = (w 0); bounds = None })) (Some (IList ((EInteger 0 o) ∷ (EInteger 2 o) ∷ (EInteger 2 o) ∷ (EInteger 2 o) ∷ (EInteger 2 o) ∷ (EInteger 0 o) ∷ (EInteger 1 o) ∷ (EInteger 1 o) ∷ (EInteger 1 o) ∷ (EInteger 1 o) ∷ (EInteger 1 o) ∷ (EInteger 1 o) ∷ (EInteger 2 o) ∷ (EInteger 2 o) ∷ (EInteger 0 o) ∷ []) o)) o) (decl_then (DObject ((w 47) ∷ []) true (OArray (RGiven (record { first = (EInteger 1 o); last = (EInteger 15 o) })) (record { mark = (w 0); bounds = None })) (Some (IList ((EInteger 1 o) ∷ (EInteger 1 o) ∷ (EInteger 0 o) ∷ (EInteger 2 o) ∷ (EInteger 0 o) ∷ (EInteger 1 o) ∷ (EInteger 1 o) ∷ (EInteger 0 o) ∷ (EInteger 2 o) ∷ (EInteger 0 o) ∷ (EInteger 8 o) ∷ (EInteger 0 o) ∷ (EInteger 8 o) ∷ (EInteger 0 o) ∷ (EInteger 10 o) ∷ []) o)) o) (decl_then (DObject ((w 48) ∷ []) true (OArray (RGiven (record { first = (EInteger 1 o); last = (EInteger 15 o) })) (record { mark = (w 0); bounds = None })) (Some (IList ((EInteger 2 o) ∷ (EInteger 2 o) ∷ (EInteger 0 o) ∷ (EInteger 0 o) ∷ (EInteger 0 o) ∷ (EInteger 1 o) ∷ (EInteger 1 o) ∷ (EInteger 0 o) ∷ (EInteger 0 o) ∷ (EInteger 0 o) ∷ (EInteger 0 o) ∷ (EInteger 0 o) ∷ (EInteger 0 o) ∷ (EInteger 0 o) ∷ (EInteger 0 o) ∷ []) o)) o) (decl_then (DObject ((w 49) ∷ []) true (OArray (RGiven (record { first = (EInteger 1 o); last = (EInteger 15 o) })) (record { mark = (w 0); bounds = None })) (Some (IList ((EInteger 0 o) ∷ (EInteger 0 o) ∷ (EInteger 0 o) ∷ (EInteger 0 o) ∷ (EInteger 0 o) ∷ (EInteger 0 o) ∷ (EInteger 0 o) ∷ (EInteger 0 o) ∷ (EInteger 0 o) ∷ (EInteger 0 o) ∷ (EInteger 0 o) ∷ (EInteger 0 o) ∷ (EInteger 0 o) ∷ (EInteger 0 o) ∷ (EInteger 0 o) ∷ []) o)) o) no_decl))))) (body (stmt_then (SLoop None (Some (LFor (w 50) false (RGiven (record { first = (EInteger 1 o); last = (EInteger 15 o) })))) (stmt_then (SCase (EIndex (w 45) (n 50) o) (case_arm_then (case_arm ((record { first = (EInteger 1 o); last = None }) ∷ []) (stmt_then (SAccept (accepting (record { entry = (w 37); index = (Some (EIndex (w 46) (n 50) o)); formals = ((record { names = ((w 33) ∷ (w 34) ∷ (w 35) ∷ []); mode = mode.Give; mark = (w 0) }) ∷ []); span = o }) (present (stmt_then (SAssign (record { name = (w 33); index = None }) (EIndex (w 47) (n 50) o) o) (stmt_then (SAssign (record { name = (w 34); index = None }) (EIndex (w 48) (n 50) o) o) (stmt_then (SAssign (record { name = (w 35); index = None }) (EIndex (w 49) (n 50) o) o) no_stmt))))) o) no_stmt)) (case_arm_then (case_arm ((record { first = (EInteger 2 o); last = None }) ∷ []) (stmt_then (SAccept (accepting (record { entry = (w 38); index = (Some (EIndex (w 46) (n 50) o)); formals = ([]); span = o }) absent) o) no_stmt)) no_case_arm)) (present (stmt_then (SCase (EIndex (w 46) (n 50) o) (case_arm_then (case_arm ((record { first = (EInteger 1 o); last = None }) ∷ []) (stmt_then (SBlock (body (stmt_then (SCall (record { task = (record { name = (w 30); index = None }); entry = (w 44); args = None }) o) no_stmt) (handler_then (handler ((w 9) ∷ []) (stmt_then (SNull o) no_stmt) o) no_handler)) o) no_stmt)) (case_arm_then (case_arm ((record { first = (EInteger 2 o); last = None }) ∷ []) (stmt_then (SBlock (body (stmt_then (SCall (record { task = (record { name = (w 31); index = None }); entry = (w 44); args = None }) o) no_stmt) (handler_then (handler ((w 9) ∷ []) (stmt_then (SNull o) no_stmt) o) no_handler)) o) no_stmt)) no_case_arm)) (present (stmt_then (SNull o) no_stmt)) o) no_stmt)) o) no_stmt) o) no_stmt) no_handler) o) (decl_then (DTaskBody (w 40) no_decl (body (stmt_then (SWait (alt_then (alternative None (AAccept (accepting (record { entry = (w 42); index = None; formals = ([]); span = o }) absent) no_stmt) o) (alt_then (alternative None ATerminate o) no_alt)) absent o) no_stmt) no_handler) o) no_decl))))))))))); body = (body (stmt_then (SBlock (body (stmt_then (SAssign (record { name = (w 32); index = None }) (n 29) o) (stmt_then (SCase (n 32) (case_arm_then (case_arm ((record { first = (EInteger 1 o); last = None }) ∷ []) (stmt_then (SCall (record { task = (record { name = (w 36); index = None }); entry = (w 37); args = (Some (record { first = ((EInteger 0 o) ∷ []); second = (Some ((n 33) ∷ (n 34) ∷ (n 35) ∷ [])) })) }) o) (stmt_then (SIf (arm_then (arm (EBinary binary.And (EBinary binary.And (EBinary binary.Equal (n 33) (EInteger 1 o) o) (EBinary binary.Equal (n 34) (EInteger 1 o) o) o) (EBinary binary.Equal (n 35) (EInteger 0 o) o) o) (stmt_then (SCall (record { task = (record { name = (w 30); index = None }); entry = (w 27); args = None }) o) no_stmt)) (arm_then (arm (EBinary binary.And (EBinary binary.And (EBinary binary.Equal (n 33) (EInteger 7 o) o) (EBinary binary.Equal (n 34) (EInteger 1 o) o) o) (EBinary binary.Equal (n 35) (EInteger 0 o) o) o) (stmt_then (SBlock (body (stmt_then (SCall (record { task = (record { name = (w 30); index = None }); entry = (w 51); args = None }) o) no_stmt) (handler_then (handler ([]) (stmt_then (SCall (record { task = (record { name = (w 36); index = None }); entry = (w 38); args = (Some (record { first = ((EInteger 0 o) ∷ []); second = None })) }) o) (stmt_then (SRaise None o) no_stmt)) o) no_handler)) o) no_stmt)) no_arm)) (present (stmt_then (SCall (record { task = (record { name = (w 40); index = None }); entry = (w 41); args = None }) o) no_stmt)) o) no_stmt))) (case_arm_then (case_arm ((record { first = (EInteger 2 o); last = None }) ∷ []) (stmt_then (SCall (record { task = (record { name = (w 36); index = None }); entry = (w 37); args = (Some (record { first = ((EInteger 0 o) ∷ []); second = (Some ((n 33) ∷ (n 34) ∷ (n 35) ∷ [])) })) }) o) (stmt_then (SIf (arm_then (arm (EBinary binary.And (EBinary binary.And (EBinary binary.Equal (n 33) (EInteger 1 o) o) (EBinary binary.Equal (n 34) (EInteger 2 o) o) o) (EBinary binary.Equal (n 35) (EInteger 0 o) o) o) (stmt_then (SCall (record { task = (record { name = (w 31); index = None }); entry = (w 27); args = None }) o) no_stmt)) (arm_then (arm (EBinary binary.And (EBinary binary.And (EBinary binary.Equal (n 33) (EInteger 7 o) o) (EBinary binary.Equal (n 34) (EInteger 2 o) o) o) (EBinary binary.Equal (n 35) (EInteger 0 o) o) o) (stmt_then (SBlock (body (stmt_then (SCall (record { task = (record { name = (w 31); index = None }); entry = (w 51); args = None }) o) no_stmt) (handler_then (handler ([]) (stmt_then (SCall (record { task = (record { name = (w 36); index = None }); entry = (w 38); args = (Some (record { first = ((EInteger 0 o) ∷ []); second = None })) }) o) (stmt_then (SRaise None o) no_stmt)) o) no_handler)) o) no_stmt)) no_arm)) (present (stmt_then (SCall (record { task = (record { name = (w 40); index = None }); entry = (w 41); args = None }) o) no_stmt)) o) no_stmt))) no_case_arm)) (present (stmt_then (SNull o) no_stmt)) o) (stmt_then (SCall (record { task = (record { name = (w 36); index = None }); entry = (w 37); args = (Some (record { first = ((EInteger 0 o) ∷ []); second = (Some ((n 33) ∷ (n 34) ∷ (n 35) ∷ [])) })) }) o) (stmt_then (SIf (arm_then (arm (EBinary binary.And (EBinary binary.And (EBinary binary.Equal (n 33) (EInteger 1 o) o) (EBinary binary.Equal (n 34) (EInteger 1 o) o) o) (EBinary binary.Equal (n 35) (EInteger 0 o) o) o) (stmt_then (SCall (record { task = (record { name = (w 30); index = None }); entry = (w 27); args = None }) o) no_stmt)) (arm_then (arm (EBinary binary.And (EBinary binary.And (EBinary binary.Equal (n 33) (EInteger 7 o) o) (EBinary binary.Equal (n 34) (EInteger 1 o) o) o) (EBinary binary.Equal (n 35) (EInteger 0 o) o) o) (stmt_then (SBlock (body (stmt_then (SCall (record { task = (record { name = (w 30); index = None }); entry = (w 51); args = None }) o) no_stmt) (handler_then (handler ([]) (stmt_then (SCall (record { task = (record { name = (w 36); index = None }); entry = (w 38); args = (Some (record { first = ((EInteger 0 o) ∷ []); second = None })) }) o) (stmt_then (SRaise None o) no_stmt)) o) no_handler)) o) no_stmt)) no_arm)) (present (stmt_then (SCall (record { task = (record { name = (w 40); index = None }); entry = (w 41); args = None }) o) no_stmt)) o) no_stmt)))) (handler_then (handler ([]) (stmt_then (SNull o) no_stmt) o) no_handler)) o) (stmt_then (SCall (record { task = (record { name = (w 36); index = None }); entry = (w 37); args = (Some (record { first = ((EInteger 0 o) ∷ []); second = (Some ((n 33) ∷ (n 34) ∷ (n 35) ∷ [])) })) }) o) (stmt_then (SIf (arm_then (arm (EBinary binary.NotEqual (n 33) (EInteger 10 o) o) (stmt_then (SCall (record { task = (record { name = (w 40); index = None }); entry = (w 41); args = None }) o) no_stmt)) no_arm) absent o) no_stmt))) no_handler) }

row_is_replayed : replay_in row row_events ≡ row_replay
unfolding digits
row_is_replayed = refl

-- These are its numbers, and it is legal as a rewritten text.
row_numbers : replay_numbers_in row ≡ numbers_in row_replay
unfolding digits
row_numbers = refl

row_replay_is_legal : refusals row_replay ≡ []
unfolding digits
row_replay_is_legal = refl

row_replay_is_checked : check_refusals row_replay mode_of.Any ≡ []
unfolding digits
row_replay_is_checked = refl

-- All runs of the text, of which none has 44 events, show fronts of the sequence, and each ends with all of it and with the output of the original.
row_many : length (shown_by row_replay [] 44) ≡ 37
unfolding digits
row_many = refl

row_shows_fronts : shows_fronts (numbers_in row_replay) row_events (shown_by row_replay [] 44) ≡ true
unfolding digits
row_shows_fronts = refl

row_shows_whole : shows_whole (numbers_in row_replay) row_events (shown_by row_replay [] 44) ≡ true
unfolding digits
row_shows_whole = refl

row_ends_alike : ends_alike (numbers_in row_replay) row_events (shown_by row [] 7) (shown_by row_replay [] 44) ≡ true
unfolding digits
row_ends_alike = refl
