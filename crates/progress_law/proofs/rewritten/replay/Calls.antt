-- Conditional and timed calls, a family over an enumeration, parameters, and handlers of a unit; the sequence does not end the program.
use Rattle.std.specs.Prelude.{◌≡◌, refl, codes, ◌++◌, ◌∷◌, [], List, length, true, false, None, Some, pos}
use Rattle.std.specs.Fmt.{digits}
use Rattle.ada_tree.specs.NameList.{predefined}
use Rattle.ada_tree.specs.declared.expressions.BinaryOp.TheVariants as binary
use Rattle.ada_tree.specs.declared.statements.ParMode.TheVariants as mode
use Rattle.ada_tree.specs.PlainExpr.{EInteger, EAttributeOf, EBinary, RGiven, RMarked, EIndex}
use Rattle.ada_tree.specs.PlainStmt.{SNull, SAssign, SRaise, SCall, SAccept, SWait, SConditional, STimed, SPutLine, SIf, SBlock, no_stmt, stmt_then, absent, present, accepting, alternative, AAccept, ATerminate, no_alt, alt_then, arm, no_arm, arm_then, body, handler, no_handler, handler_then, PWords, LFor, SCase, SLoop, case_arm, no_case_arm, case_arm_then}
use Rattle.ada_tree.specs.PlainDecl.{OPlain, IOne, DObject, DEnumeration, DTask, DTaskBody, no_decl, decl_then, OArray, IList}
use Rattle.ada_tree.specs.PlainProgram.{PProgram}
use Rattle.ada_static_rules.specs.Refusals.{refusals}
use Rattle.event_machine.specs.declared.Event.{Event}
use Rattle.event_machine.specs.declared.Event.TheVariants as event
use Rattle.syn_event.specs.CheckRefusals.{check_refusals}
use Rattle.syn_event.specs.declared.numbering.Mode.TheVariants as mode_of
use Rattle.progress_law.specs.rewritten.replay.Fronts.{shows_fronts, shows_whole, ends_alike}
use Rattle.progress_law.proofs.rewritten.replay.Trees.{o, w, n, numbers_in, replay_in, replay_numbers_in, shown_by}

-- procedure CALLS is
--    type COLOR is (RED, GREEN);
--    task T is
--       entry E(COLOR)(X : in INTEGER);
--       entry F;
--    end T;
--    task A;
--    task body T is
--    begin
--       accept E(GREEN)(X : in INTEGER) do
--          PUT_LINE("E");
--       end E;
--       accept F;
--    end T;
--    task body A is
--       C : COLOR := GREEN;
--    begin
--       select
--          T.E(C)(5);
--          PUT_LINE("MET");
--       else
--          PUT_LINE("ELSE");
--       end select;
--       select
--          T.F;
--       or
--          delay 1.0;
--          PUT_LINE("LATE");
--       end select;
--    exception
--       when TASKING_ERROR =>
--          PUT_LINE("GONE");
--    end A;
-- begin
--    null;
-- end CALLS;
abbrev pub calls : PProgram
calls = record { names = (predefined ++ (codes "CALLS" ∷ codes "COLOR" ∷ codes "RED" ∷ codes "GREEN" ∷ codes "T" ∷ codes "E" ∷ codes "X" ∷ codes "F" ∷ codes "A" ∷ codes "C" ∷ [])); text_io = false; name = (w 25); decls = (decl_then (DEnumeration (w 26) ((w 27) ∷ (w 28) ∷ []) o) (decl_then (DTask (record { name = (w 29); of_kind = false; entries = ((record { name = (w 30); family = (Some (RMarked (record { mark = (w 26); bounds = None }))); formals = ((record { names = ((w 31) ∷ []); mode = mode.Take; mark = (w 0) }) ∷ []); span = o }) ∷ (record { name = (w 32); family = None; formals = ([]); span = o }) ∷ []); priorities = ([]) }) o) (decl_then (DTask (record { name = (w 33); of_kind = false; entries = ([]); priorities = ([]) }) o) (decl_then (DTaskBody (w 29) no_decl (body (stmt_then (SAccept (accepting (record { entry = (w 30); index = (Some (n 28)); formals = ((record { names = ((w 31) ∷ []); mode = mode.Take; mark = (w 0) }) ∷ []); span = o }) (present (stmt_then (SPutLine ((PWords (codes "E") o) ∷ []) o) no_stmt))) o) (stmt_then (SAccept (accepting (record { entry = (w 32); index = None; formals = ([]); span = o }) absent) o) no_stmt)) no_handler) o) (decl_then (DTaskBody (w 33) (decl_then (DObject ((w 34) ∷ []) false (OPlain (record { mark = (w 26); bounds = None })) (Some (IOne (n 28))) o) no_decl) (body (stmt_then (SConditional (record { task = (record { name = (w 29); index = None }); entry = (w 30); args = (Some (record { first = ((n 34) ∷ []); second = (Some ((EInteger 5 o) ∷ [])) })) }) (stmt_then (SPutLine ((PWords (codes "MET") o) ∷ []) o) no_stmt) (stmt_then (SPutLine ((PWords (codes "ELSE") o) ∷ []) o) no_stmt) o) (stmt_then (STimed (record { task = (record { name = (w 29); index = None }); entry = (w 32); args = None }) no_stmt 1000 (stmt_then (SPutLine ((PWords (codes "LATE") o) ∷ []) o) no_stmt) o) no_stmt)) (handler_then (handler ((w 9) ∷ []) (stmt_then (SPutLine ((PWords (codes "GONE") o) ∷ []) o) no_stmt) o) no_handler)) o) no_decl))))); body = (body (stmt_then (SNull o) no_stmt) no_handler) }

-- It is legal.
calls_is_legal : refusals calls ≡ []
unfolding digits
calls_is_legal = refl

calls_is_checked : check_refusals calls mode_of.Original ≡ []
unfolding digits
calls_is_checked = refl

-- The sequence: C 2 1 1, T 2 2 0, X 2.
abbrev pub calls_events : List Event
calls_events = event.C 2 1 (pos 1) ∷ event.T 2 2 (pos 0) ∷ event.X 2 ∷ []

-- Its replay text:
--
-- procedure CALLS is
--    type COLOR is (RED, GREEN);
--    DED_K, DED_A, DED_I : INTEGER := 0;
--    task T is
--       entry E(COLOR)(X : in INTEGER);
--       entry F;
--       entry DED_S_E(COLOR)(X : in INTEGER);
--       entry DED_S_F;
--       entry DED_NEVER;
--       entry DED_JOIN;
--    end T;
--    task A is
--       entry DED_NEVER;
--       entry DED_JOIN;
--    end A;
--    task DED_CONTROL is
--       entry GO(0 .. 2)(DED_K, DED_A, DED_I : out INTEGER);
--       entry DONE(0 .. 2);
--       entry HOLD;
--    end DED_CONTROL;
--    task DED_IDLE is
--       entry STOP;
--       entry NEVER;
--    end DED_IDLE;
--    task body T is
--       DED_K, DED_A, DED_I : INTEGER := 0;
--    begin
--       begin
--          DED_CONTROL.GO(1)(DED_K, DED_A, DED_I);
--          if DED_K = 1 and DED_A = 1 and DED_I = COLOR'POS(GREEN) then
--             begin
--                accept E(GREEN)(X : in INTEGER) do
--                   DED_CONTROL.DONE(1);
--                   begin
--                      PUT_LINE("E");
--                   exception
--                      when others =>
--                         DED_CONTROL.GO(1)(DED_K, DED_A, DED_I);
--                         if DED_K /= 2 then
--                            DED_IDLE.STOP;
--                         end if;
--                         raise;
--                   end;
--                   DED_CONTROL.GO(1)(DED_K, DED_A, DED_I);
--                   if DED_K /= 2 then
--                      DED_IDLE.STOP;
--                   end if;
--                end E;
--             exception
--                when others =>
--                   DED_CONTROL.DONE(1);
--                   raise;
--             end;
--             DED_CONTROL.DONE(1);
--          else
--             DED_IDLE.STOP;
--          end if;
--          DED_CONTROL.GO(1)(DED_K, DED_A, DED_I);
--          if DED_K = 1 and DED_A = 2 and DED_I = 0 then
--             accept F do
--                DED_CONTROL.DONE(1);
--                DED_CONTROL.GO(1)(DED_K, DED_A, DED_I);
--                if DED_K /= 2 then
--                   DED_IDLE.STOP;
--                end if;
--             end F;
-- ..           (as in the text of `p1_replay`, 12 lines: from "DED_CONTROL.DONE(1);" to "end if;")
--    end T;
--    task body A is
--       C : COLOR := GREEN;
--       DED_K, DED_A, DED_I : INTEGER := 0;
--       DED_V1 : COLOR;
--       DED_V2 : INTEGER;
--    begin
--       begin
--          begin
--             DED_V1 := C;
--             DED_V2 := 5;
--             DED_CONTROL.GO(2)(DED_K, DED_A, DED_I);
--             if DED_K = 1 and DED_A = 1 and DED_I = COLOR'POS(DED_V1) then
--                T.E(DED_V1)(DED_V2);
--                PUT_LINE("MET");
--             elsif DED_K = 7 and DED_A = 1 and DED_I = COLOR'POS(DED_V1) then
--                begin
--                   T.DED_S_E(DED_V1)(DED_V2);
--                exception
--                   when others =>
--                      DED_CONTROL.DONE(2);
--                      raise;
--                end;
--             elsif DED_K = 5 and DED_A = 1 and DED_I = COLOR'POS(DED_V1) then
--                select
--                   T.DED_S_E(DED_V1)(DED_V2);
--                else
--                   DED_CONTROL.DONE(2);
--                end select;
--                PUT_LINE("ELSE");
--             else
--                DED_IDLE.STOP;
--             end if;
--             DED_CONTROL.GO(2)(DED_K, DED_A, DED_I);
--             if DED_K = 1 and DED_A = 2 and DED_I = 0 then
--                T.F;
--             elsif DED_K = 7 and DED_A = 2 and DED_I = 0 then
--                begin
--                   T.DED_S_F;
--                exception
--                   when others =>
--                      DED_CONTROL.DONE(2);
--                      raise;
--                end;
--             elsif DED_K = 6 and DED_A = 2 and DED_I = 0 then
--                select
--                   T.DED_S_F;
--                or
--                   delay 1.0;
--                   DED_CONTROL.DONE(2);
--                end select;
--                PUT_LINE("LATE");
--             else
--                DED_IDLE.STOP;
--             end if;
--          exception
--             when TASKING_ERROR =>
--                PUT_LINE("GONE");
--          end;
--       exception
--          when others =>
--             null;
--       end;
--       DED_CONTROL.GO(2)(DED_K, DED_A, DED_I);
--       if DED_K /= 8 then
--          DED_IDLE.STOP;
--       end if;
--    end A;
--    task body DED_CONTROL is
--       DED_OPS : constant array (1 .. 6) of INTEGER := (1, 2, 1, 2, 1, 3);
--       DED_TS : constant array (1 .. 6) of INTEGER := (2, 2, 2, 2, 2, 2);
--       DED_KS : constant array (1 .. 6) of INTEGER := (5, 0, 6, 0, 8, 0);
--       DED_AS : constant array (1 .. 6) of INTEGER := (1, 0, 2, 0, 0, 0);
--       DED_IS : constant array (1 .. 6) of INTEGER := (1, 0, 0, 0, 0, 0);
--    begin
--       for DED_N in 1 .. 6 loop
-- ..        (as in the text of `p1_replay`, 13 lines: from "case DED_OPS(DED_N) is" to "begin")
--                         T.DED_JOIN;
--                      exception
--                         when TASKING_ERROR =>
--                            null;
--                      end;
--                   when 2 =>
--                      begin
--                         A.DED_JOIN;
--                      exception
--                         when TASKING_ERROR =>
--                            null;
--                      end;
--                   when others =>
--                      null;
--                end case;
--          end case;
--       end loop;
--       accept HOLD;
-- ..  (as in the text of `p1_replay`, 11 lines: from "end DED_CONTROL;" to "begin")
--       null;
--    exception
--       when others =>
--          null;
--    end;
--    DED_CONTROL.GO(0)(DED_K, DED_A, DED_I);
--    if DED_K /= 10 then
--       DED_IDLE.STOP;
--    end if;
-- end CALLS;
abbrev calls_replay : PProgram
calls_replay = record { names = (predefined ++ (codes "CALLS" ∷ codes "COLOR" ∷ codes "RED" ∷ codes "GREEN" ∷ codes "T" ∷ codes "E" ∷ codes "X" ∷ codes "F" ∷ codes "A" ∷ codes "C" ∷ codes "DED_V1" ∷ codes "DED_V2" ∷ codes "DED_K" ∷ codes "DED_A" ∷ codes "DED_I" ∷ codes "DED_CONTROL" ∷ codes "GO" ∷ codes "DONE" ∷ codes "HOLD" ∷ codes "DED_IDLE" ∷ codes "STOP" ∷ codes "NEVER" ∷ codes "DED_NEVER" ∷ codes "DED_JOIN" ∷ codes "DED_OPS" ∷ codes "DED_TS" ∷ codes "DED_KS" ∷ codes "DED_AS" ∷ codes "DED_IS" ∷ codes "DED_N" ∷ codes "DED_S_E" ∷ codes "DED_S_F" ∷ [])); text_io = false; name = (w 25); decls = (decl_then (DEnumeration (w 26) ((w 27) ∷ (w 28) ∷ []) o) (decl_then (DObject ((w 37) ∷ (w 38) ∷ (w 39) ∷ []) false (OPlain (record { mark = (w 0); bounds = None })) (Some (IOne (EInteger 0 o))) o) (decl_then (DTask (record { name = (w 29); of_kind = false; entries = ((record { name = (w 30); family = (Some (RMarked (record { mark = (w 26); bounds = None }))); formals = ((record { names = ((w 31) ∷ []); mode = mode.Take; mark = (w 0) }) ∷ []); span = o }) ∷ (record { name = (w 32); family = None; formals = ([]); span = o }) ∷ (record { name = (w 55); family = (Some (RMarked (record { mark = (w 26); bounds = None }))); formals = ((record { names = ((w 31) ∷ []); mode = mode.Take; mark = (w 0) }) ∷ []); span = o }) ∷ (record { name = (w 56); family = None; formals = ([]); span = o }) ∷ (record { name = (w 47); family = None; formals = ([]); span = o }) ∷ (record { name = (w 48); family = None; formals = ([]); span = o }) ∷ []); priorities = ([]) }) o) (decl_then (DTask (record { name = (w 33); of_kind = false; entries = ((record { name = (w 47); family = None; formals = ([]); span = o }) ∷ (record { name = (w 48); family = None; formals = ([]); span = o }) ∷ []); priorities = ([]) }) o) (decl_then (DTask (record { name = (w 40); of_kind = false; entries = ((record { name = (w 41); family = (Some (RGiven (record { first = (EInteger 0 o); last = (EInteger 2 o) }))); formals = ((record { names = ((w 37) ∷ (w 38) ∷ (w 39) ∷ []); mode = mode.Give; mark = (w 0) }) ∷ []); span = o }) ∷ (record { name = (w 42); family = (Some (RGiven (record { first = (EInteger 0 o); last = (EInteger 2 o) }))); formals = ([]); span = o }) ∷ (record { name = (w 43); family = None; formals = ([]); span = o }) ∷ []); priorities = ([]) }) o) (decl_then (DTask (record { name = (w 44); of_kind = false; entries = ((record { name = (w 45); family = None; formals = ([]); span = o }) ∷ (record { name = (w 46); family = None; formals = ([]); span = o }) ∷ []); priorities = ([]) }) o) (decl_then (DTaskBody (w 29) (decl_then (DObject ((w 37) ∷ (w 38) ∷ (w 39) ∷ []) false (OPlain (record { mark = (w 0); bounds = None })) (Some (IOne (EInteger 0 o))) o) no_decl) (body (stmt_then (SBlock (body (stmt_then (SCall (record { task = (record { name = (w 40); index = None }); entry = (w 41); args = (Some (record { first = ((EInteger 1 o) ∷ []); second = (Some ((n 37) ∷ (n 38) ∷ (n 39) ∷ [])) })) }) o) (stmt_then (SIf (arm_then (arm (EBinary binary.And (EBinary binary.And (EBinary binary.Equal (n 37) (EInteger 1 o) o) (EBinary binary.Equal (n 38) (EInteger 1 o) o) o) (EBinary binary.Equal (n 39) (EAttributeOf (w 26) (w 20) (n 28) o) o) o) (stmt_then (SBlock (body (stmt_then (SAccept (accepting (record { entry = (w 30); index = (Some (n 28)); formals = ((record { names = ((w 31) ∷ []); mode = mode.Take; mark = (w 0) }) ∷ []); span = o }) (present (stmt_then (SCall (record { task = (record { name = (w 40); index = None }); entry = (w 42); args = (Some (record { first = ((EInteger 1 o) ∷ []); second = None })) }) o) (stmt_then (SBlock (body (stmt_then (SPutLine ((PWords (codes "E") o) ∷ []) o) no_stmt) (handler_then (handler ([]) (stmt_then (SCall (record { task = (record { name = (w 40); index = None }); entry = (w 41); args = (Some (record { first = ((EInteger 1 o) ∷ []); second = (Some ((n 37) ∷ (n 38) ∷ (n 39) ∷ [])) })) }) o) (stmt_then (SIf (arm_then (arm (EBinary binary.NotEqual (n 37) (EInteger 2 o) o) (stmt_then (SCall (record { task = (record { name = (w 44); index = None }); entry = (w 45); args = None }) o) no_stmt)) no_arm) absent o) (stmt_then (SRaise None o) no_stmt))) o) no_handler)) o) (stmt_then (SCall (record { task = (record { name = (w 40); index = None }); entry = (w 41); args = (Some (record { first = ((EInteger 1 o) ∷ []); second = (Some ((n 37) ∷ (n 38) ∷ (n 39) ∷ [])) })) }) o) (stmt_then (SIf (arm_then (arm (EBinary binary.NotEqual (n 37) (EInteger 2 o) o) (stmt_then (SCall (record { task = (record { name = (w 44); index = None }); entry = (w 45); args = None }) o) no_stmt)) no_arm) absent o) no_stmt)))))) o) no_stmt) (handler_then (handler ([]) (stmt_then (SCall (record { task = (record { name = (w 40); index = None }); entry = (w 42); args = (Some (record { first = ((EInteger 1 o) ∷ []); second = None })) }) o) (stmt_then (SRaise None o) no_stmt)) o) no_handler)) o) (stmt_then (SCall (record { task = (record { name = (w 40); index = None }); entry = (w 42); args = (Some (record { first = ((EInteger 1 o) ∷ []); second = None })) }) o) no_stmt))) no_arm) (present (stmt_then (SCall (record { task = (record { name = (w 44); index = None }); entry = (w 45); args = None }) o) no_stmt)) o) (stmt_then (SCall (record { task = (record { name = (w 40); index = None }); entry = (w 41); args = (Some (record { first = ((EInteger 1 o) ∷ []); second = (Some ((n 37) ∷ (n 38) ∷ (n 39) ∷ [])) })) }) o) (stmt_then (SIf (arm_then (arm (EBinary binary.And (EBinary binary.And (EBinary binary.Equal (n 37) (EInteger 1 o) o) (EBinary binary.Equal (n 38) (EInteger 2 o) o) o) (EBinary binary.Equal (n 39) (EInteger 0 o) o) o) (stmt_then (SAccept (accepting (record { entry = (w 32); index = None; formals = ([]); span = o }) (present (stmt_then (SCall (record { task = (record { name = (w 40); index = None }); entry = (w 42); args = (Some (record { first = ((EInteger 1 o) ∷ []); second = None })) }) o) (stmt_then (SCall (record { task = (record { name = (w 40); index = None }); entry = (w 41); args = (Some (record { first = ((EInteger 1 o) ∷ []); second = (Some ((n 37) ∷ (n 38) ∷ (n 39) ∷ [])) })) }) o) (stmt_then (SIf (arm_then (arm (EBinary binary.NotEqual (n 37) (EInteger 2 o) o) (stmt_then (SCall (record { task = (record { name = (w 44); index = None }); entry = (w 45); args = None }) o) no_stmt)) no_arm) absent o) no_stmt))))) o) (stmt_then (SCall (record { task = (record { name = (w 40); index = None }); entry = (w 42); args = (Some (record { first = ((EInteger 1 o) ∷ []); second = None })) }) o) no_stmt))) no_arm) (present (stmt_then (SCall (record { task = (record { name = (w 44); index = None }); entry = (w 45); args = None }) o) no_stmt)) o) no_stmt)))) (handler_then (handler ([]) (stmt_then (SNull o) no_stmt) o) no_handler)) o) (stmt_then (SCall (record { task = (record { name = (w 40); index = None }); entry = (w 41); args = (Some (record { first = ((EInteger 1 o) ∷ []); second = (Some ((n 37) ∷ (n 38) ∷ (n 39) ∷ [])) })) }) o) (stmt_then (SIf (arm_then (arm (EBinary binary.NotEqual (n 37) (EInteger 8 o) o) (stmt_then (SCall (record { task = (record { name = (w 44); index = None }); entry = (w 45); args = None }) o) no_stmt)) no_arm) absent o) no_stmt))) no_handler) o) (decl_then (DTaskBody (w 33) (decl_then (DObject ((w 34) ∷ []) false (OPlain (record { mark = (w 26); bounds = None })) (Some (IOne (n 28))) o) (decl_then (DObject ((w 37) ∷ (w 38) ∷ (w 39) ∷ []) false (OPlain (record { mark = (w 0); bounds = None })) (Some (IOne (EInteger 0 o))) o) (decl_then (DObject ((w 35) ∷ []) false (OPlain (record { mark = (w 26); bounds = None })) None o) (decl_then (DObject ((w 36) ∷ []) false (OPlain (record { mark = (w 0); bounds = None })) None o) no_decl)))) (body (stmt_then (SBlock (body (stmt_then (SBlock (body (stmt_then (SAssign (record { name = (w 35); index = None }) (n 34) o) (stmt_then (SAssign (record { name = (w 36); index = None }) (EInteger 5 o) o) (stmt_then (SCall (record { task = (record { name = (w 40); index = None }); entry = (w 41); args = (Some (record { first = ((EInteger 2 o) ∷ []); second = (Some ((n 37) ∷ (n 38) ∷ (n 39) ∷ [])) })) }) o) (stmt_then (SIf (arm_then (arm (EBinary binary.And (EBinary binary.And (EBinary binary.Equal (n 37) (EInteger 1 o) o) (EBinary binary.Equal (n 38) (EInteger 1 o) o) o) (EBinary binary.Equal (n 39) (EAttributeOf (w 26) (w 20) (n 35) o) o) o) (stmt_then (SCall (record { task = (record { name = (w 29); index = None }); entry = (w 30); args = (Some (record { first = ((n 35) ∷ []); second = (Some ((n 36) ∷ [])) })) }) o) (stmt_then (SPutLine ((PWords (codes "MET") o) ∷ []) o) no_stmt))) (arm_then (arm (EBinary binary.And (EBinary binary.And (EBinary binary.Equal (n 37) (EInteger 7 o) o) (EBinary binary.Equal (n 38) (EInteger 1 o) o) o) (EBinary binary.Equal (n 39) (EAttributeOf (w 26) (w 20) (n 35) o) o) o) (stmt_then (SBlock (body (stmt_then (SCall (record { task = (record { name = (w 29); index = None }); entry = (w 55); args = (Some (record { first = ((n 35) ∷ []); second = (Some ((n 36) ∷ [])) })) }) o) no_stmt) (handler_then (handler ([]) (stmt_then (SCall (record { task = (record { name = (w 40); index = None }); entry = (w 42); args = (Some (record { first = ((EInteger 2 o) ∷ []); second = None })) }) o) (stmt_then (SRaise None o) no_stmt)) o) no_handler)) o) no_stmt)) (arm_then (arm (EBinary binary.And (EBinary binary.And (EBinary binary.Equal (n 37) (EInteger 5 o) o) (EBinary binary.Equal (n 38) (EInteger 1 o) o) o) (EBinary binary.Equal (n 39) (EAttributeOf (w 26) (w 20) (n 35) o) o) o) (stmt_then (SConditional (record { task = (record { name = (w 29); index = None }); entry = (w 55); args = (Some (record { first = ((n 35) ∷ []); second = (Some ((n 36) ∷ [])) })) }) no_stmt (stmt_then (SCall (record { task = (record { name = (w 40); index = None }); entry = (w 42); args = (Some (record { first = ((EInteger 2 o) ∷ []); second = None })) }) o) no_stmt) o) (stmt_then (SPutLine ((PWords (codes "ELSE") o) ∷ []) o) no_stmt))) no_arm))) (present (stmt_then (SCall (record { task = (record { name = (w 44); index = None }); entry = (w 45); args = None }) o) no_stmt)) o) (stmt_then (SCall (record { task = (record { name = (w 40); index = None }); entry = (w 41); args = (Some (record { first = ((EInteger 2 o) ∷ []); second = (Some ((n 37) ∷ (n 38) ∷ (n 39) ∷ [])) })) }) o) (stmt_then (SIf (arm_then (arm (EBinary binary.And (EBinary binary.And (EBinary binary.Equal (n 37) (EInteger 1 o) o) (EBinary binary.Equal (n 38) (EInteger 2 o) o) o) (EBinary binary.Equal (n 39) (EInteger 0 o) o) o) (stmt_then (SCall (record { task = (record { name = (w 29); index = None }); entry = (w 32); args = None }) o) no_stmt)) (arm_then (arm (EBinary binary.And (EBinary binary.And (EBinary binary.Equal (n 37) (EInteger 7 o) o) (EBinary binary.Equal (n 38) (EInteger 2 o) o) o) (EBinary binary.Equal (n 39) (EInteger 0 o) o) o) (stmt_then (SBlock (body (stmt_then (SCall (record { task = (record { name = (w 29); index = None }); entry = (w 56); args = None }) o) no_stmt) (handler_then (handler ([]) (stmt_then (SCall (record { task = (record { name = (w 40); index = None }); entry = (w 42); args = (Some (record { first = ((EInteger 2 o) ∷ []); second = None })) }) o) (stmt_then (SRaise None o) no_stmt)) o) no_handler)) o) no_stmt)) (arm_then (arm (EBinary binary.And (EBinary binary.And (EBinary binary.Equal (n 37) (EInteger 6 o) o) (EBinary binary.Equal (n 38) (EInteger 2 o) o) o) (EBinary binary.Equal (n 39) (EInteger 0 o) o) o) (stmt_then (STimed (record { task = (record { name = (w 29); index = None }); entry = (w 56); args = None }) no_stmt 1000 (stmt_then (SCall (record { task = (record { name = (w 40); index = None }); entry = (w 42); args = (Some (record { first = ((EInteger 2 o) ∷ []); second = None })) }) o) no_stmt) o) (stmt_then (SPutLine ((PWords (codes "LATE") o) ∷ []) o) no_stmt))) no_arm))) (present (stmt_then (SCall (record { task = (record { name = (w 44); index = None }); entry = (w 45); args = None }) o) no_stmt)) o) no_stmt)))))) (handler_then (handler ((w 9) ∷ []) (stmt_then (SPutLine ((PWords (codes "GONE") o) ∷ []) o) no_stmt) o) no_handler)) o) no_stmt) (handler_then (handler ([]) (stmt_then (SNull o) no_stmt) o) no_handler)) o) (stmt_then (SCall (record { task = (record { name = (w 40); index = None }); entry = (w 41); args = (Some (record { first = ((EInteger 2 o) ∷ []); second = (Some ((n 37) ∷ (n 38) ∷ (n 39) ∷ [])) })) }) o) (stmt_then (SIf (arm_then (arm (EBinary binary.NotEqual (n 37) (EInteger 8 o) o) (stmt_then (SCall (record { task = (record { name = (w 44); index = None }); entry = (w 45); args = None }) o) no_stmt)) no_arm) absent o) no_stmt))) no_handler) o) (decl_then (DTaskBody (w 40) (decl_then (DObject ((w 49) ∷ []) true (OArray (RGiven (record { first = (EInteger 1 o); last = (EInteger 6 o) })) (record { mark = (w 0); bounds = None })) (Some (IList ((EInteger 1 o) ∷ (EInteger 2 o) ∷ (EInteger 1 o) ∷ (EInteger 2 o) ∷ (EInteger 1 o) ∷ (EInteger 3 o) ∷ []) o)) o) (decl_then (DObject ((w 50) ∷ []) true (OArray (RGiven (record { first = (EInteger 1 o); last = (EInteger 6 o) })) (record { mark = (w 0); bounds = None })) (Some (IList ((EInteger 2 o) ∷ (EInteger 2 o) ∷ (EInteger 2 o) ∷ (EInteger 2 o) ∷ (EInteger 2 o) ∷ (EInteger 2 o) ∷ []) o)) o) (decl_then (DObject ((w 51) ∷ []) true (OArray (RGiven (record { first = (EInteger 1 o); last = (EInteger 6 o) })) (record { mark = (w 0); bounds = None })) (Some (IList ((EInteger 5 o) ∷ (EInteger 0 o) ∷ (EInteger 6 o) ∷ (EInteger 0 o) ∷ (EInteger 8 o) ∷ (EInteger 0 o) ∷ []) o)) o) (decl_then (DObject ((w 52) ∷ []) true (OArray (RGiven (record { first = (EInteger 1 o); last = (EInteger 6 o) })) (record { mark = (w 0); bounds = None })) (Some (IList ((EInteger 1 o) ∷ (EInteger 0 o) ∷ (EInteger 2 o) ∷ (EInteger 0 o) ∷ (EInteger 0 o) ∷ (EInteger 0 o) ∷ []) o)) o) (decl_then (DObject ((w 53) ∷ []) true (OArray (RGiven (record { first = (EInteger 1 o); last = (EInteger 6 o) })) (record { mark = (w 0); bounds = None })) (Some (IList ((EInteger 1 o) ∷ (EInteger 0 o) ∷ (EInteger 0 o) ∷ (EInteger 0 o) ∷ (EInteger 0 o) ∷ (EInteger 0 o) ∷ []) o)) o) no_decl))))) (body (stmt_then (SLoop None (Some (LFor (w 54) false (RGiven (record { first = (EInteger 1 o); last = (EInteger 6 o) })))) (stmt_then (SCase (EIndex (w 49) (n 54) o) (case_arm_then (case_arm ((record { first = (EInteger 1 o); last = None }) ∷ []) (stmt_then (SAccept (accepting (record { entry = (w 41); index = (Some (EIndex (w 50) (n 54) o)); formals = ((record { names = ((w 37) ∷ (w 38) ∷ (w 39) ∷ []); mode = mode.Give; mark = (w 0) }) ∷ []); span = o }) (present (stmt_then (SAssign (record { name = (w 37); index = None }) (EIndex (w 51) (n 54) o) o) (stmt_then (SAssign (record { name = (w 38); index = None }) (EIndex (w 52) (n 54) o) o) (stmt_then (SAssign (record { name = (w 39); index = None }) (EIndex (w 53) (n 54) o) o) no_stmt))))) o) no_stmt)) (case_arm_then (case_arm ((record { first = (EInteger 2 o); last = None }) ∷ []) (stmt_then (SAccept (accepting (record { entry = (w 42); index = (Some (EIndex (w 50) (n 54) o)); formals = ([]); span = o }) absent) o) no_stmt)) no_case_arm)) (present (stmt_then (SCase (EIndex (w 50) (n 54) o) (case_arm_then (case_arm ((record { first = (EInteger 1 o); last = None }) ∷ []) (stmt_then (SBlock (body (stmt_then (SCall (record { task = (record { name = (w 29); index = None }); entry = (w 48); args = None }) o) no_stmt) (handler_then (handler ((w 9) ∷ []) (stmt_then (SNull o) no_stmt) o) no_handler)) o) no_stmt)) (case_arm_then (case_arm ((record { first = (EInteger 2 o); last = None }) ∷ []) (stmt_then (SBlock (body (stmt_then (SCall (record { task = (record { name = (w 33); index = None }); entry = (w 48); args = None }) o) no_stmt) (handler_then (handler ((w 9) ∷ []) (stmt_then (SNull o) no_stmt) o) no_handler)) o) no_stmt)) no_case_arm)) (present (stmt_then (SNull o) no_stmt)) o) no_stmt)) o) no_stmt) o) (stmt_then (SAccept (accepting (record { entry = (w 43); index = None; formals = ([]); span = o }) absent) o) no_stmt)) no_handler) o) (decl_then (DTaskBody (w 44) no_decl (body (stmt_then (SWait (alt_then (alternative None (AAccept (accepting (record { entry = (w 46); index = None; formals = ([]); span = o }) absent) no_stmt) o) (alt_then (alternative None ATerminate o) no_alt)) absent o) no_stmt) no_handler) o) no_decl)))))))))); body = (body (stmt_then (SBlock (body (stmt_then (SNull o) no_stmt) (handler_then (handler ([]) (stmt_then (SNull o) no_stmt) o) no_handler)) o) (stmt_then (SCall (record { task = (record { name = (w 40); index = None }); entry = (w 41); args = (Some (record { first = ((EInteger 0 o) ∷ []); second = (Some ((n 37) ∷ (n 38) ∷ (n 39) ∷ [])) })) }) o) (stmt_then (SIf (arm_then (arm (EBinary binary.NotEqual (n 37) (EInteger 10 o) o) (stmt_then (SCall (record { task = (record { name = (w 44); index = None }); entry = (w 45); args = None }) o) no_stmt)) no_arm) absent o) no_stmt))) no_handler) }

calls_is_replayed : replay_in calls calls_events ≡ calls_replay
unfolding digits
calls_is_replayed = refl

-- These are its numbers, and it is legal as a rewritten text.
calls_numbers : replay_numbers_in calls ≡ numbers_in calls_replay
unfolding digits
calls_numbers = refl

calls_replay_is_legal : refusals calls_replay ≡ []
unfolding digits
calls_replay_is_legal = refl

calls_replay_is_checked : check_refusals calls_replay mode_of.Any ≡ []
unfolding digits
calls_replay_is_checked = refl

-- All runs of the text, of which none has 20 events, show fronts of the sequence, and each ends with all of it and with the output of the original.
calls_many : length (shown_by calls_replay [] 20) ≡ 15
unfolding digits
calls_many = refl

calls_shows_fronts : shows_fronts (numbers_in calls_replay) calls_events (shown_by calls_replay [] 20) ≡ true
unfolding digits
calls_shows_fronts = refl

calls_shows_whole : shows_whole (numbers_in calls_replay) calls_events (shown_by calls_replay [] 20) ≡ true
unfolding digits
calls_shows_whole = refl

calls_ends_alike : ends_alike (numbers_in calls_replay) calls_events (shown_by calls [] 3) (shown_by calls_replay [] 20) ≡ true
unfolding digits
calls_ends_alike = refl
