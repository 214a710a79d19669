-- Selective waits with guards, delays, an else part and a terminate alternative, a family with negative members, and aborts.
use Rattle.std.specs.Prelude.{◌≡◌, refl, codes, ◌++◌, ◌∷◌, [], List, length, true, false, None, Some, negsuc}
use Rattle.std.specs.Fmt.{digits}
use Rattle.ada_tree.specs.NameList.{predefined}
use Rattle.ada_tree.specs.declared.expressions.BinaryOp.TheVariants as binary
use Rattle.ada_tree.specs.declared.expressions.UnaryOp.TheVariants as unary
use Rattle.ada_tree.specs.declared.statements.ParMode.TheVariants as mode
use Rattle.ada_tree.specs.PlainExpr.{EInteger, EBinary, EUnary, RGiven, EIndex}
use Rattle.ada_tree.specs.PlainStmt.{SNull, SAssign, SRaise, SAbort, SCall, SAccept, SWait, SPutLine, SIf, SBlock, no_stmt, stmt_then, absent, present, accepting, alternative, AAccept, ADelay, ATerminate, no_alt, alt_then, arm, no_arm, arm_then, body, handler, no_handler, handler_then, PWords, LFor, SCase, SLoop, case_arm, no_case_arm, case_arm_then}
use Rattle.ada_tree.specs.PlainDecl.{OPlain, IOne, DObject, DTask, DTaskBody, no_decl, decl_then, OArray, IList}
use Rattle.ada_tree.specs.PlainProgram.{PProgram}
use Rattle.ada_static_rules.specs.Refusals.{refusals}
use Rattle.event_machine.specs.declared.Event.{Event}
use Rattle.event_machine.specs.declared.Event.TheVariants as event
use Rattle.syn_event.specs.CheckRefusals.{check_refusals}
use Rattle.syn_event.specs.declared.numbering.Mode.TheVariants as mode_of
use Rattle.progress_law.specs.rewritten.replay.Fronts.{shows_fronts, shows_whole, ends_alike}
use Rattle.progress_law.proofs.rewritten.replay.Trees.{o, w, n, numbers_in, replay_in, replay_numbers_in, shown_by}

-- procedure WAITS is
--    task T is
--       entry E(-2 .. 2);
--    end T;
--    task K;
--    task body T is
--       N : INTEGER := -2;
--    begin
--       select
--          when N < 0 =>
--             accept E(N);
--             PUT_LINE("E");
--       or
--          when N > 0 =>
--             delay 0.5;
--       or
--          delay 1.0;
--          PUT_LINE("LATE");
--       or
--          delay 2.0;
--       end select;
--       select
--          accept E(1);
--       else
--          PUT_LINE("ELSE");
--       end select;
--       select
--          accept E(2);
--       or
--          when N < 2 =>
--             terminate;
--       end select;
--    end T;
--    task body K is
--    begin
--       abort T, K;
--    end K;
-- begin
--    T.E(-2);
-- end WAITS;
abbrev waits : PProgram
waits = record { names = (predefined ++ (codes "WAITS" ∷ codes "T" ∷ codes "E" ∷ codes "K" ∷ codes "N" ∷ [])); text_io = false; name = (w 25); decls = (decl_then (DTask (record { name = (w 26); of_kind = false; entries = ((record { name = (w 27); family = (Some (RGiven (record { first = (EUnary unary.Minus (EInteger 2 o) o); last = (EInteger 2 o) }))); formals = ([]); span = o }) ∷ []); priorities = ([]) }) o) (decl_then (DTask (record { name = (w 28); of_kind = false; entries = ([]); priorities = ([]) }) o) (decl_then (DTaskBody (w 26) (decl_then (DObject ((w 29) ∷ []) false (OPlain (record { mark = (w 0); bounds = None })) (Some (IOne (EUnary unary.Minus (EInteger 2 o) o))) o) no_decl) (body (stmt_then (SWait (alt_then (alternative (Some (EBinary binary.Less (n 29) (EInteger 0 o) o)) (AAccept (accepting (record { entry = (w 27); index = (Some (n 29)); formals = ([]); span = o }) absent) (stmt_then (SPutLine ((PWords (codes "E") o) ∷ []) o) no_stmt)) o) (alt_then (alternative (Some (EBinary binary.Greater (n 29) (EInteger 0 o) o)) (ADelay 500 no_stmt) o) (alt_then (alternative None (ADelay 1000 (stmt_then (SPutLine ((PWords (codes "LATE") o) ∷ []) o) no_stmt)) o) (alt_then (alternative None (ADelay 2000 no_stmt) o) no_alt)))) absent o) (stmt_then (SWait (alt_then (alternative None (AAccept (accepting (record { entry = (w 27); index = (Some (EInteger 1 o)); formals = ([]); span = o }) absent) no_stmt) o) no_alt) (present (stmt_then (SPutLine ((PWords (codes "ELSE") o) ∷ []) o) no_stmt)) o) (stmt_then (SWait (alt_then (alternative None (AAccept (accepting (record { entry = (w 27); index = (Some (EInteger 2 o)); formals = ([]); span = o }) absent) no_stmt) o) (alt_then (alternative (Some (EBinary binary.Less (n 29) (EInteger 2 o) o)) ATerminate o) no_alt)) absent o) no_stmt))) no_handler) o) (decl_then (DTaskBody (w 28) no_decl (body (stmt_then (SAbort ((record { name = (w 26); index = None }) ∷ (record { name = (w 28); index = None }) ∷ []) o) no_stmt) no_handler) o) no_decl)))); body = (body (stmt_then (SCall (record { task = (record { name = (w 26); index = None }); entry = (w 27); args = (Some (record { first = ((EUnary unary.Minus (EInteger 2 o) o) ∷ []); second = None })) }) o) no_stmt) no_handler) }

-- It is legal.
waits_is_legal : refusals waits ≡ []
unfolding digits
waits_is_legal = refl

waits_is_checked : check_refusals waits mode_of.Original ≡ []
unfolding digits
waits_is_checked = refl

-- The sequence: R 0 1 -2, E 1, S 1, B 2 1, B 2 2, Z.
abbrev waits_events : List Event
waits_events = event.R 0 1 (negsuc 1) ∷ event.E 1 ∷ event.S 1 ∷ event.B 2 1 ∷ event.B 2 2 ∷ event.Z ∷ []

-- Its replay text:
--
-- procedure WAITS is
--    DED_K, DED_A, DED_I : INTEGER := 0;
--    DED_V1 : INTEGER range -2 .. 2;
--    task T is
--       entry E(-2 .. 2);
--       entry DED_S_E(-2 .. 2);
--       entry DED_NEVER;
--       entry DED_JOIN;
--    end T;
--    task K is
--       entry DED_NEVER;
--       entry DED_JOIN;
--    end K;
-- ..  (as in the text of `calls_replay`, 10 lines: from "task DED_CONTROL is" to "task body T is")
--       N : INTEGER := -2;
--       DED_K, DED_A, DED_I : INTEGER := 0;
--       DED_V1 : BOOLEAN;
--       DED_V2 : INTEGER range -2 .. 2;
--       DED_V3 : BOOLEAN;
--       DED_V4 : BOOLEAN;
--    begin
--       begin
--          DED_V1 := N < 0;
--          if DED_V1 then
--             DED_V2 := N;
--          end if;
--          DED_V3 := N > 0;
--          DED_CONTROL.GO(1)(DED_K, DED_A, DED_I);
--          if DED_K = 1 and DED_A = 1 and DED_I = DED_V2 and DED_V1 then
--             accept E(DED_V2) do
--                DED_CONTROL.DONE(1);
--                DED_CONTROL.GO(1)(DED_K, DED_A, DED_I);
--                if DED_K /= 2 then
--                   DED_IDLE.STOP;
--                end if;
--             end E;
--             DED_CONTROL.DONE(1);
--             PUT_LINE("E");
--          elsif DED_K = 4 and DED_A = 1 and DED_V3 then
--             select
--                accept DED_NEVER;
--             or
--                delay 0.5;
--             or
--                when FALSE =>
--                   delay 1.0;
--             or
--                when FALSE =>
--                   delay 2.0;
--             end select;
--             DED_CONTROL.DONE(1);
--          elsif DED_K = 4 and DED_A = 2 and not DED_V3 then
--             select
--                accept DED_NEVER;
--             or
--                when FALSE =>
--                   delay 0.5;
--             or
--                delay 1.0;
--             or
--                when FALSE =>
--                   delay 2.0;
--             end select;
--             DED_CONTROL.DONE(1);
--             PUT_LINE("LATE");
--          elsif DED_K = 4 and DED_A = 3 and not DED_V3 and FALSE then
--             select
--                accept DED_NEVER;
--             or
--                when FALSE =>
--                   delay 0.5;
--             or
--                when FALSE =>
--                   delay 1.0;
--             or
--                delay 2.0;
--             end select;
--             DED_CONTROL.DONE(1);
--          else
--             DED_IDLE.STOP;
--          end if;
--          DED_CONTROL.GO(1)(DED_K, DED_A, DED_I);
--          if DED_K = 1 and DED_A = 1 and DED_I = 1 then
--             accept E(1) do
--                DED_CONTROL.DONE(1);
--                DED_CONTROL.GO(1)(DED_K, DED_A, DED_I);
--                if DED_K /= 2 then
--                   DED_IDLE.STOP;
--                end if;
--             end E;
--             DED_CONTROL.DONE(1);
--          elsif DED_K = 3 then
--             select
--                accept DED_NEVER;
--             else
--                null;
--             end select;
--             DED_CONTROL.DONE(1);
--             PUT_LINE("ELSE");
--          else
--             DED_IDLE.STOP;
--          end if;
--          DED_V4 := N < 2;
--          DED_CONTROL.GO(1)(DED_K, DED_A, DED_I);
--          if DED_K = 1 and DED_A = 1 and DED_I = 2 then
--             accept E(2) do
--                DED_CONTROL.DONE(1);
--                DED_CONTROL.GO(1)(DED_K, DED_A, DED_I);
--                if DED_K /= 2 then
--                   DED_IDLE.STOP;
--                end if;
--             end E;
--             DED_CONTROL.DONE(1);
--          elsif DED_K = 10 and DED_V4 then
--             select
--                accept DED_NEVER;
--             or
--                terminate;
--             end select;
-- ..        (as in the text of `calls_replay`, 12 lines: from "else" to "end T;")
--    task body K is
--       DED_K, DED_A, DED_I : INTEGER := 0;
--    begin
--       begin
--          DED_CONTROL.GO(2)(DED_K, DED_A, DED_I);
--          if DED_K = 9 and DED_A = 1 then
--             abort T;
--             DED_CONTROL.DONE(2);
--          else
--             DED_IDLE.STOP;
--          end if;
--          DED_CONTROL.GO(2)(DED_K, DED_A, DED_I);
--          if DED_K = 9 and DED_A = 2 then
--             abort K;
--          else
--             DED_IDLE.STOP;
--          end if;
--       exception
--          when others =>
--             null;
--       end;
--       DED_CONTROL.GO(2)(DED_K, DED_A, DED_I);
--       if DED_K /= 8 then
--          DED_IDLE.STOP;
--       end if;
--    end K;
--    task body DED_CONTROL is
--       DED_OPS : constant array (1 .. 12) of INTEGER := (1, 1, 2, 1, 2, 1, 2, 1, 2, 1, 3, 1);
--       DED_TS : constant array (1 .. 12) of INTEGER := (0, 1, 1, 1, 1, 1, 1, 2, 2, 2, 2, 0);
--       DED_KS : constant array (1 .. 12) of INTEGER := (1, 1, 0, 2, 0, 3, 0, 9, 0, 9, 0, 10);
--       DED_AS : constant array (1 .. 12) of INTEGER := (1, 1, 0, 0, 0, 0, 0, 1, 0, 2, 0, 0);
--       DED_IS : constant array (1 .. 12) of INTEGER := (-2, -2, 0, 0, 0, 0, 0, 0, 0, 0, 0, 0);
--    begin
--       for DED_N in 1 .. 12 loop
-- ..        (as in the text of `calls_replay`, 20 lines: from "case DED_OPS(DED_N) is" to "begin")
--                         K.DED_JOIN;
-- ..                    (as in the text of `p1_replay`, 20 lines: from "exception" to "begin")
--       DED_V1 := -2;
--       DED_CONTROL.GO(0)(DED_K, DED_A, DED_I);
--       if DED_K = 1 and DED_A = 1 and DED_I = DED_V1 then
--          T.E(DED_V1);
--       elsif DED_K = 7 and DED_A = 1 and DED_I = DED_V1 then
--          begin
--             T.DED_S_E(DED_V1);
-- ..        (as in the text of `p1_replay`, 16 lines: from "exception" to "end if;")
-- end WAITS;
abbrev waits_replay : PProgram
waits_replay = record { names = (predefined ++ (codes "WAITS" ∷ codes "T" ∷ codes "E" ∷ codes "K" ∷ codes "N" ∷ codes "DED_V1" ∷ codes "DED_V2" ∷ codes "DED_V3" ∷ codes "DED_V4" ∷ codes "DED_K" ∷ codes "DED_A" ∷ codes "DED_I" ∷ codes "DED_CONTROL" ∷ codes "GO" ∷ codes "DONE" ∷ codes "HOLD" ∷ codes "DED_IDLE" ∷ codes "STOP" ∷ codes "NEVER" ∷ codes "DED_NEVER" ∷ codes "DED_JOIN" ∷ codes "DED_OPS" ∷ codes "DED_TS" ∷ codes "DED_KS" ∷ codes "DED_AS" ∷ codes "DED_IS" ∷ codes "DED_N" ∷ codes "DED_S_E" ∷ [])); text_io = false; name = (w 25); decls = (decl_then (DObject ((w 34) ∷ (w 35) ∷ (w 36) ∷ []) false (OPlain (record { mark = (w 0); bounds = None })) (Some (IOne (EInteger 0 o))) o) (decl_then (DObject ((w 30) ∷ []) false (OPlain (record { mark = (w 0); bounds = (Some (record { first = (EUnary unary.Minus (EInteger 2 o) o); last = (EInteger 2 o) })) })) None o) (decl_then (DTask (record { name = (w 26); of_kind = false; entries = ((record { name = (w 27); family = (Some (RGiven (record { first = (EUnary unary.Minus (EInteger 2 o) o); last = (EInteger 2 o) }))); formals = ([]); span = o }) ∷ (record { name = (w 52); family = (Some (RGiven (record { first = (EUnary unary.Minus (EInteger 2 o) o); last = (EInteger 2 o) }))); formals = ([]); span = o }) ∷ (record { name = (w 44); family = None; formals = ([]); span = o }) ∷ (record { name = (w 45); family = None; formals = ([]); span = o }) ∷ []); priorities = ([]) }) o) (decl_then (DTask (record { name = (w 28); of_kind = false; entries = ((record { name = (w 44); family = None; formals = ([]); span = o }) ∷ (record { name = (w 45); family = None; formals = ([]); span = o }) ∷ []); priorities = ([]) }) o) (decl_then (DTask (record { name = (w 37); of_kind = false; entries = ((record { name = (w 38); family = (Some (RGiven (record { first = (EInteger 0 o); last = (EInteger 2 o) }))); formals = ((record { names = ((w 34) ∷ (w 35) ∷ (w 36) ∷ []); mode = mode.Give; mark = (w 0) }) ∷ []); span = o }) ∷ (record { name = (w 39); family = (Some (RGiven (record { first = (EInteger 0 o); last = (EInteger 2 o) }))); formals = ([]); span = o }) ∷ (record { name = (w 40); family = None; formals = ([]); span = o }) ∷ []); priorities = ([]) }) o) (decl_then (DTask (record { name = (w 41); of_kind = false; entries = ((record { name = (w 42); family = None; formals = ([]); span = o }) ∷ (record { name = (w 43); family = None; formals = ([]); span = o }) ∷ []); priorities = ([]) }) o) (decl_then (DTaskBody (w 26) (decl_then (DObject ((w 29) ∷ []) false (OPlain (record { mark = (w 0); bounds = None })) (Some (IOne (EUnary unary.Minus (EInteger 2 o) o))) o) (decl_then (DObject ((w 34) ∷ (w 35) ∷ (w 36) ∷ []) false (OPlain (record { mark = (w 0); bounds = None })) (Some (IOne (EInteger 0 o))) o) (decl_then (DObject ((w 30) ∷ []) false (OPlain (record { mark = (w 3); bounds = None })) None o) (decl_then (DObject ((w 31) ∷ []) false (OPlain (record { mark = (w 0); bounds = (Some (record { first = (EUnary unary.Minus (EInteger 2 o) o); last = (EInteger 2 o) })) })) None o) (decl_then (DObject ((w 32) ∷ []) false (OPlain (record { mark = (w 3); bounds = None })) None o) (decl_then (DObject ((w 33) ∷ []) false (OPlain (record { mark = (w 3); bounds = None })) None o) no_decl)))))) (body (stmt_then (SBlock (body (stmt_then (SAssign (record { name = (w 30); index = None }) (EBinary binary.Less (n 29) (EInteger 0 o) o) o) (stmt_then (SIf (arm_then (arm (n 30) (stmt_then (SAssign (record { name = (w 31); index = None }) (n 29) o) no_stmt)) no_arm) absent o) (stmt_then (SAssign (record { name = (w 32); index = None }) (EBinary binary.Greater (n 29) (EInteger 0 o) o) o) (stmt_then (SCall (record { task = (record { name = (w 37); index = None }); entry = (w 38); args = (Some (record { first = ((EInteger 1 o) ∷ []); second = (Some ((n 34) ∷ (n 35) ∷ (n 36) ∷ [])) })) }) o) (stmt_then (SIf (arm_then (arm (EBinary binary.And (EBinary binary.And (EBinary binary.And (EBinary binary.Equal (n 34) (EInteger 1 o) o) (EBinary binary.Equal (n 35) (EInteger 1 o) o) o) (EBinary binary.Equal (n 36) (n 31) o) o) (n 30) o) (stmt_then (SAccept (accepting (record { entry = (w 27); index = (Some (n 31)); formals = ([]); span = o }) (present (stmt_then (SCall (record { task = (record { name = (w 37); index = None }); entry = (w 39); args = (Some (record { first = ((EInteger 1 o) ∷ []); second = None })) }) o) (stmt_then (SCall (record { task = (record { name = (w 37); index = None }); entry = (w 38); args = (Some (record { first = ((EInteger 1 o) ∷ []); second = (Some ((n 34) ∷ (n 35) ∷ (n 36) ∷ [])) })) }) o) (stmt_then (SIf (arm_then (arm (EBinary binary.NotEqual (n 34) (EInteger 2 o) o) (stmt_then (SCall (record { task = (record { name = (w 41); index = None }); entry = (w 42); args = None }) o) no_stmt)) no_arm) absent o) no_stmt))))) o) (stmt_then (SCall (record { task = (record { name = (w 37); index = None }); entry = (w 39); args = (Some (record { first = ((EInteger 1 o) ∷ []); second = None })) }) o) (stmt_then (SPutLine ((PWords (codes "E") o) ∷ []) o) no_stmt)))) (arm_then (arm (EBinary binary.And (EBinary binary.And (EBinary binary.Equal (n 34) (EInteger 4 o) o) (EBinary binary.Equal (n 35) (EInteger 1 o) o) o) (n 32) o) (stmt_then (SWait (alt_then (alternative None (AAccept (accepting (record { entry = (w 44); index = None; formals = ([]); span = o }) absent) no_stmt) o) (alt_then (alternative None (ADelay 500 no_stmt) o) (alt_then (alternative (Some (n 4)) (ADelay 1000 no_stmt) o) (alt_then (alternative (Some (n 4)) (ADelay 2000 no_stmt) o) no_alt)))) absent o) (stmt_then (SCall (record { task = (record { name = (w 37); index = None }); entry = (w 39); args = (Some (record { first = ((EInteger 1 o) ∷ []); second = None })) }) o) no_stmt))) (arm_then (arm (EBinary binary.And (EBinary binary.And (EBinary binary.Equal (n 34) (EInteger 4 o) o) (EBinary binary.Equal (n 35) (EInteger 2 o) o) o) (EUnary unary.Not (n 32) o) o) (stmt_then (SWait (alt_then (alternative None (AAccept (accepting (record { entry = (w 44); index = None; formals = ([]); span = o }) absent) no_stmt) o) (alt_then (alternative (Some (n 4)) (ADelay 500 no_stmt) o) (alt_then (alternative None (ADelay 1000 no_stmt) o) (alt_then (alternative (Some (n 4)) (ADelay 2000 no_stmt) o) no_alt)))) absent o) (stmt_then (SCall (record { task = (record { name = (w 37); index = None }); entry = (w 39); args = (Some (record { first = ((EInteger 1 o) ∷ []); second = None })) }) o) (stmt_then (SPutLine ((PWords (codes "LATE") o) ∷ []) o) no_stmt)))) (arm_then (arm (EBinary binary.And (EBinary binary.And (EBinary binary.And (EBinary binary.Equal (n 34) (EInteger 4 o) o) (EBinary binary.Equal (n 35) (EInteger 3 o) o) o) (EUnary unary.Not (n 32) o) o) (n 4) o) (stmt_then (SWait (alt_then (alternative None (AAccept (accepting (record { entry = (w 44); index = None; formals = ([]); span = o }) absent) no_stmt) o) (alt_then (alternative (Some (n 4)) (ADelay 500 no_stmt) o) (alt_then (alternative (Some (n 4)) (ADelay 1000 no_stmt) o) (alt_then (alternative None (ADelay 2000 no_stmt) o) no_alt)))) absent o) (stmt_then (SCall (record { task = (record { name = (w 37); index = None }); entry = (w 39); args = (Some (record { first = ((EInteger 1 o) ∷ []); second = None })) }) o) no_stmt))) no_arm)))) (present (stmt_then (SCall (record { task = (record { name = (w 41); index = None }); entry = (w 42); args = None }) o) no_stmt)) o) (stmt_then (SCall (record { task = (record { name = (w 37); index = None }); entry = (w 38); args = (Some (record { first = ((EInteger 1 o) ∷ []); second = (Some ((n 34) ∷ (n 35) ∷ (n 36) ∷ [])) })) }) o) (stmt_then (SIf (arm_then (arm (EBinary binary.And (EBinary binary.And (EBinary binary.Equal (n 34) (EInteger 1 o) o) (EBinary binary.Equal (n 35) (EInteger 1 o) o) o) (EBinary binary.Equal (n 36) (EInteger 1 o) o) o) (stmt_then (SAccept (accepting (record { entry = (w 27); index = (Some (EInteger 1 o)); formals = ([]); span = o }) (present (stmt_then (SCall (record { task = (record { name = (w 37); index = None }); entry = (w 39); args = (Some (record { first = ((EInteger 1 o) ∷ []); second = None })) }) o) (stmt_then (SCall (record { task = (record { name = (w 37); index = None }); entry = (w 38); args = (Some (record { first = ((EInteger 1 o) ∷ []); second = (Some ((n 34) ∷ (n 35) ∷ (n 36) ∷ [])) })) }) o) (stmt_then (SIf (arm_then (arm (EBinary binary.NotEqual (n 34) (EInteger 2 o) o) (stmt_then (SCall (record { task = (record { name = (w 41); index = None }); entry = (w 42); args = None }) o) no_stmt)) no_arm) absent o) no_stmt))))) o) (stmt_then (SCall (record { task = (record { name = (w 37); index = None }); entry = (w 39); args = (Some (record { first = ((EInteger 1 o) ∷ []); second = None })) }) o) no_stmt))) (arm_then (arm (EBinary binary.Equal (n 34) (EInteger 3 o) o) (stmt_then (SWait (alt_then (alternative None (AAccept (accepting (record { entry = (w 44); index = None; formals = ([]); span = o }) absent) no_stmt) o) no_alt) (present (stmt_then (SNull o) no_stmt)) o) (stmt_then (SCall (record { task = (record { name = (w 37); index = None }); entry = (w 39); args = (Some (record { first = ((EInteger 1 o) ∷ []); second = None })) }) o) (stmt_then (SPutLine ((PWords (codes "ELSE") o) ∷ []) o) no_stmt)))) no_arm)) (present (stmt_then (SCall (record { task = (record { name = (w 41); index = None }); entry = (w 42); args = None }) o) no_stmt)) o) (stmt_then (SAssign (record { name = (w 33); index = None }) (EBinary binary.Less (n 29) (EInteger 2 o) o) o) (stmt_then (SCall (record { task = (record { name = (w 37); index = None }); entry = (w 38); args = (Some (record { first = ((EInteger 1 o) ∷ []); second = (Some ((n 34) ∷ (n 35) ∷ (n 36) ∷ [])) })) }) o) (stmt_then (SIf (arm_then (arm (EBinary binary.And (EBinary binary.And (EBinary binary.Equal (n 34) (EInteger 1 o) o) (EBinary binary.Equal (n 35) (EInteger 1 o) o) o) (EBinary binary.Equal (n 36) (EInteger 2 o) o) o) (stmt_then (SAccept (accepting (record { entry = (w 27); index = (Some (EInteger 2 o)); formals = ([]); span = o }) (present (stmt_then (SCall (record { task = (record { name = (w 37); index = None }); entry = (w 39); args = (Some (record { first = ((EInteger 1 o) ∷ []); second = None })) }) o) (stmt_then (SCall (record { task = (record { name = (w 37); index = None }); entry = (w 38); args = (Some (record { first = ((EInteger 1 o) ∷ []); second = (Some ((n 34) ∷ (n 35) ∷ (n 36) ∷ [])) })) }) o) (stmt_then (SIf (arm_then (arm (EBinary binary.NotEqual (n 34) (EInteger 2 o) o) (stmt_then (SCall (record { task = (record { name = (w 41); index = None }); entry = (w 42); args = None }) o) no_stmt)) no_arm) absent o) no_stmt))))) o) (stmt_then (SCall (record { task = (record { name = (w 37); index = None }); entry = (w 39); args = (Some (record { first = ((EInteger 1 o) ∷ []); second = None })) }) o) no_stmt))) (arm_then (arm (EBinary binary.And (EBinary binary.Equal (n 34) (EInteger 10 o) o) (n 33) o) (stmt_then (SWait (alt_then (alternative None (AAccept (accepting (record { entry = (w 44); index = None; formals = ([]); span = o }) absent) no_stmt) o) (alt_then (alternative None ATerminate o) no_alt)) absent o) no_stmt)) no_arm)) (present (stmt_then (SCall (record { task = (record { name = (w 41); index = None }); entry = (w 42); args = None }) o) no_stmt)) o) no_stmt)))))))))) (handler_then (handler ([]) (stmt_then (SNull o) no_stmt) o) no_handler)) o) (stmt_then (SCall (record { task = (record { name = (w 37); index = None }); entry = (w 38); args = (Some (record { first = ((EInteger 1 o) ∷ []); second = (Some ((n 34) ∷ (n 35) ∷ (n 36) ∷ [])) })) }) o) (stmt_then (SIf (arm_then (arm (EBinary binary.NotEqual (n 34) (EInteger 8 o) o) (stmt_then (SCall (record { task = (record { name = (w 41); index = None }); entry = (w 42); args = None }) o) no_stmt)) no_arm) absent o) no_stmt))) no_handler) o) (decl_then (DTaskBody (w 28) (decl_then (DObject ((w 34) ∷ (w 35) ∷ (w 36) ∷ []) false (OPlain (record { mark = (w 0); bounds = None })) (Some (IOne (EInteger 0 o))) o) no_decl) (body (stmt_then (SBlock (body (stmt_then (SCall (record { task = (record { name = (w 37); index = None }); entry = (w 38); args = (Some (record { first = ((EInteger 2 o) ∷ []); second = (Some ((n 34) ∷ (n 35) ∷ (n 36) ∷ [])) })) }) o) (stmt_then (SIf (arm_then (arm (EBinary binary.And (EBinary binary.Equal (n 34) (EInteger 9 o) o) (EBinary binary.Equal (n 35) (EInteger 1 o) o) o) (stmt_then (SAbort ((record { name = (w 26); index = None }) ∷ []) o) (stmt_then (SCall (record { task = (record { name = (w 37); index = None }); entry = (w 39); args = (Some (record { first = ((EInteger 2 o) ∷ []); second = None })) }) o) no_stmt))) no_arm) (present (stmt_then (SCall (record { task = (record { name = (w 41); index = None }); entry = (w 42); args = None }) o) no_stmt)) o) (stmt_then (SCall (record { task = (record { name = (w 37); index = None }); entry = (w 38); args = (Some (record { first = ((EInteger 2 o) ∷ []); second = (Some ((n 34) ∷ (n 35) ∷ (n 36) ∷ [])) })) }) o) (stmt_then (SIf (arm_then (arm (EBinary binary.And (EBinary binary.Equal (n 34) (EInteger 9 o) o) (EBinary binary.Equal (n 35) (EInteger 2 o) o) o) (stmt_then (SAbort ((record { name = (w 28); index = None }) ∷ []) o) no_stmt)) no_arm) (present (stmt_then (SCall (record { task = (record { name = (w 41); index = None }); entry = (w 42); args = None }) o) no_stmt)) o) no_stmt)))) (handler_then (handler ([]) (stmt_then (SNull o) no_stmt) o) no_handler)) o) (stmt_then (SCall (record { task = (record { name = (w 37); index = None }); entry = (w 38); args = (Some (record { first = ((EInteger 2 o) ∷ []); second = (Some ((n 34) ∷ (n 35) ∷ (n 36) ∷ [])) })) }) o) (stmt_then (SIf (arm_then (arm (EBinary binary.NotEqual (n 34) (EInteger 8 o) o) (stmt_then (SCall (record { task = (record { name = (w 41); index = None }); entry = (w 42); args = None }) o) no_stmt)) no_arm) absent o) no_stmt))) no_handler) o) (decl_then (DTaskBody (w 37) (decl_then (DObject ((w 46) ∷ []) true (OArray (RGiven (record { first = (EInteger 1 o); last = (EInteger 12 o) })) (record { mark = (w 0); bounds = None })) (Some (IList ((EInteger 1 o) ∷ (EInteger 1 o) ∷ (EInteger 2 o) ∷ (EInteger 1 o) ∷ (EInteger 2 o) ∷ (EInteger 1 o) ∷ (EInteger 2 o) ∷ (EInteger 1 o) ∷ (EInteger 2 o) ∷ (EInteger 1 o) ∷ (EInteger 3 o) ∷ (EInteger 1 o) ∷ []) o)) o) (decl_then (DObject ((w 47) ∷ []) true (OArray (RGiven (record { first = (EInteger 1 o); last = (EInteger 12 o) })) (record { mark = (w 0); bounds = None })) (Some (IList ((EInteger 0 o) ∷ (EInteger 1 o) ∷ (EInteger 1 o) ∷ (EInteger 1 o) ∷ (EInteger 1 o) ∷ (EInteger 1 o) ∷ (EInteger 1 o) ∷ (EInteger 2 o) ∷ (EInteger 2 o) ∷ (EInteger 2 o) ∷ (EInteger 2 o) ∷ (EInteger 0 o) ∷ []) o)) o) (decl_then (DObject ((w 48) ∷ []) true (OArray (RGiven (record { first = (EInteger 1 o); last = (EInteger 12 o) })) (record { mark = (w 0); bounds = None })) (Some (IList ((EInteger 1 o) ∷ (EInteger 1 o) ∷ (EInteger 0 o) ∷ (EInteger 2 o) ∷ (EInteger 0 o) ∷ (EInteger 3 o) ∷ (EInteger 0 o) ∷ (EInteger 9 o) ∷ (EInteger 0 o) ∷ (EInteger 9 o) ∷ (EInteger 0 o) ∷ (EInteger 10 o) ∷ []) o)) o) (decl_then (DObject ((w 49) ∷ []) true (OArray (RGiven (record { first = (EInteger 1 o); last = (EInteger 12 o) })) (record { mark = (w 0); bounds = None })) (Some (IList ((EInteger 1 o) ∷ (EInteger 1 o) ∷ (EInteger 0 o) ∷ (EInteger 0 o) ∷ (EInteger 0 o) ∷ (EInteger 0 o) ∷ (EInteger 0 o) ∷ (EInteger 1 o) ∷ (EInteger 0 o) ∷ (EInteger 2 o) ∷ (EInteger 0 o) ∷ (EInteger 0 o) ∷ []) o)) o) (decl_then (DObject ((w 50) ∷ []) true (OArray (RGiven (record { first = (EInteger 1 o); last = (EInteger 12 o) })) (record { mark = (w 0); bounds = None })) (Some (IList ((EUnary unary.Minus (EInteger 2 o) o) ∷ (EUnary unary.Minus (EInteger 2 o) o) ∷ (EInteger 0 o) ∷ (EInteger 0 o) ∷ (EInteger 0 o) ∷ (EInteger 0 o) ∷ (EInteger 0 o) ∷ (EInteger 0 o) ∷ (EInteger 0 o) ∷ (EInteger 0 o) ∷ (EInteger 0 o) ∷ (EInteger 0 o) ∷ []) o)) o) no_decl))))) (body (stmt_then (SLoop None (Some (LFor (w 51) false (RGiven (record { first = (EInteger 1 o); last = (EInteger 12 o) })))) (stmt_then (SCase (EIndex (w 46) (n 51) o) (case_arm_then (case_arm ((record { first = (EInteger 1 o); last = None }) ∷ []) (stmt_then (SAccept (accepting (record { entry = (w 38); index = (Some (EIndex (w 47) (n 51) o)); formals = ((record { names = ((w 34) ∷ (w 35) ∷ (w 36) ∷ []); mode = mode.Give; mark = (w 0) }) ∷ []); span = o }) (present (stmt_then (SAssign (record { name = (w 34); index = None }) (EIndex (w 48) (n 51) o) o) (stmt_then (SAssign (record { name = (w 35); index = None }) (EIndex (w 49) (n 51) o) o) (stmt_then (SAssign (record { name = (w 36); index = None }) (EIndex (w 50) (n 51) o) o) no_stmt))))) o) no_stmt)) (case_arm_then (case_arm ((record { first = (EInteger 2 o); last = None }) ∷ []) (stmt_then (SAccept (accepting (record { entry = (w 39); index = (Some (EIndex (w 47) (n 51) o)); formals = ([]); span = o }) absent) o) no_stmt)) no_case_arm)) (present (stmt_then (SCase (EIndex (w 47) (n 51) o) (case_arm_then (case_arm ((record { first = (EInteger 1 o); last = None }) ∷ []) (stmt_then (SBlock (body (stmt_then (SCall (record { task = (record { name = (w 26); index = None }); entry = (w 45); args = None }) o) no_stmt) (handler_then (handler ((w 9) ∷ []) (stmt_then (SNull o) no_stmt) o) no_handler)) o) no_stmt)) (case_arm_then (case_arm ((record { first = (EInteger 2 o); last = None }) ∷ []) (stmt_then (SBlock (body (stmt_then (SCall (record { task = (record { name = (w 28); index = None }); entry = (w 45); args = None }) o) no_stmt) (handler_then (handler ((w 9) ∷ []) (stmt_then (SNull o) no_stmt) o) no_handler)) o) no_stmt)) no_case_arm)) (present (stmt_then (SNull o) no_stmt)) o) no_stmt)) o) no_stmt) o) no_stmt) no_handler) o) (decl_then (DTaskBody (w 41) no_decl (body (stmt_then (SWait (alt_then (alternative None (AAccept (accepting (record { entry = (w 43); index = None; formals = ([]); span = o }) absent) no_stmt) o) (alt_then (alternative None ATerminate o) no_alt)) absent o) no_stmt) no_handler) o) no_decl)))))))))); body = (body (stmt_then (SBlock (body (stmt_then (SAssign (record { name = (w 30); index = None }) (EUnary unary.Minus (EInteger 2 o) o) o) (stmt_then (SCall (record { task = (record { name = (w 37); index = None }); entry = (w 38); args = (Some (record { first = ((EInteger 0 o) ∷ []); second = (Some ((n 34) ∷ (n 35) ∷ (n 36) ∷ [])) })) }) o) (stmt_then (SIf (arm_then (arm (EBinary binary.And (EBinary binary.And (EBinary binary.Equal (n 34) (EInteger 1 o) o) (EBinary binary.Equal (n 35) (EInteger 1 o) o) o) (EBinary binary.Equal (n 36) (n 30) o) o) (stmt_then (SCall (record { task = (record { name = (w 26); index = None }); entry = (w 27); args = (Some (record { first = ((n 30) ∷ []); second = None })) }) o) no_stmt)) (arm_then (arm (EBinary binary.And (EBinary binary.And (EBinary binary.Equal (n 34) (EInteger 7 o) o) (EBinary binary.Equal (n 35) (EInteger 1 o) o) o) (EBinary binary.Equal (n 36) (n 30) o) o) (stmt_then (SBlock (body (stmt_then (SCall (record { task = (record { name = (w 26); index = None }); entry = (w 52); args = (Some (record { first = ((n 30) ∷ []); second = None })) }) o) no_stmt) (handler_then (handler ([]) (stmt_then (SCall (record { task = (record { name = (w 37); index = None }); entry = (w 39); args = (Some (record { first = ((EInteger 0 o) ∷ []); second = None })) }) o) (stmt_then (SRaise None o) no_stmt)) o) no_handler)) o) no_stmt)) no_arm)) (present (stmt_then (SCall (record { task = (record { name = (w 41); index = None }); entry = (w 42); args = None }) o) no_stmt)) o) no_stmt))) (handler_then (handler ([]) (stmt_then (SNull o) no_stmt) o) no_handler)) o) (stmt_then (SCall (record { task = (record { name = (w 37); index = None }); entry = (w 38); args = (Some (record { first = ((EInteger 0 o) ∷ []); second = (Some ((n 34) ∷ (n 35) ∷ (n 36) ∷ [])) })) }) o) (stmt_then (SIf (arm_then (arm (EBinary binary.NotEqual (n 34) (EInteger 10 o) o) (stmt_then (SCall (record { task = (record { name = (w 41); index = None }); entry = (w 42); args = None }) o) no_stmt)) no_arm) absent o) no_stmt))) no_handler) }

waits_is_replayed : replay_in waits waits_events ≡ waits_replay
unfolding digits
waits_is_replayed = refl

-- These are its numbers, and it is legal as a rewritten text.
waits_numbers : replay_numbers_in waits ≡ numbers_in waits_replay
unfolding digits
waits_numbers = refl

waits_replay_is_legal : refusals waits_replay ≡ []
unfolding digits
waits_replay_is_legal = refl

waits_replay_is_checked : check_refusals waits_replay mode_of.Any ≡ []
unfolding digits
waits_replay_is_checked = refl

-- All runs of the text, of which none has 34 events, show fronts of the sequence, and each ends with all of it and with the output of the original.
waits_many : length (shown_by waits_replay [] 34) ≡ 31
unfolding digits
waits_many = refl

waits_shows_fronts : shows_fronts (numbers_in waits_replay) waits_events (shown_by waits_replay [] 34) ≡ true
unfolding digits
waits_shows_fronts = refl

waits_shows_whole : shows_whole (numbers_in waits_replay) waits_events (shown_by waits_replay [] 34) ≡ true
unfolding digits
waits_shows_whole = refl

waits_ends_alike : ends_alike (numbers_in waits_replay) waits_events (shown_by waits [] 6) (shown_by waits_replay [] 34) ≡ true
unfolding digits
waits_ends_alike = refl
