-- An exception in the body of an accept statement, and handlers of units; the events of the two completions come in the other order.
use Rattle.std.specs.Prelude.{◌≡◌, refl, codes, ◌++◌, ◌∷◌, [], List, length, true, false, None, Some, pos}
use Rattle.std.specs.Fmt.{digits}
use Rattle.ada_tree.specs.NameList.{predefined}
use Rattle.ada_tree.specs.declared.expressions.BinaryOp.TheVariants as binary
use Rattle.ada_tree.specs.declared.statements.ParMode.TheVariants as mode
use Rattle.ada_tree.specs.PlainExpr.{EInteger, EBinary, RGiven, EIndex}
use Rattle.ada_tree.specs.PlainStmt.{SNull, SAssign, SRaise, SCall, SAccept, SWait, SPutLine, SIf, SBlock, no_stmt, stmt_then, absent, present, accepting, alternative, AAccept, ATerminate, no_alt, alt_then, arm, no_arm, arm_then, body, handler, no_handler, handler_then, PWords, LFor, SCase, SLoop, case_arm, no_case_arm, case_arm_then}
use Rattle.ada_tree.specs.PlainDecl.{OPlain, IOne, DObject, DException, DTask, DTaskBody, no_decl, decl_then, OArray, IList}
use Rattle.ada_tree.specs.PlainProgram.{PProgram}
use Rattle.ada_static_rules.specs.Refusals.{refusals}
use Rattle.event_machine.specs.declared.Event.{Event}
use Rattle.event_machine.specs.declared.Event.TheVariants as event
use Rattle.syn_event.specs.CheckRefusals.{check_refusals}
use Rattle.syn_event.specs.declared.numbering.Mode.TheVariants as mode_of
use Rattle.progress_law.specs.rewritten.replay.Fronts.{shows_fronts, shows_whole, ends_alike}
use Rattle.progress_law.proofs.rewritten.replay.Trees.{o, w, n, numbers_in, replay_in, replay_numbers_in, shown_by}

-- procedure P7 is
--    OOPS : exception;
--    task T is
--       entry E;
--    end T;
--    task A;
--    task body T is
--    begin
--       accept E do
--          raise OOPS;
--       end E;
--    exception
--       when OOPS =>
--          PUT_LINE("T");
--    end T;
--    task body A is
--    begin
--       T.E;
--    exception
--       when OOPS =>
--          PUT_LINE("A");
--    end A;
-- begin
--    null;
-- end P7;
abbrev p7 : PProgram
p7 = record { names = (predefined ++ (codes "P7" ∷ codes "OOPS" ∷ codes "T" ∷ codes "E" ∷ codes "A" ∷ [])); text_io = false; name = (w 25); decls = (decl_then (DException ((w 26) ∷ []) o) (decl_then (DTask (record { name = (w 27); of_kind = false; entries = ((record { name = (w 28); family = None; formals = ([]); span = o }) ∷ []); priorities = ([]) }) o) (decl_then (DTask (record { name = (w 29); of_kind = false; entries = ([]); priorities = ([]) }) o) (decl_then (DTaskBody (w 27) no_decl (body (stmt_then (SAccept (accepting (record { entry = (w 28); index = None; formals = ([]); span = o }) (present (stmt_then (SRaise (Some (w 26)) o) no_stmt))) o) no_stmt) (handler_then (handler ((w 26) ∷ []) (stmt_then (SPutLine ((PWords (codes "T") o) ∷ []) o) no_stmt) o) no_handler)) o) (decl_then (DTaskBody (w 29) no_decl (body (stmt_then (SCall (record { task = (record { name = (w 27); index = None }); entry = (w 28); args = None }) o) no_stmt) (handler_then (handler ((w 26) ∷ []) (stmt_then (SPutLine ((PWords (codes "A") o) ∷ []) o) no_stmt) o) no_handler)) o) no_decl))))); body = (body (stmt_then (SNull o) no_stmt) no_handler) }

-- It is legal.
p7_is_legal : refusals p7 ≡ []
unfolding digits
p7_is_legal = refl

p7_is_checked : check_refusals p7 mode_of.Original ≡ []
unfolding digits
p7_is_checked = refl

-- The sequence: R 2 1 0, E 1, X 2, X 1, Z.
abbrev p7_events : List Event
p7_events = event.R 2 1 (pos 0) ∷ event.E 1 ∷ event.X 2 ∷ event.X 1 ∷ event.Z ∷ []

-- Its replay text:
--
-- procedure P7 is
--    OOPS : exception;
--    DED_K, DED_A, DED_I : INTEGER := 0;
--    task T is
--       entry E;
--       entry DED_S_E;
-- ..     (as in the text of `calls_replay`, 20 lines: from "entry DED_NEVER;" to "begin")
--          begin
--             DED_CONTROL.GO(1)(DED_K, DED_A, DED_I);
--             if DED_K = 1 and DED_A = 1 and DED_I = 0 then
--                begin
--                   accept E do
--                      DED_CONTROL.DONE(1);
--                      begin
--                         raise OOPS;
-- ..                    (as in the text of `calls_replay`, 22 lines: from "exception" to "end if;")
--          exception
--             when OOPS =>
--                PUT_LINE("T");
--          end;
-- ..     (as in the text of `calls_replay`, 10 lines: from "exception" to "task body A is")
--       DED_K, DED_A, DED_I : INTEGER := 0;
--    begin
--       begin
--          begin
--             DED_CONTROL.GO(2)(DED_K, DED_A, DED_I);
--             if DED_K = 1 and DED_A = 1 and DED_I = 0 then
--                T.E;
--             elsif DED_K = 7 and DED_A = 1 and DED_I = 0 then
--                begin
--                   T.DED_S_E;
--                exception
--                   when others =>
--                      DED_CONTROL.DONE(2);
--                      raise;
--                end;
--             else
--                DED_IDLE.STOP;
--             end if;
--          exception
--             when OOPS =>
--                PUT_LINE("A");
-- ..        (as in the text of `calls_replay`, 11 lines: from "end;" to "task body DED_CONTROL is")
--       DED_OPS : constant array (1 .. 10) of INTEGER := (1, 1, 2, 1, 2, 1, 3, 1, 3, 1);
--       DED_TS : constant array (1 .. 10) of INTEGER := (2, 1, 1, 1, 1, 2, 2, 1, 1, 0);
--       DED_KS : constant array (1 .. 10) of INTEGER := (1, 1, 0, 2, 0, 8, 0, 8, 0, 10);
--       DED_AS : constant array (1 .. 10) of INTEGER := (1, 1, 0, 0, 0, 0, 0, 0, 0, 0);
--       DED_IS : constant array (1 .. 10) of INTEGER := (0, 0, 0, 0, 0, 0, 0, 0, 0, 0);
--    begin
--       for DED_N in 1 .. 10 loop
-- ..        (as in the text of `calls_replay`, 30 lines: from "case DED_OPS(DED_N) is" to "end loop;")
-- ..  (as in the text of `calls_replay`, 20 lines: from "end DED_CONTROL;" to "end if;")
-- end P7;
abbrev p7_replay : PProgram
p7_replay = record { names = (predefined ++ (codes "P7" ∷ codes "OOPS" ∷ codes "T" ∷ codes "E" ∷ codes "A" ∷ codes "DED_K" ∷ codes "DED_A" ∷ codes "DED_I" ∷ codes "DED_CONTROL" ∷ codes "GO" ∷ codes "DONE" ∷ codes "HOLD" ∷ codes "DED_IDLE" ∷ codes "STOP" ∷ codes "NEVER" ∷ codes "DED_NEVER" ∷ codes "DED_JOIN" ∷ codes "DED_OPS" ∷ codes "DED_TS" ∷ codes "DED_KS" ∷ codes "DED_AS" ∷ codes "DED_IS" ∷ codes "DED_N" ∷ codes "DED_S_E" ∷ [])); text_io = false; name = (w 25); decls = (decl_then (DException ((w 26) ∷ []) o) (decl_then (DObject ((w 30) ∷ (w 31) ∷ (w 32) ∷ []) false (OPlain (record { mark = (w 0); bounds = None })) (Some (IOne (EInteger 0 o))) o) (decl_then (DTask (record { name = (w 27); of_kind = false; entries = ((record { name = (w 28); family = None; formals = ([]); span = o }) ∷ (record { name = (w 48); family = None; formals = ([]); span = o }) ∷ (record { name = (w 40); family = None; formals = ([]); span = o }) ∷ (record { name = (w 41); family = None; formals = ([]); span = o }) ∷ []); priorities = ([]) }) o) (decl_then (DTask (record { name = (w 29); of_kind = false; entries = ((record { name = (w 40); family = None; formals = ([]); span = o }) ∷ (record { name = (w 41); family = None; formals = ([]); span = o }) ∷ []); priorities = ([]) }) o) (decl_then (DTask (record { name = (w 33); of_kind = false; entries = ((record { name = (w 34); family = (Some (RGiven (record { first = (EInteger 0 o); last = (EInteger 2 o) }))); formals = ((record { names = ((w 30) ∷ (w 31) ∷ (w 32) ∷ []); mode = mode.Give; mark = (w 0) }) ∷ []); span = o }) ∷ (record { name = (w 35); family = (Some (RGiven (record { first = (EInteger 0 o); last = (EInteger 2 o) }))); formals = ([]); span = o }) ∷ (record { name = (w 36); family = None; formals = ([]); span = o }) ∷ []); priorities = ([]) }) o) (decl_then (DTask (record { name = (w 37); of_kind = false; entries = ((record { name = (w 38); family = None; formals = ([]); span = o }) ∷ (record { name = (w 39); family = None; formals = ([]); span = o }) ∷ []); priorities = ([]) }) o) (decl_then (DTaskBody (w 27) (decl_then (DObject ((w 30) ∷ (w 31) ∷ (w 32) ∷ []) false (OPlain (record { mark = (w 0); bounds = None })) (Some (IOne (EInteger 0 o))) o) no_decl) (body (stmt_then (SBlock (body (stmt_then (SBlock (body (stmt_then (SCall (record { task = (record { name = (w 33); index = None }); entry = (w 34); args = (Some (record { first = ((EInteger 1 o) ∷ []); second = (Some ((n 30) ∷ (n 31) ∷ (n 32) ∷ [])) })) }) o) (stmt_then (SIf (arm_then (arm (EBinary binary.And (EBinary binary.And (EBinary binary.Equal (n 30) (EInteger 1 o) o) (EBinary binary.Equal (n 31) (EInteger 1 o) o) o) (EBinary binary.Equal (n 32) (EInteger 0 o) o) o) (stmt_then (SBlock (body (stmt_then (SAccept (accepting (record { entry = (w 28); index = None; formals = ([]); span = o }) (present (stmt_then (SCall (record { task = (record { name = (w 33); index = None }); entry = (w 35); args = (Some (record { first = ((EInteger 1 o) ∷ []); second = None })) }) o) (stmt_then (SBlock (body (stmt_then (SRaise (Some (w 26)) o) no_stmt) (handler_then (handler ([]) (stmt_then (SCall (record { task = (record { name = (w 33); index = None }); entry = (w 34); args = (Some (record { first = ((EInteger 1 o) ∷ []); second = (Some ((n 30) ∷ (n 31) ∷ (n 32) ∷ [])) })) }) o) (stmt_then (SIf (arm_then (arm (EBinary binary.NotEqual (n 30) (EInteger 2 o) o) (stmt_then (SCall (record { task = (record { name = (w 37); index = None }); entry = (w 38); args = None }) o) no_stmt)) no_arm) absent o) (stmt_then (SRaise None o) no_stmt))) o) no_handler)) o) (stmt_then (SCall (record { task = (record { name = (w 33); index = None }); entry = (w 34); args = (Some (record { first = ((EInteger 1 o) ∷ []); second = (Some ((n 30) ∷ (n 31) ∷ (n 32) ∷ [])) })) }) o) (stmt_then (SIf (arm_then (arm (EBinary binary.NotEqual (n 30) (EInteger 2 o) o) (stmt_then (SCall (record { task = (record { name = (w 37); index = None }); entry = (w 38); args = None }) o) no_stmt)) no_arm) absent o) no_stmt)))))) o) no_stmt) (handler_then (handler ([]) (stmt_then (SCall (record { task = (record { name = (w 33); index = None }); entry = (w 35); args = (Some (record { first = ((EInteger 1 o) ∷ []); second = None })) }) o) (stmt_then (SRaise None o) no_stmt)) o) no_handler)) o) (stmt_then (SCall (record { task = (record { name = (w 33); index = None }); entry = (w 35); args = (Some (record { first = ((EInteger 1 o) ∷ []); second = None })) }) o) no_stmt))) no_arm) (present (stmt_then (SCall (record { task = (record { name = (w 37); index = None }); entry = (w 38); args = None }) o) no_stmt)) o) no_stmt)) (handler_then (handler ((w 26) ∷ []) (stmt_then (SPutLine ((PWords (codes "T") o) ∷ []) o) no_stmt) o) no_handler)) o) no_stmt) (handler_then (handler ([]) (stmt_then (SNull o) no_stmt) o) no_handler)) o) (stmt_then (SCall (record { task = (record { name = (w 33); index = None }); entry = (w 34); args = (Some (record { first = ((EInteger 1 o) ∷ []); second = (Some ((n 30) ∷ (n 31) ∷ (n 32) ∷ [])) })) }) o) (stmt_then (SIf (arm_then (arm (EBinary binary.NotEqual (n 30) (EInteger 8 o) o) (stmt_then (SCall (record { task = (record { name = (w 37); index = None }); entry = (w 38); args = None }) o) no_stmt)) no_arm) absent o) no_stmt))) no_handler) o) (decl_then (DTaskBody (w 29) (decl_then (DObject ((w 30) ∷ (w 31) ∷ (w 32) ∷ []) false (OPlain (record { mark = (w 0); bounds = None })) (Some (IOne (EInteger 0 o))) o) no_decl) (body (stmt_then (SBlock (body (stmt_then (SBlock (body (stmt_then (SCall (record { task = (record { name = (w 33); index = None }); entry = (w 34); args = (Some (record { first = ((EInteger 2 o) ∷ []); second = (Some ((n 30) ∷ (n 31) ∷ (n 32) ∷ [])) })) }) o) (stmt_then (SIf (arm_then (arm (EBinary binary.And (EBinary binary.And (EBinary binary.Equal (n 30) (EInteger 1 o) o) (EBinary binary.Equal (n 31) (EInteger 1 o) o) o) (EBinary binary.Equal (n 32) (EInteger 0 o) o) o) (stmt_then (SCall (record { task = (record { name = (w 27); index = None }); entry = (w 28); args = None }) o) no_stmt)) (arm_then (arm (EBinary binary.And (EBinary binary.And (EBinary binary.Equal (n 30) (EInteger 7 o) o) (EBinary binary.Equal (n 31) (EInteger 1 o) o) o) (EBinary binary.Equal (n 32) (EInteger 0 o) o) o) (stmt_then (SBlock (body (stmt_then (SCall (record { task = (record { name = (w 27); index = None }); entry = (w 48); args = None }) o) no_stmt) (handler_then (handler ([]) (stmt_then (SCall (record { task = (record { name = (w 33); index = None }); entry = (w 35); args = (Some (record { first = ((EInteger 2 o) ∷ []); second = None })) }) o) (stmt_then (SRaise None o) no_stmt)) o) no_handler)) o) no_stmt)) no_arm)) (present (stmt_then (SCall (record { task = (record { name = (w 37); index = None }); entry = (w 38); args = None }) o) no_stmt)) o) no_stmt)) (handler_then (handler ((w 26) ∷ []) (stmt_then (SPutLine ((PWords (codes "A") o) ∷ []) o) no_stmt) o) no_handler)) o) no_stmt) (handler_then (handler ([]) (stmt_then (SNull o) no_stmt) o) no_handler)) o) (stmt_then (SCall (record { task = (record { name = (w 33); index = None }); entry = (w 34); args = (Some (record { first = ((EInteger 2 o) ∷ []); second = (Some ((n 30) ∷ (n 31) ∷ (n 32) ∷ [])) })) }) o) (stmt_then (SIf (arm_then (arm (EBinary binary.NotEqual (n 30) (EInteger 8 o) o) (stmt_then (SCall (record { task = (record { name = (w 37); index = None }); entry = (w 38); args = None }) o) no_stmt)) no_arm) absent o) no_stmt))) no_handler) o) (decl_then (DTaskBody (w 33) (decl_then (DObject ((w 42) ∷ []) true (OArray (RGiven (record { first = (EInteger 1 o); last = (EInteger 10 o) })) (record { mark = (w 0); bounds = None })) (Some (IList ((EInteger 1 o) ∷ (EInteger 1 o) ∷ (EInteger 2 o) ∷ (EInteger 1 o) ∷ (EInteger 2 o) ∷ (EInteger 1 o) ∷ (EInteger 3 o) ∷ (EInteger 1 o) ∷ (EInteger 3 o) ∷ (EInteger 1 o) ∷ []) o)) o) (decl_then (DObject ((w 43) ∷ []) true (OArray (RGiven (record { first = (EInteger 1 o); last = (EInteger 10 o) })) (record { mark = (w 0); bounds = None })) (Some (IList ((EInteger 2 o) ∷ (EInteger 1 o) ∷ (EInteger 1 o) ∷ (EInteger 1 o) ∷ (EInteger 1 o) ∷ (EInteger 2 o) ∷ (EInteger 2 o) ∷ (EInteger 1 o) ∷ (EInteger 1 o) ∷ (EInteger 0 o) ∷ []) o)) o) (decl_then (DObject ((w 44) ∷ []) true (OArray (RGiven (record { first = (EInteger 1 o); last = (EInteger 10 o) })) (record { mark = (w 0); bounds = None })) (Some (IList ((EInteger 1 o) ∷ (EInteger 1 o) ∷ (EInteger 0 o) ∷ (EInteger 2 o) ∷ (EInteger 0 o) ∷ (EInteger 8 o) ∷ (EInteger 0 o) ∷ (EInteger 8 o) ∷ (EInteger 0 o) ∷ (EInteger 10 o) ∷ []) o)) o) (decl_then (DObject ((w 45) ∷ []) true (OArray (RGiven (record { first = (EInteger 1 o); last = (EInteger 10 o) })) (record { mark = (w 0); bounds = None })) (Some (IList ((EInteger 1 o) ∷ (EInteger 1 o) ∷ (EInteger 0 o) ∷ (EInteger 0 o) ∷ (EInteger 0 o) ∷ (EInteger 0 o) ∷ (EInteger 0 o) ∷ (EInteger 0 o) ∷ (EInteger 0 o) ∷ (EInteger 0 o) ∷ []) o)) o) (decl_then (DObject ((w 46) ∷ []) true (OArray (RGiven (record { first = (EInteger 1 o); last = (EInteger 10 o) })) (record { mark = (w 0); bounds = None })) (Some (IList ((EInteger 0 o) ∷ (EInteger 0 o) ∷ (EInteger 0 o) ∷ (EInteger 0 o) ∷ (EInteger 0 o) ∷ (EInteger 0 o) ∷ (EInteger 0 o) ∷ (EInteger 0 o) ∷ (EInteger 0 o) ∷ (EInteger 0 o) ∷ []) o)) o) no_decl))))) (body (stmt_then (SLoop None (Some (LFor (w 47) false (RGiven (record { first = (EInteger 1 o); last = (EInteger 10 o) })))) (stmt_then (SCase (EIndex (w 42) (n 47) o) (case_arm_then (case_arm ((record { first = (EInteger 1 o); last = None }) ∷ []) (stmt_then (SAccept (accepting (record { entry = (w 34); index = (Some (EIndex (w 43) (n 47) o)); formals = ((record { names = ((w 30) ∷ (w 31) ∷ (w 32) ∷ []); mode = mode.Give; mark = (w 0) }) ∷ []); span = o }) (present (stmt_then (SAssign (record { name = (w 30); index = None }) (EIndex (w 44) (n 47) o) o) (stmt_then (SAssign (record { name = (w 31); index = None }) (EIndex (w 45) (n 47) o) o) (stmt_then (SAssign (record { name = (w 32); index = None }) (EIndex (w 46) (n 47) o) o) no_stmt))))) o) no_stmt)) (case_arm_then (case_arm ((record { first = (EInteger 2 o); last = None }) ∷ []) (stmt_then (SAccept (accepting (record { entry = (w 35); index = (Some (EIndex (w 43) (n 47) o)); formals = ([]); span = o }) absent) o) no_stmt)) no_case_arm)) (present (stmt_then (SCase (EIndex (w 43) (n 47) o) (case_arm_then (case_arm ((record { first = (EInteger 1 o); last = None }) ∷ []) (stmt_then (SBlock (body (stmt_then (SCall (record { task = (record { name = (w 27); index = None }); entry = (w 41); args = None }) o) no_stmt) (handler_then (handler ((w 9) ∷ []) (stmt_then (SNull o) no_stmt) o) no_handler)) o) no_stmt)) (case_arm_then (case_arm ((record { first = (EInteger 2 o); last = None }) ∷ []) (stmt_then (SBlock (body (stmt_then (SCall (record { task = (record { name = (w 29); index = None }); entry = (w 41); args = None }) o) no_stmt) (handler_then (handler ((w 9) ∷ []) (stmt_then (SNull o) no_stmt) o) no_handler)) o) no_stmt)) no_case_arm)) (present (stmt_then (SNull o) no_stmt)) o) no_stmt)) o) no_stmt) o) no_stmt) no_handler) o) (decl_then (DTaskBody (w 37) no_decl (body (stmt_then (SWait (alt_then (alternative None (AAccept (accepting (record { entry = (w 39); index = None; formals = ([]); span = o }) absent) no_stmt) o) (alt_then (alternative None ATerminate o) no_alt)) absent o) no_stmt) no_handler) o) no_decl)))))))))); body = (body (stmt_then (SBlock (body (stmt_then (SNull o) no_stmt) (handler_then (handler ([]) (stmt_then (SNull o) no_stmt) o) no_handler)) o) (stmt_then (SCall (record { task = (record { name = (w 33); index = None }); entry = (w 34); args = (Some (record { first = ((EInteger 0 o) ∷ []); second = (Some ((n 30) ∷ (n 31) ∷ (n 32) ∷ [])) })) }) o) (stmt_then (SIf (arm_then (arm (EBinary binary.NotEqual (n 30) (EInteger 10 o) o) (stmt_then (SCall (record { task = (record { name = (w 37); index = None }); entry = (w 38); args = None }) o) no_stmt)) no_arm) absent o) no_stmt))) no_handler) }

p7_is_replayed : replay_in p7 p7_events ≡ p7_replay
unfolding digits
p7_is_replayed = refl

-- These are its numbers, and it is legal as a rewritten text.
p7_numbers : replay_numbers_in p7 ≡ numbers_in p7_replay
unfolding digits
p7_numbers = refl

p7_replay_is_legal : refusals p7_replay ≡ []
unfolding digits
p7_replay_is_legal = refl

p7_replay_is_checked : check_refusals p7_replay mode_of.Any ≡ []
unfolding digits
p7_replay_is_checked = refl

-- All runs of the text, of which none has 30 events, show fronts of the sequence, and each ends with all of it and with the output of the original.
p7_many : length (shown_by p7_replay [] 30) ≡ 25
unfolding digits
p7_many = refl

p7_shows_fronts : shows_fronts (numbers_in p7_replay) p7_events (shown_by p7_replay [] 30) ≡ true
unfolding digits
p7_shows_fronts = refl

p7_shows_whole : shows_whole (numbers_in p7_replay) p7_events (shown_by p7_replay [] 30) ≡ true
unfolding digits
p7_shows_whole = refl

p7_ends_alike : ends_alike (numbers_in p7_replay) p7_events (shown_by p7 [] 5) (shown_by p7_replay [] 30) ≡ true
unfolding digits
p7_ends_alike = refl
