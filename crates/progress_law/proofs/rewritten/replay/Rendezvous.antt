-- A rendezvous, the completion of its acceptor, and the end of the program.
use Rattle.std.specs.Prelude.{◌≡◌, refl, codes, ◌++◌, ◌∷◌, [], List, length, true, false, None, Some, pos}
use Rattle.std.specs.Fmt.{digits}
use Rattle.ada_tree.specs.NameList.{predefined}
use Rattle.ada_tree.specs.declared.expressions.BinaryOp.TheVariants as binary
use Rattle.ada_tree.specs.declared.statements.ParMode.TheVariants as mode
use Rattle.ada_tree.specs.PlainExpr.{EInteger, EBinary, RGiven, EIndex}
use Rattle.ada_tree.specs.PlainStmt.{SNull, SAssign, SRaise, SCall, SAccept, SWait, SIf, SBlock, no_stmt, stmt_then, absent, present, accepting, alternative, AAccept, ATerminate, no_alt, alt_then, arm, no_arm, arm_then, body, handler, no_handler, handler_then, LFor, SCase, SLoop, case_arm, no_case_arm, case_arm_then}
use Rattle.ada_tree.specs.PlainDecl.{OPlain, IOne, DObject, DTask, DTaskBody, no_decl, decl_then, OArray, IList}
use Rattle.ada_tree.specs.PlainProgram.{PProgram}
use Rattle.ada_static_rules.specs.Refusals.{refusals}
use Rattle.event_machine.specs.declared.Event.{Event}
use Rattle.event_machine.specs.declared.Event.TheVariants as event
use Rattle.syn_event.specs.CheckRefusals.{check_refusals}
use Rattle.syn_event.specs.declared.numbering.Mode.TheVariants as mode_of
use Rattle.progress_law.specs.rewritten.replay.Fronts.{shows_fronts, shows_whole, ends_alike}
use Rattle.progress_law.proofs.rewritten.replay.Trees.{o, w, n, numbers_in, replay_in, replay_numbers_in, shown_by}

-- procedure P1 is
--    task B is
--       entry PUT;
--    end B;
--    task body B is
--    begin
--       accept PUT;
--    end B;
-- begin
--    B.PUT;
-- end P1;
abbrev pub p1 : PProgram
p1 = record { names = (predefined ++ (codes "P1" ∷ codes "B" ∷ [])); text_io = false; name = (w 25); decls = (decl_then (DTask (record { name = (w 26); of_kind = false; entries = ((record { name = (w 14); family = None; formals = ([]); span = o }) ∷ []); priorities = ([]) }) o) (decl_then (DTaskBody (w 26) no_decl (body (stmt_then (SAccept (accepting (record { entry = (w 14); index = None; formals = ([]); span = o }) absent) o) no_stmt) no_handler) o) no_decl)); body = (body (stmt_then (SCall (record { task = (record { name = (w 26); index = None }); entry = (w 14); args = None }) o) no_stmt) no_handler) }

-- It is legal.
p1_is_legal : refusals p1 ≡ []
unfolding digits
p1_is_legal = refl

p1_is_checked : check_refusals p1 mode_of.Original ≡ []
unfolding digits
p1_is_checked = refl

-- The sequence: R 0 1 0, E 1, X 1, Z.
abbrev pub p1_events : List Event
p1_events = event.R 0 1 (pos 0) ∷ event.E 1 ∷ event.X 1 ∷ event.Z ∷ []

-- Its replay text:
--
-- procedure P1 is
--    DED_K, DED_A, DED_I : INTEGER := 0;
--    task B is
--       entry PUT;
--       entry DED_S_PUT;
--       entry DED_NEVER;
--       entry DED_JOIN;
--    end B;
--    task DED_CONTROL is
--       entry GO(0 .. 1)(DED_K, DED_A, DED_I : out INTEGER);
--       entry DONE(0 .. 1);
--       entry HOLD;
--    end DED_CONTROL;
--    task DED_IDLE is
--       entry STOP;
--       entry NEVER;
--    end DED_IDLE;
--    task body B is
--       DED_K, DED_A, DED_I : INTEGER := 0;
--    begin
--       begin
--          DED_CONTROL.GO(1)(DED_K, DED_A, DED_I);
--          if DED_K = 1 and DED_A = 1 and DED_I = 0 then
--             accept PUT do
--                DED_CONTROL.DONE(1);
--                DED_CONTROL.GO(1)(DED_K, DED_A, DED_I);
--                if DED_K /= 2 then
--                   DED_IDLE.STOP;
--                end if;
--             end PUT;
--             DED_CONTROL.DONE(1);
--          else
--             DED_IDLE.STOP;
--          end if;
--       exception
--          when others =>
--             null;
--       end;
--       DED_CONTROL.GO(1)(DED_K, DED_A, DED_I);
--       if DED_K /= 8 then
--          DED_IDLE.STOP;
--       end if;
--    end B;
--    task body DED_CONTROL is
--       DED_OPS : constant array (1 .. 8) of INTEGER := (1, 1, 2, 1, 2, 1, 3, 1);
--       DED_TS : constant array (1 .. 8) of INTEGER := (0, 1, 1, 1, 1, 1, 1, 0);
--       DED_KS : constant array (1 .. 8) of INTEGER := (1, 1, 0, 2, 0, 8, 0, 10);
--       DED_AS : constant array (1 .. 8) of INTEGER := (1, 1, 0, 0, 0, 0, 0, 0);
--       DED_IS : constant array (1 .. 8) of INTEGER := (0, 0, 0, 0, 0, 0, 0, 0);
--    begin
--       for DED_N in 1 .. 8 loop
--          case DED_OPS(DED_N) is
--             when 1 =>
--                accept GO(DED_TS(DED_N))(DED_K, DED_A, DED_I : out INTEGER) do
--                   DED_K := DED_KS(DED_N);
--                   DED_A := DED_AS(DED_N);
--                   DED_I := DED_IS(DED_N);
--                end GO;
--             when 2 =>
--                accept DONE(DED_TS(DED_N));
--             when others =>
--                case DED_TS(DED_N) is
--                   when 1 =>
--                      begin
--                         B.DED_JOIN;
--                      exception
--                         when TASKING_ERROR =>
--                            null;
--                      end;
--                   when others =>
--                      null;
--                end case;
--          end case;
--       end loop;
--    end DED_CONTROL;
--    task body DED_IDLE is
--    begin
--       select
--          accept NEVER;
--       or
--          terminate;
--       end select;
--    end DED_IDLE;
-- begin
--    begin
--       DED_CONTROL.GO(0)(DED_K, DED_A, DED_I);
--       if DED_K = 1 and DED_A = 1 and DED_I = 0 then
--          B.PUT;
--       elsif DED_K = 7 and DED_A = 1 and DED_I = 0 then
--          begin
--             B.DED_S_PUT;
--          exception
--             when others =>
--                DED_CONTROL.DONE(0);
--                raise;
--          end;
--       else
--          DED_IDLE.STOP;
--       end if;
--    exception
--       when others =>
--          null;
--    end;
--    DED_CONTROL.GO(0)(DED_K, DED_A, DED_I);
--    if DED_K /= 10 then
--       DED_IDLE.STOP;
--    end if;
-- end P1;
abbrev p1_replay : PProgram
p1_replay = record { names = (predefined ++ (codes "P1" ∷ codes "B" ∷ codes "DED_K" ∷ codes "DED_A" ∷ codes "DED_I" ∷ codes "DED_CONTROL" ∷ codes "GO" ∷ codes "DONE" ∷ codes "HOLD" ∷ codes "DED_IDLE" ∷ codes "STOP" ∷ codes "NEVER" ∷ codes "DED_NEVER" ∷ codes "DED_JOIN" ∷ codes "DED_OPS" ∷ codes "DED_TS" ∷ codes "DED_KS" ∷ codes "DED_AS" ∷ codes "DED_IS" ∷ codes "DED_N" ∷ codes "DED_S_PUT" ∷ [])); text_io = false; name = (w 25); decls = (decl_then (DObject ((w 27) ∷ (w 28) ∷ (w 29) ∷ []) false (OPlain (record { mark = (w 0); bounds = None })) (Some (IOne (EInteger 0 o))) o) (decl_then (DTask (record { name = (w 26); of_kind = false; entries = ((record { name = (w 14); family = None; formals = ([]); span = o }) ∷ (record { name = (w 45); family = None; formals = ([]); span = o }) ∷ (record { name = (w 37); family = None; formals = ([]); span = o }) ∷ (record { name = (w 38); family = None; formals = ([]); span = o }) ∷ []); priorities = ([]) }) o) (decl_then (DTask (record { name = (w 30); of_kind = false; entries = ((record { name = (w 31); family = (Some (RGiven (record { first = (EInteger 0 o); last = (EInteger 1 o) }))); formals = ((record { names = ((w 27) ∷ (w 28) ∷ (w 29) ∷ []); mode = mode.Give; mark = (w 0) }) ∷ []); span = o }) ∷ (record { name = (w 32); family = (Some (RGiven (record { first = (EInteger 0 o); last = (EInteger 1 o) }))); formals = ([]); span = o }) ∷ (record { name = (w 33); family = None; formals = ([]); span = o }) ∷ []); priorities = ([]) }) o) (decl_then (DTask (record { name = (w 34); of_kind = false; entries = ((record { name = (w 35); family = None; formals = ([]); span = o }) ∷ (record { name = (w 36); family = None; formals = ([]); span = o }) ∷ []); priorities = ([]) }) o) (decl_then (DTaskBody (w 26) (decl_then (DObject ((w 27) ∷ (w 28) ∷ (w 29) ∷ []) false (OPlain (record { mark = (w 0); bounds = None })) (Some (IOne (EInteger 0 o))) o) no_decl) (body (stmt_then (SBlock (body (stmt_then (SCall (record { task = (record { name = (w 30); index = None }); entry = (w 31); args = (Some (record { first = ((EInteger 1 o) ∷ []); second = (Some ((n 27) ∷ (n 28) ∷ (n 29) ∷ [])) })) }) o) (stmt_then (SIf (arm_then (arm (EBinary binary.And (EBinary binary.And (EBinary binary.Equal (n 27) (EInteger 1 o) o) (EBinary binary.Equal (n 28) (EInteger 1 o) o) o) (EBinary binary.Equal (n 29) (EInteger 0 o) o) o) (stmt_then (SAccept (accepting (record { entry = (w 14); index = None; formals = ([]); span = o }) (present (stmt_then (SCall (record { task = (record { name = (w 30); index = None }); entry = (w 32); args = (Some (record { first = ((EInteger 1 o) ∷ []); second = None })) }) o) (stmt_then (SCall (record { task = (record { name = (w 30); index = None }); entry = (w 31); args = (Some (record { first = ((EInteger 1 o) ∷ []); second = (Some ((n 27) ∷ (n 28) ∷ (n 29) ∷ [])) })) }) o) (stmt_then (SIf (arm_then (arm (EBinary binary.NotEqual (n 27) (EInteger 2 o) o) (stmt_then (SCall (record { task = (record { name = (w 34); index = None }); entry = (w 35); args = None }) o) no_stmt)) no_arm) absent o) no_stmt))))) o) (stmt_then (SCall (record { task = (record { name = (w 30); index = None }); entry = (w 32); args = (Some (record { first = ((EInteger 1 o) ∷ []); second = None })) }) o) no_stmt))) no_arm) (present (stmt_then (SCall (record { task = (record { name = (w 34); index = None }); entry = (w 35); args = None }) o) no_stmt)) o) no_stmt)) (handler_then (handler ([]) (stmt_then (SNull o) no_stmt) o) no_handler)) o) (stmt_then (SCall (record { task = (record { name = (w 30); index = None }); entry = (w 31); args = (Some (record { first = ((EInteger 1 o) ∷ []); second = (Some ((n 27) ∷ (n 28) ∷ (n 29) ∷ [])) })) }) o) (stmt_then (SIf (arm_then (arm (EBinary binary.NotEqual (n 27) (EInteger 8 o) o) (stmt_then (SCall (record { task = (record { name = (w 34); index = None }); entry = (w 35); args = None }) o) no_stmt)) no_arm) absent o) no_stmt))) no_handler) o) (decl_then (DTaskBody (w 30) (decl_then (DObject ((w 39) ∷ []) true (OArray (RGiven (record { first = (EInteger 1 o); last = (EInteger 8 o) })) (record { mark = (w 0); bounds = None })) (Some (IList ((EInteger 1 o) ∷ (EInteger 1 o) ∷ (EInteger 2 o) ∷ (EInteger 1 o) ∷ (EInteger 2 o) ∷ (EInteger 1 o) ∷ (EInteger 3 o) ∷ (EInteger 1 o) ∷ []) o)) o) (decl_then (DObject ((w 40) ∷ []) true (OArray (RGiven (record { first = (EInteger 1 o); last = (EInteger 8 o) })) (record { mark = (w 0); bounds = None })) (Some (IList ((EInteger 0 o) ∷ (EInteger 1 o) ∷ (EInteger 1 o) ∷ (EInteger 1 o) ∷ (EInteger 1 o) ∷ (EInteger 1 o) ∷ (EInteger 1 o) ∷ (EInteger 0 o) ∷ []) o)) o) (decl_then (DObject ((w 41) ∷ []) true (OArray (RGiven (record { first = (EInteger 1 o); last = (EInteger 8 o) })) (record { mark = (w 0); bounds = None })) (Some (IList ((EInteger 1 o) ∷ (EInteger 1 o) ∷ (EInteger 0 o) ∷ (EInteger 2 o) ∷ (EInteger 0 o) ∷ (EInteger 8 o) ∷ (EInteger 0 o) ∷ (EInteger 10 o) ∷ []) o)) o) (decl_then (DObject ((w 42) ∷ []) true (OArray (RGiven (record { first = (EInteger 1 o); last = (EInteger 8 o) })) (record { mark = (w 0); bounds = None })) (Some (IList ((EInteger 1 o) ∷ (EInteger 1 o) ∷ (EInteger 0 o) ∷ (EInteger 0 o) ∷ (EInteger 0 o) ∷ (EInteger 0 o) ∷ (EInteger 0 o) ∷ (EInteger 0 o) ∷ []) o)) o) (decl_then (DObject ((w 43) ∷ []) true (OArray (RGiven (record { first = (EInteger 1 o); last = (EInteger 8 o) })) (record { mark = (w 0); bounds = None })) (Some (IList ((EInteger 0 o) ∷ (EInteger 0 o) ∷ (EInteger 0 o) ∷ (EInteger 0 o) ∷ (EInteger 0 o) ∷ (EInteger 0 o) ∷ (EInteger 0 o) ∷ (EInteger 0 o) ∷ []) o)) o) no_decl))))) (body (stmt_then (SLoop None (Some (LFor (w 44) false (RGiven (record { first = (EInteger 1 o); last = (EInteger 8 o) })))) (stmt_then (SCase (EIndex (w 39) (n 44) o) (case_arm_then (case_arm ((record { first = (EInteger 1 o); last = None }) ∷ []) (stmt_then (SAccept (accepting (record { entry = (w 31); index = (Some (EIndex (w 40) (n 44) o)); formals = ((record { names = ((w 27) ∷ (w 28) ∷ (w 29) ∷ []); mode = mode.Give; mark = (w 0) }) ∷ []); span = o }) (present (stmt_then (SAssign (record { name = (w 27); index = None }) (EIndex (w 41) (n 44) o) o) (stmt_then (SAssign (record { name = (w 28); index = None }) (EIndex (w 42) (n 44) o) o) (stmt_then (SAssign (record { name = (w 29); index = None }) (EIndex (w 43) (n 44) o) o) no_stmt))))) o) no_stmt)) (case_arm_then (case_arm ((record { first = (EInteger 2 o); last = None }) ∷ []) (stmt_then (SAccept (accepting (record { entry = (w 32); index = (Some (EIndex (w 40) (n 44) o)); formals = ([]); span = o }) absent) o) no_stmt)) no_case_arm)) (present (stmt_then (SCase (EIndex (w 40) (n 44) o) (case_arm_then (case_arm ((record { first = (EInteger 1 o); last = None }) ∷ []) (stmt_then (SBlock (body (stmt_then (SCall (record { task = (record { name = (w 26); index = None }); entry = (w 38); args = None }) o) no_stmt) (handler_then (handler ((w 9) ∷ []) (stmt_then (SNull o) no_stmt) o) no_handler)) o) no_stmt)) no_case_arm) (present (stmt_then (SNull o) no_stmt)) o) no_stmt)) o) no_stmt) o) no_stmt) no_handler) o) (decl_then (DTaskBody (w 34) no_decl (body (stmt_then (SWait (alt_then (alternative None (AAccept (accepting (record { entry = (w 36); index = None; formals = ([]); span = o }) absent) no_stmt) o) (alt_then (alternative None ATerminate o) no_alt)) absent o) no_stmt) no_handler) o) no_decl))))))); body = (body (stmt_then (SBlock (body (stmt_then (SCall (record { task = (record { name = (w 30); index = None }); entry = (w 31); args = (Some (record { first = ((EInteger 0 o) ∷ []); second = (Some ((n 27) ∷ (n 28) ∷ (n 29) ∷ [])) })) }) o) (stmt_then (SIf (arm_then (arm (EBinary binary.And (EBinary binary.And (EBinary binary.Equal (n 27) (EInteger 1 o) o) (EBinary binary.Equal (n 28) (EInteger 1 o) o) o) (EBinary binary.Equal (n 29) (EInteger 0 o) o) o) (stmt_then (SCall (record { task = (record { name = (w 26); index = None }); entry = (w 14); args = None }) o) no_stmt)) (arm_then (arm (EBinary binary.And (EBinary binary.And (EBinary binary.Equal (n 27) (EInteger 7 o) o) (EBinary binary.Equal (n 28) (EInteger 1 o) o) o) (EBinary binary.Equal (n 29) (EInteger 0 o) o) o) (stmt_then (SBlock (body (stmt_then (SCall (record { task = (record { name = (w 26); index = None }); entry = (w 45); args = None }) o) no_stmt) (handler_then (handler ([]) (stmt_then (SCall (record { task = (record { name = (w 30); index = None }); entry = (w 32); args = (Some (record { first = ((EInteger 0 o) ∷ []); second = None })) }) o) (stmt_then (SRaise None o) no_stmt)) o) no_handler)) o) no_stmt)) no_arm)) (present (stmt_then (SCall (record { task = (record { name = (w 34); index = None }); entry = (w 35); args = None }) o) no_stmt)) o) no_stmt)) (handler_then (handler ([]) (stmt_then (SNull o) no_stmt) o) no_handler)) o) (stmt_then (SCall (record { task = (record { name = (w 30); index = None }); entry = (w 31); args = (Some (record { first = ((EInteger 0 o) ∷ []); second = (Some ((n 27) ∷ (n 28) ∷ (n 29) ∷ [])) })) }) o) (stmt_then (SIf (arm_then (arm (EBinary binary.NotEqual (n 27) (EInteger 10 o) o) (stmt_then (SCall (record { task = (record { name = (w 34); index = None }); entry = (w 35); args = None }) o) no_stmt)) no_arm) absent o) no_stmt))) no_handler) }

p1_is_replayed : replay_in p1 p1_events ≡ p1_replay
unfolding digits
p1_is_replayed = refl

-- These are its numbers, and it is legal as a rewritten text.
p1_numbers : replay_numbers_in p1 ≡ numbers_in p1_replay
unfolding digits
p1_numbers = refl

p1_replay_is_legal : refusals p1_replay ≡ []
unfolding digits
p1_replay_is_legal = refl

p1_replay_is_checked : check_refusals p1_replay mode_of.Any ≡ []
unfolding digits
p1_replay_is_checked = refl

-- All runs of the text, of which none has 24 events, show fronts of the sequence, and each ends with all of it and with the output of the original.
p1_many : length (shown_by p1_replay [] 24) ≡ 21
unfolding digits
p1_many = refl

p1_shows_fronts : shows_fronts (numbers_in p1_replay) p1_events (shown_by p1_replay [] 24) ≡ true
unfolding digits
p1_shows_fronts = refl

p1_shows_whole : shows_whole (numbers_in p1_replay) p1_events (shown_by p1_replay [] 24) ≡ true
unfolding digits
p1_shows_whole = refl

p1_ends_alike : ends_alike (numbers_in p1_replay) p1_events (shown_by p1 [] 4) (shown_by p1_replay [] 24) ≡ true
unfolding digits
p1_ends_alike = refl

-- A sequence that no run of the program has: the task stands at its accept statement and not at its end. The text shows none of it.
abbrev pub p1_early : List Event
p1_early = event.X 1 ∷ []

p1_early_shows_fronts : shows_fronts (numbers_in (replay_in p1 p1_early)) p1_early (shown_by (replay_in p1 p1_early) [] 24) ≡ true
unfolding digits
p1_early_shows_fronts = refl

p1_early_shows_nothing : shows_whole (numbers_in (replay_in p1 p1_early)) p1_early (shown_by (replay_in p1 p1_early) [] 24) ≡ false
unfolding digits
p1_early_shows_nothing = refl

-- One whose second event cannot come next by the first: the controller holds before it, and the text shows the front alone.
abbrev pub p1_held : List Event
p1_held = event.R 0 1 (pos 0) ∷ event.X 1 ∷ []

p1_held_shows_fronts : shows_fronts (numbers_in (replay_in p1 p1_held)) (event.R 0 1 (pos 0) ∷ []) (shown_by (replay_in p1 p1_held) [] 24) ≡ true
unfolding digits
p1_held_shows_fronts = refl

p1_held_shows_front : shows_whole (numbers_in (replay_in p1 p1_held)) (event.R 0 1 (pos 0) ∷ []) (shown_by (replay_in p1 p1_held) [] 24) ≡ true
unfolding digits
p1_held_shows_front = refl
