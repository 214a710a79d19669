-- Abort statements: programs and their normal forms, as plain trees.
use Rattle.std.specs.Prelude.{◌≡◌, refl, codes, length, ◌++◌, ◌∷◌, [], true, false, None, Some}
use Rattle.std.specs.Fmt.{digits}
use Rattle.ada_tree.specs.NameList.{predefined}
use Rattle.ada_tree.specs.declared.expressions.BinaryOp.TheVariants as binary
use Rattle.ada_tree.specs.PlainExpr.{EInteger, EBinary, RGiven}
use Rattle.ada_tree.specs.PlainStmt.{PWords, SNull, SAssign, SAbort, SCall, SAccept, SPut, SCase, no_stmt, stmt_then, absent, present, accepting, case_arm, no_case_arm, case_arm_then, body, handler, no_handler, handler_then}
use Rattle.ada_tree.specs.PlainDecl.{OPlain, OArray, IOne, DObject, DTask, DTaskBody, no_decl, decl_then}
use Rattle.ada_tree.specs.PlainProgram.{PProgram}
use Rattle.ada_static_rules.specs.Refusals.{refusals}
use Rattle.syn_event.specs.CheckRefusals.{check_refusals}
use Rattle.syn_event.specs.declared.numbering.Mode.TheVariants as mode_of
use Rattle.progress_law.specs.rewritten.normal.Showing.{show_the_same}
use Rattle.progress_law.proofs.rewritten.normal.Trees.{o, w, n, numbers_in, normal_in, numbers_made, shown_by}

-- An abort of several tasks is one abort for each; the own task stands last.
--
-- procedure NAMES is
--    task S is
--       entry E;
--    end S;
--    task A;
--    task K;
--    task body S is
--    begin
--       accept E do
--          PUT("IN");
--       end E;
--       PUT("OUT");
--    end S;
--    task body A is
--    begin
--       S.E;
--       PUT("AFTER");
--    exception
--       when TASKING_ERROR =>
--          PUT("LOST");
--    end A;
--    task body K is
--    begin
--       abort A, S, K;
--       PUT("NO");
--    end K;
-- begin
--    null;
-- end NAMES;
abbrev names : PProgram
names = record { names = (predefined ++ (codes "NAMES" ∷ codes "S" ∷ codes "E" ∷ codes "A" ∷ codes "K" ∷ [])); text_io = false; name = (w 25); decls = (decl_then (DTask (record { name = (w 26); of_kind = false; entries = ((record { name = (w 27); family = None; formals = []; span = o }) ∷ []); priorities = [] }) o) (decl_then (DTask (record { name = (w 28); of_kind = false; entries = []; priorities = [] }) o) (decl_then (DTask (record { name = (w 29); of_kind = false; entries = []; priorities = [] }) o) (decl_then (DTaskBody (w 26) no_decl (body (stmt_then (SAccept (accepting (record { entry = (w 27); index = None; formals = []; span = o }) (present (stmt_then (SPut ((PWords (codes "IN") o) ∷ []) o) no_stmt))) o) (stmt_then (SPut ((PWords (codes "OUT") o) ∷ []) o) no_stmt)) no_handler) o) (decl_then (DTaskBody (w 28) no_decl (body (stmt_then (SCall (record { task = (record { name = (w 26); index = None }); entry = (w 27); args = None }) o) (stmt_then (SPut ((PWords (codes "AFTER") o) ∷ []) o) no_stmt)) (handler_then (handler ((w 9) ∷ []) (stmt_then (SPut ((PWords (codes "LOST") o) ∷ []) o) no_stmt) o) no_handler)) o) (decl_then (DTaskBody (w 29) no_decl (body (stmt_then (SAbort ((record { name = (w 28); index = None }) ∷ (record { name = (w 26); index = None }) ∷ (record { name = (w 29); index = None }) ∷ []) o) (stmt_then (SPut ((PWords (codes "NO") o) ∷ []) o) no_stmt)) no_handler) o) no_decl)))))); body = (body (stmt_then (SNull o) no_stmt) no_handler) }

-- It is legal.
names_is_legal : refusals names ≡ []
unfolding digits
names_is_legal = refl

names_is_checked : check_refusals names mode_of.Original ≡ []
unfolding digits
names_is_checked = refl

-- Its normal form:
--
-- .. (as in the text of `names`, 23 lines: from "procedure NAMES is" to "begin")
--       abort A;
--       abort S;
--       abort K;
--       PUT("NO");
--    end K;
-- begin
--    null;
-- end NAMES;
abbrev names_normal : PProgram
names_normal = record { names = (predefined ++ (codes "NAMES" ∷ codes "S" ∷ codes "E" ∷ codes "A" ∷ codes "K" ∷ [])); text_io = false; name = (w 25); decls = (decl_then (DTask (record { name = (w 26); of_kind = false; entries = ((record { name = (w 27); family = None; formals = []; span = o }) ∷ []); priorities = [] }) o) (decl_then (DTask (record { name = (w 28); of_kind = false; entries = []; priorities = [] }) o) (decl_then (DTask (record { name = (w 29); of_kind = false; entries = []; priorities = [] }) o) (decl_then (DTaskBody (w 26) no_decl (body (stmt_then (SAccept (accepting (record { entry = (w 27); index = None; formals = []; span = o }) (present (stmt_then (SPut ((PWords (codes "IN") o) ∷ []) o) no_stmt))) o) (stmt_then (SPut ((PWords (codes "OUT") o) ∷ []) o) no_stmt)) no_handler) o) (decl_then (DTaskBody (w 28) no_decl (body (stmt_then (SCall (record { task = (record { name = (w 26); index = None }); entry = (w 27); args = None }) o) (stmt_then (SPut ((PWords (codes "AFTER") o) ∷ []) o) no_stmt)) (handler_then (handler ((w 9) ∷ []) (stmt_then (SPut ((PWords (codes "LOST") o) ∷ []) o) no_stmt) o) no_handler)) o) (decl_then (DTaskBody (w 29) no_decl (body (stmt_then (SAbort ((record { name = (w 28); index = None }) ∷ []) o) (stmt_then (SAbort ((record { name = (w 26); index = None }) ∷ []) o) (stmt_then (SAbort ((record { name = (w 29); index = None }) ∷ []) o) (stmt_then (SPut ((PWords (codes "NO") o) ∷ []) o) no_stmt)))) no_handler) o) no_decl)))))); body = (body (stmt_then (SNull o) no_stmt) no_handler) }

names_is_normal : normal_in names ≡ names_normal
unfolding digits
names_is_normal = refl

-- These are its numbers, and it is legal.
names_numbers : numbers_made names ≡ numbers_in names_normal
unfolding digits
names_numbers = refl

names_normal_is_legal : refusals names_normal ≡ []
unfolding digits
names_normal_is_legal = refl

names_normal_is_checked : check_refusals names_normal mode_of.Any ≡ []
unfolding digits
names_normal_is_checked = refl

-- Both show the same, in 51 lists of at most 14 events.
names_shows : show_the_same (shown_by names [] 14) (shown_by names_normal [] 14) ≡ true
unfolding digits
names_shows = refl

names_many : length (shown_by names [] 14) ≡ 51
unfolding digits
names_many = refl

-- An abort of members: each index is evaluated when the turn of its name has come.
--
-- procedure INDICES is
--    task type W is
--       entry E;
--    end W;
--    A : array (1 .. 2) of W;
--    task K;
--    task body W is
--    begin
--       accept E;
--    end W;
--    task body K is
--       I : INTEGER := 3;
--    begin
--       abort A(2), A(I - 2), A(I), A(1);
--       PUT("NO");
--    exception
--       when CONSTRAINT_ERROR =>
--          PUT("C");
--          abort A(1), K;
--    end K;
-- begin
--    A(1).E;
-- end INDICES;
abbrev indices : PProgram
indices = record { names = (predefined ++ (codes "INDICES" ∷ codes "W" ∷ codes "E" ∷ codes "A" ∷ codes "K" ∷ codes "I" ∷ [])); text_io = false; name = (w 25); decls = (decl_then (DTask (record { name = (w 26); of_kind = true; entries = ((record { name = (w 27); family = None; formals = []; span = o }) ∷ []); priorities = [] }) o) (decl_then (DObject ((w 28) ∷ []) false (OArray (RGiven (record { first = (EInteger 1 o); last = (EInteger 2 o) })) (record { mark = (w 26); bounds = None })) None o) (decl_then (DTask (record { name = (w 29); of_kind = false; entries = []; priorities = [] }) o) (decl_then (DTaskBody (w 26) no_decl (body (stmt_then (SAccept (accepting (record { entry = (w 27); index = None; formals = []; span = o }) absent) o) no_stmt) no_handler) o) (decl_then (DTaskBody (w 29) (decl_then (DObject ((w 30) ∷ []) false (OPlain (record { mark = (w 0); bounds = None })) (Some (IOne (EInteger 3 o))) o) no_decl) (body (stmt_then (SAbort ((record { name = (w 28); index = (Some (EInteger 2 o)) }) ∷ (record { name = (w 28); index = (Some (EBinary binary.Minus (n 30) (EInteger 2 o) o)) }) ∷ (record { name = (w 28); index = (Some (n 30)) }) ∷ (record { name = (w 28); index = (Some (EInteger 1 o)) }) ∷ []) o) (stmt_then (SPut ((PWords (codes "NO") o) ∷ []) o) no_stmt)) (handler_then (handler ((w 6) ∷ []) (stmt_then (SPut ((PWords (codes "C") o) ∷ []) o) (stmt_then (SAbort ((record { name = (w 28); index = (Some (EInteger 1 o)) }) ∷ (record { name = (w 29); index = None }) ∷ []) o) no_stmt)) o) no_handler)) o) no_decl))))); body = (body (stmt_then (SCall (record { task = (record { name = (w 28); index = (Some (EInteger 1 o)) }); entry = (w 27); args = None }) o) no_stmt) no_handler) }

-- It is legal.
indices_is_legal : refusals indices ≡ []
unfolding digits
indices_is_legal = refl

indices_is_checked : check_refusals indices mode_of.Original ≡ []
unfolding digits
indices_is_checked = refl

-- Its normal form:
--
-- procedure INDICES is
--    task A_DED_1 is
--       entry E;
--    end A_DED_1;
--    task A_DED_2 is
--       entry E;
--    end A_DED_2;
--    task K;
--    task body A_DED_1 is
--    begin
--       accept E;
--    end A_DED_1;
--    task body A_DED_2 is
--    begin
--       accept E;
--    end A_DED_2;
--    task body K is
--       I : INTEGER := 3;
--       DED_V1 : INTEGER range 1 .. 2;
--       DED_V2 : INTEGER range 1 .. 2;
--    begin
--       abort A_DED_2;
--       DED_V1 := I - 2;
--       case DED_V1 is
--          when 1 =>
--             abort A_DED_1;
--          when 2 =>
--             abort A_DED_2;
--          when others =>
--             null;
--       end case;
--       DED_V2 := I;
--       case DED_V2 is
--          when 1 =>
--             abort A_DED_1;
--          when 2 =>
--             abort A_DED_2;
--          when others =>
--             null;
--       end case;
--       abort A_DED_1;
--       PUT("NO");
--    exception
--       when CONSTRAINT_ERROR =>
--          PUT("C");
--          abort A_DED_1;
--          abort K;
--    end K;
-- begin
--    A_DED_1.E;
-- end INDICES;
abbrev indices_normal : PProgram
indices_normal = record { names = (predefined ++ (codes "INDICES" ∷ codes "W" ∷ codes "E" ∷ codes "A" ∷ codes "K" ∷ codes "I" ∷ codes "A_DED_1" ∷ codes "A_DED_2" ∷ codes "DED_V1" ∷ codes "DED_V2" ∷ [])); text_io = false; name = (w 25); decls = (decl_then (DTask (record { name = (w 31); of_kind = false; entries = ((record { name = (w 27); family = None; formals = []; span = o }) ∷ []); priorities = [] }) o) (decl_then (DTask (record { name = (w 32); of_kind = false; entries = ((record { name = (w 27); family = None; formals = []; span = o }) ∷ []); priorities = [] }) o) (decl_then (DTask (record { name = (w 29); of_kind = false; entries = []; priorities = [] }) o) (decl_then (DTaskBody (w 31) no_decl (body (stmt_then (SAccept (accepting (record { entry = (w 27); index = None; formals = []; span = o }) absent) o) no_stmt) no_handler) o) (decl_then (DTaskBody (w 32) no_decl (body (stmt_then (SAccept (accepting (record { entry = (w 27); index = None; formals = []; span = o }) absent) o) no_stmt) no_handler) o) (decl_then (DTaskBody (w 29) (decl_then (DObject ((w 30) ∷ []) false (OPlain (record { mark = (w 0); bounds = None })) (Some (IOne (EInteger 3 o))) o) (decl_then (DObject ((w 33) ∷ []) false (OPlain (record { mark = (w 0); bounds = (Some (record { first = (EInteger 1 o); last = (EInteger 2 o) })) })) None o) (decl_then (DObject ((w 34) ∷ []) false (OPlain (record { mark = (w 0); bounds = (Some (record { first = (EInteger 1 o); last = (EInteger 2 o) })) })) None o) no_decl))) (body (stmt_then (SAbort ((record { name = (w 32); index = None }) ∷ []) o) (stmt_then (SAssign (record { name = (w 33); index = None }) (EBinary binary.Minus (n 30) (EInteger 2 o) o) o) (stmt_then (SCase (n 33) (case_arm_then (case_arm ((record { first = (EInteger 1 o); last = None }) ∷ []) (stmt_then (SAbort ((record { name = (w 31); index = None }) ∷ []) o) no_stmt)) (case_arm_then (case_arm ((record { first = (EInteger 2 o); last = None }) ∷ []) (stmt_then (SAbort ((record { name = (w 32); index = None }) ∷ []) o) no_stmt)) no_case_arm)) (present (stmt_then (SNull o) no_stmt)) o) (stmt_then (SAssign (record { name = (w 34); index = None }) (n 30) o) (stmt_then (SCase (n 34) (case_arm_then (case_arm ((record { first = (EInteger 1 o); last = None }) ∷ []) (stmt_then (SAbort ((record { name = (w 31); index = None }) ∷ []) o) no_stmt)) (case_arm_then (case_arm ((record { first = (EInteger 2 o); last = None }) ∷ []) (stmt_then (SAbort ((record { name = (w 32); index = None }) ∷ []) o) no_stmt)) no_case_arm)) (present (stmt_then (SNull o) no_stmt)) o) (stmt_then (SAbort ((record { name = (w 31); index = None }) ∷ []) o) (stmt_then (SPut ((PWords (codes "NO") o) ∷ []) o) no_stmt))))))) (handler_then (handler ((w 6) ∷ []) (stmt_then (SPut ((PWords (codes "C") o) ∷ []) o) (stmt_then (SAbort ((record { name = (w 31); index = None }) ∷ []) o) (stmt_then (SAbort ((record { name = (w 29); index = None }) ∷ []) o) no_stmt))) o) no_handler)) o) no_decl)))))); body = (body (stmt_then (SCall (record { task = (record { name = (w 31); index = None }); entry = (w 27); args = None }) o) no_stmt) no_handler) }

indices_is_normal : normal_in indices ≡ indices_normal
unfolding digits
indices_is_normal = refl

-- These are its numbers, and it is legal.
indices_numbers : numbers_made indices ≡ numbers_in indices_normal
unfolding digits
indices_numbers = refl

indices_normal_is_legal : refusals indices_normal ≡ []
unfolding digits
indices_normal_is_legal = refl

indices_normal_is_checked : check_refusals indices_normal mode_of.Any ≡ []
unfolding digits
indices_normal_is_checked = refl

-- Both show the same, in 62 lists of at most 9 events.
indices_shows : show_the_same (shown_by indices [] 9) (shown_by indices_normal [] 9) ≡ true
unfolding digits
indices_shows = refl

indices_many : length (shown_by indices [] 9) ≡ 62
unfolding digits
indices_many = refl
