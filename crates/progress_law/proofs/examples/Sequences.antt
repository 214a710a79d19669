-- Sequential statements, input and output: programs as plain trees, and what comes of them, by computation.
use Rattle.std.specs.Prelude.{◌≡◌, pos, negsuc, true, false, Some, None, codes, [], ◌∷◌, ◌++◌, refl}
use Rattle.std.specs.Fmt.{digits}
use Rattle.ada_tree.specs.NameList.{predefined}
use Rattle.ada_tree.specs.declared.expressions.UnaryOp.TheVariants as unary
use Rattle.ada_tree.specs.declared.expressions.BinaryOp.TheVariants as binary
use Rattle.ada_tree.specs.PlainExpr.{EInteger, EIndex, EAttribute, EAttributeOf, EUnary, EBinary, RGiven}
use Rattle.ada_tree.specs.PlainStmt.{PWords, PValue, LWhile, LFor, SNull, SAssign, SExit, SPut, SPutLine, SNewLine, SGet, SCase, SBlock, SLoop, no_stmt, stmt_then, present, case_arm, no_case_arm, case_arm_then, body, handler, no_handler, handler_then}
use Rattle.ada_tree.specs.PlainDecl.{OPlain, OArray, IOne, DObject, DEnumeration, DTask, DTaskBody, no_decl, decl_then}
use Rattle.ada_tree.specs.PlainProgram.{PProgram}
use Rattle.event_machine.specs.declared.Event.TheVariants as event
use Rattle.progress_law.specs.examples.Picking.{Ended}
use Rattle.progress_law.proofs.examples.Trees.{o, w, n, outcome, gives}

-- A task that reads to the end of its input.
--
-- procedure MEAN is task T; task body T is N, S : INTEGER := 0; begin loop GET(N); S := S + N; end loop; exception when END_ERROR => PUT(S / 2);
-- NEW_LINE; end T; begin null; end MEAN;
abbrev mean_of_input : PProgram
mean_of_input = record { names = (predefined ++ (codes "MEAN" ∷ codes "T" ∷ codes "N" ∷ codes "S" ∷ [])); text_io = false; name = (w 25); decls = (decl_then (DTask (record { name = (w 26); of_kind = false; entries = []; priorities = [] }) o) (decl_then (DTaskBody (w 26) (decl_then (DObject ((w 27) ∷ (w 28) ∷ []) false (OPlain (record { mark = (w 0); bounds = None })) (Some (IOne (EInteger 0 o))) o) no_decl) (body (stmt_then (SLoop None None (stmt_then (SGet (record { name = (w 27); index = None }) o) (stmt_then (SAssign (record { name = (w 28); index = None }) (EBinary binary.Plus (n 28) (n 27) o) o) no_stmt)) o) no_stmt) (handler_then (handler ((w 11) ∷ []) (stmt_then (SPut ((PValue (EBinary binary.Divide (n 28) (EInteger 2 o) o)) ∷ []) o) (stmt_then (SNewLine o) no_stmt)) o) no_handler)) o) no_decl)); body = (body (stmt_then (SNull o) no_stmt) no_handler) }

-- END_ERROR ends the loop.
mean_of_input_run : outcome mean_of_input (([]) ∷ ((pos 10) ∷ (negsuc 2) ∷ []) ∷ []) [] 100 ≡ gives (event.X 1 ∷ event.Z ∷ []) 13 Ended ([] ∷ codes "3\n" ∷ [])
unfolding digits
mean_of_input_run = refl

-- Loops: a counting loop evaluates its bounds once and in the first step, hides a variable of its name, does not pass INTEGER'LAST; each leave is a step
-- (the count of actions shows it).
--
-- procedure TURNSOFLOOPS is task T; task body T is N : INTEGER := 2; I : INTEGER := 5; begin for I in reverse 1 .. N loop N := 9; PUT(I); end loop; for
-- K in INTEGER'LAST - 1 .. INTEGER'LAST loop I := I + 1; end loop; while I < 9 loop I := I + 1; end loop; for K in N .. 1 loop null; end loop; PUT(I);
-- end T; begin null; end TURNSOFLOOPS;
abbrev turns_of_loops : PProgram
turns_of_loops = record { names = (predefined ++ (codes "TURNSOFLOOPS" ∷ codes "T" ∷ codes "N" ∷ codes "I" ∷ codes "K" ∷ [])); text_io = false; name = (w 25); decls = (decl_then (DTask (record { name = (w 26); of_kind = false; entries = []; priorities = [] }) o) (decl_then (DTaskBody (w 26) (decl_then (DObject ((w 27) ∷ []) false (OPlain (record { mark = (w 0); bounds = None })) (Some (IOne (EInteger 2 o))) o) (decl_then (DObject ((w 28) ∷ []) false (OPlain (record { mark = (w 0); bounds = None })) (Some (IOne (EInteger 5 o))) o) no_decl)) (body (stmt_then (SLoop None (Some (LFor (w 28) true (RGiven (record { first = (EInteger 1 o); last = (n 27) })))) (stmt_then (SAssign (record { name = (w 27); index = None }) (EInteger 9 o) o) (stmt_then (SPut ((PValue (n 28)) ∷ []) o) no_stmt)) o) (stmt_then (SLoop None (Some (LFor (w 29) false (RGiven (record { first = (EBinary binary.Minus (EAttribute (w 0) (w 19) o) (EInteger 1 o) o); last = (EAttribute (w 0) (w 19) o) })))) (stmt_then (SAssign (record { name = (w 28); index = None }) (EBinary binary.Plus (n 28) (EInteger 1 o) o) o) no_stmt) o) (stmt_then (SLoop None (Some (LWhile (EBinary binary.Less (n 28) (EInteger 9 o) o))) (stmt_then (SAssign (record { name = (w 28); index = None }) (EBinary binary.Plus (n 28) (EInteger 1 o) o) o) no_stmt) o) (stmt_then (SLoop None (Some (LFor (w 29) false (RGiven (record { first = (n 27); last = (EInteger 1 o) })))) (stmt_then (SNull o) no_stmt) o) (stmt_then (SPut ((PValue (n 28)) ∷ []) o) no_stmt))))) no_handler) o) no_decl)); body = (body (stmt_then (SNull o) no_stmt) no_handler) }

turns_of_loops_run : outcome turns_of_loops [] [] 100 ≡ gives (event.X 1 ∷ event.Z ∷ []) 22 Ended ([] ∷ codes "219" ∷ [])
unfolding digits
turns_of_loops_run = refl

-- GET: the index first, then the input; END_ERROR at the end of the list; a value outside is taken and raises.
--
-- procedure ORDEROFGET is task T; task body T is A : array (1 .. 2) of NATURAL; I : INTEGER := 3; begin begin GET(A(I)); exception when CONSTRAINT_ERROR
-- => PUT("I"); end; begin GET(A(1)); exception when CONSTRAINT_ERROR => PUT("O"); end; GET(A(2)); PUT(A(2)); PUT(A(1)); GET(I); exception when END_ERROR
-- => PUT("E"); end T; begin null; end ORDEROFGET;
abbrev order_of_get : PProgram
order_of_get = record { names = (predefined ++ (codes "ORDEROFGET" ∷ codes "T" ∷ codes "A" ∷ codes "I" ∷ [])); text_io = false; name = (w 25); decls = (decl_then (DTask (record { name = (w 26); of_kind = false; entries = []; priorities = [] }) o) (decl_then (DTaskBody (w 26) (decl_then (DObject ((w 27) ∷ []) false (OArray (RGiven (record { first = (EInteger 1 o); last = (EInteger 2 o) })) (record { mark = (w 1); bounds = None })) None o) (decl_then (DObject ((w 28) ∷ []) false (OPlain (record { mark = (w 0); bounds = None })) (Some (IOne (EInteger 3 o))) o) no_decl)) (body (stmt_then (SBlock (body (stmt_then (SGet (record { name = (w 27); index = (Some (n 28)) }) o) no_stmt) (handler_then (handler ((w 6) ∷ []) (stmt_then (SPut ((PWords (codes "I") o) ∷ []) o) no_stmt) o) no_handler)) o) (stmt_then (SBlock (body (stmt_then (SGet (record { name = (w 27); index = (Some (EInteger 1 o)) }) o) no_stmt) (handler_then (handler ((w 6) ∷ []) (stmt_then (SPut ((PWords (codes "O") o) ∷ []) o) no_stmt) o) no_handler)) o) (stmt_then (SGet (record { name = (w 27); index = (Some (EInteger 2 o)) }) o) (stmt_then (SPut ((PValue (EIndex (w 27) (EInteger 2 o) o)) ∷ []) o) (stmt_then (SPut ((PValue (EIndex (w 27) (EInteger 1 o) o)) ∷ []) o) (stmt_then (SGet (record { name = (w 28); index = None }) o) no_stmt)))))) (handler_then (handler ((w 11) ∷ []) (stmt_then (SPut ((PWords (codes "E") o) ∷ []) o) no_stmt) o) no_handler)) o) no_decl)); body = (body (stmt_then (SNull o) no_stmt) no_handler) }

order_of_get_run : outcome order_of_get (([]) ∷ ((negsuc 4) ∷ (pos 8) ∷ []) ∷ []) [] 100 ≡ gives (event.X 1 ∷ event.Z ∷ []) 14 Ended ([] ∷ codes "IO80E" ∷ [])
unfolding digits
order_of_get_run = refl

-- PUT evaluates all parts before it writes; IMAGE has a blank before what is not negative; lines and an unfinished last line.
--
-- procedure PARTSOFPUT is type COLOR is (RED, GREEN); task T; task body T is Z : INTEGER := 0; C : COLOR; B : array (2 .. 3) of POSITIVE; begin
-- PUT_LINE("a" & INTEGER'IMAGE(7) & INTEGER'IMAGE(-7) & COLOR'IMAGE(COLOR'SUCC(C))); PUT(-3); NEW_LINE; NEW_LINE; PUT(B(3)); begin PUT("b" &
-- INTEGER'IMAGE(1 / Z)); exception when NUMERIC_ERROR => PUT("N"); end; PUT(BOOLEAN'IMAGE(C = GREEN or else 1 / Z = 1)); exception when NUMERIC_ERROR =>
-- PUT("M"); end T; begin null; end PARTSOFPUT;
abbrev parts_of_put : PProgram
parts_of_put = record { names = (predefined ++ (codes "PARTSOFPUT" ∷ codes "COLOR" ∷ codes "RED" ∷ codes "GREEN" ∷ codes "T" ∷ codes "Z" ∷ codes "C" ∷ codes "B" ∷ [])); text_io = false; name = (w 25); decls = (decl_then (DEnumeration (w 26) ((w 27) ∷ (w 28) ∷ []) o) (decl_then (DTask (record { name = (w 29); of_kind = false; entries = []; priorities = [] }) o) (decl_then (DTaskBody (w 29) (decl_then (DObject ((w 30) ∷ []) false (OPlain (record { mark = (w 0); bounds = None })) (Some (IOne (EInteger 0 o))) o) (decl_then (DObject ((w 31) ∷ []) false (OPlain (record { mark = (w 26); bounds = None })) None o) (decl_then (DObject ((w 32) ∷ []) false (OArray (RGiven (record { first = (EInteger 2 o); last = (EInteger 3 o) })) (record { mark = (w 2); bounds = None })) None o) no_decl))) (body (stmt_then (SPutLine ((PWords (codes "a") o) ∷ (PValue (EAttributeOf (w 0) (w 24) (EInteger 7 o) o)) ∷ (PValue (EAttributeOf (w 0) (w 24) (EUnary unary.Minus (EInteger 7 o) o) o)) ∷ (PValue (EAttributeOf (w 26) (w 24) (EAttributeOf (w 26) (w 22) (n 31) o) o)) ∷ []) o) (stmt_then (SPut ((PValue (EUnary unary.Minus (EInteger 3 o) o)) ∷ []) o) (stmt_then (SNewLine o) (stmt_then (SNewLine o) (stmt_then (SPut ((PValue (EIndex (w 32) (EInteger 3 o) o)) ∷ []) o) (stmt_then (SBlock (body (stmt_then (SPut ((PWords (codes "b") o) ∷ (PValue (EAttributeOf (w 0) (w 24) (EBinary binary.Divide (EInteger 1 o) (n 30) o) o)) ∷ []) o) no_stmt) (handler_then (handler ((w 7) ∷ []) (stmt_then (SPut ((PWords (codes "N") o) ∷ []) o) no_stmt) o) no_handler)) o) (stmt_then (SPut ((PValue (EAttributeOf (w 3) (w 24) (EBinary binary.OrElse (EBinary binary.Equal (n 31) (n 28) o) (EBinary binary.Equal (EBinary binary.Divide (EInteger 1 o) (n 30) o) (EInteger 1 o) o) o) o)) ∷ []) o) no_stmt))))))) (handler_then (handler ((w 7) ∷ []) (stmt_then (SPut ((PWords (codes "M") o) ∷ []) o) no_stmt) o) no_handler)) o) no_decl))); body = (body (stmt_then (SNull o) no_stmt) no_handler) }

parts_of_put_run : outcome parts_of_put [] [] 100 ≡ gives (event.X 1 ∷ event.Z ∷ []) 13 Ended ([] ∷ codes "a 7-7GREEN\n-3\n\n1NM" ∷ [])
unfolding digits
parts_of_put_run = refl

-- Exits: out of a block with handlers and of the named loop; steps of if, case, exit, block; a case over a subtype.
--
-- procedure EXITSOFLOOPS is task T; task body T is N : INTEGER range 0 .. 9 := 0; begin OUTER : loop loop begin N := N + 1; case N is when 1 | 3 .. 4 =>
-- null; when 5 => exit OUTER; when others => exit when N = 2; end case; exception when others => PUT("NO"); end; end loop; PUT(N); end loop OUTER; N :=
-- N + 5; PUT("NO"); exception when CONSTRAINT_ERROR => PUT("C"); PUT(N); end T; begin null; end EXITSOFLOOPS;
abbrev exits_of_loops : PProgram
exits_of_loops = record { names = (predefined ++ (codes "EXITSOFLOOPS" ∷ codes "T" ∷ codes "N" ∷ codes "OUTER" ∷ [])); text_io = false; name = (w 25); decls = (decl_then (DTask (record { name = (w 26); of_kind = false; entries = []; priorities = [] }) o) (decl_then (DTaskBody (w 26) (decl_then (DObject ((w 27) ∷ []) false (OPlain (record { mark = (w 0); bounds = (Some (record { first = (EInteger 0 o); last = (EInteger 9 o) })) })) (Some (IOne (EInteger 0 o))) o) no_decl) (body (stmt_then (SLoop (Some (w 28)) None (stmt_then (SLoop None None (stmt_then (SBlock (body (stmt_then (SAssign (record { name = (w 27); index = None }) (EBinary binary.Plus (n 27) (EInteger 1 o) o) o) (stmt_then (SCase (n 27) (case_arm_then (case_arm ((record { first = (EInteger 1 o); last = None }) ∷ (record { first = (EInteger 3 o); last = (Some (EInteger 4 o)) }) ∷ []) (stmt_then (SNull o) no_stmt)) (case_arm_then (case_arm ((record { first = (EInteger 5 o); last = None }) ∷ []) (stmt_then (SExit (Some (w 28)) None o) no_stmt)) no_case_arm)) (present (stmt_then (SExit None (Some (EBinary binary.Equal (n 27) (EInteger 2 o) o)) o) no_stmt)) o) no_stmt)) (handler_then (handler [] (stmt_then (SPut ((PWords (codes "NO") o) ∷ []) o) no_stmt) o) no_handler)) o) no_stmt) o) (stmt_then (SPut ((PValue (n 27)) ∷ []) o) no_stmt)) o) (stmt_then (SAssign (record { name = (w 27); index = None }) (EBinary binary.Plus (n 27) (EInteger 5 o) o) o) (stmt_then (SPut ((PWords (codes "NO") o) ∷ []) o) no_stmt))) (handler_then (handler ((w 6) ∷ []) (stmt_then (SPut ((PWords (codes "C") o) ∷ []) o) (stmt_then (SPut ((PValue (n 27)) ∷ []) o) no_stmt)) o) no_handler)) o) no_decl)); body = (body (stmt_then (SNull o) no_stmt) no_handler) }

exits_of_loops_run : outcome exits_of_loops [] [] 200 ≡ gives (event.X 1 ∷ event.Z ∷ []) 34 Ended ([] ∷ codes "2C5" ∷ [])
unfolding digits
exits_of_loops_run = refl
