-- Small programs by which the rules 13 to 23 can be tried: what each is refused for, as the number of the rule and the first byte of the place.
use Rattle.std.specs.Prelude.{◌≡◌, ℕ, ℤ, ◌+◌, zero, suc, pos, true, false, List, [], ◌∷◌, ◌++◌, map, replicate, Option, Some, None, refl, codes}
use Rattle.ada_tree.specs.declared.naming.Span.{Span}
use Rattle.ada_tree.specs.declared.naming.Word.{Word}
use Rattle.ada_tree.specs.declared.statements.ParMode.TheVariants.{Take}
use Rattle.ada_tree.specs.PlainExpr.{PExpr, EInteger, EName, EIndex, EParen, PSubind, PDrange, RGiven}
use Rattle.ada_tree.specs.PlainStmt.{SIf, SConditional, LFor, arm, no_arm, arm_then, PTarget, PCallee, PFormal, PHead, PStmt, SNull, SAssign, SExit, SRaise, SAbort, SCall, SAccept, SWait, SBlock, SLoop, no_stmt, PMaybe, absent, present, accepting, PAltKind, AAccept, ADelay, ATerminate, PAlts, no_alt, alt_then, alternative, no_handler, handler_then, handler, body, stmts_of}
use Rattle.ada_tree.specs.PlainDecl.{OPlain, OArray, PEntry, PDecl, DObject, DArray, DTask, DTaskBody, decls_of}
use Rattle.ada_tree.specs.PlainProgram.{PProgram}
use Rattle.ada_static_rules.specs.Refusals.{types_in}
use Rattle.syn_event.specs.declared.numbering.Mode.{Mode}
use Rattle.syn_event.specs.declared.numbering.Mode.TheVariants.{Original, Any}
use Rattle.syn_event.specs.declared.limits.What.{What}
use Rattle.syn_event.specs.declared.limits.What.TheVariants.{Name, Nesting, Tasks, Entries, Members, Components, Alternatives, Formals, Copies}
use Rattle.syn_event.specs.RuleLimit.{Over}
use Rattle.syn_event.specs.CheckRefusals.{check_refusals}
use Rattle.syn_event.specs.AllNumbers.{all_numbers}

abbrev at : ℕ → Span
at s = record { start = s; end = s + 1 }

abbrev w : ℕ → ℕ → Word
w id s = record { name = record { 0 = id }; span = at s }

abbrev name : ℕ → ℕ → PExpr
name id s = EName record { 0 = id } (at s)

abbrev lit : ℕ → ℕ → PExpr
lit n s = EInteger n (at s)

abbrev plain : ℕ → PSubind
plain id = record { mark = w id 900; bounds = None }

abbrev dots : ℕ → ℕ → ℕ → PDrange
dots a b s = RGiven record { first = lit a s; last = lit b (s + 1) }

abbrev entry : ℕ → ℕ → Option PDrange → List PFormal → PEntry
entry id s r fs = record { name = w id s; family = r; formals = fs; span = at s }

abbrev task : ℕ → ℕ → List PEntry → PDecl
task id s es = DTask record { name = w id (s + 1); of_kind = false; entries = es; priorities = [] } (at s)

abbrev task_type : ℕ → ℕ → List PEntry → PDecl
task_type id s es = DTask record { name = w id (s + 1); of_kind = true; entries = es; priorities = [] } (at s)

abbrev task_body : ℕ → List PDecl → List PStmt → PDecl
task_body id os ss = DTaskBody (w id 900) (decls_of os) (body (stmts_of ss) no_handler) (at 900)

abbrev object : ℕ → ℕ → ℕ → PDecl
object id s mark = DObject (w id s ∷ []) false (OPlain (plain mark)) None (at s)

abbrev row : ℕ → ℕ → PDrange → ℕ → PDecl
row id s r mark = DObject (w id s ∷ []) false (OArray r (plain mark)) None (at s)

-- the ids: 0 INTEGER, 9 TASKING_ERROR, 25 Q, 26 T, 27 E, 28 F, 29 X, 30 Y, 31 W, 32 A, 33 L
abbrev texts : List (List ℕ)
texts = replicate 25 (codes "P") ++ codes "Q" ∷ codes "T" ∷ codes "E" ∷ codes "F" ∷ codes "X" ∷ codes "Y" ∷ codes "W" ∷ codes "A" ∷ codes "L" ∷ codes "DED_Z" ∷ codes "Z_DED_1" ∷ codes "DED" ∷ codes "ZDED" ∷ []

abbrev program : List PDecl → List PStmt → PProgram
program ds ss = record { names = texts; text_io = false; name = w 25 900; decls = decls_of ds; body = body (stmts_of ss) no_handler }

-- the rule and the first byte of each refusal
abbrev told : PProgram → List (ℕ × ℕ)
told p = map (λ r. (r.rule, r.span.start)) (check_refusals p Original)

-- the limit and the first byte of each refusal
abbrev over : Mode → PProgram → List (Option Over × ℕ)
over m p = map (λ r. (r.over, r.span.start)) (check_refusals p m)

abbrev limit : What → ℕ → ℕ → Option Over × ℕ
limit what n s = (Some record { what = what; limit = n }, s)

-- main with X : INTEGER and Y : array (1 .. 3) of INTEGER, the task T with entry E and the family F(1 .. 3), and its body
abbrev with_body : List PDecl → List PStmt → PProgram
with_body os ss = program (object 29 900 0 ∷ row 30 900 (dots 1 3 900) 0 ∷ task 26 900 (entry 27 900 None [] ∷ entry 28 900 (Some (dots 1 3 900)) [] ∷ []) ∷ task_body 26 os ss ∷ []) []

abbrev with_stmts : List PStmt → PProgram
with_stmts ss = with_body [] ss

abbrev target : ℕ → ℕ → PTarget
target id s = record { name = w id s; index = None }

abbrev assign : ℕ → ℕ → PExpr → PStmt
assign id s e = SAssign (target id s) e (at s)

abbrev head : ℕ → ℕ → Option PExpr → PHead
head id s i = record { entry = w id (s + 1); index = i; formals = []; span = at s }

abbrev accept : ℕ → ℕ → Option PExpr → PStmt
accept id s i = SAccept (accepting (head id s i) absent) (at s)

abbrev accept_do : ℕ → ℕ → List PStmt → PStmt
accept_do id s ss = SAccept (accepting (head id s None) (present (stmts_of ss))) (at s)

abbrev callee : ℕ → ℕ → Option PExpr → PCallee
callee id s i = record { name = w id s; index = i }

abbrev call : ℕ → ℕ → Option PExpr → PStmt
call id s i = SCall record { task = callee id s i; entry = w 27 900; args = None } (at s)

abbrev alt : ℕ → PAltKind → PAlts → PAlts
alt s x l = alt_then (alternative None x (at s)) l

abbrev alt_accept : ℕ → ℕ → Option PExpr → PAlts → PAlts
alt_accept id s i l = alt s (AAccept (accepting (head id s i) absent) no_stmt) l

abbrev alt_delay : ℕ → PAlts → PAlts
alt_delay s l = alt s (ADelay 0 no_stmt) l

abbrev alt_end : ℕ → PAlts → PAlts
alt_end s l = alt s ATerminate l

abbrev wait : PAlts → PMaybe → PStmt
wait x o = SWait x o (at 1)

abbrev loop : Option Word → List PStmt → PStmt
loop n ss = SLoop n None (stmts_of ss) (at 900)

abbrev exit : Option Word → PStmt
exit n = SExit n None (at 1)

-- ---- no refusal, and the rules by their numbers

nothing : told (with_stmts (SNull (at 1) ∷ accept 27 2 None ∷ [])) ≡ []
nothing = refl

shared_variable_read : told (with_body (object 32 900 0 ∷ []) (assign 32 1 (name 29 3) ∷ [])) ≡ (13, 3) ∷ []
shared_variable_read = refl

shared_component : told (with_body (object 32 900 0 ∷ []) (assign 32 1 (EIndex (w 30 3) (lit 1 4) (at 3)) ∷ [])) ≡ (13, 3) ∷ []
shared_component = refl

shared_target : told (with_stmts (assign 29 1 (lit 1 3) ∷ [])) ≡ (13, 1) ∷ []
shared_target = refl

hidden_variable : told (with_body (object 29 900 0 ∷ []) (assign 29 1 (name 29 3) ∷ [])) ≡ []
hidden_variable = refl

variable_in_main : told (program (object 29 900 0 ∷ []) (assign 29 1 (name 29 3) ∷ [])) ≡ []
variable_in_main = refl

accept_in_main : told (program (task 26 900 (entry 27 900 None [] ∷ []) ∷ task_body 26 [] [] ∷ []) (accept 27 1 None ∷ [])) ≡ (14, 1) ∷ []
accept_in_main = refl

accept_of_other : told (program (task 26 900 (entry 27 900 None [] ∷ []) ∷ task 31 900 [] ∷ task_body 26 [] [] ∷ task_body 31 [] (accept 27 1 None ∷ []) ∷ []) []) ≡ (14, 1) ∷ []
accept_of_other = refl

accept_in_same : told (with_stmts (accept_do 27 1 (accept 27 5 None ∷ []) ∷ [])) ≡ (14, 5) ∷ []
accept_in_same = refl

accept_in_other : told (with_stmts (accept_do 27 1 (accept 28 5 (Some (lit 1 7)) ∷ []) ∷ accept 27 9 None ∷ [])) ≡ []
accept_in_other = refl

wait_without_accept : told (with_stmts (wait (alt_end 3 no_alt) absent ∷ [])) ≡ (15, 1) ∷ []
wait_without_accept = refl

wait_with_two_kinds : told (with_stmts (wait (alt_accept 27 3 None (alt_delay 5 no_alt)) (present no_stmt) ∷ [])) ≡ (15, 1) ∷ []
wait_with_two_kinds = refl

wait_with_two_ends : told (with_stmts (wait (alt_accept 27 3 None (alt_end 5 (alt_end 7 no_alt))) absent ∷ [])) ≡ (15, 1) ∷ []
wait_with_two_ends = refl

wait_with_two_delays : told (with_stmts (wait (alt_accept 27 3 None (alt_delay 5 (alt_delay 7 no_alt))) absent ∷ [])) ≡ []
wait_with_two_delays = refl

same_entry : told (with_stmts (wait (alt_accept 27 3 None (alt_accept 27 5 None no_alt)) absent ∷ [])) ≡ (16, 5) ∷ []
same_entry = refl

same_member : told (with_stmts (wait (alt_accept 28 3 (Some (lit 1 4)) (alt_accept 28 6 (Some (lit 1 7)) no_alt)) absent ∷ [])) ≡ (16, 6) ∷ []
same_member = refl

other_member : told (with_stmts (wait (alt_accept 28 3 (Some (lit 1 4)) (alt_accept 28 6 (Some (lit 2 7)) no_alt)) absent ∷ [])) ≡ []
other_member = refl

unknown_member : told (with_body (object 32 900 0 ∷ []) (wait (alt_accept 28 3 (Some (lit 1 4)) (alt_accept 28 6 (Some (name 32 7)) no_alt)) absent ∷ [])) ≡ (16, 6) ∷ []
unknown_member = refl

reserved_object : told (program (object 34 1 0 ∷ object 35 3 0 ∷ object 36 5 0 ∷ object 37 7 0 ∷ []) []) ≡ (17, 1) ∷ (17, 3) ∷ (17, 5) ∷ []
reserved_object = refl

reserved_in_any : check_refusals (program (object 34 1 0 ∷ object 35 3 0 ∷ []) []) Any ≡ []
reserved_in_any = refl

call_of_main : told (with_stmts (call 25 1 None ∷ [])) ≡ (18, 1) ∷ []
call_of_main = refl

abort_of_type : told (program (task_type 31 900 [] ∷ task_body 31 [] [] ∷ []) (SAbort (callee 31 3 None ∷ []) (at 1) ∷ [])) ≡ (18, 3) ∷ []
abort_of_type = refl

own_task_first : told (with_stmts (SAbort (callee 26 3 None ∷ callee 26 5 None ∷ []) (at 1) ∷ [])) ≡ (19, 3) ∷ []
own_task_first = refl

own_task_last : told (with_stmts (SAbort (callee 26 3 None ∷ []) (at 1) ∷ [])) ≡ []
own_task_last = refl

-- W is a task type and A an array of its tasks
own_type_first : told (program (task_type 31 900 [] ∷ row 32 900 (dots 1 3 900) 31 ∷ task 26 900 [] ∷ task_body 31 [] (SAbort (callee 32 3 (Some (lit 2 4)) ∷ callee 26 6 None ∷ []) (at 1) ∷ []) ∷ task_body 26 [] [] ∷ []) []) ≡ (19, 3) ∷ []
own_type_first = refl

no_body : told (program (task 26 5 [] ∷ []) []) ≡ (20, 5) ∷ []
no_body = refl

exit_without_loop : told (with_stmts (exit None ∷ [])) ≡ (21, 1) ∷ []
exit_without_loop = refl

exit_of_other : told (with_stmts (loop (Some (w 33 900)) (exit (Some (w 32 3)) ∷ []) ∷ [])) ≡ (21, 1) ∷ []
exit_of_other = refl

exit_of_outer : told (with_stmts (loop (Some (w 33 900)) (loop None (exit (Some (w 33 3)) ∷ []) ∷ []) ∷ [])) ≡ []
exit_of_outer = refl

exit_of_accept : told (with_stmts (loop None (accept_do 27 900 (exit None ∷ []) ∷ []) ∷ [])) ≡ (21, 1) ∷ []
exit_of_accept = refl

raise_without_handler : told (with_stmts (SRaise None (at 1) ∷ [])) ≡ (22, 1) ∷ []
raise_without_handler = refl

raise_in_handler : told (with_stmts (SBlock (body no_stmt (handler_then (handler [] (stmts_of (SRaise None (at 1) ∷ [])) (at 900)) no_handler)) (at 900) ∷ [])) ≡ []
raise_in_handler = refl

-- ---- limits

-- an expression in so many parentheses
abbrev parens : ℕ → PExpr
parens zero = lit 1 7
parens (suc n) = EParen (parens n) (at 7)

abbrev deep : ℕ → PProgram
deep n = program (object 29 900 0 ∷ []) (assign 29 1 (parens n) ∷ [])

deep_enough : over Original (deep 38) ≡ []
deep_enough = refl

too_deep : over Original (deep 39) ≡ limit Nesting 40 7 ∷ []
too_deep = refl

deep_in_any : over Any (deep 39) ≡ []
deep_in_any = refl

long_name : over Original (record (program [] []) { names = replicate 25 [] ++ replicate 121 90 ∷ [] }) ≡ limit Name 120 900 ∷ []
long_name = refl

many_tasks : over Original (program (task_type 31 900 [] ∷ row 32 3 (dots 1 150 900) 31 ∷ row 33 5 (dots 1 51 900) 31 ∷ task_body 31 [] [] ∷ []) []) ≡ limit Tasks 200 5 ∷ []
many_tasks = refl

many_entries : over Original (program (task_type 31 900 (entry 27 900 None [] ∷ entry 28 900 None [] ∷ entry 29 900 None [] ∷ entry 30 900 None [] ∷ entry 37 900 None [] ∷ []) ∷ row 32 3 (dots 1 200 900) 31 ∷ task 26 5 (entry 27 7 None [] ∷ entry 28 9 None [] ∷ []) ∷ task_body 31 [] [] ∷ task_body 26 [] [] ∷ []) []) ≡ limit Tasks 200 5 ∷ limit Entries 1000 7 ∷ []
many_entries = refl

many_members : over Original (program (task 26 900 (entry 27 900 (Some (dots 1 1001 3)) [] ∷ []) ∷ task_body 26 [] [] ∷ []) []) ≡ limit Members 1000 3 ∷ []
many_members = refl

many_components : over Original (program (DArray (w 32 900) (dots 0 10000 3) (plain 0) (at 900) ∷ []) []) ≡ limit Components 10000 3 ∷ []
many_components = refl

components_in_any : over Any (program (DArray (w 32 900) (dots 0 10000 3) (plain 0) (at 900) ∷ []) []) ≡ []
components_in_any = refl

abbrev delays : ℕ → PAlts
delays zero = no_alt
delays (suc n) = alt_delay n (delays n)

many_alternatives : over Original (with_stmts (wait (alt_accept 27 900 None (delays 32)) absent ∷ [])) ≡ limit Alternatives 32 0 ∷ []
many_alternatives = refl

many_formals : over Original (program (task 26 900 (entry 27 900 None (record { names = replicate 16 (w 29 900) ++ w 30 3 ∷ []; mode = Take; mark = w 0 900 } ∷ []) ∷ []) ∷ task_body 26 [] [] ∷ []) []) ≡ limit Formals 16 3 ∷ []
many_formals = refl

-- the body of T is 4194304 bytes long, and calls a member of A once by an index that is not static
abbrev copied : ℕ → PProgram
copied length = program (task_type 31 900 (entry 27 900 None [] ∷ []) ∷ row 32 900 (dots 1 2 900) 31 ∷ task 26 5 [] ∷ DTaskBody (w 26 900) (decls_of (object 29 900 0 ∷ [])) (body (stmts_of (call 32 900 (Some (name 29 900)) ∷ [])) no_handler) record { start = 100; end = 100 + length } ∷ DTaskBody (w 31 900) (decls_of []) (body no_stmt no_handler) record { start = 900; end = 902 } ∷ []) []

copies_enough : over Original (copied 4194100) ≡ []
copies_enough = refl

too_many_copies : over Original (copied 4194101) ≡ limit Copies 4194304 6 ∷ []
too_many_copies = refl

copies_in_any : over Any (copied 4194101) ≡ []
copies_in_any = refl

-- ---- what hides, and what stands in what

accept_with_formal : told (with_stmts (SAccept (accepting (record (head 27 900 None) { formals = record { names = w 29 900 ∷ []; mode = Take; mark = w 0 900 } ∷ [] }) (present (stmts_of (SIf (arm_then (arm (name 29 3) no_stmt) no_arm) absent (at 900) ∷ [])))) (at 900) ∷ assign 29 5 (lit 1 7) ∷ [])) ≡ (13, 5) ∷ []
accept_with_formal = refl

-- a loop parameter hides in its loop, and not in its own range
loop_with_parameter : told (with_stmts (SLoop None (Some (LFor (w 29 900) false (RGiven record { first = lit 1 900; last = name 29 3 }))) (stmts_of (SIf (arm_then (arm (name 29 5) no_stmt) no_arm) absent (at 900) ∷ [])) (at 900) ∷ [])) ≡ (13, 3) ∷ []
loop_with_parameter = refl

loop_in_accept : told (with_stmts (loop None (accept_do 27 900 (loop (Some (w 33 900)) (exit None ∷ exit (Some (w 33 3)) ∷ []) ∷ []) ∷ exit None ∷ []) ∷ [])) ≡ []
loop_in_accept = refl

-- what stands behind the accept of an alternative is not in it
behind_accept : told (with_stmts (loop None (wait (alt 900 (AAccept (accepting (head 27 900 None) absent) (stmts_of (exit None ∷ accept 27 900 None ∷ []))) no_alt) absent ∷ []) ∷ [])) ≡ []
behind_accept = refl

raise_in_accept_of_handler : told (with_stmts (SBlock (body no_stmt (handler_then (handler [] (stmts_of (accept_do 27 900 (SRaise None (at 1) ∷ []) ∷ [])) (at 900)) no_handler)) (at 900) ∷ SRaise None (at 3) ∷ [])) ≡ (22, 3) ∷ []
raise_in_accept_of_handler = refl

conditional_call_of_type : told (program (task_type 31 900 (entry 27 900 None [] ∷ []) ∷ task_body 31 [] [] ∷ []) (SConditional record { task = callee 31 3 None; entry = w 27 900; args = None } no_stmt no_stmt (at 1) ∷ [])) ≡ (18, 3) ∷ []
conditional_call_of_type = refl

-- the call of a conditional one has nesting 2 here, and what stands in its argument 3 and more
deep_argument : over Original (program (task 26 900 (entry 27 900 None [] ∷ []) ∷ task_body 26 [] [] ∷ []) (SConditional record { task = callee 26 3 None; entry = w 27 900; args = Some record { first = parens 38 ∷ []; second = None } } no_stmt no_stmt (at 1) ∷ [])) ≡ limit Nesting 40 7 ∷ []
deep_argument = refl

-- blocks in one another, so many, around some statements
abbrev blocks : ℕ → List PStmt → List PStmt
blocks zero ss = ss
blocks (suc n) ss = SBlock (body (stmts_of (blocks n ss)) no_handler) (at 900) ∷ []

-- behind 37 blocks a wait has nesting 38, its alternatives 39, what stands in them 40, and what stands in the accept of one 41
deep_alternative : over Original (with_stmts (blocks 37 (wait (alt 900 (AAccept (accepting (head 27 900 None) (present (stmts_of (SNull (at 3) ∷ [])))) (stmts_of (SNull (at 900) ∷ []))) (alt_delay 900 no_alt)) absent ∷ []))) ≡ limit Nesting 40 3 ∷ []
deep_alternative = refl

deeper_delay : over Original (with_stmts (blocks 38 (wait (alt 5 (AAccept (accepting (head 27 3 None) absent) no_stmt) (alt_delay 7 (alt_then (alternative (Some (lit 1 9)) (ADelay 0 no_stmt) (at 8)) no_alt))) absent ∷ []))) ≡ limit Nesting 40 3 ∷ limit Nesting 40 7 ∷ limit Nesting 40 9 ∷ []
deeper_delay = refl

-- ---- numbers

-- the name, the unit and the index of each task
abbrev tasks : PProgram → List (ℕ × ℕ × Option ℤ)
tasks p = map (λ t. (t.name.0, t.unit.0, t.member)) (all_numbers (types_in p) p).tasks

-- the name, the owner and the bounds of each entry
abbrev entries : PProgram → List (ℕ × ℕ × ℤ × ℤ)
entries p = map (λ e. (e.name.0, e.owner, e.first, e.last)) (all_numbers (types_in p) p).entries

-- the type W with the entry E and the family F(1 .. 3), the array A of two of its tasks, the task T with the entry E, and the objects X and Y of W behind it
abbrev three : PProgram
three = program (task_type 31 900 (entry 27 900 None [] ∷ entry 28 900 (Some (dots 1 3 900)) [] ∷ []) ∷ row 32 900 (dots 7 8 900) 31 ∷ task 26 900 (entry 27 900 None [] ∷ []) ∷ object 29 900 31 ∷ []) []

three_tasks : tasks three ≡ (25, 25, None) ∷ (32, 31, Some (pos 7)) ∷ (32, 31, Some (pos 8)) ∷ (26, 26, None) ∷ (29, 31, None) ∷ []
three_tasks = refl

three_entries : entries three ≡ (27, 1, pos 0, pos 0) ∷ (28, 1, pos 1, pos 3) ∷ (27, 2, pos 0, pos 0) ∷ (28, 2, pos 1, pos 3) ∷ (27, 3, pos 0, pos 0) ∷ (27, 4, pos 0, pos 0) ∷ (28, 4, pos 1, pos 3) ∷ []
three_entries = refl
