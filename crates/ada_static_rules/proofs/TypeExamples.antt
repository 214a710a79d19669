-- Small programs by which the first twelve static rules can be tried: what each is refused for, as the number of the rule and the first byte of the place.
use Rattle.std.specs.Prelude.{◌≡◌, ℕ, pos, negsuc, ◌+◌, true, false, List, [], ◌∷◌, map, Option, Some, None, Ok, Err, refl}
use Rattle.ada_tree.specs.declared.naming.Span.{Span}
use Rattle.ada_tree.specs.declared.naming.Word.{Word}
use Rattle.ada_tree.specs.declared.expressions.UnaryOp.TheVariants as unary
use Rattle.ada_tree.specs.declared.expressions.BinaryOp.{BinaryOp}
use Rattle.ada_tree.specs.declared.expressions.BinaryOp.TheVariants.{AndThen, Equal, Plus, Divide, Mod, Rem}
use Rattle.ada_tree.specs.declared.statements.ParMode.{ParMode}
use Rattle.ada_tree.specs.declared.statements.ParMode.TheVariants.{Take, Give}
use Rattle.ada_tree.specs.PlainExpr.{PExpr, EInteger, EName, EAttributeOf, EUnary, EBinary, PSubind, PDrange, RGiven, RMarked}
use Rattle.ada_tree.specs.PlainStmt.{PTarget, PArgs, PFormal, PValue, PStmt, SAssign, SRaise, SCall, SAccept, SPut, SPutLine, SIf, SCase, no_stmt, absent, present, accepting, arm, no_arm, arm_then, case_arm, no_case_arm, case_arm_then, body, no_handler, stmts_of}
use Rattle.ada_tree.specs.PlainDecl.{OPlain, OArray, PInit, IOne, IList, PEntry, PDecl, DObject, DEnumeration, DArray, DSubtype, DTask, DTaskBody, decls_of}
use Rattle.ada_tree.specs.PlainProgram.{PProgram}
use Rattle.ada_tree.specs.declared.static_types.Kind.TheVariants.{Integer, Truth, Enumeration, Array}
use Rattle.ada_static_rules.specs.StaticValue.{value_of}
use Rattle.ada_static_rules.specs.Declaring.{predefined_types}
use Rattle.ada_static_rules.specs.Refusals.{refusals, types_in}

abbrev at : ℕ → Span
at s = record { start = s; end = s + 1 }

abbrev w : ℕ → ℕ → Word
w id s = record { name = record { 0 = id }; span = at s }

abbrev name : ℕ → ℕ → PExpr
name id s = EName record { 0 = id } (at s)

abbrev lit : ℕ → ℕ → PExpr
lit n s = EInteger n (at s)

abbrev bin : BinaryOp → PExpr → PExpr → ℕ → PExpr
bin op l r s = EBinary op l r (at s)

abbrev plain : ℕ → ℕ → PSubind
plain id s = record { mark = w id s; bounds = None }

abbrev ranged : ℕ → ℕ → PExpr → PExpr → PSubind
ranged id s a b = record { mark = w id s; bounds = Some record { first = a; last = b } }

abbrev dots : PExpr → PExpr → PDrange
dots a b = RGiven record { first = a; last = b }

abbrev entry : ℕ → Option PDrange → List PFormal → PEntry
entry id r fs = record { name = w id 900; family = r; formals = fs; span = at 900 }

abbrev formal : ℕ → ParMode → ℕ → ℕ → PFormal
formal id mode mark s = record { names = w id s ∷ []; mode = mode; mark = w mark (s + 1) }

abbrev task : ℕ → List PEntry → PDecl
task id es = DTask record { name = w id 900; of_kind = false; entries = es; priorities = [] } (at 900)

abbrev task_type : ℕ → List PEntry → PDecl
task_type id es = DTask record { name = w id 900; of_kind = true; entries = es; priorities = [] } (at 900)

abbrev task_body : ℕ → List PDecl → List PStmt → PDecl
task_body id os ss = DTaskBody (w id 900) (decls_of os) (body (stmts_of ss) no_handler) (at 900)

abbrev object : ℕ → ℕ → PSubind → Option PInit → PDecl
object id s x i = DObject (w id s ∷ []) false (OPlain x) i (at s)

abbrev constant : ℕ → ℕ → PSubind → PExpr → PDecl
constant id s x e = DObject (w id s ∷ []) true (OPlain x) (Some (IOne e)) (at s)

abbrev program : List PDecl → List PStmt → PProgram
program ds ss = record { names = []; text_io = false; name = w 25 900; decls = decls_of ds; body = body (stmts_of ss) no_handler }

-- the rule and the first byte of each refusal
abbrev told : PProgram → List (ℕ × ℕ)
told p = map (λ r. (r.rule, r.span.start)) (refusals p)

-- `task T is entry E; entry F(1 .. 3); entry G(X : in INTEGER; Z : out INTEGER); end T;` and its body with `X : INTEGER;`
-- the names are Q 25, T 26, E 27, F 28, X 29, Y 30, G 31, Z 32
abbrev with_stmts : List PStmt → PProgram
with_stmts ss = program
    (task 26 (entry 27 None [] ∷ entry 28 (Some (dots (lit 1 900) (lit 3 900))) [] ∷ entry 31 None (formal 29 Take 0 900 ∷ formal 32 Give 0 900 ∷ []) ∷ [])
    ∷ task_body 26 (object 29 900 (plain 0 900) None ∷ []) ss
    ∷ [])
    []

abbrev target : ℕ → ℕ → PTarget
target id s = record { name = w id s; index = None }

abbrev assign : ℕ → ℕ → PExpr → PStmt
assign id s e = SAssign (target id s) e (at s)

abbrev accept : ℕ → ℕ → Option PExpr → PStmt
accept id s i = SAccept (accepting record { entry = w id s; index = i; formals = []; span = at s } absent) (at s)

abbrev call : ℕ → ℕ → Option PArgs → PStmt
call id s args = SCall record { task = record { name = w 26 (s + 0); index = None }; entry = w id (s + 2); args = args } (at s)

abbrev actuals : List PExpr → Option PArgs
actuals es = Some record { first = es; second = None }

-- ---- one refusal each

no_refusal : told (with_stmts (assign 29 1 (lit 5 2) ∷ accept 27 10 None ∷ accept 28 20 (Some (lit 3 21)) ∷ call 31 30 (actuals (lit 1 40 ∷ name 29 50 ∷ [])) ∷ [])) ≡ []
no_refusal = refl

unknown_name : told (with_stmts (assign 29 1 (name 30 6) ∷ [])) ≡ (1, 6) ∷ []
unknown_name = refl

unknown_entry : told (with_stmts (call 32 1 None ∷ [])) ≡ (1, 3) ∷ []
unknown_entry = refl

mismatch_of_value : told (with_stmts (assign 29 1 (name 5 6) ∷ [])) ≡ (3, 6) ∷ []
mismatch_of_value = refl

mismatch_of_operand : told (with_stmts (assign 29 1 (bin Plus (lit 1 6) (name 5 10) 6) ∷ [])) ≡ (3, 10) ∷ []
mismatch_of_operand = refl

mismatch_of_right : told (with_stmts (SIf (arm_then (arm (bin Equal (lit 1 6) (name 5 10) 6) no_stmt) no_arm) absent (at 1) ∷ [])) ≡ (3, 10) ∷ []
mismatch_of_right = refl

range_of_index : told (with_stmts (accept 28 8 (Some (lit 4 10)) ∷ [])) ≡ (5, 10) ∷ []
range_of_index = refl

range_of_division : told (with_stmts (assign 29 1 (bin Plus (name 29 6) (bin Divide (lit 1 10) (lit 0 14) 10) 6) ∷ [])) ≡ (5, 10) ∷ []
range_of_division = refl

extra_index : told (with_stmts (accept 27 8 (Some (lit 1 10)) ∷ [])) ≡ (8, 8) ∷ []
extra_index = refl

few_actuals : told (with_stmts (call 31 1 (actuals (lit 1 8 ∷ [])) ∷ [])) ≡ (8, 3) ∷ []
few_actuals = refl

no_variable : told (with_stmts (call 31 1 (actuals (lit 1 8 ∷ lit 2 9 ∷ [])) ∷ [])) ≡ (6, 9) ∷ []
no_variable = refl

no_exception : told (with_stmts (SRaise (Some (w 29 7)) (at 1) ∷ [])) ≡ (12, 7) ∷ []
no_exception = refl

no_others : told (with_stmts (SCase (name 29 6) (case_arm_then (case_arm (record { first = lit 1 16; last = None } ∷ []) no_stmt) no_case_arm) absent (at 1) ∷ [])) ≡ (9, 1) ∷ []
no_others = refl

left_out : told (with_stmts (SCase (bin Equal (name 29 6) (lit 1 7) 6) (case_arm_then (case_arm (record { first = name 5 16; last = None } ∷ []) no_stmt) no_case_arm) absent (at 1) ∷ [])) ≡ (9, 1) ∷ []
left_out = refl

both_chosen : told (with_stmts (SCase (bin Equal (name 29 6) (lit 1 7) 6) (case_arm_then (case_arm (record { first = name 4 16; last = Some (name 5 17) } ∷ []) no_stmt) no_case_arm) absent (at 1) ∷ [])) ≡ []
both_chosen = refl

overlapping_choices : told (with_stmts (SCase (bin Equal (name 29 6) (lit 1 7) 6) (case_arm_then (case_arm (record { first = name 5 16; last = None } ∷ record { first = name 5 20; last = None } ∷ []) no_stmt) no_case_arm) absent (at 1) ∷ [])) ≡ (9, 20) ∷ []
overlapping_choices = refl

plain_line : told (with_stmts (SPutLine (PValue (name 29 10) ∷ []) (at 1) ∷ [])) ≡ (11, 10) ∷ []
plain_line = refl

image_alone : told (with_stmts (assign 29 1 (EAttributeOf (w 0 6) (w 24 8) (lit 1 10) (at 6)) ∷ SPut (PValue (EAttributeOf (w 0 6) (w 24 8) (lit 1 10) (at 6)) ∷ []) (at 20) ∷ [])) ≡ (11, 6) ∷ []
image_alone = refl

-- ---- declarations

second_declaration : told (program (object 29 1 (plain 0 2) None ∷ object 29 10 (plain 0 11) None ∷ []) []) ≡ (2, 10) ∷ []
second_declaration = refl

predefined_name : told (program (object 14 1 (plain 0 2) None ∷ []) []) ≡ (2, 1) ∷ []
predefined_name = refl

-- an object of a body hides a variable of main, but no constant; a later task of main is refused where the body's object stands before
hidden_names : told (program (object 29 1 (plain 0 2) None ∷ constant 30 3 (plain 0 4) (lit 1 5) ∷ task 26 [] ∷ task_body 26 (object 29 10 (plain 0 11) None ∷ object 30 12 (plain 0 13) None ∷ object 33 14 (plain 0 15) None ∷ []) [] ∷ DTask record { name = w 33 20; of_kind = false; entries = []; priorities = [] } (at 20) ∷ []) []) ≡ (2, 12) ∷ (2, 20) ∷ []
hidden_names = refl

second_body : told (program (task 26 [] ∷ task_body 26 [] [] ∷ DTaskBody (w 26 7) (decls_of []) (body no_stmt no_handler) (at 5) ∷ []) []) ≡ (2, 7) ∷ []
second_body = refl

not_static : told (program (object 29 1 (plain 0 2) None ∷ object 30 3 (ranged 0 4 (lit 1 5) (name 29 6)) None ∷ []) []) ≡ (4, 6) ∷ []
not_static = refl

empty_range : told (program (object 30 3 (ranged 0 4 (lit 2 5) (lit 1 6)) None ∷ []) []) ≡ (5, 5) ∷ []
empty_range = refl

outside : told (program (object 30 3 (ranged 0 4 (lit 1 5) (lit 3 6)) (Some (IOne (lit 4 7))) ∷ []) []) ≡ (5, 7) ∷ []
outside = refl

-- `A : array (1 .. 2) of INTEGER := (1, 2, 3);` and `A := 1;`
array_list : told (program (DObject (w 30 1 ∷ []) false (OArray (dots (lit 1 2) (lit 2 3)) (plain 0 4)) (Some (IList (lit 1 6 ∷ lit 2 7 ∷ lit 3 8 ∷ []) (at 5))) (at 1) ∷ []) (assign 30 10 (lit 1 11) ∷ [])) ≡ (10, 5) ∷ (10, 10) ∷ []
array_list = refl

-- a task type in a body, and as the mark of a subtype
task_marks : told (program (task_type 26 [] ∷ object 27 1 (plain 26 2) None ∷ DSubtype (w 28 3) (plain 26 4) (at 3) ∷ []) []) ≡ (3, 4) ∷ []
task_marks = refl

-- an out formal that is read
read_formal : told (program (task 26 (entry 27 None (formal 29 Give 0 900 ∷ []) ∷ []) ∷ task_body 26 [] (SAccept (accepting record { entry = w 27 1; index = None; formals = formal 29 Give 0 900 ∷ []; span = at 1 } (present (stmts_of (assign 29 2 (bin Plus (name 29 3) (lit 1 4) 3) ∷ [])))) (at 1) ∷ []) ∷ []) []) ≡ (7, 3) ∷ []
read_formal = refl

-- ---- the table: `subtype S is INTEGER range 1 .. 3;` adds two marks, an array two things, a constant one
table : types_in (program (DSubtype (w 26 1) (ranged 0 2 (lit 1 3) (lit 3 4)) (at 1) ∷ DEnumeration (w 27 5) (w 28 6 ∷ w 29 7 ∷ []) (at 5) ∷ DArray (w 30 8) (RMarked (plain 27 9)) (ranged 26 10 (lit 1 11) (lit 2 12)) (at 8) ∷ constant 31 13 (plain 26 14) (lit 2 15) ∷ []) [])
    ≡ record {
      kinds = Integer ∷ Truth ∷ Enumeration (record { 0 = 28 } ∷ record { 0 = 29 } ∷ []) ∷ Array 2 (pos 0) (pos 1) 7 ∷ [];
      marks =
          record { name = Some record { 0 = 0 }; kind = 0; first = negsuc 2147483647; last = pos 2147483647 }
          ∷ record { name = Some record { 0 = 1 }; kind = 0; first = pos 0; last = pos 2147483647 }
          ∷ record { name = Some record { 0 = 2 }; kind = 0; first = pos 1; last = pos 2147483647 }
          ∷ record { name = Some record { 0 = 3 }; kind = 1; first = pos 0; last = pos 1 }
          ∷ record { name = None; kind = 0; first = pos 1; last = pos 3 }
          ∷ record { name = Some record { 0 = 26 }; kind = 0; first = pos 1; last = pos 3 }
          ∷ record { name = Some record { 0 = 27 }; kind = 2; first = pos 0; last = pos 1 }
          ∷ record { name = None; kind = 0; first = pos 1; last = pos 2 }
          ∷ record { name = Some record { 0 = 30 }; kind = 3; first = pos 0; last = pos 1 }
          ∷ [];
      constants = record { name = record { 0 = 31 }; mark = 5; value = pos 2 } ∷ [];
    }
table = refl

-- ---- values

remainders : map (λ e. value_of predefined_types e) (bin Mod (EUnary unary.Minus (lit 7 1) (at 1)) (lit 3 2) 1 ∷ bin Rem (EUnary unary.Minus (lit 7 1) (at 1)) (lit 3 2) 1 ∷ bin Mod (lit 7 1) (EUnary unary.Minus (lit 3 2) (at 2)) 1 ∷ bin Divide (EUnary unary.Minus (lit 7 1) (at 1)) (lit 2 2) 1 ∷ bin Plus (lit 2147483647 1) (lit 1 2) 1 ∷ bin AndThen (name 4 1) (bin Equal (bin Divide (lit 1 3) (lit 0 4) 3) (lit 1 5) 3) 1 ∷ []) ≡ Ok (pos 2) ∷ Ok (negsuc 0) ∷ Ok (negsuc 1) ∷ Ok (negsuc 2) ∷ Err (at 1) ∷ Ok (pos 0) ∷ []
remainders = refl
