-- The program LOAD of n producers, as a tree (this project's rule). The task B takes numbers and writes their sum after each; the producers P1, P2 and so on to Pn each give it their own number three times. With two producers it is
--
-- procedure LOAD is
--    task B is
--       entry PUT(X : in INTEGER);
--    end B;
--    task P1;
--    task P2;
--    task body B is
--       S : INTEGER := 0;
--    begin
--       loop
--          select
--             accept PUT(X : in INTEGER) do
--                S := S + X;
--             end PUT;
--             PUT_LINE(INTEGER'IMAGE(S));
--          or
--             terminate;
--          end select;
--       end loop;
--    end B;
--    task body P1 is
--    begin
--       for J in 1 .. 3 loop
--          B.PUT(1);
--       end loop;
--    end P1;
--    task body P2 is
--    begin
--       for J in 1 .. 3 loop
--          B.PUT(2);
--       end loop;
--    end P2;
-- begin
--    null;
-- end LOAD;
use Rattle.std.specs.Prelude.{ℕ, ◌+◌, false, List, [], ◌∷◌, ◌++◌, map, Some, None, codes, decimal}
use Rattle.std.specs.List.{range_with_len}
use Rattle.ada_tree.specs.declared.naming.Span.{Span}
use Rattle.ada_tree.specs.declared.naming.Word.{Word}
use Rattle.ada_tree.specs.declared.statements.ParMode.TheVariants.{Take}
use Rattle.ada_tree.specs.declared.expressions.BinaryOp.TheVariants.{Plus}
use Rattle.ada_tree.specs.NameList.{predefined}
use Rattle.ada_tree.specs.PlainExpr.{PExpr, EInteger, EName, EAttributeOf, EBinary, RGiven}
use Rattle.ada_tree.specs.PlainStmt.{PFormal, PPart, PValue, LFor, PHead, PStmt, SNull, SAssign, SCall, SWait, SPutLine, SLoop, PStmts, no_stmt, stmt_then, absent, present, PAlt, accepting, alternative, AAccept, ATerminate, alts_of, PBody, body, no_handler}
use Rattle.ada_tree.specs.PlainDecl.{OPlain, IOne, PEntry, PTask, PDecl, DObject, DTask, DTaskBody, decls_of, no_decl}
use Rattle.ada_tree.specs.PlainProgram.{PProgram}

-- ---- names

-- the name of the producer of a number
abbrev pub producer_text : ℕ → List ℕ
producer_text k = codes "P" ++ decimal k

-- there are at most so many producers
abbrev pub most_producers : ℕ
most_producers = 100

-- the numbers of the producers
abbrev pub producers : ℕ → List ℕ
producers n = range_with_len 1 n

-- The names: the predefined ones, those that every such program has, and those of the producers.
abbrev pub load_names : ℕ → List (List ℕ)
load_names n = predefined ++ (codes "LOAD" ∷ codes "B" ∷ codes "X" ∷ codes "S" ∷ codes "J" ∷ map producer_text (producers n))

-- the predefined names INTEGER, PUT and IMAGE, by their ids
abbrev pub integer_id : ℕ
integer_id = 0

abbrev pub put_id : ℕ
put_id = 14

abbrev pub image_id : ℕ
image_id = 24

-- the others, behind the 25 predefined ones
abbrev pub load_id : ℕ
load_id = 25

abbrev pub buffer_id : ℕ
buffer_id = 26

abbrev pub given_id : ℕ
given_id = 27

abbrev pub sum_id : ℕ
sum_id = 28

abbrev pub turn_id : ℕ
turn_id = 29

abbrev pub producer_id : ℕ → ℕ
producer_id k = 29 + k

-- ---- words

-- no part has a place, since no text was read
abbrev pub nowhere : Span
nowhere = record { start = 0; end = 0 }

abbrev pub word : ℕ → Word
word id = record { name = record { 0 = id }; span = nowhere }

-- ---- parts

-- a variable, formal or loop parameter in an expression
abbrev pub name_of : ℕ → PExpr
name_of id = EName record { 0 = id } nowhere

abbrev pub number : ℕ → PExpr
number k = EInteger k nowhere

-- `X : in INTEGER`
abbrev pub formal : PFormal
formal = record { names = word given_id ∷ []; mode = Take; mark = word integer_id }

-- a row of one statement
abbrev pub one : PStmt → PStmts
one x = stmt_then x no_stmt

-- ---- the tasks

-- `entry PUT(X : in INTEGER);`
abbrev pub put_entry : PEntry
put_entry = record { name = word put_id; family = None; formals = formal ∷ []; span = nowhere }

-- a task of that name with these entries
abbrev pub task_with : ℕ → List PEntry → PTask
task_with id entries = record { name = word id; of_kind = false; entries = entries; priorities = [] }

-- `task B is .. end B;`
abbrev pub buffer_task : PDecl
buffer_task = DTask (task_with buffer_id (put_entry ∷ [])) nowhere

-- `task Pk;`
abbrev pub producer_task : ℕ → PDecl
producer_task k = DTask (task_with (producer_id k) []) nowhere

-- ---- the body of B

-- `S : INTEGER := 0;`
abbrev pub sum_object : PDecl
sum_object = DObject (word sum_id ∷ []) false (OPlain (record { mark = word integer_id; bounds = None })) (Some (IOne (number 0))) nowhere

-- `S := S + X;`
abbrev pub add : PStmt
add = SAssign (record { name = word sum_id; index = None }) (EBinary Plus (name_of sum_id) (name_of given_id) nowhere) nowhere

-- `accept PUT(X : in INTEGER)`
abbrev pub put_head : PHead
put_head = record { entry = word put_id; index = None; formals = formal ∷ []; span = nowhere }

-- `INTEGER'IMAGE(S)`
abbrev pub sum_image : PPart
sum_image = PValue (EAttributeOf (word integer_id) (word image_id) (name_of sum_id) nowhere)

-- `PUT_LINE(INTEGER'IMAGE(S));`
abbrev pub write_sum : PStmt
write_sum = SPutLine (sum_image ∷ []) nowhere

-- `accept PUT(X : in INTEGER) do S := S + X; end PUT; PUT_LINE(INTEGER'IMAGE(S));`
abbrev pub serving : PAlt
serving = alternative None (AAccept (accepting put_head (present (one add))) (one write_sum)) nowhere

-- `terminate;`
abbrev pub ending : PAlt
ending = alternative None ATerminate nowhere

-- `loop select .. or .. end select; end loop;`
abbrev pub serve_all : PStmt
serve_all = SLoop None None (one (SWait (alts_of (serving ∷ ending ∷ [])) absent nowhere)) nowhere

-- `task body B is S : INTEGER := 0; begin loop select .. end select; end loop; end B;`
abbrev pub buffer_body : PDecl
buffer_body = DTaskBody (word buffer_id) (decls_of (sum_object ∷ [])) (body (one serve_all) no_handler) nowhere

-- ---- the bodies of the producers

-- `B.PUT(k);`
abbrev pub give : ℕ → PStmt
give k = SCall (record { task = record { name = word buffer_id; index = None }; entry = word put_id; args = Some (record { first = number k ∷ []; second = None }) }) nowhere

-- `for J in 1 .. 3 loop B.PUT(k); end loop;`
abbrev pub give_thrice : ℕ → PStmt
give_thrice k = SLoop None (Some (LFor (word turn_id) false (RGiven (record { first = number 1; last = number 3 })))) (one (give k)) nowhere

-- `task body Pk is begin for .. end loop; end Pk;`
abbrev pub producer_body : ℕ → PDecl
producer_body k = DTaskBody (word (producer_id k)) no_decl (body (one (give_thrice k)) no_handler) nowhere

-- ---- the program

-- The declarations: all tasks, and then their bodies in the same order.
abbrev pub load_decls : ℕ → List PDecl
load_decls n = (buffer_task ∷ map producer_task (producers n)) ++ (buffer_body ∷ map producer_body (producers n))

-- `begin null; end LOAD;`
abbrev pub load_body : PBody
load_body = body (one (SNull nowhere)) no_handler

-- The program with n producers.
abbrev pub load_tree : ℕ → PProgram
load_tree n = record { names = load_names n; text_io = false; name = word load_id; decls = decls_of (load_decls n); body = load_body }
