-- Small declarations by which the laws can be tried: what they say of a program with a task type, a task, an array and a body, and why each premise is there.
use Rattle.std.specs.Prelude.{◌≡◌, ℕ, pos, Bool, true, false, nat_lt, [], ◌∷◌, Some, None, refl}
use Rattle.ada_tree.specs.declared.naming.Span.{Span}
use Rattle.ada_tree.specs.declared.naming.Word.{Word}
use Rattle.ada_tree.specs.PlainExpr.{EInteger, EName, PSubind, PDrange, RGiven}
use Rattle.ada_tree.specs.PlainStmt.{no_stmt, no_handler, body}
use Rattle.ada_tree.specs.PlainDecl.{OPlain, OArray, IOne, PDecl, DObject, DEnumeration, DArray, DTask, DTaskBody, PDecls, no_decl, decl_then, decls_of}
use Rattle.ada_static_rules.specs.StaticValue.{constant_named}
use Rattle.ada_static_rules.specs.Declaring.{first_scope, after_decls}
use Rattle.task_laws.specs.legal.rewritten_types.Agreement.{literal_named, Rooted, Agrees}
use Rattle.task_laws.specs.legal.rewritten_types.Rewriting.{AreAdded, staying, DeclareOnce}
use Rattle.task_laws.specs.legal.rewritten_types.Laws.{behind}
use Rattle.task_laws.proofs.legal.rewritten_types.Rooting.{rewritten_is_rooted, rooted_agrees}
use Rattle.task_laws.proofs.legal.rewritten_types.Fresh.{first-here}
use Rattle.task_laws.proofs.legal.rewritten_types.Staying.{front-staying}

abbrev at : Span
at = record { start = 0; end = 0 }

abbrev w : ℕ → Word
w id = record { name = record { 0 = id }; span = at }

abbrev marked : ℕ → PSubind
marked id = record { mark = w id; bounds = None }

-- `1 .. n`
abbrev up_to : ℕ → PDrange
up_to n = RGiven record { first = EInteger 1 at; last = EInteger n at }

abbrev variable : ℕ → ℕ → PDecl
variable id mark = DObject (w id ∷ []) false (OPlain (marked mark)) None at

abbrev task : ℕ → Bool → PDecl
task id kind = DTask record { name = w id; of_kind = kind; entries = []; priorities = [] } at

-- a body that declares an array of its own
abbrev body_with_array : ℕ → PDecl
body_with_array id = DTaskBody (w id) (decl_then (DObject (w 40 ∷ []) false (OArray (up_to 3) (marked 0)) None at) no_decl) (body no_stmt no_handler) at

abbrev colour : PDecl
colour = DEnumeration (w 30) (w 31 ∷ w 32 ∷ []) at

-- `task type WORKER; W : WORKER; type COLOUR is (RED, BLUE); FIRST_COLOUR : constant COLOUR := BLUE; type ROW is array (1 .. 4) of COLOUR; task T;`
-- and the two bodies
abbrev original : PDecls
original = decls_of (
    task 26 true ∷ variable 27 26 ∷ colour
    ∷ DObject (w 33 ∷ []) true (OPlain (marked 30)) (Some (IOne (EName record { 0 = 32 } at))) at
    ∷ DArray (w 34) (up_to 4) (marked 30) at ∷ task 28 false ∷ body_with_array 26 ∷ body_with_array 28 ∷ [])

-- what stays, and what a rewriter puts behind it: a variable of ROW, two tasks and their bodies
abbrev first : PDecls
first = staying (first_scope (w 25)) original

abbrev added : PDecls
added = decls_of (variable 50 34 ∷ task 27 false ∷ task 28 false ∷ body_with_array 27 ∷ body_with_array 28 ∷ [])

-- the names of the original
abbrev old : ℕ → Bool
old n = nat_lt n 50

-- ---- the premises are met, and so the laws hold

once : DeclareOnce (first_scope (w 25)) original
once = (((refl, refl), tt), (((refl, refl), tt), (((refl, refl), ((refl, refl), ((refl, refl), tt))), (((refl, refl), tt), (((refl, refl), tt), (((refl, refl), tt), (tt, (tt, tt))))))))

new : AreAdded old added
new = ((refl, tt), (tt, (tt, (tt, (tt, tt)))))

rooted : Rooted old (behind (w 25) first).types (behind (w 25) original).types (after_decls (behind (w 25) first) added).types
rooted = rewritten_is_rooted old (w 25) original first added (front-staying original (first_scope (w 25)) (first-here (w 25)) once (tt, tt)) new

agrees : Agrees old (behind (w 25) original).types (after_decls (behind (w 25) first) added).types
agrees = rooted_agrees old _ _ _ rooted

-- the literal BLUE is of the kind at place 2 in both
blue : literal_named (behind (w 25) original).types record { 0 = 32 } ≡ Some record { kind = 2; position = 1 }
blue = refl

blue_there : literal_named (after_decls (behind (w 25) first) added).types record { 0 = 32 } ≡ Some record { kind = 2; position = 1 }
blue_there = refl

-- ---- why the premises are there

-- a body before a type: the array in the body moves the kind of the type
abbrev body_first : PDecls
body_first = decls_of (task 28 false ∷ body_with_array 28 ∷ colour ∷ [])

moved : literal_named (behind (w 25) body_first).types record { 0 = 32 } ≡ Some record { kind = 3; position = 1 }
moved = refl

not_moved : literal_named (behind (w 25) (staying (first_scope (w 25)) body_first)).types record { 0 = 32 } ≡ Some record { kind = 2; position = 1 }
not_moved = refl

-- a constant of an old name among those added: the name means something that it did not mean before
abbrev taken_name : PDecls
taken_name = decls_of (DObject (w 35 ∷ []) true (OPlain (marked 0)) (Some (IOne (EInteger 7 at))) at ∷ [])

none_there : constant_named (behind (w 25) original).types record { 0 = 35 } ≡ None
none_there = refl

one_there : constant_named (after_decls (behind (w 25) first) taken_name).types record { 0 = 35 } ≡ Some record { name = record { 0 = 35 }; mark = 0; value = pos 7 }
one_there = refl
