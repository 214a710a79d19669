-- The normal form of a program (this project's rule). First stand all declarations but tasks, task types, objects of task types and bodies; then main's new variables; then one task for each task number, in order; then for each body, in written order, one copy for each task that runs it, ascending, with the unit's new variables behind its objects.
use Rattle.std.specs.Prelude.{ℕ, ◌==◌, max, Bool, true, false, if◌then◌else◌, List, [], ◌∷◌, ◌++◌, drop, length, flat_map, map, position, is_some, unwrap_or}
use Rattle.std.specs.List.{filter}
use Rattle.ada_tree.specs.declared.naming.NameId.{NameId}
use Rattle.ada_tree.specs.declared.naming.Word.{Word}
use Rattle.ada_tree.specs.TypeTable.{TypeTable}
use Rattle.ada_tree.specs.PlainStmt.{PBody}
use Rattle.ada_tree.specs.PlainDecl.{PShape, OPlain, OArray, PTask, PDecl, DObject, DTask, DTaskBody, PDecls, no_decl, decl_then, decls_of}
use Rattle.ada_tree.specs.PlainProgram.{PProgram}
use Rattle.syn_event.specs.declared.numbering.TaskInfo.{TaskInfo}
use Rattle.syn_event.specs.Numbering.{Numbering}
use Rattle.syn_event.specs.DeclaredTasks.{decl_list}
use Rattle.syn_event.specs.NamedTasks.{type_named, with_type}
use Rattle.task_model.specs.Setting.{Setting}
use Rattle.normal_model.specs.Names.{normal_names, task_name}
use Rattle.normal_model.specs.Ranges.{word_at}
use Rattle.normal_model.specs.RewrittenUnit.{RewrittenUnit}
use Rattle.normal_model.specs.NormalStmts.{normal_body, unit_variables}

-- declarations in front of others
abbrev pub decls_front : PDecls → PDecls → PDecls
decls_front no_decl rest = rest
decls_front (decl_then d more) rest = decl_then d (decls_front more rest)

-- ---- the first declarations

-- the mark of an object's shape, or of its components
abbrev pub mark_of : PShape → NameId
mark_of (OPlain x) = x.mark.name
mark_of (OArray range x) = x.mark.name

-- a declaration in front, unless it is left out
abbrev pub unless_left : Bool → PDecl → PDecls → PDecls
unless_left true d rest = rest
unless_left false d rest = decl_then d rest

-- The declarations that are no task, task type, object of a task type or body, behind some task types.
abbrev pub first_decls : List PTask → PDecls → PDecls
first_decls kinds no_decl = no_decl
first_decls kinds (decl_then (DTask t s) rest) = first_decls (with_type kinds t.of_kind t) rest
first_decls kinds (decl_then (DTaskBody w objects its s) rest) = first_decls kinds rest
first_decls kinds (decl_then (DObject names constant shape init s) rest) =
    unless_left (is_some (type_named kinds (mark_of shape))) (DObject names constant shape init s) (first_decls kinds rest)
first_decls kinds (decl_then d rest) = decl_then d (first_decls kinds rest)

-- ---- tasks

-- the tasks of a program beside main
abbrev pub tasks_beside : Setting → List TaskInfo
tasks_beside g = drop 1 g.numbers.tasks

-- a task with the entries and pragmas of a task or type, under another name
abbrev pub task_under : NameId → PTask → PTask
task_under name t = record { name = word_at t.name.span name; of_kind = false; entries = t.entries; priorities = t.priorities }

-- the declaration of a task under a name, if it is that of this task or type
abbrev pub declared_under : NameId → NameId → PDecl → List PDecl
declared_under unit name (DTask t s) = if t.name.name.0 == unit.0 then DTask (task_under name t) s ∷ [] else []
declared_under unit name _ = []

-- The declaration of a task of the normal form: that of its task or task type, under its own name.
abbrev pub task_declared : Setting → TaskInfo → List PDecl
task_declared g info = flat_map (declared_under info.unit (task_name g info)) (decl_list g.program.decls)

-- ---- bodies

-- the number of the first task that runs the body of a name; 0 where none does
abbrev pub first_running : Setting → NameId → ℕ
first_running g name = unwrap_or (position (λ info. info.unit.0 == name.0) g.numbers.tasks) 0

-- the unit of a task's or task type's body
abbrev pub unit_for : Setting → NameId → RewrittenUnit
unit_for g name = record { setting = g; task = first_running g name }

-- the tasks that run the body of a name, ascending
abbrev pub running : Setting → NameId → List TaskInfo
running g name = filter (λ info. info.unit.0 == name.0) (tasks_beside g)

-- a copy of a body for one of the tasks that run it: the objects, the variables, and the statements with their handlers
abbrev pub body_copy : Setting → Word → PDecls → List PDecl → PBody → (PDecls → PBody → Word → PDecl) → TaskInfo → PDecl
body_copy g w objects vars its made info = made (decls_front objects (decls_of vars)) its (word_at w.span (task_name g info))

-- The copies of a declaration that is a body; of any other there are none.
abbrev pub bodies_of : Setting → PDecl → List PDecl
bodies_of g (DTaskBody w objects its s) =
    map
    (body_copy g w objects (unit_variables (unit_for g w.name) its) (normal_body (unit_for g w.name) its) (λ ds b name. DTaskBody name ds b s))
    (running g w.name)
bodies_of g _ = []

-- ---- the program

-- main as a unit
abbrev pub main_unit : Setting → RewrittenUnit
main_unit g = record { setting = g; task = 0 }

-- the variables that main gets
abbrev pub main_variables : Setting → List PDecl
main_variables g = unit_variables (main_unit g) g.program.body

-- how many variables a body has, where a task runs it
abbrev pub variables_if : List TaskInfo → List PDecl → ℕ
variables_if [] vars = 0
variables_if (info ∷ infos) vars = length vars

abbrev pub variables_of_body : Setting → PDecl → ℕ
variables_of_body g (DTaskBody w objects its s) = variables_if (running g w.name) (unit_variables (unit_for g w.name) its)
variables_of_body g _ = 0

-- the greatest of these numbers
abbrev pub greatest : List ℕ → ℕ
greatest [] = 0
greatest (n ∷ ns) = max n (greatest ns)

-- the greatest number of variables that a unit of the normal form has
abbrev pub variables_needed : Setting → ℕ
variables_needed g = greatest (length (main_variables g) ∷ map (variables_of_body g) (decl_list g.program.decls))

-- the declarations of the normal form, in their order
abbrev pub normal_decls : Setting → PDecls
normal_decls g =
    decls_front (first_decls [] g.program.decls)
    (decls_of (main_variables g ++ flat_map (task_declared g) (tasks_beside g) ++ flat_map (bodies_of g) (decl_list g.program.decls)))

-- The normal form of a program with these types and numbers.
abbrev pub normal_tree : PProgram → TypeTable → Numbering → PProgram
normal_tree p types numbers = normal_of record { program = p; types = types; numbers = numbers }
  where
    normal_of : Setting → PProgram
    normal_of g = record {
      names = normal_names g (variables_needed g);
      text_io = g.program.text_io;
      name = g.program.name;
      decls = normal_decls g;
      body = normal_body (main_unit g) g.program.body;
    }
