-- The collecting text of a program (this project's rule). It is the normal form, in which each entry tells its acceptor the caller, each unit has the variables by which it hears the recorder, and each statement that synchronizes tells the recorder; and the recorder, whose declaration stands behind those of the tasks and whose body stands last.
use Rattle.std.specs.Prelude.{ℕ, Bool, true, false, not, ◌||◌, if◌then◌else◌, List, [], ◌∷◌, ◌++◌, map, Some}
use Rattle.std.specs.List.{filter, list_any}
use Rattle.ada_tree.specs.declared.naming.Span.{Span}
use Rattle.ada_tree.specs.TypeTable.{TypeTable}
use Rattle.ada_tree.specs.PlainExpr.{RGiven}
use Rattle.ada_tree.specs.PlainDecl.{OPlain, IOne, PEntry, PTask, PDecl, DObject, DArray, DIntIo, DTask, DTaskBody, decls_of}
use Rattle.ada_tree.specs.PlainProgram.{PProgram}
use Rattle.syn_event.specs.Numbering.{Numbering}
use Rattle.syn_event.specs.DeclaredTasks.{decl_list}
use Rattle.normal_model.specs.Ranges.{word_at, integer_subtype, truth_subtype}
use Rattle.normal_model.specs.NormalTree.{main_unit}
use Rattle.replay_model.specs.ReplayTree.{is_added_object, is_task, is_body, last_task, normal_setting}
use Rattle.collect_model.specs.declared.AddedNames.{AddedNames}
use Rattle.collect_model.specs.Names.{collect_names}
use Rattle.collect_model.specs.Teller.{Teller, task_of, teller_at, teller_in}
use Rattle.collect_model.specs.Noting.{number}
use Rattle.collect_model.specs.Serving.{caller_formal}
use Rattle.collect_model.specs.CollectStmts.{main_body, task_body}
use Rattle.collect_model.specs.Lines.{header_text}
use Rattle.collect_model.specs.Recording.{truth, recorder_declared, recorder_body}

-- ---- units

-- `DED_G : BOOLEAN := FALSE;`
abbrev pub answer_declared : AddedNames → Span → PDecl
answer_declared n s = DObject (word_at s n.answer ∷ []) false (OPlain (truth_subtype s)) (Some (IOne (truth s false))) s

-- `DED_W : INTEGER := 0;`
abbrev pub part_declared : AddedNames → Span → PDecl
part_declared n s = DObject (word_at s n.part ∷ []) false (OPlain (integer_subtype s)) (Some (IOne (number s 0))) s

-- what each unit declares more
abbrev pub unit_declared : AddedNames → Span → List PDecl
unit_declared n s = answer_declared n s ∷ part_declared n s ∷ []

-- Declarations behind those of a unit itself, in front of the normal form's variables.
abbrev pub behind_own : List (List ℕ) → List PDecl → List PDecl → List PDecl
behind_own names ds [] = ds
behind_own names ds (x ∷ xs) = if is_added_object names x then ds ++ x ∷ xs else x ∷ behind_own names ds xs

-- ---- tasks and bodies

-- an entry with the formal of the caller in front of its others, at the place of its name
abbrev pub entry_telling : AddedNames → PEntry → PEntry
entry_telling n e = record { name = e.name; family = e.family; formals = caller_formal n e.name.span ∷ e.formals; span = e.span }

abbrev pub task_telling : AddedNames → PTask → PTask
task_telling n t = record { name = t.name; of_kind = t.of_kind; entries = map (entry_telling n) t.entries; priorities = t.priorities }

-- A declaration of the normal form, whose names these are, rewritten: the entries of a task, and the objects and statements of a body, which has the name of the task that runs it.
abbrev pub collect_decl : Teller → List (List ℕ) → PDecl → PDecl
collect_decl x names (DTask t s) = DTask (task_telling x.added t) s
collect_decl x names (DTaskBody w objects its s) =
    DTaskBody w (decls_of (behind_own names (unit_declared x.added w.span) (decl_list objects))) (task_body (teller_at x (task_of x.numbers w.name)) w.span its) s
collect_decl x names d = d

-- ---- main

-- the declaration is an instance of INTEGER_IO
abbrev pub is_int_io : PDecl → Bool
is_int_io (DIntIo w s) = true
is_int_io _ = false

-- `package DED_INT_IO is new INTEGER_IO(INTEGER); use DED_INT_IO;`, unless the program has an instance
abbrev pub int_io_declared : AddedNames → Span → Bool → List PDecl
int_io_declared n s true = []
int_io_declared n s false = DIntIo (word_at s n.int_io) s ∷ []

-- `type DED_FLAGS is array (0 .. n) of BOOLEAN;`, where n is the number of the last task
abbrev pub flags_type : AddedNames → Span → ℕ → PDecl
flags_type n s last = DArray (word_at s n.flags) (RGiven (record { first = number s 0; last = number s last })) (truth_subtype s) s

-- What main declares more, where the program has an instance of INTEGER_IO or not.
abbrev pub main_declared : AddedNames → Span → Bool → ℕ → List PDecl
main_declared n s instance last = int_io_declared n s instance ++ flags_type n s last ∷ unit_declared n s

-- ---- the program

-- the objects of main, with what it declares more
abbrev pub objects_told : Teller → PProgram → List PDecl → List PDecl
objects_told x q objects = behind_own q.names (main_declared x.added q.name.span (list_any is_int_io objects) (last_task x.numbers)) objects

-- the recorder's declaration and its body
abbrev pub recorder_told : Teller → PProgram → PDecl
recorder_told x q = recorder_declared x.added q.name.span

abbrev pub recorder_body_told : Teller → PProgram → PDecl
recorder_body_told x q = recorder_body x.added q.name.span (header_text q.names x.numbers)

-- the declarations of the collecting text, by the program's objects, tasks and bodies
abbrev pub units_told : Teller → PProgram → List PDecl → List PDecl → List PDecl → List PDecl
units_told x q objects tasks bodies =
    objects_told x q objects
    ++ map (collect_decl x q.names) tasks
    ++ (recorder_told x q ∷ [])
    ++ map (collect_decl x q.names) bodies
    ++ (recorder_body_told x q ∷ [])

-- The declarations of the collecting text of a normal form, by what main is told.
abbrev pub collect_decls : Teller → PProgram → List PDecl → List PDecl
collect_decls x q ds = units_told x q (filter (λ d. not (is_task d || is_body d)) ds) (filter is_task ds) (filter is_body ds)

-- The collecting text of a normal form, by what main is told. It has the context clauses, since the recorder writes. What stands for the program itself has the place of its name.
abbrev pub collect_of : Teller → PProgram → PProgram
collect_of x q = record {
  names = collect_names q;
  text_io = true;
  name = q.name;
  decls = decls_of (collect_decls x q (decl_list q.decls));
  body = main_body x q.body;
}

-- The collecting text of a program with these types and numbers.
abbrev pub collect_tree : PProgram → TypeTable → Numbering → PProgram
collect_tree p types numbers = collect_of (teller_in (main_unit (normal_setting p types numbers))) (normal_setting p types numbers).program
