-- The replay text of a program and a sequence (this project's rule). It is the normal form, in which each task has further entries, each unit the variables of its permit, and each statement that synchronizes asks first; and the controller and the idle task, whose declarations stand behind those of the tasks and whose bodies stand last.
use Rattle.std.specs.Prelude.{ℕ, pred, nat_lt, Bool, true, false, not, ◌||◌, if◌then◌else◌, List, [], ◌∷◌, ◌++◌, length, map, Some, None, Result, Ok, Err}
use Rattle.std.specs.List.{filter}
use Rattle.event_machine.specs.declared.Event.{Event}
use Rattle.ada_tree.specs.declared.naming.Span.{Span}
use Rattle.ada_tree.specs.TypeTable.{TypeTable}
use Rattle.ada_tree.specs.PlainExpr.{EInteger}
use Rattle.ada_tree.specs.PlainDecl.{OPlain, IOne, PEntry, PTask, PDecl, DObject, DTask, DTaskBody, decls_of}
use Rattle.ada_tree.specs.PlainProgram.{PProgram}
use Rattle.syn_event.specs.Numbering.{Numbering, owner_of}
use Rattle.syn_event.specs.AddedNames.{is_added_name}
use Rattle.syn_event.specs.DeclaredTasks.{decl_list}
use Rattle.task_model.specs.Setting.{Setting}
use Rattle.control_script.specs.declared.Op.{Op}
use Rattle.control_script.specs.Script.{script}
use Rattle.normal_model.specs.Ranges.{integer_subtype}
use Rattle.normal_model.specs.NormalTree.{normal_tree, unit_for, main_unit}
use Rattle.normal_model.specs.NormalNumbers.{normal_numbers}
use Rattle.replay_model.specs.Names.{kind_text, argument_text, index_text, never_text, join_text, replay_names, added_word, double_word}
use Rattle.replay_model.specs.ReplayStmts.{replay_body}
use Rattle.replay_model.specs.Controlling.{added_entry, control_declared, idle_declared, control_body, idle_body}

-- ---- units

-- `DED_K, DED_A, DED_I : INTEGER := 0;`
abbrev pub permit_declared : PProgram → Span → PDecl
permit_declared q s =
    DObject (added_word q s kind_text ∷ added_word q s argument_text ∷ added_word q s index_text ∷ []) false (OPlain (integer_subtype s))
    (Some (IOne (EInteger 0 s))) s

-- the declaration is that of a variable of the normal form
abbrev pub is_added_object : List (List ℕ) → PDecl → Bool
is_added_object names (DObject (w ∷ ws) constant shape init s) = is_added_name names w.name
is_added_object names _ = false

-- A declaration behind those of the unit itself, in front of the normal form's variables.
abbrev pub behind_own : List (List ℕ) → PDecl → List PDecl → List PDecl
behind_own names d [] = d ∷ []
behind_own names d (x ∷ xs) = if is_added_object names x then d ∷ x ∷ xs else x ∷ behind_own names d xs

-- ---- tasks and bodies

-- the double of an entry: the same but for its name
abbrev pub double_entry : PProgram → PEntry → PEntry
double_entry q e = record { name = double_word q e.name; family = e.family; formals = e.formals; span = e.span }

-- the entries of a task, and then their doubles, DED_NEVER and DED_JOIN
abbrev pub more_entries : PProgram → PTask → List PEntry
more_entries q t =
    t.entries ++ map (double_entry q) t.entries
    ++ added_entry q t.name.span never_text None [] ∷ added_entry q t.name.span join_text None [] ∷ []

-- a declaration of the normal form, rewritten
abbrev pub replay_decl : Setting → PDecl → PDecl
replay_decl g (DTask t s) = DTask (record { name = t.name; of_kind = t.of_kind; entries = more_entries g.program t; priorities = t.priorities }) s
replay_decl g (DTaskBody w objects its s) =
    DTaskBody w (decls_of (behind_own g.program.names (permit_declared g.program w.span) (decl_list objects))) (replay_body (unit_for g w.name) w.span its) s
replay_decl g d = d

-- ---- the program

abbrev pub is_task : PDecl → Bool
is_task (DTask t s) = true
is_task _ = false

abbrev pub is_body : PDecl → Bool
is_body (DTaskBody w objects its s) = true
is_body _ = false

-- the number of a program's last task
abbrev pub last_task : Numbering → ℕ
last_task numbers = pred (length numbers.tasks)

-- the declarations of the replay text of a normal form with these operations
abbrev pub replay_decls : Setting → Span → List Op → List PDecl
replay_decls g s ops =
    behind_own g.program.names (permit_declared g.program s) (filter (λ d. not (is_task d || is_body d)) (decl_list g.program.decls))
    ++ map (replay_decl g) (filter is_task (decl_list g.program.decls))
    ++ (control_declared g.program s (last_task g.numbers) ∷ idle_declared g.program s ∷ [])
    ++ map (replay_decl g) (filter is_body (decl_list g.program.decls))
    ++ (control_body g s ops ∷ idle_body g.program s ∷ [])

-- what stands for the program itself has the place of its name
abbrev pub replay_of : Setting → List Op → PProgram
replay_of g ops = record {
  names = replay_names g.program;
  text_io = g.program.text_io;
  name = g.program.name;
  decls = decls_of (replay_decls g g.program.name.span ops);
  body = replay_body (main_unit g) g.program.name.span g.program.body;
}

-- The normal form of a program as it is rewritten: with its numbers, and the program's types, of which only the kinds of families' ranges are asked.
abbrev pub normal_setting : PProgram → TypeTable → Numbering → Setting
normal_setting p types numbers = record {
  program = normal_tree p types numbers;
  types = types;
  numbers = normal_numbers (normal_tree p types numbers) numbers;
}

-- the script of a sequence for a program with these numbers
abbrev pub script_of : Numbering → List Event → List Op
script_of numbers events = script (owner_of numbers) (length numbers.tasks) events

-- The replay text of a program with these types and numbers, and a sequence.
abbrev pub replay_tree : PProgram → TypeTable → Numbering → List Event → PProgram
replay_tree p types numbers events = replay_of (normal_setting p types numbers) (script_of numbers events)

-- ---- what is answered

-- a sequence that is replayed has at most so many events
abbrev pub most_events : ℕ
most_events = 200000

-- The replay text, or the limit, where there are more events.
abbrev pub replayed : PProgram → TypeTable → Numbering → List Event → Result PProgram ℕ
replayed p types numbers events = if nat_lt most_events (length events) then Err most_events else Ok (replay_tree p types numbers events)
