-- The declarations of a replay text, by ids that are looked up once.
use Rattle.std.specs.Prelude.{ℕ, ◌==◌, ◌||◌, not, false, List, [], ◌∷◌, ◌++◌, map, position, unwrap_or, None, Some}
use Rattle.std.specs.List.{filter}
use Rattle.ada_tree.specs.declared.naming.NameId.{NameId}
use Rattle.ada_tree.specs.declared.naming.Span.{Span}
use Rattle.ada_tree.specs.PlainExpr.{EInteger}
use Rattle.ada_tree.specs.PlainDecl.{OPlain, IOne, PEntry, PTask, PDecl, DObject, DTask, DTaskBody, decls_of}
use Rattle.syn_event.specs.DeclaredTasks.{decl_list}
use Rattle.syn_event.specs.Numbering.{Numbering}
use Rattle.normal_model.specs.Ranges.{word_at, integer_subtype}
use Rattle.replay_model.specs.ReplayTree.{behind_own, is_task, is_body}
use Rattle.replay_asking.specs.declared.names.added_names.AddedNames.{AddedNames}
use Rattle.replay_asking.specs.Voice.{Voice}
use Rattle.replay_asking.specs.Called.{double_word}
use Rattle.replay_declarations.specs.control.Controlled.{entry_by, control_declared, idle_declared, idle_body}
use Rattle.replay_statements.specs.rules.Replayed.{body_image}

abbrev pub permit_declared : AddedNames → Span → PDecl
permit_declared n s = DObject (word_at s n.kind ∷ word_at s n.argument ∷ word_at s n.index ∷ []) false (OPlain (integer_subtype s)) (Some (IOne (EInteger 0 s))) s

-- ---- tasks and bodies

abbrev pub double_entry : Voice → PEntry → PEntry
double_entry v e = record { name = double_word v e.name; family = e.family; formals = e.formals; span = e.span }

abbrev pub more_entries : Voice → PTask → List PEntry
more_entries v t =
    t.entries ++ map (double_entry v) t.entries
    ++ entry_by t.name.span v.added.never None [] ∷ entry_by t.name.span v.added.join None [] ∷ []

-- the number of the first task that runs the body of a name
abbrev pub first_running : Numbering → NameId → ℕ
first_running numbers name = unwrap_or (position (λ info. info.unit.0 == name.0) numbers.tasks) 0

-- the same for the task of another number
abbrev pub voice_at : Voice → ℕ → Voice
voice_at v t = record { added = v.added; double = v.double; member = v.member; numbers = v.numbers; task = t }

abbrev pub decl_image : Voice → List (List ℕ) → PDecl → PDecl
decl_image v names (DTask t s) = DTask (record { name = t.name; of_kind = t.of_kind; entries = more_entries v t; priorities = t.priorities }) s
decl_image v names (DTaskBody w objects its s) =
    DTaskBody w (decls_of (behind_own names (permit_declared v.added w.span) (decl_list objects))) (body_image (voice_at v (first_running v.numbers w.name)) w.span its) s
decl_image v names d = d

-- ---- the program

-- the declarations of the controller and the idle task, and their bodies
abbrev pub control_pair : Voice → ℕ → Span → List PDecl
control_pair v last s = control_declared v.added s last ∷ idle_declared v.added s ∷ []

abbrev pub body_pair : Voice → Span → PDecl → List PDecl
body_pair v s control = control ∷ idle_body v.added s ∷ []

-- the declarations by the objects, tasks and bodies, where `last` is the number of the last task and `control` the body of the controller
abbrev pub units_image : Voice → List (List ℕ) → ℕ → Span → PDecl → List PDecl → List PDecl → List PDecl → List PDecl
units_image v names last s control objects tasks bodies =
    behind_own names (permit_declared v.added s) objects
    ++ map (decl_image v names) tasks
    ++ control_pair v last s
    ++ map (decl_image v names) bodies
    ++ body_pair v s control

abbrev pub decls_image : Voice → List (List ℕ) → ℕ → Span → PDecl → List PDecl → List PDecl
decls_image v names last s control ds =
    units_image v names last s control (filter (λ d. not (is_task d || is_body d)) ds) (filter is_task ds) (filter is_body ds)
