-- The controller and the idle task of a replay text (this project's rule): two tasks (9.1), the first of which makes the operations of a script, one after the other.
use Rattle.std.specs.Prelude.{ℕ, false, List, [], ◌∷◌, Option, Some, None}
use Rattle.ada_tree.specs.declared.naming.Span.{Span}
use Rattle.ada_tree.specs.PlainExpr.{EInteger, PDrange, RGiven}
use Rattle.ada_tree.specs.PlainStmt.{PFormal, SWait, no_stmt, absent, accepting, alternative, AAccept, ATerminate, no_alt, alt_then, body, no_handler}
use Rattle.ada_tree.specs.PlainDecl.{PEntry, PDecl, DTask, DTaskBody, no_decl, decls_of}
use Rattle.ada_tree.specs.PlainProgram.{PProgram}
use Rattle.task_model.specs.Setting.{Setting}
use Rattle.control_script.specs.declared.Op.{Op}
use Rattle.normal_model.specs.Making.{one}
use Rattle.replay_model.specs.declared.tables.names.ControlNames.{ControlNames}
use Rattle.replay_model.specs.Names.{control_text, go_text, done_text, hold_text, idle_text, stop_text, rest_text, replay_names, added_word}
use Rattle.replay_model.specs.tables.ControlTexts.{ids_in}
use Rattle.replay_model.specs.tables.Turns.{permit_formals as formals_of_permit}
use Rattle.replay_model.specs.tables.Tables.{control_objects}
use Rattle.replay_model.specs.tables.ControlBodies.{control_block}

-- ---- declarations

-- an entry, or a family for all tasks up to n
abbrev pub added_entry : PProgram → Span → List ℕ → Option PDrange → List PFormal → PEntry
added_entry q s text family formals = record { name = added_word q s text; family = family; formals = formals; span = s }

-- `(0 .. n)`
abbrev pub all_tasks : Span → ℕ → Option PDrange
all_tasks s n = Some (RGiven (record { first = EInteger 0 s; last = EInteger n s }))

-- the ids of the names in the controller's body
abbrev pub control_ids : PProgram → ControlNames
control_ids q = ids_in (replay_names q)

-- `DED_K, DED_A, DED_I : out INTEGER`
abbrev pub permit_formals : PProgram → Span → List PFormal
permit_formals q s = formals_of_permit (control_ids q) s

abbrev pub added_task : PProgram → Span → List ℕ → List PEntry → PDecl
added_task q s text entries = DTask (record { name = added_word q s text; of_kind = false; entries = entries; priorities = [] }) s

-- The controller's declaration, where n is the last task's number.
abbrev pub control_declared : PProgram → Span → ℕ → PDecl
control_declared q s n =
    added_task q s control_text
    (added_entry q s go_text (all_tasks s n) (permit_formals q s) ∷ added_entry q s done_text (all_tasks s n) [] ∷ added_entry q s hold_text None [] ∷ [])

-- The idle task's.
abbrev pub idle_declared : PProgram → Span → PDecl
idle_declared q s = added_task q s idle_text (added_entry q s stop_text None [] ∷ added_entry q s rest_text None [] ∷ [])

-- ---- bodies

-- The controller's body: the tables of the operations, and the loop over them.
abbrev pub control_body : Setting → Span → List Op → PDecl
control_body g s ops =
    DTaskBody (added_word g.program s control_text) (decls_of (control_objects (control_ids g.program) s ops))
    (control_block (control_ids g.program) g.numbers.tasks s ops) s

-- The idle task's: `select accept NEVER; or terminate; end select;`
abbrev pub idle_body : PProgram → Span → PDecl
idle_body q s =
    DTaskBody (added_word q s idle_text) no_decl
    (body
    (one
    (SWait
    (alt_then
    (alternative None (AAccept (accepting (record { entry = added_word q s rest_text; index = None; formals = []; span = s }) absent) no_stmt) s)
    (alt_then (alternative None ATerminate s) no_alt))
    absent s))
    no_handler)
    s
