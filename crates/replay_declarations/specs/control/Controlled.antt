-- The controller and the idle task of a replay text, by ids that are looked up once: the definitions of the replay text, with an id in the place of each name.
use Rattle.std.specs.Prelude.{ℕ, false, List, [], ◌∷◌, Option, Some, None}
use Rattle.ada_tree.specs.declared.naming.NameId.{NameId}
use Rattle.ada_tree.specs.declared.naming.Span.{Span}
use Rattle.ada_tree.specs.declared.statements.ParMode.TheVariants.{Give}
use Rattle.ada_tree.specs.PlainExpr.{PDrange}
use Rattle.ada_tree.specs.PlainStmt.{PFormal, SWait, absent, accepting, alternative, AAccept, ATerminate, no_alt, alt_then, no_stmt, body, no_handler}
use Rattle.ada_tree.specs.PlainDecl.{PEntry, PDecl, DTask, DTaskBody, no_decl, decls_of}
use Rattle.syn_event.specs.declared.numbering.TaskInfo.{TaskInfo}
use Rattle.control_script.specs.declared.Op.{Op}
use Rattle.normal_model.specs.Ranges.{word_at}
use Rattle.normal_model.specs.Making.{one}
use Rattle.replay_model.specs.declared.tables.names.ControlNames.{ControlNames}
use Rattle.replay_model.specs.tables.Tables.{control_objects}
use Rattle.replay_model.specs.tables.ControlBodies.{control_block}
use Rattle.replay_model.specs.Controlling.{all_tasks}
use Rattle.replay_asking.specs.declared.names.added_names.AddedNames.{AddedNames}

-- ---- declarations

abbrev pub entry_by : Span → NameId → Option PDrange → List PFormal → PEntry
entry_by s name family formals = record { name = word_at s name; family = family; formals = formals; span = s }

abbrev pub permit_formals : AddedNames → Span → List PFormal
permit_formals n s =
    record { names = word_at s n.kind ∷ word_at s n.argument ∷ word_at s n.index ∷ []; mode = Give; mark = word_at s record { 0 = 0 } } ∷ []

abbrev pub task_by : Span → NameId → List PEntry → PDecl
task_by s name entries = DTask (record { name = word_at s name; of_kind = false; entries = entries; priorities = [] }) s

-- the entries of the controller behind its first
abbrev pub later_entries : AddedNames → Span → ℕ → List PEntry
later_entries n s last = entry_by s n.done (all_tasks s last) [] ∷ entry_by s n.hold None [] ∷ []

abbrev pub control_entries : AddedNames → Span → ℕ → List PEntry
control_entries n s last = entry_by s n.go (all_tasks s last) (permit_formals n s) ∷ later_entries n s last

abbrev pub control_declared : AddedNames → Span → ℕ → PDecl
control_declared n s last = task_by s n.control (control_entries n s last)

abbrev pub idle_declared : AddedNames → Span → PDecl
idle_declared n s = task_by s n.idle (entry_by s n.stop None [] ∷ entry_by s n.rest None [] ∷ [])

-- ---- bodies

-- the body of the controller by the ids of the names in it
abbrev pub control_body : AddedNames → ControlNames → List TaskInfo → Span → List Op → PDecl
control_body n ids infos s ops = DTaskBody (word_at s n.control) (decls_of (control_objects ids s ops)) (control_block ids infos s ops) s

abbrev pub idle_body : AddedNames → Span → PDecl
idle_body n s =
    DTaskBody (word_at s n.idle) no_decl
    (body (one (SWait (alt_then (alternative None (AAccept (accepting (record { entry = word_at s n.rest; index = None; formals = []; span = s }) absent) no_stmt) s) (alt_then (alternative None ATerminate s) no_alt)) absent s)) no_handler)
    s
