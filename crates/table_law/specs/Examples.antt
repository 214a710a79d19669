-- A program with one task beside main, and a controller of it that is as the law asks.
use Rattle.std.specs.Prelude.{ℕ, pos, true, false, List, [], ◌∷◌, ◌++◌, codes, Some, None}
use Rattle.ada_tree.specs.declared.naming.NameId.{NameId}
use Rattle.ada_tree.specs.declared.naming.Span.{Span}
use Rattle.ada_tree.specs.NameList.{predefined}
use Rattle.ada_tree.specs.PlainExpr.{EInteger, RGiven}
use Rattle.ada_tree.specs.PlainStmt.{PFormal, SNull, PBody, body, no_handler}
use Rattle.ada_tree.specs.PlainDecl.{PEntry, PDecl, DTask, DTaskBody, no_decl, decl_then, decls_of}
use Rattle.ada_tree.specs.PlainProgram.{PProgram}
use Rattle.ada_static_rules.specs.Declaring.{predefined_types}
use Rattle.syn_event.specs.declared.numbering.TaskInfo.{TaskInfo}
use Rattle.syn_event.specs.declared.numbering.EntryInfo.{EntryInfo}
use Rattle.syn_event.specs.Numbering.{Numbering}
use Rattle.control_script.specs.declared.Op.{Op}
use Rattle.control_script.specs.declared.Op.TheVariants.{Go, Done, Join}
use Rattle.normal_model.specs.Making.{one}
use Rattle.normal_model.specs.Ranges.{word_at}
use Rattle.normal_model.specs.Names.{id_of}
use Rattle.replay_model.specs.declared.tables.names.ControlNames.{ControlNames}
use Rattle.replay_model.specs.tables.ControlTexts.{with_control_names, ids_in}
use Rattle.replay_model.specs.tables.ControlBodies.{control_block}
use Rattle.replay_model.specs.tables.Tables.{control_objects}
use Rattle.replay_model.specs.tables.Turns.{permit_formals}
use Rattle.table_law.specs.Controllers.{Controller, Entries}

abbrev pub here : Span
here = record { start = 0; end = 0 }

-- the names of the program P with the task B, and those of its controller
abbrev pub names : List (List ℕ)
names = with_control_names (predefined ++ codes "P" ∷ codes "B" ∷ codes "DED_CONTROL" ∷ [])

abbrev pub ids : ControlNames
ids = ids_in names

abbrev pub id : List ℕ → NameId
id text = id_of names text

-- ---- its tasks and operations

abbrev pub task_info : NameId → TaskInfo
task_info name = record { name = name; added = false; unit = name; member = None }

abbrev pub own_tasks : List TaskInfo
own_tasks = task_info (id (codes "P")) ∷ task_info (id (codes "B")) ∷ []

-- operations that it can make: B gets a permit for its completion, main hears of it, and B is waited for
abbrev pub operations : List Op
operations = Go 1 8 0 (pos 0) ∷ Done 0 ∷ Join 1 ∷ []

-- ---- the program

abbrev pub entry : NameId → List PFormal → PEntry
entry name formals = record { name = word_at here name; family = None; formals = formals; span = here }

abbrev pub family : NameId → List PFormal → PEntry
family name formals = record { name = word_at here name; family = Some (RGiven (record { first = EInteger 0 here; last = EInteger 1 here })); formals = formals; span = here }

abbrev pub task : NameId → List PEntry → PDecl
task name entries = DTask (record { name = word_at here name; of_kind = false; entries = entries; priorities = [] }) here

-- `null;`
abbrev pub nothing : PBody
nothing = body (one (SNull here)) no_handler

-- B with its entry DED_JOIN, and the controller with its three entries and its tables
abbrev pub program : PProgram
program = record {
  names = names;
  text_io = false;
  name = word_at here (id (codes "P"));
  decls =
      decl_then (task (id (codes "B")) (entry ids.join [] ∷ []))
      (decl_then (task (id (codes "DED_CONTROL")) (family ids.go (permit_formals ids here) ∷ family ids.done [] ∷ entry ids.hold [] ∷ []))
      (decl_then (DTaskBody (word_at here (id (codes "B"))) no_decl nothing here)
      (decl_then (DTaskBody (word_at here (id (codes "DED_CONTROL"))) (decls_of (control_objects ids here operations)) (control_block ids own_tasks here operations) here)
      no_decl)));
  body = nothing;
}

-- ---- its numbers

abbrev pub entry_info : NameId → ℕ → EntryInfo
entry_info name owner = record { name = name; owner = owner; family = false; first = pos 0; last = pos 0; added = true; stands_for = None }

abbrev pub family_info : NameId → ℕ → EntryInfo
family_info name owner = record { name = name; owner = owner; family = true; first = pos 0; last = pos 1; added = true; stands_for = None }

abbrev pub numbers : Numbering
numbers = record {
  main = id (codes "P");
  tasks = own_tasks ++ task_info (id (codes "DED_CONTROL")) ∷ [];
  entries = entry_info ids.join 1 ∷ family_info ids.go 2 ∷ family_info ids.done 2 ∷ entry_info ids.hold 2 ∷ [];
}

-- the controller, which is task 2
abbrev pub controller : Controller
controller = record {
  setting = record { program = program; types = predefined_types; numbers = numbers };
  number = 2;
  names = ids;
  tasks = own_tasks;
  span = here;
  input = [];
  output = [];
}

abbrev pub entries : Entries
entries = record { go = 2; done = 3; hold = 4; join = λ t. t }
