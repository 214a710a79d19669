-- The parts of a declaration that change in a collecting text, one after the other.
use Rattle.std.specs.Prelude.{ℕ, List, Option, Some, None}
use Rattle.ada_tree.specs.declared.naming.Span.{Span}
use Rattle.ada_tree.specs.declared.naming.Word.{Word}
use Rattle.ada_tree.specs.PlainDecl.{PDecl, DTask, DTaskBody, decls_of}
use Rattle.syn_event.specs.DeclaredTasks.{decl_list}
use Rattle.collect_model.specs.Teller.{Teller, task_of, teller_at}
use Rattle.collect_model.specs.CollectStmts.{task_body}
use Rattle.collect_model.specs.CollectTree.{behind_own, task_telling, unit_declared}

-- the name of a body that is declared
abbrev pub body_name : PDecl → Option Word
body_name (DTaskBody w objects its s) = Some w
body_name _ = None

-- a body with its further variables, at a place
abbrev pub with_objects : Teller → List (List ℕ) → Span → PDecl → PDecl
with_objects x names at (DTaskBody w objects its s) = DTaskBody w (decls_of (behind_own names (unit_declared x.added at) (decl_list objects))) its s
with_objects x names at d = d

-- a body whose statements are those of the collecting text, by its name
abbrev pub with_body : Teller → Word → PDecl → PDecl
with_body x name (DTaskBody w objects its s) = DTaskBody w objects (task_body (teller_at x (task_of x.numbers name.name)) name.span its) s
with_body x name d = d

-- a task whose entries have the formal of the caller
abbrev pub with_entries : Teller → PDecl → PDecl
with_entries x (DTask t s) = DTask (task_telling x.added t) s
with_entries x d = d
