-- The parts of a declaration that change in a collecting text with abort statements, one after the other.
use Rattle.std.specs.Prelude.{ℕ, List, ◌++◌}
use Rattle.ada_tree.specs.declared.naming.Span.{Span}
use Rattle.ada_tree.specs.declared.naming.Word.{Word}
use Rattle.ada_tree.specs.PlainDecl.{PDecl, DTaskBody, decls_of}
use Rattle.syn_event.specs.DeclaredTasks.{decl_list}
use Rattle.collect_model.specs.Teller.{task_of}
use Rattle.collect_model.specs.CollectTree.{behind_own, unit_declared}
use Rattle.collect_model.specs.aborts.Places.{places_in}
use Rattle.collect_model.specs.aborts.AbortTeller.{AbortTeller, told_at}
use Rattle.collect_model.specs.aborts.AbortStmts.{task_body}
use Rattle.collect_model.specs.aborts.AbortTree.{places_declared}

-- a body with its further variables, at a place
abbrev pub with_objects : AbortTeller → List (List ℕ) → Span → PDecl → PDecl
with_objects x names at (DTaskBody w objects its s) =
    DTaskBody w (decls_of (behind_own names (unit_declared x.teller.added at ++ places_declared x at (places_in its)) (decl_list objects))) its s
with_objects x names at d = d

-- a body whose statements are those of the collecting text, by its name
abbrev pub with_body : AbortTeller → Word → PDecl → PDecl
with_body x name (DTaskBody w objects its s) = DTaskBody w objects (task_body (told_at x (task_of x.teller.numbers name.name)) name.span its) s
with_body x name d = d
