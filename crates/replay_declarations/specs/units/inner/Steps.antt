-- The parts of a declaration that change in a replay text, one after the other.
use Rattle.std.specs.Prelude.{ℕ, List, Option, Some, None}
use Rattle.ada_tree.specs.declared.naming.Span.{Span}
use Rattle.ada_tree.specs.declared.naming.Word.{Word}
use Rattle.ada_tree.specs.PlainDecl.{PDecl, DTask, DTaskBody, decls_of}
use Rattle.syn_event.specs.DeclaredTasks.{decl_list}
use Rattle.replay_model.specs.ReplayTree.{behind_own}
use Rattle.replay_asking.specs.Voice.{Voice}
use Rattle.replay_statements.specs.rules.Replayed.{body_image}
use Rattle.replay_declarations.specs.ids.Arranged.{first_running, more_entries, permit_declared, voice_at}

-- the name of a body that is declared
abbrev pub body_name : PDecl → Option Word
body_name (DTaskBody w objects its s) = Some w
body_name _ = None

-- a body with the variables of its permit, at a place
abbrev pub with_objects : Voice → List (List ℕ) → Span → PDecl → PDecl
with_objects v names at (DTaskBody w objects its s) = DTaskBody w (decls_of (behind_own names (permit_declared v.added at) (decl_list objects))) its s
with_objects v names at d = d

-- a body whose statements are those of the replay text, by its name
abbrev pub with_body : Voice → Word → PDecl → PDecl
with_body v name (DTaskBody w objects its s) = DTaskBody w objects (body_image (voice_at v (first_running v.numbers name.name)) name.span its) s
with_body v name d = d

-- a task with its further entries
abbrev pub with_entries : Voice → PDecl → PDecl
with_entries v (DTask t s) = DTask (record { name = t.name; of_kind = t.of_kind; entries = more_entries v t; priorities = t.priorities }) s
with_entries v d = d
