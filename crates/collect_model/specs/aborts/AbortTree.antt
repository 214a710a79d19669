-- The collecting text of a program with abort statements (this project's rule): the normal form, in which each statement that synchronizes tells the recorder, which also makes the aborts. Declarations are those of a collecting text without aborts, with two variables more for each place of a unit where calls are accepted.
use Rattle.std.specs.Prelude.{ℕ, zero, suc, true, false, not, ◌||◌, List, [], ◌∷◌, ◌++◌, map, Some}
use Rattle.std.specs.List.{filter, list_any}
use Rattle.ada_tree.specs.declared.naming.NameId.{NameId}
use Rattle.ada_tree.specs.declared.naming.Span.{Span}
use Rattle.ada_tree.specs.TypeTable.{TypeTable}
use Rattle.ada_tree.specs.PlainDecl.{OPlain, IOne, PDecl, DObject, DTask, DTaskBody, decls_of}
use Rattle.ada_tree.specs.PlainProgram.{PProgram}
use Rattle.syn_event.specs.Numbering.{Numbering}
use Rattle.syn_event.specs.DeclaredTasks.{decl_list}
use Rattle.normal_model.specs.Ranges.{word_at, integer_subtype, truth_subtype}
use Rattle.normal_model.specs.NormalTree.{main_unit}
use Rattle.replay_model.specs.ReplayTree.{is_task, is_body, last_task, normal_setting}
use Rattle.collect_model.specs.Teller.{task_of}
use Rattle.collect_model.specs.Noting.{number}
use Rattle.collect_model.specs.Lines.{header_text}
use Rattle.collect_model.specs.Recording.{truth}
use Rattle.collect_model.specs.CollectTree.{behind_own, task_telling, unit_declared, main_declared, is_int_io, recorder_told}
use Rattle.collect_model.specs.aborts.Places.{places_in}
use Rattle.collect_model.specs.aborts.AbortTeller.{AbortTeller, told_at, names_told, told_in}
use Rattle.collect_model.specs.aborts.AbortStmts.{main_body, task_body}
use Rattle.collect_model.specs.aborts.Recording.{recorder_body}

-- ---- units

-- `DED_Q1 : INTEGER := 0;`
abbrev pub taken_declared : Span → NameId → PDecl
taken_declared s name = DObject (word_at s name ∷ []) false (OPlain (integer_subtype s)) (Some (IOne (number s 0))) s

-- `DED_R1 : BOOLEAN := FALSE;`
abbrev pub refused_declared : Span → NameId → PDecl
refused_declared s name = DObject (word_at s name ∷ []) false (OPlain (truth_subtype s)) (Some (IOne (truth s false))) s

-- the variables of the first n places, in order
abbrev pub places_declared : AbortTeller → Span → ℕ → List PDecl
places_declared x s zero = []
places_declared x s (suc n) = places_declared x s n ++ taken_declared s (x.taken (suc n)) ∷ refused_declared s (x.refused (suc n)) ∷ []

-- ---- tasks and bodies

-- A declaration of the normal form, whose names these are, rewritten: the entries of a task, and the objects and statements of a body, which has the name of the task that runs it.
abbrev pub abort_decl : AbortTeller → List (List ℕ) → PDecl → PDecl
abort_decl x names (DTask t s) = DTask (task_telling x.teller.added t) s
abort_decl x names (DTaskBody w objects its s) =
    DTaskBody w
    (decls_of (behind_own names (unit_declared x.teller.added w.span ++ places_declared x w.span (places_in its)) (decl_list objects)))
    (task_body (told_at x (task_of x.teller.numbers w.name)) w.span its) s
abort_decl x names d = d

-- ---- the program

-- the objects of main, with what it declares more
abbrev pub objects_told : AbortTeller → PProgram → List PDecl → List PDecl
objects_told x q objects =
    behind_own q.names
    (main_declared x.teller.added q.name.span (list_any is_int_io objects) (last_task x.teller.numbers) ++ places_declared x q.name.span (places_in q.body))
    objects

-- the recorder's body
abbrev pub recorder_body_told : AbortTeller → PProgram → PDecl
recorder_body_told x q = recorder_body x q.name.span (header_text q.names x.teller.numbers)

-- the declarations of the text, by the program's objects, tasks and bodies
abbrev pub units_told : AbortTeller → PProgram → List PDecl → List PDecl → List PDecl → List PDecl
units_told x q objects tasks bodies =
    objects_told x q objects
    ++ map (abort_decl x q.names) tasks
    ++ (recorder_told x.teller q ∷ [])
    ++ map (abort_decl x q.names) bodies
    ++ (recorder_body_told x q ∷ [])

-- The declarations of the text of a normal form, by what main is told.
abbrev pub abort_decls : AbortTeller → PProgram → List PDecl → List PDecl
abort_decls x q ds = units_told x q (filter (λ d. not (is_task d || is_body d)) ds) (filter is_task ds) (filter is_body ds)

-- The text of a normal form, by what main is told. It has the context clauses, since the recorder writes.
abbrev pub abort_of : AbortTeller → PProgram → PProgram
abort_of x q = record {
  names = names_told q;
  text_io = true;
  name = q.name;
  decls = decls_of (abort_decls x q (decl_list q.decls));
  body = main_body x q.body;
}

-- The collecting text of a program with these types and numbers, in which an abort statement stands.
abbrev pub abort_tree : PProgram → TypeTable → Numbering → PProgram
abort_tree p types numbers = abort_of (told_in (main_unit (normal_setting p types numbers))) (normal_setting p types numbers).program
