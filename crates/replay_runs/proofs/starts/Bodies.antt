-- Each task of a legal program has a body, so the tasks of its replay text run the units that they should.
use Rattle.std.proofs.Common.{◌≡◌, true, ◌==◌, ◌||◌, List, [], ◌∷◌, map, ap, ◌∙◌, refl}
use Rattle.std.specs.List.{AllByRecursion, list_any}
use Rattle.ada_tree.specs.declared.naming.NameId.{NameId}
use Rattle.ada_tree.specs.declared.naming.Span.{Span}
use Rattle.ada_tree.specs.TypeTable.{TypeTable}
use Rattle.ada_tree.specs.PlainDecl.{PTask, PDecl, DNumber, DObject, DEnumeration, DArray, DSubtype, DException, DIntIo, DPragma, DTask, DTaskBody, PDecls, no_decl, decl_then}
use Rattle.ada_tree.specs.PlainProgram.{PProgram}
use Rattle.ada_static_rules.specs.Refusals.{types_in}
use Rattle.syn_event.specs.declared.numbering.TaskInfo.{TaskInfo}
use Rattle.syn_event.specs.CheckSites as check
use Rattle.syn_event.specs.NamedTasks.{NumberedTask, task_names_of, numbered_tasks}
use Rattle.syn_event.specs.AllNumbers.{info_of_task}
use Rattle.syn_event.specs.DeclaredTasks.{decl_list, tasks_in}
use Rattle.normal_laws.proofs.structure.units.Declared.{parts-all, numbered-tasks-all}
use Rattle.normal_laws.specs.existence.Laws.{IsLegalOriginal}
use Rattle.normal_laws.proofs.legality.numbers.Numbered.{none_legal_is_ded}
use Rattle.normal_laws.proofs.legality.checks.Facts as facts
use Rattle.normal_laws.proofs.legality.checks.Sizes.{DeclSized, decls-sized}
use Rattle.replay_structure.specs.bodies.Laws.{has_body}
use Rattle.replay_structure.proofs.bodies.Programs.{programs_run}
use Rattle.replay_runs.specs.starts.Legal.{LegalHasBodies, LegalRuns}

-- what each declaration of a task has, the tasks have
tasks-from : (Q : PDecl → Type 0) (P : PTask → Type 0) → ((t : PTask) (s : Span) → Q (DTask t s) → P t) → (ds : List PDecl) → AllByRecursion Q ds → AllByRecursion P (tasks_in ds)
tasks-from Q P f [] h = tt
tasks-from Q P f (DTask t s ∷ ds) h = (f t s h.0, tasks-from Q P f ds h.1)
tasks-from Q P f (DTaskBody w objects its s ∷ ds) h = tasks-from Q P f ds h.1
tasks-from Q P f (DNumber w e s ∷ ds) h = tasks-from Q P f ds h.1
tasks-from Q P f (DObject ws c x i s ∷ ds) h = tasks-from Q P f ds h.1
tasks-from Q P f (DEnumeration w ws s ∷ ds) h = tasks-from Q P f ds h.1
tasks-from Q P f (DArray w q x s ∷ ds) h = tasks-from Q P f ds h.1
tasks-from Q P f (DSubtype w x s ∷ ds) h = tasks-from Q P f ds h.1
tasks-from Q P f (DException ws s ∷ ds) h = tasks-from Q P f ds h.1
tasks-from Q P f (DIntIo w s ∷ ds) h = tasks-from Q P f ds h.1
tasks-from Q P f (DPragma e s ∷ ds) h = tasks-from Q P f ds h.1

-- a body of a name stands among declarations where the name is among those of their bodies
pub body-there : (ds : PDecls) (id : NameId) → has_body (decl_list ds) id ≡ list_any (λ n. n == id.0) (check.body_names ds)
body-there no_decl id = refl
body-there (decl_then (DTaskBody w objects its s) rest) id = ap (λ b. (w.name.0 == id.0) || b) (body-there rest id)
body-there (decl_then (DTask t s) rest) id = body-there rest id
body-there (decl_then (DNumber w e s) rest) id = body-there rest id
body-there (decl_then (DObject ws c x i s) rest) id = body-there rest id
body-there (decl_then (DEnumeration w ws s) rest) id = body-there rest id
body-there (decl_then (DArray w q x s) rest) id = body-there rest id
body-there (decl_then (DSubtype w x s) rest) id = body-there rest id
body-there (decl_then (DException ws s) rest) id = body-there rest id
body-there (decl_then (DIntIo w s) rest) id = body-there rest id
body-there (decl_then (DPragma e s) rest) id = body-there rest id

module _ (p : PProgram) (h : IsLegalOriginal p) where
  abbrev HasBody : NameId → Type 0
  HasBody id = has_body (decl_list p.decls) id ≡ true

  abbrev T : TypeTable
  T = types_in p

  infos : (ys : List NumberedTask) → AllByRecursion (λ (y : NumberedTask). HasBody y.unit.name.name) ys → AllByRecursion (λ (i : TaskInfo). HasBody i.unit) (map (info_of_task p.names) ys)
  infos [] k = tt
  infos (y ∷ ys) k = (k.0, infos ys k.1)

  declared : AllByRecursion (λ (t : PTask). HasBody t.name.name) (tasks_in (decl_list p.decls))
  declared =
      tasks-from (DeclSized T (check.body_names p.decls)) (λ (t : PTask). HasBody t.name.name) (λ t s k. body-there p.decls t.name.name ∙ k.0) (decl_list p.decls)
      (decls-sized p.names (check.body_names p.decls) T p.decls (facts.around p h) refl (facts.decls-checked p h))

  its-bodies : AllByRecursion (λ (i : TaskInfo). HasBody i.unit) (map (info_of_task p.names) (numbered_tasks T p))
  its-bodies =
      infos (numbered_tasks T p)
      (numbered-tasks-all (λ (t : PTask). HasBody t.name.name) T (task_names_of p) (parts-all (λ (t : PTask). HasBody t.name.name) p.decls [] tt declared))

pub legal_has_bodies : LegalHasBodies
legal_has_bodies p h = its-bodies p h

pub legal_runs : LegalRuns
legal_runs p ops h = programs_run p ops (facts.ordered p h) (facts.olds p h).2 (none_legal_is_ded p _ _ h.legal h.placed) (legal_has_bodies p h)
