-- The declaration of a task under another name.
use Rattle.std.proofs.Common.{◌≡◌, ◌==◌, ◌<◌, ◌+◌, ℕ, Bool, true, false, if◌then◌else◌, List, [], ◌∷◌, ◌++◌, map, flat_map, drop, take, length, get_or, refl, ap, ◌∙◌}
use Rattle.std.proofs.lemmas.List.{get_or_default}
use Rattle.ada_tree.specs.declared.naming.NameId.{NameId}
use Rattle.ada_tree.specs.PlainDecl.{PDecl, DNumber, DObject, DEnumeration, DArray, DSubtype, DException, DIntIo, DPragma, DTask, DTaskBody}
use Rattle.syn_event.specs.declared.numbering.TaskInfo.{TaskInfo}
use Rattle.syn_event.specs.DeclaredTasks.{decl_list}
use Rattle.task_model.specs.Setting.{Setting}
use Rattle.normal_model.specs.Names.{task_name_at}
use Rattle.normal_model.specs.NormalTree.{declared_under, task_declared, task_under}
use Rattle.normal_form.specs.declared.unit_declarations.tasks.TaskDecl.{TaskDecl}
use Rattle.normal_form.specs.unit_declarations.inner.Tasks.{called, seen_task, task_called}
use Rattle.normal_form.proofs.unit_declarations.Listing.{flat_more}
use Rattle.normal_form.proofs.unit_declarations.NamesBeside.{name_beside}

-- what is declared under another name
pub called_same : (name unit : NameId) (ds : List PDecl) → map (called name) (flat_map (task_called unit.0) ds) ≡ flat_map (declared_under unit name) ds
called_same name unit [] = refl
called_same name unit (DTask t s ∷ ds) = by (t.name.name.0 == unit.0) (called_same name unit ds)
  where
    by : (b : Bool) → map (called name) (flat_map (task_called unit.0) ds) ≡ flat_map (declared_under unit name) ds →
        map (called name) ((if b then DTask t s ∷ [] else []) ++ flat_map (task_called unit.0) ds) ≡ (if b then DTask (task_under name t) s ∷ [] else []) ++ flat_map (declared_under unit name) ds
    by true e = ap (λ l. DTask (task_under name t) s ∷ l) e
    by false e = e
called_same name unit (DTaskBody w objects its s ∷ ds) = called_same name unit ds
called_same name unit (DObject names constant shape init s ∷ ds) = called_same name unit ds
called_same name unit (DNumber w e s ∷ ds) = called_same name unit ds
called_same name unit (DEnumeration w ws s ∷ ds) = called_same name unit ds
called_same name unit (DArray w r x s ∷ ds) = called_same name unit ds
called_same name unit (DSubtype w x s ∷ ds) = called_same name unit ds
called_same name unit (DException ws s ∷ ds) = called_same name unit ds
called_same name unit (DIntIo w s ∷ ds) = called_same name unit ds
called_same name unit (DPragma e s ∷ ds) = called_same name unit ds

-- the declaration of one task more
pub declared_more : (g : Setting) (tasks : List TaskInfo) (i number : ℕ) (d : TaskInfo) (name : NameId) (kept : List TaskDecl) (start so_far grown : List PDecl) → i < length tasks → tasks ≡ drop 1 g.numbers.tasks →
    number ≡ i + 1 → name ≡ task_name_at g number →
    map seen_task kept ≡ flat_map (task_called (get_or tasks i d).unit.0) (decl_list g.program.decls) →
    so_far ≡ start ++ flat_map (task_declared g) (take i tasks) → grown ≡ so_far ++ map (called name) (map seen_task kept) → grown ≡ start ++ flat_map (task_declared g) (take (i + 1) tasks)
declared_more g tasks i number d name kept start so_far grown lt same numbered named there before grows =
    let x = get_or tasks i d in
    let is : x ≡ get_or tasks i x = get_or_default tasks i d x lt in
    let ds = decl_list g.program.decls in
    flat_more (task_declared g) tasks i x start so_far grown lt is before
    (grows ∙ ap (λ l. so_far ++ l) (ap (map (called name)) there ∙ called_same name x.unit ds ∙ ap (λ n. flat_map (declared_under x.unit n) ds) (name_beside g tasks i number x name same lt is numbered named)))
