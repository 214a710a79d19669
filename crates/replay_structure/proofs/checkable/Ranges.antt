-- The ranges in a normal form have as many values by its own types and by those of its replay text.
use Rattle.std.proofs.Common.{◌≡◌, ℕ, ◌==◌, Bool, true, false, if◌then◌else◌, List, [], ◌∷◌, ◌++◌, flat_map, Option, Some, None, IfSome, refl, sym, ap, subst, ◌∙◌}
use Rattle.std.specs.List.{AllByRecursion}
use Rattle.std.proofs.lemmas.List.Elements.{recursion_from_All}
use Rattle.common_lemmas.proofs.Lists.{all_joined}
use Rattle.ada_tree.specs.declared.naming.NameId.{NameId}
use Rattle.ada_tree.specs.declared.static_types.Mark.{Mark}
use Rattle.ada_tree.specs.TypeTable.{TypeTable}
use Rattle.ada_static_rules.specs.StaticValue.{mark_named}
use Rattle.ada_tree.specs.PlainExpr.{PDrange}
use Rattle.ada_tree.specs.PlainDecl.{OPlain, OArray, PEntry, PTask, PDecl, DNumber, DObject, DEnumeration, DArray, DSubtype, DException, DIntIo, DPragma, DTask, DTaskBody, PDecls, no_decl, decl_then, decls_of}
use Rattle.ada_tree.specs.PlainProgram.{PProgram}
use Rattle.ada_tree.specs.Every.{EveryDrange, EveryEntry, EveryDecl, EveryDecls}
use Rattle.ada_static_rules.specs.Refusals.{types_in}
use Rattle.syn_event.specs.declared.numbering.TaskInfo.{TaskInfo}
use Rattle.syn_event.specs.Numbering.{Numbering}
use Rattle.syn_event.specs.Extents.{known_size, is_array_kind, is_array_mark}
use Rattle.syn_event.specs.DeclaredTasks.{decl_list}
use Rattle.task_model.specs.Setting.{Setting}
use Rattle.normal_model.specs.Names.{task_name}
use Rattle.normal_model.specs.RewrittenUnit.{RewrittenUnit}
use Rattle.normal_model.specs.NormalStmts.{unit_variables}
use Rattle.normal_model.specs.NormalTree.{decls_front, first_decls, tasks_beside, task_under, declared_under, unit_for, running, bodies_of, main_unit, normal_tree}
use Rattle.task_laws.specs.legal.rewritten_types.Agreement.{Agrees}
use Rattle.task_laws.specs.legal.rewritten_values.Values.{old_names}
use Rattle.normal_laws.specs.structure.types.Own.{own_name}
use Rattle.normal_laws.specs.structure.types.Laws.{setting_of, AreOwn}
use Rattle.normal_laws.proofs.structure.types.Normal.{first-every}
use Rattle.normal_laws.proofs.structure.types.Variables.{all-mapped, unit-all}
use Rattle.normal_laws.proofs.structure.numbers.Extents.{extent-alike}
use Rattle.normal_laws.proofs.structure.numbers.Listed.{IsPlain, IsOneTask, firsts, vars, tasks, bodies, first-plain, tasks-all, normal-list}
use Rattle.replay_structure.specs.checked.Checkable.{HasSameSize, IsSameObject, IsSameEntry, IsSameDecl}
use Rattle.replay_structure.proofs.checked.Along.{OnTask}
use Rattle.replay_structure.proofs.checkable.KeptDecls.{flat-among}
use Rattle.syn_event.proofs.DeclLists.{every_listed}

-- ---- lists

-- what holds of each task of a program, whatever its name, holds of each task of its normal form
pub tasks-under : (P : PTask → Type 0) → ((name : NameId) (t : PTask) → P t → P (task_under name t)) → (unit name : NameId) (ds : List PDecl) → AllByRecursion (OnTask P) ds → AllByRecursion (OnTask P) (flat_map (declared_under unit name) ds)
tasks-under P under unit name [] h = tt
tasks-under P under unit name (DTask t s ∷ ds) h = all_joined (OnTask P) (declared_under unit name (DTask t s)) (flat_map (declared_under unit name) ds) (go (t.name.name.0 == unit.0)) (tasks-under P under unit name ds h.1)
  where
    go : (e : Bool) → AllByRecursion (OnTask P) (if e then DTask (task_under name t) s ∷ [] else [])
    go true = (under name t h.0, tt)
    go false = tt
tasks-under P under unit name (DTaskBody w objects its s ∷ ds) h = tasks-under P under unit name ds h.1
tasks-under P under unit name (DNumber w e s ∷ ds) h = tasks-under P under unit name ds h.1
tasks-under P under unit name (DObject ws c x i s ∷ ds) h = tasks-under P under unit name ds h.1
tasks-under P under unit name (DEnumeration w ws s ∷ ds) h = tasks-under P under unit name ds h.1
tasks-under P under unit name (DArray w x y s ∷ ds) h = tasks-under P under unit name ds h.1
tasks-under P under unit name (DSubtype w x s ∷ ds) h = tasks-under P under unit name ds h.1
tasks-under P under unit name (DException ws s ∷ ds) h = tasks-under P under unit name ds h.1
tasks-under P under unit name (DIntIo w s ∷ ds) h = tasks-under P under unit name ds h.1
tasks-under P under unit name (DPragma e s ∷ ds) h = tasks-under P under unit name ds h.1

pub all-tasks-under : (g : Setting) (P : PTask → Type 0) → ((name : NameId) (t : PTask) → P t → P (task_under name t)) → AllByRecursion (OnTask P) (decl_list g.program.decls) →
    AllByRecursion (OnTask P) (flat_map (λ info. flat_map (declared_under info.unit (task_name g info)) (decl_list g.program.decls)) (tasks_beside g))
all-tasks-under g P under h = flat-among (OnTask P) (λ info. flat_map (declared_under info.unit (task_name g info)) (decl_list g.program.decls)) (tasks_beside g) (λ info i. tasks-under P under info.unit (task_name g info) (decl_list g.program.decls) h)

-- ---- three tables

module _ (old : ℕ → Bool) (T0 T U : TypeTable) (form : Agrees old T0 T) (text : Agrees old T0 U) where
  size-same : (x : PDrange) (k : ℕ) → EveryDrange (old_names old) k x → HasSameSize T U x
  size-same x k h = ap known_size (sym (extent-alike old T0 U text x k h) ∙ extent-alike old T0 T form x k h)

  array-same : (V : TypeTable) → Agrees old T0 V → (id : NameId) → old id.0 ≡ true → is_array_mark V (mark_named V id) ≡ is_array_mark T0 (mark_named T0 id)
  array-same V a id h = go (mark_named T0 id) refl
    where
      go : (o : Option Mark) → mark_named T0 id ≡ o → is_array_mark V (mark_named V id) ≡ is_array_mark T0 (mark_named T0 id)
      go None e = ap (is_array_mark V) (sym (a.marks id h) ∙ e) ∙ sym (ap (is_array_mark T0) e)
      go (Some m) e = ap (is_array_mark V) (sym (a.marks id h) ∙ e) ∙ ap is_array_kind (sym (a.mark_kinds id m h e)) ∙ sym (ap (is_array_mark T0) e)

  plain-same : (x : PDecl) → IsPlain x → EveryDecl (old_names old) x → IsSameDecl T U x
  plain-same (DObject ws true (OPlain x) i s) p h = (tt, array-same U text x.mark.name h.2.0 ∙ sym (array-same T form x.mark.name h.2.0))
  plain-same (DObject ws false (OPlain x) i s) p h = (tt, tt)
  plain-same (DObject ws true (OArray x y) i s) p h = (size-same x 2 h.2.0, tt)
  plain-same (DObject ws false (OArray x y) i s) p h = (size-same x 2 h.2.0, tt)
  plain-same (DArray w x y s) p h = size-same x 2 h.2
  plain-same (DNumber w e s) p h = tt
  plain-same (DEnumeration w ws s) p h = tt
  plain-same (DSubtype w x s) p h = tt
  plain-same (DException ws s) p h = tt
  plain-same (DIntIo w s) p h = tt
  plain-same (DPragma e s) p h = tt
  plain-same (DTask t s) p h = absurd p
  plain-same (DTaskBody w objects its s) p h = absurd p

  plains-same : (xs : List PDecl) → AllByRecursion IsPlain xs → AllByRecursion (EveryDecl (old_names old)) xs → AllByRecursion (IsSameDecl T U) xs
  plains-same [] p h = tt
  plains-same (x ∷ xs) p h = (plain-same x p.0 h.0, plains-same xs p.1 h.1)

  -- entries
  entries-same : (es : List PEntry) → AllByRecursion (EveryEntry (old_names old)) es → AllByRecursion (IsSameEntry T U) es
  entries-same [] h = tt
  entries-same (e ∷ es) h = (go e.family h.0.2, entries-same es h.1)
    where
      go : (o : Option PDrange) → IfSome o (EveryDrange (old_names old) 2) → IfSome o (HasSameSize T U)
      go None i = tt
      go (Some x) i = size-same x 2 i

  abbrev HasSameEntries : PTask → Type 0
  HasSameEntries t = AllByRecursion (IsSameEntry T U) t.entries

  tasks-same : (ds : PDecls) → EveryDecls (old_names old) ds → AllByRecursion (OnTask HasSameEntries) (decl_list ds)
  tasks-same no_decl h = tt
  tasks-same (decl_then (DTask t s) ds) h = (entries-same t.entries (recursion_from_All (EveryEntry (old_names old)) t.entries h.0.1.1), tasks-same ds h.1)
  tasks-same (decl_then (DTaskBody w objects its s) ds) h = (tt, tasks-same ds h.1)
  tasks-same (decl_then (DNumber w e s) ds) h = (tt, tasks-same ds h.1)
  tasks-same (decl_then (DObject ws c x i s) ds) h = (tt, tasks-same ds h.1)
  tasks-same (decl_then (DEnumeration w ws s) ds) h = (tt, tasks-same ds h.1)
  tasks-same (decl_then (DArray w x y s) ds) h = (tt, tasks-same ds h.1)
  tasks-same (decl_then (DSubtype w x s) ds) h = (tt, tasks-same ds h.1)
  tasks-same (decl_then (DException ws s) ds) h = (tt, tasks-same ds h.1)
  tasks-same (decl_then (DIntIo w s) ds) h = (tt, tasks-same ds h.1)
  tasks-same (decl_then (DPragma e s) ds) h = (tt, tasks-same ds h.1)

  -- what holds of a task's entries holds of its declaration
  of-tasks : (xs : List PDecl) → AllByRecursion IsOneTask xs → AllByRecursion (OnTask HasSameEntries) xs → AllByRecursion (IsSameDecl T U) xs
  of-tasks [] o h = tt
  of-tasks (DTask t s ∷ xs) o h = (h.0, of-tasks xs o.1 h.1)
  of-tasks (DTaskBody w objects its s ∷ xs) o h = absurd o.0
  of-tasks (DNumber w e s ∷ xs) o h = absurd o.0
  of-tasks (DObject ws c x i s ∷ xs) o h = absurd o.0
  of-tasks (DEnumeration w ws s ∷ xs) o h = absurd o.0
  of-tasks (DArray w x y s ∷ xs) o h = absurd o.0
  of-tasks (DSubtype w x s ∷ xs) o h = absurd o.0
  of-tasks (DException ws s ∷ xs) o h = absurd o.0
  of-tasks (DIntIo w s ∷ xs) o h = absurd o.0
  of-tasks (DPragma e s ∷ xs) o h = absurd o.0

  -- objects of bodies
  object-same : (x : PDecl) → EveryDecl (old_names old) x → IsSameObject T U x
  object-same (DObject ws k (OPlain x) i s) h = tt
  object-same (DObject ws k (OArray x y) i s) h = size-same x 2 h.2.0
  object-same (DTask t s) h = tt
  object-same (DTaskBody w objects its s) h = tt
  object-same (DNumber w e s) h = tt
  object-same (DEnumeration w ws s) h = tt
  object-same (DArray w x y s) h = tt
  object-same (DSubtype w x s) h = tt
  object-same (DException ws s) h = tt
  object-same (DIntIo w s) h = tt
  object-same (DPragma e s) h = tt

  front-same : (ds es : PDecls) → EveryDecls (old_names old) ds → AllByRecursion (IsSameObject T U) (decl_list es) → AllByRecursion (IsSameObject T U) (decl_list (decls_front ds es))
  front-same no_decl es h i = i
  front-same (decl_then x ds) es h i = (object-same x h.0, front-same ds es h.1 i)

  listed : (xs : List PDecl) → AllByRecursion (IsSameObject T U) xs → AllByRecursion (IsSameObject T U) (decl_list (decls_of xs))
  listed [] h = tt
  listed (x ∷ xs) h = (h.0, listed xs h.1)

  copies-same : (g : Setting) (x : PDecl) → EveryDecl (old_names old) x → AllByRecursion (IsSameDecl T U) (bodies_of g x)
  copies-same g (DTaskBody w objects its s) h =
      let u : RewrittenUnit = unit_for g w.name in
      let objs : AllByRecursion (IsSameObject T U) (decl_list (decls_front objects (decls_of (unit_variables u its)))) = front-same objects (decls_of (unit_variables u its)) h.3 (listed (unit_variables u its) (unit-all (IsSameObject T U) u (λ s x k. tt) its)) in
      all-mapped (IsSameDecl T U) _ (λ (info : TaskInfo). objs) (running g w.name)
  copies-same g (DTask t s) h = tt
  copies-same g (DNumber w e s) h = tt
  copies-same g (DObject ws k x i s) h = tt
  copies-same g (DEnumeration w ws s) h = tt
  copies-same g (DArray w x y s) h = tt
  copies-same g (DSubtype w x s) h = tt
  copies-same g (DException ws s) h = tt
  copies-same g (DIntIo w s) h = tt
  copies-same g (DPragma e s) h = tt

  all-copies-same : (g : Setting) (ds : PDecls) → EveryDecls (old_names old) ds → AllByRecursion (IsSameDecl T U) (flat_map (bodies_of g) (decl_list ds))
  all-copies-same g no_decl h = tt
  all-copies-same g (decl_then x ds) h = all_joined (IsSameDecl T U) (bodies_of g x) (flat_map (bodies_of g) (decl_list ds)) (copies-same g x h.0) (all-copies-same g ds h.1)

-- The ranges of a normal form are the same by any two tables that agree with the program's own on its own names.
pub ranges-same : (p : PProgram) (types : TypeTable) (numbers : Numbering) (T U : TypeTable) → Agrees (own_name p) (types_in p) T → Agrees (own_name p) (types_in p) U → AreOwn p p.decls → AllByRecursion (IsSameDecl T U) (decl_list (normal_tree p types numbers).decls)
ranges-same p types numbers T U form text own =
    let old : ℕ → Bool = own_name p in
    let g : Setting = setting_of p types numbers in
    subst (AllByRecursion (IsSameDecl T U)) (sym (normal-list p types numbers))
    (all_joined (IsSameDecl T U) (firsts p types numbers) (vars p types numbers ++ tasks p types numbers ++ bodies p types numbers)
    (plains-same old (types_in p) T U form text (firsts p types numbers) (first-plain p.decls []) (every_listed (old_names old) (first_decls [] p.decls) (first-every (old_names old) p.decls [] own)))
    (all_joined (IsSameDecl T U) (vars p types numbers ++ tasks p types numbers) (bodies p types numbers)
    (all_joined (IsSameDecl T U) (vars p types numbers) (tasks p types numbers) (unit-all (IsSameDecl T U) (main_unit g) (λ s x k. (tt, tt)) p.body)
    (of-tasks old (types_in p) T U form text (tasks p types numbers) (tasks-all g) (all-tasks-under g (HasSameEntries old (types_in p) T U form text) (λ name t h. h) (tasks-same old (types_in p) T U form text p.decls own))))
    (all-copies-same old (types_in p) T U form text g p.decls own)))
