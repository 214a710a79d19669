-- The numbers of a normal form.
use Rattle.std.proofs.Common.{◌≡◌, ℕ, ◌+◌, ◌||◌, List, [], ◌∷◌, ◌++◌, map, is_some, None, refl, sym, ap, ap₂, ◌∙◌, subst}
use Rattle.std.specs.List.{AllByRecursion}
use Rattle.ada_tree.specs.TypeTable.{TypeTable}
use Rattle.ada_tree.specs.PlainDecl.{PEntry, PTask, PDecl, DNumber, DObject, DEnumeration, DArray, DSubtype, DException, DIntIo, DPragma, DTask, DTaskBody}
use Rattle.ada_tree.specs.PlainProgram.{PProgram}
use Rattle.ada_tree.specs.Every.{EveryEntry}
use Rattle.ada_static_rules.specs.Refusals.{types_in}
use Rattle.syn_event.specs.declared.numbering.EntryInfo.{EntryInfo}
use Rattle.syn_event.specs.Numbering.{Numbering}
use Rattle.syn_event.specs.AddedNames.{is_added_name, task_info, with_origins}
use Rattle.syn_event.specs.NamedTasks.{NumberedTask, numbered_tasks}
use Rattle.syn_event.specs.AllNumbers.{first_of, last_index, entry_of_task, entries_of_tasks, all_numbers}
use Rattle.syn_event.specs.DeclaredTasks.{decl_list, tasks_of}
use Rattle.normal_model.specs.NormalTree.{normal_tree}
use Rattle.normal_model.proofs.VariablesLemmas.{Begins}
use Rattle.task_laws.specs.legal.rewritten_types.Agreement.{Agrees}
use Rattle.task_laws.specs.legal.rewritten_values.Values.{old_names}
use Rattle.normal_laws.specs.structure.types.Own.{own_name}
use Rattle.normal_laws.specs.structure.types.Laws.{IsOrdered, setting_of, AreOwn}
use Rattle.normal_laws.proofs.structure.types.Normal.{normal_agrees}
use Rattle.normal_laws.specs.structure.units.Laws.{numbers_made}
use Rattle.normal_laws.specs.structure.numbers.Laws.{NoneIsDed, NormalHasNumbers}
use Rattle.normal_laws.specs.structure.numbers.Single.{IsSingle}
use Rattle.normal_laws.proofs.structure.numbers.Named.{added-longer, own-within}
use Rattle.normal_laws.proofs.structure.numbers.TasksNumbered.{single_task, numbers-single}
use Rattle.normal_laws.proofs.structure.numbers.Listed.{IsPlain, IsOneTask, IsOneBody, first-plain, firsts, vars, tasks, vars-plain, tasks-all, bodies-all, normal-list}
use Rattle.normal_laws.proofs.structure.numbers.Tasked.{under, normal-tasks-of}
use Rattle.normal_laws.proofs.structure.numbers.TaskNames.{IsNamed, normal-begins, all-named, entries-own, family-kept}
use Rattle.normal_laws.proofs.structure.numbers.Origins.{IsWithin, origins-longer}
use Rattle.common_lemmas.proofs.Lists.{all_joined, all_weaker}

-- ---- each task is a single one

pub plain-single : (d : PDecl) → IsPlain d → IsSingle d
plain-single (DTask t s) h = absurd h
plain-single (DTaskBody w objects its s) h = tt
plain-single (DNumber w e s) h = tt
plain-single (DObject ws c x i s) h = tt
plain-single (DEnumeration w ws s) h = tt
plain-single (DArray w r x s) h = tt
plain-single (DSubtype w x s) h = tt
plain-single (DException ws s) h = tt
plain-single (DIntIo w s) h = tt
plain-single (DPragma e s) h = tt

task-single : (d : PDecl) → IsOneTask d → IsSingle d
task-single (DTask t s) h = h
task-single (DTaskBody w objects its s) h = tt
task-single (DNumber w e s) h = tt
task-single (DObject ws c x i s) h = tt
task-single (DEnumeration w ws s) h = tt
task-single (DArray w r x s) h = tt
task-single (DSubtype w x s) h = tt
task-single (DException ws s) h = tt
task-single (DIntIo w s) h = tt
task-single (DPragma e s) h = tt

body-single : (d : PDecl) → IsOneBody d → IsSingle d
body-single (DTask t s) h = absurd h
body-single (DTaskBody w objects its s) h = tt
body-single (DNumber w e s) h = tt
body-single (DObject ws c x i s) h = tt
body-single (DEnumeration w ws s) h = tt
body-single (DArray w r x s) h = tt
body-single (DSubtype w x s) h = tt
body-single (DException ws s) h = tt
body-single (DIntIo w s) h = tt
body-single (DPragma e s) h = tt

pub normal-single : (p : PProgram) (types : TypeTable) (numbers : Numbering) → AllByRecursion IsSingle (decl_list (normal_tree p types numbers).decls)
normal-single p types numbers =
    subst (AllByRecursion IsSingle) (sym (normal-list p types numbers))
    (all_joined IsSingle (firsts p types numbers) _ (all_weaker IsPlain IsSingle _ plain-single (first-plain p.decls []))
    (all_joined IsSingle (vars p types numbers ++ tasks p types numbers) _
    (all_joined IsSingle (vars p types numbers) _
    (all_weaker IsPlain IsSingle _ plain-single (vars-plain p types numbers))
    (all_weaker IsOneTask IsSingle _ task-single (tasks-all (setting_of p types numbers))))
    (all_weaker IsOneBody IsSingle _ body-single (bodies-all (setting_of p types numbers)))))

-- ---- entries

module _ (p : PProgram) (ordered : IsOrdered p) (own : AreOwn p p.decls) (ded : NoneIsDed p) where
  abbrev T : TypeTable
  T = types_in p

  abbrev normal : PProgram
  normal = normal_tree p T (all_numbers T p)

  abbrev U : TypeTable
  U = types_in normal

  abbrev its : NumberedTask → PTask
  its = under (setting_of p T (all_numbers T p))

  abbrev ys : List NumberedTask
  ys = numbered_tasks T p

  abbrev Own : PEntry → Type 0
  Own e = EveryEntry (old_names (own_name p)) e

  begins : Begins p.names normal.names
  begins = normal-begins p T (all_numbers T p)

  agrees : Agrees (own_name p) T U
  agrees = normal_agrees p T (all_numbers T p) ordered

  -- an entry of a task is the same in the normal form
  entries-kept : (t : ℕ) (y : NumberedTask) → is_added_name normal.names (its y).name.name ≡ is_added_name p.names y.name → (es : List PEntry) → AllByRecursion Own es →
      map (entry_of_task normal.names U t (single_task (its y))) es ≡ map (entry_of_task p.names T t y) es
  entries-kept t y same [] h = refl
  entries-kept t y same (e ∷ es) h = λ i.
      record {
        name = e.name.name;
        owner = t;
        family = is_some e.family;
        first = first_of (family-kept (own_name p) T U agrees e.family h.0.2 i);
        last = last_index (family-kept (own_name p) T U agrees e.family h.0.2 i);
        added = same i || added-longer p.names normal.names e.name.name begins (own-within p e.name.name.0 h.0.1) i;
        stands_for = None;
      }
      ∷ entries-kept t y same es h.1 i

  tasks-kept : (zs : List NumberedTask) (t : ℕ) → AllByRecursion (λ (y : NumberedTask). IsNamed p (its y).name.name y.name) zs → AllByRecursion (λ (y : NumberedTask). AllByRecursion Own y.unit.entries) zs →
      entries_of_tasks normal.names U t (map single_task (map its zs)) ≡ entries_of_tasks p.names T t zs
  tasks-kept [] t named h = refl
  tasks-kept (y ∷ zs) t named h = ap₂ (λ (a b : List EntryInfo). a ++ b) (entries-kept t y named.0.added y.unit.entries h.0) (tasks-kept zs (t + 1) named.1 h.1)

  -- their names are those of the program
  entries-within : (t : ℕ) (y : NumberedTask) (es : List PEntry) → AllByRecursion Own es → AllByRecursion (IsWithin p.names normal.names begins) (map (entry_of_task p.names T t y) es)
  entries-within t y [] h = tt
  entries-within t y (e ∷ es) h = (own-within p e.name.name.0 h.0.1, entries-within t y es h.1)

  tasks-within : (zs : List NumberedTask) (t : ℕ) → AllByRecursion (λ (y : NumberedTask). AllByRecursion Own y.unit.entries) zs → AllByRecursion (IsWithin p.names normal.names begins) (entries_of_tasks p.names T t zs)
  tasks-within [] t h = tt
  tasks-within (y ∷ zs) t h = all_joined (IsWithin p.names normal.names begins) (map (entry_of_task p.names T t y) y.unit.entries) _ (entries-within t y y.unit.entries h.0) (tasks-within zs (t + 1) h.1)

  numbered : all_numbers U normal ≡ numbers_made p T (all_numbers T p)
  numbered =
      numbers-single U normal (normal-single p T (all_numbers T p))
      ∙ (λ i. record {
        main = p.name.name;
        tasks = task_info normal.names p.name.name ∷ map (λ (t : PTask). task_info normal.names t.name.name) (tasks_of normal);
        entries = entries-are i;
      })
    where
      entries-are : with_origins normal.names (entries_of_tasks normal.names U 1 (map single_task (tasks_of normal))) ≡ with_origins p.names (entries_of_tasks p.names T 1 ys)
      entries-are =
          ap (with_origins normal.names)
          (ap (λ ts. entries_of_tasks normal.names U 1 (map single_task ts)) (normal-tasks-of p T ordered) ∙ tasks-kept ys 1 (all-named p own ded) (entries-own p own T))
          ∙ origins-longer p.names normal.names begins (entries_of_tasks p.names T 1 ys) (tasks-within ys 1 (entries-own p own T))

pub normal_has_numbers : NormalHasNumbers
normal_has_numbers p ordered own ded = numbered p ordered own ded
