-- The tasks of a program in which each task is declared as a single one, and their numbers.
use Rattle.std.proofs.Common.{◌≡◌, ℕ, suc, ◌+◌, Bool, true, false, List, [], ◌∷◌, ◌++◌, length, map, flat_map, None, refl, sym, ap, ◌∙◌, arith}
use Rattle.std.specs.List.{AllByRecursion}
use Rattle.std.proofs.lemmas.List.{append_assoc}
use Rattle.ada_tree.specs.declared.naming.Span.{Span}
use Rattle.ada_tree.specs.declared.naming.NameId.{NameId}
use Rattle.ada_tree.specs.declared.naming.Word.{Word}
use Rattle.ada_tree.specs.TypeTable.{TypeTable}
use Rattle.ada_tree.specs.PlainDecl.{PShape, OPlain, OArray, PTask, DNumber, DObject, DEnumeration, DArray, DSubtype, DException, DIntIo, DPragma, DTask, DTaskBody, PDecls, no_decl, decl_then}
use Rattle.ada_tree.specs.PlainProgram.{PProgram}
use Rattle.syn_event.specs.Numbering.{Numbering}
use Rattle.syn_event.specs.AddedNames.{task_info, with_origins}
use Rattle.syn_event.specs.NamedTasks.{with_type, single_task_name, object_task_names, task_names_in, NumberedTask, tasks_of_name}
use Rattle.syn_event.specs.AllNumbers.{info_of_task, entry_of_task, entries_of_tasks, all_numbers}
use Rattle.syn_event.specs.DeclaredTasks.{decl_list, tasks_in, tasks_of}
use Rattle.normal_laws.specs.structure.numbers.Single.{IsSingle}

-- a task that is declared as a single one
abbrev pub single_task : PTask → NumberedTask
single_task t = record { name = t.name.name; unit = t; member = None }

-- without task types no object is a task
pub no-parts : (names : List Word) (x : PShape) → object_task_names [] names x ≡ []
no-parts names (OPlain x) = refl
no-parts names (OArray index x) = refl

module _ (types : TypeTable) where
  one-part : (b : Bool) (t : PTask) (s : Span) (rest : PDecls) (ts : List PTask) → b ≡ false → flat_map (tasks_of_name types) (task_names_in [] rest) ≡ map single_task ts →
      flat_map (tasks_of_name types) (single_task_name b t s ++ task_names_in (with_type [] b t) rest) ≡ map single_task (t ∷ ts)
  one-part false t s rest ts e h = ap (λ l. single_task t ∷ l) h
  one-part true t s rest ts e h = cc

  pub single-numbered-tasks : (ds : PDecls) → AllByRecursion IsSingle (decl_list ds) → flat_map (tasks_of_name types) (task_names_in [] ds) ≡ map single_task (tasks_in (decl_list ds))
  single-numbered-tasks no_decl h = refl
  single-numbered-tasks (decl_then (DTask t s) rest) h = one-part t.of_kind t s rest (tasks_in (decl_list rest)) h.0 (single-numbered-tasks rest h.1)
  single-numbered-tasks (decl_then (DObject names c x i s) rest) h = ap (λ l. flat_map (tasks_of_name types) (l ++ task_names_in [] rest)) (no-parts names x) ∙ single-numbered-tasks rest h.1
  single-numbered-tasks (decl_then (DTaskBody w objects its s) rest) h = single-numbered-tasks rest h.1
  single-numbered-tasks (decl_then (DNumber w e s) rest) h = single-numbered-tasks rest h.1
  single-numbered-tasks (decl_then (DEnumeration w ws s) rest) h = single-numbered-tasks rest h.1
  single-numbered-tasks (decl_then (DArray w r x s) rest) h = single-numbered-tasks rest h.1
  single-numbered-tasks (decl_then (DSubtype w x s) rest) h = single-numbered-tasks rest h.1
  single-numbered-tasks (decl_then (DException ws s) rest) h = single-numbered-tasks rest h.1
  single-numbered-tasks (decl_then (DIntIo w s) rest) h = single-numbered-tasks rest h.1
  single-numbered-tasks (decl_then (DPragma e s) rest) h = single-numbered-tasks rest h.1

-- the numbers by the tasks that are declared
abbrev pub single_numbers : List (List ℕ) → TypeTable → NameId → List PTask → Numbering
single_numbers names types main ts = record {
  main = main;
  tasks = task_info names main ∷ map (λ t. task_info names t.name.name) ts;
  entries = with_origins names (entries_of_tasks names types 1 (map single_task ts));
}

infos-of : (names : List (List ℕ)) (ts : List PTask) → map (info_of_task names) (map single_task ts) ≡ map (λ (t : PTask). task_info names t.name.name) ts
infos-of names [] = refl
infos-of names (t ∷ ts) = ap (λ l. task_info names t.name.name ∷ l) (infos-of names ts)

pub numbers-single : (types : TypeTable) (q : PProgram) → AllByRecursion IsSingle (decl_list q.decls) → all_numbers types q ≡ single_numbers q.names types q.name.name (tasks_of q)
numbers-single types q h =
    ap (λ xs. record { main = q.name.name; tasks = task_info q.names q.name.name ∷ map (info_of_task q.names) xs; entries = with_origins q.names (entries_of_tasks q.names types 1 xs) }) (single-numbered-tasks types q.decls h)
    ∙ ap (λ l. record { main = q.name.name; tasks = task_info q.names q.name.name ∷ l; entries = with_origins q.names (entries_of_tasks q.names types 1 (map single_task (tasks_of q))) }) (infos-of q.names (tasks_of q))

-- the entries of some tasks and then of others
pub entries-joined : (names : List (List ℕ)) (types : TypeTable) (t : ℕ) (xs ys : List NumberedTask) →
    entries_of_tasks names types t (xs ++ ys) ≡ entries_of_tasks names types t xs ++ entries_of_tasks names types (t + length xs) ys
entries-joined names types t [] ys = ap (λ n. entries_of_tasks names types n ys) (let e : t ≡ t + 0 = omega arith in e)
entries-joined names types t (x ∷ xs) ys =
    ap (λ l. map (entry_of_task names types t x) x.unit.entries ++ l) (entries-joined names types (t + 1) xs ys ∙ ap (λ n. entries_of_tasks names types (t + 1) xs ++ entries_of_tasks names types n ys) (let e : (t + 1) + length xs ≡ t + suc (length xs) = omega arith in e))
    ∙ sym (append_assoc (map (entry_of_task names types t x) x.unit.entries) (entries_of_tasks names types (t + 1) xs) (entries_of_tasks names types (t + suc (length xs)) ys))
