-- What a replay text counts over the whole keeps to the limits: its tasks, their entries, and what is copied.
use Rattle.std.proofs.Common.{◌≡◌, ℕ, ◌+◌, ◌*◌, ◌≤◌, Bool, true, false, if◌then◌else◌, List, [], ◌∷◌, ◌++◌, length, map, None, refl, sym, ap, subst, ◌∙◌, length-append, arith}
use Rattle.std.specs.List.{AllByRecursion}
use Rattle.std.proofs.lemmas.List.{length-map}
use Rattle.common_lemmas.proofs.Lists.{all_joined}
use Rattle.ada_tree.specs.declared.naming.Span.{Span}
use Rattle.ada_tree.specs.PlainDecl.{PEntry, PTask, PDecl, DNumber, DObject, DEnumeration, DArray, DSubtype, DException, DIntIo, DPragma, DTask, DTaskBody, PDecls, decls_of}
use Rattle.ada_tree.specs.PlainProgram.{PProgram}
use Rattle.syn_event.specs.declared.numbering.Mode.TheVariants.{Any}
use Rattle.syn_event.specs.declared.limits.What.TheVariants.{Tasks, Entries, Copies}
use Rattle.syn_event.specs.CheckScope.{CheckScope, CheckSite, counts}
use Rattle.syn_event.specs.CheckSites.{site, numbered, tasks_sites, entries_of_part, entries_sites, copies_sites, all_copies_sites, counted_sites}
use Rattle.syn_event.specs.NamedTasks.{NamedTasks, named_tasks, with_type, single_task_name, task_names_in, task_names_of, task_count}
use Rattle.syn_event.specs.DeclaredTasks.{tasks_in}
use Rattle.task_laws.specs.legal.sites.Met.{IsCheckMet}
use Rattle.normal_laws.proofs.structure.checked.Places.{passed-not}
use Rattle.replay_model.specs.Names.{never_text, join_text}
use Rattle.replay_model.specs.ReplayTree.{double_entry}
use Rattle.replay_model.specs.Controlling.{added_entry}
use Rattle.replay_structure.proofs.texts.Listed.{more_task}
use Rattle.normal_laws.specs.structure.numbers.Single.{IsSingle}
use Rattle.replay_structure.specs.checked.Checkable.{entries_count}
use Rattle.normal_laws.proofs.structure.numbers.TasksNumbered.{no-parts}

-- ---- the names of tasks

-- the single tasks of declarations
abbrev pub singles : List PDecl → List NamedTasks
singles [] = []
singles (DTask t s ∷ xs) = named_tasks t.name s t None ∷ singles xs
singles (_ ∷ xs) = singles xs

single-named : (b : Bool) (t : PTask) (s : Span) (rest : PDecls) (found : List NamedTasks) → b ≡ false → task_names_in [] rest ≡ found → single_task_name b t s ++ task_names_in (with_type [] b t) rest ≡ named_tasks t.name s t None ∷ found
single-named true t s rest found e f = cc
single-named false t s rest found e f = ap (λ l. named_tasks t.name s t None ∷ l) f

-- where no task type is declared these are all
pub singles-named : (xs : List PDecl) → AllByRecursion IsSingle xs → task_names_in [] (decls_of xs) ≡ singles xs
singles-named [] h = refl
singles-named (DTask t s ∷ xs) h = single-named t.of_kind t s (decls_of xs) (singles xs) h.0 (singles-named xs h.1)
singles-named (DObject ws c x i s ∷ xs) h = ap (λ l. l ++ task_names_in [] (decls_of xs)) (no-parts ws x) ∙ singles-named xs h.1
singles-named (DTaskBody w objects its s ∷ xs) h = singles-named xs h.1
singles-named (DNumber w e s ∷ xs) h = singles-named xs h.1
singles-named (DEnumeration w ws s ∷ xs) h = singles-named xs h.1
singles-named (DArray w r x s ∷ xs) h = singles-named xs h.1
singles-named (DSubtype w x s ∷ xs) h = singles-named xs h.1
singles-named (DException ws s ∷ xs) h = singles-named xs h.1
singles-named (DIntIo w s ∷ xs) h = singles-named xs h.1
singles-named (DPragma e s ∷ xs) h = singles-named xs h.1

-- ---- limits

module _ (names : List (List ℕ)) (d : CheckScope) where
  abbrev M' : CheckSite → Type 0
  M' = IsCheckMet Any names

  task-counted : (n : ℕ) (s : Span) → n + 1 ≤ 202 → M' (site d (counts Tasks n 1 s))
  task-counted n s h = record { shared = refl; accepts = refl; selects = refl; twice = refl; reserved = refl; main = refl; order = refl; bodies = refl; exits = refl; raises = refl; limits = passed-not Tasks 202 n 1 s h }

  entry-counted : (n : ℕ) (s : Span) → n + 1 ≤ 2600 → M' (site d (counts Entries n 1 s))
  entry-counted n s h = record { shared = refl; accepts = refl; selects = refl; twice = refl; reserved = refl; main = refl; order = refl; bodies = refl; exits = refl; raises = refl; limits = passed-not Entries 2600 n 1 s h }

  copy-counted : (n k : ℕ) (s : Span) → M' (site d (counts Copies n k s))
  copy-counted n k s = record { shared = refl; accepts = refl; selects = refl; twice = refl; reserved = refl; main = refl; order = refl; bodies = refl; exits = refl; raises = refl; limits = refl }

  tasks-met : (xs : List PDecl) (n : ℕ) → n + length (tasks_in xs) ≤ 202 → AllByRecursion M' (tasks_sites d n (singles xs))
  tasks-met [] n le = tt
  tasks-met (DTask t s ∷ xs) n le = (task-counted n s (omega (arith, le)), tasks-met xs (n + 1) (omega (arith, le)))
  tasks-met (DObject ws c x i s ∷ xs) n le = tasks-met xs n le
  tasks-met (DTaskBody w objects its s ∷ xs) n le = tasks-met xs n le
  tasks-met (DNumber w e s ∷ xs) n le = tasks-met xs n le
  tasks-met (DEnumeration w ws s ∷ xs) n le = tasks-met xs n le
  tasks-met (DArray w r x s ∷ xs) n le = tasks-met xs n le
  tasks-met (DSubtype w x s ∷ xs) n le = tasks-met xs n le
  tasks-met (DException ws s ∷ xs) n le = tasks-met xs n le
  tasks-met (DIntIo w s ∷ xs) n le = tasks-met xs n le
  tasks-met (DPragma e s ∷ xs) n le = tasks-met xs n le

  numbered-met : (n : ℕ) (ss : List Span) → n + length ss ≤ 2600 → AllByRecursion M' (numbered d Entries n ss)
  numbered-met n [] le = tt
  numbered-met n (s ∷ ss) le = (entry-counted n s (omega (arith, le)), numbered-met (n + 1) ss (omega (arith, le)))

  -- those of a single task
  part-met : (t : PTask) (s : Span) (n : ℕ) → t.of_kind ≡ false → n + length t.entries ≤ 2600 → AllByRecursion M' (entries_of_part d n (named_tasks t.name s t None))
  part-met t s n single le =
      let long : length (map (λ e. e.span) t.entries) ≡ length t.entries = length-map t.entries (λ e. e.span) in
      subst
      (λ b. AllByRecursion M' (if b then site d (counts Entries n (task_count d.types (named_tasks t.name s t None) * length t.entries) s) ∷ [] else numbered d Entries n (map (λ e. e.span) t.entries)))
      (sym single) (numbered-met n (map (λ e. e.span) t.entries) (omega (arith, le, long)))

  entries-met : (xs : List PDecl) (n : ℕ) → AllByRecursion IsSingle xs → n + entries_count (tasks_in xs) ≤ 2600 → AllByRecursion M' (entries_sites d n (singles xs))
  entries-met [] n h le = tt
  entries-met (DTask t s ∷ xs) n h le =
      all_joined M' (entries_of_part d n (named_tasks t.name s t None)) (entries_sites d (n + 1 * length t.entries) (singles xs)) (part-met t s n h.0 (omega (arith, le))) (entries-met xs (n + 1 * length t.entries) h.1 (omega (arith, le)))
  entries-met (DObject ws c x i s ∷ xs) n h le = entries-met xs n h.1 le
  entries-met (DTaskBody w objects its s ∷ xs) n h le = entries-met xs n h.1 le
  entries-met (DNumber w e s ∷ xs) n h le = entries-met xs n h.1 le
  entries-met (DEnumeration w ws s ∷ xs) n h le = entries-met xs n h.1 le
  entries-met (DArray w r x s ∷ xs) n h le = entries-met xs n h.1 le
  entries-met (DSubtype w x s ∷ xs) n h le = entries-met xs n h.1 le
  entries-met (DException ws s ∷ xs) n h le = entries-met xs n h.1 le
  entries-met (DIntIo w s ∷ xs) n h le = entries-met xs n h.1 le
  entries-met (DPragma e s ∷ xs) n h le = entries-met xs n h.1 le

  copies-met : (share : NamedTasks → ℕ) (n : ℕ) (xs : List NamedTasks) → AllByRecursion M' (copies_sites d share n xs)
  copies-met share n [] = tt
  copies-met share n (x ∷ xs) = (copy-counted n (share x) x.name.span, copies-met share (n + share x) xs)

  -- what is counted over a program whose declarations are these
  pub counted-met : (p : PProgram) (xs : List PDecl) → p.decls ≡ decls_of xs → AllByRecursion IsSingle xs → length (tasks_in xs) ≤ 202 → entries_count (tasks_in xs) ≤ 2600 → AllByRecursion M' (counted_sites d p)
  counted-met p xs e h few less =
      let named : task_names_of p ≡ singles xs = ap (task_names_in []) e ∙ singles-named xs h in
      all_joined M' (tasks_sites d 0 (task_names_of p) ++ entries_sites d 0 (task_names_of p)) (all_copies_sites d (task_names_of p) p)
      (all_joined M' (tasks_sites d 0 (task_names_of p)) (entries_sites d 0 (task_names_of p)) (subst (λ l. AllByRecursion M' (tasks_sites d 0 l)) (sym named) (tasks-met xs 0 (omega (arith, few))))
      (subst (λ l. AllByRecursion M' (entries_sites d 0 l)) (sym named) (entries-met xs 0 h (omega (arith, less)))))
      (copy-counted 0 _ p.name.span, copies-met _ _ (task_names_of p))

-- ---- sums

pub entries-joined : (xs ys : List PTask) → entries_count (xs ++ ys) ≡ entries_count xs + entries_count ys
entries-joined [] ys = let e : entries_count ys ≡ 0 + entries_count ys = omega arith in e
entries-joined (x ∷ xs) ys = let e : entries_count (xs ++ ys) ≡ entries_count xs + entries_count ys = entries-joined xs ys in omega (arith, e)

more-long : (q : PProgram) (t : PTask) → length (more_task q t).entries ≡ 2 * length t.entries + 2
more-long q t =
    let two : List PEntry = added_entry q t.name.span never_text None [] ∷ added_entry q t.name.span join_text None [] ∷ [] in
    let e : length ((t.entries ++ map (double_entry q) t.entries) ++ two) ≡ length (t.entries ++ map (double_entry q) t.entries) + 2 = length-append (t.entries ++ map (double_entry q) t.entries) two in
    let f : length (t.entries ++ map (double_entry q) t.entries) ≡ length t.entries + length (map (double_entry q) t.entries) = length-append t.entries (map (double_entry q) t.entries) in
    let h : length (map (double_entry q) t.entries) ≡ length t.entries = length-map t.entries (double_entry q) in
    omega (arith, e, f, h)

-- each task has its entries twice, and two more
pub entries-doubled : (q : PProgram) (ts : List PTask) → entries_count (map (more_task q) ts) ≡ 2 * entries_count ts + 2 * length ts
entries-doubled q [] = refl
entries-doubled q (t ∷ ts) =
    let e : entries_count (map (more_task q) ts) ≡ 2 * entries_count ts + 2 * length ts = entries-doubled q ts in
    let f : length (more_task q t).entries ≡ 2 * length t.entries + 2 = more-long q t in
    omega (arith, e, f)
