-- The declarations of a replay text, by those of the normal form.
use Rattle.std.proofs.Common.{◌≡◌, ℕ, Bool, true, false, not, ◌||◌, cond, if◌then◌else◌, List, [], ◌∷◌, ◌++◌, map, refl, ap, ap₂, ◌∙◌, append-nil}
use Rattle.std.specs.List.{AllByRecursion, filter}
use Rattle.std.proofs.lemmas.List.Elements.{filter-append}
use Rattle.ada_tree.specs.declared.naming.Span.{Span}
use Rattle.ada_tree.specs.TypeTable.{TypeTable}
use Rattle.ada_tree.specs.PlainDecl.{PTask, PDecl, DNumber, DObject, DEnumeration, DArray, DSubtype, DException, DIntIo, DPragma, DTask, DTaskBody}
use Rattle.ada_tree.specs.PlainProgram.{PProgram}
use Rattle.syn_event.specs.Numbering.{Numbering}
use Rattle.syn_event.specs.DeclaredTasks.{decl_list, tasks_in, tasks_of}
use Rattle.control_script.specs.declared.Op.{Op}
use Rattle.task_model.specs.Setting.{Setting}
use Rattle.normal_model.specs.NormalTree.{normal_tree}
use Rattle.replay_model.specs.ReplayTree.{is_added_object, behind_own, permit_declared, more_entries, replay_decl, is_task, is_body, last_task, replay_decls}
use Rattle.replay_model.specs.Controlling.{control_declared, idle_declared, control_body, idle_body}
use Rattle.normal_laws.specs.structure.types.Laws.{setting_of}
use Rattle.normal_laws.proofs.structure.numbers.Listed.{IsPlain, IsOneTask, IsOneBody, tasks-all, bodies-all, first-plain, firsts, vars, tasks, bodies, vars-plain, normal-list}
use Rattle.common_lemmas.proofs.Lists.{all_weaker}
use Rattle.syn_event.proofs.DeclLists.{tasks_joined}

-- ---- what declarations are

-- the tests of a plain declaration
pub plain-tests : (d : PDecl) → IsPlain d → (is_task d ≡ false) × (is_body d ≡ false)
plain-tests (DTask t s) h = absurd h
plain-tests (DTaskBody w objects its s) h = absurd h
plain-tests (DNumber w e s) h = (refl, refl)
plain-tests (DObject ws c x i s) h = (refl, refl)
plain-tests (DEnumeration w ws s) h = (refl, refl)
plain-tests (DArray w r x s) h = (refl, refl)
plain-tests (DSubtype w x s) h = (refl, refl)
plain-tests (DException ws s) h = (refl, refl)
plain-tests (DIntIo w s) h = (refl, refl)
plain-tests (DPragma e s) h = (refl, refl)

task-tests : (d : PDecl) → IsOneTask d → (is_task d ≡ true) × (is_body d ≡ false)
task-tests (DTask t s) h = (refl, refl)
task-tests (DTaskBody w objects its s) h = absurd h
task-tests (DNumber w e s) h = absurd h
task-tests (DObject ws c x i s) h = absurd h
task-tests (DEnumeration w ws s) h = absurd h
task-tests (DArray w r x s) h = absurd h
task-tests (DSubtype w x s) h = absurd h
task-tests (DException ws s) h = absurd h
task-tests (DIntIo w s) h = absurd h
task-tests (DPragma e s) h = absurd h

body-tests : (d : PDecl) → IsOneBody d → (is_task d ≡ false) × (is_body d ≡ true)
body-tests (DTaskBody w objects its s) h = (refl, refl)
body-tests (DTask t s) h = absurd h
body-tests (DNumber w e s) h = absurd h
body-tests (DObject ws c x i s) h = absurd h
body-tests (DEnumeration w ws s) h = absurd h
body-tests (DArray w r x s) h = absurd h
body-tests (DSubtype w x s) h = absurd h
body-tests (DException ws s) h = absurd h
body-tests (DIntIo w s) h = absurd h
body-tests (DPragma e s) h = absurd h

-- ---- lists

filter-all : {A : Type 0} (f : A → Bool) (xs : List A) → AllByRecursion (λ x. f x ≡ true) xs → filter f xs ≡ xs
filter-all f [] h = refl
filter-all f (x ∷ xs) h = ap₂ (λ (b : Bool) l. cond b (x ∷ l) l) h.0 (filter-all f xs h.1)

filter-none : {A : Type 0} (f : A → Bool) (xs : List A) → AllByRecursion (λ x. f x ≡ false) xs → filter f xs ≡ []
filter-none f [] h = refl
filter-none f (x ∷ xs) h = ap₂ (λ (b : Bool) l. cond b (x ∷ l) l) h.0 (filter-none f xs h.1)

-- what holds of a declaration and of a list holds of both together
pub all-behind : (P : PDecl → Type 0) (names : List (List ℕ)) (d : PDecl) (xs : List PDecl) → P d → AllByRecursion P xs → AllByRecursion P (behind_own names d xs)
all-behind P names d [] e h = (e, tt)
all-behind P names d (x ∷ xs) e h = by_test (is_added_object names x) (all-behind P names d xs e h.1)
  where
    by_test : (b : Bool) → AllByRecursion P (behind_own names d xs) → AllByRecursion P (if b then d ∷ x ∷ xs else x ∷ behind_own names d xs)
    by_test true k = (e, h)
    by_test false k = (h.0, k)

-- the first declarations stay in front of the permit
pub behind-front : (names : List (List ℕ)) (d : PDecl) (xs ys : List PDecl) → AllByRecursion (λ x. is_added_object names x ≡ false) xs → behind_own names d (xs ++ ys) ≡ xs ++ behind_own names d ys
behind-front names d [] ys h = refl
behind-front names d (x ∷ xs) ys h = ap₂ (λ (b : Bool) l. if b then d ∷ x ∷ xs ++ ys else x ∷ l) h.0 (behind-front names d xs ys h.1)

-- ---- the tasks of a replay text

-- a task with further entries
abbrev pub more_task : PProgram → PTask → PTask
more_task q t = record { name = t.name; of_kind = t.of_kind; entries = more_entries q t; priorities = t.priorities }

-- the task that declares one
abbrev pub task_under_decl : PDecl → List PTask
task_under_decl d = tasks_in (d ∷ [])

replayed-tasks : (g : Setting) (ds : List PDecl) → tasks_in (map (replay_decl g) ds) ≡ map (more_task g.program) (tasks_in ds)
replayed-tasks g [] = refl
replayed-tasks g (DTask t s ∷ ds) = ap (λ l. more_task g.program t ∷ l) (replayed-tasks g ds)
replayed-tasks g (DTaskBody w objects its s ∷ ds) = replayed-tasks g ds
replayed-tasks g (DNumber w e s ∷ ds) = replayed-tasks g ds
replayed-tasks g (DObject ws c x i s ∷ ds) = replayed-tasks g ds
replayed-tasks g (DEnumeration w ws s ∷ ds) = replayed-tasks g ds
replayed-tasks g (DArray w r x s ∷ ds) = replayed-tasks g ds
replayed-tasks g (DSubtype w x s ∷ ds) = replayed-tasks g ds
replayed-tasks g (DException ws s ∷ ds) = replayed-tasks g ds
replayed-tasks g (DIntIo w s ∷ ds) = replayed-tasks g ds
replayed-tasks g (DPragma e s ∷ ds) = replayed-tasks g ds

pub sorted-tasks : (ds : List PDecl) → tasks_in (filter is_task ds) ≡ tasks_in ds
sorted-tasks [] = refl
sorted-tasks (DTask t s ∷ ds) = ap (λ l. t ∷ l) (sorted-tasks ds)
sorted-tasks (DTaskBody w objects its s ∷ ds) = sorted-tasks ds
sorted-tasks (DNumber w e s ∷ ds) = sorted-tasks ds
sorted-tasks (DObject ws c x i s ∷ ds) = sorted-tasks ds
sorted-tasks (DEnumeration w ws s ∷ ds) = sorted-tasks ds
sorted-tasks (DArray w r x s ∷ ds) = sorted-tasks ds
sorted-tasks (DSubtype w x s ∷ ds) = sorted-tasks ds
sorted-tasks (DException ws s ∷ ds) = sorted-tasks ds
sorted-tasks (DIntIo w s ∷ ds) = sorted-tasks ds
sorted-tasks (DPragma e s ∷ ds) = sorted-tasks ds

pub sorted-bodies : (ds : List PDecl) → tasks_in (filter is_body ds) ≡ []
sorted-bodies [] = refl
sorted-bodies (DTask t s ∷ ds) = sorted-bodies ds
sorted-bodies (DTaskBody w objects its s ∷ ds) = sorted-bodies ds
sorted-bodies (DNumber w e s ∷ ds) = sorted-bodies ds
sorted-bodies (DObject ws c x i s ∷ ds) = sorted-bodies ds
sorted-bodies (DEnumeration w ws s ∷ ds) = sorted-bodies ds
sorted-bodies (DArray w r x s ∷ ds) = sorted-bodies ds
sorted-bodies (DSubtype w x s ∷ ds) = sorted-bodies ds
sorted-bodies (DException ws s ∷ ds) = sorted-bodies ds
sorted-bodies (DIntIo w s ∷ ds) = sorted-bodies ds
sorted-bodies (DPragma e s ∷ ds) = sorted-bodies ds

pub sorted-plain : (ds : List PDecl) → AllByRecursion IsPlain (filter (λ d. not (is_task d || is_body d)) ds)
sorted-plain [] = tt
sorted-plain (DTask t s ∷ ds) = sorted-plain ds
sorted-plain (DTaskBody w objects its s ∷ ds) = sorted-plain ds
sorted-plain (DNumber w e s ∷ ds) = (tt, sorted-plain ds)
sorted-plain (DObject ws c x i s ∷ ds) = (tt, sorted-plain ds)
sorted-plain (DEnumeration w ws s ∷ ds) = (tt, sorted-plain ds)
sorted-plain (DArray w r x s ∷ ds) = (tt, sorted-plain ds)
sorted-plain (DSubtype w x s ∷ ds) = (tt, sorted-plain ds)
sorted-plain (DException ws s ∷ ds) = (tt, sorted-plain ds)
sorted-plain (DIntIo w s ∷ ds) = (tt, sorted-plain ds)
sorted-plain (DPragma e s ∷ ds) = (tt, sorted-plain ds)

pub plain-tasks : (ds : List PDecl) → AllByRecursion IsPlain ds → tasks_in ds ≡ []
plain-tasks [] h = refl
plain-tasks (DTask t s ∷ ds) h = absurd h.0
plain-tasks (DTaskBody w objects its s ∷ ds) h = absurd h.0
plain-tasks (DNumber w e s ∷ ds) h = plain-tasks ds h.1
plain-tasks (DObject ws c x i s ∷ ds) h = plain-tasks ds h.1
plain-tasks (DEnumeration w ws s ∷ ds) h = plain-tasks ds h.1
plain-tasks (DArray w r x s ∷ ds) h = plain-tasks ds h.1
plain-tasks (DSubtype w x s ∷ ds) h = plain-tasks ds h.1
plain-tasks (DException ws s ∷ ds) h = plain-tasks ds h.1
plain-tasks (DIntIo w s ∷ ds) h = plain-tasks ds h.1
plain-tasks (DPragma e s ∷ ds) h = plain-tasks ds h.1

-- the tasks of the controller and the idle task
abbrev pub added_tasks : PProgram → Span → ℕ → List PTask
added_tasks q s last = tasks_in (control_declared q s last ∷ idle_declared q s ∷ [])

module _ (g : Setting) (s : Span) (ops : List Op) where
  -- the tasks of a replay text: those of the normal form with further entries, and behind them the controller and the idle task
  pub replay-tasks : tasks_in (replay_decls g s ops) ≡ map (more_task g.program) (tasks_of g.program) ++ added_tasks g.program s (last_task g.numbers)
  replay-tasks =
      let q = g.program in
      let ds = decl_list q.decls in
      let permit = permit_declared q s in
      let plain = filter (λ d. not (is_task d || is_body d)) ds in
      let first = behind_own q.names permit plain in
      let tasks = map (replay_decl g) (filter is_task ds) in
      let control = control_declared q s (last_task g.numbers) ∷ idle_declared q s ∷ [] in
      let bodies = map (replay_decl g) (filter is_body ds) in
      tasks_joined (first ++ tasks ++ control ++ bodies) (control_body g s ops ∷ idle_body q s ∷ [])
      ∙ append-nil (tasks_in (first ++ tasks ++ control ++ bodies))
      ∙ tasks_joined (first ++ tasks ++ control) bodies
      ∙ ap (λ l. tasks_in (first ++ tasks ++ control) ++ l) (replayed-tasks g (filter is_body ds) ∙ ap (map (more_task q)) (sorted-bodies ds))
      ∙ append-nil (tasks_in (first ++ tasks ++ control))
      ∙ tasks_joined (first ++ tasks) control
      ∙ ap (λ l. l ++ tasks_in control)
      (tasks_joined first tasks
      ∙ ap₂ (λ (a b : List PTask). a ++ b) (plain-tasks first (all-behind IsPlain q.names permit plain tt (sorted-plain ds))) (replayed-tasks g (filter is_task ds) ∙ ap (map (more_task q)) (sorted-tasks ds)))

-- ---- the declarations of a normal form

module _ (p : PProgram) (types : TypeTable) (numbers : Numbering) where
  -- what passes a test among them
  sorted : (f : PDecl → Bool) (a b c d : List PDecl) → filter f (firsts p types numbers) ≡ a → filter f (vars p types numbers) ≡ b → filter f (tasks p types numbers) ≡ c → filter f (bodies p types numbers) ≡ d → filter f (decl_list (normal_tree p types numbers).decls) ≡ a ++ (b ++ c ++ d)
  sorted f a b c d first second third fourth =
      ap (filter f) (normal-list p types numbers)
      ∙ filter-append f (firsts p types numbers) (vars p types numbers ++ tasks p types numbers ++ bodies p types numbers)
      ∙ ap₂ (λ (l k : List PDecl). l ++ k) first
      (filter-append f (vars p types numbers ++ tasks p types numbers) (bodies p types numbers) ∙ ap₂ (λ (l k : List PDecl). l ++ k) (filter-append f (vars p types numbers) (tasks p types numbers) ∙ ap₂ (λ (l k : List PDecl). l ++ k) second third) fourth)

  firsts-all : (f : PDecl → Bool) (b : Bool) → ((d : PDecl) → IsPlain d → f d ≡ b) → AllByRecursion (λ d. f d ≡ b) (firsts p types numbers)
  firsts-all f b h = all_weaker IsPlain _ (firsts p types numbers) h (first-plain p.decls [])

  vars-all : (f : PDecl → Bool) (b : Bool) → ((d : PDecl) → IsPlain d → f d ≡ b) → AllByRecursion (λ d. f d ≡ b) (vars p types numbers)
  vars-all f b h = all_weaker IsPlain _ (vars p types numbers) h (vars-plain p types numbers)

  -- the plain ones, the tasks and the bodies
  pub normal-plain : filter (λ d. not (is_task d || is_body d)) (decl_list (normal_tree p types numbers).decls) ≡ firsts p types numbers ++ vars p types numbers
  normal-plain =
      let f : PDecl → Bool = λ d. not (is_task d || is_body d) in
      let g = setting_of p types numbers in
      sorted f (firsts p types numbers) (vars p types numbers) [] []
      (filter-all f (firsts p types numbers) (firsts-all f true (λ d h. ap₂ (λ (a b : Bool). not (a || b)) (plain-tests d h).0 (plain-tests d h).1)))
      (filter-all f (vars p types numbers) (vars-all f true (λ d h. ap₂ (λ (a b : Bool). not (a || b)) (plain-tests d h).0 (plain-tests d h).1)))
      (filter-none f (tasks p types numbers) (all_weaker IsOneTask _ (tasks p types numbers) (λ d h. ap₂ (λ (a b : Bool). not (a || b)) (task-tests d h).0 (task-tests d h).1) (tasks-all g)))
      (filter-none f (bodies p types numbers) (all_weaker IsOneBody _ (bodies p types numbers) (λ d h. ap₂ (λ (a b : Bool). not (a || b)) (body-tests d h).0 (body-tests d h).1) (bodies-all g)))
      ∙ ap (λ l. firsts p types numbers ++ l) (append-nil (vars p types numbers ++ []) ∙ append-nil (vars p types numbers))

  pub normal-tasks : filter is_task (decl_list (normal_tree p types numbers).decls) ≡ tasks p types numbers
  normal-tasks =
      let g = setting_of p types numbers in
      sorted is_task [] [] (tasks p types numbers) []
      (filter-none is_task (firsts p types numbers) (firsts-all is_task false (λ d h. (plain-tests d h).0)))
      (filter-none is_task (vars p types numbers) (vars-all is_task false (λ d h. (plain-tests d h).0)))
      (filter-all is_task (tasks p types numbers) (all_weaker IsOneTask _ (tasks p types numbers) (λ d h. (task-tests d h).0) (tasks-all g)))
      (filter-none is_task (bodies p types numbers) (all_weaker IsOneBody _ (bodies p types numbers) (λ d h. (body-tests d h).0) (bodies-all g)))
      ∙ append-nil (tasks p types numbers)

  pub normal-bodies : filter is_body (decl_list (normal_tree p types numbers).decls) ≡ bodies p types numbers
  normal-bodies =
      let g = setting_of p types numbers in
      sorted is_body [] [] [] (bodies p types numbers)
      (filter-none is_body (firsts p types numbers) (firsts-all is_body false (λ d h. (plain-tests d h).1)))
      (filter-none is_body (vars p types numbers) (vars-all is_body false (λ d h. (plain-tests d h).1)))
      (filter-none is_body (tasks p types numbers) (all_weaker IsOneTask _ (tasks p types numbers) (λ d h. (task-tests d h).1) (tasks-all g)))
      (filter-all is_body (bodies p types numbers) (all_weaker IsOneBody _ (bodies p types numbers) (λ d h. (body-tests d h).1) (bodies-all g)))
