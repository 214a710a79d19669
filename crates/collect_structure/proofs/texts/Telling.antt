-- What the declarations of all collecting texts have in common, whether abort statements can stand in the program or not: how they are made from those of
-- the normal form.
use Rattle.std.proofs.Common.{◌≡◌, ℕ, false, not, ◌||◌, List, [], ◌∷◌, ◌++◌, map, refl, sym, ap, ap₂, ◌∙◌, subst, append-nil}
use Rattle.std.specs.List.{AllByRecursion, filter}
use Rattle.common_lemmas.proofs.Lists.{all_joined}
use Rattle.ada_tree.specs.declared.naming.Span.{Span}
use Rattle.ada_tree.specs.declared.naming.Word.{Word}
use Rattle.ada_tree.specs.PlainStmt.{PBody}
use Rattle.ada_tree.specs.PlainDecl.{PTask, PDecl, DTask, DTaskBody, PDecls}
use Rattle.ada_tree.specs.PlainProgram.{PProgram}
use Rattle.syn_event.specs.DeclaredTasks.{decl_list, tasks_in, tasks_of}
use Rattle.syn_event.proofs.DeclLists.{tasks_joined}
use Rattle.normal_laws.proofs.structure.numbers.Listed.{IsPlain, IsOneTask, IsOneBody}
use Rattle.replay_model.specs.ReplayTree.{is_task, is_body}
use Rattle.replay_structure.proofs.texts.Listed.{sorted-plain, plain-tasks, sorted-bodies, sorted-tasks}
use Rattle.collect_model.specs.declared.AddedNames.{AddedNames}
use Rattle.collect_model.specs.Recording.{recorder_declared}
use Rattle.collect_model.specs.CollectTree.{behind_own, task_telling}
use Rattle.collect_structure.proofs.texts.Listed.{all-behind}
use Rattle.normal_laws.proofs.legality.declares_once.Bodies.{body_ids}
use Rattle.replay_structure.proofs.declares_once.Units.{body_words}

-- a body of this name
abbrev pub IsBodyOf : Word → PDecl → Type 0
IsBodyOf w (DTaskBody v objects its s) = v ≡ w
IsBodyOf w _ = ⊥

-- What rewrites declarations: entries have the formal of the caller, bodies have other objects and statements, and all else stays.
pub record IsTelling (n : AddedNames) (f : PDecl → PDecl) : Type 0 where
  pub task : (t : PTask) (s : Span) → f (DTask t s) ≡ DTask (task_telling n t) s
  pub body : (w : Word) (objects : PDecls) (its : PBody) (s : Span) → IsBodyOf w (f (DTaskBody w objects its s))
  pub other : (d : PDecl) → IsPlain d → f d ≡ d

-- The declarations of a text, by the objects, tasks and bodies of the normal form: what main declares more, the recorder and its body are added.
abbrev pub told_with : List (List ℕ) → List PDecl → (PDecl → PDecl) → PDecl → PDecl → List PDecl → List PDecl → List PDecl → List PDecl
told_with names more f recorder last objects tasks bodies =
    behind_own names more objects ++ map f tasks ++ (recorder ∷ []) ++ map f bodies ++ (last ∷ [])

-- the recorder's task
abbrev pub recorder_tasks : AddedNames → PProgram → List PTask
recorder_tasks n q = tasks_in (recorder_declared n q.name.span ∷ [])

-- what holds of all bodies holds of one of this name
of-body : (P : PDecl → Type 0) → ((w : Word) (objects : PDecls) (its : PBody) (s : Span) → P (DTaskBody w objects its s)) →
    (w : Word) (d : PDecl) → IsBodyOf w d → P d
of-body P each w (DTaskBody v objects its s) h = each v objects its s
of-body P each w (DTask t s) h = absurd h
of-body P each w d h = absurd h

-- and what holds of all bodies holds of one of any name
pub of-one-body : (P : PDecl → Type 0) → ((w : Word) (objects : PDecls) (its : PBody) (s : Span) → P (DTaskBody w objects its s)) → (d : PDecl) → IsOneBody d → P d
of-one-body P each (DTaskBody w objects its s) h = each w objects its s
of-one-body P each (DTask t s) h = absurd h
of-one-body P each d h = absurd h

-- a body is no task
body-no-task : (w : Word) (d : PDecl) (ds : List PDecl) → IsBodyOf w d → tasks_in (d ∷ ds) ≡ tasks_in ds
body-no-task w d ds = of-body (λ e. tasks_in (e ∷ ds) ≡ tasks_in ds) (λ v objects its s. refl) w d

-- it has the name that it had
body-word : (w : Word) (d : PDecl) (ds : List PDecl) → IsBodyOf w d → body_words (d ∷ ds) ≡ w ∷ body_words ds
body-word w (DTaskBody v objects its s) ds h = ap (λ u. u ∷ body_words ds) h
body-word w (DTask t s) ds h = absurd h
body-word w d ds h = absurd h

body-id : (w : Word) (d : PDecl) (ds : List PDecl) → IsBodyOf w d → body_ids (d ∷ ds) ≡ w.name.0 ∷ body_ids ds
body-id w (DTaskBody v objects its s) ds h = ap (λ (u : Word). u.name.0 ∷ body_ids ds) h
body-id w (DTask t s) ds h = absurd h
body-id w d ds h = absurd h

module _ (n : AddedNames) (f : PDecl → PDecl) (tells : IsTelling n f) where
  -- ---- lists

  -- what holds of each task with such entries holds of all that stand for tasks
  pub all-told-tasks : (P : PDecl → Type 0) → ((t : PTask) (s : Span) → t.of_kind ≡ false → P (DTask (task_telling n t) s)) → (ds : List PDecl) →
      AllByRecursion IsOneTask ds → AllByRecursion P (map f ds)
  all-told-tasks P each [] h = tt
  all-told-tasks P each (DTask t s ∷ ds) h = (subst P (sym (tells.task t s)) (each t s h.0), all-told-tasks P each ds h.1)
  all-told-tasks P each (d ∷ ds) h = absurd h.0

  -- and what holds of each body, of all that stand for bodies
  pub all-told-bodies : (P : PDecl → Type 0) → ((w : Word) (objects : PDecls) (its : PBody) (s : Span) → P (DTaskBody w objects its s)) → (ds : List PDecl) →
      AllByRecursion IsOneBody ds → AllByRecursion P (map f ds)
  all-told-bodies P each [] h = tt
  all-told-bodies P each (DTaskBody w objects its s ∷ ds) h =
      (of-body P each w (f (DTaskBody w objects its s)) (tells.body w objects its s), all-told-bodies P each ds h.1)
  all-told-bodies P each (d ∷ ds) h = absurd h.0

  pub told-ones : (ds : List PDecl) → AllByRecursion IsOneTask ds → AllByRecursion IsOneTask (map f ds)
  told-ones = all-told-tasks IsOneTask (λ t s one. one)

  pub told-bodies : (ds : List PDecl) → AllByRecursion IsOneBody ds → AllByRecursion IsOneBody (map f ds)
  told-bodies = all-told-bodies IsOneBody (λ w objects its s. tt)

  -- bodies keep their names
  pub told-words : (ds : List PDecl) → body_words (map f ds) ≡ body_words ds
  told-words [] = refl
  told-words (DTaskBody w objects its s ∷ ds) =
      body-word w (f (DTaskBody w objects its s)) (map f ds) (tells.body w objects its s) ∙ ap (λ (l : List Word). w ∷ l) (told-words ds)
  told-words (DTask t s ∷ ds) = ap (λ d. body_words (d ∷ map f ds)) (tells.task t s) ∙ told-words ds
  told-words (d ∷ ds) = ap (λ e. body_words (e ∷ map f ds)) (tells.other d tt) ∙ told-words ds

  pub told-ids : (ds : List PDecl) → body_ids (map f ds) ≡ body_ids ds
  told-ids [] = refl
  told-ids (DTaskBody w objects its s ∷ ds) =
      body-id w (f (DTaskBody w objects its s)) (map f ds) (tells.body w objects its s) ∙ ap (λ (l : List ℕ). w.name.0 ∷ l) (told-ids ds)
  told-ids (DTask t s ∷ ds) = ap (λ d. body_ids (d ∷ map f ds)) (tells.task t s) ∙ told-ids ds
  told-ids (d ∷ ds) = ap (λ e. body_ids (e ∷ map f ds)) (tells.other d tt) ∙ told-ids ds

  -- What holds of each declaration that is added, and of the variables of the normal form, holds of all that stands behind its first declarations.
  pub all-told : (P : PDecl → Type 0) (names : List (List ℕ)) (more : List PDecl) (recorder last : PDecl) (vars tasks bodies : List PDecl) →
      ((t : PTask) (s : Span) → t.of_kind ≡ false → P (DTask (task_telling n t) s)) → ((w : Word) (objects : PDecls) (its : PBody) (s : Span) → P (DTaskBody w objects its s)) →
      AllByRecursion P more → AllByRecursion P vars → AllByRecursion IsOneTask tasks → P recorder → AllByRecursion IsOneBody bodies → IsOneBody last →
      AllByRecursion P (told_with names more f recorder last vars tasks bodies)
  all-told P names more recorder last vars tasks bodies each every m v t r b l =
      all_joined P _ _
      (all_joined P _ _
      (all_joined P _ _
      (all_joined P _ _ (all-behind P names more vars m v) (all-told-tasks P each tasks t))
      (r, tt))
      (all-told-bodies P every bodies b))
      (of-one-body P every last l, tt)

  -- ---- the tasks

  pub told-tasks : (ds : List PDecl) → tasks_in (map f ds) ≡ map (task_telling n) (tasks_in ds)
  told-tasks [] = refl
  told-tasks (DTask t s ∷ ds) = ap (λ d. tasks_in (d ∷ map f ds)) (tells.task t s) ∙ ap (λ l. task_telling n t ∷ l) (told-tasks ds)
  told-tasks (DTaskBody w objects its s ∷ ds) = body-no-task w (f (DTaskBody w objects its s)) (map f ds) (tells.body w objects its s) ∙ told-tasks ds
  told-tasks (d ∷ ds) = ap (λ e. tasks_in (e ∷ map f ds)) (tells.other d tt) ∙ told-tasks ds

  -- The tasks of a text: those of the normal form with further formals, and behind them the recorder.
  pub text-tasks : (q : PProgram) (more : List PDecl) (last : PDecl) → AllByRecursion IsPlain more → IsOneBody last →
      tasks_in (told_with q.names more f (recorder_declared n q.name.span) last (filter (λ d. not (is_task d || is_body d)) (decl_list q.decls))
      (filter is_task (decl_list q.decls)) (filter is_body (decl_list q.decls))) ≡ map (task_telling n) (tasks_of q) ++ recorder_tasks n q
  text-tasks q more last plain one =
      let ds = decl_list q.decls in
      let objects = filter (λ d. not (is_task d || is_body d)) ds in
      let first = behind_own q.names more objects in
      let tasks = map f (filter is_task ds) in
      let recorder = recorder_declared n q.name.span ∷ [] in
      let bodies = map f (filter is_body ds) in
      tasks_joined (first ++ tasks ++ recorder ++ bodies) (last ∷ [])
      ∙ ap (λ l. tasks_in (first ++ tasks ++ recorder ++ bodies) ++ l) (of-one-body (λ d. tasks_in (d ∷ []) ≡ []) (λ w os its s. refl) last one)
      ∙ append-nil (tasks_in (first ++ tasks ++ recorder ++ bodies))
      ∙ tasks_joined (first ++ tasks ++ recorder) bodies
      ∙ ap (λ l. tasks_in (first ++ tasks ++ recorder) ++ l) (told-tasks (filter is_body ds) ∙ ap (map (task_telling n)) (sorted-bodies ds))
      ∙ append-nil (tasks_in (first ++ tasks ++ recorder))
      ∙ tasks_joined (first ++ tasks) recorder
      ∙ ap (λ l. l ++ tasks_in recorder)
      (tasks_joined first tasks
      ∙ ap₂ (λ (a b : List PTask). a ++ b) (plain-tasks first (all-behind IsPlain q.names more objects plain (sorted-plain ds)))
      (told-tasks (filter is_task ds) ∙ ap (map (task_telling n)) (sorted-tasks ds)))
