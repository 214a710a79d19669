-- The declarations of a collecting text of a program with abort statements, by those of the normal form.
use Rattle.std.proofs.Common.{◌≡◌, ℕ, zero, suc, ◌≤◌, arith, List, [], ◌∷◌, ◌++◌, map, refl, Bool}
use Rattle.std.specs.List.{AllByRecursion}
use Rattle.common_lemmas.proofs.Lists.{all_joined}
use Rattle.ada_tree.specs.PlainDecl.{PDecl, DTask, DTaskBody}
use Rattle.ada_tree.specs.PlainProgram.{PProgram}
use Rattle.syn_event.specs.DeclaredTasks.{decl_list, tasks_in, tasks_of}
use Rattle.normal_laws.proofs.structure.numbers.Listed.{IsPlain}
use Rattle.replay_model.specs.ReplayTree.{last_task}
use Rattle.collect_model.specs.CollectTree.{main_declared, task_telling}
use Rattle.collect_structure.proofs.texts.Listed.{all-behind, main-plain}
use Rattle.collect_model.specs.aborts.AbortTeller.{AbortTeller}
use Rattle.collect_model.specs.aborts.Places.{places_in}
use Rattle.collect_model.specs.aborts.AbortTree.{taken_declared, refused_declared, places_declared, abort_decl, objects_told, recorder_body_told, abort_decls}
use Rattle.ada_tree.specs.declared.naming.Span.{Span}
use Rattle.collect_structure.proofs.texts.Telling.{IsTelling, recorder_tasks, text-tasks}

-- ---- places

-- what holds of the variables of each place holds of those of several
pub all-places : (P : PDecl → Type 0) (x : AbortTeller) (s : Span) (most n : ℕ) → n ≤ most → ((p : ℕ) → 1 ≤ p → p ≤ most → P (taken_declared s (x.taken p)) × P (refused_declared s (x.refused p))) →
    AllByRecursion P (places_declared x s n)
all-places P x s most zero le h = tt
all-places P x s most (suc n) le h =
    let k = h (suc n) (omega arith) le in
    all_joined P (places_declared x s n) (taken_declared s (x.taken (suc n)) ∷ refused_declared s (x.refused (suc n)) ∷ []) (all-places P x s most n (omega (arith, le)) h) (k.0, (k.1, tt))

-- ---- declarations

-- the text is told
pub abort-tells : (x : AbortTeller) (names : List (List ℕ)) → IsTelling x.teller.added (abort_decl x names)
abort-tells x names = record { task = λ t s. refl; body = λ w objects its s. refl; other = kept }
  where
    kept : (d : PDecl) → IsPlain d → abort_decl x names d ≡ d
    kept (DTask t s) h = absurd h
    kept (DTaskBody w objects its s) h = absurd h
    kept d h = refl

-- what main declares more is plain
pub more-plain : (x : AbortTeller) (s : Span) (instance : Bool) (last places : ℕ) → AllByRecursion IsPlain (main_declared x.teller.added s instance last ++ places_declared x s places)
more-plain x s instance last places =
    all_joined IsPlain (main_declared x.teller.added s instance last) (places_declared x s places) (main-plain x.teller.added s instance last)
    (all-places IsPlain x s places places (omega arith) (λ p low high. (tt, tt)))

-- the objects of main are plain ones
pub objects-plain : (x : AbortTeller) (q : PProgram) (objects : List PDecl) → AllByRecursion IsPlain objects → AllByRecursion IsPlain (objects_told x q objects)
objects-plain x q objects h = all-behind IsPlain q.names _ objects (more-plain x q.name.span _ _ (places_in q.body)) h

-- The tasks of the text: those of the normal form with further formals, and behind them the recorder.
pub abort-tasks : (x : AbortTeller) (q : PProgram) → tasks_in (abort_decls x q (decl_list q.decls)) ≡ map (task_telling x.teller.added) (tasks_of q) ++ recorder_tasks x.teller.added q
abort-tasks x q =
    text-tasks x.teller.added (abort_decl x q.names) (abort-tells x q.names) q _ (recorder_body_told x q)
    (more-plain x q.name.span _ (last_task x.teller.numbers) (places_in q.body)) tt
