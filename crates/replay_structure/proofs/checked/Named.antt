-- The names of all bodies of a replay text: those of the normal form's bodies, and those of the controller and the idle task.
use Rattle.std.proofs.Common.{◌≡◌, ℕ, ◌==◌, true, List, [], ◌∷◌, ◌++◌, map, refl, ap, ◌∙◌}
use Rattle.std.specs.List.{AllByRecursion, list_any}
use Rattle.std.proofs.lemmas.Bool.{or_left, or_right}
use Rattle.std.proofs.lemmas.List.Folds.{list_any-append}
use Rattle.ada_tree.specs.PlainDecl.{PDecl, DNumber, DObject, DEnumeration, DArray, DSubtype, DException, DIntIo, DPragma, DTask, DTaskBody, PDecls, no_decl, decl_then, decls_of}
use Rattle.syn_event.specs.CheckSites.{body_names}
use Rattle.syn_event.specs.DeclaredTasks.{decl_list}
use Rattle.task_model.specs.Setting.{Setting}
use Rattle.normal_laws.proofs.structure.numbers.Listed.{IsPlain, IsOneTask, IsOneBody}
use Rattle.replay_model.specs.ReplayTree.{replay_decl}
use Rattle.normal_laws.proofs.legality.declares_once.Bodies.{body_ids, ids-joined}

pub ids-listed : (ds : PDecls) → body_names ds ≡ body_ids (decl_list ds)
ids-listed no_decl = refl
ids-listed (decl_then (DTaskBody w objects its s) ds) = ap (λ l. w.name.0 ∷ l) (ids-listed ds)
ids-listed (decl_then (DTask t s) ds) = ids-listed ds
ids-listed (decl_then (DNumber w e s) ds) = ids-listed ds
ids-listed (decl_then (DObject ws c x i s) ds) = ids-listed ds
ids-listed (decl_then (DEnumeration w ws s) ds) = ids-listed ds
ids-listed (decl_then (DArray w r x s) ds) = ids-listed ds
ids-listed (decl_then (DSubtype w x s) ds) = ids-listed ds
ids-listed (decl_then (DException ws s) ds) = ids-listed ds
ids-listed (decl_then (DIntIo w s) ds) = ids-listed ds
ids-listed (decl_then (DPragma e s) ds) = ids-listed ds

pub ids-of : (xs : List PDecl) → body_names (decls_of xs) ≡ body_ids xs
ids-of [] = refl
ids-of (DTaskBody w objects its s ∷ xs) = ap (λ l. w.name.0 ∷ l) (ids-of xs)
ids-of (DTask t s ∷ xs) = ids-of xs
ids-of (DNumber w e s ∷ xs) = ids-of xs
ids-of (DObject ws c x i s ∷ xs) = ids-of xs
ids-of (DEnumeration w ws s ∷ xs) = ids-of xs
ids-of (DArray w r x s ∷ xs) = ids-of xs
ids-of (DSubtype w x s ∷ xs) = ids-of xs
ids-of (DException ws s ∷ xs) = ids-of xs
ids-of (DIntIo w s ∷ xs) = ids-of xs
ids-of (DPragma e s ∷ xs) = ids-of xs

pub plain-ids : (xs : List PDecl) → AllByRecursion IsPlain xs → body_ids xs ≡ []
plain-ids [] h = refl
plain-ids (DTaskBody w objects its s ∷ xs) h = absurd h.0
plain-ids (DTask t s ∷ xs) h = absurd h.0
plain-ids (DNumber w e s ∷ xs) h = plain-ids xs h.1
plain-ids (DObject ws c x i s ∷ xs) h = plain-ids xs h.1
plain-ids (DEnumeration w ws s ∷ xs) h = plain-ids xs h.1
plain-ids (DArray w r x s ∷ xs) h = plain-ids xs h.1
plain-ids (DSubtype w x s ∷ xs) h = plain-ids xs h.1
plain-ids (DException ws s ∷ xs) h = plain-ids xs h.1
plain-ids (DIntIo w s ∷ xs) h = plain-ids xs h.1
plain-ids (DPragma e s ∷ xs) h = plain-ids xs h.1

pub task-ids : (xs : List PDecl) → AllByRecursion IsOneTask xs → body_ids xs ≡ []
task-ids [] h = refl
task-ids (DTask t s ∷ xs) h = task-ids xs h.1
task-ids (DTaskBody w objects its s ∷ xs) h = absurd h.0
task-ids (DNumber w e s ∷ xs) h = absurd h.0
task-ids (DObject ws c x i s ∷ xs) h = absurd h.0
task-ids (DEnumeration w ws s ∷ xs) h = absurd h.0
task-ids (DArray w r x s ∷ xs) h = absurd h.0
task-ids (DSubtype w x s ∷ xs) h = absurd h.0
task-ids (DException ws s ∷ xs) h = absurd h.0
task-ids (DIntIo w s ∷ xs) h = absurd h.0
task-ids (DPragma e s ∷ xs) h = absurd h.0

pub body-ids-same : (g : Setting) (xs : List PDecl) → AllByRecursion IsOneBody xs → body_ids (map (replay_decl g) xs) ≡ body_ids xs
body-ids-same g [] h = refl
body-ids-same g (DTaskBody w objects its s ∷ xs) h = ap (λ l. w.name.0 ∷ l) (body-ids-same g xs h.1)
body-ids-same g (DTask t s ∷ xs) h = absurd h.0
body-ids-same g (DNumber w e s ∷ xs) h = absurd h.0
body-ids-same g (DObject ws c x i s ∷ xs) h = absurd h.0
body-ids-same g (DEnumeration w ws s ∷ xs) h = absurd h.0
body-ids-same g (DArray w r x s ∷ xs) h = absurd h.0
body-ids-same g (DSubtype w x s ∷ xs) h = absurd h.0
body-ids-same g (DException ws s ∷ xs) h = absurd h.0
body-ids-same g (DIntIo w s ∷ xs) h = absurd h.0
body-ids-same g (DPragma e s ∷ xs) h = absurd h.0

-- a name among the bodies of a part is among those of the whole
pub any-front : (k : ℕ) (xs ys : List PDecl) → list_any (λ n. n == k) (body_ids xs) ≡ true → list_any (λ n. n == k) (body_ids (xs ++ ys)) ≡ true
any-front k xs ys h = ap (list_any (λ n. n == k)) (ids-joined xs ys) ∙ list_any-append (λ n. n == k) (body_ids xs) (body_ids ys) ∙ or_left (list_any (λ n. n == k) (body_ids xs)) (list_any (λ n. n == k) (body_ids ys)) h

pub any-back : (k : ℕ) (xs ys : List PDecl) → list_any (λ n. n == k) (body_ids ys) ≡ true → list_any (λ n. n == k) (body_ids (xs ++ ys)) ≡ true
any-back k xs ys h = ap (list_any (λ n. n == k)) (ids-joined xs ys) ∙ list_any-append (λ n. n == k) (body_ids xs) (body_ids ys) ∙ or_right (list_any (λ n. n == k) (body_ids xs)) (list_any (λ n. n == k) (body_ids ys)) h
