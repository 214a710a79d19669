-- The names that main's declarations give to main: those of tasks are none of those that the first declarations of a normal form give.
use Rattle.std.proofs.Common.{◌≡◌, ℕ, Bool, true, false, ◌==◌, List, [], ◌∷◌, ◌++◌, map, is_some, Option, Some, None, refl, sym, ap, ◌∙◌, subst, true≢false}
use Rattle.std.specs.List.{AllByRecursion}
use Rattle.std.proofs.lemmas.Bool.{or_parts, or_from, or_left, eqb-true, eq-eqb}
use Rattle.common_lemmas.proofs.Lists.{all_joined, all_weaker}
use Rattle.ada_tree.specs.declared.naming.Span.{Span}
use Rattle.ada_tree.specs.declared.naming.Word.{Word}
use Rattle.ada_tree.specs.PlainExpr.{PDrange}
use Rattle.ada_tree.specs.PlainDecl.{PShape, OPlain, OArray, PInit, PTask, PDecl, DNumber, DObject, DEnumeration, DArray, DSubtype, DException, DIntIo, DPragma, DTask, DTaskBody, PDecls, no_decl, decl_then}
use Rattle.ada_static_rules.specs.Scope.{Scope}
use Rattle.ada_static_rules.specs.Declaring.{after_decl, after_decls}
use Rattle.ada_static_rules.specs.RuleDuplicate.{is_among}
use Rattle.ada_static_rules.specs.Sites.{with_words}
use Rattle.syn_event.specs.NamedTasks.{NamedTasks, type_named, with_type, task_names_of_type, object_task_names, single_task_name, task_names_in}
use Rattle.normal_model.specs.NormalTree.{mark_of, unless_left, first_decls}
use Rattle.task_laws.specs.legal.rewritten_types.Rewriting.{names_declared, IsUnused, DeclareOnce}
use Rattle.normal_laws.specs.structure.once.Apart.{IsFreeOf, AreApart}
use Rattle.normal_laws.proofs.structure.once.Once.{free-front, free-back, free-both}
use Rattle.normal_laws.proofs.structure.once.FirstDecls.{here-after}
use Rattle.normal_laws.proofs.structure.once.TaskNames.{among-words}

-- ---- ids

abbrev pub word_ids : List Word → List ℕ
word_ids ws = map (λ w. w.name.0) ws

-- the names that declarations give to main
abbrev pub ids_declared : PDecls → List ℕ
ids_declared no_decl = []
ids_declared (decl_then d rest) = word_ids (names_declared d) ++ ids_declared rest

pub words-free : (here : List ℕ) (ws : List Word) (x : ℕ) → IsFreeOf (with_words here ws) x → IsFreeOf here x × IsFreeOf (word_ids ws) x
words-free here [] x h = (h, refl)
words-free here (w ∷ ws) x h =
    let r = words-free (w.name.0 ∷ here) ws x h in
    let q = or_parts (w.name.0 == x) (is_among here x) r.0 in
    (q.1, or_from (w.name.0 == x) (is_among (word_ids ws) x) q.0 r.1)

pub free-words : (here : List ℕ) (ws : List Word) (x : ℕ) → IsFreeOf here x → IsFreeOf (word_ids ws) x → IsFreeOf (with_words here ws) x
free-words here [] x h k = h
free-words here (w ∷ ws) x h k = let q = or_parts (w.name.0 == x) (is_among (word_ids ws) x) k in free-words (w.name.0 ∷ here) ws x (or_from (w.name.0 == x) (is_among here x) q.0 h) q.1

words-in : (here : List ℕ) (ws : List Word) → AllByRecursion (λ (w : Word). is_among (with_words here ws) w.name.0 ≡ true) ws
words-in here [] = tt
words-in here (w ∷ ws) =
    (among-words (w.name.0 ∷ here) ws w.name.0 (or_left (w.name.0 == w.name.0) (is_among here w.name.0) (eq-eqb w.name.0 w.name.0 refl)), words-in (w.name.0 ∷ here) ws)

-- a name that is one of some is free of names that are apart from them
pub member-free : (here ys : List ℕ) (x : ℕ) → is_among here x ≡ true → AreApart here ys → IsFreeOf ys x
member-free here [] x e h = refl
member-free here (y ∷ ys) x e h = or_from (y == x) (is_among ys x) (by_test (y == x) refl) (member-free here ys x e h.1)
  where
    by_test : (b : Bool) → (y == x) ≡ b → b ≡ false
    by_test false f = refl
    by_test true f = absurd (true≢false (sym e ∙ ap (is_among here) (sym (eqb-true y x f)) ∙ h.0))

-- ---- behind one declaration

names-in : (s : Scope) (d : PDecl) → AllByRecursion (λ (w : Word). is_among (after_decl s d).here w.name.0 ≡ true) (names_declared d)
names-in s d = subst (λ (l : List ℕ). AllByRecursion (λ (w : Word). is_among l w.name.0 ≡ true) (names_declared d)) (sym (here-after s d)) (words-in s.here (names_declared d))

pub behind-free : (s : Scope) (d : PDecl) (x : ℕ) → IsFreeOf (after_decl s d).here x → IsFreeOf s.here x × IsFreeOf (word_ids (names_declared d)) x
behind-free s d x h = words-free s.here (names_declared d) x (subst (λ (l : List ℕ). IsFreeOf l x) (here-after s d) h)

before-apart : (s : Scope) (d : PDecl) (ys : List ℕ) → AreApart (after_decl s d).here ys → AreApart s.here ys
before-apart s d ys h = all_weaker (IsFreeOf (after_decl s d).here) (IsFreeOf s.here) ys (λ y e. (behind-free s d y e).0) h

-- the names of the declaration are free of names that are apart from those behind it
names-free : (s : Scope) (d : PDecl) (ys : List ℕ) → AreApart (after_decl s d).here ys → AllByRecursion (λ (w : Word). IsFreeOf ys w.name.0) (names_declared d)
names-free s d ys h = all_weaker (λ (w : Word). is_among (after_decl s d).here w.name.0 ≡ true) (λ (w : Word). IsFreeOf ys w.name.0) (names_declared d) (λ w e. member-free (after_decl s d).here ys w.name.0 e h) (names-in s d)

unused-ids : (s : Scope) (ws : List Word) → AllByRecursion (IsUnused s) ws → AreApart s.here (word_ids ws)
unused-ids s [] h = tt
unused-ids s (w ∷ ws) h = (h.0.1, unused-ids s ws h.1)

-- ---- the first declarations

both-apart : (s : Scope) (d : PDecl) (ys : List ℕ) → AllByRecursion (IsUnused s) (names_declared d) → AreApart (after_decl s d).here ys → AreApart s.here (word_ids (names_declared d) ++ ys)
both-apart s d ys u h = all_joined (IsFreeOf s.here) (word_ids (names_declared d)) ys (unused-ids s (names_declared d) u) (before-apart s d ys h)

-- the names of the first declarations were not used before
pub first-apart : (ds : PDecls) (kinds : List PTask) (s : Scope) → DeclareOnce s ds → AreApart s.here (ids_declared (first_decls kinds ds))
first-apart no_decl kinds s h = tt
first-apart (decl_then (DTask t sp) rest) kinds s h = before-apart s (DTask t sp) _ (first-apart rest (with_type kinds t.of_kind t) (after_decl s (DTask t sp)) h.1)
first-apart (decl_then (DTaskBody w objects its sp) rest) kinds s h = before-apart s (DTaskBody w objects its sp) _ (first-apart rest kinds (after_decl s (DTaskBody w objects its sp)) h.1)
first-apart (decl_then (DObject ws c x i sp) rest) kinds s h = by_test (is_some (type_named kinds (mark_of x))) (first-apart rest kinds (after_decl s d) h.1)
  where
    d : PDecl
    d = DObject ws c x i sp

    by_test : (b : Bool) → AreApart (after_decl s d).here (ids_declared (first_decls kinds rest)) → AreApart s.here (ids_declared (unless_left b d (first_decls kinds rest)))
    by_test true k = before-apart s d _ k
    by_test false k = both-apart s d _ h.0 k
first-apart (decl_then (DNumber w e sp) rest) kinds s h = both-apart s (DNumber w e sp) _ h.0 (first-apart rest kinds _ h.1)
first-apart (decl_then (DEnumeration w ws sp) rest) kinds s h = both-apart s (DEnumeration w ws sp) _ h.0 (first-apart rest kinds _ h.1)
first-apart (decl_then (DArray w q x sp) rest) kinds s h = both-apart s (DArray w q x sp) _ h.0 (first-apart rest kinds _ h.1)
first-apart (decl_then (DSubtype w x sp) rest) kinds s h = both-apart s (DSubtype w x sp) _ h.0 (first-apart rest kinds _ h.1)
first-apart (decl_then (DException ws sp) rest) kinds s h = both-apart s (DException ws sp) _ h.0 (first-apart rest kinds _ h.1)
first-apart (decl_then (DIntIo w sp) rest) kinds s h = both-apart s (DIntIo w sp) _ h.0 (first-apart rest kinds _ h.1)
first-apart (decl_then (DPragma e sp) rest) kinds s h = both-apart s (DPragma e sp) _ h.0 (first-apart rest kinds _ h.1)

-- ---- names that stand for tasks

-- what holds of words holds of the names that they give to tasks
module _ (P : Word → Type 0) where
  typed-words : (o : Option PTask) (ws : List Word) (row : Option PDrange) → AllByRecursion P ws → AllByRecursion (λ (x : NamedTasks). P x.name) (task_names_of_type o ws row)
  typed-words None ws row h = tt
  typed-words (Some t) [] row h = tt
  typed-words (Some t) (w ∷ ws) row h = (h.0, typed-words (Some t) ws row h.1)

  object-words : (kinds : List PTask) (ws : List Word) (shape : PShape) → AllByRecursion P ws → AllByRecursion (λ (x : NamedTasks). P x.name) (object_task_names kinds ws shape)
  object-words kinds ws (OPlain x) h = typed-words (type_named kinds x.mark.name) ws None h
  object-words kinds ws (OArray q x) h = typed-words (type_named kinds x.mark.name) ws (Some q) h

  single-words : (b : Bool) (t : PTask) (sp : Span) → P t.name → AllByRecursion (λ (x : NamedTasks). P x.name) (single_task_name b t sp)
  single-words true t sp h = tt
  single-words false t sp h = (h, tt)

before-unused : (s : Scope) (d : PDecl) (xs : List NamedTasks) → AllByRecursion (λ (x : NamedTasks). IsUnused (after_decl s d) x.name) xs → AllByRecursion (λ (x : NamedTasks). IsUnused s x.name) xs
before-unused s d xs h = all_weaker (λ (x : NamedTasks). IsUnused (after_decl s d) x.name) (λ (x : NamedTasks). IsUnused s x.name) xs (λ x e. (e.0, (behind-free s d x.name.name.0 e.1).0)) h

-- they are no predefined ones, and were not used before
pub tasks-unused : (ds : PDecls) (kinds : List PTask) (s : Scope) → DeclareOnce s ds → AllByRecursion (λ (x : NamedTasks). IsUnused s x.name) (task_names_in kinds ds)
tasks-unused no_decl kinds s h = tt
tasks-unused (decl_then (DTask t sp) rest) kinds s h =
    all_joined (λ (x : NamedTasks). IsUnused s x.name) (single_task_name t.of_kind t sp) (task_names_in (with_type kinds t.of_kind t) rest)
    (single-words (IsUnused s) t.of_kind t sp h.0.0) (before-unused s (DTask t sp) _ (tasks-unused rest (with_type kinds t.of_kind t) (after_decl s (DTask t sp)) h.1))
tasks-unused (decl_then (DObject ws c x i sp) rest) kinds s h =
    all_joined (λ (y : NamedTasks). IsUnused s y.name) (object_task_names kinds ws x) (task_names_in kinds rest) (object-words (IsUnused s) kinds ws x h.0) (before-unused s (DObject ws c x i sp) _ (tasks-unused rest kinds _ h.1))
tasks-unused (decl_then (DTaskBody w objects its sp) rest) kinds s h = before-unused s (DTaskBody w objects its sp) _ (tasks-unused rest kinds _ h.1)
tasks-unused (decl_then (DNumber w e sp) rest) kinds s h = before-unused s (DNumber w e sp) _ (tasks-unused rest kinds _ h.1)
tasks-unused (decl_then (DEnumeration w ws sp) rest) kinds s h = before-unused s (DEnumeration w ws sp) _ (tasks-unused rest kinds _ h.1)
tasks-unused (decl_then (DArray w q x sp) rest) kinds s h = before-unused s (DArray w q x sp) _ (tasks-unused rest kinds _ h.1)
tasks-unused (decl_then (DSubtype w x sp) rest) kinds s h = before-unused s (DSubtype w x sp) _ (tasks-unused rest kinds _ h.1)
tasks-unused (decl_then (DException ws sp) rest) kinds s h = before-unused s (DException ws sp) _ (tasks-unused rest kinds _ h.1)
tasks-unused (decl_then (DIntIo w sp) rest) kinds s h = before-unused s (DIntIo w sp) _ (tasks-unused rest kinds _ h.1)
tasks-unused (decl_then (DPragma e sp) rest) kinds s h = before-unused s (DPragma e sp) _ (tasks-unused rest kinds _ h.1)

-- ---- they are no names of the first declarations

abbrev AreFree : List ℕ → List NamedTasks → Type 0
AreFree ids xs = AllByRecursion (λ (x : NamedTasks). IsFreeOf ids x.name.name.0) xs

-- behind a declaration that stays
both-free : (s : Scope) (d : PDecl) (ids : List ℕ) (xs : List NamedTasks) → AllByRecursion (λ (x : NamedTasks). IsUnused (after_decl s d) x.name) xs → AreFree ids xs → AreFree (word_ids (names_declared d) ++ ids) xs
both-free s d ids [] u h = tt
both-free s d ids (x ∷ xs) u h = (free-both (word_ids (names_declared d)) ids x.name.name.0 (behind-free s d x.name.name.0 u.0.1).1 h.0, both-free s d ids xs u.1 h.1)

object-apart : (o : Option PTask) (ws : List Word) (row : Option PDrange) (c : Bool) (x : PShape) (i : Option PInit) (sp : Span) (F : PDecls) (xs : List NamedTasks) →
    AllByRecursion (λ (w : Word). IsFreeOf (ids_declared F) w.name.0) ws → AreFree (ids_declared F) xs → AreFree (word_ids ws ++ ids_declared F) xs →
    AreFree (ids_declared (unless_left (is_some o) (DObject ws c x i sp) F)) (task_names_of_type o ws row ++ xs)
object-apart None ws row c x i sp F xs head later both = both
object-apart (Some t) ws row c x i sp F xs head later both =
    all_joined (λ (y : NamedTasks). IsFreeOf (ids_declared F) y.name.name.0) (task_names_of_type (Some t) ws row) xs (typed-words (λ (w : Word). IsFreeOf (ids_declared F) w.name.0) (Some t) ws row head) later

pub tasks-apart : (ds : PDecls) (kinds : List PTask) (s : Scope) → DeclareOnce s ds → AreFree (ids_declared (first_decls kinds ds)) (task_names_in kinds ds)
tasks-apart no_decl kinds s h = tt
tasks-apart (decl_then (DTask t sp) rest) kinds s h =
    let kinds' : List PTask = with_type kinds t.of_kind t in
    all_joined (λ (x : NamedTasks). IsFreeOf (ids_declared (first_decls kinds' rest)) x.name.name.0) (single_task_name t.of_kind t sp) (task_names_in kinds' rest)
    (single-words (λ (w : Word). IsFreeOf (ids_declared (first_decls kinds' rest)) w.name.0) t.of_kind t sp (names-free s (DTask t sp) _ (first-apart rest kinds' (after_decl s (DTask t sp)) h.1)).0)
    (tasks-apart rest kinds' (after_decl s (DTask t sp)) h.1)
tasks-apart (decl_then (DObject ws c (OPlain x) i sp) rest) kinds s h =
    let d : PDecl = DObject ws c (OPlain x) i sp in
    let later = tasks-apart rest kinds (after_decl s d) h.1 in
    object-apart (type_named kinds x.mark.name) ws None c (OPlain x) i sp (first_decls kinds rest) (task_names_in kinds rest) (names-free s d _ (first-apart rest kinds (after_decl s d) h.1)) later
    (both-free s d _ _ (tasks-unused rest kinds (after_decl s d) h.1) later)
tasks-apart (decl_then (DObject ws c (OArray q x) i sp) rest) kinds s h =
    let d : PDecl = DObject ws c (OArray q x) i sp in
    let later = tasks-apart rest kinds (after_decl s d) h.1 in
    object-apart (type_named kinds x.mark.name) ws (Some q) c (OArray q x) i sp (first_decls kinds rest) (task_names_in kinds rest) (names-free s d _ (first-apart rest kinds (after_decl s d) h.1)) later
    (both-free s d _ _ (tasks-unused rest kinds (after_decl s d) h.1) later)
tasks-apart (decl_then (DTaskBody w objects its sp) rest) kinds s h = tasks-apart rest kinds (after_decl s (DTaskBody w objects its sp)) h.1
tasks-apart (decl_then (DNumber w e sp) rest) kinds s h = both-free s (DNumber w e sp) _ _ (tasks-unused rest kinds _ h.1) (tasks-apart rest kinds _ h.1)
tasks-apart (decl_then (DEnumeration w ws sp) rest) kinds s h = both-free s (DEnumeration w ws sp) _ _ (tasks-unused rest kinds _ h.1) (tasks-apart rest kinds _ h.1)
tasks-apart (decl_then (DArray w q x sp) rest) kinds s h = both-free s (DArray w q x sp) _ _ (tasks-unused rest kinds _ h.1) (tasks-apart rest kinds _ h.1)
tasks-apart (decl_then (DSubtype w x sp) rest) kinds s h = both-free s (DSubtype w x sp) _ _ (tasks-unused rest kinds _ h.1) (tasks-apart rest kinds _ h.1)
tasks-apart (decl_then (DException ws sp) rest) kinds s h = both-free s (DException ws sp) _ _ (tasks-unused rest kinds _ h.1) (tasks-apart rest kinds _ h.1)
tasks-apart (decl_then (DIntIo w sp) rest) kinds s h = both-free s (DIntIo w sp) _ _ (tasks-unused rest kinds _ h.1) (tasks-apart rest kinds _ h.1)
tasks-apart (decl_then (DPragma e sp) rest) kinds s h = both-free s (DPragma e sp) _ _ (tasks-unused rest kinds _ h.1) (tasks-apart rest kinds _ h.1)

-- ---- what can be used behind declarations

pub here-free : (ds : PDecls) (s : Scope) (x : ℕ) → IsFreeOf s.here x → IsFreeOf (ids_declared ds) x → IsFreeOf (after_decls s ds).here x
here-free no_decl s x h k = h
here-free (decl_then d rest) s x h k =
    here-free rest (after_decl s d) x
    (subst (λ (l : List ℕ). IsFreeOf l x) (sym (here-after s d)) (free-words s.here (names_declared d) x h (free-front (word_ids (names_declared d)) (ids_declared rest) x k)))
    (free-back (word_ids (names_declared d)) (ids_declared rest) x k)
