-- The names of single tasks and of objects of task types are declared for all of main.
use Rattle.std.proofs.Common.{◌≡◌, ℕ, Bool, true, false, ◌||◌, ◌&&◌, ◌==◌, if◌then◌else◌, List, [], ◌∷◌, ◌++◌, map, find, option_map, Option, Some, None, refl, sym, ap, ap₂, ◌∙◌, subst}
use Rattle.std.specs.List.{AllByRecursion}
use Rattle.std.proofs.lemmas.Bool.{or_left, or_right, eqb-true, eq-eqb}
use Rattle.std.proofs.lemmas.Grind.{flat_map-append}
use Rattle.std.proofs.lemmas.List.Folds.{list_any-append}
use Rattle.std.proofs.lemmas.Option.{none-some}
use Rattle.ada_tree.specs.declared.naming.NameId.{NameId}
use Rattle.ada_tree.specs.declared.naming.Span.{Span}
use Rattle.ada_tree.specs.declared.naming.Word.{Word}
use Rattle.ada_tree.specs.PlainExpr.{PSubind, PDrange}
use Rattle.ada_tree.specs.PlainDecl.{PShape, OPlain, OArray, PInit, PTask, PDecl, DNumber, DObject, DEnumeration, DArray, DSubtype, DException, DIntIo, DPragma, DTask, DTaskBody, PDecls, no_decl, decl_then}
use Rattle.ada_static_rules.specs.Scope.{Scope, NameMeaning, EntryPart, Thing, TaskType, Marking, TaskMark, marking_of, marking, meaning}
use Rattle.ada_static_rules.specs.Sites.{is_task_object, with_words, decl_sites, decls_sites}
use Rattle.ada_static_rules.specs.Declaring.{with_name, with_names, seen_as, task_thing, task_object, plain_object, declared_object, after_decl}
use Rattle.ada_static_rules.specs.RuleDuplicate.{is_predefined, is_among}
use Rattle.syn_event.specs.NamedTasks.{NamedTasks, named_tasks, type_named, with_type, task_names_of_type, object_task_names, single_task_name, task_names_in}
use Rattle.task_laws.specs.legal.rewritten_types.Rewriting.{names_declared, IsUsed, IsUnused, DeclareOnce}
use Rattle.task_laws.proofs.legal.rewritten_types.Fresh.{other}
use Rattle.ada_decl_rules.proofs.duplicates.Behind.{still_in_main, object_is}
use Rattle.ada_decl_rules.specs.duplicates.NamingsInOrder.{namings_of, declared}
use Rattle.ada_decl_rules.specs.declared.duplicates.namings_in_order.Naming.{Naming}
use Rattle.normal_laws.specs.structure.once.Apart.{fixed_name, fixed_names}
use Rattle.normal_laws.proofs.structure.once.FirstDecls.{here-after}
use Rattle.normal_laws.proofs.structure.once.Parts.{task-is}
use Rattle.ada_decl_rules.proofs.duplicates.Noting.{namings_append}
use Rattle.common_lemmas.proofs.Lists.{all_joined, all_weaker}

-- ---- the task types that can be used

-- the name means a task type
abbrev IsTypeThing : Option Thing → Type 0
IsTypeThing (Some (TaskType entries)) = Unit {0}
IsTypeThing _ = ⊥

-- it is used, and means a task type
pub record StandsFor (s : Scope) (id : NameId) : Type 0 where
  pub used : IsUsed s id
  pub type : IsTypeThing (meaning s id)

abbrev pub TypesStand : List PTask → Scope → Type 0
TypesStand kinds s = AllByRecursion (λ (t : PTask). StandsFor s t.name.name) kinds

-- what is used stays used
pub among-words : (here : List ℕ) (ws : List Word) (x : ℕ) → is_among here x ≡ true → is_among (with_words here ws) x ≡ true
among-words here [] x h = h
among-words here (w ∷ ws) x h = among-words (w.name.0 ∷ here) ws x (or_right (w.name.0 == x) (is_among here x) h)

used-after : (s : Scope) (d : PDecl) (id : NameId) → IsUsed s id → IsUsed (after_decl s d) id
used-after s d id h = subst (λ (l : List ℕ). (is_predefined id.0 || is_among l id.0) ≡ true) (sym (here-after s d)) (by_test (is_predefined id.0) h)
  where
    by_test : (b : Bool) → (b || is_among s.here id.0) ≡ true → (b || is_among (with_words s.here (names_declared d)) id.0) ≡ true
    by_test true e = refl
    by_test false e = among-words s.here (names_declared d) id.0 e

-- a name keeps what it means where others are declared
abbrev AreOthers : NameId → List Word → Type 0
AreOthers id ws = AllByRecursion (λ (w : Word). (w.name.0 == id.0) ≡ false) ws

means-name : (x : Thing) (w : Word) (names : List NameMeaning) (id : NameId) → (w.name.0 == id.0) ≡ false → find (λ (y : NameMeaning). y.name == id.0) (seen_as x w.name.0 ∷ names) ≡ find (λ (y : NameMeaning). y.name == id.0) names
means-name x w names id e = ap (λ (b : Bool). if b then Some (seen_as x w.name.0) else find (λ (y : NameMeaning). y.name == id.0) names) e

means-names : (x : Thing) (ws : List Word) (s : Scope) (id : NameId) → AreOthers id ws → meaning (with_names x s ws) id ≡ meaning s id
means-names x [] s id h = refl
means-names x (w ∷ ws) s id h = means-names x ws (with_name x s w) id h.1 ∙ ap (option_map (λ (y : NameMeaning). y.thing)) (means-name x w s.names id h.0)

means-one : (x : Thing) (w : Word) (names : List NameMeaning) (id : NameId) → (w.name.0 == id.0) ≡ false →
    option_map (λ (y : NameMeaning). y.thing) (find (λ (y : NameMeaning). y.name == id.0) (seen_as x w.name.0 ∷ names)) ≡ option_map (λ (y : NameMeaning). y.thing) (find (λ (y : NameMeaning). y.name == id.0) names)
means-one x w names id e = ap (option_map (λ (y : NameMeaning). y.thing)) (means-name x w names id e)

means-after : (s : Scope) (d : PDecl) (id : NameId) → AreOthers id (names_declared d) → meaning (after_decl s d) id ≡ meaning s id
means-after s (DNumber w e sp) id h = means-one _ w s.names id h.0
means-after s (DObject ws c x i sp) id h = means-names _ ws _ id h
means-after s (DEnumeration w ws sp) id h = means-names _ ws _ id h.1 ∙ means-one _ w s.names id h.0
means-after s (DArray w r x sp) id h = means-one _ w s.names id h.0
means-after s (DSubtype w x sp) id h = means-one _ w s.names id h.0
means-after s (DException ws sp) id h = means-names _ ws s id h
means-after s (DIntIo w sp) id h = means-one _ w s.names id h.0
means-after s (DPragma e sp) id h = refl
means-after s (DTask t sp) id h = means-one _ t.name s.names id h.0
means-after s (DTaskBody w objects its sp) id h = refl

others-of : (s : Scope) (id : NameId) (ws : List Word) → IsUsed s id → AllByRecursion (IsUnused s) ws → AreOthers id ws
others-of s id ws h u = all_weaker (IsUnused s) (λ (w : Word). (w.name.0 == id.0) ≡ false) ws (λ w k. other s.here w.name.0 id.0 k.0 k.1 h) u

stands-after : (s : Scope) (d : PDecl) (id : NameId) → AllByRecursion (IsUnused s) (names_declared d) → StandsFor s id → StandsFor (after_decl s d) id
stands-after s d id u h = record { used = used-after s d id h.used; type = subst IsTypeThing (sym (means-after s d id (others-of s id (names_declared d) h.used u))) h.type }

all-stand : (s : Scope) (d : PDecl) (kinds : List PTask) → AllByRecursion (IsUnused s) (names_declared d) → TypesStand kinds s → TypesStand kinds (after_decl s d)
all-stand s d kinds u h = all_weaker (λ (t : PTask). StandsFor s t.name.name) (λ (t : PTask). StandsFor (after_decl s d) t.name.name) kinds (λ t k. stands-after s d t.name.name u k) h

-- a task type stands for itself behind its declaration
type-stands : (b : Bool) (s : Scope) (t : PTask) (entries : List EntryPart) (kinds : List PTask) → TypesStand kinds (with_name (task_thing b entries) s t.name) → TypesStand (with_type kinds b t) (with_name (task_thing b entries) s t.name)
type-stands true s t entries kinds h = (
  record {
    used = or_right (is_predefined t.name.name.0) _ (or_left (t.name.name.0 == t.name.name.0) (is_among s.here t.name.name.0) (eq-eqb t.name.name.0 t.name.name.0 refl));
    type = subst (λ (b : Bool). IsTypeThing (option_map (λ (y : NameMeaning). y.thing) (if b then Some (seen_as (TaskType entries) t.name.name.0) else find (λ (y : NameMeaning). y.name == t.name.name.0) s.names))) (sym (eq-eqb t.name.name.0 t.name.name.0 refl)) tt;
  },
  h,
)
type-stands false s t entries kinds h = h

-- ---- objects of task types

-- the mark of a task type
abbrev IsTaskMark : Marking → Type 0
IsTaskMark (TaskMark entries) = Unit {0}
IsTaskMark _ = ⊥

mark-is : (s : Scope) (o : Option Thing) → IsTypeThing o → IsTaskMark (marking_of s.types o)
mark-is s (Some (TaskType entries)) h = tt
mark-is s (Some _) h = absurd h
mark-is s None h = absurd h

object-is-task : (s : Scope) (c : Bool) (m : Marking) (x : PSubind) → s.in_main ≡ true → IsTaskMark m → is_task_object (plain_object s c m x).thing ≡ true
object-is-task s c (TaskMark entries) x main h = ap (λ (b : Bool). is_task_object (task_object b entries)) main
object-is-task s c _ x main h = absurd h

found-stands : (s : Scope) (kinds : List PTask) (id : NameId) (t : PTask) → TypesStand kinds s → type_named kinds id ≡ Some t → IsTypeThing (meaning s id)
found-stands s [] id t h e = absurd (none-some t e)
found-stands s (k ∷ kinds) id t h e = by_test (k.name.name.0 == id.0) refl e (found-stands s kinds id t h.1)
  where
    by_test : (b : Bool) → (k.name.name.0 == id.0) ≡ b → (if b then Some k else type_named kinds id) ≡ Some t → (type_named kinds id ≡ Some t → IsTypeThing (meaning s id)) → IsTypeThing (meaning s id)
    by_test true f g later = subst (λ (n : ℕ). IsTypeThing (meaning s record { 0 = n })) (eqb-true k.name.name.0 id.0 f) h.0.type
    by_test false f g later = later g

-- ---- fixed names

-- the name is among these
abbrev pub IsIn : List ℕ → ℕ → Type 0
IsIn names n = is_among names n ≡ true

in-front : (xs ys : List ℕ) (n : ℕ) → IsIn xs n → IsIn (xs ++ ys) n
in-front xs ys n h = list_any-append (λ m. m == n) xs ys ∙ or_left (is_among xs n) (is_among ys n) h

in-back : (xs ys : List ℕ) (n : ℕ) → IsIn ys n → IsIn (xs ++ ys) n
in-back xs ys n h = list_any-append (λ m. m == n) xs ys ∙ or_right (is_among xs n) (is_among ys n) h

declared-in : (here : List ℕ) (ws : List Word) → AllByRecursion (λ (w : Word). IsIn (fixed_names (declared true here ws)) w.name.0) ws
declared-in here [] = tt
declared-in here (w ∷ ws) = (
  or_left (w.name.0 == w.name.0) (is_among (fixed_names (declared true (w.name.0 ∷ here) ws)) w.name.0) (eq-eqb w.name.0 w.name.0 refl),
  all_weaker (λ (v : Word). IsIn (fixed_names (declared true (w.name.0 ∷ here) ws)) v.name.0) (λ (v : Word). IsIn (w.name.0 ∷ fixed_names (declared true (w.name.0 ∷ here) ws)) v.name.0) ws
      (λ v e. or_right (w.name.0 == v.name.0) (is_among (fixed_names (declared true (w.name.0 ∷ here) ws)) v.name.0) e) (declared-in (w.name.0 ∷ here) ws),
)

-- a name that stands for one task is a fixed one
abbrev pub IsFixed : List Naming → NamedTasks → Type 0
IsFixed ns x = x.index_range ≡ None → IsIn (fixed_names ns) x.name.name.0

fixed-behind : (a b : List Naming) (xs : List NamedTasks) → AllByRecursion (IsFixed b) xs → AllByRecursion (IsFixed (a ++ b)) xs
fixed-behind a b xs h =
    all_weaker (IsFixed b) (IsFixed (a ++ b)) xs
    (λ x k e. subst (λ (l : List ℕ). IsIn l x.name.name.0) (sym (flat_map-append fixed_name a b)) (in-back (fixed_names a) (fixed_names b) x.name.name.0 (k e))) h

fixed-before : (a b : List Naming) (xs : List NamedTasks) → AllByRecursion (IsFixed a) xs → AllByRecursion (IsFixed (a ++ b)) xs
fixed-before a b xs h =
    all_weaker (IsFixed a) (IsFixed (a ++ b)) xs
    (λ x k e. subst (λ (l : List ℕ). IsIn l x.name.name.0) (sym (flat_map-append fixed_name a b)) (in-front (fixed_names a) (fixed_names b) x.name.name.0 (k e))) h

-- names of an object declaration whose names are fixed
typed-fixed : (ns : List Naming) (o : Option PTask) (ws : List Word) → ((t : PTask) → o ≡ Some t → AllByRecursion (λ (w : Word). IsIn (fixed_names ns) w.name.0) ws) → AllByRecursion (IsFixed ns) (task_names_of_type o ws None)
typed-fixed ns None ws h = tt
typed-fixed ns (Some t) ws h = each ws (h t refl)
  where
    each : (ws : List Word) → AllByRecursion (λ (w : Word). IsIn (fixed_names ns) w.name.0) ws → AllByRecursion (IsFixed ns) (map (λ (w : Word). named_tasks w w.span t None) ws)
    each [] k = tt
    each (w ∷ ws) k = ((λ e. k.0), each ws k.1)

-- an array of tasks is not asked
ranged-fixed : (ns : List Naming) (o : Option PTask) (ws : List Word) (r : PDrange) → AllByRecursion (IsFixed ns) (task_names_of_type o ws (Some r))
ranged-fixed ns None ws r = tt
ranged-fixed ns (Some t) [] r = tt
ranged-fixed ns (Some t) (w ∷ ws) r = ((λ e. absurd (none-some r (sym e))), ranged-fixed ns (Some t) ws r)

object-fixed : (kinds : List PTask) (s : Scope) (ws : List Word) (c : Bool) (x : PShape) (i : Option PInit) (sp : Span) → s.in_main ≡ true → TypesStand kinds s → AllByRecursion (IsFixed (namings_of (decl_sites s (DObject ws c x i sp)))) (object_task_names kinds ws x)
object-fixed kinds s ws c (OPlain x) i sp main h =
    typed-fixed (namings_of (decl_sites s (DObject ws c (OPlain x) i sp))) (type_named kinds x.mark.name) ws
    (λ t e. subst (λ (l : List Naming). AllByRecursion (λ (w : Word). IsIn (fixed_names l) w.name.0) ws)
    (sym (object_is s ws c (OPlain x) i (declared_object s c (OPlain x))
    ∙ ap₂ (λ (a b : Bool). declared (a && (c || b)) s.here ws) main (object-is-task s c (marking s x.mark.name) x main (mark-is s (meaning s x.mark.name) (found-stands s kinds x.mark.name t h e)))
    ∙ ap (λ (b : Bool). declared b s.here ws) (either c)))
    (declared-in s.here ws))
  where
    either : (c : Bool) → (c || true) ≡ true
    either true = refl
    either false = refl
object-fixed kinds s ws c (OArray r x) i sp main h = ranged-fixed (namings_of (decl_sites s (DObject ws c (OArray r x) i sp))) (type_named kinds x.mark.name) ws r

single-fixed : (b : Bool) (s : Scope) (t : PTask) (sp : Span) → AllByRecursion (IsFixed (namings_of (decl_sites s (DTask t sp)))) (single_task_name b t sp)
single-fixed true s t sp = tt
single-fixed false s t sp =
    ((λ e. subst (λ (l : List Naming). IsIn (fixed_names l) t.name.name.0) (sym (task-is s t)) (or_left (t.name.name.0 == t.name.name.0) _ (eq-eqb t.name.name.0 t.name.name.0 refl))), tt)

-- behind another declaration
next-fixed : (d : PDecl) (rest : PDecls) (kinds : List PTask) (s : Scope) → AllByRecursion (IsFixed (namings_of (decls_sites (after_decl s d) rest))) (task_names_in kinds rest) → AllByRecursion (IsFixed (namings_of (decls_sites s (decl_then d rest)))) (task_names_in kinds rest)
next-fixed d rest kinds s h =
    subst (λ (l : List Naming). AllByRecursion (IsFixed l) (task_names_in kinds rest)) (sym (namings_append (decl_sites s d) (decls_sites (after_decl s d) rest)))
    (fixed-behind (namings_of (decl_sites s d)) (namings_of (decls_sites (after_decl s d) rest)) (task_names_in kinds rest) h)

-- Each name that stands for one task is declared for all of main.
pub names-fixed : (ds : PDecls) (kinds : List PTask) (s : Scope) → s.in_main ≡ true → TypesStand kinds s → DeclareOnce s ds → AllByRecursion (IsFixed (namings_of (decls_sites s ds))) (task_names_in kinds ds)
names-fixed no_decl kinds s main h once = tt
names-fixed (decl_then (DTask t sp) rest) kinds s main h once =
    let d : PDecl = DTask t sp in
    let first : List Naming = namings_of (decl_sites s d) in
    let later : List Naming = namings_of (decls_sites (after_decl s d) rest) in
    subst (λ (l : List Naming). AllByRecursion (IsFixed l) (single_task_name t.of_kind t sp ++ task_names_in (with_type kinds t.of_kind t) rest)) (sym (namings_append (decl_sites s d) (decls_sites (after_decl s d) rest)))
    (all_joined (IsFixed (first ++ later)) (single_task_name t.of_kind t sp) (task_names_in (with_type kinds t.of_kind t) rest)
    (fixed-before first later (single_task_name t.of_kind t sp) (single-fixed t.of_kind s t sp))
    (fixed-behind first later (task_names_in (with_type kinds t.of_kind t) rest)
    (names-fixed rest (with_type kinds t.of_kind t) (after_decl s d) main (type-stands t.of_kind s t _ kinds (all-stand s d kinds once.0 h)) once.1)))
names-fixed (decl_then (DObject ws c x i sp) rest) kinds s main h once =
    let d : PDecl = DObject ws c x i sp in
    let first : List Naming = namings_of (decl_sites s d) in
    let later : List Naming = namings_of (decls_sites (after_decl s d) rest) in
    subst (λ (l : List Naming). AllByRecursion (IsFixed l) (object_task_names kinds ws x ++ task_names_in kinds rest)) (sym (namings_append (decl_sites s d) (decls_sites (after_decl s d) rest)))
    (all_joined (IsFixed (first ++ later)) (object_task_names kinds ws x) (task_names_in kinds rest)
    (fixed-before first later (object_task_names kinds ws x) (object-fixed kinds s ws c x i sp main h))
    (fixed-behind first later (task_names_in kinds rest) (names-fixed rest kinds (after_decl s d) (still_in_main s d ∙ main) (all-stand s d kinds once.0 h) once.1)))
names-fixed (decl_then (DTaskBody w objects its sp) rest) kinds s main h once = next-fixed (DTaskBody w objects its sp) rest kinds s (names-fixed rest kinds _ (still_in_main s (DTaskBody w objects its sp) ∙ main) (all-stand s (DTaskBody w objects its sp) kinds once.0 h) once.1)
names-fixed (decl_then (DNumber w e sp) rest) kinds s main h once = next-fixed (DNumber w e sp) rest kinds s (names-fixed rest kinds _ (still_in_main s (DNumber w e sp) ∙ main) (all-stand s (DNumber w e sp) kinds once.0 h) once.1)
names-fixed (decl_then (DEnumeration w ws sp) rest) kinds s main h once = next-fixed (DEnumeration w ws sp) rest kinds s (names-fixed rest kinds _ (still_in_main s (DEnumeration w ws sp) ∙ main) (all-stand s (DEnumeration w ws sp) kinds once.0 h) once.1)
names-fixed (decl_then (DArray w r x sp) rest) kinds s main h once = next-fixed (DArray w r x sp) rest kinds s (names-fixed rest kinds _ (still_in_main s (DArray w r x sp) ∙ main) (all-stand s (DArray w r x sp) kinds once.0 h) once.1)
names-fixed (decl_then (DSubtype w x sp) rest) kinds s main h once = next-fixed (DSubtype w x sp) rest kinds s (names-fixed rest kinds _ (still_in_main s (DSubtype w x sp) ∙ main) (all-stand s (DSubtype w x sp) kinds once.0 h) once.1)
names-fixed (decl_then (DException ws sp) rest) kinds s main h once = next-fixed (DException ws sp) rest kinds s (names-fixed rest kinds _ (still_in_main s (DException ws sp) ∙ main) (all-stand s (DException ws sp) kinds once.0 h) once.1)
names-fixed (decl_then (DIntIo w sp) rest) kinds s main h once = next-fixed (DIntIo w sp) rest kinds s (names-fixed rest kinds _ (still_in_main s (DIntIo w sp) ∙ main) (all-stand s (DIntIo w sp) kinds once.0 h) once.1)
names-fixed (decl_then (DPragma e sp) rest) kinds s main h once = next-fixed (DPragma e sp) rest kinds s (names-fixed rest kinds _ (still_in_main s (DPragma e sp) ∙ main) (all-stand s (DPragma e sp) kinds once.0 h) once.1)
