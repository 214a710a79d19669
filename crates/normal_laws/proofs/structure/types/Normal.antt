-- The tables and the objects of a program and of its normal form.
use Rattle.std.proofs.Common.{◌≡◌, Bool, true, false, List, [], ◌∷◌, ◌++◌, replicate, flat_map, is_some, Some, None, refl, sym, ap, ◌∙◌, subst}
use Rattle.std.specs.List.{AllByRecursion}
use Rattle.ada_tree.specs.declared.naming.Word.{Word}
use Rattle.ada_tree.specs.TypeTable.{TypeTable}
use Rattle.ada_tree.specs.PlainDecl.{OPlain, PTask, PDecl, DNumber, DObject, DEnumeration, DArray, DSubtype, DException, DIntIo, DPragma, DTask, DTaskBody, PDecls, no_decl, decl_then, decls_of}
use Rattle.ada_tree.specs.Every.{Rules, EveryDecls}
use Rattle.ada_static_rules.specs.Scope.{Scope}
use Rattle.ada_static_rules.specs.Declaring.{first_scope, after_decl, after_decls}
use Rattle.ada_static_rules.specs.Refusals.{types_in}
use Rattle.syn_event.specs.DeclaredTasks.{decl_list}
use Rattle.syn_event.specs.NamedTasks.{type_named, with_type}
use Rattle.ada_value.specs.declared.values.Form.{Form}
use Rattle.ada_value.specs.Values.{lower_bound, limits_named}
use Rattle.ada_value.specs.Variables.{Variables, object_with}
use Rattle.task_model.specs.Setting.{Setting}
use Rattle.task_model.specs.Starting.{value_count, declared_objects, after_declaration, objects_of}
use Rattle.normal_model.specs.Names.{variable_name}
use Rattle.normal_model.specs.Ranges.{word_at, marked}
use Rattle.normal_model.specs.NormalTree.{mark_of, unless_left, decls_front, first_decls, tasks_beside, task_declared, bodies_of, main_unit, main_variables, variables_needed, normal_tree}
use Rattle.task_laws.specs.legal.rewritten_types.Agreement.{Rooted}
use Rattle.task_laws.specs.legal.rewritten_types.Rewriting.{IsAdded, AreAdded}
use Rattle.task_laws.specs.legal.rewritten_types.Laws.{behind}
use Rattle.task_laws.proofs.legal.rewritten_types.Rooting.{rewritten_is_rooted, rooted_agrees}
use Rattle.task_laws.proofs.legal.rewritten_types.Refused.{declared_once}
use Rattle.task_laws.specs.legal.rewritten_values.Values.{AgreeOnValues, old_names}
use Rattle.task_laws.proofs.legal.rewritten_values.Saying.{tables_agree_on_values, values-alike}
use Rattle.task_laws.proofs.legal.rewritten_values.Named.{literals_are_named}
use Rattle.task_laws.proofs.legal.rewritten_values.Objects.{unit-alike, form-alike, marked_has_form}
use Rattle.task_laws.proofs.legal.rewritten_values.Staying.{objects_stay}
use Rattle.normal_laws.specs.structure.types.Own.{own_name}
use Rattle.normal_laws.specs.structure.types.Laws.{setting_of, NormalIsRooted, NormalAgrees, NormalValues, MainObjects, BodyObjects, VariableIsObject}
use Rattle.normal_laws.proofs.structure.types.Names.{names-begin, added_names_are_new}
use Rattle.normal_laws.proofs.structure.types.Variables.{IsTaskOrBody, are-added, task-added, tasks-only, bodies-only, unit-new}
use Rattle.normal_laws.proofs.structure.types.Fronts.{first_decls_are_front}
use Rattle.common_lemmas.proofs.Lists.{all_joined, all_weaker}

-- ---- tables

-- declarations one behind the other
pub front-after : (ds rest : PDecls) (s : Scope) → after_decls s (decls_front ds rest) ≡ after_decls (after_decls s ds) rest
front-after no_decl rest s = refl
front-after (decl_then d ds) rest s = front-after ds rest (after_decl s d)

-- what is added
abbrev added_of : Setting → List PDecl
added_of g = main_variables g ++ flat_map (task_declared g) (tasks_beside g) ++ flat_map (bodies_of g) (decl_list g.program.decls)

added-new : (g : Setting) → AreAdded (own_name g.program) (decls_of (added_of g))
added-new g =
    let old = own_name g.program in
    are-added old (added_of g)
    (all_joined (IsAdded old) (main_variables g ++ flat_map (task_declared g) (tasks_beside g)) _
    (all_joined (IsAdded old) (main_variables g) _ (unit-new old (main_unit g) (added_names_are_new g) g.program.body) (all_weaker _ _ _ (task-added old) (tasks-only g)))
    (all_weaker _ _ _ (task-added old) (bodies-only g)))

pub normal_is_rooted : NormalIsRooted
normal_is_rooted p types numbers ordered =
    let g = setting_of p types numbers in
    subst (λ (s : Scope). Rooted (own_name p) (behind p.name (first_decls [] p.decls)).types (types_in p) s.types)
    (sym (front-after (first_decls [] p.decls) (decls_of (added_of g)) (first_scope p.name)))
    (rewritten_is_rooted (own_name p) p.name p.decls (first_decls [] p.decls) (decls_of (added_of g)) (first_decls_are_front p ordered) (added-new g))

pub normal_agrees : NormalAgrees
normal_agrees p types numbers ordered = rooted_agrees (own_name p) (behind p.name (first_decls [] p.decls)).types _ _ (normal_is_rooted p types numbers ordered)

pub normal_values : NormalValues
normal_values p types numbers ordered tokens =
    let g = setting_of p types numbers in
    let begins = names-begin g (variables_needed g) in
    subst (AgreeOnValues (own_name p) (types_in p) (types_in (normal_tree p types numbers)) p.names) (sym begins.joined)
    (tables_agree_on_values (own_name p) (types_in p) (types_in (normal_tree p types numbers)) p.names begins.more (normal_agrees p types numbers ordered) (literals_are_named p tokens))

-- ---- objects

front-objects : (T : TypeTable) (in_main : Bool) (ds rest : PDecls) (vars : Variables) → objects_of T in_main (decls_front ds rest) vars ≡ objects_of T in_main rest (objects_of T in_main ds vars)
front-objects T in_main no_decl rest vars = refl
front-objects T in_main (decl_then d ds) rest vars = front-objects T in_main ds rest (after_declaration T in_main d vars)

joined-objects : (T : TypeTable) (in_main : Bool) (xs ys : List PDecl) (vars : Variables) → objects_of T in_main (decls_of (xs ++ ys)) vars ≡ objects_of T in_main (decls_of ys) (objects_of T in_main (decls_of xs) vars)
joined-objects T in_main [] ys vars = refl
joined-objects T in_main (x ∷ xs) ys vars = joined-objects T in_main xs ys (after_declaration T in_main x vars)

no-object : (T : TypeTable) (in_main : Bool) (d : PDecl) (vars : Variables) → IsTaskOrBody d → after_declaration T in_main d vars ≡ vars
no-object T in_main (DTask t s) vars h = refl
no-object T in_main (DTaskBody w objects its s) vars h = refl
no-object T in_main (DNumber w e s) vars h = absurd h
no-object T in_main (DObject ws c x i s) vars h = absurd h
no-object T in_main (DEnumeration w ws s) vars h = absurd h
no-object T in_main (DArray w r x s) vars h = absurd h
no-object T in_main (DSubtype w x s) vars h = absurd h
no-object T in_main (DException ws s) vars h = absurd h
no-object T in_main (DIntIo w s) vars h = absurd h
no-object T in_main (DPragma e s) vars h = absurd h

no-objects : (T : TypeTable) (in_main : Bool) (xs : List PDecl) (vars : Variables) → AllByRecursion IsTaskOrBody xs → objects_of T in_main (decls_of xs) vars ≡ vars
no-objects T in_main [] vars h = refl
no-objects T in_main (x ∷ xs) vars h = ap (objects_of T in_main (decls_of xs)) (no-object T in_main x vars h.0) ∙ no-objects T in_main xs vars h.1

-- what holds of all declarations holds of the first ones
pub first-every : (rules : Rules) (ds : PDecls) (kinds : List PTask) → EveryDecls rules ds → EveryDecls rules (first_decls kinds ds)
first-every rules no_decl kinds h = tt
first-every rules (decl_then (DTask t s) rest) kinds h = first-every rules rest (with_type kinds t.of_kind t) h.1
first-every rules (decl_then (DTaskBody w objects its s) rest) kinds h = first-every rules rest kinds h.1
first-every rules (decl_then (DObject names constant shape init s) rest) kinds h = by_test (is_some (type_named kinds (mark_of shape))) (first-every rules rest kinds h.1)
  where
    by_test : (b : Bool) → EveryDecls rules (first_decls kinds rest) → EveryDecls rules (unless_left b (DObject names constant shape init s) (first_decls kinds rest))
    by_test true k = k
    by_test false k = (h.0, k)
first-every rules (decl_then (DNumber w e s) rest) kinds h = (h.0, first-every rules rest kinds h.1)
first-every rules (decl_then (DEnumeration w ws s) rest) kinds h = (h.0, first-every rules rest kinds h.1)
first-every rules (decl_then (DArray w r x s) rest) kinds h = (h.0, first-every rules rest kinds h.1)
first-every rules (decl_then (DSubtype w x s) rest) kinds h = (h.0, first-every rules rest kinds h.1)
first-every rules (decl_then (DException ws s) rest) kinds h = (h.0, first-every rules rest kinds h.1)
first-every rules (decl_then (DIntIo w s) rest) kinds h = (h.0, first-every rules rest kinds h.1)
first-every rules (decl_then (DPragma e s) rest) kinds h = (h.0, first-every rules rest kinds h.1)

pub main_objects : MainObjects
main_objects p types numbers ordered own =
    let g = setting_of p types numbers in
    let T = types_in p in
    let U = types_in (normal_tree p types numbers) in
    let first = first_decls [] p.decls in
    front-objects U true first (decls_of (added_of g)) []
    ∙ joined-objects U true (main_variables g ++ flat_map (task_declared g) (tasks_beside g)) (flat_map (bodies_of g) (decl_list p.decls)) (objects_of U true first [])
    ∙ no-objects U true (flat_map (bodies_of g) (decl_list p.decls)) _ (bodies-only g)
    ∙ joined-objects U true (main_variables g) (flat_map (task_declared g) (tasks_beside g)) (objects_of U true first [])
    ∙ no-objects U true (flat_map (task_declared g) (tasks_beside g)) _ (tasks-only g)
    ∙ ap (objects_of U true (decls_of (main_variables g)))
    (sym (unit-alike (own_name p) T U (normal_agrees p types numbers ordered) true first (first-every (old_names (own_name p)) p.decls [] own) [])
    ∙ sym (objects_stay p.name p.decls first (declared_once p ordered.rules) (first_decls_are_front p ordered) []))

pub body_objects : BodyObjects
body_objects p types numbers ordered objects vars own =
    let T = types_in p in
    let U = types_in (normal_tree p types numbers) in
    front-objects U false objects (decls_of vars) []
    ∙ ap (objects_of U false (decls_of vars)) (sym (unit-alike (own_name p) T U (normal_agrees p types numbers ordered) false objects own []))

-- the one object of a variable's declaration
variable-object : (U : TypeTable) (in_main : Bool) (w : Word) (form : Form) (vars : Variables) → form.index ≡ None →
    declared_objects U in_main (w ∷ []) false None (Some form) vars ≡ object_with w.name form (lower_bound U form.limits ∷ []) ∷ vars
variable-object U true w form vars e = ap (λ i. object_with w.name form (replicate (value_count i) (lower_bound U form.limits)) ∷ vars) e
variable-object U false w form vars e = ap (λ i. object_with w.name form (replicate (value_count i) (lower_bound U form.limits)) ∷ vars) e

pub variable_is_object : VariableIsObject
variable_is_object p types numbers ordered in_main s w m k own mark known vars =
    let T = types_in p in
    let U = types_in (normal_tree p types numbers) in
    let name = variable_name (setting_of p types numbers) k in
    let agrees = normal_agrees p types numbers ordered in
    let form : Form = record { limits = limits_named T w.name; index = None } in
    ap (λ o. declared_objects U in_main (word_at s name ∷ []) false None o vars) (sym (form-alike (own_name p) T U agrees (OPlain (marked w)) (own, tt)) ∙ marked_has_form T w m mark known)
    ∙ variable-object U in_main (word_at s name) form vars refl
    ∙ ap (λ v. object_with name form (v ∷ []) ∷ vars) (sym (values-alike (own_name p) T U agrees form.limits.kind form.limits.first))
