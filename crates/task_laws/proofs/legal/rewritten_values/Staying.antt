-- The objects of main are those of the declarations that stay.
use Rattle.std.proofs.Common.{◌≡◌, true, None, refl, sym, ap, ◌∙◌}
use Rattle.ada_tree.specs.declared.naming.NameId.{NameId}
use Rattle.ada_tree.specs.TypeTable.{TypeTable}
use Rattle.ada_tree.specs.PlainDecl.{PShape, OPlain, OArray, DObject, PDecls, no_decl, decl_then}
use Rattle.ada_static_rules.specs.Scope.{Scope}
use Rattle.ada_static_rules.specs.StaticValue.{mark_named}
use Rattle.ada_static_rules.specs.Declaring.{first_scope, after_decl, after_decls}
use Rattle.ada_value.specs.Variables.{Variables}
use Rattle.task_model.specs.Starting.{plain_form, array_form, form_of, declared_objects, after_declaration, objects_of}
use Rattle.task_laws.specs.legal.rewritten_types.Rewriting.{IsFree, mark_of, Behind, behind_none, behind_task, behind_body, behind_instance, Front, front_none, front_stays, front_task, front_object, front_body, DeclareOnce}
use Rattle.task_laws.proofs.legal.rewritten_types.Fresh.{IsTaken, taken-decl}
use Rattle.task_laws.proofs.legal.rewritten_types.Unmarked.{unvalued_has_no_mark}
use Rattle.task_laws.specs.legal.rewritten_values.Laws.{ObjectsStay}

-- what is free stays free
taken-decls : (ds : PDecls) (s : Scope) (id : NameId) → DeclareOnce s ds → IsTaken s id → IsTaken (after_decls s ds) id
taken-decls no_decl s id once h = h
taken-decls (decl_then d rest) s id once h = taken-decls rest (after_decl s d) id once.1 (taken-decl d s id once.0 h)

-- what has no mark is no object
no-form : (T : TypeTable) (shape : PShape) → mark_named T (mark_of shape) ≡ None → form_of T shape ≡ None
no-form T (OPlain x) e = ap (plain_form T x) e
no-form T (OArray index x) e = ap (array_form T index x) e

-- behind the first body no objects stand
behind-none : (T : TypeTable) {ds es : PDecls} → Behind ds es → (vars : Variables) → objects_of T true ds vars ≡ vars
behind-none T behind_none vars = refl
behind-none T (behind_task b) vars = behind-none T b vars
behind-none T (behind_body b) vars = behind-none T b vars
behind-none T (behind_instance b) vars = behind-none T b vars

behind-staying : (T : TypeTable) {ds es : PDecls} → Behind ds es → (vars : Variables) → objects_of T true es vars ≡ vars
behind-staying T behind_none vars = refl
behind-staying T (behind_task b) vars = behind-staying T b vars
behind-staying T (behind_body b) vars = behind-staying T b vars
behind-staying T (behind_instance b) vars = behind-staying T b vars

-- a name that means no value in the end has no mark in this table
abbrev AreUnmarkedAt : TypeTable → Scope → Type 0
AreUnmarkedAt T s = (id : NameId) → IsFree s id → mark_named T id ≡ None

front-stays : (T : TypeTable) {s : Scope} {ds es : PDecls} → Front s ds es → DeclareOnce s ds → AreUnmarkedAt T (after_decls s ds) → (vars : Variables) →
    objects_of T true ds vars ≡ objects_of T true es vars
front-stays T front_none once h vars = refl
front-stays T (front_stays {d = d} first f) once h vars = front-stays T f once.1 h (after_declaration T true d vars)
front-stays T (front_task free f) once h vars = front-stays T f once.1 h vars
front-stays T {s = s} (front_object {names = names} {constant = constant} {shape = shape} {init = init} {s = sp} {ds = ds} used mark free f) once h vars =
    let taken = taken-decls ds _ (mark_of shape) once.1 (taken-decl (DObject names constant shape init sp) s (mark_of shape) once.0 record { used = used; free = mark }) in
    ap (λ o. objects_of T true ds (declared_objects T true names constant init o vars)) (no-form T shape (h (mark_of shape) taken.free))
    ∙ front-stays T f once.1 h vars
front-stays T (front_body b) once h vars = behind-none T b vars ∙ sym (behind-staying T b vars)

pub objects_stay : ObjectsStay
objects_stay name ds es once front vars = front-stays (after_decls (first_scope name) ds).types front once.1 (unvalued_has_no_mark name ds once) vars
