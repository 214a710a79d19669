-- Tasks and bodies of main on either side alone, and objects of new names on the right side, keep two scopes alike.
use Rattle.std.proofs.Common.{◌≡◌, ℕ, Bool, true, false, List, Option, Some, refl, subst}
use Rattle.std.specs.List.{AllByRecursion}
use Rattle.ada_tree.specs.declared.naming.Span.{Span}
use Rattle.ada_tree.specs.declared.naming.Word.{Word}
use Rattle.ada_tree.specs.PlainStmt.{PBody}
use Rattle.ada_tree.specs.PlainDecl.{PShape, PInit, PTask, DObject, DTask, DTaskBody, PDecls}
use Rattle.ada_static_rules.specs.Scope.{Scope, EntryPart, meaning}
use Rattle.ada_static_rules.specs.Declaring.{with_types, declared_object, with_constants, task_thing, in_body, after_objects, after_decl}
use Rattle.task_laws.specs.legal.rewritten_types.Agreement.{Keeps}
use Rattle.task_laws.specs.legal.rewritten_types.Rewriting.{IsNew}
use Rattle.task_laws.proofs.legal.rewritten_types.Keeping.{keeps-self}
use Rattle.task_laws.proofs.legal.rewritten_types.Adding.{names-types, keeps-objects, keeps-decl}
use Rattle.task_laws.specs.legal.alike_scopes.Alike.{IsNoValue, a_task_type, a_task, no_values, Alike}
use Rattle.task_laws.proofs.legal.alike_scopes.Naming.{name-left, name-right, names-new, table-right, tables-kept, alike-on}
use Rattle.task_laws.proofs.legal.alike_scopes.Inner.{object-own, object-main}

-- a task is no value
pub task-none : (of_kind : Bool) (entries : List EntryPart) → IsNoValue (Some (task_thing of_kind entries))
task-none true entries = a_task_type entries refl
task-none false entries = a_task entries refl

module _ (old : ℕ → Bool) where
  -- a task on one side alone, where its name is no value on the other
  pub task-left : (x : PTask) (sp : Span) (s t : Scope) → Alike old s t → (old x.name.name.0 ≡ true → IsNoValue (meaning t x.name.name)) → Alike old (after_decl s (DTask x sp)) t
  task-left x sp s t a h =
      alike-on old s t _ t a (name-left old s t _ x.name a.names (λ o. no_values (task-none x.of_kind _) (h o))) refl refl refl refl

  pub task-right : (x : PTask) (sp : Span) (s t : Scope) → Alike old s t → (old x.name.name.0 ≡ true → IsNoValue (meaning s x.name.name)) → Alike old s (after_decl t (DTask x sp))
  task-right x sp s t a h =
      alike-on old s t s _ a (name-right old s t _ x.name a.names (λ o. no_values (h o) (task-none x.of_kind _))) refl refl refl refl

  -- a body on one side alone
  pub body-left : (w : Word) (objects : PDecls) (its : PBody) (sp : Span) (s t : Scope) → Alike old s t → Alike old (after_decl s (DTaskBody w objects its sp)) t
  body-left w objects its sp s t a =
      let n = tables-kept old s t (after_objects (in_body s w) objects).types t.types a.names (keeps-objects objects (in_body s w) refl) (keeps-self t.types) in
      record { names = record { types = n.types; things = n.things }; own = a.own; main = a.main }

  pub body-right : (w : Word) (objects : PDecls) (its : PBody) (sp : Span) (s t : Scope) → Alike old s t → Alike old s (after_decl t (DTaskBody w objects its sp))
  body-right w objects its sp s t a =
      let n = table-right old s t (after_objects (in_body t w) objects).types a.names (keeps-objects objects (in_body t w) refl) in
      record { names = record { types = n.types; things = n.things }; own = a.own; main = a.main }

  -- an object of new names, in main or in a body
  pub object-right : (names : List Word) (constant : Bool) (shape : PShape) (init : Option PInit) (sp : Span) (s t : Scope) → Alike old s t → AllByRecursion (IsNew old) names →
      Alike old s (after_decl t (DObject names constant shape init sp))
  object-right names constant shape init sp s t a h =
      let T = with_constants t names init (declared_object t constant shape) in
      let k : Keeps old t.types T = subst (Keeps old t.types) (names-types (declared_object t constant shape).thing names (with_types T t)) (keeps-decl (DObject names constant shape init sp) t h) in
      alike-on old s t s _ a (names-new old names s (with_types T t) (declared_object t constant shape).thing (table-right old s t T a.names k) h)
      refl (object-own t names constant shape init) refl (object-main t names constant shape init)
