-- What is told of declarations that stand at some places.
use Rattle.std.specs.Prelude.{◌≡◌, Bool, true, List, [], ◌∷◌, Some}
use Rattle.ada_tree.specs.declared.naming.Word.{Word}
use Rattle.ada_tree.specs.PlainExpr.{PExpr}
use Rattle.ada_tree.specs.PlainDecl.{PDecls}
use Rattle.ada_tree.specs.PlainProgram.{PProgram}
use Rattle.ada_static_rules.specs.Scope.{Scope, ConstantObject, AnotherUnit, integer_kind}
use Rattle.ada_static_rules.specs.ExprTypes.{static_in}
use Rattle.ada_static_rules.specs.Demand.{Site}
use Rattle.ada_static_rules.specs.Declaring.{with_name, with_types, add_constants, in_body, after_objects}
use Rattle.ada_static_rules.specs.Sites.{sites}
use Rattle.ada_static_rules.specs.Refusals.{types_in}
use Rattle.ada_static_rules.specs.RefusedFirst.{refused_first}
use Rattle.ada_static_rules.specs.Repeated.{repeated_from}
use Rattle.ada_types.specs.declared.walked_decls.WalkedDecl.{WalkedDecl}
use Rattle.ada_types.specs.declared.walked_decls.WalkedDecls.{WalkedDecls}
use Rattle.ada_types.specs.declared.types.WalkedProgram.{WalkedProgram}

-- the scope that a declaration leaves, the first refusal at its places, and whether it is one of objects that are tasks
pub record IsDecl (sites : List Site) (after : Scope) (of_tasks : Bool) (w : WalkedDecl) : Type 0 where
  pub scope_is : w.scope ≡ after
  pub refusal_is : w.refusal ≡ refused_first sites
  pub of_tasks_is : w.of_tasks ≡ of_tasks

-- the scope that several leave, and the first refusal at their places
pub record AreDecls (sites : List Site) (after : Scope) (w : WalkedDecls) : Type 0 where
  pub scope_is : w.scope ≡ after
  pub refusal_is : w.refusal ≡ refused_first sites

-- behind a named number, an instance of INTEGER_IO, and a task body
abbrev pub after_number : Scope → Word → PExpr → Scope
after_number scope name e = with_name (ConstantObject 0) (with_types (add_constants (name ∷ []) (Some 0) (static_in scope integer_kind e) scope.types) scope) name

abbrev pub instance_made : Scope → Word → Scope
instance_made scope name = record (with_name AnotherUnit scope name) { has_instance = true }

abbrev pub after_body : Scope → Word → PDecls → Scope
after_body scope name objects = record scope { types = (after_objects (in_body scope name) objects).types; bodies = name.name.0 ∷ scope.bodies }

-- the types of a program, and what is refused first at its places
pub record IsProgram (p : PProgram) (w : WalkedProgram) : Type 0 where
  pub types_are : w.types ≡ types_in p
  pub others_are : w.others ≡ refused_first (sites p)
  pub repeated_is : w.repeated ≡ repeated_from [] (sites p)
