-- What is said of a scope of a program beside the one behind the first declarations of its normal form.
use Rattle.std.proofs.Common.{◌≡◌, List, Some, ◌⊎◌}
use Rattle.std.specs.List.{AllByRecursion}
use Rattle.ada_tree.specs.declared.naming.NameId.{NameId}
use Rattle.ada_tree.specs.PlainDecl.{PDecls, DTaskBody, no_decl, decl_then}
use Rattle.ada_static_rules.specs.Scope.{Scope, Thing, meaning}
use Rattle.ada_static_rules.specs.Declaring.{after_decl}
use Rattle.syn_event.specs.NamedTasks.{NamedTasks}
use Rattle.task_laws.specs.legal.rewritten_types.Agreement.{Keeps}
use Rattle.task_laws.proofs.legal.types.ExprKinds.{IsClearThing}
use Rattle.task_laws.proofs.legal.types.TypedValues.{anybody}
use Rattle.normal_laws.proofs.legality.scopes.Kept.{AreKept}
use Rattle.normal_laws.proofs.legality.scopes.Seeing.{IsPartSeen, IsPartHidden}

-- This of the scope at each body, and of that behind all declarations.
abbrev pub AtBodies : (Scope → Type 0) → Scope → PDecls → Type 0
AtBodies P s no_decl = P s
AtBodies P s (decl_then (DTaskBody w objects its sp) rest) = P s × AtBodies P (after_decl s (DTaskBody w objects its sp)) rest
AtBodies P s (decl_then d rest) = AtBodies P (after_decl s d) rest

-- The scope of a program beside the one behind the first declarations of its normal form: its table keeps that of the other, and names mean the same,
-- or no value in both.
pub record IsBeside (r s : Scope) : Type 0 where
  pub keeps : Keeps anybody r.types s.types
  pub kept : AreKept s r

-- each name that stands for tasks is seen with the entries of their unit, or is not declared before
abbrev pub IsSeenOrHidden : Scope → Scope → NamedTasks → Type 0
IsSeenOrHidden S s x = IsPartSeen S s x ⊎ IsPartHidden S s x

-- So it is with a scope of a program whose names for tasks are these.
pub record IsPlaced (S : Scope) (all : List NamedTasks) (r s : Scope) : Type 0 where
  pub beside : IsBeside r s
  pub parts : AllByRecursion (IsSeenOrHidden S s) all

-- what names mean there is clear
abbrev pub IsClearly : Scope → Type 0
IsClearly r = (id : NameId) (x : Thing) → meaning r id ≡ Some x → IsClearThing r.types x
