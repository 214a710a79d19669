-- What the statements of a unit ask for is there behind bodies too, which leave nothing but types.
use Rattle.std.proofs.Common.{◌≡◌, ℕ, Bool, List, [], Option, Some, None, refl, sym, ap, subst, ◌∙◌}
use Rattle.ada_tree.specs.declared.naming.NameId.{NameId}
use Rattle.ada_tree.specs.declared.static_types.Kind.{Kind}
use Rattle.ada_tree.specs.declared.static_types.Kind.TheVariants.{Integer, Truth, Enumeration, Array}
use Rattle.ada_tree.specs.declared.static_types.Mark.{Mark}
use Rattle.ada_tree.specs.TypeTable.{TypeTable}
use Rattle.ada_tree.specs.PlainProgram.{PProgram}
use Rattle.ada_static_rules.specs.Scope.{Scope, Family, single, family, unclear, Thing, TypeMark, TaskType, SingleTask, TaskObject, TaskArray, Variable, ConstantObject, Parameter, LoopParameter, Literal, AnException, MainProcedure, AnotherUnit, Unclear, kind_at, mark_at, marking, marking_of, marking_of_mark, marking_of_kind, scalar_kind, meaning, entry_named}
use Rattle.task_model.specs.Setting.{Setting}
use Rattle.task_laws.specs.legal.rewritten_types.Agreement.{Grows, Keeps}
use Rattle.task_laws.specs.legal.alike_scopes.Alike.{Alike}
use Rattle.normal_model.specs.RewrittenUnit.{RewrittenUnit}
use Rattle.replay_model.specs.Names.{kind_text, argument_text, index_text, control_text, idle_text, never_text, added_id}
use Rattle.replay_structure.specs.typed.ScopeOf.{HasLists, IsCountedBy, as_itself, by_position, IsEntryOf, HasDoubles, IsScopeOf}
use Rattle.replay_structure.proofs.scopes.Permit.{only, number-step}
use Rattle.replay_structure.proofs.scopes.Bodies.{control-moved, idle-moved}

-- ---- marks

-- a scalar mark is one among more types
scalar-more : (T U : TypeTable) → Grows T U → (o : Option Thing) (k : ℕ) → scalar_kind (marking_of T o) ≡ Some k → scalar_kind (marking_of U o) ≡ Some k
scalar-more T U g (Some (TypeMark m)) k h = by_mark (mark_at T m) refl h
  where
    by_kind : (mark : Mark) (x : Option Kind) → kind_at T mark.kind ≡ x → scalar_kind (marking_of_kind m mark.kind x) ≡ Some k → scalar_kind (marking_of_kind m mark.kind (kind_at U mark.kind)) ≡ Some k
    by_kind mark None e f = cc
    by_kind mark (Some x) e f = ap (λ o. scalar_kind (marking_of_kind m mark.kind o)) (g.kind mark.kind x e) ∙ f

    by_mark : (x : Option Mark) → mark_at T m ≡ x → scalar_kind (marking_of_mark T m x) ≡ Some k → scalar_kind (marking_of_mark U m (mark_at U m)) ≡ Some k
    by_mark None e f = cc
    by_mark (Some mark) e f = ap (λ o. scalar_kind (marking_of_mark U m o)) (g.mark m mark e) ∙ by_kind mark (kind_at T mark.kind) refl f
scalar-more T U g (Some (TaskType es)) k h = cc
scalar-more T U g (Some (SingleTask es)) k h = cc
scalar-more T U g (Some (TaskObject es)) k h = cc
scalar-more T U g (Some (TaskArray r es)) k h = cc
scalar-more T U g (Some (Variable m)) k h = cc
scalar-more T U g (Some (ConstantObject m)) k h = cc
scalar-more T U g (Some (Parameter mode m)) k h = cc
scalar-more T U g (Some (LoopParameter m)) k h = cc
scalar-more T U g (Some (Literal j)) k h = cc
scalar-more T U g (Some AnException) k h = cc
scalar-more T U g (Some MainProcedure) k h = cc
scalar-more T U g (Some AnotherUnit) k h = cc
scalar-more T U g (Some Unclear) k h = cc
scalar-more T U g None k h = cc

-- ---- scopes

module _ (u : RewrittenUnit) (old inner : ℕ → Bool) (c d d' : Scope) (same : (id : NameId) → meaning d' id ≡ meaning d id) (own : d'.own ≡ d.own) (kept : (id : NameId) → Keeps (only id) d.types d'.types) where
  abbrev g : Setting
  g = u.setting

  abbrev q : PProgram
  q = u.setting.program

  scalar-moved : (id : NameId) (k : ℕ) → scalar_kind (marking d id) ≡ Some k → scalar_kind (marking d' id) ≡ Some k
  scalar-moved id k h = ap (λ o. scalar_kind (marking_of d'.types o)) (same id) ∙ scalar-more d.types d'.types (kept id).grows (meaning d id) k h

  counted-moved : (types : TypeTable) (j k : ℕ) → IsCountedBy types inner d j k → IsCountedBy types inner d' j k
  counted-moved types j k (as_itself e f) = as_itself e f
  counted-moved types j k (by_position n m o) = by_position n (scalar-moved _ k m) o

  entry-moved : (e : ℕ) (fam : Family) → IsEntryOf g inner d e fam → IsEntryOf g inner d' e fam
  entry-moved e single h = h
  entry-moved e (family range) h = record { written = h.written; flag = h.flag; is = h.is; counted = counted-moved g.types _ range.kind h.counted }
  entry-moved e unclear h = h

  -- A unit's scope, where names mean the same and no type goes.
  pub scope-moved : Alike old c d' → IsScopeOf u old inner c d → IsScopeOf u old inner c d'
  scope-moved alike rel = record {
    alike = alike;
    kind = number-step d d' (added_id q kind_text) (same (added_id q kind_text)) (kept (added_id q kind_text)) rel.kind;
    argument = number-step d d' (added_id q argument_text) (same (added_id q argument_text)) (kept (added_id q argument_text)) rel.argument;
    index = number-step d d' (added_id q index_text) (same (added_id q index_text)) (kept (added_id q index_text)) rel.index;
    falses = same _ ∙ rel.falses;
    control = control-moved q d d' (same (added_id q control_text)) rel.control;
    idle = idle-moved q d d' (same (added_id q idle_text)) rel.idle;
    tasks = λ id entries o h. subst (HasDoubles q old entries) (sym (same id)) (rel.tasks id entries o h);
    never = λ id h. subst (λ l. HasLists (entry_named l (added_id q never_text)) single []) (sym own) (rel.never id h);
    called = λ id name part e. entry-moved _ part.family (rel.called id name part e);
    accepted = λ name part e. entry-moved _ part.family (rel.accepted name part e);
  }
