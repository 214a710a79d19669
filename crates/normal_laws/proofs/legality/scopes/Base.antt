-- A scope of a program and the one behind the first declarations of its normal form have the same names, since both tables grow from one.
use Rattle.std.proofs.Common.{◌≡◌, ℕ, Bool, option_map, Option, Some, None, refl, sym, ap, ◌∙◌, subst}
use Rattle.ada_tree.specs.declared.naming.NameId.{NameId}
use Rattle.ada_tree.specs.declared.static_types.Kind.{Kind}
use Rattle.ada_tree.specs.declared.static_types.Kind.TheVariants.{Integer, Truth, Enumeration, Array}
use Rattle.ada_tree.specs.declared.static_types.Mark.{Mark}
use Rattle.ada_tree.specs.TypeTable.{TypeTable}
use Rattle.ada_static_rules.specs.Scope.{Scope, Range, Thing, TypeMark, TaskType, SingleTask, TaskObject, TaskArray, Variable, ConstantObject, Parameter, LoopParameter, Literal, AnException, MainProcedure, AnotherUnit, Unclear, kind_at, mark_at, meaning}
use Rattle.task_laws.specs.legal.rewritten_types.Agreement.{scalar_only, IsScalar, Grows, Keeps, Sound, WholeTable}
use Rattle.task_laws.proofs.legal.rewritten_types.Keeping.{grows-self, keeps-self}
use Rattle.task_laws.proofs.legal.types.ExprKinds.{LeadsOn, IsClearThing}
use Rattle.task_laws.proofs.legal.types.FirmTables.{scalar-grown}
use Rattle.task_laws.proofs.legal.types.TypedValues.{anybody}
use Rattle.task_laws.specs.legal.alike_scopes.Alike.{SameScalar, SameMark, of_values, of_arrays, no_thing, a_task_type, a_task, a_task_object, a_task_array, the_procedure, a_unit, SameThing, same_type, same_variable, same_constant, same_parameter, same_loop_parameter, same_literal, same_exception, no_values, SameNames}
use Rattle.task_laws.proofs.legal.alike_scopes.Tables.{rooted_is_same}
use Rattle.normal_laws.proofs.legality.scopes.Parts.{HasParts}
use Rattle.normal_laws.proofs.legality.scopes.Kept.{IsKept, is_same, is_none}
use Rattle.normal_laws.proofs.legality.scopes.Places.{IsBeside, IsClearly}

-- ---- things of one table in two that have what it has

module _ (R T U : TypeTable) (parts : HasParts R) (g : Grows R T) (h : Grows R U) where
  abbrev range_of : Mark → Range
  range_of x = record { kind = x.kind; first = x.first; last = x.last }

  same-scalar : (m : ℕ) (x : Mark) → mark_at R m ≡ Some x → IsScalar R x.kind → SameScalar T U m m
  same-scalar m x e s = record { range = range_of x; left = ap (option_map range_of) (g.mark m x e); right = ap (option_map range_of) (h.mark m x e); kind = scalar-grown R T g x.kind s }

  same-mark : (m : ℕ) → LeadsOn R m → SameMark T U m m
  same-mark m l = by_kind l.kind l.known
    where
      by_kind : (k : Kind) → kind_at R l.mark.kind ≡ Some k → SameMark T U m m
      by_kind Integer e = of_values (same-scalar m l.mark l.there (Integer, ap scalar_only e))
      by_kind Truth e = of_values (same-scalar m l.mark l.there (Truth, ap scalar_only e))
      by_kind (Enumeration names) e = of_values (same-scalar m l.mark l.there (Enumeration names, ap scalar_only e))
      by_kind (Array index first last part) e =
          let v = parts.parts l.mark.kind index first last part e in
          of_arrays record {
            index = index;
            first = first;
            last = last;
            left_part = part;
            right_part = part;
            left_mark = l.mark;
            right_mark = l.mark;
            left = g.mark m l.mark l.there;
            right = h.mark m l.mark l.there;
            left_kind = g.kind l.mark.kind _ e;
            right_kind = h.kind l.mark.kind _ e;
            parts = same-scalar part v.0 v.1 v.2;
          }

  pub same-thing : (x : Thing) → IsClearThing R x → SameThing T U (Some x) (Some x)
  same-thing (TypeMark m) l = same_type m m refl refl (same-mark m l)
  same-thing (Variable m) l = same_variable m m refl refl (same-mark m l)
  same-thing (ConstantObject m) l = same_constant m m refl refl (same-mark m l)
  same-thing (Parameter mode m) l = same_parameter mode m m refl refl (same-mark m l)
  same-thing (LoopParameter m) l = same_loop_parameter m m refl refl (same-mark m l)
  same-thing (Literal k) l = same_literal k refl refl (scalar-grown R T g k l)
  same-thing AnException l = same_exception refl refl
  same-thing (TaskType es) l = no_values (a_task_type es refl) (a_task_type es refl)
  same-thing (SingleTask es) l = no_values (a_task es refl) (a_task es refl)
  same-thing (TaskObject es) l = no_values (a_task_object es refl) (a_task_object es refl)
  same-thing (TaskArray range es) l = no_values (a_task_array range es refl) (a_task_array range es refl)
  same-thing MainProcedure l = no_values (the_procedure refl) (the_procedure refl)
  same-thing AnotherUnit l = no_values (a_unit refl) (a_unit refl)
  same-thing Unclear l = absurd l

-- ---- the two scopes

-- what all names keep, some keep
pub fewer : (old : ℕ → Bool) (T U : TypeTable) → Keeps anybody T U → Keeps old T U
fewer old T U k = record { grows = k.grows; marks = λ id o. k.marks id refl; constants = λ id o. k.constants id refl; literals = k.literals; kinds = k.kinds }

pub base-same : (old : ℕ → Bool) (r s : Scope) → IsBeside r s → IsClearly r → Sound r.types → WholeTable r.types → HasParts r.types → SameNames old s r
base-same old r s b clear sound whole parts = record {
  types = rooted_is_same old r.types s.types r.types record { sound = sound; whole = whole; left = fewer old r.types s.types b.keeps; right = keeps-self r.types };
  things = λ id o. by_kept id (meaning r id) refl (b.kept id);
}
  where
    by_kept : (id : NameId) (q : Option Thing) → meaning r id ≡ q → IsKept (meaning s id) (meaning r id) → SameThing s.types r.types (meaning s id) (meaning r id)
    by_kept id q e (is_none x y) = no_values x y
    by_kept id None e (is_same f) = no_values (no_thing (f ∙ e)) (no_thing e)
    by_kept id (Some x) e (is_same f) =
        subst (λ a. SameThing s.types r.types a (meaning r id)) (sym (f ∙ e))
        (subst (SameThing s.types r.types (Some x)) (sym e) (same-thing r.types s.types r.types parts b.keeps.grows (grows-self r.types) x (clear id x e)))
