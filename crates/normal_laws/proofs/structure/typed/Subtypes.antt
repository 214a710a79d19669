-- A variable of a range has the kind and the bounds of the range, and one of a mark has its kind.
use Rattle.std.proofs.Common.{◌≡◌, [], Option, None, Result, Ok, sym, ap, ap₂, ◌∙◌}
use Rattle.ada_tree.specs.declared.naming.NameId.{NameId}
use Rattle.ada_tree.specs.declared.naming.Span.{Span}
use Rattle.ada_tree.specs.declared.naming.Word.{Word}
use Rattle.ada_tree.specs.TypeTable.{TypeTable}
use Rattle.ada_tree.specs.PlainExpr.{PDrange, RGiven, RMarked}
use Rattle.ada_static_rules.specs.Scope.{Scope, Range}
use Rattle.ada_value.specs.declared.values.Limits.{Limits}
use Rattle.ada_value.specs.declared.values.Raised.{Raised}
use Rattle.ada_value.specs.Values as values
use Rattle.ada_value.specs.Values.{limits_of, limits_named}
use Rattle.ada_value.specs.Evaluating.{range_of}
use Rattle.task_model.specs.Starting.{known_range}
use Rattle.normal_model.specs.Ranges.{kind_of_range, kind_name, range_subtype, subtype_of_range}
use Rattle.task_laws.specs.legal.types.Typed.{HasLimits}
use Rattle.normal_laws.specs.structure.typed.ScopeOf.{HasKnownKinds, IsVariableOf, IsRange}

abbrev fine : Limits → Result Limits Raised
fine x = Ok x

ok-same : (x y : Limits) → fine x ≡ fine y → x ≡ y
ok-same x y e = cc

module _ (T : TypeTable) (known : HasKnownKinds T) where
  -- the limits of the subtype of a variable for a range are those of the range
  subtype-limits : (s : Span) (r : PDrange) (h : HasLimits T r) → range_of T [] (RMarked (range_subtype T s r)) ≡ Ok h.limits
  subtype-limits s (RMarked x) h = h.range
  subtype-limits s (RGiven b) h =
      let same : kind_of_range T (RGiven b) ≡ h.limits.kind = ap (λ q. (known_range q).kind) h.range in
      ap (λ q. values.and_then q (λ (r : Limits). Ok record { kind = (limits_named T (kind_name T (kind_of_range T (RGiven b)))).kind; first = r.first; last = r.last })) h.range
      ∙ ap (λ k. Ok record { kind = (limits_named T (kind_name T k)).kind; first = h.limits.first; last = h.limits.last }) same
      ∙ ap (λ k. Ok record { kind = k; first = h.limits.first; last = h.limits.last }) (known.names h.limits.kind h.scalar)

  -- a variable of a declared range has its kind and its bounds
  pub range-variable : (d : Scope) (id : NameId) (s : Span) (o : Option PDrange) (range : Range) (h : IsRange T o range) (v : IsVariableOf T d id (subtype_of_range T s o)) →
      record { kind = v.mark.kind; first = v.mark.first; last = v.mark.last } ≡ range
  range-variable d id s o range h v =
      let is : fine h.has.limits ≡ fine (limits_of v.mark) =
      sym (subtype-limits s h.written h.has) ∙ ap (λ q. range_of T [] (RMarked (subtype_of_range T s q))) (sym h.is) ∙ v.limits in
      let same : h.has.limits ≡ limits_of v.mark = ok-same h.has.limits (limits_of v.mark) is in
      ap (λ (l : Limits). record { kind = l.kind; first = l.first; last = l.last }) (sym same)
      ∙ ap₂ (λ k f. record { kind = k; first = f; last = h.has.limits.last }) h.kind h.first
      ∙ ap (λ l. record { kind = range.kind; first = range.first; last = l }) h.last

-- a variable of a mark has the mark's kind
pub mark-variable : (T : TypeTable) (d : Scope) (id : NameId) (w : Word) (v : IsVariableOf T d id (record { mark = w; bounds = None })) → v.mark.kind ≡ (limits_named T w.name).kind
mark-variable T d id w v = ap (λ (l : Limits). l.kind) (sym (ok-same (limits_named T w.name) (limits_of v.mark) v.limits))
