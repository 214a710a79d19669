-- The literals of a legal program are names of its own, and are worth the same in its normal form.
use Rattle.std.proofs.Common.{◌≡◌, ℕ, ℤ, pos, true, List, is_some, slice_get, unwrap_or, Some, refl, sym, ap, ◌∙◌, subst}
use Rattle.std.specs.Prelude.{unsigned_abs}
use Rattle.ada_tree.specs.declared.naming.NameId.{NameId}
use Rattle.ada_tree.specs.declared.static_types.Kind.TheVariants.{Enumeration}
use Rattle.ada_tree.specs.TypeTable.{TypeTable}
use Rattle.ada_tree.specs.PlainExpr.{PDrange}
use Rattle.ada_tree.specs.PlainProgram.{PProgram}
use Rattle.ada_tree.specs.WellPlaced.{IsWellPlaced}
use Rattle.ada_static_rules.specs.Refusals.{MeetsTypeRules, types_in}
use Rattle.ada_static_rules.specs.Scope.{kind_at}
use Rattle.ada_static_rules.specs.StaticValue.{value_named}
use Rattle.ada_value.specs.Values.{position_of, lies_in}
use Rattle.ada_value.specs.Evaluating.{fixed_value}
use Rattle.task_laws.specs.legal.rewritten_types.Laws.{behind}
use Rattle.task_laws.proofs.legal.rewritten_values.Saying.{fixed-alike}
use Rattle.normal_laws.specs.structure.types.Own.{own_name}
use Rattle.normal_laws.proofs.structure.types.Normal.{normal_agrees}
use Rattle.normal_laws.specs.runs.forms.Normalisable.{numbers_of, made_for}
use Rattle.task_laws.specs.legal.types.Typed.{IsSmall, HasLimits}
use Rattle.task_laws.proofs.legal.types.TypedValues.{anybody}
use Rattle.task_laws.proofs.legal.types.StaticWorth.{named-alike, keeps-agrees}
use Rattle.task_laws.proofs.legal.types.MainScopes.{StandsWhole, last-stands}
use Rattle.task_laws.proofs.legal.types.LaterScopes.{valued-means}
use Rattle.task_laws.specs.legal.literals.Literals.{StandsFor, HasIndexLiterals}
use Rattle.normal_laws.specs.existence.variable_types.Ready.{IsReady}
use Rattle.normal_laws.proofs.existence.variable_types.SubtypeForms.{meant-own}

-- a name of the program that has a fixed value, which stands at that position in the normal form
pub record IsLiteralAt (p : PProgram) (id : NameId) (i : ℤ) : Type 0 where
  pub own : own_name p id.0 ≡ true
  pub fixed : is_some (value_named (types_in p) id) ≡ true
  pub position : position_of (fixed_value (types_in (made_for p)) id) ≡ i

-- each index in a range over an enumeration has its literal
abbrev pub HasRangeLiterals : (p : PProgram) (r : PDrange) → HasLimits (types_in p) r → Type 0
HasRangeLiterals p r h =
    (ids : List NameId) → kind_at (types_in p) h.limits.kind ≡ Some (Enumeration ids) →
    (i : ℤ) → lies_in h.limits i ≡ true → IsLiteralAt p (unwrap_or (slice_get ids (unsigned_abs i)) (record { 0 = 0 })) i

module _ (p : PProgram) (ready : IsReady p) (placed : IsWellPlaced p) (small : IsSmall (types_in p)) where
  abbrev T : TypeTable
  T = types_in p

  rules : MeetsTypeRules p
  rules = ready.ordered.rules

  -- a name that has a value is the program's own
  valued-own : (id : NameId) → is_some (value_named T id) ≡ true → own_name p id.0 ≡ true
  valued-own id v =
      let last : StandsWhole T (behind p.name p.decls) = last-stands p rules placed small in
      let root = last.stands.root in
      let same = named-alike anybody root T (keeps-agrees root T last.stands.typed last.whole) id refl in
      let x = valued-means root (behind p.name p.decls) last.stands.over id (ap is_some same ∙ v) in
      meant-own p ready.names ready.ordered ready.own id x.0 x.1

  literal-at : (id : NameId) (k n : ℕ) → StandsFor T id k n → IsLiteralAt p id (pos n)
  literal-at id k n h =
      let fixed : is_some (value_named T id) ≡ true = ap is_some h.static in
      let own = valued-own id fixed in
      let same = fixed-alike (own_name p) T (types_in (made_for p)) (normal_agrees p T (numbers_of p) ready.ordered) id own in
      record { own = own; fixed = fixed; position = ap position_of (sym same ∙ h.worth) }

  -- The indices of a range have literals, which are the program's own.
  pub row-literals : (r : PDrange) (h : HasLimits T r) → HasIndexLiterals T r → HasRangeLiterals p r h
  row-literals r h indices ids e i lies =
      let l = indices h.limits h.range ids e i lies in
      subst (λ z. IsLiteralAt p (unwrap_or (slice_get ids (unsigned_abs z)) (record { 0 = 0 })) z) (sym l.position)
      (subst (λ o. IsLiteralAt p (unwrap_or o (record { 0 = 0 })) (pos l.place)) (sym l.there) (literal-at l.id h.limits.kind l.place l.stands))
