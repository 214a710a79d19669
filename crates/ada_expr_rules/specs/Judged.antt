-- What one walk of an expression tells: its kind, its value where it is static, the first operation that raises, and the first refusal of its parts.
use Rattle.std.specs.Prelude.{◌≡◌, ℕ, ℤ, false, if◌then◌else◌, Option, Some, None, Result}
use Rattle.ada_tree.specs.declared.naming.Span.{Span}
use Rattle.ada_tree.specs.PlainExpr.{PExpr, EInteger, EName, EIndex, EAttribute, EAttributeOf, EParen, EUnary, EBinary}
use Rattle.ada_static_rules.specs.Refusals.{Refusal}
use Rattle.ada_tree.specs.TypeTable.{TypeTable}
use Rattle.ada_static_rules.specs.StaticValue.{is_static, value_of}
use Rattle.ada_static_rules.specs.Scope.{Scope}
use Rattle.ada_static_rules.specs.ExprTypes.{kind_of}
use Rattle.ada_static_rules.specs.Demand.{node}
use Rattle.ada_static_rules.specs.RuleRangeBad.{raised, raises}
use Rattle.ada_static_rules.specs.Sooner.{sooner, found}
use Rattle.ada_static_rules.specs.RefusedFirst.{refused_first_at}
use Rattle.ada_expr_rules.specs.declared.judging.Judged.{Judged}

-- the value of a static expression, or the place of the operation in it that raises; nothing of another expression
abbrev pub fixed_value : TypeTable → PExpr → Option (Result ℤ Span)
fixed_value types e = if is_static types e then Some (value_of types e) else None

-- a value of two, where both are there
abbrev pub both : {A : Type 0} → (A → A → A) → Option A → Option A → Option A
both f (Some a) (Some b) = Some (f a b)
both f _ _ = None

-- what one operation raises where the whole is of a kind and static, else what its parts raise
abbrev pub raised_where : Option ℕ → Option (Result ℤ Span) → Option Refusal → Option Refusal
raised_where (Some k) (Some v) o = found 5 (raised v)
raised_where _ _ o = o

-- the first refusal of an expression's parts, which are no part of a text
abbrev pub parts_met : Scope → PExpr → Option Refusal
parts_met scope (EInteger n s) = None
parts_met scope (EName id s) = refused_first_at scope (node false (EName id s))
parts_met scope (EIndex w e s) = sooner (refused_first_at scope (node false (EIndex w e s))) (parts_met scope e)
parts_met scope (EAttribute m w s) = refused_first_at scope (node false (EAttribute m w s))
parts_met scope (EAttributeOf m w e s) = sooner (refused_first_at scope (node false (EAttributeOf m w e s))) (parts_met scope e)
parts_met scope (EParen e s) = parts_met scope e
parts_met scope (EUnary op e s) = sooner (refused_first_at scope (node false (EUnary op e s))) (parts_met scope e)
parts_met scope (EBinary op l r s) = sooner (refused_first_at scope (node false (EBinary op l r s))) (sooner (parts_met scope l) (parts_met scope r))

pub record IsJudged (scope : Scope) (e : PExpr) (j : Judged) : Type 0 where
  pub kind_is : j.kind ≡ kind_of scope e
  pub value_is : j.value ≡ fixed_value scope.types e
  pub raised_is : j.raised ≡ found 5 (raises scope e)
  pub parts_are : j.parts ≡ parts_met scope e
