-- What is told of an expression that stands at some places.
use Rattle.std.specs.Prelude.{◌≡◌, List}
use Rattle.ada_tree.specs.PlainExpr.{PExpr}
use Rattle.ada_static_rules.specs.Scope.{Scope}
use Rattle.ada_static_rules.specs.ExprTypes.{kind_of}
use Rattle.ada_static_rules.specs.Demand.{Site}
use Rattle.ada_static_rules.specs.RefusedFirst.{refused_first}
use Rattle.ada_expr_rules.specs.Judged.{fixed_value}
use Rattle.ada_expr_rules.specs.declared.walking.Walked.{Walked}

-- its kind, its value where it is static, and the first refusal at the places
pub record IsWalked (sites : List Site) (scope : Scope) (e : PExpr) (w : Walked) : Type 0 where
  pub kind_is : w.kind ≡ kind_of scope e
  pub value_is : w.value ≡ fixed_value scope.types e
  pub refusal_is : w.refusal ≡ refused_first sites
