-- What is told of an expression that is a part of a text.
use Rattle.std.specs.Prelude.{◌≡◌, List, ◌∷◌}
use Rattle.ada_tree.specs.PlainExpr.{PExpr}
use Rattle.ada_static_rules.specs.Scope.{Scope}
use Rattle.ada_static_rules.specs.ExprTypes.{kind_of}
use Rattle.ada_static_rules.specs.Demand.{whole, Site}
use Rattle.ada_static_rules.specs.Sites.{site, part_nodes}
use Rattle.ada_static_rules.specs.RefusedFirst.{refused_first}
use Rattle.ada_types.specs.declared.written_parts.Written.{Written}

-- the places of the expression and its parts, where it may be 'IMAGE itself
abbrev pub written_sites : Scope → PExpr → List Site
written_sites scope e = site scope (whole e) ∷ part_nodes scope e

-- its kind, and the first refusal at these places
pub record IsWritten (scope : Scope) (e : PExpr) (w : Written) : Type 0 where
  pub kind_is : w.kind ≡ kind_of scope e
  pub refusal_is : w.refusal ≡ refused_first (written_sites scope e)
