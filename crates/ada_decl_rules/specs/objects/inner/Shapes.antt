-- What is told of an array that is declared with an object.
use Rattle.std.specs.Prelude.{◌≡◌, List, option_map}
use Rattle.ada_tree.specs.PlainExpr.{PSubind, PDrange}
use Rattle.ada_static_rules.specs.Scope.{Scope, marking}
use Rattle.ada_static_rules.specs.Demand.{Site}
use Rattle.ada_static_rules.specs.Declaring.{made_subind, marked_range, drange_range}
use Rattle.ada_static_rules.specs.RefusedFirst.{refused_first}
use Rattle.ada_scopes.specs.Entries.{plain_range}
use Rattle.ada_expr_rules.specs.Ranges.{made_as, range_as}
use Rattle.ada_decl_rules.specs.declared.objects.shapes.WalkedArray.{WalkedArray}

-- its index range, what its components make and their range, and the first refusal at the places
pub record IsArray (sites : List Site) (scope : Scope) (index : PDrange) (part : PSubind) (w : WalkedArray) : Type 0 where
  pub index_is : option_map plain_range w.index ≡ drange_range scope index
  pub made_is : made_as scope.types w.part ≡ made_subind scope part
  pub range_is : range_as scope.types w.part ≡ marked_range scope (marking scope part.mark.name) part.bounds
  pub refusal_is : w.refusal ≡ refused_first sites
