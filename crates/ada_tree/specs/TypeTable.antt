-- What contracts see of `Types`: the kinds, the marks and the constants, as lists.
use Rattle.std.specs.Prelude.{List}
use Rattle.ada_tree.specs.declared.static_types.Kind.{Kind}
use Rattle.ada_tree.specs.declared.static_types.Mark.{Mark}
use Rattle.ada_tree.specs.declared.static_types.Constant.{Constant}

-- the kinds, the marks and the constants of a program, as lists (this project's rule)
pub record TypeTable : Type 0 where
  pub kinds : List Kind
  pub marks : List Mark
  pub constants : List Constant
