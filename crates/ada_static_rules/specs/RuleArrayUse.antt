-- Rule ArrayUse: a whole array is named outside its declaration, an array's initial value is no list of all components and no value for all, or a scalar's is one of these (3.6, 4.3; this project's rule).
use Rattle.std.specs.Prelude.{pos, ◌+ℤ◌, ◌-ℤ◌, if◌then◌else◌, List, [], ◌∷◌, length, Option, Some, None}
use Rattle.std.specs.Ordering.{int_eq}
use Rattle.ada_tree.specs.declared.naming.Span.{Span}
use Rattle.ada_tree.specs.PlainExpr.{PExpr, EName}
use Rattle.ada_tree.specs.PlainStmt.{PTarget}
use Rattle.ada_tree.specs.PlainDecl.{PInit, IOne, IList, IOthers}
use Rattle.ada_static_rules.specs.Scope.{Scope, Reading, AsArray, reading}
use Rattle.ada_static_rules.specs.ExprTypes.{expr_place}
use Rattle.ada_static_rules.specs.Demand.{Initialized, for_scalar, for_array, Demand, node, writes, is_actual, initializes}

-- this place, where the name that stands there is an array's (3.6)
abbrev pub whole_array : Reading → Span → List Span
whole_array (AsArray index part) s = s ∷ []
whole_array _ s = []

-- an expression that is the name of a whole array (this project's rule)
abbrev pub array_in_node : Scope → PExpr → List Span
array_in_node scope (EName id s) = whole_array (reading scope id) s
array_in_node scope _ = []

-- a whole array that is written, without an index (this project's rule)
abbrev pub array_written : Scope → PTarget → List Span
array_written scope t = without_index t.index
  where
    without_index : Option PExpr → List Span
    without_index (Some e) = []
    without_index None = whole_array (reading scope t.name.name) t.name.span

-- an initial value of the wrong form
abbrev pub wrong_initial : Initialized → PInit → List Span
wrong_initial for_scalar (IOne e) = []
wrong_initial for_scalar (IList es s) = s ∷ []
wrong_initial for_scalar (IOthers e s) = s ∷ []
wrong_initial (for_array range) (IOne e) = expr_place e ∷ []
wrong_initial (for_array range) (IList es s) = if int_eq (pos (length es)) (range.last -ℤ range.first +ℤ pos 1) then [] else s ∷ []
wrong_initial (for_array range) (IOthers e s) = []

-- Whole arrays, and initial values of the wrong form.
abbrev pub array_use : Scope → Demand → List Span
array_use scope (node written e) = array_in_node scope e
array_use scope (writes t) = array_written scope t
array_use scope (is_actual mode e) = array_in_node scope e
array_use scope (initializes what value) = wrong_initial what value
array_use scope _ = []
