-- Rule NotStatic: an initial value, a named number, a bound of a declared range, a case choice or a priority is not static (4.9; this project's rule). It is asked of expressions that have a kind.
use Rattle.std.specs.Prelude.{not, ◌&&◌, if◌then◌else◌, List, [], ◌∷◌, is_some}
use Rattle.ada_tree.specs.declared.naming.Span.{Span}
use Rattle.ada_static_rules.specs.StaticValue.{is_static}
use Rattle.ada_static_rules.specs.Scope.{Scope}
use Rattle.ada_static_rules.specs.ExprTypes.{expr_place, kind_of}
use Rattle.ada_static_rules.specs.Demand.{Demand, must_be_static}

-- The expressions that must be static and are not.
abbrev pub not_static : Scope → Demand → List Span
not_static scope (must_be_static e) = if is_some (kind_of scope e) && not (is_static scope.types e) then expr_place e ∷ [] else []
not_static scope _ = []
