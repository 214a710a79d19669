-- Rule ReadOut: a formal of mode out is read, or passed as in or in out (6.2).
use Rattle.std.specs.Prelude.{List, [], ◌∷◌, Option, Some}
use Rattle.ada_tree.specs.declared.naming.Span.{Span}
use Rattle.ada_tree.specs.declared.statements.ParMode.TheVariants.{Give, Both}
use Rattle.ada_tree.specs.PlainExpr.{PExpr, EName}
use Rattle.ada_static_rules.specs.Scope.{Scope, Thing, Parameter, meaning}
use Rattle.ada_static_rules.specs.Demand.{Demand, node, is_actual}

-- this place, where the name that stands there is a formal of mode out (6.2)
abbrev pub out_formal : Option Thing → Span → List Span
out_formal (Some (Parameter Give m)) s = s ∷ []
out_formal _ s = []

-- an expression that is the name of a formal of mode out (6.2)
abbrev pub read_name : Scope → PExpr → List Span
read_name scope (EName id s) = out_formal (meaning scope id) s
read_name scope _ = []

-- The formals of mode out that are read.
abbrev pub read_out : Scope → Demand → List Span
read_out scope (node written e) = read_name scope e
read_out scope (is_actual Both e) = read_name scope e
read_out scope _ = []
