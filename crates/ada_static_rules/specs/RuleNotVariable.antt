-- Rule NotVariable: what an assignment or GET writes, or an actual of mode out or in out, is no variable: it is a constant, a formal of mode in, a loop parameter, another thing or no name at all; or such an actual is a component (5.2, 6.4.1, 14.3; this project's rule). A whole array is for another rule.
use Rattle.std.specs.Prelude.{Bool, true, false, List, [], ◌∷◌, Option, Some, None}
use Rattle.ada_tree.specs.declared.naming.Span.{Span}
use Rattle.ada_tree.specs.declared.statements.ParMode.TheVariants.{Take, Give, Both}
use Rattle.ada_tree.specs.PlainExpr.{PExpr, EName, EIndex}
use Rattle.ada_static_rules.specs.Scope.{Scope, Thing, Variable, Parameter, Unclear, Reading, AsArray, reading, meaning}
use Rattle.ada_static_rules.specs.ExprTypes.{expr_place}
use Rattle.ada_static_rules.specs.Demand.{Demand, writes, is_actual}

-- a variable, or a formal that can be written; of a name that is not declared, or whose declaration is refused, nothing is asked
abbrev pub is_variable : Option Thing → Bool
is_variable (Some (Variable m)) = true
is_variable (Some (Parameter Take m)) = false
is_variable (Some (Parameter Give m)) = true
is_variable (Some (Parameter Both m)) = true
is_variable (Some Unclear) = true
is_variable (Some _) = false
is_variable None = true

-- the name stands for an array (3.6)
abbrev pub is_array : Reading → Bool
is_array (AsArray index part) = true
is_array _ = false

-- this place, where the test fails, else none
abbrev pub unless : Bool → Span → List Span
unless true s = []
unless false s = s ∷ []

-- a name that is written, without an index: an array is for another rule
abbrev pub whole_written : Bool → Bool → Span → List Span
whole_written true variable s = []
whole_written false variable s = unless variable s

-- a name that is written, with an index or without
abbrev pub written_name : Scope → Option PExpr → Reading → Option Thing → Span → List Span
written_name scope (Some e) r thing s = unless (is_variable thing) s
written_name scope None r thing s = whole_written (is_array r) (is_variable thing) s

-- an actual that is written
abbrev pub written_actual : Scope → PExpr → List Span
written_actual scope (EName id s) = written_name scope None (reading scope id) (meaning scope id) s
written_actual scope (EIndex w e s) = w.span ∷ []
written_actual scope e = expr_place e ∷ []

-- What is written and is no variable.
abbrev pub not_variable : Scope → Demand → List Span
not_variable scope (writes t) = written_name scope t.index (reading scope t.name.name) (meaning scope t.name.name) t.name.span
not_variable scope (is_actual mode e) = written_actual scope e
not_variable scope _ = []
