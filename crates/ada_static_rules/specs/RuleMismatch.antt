-- Rule Mismatch: the types of operands, targets, actuals, conditions, indices or bounds do not fit; a name of another class stands for a value, a mark or a task; or a task type stands as a mark elsewhere than in an object of main, or there with `constant`, a range or an initial value (4.5, 5.2, 6.4.1, 9.5; this project's rule).
use Rattle.std.specs.Prelude.{ℕ, Bool, true, false, not, ◌||◌, if◌then◌else◌, List, [], ◌∷◌, ◌++◌, Option, Some, None}
use Rattle.ada_tree.specs.declared.naming.Span.{Span}
use Rattle.ada_tree.specs.declared.naming.Word.{Word}
use Rattle.ada_tree.specs.PlainExpr.{PExpr, EInteger, EName, EIndex, EAttribute, EAttributeOf, EParen, EUnary, EBinary}
use Rattle.ada_tree.specs.PlainStmt.{PTarget}
use Rattle.ada_tree.specs.Attributes.{Attribute, attribute_of, is_function}
use Rattle.ada_static_rules.specs.Scope.{Scope, integer_kind, Thing, TaskType, SingleTask, TaskObject, TaskArray, MainProcedure, Unclear, Reading, AsScalar, AsArray, AsNoValue, reading, Marking, ScalarMark, ArrayMark, TaskMark, NoMark, UnknownMark, UnclearMark, marking, scalar_kind, meaning}
use Rattle.ada_static_rules.specs.ExprTypes.{Operand, expr_place, kind_of, takes, takes_one, is_taken, argument_kind, is_other_kind, component_kind}
use Rattle.ada_static_rules.specs.Demand.{MarkUse, scalar_only, or_array, or_task, or_array_or_task, Demand, stands_as_mark, node, must_be_of, must_be_alike, writes, gets, addresses}

-- an expression of another kind than asked; nothing is asked of one without a kind
abbrev pub of_other_kind : Scope → Option ℕ → PExpr → List Span
of_other_kind scope k e = if is_other_kind k (kind_of scope e) then expr_place e ∷ [] else []

-- a name that stands for a value and is none: a type, a task, an exception, a package or a procedure
abbrev pub no_value : Reading → Span → List Span
no_value AsNoValue s = s ∷ []
no_value _ s = []

-- the index of a component
abbrev pub misfit_index : Scope → Reading → PExpr → List Span
misfit_index scope (AsArray index part) e = of_other_kind scope (Some index) e
misfit_index scope _ e = []

-- which marks may stand at a place
abbrev pub is_allowed : MarkUse → Marking → Bool
is_allowed allowed (ScalarMark m k) = true
is_allowed or_array (ArrayMark m range part) = true
is_allowed or_array_or_task (ArrayMark m range part) = true
is_allowed allowed (ArrayMark m range part) = false
is_allowed or_task (TaskMark entries) = true
is_allowed or_array_or_task (TaskMark entries) = true
is_allowed allowed (TaskMark entries) = false
is_allowed allowed NoMark = false
is_allowed allowed UnknownMark = true
is_allowed allowed UnclearMark = true

-- the place of a word that is known and is no mark that may stand there (3.3.2; this project's rule)
abbrev pub wrong_mark : MarkUse → Scope → Word → List Span
wrong_mark allowed scope w = if is_allowed allowed (marking scope w.name) then [] else w.span ∷ []

-- the argument of an attribute that has one
abbrev pub misfit_argument : Scope → Attribute → Option ℕ → PExpr → List Span
misfit_argument scope a (Some k) e = if is_function a then of_other_kind scope (Some (argument_kind a k)) e else []
misfit_argument scope a None e = []

-- an operand that fits no form of its operator
abbrev pub is_misfit : Operand → Option ℕ → Bool
is_misfit operand (Some k) = not (is_taken operand k)
is_misfit operand None = false

-- the first operand that fits no form of its operator, and where each alone fits but not both together, the right one
abbrev pub misfit_operand : Operand → Option ℕ → Option ℕ → PExpr → PExpr → List Span
misfit_operand operand k l left right =
    if is_misfit operand k then expr_place left ∷ []
    else if is_misfit operand l || is_other_kind k l then expr_place right ∷ []
    else []

-- what does not fit in an expression, apart from what does not fit within its parts (3.5.5, 4.1.1, 4.5)
abbrev pub mismatch_in_node : Scope → PExpr → List Span
mismatch_in_node scope (EInteger n s) = []
mismatch_in_node scope (EName id s) = no_value (reading scope id) s
mismatch_in_node scope (EIndex w e s) = no_value (reading scope w.name) w.span ++ misfit_index scope (reading scope w.name) e
mismatch_in_node scope (EAttribute m w s) = wrong_mark scalar_only scope m
mismatch_in_node scope (EAttributeOf m w e s) = wrong_mark scalar_only scope m ++ misfit_argument scope (attribute_of w.name) (scalar_kind (marking scope m.name)) e
mismatch_in_node scope (EParen e s) = []
mismatch_in_node scope (EUnary op e s) = if is_misfit (takes_one op) (kind_of scope e) then expr_place e ∷ [] else []
mismatch_in_node scope (EBinary op l r s) = misfit_operand (takes op) (kind_of scope l) (kind_of scope r) l r

-- the index behind a name
abbrev pub misfit_of_target : Scope → PTarget → List Span
misfit_of_target scope t = misfit_at t.index
  where
    misfit_at : Option PExpr → List Span
    misfit_at (Some e) = misfit_index scope (reading scope t.name.name) e
    misfit_at None = []

-- the kind of what is written
abbrev pub target_kind : Scope → PTarget → Option ℕ
target_kind scope t = kind_at_index t.index (reading scope t.name.name)
  where
    kind_at_index : Option PExpr → Reading → Option ℕ
    kind_at_index (Some e) r = component_kind scope.types r (kind_of scope e)
    kind_at_index None (AsScalar k) = Some k
    kind_at_index None _ = None

-- what is called or aborted and is no task; the main procedure and task types are for another rule
abbrev pub no_task : Option Thing → Word → List Span
no_task (Some (TaskType entries)) w = []
no_task (Some (SingleTask entries)) w = []
no_task (Some (TaskObject entries)) w = []
no_task (Some (TaskArray range entries)) w = []
no_task (Some MainProcedure) w = []
no_task (Some Unclear) w = []
no_task None w = []
no_task (Some _) w = w.span ∷ []

-- the index of an array of tasks
abbrev pub misfit_member : Scope → Option Thing → Option PExpr → List Span
misfit_member scope (Some (TaskArray range entries)) (Some e) = of_other_kind scope (Some range.kind) e
misfit_member scope thing index = []

-- The parts that do not fit, each where it stands.
abbrev pub mismatch : Scope → Demand → List Span
mismatch scope (stands_as_mark allowed w) = wrong_mark allowed scope w
mismatch scope (node written e) = mismatch_in_node scope e
mismatch scope (must_be_of e k) = of_other_kind scope k e
mismatch scope (must_be_alike a b) = of_other_kind scope (kind_of scope a) b
mismatch scope (writes t) = misfit_of_target scope t
mismatch scope (gets t) = if is_other_kind (Some integer_kind) (target_kind scope t) then t.name.span ∷ [] else []
mismatch scope (addresses c) = no_task (meaning scope c.name.name) c.name ++ misfit_member scope (meaning scope c.name.name) c.index
mismatch scope _ = []
