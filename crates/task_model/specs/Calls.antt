-- Entry calls (9.5, 9.7.2, 9.7.3): what a call comes to where it stands, the values with which formals open, and the values that come back (6.2, 6.4.1).
use Rattle.std.specs.Prelude.{ℕ, ℤ, Bool, true, false, List, [], ◌∷◌, Option, Some, None, Result, Ok, Err}
use Rattle.ada_tree.specs.declared.naming.NameId.{NameId}
use Rattle.ada_tree.specs.declared.statements.ParMode.{ParMode}
use Rattle.ada_tree.specs.declared.statements.ParMode.TheVariants.{Take, Give, Both}
use Rattle.ada_tree.specs.PlainExpr.{PExpr, EName}
use Rattle.ada_tree.specs.PlainStmt.{PCall, PStmt, SCall, SConditional, STimed, PStmts, no_stmt, stmt_then}
use Rattle.ada_tree.specs.TypeTable.{TypeTable}
use Rattle.ada_value.specs.declared.values.Value.{Value}
use Rattle.ada_value.specs.declared.values.Raised.{Raised}
use Rattle.ada_value.specs.Values.{and_then, lower_bound, checked}
use Rattle.ada_value.specs.Variables.{Object, Variables, object_named, value_there, checked_for, set_value}
use Rattle.ada_value.specs.Evaluating.{evaluated}
use Rattle.task_model.specs.declared.parameters.FormalParameter.{FormalParameter}
use Rattle.task_model.specs.Setting.{Setting, callee_task, entry_of, member_index, entry_parameters, Lists, lists_of}
use Rattle.task_model.specs.Tasks.{Task, rest_of, vars_of}

-- ---- copying in (6.2, 6.4.1)

-- The opening value of a formal: of an `in` or `in out` one that of the actual, which is checked against the formal's subtype; of an `out` one the lower bound of its subtype (this project's rule).
abbrev pub opening : TypeTable → Variables → FormalParameter → ParMode → PExpr → Result Value Raised
opening types vars formal Take e = and_then (evaluated types vars e) (λ v. checked formal.limits v)
opening types vars formal Give e = Ok (lower_bound types formal.limits)
opening types vars formal Both e = and_then (evaluated types vars e) (λ v. checked formal.limits v)

-- The opening values of formals, in order: each actual is evaluated and checked before the next. A formal without actual, as in no legal program, opens with its lower bound.
abbrev pub openings : TypeTable → Variables → List FormalParameter → List PExpr → Result (List Value) Raised
openings types vars [] actuals = Ok []
openings types vars (formal ∷ formals) [] = and_then (openings types vars formals []) (λ vs. Ok (lower_bound types formal.limits ∷ vs))
openings types vars (formal ∷ formals) (e ∷ actuals) =
    and_then (opening types vars formal formal.mode e) (λ v. and_then (openings types vars formals actuals) (λ vs. Ok (v ∷ vs)))

-- The formals as variables of an accept body, with their opening values.
abbrev pub opened_object : FormalParameter → Value → Object
opened_object formal v = record { name = formal.name; limits = formal.limits; index = None; values = v ∷ [] }

-- the formals of an accept body as variables, in order; one without a value, as in no legal program, has its lower bound (6.2)
abbrev pub opened_objects : TypeTable → List FormalParameter → List Value → List Object
opened_objects types [] vs = []
opened_objects types (formal ∷ formals) [] = opened_object formal (lower_bound types formal.limits) ∷ opened_objects types formals []
opened_objects types (formal ∷ formals) (v ∷ vs) = opened_object formal v ∷ opened_objects types formals vs

-- ---- what a call comes to

-- A call, evaluated: the entry with its owner's number in it, the index of its member, and the opening values of the formals.
pub record Called : Type 0 where
  pub entry : ℕ
  pub index : ℤ
  pub values : List Value

-- the lists of a call of an entry: the index of a family first, then the actuals
abbrev pub called_with : Setting → Variables → ℕ → Lists → Result Called Raised
called_with g vars e lists =
    and_then (member_index g vars e lists.index) (λ i.
    and_then (openings g.types vars (entry_parameters g e) lists.actuals) (λ vs.
    Ok record { entry = e; index = i; values = vs }))

-- A call where it stands: the callee and its index first, then a family's index, then the actuals in order (9.5).
abbrev pub called : Setting → Variables → PCall → Result Called Raised
called g vars call =
    and_then (callee_task g vars call.task) (λ owner.
    called_with g vars (entry_of g.numbers owner call.entry.name) (lists_of g.numbers (entry_of g.numbers owner call.entry.name) call.args))

-- the call of a statement, of any form
abbrev pub call_of : PStmt → Option PCall
call_of (SCall call s) = Some call
call_of (SConditional call more otherwise s) = Some call
call_of (STimed call more d after s) = Some call
call_of _ = None

-- the call at which these statements begin, if they begin with one
abbrev pub call_in : PStmts → Option PCall
call_in no_stmt = None
call_in (stmt_then s rest) = call_of s

-- what the call comes to at which the task stands, if it stands at one
abbrev pub called_by : Setting → Variables → Option PCall → Option (Result Called Raised)
called_by g vars None = None
called_by g vars (Some call) = Some (called g vars call)

-- the opening values of a call, where it could be evaluated
abbrev pub opening_values : Option (Result Called Raised) → List Value
opening_values (Some (Ok c)) = c.values
opening_values (Some (Err x)) = []
opening_values None = []

-- The opening values that the caller hands over, where it stands at its call.
abbrev pub values_handed : Task → List Value
values_handed t = opening_values (called_by t.setting (vars_of t) (call_in (rest_of t)))

-- ---- copying back (6.2, 6.4.1)

-- a formal whose value comes back
abbrev pub comes_back : ParMode → Bool
comes_back Take = false
comes_back Give = true
comes_back Both = true

-- the last values of the formals that come back, of variables that begin with the formals
abbrev pub finals_if : Bool → Object → List Value → List Value
finals_if true o rest = value_there o 0 ∷ rest
finals_if false o rest = rest

-- the last values of all formals that come back, in the order of the formals (6.2)
abbrev pub finals_in : List FormalParameter → Variables → List Value
finals_in [] vars = []
finals_in (formal ∷ formals) [] = []
finals_in (formal ∷ formals) (o ∷ vars) = finals_if (comes_back formal.mode) o (finals_in formals vars)

-- the variable that an actual is; other actuals of these modes are of no legal program
abbrev pub variable_of : PExpr → Option NameId
variable_of (EName id s) = Some id
variable_of _ = None

-- The variables of a caller as values come back, and the exception that stopped it.
pub record Copies : Type 0 where
  pub vars : Variables
  pub stopped : Option Raised

-- one value comes back to a variable: outside the variable's subtype CONSTRAINT_ERROR is raised
abbrev pub stored_back : Variables → Option NameId → Value → Result Variables Raised
stored_back vars None v = Ok vars
stored_back vars (Some id) v = and_then (checked_for (object_named vars id) v) (λ w. Ok (set_value vars id 0 w))

-- copying goes on with the variables that a value has changed, or stops there with those of before (6.4.1)
abbrev pub copies_on : (Variables → Copies) → Variables → Result Variables Raised → Copies
copies_on more vars (Ok changed) = more changed
copies_on more vars (Err x) = record { vars = vars; stopped = Some x }

-- the value of one formal comes back to its actual, and then those of the others
abbrev pub copied_one : (List Value → Variables → Copies) → ParMode → PExpr → List Value → Variables → Copies
copied_one more Take e vs vars = more vs vars
copied_one more m e [] vars = record { vars = vars; stopped = None }
copied_one more m e (v ∷ vs) vars = copies_on (λ changed. more vs changed) vars (stored_back vars (variable_of e) v)

-- Values come back to the actuals in the order of the formals; the first that does not fit stops, and the earlier ones stay (6.4.1; the order is this project's rule).
abbrev pub copied_back : List FormalParameter → List PExpr → List Value → Variables → Copies
copied_back [] actuals vs vars = record { vars = vars; stopped = None }
copied_back (formal ∷ formals) [] vs vars = record { vars = vars; stopped = None }
copied_back (formal ∷ formals) (e ∷ actuals) vs vars = copied_one (λ ws changed. copied_back formals actuals ws changed) formal.mode e vs vars
