-- What the static rules look at: the places of a program, each with the names that can be used there (this project's rule).
use Rattle.std.specs.Prelude.{ℕ, Bool, List, Option}
use Rattle.ada_tree.specs.declared.naming.Span.{Span}
use Rattle.ada_tree.specs.declared.naming.Word.{Word}
use Rattle.ada_tree.specs.declared.statements.ParMode.{ParMode}
use Rattle.ada_tree.specs.PlainExpr.{PExpr}
use Rattle.ada_tree.specs.PlainStmt.{PTarget, PCallee, PCall, PChoice, PHead}
use Rattle.ada_tree.specs.PlainDecl.{PInit}
use Rattle.ada_static_rules.specs.Scope.{Scope, Range}

-- the marks that may stand at a place: scalar ones always, and besides array types or task types
pub data MarkUse : Type 0 where
  scalar_only : MarkUse
  or_array : MarkUse
  or_task : MarkUse
  or_array_or_task : MarkUse

-- what an initial value is for: a scalar, or an array with that index range
pub data Initialized : Type 0 where
  for_scalar : Initialized
  for_array : Range → Initialized

-- what stands at a place that the static rules look at (this project's rule)
pub data Demand : Type 0 where
  -- a name is declared; the truth value says whether it is a name of main and no variable
  declares : Bool → Word → Demand
  -- an entry is declared, behind those of the same task
  declares_entry : List ℕ → Word → Demand
  -- a loop has a name
  labels : Word → Demand
  -- a task gets its body
  gives_body : Word → Demand
  -- an instance of INTEGER_IO is made
  makes_instance : Word → Demand
  -- a name stands as a mark
  stands_as_mark : MarkUse → Word → Demand
  -- an expression that is no part of another one
  whole : PExpr → Demand
  -- an expression or a part of one; the truth value says whether it is a part of what PUT writes
  node : Bool → PExpr → Demand
  -- an expression must be of a kind, where that kind is known
  must_be_of : PExpr → Option ℕ → Demand
  -- two bounds without a mark must be of one kind
  must_be_alike : PExpr → PExpr → Demand
  -- an expression must be static
  must_be_static : PExpr → Demand
  -- a range of two static bounds must not be empty
  must_not_be_empty : PExpr → PExpr → Demand
  -- a static value must lie in a range, where that range is known
  must_lie_in : PExpr → Option Range → Demand
  -- what an assignment or GET writes
  writes : PTarget → Demand
  -- what GET reads must be an INTEGER
  gets : PTarget → Demand
  -- an actual of mode out or in out
  is_actual : ParMode → PExpr → Demand
  -- a task in a call or an abort statement
  addresses : PCallee → Demand
  -- an entry and the lists behind it in a call
  calls : PCall → Demand
  -- an entry, the index and the formals of an accept
  accepts : PHead → Demand
  -- a name where an exception's is needed
  names_exception : Word → Demand
  -- a handler's choice, behind those of the same body or block
  handles : List ℕ → Word → Demand
  -- the choices of a case, and whether it has others
  chooses : PExpr → List PChoice → Bool → Span → Demand
  -- an initial value
  initializes : Initialized → PInit → Demand
  -- a part of what PUT writes, and whether it stands alone, and in PUT and not PUT_LINE
  is_written : Bool → PExpr → Demand

-- a place of the program, with the names that can be used there
pub record Site : Type 0 where
  pub scope : Scope
  pub demand : Demand
