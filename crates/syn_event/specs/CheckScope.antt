-- What the rules 13 to 23 look at: the places of a program, each with its scope and the demand there (this project's rule).
use Rattle.std.specs.Prelude.{ℕ, Bool, ◌==◌, List, find, Option, option_map}
use Rattle.ada_tree.specs.declared.naming.NameId.{NameId}
use Rattle.ada_tree.specs.declared.naming.Span.{Span}
use Rattle.ada_tree.specs.declared.naming.Word.{Word}
use Rattle.ada_tree.specs.TypeTable.{TypeTable}
use Rattle.ada_tree.specs.PlainStmt.{PHead, PAlts}
use Rattle.syn_event.specs.declared.limits.What.{What}
use Rattle.syn_event.specs.declared.meanings.Meant.{Meant}

-- the task or task type in whose body a place is: its name, and the names of its entries
pub record EnclosingUnit : Type 0 where
  pub name : NameId
  pub entries : List NameId

-- the scope of a place for these rules: what stands around it
pub record CheckScope : Type 0 where
  -- the types, marks and constants of the program
  pub types : TypeTable
  -- what the names mean, the innermost and latest first; a name that means nothing to these rules is not listed
  pub names : List (ℕ × Meant)
  -- the tasks and task types that are declared before
  pub units : List EnclosingUnit
  -- the task or type in whose body the place is; none in main
  pub own : Option EnclosingUnit
  -- the entries of the accepts around it
  pub accepting : List NameId
  -- the names, where they have one, of the loops around it that stand in the same accept
  pub loops : List (Option NameId)
  -- whether it stands in a handler
  pub in_handler : Bool

-- what a name means at a place
abbrev pub meaning : CheckScope → NameId → Option Meant
meaning around id = option_map (λ k. k.1) (find (λ k. k.0 == id.0) around.names)

-- the demand at a place
pub data CheckDemand : Type 0 where
  -- a name is declared
  declares : Word → CheckDemand
  -- a name stands for a value or a variable
  uses : NameId → Span → CheckDemand
  -- a name stands where that of a task is needed
  addresses : Word → CheckDemand
  -- a name in an abort statement with a further one behind it
  aborts_before : Word → CheckDemand
  -- an accept
  accepts : PHead → CheckDemand
  -- a selective wait: its alternatives, and whether it has an else part
  waits : PAlts → Bool → Span → CheckDemand
  -- an exit, which may name a loop
  exits : Option Word → Span → CheckDemand
  -- a raise without a name
  raises_again : Span → CheckDemand
  -- a task or task type is declared, whose body is to be among those of the program
  needs_body : List ℕ → Word → Span → CheckDemand
  -- so many of what is limited stand before, and so many here
  counts : What → ℕ → ℕ → Span → CheckDemand

-- a place of the program
pub record CheckSite : Type 0 where
  pub scope : CheckScope
  pub demand : CheckDemand
