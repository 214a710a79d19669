-- How far one task has come: frames of statements with what they stand in, and its variables (5, 9.5, 11; frames are this project's rule). A branch of an if, of a case or of a select has no frame: its statements are put in front of those that are left. Blocks, loops and accept bodies have one each.
use Rattle.std.specs.Prelude.{ℕ, ℤ, ◌==◌, Bool, true, false, if◌then◌else◌, List, [], ◌∷◌, ◌++◌, drop, length, Option, Some, None, unwrap_or}
use Rattle.std.specs.List.{list_any}
use Rattle.ada_tree.specs.declared.naming.NameId.{NameId}
use Rattle.ada_tree.specs.declared.naming.Word.{Word}
use Rattle.ada_tree.specs.PlainExpr.{PExpr}
use Rattle.ada_tree.specs.PlainStmt.{PStmts, no_stmt, stmt_then, PHandlers, no_handler, handler_then, handler}
use Rattle.ada_value.specs.declared.values.Raised.{Raised}
use Rattle.ada_value.specs.declared.values.Raised.TheVariants as raised
use Rattle.ada_value.specs.Variables.{Variables}
use Rattle.task_model.specs.declared.parameters.FormalParameter.{FormalParameter}

-- How a loop goes on (5.5): without end, while a condition holds, or by counting (backwards where the truth value is true) to a last position. What is counted is the value of the latest variable, the loop parameter.
pub data Turns : Type 0 where
  Endless : Turns
  While : PExpr → Turns
  Counting : Bool → ℤ → Turns

-- What a frame stands in.
pub data Around : Type 0 where
  -- the unit's own body, with its handlers and the exception whose handler was taken
  OwnBody : PHandlers → Option Raised → Around
  -- the statements of a block, with the block's handlers
  Block : PHandlers → Around
  -- a handler of a block, taken for this exception
  Handling : Raised → Around
  -- a loop, with its name and its statements, for the next turn
  Loop : Option Word → Turns → PStmts → Around
  -- an opened accept body, with its caller, its formals, and the exception that has left its statements
  Opened : ℕ → List FormalParameter → Option Raised → Around

-- A frame: the statements that are left, and what it stands in.
pub record PFrame : Type 0 where
  pub rest : PStmts
  pub place : Around

-- Where a task stands: its innermost frame, the others, the inner ones first, and its variables, the inner ones first.
pub record Control : Type 0 where
  pub top : PFrame
  pub outer : List PFrame
  pub vars : Variables

-- where a task stands, of the parts of its innermost frame, the other frames and the variables
abbrev pub control : PStmts → Around → List PFrame → Variables → Control
control rest place outer vars = record { top = record { rest = rest; place = place }; outer = outer; vars = vars }

-- statements in front of others
abbrev pub in_front : PStmts → PStmts → PStmts
in_front no_stmt rest = rest
in_front (stmt_then s more) rest = stmt_then s (in_front more rest)

-- ---- the end of a frame

-- Settled: a block or handler of a block that is over is left, without a step (this project's rule); the end of a loop's statements, of an accept body and of the unit stay. Only the innermost frame is left so, and never one around an opened accept body.
abbrev pub settled_in : List PFrame → PStmts → Around → Variables → Control
settled_in outer (stmt_then s rest) place vars = control (stmt_then s rest) place outer vars
settled_in (part ∷ parts) no_stmt (Block handlers) vars = settled_in parts part.rest part.place vars
settled_in (part ∷ parts) no_stmt (Handling x) vars = settled_in parts part.rest part.place vars
settled_in outer no_stmt place vars = control no_stmt place outer vars

-- where a task stands once its innermost frames that are over are left
abbrev pub settled : Control → Control
settled c = settled_in c.outer c.top.rest c.top.place c.vars

-- ---- leaving a frame early

-- how many variables a loop has brought, which go with it: its parameter, where it counts (5.5, 8.2)
abbrev pub brought_by : Turns → ℕ
brought_by Endless = 0
brought_by (While e) = 0
brought_by (Counting backwards last) = 1

-- how many variables a frame of any sort has brought, which go with it (8.2). Only an accept body's end asks it, so it matters at `Opened` alone: a loop is left by `brought_by`, and the other frames bring none
abbrev pub brought : Around → ℕ
brought (OwnBody handlers taken) = 0
brought (Block handlers) = 0
brought (Handling x) = 0
brought (Loop name turns stmts) = brought_by turns
brought (Opened caller formals pending) = length formals

-- the variables without those of a frame that is left, whose scope has ended (8.2)
abbrev pub without_own : Around → Variables → Variables
without_own place vars = drop (brought place) vars

-- ---- exceptions

-- the id of an exception's name: those of the predefined ones are fixed (11.1)
abbrev pub raised_name : Raised → ℕ
raised_name raised.Constraint = 6
raised_name raised.Numeric = 7
raised_name raised.Program = 8
raised_name raised.Tasking = 9
raised_name raised.Storage = 10
raised_name raised.End = 11
raised_name (raised.Other id) = id.0

-- the exception of a name (11.3)
abbrev pub raised_named : NameId → Raised
raised_named id =
    if id.0 == 6 then raised.Constraint
    else if id.0 == 7 then raised.Numeric
    else if id.0 == 8 then raised.Program
    else if id.0 == 9 then raised.Tasking
    else if id.0 == 10 then raised.Storage
    else if id.0 == 11 then raised.End
    else raised.Other id

-- a handler is for an exception that it names, and one without names for all (11.2)
abbrev pub is_for : Raised → List Word → Bool
is_for x [] = true
is_for x (w ∷ ws) = list_any (λ v. v.name.0 == raised_name x) (w ∷ ws)

-- The statements of the first handler that is for an exception (11.4.1).
abbrev pub handler_for : Raised → PHandlers → Option PStmts
handler_for x no_handler = None
handler_for x (handler_then (handler names stmts s) rest) = if is_for x names then Some stmts else handler_for x rest

-- where an exception comes to in the unit's body: its handler, in place of its statements, or the end of the body, which it leaves (11.4.1)
abbrev pub unit_with : Option PStmts → Raised → PHandlers → List PFrame → Variables → Control
unit_with (Some stmts) x handlers outer vars = control stmts (OwnBody handlers (Some x)) outer vars
unit_with None x handlers outer vars = control no_stmt (OwnBody handlers None) outer vars

-- where an exception comes to in a block: its handler, in place of its statements, or beyond the block
abbrev pub block_with : Option PStmts → Raised → List PFrame → Variables → Control → Control
block_with (Some stmts) x outer vars beyond = control stmts (Handling x) outer vars
block_with None x outer vars beyond = beyond

-- Where a task stands as an exception is raised in a frame (11.4.1, 11.5). A block's handler takes its place; a block without one for it, a handler and a loop are left, and the exception is raised behind them. In an accept body it stays pending at the body's end. In the unit's body it comes to the unit's handler, if none of them has been taken yet, or to the body's end. A block, a handler or a loop that stands in no frame, as in no legal program, comes to its own end.
abbrev pub raised_in : Raised → List PFrame → Around → Variables → Control
raised_in x outer (OwnBody handlers None) vars = unit_with (handler_for x handlers) x handlers outer vars
raised_in x outer (OwnBody handlers (Some y)) vars = control no_stmt (OwnBody handlers (Some y)) outer vars
raised_in x outer (Opened caller formals pending) vars = control no_stmt (Opened caller formals (Some x)) outer vars
raised_in x (part ∷ parts) (Block handlers) vars = block_with (handler_for x handlers) x (part ∷ parts) vars (raised_in x parts part.place vars)
raised_in x (part ∷ parts) (Handling y) vars = raised_in x parts part.place vars
raised_in x (part ∷ parts) (Loop name turns stmts) vars = raised_in x parts part.place (drop (brought_by turns) vars)
raised_in x [] place vars = control no_stmt place [] vars

-- the exception whose handler a frame is
abbrev pub handled_at : Around → Option Raised
handled_at (OwnBody handlers taken) = taken
handled_at (Block handlers) = None
handled_at (Handling x) = Some x
handled_at (Loop name turns stmts) = None
handled_at (Opened caller formals pending) = None

-- the first of two exceptions, where it is there, and else the second
abbrev pub or_else : Option Raised → Option Raised → Option Raised
or_else (Some x) o = Some x
or_else None o = o

-- the exception of the innermost handler among frames, if one of them is a handler (11.3)
abbrev pub handled_among : List PFrame → Option Raised
handled_among [] = None
handled_among (part ∷ parts) = or_else (handled_at part.place) (handled_among parts)

-- The exception of the innermost handler, also across accept bodies, which `raise;` raises again; none stands around, as in no legal program, gives PROGRAM_ERROR (11.3).
abbrev pub handled_by : Control → Raised
handled_by c = unwrap_or (or_else (handled_at c.top.place) (handled_among c.outer)) raised.Program

-- ---- exits

-- an exit leaves the innermost loop, or the one that it names (5.7)
abbrev pub is_left : Option Word → Option Word → Bool
is_left None name = true
is_left (Some w) None = false
is_left (Some w) (Some v) = w.name.0 == v.name.0

-- Where a task stands behind the loop that an exit leaves. It leaves no accept body and no unit; there, as in no legal program, it leads to the end.
abbrev pub exited_in : Option Word → List PFrame → Around → Variables → Control
exited_in w (part ∷ parts) (Loop name turns stmts) vars =
    if is_left w name
    then control part.rest part.place parts (drop (brought_by turns) vars)
    else exited_in w parts part.place (drop (brought_by turns) vars)
exited_in w (part ∷ parts) (Block handlers) vars = exited_in w parts part.place vars
exited_in w (part ∷ parts) (Handling x) vars = exited_in w parts part.place vars
exited_in w outer place vars = control no_stmt place outer vars

-- ---- callers

-- the caller of an opened accept body; no other frame has one (9.5)
abbrev pub caller_at : Around → List ℕ
caller_at (OwnBody handlers taken) = []
caller_at (Block handlers) = []
caller_at (Handling x) = []
caller_at (Loop name turns stmts) = []
caller_at (Opened caller formals pending) = caller ∷ []

-- the callers of the accept bodies among frames, the innermost first
abbrev pub callers_among : List PFrame → List ℕ
callers_among [] = []
callers_among (part ∷ parts) = caller_at part.place ++ callers_among parts

-- The callers of all accept bodies that a task has opened, the innermost first (9.5).
abbrev pub callers_in : Control → List ℕ
callers_in c = caller_at c.top.place ++ callers_among c.outer
