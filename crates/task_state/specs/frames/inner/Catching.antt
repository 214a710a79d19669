-- Where an exception and an exit come to in one frame (5.7, 11.4.1): the definitions of a task, frame by frame.
use Rattle.std.specs.Prelude.{ℕ, Bool, true, false, Option, Some, None}
use Rattle.ada_tree.specs.declared.naming.Word.{Word}
use Rattle.ada_tree.specs.PlainStmt.{PStmts, no_stmt, PHandlers}
use Rattle.ada_value.specs.declared.values.Raised.{Raised}
use Rattle.task_model.specs.Frames as model
use Rattle.task_model.specs.Frames.{PFrame, handler_for, is_left, brought_by}
use Rattle.task_state.specs.declared.frames.frame.Place.{Place}
use Rattle.task_state.specs.declared.frames.frame.Place.TheVariants as stands
use Rattle.task_state.specs.frames.Seen.{turns_as, seen_handlers, around}

-- the unit's body as an exception comes to it, with its handler for the exception if it has one
abbrev pub unit_caught : Option PStmts → Raised → PHandlers → PFrame
unit_caught (Some stmts) x handlers = record { rest = stmts; place = model.OwnBody handlers (Some x) }
unit_caught None x handlers = record { rest = no_stmt; place = model.OwnBody handlers None }

-- a block as an exception comes to it, if it has a handler for the exception
abbrev pub block_caught : Option PStmts → Raised → Option PFrame
block_caught (Some stmts) x = Some record { rest = stmts; place = model.Handling x }
block_caught None x = None

-- The frame in place of one in which an exception is raised, where it goes no further; a piece lets it pass.
abbrev pub caught_in : Raised → Place → Option PFrame
caught_in x stands.Inside = None
caught_in x (stands.OwnBody handlers None) = Some (unit_caught (handler_for x (seen_handlers handlers.now)) x (seen_handlers handlers.now))
caught_in x (stands.OwnBody handlers (Some y)) = Some record { rest = no_stmt; place = around (stands.OwnBody handlers (Some y)) }
caught_in x (stands.Block handlers) = block_caught (handler_for x (seen_handlers handlers.now)) x
caught_in x (stands.Handling y) = None
caught_in x (stands.Loop name turns stmts) = None
caught_in x (stands.Opened caller formals pending) = Some record { rest = no_stmt; place = around (stands.Opened caller formals (Some x)) }

-- no exit goes beyond a frame of this sort
abbrev pub holds_exits : Place → Bool
holds_exits stands.Inside = false
holds_exits (stands.OwnBody handlers taken) = true
holds_exits (stands.Block handlers) = false
holds_exits (stands.Handling x) = false
holds_exits (stands.Loop name turns stmts) = false
holds_exits (stands.Opened caller formals pending) = true

-- the frame is the loop that an exit leaves
abbrev pub is_exited : Option Word → Place → Bool
is_exited w stands.Inside = false
is_exited w (stands.OwnBody handlers taken) = false
is_exited w (stands.Block handlers) = false
is_exited w (stands.Handling x) = false
is_exited w (stands.Loop name turns stmts) = is_left w name
is_exited w (stands.Opened caller formals pending) = false

-- how many variables go as an exception or an exit leaves a frame of this sort
abbrev pub parameters_in : Place → ℕ
parameters_in stands.Inside = 0
parameters_in (stands.OwnBody handlers taken) = 0
parameters_in (stands.Block handlers) = 0
parameters_in (stands.Handling x) = 0
parameters_in (stands.Loop name turns stmts) = brought_by (turns_as turns)
parameters_in (stands.Opened caller formals pending) = 0

-- the exception whose handler a frame is; a piece is none
abbrev pub handled_in : Place → Option Raised
handled_in stands.Inside = None
handled_in (stands.OwnBody handlers taken) = taken
handled_in (stands.Block handlers) = None
handled_in (stands.Handling x) = Some x
handled_in (stands.Loop name turns stmts) = None
handled_in (stands.Opened caller formals pending) = None

-- the caller of an opened accept body; no other frame has one
abbrev pub caller_in : Place → Option ℕ
caller_in stands.Inside = None
caller_in (stands.OwnBody handlers taken) = None
caller_in (stands.Block handlers) = None
caller_in (stands.Handling x) = None
caller_in (stands.Loop name turns stmts) = None
caller_in (stands.Opened caller formals pending) = Some caller
