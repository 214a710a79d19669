-- The frames of the code as those of the definitions. The code has one sort more, a piece: its statements stand in front of those of the next frame, so that a branch is entered without copying what is behind it.
use Rattle.std.specs.Prelude.{◌≡◌, Bool, true, false, List, [], ◌∷◌, map, None}
use Rattle.ada_tree.specs.declared.statements.Handler.{Handler}
use Rattle.ada_tree.specs.declared.statements.Stmt.{Stmt}
use Rattle.ada_tree.specs.PlainExpr.{plain_expr}
use Rattle.ada_tree.specs.PlainStmt.{PStmts, PHandlers, no_handler, handlers_of, plain_handler, seen}
use Rattle.task_model.specs.Frames as model
use Rattle.task_model.specs.Frames.{PFrame, in_front}
use Rattle.task_state.specs.declared.frames.frame.Turns.{Turns}
use Rattle.task_state.specs.declared.frames.frame.Turns.TheVariants as way
use Rattle.task_state.specs.declared.frames.frame.Place.{Place}
use Rattle.task_state.specs.declared.frames.frame.Place.TheVariants as stands
use Rattle.task_state.specs.declared.frames.frame.Frame.{Frame}
use Rattle.task_state.specs.frames.Stack.{Stack}

-- how a loop goes on, seen plainly
abbrev pub turns_as : Turns → model.Turns
turns_as way.Endless = model.Endless
turns_as (way.While e) = model.While (plain_expr e.now)
turns_as (way.Counting backwards last) = model.Counting backwards last

-- the handlers of a list of the code, as a row
abbrev pub seen_handlers : List Handler → PHandlers
seen_handlers handlers = handlers_of (map plain_handler handlers)

-- what a frame stands in, seen plainly; a piece, which stands in the next frame, is none of these
abbrev pub around : Place → model.Around
around stands.Inside = model.OwnBody no_handler None
around (stands.OwnBody handlers taken) = model.OwnBody (seen_handlers handlers.now) taken
around (stands.Block handlers) = model.Block (seen_handlers handlers.now)
around (stands.Handling x) = model.Handling x
around (stands.Loop name turns stmts) = model.Loop name (turns_as turns) (seen stmts.now)
around (stands.Opened caller formals pending) = model.Opened caller formals.now pending

-- statements in front of the innermost of these frames; there is always one (see IsGrounded)
abbrev pub piece_on : PStmts → List PFrame → Stack
piece_on rest [] = record { top = record { rest = rest; place = around stands.Inside }; outer = [] }
piece_on rest (part ∷ parts) = record { top = record { rest = in_front rest part.rest; place = part.place }; outer = parts }

-- a frame of the code inside of others
abbrev pub on_parts : PStmts → Place → List PFrame → Stack
on_parts rest stands.Inside parts = piece_on rest parts
on_parts rest (stands.OwnBody handlers taken) parts = record { top = record { rest = rest; place = around (stands.OwnBody handlers taken) }; outer = parts }
on_parts rest (stands.Block handlers) parts = record { top = record { rest = rest; place = around (stands.Block handlers) }; outer = parts }
on_parts rest (stands.Handling x) parts = record { top = record { rest = rest; place = around (stands.Handling x) }; outer = parts }
on_parts rest (stands.Loop name turns stmts) parts = record { top = record { rest = rest; place = around (stands.Loop name turns stmts) }; outer = parts }
on_parts rest (stands.Opened caller formals pending) parts = record { top = record { rest = rest; place = around (stands.Opened caller formals pending) }; outer = parts }

-- all frames of a task in one list, the inner ones first
abbrev pub all_parts : Stack → List PFrame
all_parts s = s.top ∷ s.outer

-- Frames of the code, the inner ones first, as frames of the definitions.
abbrev pub parts_of : List Frame → List PFrame
parts_of [] = []
parts_of (f ∷ fs) = all_parts (on_parts (seen f.rest.now) f.place (parts_of fs))

-- The frames of a task, of the innermost of the code and the others.
abbrev pub stack_of : Frame → List Frame → Stack
stack_of f fs = on_parts (seen f.rest.now) f.place (parts_of fs)

-- ---- what is true of the frames of the code

-- the place is the unit's own body
abbrev pub IsUnit : Place → Type 0
IsUnit stands.Inside = ⊥
IsUnit (stands.OwnBody handlers taken) = Unit {0}
IsUnit (stands.Block handlers) = ⊥
IsUnit (stands.Handling x) = ⊥
IsUnit (stands.Loop name turns stmts) = ⊥
IsUnit (stands.Opened caller formals pending) = ⊥

-- The outermost frame is the unit's own body.
abbrev pub IsGrounded : Place → List Frame → Type 0
IsGrounded place [] = IsUnit place
IsGrounded place (f ∷ fs) = IsGrounded f.place fs

-- a frame of this sort is left at its end, without a step: a piece, a block, a handler of a block
abbrev pub ends_silently : Place → Bool
ends_silently stands.Inside = true
ends_silently (stands.OwnBody handlers taken) = false
ends_silently (stands.Block handlers) = true
ends_silently (stands.Handling x) = true
ends_silently (stands.Loop name turns stmts) = false
ends_silently (stands.Opened caller formals pending) = false

-- a frame is over
abbrev pub is_over : List Stmt → Place → Bool
is_over [] place = ends_silently place
is_over (s ∷ rest) place = false

-- The innermost frame is not over, so that its first statement is the next one of the task.
abbrev pub IsAtStatement : List Stmt → Place → Type 0
IsAtStatement rest place = is_over rest place ≡ false
