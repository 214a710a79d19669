-- Room that is enough for a task (this project's rule): no statement that can still come where it stands has a wider wait. It hangs on the frames alone, and on none of the variables, the input or the output.
use Rattle.std.specs.Prelude.{ℕ, ◌≤◌, List, [], ◌∷◌}
use Rattle.ada_tree.specs.PlainStmt.{PStmts, no_stmt, stmt_then, PHandlers}
use Rattle.task_model.specs.Frames.{Around, OwnBody, Block, Handling, Loop, Opened, PFrame, Control}
use Rattle.task_model.specs.Tasks.{Task}
use Rattle.task_waits.specs.Room.{room_at, widest_stmts, widest_handlers}

-- no statement among these has a wider wait than this, those inside of others among them
abbrev pub FitsStmts : ℕ → PStmts → Type 0
FitsStmts n stmts = widest_stmts stmts ≤ n

-- nor has one in the handlers of a body
abbrev pub FitsHandlers : ℕ → PHandlers → Type 0
FitsHandlers n handlers = widest_handlers handlers ≤ n

-- nor has one in what a frame stands in: the handlers of a body or of a block, the statements of a loop
abbrev pub FitsPlace : ℕ → Around → Type 0
FitsPlace n (OwnBody handlers taken) = FitsHandlers n handlers
FitsPlace n (Block handlers) = FitsHandlers n handlers
FitsPlace n (Handling x) = Unit {0}
FitsPlace n (Loop name turns stmts) = FitsStmts n stmts
FitsPlace n (Opened caller formals pending) = Unit {0}

-- nor has one in a frame
abbrev pub FitsPart : ℕ → PFrame → Type 0
FitsPart n part = FitsStmts n part.rest × FitsPlace n part.place

-- nor has one in any of these frames
abbrev pub FitsParts : ℕ → List PFrame → Type 0
FitsParts n [] = Unit {0}
FitsParts n (part ∷ parts) = FitsPart n part × FitsParts n parts

-- nor has one where a task stands, in its innermost frame or in another
abbrev pub FitsControl : ℕ → Control → Type 0
FitsControl n c = FitsPart n c.top × FitsParts n c.outer

-- Room for so many choices is enough for the task: no statement in its frames has a wider wait (9.5, 9.7.1).
abbrev pub HasRoom : ℕ → Task → Type 0
HasRoom n t = FitsControl n t.control

-- the room that the next of these statements takes at most, where one is left
abbrev pub room_next : PStmts → ℕ
room_next no_stmt = 0
room_next (stmt_then s rest) = room_at s
