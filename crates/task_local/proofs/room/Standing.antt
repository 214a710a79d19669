-- Room that is enough for a task is enough for the statement at which it stands; it is enough from the start, where it is enough for the unit's body; and more is enough too.
use Rattle.std.specs.Prelude.{◌≡◌, ℕ, ℤ, ◌≤◌, List, [], ◌∷◌}
use Rattle.std.proofs.Common.{subst, arith}
use Rattle.ada_tree.specs.PlainStmt.{PStmt, SNull, SAssign, SDelay, SExit, SRaise, SAbort, SCall, SAccept, SWait, SConditional, STimed, SPut, SPutLine, SNewLine, SGet, SIf, SCase, SBlock, SLoop, PStmts, no_stmt, stmt_then, PBody, body}
use Rattle.task_model.specs.Setting.{Setting}
use Rattle.task_model.specs.Frames.{Around, OwnBody, Block, Handling, Loop, Opened, PFrame}
use Rattle.task_model.specs.Steps.{block_stmts, block_handlers}
use Rattle.task_model.specs.Tasks.{Task, rest_of}
use Rattle.task_model.specs.Starting as starting
use Rattle.task_waits.specs.Room.{room_at, widest_stmt, widest_body}
use Rattle.task_local.specs.room.Fitting.{FitsStmts, FitsHandlers, FitsPlace, FitsPart, FitsParts, HasRoom, room_next}
use Rattle.task_local.proofs.room.Frames.{left_fits, right_fits, none_fits}

-- ---- the statement at which a task stands

-- The room of a statement is within the widest among it and those inside of it.
pub room_within : (s : PStmt) → room_at s ≤ widest_stmt s
room_within (SNull s) = omega arith
room_within (SAssign target e s) = omega arith
room_within (SDelay duration s) = omega arith
room_within (SExit w test s) = omega arith
room_within (SRaise w s) = omega arith
room_within (SAbort callees s) = omega arith
room_within (SCall call s) = omega arith
room_within (SAccept accept s) = omega arith
room_within (SWait alts otherwise s) = omega arith
room_within (SConditional call more otherwise s) = omega arith
room_within (STimed call more duration after s) = omega arith
room_within (SPut parts s) = omega arith
room_within (SPutLine parts s) = omega arith
room_within (SNewLine s) = omega arith
room_within (SGet target s) = omega arith
room_within (SIf arms otherwise s) = omega arith
room_within (SCase e arms others s) = omega arith
room_within (SBlock its s) = omega arith
room_within (SLoop name scheme stmts s) = omega arith

-- The room of the next of these statements.
pub room_of_next : (n : ℕ) (stmts : PStmts) → FitsStmts n stmts → room_next stmts ≤ n
room_of_next n no_stmt h = none_fits n
room_of_next n (stmt_then s rest) h = let k : room_at s ≤ widest_stmt s = room_within s in let l : widest_stmt s ≤ n = left_fits _ _ h in omega arith

-- The room of what a task stands at.
pub room_here : (n : ℕ) (t : Task) → HasRoom n t → room_next (rest_of t) ≤ n
room_here n t k = room_of_next n (rest_of t) k.0.0

-- The room of the statement at which a task stands.
pub room_at_statement : (n : ℕ) (t : Task) (s : PStmt) (behind : PStmts) → HasRoom n t → rest_of t ≡ stmt_then s behind → room_at s ≤ n
room_at_statement n t s behind k q = subst (λ (stmts : PStmts). room_next stmts ≤ n) q (room_here n t k)

-- ---- the start

-- the statements and the handlers of a body
pub body_fits : (n : ℕ) (its : PBody) → widest_body its ≤ n → FitsStmts n (block_stmts its) × FitsHandlers n (block_handlers its)
body_fits n (body stmts handlers) h = (left_fits _ _ h, right_fits _ _ h)

-- A task at the first statement of its unit.
pub started_has_room : (n : ℕ) (g : Setting) (t : ℕ) (unit : starting.Unit) (input : List ℤ) → widest_body unit.body ≤ n → HasRoom n (starting.started_in g t unit input)
started_has_room n g t unit input h = (body_fits n unit.body h, tt)

-- ---- more room

module _ (n m : ℕ) (more : n ≤ m) where
  wider : (k : ℕ) → k ≤ n → k ≤ m
  wider k h = omega (arith, more)

  wider_place : (place : Around) → FitsPlace n place → FitsPlace m place
  wider_place (OwnBody handlers taken) h = wider _ h
  wider_place (Block handlers) h = wider _ h
  wider_place (Handling x) h = tt
  wider_place (Loop name turns stmts) h = wider _ h
  wider_place (Opened caller formals pending) h = tt

  wider_part : (part : PFrame) → FitsPart n part → FitsPart m part
  wider_part part h = (wider _ h.0, wider_place part.place h.1)

  wider_parts : (parts : List PFrame) → FitsParts n parts → FitsParts m parts
  wider_parts [] h = tt
  wider_parts (part ∷ parts) h = (wider_part part h.0, wider_parts parts h.1)

-- Room for more choices is enough too.
pub more_has_room : (n m : ℕ) (t : Task) → HasRoom n t → n ≤ m → HasRoom m t
more_has_room n m t k more = (wider_part n m more t.control.top k.0, wider_parts n m more t.control.outer k.1)

-- ---- the frames alone

-- A task in the same frames has the same room, whatever its variables, its input and its output are.
pub same_frames_have_room : (n : ℕ) (t u : Task) → t.control.top ≡ u.control.top → t.control.outer ≡ u.control.outer → HasRoom n t → HasRoom n u
same_frames_have_room n t u p q k = (subst (FitsPart n) p k.0, subst (FitsParts n) q k.1)
