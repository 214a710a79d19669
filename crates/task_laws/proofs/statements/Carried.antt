-- The laws, from their parts.
use Rattle.std.proofs.Common.{◌≡◌, ℕ, ℤ, Bool, true, false, ◌||◌, List, [], ◌∷◌, Option, refl}
use Rattle.std.specs.List.{list_any}
use Rattle.common_lemmas.proofs.Truth.{clash}
use Rattle.ada_tree.specs.declared.naming.Span.{Span}
use Rattle.ada_tree.specs.declared.naming.Word.{Word}
use Rattle.ada_tree.specs.PlainStmt.{PCallee, PStmt, SAbort, PStmts, PBody, body}
use Rattle.task_model.specs.Setting.{Setting}
use Rattle.task_model.specs.Frames.{Around, OwnBody, Block, Handling, Loop, Opened, PFrame, is_left}
use Rattle.task_model.specs.Tasks.{Task, rest_of, place_of, outer_of}
use Rattle.task_model.specs.Steps.{block_stmts, block_handlers}
use Rattle.task_model.specs.Starting.{unit_of, started}
use Rattle.task_laws.specs.translation.Controls.{LeavesLoop, leaves_this, leaves_outer, leaves_from_block, leaves_from_handler, IsExit, is_exit}
use Rattle.task_laws.specs.statements.Each.{Loops, InStmts, InBody, InHandlers, loops_of, HoldsOf}
use Rattle.task_laws.specs.statements.Laws.{ExitLeaves, StaysSo, ExitsStart, ExitsStay, ExitsAreInLoops}
use Rattle.task_laws.proofs.statements.Steps.{goes-stepped}
use Rattle.task_laws.proofs.statements.Meetings.{goes-accepted, goes-finished, goes-resumed, goes-failed, goes-else, goes-delay, goes-passed}

-- what holds of a body holds of its statements and of its handlers
in-body : (Each : Loops → PStmt → Type 0) (b : PBody) → InBody Each [] b → InStmts Each [] (block_stmts b) × InHandlers Each [] (block_handlers b)
in-body Each (body l hs) h = h

-- so a task starts
pub starts-so : (Each : Loops → PStmt → Type 0) (g : Setting) (inputs : List (List ℤ)) (t : ℕ) → InBody Each [] (unit_of g.program g.numbers t).body → HoldsOf Each (started g inputs t)
starts-so Each g inputs t h = let both = in-body Each (unit_of g.program g.numbers t).body h in record { rest = both.0; place = both.1; outer = tt }

pub exits_start : ExitsStart
exits_start g inputs t h = starts-so ExitLeaves g inputs t h

-- whatever holds of each statement stays so, where it holds of an abort without its first name
pub stays-so : (Each : Loops → PStmt → Type 0) → ((loops : Loops) (c d : PCallee) (cs : List PCallee) (s : Span) → Each loops (SAbort (c ∷ d ∷ cs) s) → Each loops (SAbort (d ∷ cs) s)) →
    (t : Task) → HoldsOf Each t → StaysSo Each t
stays-so Each later t h = record {
  stepped = goes-stepped Each t h;
  accepted = λ e i caller calling. goes-accepted Each e i caller calling t h;
  finished = goes-finished Each t h;
  resumed = λ acceptor. goes-resumed Each acceptor t h;
  raised = goes-failed Each t h;
  took_else = goes-else Each t h;
  took_delay = λ k. goes-delay Each k t h;
  passed = goes-passed Each later t h;
}

pub exits_stay : ExitsStay
exits_stay t h = stays-so ExitLeaves (λ loops c d cs s i. tt) t h

-- one of the loops around is left
leaves : (w : Option Word) (place : Around) (outer : List PFrame) → list_any (is_left w) (loops_of place outer) ≡ true → LeavesLoop w place outer
leaves w (OwnBody handlers taken) outer h = clash h
leaves w (Opened caller formals pending) outer h = clash h
leaves w (Block handlers) [] h = clash h
leaves w (Handling x) [] h = clash h
leaves w (Loop name turns stmts) [] h = clash h
leaves w (Block handlers) (part ∷ parts) h = leaves_from_block handlers part parts (leaves w part.place parts h)
leaves w (Handling x) (part ∷ parts) h = leaves_from_handler x part parts (leaves w part.place parts h)
leaves w (Loop name turns stmts) (part ∷ parts) h = by_test (is_left w name) refl h (leaves w part.place parts)
  where
    by_test : (b : Bool) → is_left w name ≡ b → (b || list_any (is_left w) (loops_of part.place parts)) ≡ true → (list_any (is_left w) (loops_of part.place parts) ≡ true → LeavesLoop w part.place parts) →
        LeavesLoop w (Loop name turns stmts) (part ∷ parts)
    by_test true e k later = leaves_this name turns stmts part parts e
    by_test false e k later = leaves_outer name turns stmts part parts (later k)

-- what holds of the statements that begin with an exit
of-exit : (w : Option Word) (loops : Loops) (r : PStmts) → IsExit w r → InStmts ExitLeaves loops r → list_any (is_left w) loops ≡ true
of-exit w loops r (is_exit test s rest) h = h.0.0

pub exits_are_in_loops : ExitsAreInLoops
exits_are_in_loops t h w e = leaves w (place_of t) (outer_of t) (of-exit w (loops_of (place_of t) (outer_of t)) (rest_of t) e h.rest)
