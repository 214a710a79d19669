-- The end of a loop's statements (5.5).
use Rattle.std.specs.Prelude.{◌≡◌, ℤ, Bool, true, false, Option}
use Rattle.ada_tree.specs.declared.naming.Word.{Word}
use Rattle.ada_tree.specs.PlainStmt.{PStmts, no_stmt}
use Rattle.task_model.specs.Frames.{Turns, Endless, While, Counting, Loop}
use Rattle.task_model.specs.Tasks.{Task, rest_of, place_of}
use Rattle.task_model.specs.Steps.{has_turn, turn_step}

-- At the end of the statements of a loop that goes on in this way, the task has begun the next turn or left the loop, or an exception is raised (5.5).
abbrev pub TurnsBy : Turns → Task → Task → Type 0
TurnsBy turns old new = (name : Option Word) (stmts : PStmts) → rest_of old ≡ no_stmt → place_of old ≡ Loop name turns stmts → new ≡ turn_step turns stmts old

-- the loop counts
abbrev pub is_counting : Turns → Bool
is_counting Endless = false
is_counting (While e) = false
is_counting (Counting backwards last) = true

-- the loop counts backwards
abbrev pub is_backwards : Turns → Bool
is_backwards Endless = false
is_backwards (While e) = false
is_backwards (Counting backwards last) = backwards

-- a counting loop whose parameter has this position has not reached its last one yet; for other loops it says nothing (5.5)
abbrev pub turn_left : Turns → ℤ → Bool
turn_left Endless z = true
turn_left (While e) z = true
turn_left (Counting backwards last) z = has_turn backwards last z
