-- The exits of the tasks of a program that meets the static rules leave loops (5.7).
use Rattle.std.specs.Prelude.{◌≡◌, ℕ, ℤ, true, List, []}
use Rattle.std.specs.List.{list_any}
use Rattle.ada_tree.specs.PlainStmt.{PStmt, SExit}
use Rattle.ada_tree.specs.PlainProgram.{PProgram}
use Rattle.syn_event.specs.declared.numbering.Mode.{Mode}
use Rattle.syn_event.specs.Numbering.{Numbering}
use Rattle.syn_event.specs.CheckRefusals.{MeetsCheckRules}
use Rattle.task_model.specs.Setting.{Setting}
use Rattle.task_model.specs.Frames.{is_left}
use Rattle.task_model.specs.Tasks.{Task}
use Rattle.task_model.specs.Stands.{stepped}
use Rattle.task_model.specs.Rendezvous.{accepted, finished, resumed, call_failed, took_else, took_delay, past_name}
use Rattle.task_model.specs.Starting.{unit_of, started}
use Rattle.task_laws.specs.translation.Controls.{ExitsLoop}
use Rattle.task_laws.specs.statements.Each.{Loops, InBody, HoldsOf}

-- an exit leaves one of the loops around it
abbrev pub ExitLeaves : Loops → PStmt → Type 0
ExitLeaves loops (SExit w test s) = list_any (is_left w) loops ≡ true
ExitLeaves loops _ = Unit {0}

-- In a program that meets the rules 13 to 23, of any kind, it is so in each unit.
abbrev pub LegalExitsLeave : Type 0
LegalExitsLeave = (p : PProgram) (m : Mode) → MeetsCheckRules p m → (numbers : Numbering) (t : ℕ) → InBody ExitLeaves [] (unit_of p numbers t).body

-- So each task starts.
abbrev pub ExitsStart : Type 0
ExitsStart = (g : Setting) (inputs : List (List ℤ)) (t : ℕ) → InBody ExitLeaves [] (unit_of g.program g.numbers t).body → HoldsOf ExitLeaves (started g inputs t)

-- After a local step, and after what each event makes of the task, the property holds of each of its statements.
pub record StaysSo (Each : Loops → PStmt → Type 0) (t : Task) : Type 0 where
  pub stepped : HoldsOf Each (stepped t)
  pub accepted : (e : ℕ) (i : ℤ) (caller : ℕ) (calling : Task) → HoldsOf Each (accepted e i caller calling t)
  pub finished : HoldsOf Each (finished t)
  pub resumed : (acceptor : Task) → HoldsOf Each (resumed acceptor t)
  pub raised : HoldsOf Each (call_failed t)
  pub took_else : HoldsOf Each (took_else t)
  pub took_delay : (k : ℕ) → HoldsOf Each (took_delay k t)
  pub passed : HoldsOf Each (past_name t)

-- So it is with exits.
abbrev pub ExitsStay : Type 0
ExitsStay = (t : Task) → HoldsOf ExitLeaves t → StaysSo ExitLeaves t

-- A task of which it holds stands at no exit but such as leaves a loop.
abbrev pub ExitsAreInLoops : Type 0
ExitsAreInLoops = (t : Task) → HoldsOf ExitLeaves t → ExitsLoop t
