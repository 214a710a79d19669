-- What stays true of all tasks of a program as it runs (this project's rule).
use Rattle.std.specs.Prelude.{◌≡◌, ℕ, ◌<◌, ◌≤◌, true, List, [], ◌∷◌, Some, Ok}
use Rattle.ada_tree.specs.PlainStmt.{PHead}
use Rattle.syn_event.specs.Numbering.{Numbering}
use Rattle.event_machine.specs.States.{is_completed, is_served_by}
use Rattle.event_machine.specs.Soundness.{IsSound}
use Rattle.event_machine.specs.Worlds.{World, Move, can_move, moved}
use Rattle.task_model.specs.declared.parameters.FormalParameter.{FormalParameter}
use Rattle.task_model.specs.Setting.{Setting, entry_of, entry_parameters, parameters_of}
use Rattle.task_model.specs.Tasks.{Task, rest_of, place_of, outer_of, vars_of}
use Rattle.task_model.specs.Calls.{Called, call_in, called_by}
use Rattle.task_model.specs.Starting.{unit_of}
use Rattle.task_model.specs.Machine.{ProgramWithInputs, setting_of}
use Rattle.task_model.specs.Laws.{IsProper, program_in, first_world}
use Rattle.task_laws.specs.invariants.AcceptHeads.{InStmts, InPlace, InParts, InBody}
use Rattle.task_laws.specs.invariants.Holding.{LowersFit, AreAlike, IsHeld, Opening, openings_in}

-- an accept statement of this task has the modes and subtypes of its entry's formals (9.5)
abbrev pub Conforms : Setting → ℕ → PHead → Type 0
Conforms g t head = AreAlike (entry_parameters g (entry_of g.numbers t head.entry.name)) (parameters_of g.types head.formals)

-- What is asked of a program: each accept statement conforms to its entry, and no formal of an entry has an empty subtype. The static rules see to both.
pub record IsWellMade (g : Setting) : Type 0 where
  pub conforms : (t : ℕ) → InBody (Conforms g t) (unit_of g.program g.numbers t).body
  pub lowers : (e : ℕ) → LowersFit g.types (entry_parameters g e)

-- A task is one of this program, its accept statements conform, and the formals of its accept bodies have values in their subtypes.
pub record IsIn (g : Setting) (t : ℕ) (task : Task) : Type 0 where
  pub setting : task.setting ≡ g
  pub number : task.number ≡ t
  pub rest : InStmts (Conforms g t) (rest_of task)
  pub place : InPlace (Conforms g t) (place_of task)
  pub outer : InParts (Conforms g t) (outer_of task)
  pub held : IsHeld (place_of task) (outer_of task) (vars_of task)

-- a caller stands at a call of an entry with formals like these
pub record IsLinked (g : Setting) (formals : List FormalParameter) (caller : Task) : Type 0 where
  pub result : Called
  pub calls : called_by caller.setting (vars_of caller) (call_in (rest_of caller)) ≡ Some (Ok result)
  pub alike : AreAlike (entry_parameters g result.entry) formals

-- of each of these accept bodies of the task a: where its caller is served by a it stands at such a call
abbrev pub AreLinked : Setting → World Task → ℕ → List Opening → Type 0
AreLinked g w a [] = Unit {0}
AreLinked g w a (opening ∷ openings) =
    (is_served_by a (w.tasks opening.caller).standing ≡ true → IsLinked g opening.formals (w.tasks opening.caller).local) × AreLinked g w a openings

-- What stays true of the n tasks of a program: each is one of it, and each opened accept body is linked with the call of its caller.
pub record IsKept (g : Setting) (n : ℕ) (w : World Task) : Type 0 where
  pub each : (t : ℕ) → t < n → IsIn g t (w.tasks t).local
  pub links : (a : ℕ) → a < n → AreLinked g w a (openings_in (w.tasks a).local.control)
  pub beyond : (t : ℕ) → n ≤ t → is_completed (w.tasks t).standing ≡ true

-- It is true of each program at its start.
abbrev pub KeptFirst : Type 0
KeptFirst = (setup : ProgramWithInputs) (numbers : Numbering) → IsWellMade (setting_of setup numbers) →
    IsKept (setting_of setup numbers) (program_in setup numbers).size (first_world setup numbers)

-- It stays true with each move.
abbrev pub KeptOn : Type 0
KeptOn = (setup : ProgramWithInputs) (numbers : Numbering) → IsWellMade (setting_of setup numbers) → (w : World Task) (move : Move) →
    IsKept (setting_of setup numbers) (program_in setup numbers).size w → IsSound (program_in setup numbers).ops IsProper w.tasks → can_move (program_in setup numbers) w move ≡ true →
    IsKept (setting_of setup numbers) (program_in setup numbers).size (moved (program_in setup numbers) w move)
