-- How the replay texts of legal programs start (this project's rule).
use Rattle.std.specs.Prelude.{◌≡◌, ℕ, suc, List, Some, drop}
use Rattle.event_machine.specs.declared.Event.{Event}
use Rattle.ada_tree.specs.declared.naming.NameId.{NameId}
use Rattle.ada_tree.specs.PlainProgram.{PProgram}
use Rattle.ada_static_rules.specs.Refusals.{types_in}
use Rattle.ada_value.specs.Variables.{Variables, object_named}
use Rattle.syn_event.specs.declared.numbering.TaskInfo.{TaskInfo}
use Rattle.syn_event.specs.Numbering.{task_at}
use Rattle.syn_event.specs.AllNumbers.{all_numbers}
use Rattle.control_script.specs.declared.Op.{Op}
use Rattle.run_laws.specs.replaying.Copies.{Spots}
use Rattle.normal_laws.specs.structure.types.Laws.{IsOrdered, AreOwn, setting_of}
use Rattle.normal_laws.specs.structure.numbers.Laws.{NoneIsDed}
use Rattle.normal_laws.specs.existence.Laws.{IsLegalOriginal}
use Rattle.replay_structure.specs.bodies.Laws.{HasBodies, RunsUnits}
use Rattle.replay_runs.specs.starts.Laws.{IsNoPermit, FindsPermit, AddsOwnMarks, form_in, start_before, start_after, TextStarts}
use Rattle.replay_runs.specs.starts.Formals.{HaveFormals}

-- Each task of a legal program runs a body that is declared (9.1).
abbrev pub LegalHasBodies : Type 0
LegalHasBodies = (p : PProgram) → IsLegalOriginal p → HasBodies p (drop 1 (all_numbers (types_in p) p).tasks)

-- So each task of its replay text runs the unit that it runs in the normal form, with the permit's variables and a body that asks, and the two tasks
-- that are added run theirs.
abbrev pub LegalRuns : Type 0
LegalRuns = (p : PProgram) (ops : List Op) → IsLegalOriginal p → RunsUnits p ops

-- It is as the laws of starts ask of any program.
pub record IsAsked (p : PProgram) : Type 0 where
  pub ordered : IsOrdered p
  pub own : AreOwn p p.decls
  pub apart : NoneIsDed p
  pub bodies : HasBodies p (drop 1 (all_numbers (types_in p) p).tasks)
  pub marks : AddsOwnMarks (setting_of p (types_in p) (all_numbers (types_in p) p))

abbrev pub LegalIsAsked : Type 0
LegalIsAsked = (p : PProgram) → IsLegalOriginal p → IsAsked p

-- The tasks of a replay text of a legal program start with the objects of the normal form and the permit's variables.
abbrev pub LegalStarts : Type 0
LegalStarts = (p : PProgram) (events : List Event) → IsLegalOriginal p → TextStarts p events

-- At the start of a task the names of the permit mean its variables, and each other name means what it means in the normal form.
pub record FindsAtStart (p : PProgram) (before after : Variables) : Type 0 where
  pub permit : FindsPermit (form_in p).program after
  pub others : (id : NameId) → IsNoPermit (form_in p).program id → object_named after id ≡ object_named before id

-- So it is of main and of each task of the normal form.
pub record FindPermits (p : PProgram) (events : List Event) : Type 0 where
  pub main : FindsAtStart p (start_before p 0) (start_after p events 0)
  pub tasks : (t : ℕ) (info : TaskInfo) → task_at (form_in p).numbers (suc t) ≡ Some info → FindsAtStart p (start_before p (suc t)) (start_after p events (suc t))

-- So it is in each replay text of a legal program.
abbrev pub LegalFindsPermits : Type 0
LegalFindsPermits = (p : PProgram) (events : List Event) → IsLegalOriginal p → FindPermits p events

-- Its entries have the formals of the normal form, those of a permit, or none.
abbrev pub LegalHasFormals : Type 0
LegalHasFormals = (p : PProgram) (events : List Event) (far : Spots) → IsLegalOriginal p → HaveFormals p events far
