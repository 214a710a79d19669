-- A normal form and its collecting text with abort statements, as programs of tasks: what is asked of the two so that the tasks of the text can tell the
-- recorder (9.5, 9.10; this project's rule).
use Rattle.std.specs.Prelude.{◌≡◌, ℕ, ◌<◌, List, Ok}
use Rattle.event_machine.specs.Programs.{Program}
use Rattle.ada_tree.specs.PlainStmt.{PCallee}
use Rattle.ada_value.specs.Variables.{Variables}
use Rattle.syn_event.specs.Numbering.{owner_of}
use Rattle.task_model.specs.Setting.{Setting, callee_task}
use Rattle.task_model.specs.Tasks.{Task}
use Rattle.task_model.specs.TaskOps.{task_ops}
use Rattle.task_laws.specs.translation.Translations.{Programs, Translation}
use Rattle.task_laws.specs.translation.OldTexts.{only_names}
use Rattle.collect_model.specs.Teller.{task_of}
use Rattle.collect_runs.specs.telling.Texts.{Texts as PlainTexts, CanTell as CanTellPlainly, IsInteger}
use Rattle.collect_model.specs.aborts.AbortTeller.{AbortTeller, told_at}
use Rattle.collect_runs.specs.aborts.translation.Floors.{ArePlacesAdded, OpenPlace, into_aborting}

-- The two programs, what main is told, the number of the recorder, which is that of tasks in front of it, the number of its entry, and how many places the
-- unit of each task has.
pub record Texts : Type 0 where
  pub programs : Programs
  pub main : AbortTeller
  pub recorder : ℕ
  pub note : ℕ
  pub places : ℕ → ℕ

-- the same without what aborts add
abbrev pub plain : Texts → PlainTexts
plain x = record { programs = x.programs; main = x.main.teller; recorder = x.recorder; note = x.note }

-- what the tasks of the normal form read, and those of the text
abbrev pub form : Texts → Setting
form x = x.programs.original

abbrev pub text : Texts → Setting
text x = x.programs.made

-- what the unit of the task t is told, and its translation where these accept bodies are open
abbrev pub teller : Texts → ℕ → AbortTeller
teller x t = told_at x.main t

abbrev pub unit_translation : Texts → ℕ → List OpenPlace → Translation
unit_translation x t ps = into_aborting (only_names x.programs) (teller x t) (x.places t) ps

-- the normal form as a program of tasks
abbrev pub program_of : Texts → Program Task
program_of x = record { ops = task_ops; owner = owner_of (form x).numbers; size = x.recorder }

-- What is asked of the two as a whole: what is asked without aborts, and that the names of places are added ones.
pub record CanTell (x : Texts) : Type 0 where
  pub plainly : CanTellPlainly (plain x)
  pub places : (t : ℕ) → t < x.recorder → ArePlacesAdded x.programs x.main (x.places t)

-- Who is aborted is in the normal form the task with this number, which the image tells.
pub record IsCalleeAlike (x : Texts) (c : PCallee) (V : Variables) : Type 0 where
  pub task : ℕ
  pub here : callee_task (form x) V c ≡ Ok task
  pub number : task_of x.main.teller.numbers c.name.name ≡ task
  pub fits : IsInteger task
