-- The text that a run writes (this project's format).
use Rattle.std.specs.Prelude.{ℕ, ◌+◌, List, [], ◌∷◌, codes, decimal}
use Rattle.ded_io.specs.Written.{◌⧺◌}
use Rattle.event_machine.specs.declared.Event.{Event}
use Rattle.task_model.specs.declared.picked_runs.report.RunEnd.{RunEnd}
use Rattle.task_model.specs.declared.picked_runs.report.RunEnd.TheVariants.{Ended, Stuck, Turns}
use Rattle.task_model.specs.picked_runs.Lines.{lines_of}
use Rattle.syn_event.specs.declared.numbering.TaskInfo.{TaskInfo}
use Rattle.syn_event.specs.Numbering.{Numbering, original_tasks, original_entries}
use Rattle.syn_event.specs.TaskText.{task_text}
use Rattle.syn_event.specs.DeclaredTasks.{text_of}
use Rattle.debug_run.specs.texts.OutputText.{output_text}

-- the name of the program and how many tasks beside main and entries the original has
abbrev pub counts : List (List ℕ) → Numbering → List ℕ
counts names numbers =
    text_of names numbers.main ⧺ (codes " " ⧺ (decimal (original_tasks numbers) ⧺ (codes " " ⧺ (decimal (original_entries numbers) ⧺ codes "\n"))))

-- the first line: the format, the name of the program, and the counts of the original
abbrev pub header : List (List ℕ) → Numbering → List ℕ
header names numbers = codes "ded-run 1 " ⧺ counts names numbers

-- the words that say how a run ended
abbrev pub end_word : RunEnd → List ℕ
end_word Ended = codes "end ended "
end_word Stuck = codes "end stuck "
end_word Turns = codes "end turns "

-- how the run ended, and how many actions it made
abbrev pub end_line : RunEnd → ℕ → List ℕ
end_line end made = end_word end ⧺ (decimal made ⧺ codes "\n")

-- a task's number and its name
abbrev pub task_line : List (List ℕ) → ℕ → TaskInfo → List ℕ
task_line names t info = task_text names t info ⧺ codes "\n"

-- the lines of the members of a list, each by its place and itself, from the place i on
abbrev pub lines_at : {A : Type 0} → (ℕ → A → List ℕ) → ℕ → List A → List ℕ
lines_at line i [] = []
lines_at line i (x ∷ rest) = line i x ⧺ lines_at line (i + 1) rest

-- the lines of all tasks; the first one has the number 0
abbrev pub task_lines : List (List ℕ) → List TaskInfo → List ℕ
task_lines names tasks = lines_at (task_line names) 0 tasks

-- the line of a task, and behind it the lines of what it has written
abbrev pub task_part : List (List ℕ) → (ℕ → List ℕ) → ℕ → TaskInfo → List ℕ
task_part names outputs t info = task_line names t info ⧺ output_text (outputs t)

-- the same of all tasks
abbrev pub task_parts : List (List ℕ) → (ℕ → List ℕ) → List TaskInfo → List ℕ
task_parts names outputs tasks = lines_at (task_part names outputs) 0 tasks

-- what follows the events; the outputs are those of the tasks by their numbers
abbrev pub rest_of_run : List (List ℕ) → Numbering → RunEnd → ℕ → (ℕ → List ℕ) → List ℕ
rest_of_run names numbers end made outputs = end_line end made ⧺ task_parts names outputs numbers.tasks

-- The text of a run with these events, this end, this number of actions, and these outputs of the tasks.
abbrev pub run_text : List (List ℕ) → Numbering → List Event → RunEnd → ℕ → (ℕ → List ℕ) → List ℕ
run_text names numbers events end made outputs =
    header names numbers ⧺ (lines_of numbers events ⧺ rest_of_run names numbers end made outputs)
