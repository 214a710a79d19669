-- The text of a task (this project's format): its number and its name.
use Rattle.std.specs.Prelude.{ℕ, ℤ, List, [], Option, Some, None, codes, decimal}
use Rattle.std.specs.Fmt.{signed_decimal}
use Rattle.ded_io.specs.Written.{◌⧺◌}
use Rattle.syn_event.specs.declared.numbering.TaskInfo.{TaskInfo}
use Rattle.syn_event.specs.DeclaredTasks.{text_of}

-- the index of a member of an array of tasks
abbrev pub member_text : Option ℤ → List ℕ
member_text None = []
member_text (Some index) = codes "(" ⧺ (signed_decimal index ⧺ codes ")")

-- The text of the task of that number, without the end of its line.
abbrev pub task_text : List (List ℕ) → ℕ → TaskInfo → List ℕ
task_text names t info = codes "task " ⧺ (decimal t ⧺ (codes " " ⧺ (text_of names info.name ⧺ member_text info.member)))
