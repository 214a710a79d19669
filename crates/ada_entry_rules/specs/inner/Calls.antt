-- What is called: a task, an object of a task type, or a member of an array of tasks.
use Rattle.std.specs.Prelude.{Bool, true, false, Option, Some}
use Rattle.ada_static_rules.specs.Scope.{Thing, SingleTask, TaskObject, TaskArray}

-- the entry of a call is looked up behind these
abbrev pub has_entries : Option Thing → Bool
has_entries (Some (SingleTask entries)) = true
has_entries (Some (TaskObject entries)) = true
has_entries (Some (TaskArray range entries)) = true
has_entries _ = false
