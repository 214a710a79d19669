-- The names of a normal form that are old in its replay text (this project's rule).
use Rattle.std.specs.Prelude.{ℕ, Bool, not, ◌&&◌, nat_lt, List, ◌++◌, length, flat_map}
use Rattle.std.specs.List.{list_any}
use Rattle.std.specs.Str.{bytes_eq}
use Rattle.ada_tree.specs.PlainProgram.{PProgram}
use Rattle.syn_event.specs.DeclaredTasks.{text_of, tasks_of}
use Rattle.replay_model.specs.Names.{double_texts}
use Rattle.replay_structure.specs.declares_once.Names.{declared_texts}

-- the texts to which a replay text gives a meaning, but for those of the entries of the two tasks
abbrev pub new_texts : PProgram → List (List ℕ)
new_texts q = declared_texts ++ flat_map (double_texts q.names) (tasks_of q)

-- The id of a name of the normal form that has none of these texts.
abbrev pub old_name : PProgram → ℕ → Bool
old_name q n = nat_lt n (length q.names) && not (list_any (bytes_eq (text_of q.names record { 0 = n })) (new_texts q))
