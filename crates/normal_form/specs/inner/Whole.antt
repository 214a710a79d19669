-- The declarations of a normal form as one list, and how many variables have names behind its bodies.
use Rattle.std.specs.Prelude.{ℕ, max, List, [], ◌++◌, flat_map, map}
use Rattle.ada_tree.specs.PlainDecl.{PDecl}
use Rattle.syn_event.specs.DeclaredTasks.{decl_list}
use Rattle.task_model.specs.Setting.{Setting}
use Rattle.normal_model.specs.NormalTree.{bodies_of, first_decls, greatest, task_declared, tasks_beside, variables_of_body}

-- the declarations, where main has these variables
abbrev pub all_decls : Setting → List PDecl → List PDecl
all_decls g vars =
    decl_list (first_decls [] g.program.decls) ++ (vars ++ flat_map (task_declared g) (tasks_beside g) ++ flat_map (bodies_of g) (decl_list g.program.decls))

-- how many variables have names, where so many had one before
abbrev pub named_behind : Setting → ℕ → ℕ
named_behind g n = max n (greatest (map (variables_of_body g) (decl_list g.program.decls)))
