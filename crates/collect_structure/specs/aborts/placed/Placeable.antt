-- What well-placedness of a text with abort statements hangs on (this project's rule): what that of a text without does, and that a selective wait has a branch.
use Rattle.std.specs.Prelude.{◌≤◌}
use Rattle.std.specs.List.{AllByRecursion}
use Rattle.ada_tree.specs.PlainDecl.{PDecl, DTaskBody}
use Rattle.syn_event.specs.DeclaredTasks.{decl_list}
use Rattle.task_model.specs.Setting.{Setting}
use Rattle.task_laws.specs.legal.asked.Asked.{Asks, AskedBody}
use Rattle.task_laws.specs.legal.asked.Kinds.{no_asks}
use Rattle.collect_structure.specs.placed.Placeable.{IsCollectPlaceable}
use Rattle.collect_structure.specs.aborts.asked.Pieces.{branches_count}

-- What is asked of waits alone: one has an alternative other than terminate, or an else part.
abbrev pub branch_asks : Asks (Prim.Unit {0})
branch_asks = record no_asks { wait = λ c k x others s. 1 ≤ branches_count x others }

-- the statements of a body are so
abbrev pub BranchesDecl : PDecl → Type 0
BranchesDecl (DTaskBody w objects its s) = AskedBody branch_asks tt 1 its
BranchesDecl _ = Prim.Unit {0}

-- What is asked of a normal form with its numbers and the program's types.
pub record IsAbortPlaceable (g : Setting) : Type 0 where
  pub told : IsCollectPlaceable g
  pub main : AskedBody branch_asks tt 1 g.program.body
  pub decls : AllByRecursion BranchesDecl (decl_list g.program.decls)
