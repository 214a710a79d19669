-- What is asked of a normal form with its numbers, so that its collecting text meets the rules 13 to 23, where abort statements can stand (this project's rule): what is asked of it without, of the names that this text keeps and of its types, and that no task has the name of main.
use Rattle.std.specs.Prelude.{◌≡◌, ℕ, true, drop}
use Rattle.std.specs.List.{AllByRecursion}
use Rattle.ada_tree.specs.PlainExpr.{PExpr}
use Rattle.ada_tree.specs.Every.{EveryExpr, EveryDecl, EveryBody}
use Rattle.ada_static_rules.specs.Refusals.{types_in}
use Rattle.syn_event.specs.Extents.{fixed}
use Rattle.syn_event.specs.DeclaredTasks.{decl_list}
use Rattle.task_model.specs.Setting.{Setting}
use Rattle.normal_model.specs.NormalTree.{main_unit}
use Rattle.replay_structure.specs.checked.Checkable.{IsSameDecl, IsBeside}
use Rattle.collect_structure.specs.checked.Checkable.{is_truth, IsCheckable}
use Rattle.collect_model.specs.aborts.AbortTeller.{told_in}
use Rattle.collect_model.specs.aborts.AbortTree.{abort_of}
use Rattle.collect_structure.specs.aborts.Names.{kept_name}
use Rattle.collect_structure.specs.aborts.checked.Around.{kept_names}

-- What is asked of a normal form.
pub record IsAbortCheckable (g : Setting) : Type 0 where
  pub told : IsCheckable g
  -- its names are kept in the text, and so are the truth values; and nothing is nested deeper than 100
  pub main : kept_name g.program g.program.name.name.0 ≡ true
  pub declared : AllByRecursion (EveryDecl (kept_names g.program)) (decl_list g.program.decls)
  pub named : EveryBody (kept_names g.program) 1 g.program.body
  pub truths : (n : ℕ) → is_truth n ≡ true → kept_name g.program n ≡ true
  -- ranges have as many values by the text's types, and expressions of these names the same static values
  pub ranges : AllByRecursion (IsSameDecl (types_in g.program) (types_in (abort_of (told_in (main_unit g)) g.program))) (decl_list g.program.decls)
  pub values : (k : ℕ) (e : PExpr) → EveryExpr (kept_names g.program) k e →
      fixed (types_in (abort_of (told_in (main_unit g)) g.program)) e ≡ fixed (types_in g.program) e
  -- the recorder aborts no task of main's name
  pub beside : AllByRecursion (IsBeside g.program) (drop 1 g.numbers.tasks)
