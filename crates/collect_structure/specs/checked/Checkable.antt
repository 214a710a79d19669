-- What is asked of a normal form with its numbers, so that its collecting text meets the rules 13 to 23 (this project's rule).
use Rattle.std.specs.Prelude.{◌≡◌, ℕ, ◌≤◌, ◌==◌, Bool, true, false, ◌||◌, ◌++◌, length}
use Rattle.std.specs.List.{AllByRecursion, filter, list_any}
use Rattle.ada_tree.specs.Attributes.{true_name, false_name}
use Rattle.ada_tree.specs.PlainExpr.{PExpr}
use Rattle.ada_tree.specs.PlainDecl.{PEntry, PTask, PDecl, DObject}
use Rattle.ada_tree.specs.Every.{EveryExpr, EveryDecl, EveryBody}
use Rattle.ada_static_rules.specs.Refusals.{types_in}
use Rattle.syn_event.specs.Extents.{fixed}
use Rattle.syn_event.specs.CheckSites.{formal_names}
use Rattle.syn_event.specs.DeclaredTasks.{decl_list, tasks_of}
use Rattle.task_model.specs.Setting.{Setting}
use Rattle.task_laws.specs.legal.asked.Asked.{AskedBody}
use Rattle.normal_laws.specs.structure.numbers.Single.{IsSingle}
use Rattle.normal_model.specs.NormalTree.{main_unit}
use Rattle.replay_model.specs.ReplayTree.{is_task, is_body, last_task}
use Rattle.replay_structure.specs.checked.Around.{form_asks}
use Rattle.replay_structure.specs.checked.Checkable.{is_plain, HasForm, IsSameDecl, entries_count}
use Rattle.collect_model.specs.Teller.{teller_in}
use Rattle.collect_model.specs.CollectTree.{collect_of}
use Rattle.collect_structure.specs.Names.{kept_name, kept_names}

-- no object is named FALSE or TRUE
abbrev pub is_truth : ℕ → Bool
is_truth n = (n == false_name) || (n == true_name)

abbrev pub IsOtherThanTruths : PDecl → Type 0
IsOtherThanTruths (DObject ws constant shape init s) = list_any (λ w. is_truth w.name.0) ws ≡ false
IsOtherThanTruths _ = Prim.Unit {0}

-- an entry has at most 16 formals
abbrev pub HasFewFormals : PEntry → Type 0
HasFewFormals e = length (formal_names e.formals) ≤ 16

-- What is asked of a normal form.
pub record IsCheckable (g : Setting) : Type 0 where
  -- its names are kept in the text, and so are the truth values, which are no objects; and nothing is nested deeper than 100
  pub main : kept_name g.program g.program.name.name.0 ≡ true
  pub declared : AllByRecursion (EveryDecl (kept_names g.program)) (decl_list g.program.decls)
  pub named : EveryBody (kept_names g.program) 1 g.program.body
  pub truths : (n : ℕ) → is_truth n ≡ true → kept_name g.program n ≡ true
  pub untrue : AllByRecursion IsOtherThanTruths (decl_list g.program.decls)
  -- tasks stand behind all else, and bodies last; no task type is declared
  pub sorted : decl_list g.program.decls ≡ filter is_plain (decl_list g.program.decls) ++ filter is_task (decl_list g.program.decls) ++ filter is_body (decl_list g.program.decls)
  pub single : AllByRecursion IsSingle (decl_list g.program.decls)
  -- what stands in a statement itself is not too deep
  pub form : AskedBody form_asks tt 1 g.program.body
  pub forms : AllByRecursion HasForm (decl_list g.program.decls)
  -- ranges have as many values by the text's types
  pub ranges : AllByRecursion (IsSameDecl (types_in g.program) (types_in (collect_of (teller_in (main_unit g)) g.program))) (decl_list g.program.decls)
  -- expressions of these names have the same static values
  pub values : (k : ℕ) (e : PExpr) → EveryExpr (kept_names g.program) k e → fixed (types_in (collect_of (teller_in (main_unit g)) g.program)) e ≡ fixed (types_in g.program) e
  -- there is room for a task more, and for a formal more of each entry
  pub few_tasks : length (tasks_of g.program) ≤ 200
  pub few_entries : entries_count (tasks_of g.program) ≤ 1000
  pub few_numbers : last_task g.numbers ≤ 200
  pub few_formals : AllByRecursion (λ (t : PTask). AllByRecursion HasFewFormals t.entries) (tasks_of g.program)
